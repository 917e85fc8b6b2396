-- What is left of the input behind a run that keeps none of it.
use Rattle.std.proofs.Common.{◌≡◌, ℕ, ◌-◌, true, false, cond, max, List, [], ◌∷◌, ◌++◌, length, drop, Option, None, Some, Result, Ok, Err, IfOk, IfSome, refl, sym, ◌∙◌, ap, subst, arith}
use Rattle.std.proofs.Math.Seq.{drop-append_seam}
use Rattle.std.specs.Io.KnownBytes.{prepend_known}
use Rattle.ex_io.specs.Tape.{HasAnswered, InputStays, Track, begins, input, new_tape}
use Rattle.ex_io.specs.declared.tape.TapeFault.{TapeFault}

-- ---- a new tape

abbrev as_result : Track → Result Track TapeFault
as_result track = Ok track

pub made : (track other : Track) → as_result track ≡ as_result other → track ≡ other
made track other is = cc

-- the input is what the source has
pub from-start : (left left' : Option (List ℕ)) (track : Track) (P : List ℕ → Type 0) → track ≡ new_tape false → left' ≡ left → IfSome (input track left') P → IfSome left P
from-start left left' track P new same told = told-by left (subst (λ (l : Option (List ℕ)). IfSome (input (new_tape false) l) P) same (subst (λ (t : Track). IfSome (input t left') P) new told))
  where
    told-by : (l : Option (List ℕ)) → IfSome (input (new_tape false) l) P → IfSome l P
    told-by None t = tt
    told-by (Some bytes) t = t

-- ---- at the end

nothing-kept : (track : Track) → track.keep ≡ false → HasAnswered (length track.kept) track.high track.keep track.refused → track.kept ≡ []
nothing-kept track keep answered = empty track.kept (rw keep at answered)
  where
    empty : (bytes : List ℕ) → length bytes ≡ 0 → bytes ≡ []
    empty [] none = refl
    empty (b ∷ bytes) none = absurd (omega (arith, none))

as-left : (left : Option (List ℕ)) (bytes : List ℕ) → prepend_known [] left ≡ Some bytes → left ≡ Some bytes
as-left None bytes is = cc
as-left (Some rest) bytes is = is

pub left-at : (old new : Track) (left left' : Option (List ℕ)) (bytes : List ℕ) (place : ℕ) → old.keep ≡ false → old.high ≡ 0 → new.keep ≡ old.keep → HasAnswered (length new.kept) new.high new.keep new.refused → new.high ≡ max old.high place
    → InputStays old new left left' → input old left ≡ Some bytes → left' ≡ Some (drop place bytes)
left-at old new left left' bytes place keep begun same answered high stays is =
    let keep' : new.keep ≡ false = same ∙ keep in
    let first : begins old ≡ old.high = ap (λ b. cond b 0 old.high) keep in
    let then : begins new ≡ new.high = ap (λ b. cond b 0 new.high) keep' in
    let count : begins new - begins old ≡ place = omega (arith, first, then, begun, high) in
    let rest : input new left' ≡ Some (drop (begins new - begins old) bytes) = subst (λ (o : Option (List ℕ)). IfSome o (λ b. input new left' ≡ Some (drop (begins new - begins old) b))) is stays in
    let none : prepend_known [] left' ≡ input new left' = ap (λ (kept : List ℕ). prepend_known kept left') (sym (nothing-kept new keep' answered)) in
    as-left left' (drop place bytes) (none ∙ rest ∙ ap (λ n. Some (drop n bytes)) count)

-- the same where all that was read is kept
pub left-kept : (track : Track) (left : Option (List ℕ)) (bytes : List ℕ) → track.keep ≡ true → track.refused ≡ false → HasAnswered (length track.kept) track.high track.keep track.refused → input track left ≡ Some bytes → left ≡ Some (drop track.high bytes)
left-kept track None bytes keep going answered is = cc
left-kept track (Some rest) bytes keep going answered is =
    let all : track.kept ++ rest ≡ bytes = cc in
    let answered' : HasAnswered (length track.kept) track.high true false = rw (keep, going) at answered in
    ap (λ r. Some r) (sym (drop-append_seam track.kept rest) ∙ ap (drop (length track.kept)) all) ∙ ap (λ n. Some (drop n bytes)) answered'.0

pub ok-any : {T E : Type 0} (result : Result T E) (P : Type 0) → P → IfOk result (λ value. P)
ok-any (Ok value) P holds = holds
ok-any (Err cause) P holds = tt
