-- The input that a tape keeps, from run to run.
use Rattle.std.proofs.Common.{◌≡◌, ℕ, ◌-◌, ◌≤◌, true, cond, List, [], ◌∷◌, ◌++◌, length, drop, Option, None, Some, Result, Ok, Err, IfSome, OnOk, refl, sym, ap, ◌∙◌, subst, arith}
use Rattle.std.proofs.Math.Seq.{drop-append_seam}
use Rattle.std.specs.Io.KnownBytes.{Appends, prepend_known}
use Rattle.ex_io.specs.Causes.{AppendsFront}
use Rattle.ex_io.specs.Tape.{HasAnswered, Track, InputStays, begins, input, most_kept, new_tape}
use Rattle.ex_io.specs.declared.tape.TapeFault.{TapeFault}
use Rattle.layout_run.specs.Runs.{KeepsTape, RefusesInput}
use Rattle.layout_run.specs.declared.ran.Ran.{Ran}
use Rattle.layout_run.specs.declared.ran.RunRefusal.{RunRefusal}
use Rattle.layout_run.specs.declared.ran.RunRefusal.TheVariants as why
use Rattle.iterate.specs.Parts.{InputIsSame, IsWhole}

-- ---- what is told, or isn't

pub each-some : (o : Option (List ℕ)) (P : List ℕ → Type 0) → ((bytes : List ℕ) → o ≡ Some bytes → P bytes) → IfSome o P
each-some None P h = tt
each-some (Some bytes) P h = h bytes refl

pub at-some : (o : Option (List ℕ)) (P : List ℕ → Type 0) (bytes : List ℕ) → o ≡ Some bytes → IfSome o P → P bytes
at-some o P bytes is h = subst (λ (p : Option (List ℕ)). IfSome p P) is h

right_nil : (xs : List ℕ) → xs ≡ xs ++ []
right_nil [] = refl
right_nil (x ∷ xs) = ap (λ ys. x ∷ ys) (right_nil xs)

pub front-none : (o : Option (List ℕ)) (all : List ℕ) → AppendsFront o o all
front-none None all = ([], (all, refl), tt)
front-none (Some xs) all = ([], (all, refl), right_nil xs)

pub front-all : (old new : Option (List ℕ)) (all : List ℕ) → Appends old new all → AppendsFront old new all
front-all old new all appends = (all, ([], right_nil all), appends)

-- ---- a new tape

abbrev as_result : Track → Result Track TapeFault
as_result track = Ok track

pub made : (track other : Track) → as_result track ≡ as_result other → track ≡ other
made track other is = cc

pub told : (left : Option (List ℕ)) (bytes : List ℕ) → left ≡ Some bytes → input (new_tape true) left ≡ Some bytes
told left bytes is = ap (λ (o : Option (List ℕ)). prepend_known [] o) is

pub whole-at-first : IsWhole (new_tape true)
whole-at-first = record { keep = refl; going = refl }

pub answered-whole : (track : Track) → IsWhole track → HasAnswered (length track.kept) track.high track.keep track.refused → (length track.kept ≡ track.high) × (track.high ≤ most_kept)
answered-whole track whole answered = rw (whole.keep, whole.going) at answered

-- ---- at the end

prefix-gone : (kept rest all : List ℕ) → kept ++ rest ≡ all → rest ≡ drop (length kept) all
prefix-gone kept rest all is = sym (drop-append_seam kept rest) ∙ ap (drop (length kept)) is

-- what is left is behind what is kept
pub left-behind : (track : Track) (left : Option (List ℕ)) (bytes : List ℕ) → IsWhole track → HasAnswered (length track.kept) track.high track.keep track.refused → input track left ≡ Some bytes → left ≡ Some (drop track.high bytes)
left-behind track None bytes whole answered is = cc
left-behind track (Some rest) bytes whole answered is =
    let all : track.kept ++ rest ≡ bytes = cc in
    let count : length track.kept ≡ track.high = (answered-whole track whole answered).0 in
    ap (λ r. Some r) (prefix-gone track.kept rest bytes all) ∙ ap (λ n. Some (drop n bytes)) count

-- ---- from run to run

begins-none : (track : Track) → track.keep ≡ true → begins track ≡ 0
begins-none track keep = ap (λ b. cond b 0 track.high) keep

pub same-stays : (old new : Track) (left left' : Option (List ℕ)) → IsWhole old → IsWhole new → InputStays old new left left' → InputIsSame old new left left'
same-stays old new left left' whole whole' stays =
    let a : begins old ≡ 0 = begins-none old whole.keep in
    let b : begins new ≡ 0 = begins-none new whole'.keep in
    let none : begins new - begins old ≡ 0 = omega arith in
    subst (λ n. IfSome (input old left) (λ bytes. input new left' ≡ Some (drop n bytes))) none stays

pub same-start : (track : Track) (left : Option (List ℕ)) → InputIsSame track track left left
same-start track left = each-some (input track left) (λ bytes. input track left ≡ Some bytes) (λ bytes is. is)

pub same-on : (old mid new : Track) (left left' left'' : Option (List ℕ)) → InputIsSame old mid left left' → InputIsSame mid new left' left'' → InputIsSame old new left left''
same-on old mid new left left' left'' one two =
    each-some (input old left) (λ bytes. input new left'' ≡ Some bytes) (λ bytes is.
    at-some (input mid left') (λ b. input new left'' ≡ Some b) bytes (at-some (input old left) (λ b. input mid left' ≡ Some b) bytes is one) two)

-- a refusal of the input, said of an earlier tape
pub refuses : (T U : Type 0) (refused : RunRefusal) (old now : Track) (P Q : Type 0) → IsWhole old → (P → Q) → RefusesInput {T = T} (Err refused) now P → RefusesInput {T = U} (Err refused) old Q
refuses T U why.Input old now P Q whole map (keep, there) = (whole.keep, map there)
refuses T U why.Memory old now P Q whole map other = tt
refuses T U why.Source old now P Q whole map other = tt
refuses T U why.Out old now P Q whole map other = tt
refuses T U why.Err old now P Q whole map other = tt

pub mapped : (o : Option (List ℕ)) (P Q : List ℕ → Type 0) → ((bytes : List ℕ) → o ≡ Some bytes → P bytes → Q bytes) → IfSome o P → IfSome o Q
mapped None P Q f h = tt
mapped (Some bytes) P Q f h = f bytes refl h

pub whole-after : (result : Result Ran RunRefusal) (old new : Track) (left left' : Option (List ℕ)) → IsWhole old → KeepsTape result old new left left' → OnOk result (IsWhole new)
whole-after (Ok ran) old new left left' whole k = record { keep = k.0 ∙ whole.keep; going = k.1 }
whole-after (Err refused) old new left left' whole k = tt

pub same-after : (result : Result Ran RunRefusal) (old new : Track) (left left' : Option (List ℕ)) → IsWhole old → KeepsTape result old new left left' → OnOk result (InputIsSame old new left left')
same-after (Ok ran) old new left left' whole k = same-stays old new left left' whole (record { keep = k.0 ∙ whole.keep; going = k.1 }) k.2
same-after (Err refused) old new left left' whole k = tt
