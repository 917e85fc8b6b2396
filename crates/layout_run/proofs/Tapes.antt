-- What a guest leaves of the tape and the input, step by step.
use Rattle.std.proofs.Common.{◌≡◌, ◌<◌, ◌≤◌, ℕ, zero, suc, ◌+◌, ◌-◌, Bool, false, true, cond, List, [], ◌∷◌, length, drop, Option, None, Some, Err, IfSome, inl, inr, refl, sym, ◌∙◌, ap, subst, arith}
use Rattle.std.proofs.lemmas.Bool.{true≢false}
use Rattle.std.proofs.lemmas.List.{drop_all}
use Rattle.ex_io.specs.Tape.{Track, input, begins, InputStays, most_kept}
use Rattle.layout_run.specs.Runs.{HasAll, RefusesInput}
use Rattle.layout_run.specs.Advances.{Follows, TellsInput}
use Rattle.layout_run.specs.declared.ran.RunRefusal.{RunRefusal}
use Rattle.layout_run.specs.declared.ran.RunRefusal.TheVariants as why

pub drop-after : (n m : ℕ) (xs : List ℕ) → drop n (drop m xs) ≡ drop (m + n) xs
drop-after n zero xs = let same : n ≡ zero + n = omega arith in ap (λ k. drop k xs) same
drop-after n (suc m) [] = drop_all n [] (omega arith) ∙ sym (drop_all (suc m + n) [] (omega arith))
drop-after n (suc m) (x ∷ xs) = let same : suc (m + n) ≡ suc m + n = omega arith in drop-after n m xs ∙ ap (λ k. drop k (x ∷ xs)) same

-- ---- where what is kept begins

begins-all : (track : Track) → HasAll track → begins track ≡ 0
begins-all track (inl keep) = ap (λ b. cond b 0 track.high) keep
begins-all track (inr high) = go track.keep
  where
    go : (b : Bool) → cond b 0 track.high ≡ 0
    go true = refl
    go false = high

begins-on : (old new : Track) (left left' : Option (List ℕ)) (place' : ℕ) → Follows old new left left' place' → begins old ≤ begins new
begins-on old new left left' place' follows = subst (λ b. begins old ≤ cond b 0 new.high) (sym follows.keep) (go old.keep)
  where
    go : (b : Bool) → cond b 0 old.high ≤ cond b 0 new.high
    go true = omega arith
    go false = let high = follows.high in omega (arith, high)

-- ---- from the first step on

stays-same : (track : Track) (left : Option (List ℕ)) → InputStays track track left left
stays-same track left = go (input track left)
  where
    go : (o : Option (List ℕ)) → IfSome o (λ bytes. o ≡ Some (drop (begins track - begins track) bytes))
    go None = tt
    go (Some bytes) = let none : begins track - begins track ≡ 0 = omega arith in ap (λ n. Some (drop n bytes)) (sym none)

pub follows-start : (track : Track) (left : Option (List ℕ)) → HasAll track → track.refused ≡ false → Follows track track left left 0
follows-start track left all going = record {
  keep = refl;
  high = omega arith;
  readable = record { going = going; known = omega arith; onward = go all };
  stays = stays-same track left;
}
  where
    go : HasAll track → track.keep ≡ false → 0 ≡ track.high
    go (inl keep) other = absurd (true≢false (sym keep ∙ other))
    go (inr high) other = sym high

stays-on : (o p q : Option (List ℕ)) (m n k : ℕ) → m + n ≡ k → IfSome o (λ bytes. p ≡ Some (drop m bytes)) → IfSome p (λ bytes. q ≡ Some (drop n bytes)) → IfSome o (λ bytes. q ≡ Some (drop k bytes))
stays-on None p q m n k is one two = tt
stays-on (Some bytes) p q m n k is one two =
    let there : q ≡ Some (drop n (drop m bytes)) = subst (λ (o : Option (List ℕ)). IfSome o (λ b. q ≡ Some (drop n b))) one two in
    there ∙ ap Some (drop-after n m bytes) ∙ ap (λ j. Some (drop j bytes)) is

pub follows-on : (old mid new : Track) (left left' left'' : Option (List ℕ)) (place place' : ℕ) → Follows old mid left left' place → Follows mid new left' left'' place' → place ≤ place' → Follows old new left left'' place'
follows-on old mid new left left' left'' place place' one two onward =
    let first = begins-on old mid left left' place one in
    let then = begins-on mid new left' left'' place' two in
    let high = one.high in
    let high' = two.high in
    let sum : (begins mid - begins old) + (begins new - begins mid) ≡ begins new - begins old = omega (arith, first, then) in record {
      keep = two.keep ∙ one.keep;
      high = omega (arith, high, high', onward);
      readable = two.readable;
      stays = stays-on (input old left) (input mid left') (input new left'') (begins mid - begins old) (begins new - begins mid) (begins new - begins old) sum one.stays two.stays;
    }

-- the input is told where it was told at the start
pub told : (old new : Track) (left left' : Option (List ℕ)) (place : ℕ) (bytes : List ℕ) → HasAll old → Follows old new left left' place → input old left ≡ Some bytes → TellsInput bytes new left'
told old new left left' place bytes all follows is =
    let none = begins-all old all in
    let same : begins new - begins old ≡ begins new = omega (arith, none) in
    subst (λ (o : Option (List ℕ)). IfSome o (λ b. input new left' ≡ Some (drop (begins new - begins old) b))) is follows.stays ∙ ap (λ n. Some (drop n bytes)) same

-- a refusal of the input, said of the tape at the start
pub refuses : (T U : Type 0) (refused : RunRefusal) (old now : Track) (P Q : Type 0) → now.keep ≡ old.keep → (P → Q) → RefusesInput {T = T} (Err refused) now P → RefusesInput {T = U} (Err refused) old Q
refuses T U why.Input old now P Q same map (keep, there) = (sym same ∙ keep, map there)
refuses T U why.Memory old now P Q same map other = tt
refuses T U why.Source old now P Q same map other = tt
refuses T U why.Out old now P Q same map other = tt
refuses T U why.Err old now P Q same map other = tt
