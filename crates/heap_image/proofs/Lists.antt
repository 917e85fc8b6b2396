-- Lists whose items each keep a predicate.
use Rattle.std.proofs.Common.{◌≡◌, ℕ, zero, suc, refl, subst, Bool, true, ◌&&◌, List, [], ◌∷◌, ◌++◌, Some}
use Rattle.std.specs.List.{AllByRecursion, list_all, slice_get}

pub both_true : {a b : Bool} → a ≡ true → b ≡ true → (a && b) ≡ true
both_true e f = cc

pub each_implies : {X : Type 0} (P Q : X → Type 0) → ((x : X) → P x → Q x) → (xs : List X) → AllByRecursion P xs → AllByRecursion Q xs
each_implies P Q step [] all = tt
each_implies P Q step (x ∷ xs) all = (step x all.0, each_implies P Q step xs all.1)

pub each_push : {X : Type 0} (P : X → Type 0) (xs : List X) (y : X) → AllByRecursion P xs → P y → AllByRecursion P (xs ++ y ∷ [])
each_push P [] y all last = (last, tt)
each_push P (x ∷ xs) y all last = (all.0, each_push P xs y all.1 last)

pub each_passes : {X : Type 0} (P : X → Type 0) (test : X → Bool) → ((x : X) → P x → test x ≡ true) → (xs : List X) → AllByRecursion P xs → list_all test xs ≡ true
each_passes P test step [] all = refl
each_passes P test step (x ∷ xs) all = both_true (step x all.0) (each_passes P test step xs all.1)

pub each_found : {X : Type 0} (P : X → Type 0) (xs : List X) (i : ℕ) (y : X) → AllByRecursion P xs → slice_get xs i ≡ Some y → P y
each_found P [] i y all e = absurd (cc)
each_found P (x ∷ xs) zero y all e = let q : x ≡ y = cc in subst P q all.0
each_found P (x ∷ xs) (suc i) y all e = each_found P xs i y all.1 e
