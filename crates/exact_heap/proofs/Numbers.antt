-- Objects by their numbers.
use Rattle.std.proofs.Common.{◌≡◌, ℕ, zero, suc, refl, ap, List, [], ◌∷◌, ◌++◌, length, Some}
use Rattle.std.specs.Prelude.{slice_get}
use Rattle.std.specs.List.{AllByRecursion}
use Rattle.std.proofs.lemmas.Option.{same_Some}
use Rattle.exact_heap.specs.History.{Object}

-- the object of a number, between those before it and those behind it
pub record At (os : List Object) (n : ℕ) (o : Object) : Type 0 where
  pub first : List Object
  pub last : List Object
  pub parts : os ≡ first ++ o ∷ last
  pub number : n ≡ length first

pub number_splits : (os : List Object) (n : ℕ) (o : Object) → slice_get os n ≡ Some o → At os n o
number_splits [] n o e = absurd (cc)
number_splits (x ∷ os) zero o e = record { first = []; last = os; parts = ap (λ (y : Object). y ∷ os) (same_Some x o e); number = refl }
number_splits (x ∷ os) (suc n) o e = let k = number_splits os n o e in record { first = x ∷ k.first; last = k.last; parts = ap (λ (ys : List Object). x ∷ ys) k.parts; number = ap suc k.number }

pub number_of : (first : List Object) (o : Object) (last : List Object) → slice_get (first ++ o ∷ last) (length first) ≡ Some o
number_of [] o last = refl
number_of (x ∷ first) o last = number_of first o last

-- what is true of each object of a number is true of each object
pub each_from : (P : Object → Type 0) (os : List Object) → ((n : ℕ) (o : Object) → slice_get os n ≡ Some o → P o) → AllByRecursion P os
each_from P [] h = tt
each_from P (x ∷ os) h = (h 0 x refl, each_from P os (λ n o e. h (suc n) o e))
