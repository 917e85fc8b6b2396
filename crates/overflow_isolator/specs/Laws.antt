-- What further images do to what is found (docs/isolation.md).
use Rattle.std.specs.Prelude.{◌≡◌, ℕ, List, All, Contains}
use Rattle.std.specs.List.{AllByRecursion}
use Rattle.culprits.specs.declared.found.Overflow.{Overflow}
use Rattle.culprits.specs.declared.found.Underflow.{Underflow}
use Rattle.culprits.specs.Isolated.{IsBefore, IsPast}
use Rattle.heap_image.specs.Agreement.{AreComparable}
use Rattle.heap_image.specs.Snapshot.{Snapshot}
use Rattle.overflow_isolator.specs.Overflows.{AreOverflowsOf, AreUnderflowsOf, IsOverflow, IsUnderflow}

-- each of these images is one of the others
abbrev pub AreAmong : (images others : List Snapshot) → Type 0
AreAmong images others = All (Contains others) images

abbrev pub ImagesAddNoOverflow : Type 0
ImagesAddNoOverflow = (images others : List Snapshot) (object distance : ℕ) → AreAmong images others → IsOverflow others object distance → IsOverflow images object distance

abbrev pub ImagesAddNoUnderflow : Type 0
ImagesAddNoUnderflow = (images others : List Snapshot) (object distance : ℕ) → AreAmong images others → IsUnderflow others object distance → IsUnderflow images object distance

-- images have one list of what is found
pub record ImagesHaveOneList : Type 0 where
  pub overflows : (images : List Snapshot) (a b : List Overflow) → AreOverflowsOf images a → AreOverflowsOf images b → a ≡ b
  pub underflows : (images : List Snapshot) (a b : List Underflow) → AreUnderflowsOf images a → AreUnderflowsOf images b → a ≡ b

-- a pad or a front reaches what is found
pub record FoundIsInReach : Type 0 where
  pub overflows : (images : List Snapshot) (found : List Overflow) → AreComparable images → AreOverflowsOf images found → AllByRecursion IsPast found
  pub underflows : (images : List Snapshot) (found : List Underflow) → AreUnderflowsOf images found → AllByRecursion IsBefore found
