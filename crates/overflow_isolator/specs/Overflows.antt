-- Overflows and underflows of objects, over several images (docs/isolation.md).
use Rattle.std.specs.Prelude.{Option, Some, None, ◌≡◌, ℕ, ◌+◌, ◌-◌, ◌<◌, ◌≤◌, ◌↔◌, IsTrue, List, map, All, Contains, IsSomeAnd}
use Rattle.std.specs.List.Sorted.{IsStrictlyIncreasing}
use Rattle.heap_image.specs.Snapshot.{Snapshot}
use Rattle.heap_image.specs.Agreement.{Allocation, AgreeOn, row_of}
use Rattle.heap_image.specs.Lookup.{address_of, is_broken}
use Rattle.culprits.specs.declared.found.Overflow.{Overflow}
use Rattle.culprits.specs.declared.found.Underflow.{Underflow}

-- how far past or before an object broken bytes are looked for
abbrev pub reach : ℕ
reach = 65536

-- in each image the byte so far behind the object's address is broken
abbrev pub AreBrokenPast : (images : List Snapshot) → (object distance : ℕ) → Type 0
AreBrokenPast images object distance =
    All (λ s. IsSomeAnd (row_of object s) (λ r. IsTrue (is_broken s (address_of r + distance)))) images

-- in each image the byte so far before the object's address is broken
abbrev pub AreBrokenBefore : (images : List Snapshot) → (object distance : ℕ) → Type 0
AreBrokenBefore images object distance =
    All (λ s. IsSomeAnd (row_of object s) (λ r. (distance ≤ address_of r) × IsTrue (is_broken s (address_of r - distance)))) images

-- the greatest number from one to below another of which it holds, where there is one
abbrev pub IsGreatestBelow : (P : ℕ → Type 0) → (least bound : ℕ) → Option ℕ → Type 0
IsGreatestBelow P least bound None = (d : ℕ) → least ≤ d → d < bound → ¬ P d
IsGreatestBelow P least bound (Some x) = (least ≤ x) × (x < bound) × P x × ((d : ℕ) → least ≤ d → d < bound → P d → d ≤ x)

pub record IsOverflow (images : List Snapshot) (object distance : ℕ) : Type 0 where
  pub allocation : Allocation
  pub agreed : AgreeOn images object allocation
  pub past : allocation.size ≤ distance
  pub near : distance < allocation.size + reach
  pub broken : AreBrokenPast images object distance

pub record IsUnderflow (images : List Snapshot) (object distance : ℕ) : Type 0 where
  pub allocation : Allocation
  pub agreed : AgreeOn images object allocation
  pub before : 1 ≤ distance
  pub near : distance ≤ reach
  pub broken : AreBrokenBefore images object distance

-- the object's greatest overflow, with what the images agree on
pub record IsGreatestOverflow (images : List Snapshot) (f : Overflow) : Type 0 where
  pub allocation : Allocation
  pub agreed : AgreeOn images f.object allocation
  pub site : f.site ≡ allocation.site
  pub size : f.size ≡ allocation.size
  pub distance : ℕ
  pub extent : f.extent ≡ distance + 1
  pub holds : IsOverflow images f.object distance
  pub greatest : (other : ℕ) → IsOverflow images f.object other → other ≤ distance

pub record IsGreatestUnderflow (images : List Snapshot) (f : Underflow) : Type 0 where
  pub allocation : Allocation
  pub agreed : AgreeOn images f.object allocation
  pub site : f.site ≡ allocation.site
  pub holds : IsUnderflow images f.object f.extent
  pub greatest : (other : ℕ) → IsUnderflow images f.object other → other ≤ f.extent

-- all of them and nothing else, by rising object
pub record AreOverflowsOf (images : List Snapshot) (found : List Overflow) : Type 0 where
  pub rising : IsStrictlyIncreasing (map (λ f. f.object) found)
  pub members : (f : Overflow) → Contains found f ↔ IsGreatestOverflow images f

pub record AreUnderflowsOf (images : List Snapshot) (found : List Underflow) : Type 0 where
  pub rising : IsStrictlyIncreasing (map (λ f. f.object) found)
  pub members : (f : Underflow) → Contains found f ↔ IsGreatestUnderflow images f
