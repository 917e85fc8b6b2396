-- Images that can be compared, and what they say of an object (docs/isolation.md, "Agreement").
use Rattle.std.specs.Prelude.{◌≡◌, ◌≢◌, ◌⊎◌, ℕ, ◌<◌, ◌≤◌, ◌==◌, ◌&&◌, not, Bool, List, length, Option, find, All, AllPairs, IsSomeAnd, slice_index_or}
use Rattle.exact_heap.specs.declared.row.SlotRow.{SlotRow}
use Rattle.heap_image.specs.declared.agreement.IsoRefusal.{IsoRefusal}
use Rattle.heap_image.specs.declared.agreement.IsoRefusal.TheVariants.{Few, Mixed, Memory}
use Rattle.heap_image.specs.Snapshot.{Snapshot}

-- ---- which images are compared

-- one program at one place with the same patches, under another seed
pub record AreAlike (a b : Snapshot) : Type 0 where
  pub tag : a.tag ≡ b.tag
  pub place : a.place ≡ b.place
  pub patches : a.patches ≡ b.patches
  pub seeds : a.seed ≢ b.seed

abbrev pub Differ : (a b : Snapshot) → Type 0
Differ a b = (a.tag ≢ b.tag) ⊎ ((a.place ≢ b.place) ⊎ ((a.patches ≢ b.patches) ⊎ (a.seed ≡ b.seed)))

pub record AreComparable (images : List Snapshot) : Type 0 where
  pub two : 2 ≤ length images
  pub alike : AllPairs AreAlike images

-- two of the images can't be compared
abbrev pub AreMixed : List Snapshot → Type 0
AreMixed images = (i : ℕ) × (j : ℕ) × (i < j) × (j < length images) × ((d : Snapshot) → Differ (slice_index_or images i d) (slice_index_or images j d))

-- why images weren't compared; memory ran out only where they could have been
abbrev pub IsRefused : List Snapshot → IsoRefusal → Type 0
IsRefused images Few = length images < 2
IsRefused images Mixed = (2 ≤ length images) × AreMixed images
IsRefused images Memory = AreComparable images

-- ---- what they say of an object

-- a slot's row that is of the object; a bad slot that nobody had is of none
abbrev pub is_row_of : (object : ℕ) → SlotRow → Bool
is_row_of object r = not (r.state == 4) && (r.object == object)

abbrev pub row_of : (object : ℕ) → Snapshot → Option SlotRow
row_of object s = find (is_row_of object) s.rows

-- what doesn't hang on where the object lies
pub record Allocation : Type 0 where
  pub size : ℕ
  pub front : ℕ
  pub site : ℕ
  pub free_site : ℕ
  pub freed : ℕ

abbrev pub allocation_of : SlotRow → Allocation
allocation_of r = record { size = r.size; front = r.front; site = r.site; free_site = r.free_site; freed = r.freed }

-- each image has a row of the object, and all say the same of it
abbrev pub AgreeOn : (images : List Snapshot) → (object : ℕ) → Allocation → Type 0
AgreeOn images object a = All (λ s. IsSomeAnd (row_of object s) (λ r. allocation_of r ≡ a)) images
