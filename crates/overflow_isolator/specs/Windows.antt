-- The bytes before an address of each image, and which of them are broken.
use Rattle.std.specs.Prelude.{IsSomeAnd, Option, Some, None, ◌≡◌, ℕ, ◌+◌, ◌-◌, ◌<◌, ◌≤◌, IsTrue, List, length, slice_index_or, All}
use Rattle.exact_heap.specs.declared.row.SlotRow.{SlotRow}
use Rattle.heap_image.specs.declared.image.Broken.{Broken}
use Rattle.heap_image.specs.Agreement.{AgreeOn, Allocation, allocation_of, row_of}
use Rattle.heap_image.specs.Lookup.{AddrsRise, address_of, is_broken}
use Rattle.heap_image.specs.Snapshot.{Snapshot}
use Rattle.overflow_isolator.specs.Overflows.{reach}
use Rattle.overflow_isolator.specs.declared.window.Window.{Window}

-- the byte so far before an address is broken
abbrev pub IsBrokenBefore : (end distance : ℕ) → Snapshot → Type 0
IsBrokenBefore end distance s = (distance ≤ end) × IsTrue (is_broken s (end - distance))

abbrev pub IsBrokenBack : (distance : ℕ) → Window → Type 0
IsBrokenBack distance w = IsBrokenBefore w.end distance w.image.now

abbrev pub AreBrokenBack : List Window → (distance : ℕ) → Type 0
AreBrokenBack windows distance = All (IsBrokenBack distance) windows

-- so far behind the address of an object's row
abbrev pub end_from : (gap : ℕ) → Option SlotRow → ℕ
end_from gap None = 0
end_from gap (Some r) = address_of r + gap

pub record IsWindowOf (object gap : ℕ) (s : Snapshot) (w : Window) : Type 0 where
  pub image : w.image.now ≡ s
  pub end : w.end ≡ end_from gap (row_of object s)

-- a window's broken bytes
pub record AreBreaksOf (w : Window) (breaks : List Broken) : Type 0 where
  pub rising : AddrsRise breaks
  pub before : (d : Broken) (i : ℕ) → i < length breaks → (slice_index_or breaks i d).addr < w.end
  pub near : (d : Broken) (i : ℕ) → i < length breaks → w.end ≤ (slice_index_or breaks i d).addr + reach
  pub all : (distance : ℕ) → 1 ≤ distance → distance ≤ reach → IsBrokenBack distance w → (i : ℕ) × (i < length breaks) × ((d : Broken) → (slice_index_or breaks i d).addr + distance ≡ w.end)

-- the least number from one to below another of which it holds, where there is one
abbrev pub IsLeastBelow : (P : ℕ → Type 0) → (least bound : ℕ) → Option ℕ → Type 0
IsLeastBelow P least bound None = (d : ℕ) → least ≤ d → d < bound → ¬ P d
IsLeastBelow P least bound (Some x) = (least ≤ x) × (x < bound) × P x × ((d : ℕ) → least ≤ d → d < bound → P d → x ≤ d)

-- no byte is broken equally far before the ends of two windows
abbrev pub AreApart : (one other : Window) → Type 0
AreApart one other = (distance : ℕ) → 1 ≤ distance → distance ≤ reach → IsBrokenBack distance one → ¬ IsBrokenBack distance other

-- an image that says the same of an object has none either, so far before the object's window
abbrev pub IsApartIn : (first : Window) (object gap : ℕ) → Allocation → Snapshot → Type 0
IsApartIn first object gap a s = IsSomeAnd (row_of object s) (λ r. allocation_of r ≡ a) → (distance : ℕ) → 1 ≤ distance → distance ≤ reach → IsBrokenBack distance first → ¬ IsBrokenBefore (end_from gap (row_of object s)) distance s

-- images that say the same of an object have no byte broken in all of them, equally far before its windows' ends
abbrev pub ShareNothing : List Snapshot → (object gap : ℕ) → Allocation → Type 0
ShareNothing images object gap a = AgreeOn images object a → (distance : ℕ) → 1 ≤ distance → distance ≤ reach → ¬ All (λ s. IsBrokenBefore (end_from gap (row_of object s)) distance s) images
