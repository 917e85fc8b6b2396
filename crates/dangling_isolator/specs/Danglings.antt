-- Objects that were written to after they were freed (docs/isolation.md, "Dangling objects").
use Rattle.std.specs.Prelude.{◌≡◌, ℕ, ◌+◌, ◌<◌, ◌==◌, ◌||◌, true, max, Bool, List, [], ◌∷◌, map}
use Rattle.std.specs.List.{AllByRecursion}
use Rattle.std.specs.List.Sorted.{IsStrictlySortedBy}
use Rattle.std.specs.Ordering.{nat_cmp}
use Rattle.exact_heap.specs.declared.row.SlotRow.{SlotRow}
use Rattle.heap_image.specs.declared.image.Broken.{Broken}
use Rattle.heap_image.specs.Items.{Has}
use Rattle.heap_image.specs.Rules.{slot_bytes}
use Rattle.heap_image.specs.Snapshot.{Snapshot}
use Rattle.dangling_isolator.specs.declared.mark.Mark.{Mark}
use Rattle.culprits.specs.declared.found.Dangling.{Dangling}

-- the row's object was freed and released; its slot may be bad since
abbrev pub is_released : SlotRow → Bool
is_released r = (r.state == 2) || (r.state == 3)

-- a row's object with a byte of its slot, which is counted from the slot's start
abbrev pub mark_of : SlotRow → (offset byte : ℕ) → Mark
mark_of r offset byte = record { object = r.object; size = r.size; front = r.front; site = r.site; free_site = r.free_site; freed = r.freed; offset = offset; byte = byte }

abbrev pub broken_at : (addr byte : ℕ) → Broken
broken_at addr byte = record { addr = addr; byte = byte }

-- an image has a row of the object, as a released one, and the byte of its slot is broken
pub record IsMarked (s : Snapshot) (m : Mark) : Type 0 where
  pub row : SlotRow
  pub has_row : Has s.rows row
  pub released : is_released row ≡ true
  pub is_row : m ≡ mark_of row m.offset m.byte
  pub in_slot : m.offset < slot_bytes s.miniheaps row.addr
  pub broken : Has s.broken (broken_at (row.addr + m.offset) m.byte)

abbrev pub greatest_clock : List Snapshot → ℕ
greatest_clock [] = 0
greatest_clock (s ∷ ss) = max s.clock (greatest_clock ss)

abbrev pub dangling_of : (seen : ℕ) → Mark → Dangling
dangling_of seen m = record { object = m.object; site = m.site; free_site = m.free_site; freed = m.freed; seen = seen }

-- All images have a released object alike, with the same size, front, sites and freed clock, and at one
-- offset in its slot the same broken byte.
pub record IsDangling (images : List Snapshot) (d : Dangling) : Type 0 where
  pub mark : Mark
  pub in_each : AllByRecursion (λ s. IsMarked s mark) images
  pub is : d ≡ dangling_of (greatest_clock images) mark

-- exactly the dangling objects, each once, by rising number
pub record AreDanglings (images : List Snapshot) (list : List Dangling) : Type 0 where
  pub rising : IsStrictlySortedBy nat_cmp (map (λ d. d.object) list)
  pub each_is : AllByRecursion (IsDangling images) list
  pub all : (d : Dangling) → IsDangling images d → Has list d
