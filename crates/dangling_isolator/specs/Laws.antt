-- What images agree on that show an object as dangling (docs/isolation.md, "Dangling objects").
use Rattle.std.specs.Prelude.{◌≡◌, ◌+◌, ◌<◌, ◌↔◌, true, List, All, IsSomeAnd}
use Rattle.std.specs.List.{AllByRecursion}
use Rattle.exact_heap.specs.declared.row.SlotRow.{SlotRow}
use Rattle.heap_image.specs.Agreement.{Allocation, AgreeOn, row_of}
use Rattle.heap_image.specs.Items.{Has}
use Rattle.heap_image.specs.Lawful.{IsLawful}
use Rattle.heap_image.specs.Rules.{slot_bytes}
use Rattle.heap_image.specs.Snapshot.{Snapshot}
use Rattle.culprits.specs.declared.found.Dangling.{Dangling}
use Rattle.dangling_isolator.specs.declared.mark.Mark.{Mark}
use Rattle.dangling_isolator.specs.Danglings.{AreDanglings, IsMarked, broken_at, is_released}

-- what a mark says of its object
abbrev pub allocation_in : Mark → Allocation
allocation_in m = record { size = m.size; front = m.front; site = m.site; free_site = m.free_site; freed = m.freed }

-- the row's object was released, and the mark's byte of its slot is broken
pub record IsMarkAt (s : Snapshot) (m : Mark) (r : SlotRow) : Type 0 where
  pub released : is_released r ≡ true
  pub in_slot : m.offset < slot_bytes s.miniheaps r.addr
  pub broken : Has s.broken (broken_at (r.addr + m.offset) m.byte)

-- images share a mark exactly where they agree on its object as the mark has it, and each has the mark at
-- the object's row
abbrev pub MarksAreOfAgreedObjects : Type 0
MarksAreOfAgreedObjects = (images : List Snapshot) (m : Mark) → All IsLawful images → AllByRecursion (λ s. IsMarked s m) images ↔ (AgreeOn images m.object (allocation_in m) × All (λ s. IsSomeAnd (row_of m.object s) (IsMarkAt s m)) images)

-- a mark that images share is one of any of these alone
abbrev pub ImagesAddNoMark : Type 0
ImagesAddNoMark = (images others : List Snapshot) (m : Mark) → AllByRecursion (Has others) images → AllByRecursion (λ s. IsMarked s m) others → AllByRecursion (λ s. IsMarked s m) images

-- images have one list of what is found
abbrev pub ImagesHaveOneList : Type 0
ImagesHaveOneList = (images : List Snapshot) (a b : List Dangling) → AreDanglings images a → AreDanglings images b → a ≡ b
