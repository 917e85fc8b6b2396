-- What the judge keeps of the cells of objects, and which written cells that stands for: docs/infinite-run.md, "Cells".
use Rattle.std.specs.Prelude.{◌≡◌, ℕ, ◌+◌, ◌<◌, ◌++◌, get_or, ◌≤◌, length, ◌/◌, ◌%◌, ◌&&◌, Bool, nat_eq, if◌then◌else◌, List, Box}
use Rattle.std.specs.Option.{unwrap_or}
use Rattle.std.specs.declared.option.Option.{Option}
use Rattle.std.specs.declared.option.Option.TheVariants.{Some, None}
use Rattle.std.specs.Ordering.{nat_cmp, ordering_then}
use Rattle.std.specs.declared.cmp.Ordering.{Ordering}
use Rattle.std.specs.BTreeMap as tree
use Rattle.std.specs.BTreeMap.{BTreeMap}
use Rattle.std.specs.declared.alloc.Global.{Global}
use Rattle.infinite_heap.specs.declared.value.Cell.{Cell}
use Rattle.infinite_heap.specs.Memory.{Written, cell_at, get_all, is_stored, store_all, stored_count, write_all}
use Rattle.blind_judge.specs.declared.entries.Entry.{Entry}
use Rattle.blind_judge.specs.declared.heap_cells.HeapCells.{HeapCells}
use Rattle.blind_judge.specs.Entries.{cell_in}
use Rattle.blind_judge.specs.Pages.{empty_page, entry_in, page_with, newly_stored}

-- pages by their object, and then by their number
abbrev pub page_cmp : ℕ × ℕ → ℕ × ℕ → Ordering
page_cmp a b = ordering_then (nat_cmp a.0 b.0) (nat_cmp a.1 b.1)

abbrev pub Pages : Type 0
Pages = BTreeMap (ℕ × ℕ) (Box (List Entry) Global)

-- a page, an empty one where there is none yet
abbrev pub page_in : Option (Box (List Entry) Global) → List Entry
page_in None = empty_page
page_in (Some page) = page.value

-- page n of object o
abbrev pub page_at : Pages → (o n : ℕ) → List Entry
page_at pages o n = page_in (tree.get page_cmp pages (o, n))

-- the entry of an object's offset
abbrev pub entries_of : Pages → (o d : ℕ) → Entry
entries_of pages o d = entry_in (page_at pages o (d / 64)) (d % 64)

-- the entries, where page n of object o is this one
abbrev pub with_page : (ℕ → ℕ → Entry) → (o n : ℕ) → List Entry → (ℕ → ℕ → Entry)
with_page entry o n page p q = if nat_eq o p && nat_eq n (q / 64) then entry_in page (q % 64) else entry p q

-- cells were written to page n of object o from a place on, so many of them stored for the first time
pub record StoresInPage (old new : Pages) (o n at : ℕ) (marks : ℕ → Bool) (cs : List Cell) (fresh : ℕ) : Type 0 where
  pub entries : (p q : ℕ) → entries_of new p q ≡ with_page (entries_of old) o n (page_with marks (page_at old o n) at cs) p q
  pub fresh_ones : fresh ≡ newly_stored marks (page_at old o n) at cs
  pub few : fresh ≤ length cs
  pub whole : length (page_at old o n) ≡ 64

-- Entries stand for the cells that were written: whatever objects begin with, they tell each cell, and whether it was
-- stored; and the count is how many were.
pub record StandFor (entry : ℕ → ℕ → Entry) (total : ℕ) (written : List Written) : Type 0 where
  pub cells : (begins : ℕ → Cell) (o d : ℕ) → unwrap_or (cell_in (entry o d)) (begins o) ≡ cell_at begins written o d
  pub stored : (o d : ℕ) → (entry o d).stored ≡ is_stored written o d
  pub count : total ≡ stored_count written

abbrev pub AreWritten : HeapCells → List Written → Type 0
AreWritten cells written = StandFor (entries_of cells.pages) cells.count written

-- The first of the cells were stored, all but the rest.
pub record StoresFirst (old new : HeapCells) (o d : ℕ) (cs rest : List Cell) : Type 0 where
  pub done : List Cell
  pub split : cs ≡ done ++ rest
  pub kept : (written : List Written) → AreWritten old written → AreWritten new (store_all written o d done)

-- the written cells after the first so many cells of an object were copied to another
abbrev pub written_copy : (ℕ → Cell) → List Written → (from to count : ℕ) → List Written
written_copy begins written from to count = write_all (is_stored written from) written to 0 (get_all (cell_at begins written from) 0 count)

-- The first so many cells of an object were copied to another, and those from there on are as they were.
pub record CopiesFirst (old new : HeapCells) (from to : ℕ) (begins : Cell) (count : ℕ) : Type 0 where
  pub kept : (written : List Written) (first : ℕ → Cell) → AreWritten old written → first from ≡ begins → AreWritten new (written_copy first written from to count)
  pub ahead : (d : ℕ) → count ≤ d → entries_of new.pages from d ≡ entries_of old.pages from d

-- So many cells of an object from an offset on, all in one page, were copied to another.
pub record CopiesPiece (old new : HeapCells) (from to : ℕ) (begins : Cell) (d count : ℕ) : Type 0 where
  pub cells : List Cell
  pub size : length cells ≡ count
  pub each : (k : ℕ) → k < count → get_or cells k begins ≡ unwrap_or (cell_in (entries_of old.pages from (d + k))) begins
  pub marks : ℕ → Bool
  pub marked : (k : ℕ) → k < 64 → marks k ≡ (entries_of old.pages from (d + k)).stored
  pub fresh : ℕ
  pub total : new.count ≡ old.count + fresh
  pub stores : StoresInPage old.pages new.pages to (d / 64) (d % 64) marks cells fresh
