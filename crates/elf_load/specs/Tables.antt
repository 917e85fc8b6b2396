-- Tables of a file, as loading finds them.
use Rattle.std.specs.Prelude.{◌≡◌, ℕ, ◌+◌, ◌*◌, ◌<◌, ◌≤◌, Bool, true, false, List, length, Option, Some, None}
use Rattle.infinite_heap.specs.ElfFields.{rows}
use Rattle.elf_load.specs.declared.table.Table.{Table}

-- `count` rows of `size` bytes within the file, which are those at the places
pub record IsTable (file : List ℕ) (size : ℕ) (places : List ℕ) (t : Table) : Type 0 where
  pub few : t.count < 65536
  pub inside : t.from + size * t.count ≤ length file
  pub same : rows t.from size t.count ≡ places

-- where the rule for the table is broken there is none
abbrev pub Finds : List ℕ → ℕ → List ℕ → Bool → Option Table → Type 0
Finds file size places breaks None = breaks ≡ true
Finds file size places breaks (Some t) = (breaks ≡ false) × IsTable file size places t
