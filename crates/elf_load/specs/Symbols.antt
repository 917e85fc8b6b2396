-- The symbol table of a file, as loading finds it.
use Rattle.std.specs.Prelude.{◌≡◌, ℕ, ◌+◌, ◌*◌, ◌<◌, ◌≤◌, List, length}
use Rattle.infinite_heap.specs.ElfFields.{e_shoff, e_shnum}
use Rattle.infinite_heap.specs.declared.program.HeapCall.{HeapCall}
use Rattle.infinite_heap.specs.declared.program.HeapName.{HeapName}
use Rattle.elf_load.specs.declared.table.Table.{Table}

-- where there are sections, the table says where they are
pub record IsSections (file : List ℕ) (t : Table) : Type 0 where
  pub inside : t.from + 40 * t.count ≤ length file
  pub from : 0 < t.count → t.from ≡ e_shoff file
  pub count : 0 < t.count → t.count ≡ e_shnum file

-- a section header stands at a place
pub record IsSection (file : List ℕ) (t : Table) (at : ℕ) : Type 0 where
  pub some : 0 < t.count
  pub inside : at + 40 ≤ length file

-- an entry of a map from addresses to heap functions
abbrev pub name_of : ℕ × HeapCall → HeapName
name_of e = record { at = e.0; call = e.1 }
