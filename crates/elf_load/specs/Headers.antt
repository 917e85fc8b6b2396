-- Program headers, as loading reads them.
use Rattle.std.specs.Prelude.{ℕ, ◌+◌, ◌/◌, ◌%◌, ◌==◌, ◌&&◌, ◌||◌, not, Bool, nat_lt, List}
use Rattle.infinite_heap.specs.declared.program.Segment.{Segment}
use Rattle.infinite_heap.specs.ElfFields.{bytes_at, p_type, p_offset, p_vaddr, p_filesz, p_memsz, p_flags}
use Rattle.elf_load.specs.declared.header.ProgramHeader.{ProgramHeader}

unfoldable pub header_at : List ℕ → ℕ → ProgramHeader
header_at file at = record {
  kind = p_type file at;
  offset = p_offset file at;
  from = p_vaddr file at;
  held = p_filesz file at;
  len = p_memsz file at;
  flags = p_flags file at;
}

-- the rule on loadable headers, in a file of so many bytes
abbrev pub breaks : ℕ → ProgramHeader → Bool
breaks end h = (h.kind == 1) && (nat_lt h.len h.held || nat_lt end (h.offset + h.held))

abbrev pub links : ProgramHeader → Bool
links h = (h.kind == 2) || (h.kind == 3)

abbrev pub loads : ProgramHeader → Bool
loads h = (h.kind == 1) && not (h.len == 0)

abbrev pub runs : ProgramHeader → Bool
runs h = h.flags % 2 == 1

abbrev pub segment_of : List ℕ → ProgramHeader → Segment
segment_of file h = record {
  from = h.from;
  len = h.len;
  bytes = bytes_at file h.offset h.held;
  writable = h.flags / 2 % 2 == 1;
  runs = runs h;
}
