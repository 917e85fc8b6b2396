-- How far a file keeps the rules.
use Rattle.std.specs.Prelude.{◌≡◌, ℕ, ◌+◌, ◌≤◌, ◌<◌, true, false, List, length, map, Result, Ok, Err}
use Rattle.std.specs.List.{All}
use Rattle.infinite_heap.specs.declared.program.ElfRefusal.{ElfRefusal}
use Rattle.infinite_heap.specs.ElfHeaders.{is_short, has_magic, has_class, has_kind, has_machine, has_flags, breaks_program_table, breaks_section_table, breaks_loads, is_dynamic}
use Rattle.infinite_heap.specs.ElfSegments.{segments_of, breaks_region, breaks_overlap, breaks_total, breaks_entry}
use Rattle.infinite_heap.specs.Elf.{Refuses}
use Rattle.elf_load.specs.declared.header.ProgramHeader.{ProgramHeader}
use Rattle.elf_load.specs.Headers.{segment_of}

-- the rules Short to Flags
pub record HasHead (file : List ℕ) : Type 0 where
  pub long : is_short file ≡ false
  pub magic : has_magic file ≡ true
  pub class : has_class file ≡ true
  pub kind : has_kind file ≡ true
  pub machine : has_machine file ≡ true
  pub flags : has_flags file ≡ true

-- besides, the rules Headers and Dynamic
pub record HasHeaders (file : List ℕ) : Type 0 where
  pub head : HasHead file
  pub programs : breaks_program_table file ≡ false
  pub sections : breaks_section_table file ≡ false
  pub loads : breaks_loads file ≡ false
  pub still : is_dynamic file ≡ false

-- besides, the rules Region to Entry
pub record HasSegments (file : List ℕ) : Type 0 where
  pub headers : HasHeaders file
  pub region : breaks_region file ≡ false
  pub apart : breaks_overlap file ≡ false
  pub small : breaks_total file ≡ false
  pub entered : breaks_entry file ≡ false

-- its segment has addresses, and its bytes are within the file and the segment
pub record IsLoad (file : List ℕ) (h : ProgramHeader) : Type 0 where
  pub some : 0 < h.len
  pub fits : h.held ≤ h.len
  pub inside : h.offset + h.held ≤ length file

-- the headers that give the file's segments
pub record AreLoads (file : List ℕ) (headers : List ProgramHeader) : Type 0 where
  pub each : All (IsLoad file) headers
  pub same : map (segment_of file) headers ≡ segments_of file

-- what a part of loading answers: P of what it made, or how the file is refused
abbrev pub Answers : {X : Type 0} → List ℕ → (X → Type 0) → Result X ElfRefusal → Type 0
Answers file P (Ok x) = P x
Answers file P (Err why) = Refuses file why
