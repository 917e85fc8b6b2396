-- The program of a file: docs/elf.md.
use Rattle.std.specs.Prelude.{◌≡◌, ℕ, ◌+◌, ◌*◌, ◌%◌, ◌^◌, ◌||◌, not, List, fold, Result, Ok, Err, if◌then◌else◌}
use Rattle.infinite_heap.specs.declared.program.ElfRefusal.{ElfRefusal}
use Rattle.infinite_heap.specs.declared.program.ElfRefusal.TheVariants.{Short, Magic, Class, Kind, Machine, Flags, Headers, Dynamic, Region, Overlap, Total, Entry, Symbols, Memory}
use Rattle.infinite_heap.specs.declared.program.Program.{Program}
use Rattle.infinite_heap.specs.ElfFields.{e_entry}
use Rattle.infinite_heap.specs.ElfHeaders.{is_short, has_magic, has_class, has_kind, has_machine, has_flags, breaks_program_table, breaks_section_table, breaks_loads, is_dynamic}
use Rattle.infinite_heap.specs.ElfSegments.{segments_of, breaks_region, breaks_overlap, breaks_total, breaks_entry}
use Rattle.infinite_heap.specs.ElfSymbols.{breaks_symbols, names_of}
use Rattle.infinite_heap.specs.Overlap.{by_address}

-- the tag of a file
unfoldable pub tag_of : List ℕ → ℕ
tag_of file = fold (λ tag byte. (tag * 33 + byte) % 2 ^ 64) 5381 file

abbrev pub program : List ℕ → Program
program file = record { segments = by_address (segments_of file); entry = e_entry file; names = names_of file; tag = tag_of file }

-- the program of a file, or the first rule that it breaks
unfoldable pub program_of : List ℕ → Result Program ElfRefusal
program_of file =
    if is_short file then Err Short
    else (if not (has_magic file) then Err Magic
    else (if not (has_class file) then Err Class
    else (if not (has_kind file) then Err Kind
    else (if not (has_machine file) then Err Machine
    else (if not (has_flags file) then Err Flags
    else (if breaks_program_table file || (breaks_section_table file || breaks_loads file) then Err Headers
    else (if is_dynamic file then Err Dynamic
    else (if breaks_region file then Err Region
    else (if breaks_overlap file then Err Overlap
    else (if breaks_total file then Err Total
    else (if breaks_entry file then Err Entry
    else (if breaks_symbols file then Err Symbols
    else Ok (program file)))))))))))))

-- the file is refused so; want of memory tells nothing of it
abbrev pub Refuses : List ℕ → ElfRefusal → Type 0
Refuses file Memory = Unit {0}
Refuses file why = program_of file ≡ Err why

-- what loading a file may answer
abbrev pub Loads : List ℕ → Result Program ElfRefusal → Type 0
Loads file (Ok p) = program_of file ≡ Ok p
Loads file (Err why) = Refuses file why
