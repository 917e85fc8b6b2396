-- What a file's headers have to say: docs/elf.md, the rules Short to Dynamic.
use Rattle.std.specs.Prelude.{ℕ, ◌+◌, ◌*◌, ◌%◌, ◌==◌, ◌&&◌, ◌||◌, not, Bool, nat_lt, List, [], length, if◌then◌else◌}
use Rattle.std.specs.List.{list_any}
use Rattle.infinite_heap.specs.ElfFields.{u8_at, rows, e_type, e_machine, e_phoff, e_shoff, e_flags, e_phentsize, e_phnum, e_shentsize, e_shnum, p_type, p_offset, p_filesz, p_memsz}

abbrev pub is_short : List ℕ → Bool
is_short file = nat_lt (length file) 52

-- the first four bytes are 7F, `E`, `L`, `F`
unfoldable pub has_magic : List ℕ → Bool
has_magic file = (u8_at file 0 == 127) && ((u8_at file 1 == 69) && ((u8_at file 2 == 76) && (u8_at file 3 == 70)))

-- 32 bits, lowest byte first, version 1
unfoldable pub has_class : List ℕ → Bool
has_class file = (u8_at file 4 == 1) && ((u8_at file 5 == 1) && (u8_at file 6 == 1))

-- an executable file
unfoldable pub has_kind : List ℕ → Bool
has_kind file = e_type file == 2

-- RISC-V
unfoldable pub has_machine : List ℕ → Bool
has_machine file = e_machine file == 243

-- no compressed instructions, no floating-point registers, not the embedded register set
unfoldable pub has_flags : List ℕ → Bool
has_flags file = e_flags file % 16 == 0

-- `size` bytes from a place on pass the end of the file
abbrev pub passes_end : List ℕ → ℕ → ℕ → Bool
passes_end file at size = nat_lt (length file) (at + size)

-- ---- program headers

unfoldable pub program_headers : List ℕ → List ℕ
program_headers file = rows (e_phoff file) 32 (e_phnum file)

unfoldable pub breaks_program_table : List ℕ → Bool
breaks_program_table file = not (e_phnum file == 0) && (not (e_phentsize file == 32) || passes_end file (e_phoff file) (32 * e_phnum file))

abbrev pub is_loadable : List ℕ → ℕ → Bool
is_loadable file at = p_type file at == 1

-- a loadable header with more bytes in the file than in memory, or bytes past the file's end
abbrev pub breaks_load : List ℕ → ℕ → Bool
breaks_load file at = is_loadable file at && (nat_lt (p_memsz file at) (p_filesz file at) || passes_end file (p_offset file at) (p_filesz file at))

-- a header for a dynamic linker or an interpreter
abbrev pub asks_linker : List ℕ → ℕ → Bool
asks_linker file at = (p_type file at == 2) || (p_type file at == 3)

unfoldable pub breaks_loads : List ℕ → Bool
breaks_loads file = list_any (breaks_load file) (program_headers file)

unfoldable pub is_dynamic : List ℕ → Bool
is_dynamic file = list_any (asks_linker file) (program_headers file)

-- ---- section headers

abbrev pub has_sections : List ℕ → Bool
has_sections file = not (e_shoff file == 0) && not (e_shnum file == 0)

unfoldable pub section_headers : List ℕ → List ℕ
section_headers file = if has_sections file then rows (e_shoff file) 40 (e_shnum file) else []

unfoldable pub breaks_section_table : List ℕ → Bool
breaks_section_table file = has_sections file && (not (e_shentsize file == 40) || passes_end file (e_shoff file) (40 * e_shnum file))
