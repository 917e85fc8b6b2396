-- Fields of an ELF file by their place, lowest byte first: System V ABI, "ELF Header", "Program
-- Header", "Sections" and "Symbol Table", with the ABI's names and the places of its 32-bit class.
use Rattle.std.specs.Prelude.{ℕ, zero, suc, ◌+◌, ◌*◌, List, [], ◌∷◌, take, drop, slice_index}

-- the byte at a place, and the numbers in the two and in the four bytes from it on
abbrev pub u8_at : List ℕ → ℕ → ℕ
u8_at file at = slice_index file at

unfoldable pub u16_at : List ℕ → ℕ → ℕ
u16_at file at = u8_at file at + 256 * u8_at file (at + 1)

unfoldable pub u32_at : List ℕ → ℕ → ℕ
u32_at file at = u16_at file at + 65536 * u16_at file (at + 2)

-- `size` bytes from a place on
abbrev pub bytes_at : List ℕ → ℕ → ℕ → List ℕ
bytes_at file at size = take size (drop at file)

-- the places of the rows of a table: `count` rows of `size` bytes from a place on
unfoldable pub rows : ℕ → ℕ → ℕ → List ℕ
rows at size zero = []
rows at size (suc count) = at ∷ rows (at + size) size count

-- the file's header
abbrev pub e_type : List ℕ → ℕ
e_type file = u16_at file 16

abbrev pub e_machine : List ℕ → ℕ
e_machine file = u16_at file 18

abbrev pub e_entry : List ℕ → ℕ
e_entry file = u32_at file 24

abbrev pub e_phoff : List ℕ → ℕ
e_phoff file = u32_at file 28

abbrev pub e_shoff : List ℕ → ℕ
e_shoff file = u32_at file 32

abbrev pub e_flags : List ℕ → ℕ
e_flags file = u32_at file 36

abbrev pub e_phentsize : List ℕ → ℕ
e_phentsize file = u16_at file 42

abbrev pub e_phnum : List ℕ → ℕ
e_phnum file = u16_at file 44

abbrev pub e_shentsize : List ℕ → ℕ
e_shentsize file = u16_at file 46

abbrev pub e_shnum : List ℕ → ℕ
e_shnum file = u16_at file 48

-- the program header at a place
abbrev pub p_type : List ℕ → ℕ → ℕ
p_type file at = u32_at file at

abbrev pub p_offset : List ℕ → ℕ → ℕ
p_offset file at = u32_at file (at + 4)

abbrev pub p_vaddr : List ℕ → ℕ → ℕ
p_vaddr file at = u32_at file (at + 8)

abbrev pub p_filesz : List ℕ → ℕ → ℕ
p_filesz file at = u32_at file (at + 16)

abbrev pub p_memsz : List ℕ → ℕ → ℕ
p_memsz file at = u32_at file (at + 20)

abbrev pub p_flags : List ℕ → ℕ → ℕ
p_flags file at = u32_at file (at + 24)

-- the section header at a place
abbrev pub sh_type : List ℕ → ℕ → ℕ
sh_type file at = u32_at file (at + 4)

abbrev pub sh_offset : List ℕ → ℕ → ℕ
sh_offset file at = u32_at file (at + 16)

abbrev pub sh_size : List ℕ → ℕ → ℕ
sh_size file at = u32_at file (at + 20)

abbrev pub sh_link : List ℕ → ℕ → ℕ
sh_link file at = u32_at file (at + 24)

abbrev pub sh_entsize : List ℕ → ℕ → ℕ
sh_entsize file at = u32_at file (at + 36)

-- the symbol at a place
abbrev pub st_name : List ℕ → ℕ → ℕ
st_name file at = u32_at file at

abbrev pub st_value : List ℕ → ℕ → ℕ
st_value file at = u32_at file (at + 4)

abbrev pub st_info : List ℕ → ℕ → ℕ
st_info file at = u8_at file (at + 12)

abbrev pub st_shndx : List ℕ → ℕ → ℕ
st_shndx file at = u16_at file (at + 14)
