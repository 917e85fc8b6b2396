-- The ELF file of a program that calls the heap: docs/made-programs.md, "The file". Fields stand in the order of
-- the System V ABI.
use Rattle.std.specs.Prelude.{ℕ, ◌+◌, ◌*◌, List, [], ◌∷◌, ◌++◌, length, replicate, codes}
use Rattle.std.specs.Int.{Width, w16, w32, to_le_bytes}
use Rattle.infinite_heap.specs.declared.instr.Instr.TheVariants.{System}
use Rattle.infinite_heap.specs.declared.instr.Op.TheVariants as op
use Rattle.rv_decode.specs.Word.{word_of}

-- numbers of one width, each with its lowest byte first
unfoldable pub numbers : Width → List ℕ → List ℕ
numbers w [] = []
numbers w (n ∷ ns) = to_le_bytes w n ++ numbers w ns

-- e_ident; e_type, e_machine; e_version, e_entry, e_phoff, e_shoff, e_flags; e_ehsize, e_phentsize, e_phnum,
-- e_shentsize, e_shnum, e_shstrndx
unfoldable pub header : ℕ → List ℕ
header sections =
    (0x7f ∷ 0x45 ∷ 0x4c ∷ 0x46 ∷ 1 ∷ 1 ∷ 1 ∷ 0 ∷ 0 ∷ 0 ∷ 0 ∷ 0 ∷ 0 ∷ 0 ∷ 0 ∷ 0 ∷ [])
    ++ numbers w16 (2 ∷ 243 ∷ [])
    ++ numbers w32 (1 ∷ 0x10010 ∷ 52 ∷ sections ∷ 0 ∷ [])
    ++ numbers w16 (52 ∷ 32 ∷ 2 ∷ 40 ∷ 3 ∷ 0 ∷ [])

-- p_type, p_offset, p_vaddr, p_paddr, p_filesz, p_memsz, p_flags, p_align of a segment
abbrev pub segment : (offset address filesz memsz flags : ℕ) → List ℕ
segment offset address filesz memsz flags =
    numbers w32 (1 ∷ offset ∷ address ∷ address ∷ filesz ∷ memsz ∷ flags ∷ 4 ∷ [])

-- st_name, st_value, st_size; st_info, st_other; st_shndx of a global function at an absolute address
abbrev pub function : (name address : ℕ) → List ℕ
function name address = numbers w32 (name ∷ address ∷ 4 ∷ []) ++ (0x12 ∷ 0 ∷ []) ++ numbers w16 (0xfff1 ∷ [])

unfoldable pub symbols : List ℕ
symbols = replicate 16 0 ++ function 1 0x10000 ++ function 8 0x10004 ++ function 13 0x10008 ++ function 20 0x1000c

unfoldable pub strings : List ℕ
strings =
    (0 ∷ []) ++ codes "malloc" ++ (0 ∷ []) ++ codes "free" ++ (0 ∷ []) ++ codes "calloc" ++ (0 ∷ [])
    ++ codes "realloc" ++ (0 ∷ [])

-- sh_name, sh_type, sh_flags, sh_addr, sh_offset, sh_size, sh_link, sh_info, sh_addralign, sh_entsize
abbrev pub section : (type offset size link info align entry : ℕ) → List ℕ
section type offset size link info align entry =
    numbers w32 (0 ∷ type ∷ 0 ∷ 0 ∷ offset ∷ size ∷ link ∷ info ∷ align ∷ entry ∷ [])

-- none, the symbols from a place on, and the strings behind them
unfoldable pub sections : ℕ → List ℕ
sections place = replicate 40 0 ++ section 2 place 80 2 1 4 16 ++ section 3 (place + 80) 28 0 0 1 0

-- the four heap functions, each an ebreak, and the program's words behind them
abbrev pub text : List ℕ → List ℕ
text words = let ebreak = word_of (System op.Ebreak) in numbers w32 (ebreak ∷ ebreak ∷ ebreak ∷ ebreak ∷ words)

-- the bytes of the text
abbrev pub text_size : List ℕ → ℕ
text_size words = 4 * (4 + length words)

unfoldable pub heaped : List ℕ → List ℕ
heaped words =
    let size = text_size words in
    let place = 116 + size in
    header (place + 108)
    ++ segment 116 0x10000 size size 5
    ++ segment 0 0x200000 0 4096 6
    ++ text words
    ++ symbols
    ++ strings
    ++ sections place
