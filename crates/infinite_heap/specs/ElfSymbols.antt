-- The symbols of a file, and the heap functions among them: docs/elf.md, the rule Symbols and "Heap
-- functions".
use Rattle.std.specs.Prelude.{ℕ, ◌+◌, ◌*◌, ◌/◌, ◌%◌, ◌==◌, ◌&&◌, ◌||◌, not, Bool, false, nat_lt, nat_eq, List, [], ◌∷◌, drop, codes, Option, Some, None, if◌then◌else◌}
use Rattle.std.specs.List.{find, list_any, list_all, filter_map, before_first}
use Rattle.std.specs.Str.{bytes_eq}
use Rattle.infinite_heap.specs.declared.program.HeapCall.{HeapCall}
use Rattle.infinite_heap.specs.declared.program.HeapCall.TheVariants.{Malloc, Free, Calloc, Realloc, Memalign, AlignedAlloc, MallocR, FreeR, CallocR, ReallocR, MemalignR}
use Rattle.infinite_heap.specs.declared.program.HeapName.{HeapName}
use Rattle.infinite_heap.specs.ElfFields.{bytes_at, rows, e_shoff, e_shnum, sh_type, sh_offset, sh_size, sh_link, sh_entsize, st_name, st_value, st_info, st_shndx}
use Rattle.infinite_heap.specs.ElfHeaders.{passes_end, section_headers}

-- the place of the first section header of a symbol table
unfoldable pub symbol_table : List ℕ → Option ℕ
symbol_table file = find (λ at. sh_type file at == 2) (section_headers file)

-- the section header that a symbol table is linked to, and the bytes of that section
abbrev pub linked : List ℕ → ℕ → ℕ
linked file table = e_shoff file + 40 * sh_link file table

abbrev pub strings_of : List ℕ → ℕ → List ℕ
strings_of file table = bytes_at file (sh_offset file (linked file table)) (sh_size file (linked file table))

-- the places of a table's symbols
abbrev pub symbols_of : List ℕ → ℕ → List ℕ
symbols_of file table = rows (sh_offset file table) 16 (sh_size file table / 16)

-- defined, and global or weak
abbrev pub is_public : List ℕ → ℕ → Bool
is_public file at = not (st_shndx file at == 0) && ((st_info file at / 16 == 1) || (st_info file at / 16 == 2))

-- a zero byte ends the name that begins at a place of the strings
abbrev pub ends : List ℕ → ℕ → Bool
ends strings start = list_any (λ b. b == 0) (drop start strings)

abbrev pub name_ends : List ℕ → List ℕ → ℕ → Bool
name_ends file strings at = not (is_public file at) || ends strings (st_name file at)

-- the section headers of a table of symbols and of its strings say where they are
unfoldable pub is_linked : List ℕ → ℕ → Bool
is_linked file table =
    (sh_entsize file table == 16) && ((sh_size file table % 16 == 0) && (not (passes_end file (sh_offset file table) (sh_size file table))
    && (nat_lt (sh_link file table) (e_shnum file) && not (passes_end file (sh_offset file (linked file table)) (sh_size file (linked file table))))))

abbrev pub is_sound : List ℕ → ℕ → Bool
is_sound file table = is_linked file table && list_all (name_ends file (strings_of file table)) (symbols_of file table)

abbrev pub breaks_table : List ℕ → Option ℕ → Bool
breaks_table file None = false
breaks_table file (Some table) = not (is_sound file table)

unfoldable pub breaks_symbols : List ℕ → Bool
breaks_symbols file = breaks_table file (symbol_table file)

-- ---- heap functions

unfoldable pub call_of : List ℕ → Option HeapCall
call_of name =
    if bytes_eq name (codes "malloc") then Some Malloc
    else (if bytes_eq name (codes "free") then Some Free
    else (if bytes_eq name (codes "calloc") then Some Calloc
    else (if bytes_eq name (codes "realloc") then Some Realloc
    else (if bytes_eq name (codes "memalign") then Some Memalign
    else (if bytes_eq name (codes "aligned_alloc") then Some AlignedAlloc
    else (if bytes_eq name (codes "_malloc_r") then Some MallocR
    else (if bytes_eq name (codes "_free_r") then Some FreeR
    else (if bytes_eq name (codes "_calloc_r") then Some CallocR
    else (if bytes_eq name (codes "_realloc_r") then Some ReallocR
    else (if bytes_eq name (codes "_memalign_r") then Some MemalignR else None))))))))))

-- the name that begins at a place of the strings, without the zero byte behind it
abbrev pub name_at : List ℕ → ℕ → List ℕ
name_at strings start = before_first (λ b. b == 0) (drop start strings)

abbrev pub heap_name_of : ℕ → Option HeapCall → Option HeapName
heap_name_of at None = None
heap_name_of at (Some call) = Some (record { at = at; call = call })

-- the heap function that a symbol names
abbrev pub heap_name : List ℕ → List ℕ → ℕ → Option HeapName
heap_name file strings at = if is_public file at then heap_name_of (st_value file at) (call_of (name_at strings (st_name file at))) else None

-- a function put before those of later addresses, in place of one of the same address
abbrev pub put : HeapName → List HeapName → List HeapName
put n [] = n ∷ []
put n (m ∷ ms) = if nat_lt n.at m.at then n ∷ m ∷ ms else (if nat_eq n.at m.at then n ∷ ms else m ∷ put n ms)

-- by address; of two at one address the first counts
abbrev pub by_address : List HeapName → List HeapName
by_address [] = []
by_address (n ∷ ns) = put n (by_address ns)

abbrev pub names_in : List ℕ → ℕ → List HeapName
names_in file table = by_address (filter_map (heap_name file (strings_of file table)) (symbols_of file table))

abbrev pub names_by : List ℕ → Option ℕ → List HeapName
names_by file None = []
names_by file (Some table) = names_in file table

unfoldable pub names_of : List ℕ → List HeapName
names_of file = names_by file (symbol_table file)
