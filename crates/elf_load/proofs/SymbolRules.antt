-- The rule Symbols, and the heap functions, by what was found of a symbol table.
use Rattle.std.proofs.Common.{◌≡◌, ℕ, Bool, true, false, not, eqb, List, [], Option, Some, None, refl, sym, ap, ◌∙◌}
use Rattle.std.specs.List.{find, list_all, filter_map}
use Rattle.infinite_heap.specs.declared.program.HeapName.{HeapName}
use Rattle.infinite_heap.specs.ElfFields.{sh_type}
use Rattle.infinite_heap.specs.ElfHeaders.{section_headers}
use Rattle.infinite_heap.specs.ElfSymbols.{symbol_table, is_linked, name_ends, heap_name, strings_of, symbols_of, breaks_symbols, names_of, by_address}

pub table_is : (file places : List ℕ) (r : Option ℕ) → r ≡ find (λ at. eqb (sh_type file at) 2) places → places ≡ section_headers file → symbol_table file ≡ r
unfolding symbol_table
table_is file places r e p = sym (e ∙ ap (find (λ at. eqb (sh_type file at) 2)) p)

pub nothing_breaks : (file : List ℕ) → symbol_table file ≡ None → breaks_symbols file ≡ false
unfolding breaks_symbols
nothing_breaks file e = rw e refl

pub nothing_named : (file : List ℕ) → symbol_table file ≡ None → names_of file ≡ []
unfolding names_of
nothing_named file e = rw e refl

pub unlinked : (file : List ℕ) (table : ℕ) → symbol_table file ≡ Some table → is_linked file table ≡ false → breaks_symbols file ≡ true
unfolding breaks_symbols
unlinked file table e l = rw (e, l) refl

-- `strings` and `places` are the table's as they were found
pub ended : (file strings places : List ℕ) (table : ℕ) (b : Bool) → symbol_table file ≡ Some table → is_linked file table ≡ true → strings ≡ strings_of file table → places ≡ symbols_of file table → b ≡ list_all (name_ends file strings) places → breaks_symbols file ≡ not b
unfolding breaks_symbols
ended file strings places table b e l s p q =
    let all : list_all (name_ends file (strings_of file table)) (symbols_of file table) ≡ b = sym (q ∙ ap (λ ss. list_all (name_ends file ss) places) s ∙ ap (list_all (name_ends file (strings_of file table))) p) in
    rw (e, l, all) refl

pub named : (file strings places : List ℕ) (table : ℕ) (names : List HeapName) → symbol_table file ≡ Some table → strings ≡ strings_of file table → places ≡ symbols_of file table → names ≡ by_address (filter_map (heap_name file strings) places) → names ≡ names_of file
unfolding names_of
named file strings places table names e s p q =
    let all : names ≡ by_address (filter_map (heap_name file (strings_of file table)) (symbols_of file table)) = q ∙ ap (λ ss. by_address (filter_map (heap_name file ss) places)) s ∙ ap (λ ps. by_address (filter_map (heap_name file (strings_of file table)) ps)) p in
    rw e all
