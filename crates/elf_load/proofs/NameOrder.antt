-- Heap functions put into a map from the last to the first are those by address.
use Rattle.std.proofs.Common.{◌≡◌, ℕ, ◌+◌, ◌-◌, ◌*◌, ◌<◌, ◌≤◌, Option, Some, None, true, false, cond, ltb, eqb, List, [], ◌∷◌, map, refl, ap, ◌∙◌, arith}
use Rattle.std.specs.List.{filter_map}
use Rattle.std.specs.Ordering.{nat_cmp, match_ordering}
use Rattle.std.specs.declared.cmp.Ordering.TheVariants.{Less, Equal, Greater}
use Rattle.std.specs.BTreeMap.{insert_entry}
use Rattle.std.proofs.lemmas.Bool.Decides.{nat_tests}
use Rattle.infinite_heap.specs.declared.program.HeapCall.{HeapCall}
use Rattle.infinite_heap.specs.ElfFields.{rows}
use Rattle.infinite_heap.specs.declared.program.HeapName.{HeapName}
use Rattle.infinite_heap.specs.ElfSymbols.{put, by_address}
use Rattle.elf_load.specs.Symbols.{name_of}
use Rattle.elf_load.proofs.Rows.{row_before, no_rows}

same_place : (k l : ℕ) → eqb k l ≡ true → l ≡ k
same_place k l e = grind (arith, nat_tests)

pub entry_put : (k : ℕ) (v : HeapCall) (es : List (ℕ × HeapCall)) → map name_of (insert_entry nat_cmp es k v) ≡ put (record { at = k; call = v }) (map name_of es)
entry_put k v [] = refl
entry_put k v (e ∷ es) =
    elim (ltb k e.0) as (λ b. map name_of (match_ordering (cond b Less (cond (eqb k e.0) Equal Greater)) ((k, v) ∷ e ∷ es) ((e.0, v) ∷ es) (e ∷ insert_entry nat_cmp es k v)) ≡ cond b (name_of (k, v) ∷ name_of e ∷ map name_of es) (cond (eqb k e.0) (name_of (k, v) ∷ map name_of es) (name_of e ∷ put (name_of (k, v)) (map name_of es)))) [
      | true ↦ refl
      | false ↦ elim (eqb k e.0) as (λ b. eqb k e.0 ≡ b → map name_of (match_ordering (cond b Equal Greater) ((k, v) ∷ e ∷ es) ((e.0, v) ∷ es) (e ∷ insert_entry nat_cmp es k v)) ≡ cond b (name_of (k, v) ∷ map name_of es) (name_of e ∷ put (name_of (k, v)) (map name_of es))) [
        | true ↦ λ q. ap (λ l. name_of (l, v) ∷ map name_of es) (same_place k e.0 q)
        | false ↦ λ q. ap (λ ns. name_of e ∷ ns) (entry_put k v es)
      ] refl
    ]

pub named_row : (h : ℕ → Option HeapName) (from left count : ℕ) (name : HeapName) (es ns : List (ℕ × HeapCall)) → 0 < left → left ≤ count → h (from + 16 * (left - 1)) ≡ Some name → ns ≡ insert_entry nat_cmp es name.at name.call
    → map name_of es ≡ by_address (filter_map h (rows (from + 16 * left) 16 (count - left)))
    → map name_of ns ≡ by_address (filter_map h (rows (from + 16 * (left - 1)) 16 (count - (left - 1))))
named_row h from left count name es ns some le e n inv = rw (row_before from left count some le, e, n) (entry_put name.at name.call es ∙ ap (put name) inv)

pub unnamed_row : (h : ℕ → Option HeapName) (from left count : ℕ) (es : List (ℕ × HeapCall)) → 0 < left → left ≤ count → h (from + 16 * (left - 1)) ≡ None
    → map name_of es ≡ by_address (filter_map h (rows (from + 16 * left) 16 (count - left)))
    → map name_of es ≡ by_address (filter_map h (rows (from + 16 * (left - 1)) 16 (count - (left - 1))))
unnamed_row h from left count es some le e inv = rw (row_before from left count some le, e) inv

pub no_names : (h : ℕ → Option HeapName) (from count : ℕ) (es : List (ℕ × HeapCall)) → es ≡ [] → map name_of es ≡ by_address (filter_map h (rows from 16 (count - count)))
no_names h from count es e = let k : count - count ≡ 0 = omega arith in rw (e, k, no_rows from 16) refl
