-- Entries go on standing for the written cells as cells are written.
use Rattle.std.proofs.Common.{◌≡◌, ℕ, suc, ◌+◌, ◌*◌, ◌/◌, ◌%◌, ◌^◌, ◌<◌, ◌≤◌, Bool, true, false, cond, not, ◌&&◌, ◌||◌, eqb, List, [], ◌∷◌, length, Some, refl, sym, ap, subst, ◌∙◌, arith, rules, eq-eqb, ne_eqb, ⊎_elim, length-set, length-append, append_assoc, get_or-set_same, get_or-set_other}
use Rattle.std.specs.Prelude.{slice_set, ◌++◌}
use Rattle.std.specs.Option.{unwrap_or}
use Rattle.std.proofs.lemmas.Bool.{cases_eq}
use Rattle.infinite_heap.specs.declared.value.Cell.{Cell}
use Rattle.infinite_heap.specs.declared.value.Cell.TheVariants as cell
use Rattle.infinite_heap.specs.Memory.{Written, cell_at, is_stored, store_all, write_all, next}
use Rattle.blind_judge.specs.declared.entries.Entry.{Entry}
use Rattle.blind_judge.specs.declared.heap_cells.HeapCells.{HeapCells}
use Rattle.blind_judge.specs.Entries.{cell_in, no_entry, entry_of}
use Rattle.blind_judge.specs.Pages.{entry_in, page_with, newly_stored}
use Rattle.blind_judge.specs.HeapCells.{AreWritten, Pages, StandFor, StoresFirst, StoresInPage, entries_of, page_at, with_page}
use Rattle.blind_judge.proofs.PageTree.{same_page}

-- the entries after one cell was written
abbrev pub put_entry : (ℕ → ℕ → Entry) → (o d : ℕ) → Cell → Bool → ℕ → ℕ → Entry
put_entry e o d c stored o' d' = cond (eqb o o' && eqb d d') (entry_of c (stored || (e o d).stored)) (e o' d')

pub cell_of_entry : (c : Cell) (m : Bool) → cell_in (entry_of c m) ≡ Some c
cell_of_entry (cell.Byte b) m = refl
cell_of_entry (cell.Part o d nth) m = refl
cell_of_entry cell.Unset m = refl

pub stored_of_entry : (c : Cell) (m : Bool) → (entry_of c m).stored ≡ m
stored_of_entry (cell.Byte b) m = refl
stored_of_entry (cell.Part o d nth) m = refl
stored_of_entry cell.Unset m = refl

-- the cell, the mark and the count, where one cell is written
one_cell : (o d p q : ℕ) (c : Cell) (m : Bool) (old : Entry) (first was : Cell) → unwrap_or (cell_in old) first ≡ was
    → unwrap_or (cell_in (cond (eqb o p && eqb d q) (entry_of c m) old)) first ≡ cond (eqb o p && eqb d q) c was
one_cell o d p q c m old first was h =
    elim (eqb o p && eqb d q) as (λ b. unwrap_or (cell_in (cond b (entry_of c m) old)) first ≡ cond b c was) [
      | true ↦ ap (λ x. unwrap_or x first) (cell_of_entry c m)
      | false ↦ h
    ]

one_mark : (b : Bool) (c : Cell) (m here : Bool) (old : Entry) → (b ≡ true → old.stored ≡ here)
    → (cond b (entry_of c (m || here)) old).stored ≡ ((m && b) || old.stored)
one_mark true c true here old h = stored_of_entry c true
one_mark true c false here old h = stored_of_entry c here ∙ sym (h refl)
one_mark false c true here old h = refl
one_mark false c false here old h = refl

one_count : (m here : Bool) (n : ℕ) → (n + cond (m && not here) 1 0) ≡ cond (m && not here) (suc n) n
one_count true true n = omega arith
one_count true false n = omega arith
one_count false here n = omega arith

same_place : (o d p q : ℕ) → (eqb o p && eqb d q) ≡ true → (o ≡ p) × (d ≡ q)
same_place o d p q h = search (arith, rules)

pub written_one : (e e' : ℕ → ℕ → Entry) (n : ℕ) (ws : List Written) (o d : ℕ) (c : Cell) (m : Bool)
    → StandFor e n ws → ((p q : ℕ) → e' p q ≡ put_entry e o d c m p q)
    → StandFor e' (n + cond (m && not (e o d).stored) 1 0) (record { object = o; offset = d; cell = c; stored = m } ∷ ws)
written_one e e' n ws o d c m h put = record {
  cells = λ begins p q. ap (λ x. unwrap_or (cell_in x) (begins p)) (put p q) ∙ one_cell o d p q c (m || (e o d).stored) (e p q) (begins p) (cell_at begins ws p q) (h.cells begins p q);
  stored = λ p q.
      ap (λ (x : Entry). x.stored) (put p q)
      ∙ one_mark (eqb o p && eqb d q) c m (e o d).stored (e p q) (λ t. let (a, b) = same_place o d p q t in cc)
      ∙ ap (λ x. (m && (eqb o p && eqb d q)) || x) (h.stored p q);
  count =
      one_count m (e o d).stored n
      ∙ ap (λ x. cond (m && not x) (suc n) n) (h.stored o d)
      ∙ ap (λ x. cond (m && not (is_stored ws o d)) (suc x) x) h.count;
}

pub same_entries : (e e' : ℕ → ℕ → Entry) (n : ℕ) (ws : List Written) → ((p q : ℕ) → e' p q ≡ e p q) → StandFor e n ws → StandFor e' n ws
same_entries e e' n ws same h = record {
  cells = λ begins p q. ap (λ x. unwrap_or (cell_in x) (begins p)) (same p q) ∙ h.cells begins p q;
  stored = λ p q. ap (λ (x : Entry). x.stored) (same p q) ∙ h.stored p q;
  count = h.count;
}

-- ---- a page of entries

-- the place of a page's entry
in_page : (n at q : ℕ) → at < 64 → (eqb (64 * n + at) q ≡ (eqb n (q / 64) && eqb at (q % 64)))
in_page n at q small = search (arith, rules)

page_entry : (e : ℕ → ℕ → Entry) (o n : ℕ) (page : List Entry) (at : ℕ) → at < 64 → with_page e o n page o (64 * n + at) ≡ entry_in page at
page_entry e o n page at small =
    let a : (64 * n + at) / 64 ≡ n = omega arith in
    let b : (64 * n + at) % 64 ≡ at = omega arith in
    rw (a, b, eq-eqb o o refl, eq-eqb n n refl) refl

pub set_entry : (page : List Entry) (at q : ℕ) (x : Entry) → at < length page → entry_in (slice_set page at x) q ≡ cond (eqb at q) x (entry_in page q)
set_entry page at q x within =
    ⊎_elim
    (λ (same : q ≡ at). let t : eqb at q ≡ true = eq-eqb at q (sym same) in rw (t, same) (get_or-set_same page at x no_entry within))
    (λ (other : q ≡ at → ⊥). let t : eqb at q ≡ false = ne_eqb at q (λ s. other (sym s)) in rw t (get_or-set_other page at q x no_entry other))
    (cases_eq q at)

put_cases : (a b c : Bool) (x y z : Entry) → cond (a && b) (cond c x y) z ≡ cond (a && (b && c)) x (cond (a && b) y z)
put_cases true true c x y z = refl
put_cases true false c x y z = refl
put_cases false b c x y z = refl

-- one entry of the page changed is one entry of all changed
put_in_page : (e : ℕ → ℕ → Entry) (o n : ℕ) (page : List Entry) (at : ℕ) (c : Cell) (m : Bool) (p q : ℕ) → at < length page → length page ≡ 64
    → with_page e o n (slice_set page at (entry_of c (m || (entry_in page at).stored))) p q ≡ put_entry (with_page e o n page) o (64 * n + at) c m p q
put_in_page e o n page at c m p q within size =
    let small : at < 64 = omega arith in
    let x : Entry = entry_of c (m || (entry_in page at).stored) in
    ap (λ y. cond (eqb o p && eqb n (q / 64)) y (e p q)) (set_entry page at (q % 64) x within)
    ∙ put_cases (eqb o p) (eqb n (q / 64)) (eqb at (q % 64)) x (entry_in page (q % 64)) (e p q)
    ∙ ap (λ b. cond (eqb o p && b) x (with_page e o n page p q)) (sym (in_page n at q small))
    ∙ ap (λ (y : Entry). cond (eqb o p && eqb (64 * n + at) q) (entry_of c (m || y.stored)) (with_page e o n page p q)) (sym (page_entry e o n page at small))

add_assoc : (a b c : ℕ) → (a + b) + c ≡ a + (b + c)
add_assoc a b c = omega arith

-- cells written to a page from a place on are cells written to the object
pub written_page : (cs : List Cell) (e : ℕ → ℕ → Entry) (o n : ℕ) (page : List Entry) (marks m : ℕ → Bool) (at d total : ℕ) (ws : List Written)
    → length page ≡ 64 → at + length cs ≤ 64 → n < 2 ^ 26 → (0 < length cs → d ≡ 64 * n + at) → ((i : ℕ) → i < 64 → marks i ≡ m (64 * n + i))
    → StandFor (with_page e o n page) total ws
    → StandFor (with_page e o n (page_with marks page at cs)) (total + newly_stored marks page at cs) (write_all m ws o d cs)
written_page [] e o n page marks m at d total ws size fits low place marked h = subst (λ t. StandFor (with_page e o n page) t ws) (omega arith) h
written_page (c ∷ cs) e o n page marks m at d total ws size fits low place marked h =
    let here : d ≡ 64 * n + at = place (omega arith) in
    let within : at < length page = omega arith in
    let mark : Bool = marks at in
    let page' : List Entry = slice_set page at (entry_of c (mark || (entry_in page at).stored)) in
    let fresh : ℕ = cond (mark && not (entry_in page at).stored) 1 0 in
    let one : StandFor (with_page e o n page') (total + cond (mark && not (with_page e o n page o (64 * n + at)).stored) 1 0) (record { object = o; offset = 64 * n + at; cell = c; stored = mark } ∷ ws) =
    written_one (with_page e o n page) (with_page e o n page') total ws o (64 * n + at) c mark h (λ p q. put_in_page e o n page at c mark p q within size) in
    let counted : cond (mark && not (with_page e o n page o (64 * n + at)).stored) 1 0 ≡ fresh =
    ap (λ (x : Entry). cond (mark && not x.stored) 1 0) (page_entry e o n page at (omega arith)) in
    let size' : length page' ≡ 64 = length-set page at (entry_of c (mark || (entry_in page at).stored)) ∙ size in
    let same : mark ≡ m d = marked at (omega arith) ∙ ap m (sym here) in
    let one' : StandFor (with_page e o n page') (total + fresh) (record { object = o; offset = d; cell = c; stored = m d } ∷ ws) =
    subst (λ z. StandFor (with_page e o n page') (total + fresh) (record { object = o; offset = d; cell = c; stored = z } ∷ ws)) same
    (subst (λ z. StandFor (with_page e o n page') (total + fresh) (record { object = o; offset = z; cell = c; stored = mark } ∷ ws)) (sym here)
    (subst (λ z. StandFor (with_page e o n page') (total + z) (record { object = o; offset = 64 * n + at; cell = c; stored = mark } ∷ ws)) counted one)) in
    let fits' : (at + 1) + length cs ≤ 64 = omega arith in
    let place' : 0 < length cs → next d ≡ 64 * n + (at + 1) = λ some. omega arith in
    let rest = written_page cs e o n page' marks m (at + 1) (next d) (total + fresh) (record { object = o; offset = d; cell = c; stored = m d } ∷ ws) size' fits' low place' marked one' in
    subst (λ t. StandFor (with_page e o n (page_with marks page' (at + 1) cs)) t (write_all m ws o d (c ∷ cs))) (add_assoc total fresh (newly_stored marks page' (at + 1) cs)) rest

-- what is written to one page of the tree is written to the object
pub written_in_page : (old new : Pages) (o d : ℕ) (marks m : ℕ → Bool) (cs : List Cell) (fresh total : ℕ) (ws : List Written)
    → d < 2 ^ 32 → d % 64 + length cs ≤ 64 → ((i : ℕ) → i < 64 → marks i ≡ m (64 * (d / 64) + i)) → StoresInPage old new o (d / 64) (d % 64) marks cs fresh
    → StandFor (entries_of old) total ws → StandFor (entries_of new) (total + fresh) (write_all m ws o d cs)
written_in_page old new o d marks m cs fresh total ws small fits marked stores h =
    let page : List Entry = page_at old o (d / 64) in
    let before = same_entries (entries_of old) (with_page (entries_of old) o (d / 64) page) total ws (λ p q. same_page old o (d / 64) p q) h in
    let place : 0 < length cs → d ≡ 64 * (d / 64) + d % 64 = λ some. omega arith in
    let low : d / 64 < 2 ^ 26 = omega arith in
    let after = written_page cs (entries_of old) o (d / 64) page marks m (d % 64) d total ws stores.whole fits low place marked before in
    same_entries (with_page (entries_of old) o (d / 64) (page_with marks page (d % 64) cs)) (entries_of new) (total + fresh) (write_all m ws o d cs) stores.entries
    (subst (λ t. StandFor (with_page (entries_of old) o (d / 64) (page_with marks page (d % 64) cs)) (total + t) (write_all m ws o d cs)) (sym stores.fresh_ones) after)

-- ---- cells stored in pieces

pub write_append : (m : ℕ → Bool) (xs bs : List Cell) (ws : List Written) (o d : ℕ) → d < 2 ^ 32
    → write_all m ws o d (xs ++ bs) ≡ write_all m (write_all m ws o d xs) o ((d + length xs) % 2 ^ 32) bs
write_append m [] bs ws o d small = ap (λ x. write_all m ws o x bs) (omega arith)
write_append m (c ∷ cs) bs ws o d small =
    write_append m cs bs (record { object = o; offset = d; cell = c; stored = m d } ∷ ws) o (next d) (omega arith)
    ∙ ap (λ x. write_all m (write_all m (record { object = o; offset = d; cell = c; stored = m d } ∷ ws) o (next d) cs) o x bs) (omega arith)

pub place_after : (d done piece all at : ℕ) → at ≡ (d + done) % 2 ^ 32 → all ≡ done + piece → (at + piece) % 2 ^ 32 ≡ (d + all) % 2 ^ 32
place_after d done piece all at place whole = omega arith

-- one more piece is stored, of so many cells
pub stored_more : (old now new : HeapCells) (o d at count : ℕ) (cs rest piece others : List Cell)
    → d < 2 ^ 32 → (first : StoresFirst old now o d cs rest) → at ≡ (d + length first.done) % 2 ^ 32 → rest ≡ piece ++ others → length piece ≡ count
    → ((written : List Written) → AreWritten now written → AreWritten new (store_all written o at piece))
    → (more : StoresFirst old new o d cs others) × ((at + count) % 2 ^ 32 ≡ (d + length more.done) % 2 ^ 32)
stored_more old now new o d at count cs rest piece others small first place split size step = (
  record {
    done = first.done ++ piece;
    split = first.split ∙ ap (λ x. first.done ++ x) split ∙ sym (append_assoc first.done piece others);
    kept = λ written h.
        subst (AreWritten new) (ap (λ x. store_all (store_all written o d first.done) o x piece) place ∙ sym (write_append (λ offset. true) first.done piece written o d small))
        (step (store_all written o d first.done) (first.kept written h));
  },
  place_after d (length first.done) count (length (first.done ++ piece)) at place (length-append first.done piece ∙ ap (λ x. length first.done + x) size),
)
