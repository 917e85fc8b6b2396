-- A copy of an object's cells, page by page.
use Rattle.std.proofs.Common.{◌≡◌, ℕ, zero, suc, ◌+◌, ◌*◌, ◌/◌, ◌%◌, ◌^◌, ◌<◌, ◌≤◌, Bool, true, false, cond, ◌&&◌, ◌||◌, eqb, List, [], ◌∷◌, ◌++◌, length, get_or, refl, sym, ap, subst, ◌∙◌, arith, rules, ne_eqb, length-set}
use Rattle.std.specs.Prelude.{slice_set}
use Rattle.std.specs.Option.{unwrap_or}
use Rattle.std.specs.Result.{OnErr}
use Rattle.std.specs.declared.result.Result.{Result}
use Rattle.std.specs.declared.result.Result.TheVariants.{Ok, Err}
use Rattle.std.specs.Map.{lookup}
use Rattle.std.specs.BTreeMap.{is_at}
use Rattle.infinite_heap.specs.declared.value.Cell.{Cell}
use Rattle.infinite_heap.specs.Memory.{cell_at, get_all, is_stored, write_all, next}
use Rattle.blind_judge.specs.declared.entries.Entry.{Entry}
use Rattle.blind_judge.specs.declared.heap_cells.HeapCells.{HeapCells}
use Rattle.blind_judge.specs.Entries.{cell_in, entry_of}
use Rattle.blind_judge.specs.Pages.{entry_in, page_with}
use Rattle.blind_judge.specs.HeapCells.{CopiesFirst, CopiesPiece, Pages, StandFor, entries_of, page_at, page_cmp, page_in, written_copy}
use Rattle.blind_judge.proofs.PageTree.{same_page}
use Rattle.blind_judge.proofs.Kept.{same_entries, set_entry, write_append, written_in_page}

-- an offset of the page that begins at d
pub near_page : (pages : Pages) (o d k : ℕ) → d % 64 ≡ 0 → k < 64 → entries_of pages o (d + k) ≡ entry_in (page_at pages o (d / 64)) k
near_page pages o d k start small =
    let number : (d + k) / 64 ≡ d / 64 = omega arith in
    let place : (d + k) % 64 ≡ k = omega arith in
    rw (number, place) refl

length_get : {A : Type 0} (f : ℕ → A) (x n : ℕ) → length (get_all f x n) ≡ n
length_get f x zero = refl
length_get f x (suc n) = ap suc (length_get f (next x) n)

get_append : {A : Type 0} (f : ℕ → A) (x m n : ℕ) → x < 2 ^ 32 → get_all f x (m + n) ≡ get_all f x m ++ get_all f ((x + m) % 2 ^ 32) n
get_append f x zero n small =
    let here : (x + 0) % 2 ^ 32 ≡ x = omega arith in
    let none : 0 + n ≡ n = omega arith in
    rw (here, none) refl
get_append f x (suc m) n small =
    let more : suc m + n ≡ suc (m + n) = omega arith in
    let later : (next x + m) % 2 ^ 32 ≡ (x + suc m) % 2 ^ 32 = omega arith in
    ap (get_all f x) more ∙ ap (λ xs. f x ∷ xs) (get_append f (next x) m n (omega arith)) ∙ ap (λ y. f x ∷ (get_all f (next x) m ++ get_all f y n)) later

-- cells that are those at each offset
by_offset : (cs : List Cell) (n : ℕ) (f : ℕ → Cell) (x : ℕ) (dflt : Cell) → length cs ≡ n → x + n < 2 ^ 32 → ((k : ℕ) → k < n → get_or cs k dflt ≡ f (x + k)) → cs ≡ get_all f x n
by_offset [] zero f x dflt size fits each = refl
by_offset [] (suc n) f x dflt size fits each = absurd (omega arith)
by_offset (c ∷ cs) zero f x dflt size fits each = absurd (omega arith)
by_offset (c ∷ cs) (suc n) f x dflt size fits each =
    let here : c ≡ f x = each 0 (omega arith) ∙ ap f (omega arith) in
    let after : next x ≡ x + 1 = omega arith in
    let rest : cs ≡ get_all f (next x) n =
    by_offset cs n f (next x) dflt (omega arith) (omega arith) (λ k less. each (suc k) (omega arith) ∙ ap f (omega arith)) in
    cc

-- entries past the cells that were written are as they were
later_entry : (marks : ℕ → Bool) (cs : List Cell) (page : List Entry) (at q : ℕ) → at + length cs ≤ q → at + length cs ≤ length page
    → entry_in (page_with marks page at cs) q ≡ entry_in page q
later_entry marks [] page at q past fits = refl
later_entry marks (c ∷ cs) page at q past fits =
    let x : Entry = entry_of c (marks at || (entry_in page at).stored) in
    let size : length (slice_set page at x) ≡ length page = length-set page at x in
    let within : at < length page = omega arith in
    let other : eqb at q ≡ false = ne_eqb at q (λ e. absurd (omega arith)) in
    later_entry marks cs (slice_set page at x) (at + 1) q (omega arith) (omega arith)
    ∙ set_entry page at q x within
    ∙ ap (λ b. cond b x (entry_in page q)) other

same_if : {A : Type 0} (b : Bool) (x y z : A) → (b ≡ true → x ≡ y) → cond b x z ≡ cond b y z
same_if true x y z h = h refl
same_if false x y z h = refl

second : (o p n m : ℕ) → (eqb o p && eqb n m) ≡ true → n ≡ m
second o p n m h = search (arith, rules)

-- one more piece of an object is copied
pub copied_more : (old now new : HeapCells) (from to : ℕ) (begins : Cell) (at n : ℕ) → at % 64 ≡ 0 → n ≤ 64 → at + n < 2 ^ 32
    → CopiesFirst old now from to begins at → CopiesPiece now new from to begins at n → CopiesFirst old new from to begins (at + n)
copied_more old now new from to begins at n start few fits first piece = record {
  kept = λ written begun h e.
      let f : ℕ → Cell = cell_at begun written from in
      let m : ℕ → Bool = is_stored written from in
      let cell_there : (k : ℕ) → k < n → get_or piece.cells k begins ≡ f (at + k) = λ k less.
      piece.each k less ∙ ap (λ x. unwrap_or (cell_in x) begins) (first.ahead (at + k) (omega arith))
      ∙ ap (λ x. unwrap_or (cell_in (entries_of old.pages from (at + k))) x) (sym e) ∙ h.cells begun from (at + k) in
      let cells : piece.cells ≡ get_all f at n = by_offset piece.cells n f at begins piece.size fits cell_there in
      let whole : get_all f 0 (at + n) ≡ get_all f 0 at ++ piece.cells =
      get_append f 0 at n (omega arith) ∙ ap (λ x. get_all f 0 at ++ get_all f x n) (omega arith) ∙ ap (λ xs. get_all f 0 at ++ xs) (sym cells) in
      let marked : (i : ℕ) → i < 64 → piece.marks i ≡ m (64 * (at / 64) + i) = λ i small.
      piece.marked i small ∙ ap (λ (x : Entry). x.stored) (first.ahead (at + i) (omega arith)) ∙ h.stored from (at + i) ∙ ap m (omega arith) in
      let room : at % 64 + length piece.cells ≤ 64 = omega (arith, piece.size) in
      let step = written_in_page now.pages new.pages to at piece.marks m piece.cells piece.fresh now.count (written_copy begun written from to at) (omega arith) room marked piece.stores (first.kept written begun h e) in
      let place : (0 + length (get_all f 0 at)) % 2 ^ 32 ≡ at = ap (λ x. (0 + x) % 2 ^ 32) (length_get f 0 at) ∙ omega arith in
      let joined : write_all m (written_copy begun written from to at) to at piece.cells ≡ written_copy begun written from to (at + n) =
      ap (λ x. write_all m (written_copy begun written from to at) to x piece.cells) (sym place)
      ∙ sym (write_append m (get_all f 0 at) piece.cells written to 0 (omega arith))
      ∙ ap (write_all m written to 0) (sym whole) in
      subst (λ ws. StandFor (entries_of new.pages) new.count ws) joined
      (subst (λ t. StandFor (entries_of new.pages) t (write_all m (written_copy begun written from to at) to at piece.cells)) (sym piece.total) step);
  ahead = λ d past.
      let page : List Entry = page_at now.pages to (at / 64) in
      let unchanged : (eqb to from && eqb (at / 64) (d / 64)) ≡ true → entry_in (page_with piece.marks page (at % 64) piece.cells) (d % 64) ≡ entry_in page (d % 64) = λ t.
      let number : at / 64 ≡ d / 64 = second to from (at / 64) (d / 64) t in
      later_entry piece.marks piece.cells page (at % 64) (d % 64) (omega (arith, piece.size)) (omega (arith, piece.size, piece.stores.whole)) in
      piece.stores.entries from d
      ∙ same_if (eqb to from && eqb (at / 64) (d / 64)) (entry_in (page_with piece.marks page (at % 64) piece.cells) (d % 64)) (entry_in page (d % 64)) (entries_of now.pages from d) unchanged
      ∙ same_page now.pages to (at / 64) from d
      ∙ first.ahead d (omega arith);
}

-- where nothing was written, as much is copied as before
pub copied_same : (old now new : HeapCells) (from to : ℕ) (begins : Cell) (at : ℕ) → new.pages.entries ≡ now.pages.entries → new.count ≡ now.count
    → CopiesFirst old now from to begins at → CopiesFirst old new from to begins at
copied_same old now new from to begins at entries count first =
    let same : (p q : ℕ) → entries_of new.pages p q ≡ entries_of now.pages p q =
    λ p q. ap (λ es. entry_in (page_in (lookup (is_at (page_cmp (p, q / 64))) es)) (q % 64)) entries in
    record {
      kept = λ written begun h e.
          same_entries (entries_of now.pages) (entries_of new.pages) new.count (written_copy begun written from to at) same
          (subst (λ t. StandFor (entries_of now.pages) t (written_copy begun written from to at)) (sym count) (first.kept written begun h e));
      ahead = λ d past. same from d ∙ first.ahead d past;
    }

pub on_err : {A E P : Type 0} (r : Result A E) → P → OnErr r P
on_err (Ok a) p = tt
on_err (Err e) p = p
