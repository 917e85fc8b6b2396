-- The entries that an ordered map of pages keeps, as pages are put into it.
use Rattle.std.proofs.Common.{◌≡◌, ℕ, zero, suc, ◌+◌, ◌/◌, ◌%◌, ◌<◌, ◌≤◌, Bool, true, false, cond, ◌&&◌, eqb, List, length, Some, None, refl, sym, ap, ◌∙◌, arith, rules, replicate}
use Rattle.std.specs.Prelude.{Box}
use Rattle.std.specs.declared.alloc.Global.{Global}
use Rattle.std.specs.BTreeMap as tree
use Rattle.std.specs.BTreeMap.{is_at}
use Rattle.blind_judge.specs.declared.entries.Entry.{Entry}
use Rattle.infinite_heap.specs.declared.value.Cell.{Cell}
use Rattle.blind_judge.specs.Entries.{no_entry}
use Rattle.blind_judge.specs.Pages.{empty_page, entry_in, page_with, newly_stored}
use Rattle.blind_judge.specs.HeapCells.{Pages, page_cmp, page_in, page_at, entries_of, with_page, StoresInPage}

blank : (n at : ℕ) → entry_in (replicate n no_entry) at ≡ no_entry
blank zero at = refl
blank (suc n) zero = refl
blank (suc n) (suc at) = blank n at

pub empty_entry : (at : ℕ) → entry_in empty_page at ≡ no_entry
unfolding empty_page
empty_entry at = blank 64 at

at_key : (o n p m : ℕ) → is_at (page_cmp (o, n)) (p, m) ≡ (eqb o p && eqb n m)
at_key o n p m = search rules

pub put_page : (old new : Pages) (o n : ℕ) (page : Box (List Entry) Global)
    → ((k : ℕ × ℕ) → tree.get page_cmp new k ≡ cond (is_at (page_cmp (o, n)) k) (Some page) (tree.get page_cmp old k))
    → (p q : ℕ) → entries_of new p q ≡ with_page (entries_of old) o n page.value p q
put_page old new o n page h p q =
    ap (λ x. entry_in (page_in x) (q % 64)) (h (p, q / 64))
    ∙ ap (λ b. entry_in (page_in (cond b (Some page) (tree.get page_cmp old (p, q / 64)))) (q % 64)) (at_key o n p (q / 64))
    ∙ elim (eqb o p && eqb n (q / 64)) as (λ b. entry_in (page_in (cond b (Some page) (tree.get page_cmp old (p, q / 64)))) (q % 64) ≡ cond b (entry_in page.value (q % 64)) (entries_of old p q)) [
      | true ↦ refl
      | false ↦ refl
    ]

same_page_at : (pages : Pages) (o n p m : ℕ) → (eqb o p && eqb n m) ≡ true → page_at pages o n ≡ page_at pages p m
same_page_at pages o n p m h = let a : o ≡ p = search (arith, rules) in let b : n ≡ m = search (arith, rules) in cc

either : (b : Bool) (x y : Entry) → (b ≡ true → x ≡ y) → cond b x y ≡ y
either true x y h = h refl
either false x y h = refl

pub same_page : (pages : Pages) (o n p q : ℕ) → with_page (entries_of pages) o n (page_at pages o n) p q ≡ entries_of pages p q
same_page pages o n p q =
    either (eqb o p && eqb n (q / 64)) (entry_in (page_at pages o n) (q % 64)) (entries_of pages p q) (λ t. ap (λ x. entry_in x (q % 64)) (same_page_at pages o n p (q / 64) t))

-- a page that cells were stored to is put into the tree
pub stores_in_page : (old new : Pages) (o n at fresh : ℕ) (marks : ℕ → Bool) (cs : List Cell) (was : List Entry) (page : Box (List Entry) Global)
    → page_at old o n ≡ was → page.value ≡ page_with marks was at cs → fresh ≡ newly_stored marks was at cs → fresh ≤ length cs → length was ≡ 64
    → ((k : ℕ × ℕ) → tree.get page_cmp new k ≡ cond (is_at (page_cmp (o, n)) k) (Some page) (tree.get page_cmp old k))
    → StoresInPage old new o n at marks cs fresh
stores_in_page old new o n at fresh marks cs was page here made count few whole h = record {
  entries = λ p q.
      put_page old new o n page h p q
      ∙ ap (λ x. with_page (entries_of old) o n x p q) (made ∙ ap (λ x. page_with marks x at cs) (sym here));
  fresh_ones = count ∙ ap (λ x. newly_stored marks x at cs) (sym here);
  few = few;
  whole = ap length here ∙ whole;
}

pub no_page : (pages : Pages) (o d : ℕ) → tree.get page_cmp pages (o, d / 64) ≡ None → entries_of pages o d ≡ no_entry
no_page pages o d none = ap (λ x. entry_in (page_in x) (d % 64)) none ∙ empty_entry (d % 64)

pub no_page_near : (pages : Pages) (o d k : ℕ) → d % 4 ≡ 0 → k < 4 → tree.get page_cmp pages (o, d / 64) ≡ None → entries_of pages o (d + k) ≡ no_entry
no_page_near pages o d k aligned near none =
    let same : (d + k) / 64 ≡ d / 64 = omega arith in
    no_page pages o (d + k) (ap (λ x. tree.get page_cmp pages (o, x)) same ∙ none)
