-- What the heap says of its top, said of the deferred frees.
use Rattle.std.proofs.Common.{◌≡◌, ℕ, ◌<◌, false, List, [], ◌∷◌, map, sym, ◌∙◌, arith, All}
use Rattle.std.specs.List.{AllByRecursion}
use Rattle.std.specs.List.Sorted.{IsPermutation}
use Rattle.std.specs.BinaryHeap.{IsUpperBound}
use Rattle.std.specs.declared.cmp.Reverse.{Reverse}
use Rattle.std.proofs.lemmas.List.Sorted.{IsPermutation-map}
use Rattle.deferral_queue.specs.declared.Due.{Due}
use Rattle.deferral_queue.specs.Order.{due_order, is_before, IsNoLater}
use Rattle.std.proofs.lemmas.List.Elements.{All-weaker, All-from_recursion}
use Rattle.deferral_queue.proofs.Before.{no_later_from_before}
use Rattle.deferral_queue.specs.Deferrals.{sorted_dues, insert_due}
use Rattle.deferral_queue.proofs.Sorted.{sorted_dues-IsPermutation, insert_due-first, all_sorted}

pub none_before : (x : Reverse Due) (xs : List (Reverse Due)) → IsUpperBound (λ a b. due_order b.0 a.0) x xs → AllByRecursion (λ y. is_before y x.0 ≡ false) (map (λ r. r.0) xs)
unfolding is_before
none_before x [] all = tt
none_before x (y ∷ ys) all = (all.0, none_before x ys all.1)

pub dues_pushed : (x : Reverse Due) (xs ys : List (Reverse Due)) → IsPermutation (x ∷ xs) ys → sorted_dues (map (λ r. r.0) ys) ≡ insert_due x.0 (sorted_dues (map (λ r. r.0) xs))
dues_pushed x xs ys h = sorted_dues-IsPermutation _ _ (IsPermutation-map (λ r. r.0) (x ∷ xs) ys h)

pub dues_popped : (x : Reverse Due) (xs ys : List (Reverse Due)) → IsPermutation xs (x ∷ ys) → IsUpperBound (λ a b. due_order b.0 a.0) x ys → sorted_dues (map (λ r. r.0) xs) ≡ x.0 ∷ sorted_dues (map (λ r. r.0) ys)
dues_popped x xs ys h least =
    sym (sorted_dues-IsPermutation _ _ (IsPermutation-map (λ r. r.0) xs (x ∷ ys) h))
    ∙ insert_due-first x.0 _ (all_sorted (λ y. is_before y x.0 ≡ false) _ (none_before x ys least))

pub none_earlier : (x : Reverse Due) (xs : List (Reverse Due)) → IsUpperBound (λ a b. due_order b.0 a.0) x xs → All (IsNoLater x.0) (sorted_dues (map (λ r. r.0) xs))
none_earlier x xs least =
    All-weaker (λ y. is_before y x.0 ≡ false) (IsNoLater x.0) (λ y h. no_later_from_before x.0 y h) _
    (All-from_recursion (λ y. is_before y x.0 ≡ false) _ (all_sorted (λ y. is_before y x.0 ≡ false) _ (none_before x xs least)))

pub all_later : (clock : ℕ) (x : Due) (dues : List Due) → All (IsNoLater x) dues → clock < x.due → All (λ d. clock < d.due) dues
all_later clock x dues least above = All-weaker (IsNoLater x) (λ d. clock < d.due) (λ d h. omega (arith, h)) dues least
