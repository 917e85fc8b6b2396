-- A search and a filter over consecutive numbers.
use Rattle.std.proofs.Common.{◌≡◌, ℕ, zero, suc, ◌+◌, ◌<◌, ◌≤◌, Bool, true, false, cond, [], ◌∷◌, ◌++◌, None, inl, inr, Some, refl, ap, sym, ◌∙◌, arith, add-one}
use Rattle.std.specs.List.{range_with_len, filter, find}
use Rattle.std.proofs.lemmas.List.{append-nil}
use Rattle.std.proofs.lemmas.List.Elements.{filter-append}
use Rattle.std.proofs.lemmas.Bool.{cases_lt}

pub range_more : (from n : ℕ) → range_with_len from (n + 1) ≡ range_with_len from n ++ (from + n) ∷ []
range_more from zero = let e : from ≡ from + 0 = omega arith in ap (λ k. k ∷ []) e
range_more from (suc n) =
    let e : from + 1 + n ≡ from + suc n = omega arith in
    rw add-one (ap (λ ks. from ∷ ks) (ap (range_with_len (from + 1)) (sym (add-one n)) ∙ range_more (from + 1) n ∙ ap (λ k. range_with_len (from + 1) n ++ k ∷ []) e))

pub filter_range_more : (p : ℕ → Bool) (n : ℕ) → filter p (range_with_len 0 (n + 1)) ≡ filter p (range_with_len 0 n) ++ cond (p n) (n ∷ []) []
filter_range_more p n =
    let e : 0 + n ≡ n = omega arith in
    ap (filter p) (range_more 0 n) ∙ filter-append p (range_with_len 0 n) ((0 + n) ∷ []) ∙ ap (λ k. filter p (range_with_len 0 n) ++ cond (p k) (k ∷ []) []) e

pub filter_range_skipped : (p : ℕ → Bool) (from n : ℕ) → ((k : ℕ) → k < n → p (from + k) ≡ false) → filter p (range_with_len 0 (from + n)) ≡ filter p (range_with_len 0 from)
filter_range_skipped p from zero fails = let e : from + 0 ≡ from = omega arith in ap (λ i. filter p (range_with_len 0 i)) e
filter_range_skipped p from (suc n) fails =
    let e : from + suc n ≡ from + n + 1 = omega arith in
    ap (λ i. filter p (range_with_len 0 i)) e ∙ filter_range_more p (from + n) ∙ ap (λ b. filter p (range_with_len 0 (from + n)) ++ cond b ((from + n) ∷ []) []) (fails n (omega arith)) ∙ append-nil _
    ∙ filter_range_skipped p from n (λ k h. fails k (omega arith))

pub find_range_none : (p : ℕ → Bool) (from n : ℕ) → ((k : ℕ) → k < from + n → p k ≡ false) → find p (range_with_len from n) ≡ None
find_range_none p from zero fails = refl
find_range_none p from (suc n) fails =
    let first : p from ≡ false = fails from (omega arith) in
    rw first (find_range_none p (from + 1) n (λ k h. fails k (omega arith)))

pub find_range_first : (p : ℕ → Bool) (from n i : ℕ) → from ≤ i → i < from + n → ((k : ℕ) → k < i → p k ≡ false) → p i ≡ true → find p (range_with_len from n) ≡ Some i
find_range_first p from zero i low high fails holds = absurd (omega arith)
find_range_first p from (suc n) i low high fails holds =
    elim (cases_lt from i) [
      | inl lt ↦ rw (fails from lt) (find_range_first p (from + 1) n i (omega arith) (omega arith) fails holds)
      | inr le ↦
          let e : i ≡ from = omega arith in
          let first : p from ≡ true = ap p (sym e) ∙ holds in
          rw first (ap Some (sym e))
    ]
