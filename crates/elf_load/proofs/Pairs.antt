-- Overlap of two among many: in any order, and of neighbours in order.
use Rattle.std.proofs.Common.{◌≡◌, ◌≢◌, ℕ, zero, suc, ◌+◌, ◌<◌, ◌≤◌, max, min, Bool, true, false, cond, ◌||◌, ltb, eqb, List, [], ◌∷◌, length, get_or, Some, refl, ap, ◌∙◌, arith}
use Rattle.std.specs.List.{list_any, slice_get, swap}
use Rattle.std.specs.List.Sorted.{IsPermutation, IsNonDecreasingBy}
use Rattle.std.proofs.lemmas.Bool.Decides.{nat_tests}
use Rattle.std.proofs.lemmas.List.Edits.{Swapped, swapped_from_swap, length-swap}
use Rattle.std.proofs.lemmas.List.Sorted.{IsPermutation-keeps, IsPermutation-sym}
use Rattle.infinite_heap.specs.declared.program.Segment.{Segment}
use Rattle.infinite_heap.specs.Overlap.{Holds, shares, overlaps, Overlap}

-- up to a place, each ends where the next begins, at the latest
pub record ChainedSegments (xs : List Segment) (high : ℕ) : Type 0 where
  pub at : (k : ℕ) (d : Segment) → k + 1 < high → (get_or xs k d).from + (get_or xs k d).len ≤ (get_or xs (k + 1) d).from

shares_sym : (a b : Segment) → shares a b ≡ shares b a
shares_sym a b =
    let m : max a.from b.from ≡ max b.from a.from = omega arith in
    let n : min (a.from + a.len) (b.from + b.len) ≡ min (b.from + b.len) (a.from + a.len) = omega arith in
    rw (m, n) refl

-- ---- no two share, whichever comes first

pub record Apart (xs : List Segment) : Type 0 where
  pub at : (i j : ℕ) (d : Segment) → i ≢ j → i < length xs → j < length xs → shares (get_or xs i d) (get_or xs j d) ≡ false

-- where a place goes in an exchange
Placed : (f g : ℕ → Segment) → ℕ → ℕ → ℕ → ℕ → Type 0
Placed f g a b i j = g i ≡ f j

abbrev moved : ℕ → ℕ → ℕ → ℕ
moved a b i = cond (eqb i a) b (cond (eqb i b) a i)

moved_is : (f g : ℕ → Segment) (a b i : ℕ) → Swapped f g a b → g i ≡ f (moved a b i)
moved_is f g a b i s = first (eqb i a) refl
  where
    second : (c : Bool) → eqb i b ≡ c → i ≢ a → g i ≡ f (cond c a i)
    second true e n = let h : i ≡ b = grind (arith, nat_tests) in ap g h ∙ s.1
    second false e n = s.2 i n (λ h. absurd (grind (arith, nat_tests)))

    first : (c : Bool) → eqb i a ≡ c → g i ≡ f (cond c b (cond (eqb i b) a i))
    first true e = let h : i ≡ a = grind (arith, nat_tests) in ap g h ∙ s.0
    first false e = second (eqb i b) refl (λ h. absurd (grind (arith, nat_tests)))

moved_below : (a b i n : ℕ) → a < n → b < n → i < n → moved a b i < n
moved_below a b i n p q r = grind (arith, nat_tests)

moved_apart : (a b i j : ℕ) → i ≢ j → moved a b i ≢ moved a b j
moved_apart a b i j n e = n (same i j e)
  where
    same : (i j : ℕ) → moved a b i ≡ moved a b j → i ≡ j
    same i j e = grind (arith, nat_tests)

apart_step : (l : List Segment) (a b : ℕ) → a < length l → b < length l → Apart l → Apart (swap l a b)
apart_step l a b p q h = record {
  at = λ i j d n bi bj.
      let s = swapped_from_swap l (swap l a b) a b d p q refl in
      let len = length-swap l a b in
      let ei = moved_is (λ k. get_or l k d) (λ k. get_or (swap l a b) k d) a b i s in
      let ej = moved_is (λ k. get_or l k d) (λ k. get_or (swap l a b) k d) a b j s in
      ap (λ x. shares x (get_or (swap l a b) j d)) ei ∙ ap (shares (get_or l (moved a b i) d)) ej
      ∙ h.at (moved a b i) (moved a b j) d (moved_apart a b i j n) (moved_below a b i (length l) p q (omega (arith, len, bi))) (moved_below a b j (length l) p q (omega (arith, len, bj)));
}

pub apart_any_order : (xs ys : List Segment) → IsPermutation xs ys → Apart xs → Apart ys
apart_any_order xs ys perm h = IsPermutation-keeps xs Apart h (λ l i j p q a. apart_step l i j p q a) ys perm

-- ---- the test

pub or_left : (a b : Bool) → (a || b) ≡ false → a ≡ false
or_left true b e = absurd cc
or_left false b e = refl

pub or_right : (a b : Bool) → (a || b) ≡ false → b ≡ false
or_right true b e = absurd cc
or_right false b e = e

none_at : (s : Segment) (xs : List Segment) (j : ℕ) (d : Segment) → list_any (shares s) xs ≡ false → j < length xs → shares s (get_or xs j d) ≡ false
none_at s [] j d e lt = absurd (omega arith)
none_at s (x ∷ xs) zero d e lt = or_left (shares s x) (list_any (shares s) xs) e
none_at s (x ∷ xs) (suc j) d e lt = none_at s xs j d (or_right (shares s x) (list_any (shares s) xs) e) (omega arith)

any_none : (s : Segment) (xs : List Segment) → ((j : ℕ) → j < length xs → shares s (get_or xs j s) ≡ false) → list_any (shares s) xs ≡ false
any_none s [] h = refl
any_none s (x ∷ xs) h =
    let here : shares s x ≡ false = h 0 (omega arith) in
    let rest : list_any (shares s) xs ≡ false = any_none s xs (λ j lt. h (suc j) (omega arith)) in
    rw (here, rest) refl

pub apart_from : (xs : List Segment) → overlaps xs ≡ false → Apart xs
apart_from [] e = record { at = λ i j d n bi bj. absurd (omega arith) }
apart_from (s ∷ xs) e =
    let head = or_left (list_any (shares s) xs) (overlaps xs) e in
    let rest = apart_from xs (or_right (list_any (shares s) xs) (overlaps xs) e) in
    record { at = at head rest }
  where
    at : list_any (shares s) xs ≡ false → Apart xs → (i j : ℕ) (d : Segment) → i ≢ j → i < length (s ∷ xs) → j < length (s ∷ xs) → shares (get_or (s ∷ xs) i d) (get_or (s ∷ xs) j d) ≡ false
    at head rest zero zero d n bi bj = absurd (n refl)
    at head rest zero (suc j) d n bi bj = none_at s xs j d head (omega arith)
    at head rest (suc i) zero d n bi bj = shares_sym (get_or xs i d) s ∙ none_at s xs i d head (omega arith)
    at head rest (suc i) (suc j) d n bi bj = rest.at i j d (λ e. n (ap suc e)) (omega arith) (omega arith)

pub overlaps_from : (xs : List Segment) → Apart xs → overlaps xs ≡ false
overlaps_from [] h = refl
overlaps_from (s ∷ xs) h =
    let head : list_any (shares s) xs ≡ false = any_none s xs (λ j lt. h.at 0 (suc j) s (λ e. absurd (omega arith)) (omega arith) (omega arith)) in
    let rest : overlaps xs ≡ false = overlaps_from xs (record { at = λ i j d n bi bj. h.at (suc i) (suc j) d (λ e. n (omega arith)) (omega arith) (omega arith) }) in
    rw (head, rest) refl

-- ---- neighbours

apart_pair : (a b : Segment) → a.from + a.len ≤ b.from → shares a b ≡ false
apart_pair a b h = grind (arith, nat_tests)

meeting_pair : (a b : Segment) → a.from ≤ b.from → b.from < a.from + a.len → 0 < b.len → shares a b ≡ true
meeting_pair a b p q r = grind (arith, nat_tests)

lower : (xs : List Segment) → IsNonDecreasingBy (λ s. s.from) xs → ChainedSegments xs (length xs) → (i j : ℕ) (d : Segment) → i < j → j < length xs → shares (get_or xs i d) (get_or xs j d) ≡ false
lower xs up h i j d lt bj =
    let next = h.at i d (omega arith) in
    let rise = up (i + 1) j d (omega arith) bj in
    apart_pair (get_or xs i d) (get_or xs j d) (omega arith)

pub apart_chained : (xs : List Segment) → IsNonDecreasingBy (λ s. s.from) xs → ChainedSegments xs (length xs) → Apart xs
apart_chained xs up h = record { at = λ i j d n bi bj. split i j d bi bj n (ltb i j) refl }
  where
    split : (i j : ℕ) (d : Segment) → i < length xs → j < length xs → i ≢ j → (c : Bool) → ltb i j ≡ c → shares (get_or xs i d) (get_or xs j d) ≡ false
    split i j d bi bj n true e = lower xs up h i j d (grind (arith, nat_tests)) bj
    split i j d bi bj n false e = shares_sym (get_or xs i d) (get_or xs j d) ∙ lower xs up h j i d (later i j n e) bi
      where
        later : (i j : ℕ) → i ≢ j → ltb i j ≡ false → j < i
        later i j n e = grind (arith, nat_tests)

true_or_false : (b : Bool) → (b ≡ false → ⊥) → b ≡ true
true_or_false true h = refl
true_or_false false h = absurd (h refl)

-- neighbours that meet are two that share an address, in whatever order they came
pub meeting : (xs ys : List Segment) (k : ℕ) (d : Segment) → IsPermutation xs ys → k + 1 < length ys → (get_or ys k d).from ≤ (get_or ys (k + 1) d).from → (get_or ys (k + 1) d).from < (get_or ys k d).from + (get_or ys k d).len → 0 < (get_or ys (k + 1) d).len
    → overlaps xs ≡ true
meeting xs ys k d perm lt up meets some =
    true_or_false (overlaps xs) (λ e.
    let a = apart_any_order xs ys perm (apart_from xs e) in
    let not = a.at k (k + 1) d (λ q. absurd (omega arith)) (omega arith) lt in
    let yes = meeting_pair (get_or ys k d) (get_or ys (k + 1) d) up meets some in
    absurd cc)

pub none_meet : (xs ys : List Segment) → IsPermutation xs ys → IsNonDecreasingBy (λ s. s.from) ys → ChainedSegments ys (length ys) → overlaps xs ≡ false
none_meet xs ys perm up h = overlaps_from xs (apart_any_order ys xs (IsPermutation-sym xs ys perm) (apart_chained ys up h))

-- ---- in plain words

pair_shares : (a b : Segment) (x : ℕ) → Holds a x → Holds b x → shares a b ≡ true
pair_shares a b x p q = grind (arith, nat_tests)

meet_at : (a b : Segment) → shares a b ≡ true → Holds a (max a.from b.from) × Holds b (max a.from b.from)
meet_at a b e = let lt : max a.from b.from < min (a.from + a.len) (b.from + b.len) = grind (arith, nat_tests) in ((omega arith, omega arith), (omega arith, omega arith))

found : (s : Segment) (xs : List Segment) → list_any (shares s) xs ≡ true → (j : ℕ) × (b : Segment) × (slice_get xs j ≡ Some b) × (shares s b ≡ true)
found s [] e = absurd cc
found s (x ∷ xs) e = elim (shares s x) as (λ c. shares s x ≡ c → (c || list_any (shares s) xs) ≡ true → (j : ℕ) × (b : Segment) × (slice_get (x ∷ xs) j ≡ Some b) × (shares s b ≡ true)) [
  | true ↦ λ is q. (0, x, refl, is)
  | false ↦ λ is q. let r = found s xs q in (suc r.0, r.1, r.2, r.3)
] refl e

later : (s : Segment) (xs : List Segment) → Overlap xs → Overlap (s ∷ xs)
later s xs o = record { first = suc o.first; second = suc o.second; one = o.one; other = o.other; address = o.address; apart = omega (arith, o.apart); one_is = o.one_is; other_is = o.other_is; in_one = o.in_one; in_other = o.in_other }

pub overlap_met : (xs : List Segment) → overlaps xs ≡ true → Overlap xs
overlap_met [] e = absurd cc
overlap_met (s ∷ xs) e = elim (list_any (shares s) xs) as (λ c. list_any (shares s) xs ≡ c → (c || overlaps xs) ≡ true → Overlap (s ∷ xs)) [
  | true ↦ λ is q. let r = found s xs is in let m = meet_at s r.1 r.3 in record { first = 0; second = suc r.0; one = s; other = r.1; address = max s.from r.1.from; apart = omega arith; one_is = refl; other_is = r.2; in_one = m.0; in_other = m.1 }
  | false ↦ λ is q. later s xs (overlap_met xs q)
] refl e

read : (xs : List Segment) (i : ℕ) (a d : Segment) → slice_get xs i ≡ Some a → (i < length xs) × (get_or xs i d ≡ a)
read [] i a d e = absurd cc
read (x ∷ xs) zero a d e = (omega arith, cc)
read (x ∷ xs) (suc i) a d e = let r = read xs i a d e in (omega (arith, r.0), r.1)

pub overlap_none : (xs : List Segment) → overlaps xs ≡ false → Overlap xs → ⊥
overlap_none xs e o =
    let a = read xs o.first o.one o.one o.one_is in
    let b = read xs o.second o.other o.one o.other_is in
    let no = (apart_from xs e).at o.first o.second o.one (λ q. absurd (omega (arith, q, o.apart))) a.0 b.0 in
    let yes = pair_shares o.one o.other o.address o.in_one o.in_other in
    let same : shares (get_or xs o.first o.one) (get_or xs o.second o.one) ≡ shares o.one o.other = ap (λ x. shares x (get_or xs o.second o.one)) a.1 ∙ ap (shares o.one) b.1 in
    absurd cc
