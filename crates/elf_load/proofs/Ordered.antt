-- A list whose addresses rise is the only one of its segments.
use Rattle.std.proofs.Common.{◌≡◌, ◌≢◌, ◌⊎◌, inl, inr, ℕ, zero, suc, ◌+◌, ◌<◌, ◌≤◌, true, false, cond, nat_lt, List, [], ◌∷◌, length, get_or, refl, sym, ap, subst, ◌∙◌, arith}
use Rattle.std.specs.List.{list_any, All, AllByRecursion, Contains}
use Rattle.std.specs.List.Sorted.{IsPermutation}
use Rattle.std.proofs.lemmas.Bool.Decides.{nat_tests}
use Rattle.std.proofs.lemmas.List.Sorted.{IsPermutation-sym, IsPermutation-cons, IsPermutation-middle, IsPermutation-trans, IsPermutation-refl, Contains-permutation, All-permutation}
use Rattle.std.proofs.lemmas.List.Elements.{All-from_recursion, recursion_from_All, All-contains}
use Rattle.infinite_heap.specs.declared.program.Segment.{Segment}
use Rattle.infinite_heap.specs.Overlap.{shares, overlaps, placed, by_address}
use Rattle.elf_load.proofs.Pairs.{ChainedSegments, or_left, or_right}

abbrev pub Rising : List Segment → Type 0
Rising [] = Unit {0}
Rising (s ∷ ss) = AllByRecursion (λ t. s.from < t.from) ss × Rising ss

above : (x : Segment) (xs : List Segment) (s : Segment) → Rising (x ∷ xs) → Contains xs s → x.from < s.from
above x xs s h c = All-contains (λ t. x.from < t.from) xs s (All-from_recursion (λ t. x.from < t.from) xs h.0) c

here : (x : Segment) (xs : List Segment) → Contains (x ∷ xs) x
here x xs = (0, omega arith, refl)

there : (x : Segment) (xs : List Segment) (s : Segment) → Contains xs s → Contains (x ∷ xs) s
there x xs s c = (suc c.0, omega (arith, c.1), c.2)

which : (x : Segment) (xs : List Segment) (s : Segment) → Contains (x ∷ xs) s → (x ≡ s) ⊎ Contains xs s
which x xs s (zero, lt, is) = inl is
which x xs s (suc k, lt, is) = inr (k, omega arith, is)

none_in_nil : (s : Segment) → Contains [] s → ⊥
none_in_nil s c = absurd (omega (arith, c.1))

record Same (xs ys : List Segment) : Type 0 where
  to : (s : Segment) → Contains xs s → Contains ys s
  from : (s : Segment) → Contains ys s → Contains xs s

least_or_later : (x y : Segment) (xs ys : List Segment) → Rising (x ∷ xs) → Rising (y ∷ ys) → Same (x ∷ xs) (y ∷ ys) → x ≡ y
least_or_later x y xs ys h g same =
    elim (which y ys x (same.to x (here x xs))) [
      | inl e ↦ sym e
      | inr c ↦ elim (which x xs y (same.from y (here y ys))) [
        | inl e ↦ e
        | inr d ↦ absurd (omega (arith, above y ys x g c, above x xs y h d))
      ]
    ]

shorter : (x y : Segment) (xs ys : List Segment) → Rising (x ∷ xs) → x ≡ y → ((s : Segment) → Contains (x ∷ xs) s → Contains (y ∷ ys) s) → (s : Segment) → Contains xs s → Contains ys s
shorter x y xs ys h e to s c =
    elim (which y ys s (to s (there x xs s c))) [
      | inl q ↦ absurd (omega (arith, above x xs s h c, ap (λ (z : Segment). z.from) (e ∙ q)))
      | inr d ↦ d
    ]

same_rising : (xs ys : List Segment) → Rising xs → Rising ys → Same xs ys → xs ≡ ys
same_rising [] [] h g same = refl
same_rising [] (y ∷ ys) h g same = absurd (none_in_nil y (same.from y (here y ys)))
same_rising (x ∷ xs) [] h g same = absurd (none_in_nil x (same.to x (here x xs)))
same_rising (x ∷ xs) (y ∷ ys) h g same =
    let e = least_or_later x y xs ys h g same in
    let rest = same_rising xs ys h.1 g.1 (record { to = shorter x y xs ys h e same.to; from = shorter y x ys xs g (sym e) same.from }) in
    λ i. e i ∷ rest i

-- ---- the segments by their addresses

placed_moves : (s : Segment) (ts : List Segment) → IsPermutation (s ∷ ts) (placed s ts)
placed_moves s [] = IsPermutation-refl (s ∷ [])
placed_moves s (t ∷ ts) =
    elim (nat_lt s.from t.from) as (λ b. IsPermutation (s ∷ t ∷ ts) (cond b (s ∷ t ∷ ts) (t ∷ placed s ts))) [
      | true ↦ IsPermutation-refl (s ∷ t ∷ ts)
      | false ↦ IsPermutation-trans (s ∷ t ∷ ts) (t ∷ s ∷ ts) (t ∷ placed s ts) (IsPermutation-sym (t ∷ s ∷ ts) (s ∷ t ∷ ts) (IsPermutation-middle (t ∷ []) s ts)) (IsPermutation-cons t (s ∷ ts) (placed s ts) (placed_moves s ts))
    ]

pub by_address_moves : (xs : List Segment) → IsPermutation xs (by_address xs)
by_address_moves [] = IsPermutation-refl []
by_address_moves (s ∷ ss) = IsPermutation-trans (s ∷ ss) (s ∷ by_address ss) (placed s (by_address ss)) (IsPermutation-cons s ss (by_address ss) (by_address_moves ss)) (placed_moves s (by_address ss))

all_placed : (P : Segment → Type 0) (s : Segment) (ts : List Segment) → P s → AllByRecursion P ts → AllByRecursion P (placed s ts)
all_placed P s [] p h = (p, tt)
all_placed P s (t ∷ ts) p h = elim (nat_lt s.from t.from) as (λ b. AllByRecursion P (cond b (s ∷ t ∷ ts) (t ∷ placed s ts))) [ true ↦ (p, h) | false ↦ (h.0, all_placed P s ts p h.1) ]

further : (a b : ℕ) (ts : List Segment) → a < b → AllByRecursion (λ t. b < t.from) ts → AllByRecursion (λ t. a < t.from) ts
further a b [] lt h = tt
further a b (t ∷ ts) lt h = (omega (arith, h.0), further a b ts lt h.1)

rising_placed : (s : Segment) (ts : List Segment) → Rising ts → AllByRecursion (λ t. s.from ≢ t.from) ts → Rising (placed s ts)
rising_placed s [] h n = (tt, tt)
rising_placed s (t ∷ ts) h n =
    elim (nat_lt s.from t.from) as (λ b. nat_lt s.from t.from ≡ b → Rising (cond b (s ∷ t ∷ ts) (t ∷ placed s ts))) [
      | true ↦ λ e. let lt : s.from < t.from = grind (arith, nat_tests) in ((lt, further s.from t.from ts lt h.0), h)
      | false ↦ λ e. let ne = n.0 in let lt : t.from < s.from = grind (arith, nat_tests, ne) in (all_placed (λ u. t.from < u.from) s ts lt h.0, rising_placed s ts h.1 n.1)
    ] refl

pub differ : (s : Segment) (ts : List Segment) → 0 < s.len → AllByRecursion (λ t. 0 < t.len) ts → list_any (shares s) ts ≡ false → AllByRecursion (λ t. s.from ≢ t.from) ts
differ s [] p h e = tt
differ s (t ∷ ts) p h e =
    let no = or_left (shares s t) (list_any (shares s) ts) e in
    let q = h.0 in
    ((λ same. absurd (grind (arith, nat_tests))), differ s ts p h.1 (or_right (shares s t) (list_any (shares s) ts) e))

pub rising_by_address : (xs : List Segment) → AllByRecursion (λ t. 0 < t.len) xs → overlaps xs ≡ false → Rising (by_address xs)
rising_by_address [] h e = tt
rising_by_address (s ∷ ss) h e =
    let apart = differ s ss h.0 h.1 (or_left (list_any (shares s) ss) (overlaps ss) e) in
    let moved = recursion_from_All (λ t. s.from ≢ t.from) (by_address ss) (All-permutation (λ t. s.from ≢ t.from) ss (by_address ss) (by_address_moves ss) (All-from_recursion (λ t. s.from ≢ t.from) ss apart)) in
    rising_placed s (by_address ss) (rising_by_address ss h.1 (or_right (list_any (shares s) ss) (overlaps ss) e)) moved

shift : (k : ℕ) → suc k + 1 ≡ suc (k + 1)
shift k = omega arith

rising_chained : (xs : List Segment) → ChainedSegments xs (length xs) → AllByRecursion (λ t. 0 < t.len) xs → Rising xs
rising_chained [] h some = tt
rising_chained (s ∷ []) h some = (tt, tt)
rising_chained (s ∷ t ∷ ts) h some =
    let rest = rising_chained (t ∷ ts) (record { at = λ k d lt. subst (λ n. (get_or (t ∷ ts) k d).from + (get_or (t ∷ ts) k d).len ≤ (get_or (s ∷ t ∷ ts) n d).from) (shift k) (h.at (suc k) d (omega arith)) }) some.1 in
    let next = h.at 0 s (omega arith) in
    let lt : s.from < t.from = omega (arith, next, some.0) in
    ((lt, further s.from t.from ts lt rest.0), rest)

pub is_by_address : (xs ys : List Segment) → IsPermutation xs ys → All (λ t. 0 < t.len) xs → ChainedSegments ys (length ys) → overlaps xs ≡ false → ys ≡ by_address xs
is_by_address xs ys perm some chained e =
    let P : Segment → Type 0 = λ t. 0 < t.len in
    let some_ys = recursion_from_All P ys (All-permutation P xs ys perm some) in
    same_rising ys (by_address xs) (rising_chained ys chained some_ys) (rising_by_address xs (recursion_from_All P xs some) e) (record {
      to = λ s c. Contains-permutation xs (by_address xs) s (by_address_moves xs) (Contains-permutation ys xs s (IsPermutation-sym xs ys perm) c);
      from = λ s c. Contains-permutation xs ys s perm (Contains-permutation (by_address xs) xs s (IsPermutation-sym xs (by_address xs) (by_address_moves xs)) c);
    })
