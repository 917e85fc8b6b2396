-- Lists whose items rise by a number, and lists that are gone through.
use Rattle.std.proofs.Common.{◌≡◌, ◌⊎◌, inl, inr, ℕ, zero, suc, ◌+◌, ◌<◌, ◌≤◌, length, get_or, drop, map, List, [], ◌∷◌, refl, sym, ap, ◌∙◌, subst, arith, add-one, drop-cons}
use Rattle.std.specs.List.{AllByRecursion, Contains}
use Rattle.std.specs.List.Sorted.{IsStrictlySortedBy}
use Rattle.std.specs.Ordering.{nat_cmp}
use Rattle.std.specs.declared.cmp.Ordering.TheVariants.{Less}
use Rattle.std.proofs.lemmas.Bool.Decides.{nat_tests}
use Rattle.std.proofs.lemmas.List.{drop_all}
use Rattle.std.proofs.lemmas.Map.Keys.{sorted_head, sorted_tail}
use Rattle.culprits.specs.Laws.{RisingIsOne}

-- ---- items of a list

-- a list has an item
abbrev Has : {X : Type 0} → List X → X → Type 0
Has [] y = ⊥
Has (x ∷ xs) y = (x ≡ y) ⊎ Has xs y

pub at_of : {X : Type 0} (P : X → Type 0) (xs : List X) (i : ℕ) (d : X) → AllByRecursion P xs → i < length xs → P (get_or xs i d)
at_of P [] i d all lt = absurd (omega arith)
at_of P (x ∷ xs) zero d all lt = all.0
at_of P (x ∷ xs) (suc i) d all lt = at_of P xs i d all.1 (omega arith)

contains_had : {X : Type 0} (xs : List X) (x : X) → Has xs x → Contains xs x
contains_had [] x h = absurd h
contains_had (y ∷ xs) x (inl same) = (0, omega arith, same)
contains_had (y ∷ xs) x (inr later) = let k = contains_had xs x later in (suc k.0, omega (arith, k.1), k.2)

has_at : {X : Type 0} (xs : List X) (at : ℕ) (x : X) → at < length xs → get_or xs at x ≡ x → Has xs x
has_at [] at x within is = absurd (omega arith)
has_at (y ∷ xs) zero x within is = inl is
has_at (y ∷ xs) (suc at) x within is = inr (has_at xs at x (omega arith) is)

has_contained : {X : Type 0} (xs : List X) (x : X) → Contains xs x → Has xs x
has_contained xs x h = has_at xs h.0 x h.1 h.2

-- ---- lists that rise

not_itself : (n : ℕ) → nat_cmp n n ≡ Less → ⊥
not_itself n e = grind (arith, nat_tests)

not_both : (m n : ℕ) → nat_cmp m n ≡ Less → nat_cmp n m ≡ Less → ⊥
not_both m n d e = grind (arith, nat_tests)

module _ {X : Type 0} (key : X → ℕ) where
  abbrev Rises : List X → Type 0
  Rises xs = IsStrictlySortedBy nat_cmp (map key xs)

  above : (k : ℕ) (xs : List X) (y : X) → AllByRecursion (λ n. nat_cmp k n ≡ Less) (map key xs) → Has xs y → nat_cmp k (key y) ≡ Less
  above k [] y all h = absurd h
  above k (x ∷ xs) y all (inl e) = subst (λ z. nat_cmp k (key z) ≡ Less) e all.0
  above k (x ∷ xs) y all (inr h) = above k xs y all.1 h

  head_below : (x y : X) (xs : List X) → Rises (x ∷ xs) → Has xs y → nat_cmp (key x) (key y) ≡ Less
  head_below x y xs p h = above (key x) xs y (sorted_head nat_cmp (key x) (map key xs) p) h

  same_first : (x y : X) (xs ys : List X) → Rises (x ∷ xs) → Rises (y ∷ ys) → (y ≡ x) ⊎ Has ys x → (x ≡ y) ⊎ Has xs y → x ≡ y
  same_first x y xs ys p q (inl e) h = sym e
  same_first x y xs ys p q (inr g) (inl e) = e
  same_first x y xs ys p q (inr g) (inr h) = absurd (not_both (key x) (key y) (head_below x y xs p h) (head_below y x ys q g))

  in_rest : (x y z : X) (xs ys : List X) → Rises (x ∷ xs) → x ≡ y → Has xs z → (y ≡ z) ⊎ Has ys z → Has ys z
  in_rest x y z xs ys p e h (inl f) = absurd (not_itself (key x) (subst (λ w. nat_cmp (key x) (key w) ≡ Less) (sym (e ∙ f)) (head_below x z xs p h)))
  in_rest x y z xs ys p e h (inr g) = g

  -- lists that rise and have the same items are equal
  one_list : (xs ys : List X) → Rises xs → Rises ys → ((z : X) → Has xs z → Has ys z) → ((z : X) → Has ys z → Has xs z) → xs ≡ ys
  one_list [] [] p q there back = refl
  one_list [] (y ∷ ys) p q there back = absurd (back y (inl refl))
  one_list (x ∷ xs) [] p q there back = absurd (there x (inl refl))
  one_list (x ∷ xs) (y ∷ ys) p q there back =
      let e : x ≡ y = same_first x y xs ys p q (there x (inl refl)) (back y (inl refl)) in
      let r : xs ≡ ys = one_list xs ys (sorted_tail nat_cmp (key x) (map key xs) p) (sorted_tail nat_cmp (key y) (map key ys) q) (λ z h. in_rest x y z xs ys p e h (there z (inr h))) (λ z h. in_rest y x z ys xs q (sym e) h (back z (inr h))) in
      λ i. e i ∷ r i

pub rising_is_one : {X : Type 0} (number_of : X → ℕ) → RisingIsOne number_of
rising_is_one number_of xs ys p q same = one_list number_of xs ys p q
    (λ z h. has_contained ys z ((same z).0 (contains_had xs z h)))
    (λ z h. has_contained xs z ((same z).1 (contains_had ys z h)))

-- ---- tables that a list goes into, item by item

module _ {X T : Type 0} (into : T → List X → T) (with : T → X → T) (steps : (t : T) (x : X) (xs : List X) → into t (x ∷ xs) ≡ into (with t x) xs) where
  pub put_next : (xs : List X) (i : ℕ) (d : X) (t n : T) → i < length xs → n ≡ with t (get_or xs i d) → into n (drop (i + 1) xs) ≡ into t (drop i xs)
  put_next xs i d t n lt is = rw (add-one, drop-cons xs i d lt, is) (sym (steps t (get_or xs i d) (drop (suc i) xs)))

  pub put_all : ((t : T) → into t [] ≡ t) → (xs : List X) (i : ℕ) (t : T) → length xs ≤ i → into t (drop i xs) ≡ t
  put_all ends xs i t past = ap (into t) (drop_all i xs past) ∙ ends t
