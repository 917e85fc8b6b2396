-- Lists of addresses: joined parts, numbers in order, and how often an address occurs.
use Rattle.std.proofs.Common.{◌≡◌, ℕ, zero, suc, ◌+◌, ◌<◌, ◌≤◌, refl, ap, sym, ◌∙◌, Bool, true, false, cond, arith, nat_eq, List, [], ◌∷◌, ◌++◌, length, get_or, take, drop, append_assoc, count_by, set}
use Rattle.std.specs.List.{flat_map}
use Rattle.std.proofs.lemmas.Bool.{eqb-true, eqb-false, eq-eqb, ne_eqb}
use Rattle.std.proofs.lemmas.List.Sums.{sum_by-cons, sum_by-append}

pub flat_map-append : {X A : Type 0} (f : X → List A) (xs ys : List X) → flat_map f (xs ++ ys) ≡ flat_map f xs ++ flat_map f ys
flat_map-append f [] ys = refl
flat_map-append f (x ∷ xs) ys = ap (λ zs. f x ++ zs) (flat_map-append f xs ys) ∙ sym (append_assoc (f x) (flat_map f xs) (flat_map f ys))

-- a list at one of its places
pub split_at : {X : Type 0} (xs : List X) (i : ℕ) (d : X) → i < length xs → xs ≡ take i xs ++ get_or xs i d ∷ drop (suc i) xs
split_at [] i d h = absurd (omega arith)
split_at (x ∷ xs) zero d h = refl
split_at (x ∷ xs) (suc i) d h = ap (λ zs. x ∷ zs) (split_at xs i d (omega arith))

pub set_at_split : {X : Type 0} (xs : List X) (i : ℕ) (y : X) → i < length xs → set xs i y ≡ take i xs ++ y ∷ drop (suc i) xs
set_at_split [] i y h = absurd (omega arith)
set_at_split (x ∷ xs) zero y h = refl
set_at_split (x ∷ xs) (suc i) y h = ap (λ zs. x ∷ zs) (set_at_split xs i y (omega arith))

-- ---- a rising list of numbers, all from low on and below high

abbrev pub Rises : ℕ → ℕ → List ℕ → Type 0
Rises low high [] = low ≤ high
Rises low high (x ∷ xs) = (low ≤ x) × Rises (suc x) high xs

pub rises_bounds : (low high : ℕ) (xs : List ℕ) → Rises low high xs → low ≤ high
rises_bounds low high [] r = r
rises_bounds low high (x ∷ xs) r = let h : suc x ≤ high = rises_bounds (suc x) high xs r.1 in omega (arith, r.0)

pub rises_lower : (low low' high : ℕ) (xs : List ℕ) → low ≤ low' → Rises low' high xs → Rises low high xs
rises_lower low low' high [] h r = omega (arith, r)
rises_lower low low' high (x ∷ xs) h r = (omega (arith, r.0), r.1)

pub rises-append : (low mid high : ℕ) (xs ys : List ℕ) → Rises low mid xs → Rises mid high ys → Rises low high (xs ++ ys)
rises-append low mid high [] ys r s = rises_lower low mid high ys r s
rises-append low mid high (x ∷ xs) ys r s = (r.0, rises-append (suc x) mid high xs ys r.1 s)

pub rises_at : (low high : ℕ) (xs : List ℕ) (i : ℕ) → Rises low high xs → i < length xs → (low ≤ get_or xs i 0) × (get_or xs i 0 < high)
rises_at low high [] i r h = absurd (omega arith)
rises_at low high (x ∷ xs) zero r h = let b : suc x ≤ high = rises_bounds (suc x) high xs r.1 in (r.0, omega arith)
rises_at low high (x ∷ xs) (suc i) r h =
    let t = rises_at (suc x) high xs i r.1 (omega arith) in (omega (arith, r.0, t.0), t.1)

-- ---- how often a number occurs

abbrev pub times : ℕ → List ℕ → ℕ
times a xs = count_by (λ q. nat_eq q a) xs

pub times-cons : (a x : ℕ) (xs : List ℕ) → times a (x ∷ xs) ≡ cond (nat_eq x a) 1 0 + times a xs
times-cons a x xs = sum_by-cons (λ q. cond (nat_eq q a) 1 0) x xs

pub times-append : (a : ℕ) (xs ys : List ℕ) → times a (xs ++ ys) ≡ times a xs + times a ys
times-append a xs ys = sum_by-append (λ q. cond (nat_eq q a) 1 0) xs ys

pub times_below : (a low high : ℕ) (xs : List ℕ) → Rises low high xs → a < low → times a xs ≡ 0
times_below a low high [] r h = refl
times_below a low high (x ∷ xs) r h =
    let n : nat_eq x a ≡ false = ne_eqb x a (λ e. omega (arith, r.0)) in
    times-cons a x xs ∙ ap (λ (t : Bool). cond t 1 0 + times a xs) n ∙ omega (arith, times_below a (suc x) high xs r.1 (omega (arith, r.0)))

pub times_once : (a low high : ℕ) (xs : List ℕ) → Rises low high xs → times a xs ≤ 1
times_once a low high [] r = omega arith
times_once a low high (x ∷ xs) r = at (nat_eq x a) refl (times_once a (suc x) high xs r.1)
  where
    at : (t : Bool) → nat_eq x a ≡ t → times a xs ≤ 1 → times a (x ∷ xs) ≤ 1
    at true e z' = let f : x ≡ a = eqb-true x a e in
        let z : times a xs ≡ 0 = times_below a (suc x) high xs r.1 (omega arith) in
        let k : times a (x ∷ xs) ≡ 1 + times a xs = times-cons a x xs ∙ ap (λ (t : Bool). cond t 1 0 + times a xs) e in omega arith
    at false e z =
        let k : times a (x ∷ xs) ≡ 0 + times a xs = times-cons a x xs ∙ ap (λ (t : Bool). cond t 1 0 + times a xs) e in omega arith

pub times_found : (a : ℕ) (xs : List ℕ) (i : ℕ) → i < length xs → get_or xs i 0 ≡ a → 1 ≤ times a xs
times_found a [] i h e = absurd (omega arith)
times_found a (x ∷ xs) zero h e =
    let k : times a (x ∷ xs) ≡ 1 + times a xs = times-cons a x xs ∙ ap (λ (t : Bool). cond t 1 0 + times a xs) (eq-eqb x a e) in omega arith
times_found a (x ∷ xs) (suc i) h e =
    let r : 1 ≤ times a xs = times_found a xs i (omega arith) e in omega (arith, times-cons a x xs)

-- ---- a count whose test changes at one number

pub count-cons : (p : ℕ → Bool) (x : ℕ) (xs : List ℕ) → count_by p (x ∷ xs) ≡ cond (p x) 1 0 + count_by p xs
count-cons p x xs = sum_by-cons (λ q. cond (p q) 1 0) x xs

-- p' passes a and p doesn't, and they agree on all others
pub count_one_more : (p p' : ℕ → Bool) (a : ℕ) → p a ≡ false → p' a ≡ true → ((q : ℕ) → (q ≡ a → ⊥) → p' q ≡ p q) → (xs : List ℕ) → count_by p' xs ≡ count_by p xs + times a xs
count_one_more p p' a fails passes same [] = refl
count_one_more p p' a fails passes same (x ∷ xs) =
    let r : count_by p' xs ≡ count_by p xs + times a xs = count_one_more p p' a fails passes same xs in at (nat_eq x a) refl r
  where
    at : (t : Bool) → nat_eq x a ≡ t → count_by p' xs ≡ count_by p xs + times a xs → count_by p' (x ∷ xs) ≡ count_by p (x ∷ xs) + times a (x ∷ xs)
    at true e r =
        let f : x ≡ a = eqb-true x a e in
        let u : count_by p' (x ∷ xs) ≡ 1 + count_by p' xs = count-cons p' x xs ∙ ap (λ (t : Bool). cond t 1 0 + count_by p' xs) (ap p' f ∙ passes) in
        let v : count_by p (x ∷ xs) ≡ 0 + count_by p xs = count-cons p x xs ∙ ap (λ (t : Bool). cond t 1 0 + count_by p xs) (ap p f ∙ fails) in
        let w : times a (x ∷ xs) ≡ 1 + times a xs = times-cons a x xs ∙ ap (λ (t : Bool). cond t 1 0 + times a xs) e in omega arith
    at false e r =
        let u : count_by p' (x ∷ xs) ≡ cond (p x) 1 0 + count_by p' xs = count-cons p' x xs ∙ ap (λ (t : Bool). cond t 1 0 + count_by p' xs) (same x (eqb-false x a e)) in
        let w : times a (x ∷ xs) ≡ 0 + times a xs = times-cons a x xs ∙ ap (λ (t : Bool). cond t 1 0 + times a xs) e in omega (arith, count-cons p x xs)

pub count_same : (p p' : ℕ → Bool) → ((q : ℕ) → p' q ≡ p q) → (xs : List ℕ) → count_by p' xs ≡ count_by p xs
count_same p p' same [] = refl
count_same p p' same (x ∷ xs) = count-cons p' x xs ∙ ap (λ (t : Bool). cond t 1 0 + count_by p' xs) (same x) ∙ ap (λ (n : ℕ). cond (p x) 1 0 + n) (count_same p p' same xs) ∙ sym (count-cons p x xs)

pub count-append : (p : ℕ → Bool) (xs ys : List ℕ) → count_by p (xs ++ ys) ≡ count_by p xs + count_by p ys
count-append p xs ys = sum_by-append (λ q. cond (p q) 1 0) xs ys

-- no number of a rising list passes a test that fails from low on
pub count_none : (p : ℕ → Bool) (low high : ℕ) → ((q : ℕ) → low ≤ q → p q ≡ false) → (xs : List ℕ) → Rises low high xs → count_by p xs ≡ 0
count_none p low high none [] r = refl
count_none p low high none (x ∷ xs) r =
    count-cons p x xs ∙ ap (λ (t : Bool). cond t 1 0 + count_by p xs) (none x r.0)
    ∙ omega (arith, count_none p (suc x) high (λ q h. none q (omega (arith, r.0))) xs r.1)

-- where not all pass, one fails
pub one_fails : (p : ℕ → Bool) (xs : List ℕ) → count_by p xs < length xs → (k : ℕ) × (k < length xs) × (p (get_or xs k 0) ≡ false)
one_fails p [] h = absurd (omega arith)
one_fails p (x ∷ xs) h = at (p x) refl (one_fails p xs)
  where
    at : (t : Bool) → p x ≡ t → (count_by p xs < length xs → (k : ℕ) × (k < length xs) × (p (get_or xs k 0) ≡ false)) → (k : ℕ) × (k < suc (length xs)) × (p (get_or (x ∷ xs) k 0) ≡ false)
    at false e r = (0, omega arith, e)
    at true e r =
        let u : count_by p (x ∷ xs) ≡ 1 + count_by p xs = count-cons p x xs ∙ ap (λ (t : Bool). cond t 1 0 + count_by p xs) e in
        let k = r (omega (arith, u, h)) in (suc k.0, omega (arith, k.1), k.2)
