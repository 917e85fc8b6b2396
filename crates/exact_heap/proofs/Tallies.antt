-- How many numbers of a list pass a test.
use Rattle.std.proofs.Common.{◌≡◌, ℕ, ◌+◌, refl, ap, ◌∙◌, sym, Bool, true, false, cond, arith, nat_eq, List, [], ◌∷◌, count_by}
use Rattle.std.proofs.lemmas.Bool.{eqb-true, eqb-false}
use Rattle.std.proofs.lemmas.List.Sums.{sum_by-cons}

pub count-cons : (p : ℕ → Bool) (x : ℕ) (xs : List ℕ) → count_by p (x ∷ xs) ≡ cond (p x) 1 0 + count_by p xs
count-cons p x xs = sum_by-cons (λ q. cond (p q) 1 0) x xs

abbrev pub times : ℕ → List ℕ → ℕ
times a xs = count_by (λ q. nat_eq q a) xs

-- p' passes a and p doesn't, and they agree on all others
pub count_one_more : (p p' : ℕ → Bool) (a : ℕ) → p a ≡ false → p' a ≡ true → ((q : ℕ) → (q ≡ a → ⊥) → p' q ≡ p q) → (xs : List ℕ) → count_by p' xs ≡ count_by p xs + times a xs
count_one_more p p' a fails passes same [] = refl
count_one_more p p' a fails passes same (x ∷ xs) =
    let r : count_by p' xs ≡ count_by p xs + times a xs = count_one_more p p' a fails passes same xs in at (nat_eq x a) refl r
  where
    at : (t : Bool) → nat_eq x a ≡ t → count_by p' xs ≡ count_by p xs + times a xs → count_by p' (x ∷ xs) ≡ count_by p (x ∷ xs) + times a (x ∷ xs)
    at true e r =
        let f : x ≡ a = eqb-true x a e in
        let u : count_by p' (x ∷ xs) ≡ 1 + count_by p' xs = count-cons p' x xs ∙ ap (λ (t : Bool). cond t 1 0 + count_by p' xs) (ap p' f ∙ passes) in
        let v : count_by p (x ∷ xs) ≡ 0 + count_by p xs = count-cons p x xs ∙ ap (λ (t : Bool). cond t 1 0 + count_by p xs) (ap p f ∙ fails) in
        let w : times a (x ∷ xs) ≡ 1 + times a xs = count-cons (λ q. nat_eq q a) x xs ∙ ap (λ (t : Bool). cond t 1 0 + times a xs) e in omega arith
    at false e r =
        let u : count_by p' (x ∷ xs) ≡ cond (p x) 1 0 + count_by p' xs = count-cons p' x xs ∙ ap (λ (t : Bool). cond t 1 0 + count_by p' xs) (same x (eqb-false x a e)) in
        let w : times a (x ∷ xs) ≡ 0 + times a xs = count-cons (λ q. nat_eq q a) x xs ∙ ap (λ (t : Bool). cond t 1 0 + times a xs) e in omega (arith, count-cons p x xs)

pub count_same : (p p' : ℕ → Bool) → ((q : ℕ) → p' q ≡ p q) → (xs : List ℕ) → count_by p' xs ≡ count_by p xs
count_same p p' same [] = refl
count_same p p' same (x ∷ xs) = count-cons p' x xs ∙ ap (λ (t : Bool). cond t 1 0 + count_by p' xs) (same x) ∙ ap (λ (n : ℕ). cond (p x) 1 0 + n) (count_same p p' same xs) ∙ sym (count-cons p x xs)
