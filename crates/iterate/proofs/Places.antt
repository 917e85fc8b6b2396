-- How far the runs of a repair read.
use Rattle.std.proofs.Common.{◌≡◌, ℕ, zero, suc, ◌+◌, ◌-◌, ◌<◌, ◌≤◌, ◌⊎◌, inl, inr, max, nat_eq, Bool, true, false, List, [], ◌∷◌, ◌++◌, map, refl, ap, ◌∙◌, arith}
use Rattle.std.specs.List.{range_with_len}
use Rattle.std.proofs.lemmas.Bool.Decides.{nat_tests}
use Rattle.std.proofs.lemmas.List.FromFn.{map-range_with_len_more}
use Rattle.iterate.specs.Reruns.{highest}

highest-more : (xs : List ℕ) (x : ℕ) → highest (xs ++ x ∷ []) ≡ max (highest xs) x
highest-more [] x = omega arith
highest-more (y ∷ ys) x = omega (arith, highest-more ys x)

-- one run more
pub more-places : (f : ℕ → ℕ) (i : ℕ) → 1 ≤ i → highest (map f (range_with_len 1 (i + 1 - 1))) ≡ max (highest (map f (range_with_len 1 (i - 1)))) (f i)
more-places f i from =
    let here : 1 + (i - 1) ≡ i = omega (arith, from) in
    let next : i + 1 - 1 ≡ (i - 1) + 1 = omega (arith, from) in
    ap (λ n. highest (map f (range_with_len 1 n))) next ∙ ap highest (map-range_with_len_more f 1 (i - 1) i here) ∙ highest-more (map f (range_with_len 1 (i - 1))) (f i)

-- each of them is among the places
pub reached : (f : ℕ → ℕ) (from n i : ℕ) → from ≤ i → i < from + n → f i ≤ highest (map f (range_with_len from n))
reached f from zero i least most = absurd (omega (arith, least, most))
reached f from (suc n) i least most =
    elim (two-ways from i least) [
      | inl here ↦ (
          let same : f i ≡ f from = ap f here in
          omega (arith, same))
      | inr later ↦ (
          let rest = reached f (from + 1) n i later (omega (arith, most)) in
          omega (arith, rest))
    ]
  where
    two-ways : (a b : ℕ) → a ≤ b → (b ≡ a) ⊎ (a + 1 ≤ b)
    two-ways a b less = go (nat_eq b a) refl
      where
        go : (t : Bool) → nat_eq b a ≡ t → (b ≡ a) ⊎ (a + 1 ≤ b)
        go true is = inl (grind (arith, nat_tests))
        go false is = inr (grind (arith, nat_tests))
