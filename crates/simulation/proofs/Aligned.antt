-- The alignments that may be asked for.
use Rattle.std.proofs.Common.{◌≡◌, ℕ, zero, suc, ◌+◌, ◌*◌, ◌/◌, ◌%◌, ◌^◌, ◌<◌, ◌≤◌, refl, ap, sym, ◌∙◌, subst, Bool, true, false, ◌||◌, ◌⊎◌, inl, inr, arith, nat_eq, nat_le, List, [], ◌∷◌}
use Rattle.std.specs.Prelude.{⊤}
use Rattle.std.specs.Int.{is_power_of_two, IsPowerOfTwo}
use Rattle.std.specs.Int.RustNames.{count_ones}
use Rattle.std.specs.List.{list_any}
use Rattle.std.proofs.lemmas.Bool.{true≢false, false_from_ne_true, and_parts, cases_lt, eqb-true, leb-true}
use Rattle.std.proofs.lemmas.Nat.{ones_cat, ones_le_self, pow-add, zero_from_ones}
use Rattle.infinite_heap.specs.Region.{is_valid_alignment, greatest_alignment}
use Rattle.exact_heap.specs.Calls.{is_alignment}
use Rattle.simulation.specs.Agreement.{AlignmentsAreOne}
use Rattle.simulation.proofs.Laid.{exponent_below}

power_from : (fuel n : ℕ) → n ≤ fuel → count_ones n ≡ 1 → IsPowerOfTwo n
power_from zero n h e = absurd (omega (arith, e, ones_le_self n))
power_from (suc fuel) n h e = at (cases_lt (n % 2) 1) (power_from fuel (n / 2))
  where
    parts : n ≡ n / 2 * 2 ^ 1 + n % 2
    parts = omega arith

    ones : count_ones n ≡ count_ones (n / 2) + count_ones (n % 2)
    ones = ap count_ones parts ∙ ones_cat 1 (n / 2) (n % 2) (omega arith)

    one : count_ones 1 ≡ 1
    one = of (cases_lt (count_ones 1) 1)
      where
        of : (count_ones 1 < 1) ⊎ (1 ≤ count_ones 1) → count_ones 1 ≡ 1
        of (inl none) = absurd (omega (arith, zero_from_ones 1 (omega arith)))
        of (inr some) = omega (arith, ones_le_self 1)

    at : (n % 2 < 1) ⊎ (1 ≤ n % 2) → (n / 2 ≤ fuel → count_ones (n / 2) ≡ 1 → IsPowerOfTwo (n / 2)) → IsPowerOfTwo n
    at (inl even) half =
        let k = half (omega (arith, e, ones_le_self n)) (omega (arith, e, ones, ones_le_self (n % 2))) in
        (k.0 + 1, omega (arith, parts, k.1, pow-add 2 k.0 1))
    at (inr odd) half =
        let last : n % 2 ≡ 1 = omega arith in
        let none : n / 2 ≡ 0 = zero_from_ones (n / 2) (omega (arith, e, ones, ap count_ones last, one)) in
        (0, omega (arith, parts, none, last))

listed : (k : ℕ) → k ≤ 12 → is_valid_alignment (2 ^ k) ≡ true
unfolding is_valid_alignment
listed zero h = refl
listed (suc zero) h = refl
listed (suc (suc zero)) h = refl
listed (suc (suc (suc zero))) h = refl
listed (suc (suc (suc (suc zero)))) h = refl
listed (suc (suc (suc (suc (suc zero))))) h = refl
listed (suc (suc (suc (suc (suc (suc zero)))))) h = refl
listed (suc (suc (suc (suc (suc (suc (suc zero))))))) h = refl
listed (suc (suc (suc (suc (suc (suc (suc (suc zero)))))))) h = refl
listed (suc (suc (suc (suc (suc (suc (suc (suc (suc zero))))))))) h = refl
listed (suc (suc (suc (suc (suc (suc (suc (suc (suc (suc zero)))))))))) h = refl
listed (suc (suc (suc (suc (suc (suc (suc (suc (suc (suc (suc zero))))))))))) h = refl
listed (suc (suc (suc (suc (suc (suc (suc (suc (suc (suc (suc (suc zero)))))))))))) h = refl
listed (suc (suc (suc (suc (suc (suc (suc (suc (suc (suc (suc (suc (suc k))))))))))))) h = absurd (omega (arith, h))

-- each number of the list is an alignment
abbrev Each : List ℕ → Type 0
Each [] = ⊤
Each (a ∷ rest) = (is_alignment a ≡ true) × Each rest

from_list : (align : ℕ) (rest : List ℕ) → Each rest → list_any (nat_eq align) rest ≡ true → is_alignment align ≡ true
from_list align [] h e = absurd (true≢false (sym e))
from_list align (a ∷ rest) h e = at (nat_eq align a) refl e (from_list align rest h.1)
  where
    at : (b : Bool) → nat_eq align a ≡ b → (b || list_any (nat_eq align) rest) ≡ true → (list_any (nat_eq align) rest ≡ true → is_alignment align ≡ true) → is_alignment align ≡ true
    at true q k others = subst (λ (x : ℕ). is_alignment x ≡ true) (sym (eqb-true align a q)) h.0
    at false q k others = others k

valid : (align : ℕ) → is_valid_alignment align ≡ true → is_alignment align ≡ true
unfolding is_valid_alignment count_ones
valid align e = from_list align (1 ∷ 2 ∷ 4 ∷ 8 ∷ 16 ∷ 32 ∷ 64 ∷ 128 ∷ 256 ∷ 512 ∷ 1024 ∷ 2048 ∷ greatest_alignment ∷ []) (refl, (refl, (refl, (refl, (refl, (refl, (refl, (refl, (refl, (refl, (refl, (refl, (refl, tt))))))))))))) e

pub alignments_are_one : AlignmentsAreOne
alignments_are_one align = at (is_alignment align) refl
  where
    at : (b : Bool) → is_alignment align ≡ b → b ≡ is_valid_alignment align
    at true e =
        let k = and_parts (is_power_of_two align) (nat_le align 4096) e in
        let p = power_from align align (omega arith) (eqb-true (count_ones align) 1 k.0) in
        sym (ap is_valid_alignment p.1 ∙ listed p.0 (exponent_below p.0 12 (omega (arith, p.1, leb-true align 4096 k.1))))
    at false e = sym (false_from_ne_true (is_valid_alignment align) (λ q. true≢false (sym (valid align q) ∙ e)))
