-- Alignments that objects have.
use Rattle.std.proofs.Common.{◌≡◌, ℕ, zero, suc, ◌+◌, ◌-◌, ◌*◌, ◌/◌, ◌%◌, ◌^◌, ◌<◌, ◌≤◌, refl, ap, sym, subst, ◌∙◌, true, max, nat_le, ◌⊎◌, inl, inr, arith}
use Rattle.std.proofs.Math.Nat.{add-mul, lt_of_mul-lt-mul_right, mod-eq_of_lt, mul-le-mul_right, mul_assoc, pow-le-pow_right}
use Rattle.std.specs.Int.{is_power_of_two, next_multiple_of, IsPowerOfTwo}
use Rattle.std.specs.Int.RustNames.{count_ones}
use Rattle.std.proofs.lemmas.Bool.{and_parts, cases_lt, eqb-true, leb-true}
use Rattle.std.proofs.lemmas.Nat.{div-add-mod', mod_below, mod-mul-add, ones_cat, ones_le_self, pow-add, pow_pos, zero_from_ones}
use Rattle.exact_heap.specs.Calls.{usual, is_alignment}
use Rattle.exact_heap.specs.Lawful.{IsAlignment}

power_from : (fuel n : ℕ) → n ≤ fuel → count_ones n ≡ 1 → IsPowerOfTwo n
power_from zero n h e = absurd (omega (arith, e, ones_le_self n))
power_from (suc fuel) n h e = at (cases_lt (n % 2) 1) (power_from fuel (n / 2))
  where
    parts : n ≡ n / 2 * 2 ^ 1 + n % 2
    parts = omega arith

    ones : count_ones n ≡ count_ones (n / 2) + count_ones (n % 2)
    ones = ap count_ones parts ∙ ones_cat 1 (n / 2) (n % 2) (omega arith)

    one : count_ones 1 ≡ 1
    one = of (cases_lt (count_ones 1) 1)
      where
        of : (count_ones 1 < 1) ⊎ (1 ≤ count_ones 1) → count_ones 1 ≡ 1
        of (inl none) = absurd (omega (arith, zero_from_ones 1 (omega arith)))
        of (inr some) = omega (arith, ones_le_self 1)

    at : (n % 2 < 1) ⊎ (1 ≤ n % 2) → (n / 2 ≤ fuel → count_ones (n / 2) ≡ 1 → IsPowerOfTwo (n / 2)) → IsPowerOfTwo n
    at (inl even) half =
        let k = half (omega (arith, e, ones_le_self n)) (omega (arith, e, ones, ones_le_self (n % 2))) in
        (k.0 + 1, omega (arith, parts, k.1, pow-add 2 k.0 1))
    at (inr odd) half =
        let last : n % 2 ≡ 1 = omega arith in
        let none : n / 2 ≡ 0 = zero_from_ones (n / 2) (omega (arith, e, ones, ap count_ones last, one)) in
        (0, omega (arith, parts, none, last))

pub usual_is : IsAlignment usual
usual_is = record { power = (4, refl); low = omega arith; high = omega arith }

pub asked_is : (align : ℕ) → is_alignment align ≡ true → IsAlignment (max align usual)
asked_is align e = at (cases_lt align 16) (and_parts (is_power_of_two align) (nat_le align 4096) e)
  where
    at : (align < 16) ⊎ (16 ≤ align) → (is_power_of_two align ≡ true) × (nat_le align 4096 ≡ true) → IsAlignment (max align usual)
    at (inl low) k = record { power = (4, omega arith); low = omega arith; high = omega arith }
    at (inr high) k =
        let p = power_from align align (omega arith) (eqb-true (count_ones align) 1 k.0) in
        record { power = (p.0, omega (arith, p.1)); low = omega arith; high = omega (arith, leb-true align 4096 k.1) }

-- ---- multiples

multiple : (n q m : ℕ) → n ≡ q * m → 0 < m → n % m ≡ 0
multiple n q m e pos = ap (λ (x : ℕ). x % m) (let f : n ≡ q * m + 0 = omega (arith, e) in f) ∙ mod-mul-add q m 0 pos

divided : (n m : ℕ) → n % m ≡ 0 → n ≡ n / m * m
divided n m e = let f = div-add-mod' n m in omega (arith, e, f)

-- a sum of a multiple of 2 ^ j and one of 2 ^ k
pub sum_multiple : (n m j k : ℕ) → k ≤ j → n % 2 ^ j ≡ 0 → m % 2 ^ k ≡ 0 → (n + m) % 2 ^ k ≡ 0
sum_multiple n m j k le e f =
    let whole : n ≡ n / 2 ^ j * 2 ^ (j - k) * 2 ^ k =
    divided n (2 ^ j) e ∙ ap (λ (x : ℕ). n / 2 ^ j * 2 ^ x) (let g : j ≡ (j - k) + k = omega arith in g) ∙ ap (λ (x : ℕ). n / 2 ^ j * x) (pow-add 2 (j - k) k) ∙ sym (mul_assoc (n / 2 ^ j) (2 ^ (j - k)) (2 ^ k)) in
    multiple (n + m) (n / 2 ^ j * 2 ^ (j - k) + m / 2 ^ k) (2 ^ k)
    (ap (λ (x : ℕ). x + m) whole ∙ ap (λ (x : ℕ). n / 2 ^ j * 2 ^ (j - k) * 2 ^ k + x) (divided m (2 ^ k) f) ∙ sym (add-mul (n / 2 ^ j * 2 ^ (j - k)) (m / 2 ^ k) (2 ^ k))) (pow_pos k)

-- a power that isn't above another has no greater exponent
pub exponent_below : (k j : ℕ) → 2 ^ k ≤ 2 ^ j → k ≤ j
exponent_below k j h = at (cases_lt j k)
  where
    at : (j < k) ⊎ (k ≤ j) → k ≤ j
    at (inl above) =
        let g : 2 ^ (j + 1) ≤ 2 ^ k = pow-le-pow_right {n = 2} (omega arith) (omega (arith, above)) in
        let d : 2 ^ (j + 1) ≡ 2 ^ j * 2 ^ 1 = pow-add 2 j 1 in
        absurd (omega (arith, g, d, h, pow_pos j))
    at (inr le) = le

-- ---- rounding up

-- the least multiple from a number on
pub record IsRounded (n m r : ℕ) : Type 0 where
  pub whole : r % m ≡ 0
  pub low : n ≤ r
  pub high : r < n + m

pub rounded_is : (n m : ℕ) → 0 < m → IsRounded n m (next_multiple_of n m)
rounded_is n m pos = at (cases_lt (n % m) 1)
  where
    parts : n / m * m + n % m ≡ n
    parts = div-add-mod' n m

    below : n % m < m
    below = mod_below n m pos

    at : (n % m < 1) ⊎ (1 ≤ n % m) → IsRounded n m (next_multiple_of n m)
    at (inl none) =
        let z : n % m ≡ 0 = omega arith in
        let same : (m - n % m) % m ≡ 0 = ap (λ (x : ℕ). (m - x) % m) z ∙ (let f : (m - 0) % m ≡ 0 = multiple (m - 0) 1 m (omega arith) pos in f) in
        let is : next_multiple_of n m ≡ n = omega (arith, same) in
        subst (IsRounded n m) (sym is) (record { whole = z; low = omega arith; high = omega (arith, pos) })
    at (inr some) =
        let rest : (m - n % m) % m ≡ m - n % m = mod-eq_of_lt (omega (arith, some, pos)) in
        let is : next_multiple_of n m ≡ (n / m + 1) * m = omega (arith, rest, parts, below, add-mul (n / m) 1 m) in
        subst (IsRounded n m) (sym is) (record {
          whole = multiple ((n / m + 1) * m) (n / m + 1) m refl pos;
          low = omega (arith, parts, below, add-mul (n / m) 1 m);
          high = omega (arith, parts, some, add-mul (n / m) 1 m);
        })

-- it isn't above a multiple that the number isn't above
pub rounded_below : (n m r q : ℕ) → IsRounded n m r → n ≤ q * m → 0 < m → r ≤ q * m
rounded_below n m r q k le pos =
    let whole : r ≡ r / m * m = divided r m k.whole in
    let less : r / m * m < (q + 1) * m = omega (arith, whole, k.high, le, add-mul q 1 m) in
    let few : r / m ≤ q = omega (arith, lt_of_mul-lt-mul_right m less) in
    omega (arith, whole, mul-le-mul_right m few)
