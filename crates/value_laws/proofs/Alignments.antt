-- Alignments: words cut in two at a power of two from 16 to 4,096.
use Rattle.std.proofs.Common.{◌≡◌, ℕ, ◌+◌, ◌-◌, ◌*◌, ◌%◌, ◌/◌, ◌^◌, ◌<◌, ◌≤◌, ◌⊎◌, inl, inr, sym, subst, arith}
use Rattle.std.specs.Prelude.{bit_and, bit_or, bit_xor}
use Rattle.std.specs.Int.Bits.{or_zero_r, xor_zero_r}
use Rattle.std.proofs.lemmas.Bool.{cases_lt}
use Rattle.std.proofs.lemmas.Nat.{and_mod, and_le_r, and_block, or_block, xor_block, and_mask}

-- what is above the lowest k bits of a word, and what they are
pub record Cut (k : ℕ) : Type 0 where
  pub whole : (x : ℕ) → x / 2 ^ k * 2 ^ k + x % 2 ^ k ≡ x
  pub low : (x : ℕ) → x % 2 ^ k < 2 ^ k
  pub small : (x : ℕ) → x < 2 ^ k → x % 2 ^ k ≡ x
  pub top : (x : ℕ) → x < 2 ^ 32 → x / 2 ^ k % 2 ^ (32 - k) ≡ x / 2 ^ k
  pub mask : (n : ℕ) → n < 2 ^ 32 → 2 ^ 32 - 2 ^ k ≤ n → (2 ^ (32 - k) - 1) * 2 ^ k + n % 2 ^ k ≡ n
  -- a place at d from an address that is a multiple
  pub place : (at d a : ℕ) → at % 2 ^ k ≡ 0 → a ≡ (at + d) % 2 ^ 32 → a % 2 ^ k ≡ d % 2 ^ k
  pub above : (at d a q : ℕ) → at % 2 ^ k ≡ 0 → d < 2 ^ 32 → a ≡ (at + d) % 2 ^ 32 → q < 2 ^ k → a / 2 ^ k * 2 ^ k + q ≡ (at + (d / 2 ^ k * 2 ^ k + q)) % 2 ^ 32
  pub fits : (d q : ℕ) → d < 2 ^ 32 → q < 2 ^ k → d / 2 ^ k * 2 ^ k + q < 2 ^ 32
  pub sixteen : (x : ℕ) → x % 2 ^ k ≡ 0 → x % 16 ≡ 0

-- ---- of each alignment, since division by a constant is decided

cut_4 : Cut 4
cut_4 = record { whole = λ x. omega arith; low = λ x. omega arith; small = λ x h. omega arith; top = λ x h. omega arith; mask = λ n h k. omega arith; place = λ at d a h e. omega (arith, h, e); above = λ at d a q h f e s. omega (arith, h, f, e, s); fits = λ d q h s. omega (arith, h, s); sixteen = λ x h. omega (arith, h) }

cut_5 : Cut 5
cut_5 = record { whole = λ x. omega arith; low = λ x. omega arith; small = λ x h. omega arith; top = λ x h. omega arith; mask = λ n h k. omega arith; place = λ at d a h e. omega (arith, h, e); above = λ at d a q h f e s. omega (arith, h, f, e, s); fits = λ d q h s. omega (arith, h, s); sixteen = λ x h. omega (arith, h) }

cut_6 : Cut 6
cut_6 = record { whole = λ x. omega arith; low = λ x. omega arith; small = λ x h. omega arith; top = λ x h. omega arith; mask = λ n h k. omega arith; place = λ at d a h e. omega (arith, h, e); above = λ at d a q h f e s. omega (arith, h, f, e, s); fits = λ d q h s. omega (arith, h, s); sixteen = λ x h. omega (arith, h) }

cut_7 : Cut 7
cut_7 = record { whole = λ x. omega arith; low = λ x. omega arith; small = λ x h. omega arith; top = λ x h. omega arith; mask = λ n h k. omega arith; place = λ at d a h e. omega (arith, h, e); above = λ at d a q h f e s. omega (arith, h, f, e, s); fits = λ d q h s. omega (arith, h, s); sixteen = λ x h. omega (arith, h) }

cut_8 : Cut 8
cut_8 = record { whole = λ x. omega arith; low = λ x. omega arith; small = λ x h. omega arith; top = λ x h. omega arith; mask = λ n h k. omega arith; place = λ at d a h e. omega (arith, h, e); above = λ at d a q h f e s. omega (arith, h, f, e, s); fits = λ d q h s. omega (arith, h, s); sixteen = λ x h. omega (arith, h) }

cut_9 : Cut 9
cut_9 = record { whole = λ x. omega arith; low = λ x. omega arith; small = λ x h. omega arith; top = λ x h. omega arith; mask = λ n h k. omega arith; place = λ at d a h e. omega (arith, h, e); above = λ at d a q h f e s. omega (arith, h, f, e, s); fits = λ d q h s. omega (arith, h, s); sixteen = λ x h. omega (arith, h) }

cut_10 : Cut 10
cut_10 = record { whole = λ x. omega arith; low = λ x. omega arith; small = λ x h. omega arith; top = λ x h. omega arith; mask = λ n h k. omega arith; place = λ at d a h e. omega (arith, h, e); above = λ at d a q h f e s. omega (arith, h, f, e, s); fits = λ d q h s. omega (arith, h, s); sixteen = λ x h. omega (arith, h) }

cut_11 : Cut 11
cut_11 = record { whole = λ x. omega arith; low = λ x. omega arith; small = λ x h. omega arith; top = λ x h. omega arith; mask = λ n h k. omega arith; place = λ at d a h e. omega (arith, h, e); above = λ at d a q h f e s. omega (arith, h, f, e, s); fits = λ d q h s. omega (arith, h, s); sixteen = λ x h. omega (arith, h) }

cut_12 : Cut 12
cut_12 = record { whole = λ x. omega arith; low = λ x. omega arith; small = λ x h. omega arith; top = λ x h. omega arith; mask = λ n h k. omega arith; place = λ at d a h e. omega (arith, h, e); above = λ at d a q h f e s. omega (arith, h, f, e, s); fits = λ d q h s. omega (arith, h, s); sixteen = λ x h. omega (arith, h) }

pub cut : (k : ℕ) → 4 ≤ k → k ≤ 12 → Cut k
cut k lo hi = from_4 (cases_lt k 5)
  where
    at : (n : ℕ) → k ≡ n → Cut n → Cut k
    at n e c = subst Cut (sym e) c

    from_11 : (k < 12) ⊎ (12 ≤ k) → 11 ≤ k → Cut k
    from_11 (inl h) l = at 11 (omega arith) cut_11
    from_11 (inr h) l = at 12 (omega arith) cut_12

    from_10 : (k < 11) ⊎ (11 ≤ k) → 10 ≤ k → Cut k
    from_10 (inl h) l = at 10 (omega arith) cut_10
    from_10 (inr h) l = from_11 (cases_lt k 12) h

    from_9 : (k < 10) ⊎ (10 ≤ k) → 9 ≤ k → Cut k
    from_9 (inl h) l = at 9 (omega arith) cut_9
    from_9 (inr h) l = from_10 (cases_lt k 11) h

    from_8 : (k < 9) ⊎ (9 ≤ k) → 8 ≤ k → Cut k
    from_8 (inl h) l = at 8 (omega arith) cut_8
    from_8 (inr h) l = from_9 (cases_lt k 10) h

    from_7 : (k < 8) ⊎ (8 ≤ k) → 7 ≤ k → Cut k
    from_7 (inl h) l = at 7 (omega arith) cut_7
    from_7 (inr h) l = from_8 (cases_lt k 9) h

    from_6 : (k < 7) ⊎ (7 ≤ k) → 6 ≤ k → Cut k
    from_6 (inl h) l = at 6 (omega arith) cut_6
    from_6 (inr h) l = from_7 (cases_lt k 8) h

    from_5 : (k < 6) ⊎ (6 ≤ k) → 5 ≤ k → Cut k
    from_5 (inl h) l = at 5 (omega arith) cut_5
    from_5 (inr h) l = from_6 (cases_lt k 7) h

    from_4 : (k < 5) ⊎ (5 ≤ k) → Cut k
    from_4 (inl h) = at 4 (omega arith) cut_4
    from_4 (inr h) = from_5 (cases_lt k 6) h

-- ---- operations on the lowest k bits

pub and_low : (k : ℕ) → Cut k → (x n : ℕ) → n < 2 ^ k → bit_and x n ≡ bit_and (x % 2 ^ k) n
and_low k c x n h =
    let e : n % 2 ^ k ≡ n = c.small n h in
    let s : bit_and x n % 2 ^ k ≡ bit_and x n = c.small (bit_and x n) (omega (arith, and_le_r x n)) in
    let t : bit_and x n % 2 ^ k ≡ bit_and (x % 2 ^ k) (n % 2 ^ k) = and_mod x n k in
    cc

pub and_high : (k : ℕ) → Cut k → (x n : ℕ) → x < 2 ^ 32 → n < 2 ^ 32 → 2 ^ 32 - 2 ^ k ≤ n → bit_and x n ≡ x / 2 ^ k * 2 ^ k + bit_and (x % 2 ^ k) (n % 2 ^ k)
and_high k c x n hx hn h =
    let ex : x / 2 ^ k * 2 ^ k + x % 2 ^ k ≡ x = c.whole x in
    let en : (2 ^ (32 - k) - 1) * 2 ^ k + n % 2 ^ k ≡ n = c.mask n hn h in
    let t : bit_and (x / 2 ^ k * 2 ^ k + x % 2 ^ k) ((2 ^ (32 - k) - 1) * 2 ^ k + n % 2 ^ k) ≡ bit_and (x / 2 ^ k) (2 ^ (32 - k) - 1) * 2 ^ k + bit_and (x % 2 ^ k) (n % 2 ^ k) =
    and_block k (x / 2 ^ k) (2 ^ (32 - k) - 1) (x % 2 ^ k) (n % 2 ^ k) (c.low x) (c.low n) in
    let m : bit_and (x / 2 ^ k) (2 ^ (32 - k) - 1) ≡ x / 2 ^ k % 2 ^ (32 - k) = and_mask (x / 2 ^ k) (32 - k) in
    let u : x / 2 ^ k % 2 ^ (32 - k) ≡ x / 2 ^ k = c.top x hx in
    cc

pub or_low : (k : ℕ) → Cut k → (x n : ℕ) → n < 2 ^ k → bit_or x n ≡ x / 2 ^ k * 2 ^ k + bit_or (x % 2 ^ k) n
or_low k c x n h =
    let ex : x / 2 ^ k * 2 ^ k + x % 2 ^ k ≡ x = c.whole x in
    let en : 0 * 2 ^ k + n ≡ n = omega arith in
    let t : bit_or (x / 2 ^ k * 2 ^ k + x % 2 ^ k) (0 * 2 ^ k + n) ≡ bit_or (x / 2 ^ k) 0 * 2 ^ k + bit_or (x % 2 ^ k) n = or_block k (x / 2 ^ k) 0 (x % 2 ^ k) n (c.low x) h in
    let z : bit_or (x / 2 ^ k) 0 ≡ x / 2 ^ k = or_zero_r (x / 2 ^ k) in
    cc

pub xor_low : (k : ℕ) → Cut k → (x n : ℕ) → n < 2 ^ k → bit_xor x n ≡ x / 2 ^ k * 2 ^ k + bit_xor (x % 2 ^ k) n
xor_low k c x n h =
    let ex : x / 2 ^ k * 2 ^ k + x % 2 ^ k ≡ x = c.whole x in
    let en : 0 * 2 ^ k + n ≡ n = omega arith in
    let t : bit_xor (x / 2 ^ k * 2 ^ k + x % 2 ^ k) (0 * 2 ^ k + n) ≡ bit_xor (x / 2 ^ k) 0 * 2 ^ k + bit_xor (x % 2 ^ k) n = xor_block k (x / 2 ^ k) 0 (x % 2 ^ k) n (c.low x) h in
    let z : bit_xor (x / 2 ^ k) 0 ≡ x / 2 ^ k = xor_zero_r (x / 2 ^ k) in
    cc
