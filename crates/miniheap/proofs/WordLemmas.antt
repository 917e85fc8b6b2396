-- A generator some words on.
use Rattle.std.proofs.Common.{◌≡◌, ℕ, zero, suc, ◌+◌, ◌*◌, ◌/◌, ◌%◌, ◌^◌, refl, ap, sym, ◌∙◌, arith, bit_or, ◌⊎◌, inl, inr}
use Rattle.std.proofs.lemmas.Nat.{or_block}
use Rattle.std.proofs.lemmas.Bool.{cases_eq}
use Rattle.std.specs.Int.Bits.{or_zero_r}
use Rattle.rand_pcg.specs.Lcg.{Lcg}
use Rattle.rand_pcg.specs.Pcg.{pcg32}
use Rattle.miniheap.specs.WordList.{after, word_from, generator_of, WordList, HasSpent, draws_of}

pub after-zero : (g : Lcg) → after g 0 ≡ g
unfolding after
after-zero g = refl

pub after-suc : (g : Lcg) (n : ℕ) → after g (suc n) ≡ (pcg32 (after g n)).1
unfolding after
after-suc g n = refl

pub after-one : (g : Lcg) → after g 1 ≡ (pcg32 g).1
unfolding after
after-one g = refl

pub after-add : (g : Lcg) (m n : ℕ) → after g (m + n) ≡ after (after g m) n
unfolding after
after-add g m zero = ap (after g) (let e : m + 0 ≡ m = omega arith in e)
after-add g m (suc n) = let e : m + suc n ≡ suc (m + n) = omega arith in rw e (ap (λ (h : Lcg). (pcg32 h).1) (after-add g m n))

-- bit 0 set
pub or_one : (w : ℕ) → bit_or w 1 ≡ w / 2 * 2 + 1
or_one w =
    let e : w ≡ w / 2 * 2 ^ 1 + w % 2 = omega arith in
    let b : bit_or (w / 2 * 2 ^ 1 + w % 2) (0 * 2 ^ 1 + 1) ≡ bit_or (w / 2) 0 * 2 ^ 1 + bit_or (w % 2) 1 = or_block 1 (w / 2) 0 (w % 2) 1 (omega arith) (omega arith) in
    ap (λ (x : ℕ). bit_or x 1) e ∙ b ∙ ap (λ (x : ℕ). x * 2 ^ 1 + bit_or (w % 2) 1) (or_zero_r (w / 2)) ∙ ap (λ (x : ℕ). w / 2 * 2 + x) (low (cases_eq (w % 2) 0))
  where
    low : (w % 2 ≡ 0) ⊎ (w % 2 ≡ 0 → ⊥) → bit_or (w % 2) 1 ≡ 1
    low (inl h) = ap (λ (x : ℕ). bit_or x 1) h
    low (inr h) = let o : w % 2 ≡ 1 = omega arith in ap (λ (x : ℕ). bit_or x 1) o

-- the words that come after some were spent
pub spent_word : (w : WordList) (seed spent : ℕ) → HasSpent w seed spent → (n : ℕ) → word_from w.generator n ≡ draws_of seed spent n
spent_word w seed spent h n = ap (λ (g : Lcg). (pcg32 g).0) (ap (λ (g : Lcg). after g n) h.generator ∙ sym (after-add (generator_of seed) (spent + 1) n))

pub spend : (w : WordList) (seed spent : ℕ) → HasSpent w seed spent → (n : ℕ) → HasSpent (record w { generator = after w.generator n }) seed (spent + n)
spend w seed spent h n = record {
  canary = h.canary;
  generator = ap (λ (g : Lcg). after g n) h.generator ∙ sym (after-add (generator_of seed) (spent + 1) n) ∙ ap (after (generator_of seed)) (let e : spent + 1 + n ≡ spent + n + 1 = omega arith in e);
}
