-- The words of a seed (docs/heap-layout.md, "Words").
use Rattle.std.specs.Prelude.{◌≡◌, ℕ, zero, suc, ◌+◌, ◌*◌, ◌/◌}
use Rattle.rand_pcg.specs.Lcg.{Lcg, started, increment_of}
use Rattle.rand_pcg.specs.Pcg.{pcg32, multiplier_64}

-- a generator after so many of its words
unfoldable pub after : Lcg → ℕ → Lcg
after g zero = g
after g (suc n) = (pcg32 (after g n)).1

-- a generator's word of that number, from 0
abbrev pub word_from : Lcg → ℕ → ℕ
word_from g n = (pcg32 (after g n)).0

-- the PCG32 generator of a seed, on stream 0
abbrev pub generator_of : ℕ → Lcg
generator_of seed = started 64 multiplier_64 seed (increment_of 64 0)

-- the seed's word of that number: its generator's successive outputs
abbrev pub word_of : ℕ → ℕ → ℕ
word_of seed n = word_from (generator_of seed) n

-- the canary is word 0 with bit 0 set
abbrev pub canary_of : ℕ → ℕ
canary_of seed = word_of seed 0 / 2 * 2 + 1

-- what is kept of a seed's words: the canary, and the generator of those that aren't spent
pub record WordList : Type 0 where
  pub canary : ℕ
  pub generator : Lcg

-- these are the words of a seed of which so many are spent on draws, word 1 first
pub record HasSpent (words : WordList) (seed spent : ℕ) : Type 0 where
  pub canary : words.canary ≡ canary_of seed
  pub generator : words.generator ≡ after (generator_of seed) (spent + 1)

-- the words of the draws to come
abbrev pub draws_of : (seed spent : ℕ) → ℕ → ℕ
draws_of seed spent n = word_of seed (spent + 1 + n)
