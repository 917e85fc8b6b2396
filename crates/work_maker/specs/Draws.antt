-- The draws of a made program: the successive 32-bit outputs of a generator.
use Rattle.std.specs.Prelude.{ℕ, zero, suc}
use Rattle.rand_core.specs.Stream.{Stream, next_u32}
use Rattle.rand_pcg.specs.Lcg.{Lcg, started, increment_of}
use Rattle.rand_pcg.specs.Pcg.{pcg32, multiplier_64}

-- what a stream has left after so many words
unfoldable pub stream_after : Stream → ℕ → Stream
stream_after s zero = s
stream_after s (suc j) = (next_u32 (stream_after s j)).1

-- a stream's word of that number, from 0
abbrev pub word_in : Stream → ℕ → ℕ
word_in s j = (next_u32 (stream_after s j)).0

-- a PCG32 generator after so many words
unfoldable pub generator_after : Lcg → ℕ → Lcg
generator_after g zero = g
generator_after g (suc j) = (pcg32 (generator_after g j)).1

-- the draws of a made program's number: the words of PCG32 with that number as its state, on stream 1
abbrev pub draws_of : ℕ → ℕ → ℕ
draws_of n j = (pcg32 (generator_after (started 64 multiplier_64 n (increment_of 64 1)) j)).0
