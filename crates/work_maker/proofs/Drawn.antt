-- The words of a stream are those of its generator.
use Rattle.std.proofs.Common.{◌≡◌, ℕ, zero, suc, ◌+◌, ◌%◌, List, map, refl, sym, ap, subst, ◌∙◌, add-one}
use mathlib.Core.Path.{fun_ext}
use Rattle.rand_core.specs.Stream.{Stream, next_u32}
use Rattle.rand_core.specs.Steps.{stream_of, steps_u32}
use Rattle.rand_pcg.specs.Lcg.{Lcg, started, increment_of}
use Rattle.rand_pcg.specs.Pcg.{pcg32, multiplier_64}
use Rattle.infinite_heap.specs.declared.instr.Instr.{Instr}
use Rattle.rv_decode.specs.Word.{word_of}
use Rattle.work_maker.specs.Program.{program}
use Rattle.work_maker.specs.Made.{made_words}
use Rattle.work_maker.specs.Draws.{stream_after, word_in, generator_after, draws_of}

-- ---- a stream, word by word

pub stream-first : (s : Stream) → s ≡ stream_after s 0
unfolding stream_after
stream-first s = refl

pub stream-next : (s now next : Stream) (j word : ℕ) → now ≡ stream_after s j → (word, next) ≡ next_u32 now → next ≡ stream_after s (j + 1)
unfolding stream_after
stream-next s now next j word so_far drawn =
    subst (λ (i : ℕ). next ≡ stream_after s i) (sym (add-one j))
    (ap (λ (p : ℕ × Stream). p.1) drawn ∙ ap (λ (t : Stream). (next_u32 t).1) so_far)

pub word-next : (s now next : Stream) (j word : ℕ) → now ≡ stream_after s j → (word, next) ≡ next_u32 now → word_in s j ≡ word
word-next s now next j word so_far drawn =
    sym (ap (λ (p : ℕ × Stream). p.0) drawn ∙ ap (λ (t : Stream). (next_u32 t).0) so_far)

-- ---- the generator's

next-of_generator : (g : Lcg) → next_u32 (stream_of (steps_u32 pcg32) g) ≡ ((pcg32 g).0, stream_of (steps_u32 pcg32) (pcg32 g).1)
unfolding next_u32 stream_of
next-of_generator g = refl

after-of_generator : (g : Lcg) (j : ℕ) → stream_after (stream_of (steps_u32 pcg32) g) j ≡ stream_of (steps_u32 pcg32) (generator_after g j)
unfolding stream_after generator_after
after-of_generator g zero = refl
after-of_generator g (suc j) =
    ap (λ (s : Stream). (next_u32 s).1) (after-of_generator g j) ∙ ap (λ (p : ℕ × Stream). p.1) (next-of_generator (generator_after g j))

word-of_generator : (g : Lcg) (j : ℕ) → word_in (stream_of (steps_u32 pcg32) g) j ≡ (pcg32 (generator_after g j)).0
word-of_generator g j =
    ap (λ (s : Stream). (next_u32 s).0) (after-of_generator g j) ∙ ap (λ (p : ℕ × Stream). p.0) (next-of_generator (generator_after g j))

draws-of_number : (n : ℕ) → word_in (stream_of (steps_u32 pcg32) (started 64 multiplier_64 n (increment_of 64 1))) ≡ draws_of n
draws-of_number n = fun_ext (λ j. word-of_generator (started 64 multiplier_64 n (increment_of 64 1)) j)

pub words-made : (n state : ℕ) (g : Lcg) (code read : List Instr) → state ≡ n → g ≡ started 64 multiplier_64 state (increment_of 64 1)
    → code ≡ program (word_in (stream_of (steps_u32 pcg32) g)) (4096 + n % 4096) → read ≡ code → map word_of read ≡ made_words n
unfolding made_words
words-made n state g code read same generator made reads =
    let started_so : g ≡ started 64 multiplier_64 n (increment_of 64 1) =
    generator ∙ ap (λ (s : ℕ). started 64 multiplier_64 s (increment_of 64 1)) same in
    let draws : word_in (stream_of (steps_u32 pcg32) g) ≡ draws_of n =
    ap (λ (h : Lcg). word_in (stream_of (steps_u32 pcg32) h)) started_so ∙ draws-of_number n in
    let whole : code ≡ program (draws_of n) (4096 + n % 4096) = made ∙ ap (λ (d : ℕ → ℕ). program d (4096 + n % 4096)) draws in
    ap (λ (c : List Instr). map word_of c) (reads ∙ whole)
