use Rattle.std.proofs.Common.{ℕ, ◌/◌, ◌*◌, ◌+◌, sym, ap, ◌∙◌}
use Rattle.rand_pcg.specs.Lcg.{Lcg}
use Rattle.rand_pcg.specs.Pcg.{pcg32}
use Rattle.miniheap.specs.WordList.{generator_of}
use Rattle.miniheap.proofs.WordLemmas.{after-zero, after-one, or_one}
use Rattle.miniheap.proofs.seeded.Words.new.Goals as goal

pub returns : goal.returns
returns c =
    let e = c.next_word-canary.ensures ∙ ap (λ (g : Lcg). pcg32 g) c.new-generator.ensures in
    record {
      canary =
          or_one c.next_word-canary.result
          ∙ ap (λ (p : ℕ × Lcg). p.0 / 2 * 2 + 1) e
          ∙ ap (λ (g : Lcg). (pcg32 g).0 / 2 * 2 + 1) (sym (after-zero (generator_of c.args.seed)));
      generator = ap (λ (p : ℕ × Lcg). p.1) e ∙ sym (after-one (generator_of c.args.seed));
    }
