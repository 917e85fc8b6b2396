use Rattle.std.proofs.Common.{ℕ, sym, ap, ◌∙◌}
use Rattle.rand_pcg.specs.Lcg.{Lcg}
use Rattle.rand_pcg.specs.Pcg.{pcg32}
use Rattle.miniheap.specs.WordList.{WordList}
use Rattle.miniheap.proofs.WordLemmas.{after-zero, after-one}
use Rattle.miniheap.proofs.seeded.Words.step.Goals as goal

pub returns-clause-word : goal.returns-clause-word
returns-clause-word c =
    ap (λ (p : ℕ × Lcg). p.0) c.next_word.ensures
    ∙ ap (λ (w : WordList). (pcg32 w.generator).0) c.self.view_is
    ∙ ap (λ (g : Lcg). (pcg32 g).0) (sym (after-zero c.args.self.now.generator))

pub returns-clause-spends : goal.returns-clause-spends
returns-clause-spends c =
    ap (λ (p : ℕ × Lcg). let w : WordList = record { canary = c.self.inside.canary; generator = p.1 } in w) c.next_word.ensures
    ∙ ap (λ (w : WordList). record w { generator = (pcg32 w.generator).1 }) c.self.view_is
    ∙ ap (λ (g : Lcg). record c.args.self.now { generator = g }) (sym (after-one c.args.self.now.generator))
