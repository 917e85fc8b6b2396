use Rattle.std.proofs.Common.{◌≡◌, ◌+◌, sym, ap, ◌∙◌, subst, arith}
use Rattle.miniheap.specs.WordList.{WordList, HasSpent, word_of}
use Rattle.miniheap.proofs.WordLemmas.{spent_word, spend}
use Rattle.miniheap.proofs.seeded.Words.next.Goals as goal

pub returns-clause-word : goal.returns-clause-word
returns-clause-word c =
    λ seed spent h. c.step.ensures.word ∙ spent_word c.args.self.now seed spent h 0 ∙ ap (word_of seed) (let e : spent + 1 + 0 ≡ spent + 1 = omega arith in e)

pub returns-clause-spends : goal.returns-clause-spends
returns-clause-spends c = λ seed spent h. subst (λ (w : WordList). HasSpent w seed (spent + 1)) (sym c.step.ensures.spends) (spend c.args.self.now seed spent h 1)
