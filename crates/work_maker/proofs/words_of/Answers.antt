use Rattle.std.proofs.Common.{◌≡◌, ℕ, List, IfOk, subst}
use Rattle.work_maker.proofs.Drawn.{words-made}
use Rattle.work_maker.proofs.words_of.Goals as goal

pub returns-clause-made : goal.returns-clause-made
returns-clause-made c =
    subst (λ (made : List ℕ). IfOk c.encoded.result (λ words. words.items ≡ made))
    (words-made c.args.n c.from.result c.new-draws.result c.in_ok-code.code.items c.deref.result.now c.from.ensures c.new-draws.ensures c.in_ok-code.ensures.made c.deref.ensures.value)
    c.encoded.ensures
