use Rattle.std.proofs.Common.{◌≡◌, sym, ◌∙◌, refl, Bool, true, false, not}
use Rattle.std.proofs.lemmas.Bool.{true≢false}
use Rattle.exact_heap.specs.Heaps.{StandsFor, IsSpent}
use Rattle.exact_heap.specs.History.{History}
use Rattle.exact_heap.specs.declared.heap.Heap.{Heap}
use Rattle.rv_machine.proofs.Carried.{home-of}
use Rattle.rv_machine.proofs.machine.Machine.lives.Goals as goal

pub returns-then-not-self-clause-home : goal.returns-then-not-self-clause-home
returns-then-not-self-clause-home c e = home-of c.args.self.now.heap c.args.self.now.hart c.args.self.now.homely c.if-not-self.true

not_spent : (heap : Heap) (h : History) → StandsFor heap h → (b : Bool) → (b ≡ true → IsSpent heap) → not b ≡ true
unfolding IsSpent
not_spent heap h st true spent = absurd (true≢false (sym (spent refl) ∙ st.lives))
not_spent heap h st false spent = refl

pub returns-then-not-self-clause-known : goal.returns-then-not-self-clause-known
returns-then-not-self-clause-known c g answer a = not_spent c.args.self.now.heap g.history a.history c.is_spent.result c.is_spent.ensures.spent
