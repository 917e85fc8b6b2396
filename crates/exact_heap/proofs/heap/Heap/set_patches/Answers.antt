use Rattle.std.proofs.Common.{refl}
use Rattle.exact_heap.specs.History.{History}
use Rattle.exact_heap.specs.Heaps.{IsSpent, HasHome, rules_of, slots_in, clock_in, calls_in}
use Rattle.exact_heap.proofs.Sound.{sound_then}
use Rattle.exact_heap.proofs.Heaps.{patched}
use Rattle.exact_heap.proofs.heap.Heap.set_patches.Goals as goal

pub invariant_of-self : goal.invariant_of-self
invariant_of-self c = (tt, tt, (sound_then c.args.self.now.parts (record c.args.self.now.parts { rules = record c.args.self.now.parts.rules { patches = c.args.patches } }) (λ (h : History). h) (λ h st. patched c.args.self.now.parts h c.args.patches st) c.args.self.now.sound, tt))

pub returns-clause-rules : goal.returns-clause-rules
unfolding rules_of
returns-clause-rules c = refl

pub returns-clause-spent : goal.returns-clause-spent
unfolding IsSpent
returns-clause-spent c s = s

pub returns-clause-home : goal.returns-clause-home
unfolding HasHome
returns-clause-home c space home = home

pub returns-clause-slots : goal.returns-clause-slots
unfolding slots_in
returns-clause-slots c = refl

pub returns-clause-clock : goal.returns-clause-clock
unfolding clock_in
returns-clause-clock c = refl

pub returns-clause-calls : goal.returns-clause-calls
unfolding calls_in
returns-clause-calls c = refl
