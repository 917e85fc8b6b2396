use Rattle.std.proofs.Common.{refl}
use Rattle.exact_heap.specs.Calls.{usual, allocate, malloc}
use Rattle.exact_heap.specs.Stands.{rules_in}
use Rattle.exact_heap.proofs.Alignments.{usual_is}
use Rattle.exact_heap.proofs.Parting.{one_call}
use Rattle.exact_heap.proofs.Sound.{call_sound}
use Rattle.exact_heap.proofs.parts.Parts.malloc.Goals as goal

pub allocate-requires-clause-align : goal.allocate-requires-clause-align
allocate-requires-clause-align c = usual_is

pub allocate-requires-clause-sound : goal.allocate-requires-clause-sound
allocate-requires-clause-sound c = call_sound c.args.self.now c.requires.sound

pub returns : goal.returns
unfolding malloc
returns c =
    let rules = rules_in c.args.self.now in
    one_call (allocate rules rules.zero usual c.args.size c.args.site) (malloc rules c.args.size c.args.site) c.args.self.now c.allocate.new.self c.args.space.now c.allocate.new.space c.allocate.result (λ s. refl) c.allocate.ensures
