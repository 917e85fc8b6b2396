use Rattle.std.proofs.Common.{ap, ◌∙◌}
use Rattle.miniheap.proofs.StateLemmas.{is_read, slot_with}
use Rattle.miniheap.proofs.heap.Grid.slot.Goals as goal

pub get-requires : goal.get-requires
get-requires c = (is_read c.self.inside.places c.self.inside.states.items c.self.inside.taken c.self.invariant c.args.self.now c.self.view_is c.args.place c.requires c.index.result.now c.index.ensures).known

pub returns : goal.returns
returns c =
    ap (slot_with c.args.place) c.get.ensures
    ∙ (is_read c.self.inside.places c.self.inside.states.items c.self.inside.taken c.self.invariant c.args.self.now c.self.view_is c.args.place c.requires c.index.result.now c.index.ensures).slot_is
