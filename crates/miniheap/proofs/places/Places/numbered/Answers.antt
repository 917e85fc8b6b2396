use Rattle.std.proofs.Common.{ap, ◌∙◌}
use Rattle.miniheap.specs.declared.place.SlotPlace.{SlotPlace}
use Rattle.miniheap.proofs.PlaceLemmas.{rows_are, is_nth}
use Rattle.miniheap.proofs.places.Places.numbered.Goals as goal

pub returns-clause-address : goal.returns-clause-address
returns-clause-address c =
    ap (λ (p : SlotPlace). p.addr) c.nth.ensures
    ∙ (is_nth c.self.inside c.args.self.now (rows_are c.self.inside c.self.invariant c.args.self.now c.self.view_is) c.args.class c.args.number c.locate-mini.result c.requires.low c.requires.high c.requires.known c.deref.result.now c.deref.ensures.value
    c.locate-mini.ensures.known c.locate-mini.ensures.class c.locate-mini.ensures.from c.locate-mini.ensures.to c.index.result.now c.index.ensures).address_is
