use Rattle.std.proofs.Common.{◌<◌, sym, subst, List, Option}
use Rattle.rv_memory.specs.Spaces.{memory_of}
use Rattle.miniheap.specs.declared.place.Slot.{Slot}
use Rattle.heap_image.specs.declared.image.Broken.{Broken}
use Rattle.heap_image.proofs.Taken.{Walks, bytes_left, walk_begins, walk_found, walk_nears, walk_steps, walk_ends}
use Rattle.heap_image.proofs.broken.broken_of.Goals as goal

pub loop-next-init : goal.loop-next-init
loop-next-init c =
    subst (λ (xs : List Broken). Walks c.args.grid.now (memory_of c.args.space.now) c.args.word c.first-next.result xs) (sym c.new-broken.ensures.items)
    (walk_begins c.slots_have_their_places.ensures.follow c.args.grid.now (memory_of c.args.space.now) c.args.word c.first-next.result c.first-next.ensures.from)

pub put_slot-requires-clause-found : goal.put_slot-requires-clause-found
put_slot-requires-clause-found c =
    walk_found c.slots_have_their_places.ensures.hold c.slots_have_their_places.ensures.within c.args.grid.now (memory_of c.args.space.now) c.args.word c.in-Some.slot c.loop-next.broken.items
    (subst (λ (o : Option Slot). Walks c.args.grid.now (memory_of c.args.space.now) c.args.word o c.loop-next.broken.items) c.in-Some.is c.loop-next.invariant)

pub next-next-requires : goal.next-next-requires
next-next-requires c =
    let found =
    walk_found c.slots_have_their_places.ensures.hold c.slots_have_their_places.ensures.within c.args.grid.now (memory_of c.args.space.now) c.args.word c.in-Some.slot c.loop-next.broken.items
    (subst (λ (o : Option Slot). Walks c.args.grid.now (memory_of c.args.space.now) c.args.word o c.loop-next.broken.items) c.in-Some.is c.loop-next.invariant) in
    record { known = (c.slots_have_their_places.ensures.known c.args.grid.now c.in-Some.slot.addr c.in-Some.slot found).0 }

pub loop-next-smaller : goal.loop-next-smaller
loop-next-smaller c =
    subst (λ (o : Option Slot). bytes_left c.args.grid.now c.next-next.result < bytes_left c.args.grid.now o) (sym c.in-Some.is)
    (walk_nears c.slots_have_their_places.ensures.hold c.slots_have_their_places.ensures.within c.args.grid.now (memory_of c.args.space.now) c.args.word c.in-Some.slot c.loop-next.broken.items c.next-next.result
    (subst (λ (o : Option Slot). Walks c.args.grid.now (memory_of c.args.space.now) c.args.word o c.loop-next.broken.items) c.in-Some.is c.loop-next.invariant) c.next-next.ensures.behind)

pub loop-next-preserved : goal.loop-next-preserved
loop-next-preserved c =
    walk_steps c.slots_have_their_places.ensures.hold c.slots_have_their_places.ensures.within c.args.grid.now (memory_of c.args.space.now) c.args.word c.in-Some.slot c.loop-next.broken.items c.put_slot.new.out.items c.next-next.result
    (subst (λ (o : Option Slot). Walks c.args.grid.now (memory_of c.args.space.now) c.args.word o c.loop-next.broken.items) c.in-Some.is c.loop-next.invariant) c.next-next.ensures.behind c.in_ok-put_slot.ensures

pub returns : goal.returns
returns c =
    walk_ends c.args.grid.now (memory_of c.args.space.now) c.args.word c.loop-next.broken.items
    (subst (λ (o : Option Slot). Walks c.args.grid.now (memory_of c.args.space.now) c.args.word o c.loop-next.broken.items) c.in_default.is c.loop-next.invariant)
