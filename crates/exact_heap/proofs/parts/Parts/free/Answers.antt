use Rattle.std.proofs.Common.{◌+◌, sym, ap, ◌∙◌, refl, subst, Option}
use Rattle.rv_memory.specs.Spaces.{memory_of}
use Rattle.exact_heap.specs.declared.parts.Parts.{Parts}
use Rattle.exact_heap.specs.History.{History}
use Rattle.exact_heap.specs.Owners.{Owner, owner_of}
use Rattle.exact_heap.specs.Calls.{called, freed_if, free}
use Rattle.exact_heap.specs.Stands.{PartsStandFor, IsAt, state_at, rules_in}
use Rattle.exact_heap.proofs.Sound.{call_sound, sound_order}
use Rattle.exact_heap.proofs.Standing.{called_stands}
use Rattle.exact_heap.proofs.Addresses.{owner_of_row}
use Rattle.exact_heap.proofs.Freed.{OwnerAt, owner_at}
use Rattle.exact_heap.proofs.parts.Parts.free.Goals as goal

pub owner-requires : goal.owner-requires
owner-requires c = sound_order _ (call_sound c.args.self.now c.requires.sound)

pub free_owned-requires-clause-sound : goal.free_owned-requires-clause-sound
free_owned-requires-clause-sound c = call_sound c.args.self.now c.requires.sound

pub returns-in-Some-clause-leaves : goal.returns-in-Some-clause-leaves
unfolding free
returns-in-Some-clause-leaves c h st =
    let q : Parts = record c.args.self.now { counts = record c.args.self.now.counts { calls = c.args.self.now.counts.calls + 1 } } in
    let k : History = record h { calls = h.calls + 1 } in
    let sk : PartsStandFor q k = called_stands c.args.self.now h st in
    let w : OwnerAt k c.in-Some.holding.slot.addr c.in-Some.holding.row = owner_at q k c.in-Some.holding.slot.addr c.in-Some.holding.row sk c.in-Some.ensures.row c.in-Some.ensures.owned in
    subst (λ (o : Option Owner). IsAt (freed_if (rules_in c.args.self.now) c.args.site o (called (state_at h c.args.space.now))) c.free_owned.new.self (memory_of c.free_owned.new.space)) (sym (ap (owner_of k.objects) (sym c.in-Some.ensures.address) ∙ owner_of_row c.slot_laws.ensures q k c.in-Some.holding.slot.addr c.in-Some.holding.row sk w))
    (c.free_owned.ensures.freed k w.owner sk w.is_last)

pub returns-in_default-clause-leaves : goal.returns-in_default-clause-leaves
unfolding free
returns-in_default-clause-leaves c h st =
    let q : Parts = record c.args.self.now { counts = record c.args.self.now.counts { calls = c.args.self.now.counts.calls + 1 } } in
    let k : History = record h { calls = h.calls + 1 } in
    let sk : PartsStandFor q k = called_stands c.args.self.now h st in
    subst (λ (o : Option Owner). IsAt (freed_if (rules_in c.args.self.now) c.args.site o (called (state_at h c.args.space.now))) q (memory_of c.args.space.now)) (sym (c.in_default.ensures.none k sk.lawful sk.slots))
    (record { stands = sk; bytes = refl })

pub returns-in_default-clause-sound : goal.returns-in_default-clause-sound
returns-in_default-clause-sound c = call_sound c.args.self.now c.requires.sound
