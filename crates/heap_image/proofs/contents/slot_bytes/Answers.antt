use Rattle.std.proofs.Common.{◌^◌, sym, ap, ◌∙◌, Bool, cond}
use Rattle.std.proofs.lemmas.Bool.{eq-eqb, ne_eqb}
use Rattle.heap_image.proofs.Taken.{bytes_at_slot, slot_bytes_are}
use Rattle.heap_image.proofs.contents.slot_bytes.Goals as goal

pub returns-in-None : goal.returns-in-None
returns-in-None c = sym (slot_bytes_are c.places_hold_the_slots.ensures.slots c.args.grid.now c.args.addr ∙ ap (bytes_at_slot c.args.addr) (sym c.slot_at.ensures.slot ∙ c.in-None.is))

pub returns-then-slot-addr : goal.returns-then-slot-addr
returns-then-slot-addr c =
    c.slot_len.ensures.len ∙ sym (slot_bytes_are c.places_hold_the_slots.ensures.slots c.args.grid.now c.args.addr ∙ ap (bytes_at_slot c.args.addr) (sym c.slot_at.ensures.slot ∙ c.in-Some.is)
    ∙ ap (λ (b : Bool). cond b (2 ^ c.in-Some.slot.class) 0) (eq-eqb c.in-Some.slot.addr c.args.addr c.if-slot-addr.true))

pub returns-else-slot-addr : goal.returns-else-slot-addr
returns-else-slot-addr c =
    sym (slot_bytes_are c.places_hold_the_slots.ensures.slots c.args.grid.now c.args.addr ∙ ap (bytes_at_slot c.args.addr) (sym c.slot_at.ensures.slot ∙ c.in-Some.is)
    ∙ ap (λ (b : Bool). cond b (2 ^ c.in-Some.slot.class) 0) (ne_eqb c.in-Some.slot.addr c.args.addr c.if-slot-addr.false))
