use Rattle.std.proofs.Common.{◌≡◌, ℕ, ◌^◌, ◌++◌, ap, sym, subst, ◌∙◌, List, append-nil}
use Rattle.std.specs.Prelude.{OnOk}
use Rattle.rv_memory.specs.Spaces.{memory_of}
use Rattle.heap_image.specs.declared.image.Broken.{Broken}
use Rattle.heap_image.specs.Taking.{breaks_in, broken_within}
use Rattle.heap_image.proofs.Taken.{held_within, unheld_within}
use Rattle.heap_image.proofs.broken.put_slot.Goals as goal

pub returns-then-is_held : goal.returns-then-is_held
returns-then-is_held c =
    let none = held_within c.slots_have_their_places.ensures.apart c.args.grid.now (memory_of c.args.space.now) c.args.word c.args.slot.now c.requires.found (sym c.is_held.ensures ∙ c.if-is_held.true) in
    sym (append-nil c.args.out.now.items) ∙ ap (λ (xs : List Broken). c.args.out.now.items ++ xs) (sym none)

pub returns : goal.returns
returns c =
    let same : breaks_in (memory_of c.args.space.now) c.args.word c.args.slot.now.addr c.slot_len.result ≡ broken_within c.args.grid.now (memory_of c.args.space.now) c.args.word c.args.slot.now.addr (2 ^ c.args.slot.now.class) =
    ap (λ (n : ℕ). breaks_in (memory_of c.args.space.now) c.args.word c.args.slot.now.addr n) c.slot_len.ensures.len
    ∙ sym (unheld_within c.slots_have_their_places.ensures.apart c.args.grid.now (memory_of c.args.space.now) c.args.word c.args.slot.now c.requires.found (sym c.is_held.ensures ∙ c.if-is_held.false)) in
    subst (λ (xs : List Broken). OnOk c.put_breaks.result (c.put_breaks.new.out.items ≡ c.args.out.now.items ++ xs)) same c.put_breaks.ensures
