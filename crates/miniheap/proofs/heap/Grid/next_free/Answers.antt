use Rattle.std.proofs.Common.{◌≡◌, true, false, arith, ap, sym, ◌∙◌, rules, refl}
use Rattle.miniheap.specs.declared.place.SlotState.{SlotState}
use Rattle.miniheap.specs.declared.place.SlotState.TheVariants.{Free, Held, Bad}
use Rattle.miniheap.specs.Slots.{is_free_state, slot_count}
use Rattle.miniheap.specs.Draws.{is_free_number}
use Rattle.miniheap.proofs.DrawLemmas.{passed_more, passed_to, passed_all, free_by_state, wraps, steps}
use Rattle.miniheap.proofs.heap.Grid.next_free.Goals as goal
use Rattle.miniheap.proofs.heap.Grid.next_free.Goals.{then-number-slots, else-number-slots}

not_free : (t : SlotState) → (t ≡ Free → ⊥) → is_free_state t ≡ false
not_free Free n = absurd (n refl)
not_free Held n = refl
not_free Bad n = refl

pub returns-then-eq-clause-next : goal.returns-then-eq-clause-next
returns-then-eq-clause-next c =
    let e : c.numbered-slot.result.state ≡ Free = search rules in
    let f : is_free_number c.args.self.now c.args.class c.if-number-slots.number ≡ true =
    free_by_state c.args.self.now c.args.class c.if-number-slots.number c.numbered-slot.result c.numbered-slot.ensures.address c.numbered-slot.ensures.found ∙ ap is_free_state e in
    passed_to c.args.self.now c.args.class c.args.from c.loop-step._step c.loop-step.number c.if-number-slots.number c.loop-step.invariant (omega (arith, c.loop-step-test.true, c.slot_count-slots.ensures))
    (elim c.if-number-slots.branch [
      | then-number-slots w ↦ w.number-is ∙ sym (wraps c.loop-step.number (slot_count c.args.self.now c.args.class) (w.if-number-slots.true ∙ c.slot_count-slots.ensures))
      | else-number-slots w ↦ w.number-is ∙ sym (steps c.loop-step.number (slot_count c.args.self.now c.args.class) (omega (arith, w.if-number-slots.false, c.loop-step.invariant.number_known, c.slot_count-slots.ensures)))
    ]) f c.numbered-slot.result.addr c.numbered-slot.ensures.address

pub loop-step-preserved : goal.loop-step-preserved
loop-step-preserved c =
    let e : c.numbered-slot.result.state ≡ Free → ⊥ = search rules in
    let f : is_free_number c.args.self.now c.args.class c.if-number-slots.number ≡ false =
    free_by_state c.args.self.now c.args.class c.if-number-slots.number c.numbered-slot.result c.numbered-slot.ensures.address c.numbered-slot.ensures.found ∙ not_free c.numbered-slot.result.state e in
    passed_more c.args.self.now c.args.class c.args.from c.loop-step._step c.loop-step.number c.if-number-slots.number c.loop-step.invariant (omega (arith, c.loop-step-test.true, c.slot_count-slots.ensures))
    (elim c.if-number-slots.branch [
      | then-number-slots w ↦ w.number-is ∙ sym (wraps c.loop-step.number (slot_count c.args.self.now c.args.class) (w.if-number-slots.true ∙ c.slot_count-slots.ensures))
      | else-number-slots w ↦ w.number-is ∙ sym (steps c.loop-step.number (slot_count c.args.self.now c.args.class) (omega (arith, w.if-number-slots.false, c.loop-step.invariant.number_known, c.slot_count-slots.ensures)))
    ]) f

pub unreachable-requires : goal.unreachable-requires
unreachable-requires c = passed_all c.args.self.now c.args.class c.args.from c.loop-step._step c.loop-step.number c.loop-step.invariant (omega (arith, c.slot_count-slots.ensures, c.loop-step-test.false)) c.requires.known c.requires.room
