use Rattle.std.proofs.Common.{◌≡◌, ◌%◌, true, false, arith, ap, sym, ◌∙◌, subst, rules, Option, IsSomeAnd, refl}
use Rattle.miniheap.specs.declared.place.Slot.{Slot}
use Rattle.miniheap.specs.declared.place.SlotState.{SlotState}
use Rattle.miniheap.specs.declared.place.SlotState.TheVariants.{Free, Held, Bad}
use Rattle.miniheap.specs.Slots.{is_free_state}
use Rattle.miniheap.specs.Draws.{is_free_number}
use Rattle.miniheap.proofs.DrawLemmas.{missed_none, missed_more, found_now, missed_all, free_by_state}
use Rattle.miniheap.proofs.heap.Grid.draw_often.Goals as goal

not_free : (t : SlotState) → (t ≡ Free → ⊥) → is_free_state t ≡ false
not_free Free n = absurd (n refl)
not_free Held n = refl
not_free Bad n = refl

pub loop-made-init : goal.loop-made-init
loop-made-init c = missed_none c.args.self.now c.args.class c.args.words.now

pub returns-then-eq : goal.returns-then-eq
returns-then-eq c =
    let e : c.numbered-slot.result.state ≡ Free = search rules in
    let f : is_free_number c.args.self.now c.args.class (c.step.result % c.slot_count-slots.result) ≡ true =
    free_by_state c.args.self.now c.args.class (c.step.result % c.slot_count-slots.result) c.numbered-slot.result c.numbered-slot.ensures.address c.numbered-slot.ensures.found ∙ ap is_free_state e in
    found_now c.args.self.now c.args.class c.args.words.now c.loop-made.words c.step.new.self c.loop-made._made c.loop-made.number c.step.result c.slot_count-slots.result c.loop-made.invariant c.loop-made-test.true c.step.ensures.word c.step.ensures.spends
    c.slot_count-slots.ensures f c.numbered-slot.result.addr c.numbered-slot.ensures.address
    (subst (λ (o : Option Slot). IsSomeAnd o (λ (t : Slot). (t.addr ≡ c.numbered-slot.result.addr) × (t.class ≡ c.args.class) × (t.state ≡ Free))) (sym c.numbered-slot.ensures.found) (refl, c.numbered-slot.ensures.class, e))

pub loop-made-preserved : goal.loop-made-preserved
loop-made-preserved c =
    let e : c.numbered-slot.result.state ≡ Free → ⊥ = search rules in
    let f : is_free_number c.args.self.now c.args.class (c.step.result % c.slot_count-slots.result) ≡ false =
    free_by_state c.args.self.now c.args.class (c.step.result % c.slot_count-slots.result) c.numbered-slot.result c.numbered-slot.ensures.address c.numbered-slot.ensures.found ∙ not_free c.numbered-slot.result.state e in
    missed_more c.args.self.now c.args.class c.args.words.now c.loop-made.words c.step.new.self c.loop-made._made c.loop-made.number c.step.result c.slot_count-slots.result c.loop-made.invariant c.loop-made-test.true c.step.ensures.word c.step.ensures.spends
    c.slot_count-slots.ensures f

pub returns : goal.returns
returns c = missed_all c.args.self.now c.args.class c.args.words.now c.loop-made.words c.loop-made._made c.loop-made.number c.loop-made.invariant (omega (arith, c.loop-made-test.false))
