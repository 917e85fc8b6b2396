use Rattle.std.proofs.Common.{ap, ◌∙◌, arith}
use Rattle.miniheap.specs.Slots.{Slots}
use Rattle.rv_memory.specs.Spaces.{memory_of}
use Rattle.exact_heap.specs.declared.parts.Parts.{Parts}
use Rattle.exact_heap.specs.Stands.{state_at, rules_in}
use Rattle.exact_heap.proofs.Sound.{sound_order}
use Rattle.exact_heap.proofs.Turns.{free_slot_lies}
use Rattle.exact_heap.proofs.Placements.{place_fails, place_succeeds}
use Rattle.exact_heap.proofs.parts.Parts.place.Goals as goal

pub returns-in-Err : goal.returns-in-Err
returns-in-Err c = record {
  gives = λ h st.
      place_fails c.args.request.now c.args.zeroed (state_at h c.args.space.now) c.find_slot.new.self (memory_of c.find_slot.new.space) c.in-Err.refusal (c.in-Err.ensures.gives h st);
  sound = c.find_slot.ensures.sound;
  home = c.in-Err.ensures.home;
  taken = c.find_slot.ensures.taken;
  rules = ap rules_in c.find_slot.ensures.rest;
  counted = omega (arith, ap (λ (p : Parts). p.counts.clock) c.find_slot.ensures.rest);
  numbered = omega (arith, ap (λ (p : Parts). p.counts.calls) c.find_slot.ensures.rest);
}

pub returns-in-Err-own : goal.returns-in-Err-own
returns-in-Err-own c = record {
  gives = λ h st. tt;
  sound = c.own.ensures.sound;
  home = tt;
  taken = λ page t. c.own.ensures.taken page (c.find_slot.ensures.taken page t);
  rules = ap rules_in c.own.ensures.rest ∙ ap rules_in c.find_slot.ensures.rest;
  counted = omega (arith, c.own.ensures.clock, ap (λ (p : Parts). p.counts.clock) c.find_slot.ensures.rest);
  numbered = omega (arith, ap (λ (p : Parts). p.counts.calls) c.own.ensures.rest, ap (λ (p : Parts). p.counts.calls) c.find_slot.ensures.rest);
}

pub returns : goal.returns
returns c = record {
  gives = λ h st.
      place_succeeds c.args.request.now c.args.zeroed (state_at h c.args.space.now) c.in-Ok.slot c.find_slot.new.self c.own.new.self c.release_due.new.self (memory_of c.find_slot.new.space) (memory_of c.own.new.space) (memory_of c.release_due.new.space)
      (c.in-Ok.ensures.gives h st) c.in-Ok-own.ensures.placed c.release_due.ensures.released;
  sound = c.release_due.ensures.sound;
  home = c.release_due.ensures.home;
  taken = λ page t. c.release_due.ensures.taken page (c.own.ensures.taken page (c.find_slot.ensures.taken page t));
  rules = ap rules_in c.release_due.ensures.rest ∙ ap rules_in c.own.ensures.rest ∙ ap rules_in c.find_slot.ensures.rest;
  counted = omega (arith, ap (λ (p : Parts). p.counts.clock) c.release_due.ensures.rest, c.own.ensures.clock, ap (λ (p : Parts). p.counts.clock) c.find_slot.ensures.rest);
  numbered = omega (arith, ap (λ (p : Parts). p.counts.calls) c.release_due.ensures.rest, ap (λ (p : Parts). p.counts.calls) c.own.ensures.rest, ap (λ (p : Parts). p.counts.calls) c.find_slot.ensures.rest);
}

pub overflow_add-result : goal.overflow_add-result
overflow_add-result c =
    let grid : Slots = c.find_slot.new.self.slots.grid in
    let i = free_slot_lies c.slot_laws.ensures grid c.args.request.now.class c.in-Ok.slot c.in-Ok.ensures.free in
    record { fits = omega (arith, i.high, (sound_order c.find_slot.new.self c.find_slot.ensures.sound).in_limit, c.requires.fits.room.fits) }
