use Rattle.std.proofs.Common.{ℕ, ◌<◌, ◌∙◌, ap, refl, subst, Option, Ok}
use Rattle.std.specs.Prelude.{IfNone}
use Rattle.rv_memory.specs.Spaces.{memory_of}
use Rattle.exact_heap.specs.declared.parts.Parts.{Parts}
use Rattle.exact_heap.specs.Placing.{turn, room_left}
use Rattle.exact_heap.specs.Stands.{Gives, state_at}
use Rattle.exact_heap.proofs.Searching.{search_begins, search_goes, search_ends, search_stops}
use Rattle.exact_heap.proofs.parts.Parts.find_slot.Goals as goal

pub loop-slot-init : goal.loop-slot-init
loop-slot-init c = record {
  searches = λ h st. search_begins c.slot_laws.ensures c.args.class c.args.self.now h (memory_of c.args.space.now) c.requires.sound st;
  sound = c.requires.sound;
  home = c.requires.home;
  taken = λ page e. e;
  rest = refl;
}

pub returns-in-Ok-Some-clause-gives : goal.returns-in-Ok-Some-clause-gives
returns-in-Ok-Some-clause-gives c h st =
    search_ends c.args.class c.in-Ok-Some.slot (state_at h c.args.space.now) c.loop-slot.self c.attempt.new.self (memory_of c.loop-slot.space) (memory_of c.attempt.new.space) (c.loop-slot.invariant.searches h st)
    (λ k sk. subst (λ (o : Option ℕ). Gives (turn c.args.class (state_at k c.loop-slot.space)).state (turn c.args.class (state_at k c.loop-slot.space)).answer (Ok o) c.attempt.new.self (memory_of c.attempt.new.space))
    c.in-Ok-Some.field-0-is (c.in-Ok-Some.ensures.gives k sk))

pub loop-slot-preserved : goal.loop-slot-preserved
loop-slot-preserved c = record {
  searches = λ h st. search_goes c.args.class (state_at h c.args.space.now) c.loop-slot.self c.attempt.new.self (memory_of c.loop-slot.space) (memory_of c.attempt.new.space) (c.loop-slot.invariant.searches h st)
      (λ k sk. subst (λ (o : Option ℕ). Gives (turn c.args.class (state_at k c.loop-slot.space)).state (turn c.args.class (state_at k c.loop-slot.space)).answer (Ok o) c.attempt.new.self (memory_of c.attempt.new.space))
      c.in-Ok-None.field-0-is (c.in-Ok-None.ensures.gives k sk))
      (subst (λ (o : Option ℕ). IfNone o (room_left c.args.class c.attempt.new.self.slots.grid < room_left c.args.class c.loop-slot.self.slots.grid)) c.in-Ok-None.field-0-is c.in-Ok-None.ensures.nearer);
  sound = c.attempt.ensures.sound;
  home = c.in-Ok-None.ensures.home;
  taken = λ page e. c.attempt.ensures.taken page (c.loop-slot.invariant.taken page e);
  rest = c.attempt.ensures.rest
      ∙ ap (λ (p : Parts). record p { slots = c.attempt.new.self.slots; words = c.attempt.new.self.words; signals = c.attempt.new.self.signals }) c.loop-slot.invariant.rest;
}

pub returns-in-Err-clause-gives : goal.returns-in-Err-clause-gives
returns-in-Err-clause-gives c h st =
    search_stops c.args.class (state_at h c.args.space.now) c.loop-slot.self c.attempt.new.self (memory_of c.loop-slot.space) (memory_of c.attempt.new.space) c.in-Err.refusal (c.loop-slot.invariant.searches h st) (λ k sk. c.in-Err.ensures.gives k sk)
