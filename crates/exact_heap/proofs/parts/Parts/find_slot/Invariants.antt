use Rattle.std.proofs.Common.{◌≡◌}
use Rattle.rv_memory.specs.Memory.{KeepsTaken}
use Rattle.rv_memory.specs.Spaces.{memory_of, taken_of}
use Rattle.exact_heap.specs.History.{History}
use Rattle.exact_heap.specs.Placing.{room_left}
use Rattle.exact_heap.specs.Stands.{PartsStandFor, IsSound, AtHome, Searches, state_at}
use Rattle.exact_heap.proofs.parts.Parts.find_slot.Given as goal

abbrev pub invariant-loop-slot : goal.invariant-loop-slot
invariant-loop-slot l = record {
  searches : (h : History) → PartsStandFor l.initial.self h → Searches l.class (state_at h l.initial.space) l.self (memory_of l.space);
  sound : IsSound l.self;
  home : AtHome l.self l.space;
  taken : KeepsTaken (taken_of l.initial.space) (taken_of l.space);
  rest : l.self ≡ record l.initial.self { slots = l.self.slots; words = l.self.words; signals = l.self.signals };
}

abbrev pub decreases-loop-slot : goal.decreases-loop-slot
decreases-loop-slot l = room_left l.class l.self.slots.grid
