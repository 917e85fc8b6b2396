use Rattle.std.proofs.Common.{◌≡◌, length}
use Rattle.rv_memory.specs.Memory.{KeepsTaken}
use Rattle.rv_memory.specs.Spaces.{memory_of, taken_of}
use Rattle.exact_heap.specs.History.{History}
use Rattle.exact_heap.specs.Stands.{PartsStandFor, IsSound, AtHome, Releases, state_at}
use Rattle.exact_heap.proofs.parts.Parts.release_due.Given as goal

abbrev pub invariant-loop : goal.invariant-loop
invariant-loop l = record {
  releases : (h : History) → PartsStandFor l.initial.self h → Releases (state_at h l.initial.space) l.self (memory_of l.space);
  sound : IsSound l.self;
  home : AtHome l.self l.space;
  taken : KeepsTaken (taken_of l.initial.space) (taken_of l.space);
  rest : l.self ≡ record l.initial.self { slots = record l.initial.self.slots { grid = l.self.slots.grid }; queue = l.self.queue };
}

abbrev pub decreases-loop : goal.decreases-loop
decreases-loop l = length l.self.queue.dues
