use Rattle.std.proofs.Common.{◌-◌, ◌≡◌, ℕ, ◌≤◌, ◌<◌, true}
use Rattle.rv_memory.specs.Memory.{page_of, KeepsTaken}
use Rattle.rv_memory.specs.Spaces.{memory_of, taken_of}
use Rattle.rv_memory.proofs.space.Space.make.Given as goal

-- the addresses so far are in taken pages
abbrev pub invariant-loop-at : goal.invariant-loop-at
invariant-loop-at l = (l.addr ≤ l.at) × (memory_of l.self ≡ memory_of l.initial.self) × KeepsTaken (taken_of l.initial.self) (taken_of l.self) × ((a : ℕ) → l.addr ≤ a → a < l.at → taken_of l.self (page_of a) ≡ true)

abbrev pub decreases-loop-at : goal.decreases-loop-at
decreases-loop-at l = l.end - l.at
