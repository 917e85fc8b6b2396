use Rattle.std.proofs.Common.{◌≡◌, ℕ, ◌+◌, ◌≤◌, ◌<◌, true, is_none}
use Rattle.rv_memory.specs.Spaces.{memory_of}
use Rattle.memory_trials.proofs.tests.calls.is_free.Given as goal

abbrev pub invariant-loop-i : goal.invariant-loop-i
invariant-loop-i l = (a : ℕ) → l.from ≤ a → a < l.from + l.i → is_none ((memory_of l.space).bytes a) ≡ true
