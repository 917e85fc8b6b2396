use Rattle.std.proofs.Common.{◌≡◌, take}
use Rattle.rv_memory.specs.Spaces.{memory_of}
use Rattle.rv_machine.specs.Core.{memory_in}
use Rattle.rv_machine.proofs.memory.map_segments.Given as goal

abbrev pub invariant-loop-segment : goal.invariant-loop-segment
invariant-loop-segment l = memory_of l.space ≡ memory_in (take l.segment-index l.segments)
