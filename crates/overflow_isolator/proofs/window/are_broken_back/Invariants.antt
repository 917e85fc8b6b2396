use Rattle.std.proofs.Common.{take}
use Rattle.overflow_isolator.specs.Windows.{AreBrokenBack}
use Rattle.overflow_isolator.proofs.window.are_broken_back.Given as goal

abbrev pub invariant-loop-window : goal.invariant-loop-window
invariant-loop-window l = AreBrokenBack (take l.window-index l.windows) l.distance
