use Rattle.std.proofs.Common.{◌≡◌, ◌≤◌, ◌+◌}
use Rattle.rv_machine.specs.Going.{HasGone}
use Rattle.rv_machine.specs.Guest.{Guest}
use Rattle.rv_machine.specs.Stands.{core_of, tag_in, IsAt, IsReady}
use Rattle.rv_machine.proofs.machine.Machine.go_on.Given as goal

abbrev pub invariant-loop-i : goal.invariant-loop-i
invariant-loop-i l = record {
  gone : (g : Guest) → IsAt g l.initial.self → HasGone g l.i l.self;
  ready : IsReady l.self;
  steps : (core_of l.self).steps ≤ (core_of l.initial.self).steps + l.i;
  tag : tag_in l.self ≡ tag_in l.initial.self;
}
