use Rattle.std.proofs.Common.{◌≡◌, ◌≤◌, take}
use Rattle.std.specs.List.{sum_by}
use Rattle.elf_load.proofs.segments.is_too_large.Given as goal

abbrev pub invariant-loop-header : goal.invariant-loop-header
invariant-loop-header l = record {
  small : l.total ≤ 67108864;
  so_far : l.total ≡ sum_by (λ h. h.len) (take l.header-index l.headers);
}
