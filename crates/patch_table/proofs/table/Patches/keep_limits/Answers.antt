use Rattle.std.proofs.Common.{subst, sym}
use Rattle.std.specs.Ordering.{nat_cmp}
use Rattle.std.specs.List.{AllByRecursion}
use Rattle.patch_table.specs.Table.{pair_cmp}
use Rattle.patch_table.specs.Limits.{IsPad, IsFront, IsDefer, InLimits}
use Rattle.patch_table.proofs.Trees.{entries_of}
use Rattle.patch_table.proofs.table.Patches.keep_limits.Goals as goal

pub returns : goal.returns
returns c = subst InLimits c.self.view_is (record {
  pads = subst (AllByRecursion IsPad) (sym (entries_of nat_cmp c.self.inside.pads c.self.invariant.pads)) c.self.invariant.pads_fit;
  fronts = subst (AllByRecursion IsFront) (sym (entries_of nat_cmp c.self.inside.fronts c.self.invariant.fronts)) c.self.invariant.fronts_fit;
  defers = subst (AllByRecursion IsDefer) (sym (entries_of pair_cmp c.self.inside.defers c.self.invariant.defers)) c.self.invariant.defers_fit;
})
