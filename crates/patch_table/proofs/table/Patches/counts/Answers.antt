use Rattle.std.proofs.Common.{refl}
use Rattle.std.specs.Ordering.{nat_cmp}
use Rattle.std.specs.FinMap.{len-entries}
use Rattle.patch_table.specs.Table.{pair_cmp}
use Rattle.patch_table.proofs.Trees.{entries_of}
use Rattle.patch_table.proofs.table.Patches.counts.Goals as goal

pub returns : goal.returns
returns c = rw (c.len.ensures.len, c.len-2.ensures.len, c.len-3.ensures.len, ← c.self.view_is, len-entries, len-entries, len-entries, entries_of nat_cmp c.self.inside.pads c.self.invariant.pads, entries_of nat_cmp c.self.inside.fronts c.self.invariant.fronts, entries_of pair_cmp c.self.inside.defers c.self.invariant.defers) refl
