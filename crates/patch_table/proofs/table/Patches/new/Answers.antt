use Rattle.std.proofs.Common.{refl}
use Rattle.std.specs.Ordering.{nat_cmp}
use Rattle.patch_table.specs.Table.{pair_cmp}
use Rattle.patch_table.proofs.Trees.{empty_of}
use Rattle.patch_table.proofs.table.Patches.new.Goals as goal

pub returns : goal.returns
returns c = rw (empty_of nat_cmp c.new.result c.new.ensures.ordered c.new.ensures.empty, empty_of nat_cmp c.new-2.result c.new-2.ensures.ordered c.new-2.ensures.empty, empty_of pair_cmp c.new-3.result c.new-3.ensures.ordered c.new-3.ensures.empty) refl
