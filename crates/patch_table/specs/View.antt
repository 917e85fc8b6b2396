-- What three trees stand for.
use Rattle.std.specs.Ordering.{nat_cmp}
use Rattle.std.specs.FinMap.{from_sorted}
use Rattle.std.specs.BTreeMap as tree
use Rattle.patch_table.specs.Table.{Table, pair_cmp}
use Rattle.std.specs.List.{AllByRecursion}
use Rattle.patch_table.specs.Limits.{IsPad, IsFront, IsDefer}
use Rattle.patch_table.specs.declared.table.Patches.TheInside.{Inside}

abbrev pub view_of : Inside → Table
view_of a = record { pads = from_sorted a.pads.entries; fronts = from_sorted a.fronts.entries; defers = from_sorted a.defers.entries }

-- the keys rise, and each number is in its range
pub record IsKept (a : Inside) : Type 0 where
  pub pads : tree.IsOrdered nat_cmp a.pads
  pub fronts : tree.IsOrdered nat_cmp a.fronts
  pub defers : tree.IsOrdered pair_cmp a.defers
  pub pads_fit : AllByRecursion IsPad a.pads.entries
  pub fronts_fit : AllByRecursion IsFront a.fronts.entries
  pub defers_fit : AllByRecursion IsDefer a.defers.entries
