use Rattle.std.proofs.Common.{◌≡◌}
use Rattle.std.specs.Map.{lookup, keys_of}
use Rattle.std.specs.List.Sorted.{IsStrictlySortedBy}
use Rattle.std.specs.BTreeMap as tree
use Rattle.patch_table.specs.Joining.{lifted}
use Rattle.patch_table.proofs.joining.raise.Given as goal

abbrev pub invariant-loop-key : goal.invariant-loop-key
invariant-loop-key g l = record {
  ordered : tree.IsOrdered g.K.Ord.cmp l.map;
  rises : IsStrictlySortedBy g.K.Ord.cmp (keys_of l.key-iterator);
  raised : (q : g.row.K.Denot) → lifted (tree.get g.K.Ord.cmp l.map q) (lookup (tree.is_at (g.K.Ord.cmp q)) l.key-iterator) ≡ lifted (tree.get g.K.Ord.cmp l.fn.map q) (tree.get g.K.Ord.cmp l.fn.other q);
}
