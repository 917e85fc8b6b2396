use Rattle.std.proofs.Common.{◌≡◌}
use Rattle.std.specs.List.{filter}
use Rattle.std.specs.Map.{lookup}
use Rattle.std.specs.BTreeMap as tree
use Rattle.patch_table.specs.Joining.{with_key, is_entry}
use Rattle.patch_table.proofs.joining.add_keys.Given as goal

abbrev pub invariant-loop-key : goal.invariant-loop-key
invariant-loop-key g l = record {
  ordered : tree.IsOrdered g.K.Ord.cmp l.map;
  added : (q : g.row.K.Denot) → with_key (tree.get g.K.Ord.cmp l.map q) (lookup (tree.is_at (g.K.Ord.cmp q)) l.key-iterator) ≡ with_key (tree.get g.K.Ord.cmp l.fn.map q) (tree.get g.K.Ord.cmp l.fn.other q);
  besides : filter is_entry l.map.entries ≡ l.fn.map.entries;
}
