use Rattle.std.specs.Ordering.{nat_cmp}
use Rattle.std.specs.Cmp.{nat_cmp_total}
use Rattle.std.specs.FinMap.{nat_cmp-IsAntisymmetric}
use Rattle.patch_table.specs.Table.{pair_cmp}
use Rattle.patch_table.proofs.Trees.{pairs_total}
use Rattle.patch_table.proofs.Joins.{exact_pair, same_table, get-joined, value-joined, only_joined}
use Rattle.patch_table.proofs.laws.join_is_the_greater_entry.Goals as goal

pub returns : goal.returns
returns c = record {
  is_join = λ a b. record { pads = get-joined nat_cmp nat_cmp_total a.pads b.pads; fronts = get-joined nat_cmp nat_cmp_total a.fronts b.fronts; defers = get-joined pair_cmp pairs_total a.defers b.defers };
  only = λ x y z h. same_table (only_joined nat_cmp nat_cmp_total nat_cmp-IsAntisymmetric x.pads y.pads z.pads h.pads) (only_joined nat_cmp nat_cmp_total nat_cmp-IsAntisymmetric x.fronts y.fronts z.fronts h.fronts) (only_joined pair_cmp pairs_total exact_pair x.defers y.defers z.defers h.defers);
  pads = λ a b s. value-joined nat_cmp nat_cmp_total a.pads b.pads s;
  fronts = λ a b s. value-joined nat_cmp nat_cmp_total a.fronts b.fronts s;
  defers = λ a b s. value-joined pair_cmp pairs_total a.defers b.defers s;
}
