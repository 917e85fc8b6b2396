use Rattle.std.proofs.Common.{arith}
use Rattle.std.specs.Ordering.{nat_cmp}
use Rattle.std.specs.Cmp.{nat_cmp_total}
use Rattle.std.specs.FinMap.{nat_cmp-IsAntisymmetric}
use Rattle.patch_table.specs.Table.{pair_cmp}
use Rattle.patch_table.specs.Limits.{IsPad, IsFront, IsDefer}
use Rattle.patch_table.proofs.Trees.{pairs_total}
use Rattle.patch_table.proofs.Joins.{exact_pair, same_table, below_self, below_both, same_below}
use Rattle.patch_table.proofs.laws.below_is_an_order.Goals as goal

pub returns : goal.returns
returns c = record {
  reflexive = λ a. record { pads = below_self a.pads; fronts = below_self a.fronts; defers = below_self a.defers };
  transitive = λ x y z p q. record { pads = below_both x.pads y.pads z.pads p.pads q.pads; fronts = below_both x.fronts y.fronts z.fronts p.fronts q.fronts; defers = below_both x.defers y.defers z.defers p.defers q.defers };
  antisymmetric = λ a b fa fb p q.
      same_table (same_below nat_cmp nat_cmp_total nat_cmp-IsAntisymmetric IsPad (λ k n h. h.1) a.pads b.pads fa.pads fb.pads p.pads q.pads)
      (same_below nat_cmp nat_cmp_total nat_cmp-IsAntisymmetric IsFront (λ k n h. omega (arith, h.1)) a.fronts b.fronts fa.fronts fb.fronts p.fronts q.fronts)
      (same_below pair_cmp pairs_total exact_pair IsDefer (λ k n h. h.2) a.defers b.defers fa.defers fb.defers p.defers q.defers);
}
