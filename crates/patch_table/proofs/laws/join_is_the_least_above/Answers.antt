use Rattle.std.specs.Ordering.{nat_cmp}
use Rattle.std.specs.Cmp.{nat_cmp_total}
use Rattle.std.specs.FinMap.{nat_cmp-IsAntisymmetric}
use Rattle.patch_table.specs.Table.{pair_cmp}
use Rattle.patch_table.proofs.Trees.{pairs_total}
use Rattle.patch_table.proofs.Joins.{exact_pair, same_table, joined-commutes, joined-associates, joined-idempotent, least, above_left, above_right}
use Rattle.patch_table.proofs.laws.join_is_the_least_above.Goals as goal

pub returns : goal.returns
returns c =
    let o = nat_cmp_total in
    let exact = nat_cmp-IsAntisymmetric in
    record {
      commutes = λ a b. same_table (joined-commutes nat_cmp o exact a.pads b.pads) (joined-commutes nat_cmp o exact a.fronts b.fronts) (joined-commutes pair_cmp pairs_total exact_pair a.defers b.defers);
      associates = λ x y z. same_table (joined-associates nat_cmp o exact x.pads y.pads z.pads) (joined-associates nat_cmp o exact x.fronts y.fronts z.fronts) (joined-associates pair_cmp pairs_total exact_pair x.defers y.defers z.defers);
      idempotent = λ a. same_table (joined-idempotent nat_cmp o exact a.pads) (joined-idempotent nat_cmp o exact a.fronts) (joined-idempotent pair_cmp pairs_total exact_pair a.defers);
      above = λ a b. (
        record { pads = above_left nat_cmp o a.pads b.pads; fronts = above_left nat_cmp o a.fronts b.fronts; defers = above_left pair_cmp pairs_total a.defers b.defers },
        record { pads = above_right nat_cmp o a.pads b.pads; fronts = above_right nat_cmp o a.fronts b.fronts; defers = above_right pair_cmp pairs_total a.defers b.defers },
      );
      least = λ x y z p q.
          record { pads = least nat_cmp o x.pads y.pads z.pads p.pads q.pads; fronts = least nat_cmp o x.fronts y.fronts z.fronts p.fronts q.fronts; defers = least pair_cmp pairs_total x.defers y.defers z.defers p.defers q.defers };
    }
