use Rattle.std.proofs.Common.{◌≡◌, ℕ}
use Rattle.std.specs.Ordering.{nat_cmp}
use Rattle.std.specs.Cmp.{nat_cmp_total}
use Rattle.std.specs.FinMap.{FinMap, empty, nat_cmp-IsAntisymmetric}
use Rattle.patch_table.specs.Table.{joined, pair_cmp}
use Rattle.patch_table.proofs.Trees.{pairs_total}
use Rattle.patch_table.proofs.Joins.{exact_pair, same_table, joined_one, joined_none}
use Rattle.patch_table.proofs.laws.raise_is_a_join.Goals as goal

no_site : (m : FinMap nat_cmp ℕ) → m ≡ joined m empty
no_site m = joined_none nat_cmp nat_cmp_total nat_cmp-IsAntisymmetric m

pub returns : goal.returns
returns c = record {
  pad = λ a s n. same_table (joined_one nat_cmp nat_cmp_total nat_cmp-IsAntisymmetric a.pads s n) (no_site a.fronts) (joined_none pair_cmp pairs_total exact_pair a.defers);
  front = λ a s n. same_table (no_site a.pads) (joined_one nat_cmp nat_cmp_total nat_cmp-IsAntisymmetric a.fronts s n) (joined_none pair_cmp pairs_total exact_pair a.defers);
  defer = λ a s n. same_table (no_site a.pads) (no_site a.fronts) (joined_one pair_cmp pairs_total exact_pair a.defers s n);
}
