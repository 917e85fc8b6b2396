use Rattle.std.proofs.Common.{◌≡◌, ◌≤◌, ◌^◌, ◌%◌, ap, sym, ◌∙◌, subst}
use Rattle.std.specs.Ordering.{nat_cmp}
use Rattle.std.specs.Option.{unwrap_or}
use Rattle.std.specs.List.{AllByRecursion}
use Rattle.patch_table.specs.Table.{Table, value_at}
use Rattle.patch_table.specs.Limits.{IsFront}
use Rattle.patch_table.proofs.Trees.{value_of, entries_of}
use Rattle.patch_table.proofs.Joins.{front_limit}
use Rattle.patch_table.proofs.table.Patches.front_of.Goals as goal

pub returns : goal.returns
returns c =
    let inside : c.unwrap_or.result ≡ value_at (Rattle.std.specs.FinMap.from_sorted {R = nat_cmp} c.self.inside.fronts.entries) c.args.site = c.unwrap_or.ensures ∙ ap (λ o. unwrap_or o 0) (c.copied.ensures ∙ c.get.ensures.value) ∙ value_of nat_cmp c.self.inside.fronts c.args.site c.self.invariant.fronts in
    let limits = front_limit _ c.args.site (subst (AllByRecursion IsFront) (sym (entries_of nat_cmp c.self.inside.fronts c.self.invariant.fronts)) c.self.invariant.fronts_fit) in
    record {
      value = inside ∙ ap (λ (t : Table). value_at t.fronts c.args.site) c.self.view_is;
      limit = subst (λ n. n ≤ 2 ^ 16) (sym inside) limits.0;
      multiple = subst (λ n. n % 16 ≡ 0) (sym inside) limits.1;
    }
