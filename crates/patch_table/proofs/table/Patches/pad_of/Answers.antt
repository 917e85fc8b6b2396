use Rattle.std.proofs.Common.{◌≡◌, ◌≤◌, ◌^◌, ap, sym, ◌∙◌, subst}
use Rattle.std.specs.Ordering.{nat_cmp}
use Rattle.std.specs.Option.{unwrap_or}
use Rattle.std.specs.List.{AllByRecursion}
use Rattle.patch_table.specs.Table.{Table, value_at}
use Rattle.patch_table.specs.Limits.{IsPad}
use Rattle.patch_table.proofs.Trees.{value_of, entries_of}
use Rattle.patch_table.proofs.Joins.{pad_limit}
use Rattle.patch_table.proofs.table.Patches.pad_of.Goals as goal

pub returns : goal.returns
returns c =
    let inside : c.unwrap_or.result ≡ value_at (Rattle.std.specs.FinMap.from_sorted {R = nat_cmp} c.self.inside.pads.entries) c.args.site = c.unwrap_or.ensures ∙ ap (λ o. unwrap_or o 0) (c.copied.ensures ∙ c.get.ensures.value) ∙ value_of nat_cmp c.self.inside.pads c.args.site c.self.invariant.pads in
    record {
      value = inside ∙ ap (λ (t : Table). value_at t.pads c.args.site) c.self.view_is;
      limit = subst (λ n. n ≤ 2 ^ 20) (sym inside) (pad_limit _ c.args.site (subst (AllByRecursion IsPad) (sym (entries_of nat_cmp c.self.inside.pads c.self.invariant.pads)) c.self.invariant.pads_fit));
    }
