use Rattle.std.proofs.Common.{ap, ◌∙◌}
use Rattle.std.specs.Option.{unwrap_or}
use Rattle.patch_table.specs.Table.{Table, value_at, pair_cmp}
use Rattle.patch_table.proofs.Trees.{value_of}
use Rattle.patch_table.proofs.table.Patches.defer_of.Goals as goal

pub returns : goal.returns
returns c = c.unwrap_or.ensures ∙ ap (λ o. unwrap_or o 0) (c.copied.ensures ∙ c.get.ensures.value) ∙ value_of pair_cmp c.self.inside.defers (c.args.alloc_site, c.args.free_site) c.self.invariant.defers ∙ ap (λ (t : Table). value_at t.defers (c.args.alloc_site, c.args.free_site)) c.self.view_is
