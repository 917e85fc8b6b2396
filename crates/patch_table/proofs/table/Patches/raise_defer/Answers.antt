use Rattle.std.proofs.Common.{◌≡◌, refl, ap, sym, ◌∙◌, max, subst, ℕ, arith}
use Rattle.std.specs.FinMap.{FinMap, insert, from_sorted, entries}
use Rattle.std.specs.List.{AllByRecursion}
use Rattle.patch_table.specs.Limits.{IsDefer}
use Rattle.patch_table.proofs.Fits.{raised_all}
use Rattle.patch_table.specs.Table.{value_at, raised, pair_cmp}
use Rattle.patch_table.proofs.Trees.{insert_of, entries_of, pairs_total}
use Rattle.patch_table.proofs.Joins.{exact_pair}
use Rattle.patch_table.proofs.table.Patches.raise_defer.Goals as goal

pub returns-clause-ok : goal.returns-clause-ok
returns-clause-ok c =
    let grown = insert_of pairs_total c.self.inside.defers c.insert.new.self (c.args.alloc_site, c.args.free_site) c.max-most.result c.in_ok-insert.ensures.was_ordered c.in_ok-insert.ensures.ordered c.in_ok-insert.ensures.entries in
    rw (grown, c.max-most.ensures, c.defer_of.ensures, ← c.self.view_is) refl

pub invariant_of-self-2 : goal.invariant_of-self-2
invariant_of-self-2 c =
    let m : FinMap pair_cmp ℕ = from_sorted c.self.inside.defers.entries in
    let grown = insert_of pairs_total c.self.inside.defers c.insert.new.self (c.args.alloc_site, c.args.free_site) c.max-most.result c.in_ok-insert.ensures.was_ordered c.in_ok-insert.ensures.ordered c.in_ok-insert.ensures.entries in
    let most : c.max-most.result ≡ max (value_at m (c.args.alloc_site, c.args.free_site)) c.args.defer = rw (c.max-most.ensures, c.defer_of.ensures, ← c.self.view_is) refl in
    let old = subst (AllByRecursion IsDefer) (sym (entries_of pair_cmp c.self.inside.defers c.self.invariant.defers)) c.self.invariant.defers_fit in
    let raised_fit = raised_all pair_cmp pairs_total exact_pair IsDefer m (c.args.alloc_site, c.args.free_site) c.args.defer old (omega (arith, c.ranges.alloc_site), omega (arith, c.ranges.free_site), c.requires, omega (arith, c.ranges.defer)) in
    let is : entries (raised m (c.args.alloc_site, c.args.free_site) c.args.defer) ≡ c.insert.new.self.entries = ap (λ x. entries (insert m (c.args.alloc_site, c.args.free_site) x)) (sym most) ∙ ap entries (sym grown) ∙ entries_of pair_cmp c.insert.new.self c.in_ok-insert.ensures.ordered in
    record {
      pads = c.self.invariant.pads;
      fronts = c.self.invariant.fronts;
      defers = c.in_ok-insert.ensures.ordered;
      pads_fit = c.self.invariant.pads_fit;
      fronts_fit = c.self.invariant.fronts_fit;
      defers_fit = subst (AllByRecursion IsDefer) is raised_fit;
    }
