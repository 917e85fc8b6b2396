use Rattle.std.proofs.Common.{◌≡◌, refl, ap, sym, ◌∙◌, max, subst, ℕ, arith}
use Rattle.std.specs.Ordering.{nat_cmp}
use Rattle.std.specs.Cmp.{nat_cmp_total}
use Rattle.std.specs.FinMap.{FinMap, insert, from_sorted, entries, nat_cmp-IsAntisymmetric}
use Rattle.std.specs.List.{AllByRecursion}
use Rattle.patch_table.specs.Limits.{IsFront}
use Rattle.patch_table.proofs.Fits.{raised_all}
use Rattle.patch_table.specs.Table.{value_at, raised}
use Rattle.patch_table.proofs.Trees.{insert_of, entries_of}
use Rattle.patch_table.proofs.table.Patches.raise_front.Goals as goal

pub returns-clause-ok : goal.returns-clause-ok
returns-clause-ok c =
    let grown = insert_of nat_cmp_total c.self.inside.fronts c.insert.new.self c.args.site c.max-most.result c.in_ok-insert.ensures.was_ordered c.in_ok-insert.ensures.ordered c.in_ok-insert.ensures.entries in
    rw (grown, c.max-most.ensures, c.front_of.ensures.value, ← c.self.view_is) refl

pub invariant_of-self-2 : goal.invariant_of-self-2
invariant_of-self-2 c =
    let m : FinMap nat_cmp ℕ = from_sorted c.self.inside.fronts.entries in
    let grown = insert_of nat_cmp_total c.self.inside.fronts c.insert.new.self c.args.site c.max-most.result c.in_ok-insert.ensures.was_ordered c.in_ok-insert.ensures.ordered c.in_ok-insert.ensures.entries in
    let most : c.max-most.result ≡ max (value_at m c.args.site) c.args.front = rw (c.max-most.ensures, c.front_of.ensures.value, ← c.self.view_is) refl in
    let old = subst (AllByRecursion IsFront) (sym (entries_of nat_cmp c.self.inside.fronts c.self.invariant.fronts)) c.self.invariant.fronts_fit in
    let raised_fit = raised_all nat_cmp nat_cmp_total nat_cmp-IsAntisymmetric IsFront m c.args.site c.args.front old (omega (arith, c.ranges.site), c.requires.least, c.requires.most, c.requires.multiple) in
    let is : entries (raised m c.args.site c.args.front) ≡ c.insert.new.self.entries = ap (λ x. entries (insert m c.args.site x)) (sym most) ∙ ap entries (sym grown) ∙ entries_of nat_cmp c.insert.new.self c.in_ok-insert.ensures.ordered in
    record {
      pads = c.self.invariant.pads;
      fronts = c.in_ok-insert.ensures.ordered;
      defers = c.self.invariant.defers;
      pads_fit = c.self.invariant.pads_fit;
      fronts_fit = subst (AllByRecursion IsFront) is raised_fit;
      defers_fit = c.self.invariant.defers_fit;
    }
