use Rattle.std.proofs.Common.{◌≡◌, ℕ, ap, ◌∙◌, subst, sym}
use Rattle.std.specs.Ordering.{nat_cmp}
use Rattle.std.specs.FinMap.{from_sorted, entries, nat_cmp-IsAntisymmetric}
use Rattle.std.specs.Cmp.{nat_cmp_total}
use Rattle.std.specs.List.{AllByRecursion}
use Rattle.std.specs.BTreeMap as tree
use Rattle.std.specs.BTreeMap.{BTreeMap}
use Rattle.patch_table.specs.Limits.{IsPad, IsFront, IsDefer}
use Rattle.patch_table.specs.Table.{joined, pair_cmp}
use Rattle.patch_table.proofs.Fits.{raised_each_all}
use Rattle.patch_table.proofs.Joins.{exact_pair, same_table}
use Rattle.patch_table.proofs.Steps.{joined_in_place}
use Rattle.patch_table.proofs.Trees.{entries_of, pairs_total}
use Rattle.patch_table.proofs.table.Patches.join.Goals as goal

pads_are : (c : goal.After-raise-3) → from_sorted {R = nat_cmp} c.raise.new.map.entries ≡ joined (from_sorted {R = nat_cmp} c.self.inside.pads.entries) (from_sorted {R = nat_cmp} c.other.inside.pads.entries)
pads_are c =
    joined_in_place nat_cmp_total nat_cmp-IsAntisymmetric c.self.inside.pads c.add_keys.new.map c.raise.new.map c.other.inside.pads
    c.self.invariant.pads c.raise.ensures.ordered c.other.invariant.pads c.in_ok-add_keys.ensures.added c.raise.ensures.raised

fronts_are : (c : goal.After-raise-3) → from_sorted {R = nat_cmp} c.raise-2.new.map.entries ≡ joined (from_sorted {R = nat_cmp} c.self.inside.fronts.entries) (from_sorted {R = nat_cmp} c.other.inside.fronts.entries)
fronts_are c =
    joined_in_place nat_cmp_total nat_cmp-IsAntisymmetric c.self.inside.fronts c.add_keys-2.new.map c.raise-2.new.map c.other.inside.fronts
    c.self.invariant.fronts c.raise-2.ensures.ordered c.other.invariant.fronts c.in_default.ensures.added c.raise-2.ensures.raised

defers_are : (c : goal.After-raise-3) → from_sorted {R = pair_cmp} c.raise-3.new.map.entries ≡ joined (from_sorted {R = pair_cmp} c.self.inside.defers.entries) (from_sorted {R = pair_cmp} c.other.inside.defers.entries)
defers_are c =
    joined_in_place pairs_total exact_pair c.self.inside.defers c.add_keys-3.new.map c.raise-3.new.map c.other.inside.defers
    c.self.invariant.defers c.raise-3.ensures.ordered c.other.invariant.defers c.in_default-add_keys.ensures.added c.raise-3.ensures.raised

-- a join's numbers are in a range that both tables keep
site_range : (P : ℕ × ℕ → Type 0) (here there new : BTreeMap ℕ ℕ) → tree.IsOrdered nat_cmp here → tree.IsOrdered nat_cmp there → tree.IsOrdered nat_cmp new → AllByRecursion P here.entries → AllByRecursion P there.entries
    → from_sorted {R = nat_cmp} new.entries ≡ joined (from_sorted {R = nat_cmp} here.entries) (from_sorted {R = nat_cmp} there.entries) → AllByRecursion P new.entries
unfolding joined
site_range P here there new a b o p q is =
    let within = subst (AllByRecursion P) (sym (entries_of nat_cmp here a)) p in
    let others = subst (AllByRecursion P) (sym (entries_of nat_cmp there b)) q in
    let out = raised_each_all nat_cmp nat_cmp_total nat_cmp-IsAntisymmetric P (from_sorted here.entries) (entries (from_sorted {R = nat_cmp} there.entries)) within others in
    subst (AllByRecursion P) (ap entries (sym is) ∙ entries_of nat_cmp new o) out

pair_range : (P : (ℕ × ℕ) × ℕ → Type 0) (here there new : BTreeMap (ℕ × ℕ) ℕ) → tree.IsOrdered pair_cmp here → tree.IsOrdered pair_cmp there → tree.IsOrdered pair_cmp new → AllByRecursion P here.entries → AllByRecursion P there.entries
    → from_sorted {R = pair_cmp} new.entries ≡ joined (from_sorted {R = pair_cmp} here.entries) (from_sorted {R = pair_cmp} there.entries) → AllByRecursion P new.entries
unfolding joined
pair_range P here there new a b o p q is =
    let within = subst (AllByRecursion P) (sym (entries_of pair_cmp here a)) p in
    let others = subst (AllByRecursion P) (sym (entries_of pair_cmp there b)) q in
    let out = raised_each_all pair_cmp pairs_total exact_pair P (from_sorted here.entries) (entries (from_sorted {R = pair_cmp} there.entries)) within others in
    subst (AllByRecursion P) (ap entries (sym is) ∙ entries_of pair_cmp new o) out

pub invariant_of-self-2 : goal.invariant_of-self-2
invariant_of-self-2 c = record {
  pads = c.raise.ensures.ordered;
  fronts = c.raise-2.ensures.ordered;
  defers = c.raise-3.ensures.ordered;
  pads_fit = site_range IsPad c.self.inside.pads c.other.inside.pads c.raise.new.map c.self.invariant.pads c.other.invariant.pads c.raise.ensures.ordered c.self.invariant.pads_fit c.other.invariant.pads_fit (pads_are c);
  fronts_fit = site_range IsFront c.self.inside.fronts c.other.inside.fronts c.raise-2.new.map c.self.invariant.fronts c.other.invariant.fronts c.raise-2.ensures.ordered c.self.invariant.fronts_fit c.other.invariant.fronts_fit (fronts_are c);
  defers_fit = pair_range IsDefer c.self.inside.defers c.other.inside.defers c.raise-3.new.map c.self.invariant.defers c.other.invariant.defers c.raise-3.ensures.ordered c.self.invariant.defers_fit c.other.invariant.defers_fit (defers_are c);
}

pub returns-clause-ok : goal.returns-clause-ok
returns-clause-ok c = rw (← c.self.view_is, ← c.other.view_is) (same_table (pads_are c) (fronts_are c) (defers_are c))
