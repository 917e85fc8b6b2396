use Rattle.std.proofs.Common.{ℕ, ◌≡◌, ◌&&◌, ◌==◌, sym, ap, ◌∙◌}
use Rattle.std.proofs.lemmas.Bool.{false≢true}
use Rattle.std.specs.Bool.{Decides}
use Rattle.std.specs.BTreeMap as tree
use Rattle.std.specs.BTreeMap.{BTreeMap}
use Rattle.std.specs.Cmp.{unsigned_Decides}
use Rattle.std.specs.Cmp.Lexicographic.{pointwise}
use Rattle.std.specs.FinMap.{from_sorted}
use Rattle.std.specs.Ordering.{nat_cmp}
use Rattle.patch_table.specs.Table.{Table, pair_cmp}
use Rattle.patch_table.proofs.Joins.{same_table}
use Rattle.patch_table.proofs.Same.{pair_decides, same_map}
use Rattle.patch_table.proofs.table.Patches.is_same.Goals as goal

same_sites : (m n : BTreeMap ℕ ℕ) → tree.IsOrdered nat_cmp m → tree.IsOrdered nat_cmp n
    → Decides (pointwise (λ (p : ℕ × ℕ) (q : ℕ × ℕ). p.0 == q.0 && p.1 == q.1) m.entries n.entries) (from_sorted {R = nat_cmp} m.entries ≡ from_sorted {R = nat_cmp} n.entries)
same_sites m n a b = same_map nat_cmp (λ x y. x == y) unsigned_Decides m n a b

pub returns-then-eq-2 : goal.returns-then-eq-2
returns-then-eq-2 c =
    let pads = same_sites c.self.inside.pads c.other.inside.pads c.self.invariant.pads c.other.invariant.pads in
    let fronts = same_sites c.self.inside.fronts c.other.inside.fronts c.self.invariant.fronts c.other.invariant.fronts in
    let defers = same_map pair_cmp (λ x y. x.0 == y.0 && x.1 == y.1) (pair_decides (λ x y. x == y) unsigned_Decides) c.self.inside.defers c.other.inside.defers c.self.invariant.defers c.other.invariant.defers in
    rw (← c.self.view_is, ← c.other.view_is) (
      λ is. same_table (pads.0 (sym c.eq.ensures ∙ c.if-eq.true)) (fronts.0 (sym c.eq-then-eq.ensures ∙ c.if-eq-2.true)) (defers.0 (sym c.eq-then-eq-2.ensures ∙ is)),
      λ is. c.eq-then-eq-2.ensures ∙ defers.1 (ap (λ (t : Table). t.defers) is),
    )

pub returns-else-eq-2 : goal.returns-else-eq-2
returns-else-eq-2 c =
    let fronts = same_sites c.self.inside.fronts c.other.inside.fronts c.self.invariant.fronts c.other.invariant.fronts in
    rw (← c.self.view_is, ← c.other.view_is)
    (λ is. absurd (false≢true (sym c.if-eq-2.false ∙ is)), λ is. absurd (false≢true (sym c.if-eq-2.false ∙ c.eq-then-eq.ensures ∙ fronts.1 (ap (λ (t : Table). t.fronts) is))))

pub returns-else-eq : goal.returns-else-eq
returns-else-eq c =
    let pads = same_sites c.self.inside.pads c.other.inside.pads c.self.invariant.pads c.other.invariant.pads in
    rw (← c.self.view_is, ← c.other.view_is)
    (λ is. absurd (false≢true (sym c.if-eq.false ∙ is)), λ is. absurd (false≢true (sym c.if-eq.false ∙ c.eq.ensures ∙ pads.1 (ap (λ (t : Table). t.pads) is))))
