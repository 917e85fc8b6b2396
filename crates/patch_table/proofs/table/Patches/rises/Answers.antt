use Rattle.std.proofs.Common.{◌≡◌, ap, length, arith}
use Rattle.std.specs.Ordering.{nat_cmp}
use Rattle.std.proofs.lemmas.List.{nil_from_length}
use Rattle.std.proofs.lemmas.Bool.Decides.{nat_tests}
use Rattle.patch_table.specs.Table.{pair_cmp}
use Rattle.patch_table.proofs.Trees.{entries_of}
use Rattle.patch_table.proofs.table.Patches.rises.Goals as goal

pub returns-then-is_empty-2 : goal.returns-then-is_empty-2
returns-then-is_empty-2 c =
    let pads = entries_of nat_cmp c.self.inside.pads c.self.invariant.pads in
    let fronts = entries_of nat_cmp c.self.inside.fronts c.self.invariant.fronts in
    let defers = entries_of pair_cmp c.self.inside.defers c.self.invariant.defers in
    let no_front : length c.self.inside.fronts.entries ≡ 0 = grind (arith, nat_tests, c.is_empty.ensures, c.if-is_empty.true) in
    let no_defer : length c.self.inside.defers.entries ≡ 0 = grind (arith, nat_tests, c.is_empty-then-is_empty.ensures, c.if-is_empty-2.true) in
    rw (← c.self.view_is, c.in-Pad.is, pads, fronts, defers) (λ t. (nil_from_length _ no_front, nil_from_length _ no_defer, c.site_rises.ensures.0 t), λ h. c.site_rises.ensures.1 h.2)

pub returns-else-is_empty-2 : goal.returns-else-is_empty-2
returns-else-is_empty-2 c =
    let pads = entries_of nat_cmp c.self.inside.pads c.self.invariant.pads in
    let fronts = entries_of nat_cmp c.self.inside.fronts c.self.invariant.fronts in
    let defers = entries_of pair_cmp c.self.inside.defers c.self.invariant.defers in
    rw (← c.self.view_is, c.in-Pad.is, pads, fronts, defers) (λ t. absurd cc, λ h. let none = ap length h.1 in absurd (grind (arith, nat_tests, c.is_empty-then-is_empty.ensures, c.if-is_empty-2.false)))

pub returns-else-is_empty : goal.returns-else-is_empty
returns-else-is_empty c =
    let pads = entries_of nat_cmp c.self.inside.pads c.self.invariant.pads in
    let fronts = entries_of nat_cmp c.self.inside.fronts c.self.invariant.fronts in
    let defers = entries_of pair_cmp c.self.inside.defers c.self.invariant.defers in
    rw (← c.self.view_is, c.in-Pad.is, pads, fronts, defers) (λ t. absurd cc, λ h. let none = ap length h.0 in absurd (grind (arith, nat_tests, c.is_empty.ensures, c.if-is_empty.false)))

pub returns-then-is_empty-3 : goal.returns-then-is_empty-3
returns-then-is_empty-3 c =
    let fronts = entries_of nat_cmp c.self.inside.fronts c.self.invariant.fronts in
    let defers = entries_of pair_cmp c.self.inside.defers c.self.invariant.defers in
    let none : length c.self.inside.defers.entries ≡ 0 = grind (arith, nat_tests, c.is_empty-in-Front.ensures, c.if-is_empty-3.true) in
    rw (← c.self.view_is, c.in-Front.is, fronts, defers) (λ t. (nil_from_length _ none, c.site_rises-then-is_empty-3.ensures.0 t), λ h. c.site_rises-then-is_empty-3.ensures.1 h.1)

pub returns-else-is_empty-3 : goal.returns-else-is_empty-3
returns-else-is_empty-3 c =
    let fronts = entries_of nat_cmp c.self.inside.fronts c.self.invariant.fronts in
    let defers = entries_of pair_cmp c.self.inside.defers c.self.invariant.defers in
    rw (← c.self.view_is, c.in-Front.is, fronts, defers) (λ t. absurd cc, λ h. let none = ap length h.0 in absurd (grind (arith, nat_tests, c.is_empty-in-Front.ensures, c.if-is_empty-3.false)))

pub returns-in-Defer : goal.returns-in-Defer
returns-in-Defer c =
    let defers = entries_of pair_cmp c.self.inside.defers c.self.invariant.defers in
    rw (← c.self.view_is, c.in-Defer.is, defers) (c.pair_rises.ensures)
