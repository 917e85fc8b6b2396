use Rattle.std.proofs.Common.{◌<◌, length, Some, rules, arith, sym, ap, ◌∙◌, subst}
use Rattle.miniheap.specs.declared.place.SlotPlace.{SlotPlace}
use Rattle.miniheap.specs.Layout.{minis}
use Rattle.miniheap.specs.Places.{IsPlaceOf}
use Rattle.miniheap.proofs.RowLemmas.{rows_length}
use Rattle.miniheap.proofs.PlaceLemmas.{rows_are, nth_place_of}
use Rattle.miniheap.proofs.NextLemmas.{has_slots, first_there, first_number}
use Rattle.miniheap.proofs.places.Places.first.Goals as goal

pub nth-requires-clause-nth_known : goal.nth-requires-clause-nth_known
nth-requires-clause-nth_known c =
    let n : 0 < length c.self.inside.rows.items = search rules in
    has_slots c.args.self.now 0 (omega (arith, n, rows_length c.args.self.now c.self.inside.rows.items (rows_are c.self.inside c.self.invariant c.args.self.now c.self.view_is).minis_are))

pub returns-clause-first : goal.returns-clause-first
returns-clause-first c =
    let n : 0 < length c.self.inside.rows.items = search rules in
    let h : 0 < length (minis c.args.self.now) = omega (arith, n, rows_length c.args.self.now c.self.inside.rows.items (rows_are c.self.inside c.self.invariant c.args.self.now c.self.view_is).minis_are) in
    ap (λ (p : SlotPlace). Some p) c.nth.ensures ∙ sym (first_there c.args.self.now h) ∙ first_number c.args.self.now

pub returns-clause-from : goal.returns-clause-from
returns-clause-from c =
    let n : 0 < length c.self.inside.rows.items = search rules in
    let h : 0 < length (minis c.args.self.now) = omega (arith, n, rows_length c.args.self.now c.self.inside.rows.items (rows_are c.self.inside c.self.invariant c.args.self.now c.self.view_is).minis_are) in
    ap (λ (p : SlotPlace). Some p) c.nth.ensures ∙ sym (first_there c.args.self.now h)

pub returns-clause-known : goal.returns-clause-known
returns-clause-known c =
    let n : 0 < length c.self.inside.rows.items = search rules in
    let h : 0 < length (minis c.args.self.now) = omega (arith, n, rows_length c.args.self.now c.self.inside.rows.items (rows_are c.self.inside c.self.invariant c.args.self.now c.self.view_is).minis_are) in
    subst (λ (p : SlotPlace). IsPlaceOf c.args.self.now p) (sym c.nth.ensures) (nth_place_of c.args.self.now 0 0 h (has_slots c.args.self.now 0 h))
