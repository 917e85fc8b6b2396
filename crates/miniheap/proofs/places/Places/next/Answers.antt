use Rattle.std.proofs.Common.{◌≡◌, ◌<◌, ◌+◌, length, Some, rules, arith, sym, ap, ◌∙◌, subst}
use Rattle.miniheap.specs.declared.place.SlotPlace.{SlotPlace}
use Rattle.miniheap.specs.Layout.{Mini, minis, mini_at}
use Rattle.miniheap.specs.Places.{IsPlaceOf}
use Rattle.miniheap.proofs.RowLemmas.{rows_length}
use Rattle.miniheap.proofs.PlaceLemmas.{rows_are, is_read, nth_place_of}
use Rattle.miniheap.proofs.NextLemmas.{has_slots, behind_within, behind_across, behind_all, next_number}
use Rattle.miniheap.proofs.places.Places.next.Goals as goal

pub returns-then-place-slots-clause-next : goal.returns-then-place-slots-clause-next
returns-then-place-slots-clause-next c =
    let r = is_read c.self.inside c.args.self.now (rows_are c.self.inside c.self.invariant c.args.self.now c.self.view_is) c.args.place.now.mini c.requires.known.mini_known c.index.result.now c.index.ensures in
    let h : c.args.place.now.nth + 1 < (mini_at (minis c.args.self.now) c.args.place.now.mini).slots = subst (λ (m : Mini). c.args.place.now.nth + 1 < m.slots) (sym r.mini_is) c.if-place-slots.true in
    λ k e. ap (λ (p : SlotPlace). Some p) c.nth.ensures ∙ sym (behind_within c.args.self.now c.args.place.now c.requires.known h) ∙ next_number c.args.self.now c.args.place.now c.requires.known k e

pub returns-then-place-slots-clause-behind : goal.returns-then-place-slots-clause-behind
returns-then-place-slots-clause-behind c =
    let r = is_read c.self.inside c.args.self.now (rows_are c.self.inside c.self.invariant c.args.self.now c.self.view_is) c.args.place.now.mini c.requires.known.mini_known c.index.result.now c.index.ensures in
    let h : c.args.place.now.nth + 1 < (mini_at (minis c.args.self.now) c.args.place.now.mini).slots = subst (λ (m : Mini). c.args.place.now.nth + 1 < m.slots) (sym r.mini_is) c.if-place-slots.true in
    ap (λ (p : SlotPlace). Some p) c.nth.ensures ∙ sym (behind_within c.args.self.now c.args.place.now c.requires.known h)

pub nth-requires-then-mini-len-clause-nth_known : goal.nth-requires-then-mini-len-clause-nth_known
nth-requires-then-mini-len-clause-nth_known c =
    let l : c.len.result ≡ length c.self.inside.rows.items = search rules in
    has_slots c.args.self.now (c.args.place.now.mini + 1) (omega (arith, c.if-mini-len.true, l, rows_length c.args.self.now c.self.inside.rows.items (rows_are c.self.inside c.self.invariant c.args.self.now c.self.view_is).minis_are))

pub returns-then-mini-len-clause-next : goal.returns-then-mini-len-clause-next
returns-then-mini-len-clause-next c =
    let r = is_read c.self.inside c.args.self.now (rows_are c.self.inside c.self.invariant c.args.self.now c.self.view_is) c.args.place.now.mini c.requires.known.mini_known c.index.result.now c.index.ensures in
    let s : (mini_at (minis c.args.self.now) c.args.place.now.mini).slots ≡ c.index.result.now.slots = ap (λ (m : Mini). m.slots) r.mini_is in
    let l : c.len.result ≡ length c.self.inside.rows.items = search rules in
    λ k e. ap (λ (p : SlotPlace). Some p) c.nth-then-mini-len.ensures
    ∙ sym (behind_across c.args.self.now c.args.place.now c.requires.known (omega (arith, s, c.if-place-slots.false, c.requires.known.nth_known)) (omega (arith, c.if-mini-len.true, l, rows_length c.args.self.now c.self.inside.rows.items (rows_are c.self.inside c.self.invariant c.args.self.now c.self.view_is).minis_are)))
    ∙ next_number c.args.self.now c.args.place.now c.requires.known k e

pub returns-then-mini-len-clause-behind : goal.returns-then-mini-len-clause-behind
returns-then-mini-len-clause-behind c =
    let r = is_read c.self.inside c.args.self.now (rows_are c.self.inside c.self.invariant c.args.self.now c.self.view_is) c.args.place.now.mini c.requires.known.mini_known c.index.result.now c.index.ensures in
    let s : (mini_at (minis c.args.self.now) c.args.place.now.mini).slots ≡ c.index.result.now.slots = ap (λ (m : Mini). m.slots) r.mini_is in
    let l : c.len.result ≡ length c.self.inside.rows.items = search rules in
    ap (λ (p : SlotPlace). Some p) c.nth-then-mini-len.ensures
    ∙ sym (behind_across c.args.self.now c.args.place.now c.requires.known (omega (arith, s, c.if-place-slots.false, c.requires.known.nth_known)) (omega (arith, c.if-mini-len.true, l, rows_length c.args.self.now c.self.inside.rows.items (rows_are c.self.inside c.self.invariant c.args.self.now c.self.view_is).minis_are)))

pub returns-then-mini-len-clause-known : goal.returns-then-mini-len-clause-known
returns-then-mini-len-clause-known c =
    let l : c.len.result ≡ length c.self.inside.rows.items = search rules in
    let h : c.args.place.now.mini + 1 < length (minis c.args.self.now) = omega (arith, c.if-mini-len.true, l, rows_length c.args.self.now c.self.inside.rows.items (rows_are c.self.inside c.self.invariant c.args.self.now c.self.view_is).minis_are) in
    subst (λ (p : SlotPlace). IsPlaceOf c.args.self.now p) (sym c.nth-then-mini-len.ensures) (nth_place_of c.args.self.now (c.args.place.now.mini + 1) 0 h (has_slots c.args.self.now (c.args.place.now.mini + 1) h))

pub returns-clause-next : goal.returns-clause-next
returns-clause-next c =
    let r = is_read c.self.inside c.args.self.now (rows_are c.self.inside c.self.invariant c.args.self.now c.self.view_is) c.args.place.now.mini c.requires.known.mini_known c.index.result.now c.index.ensures in
    let s : (mini_at (minis c.args.self.now) c.args.place.now.mini).slots ≡ c.index.result.now.slots = ap (λ (m : Mini). m.slots) r.mini_is in
    let l : c.len.result ≡ length c.self.inside.rows.items = search rules in
    λ k e. sym (behind_all c.args.self.now c.args.place.now c.requires.known (omega (arith, s, c.if-place-slots.false, c.requires.known.nth_known)) (omega (arith, c.if-mini-len.false, c.requires.known.mini_known, l, rows_length c.args.self.now c.self.inside.rows.items (rows_are c.self.inside c.self.invariant c.args.self.now c.self.view_is).minis_are)))
    ∙ next_number c.args.self.now c.args.place.now c.requires.known k e

pub returns-clause-behind : goal.returns-clause-behind
returns-clause-behind c =
    let r = is_read c.self.inside c.args.self.now (rows_are c.self.inside c.self.invariant c.args.self.now c.self.view_is) c.args.place.now.mini c.requires.known.mini_known c.index.result.now c.index.ensures in
    let s : (mini_at (minis c.args.self.now) c.args.place.now.mini).slots ≡ c.index.result.now.slots = ap (λ (m : Mini). m.slots) r.mini_is in
    let l : c.len.result ≡ length c.self.inside.rows.items = search rules in
    sym (behind_all c.args.self.now c.args.place.now c.requires.known (omega (arith, s, c.if-place-slots.false, c.requires.known.nth_known)) (omega (arith, c.if-mini-len.false, c.requires.known.mini_known, l, rows_length c.args.self.now c.self.inside.rows.items (rows_are c.self.inside c.self.invariant c.args.self.now c.self.view_is).minis_are)))
