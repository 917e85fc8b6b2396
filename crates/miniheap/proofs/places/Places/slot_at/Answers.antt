use Rattle.std.proofs.Common.{◌≤◌, ◌<◌, ◌-◌, ◌/◌, ◌^◌, List, length, Some, arith, sym, ap, ◌∙◌, subst, inl, inr, ◌+◌}
use Rattle.miniheap.specs.declared.places.Row.{Row}
use Rattle.miniheap.specs.declared.place.SlotPlace.{SlotPlace}
use Rattle.miniheap.specs.Layout.{heap_from}
use Rattle.miniheap.specs.Places.{IsPlaceOf, end_behind}
use Rattle.miniheap.specs.Rows.{row_at, BasesRise}
use Rattle.miniheap.proofs.PlaceLemmas.{rows_are, is_in, outside, some_rows, first_base, rising, nth_place_of}
use Rattle.miniheap.proofs.places.Places.slot_at.Goals as goal
use Rattle.miniheap.proofs.places.Places.slot_at.Goals.{then-addr-lt-START-via-then-addr-lt-START, then-addr-lt-START-via-else-addr-lt-START+then-self-addr}

pub returns-then-addr-lt-START-clause-slot : goal.returns-then-addr-lt-START-clause-slot
returns-then-addr-lt-START-clause-slot c =
    let ok = rows_are c.self.inside c.self.invariant c.args.self.now c.self.view_is in elim c.then-addr-lt-START.branch [
      | then-addr-lt-START-via-then-addr-lt-START w ↦ sym (outside c.self.inside c.args.self.now ok c.args.addr (inl w.if-addr-lt-START.true))
      | then-addr-lt-START-via-else-addr-lt-START+then-self-addr w ↦ sym (outside c.self.inside c.args.self.now ok c.args.addr (inr w.if-self-addr.true))
    ]

pub find-mini-requires-clause-rising : goal.find-mini-requires-clause-rising
find-mini-requires-clause-rising c =
    subst BasesRise (sym c.deref.ensures.value) (rising c.self.inside c.args.self.now (rows_are c.self.inside c.self.invariant c.args.self.now c.self.view_is))

pub find-mini-requires-clause-from : goal.find-mini-requires-clause-from
find-mini-requires-clause-from c =
    let ok = rows_are c.self.inside c.self.invariant c.args.self.now c.self.view_is in
    let s : 0 < length c.self.inside.rows.items = some_rows c.self.inside c.args.self.now ok c.args.addr c.if-addr-lt-START.false c.if-self-addr.false in
    subst (λ (rows : List Row). (row_at rows 0).base ≤ c.args.addr) (sym c.deref.ensures.value) (omega (arith, first_base c.self.inside c.args.self.now ok s, c.if-addr-lt-START.false))

pub overflow_shr-nth : goal.overflow_shr-nth
overflow_shr-nth c =
    (is_in c.self.inside c.args.self.now (rows_are c.self.inside c.self.invariant c.args.self.now c.self.view_is) c.args.addr c.find-mini.result c.if-self-addr.false c.deref.result.now c.deref.ensures.value
    c.find-mini.ensures.known c.find-mini.ensures.from c.find-mini.ensures.to c.index.result.now c.index-2.result.now c.index.ensures c.index-2.ensures).class_small

pub nth-requires-clause-nth_known : goal.nth-requires-clause-nth_known
nth-requires-clause-nth_known c =
    (is_in c.self.inside c.args.self.now (rows_are c.self.inside c.self.invariant c.args.self.now c.self.view_is) c.args.addr c.find-mini.result c.if-self-addr.false c.deref.result.now c.deref.ensures.value
    c.find-mini.ensures.known c.find-mini.ensures.from c.find-mini.ensures.to c.index.result.now c.index-2.result.now c.index.ensures c.index-2.ensures).nth_known

pub returns-clause-slot : goal.returns-clause-slot
returns-clause-slot c =
    ap (λ (p : SlotPlace). Some p) c.nth.ensures
    ∙ sym (is_in c.self.inside c.args.self.now (rows_are c.self.inside c.self.invariant c.args.self.now c.self.view_is) c.args.addr c.find-mini.result c.if-self-addr.false c.deref.result.now c.deref.ensures.value
    c.find-mini.ensures.known c.find-mini.ensures.from c.find-mini.ensures.to c.index.result.now c.index-2.result.now c.index.ensures c.index-2.ensures).found

pub returns-clause-known : goal.returns-clause-known
returns-clause-known c =
    let q = (is_in c.self.inside c.args.self.now (rows_are c.self.inside c.self.invariant c.args.self.now c.self.view_is) c.args.addr c.find-mini.result c.if-self-addr.false c.deref.result.now c.deref.ensures.value
    c.find-mini.ensures.known c.find-mini.ensures.from c.find-mini.ensures.to c.index.result.now c.index-2.result.now c.index.ensures c.index-2.ensures) in
    subst (λ (p : SlotPlace). IsPlaceOf c.args.self.now p) (sym c.nth.ensures) (nth_place_of c.args.self.now c.find-mini.result ((c.args.addr - c.index.result.now.base) / 2 ^ c.index-2.result.now.class) q.mini_known q.nth_known)

pub returns-clause-class : goal.returns-clause-class
returns-clause-class c =
    subst (λ (p : SlotPlace). (4 ≤ p.class) × (p.class ≤ 22)) (sym c.nth.ensures)
    (is_in c.self.inside c.args.self.now (rows_are c.self.inside c.self.invariant c.args.self.now c.self.view_is) c.args.addr c.find-mini.result c.if-self-addr.false c.deref.result.now c.deref.ensures.value
    c.find-mini.ensures.known c.find-mini.ensures.from c.find-mini.ensures.to c.index.result.now c.index-2.result.now c.index.ensures c.index-2.ensures).class_in

pub returns-clause-inside : goal.returns-clause-inside
returns-clause-inside c =
    subst (λ (p : SlotPlace). (p.addr ≤ c.args.addr) × (c.args.addr < p.addr + 2 ^ p.class)) (sym c.nth.ensures)
    (is_in c.self.inside c.args.self.now (rows_are c.self.inside c.self.invariant c.args.self.now c.self.view_is) c.args.addr c.find-mini.result c.if-self-addr.false c.deref.result.now c.deref.ensures.value
    c.find-mini.ensures.known c.find-mini.ensures.from c.find-mini.ensures.to c.index.result.now c.index-2.result.now c.index.ensures c.index-2.ensures).inside

pub returns-clause-within : goal.returns-clause-within
returns-clause-within c =
    subst (λ (p : SlotPlace). (heap_from ≤ p.addr) × (p.addr + 2 ^ p.class ≤ end_behind c.args.self.now)) (sym c.nth.ensures)
    (is_in c.self.inside c.args.self.now (rows_are c.self.inside c.self.invariant c.args.self.now c.self.view_is) c.args.addr c.find-mini.result c.if-self-addr.false c.deref.result.now c.deref.ensures.value
    c.find-mini.ensures.known c.find-mini.ensures.from c.find-mini.ensures.to c.index.result.now c.index-2.result.now c.index.ensures c.index-2.ensures).within
