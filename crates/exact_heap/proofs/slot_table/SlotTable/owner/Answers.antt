use Rattle.std.proofs.Common.{◌≡◌, sym, ap, ◌∙◌, arith, Some, None}
use Rattle.std.proofs.lemmas.Option.{same_Some}
use Rattle.miniheap.specs.Slots.{slot_at}
use Rattle.exact_heap.specs.declared.rows.Row.{Row}
use Rattle.exact_heap.specs.RowStore.{kept_row}
use Rattle.exact_heap.specs.Stands.{row_of}
use Rattle.exact_heap.proofs.Addresses.{not_owned, row_of_slot, row_of_owned}
use Rattle.exact_heap.proofs.slot_table.SlotTable.owner.Goals as goal

none_some : {A : Type 0} (x : A) → None ≡ Some x → ⊥
none_some x e = cc

pub returns-in-Some-get-clause-row : goal.returns-in-Some-get-clause-row
returns-in-Some-get-clause-row c =
    row_of_slot c.slot_laws.ensures c.args.self.now c.args.addr c.in-Some.slot (sym c.slot_at.ensures.slot ∙ c.in-Some.is) ∙ sym c.get.ensures ∙ c.in-Some-get.is

pub returns-in-Some-get-clause-found : goal.returns-in-Some-get-clause-found
returns-in-Some-get-clause-found c =
    let e = sym c.slot_at.ensures.slot ∙ c.in-Some.is in
    let h = c.slot_laws.ensures.hold c.args.self.now.grid c.args.addr c.in-Some.slot e in
    c.slot_laws.ensures.apart c.args.self.now.grid c.args.addr c.in-Some.slot.addr c.in-Some.slot e (omega arith) (omega (arith, h.0, h.1))

-- outside of every slot
pub returns-in_default-clause-none : goal.returns-in_default-clause-none
returns-in_default-clause-none c h ok st =
    not_owned c.slot_laws.ensures c.args.self.now h c.args.addr ok st (λ w x. none_some x.slot (sym c.in_default.is ∙ c.slot_at.ensures.slot ∙ x.found))

-- the slot's last owner has another address
pub returns-in_default-get-clause-none : goal.returns-in_default-get-clause-none
returns-in_default-get-clause-none c h ok st =
    let found : slot_at c.args.self.now.grid c.args.addr ≡ Some c.in-Some.slot = sym c.slot_at.ensures.slot ∙ c.in-Some.is in
    let kept : kept_row c.args.self.now.grid.classes c.args.self.now.rows c.in-Some.slot.addr ≡ Some c.in-Some-get.row = row_of_slot c.slot_laws.ensures c.args.self.now c.args.addr c.in-Some.slot found ∙ sym c.get.ensures ∙ c.in-Some-get.is in
    not_owned c.slot_laws.ensures c.args.self.now h c.args.addr ok st (λ w x.
    c.if-row-addr.false (ap (λ (r : Row). r.addr) (same_Some c.in-Some-get.row (row_of w) (row_of_owned c.args.self.now c.args.addr c.in-Some.slot (Some c.in-Some-get.row) w found kept x)) ∙ x.address))

-- it is freed
pub returns-in_default-get-2-clause-none : goal.returns-in_default-get-2-clause-none
returns-in_default-get-2-clause-none c h ok st =
    let found : slot_at c.args.self.now.grid c.args.addr ≡ Some c.in-Some.slot = sym c.slot_at.ensures.slot ∙ c.in-Some.is in
    let kept : kept_row c.args.self.now.grid.classes c.args.self.now.rows c.in-Some.slot.addr ≡ Some c.in-Some-get.row = row_of_slot c.slot_laws.ensures c.args.self.now c.args.addr c.in-Some.slot found ∙ sym c.get.ensures ∙ c.in-Some-get.is in
    not_owned c.slot_laws.ensures c.args.self.now h c.args.addr ok st (λ w x.
    c.if-row-eq0.false (ap (λ (r : Row). r.freed) (same_Some c.in-Some-get.row (row_of w) (row_of_owned c.args.self.now c.args.addr c.in-Some.slot (Some c.in-Some-get.row) w found kept x)) ∙ x.unfreed))

-- the slot never had one
pub returns-in_default-get-3-clause-none : goal.returns-in_default-get-3-clause-none
returns-in_default-get-3-clause-none c h ok st =
    let found : slot_at c.args.self.now.grid c.args.addr ≡ Some c.in-Some.slot = sym c.slot_at.ensures.slot ∙ c.in-Some.is in
    let kept : kept_row c.args.self.now.grid.classes c.args.self.now.rows c.in-Some.slot.addr ≡ None = row_of_slot c.slot_laws.ensures c.args.self.now c.args.addr c.in-Some.slot found ∙ sym c.get.ensures ∙ c.in_default-get.is in
    not_owned c.slot_laws.ensures c.args.self.now h c.args.addr ok st (λ w x. none_some (row_of w) (row_of_owned c.args.self.now c.args.addr c.in-Some.slot None w found kept x))
