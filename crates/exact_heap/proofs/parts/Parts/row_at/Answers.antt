use Rattle.std.proofs.Common.{sym, ap, ◌∙◌, Bool, cond, Some, None, refl}
use Rattle.exact_heap.specs.Rows.{bad_row}
use Rattle.exact_heap.proofs.RowStores.{kept_some}
use Rattle.exact_heap.proofs.Ends.{row_owned, row_none, sound_row_behind}
use Rattle.exact_heap.proofs.parts.Parts.row_at.Goals as goal

pub returns-in-Some : goal.returns-in-Some
returns-in-Some c h st = row_owned c.args.self.now h c.args.slot.now c.in-Some.row c.state_number.result st c.requires.found (kept_some c.args.self.now.slots.grid c.args.self.now.slots.rows c.args.slot.now.addr c.args.slot.now c.requires.found refl ∙ sym c.get.ensures ∙ c.in-Some.is) c.state_number.ensures

pub returns-in-None : goal.returns-in-None
returns-in-None c h st =
    ap (λ (b : Bool). cond b (Some (bad_row c.args.slot.now.addr)) None) (sym c.if-is_bad.true) ∙ row_none c.args.self.now h c.args.slot.now c.is_bad-is_bad.result st c.requires.found (kept_some c.args.self.now.slots.grid c.args.self.now.slots.rows c.args.slot.now.addr c.args.slot.now c.requires.found refl ∙ sym c.get.ensures ∙ c.in-None.is) c.is_bad-is_bad.ensures

pub returns-in-None-2 : goal.returns-in-None-2
returns-in-None-2 c h st =
    ap (λ (b : Bool). cond b (Some (bad_row c.args.slot.now.addr)) None) (sym c.if-is_bad.false)
    ∙ row_none c.args.self.now h c.args.slot.now c.is_bad-is_bad.result st c.requires.found (kept_some c.args.self.now.slots.grid c.args.self.now.slots.rows c.args.slot.now.addr c.args.slot.now c.requires.found refl ∙ sym c.get.ensures ∙ c.in-None-2.is) c.is_bad-is_bad.ensures

pub overflow_sub-result : goal.overflow_sub-result
overflow_sub-result c =
    sound_row_behind c.args.self.now c.args.slot.now.addr c.in-Some.row c.requires.sound (kept_some c.args.self.now.slots.grid c.args.self.now.slots.rows c.args.slot.now.addr c.args.slot.now c.requires.found refl ∙ sym c.get.ensures ∙ c.in-Some.is)
