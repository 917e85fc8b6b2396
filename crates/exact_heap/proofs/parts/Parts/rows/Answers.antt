use Rattle.std.proofs.Common.{◌≡◌, ◌++◌, ◌<◌, sym, ap, subst, ◌∙◌, refl, List, [], ◌∷◌, Option, Some}
use Rattle.std.specs.List.{cons_option}
use Rattle.std.specs.declared.alloc.Global.{Global}
use Rattle.std.specs.declared.vec.Vec.{Vec}
use Rattle.miniheap.specs.declared.place.Slot.{Slot}
use Rattle.exact_heap.specs.declared.row.SlotRow.{SlotRow}
use Rattle.exact_heap.proofs.Walks.{bytes_left, walk_nears}
use Rattle.exact_heap.proofs.Ends.{RowsLeft, RowsGoOn, rows_begin, rows_step, rows_end, found_again}
use Rattle.exact_heap.proofs.parts.Parts.rows.Goals.{in-Some-row_at+in_ok-push, in_default-row_at}
use Rattle.exact_heap.proofs.parts.Parts.rows.Goals as goal

pub loop-next-init : goal.loop-next-init
loop-next-init c = record {
  addr = 1073741824;
  here = c.first-next.ensures.from;
  so_far = subst (RowsLeft c.args.self.now 1073741824) (sym c.new-rows.ensures.items) (rows_begin c.slot_laws.ensures c.args.self.now);
}

pub row_at-requires-clause-found : goal.row_at-requires-clause-found
row_at-requires-clause-found c =
    let w = c.loop-next.invariant in
    found_again c.slot_laws.ensures c.args.self.now.slots.grid w.addr c.in-Some.slot w.so_far.left w.so_far.walk (sym w.here ∙ c.in-Some.is)

pub next-next-requires : goal.next-next-requires
next-next-requires c =
    let w = c.loop-next.invariant in
    record { known = (c.slot_laws.ensures.known c.args.self.now.slots.grid c.in-Some.slot.addr c.in-Some.slot (found_again c.slot_laws.ensures c.args.self.now.slots.grid w.addr c.in-Some.slot w.so_far.left w.so_far.walk (sym w.here ∙ c.in-Some.is))).0 }

pub loop-next-smaller : goal.loop-next-smaller
loop-next-smaller c =
    let w = c.loop-next.invariant in
    subst (λ (o : Option Slot). bytes_left c.args.self.now.slots.grid c.next-next.result < bytes_left c.args.self.now.slots.grid o) (sym c.in-Some.is)
    (walk_nears c.slot_laws.ensures c.args.self.now.slots.grid w.addr c.in-Some.slot w.so_far.left c.next-next.result w.so_far.walk (sym w.here ∙ c.in-Some.is) c.next-next.ensures.behind)

pub loop-next-preserved : goal.loop-next-preserved
loop-next-preserved c =
    let w : RowsGoOn c.args.self.now (Some c.in-Some.slot) c.loop-next.rows.items = subst (λ (o : Option Slot). RowsGoOn c.args.self.now o c.loop-next.rows.items) c.in-Some.is c.loop-next.invariant in
    elim c.match-row_at.branch [
      | in-Some-row_at+in_ok-push b ↦ rows_step c.slot_laws.ensures c.args.self.now c.in-Some.slot c.next-next.result c.loop-next.rows.items c.match-row_at.rows.items w c.next-next.ensures.behind
          (λ h st. ap (λ (o : Option SlotRow). c.loop-next.rows.items ++ cons_option o []) (sym (c.row_at.ensures h st) ∙ b.in-Some-row_at.is) ∙ sym b.in_ok-push.ensures.items ∙ sym (ap (λ (v : Vec SlotRow Global). v.items) b.rows-is))
      | in_default-row_at b ↦ rows_step c.slot_laws.ensures c.args.self.now c.in-Some.slot c.next-next.result c.loop-next.rows.items c.match-row_at.rows.items w c.next-next.ensures.behind
          (λ h st. ap (λ (o : Option SlotRow). c.loop-next.rows.items ++ cons_option o []) (sym (c.row_at.ensures h st) ∙ b.in_default-row_at.is) ∙ append_nil c.loop-next.rows.items ∙ sym (ap (λ (v : Vec SlotRow Global). v.items) b.rows-is))
    ]
  where
    append_nil : (l : List SlotRow) → l ++ [] ≡ l
    append_nil [] = refl
    append_nil (x ∷ l) = ap (λ (k : List SlotRow). x ∷ k) (append_nil l)

pub returns : goal.returns
returns c h st =
    let w = c.loop-next.invariant in
    rows_end c.args.self.now h w.addr c.loop-next.rows.items w.so_far (sym w.here ∙ c.in_default.is) st
