use Rattle.std.proofs.Common.{subst, sym, arith, Option, IsSome}
use Rattle.std.proofs.lemmas.Bool.{false≢true}
use Rattle.miniheap.specs.declared.place.Slot.{Slot}
use Rattle.miniheap.specs.Slots.{Slots, nth_slot}
use Rattle.exact_heap.specs.declared.rows.Row.{Row}
use Rattle.exact_heap.proofs.RowStores.{known_addr, known_found, kept_some, chunk_known, rows_changed}
use Rattle.exact_heap.proofs.slot_table.SlotTable.set_row.Goals as goal

pub set-requires-clause-mini : goal.set-requires-clause-mini
set-requires-clause-mini c = omega (arith, c.requires.known.mini_known, c.requires.chunks.minis_known)

pub set-requires-clause-chunk : goal.set-requires-clause-chunk
set-requires-clause-chunk c =
    let s : Slots = c.args.self.now.grid in
    chunk_known s c.args.self.now.rows c.args.slot.now.addr (nth_slot s c.args.slot.now.mini c.args.slot.now.nth) (known_found c.slot_laws.ensures s c.args.slot.now c.requires.known) c.requires.chunks

pub unreachable-requires : goal.unreachable-requires
unreachable-requires c =
    let s : Slots = c.args.self.now.grid in
    let t : Slot = nth_slot s c.args.slot.now.mini c.args.slot.now.nth in
    false≢true (c.in-Err.ensures.sure (subst (λ (o : Option Row). IsSome o) (kept_some s c.args.self.now.rows c.args.slot.now.addr t (known_found c.slot_laws.ensures s c.args.slot.now c.requires.known) (sym (known_addr s c.args.slot.now c.requires.known))) c.requires.there))

pub returns-clause-changes : goal.returns-clause-changes
returns-clause-changes c =
    let s : Slots = c.args.self.now.grid in
    let t : Slot = nth_slot s c.args.slot.now.mini c.args.slot.now.nth in
    rows_changed c.slot_laws.ensures s c.args.self.now.rows c.set.new.self c.args.slot.now.addr t c.args.row (known_found c.slot_laws.ensures s c.args.slot.now c.requires.known) (sym (known_addr s c.args.slot.now c.requires.known))
    c.requires.chunks c.in-Ok.ensures.ok c.in-Ok.ensures.rest
