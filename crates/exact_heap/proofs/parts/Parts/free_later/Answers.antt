use Rattle.std.proofs.Common.{◌≡◌, ℕ, ◌+◌, ◌^◌, ◌<◌, sym, ap, subst, ◌∙◌, arith, Bool, cond}
use Rattle.std.specs.Option.{is_some}
use Rattle.std.proofs.lemmas.Bool.{ne_eqb}
use Rattle.deferral_queue.specs.declared.Due.{Due}
use Rattle.deferral_queue.specs.Deferrals.{Deferrals, insert_due}
use Rattle.diefast_canary.specs.Canary.{canary_byte}
use Rattle.rv_memory.specs.Memory.{Memory, filled}
use Rattle.exact_heap.specs.declared.parts.Parts.{Parts}
use Rattle.exact_heap.specs.declared.rows.Row.{Row}
use Rattle.exact_heap.specs.declared.slot_table.SlotTable.{SlotTable}
use Rattle.exact_heap.specs.History.{History, slot_of, canary_in, clock_of}
use Rattle.exact_heap.specs.Owners.{Owner, changed_at}
use Rattle.exact_heap.specs.Freeing.{freed_object, object_freed}
use Rattle.exact_heap.specs.RowStore.{RowsChange}
use Rattle.exact_heap.specs.Stands.{PartsStandFor, IsAt}
use Rattle.exact_heap.proofs.Sound.{sound_map, sound_frees, sound_chunks, sound_owner_room}
use Rattle.exact_heap.proofs.Freed.{OwnerAt, owner_at, same_owner, freed_later, freed_row}
use Rattle.exact_heap.proofs.parts.Parts.free_later.Goals as goal

abbrev counted_with : Parts → SlotTable → Parts
counted_with p slots = record p { slots = slots; counts = record p.counts { frees = p.counts.frees + 1 } }

-- one free more is counted, and a row has changed
counted_is : (p : Parts) (slots : SlotTable) → slots ≡ record p.slots { rows = slots.rows } → counted_with p slots ≡ record p { slots = record p.slots { rows = slots.rows }; counts = record p.counts { frees = p.counts.frees + 1 } }
counted_is p slots e = ap (counted_with p) e

pub set_row-requires-clause-chunks : goal.set_row-requires-clause-chunks
set_row-requires-clause-chunks c = sound_chunks c.args.self.now c.requires.sound

pub set_row-requires-clause-there : goal.set_row-requires-clause-there
set_row-requires-clause-there c = ap is_some c.requires.row

pub overflow_add-self : goal.overflow_add-self
overflow_add-self c = record { fits = omega (arith, sound_frees c.args.self.now c.requires.sound, c.requires.clock) }

pub put-requires : goal.put-requires
put-requires c = sound_owner_room c.args.self.now c.args.slot.now.addr c.args.row.now c.requires.sound c.requires.row c.requires.owned

abbrev entry_at : (due object addr : ℕ) → Due
entry_at due object addr = record { due = due; object = object; addr = addr }

later_stands : (p q : Parts) (queue : Deferrals) (a site deferral number : ℕ) (row : Row) (h : History) (st : PartsStandFor p h) (w : OwnerAt h a row) → q ≡ record p { slots = record p.slots { rows = q.slots.rows }; counts = record p.counts { frees = p.counts.frees + 1 } } → 0 < deferral → number ≡ deferral
    → queue.dues ≡ insert_due (entry_at (q.counts.clock + number) row.object a) q.queue.dues → queue.spare + 1 ≡ q.queue.spare
    → RowsChange p.slots.grid.classes p.slots.rows q.slots.rows a (freed_row row p.counts.clock site) → PartsStandFor (record q { queue = queue }) (record h { objects = changed_at (freed_object (clock_of h) deferral site) w.owner.number h.objects })
later_stands p q queue a site deferral number row h st w e some same dues spare change =
    subst (λ (x : Parts). PartsStandFor (record x { queue = queue }) (record h { objects = changed_at (freed_object (clock_of h) deferral site) w.owner.number h.objects })) (sym e)
    (freed_later p h a row deferral site q.slots.rows queue st w (ne_eqb deferral 0 (λ z. omega (arith, some, z)))
    (dues ∙ ap (λ (x : Parts). insert_due (entry_at (x.counts.clock + number) row.object a) x.queue.dues) e ∙ ap (λ (n : ℕ). insert_due (entry_at (p.counts.clock + n) row.object a) p.queue.dues) same)
    (spare ∙ ap (λ (x : Parts). x.queue.spare) e) change)

later_memory : (owner : Owner) (deferral site : ℕ) (h : History) (m : Memory) → 0 < deferral → m ≡ (object_freed deferral site owner (record { history = h; memory = m })).memory
later_memory owner deferral site h m some =
    sym (ap (λ (b : Bool). cond b (filled m (slot_of owner.object) (2 ^ owner.object.class) (canary_byte (canary_in h))) m) (ne_eqb deferral 0 (λ z. omega (arith, some, z))))

pub returns-clause-freed : goal.returns-clause-freed
returns-clause-freed c h owner memory st is =
    let w : OwnerAt h c.args.slot.now.addr c.args.row.now = owner_at c.args.self.now h c.args.slot.now.addr c.args.row.now st c.requires.row c.requires.owned in
    subst (λ (x : Owner). IsAt (object_freed c.args.deferral c.args.free_site x (record { history = h; memory = memory })) (record (counted_with c.args.self.now c.set_row.new.self) { queue = c.put.new.self }) memory) (same_owner h c.args.slot.now.addr c.args.row.now w owner is)
    (record {
      stands = later_stands c.args.self.now (counted_with c.args.self.now c.set_row.new.self) c.put.new.self c.args.slot.now.addr c.args.free_site c.args.deferral c.from.result c.args.row.now h st w (counted_is c.args.self.now c.set_row.new.self c.set_row.ensures.rest) c.requires.deferral c.from.ensures c.put.ensures.dues c.put.ensures.spare c.set_row.ensures.changes;
      bytes = later_memory w.owner c.args.deferral c.args.free_site h memory c.requires.deferral;
    })

pub returns-clause-sound : goal.returns-clause-sound
returns-clause-sound c =
    sound_map c.args.self.now (record (counted_with c.args.self.now c.set_row.new.self) { queue = c.put.new.self }) (λ h st.
    let w : OwnerAt h c.args.slot.now.addr c.args.row.now = owner_at c.args.self.now h c.args.slot.now.addr c.args.row.now st c.requires.row c.requires.owned in (
      record h { objects = changed_at (freed_object (clock_of h) c.args.deferral c.args.free_site) w.owner.number h.objects },
      later_stands c.args.self.now (counted_with c.args.self.now c.set_row.new.self) c.put.new.self c.args.slot.now.addr c.args.free_site c.args.deferral c.from.result c.args.row.now h st w (counted_is c.args.self.now c.set_row.new.self c.set_row.ensures.rest) c.requires.deferral c.from.ensures c.put.ensures.dues c.put.ensures.spare c.set_row.ensures.changes,
    )) c.requires.sound
