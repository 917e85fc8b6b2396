-- An object's free and its release, over what is kept.
use Rattle.std.proofs.Common.{◌≡◌, ℕ, ◌+◌, ◌≤◌, refl, ap, sym, ◌∙◌, subst, Bool, true, false, cond, not, arith, nat_eq, List, [], ◌∷◌, ◌++◌, length, Option, Some, None, count_by}
use Rattle.std.specs.Option.{option_map}
use Rattle.std.specs.Ordering.{nat_cmp}
use Rattle.std.specs.FinSet.{FinSet, contains, remove}
use Rattle.std.proofs.lemmas.Bool.{eqb-true, eq-eqb, true≢false}
use Rattle.std.proofs.lemmas.List.{length-append}
use Rattle.std.proofs.lemmas.List.Sums.{count_by-le-length}
use Rattle.deferral_queue.specs.declared.Due.{Due}
use Rattle.deferral_queue.specs.Deferrals.{Deferrals, insert_due, sorted_dues}
use Rattle.miniheap.specs.declared.place.SlotState.TheVariants.{Held}
use Rattle.miniheap.specs.Slots.{Slots, IsSlotIn, IsInOrder, released_at}
use Rattle.exact_heap.specs.declared.parts.Parts.{Parts}
use Rattle.exact_heap.specs.declared.rows.Row.{Row}
use Rattle.exact_heap.specs.History.{ObjectState, Owned, Deferred, Released, Object, History, slot_of, is_owned, is_held, holds_slot, held_by, slots_of, clock_of, frees_of, due_entry, dues_from}
use Rattle.exact_heap.specs.Owners.{Owner, has_slot, last_owner, changed_at}
use Rattle.exact_heap.specs.Freeing.{freed_object}
use Rattle.exact_heap.specs.Lawful.{IsLawful, IsPlaced, AreApart, AreTimed, IsTimedBy, WasFreed}
use Rattle.exact_heap.specs.RowStore.{RowChunk, kept_row, RowsChange}
use Rattle.exact_heap.specs.Stands.{row_of, PartsStandFor}
use Rattle.std.specs.List.{AllByRecursion}
use Rattle.std.proofs.Common.{IsSomeAnd}
use Rattle.std.proofs.lemmas.Option.{same_Some}
use Rattle.miniheap.specs.declared.place.Slot.{Slot}
use Rattle.miniheap.specs.Slots.{slot_at}
use Rattle.exact_heap.specs.Lawful.{places_of}
use Rattle.exact_heap.proofs.SlotPlaces.{released_ordered, slot_at-places, with_state}
use Rattle.exact_heap.proofs.Objects.{around, held_by-released, held_by-kept, held_here_is, last_splits, Split, changed_at-is, count-change, last_of_held, each_at}
use Rattle.exact_heap.proofs.Timed.{IsStamped, stamp_of, timed_at, freed_in_time}
use Rattle.exact_heap.proofs.Dues.{FirstDue, first_due, dues_deferred, dues_same}
use Rattle.exact_heap.proofs.Standing.{clock_is, frees_is, with_change, changed_stands, rows_kept, kept_is}

-- ---- who owns a slot

pub record OwnerAt (h : History) (a : ℕ) (row : Row) : Type 0 where
  pub owner : Owner
  pub is_last : last_owner h.objects a ≡ Some owner
  pub row_is : row ≡ row_of owner
  pub first : List Object
  pub last : List Object
  pub parts : h.objects ≡ first ++ owner.object ∷ last
  pub number : owner.number ≡ length first
  pub state : owner.object.state ≡ Owned
  pub slot : slot_of owner.object ≡ a

pub owned_state : (x : ObjectState) → is_owned x ≡ true → x ≡ Owned
owned_state Owned e = refl
owned_state (Deferred due) e = absurd (true≢false (sym e))
owned_state (Released due) e = absurd (true≢false (sym e))

pub row_from : (o : Option Owner) (row : Row) → option_map row_of o ≡ Some row → (w : Owner) × (o ≡ Some w) × (row ≡ row_of w)
row_from None row e = absurd (cc)
row_from (Some w) row e = (w, refl, cc)

pub splits : (os : List Object) (a : ℕ) (w : Owner) → last_owner os a ≡ Some w → Split 0 os w × (has_slot a w.object ≡ true)
unfolding last_owner
splits os a w e = last_splits (has_slot a) 0 os w e

-- the clock of the free of a last owner tells whether it is owned
pub stamped : (h : History) (w : Owner) → Split 0 h.objects w → IsLawful h → IsStamped w.object
stamped h w s ok = stamp_of (clock_of h) (0 + length s.before) w.object (timed_at (clock_of h) 0 s.before w.object s.after (subst (AreTimed (clock_of h) 0) s.parts ok.timed))

pub owner_at : (p : Parts) (h : History) (a : ℕ) (row : Row) → PartsStandFor p h → kept_row p.slots.grid.classes p.slots.rows a ≡ Some row → row.freed ≡ 0 → OwnerAt h a row
owner_at p h a row st e t =
    let r = row_from (last_owner h.objects a) row (sym (kept_is p.slots h a st.slots) ∙ e) in
    let s = splits h.objects a r.0 r.1 in
    let stamp : IsStamped r.0.object = stamped h r.0 s.0 st.lawful in
    let owned : r.0.object.state ≡ Owned = owned_state r.0.object.state (stamp ∙ eq-eqb r.0.object.freed 0 (sym (ap (λ (x : Row). x.freed) r.2) ∙ t)) in
    record {
      owner = r.0;
      is_last = r.1;
      row_is = r.2;
      first = s.0.before;
      last = s.0.after;
      parts = s.0.parts;
      number = s.0.number ∙ (let k : 0 + length s.0.before ≡ length s.0.before = omega arith in k);
      state = owned;
      slot = eqb-true (slot_of r.0.object) a s.1;
    }

-- ---- held slots

pub held_slot : (p : Parts) (h : History) (first : List Object) (o : Object) (last : List Object) → PartsStandFor p h → h.objects ≡ first ++ o ∷ last → holds_slot o ≡ true → IsSlotIn (slots_of h) (slot_of o) Held
held_slot p h first o last st parts e = st.lawful.in_order.held_slots (slot_of o) (subst (λ (os : List Object). contains (held_by os) (slot_of o) ≡ true) (sym parts) (held_here_is first o last e))

pub owner_held : (p : Parts) (h : History) (a : ℕ) (row : Row) → PartsStandFor p h → OwnerAt h a row → IsSlotIn p.slots.grid a Held
owner_held p h a row st w =
    subst (λ (s : Slots). IsSlotIn s a Held) (sym st.slots.grid) (subst (λ (x : ℕ). IsSlotIn (slots_of h) x Held) w.slot (held_slot p h w.first w.owner.object w.last st w.parts (ap is_held w.state)))

-- ---- one free more

frees_more : (h : History) (first : List Object) (o x : Object) (last : List Object) → h.objects ≡ first ++ o ∷ last → is_owned o.state ≡ true → is_owned x.state ≡ false → frees_of h + 1 ≡ frees_of (with_change h first x last)
frees_more h first o x last parts eo ex =
    let f : Object → Bool = λ y. not (is_owned y.state) in
    let c : count_by f (first ++ x ∷ last) + 0 ≡ count_by f (first ++ o ∷ last) + 1 = subst (λ (b : Bool). count_by f (first ++ x ∷ last) + cond (not b) 1 0 ≡ count_by f (first ++ o ∷ last) + 1) eo
    (subst (λ (b : Bool). count_by f (first ++ x ∷ last) + cond (f o) 1 0 ≡ count_by f (first ++ o ∷ last) + cond (not b) 1 0) ex (count-change f first o x last)) in
    omega (arith, c, ap (λ (os : List Object). count_by f os) parts)

-- so there is room in the queue for the free of an owned object
pub owner_room : (p : Parts) (h : History) (a : ℕ) (row : Row) → PartsStandFor p h → OwnerAt h a row → 1 ≤ p.queue.spare
owner_room p h a row st w =
    let x : Object = record w.owner.object { state = Released 0 } in
    let f : Object → Bool = λ y. not (is_owned y.state) in
    omega (arith, st.room, frees_more h w.first w.owner.object x w.last w.parts (ap is_owned w.state) refl, count_by-le-length f (w.first ++ x ∷ w.last), length-append w.first (x ∷ w.last), ap length w.parts, length-append w.first (w.owner.object ∷ w.last))

-- and the count of frees isn't above the clock
pub frees_below : (p : Parts) (h : History) → PartsStandFor p h → p.counts.frees ≤ p.counts.clock
frees_below p h st = omega (arith, frees_is p h st, clock_is p h st, count_by-le-length (λ (y : Object). not (is_owned y.state)) h.objects)

-- ---- the free of an owned object

no_entry : (n : ℕ) (o : Object) → o.state ≡ Owned → due_entry n o o.state ≡ []
no_entry n o e = ap (due_entry n o) e

-- the row of a freed object
abbrev pub freed_row : Row → (clock free_site : ℕ) → Row
freed_row row clock free_site = record row { free_site = free_site; freed = clock }

freed_row_is : (p : Parts) (h : History) (a : ℕ) (row : Row) (deferral free_site : ℕ) → PartsStandFor p h → (w : OwnerAt h a row)
    → freed_row row p.counts.clock free_site ≡ row_of (record { number = length w.first; object = freed_object (clock_of h) deferral free_site w.owner.object })
freed_row_is p h a row deferral free_site st w =
    ap (λ (r : Row). freed_row r p.counts.clock free_site) w.row_is ∙ ap (λ (k : ℕ). freed_row (row_of w.owner) k free_site) (clock_is p h st)
    ∙ ap (λ (k : ℕ). freed_row (row_of (record { number = k; object = w.owner.object })) (clock_of h) free_site) w.number

-- at once
pub freed_now : (p : Parts) (h : History) (a : ℕ) (row : Row) (free_site : ℕ) (rows : List (List RowChunk)) → PartsStandFor p h → (w : OwnerAt h a row) → RowsChange p.slots.grid.classes p.slots.rows rows a (freed_row row p.counts.clock free_site)
    → PartsStandFor (record p { slots = record { grid = released_at p.slots.grid a; rows = rows }; counts = record p.counts { frees = p.counts.frees + 1 } }) (record h { objects = changed_at (freed_object (clock_of h) 0 free_site) w.owner.number h.objects })
freed_now p h a row free_site rows st w rows_are =
    let o : Object = w.owner.object in
    let x : Object = freed_object (clock_of h) 0 free_site o in
    let holds : holds_slot o ≡ true = ap is_held w.state in
    let sets : held_by (w.first ++ x ∷ w.last) ≡ remove (held_by h.objects) a =
    held_by-released w.first o x w.last (around w.first o w.last (subst AreApart w.parts st.lawful.apart) holds) holds refl
    ∙ ap (λ (os : List Object). remove (held_by os) (slot_of o)) (sym w.parts) ∙ ap (remove (held_by h.objects)) w.slot in
    let held : IsSlotIn (slots_of h) a Held = subst (λ (s : Slots). IsSlotIn s a Held) st.slots.grid (owner_held p h a row st w) in
    let order : IsInOrder (slots_of (with_change h w.first x w.last)) = subst (λ (s : FinSet nat_cmp). IsInOrder (record { classes = h.classes; held = s; bad = h.bad })) (sym sets) (released_ordered (slots_of h) a st.lawful.in_order held) in
    let frees : p.counts.frees + 1 ≡ frees_of (with_change h w.first x w.last) = ap (λ (n : ℕ). n + 1) (frees_is p h st) ∙ frees_more h w.first o x w.last w.parts (ap is_owned w.state) refl in
    let in_time : WasFreed (clock_of h) (length w.first) x = record { after = freed_in_time h.objects w.first o w.last w.parts; by_now = omega arith } in
    let stands : PartsStandFor (record p { slots = record { grid = released_at p.slots.grid a; rows = rows }; queue = p.queue; counts = record p.counts { frees = p.counts.frees + 1 } }) (with_change h w.first x w.last) =
    changed_stands p h w.first o x w.last (released_at p.slots.grid a) p.queue rows (p.counts.frees + 1) st w.parts holds refl (λ k. record { slot = k.slot; room = k.room }) (λ k. in_time)
    (ap (λ (s : Slots). released_at s a) st.slots.grid ∙ ap (λ (s : FinSet nat_cmp). record { classes = h.classes; held = s; bad = h.bad }) (sym sets)) order
    (st.dues ∙ ap (λ (os : List Object). sorted_dues (dues_from 0 os)) w.parts ∙ ap sorted_dues (sym (dues_same w.first o x w.last (no_entry (length w.first) o w.state))))
    (omega (arith, st.room, frees_is p h st))
    (subst (λ (s : ℕ). RowsChange h.classes p.slots.rows rows s (row_of (record { number = length w.first; object = x }))) (sym w.slot)
    (subst (RowsChange h.classes p.slots.rows rows a) (freed_row_is p h a row 0 free_site st w) (subst (λ (s : Slots). RowsChange s.classes p.slots.rows rows a (freed_row row p.counts.clock free_site)) st.slots.grid rows_are))) frees in
    subst (λ (os : List Object). PartsStandFor (record p { slots = record { grid = released_at p.slots.grid a; rows = rows }; counts = record p.counts { frees = p.counts.frees + 1 } }) (record h { objects = os }))
    (sym (ap (changed_at (freed_object (clock_of h) 0 free_site) w.owner.number) w.parts ∙ changed_at-is (freed_object (clock_of h) 0 free_site) w.owner.number w.first o w.last w.number)) stands

abbrev entry_at : (due object addr : ℕ) → Due
entry_at due object addr = record { due = due; object = object; addr = addr }

-- put off
pub freed_later : (p : Parts) (h : History) (a : ℕ) (row : Row) (deferral free_site : ℕ) (rows : List (List RowChunk)) (queue : Deferrals) → PartsStandFor p h → (w : OwnerAt h a row) → nat_eq deferral 0 ≡ false
    → queue.dues ≡ insert_due (record { due = p.counts.clock + deferral; object = row.object; addr = a }) p.queue.dues → queue.spare + 1 ≡ p.queue.spare
    → RowsChange p.slots.grid.classes p.slots.rows rows a (freed_row row p.counts.clock free_site)
    → PartsStandFor (record p { slots = record p.slots { rows = rows }; queue = queue; counts = record p.counts { frees = p.counts.frees + 1 } }) (record h { objects = changed_at (freed_object (clock_of h) deferral free_site) w.owner.number h.objects })
freed_later p h a row deferral free_site rows queue st w later dues spare rows_are =
    let o : Object = w.owner.object in
    let x : Object = freed_object (clock_of h) deferral free_site o in
    let put : x.state ≡ Deferred (clock_of h + deferral) = ap (λ (b : Bool). cond b (Released (clock_of h)) (Deferred (clock_of h + deferral))) later in
    let holds : holds_slot o ≡ true = ap is_held w.state in
    let sets : held_by (w.first ++ x ∷ w.last) ≡ held_by h.objects = held_by-kept w.first o x w.last refl holds (ap is_held put) ∙ ap held_by (sym w.parts) in
    let order : IsInOrder (slots_of (with_change h w.first x w.last)) = subst (λ (s : FinSet nat_cmp). IsInOrder (record { classes = h.classes; held = s; bad = h.bad })) (sym sets) st.lawful.in_order in
    let frees : p.counts.frees + 1 ≡ frees_of (with_change h w.first x w.last) = ap (λ (n : ℕ). n + 1) (frees_is p h st) ∙ frees_more h w.first o x w.last w.parts (ap is_owned w.state) (ap is_owned put) in
    let in_time : WasFreed (clock_of h) (length w.first) x = record { after = freed_in_time h.objects w.first o w.last w.parts; by_now = omega arith } in
    let stands : PartsStandFor (record p { slots = record { grid = p.slots.grid; rows = rows }; queue = queue; counts = record p.counts { frees = p.counts.frees + 1 } }) (with_change h w.first x w.last) =
    changed_stands p h w.first o x w.last p.slots.grid queue rows (p.counts.frees + 1) st w.parts holds refl (λ k. record { slot = k.slot; room = k.room }) (λ k. subst (λ (b : Bool). IsTimedBy b (clock_of h) (length w.first) x) (sym (ap is_owned put)) in_time)
    (st.slots.grid ∙ ap (λ (s : FinSet nat_cmp). record { classes = h.classes; held = s; bad = h.bad }) (sym sets)) order
    (dues ∙ ap (λ (d : Due). insert_due d p.queue.dues) due_is ∙ ap (insert_due (record { due = clock_of h + deferral; object = length w.first; addr = slot_of o })) (st.dues ∙ ap (λ (os : List Object). sorted_dues (dues_from 0 os)) w.parts)
    ∙ sym (dues_deferred w.first o x w.last (record { due = clock_of h + deferral; object = length w.first; addr = slot_of o }) (no_entry (length w.first) o w.state) (ap (due_entry (length w.first) x) put)))
    (omega (arith, st.room, frees_is p h st, spare))
    (subst (λ (s : ℕ). RowsChange h.classes p.slots.rows rows s (row_of (record { number = length w.first; object = x }))) (sym w.slot)
    (subst (RowsChange h.classes p.slots.rows rows a) (freed_row_is p h a row deferral free_site st w) (subst (λ (s : Slots). RowsChange s.classes p.slots.rows rows a (freed_row row p.counts.clock free_site)) st.slots.grid rows_are))) frees in
    subst (λ (os : List Object). PartsStandFor (record p { slots = record p.slots { rows = rows }; queue = queue; counts = record p.counts { frees = p.counts.frees + 1 } }) (record h { objects = os }))
    (sym (ap (changed_at (freed_object (clock_of h) deferral free_site) w.owner.number) w.parts ∙ changed_at-is (freed_object (clock_of h) deferral free_site) w.owner.number w.first o w.last w.number)) stands
  where
    due_is : entry_at (p.counts.clock + deferral) row.object a ≡ entry_at (clock_of h + deferral) (length w.first) (slot_of w.owner.object)
    due_is = ap (λ (k : ℕ). entry_at (k + deferral) row.object a) (clock_is p h st)
        ∙ ap (λ (k : ℕ). entry_at (clock_of h + deferral) k a) (ap (λ (r : Row). r.object) w.row_is ∙ w.number)
        ∙ ap (λ (s : ℕ). entry_at (clock_of h + deferral) (length w.first) s) (sym w.slot)

-- ---- a release

-- the first of the queue is a deferred object
pub record DueAt (p : Parts) (h : History) (d : Due) (rest : List Due) : Type 0 where
  pub entry : FirstDue h.objects d rest
  pub held : IsSlotIn p.slots.grid d.addr Held
  pub slot : slot_of entry.object ≡ d.addr
  pub row : kept_row h.classes p.slots.rows d.addr ≡ Some (row_of (record { number = length entry.first; object = entry.object }))

pub due_at : (p : Parts) (h : History) (d : Due) (rest : List Due) → PartsStandFor p h → p.queue.dues ≡ d ∷ rest → DueAt p h d rest
due_at p h d rest st e =
    let r : FirstDue h.objects d rest = first_due h.objects d rest (sym st.dues ∙ e) in
    let holds : holds_slot r.object ≡ true = ap is_held r.state in
    let slot : slot_of r.object ≡ d.addr = sym (ap (λ (x : Due). x.addr) r.is) in
    record {
      entry = r;
      slot = slot;
      held = subst (λ (s : Slots). IsSlotIn s d.addr Held) (sym st.slots.grid) (subst (λ (x : ℕ). IsSlotIn (slots_of h) x Held) slot (held_slot p h r.first r.object r.last st r.parts holds));
      row = st.slots.rows d.addr ∙ ap (λ (os : List Object). option_map row_of (last_owner os d.addr)) r.parts ∙ ap (λ (s : ℕ). option_map row_of (last_owner (r.first ++ r.object ∷ r.last) s)) (sym slot)
          ∙ ap (option_map row_of) (last_of_held r.first r.object r.last (around r.first r.object r.last (subst AreApart r.parts st.lawful.apart) holds));
    }

pub released_stands : (p : Parts) (h : History) (d : Due) (rest : List Due) (queue : Deferrals) → PartsStandFor p h → (k : DueAt p h d rest) → queue.dues ≡ rest → queue.spare ≡ p.queue.spare + 1
    → PartsStandFor (record p { slots = record p.slots { grid = released_at p.slots.grid d.addr }; queue = queue }) (with_change h k.entry.first (record k.entry.object { state = Released d.due }) k.entry.last)
released_stands p h d rest queue st k dues spare =
    let r : FirstDue h.objects d rest = k.entry in
    let o : Object = r.object in
    let x : Object = record o { state = Released d.due } in
    let holds : holds_slot o ≡ true = ap is_held r.state in
    let sets : held_by (r.first ++ x ∷ r.last) ≡ remove (held_by h.objects) d.addr =
    held_by-released r.first o x r.last (around r.first o r.last (subst AreApart r.parts st.lawful.apart) holds) holds refl
    ∙ ap (λ (os : List Object). remove (held_by os) (slot_of o)) (sym r.parts) ∙ ap (remove (held_by h.objects)) k.slot in
    let order : IsInOrder (slots_of (with_change h r.first x r.last)) = subst (λ (s : FinSet nat_cmp). IsInOrder (record { classes = h.classes; held = s; bad = h.bad })) (sym sets)
    (released_ordered (slots_of h) d.addr st.lawful.in_order (subst (λ (s : Slots). IsSlotIn s d.addr Held) st.slots.grid k.held)) in
    let f : Object → Bool = λ y. not (is_owned y.state) in
    let c : count_by f (r.first ++ x ∷ r.last) + 1 ≡ count_by f (r.first ++ o ∷ r.last) + 1 = subst (λ (z : ObjectState). count_by f (r.first ++ x ∷ r.last) + cond (not (is_owned z)) 1 0 ≡ count_by f (r.first ++ o ∷ r.last) + 1) r.state (count-change f r.first o x r.last) in
    let frees : p.counts.frees ≡ frees_of (with_change h r.first x r.last) = omega (arith, frees_is p h st, c, ap (λ (os : List Object). count_by f os) r.parts) in
    changed_stands p h r.first o x r.last (released_at p.slots.grid d.addr) queue p.slots.rows p.counts.frees st r.parts holds refl (λ z. record { slot = z.slot; room = z.room }) (λ z. let t : WasFreed (clock_of h) (length r.first) o = subst (λ (y : ObjectState). IsTimedBy (is_owned y) (clock_of h) (length r.first) o) r.state z in record { after = t.after; by_now = t.by_now })
    (ap (λ (s : Slots). released_at s d.addr) st.slots.grid ∙ ap (λ (s : FinSet nat_cmp). record { classes = h.classes; held = s; bad = h.bad }) (sym sets)) order
    (dues ∙ sym (r.rest_is x refl))
    (omega (arith, st.room, frees_is p h st, spare))
    (rows_kept h.classes p.slots.rows (slot_of o) (row_of (record { number = length r.first; object = o })) (ap (kept_row h.classes p.slots.rows) k.slot ∙ k.row)) frees

-- ---- an object's slot

pub record ObjectSlot (s : Slots) (o : Object) : Type 0 where
  pub slot : Slot
  pub found : slot_at s (slot_of o) ≡ Some slot
  pub class : slot.class ≡ o.class

pub object_slot : (p : Parts) (h : History) (first : List Object) (o : Object) (last : List Object) → PartsStandFor p h → h.objects ≡ first ++ o ∷ last → ObjectSlot p.slots.grid o
object_slot p h first o last st parts = subst (λ (s : Slots). ObjectSlot s o) (sym st.slots.grid) (at (slot_at (places_of h.classes) (slot_of o)) refl placed.slot)
  where
    placed : IsPlaced h.classes o
    placed = each_at (IsPlaced h.classes) first o last (subst (AllByRecursion (IsPlaced h.classes)) parts st.lawful.placed)

    at : (x : Option Slot) → slot_at (places_of h.classes) (slot_of o) ≡ x → IsSomeAnd x (λ t. (t.addr ≡ slot_of o) × (t.class ≡ o.class)) → ObjectSlot (slots_of h) o
    at None e k = absurd k
    at (Some t) e k = record {
      slot = with_state (slots_of h) t;
      found = slot_at-places (slots_of h) (slot_of o) ∙ ap (option_map (with_state (slots_of h))) e;
      class = k.1;
    }

-- an owner is the one that was found
pub same_owner : (h : History) (a : ℕ) (row : Row) (w : OwnerAt h a row) (owner : Owner) → last_owner h.objects a ≡ Some owner → w.owner ≡ owner
same_owner h a row w owner e = same_Some w.owner owner (sym w.is_last ∙ e)
