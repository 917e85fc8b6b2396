use Rattle.std.proofs.Common.{◌≡◌, ℕ, ◌+◌, ◌^◌, ◌≤◌, ap, sym, subst, ◌∙◌, arith, Bool, true, Some, Ok, Err}
use Rattle.std.proofs.Math.Logic.{∥∥₁_elim}
use Rattle.rv_memory.specs.Memory.{Memory, is_mapped}
use Rattle.rv_memory.specs.Spaces.{memory_of, taken_of}
use Rattle.exact_heap.specs.declared.parts.Parts.{Parts}
use Rattle.exact_heap.specs.declared.rows.Row.{Row}
use Rattle.exact_heap.specs.declared.parts.Request.{Request}
use Rattle.exact_heap.specs.History.{History}
use Rattle.exact_heap.specs.Owners.{owner_of, last_owner}
use Rattle.exact_heap.specs.RowStore.{kept_row}
use Rattle.exact_heap.specs.Home.{IsHome}
use Rattle.exact_heap.specs.Placing.{HeapState, Outcome, place}
use Rattle.exact_heap.specs.Stands.{PartsStandFor, IsSound, Gives, state_at, rules_in}
use Rattle.std.specs.Option.{is_some}
use Rattle.miniheap.specs.Laws.{SlotLaws}
use Rattle.miniheap.specs.Slots.{slot_at}
use Rattle.exact_heap.proofs.RowStores.{none_known, kept_none, kept_own}
use Rattle.exact_heap.proofs.Addresses.{owner_of_row}
use Rattle.exact_heap.proofs.Alignments.{usual_is}
use Rattle.exact_heap.proofs.Sound.{sound_order}
use Rattle.exact_heap.proofs.Freed.{OwnerAt, owner_at}
use Rattle.exact_heap.proofs.Moves.{PlacedAt, row_prop, bool_prop, no_prop, HeldBytes, old_bytes, new_bytes, lie_apart, copy_clash, home_copied, placed_after, owner_after, owner_after_same, owner_row, resized_is, moved_fails, moved_succeeds}
use Rattle.exact_heap.proofs.parts.Parts.resize.Goals as goal

-- the owner of the old address
old_at : SlotLaws → (p : Parts) (h : History) (old slot : ℕ) (row : Row) → PartsStandFor p h → (w : OwnerAt h slot row) → row.addr ≡ old → owner_of h.objects old ≡ Some w.owner
old_at laws p h old slot row st w e = ap (owner_of h.objects) (sym e) ∙ owner_of_row laws p h slot row st w

pub returns-in-Err : goal.returns-in-Err
returns-in-Err c = record {
  gives = λ h st.
      let p : Parts = c.args.self.now in
      let s : HeapState = state_at h c.args.space.now in
      let r : Request = c.request-request.result in
      let w : OwnerAt h c.in-Some.holding.slot.addr c.in-Some.holding.row = owner_at p h c.in-Some.holding.slot.addr c.in-Some.holding.row st c.in-Some.ensures.row c.in-Some.ensures.owned in
      subst (λ (o : Outcome). Gives o.state o.answer (Err c.in-Err.refusal) c.place.new.self (memory_of c.place.new.space))
      (sym (resized_is (rules_in p) c.args.size c.args.site s (owner_of h.objects c.args.old) w.owner r (old_at c.slot_laws.ensures p h c.args.old c.in-Some.holding.slot.addr c.in-Some.holding.row st w c.in-Some.ensures.address) (omega arith) c.request-request.ensures.value))
      (moved_fails (rules_in p) c.args.size c.args.site w.owner (place r p.rules.zero s) c.place.new.self (memory_of c.place.new.space) c.in-Err.refusal (c.in-Err.ensures.gives h st));
  sound = c.place.ensures.sound;
  home = c.in-Err.ensures.home;
  taken = c.place.ensures.taken;
  rules = c.place.ensures.rules;
  counted = c.place.ensures.counted;
  numbered = c.place.ensures.numbered;
}

pub copy-requires-clause-source : goal.copy-requires-clause-source
copy-requires-clause-source c =
    let p : Parts = c.args.self.now in
    subst (λ (a : ℕ). is_mapped (memory_of c.place.new.space) a c.min.result ≡ true) c.in-Some.ensures.address
    (∥∥₁_elim c.requires.sound (bool_prop _ _) (λ (x : (h : History) × PartsStandFor p h).
    (old_bytes c.slot_laws.ensures c.request-request.result p.rules.zero (state_at x.0 c.args.space.now) c.in-Ok.addr c.in-Some.holding.slot.addr c.min.result c.in-Some.holding.row c.place.new.self (memory_of c.place.new.space) (taken_of c.place.new.space)
    (c.in-Ok.ensures.gives x.0 x.1) c.in-Ok.ensures.home (owner_at p x.0 c.in-Some.holding.slot.addr c.in-Some.holding.row x.1 c.in-Some.ensures.row c.in-Some.ensures.owned)
    (omega (arith, c.min.ensures))).mapped))

-- what holds of the new object's bytes
new_held : SlotLaws → (p q : Parts) (r : Request) (zeroed : Bool) (h : History) (m n : Memory) (taken : ℕ → Bool) (address len : ℕ) → Gives (place r zeroed (record { history = h; memory = m })).state (place r zeroed (record { history = h; memory = m })).answer (Ok address) q n
    → IsHome q.slots.grid n taken → r.front + len ≤ 2 ^ r.class → HeldBytes n taken address len
new_held laws p q r zeroed h m n taken address len g home fits = new_bytes laws r zeroed (record { history = h; memory = m }) address len q n taken g home fits

new_mapped : SlotLaws → (p q : Parts) (r : Request) (zeroed : Bool) (m n : Memory) (taken : ℕ → Bool) (address len : ℕ) → IsSound p
    → ((h : History) → PartsStandFor p h → Gives (place r zeroed (record { history = h; memory = m })).state (place r zeroed (record { history = h; memory = m })).answer (Ok address) q n)
    → IsHome q.slots.grid n taken → r.front + len ≤ 2 ^ r.class → is_mapped n address len ≡ true
new_mapped laws p q r zeroed m n taken address len sound gives home fits =
    ∥∥₁_elim sound (bool_prop _ _) (λ (x : (h : History) × PartsStandFor p h). (new_held laws p q r zeroed x.0 m n taken address len (gives x.0 x.1) home fits).mapped)

pub copy-requires-clause-mapped : goal.copy-requires-clause-mapped
copy-requires-clause-mapped c =
    new_mapped c.slot_laws.ensures c.args.self.now c.place.new.self c.request-request.result c.args.self.now.rules.zero (memory_of c.args.space.now) (memory_of c.place.new.space) (taken_of c.place.new.space) c.in-Ok.addr c.min.result c.requires.sound c.in-Ok.ensures.gives
    c.in-Ok.ensures.home (omega (arith, c.min.ensures, c.request-request.ensures.room.fits))

pub copy-requires-clause-sure : goal.copy-requires-clause-sure
copy-requires-clause-sure c =
    let p : Parts = c.args.self.now in
    ∥∥₁_elim c.requires.sound (bool_prop _ _) (λ (x : (h : History) × PartsStandFor p h).
    (new_held c.slot_laws.ensures p c.place.new.self c.request-request.result p.rules.zero x.0 (memory_of c.args.space.now) (memory_of c.place.new.space) (taken_of c.place.new.space) c.in-Ok.addr c.min.result (c.in-Ok.ensures.gives x.0 x.1) c.in-Ok.ensures.home
    (omega (arith, c.min.ensures, c.request-request.ensures.room.fits))).sure)

pub copy-requires-clause-apart : goal.copy-requires-clause-apart
copy-requires-clause-apart c =
    let p : Parts = c.args.self.now in
    lie_apart c.args.old c.in-Ok.addr c.min.result (λ below above. ∥∥₁_elim c.requires.sound no_prop (λ (x : (h : History) × PartsStandFor p h).
    copy_clash c.slot_laws.ensures c.request-request.result p.rules.zero (state_at x.0 c.args.space.now) c.in-Ok.addr c.in-Some.holding.slot.addr c.min.result c.in-Some.holding.row c.place.new.self (memory_of c.place.new.space) (c.in-Ok.ensures.gives x.0 x.1)
    (owner_at p x.0 c.in-Some.holding.slot.addr c.in-Some.holding.row x.1 c.in-Some.ensures.row c.in-Some.ensures.owned) (omega (arith, c.min.ensures)) (omega (arith, c.min.ensures, c.request-request.ensures.room.fits))
    (λ h. below (omega (arith, h, c.in-Some.ensures.address))) (λ h. above (omega (arith, h, c.in-Some.ensures.address)))))

pub free_owned-requires-clause-home : goal.free_owned-requires-clause-home
free_owned-requires-clause-home c =
    subst (λ (m : Memory). IsHome c.place.new.self.slots.grid m (taken_of c.copy.new.self)) (sym c.copy.ensures.copied)
    (home_copied c.place.new.self.slots.grid (memory_of c.place.new.space) (taken_of c.place.new.space) (taken_of c.copy.new.self) c.args.old c.in-Ok.addr c.min.result
    (new_mapped c.slot_laws.ensures c.args.self.now c.place.new.self c.request-request.result c.args.self.now.rules.zero (memory_of c.args.space.now) (memory_of c.place.new.space) (taken_of c.place.new.space) c.in-Ok.addr c.min.result c.requires.sound c.in-Ok.ensures.gives
    c.in-Ok.ensures.home (omega (arith, c.min.ensures, c.request-request.ensures.room.fits))) c.copy.ensures.taken c.in-Ok.ensures.home)

-- the old object after the placement
old_owner : (p q : Parts) (r : Request) (h : History) (m n : Memory) (address slot : ℕ) (row : Row) → OwnerAt h slot row
    → Gives (place r p.rules.zero (record { history = h; memory = m })).state (place r p.rules.zero (record { history = h; memory = m })).answer (Ok address) q n → OwnerAt (place r p.rules.zero (record { history = h; memory = m })).state.history slot row
old_owner p q r h m n address slot row w g =
    let x : PlacedAt h r address (place r p.rules.zero (record { history = h; memory = m })).state.history = placed_after r p.rules.zero (record { history = h; memory = m }) address g.0 in
    owner_after h r x.slot (place r p.rules.zero (record { history = h; memory = m })).state.history slot row x.after g.1.stands.lawful.apart w

same_owner : (p q : Parts) (r : Request) (h : History) (m n : Memory) (address slot : ℕ) (row : Row) (w : OwnerAt h slot row)
    (g : Gives (place r p.rules.zero (record { history = h; memory = m })).state (place r p.rules.zero (record { history = h; memory = m })).answer (Ok address) q n) → (old_owner p q r h m n address slot row w g).owner ≡ w.owner
unfolding old_owner
same_owner p q r h m n address slot row w g =
    let x : PlacedAt h r address (place r p.rules.zero (record { history = h; memory = m })).state.history = placed_after r p.rules.zero (record { history = h; memory = m }) address g.0 in
    owner_after_same h r x.slot (place r p.rules.zero (record { history = h; memory = m })).state.history slot row x.after g.1.stands.lawful.apart w

-- the row of the old object is kept
row_after : (p q : Parts) (r : Request) (m n : Memory) (address slot : ℕ) (row : Row) → IsSound p → kept_row p.slots.grid.classes p.slots.rows slot ≡ Some row → row.freed ≡ 0
    → ((h : History) → PartsStandFor p h → Gives (place r p.rules.zero (record { history = h; memory = m })).state (place r p.rules.zero (record { history = h; memory = m })).answer (Ok address) q n) → kept_row q.slots.grid.classes q.slots.rows slot ≡ Some row
row_after p q r m n address slot row sound kept owned gives =
    ∥∥₁_elim sound (row_prop _ _) (λ (x : (h : History) × PartsStandFor p h).
    let w : OwnerAt x.0 slot row = owner_at p x.0 slot row x.1 kept owned in
    let g = gives x.0 x.1 in
    owner_row q (place r p.rules.zero (record { history = x.0; memory = m })).state.history slot row g.1.stands (old_owner p q r x.0 m n address slot row w g))

pub unreachable-requires : goal.unreachable-requires
unreachable-requires c =
    let q : Parts = c.place.new.self in
    none_known (kept_none q.slots.grid q.slots.rows c.in-Some.holding.slot.addr (sym c.slot_at.ensures.slot ∙ c.in_default-slot_at.is)) (ap is_some (row_after c.args.self.now c.place.new.self c.request-request.result (memory_of c.args.space.now) (memory_of c.place.new.space) c.in-Ok.addr c.in-Some.holding.slot.addr c.in-Some.holding.row c.requires.sound c.in-Some.ensures.row c.in-Some.ensures.owned c.in-Ok.ensures.gives))

pub free_owned-requires-clause-found : goal.free_owned-requires-clause-found
free_owned-requires-clause-found c =
    let q : Parts = c.place.new.self in
    let found : slot_at q.slots.grid c.in-Some.holding.slot.addr ≡ Some c.in-Some-slot_at.slot = sym c.slot_at.ensures.slot ∙ c.in-Some-slot_at.is in
    subst (λ (a : ℕ). slot_at q.slots.grid a ≡ Some c.in-Some-slot_at.slot) (sym (kept_own q.slots.grid q.slots.rows c.in-Some.holding.slot.addr c.in-Some-slot_at.slot found (ap is_some (row_after c.args.self.now c.place.new.self c.request-request.result (memory_of c.args.space.now) (memory_of c.place.new.space) c.in-Ok.addr c.in-Some.holding.slot.addr c.in-Some.holding.row c.requires.sound c.in-Some.ensures.row c.in-Some.ensures.owned c.in-Ok.ensures.gives)))) found

pub free_owned-requires-clause-row : goal.free_owned-requires-clause-row
free_owned-requires-clause-row c =
    let q : Parts = c.place.new.self in
    let found : slot_at q.slots.grid c.in-Some.holding.slot.addr ≡ Some c.in-Some-slot_at.slot = sym c.slot_at.ensures.slot ∙ c.in-Some-slot_at.is in
    let kept : kept_row q.slots.grid.classes q.slots.rows c.in-Some.holding.slot.addr ≡ Some c.in-Some.holding.row = row_after c.args.self.now c.place.new.self c.request-request.result (memory_of c.args.space.now) (memory_of c.place.new.space) c.in-Ok.addr c.in-Some.holding.slot.addr c.in-Some.holding.row c.requires.sound c.in-Some.ensures.row c.in-Some.ensures.owned c.in-Ok.ensures.gives in
    subst (λ (a : ℕ). kept_row q.slots.grid.classes q.slots.rows a ≡ Some c.in-Some.holding.row) (sym (kept_own q.slots.grid q.slots.rows c.in-Some.holding.slot.addr c.in-Some-slot_at.slot found (ap is_some kept))) kept

pub returns : goal.returns
returns c = record {
  gives = λ h st.
      let p : Parts = c.args.self.now in
      let s : HeapState = state_at h c.args.space.now in
      let r : Request = c.request-request.result in
      let w : OwnerAt h c.in-Some.holding.slot.addr c.in-Some.holding.row = owner_at p h c.in-Some.holding.slot.addr c.in-Some.holding.row st c.in-Some.ensures.row c.in-Some.ensures.owned in
      let g = c.in-Ok.ensures.gives h st in
      let q : Parts = c.place.new.self in
      let at : c.in-Some-slot_at.slot.addr ≡ c.in-Some.holding.slot.addr =
      kept_own q.slots.grid q.slots.rows c.in-Some.holding.slot.addr c.in-Some-slot_at.slot (sym c.slot_at.ensures.slot ∙ c.in-Some-slot_at.is) (ap is_some (row_after c.args.self.now c.place.new.self c.request-request.result (memory_of c.args.space.now) (memory_of c.place.new.space) c.in-Ok.addr c.in-Some.holding.slot.addr c.in-Some.holding.row c.requires.sound c.in-Some.ensures.row c.in-Some.ensures.owned c.in-Ok.ensures.gives)) in
      let v : OwnerAt (place r p.rules.zero s).state.history c.in-Some.holding.slot.addr c.in-Some.holding.row = old_owner p c.place.new.self r h (memory_of c.args.space.now) (memory_of c.place.new.space) c.in-Ok.addr c.in-Some.holding.slot.addr c.in-Some.holding.row w g in
      subst (λ (o : Outcome). Gives o.state o.answer (Ok c.in-Ok.addr) c.free_owned.new.self (memory_of c.free_owned.new.space))
      (sym (resized_is (rules_in p) c.args.size c.args.site s (owner_of h.objects c.args.old) w.owner r (old_at c.slot_laws.ensures p h c.args.old c.in-Some.holding.slot.addr c.in-Some.holding.row st w c.in-Some.ensures.address) (omega arith) c.request-request.ensures.value))
      (moved_succeeds (rules_in p) c.args.size c.args.site c.args.old c.in-Some.holding.slot.addr c.in-Ok.addr c.min.result c.in-Some.holding.row w.owner (place r p.rules.zero s) c.place.new.self c.free_owned.new.self (memory_of c.place.new.space) (memory_of c.copy.new.self) (memory_of c.free_owned.new.space)
      g.0 g.1 c.copy.ensures.copied c.min.ensures c.in-Some.ensures.address v
      (same_owner p c.place.new.self r h (memory_of c.args.space.now) (memory_of c.place.new.space) c.in-Ok.addr c.in-Some.holding.slot.addr c.in-Some.holding.row w g) c.in-Ok.ensures.rules (λ h' o st' is. c.free_owned.ensures.freed h' o st' (subst (λ (a : ℕ). last_owner h'.objects a ≡ Some o) (sym at) is)));
  sound = c.free_owned.ensures.sound;
  home = c.free_owned.ensures.home;
  taken = λ page t. c.free_owned.ensures.taken page (c.copy.ensures.taken page (c.place.ensures.taken page t));
  rules = c.free_owned.ensures.rules ∙ c.place.ensures.rules;
  counted = omega (arith, c.free_owned.ensures.counted, c.place.ensures.counted);
  numbered = omega (arith, c.free_owned.ensures.numbered, c.place.ensures.numbered);
}

pub owner-requires : goal.owner-requires
owner-requires c = sound_order c.args.self.now c.requires.sound

pub request-request-requires-clause-align : goal.request-request-requires-clause-align
request-request-requires-clause-align c = usual_is
