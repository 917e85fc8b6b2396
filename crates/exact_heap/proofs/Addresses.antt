-- Which object is owned at an address.
use Rattle.std.proofs.Common.{◌≡◌, ℕ, ◌/◌, ◌%◌, refl, ap, sym, ◌∙◌, subst, Bool, true, false, ◌&&◌, arith, nat_eq, List, [], ◌∷◌, ◌++◌, length, Option, Some, None}
use Rattle.std.specs.List.{AllByRecursion}
use Rattle.std.specs.Option.{option_map}
use Rattle.std.proofs.lemmas.Bool.{and_parts, eq-eqb, eqb-true, ne_eqb}
use Rattle.std.proofs.lemmas.Option.{same_Some}
use Rattle.miniheap.specs.declared.place.Slot.{Slot}
use Rattle.miniheap.specs.Laws.{SlotLaws}
use Rattle.miniheap.specs.Slots.{Slots, slot_at}
use Rattle.exact_heap.specs.declared.parts.Parts.{Parts}
use Rattle.exact_heap.specs.declared.rows.Row.{Row}
use Rattle.exact_heap.specs.declared.slot_table.SlotTable.{SlotTable}
use Rattle.exact_heap.specs.History.{Owned, Object, History, slot_of, address_of, is_owned, is_held, slots_of}
use Rattle.exact_heap.specs.Owners.{Owner, is_owned_at, owner_of, last_owner}
use Rattle.exact_heap.specs.Lawful.{places_of, IsLawful, IsPlaced, AreApart}
use Rattle.exact_heap.specs.RowStore.{row_in, chunk_at, kept_row}
use Rattle.exact_heap.specs.Stands.{row_of, TableStandsFor, PartsStandFor}
use Rattle.exact_heap.proofs.SlotPlaces.{slot_at-places, with_state}
use Rattle.exact_heap.proofs.Objects.{around, each_at, last_of_held, last_splits, owner_of_parts}
use Rattle.exact_heap.proofs.RowStores.{kept_some}
use Rattle.exact_heap.proofs.Standing.{kept_is}
use Rattle.exact_heap.proofs.Freed.{OwnerAt, owned_state, stamped}
use Rattle.exact_heap.proofs.LawsApart.{own_slot, own_found}

-- objects with one address have one slot
same_slot : SlotLaws → (classes : List ℕ) (o y : Object) → IsPlaced classes o → IsPlaced classes y → address_of o ≡ address_of y → slot_of o ≡ slot_of y
same_slot laws classes o y p q e =
    let v = own_slot classes o p.slot in
    let w = own_slot classes y q.slot in
    let one : slot_at (places_of classes) (address_of o) ≡ Some v.slot = own_found laws classes o v (address_of o) (omega arith) (omega (arith, p.room.fits)) in
    let other : slot_at (places_of classes) (address_of y) ≡ Some w.slot = own_found laws classes y w (address_of y) (omega arith) (omega (arith, q.room.fits)) in
    let same : v.slot ≡ w.slot = same_Some v.slot w.slot (sym one ∙ ap (slot_at (places_of classes)) e ∙ other) in
    sym v.addr ∙ ap (λ (t : Slot). t.addr) same ∙ w.addr

none_owned : SlotLaws → (classes : List ℕ) (o : Object) → IsPlaced classes o → (ys : List Object) → AllByRecursion (IsPlaced classes) ys → AllByRecursion (λ y. slot_of o ≡ slot_of y → ⊥) ys
    → AllByRecursion (λ y. is_owned_at (address_of o) y ≡ false) ys
none_owned laws classes o p [] h n = tt
none_owned laws classes o p (y ∷ ys) h n = (
  ap (λ (b : Bool). b && is_owned y.state) (ne_eqb (address_of y) (address_of o) (λ e. n.0 (same_slot laws classes o y p h.0 (sym e)))),
  none_owned laws classes o p ys h.1 n.1,
)

each_behind : (P : Object → Type 0) (ps : List Object) (o : Object) (bs : List Object) → AllByRecursion P (ps ++ o ∷ bs) → AllByRecursion P bs
each_behind P [] o bs h = h.1
each_behind P (a ∷ ps) o bs h = each_behind P ps o bs h.1

-- the owned object of a slot is that of its address
pub owner_of_row : SlotLaws → (p : Parts) (h : History) (a : ℕ) (row : Row) → PartsStandFor p h → (w : OwnerAt h a row) → owner_of h.objects row.addr ≡ Some w.owner
owner_of_row laws p h a row st w =
    let o : Object = w.owner.object in
    let all : AllByRecursion (IsPlaced h.classes) (w.first ++ o ∷ w.last) = subst (AllByRecursion (IsPlaced h.classes)) w.parts st.lawful.placed in
    let about = around w.first o w.last (subst AreApart w.parts st.lawful.apart) (ap is_held w.state) in
    let test : is_owned_at (address_of o) o ≡ true = ap (λ (b : Bool). b && is_owned o.state) (eq-eqb (address_of o) (address_of o) refl) ∙ ap is_owned w.state in
    ap (owner_of h.objects) (ap (λ (r : Row). r.addr) w.row_is) ∙ ap (λ (os : List Object). owner_of os (address_of o)) w.parts
    ∙ owner_of_parts w.first o w.last (address_of o) test
    (none_owned laws h.classes o (each_at (IsPlaced h.classes) w.first o w.last all) w.last (each_behind (IsPlaced h.classes) w.first o w.last all) about.after)
    ∙ ap (λ (n : ℕ). Some (record { number = n; object = o })) (sym w.number)

-- what is kept of the object that is owned at an address
pub record OwnedRow (table : SlotTable) (a : ℕ) (w : Owner) : Type 0 where
  pub slot : Slot
  pub found : slot_at table.grid a ≡ Some slot
  pub own : slot.addr ≡ slot_of w.object
  pub kept : kept_row table.grid.classes table.rows slot.addr ≡ Some (row_of w)
  pub unfreed : w.object.freed ≡ 0
  pub address : address_of w.object ≡ a

pub owned_row : SlotLaws → (table : SlotTable) (h : History) (a : ℕ) (w : Owner) → IsLawful h → TableStandsFor table h → owner_of h.objects a ≡ Some w → OwnedRow table a w
unfolding owner_of
owned_row laws table h a w ok st e =
    let k = last_splits (is_owned_at a) 0 h.objects w e in
    let test = and_parts (nat_eq (address_of w.object) a) (is_owned w.object.state) k.1 in
    let at : address_of w.object ≡ a = eqb-true (address_of w.object) a test.0 in
    let owned : w.object.state ≡ Owned = owned_state w.object.state test.1 in
    let placed : IsPlaced h.classes w.object = each_at (IsPlaced h.classes) k.0.before w.object k.0.after (subst (AllByRecursion (IsPlaced h.classes)) k.0.parts ok.placed) in
    let v = own_slot h.classes w.object placed.slot in
    let found : slot_at (places_of h.classes) a ≡ Some v.slot = own_found laws h.classes w.object v a (omega (arith, at)) (omega (arith, at, placed.room.fits)) in
    let number : length k.0.before ≡ w.number = omega (arith, k.0.number) in
    let last : last_owner h.objects (slot_of w.object) ≡ Some w =
    ap (λ (os : List Object). last_owner os (slot_of w.object)) k.0.parts
    ∙ last_of_held k.0.before w.object k.0.after (around k.0.before w.object k.0.after (subst AreApart k.0.parts ok.apart) (ap is_held owned))
    ∙ ap (λ (n : ℕ). Some (record { number = n; object = w.object })) number in
    record {
      slot = with_state table.grid v.slot;
      found = subst (λ (s : Slots). slot_at s a ≡ Some (with_state s v.slot)) (sym st.grid) (slot_at-places (slots_of h) a ∙ ap (option_map (with_state (slots_of h))) found);
      own = v.addr;
      kept = kept_is table h v.slot.addr st ∙ ap (λ (s : ℕ). option_map row_of (last_owner h.objects s)) v.addr ∙ ap (option_map row_of) last;
      unfreed = eqb-true w.object.freed 0 (sym (stamped h w k.0 ok) ∙ test.1);
      address = at;
    }

-- an address at which nothing can be owned has no owner
pub no_owner : (os : List Object) (a : ℕ) → ((w : Owner) → owner_of os a ≡ Some w → ⊥) → owner_of os a ≡ None
no_owner os a n = at (owner_of os a) n
  where
    at : (o : Option Owner) → ((w : Owner) → o ≡ Some w → ⊥) → o ≡ None
    at None m = refl
    at (Some w) m = absurd (m w refl)

-- the row of the slot that an address lies in
pub row_of_slot : SlotLaws → (table : SlotTable) (a : ℕ) (t : Slot) → slot_at table.grid a ≡ Some t → kept_row table.grid.classes table.rows t.addr ≡ row_in (chunk_at table.rows t.mini (t.nth / 64)) (t.nth % 64)
row_of_slot laws table a t e = let h = laws.hold table.grid a t e in kept_some table.grid table.rows t.addr t (laws.apart table.grid a t.addr t e (omega arith) (omega (arith, h.0, h.1))) refl

-- is that of the object that is owned there
pub row_of_owned : (table : SlotTable) (a : ℕ) (t : Slot) (row : Option Row) (w : Owner) → slot_at table.grid a ≡ Some t → kept_row table.grid.classes table.rows t.addr ≡ row → OwnedRow table a w → row ≡ Some (row_of w)
row_of_owned table a t row w e k x = sym k ∙ ap (λ (u : Slot). kept_row table.grid.classes table.rows u.addr) (same_Some t x.slot (sym e ∙ x.found)) ∙ x.kept

pub not_owned : SlotLaws → (table : SlotTable) (h : History) (a : ℕ) → IsLawful h → TableStandsFor table h → ((w : Owner) → OwnedRow table a w → ⊥) → owner_of h.objects a ≡ None
not_owned laws table h a ok st n = no_owner h.objects a (λ w e. n w (owned_row laws table h a w ok st e))
