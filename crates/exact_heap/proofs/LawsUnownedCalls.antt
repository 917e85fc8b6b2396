-- Heap calls leave the slots alone that no object holds.
use Rattle.std.proofs.Common.{◌≡◌, ℕ, zero, suc, ◌+◌, ◌-◌, ◌*◌, ◌^◌, ◌<◌, ◌≤◌, refl, ap, sym, ◌∙◌, subst, Bool, true, false, cond, ◌&&◌, ◌||◌, ◌⊎◌, inl, inr, arith, nat_eq, nat_lt, nat_le, min, List, [], ◌∷◌, ◌++◌, length, map, Option, Some, None, Result, Ok, Err, IsSomeAnd, max}
use Rattle.std.specs.Prelude.{unwrap_or, slice_index}
use Rattle.std.specs.List.{AllByRecursion, list_any}
use Rattle.std.proofs.lemmas.Bool.{cases_Bool, true≢false, and_parts, eq-eqb, leb-true, ltb-true, ltb-false}
use Rattle.std.proofs.lemmas.List.{append-nil}
use Rattle.std.proofs.lemmas.Option.{same_Some}
use Rattle.diefast_canary.specs.Canary.{canary_byte}
use Rattle.rv_memory.specs.Memory.{within, filled, span}
use Rattle.miniheap.specs.declared.place.Slot.{Slot}
use Rattle.miniheap.specs.declared.place.SlotState.{SlotState}
use Rattle.miniheap.specs.declared.place.SlotState.TheVariants.{Free, Held, Bad}
use Rattle.miniheap.specs.Slots.{Slots, is_free_state, slot_at, IsFreeSlot, IsSlotIn}
use Rattle.exact_heap.specs.declared.parts.Request.{Request}
use Rattle.exact_heap.specs.declared.signal.Signal.{Signal}
use Rattle.exact_heap.specs.declared.signal.HeapRefusal.{HeapRefusal}
use Rattle.exact_heap.specs.History.{ObjectState, Owned, Deferred, Released, Object, slot_of, is_held, holds_slot, held_by, slots_of, canary_in, clock_of, address_of}
use Rattle.exact_heap.specs.Owners.{Owner, owner_of, changed_at}
use Rattle.exact_heap.specs.Placing.{HeapState, Rules, Outcome, Turn, request, turn, grown, break_in, signalled, with_draws, no_room, search, search_from, room_left, enough, new_object, placed, is_due, released_object, is_in_due, release_due, settled, place}
use Rattle.exact_heap.specs.Freeing.{slot_before, slot_after, signalled_if, neighbour_checked, before_checked, after_checked, neighbours_checked, freed_object, deferral_of, object_freed, owner_freed}
use Rattle.exact_heap.specs.Calls.{usual, is_alignment, memalign, called, answers, size_limit, allocate, malloc, calloc, freed_if, free, copied, moved, replaced, resized, realloc}
use Rattle.exact_heap.specs.Lawful.{IsAlignment, Fits, places_of, IsPlaced, IsLawful}
use Rattle.exact_heap.specs.Laws.{IsClass, EndsWith}
use Rattle.exact_heap.specs.Unowned.{IsFreshAt, IsUnownedAt, IsSeen, LeavesUnowned, MallocLeavesUnowned, MemalignLeavesUnowned, CallocLeavesUnowned, FreeLeavesUnowned, ReallocLeavesUnowned}
use Rattle.miniheap.specs.Laws.{SlotLaws}
use Rattle.exact_heap.proofs.Alignments.{usual_is, asked_is}
use Rattle.exact_heap.proofs.SlotPlaces.{with_state}
use Rattle.exact_heap.proofs.Objects.{any_held, contains-held, any_held-append, each_push, each_at}
use Rattle.exact_heap.proofs.Homes.{same_places}
use Rattle.exact_heap.proofs.States.{search_goes_on, search_finds, search_fails, room_grown, room_spoiled, room_below}
use Rattle.exact_heap.proofs.Turns.{free_slot_is, free_slot_in}
use Rattle.exact_heap.proofs.LawsTurns.{TurnEnds, Grows, Lacks, Draws, turn_ends}
use Rattle.exact_heap.proofs.LawsKept.{lawful_grown, lawful_drawn, lawful_spoiled}
use Rattle.exact_heap.proofs.LawsSearch.{FindsWhole, search_ends, search_whole}
use Rattle.exact_heap.proofs.LawsApart.{HasSlot, own_slot, own_found}
use Rattle.exact_heap.proofs.LawsPlaced.{placement_ends, map-append}
use Rattle.exact_heap.proofs.LawsPlacing.{or_left, or_right, request_fits, lawful_placed, lawful_released, place_lawful}
use Rattle.exact_heap.proofs.LawsNeighbours.{Knows, before_knows, after_knows, lawful_checked, lawful_neighbours}
use Rattle.exact_heap.proofs.LawsFreed.{IsOwner, owner_found, freed_objects, freed_lawful}
use Rattle.exact_heap.proofs.LawsCalls.{called_lawful, place_owner, malloc_is_lawful, memalign_is_lawful, calloc_is_lawful, free_is_lawful, realloc_is_lawful}
use Rattle.exact_heap.proofs.LawsQuiet.{own_state, or_off, in_own_slot, released_there, new_has_slot, have_slots}
use Rattle.exact_heap.proofs.LawsQuietCalls.{changed_there, at_once, few_bytes, HeldSlot, held_slot}
use Rattle.exact_heap.proofs.LawsUnowned.{Unheld, unheld_state, unheld_of, unowned_of, bad_unheld, fresh_from, Seen, Goes, goes_then, objects_then, then_objects, goes_nowhere, goes_grown, goes_drawn, goes_signalled}

-- ---- the search

pub goes_search : SlotLaws → (n class : ℕ) (s : HeapState) → IsLawful s.history → IsClass class → room_left class (slots_of s.history) < n → Goes s (search_from n class s).state
goes_search laws zero class s l c few = absurd (omega arith)
goes_search laws (suc n) class s l c few = at (turn_ends laws class s) (goes_search laws n class)
  where
    -- it goes on from a state
    on : (r : HeapState) → turn class s ≡ record { state = r; answer = Ok None } → r.history.objects ≡ s.history.objects → IsLawful r.history → room_left class (slots_of r.history) < n → Goes s r → Goes r (search_from n class r).state
        → Goes s (search_from (suc n) class s).state
    on r e same lr less x y =
        let f : search_from (suc n) class s ≡ search_from n class r = search_goes_on n class s (ap (λ (t : Turn). t.answer) e) ∙ ap (λ (t : Turn). search_from n class t.state) e in
        subst (λ (o : Outcome). Goes s o.state) (sym f) (objects_then laws s r (search_from n class r).state same lr (search_ends laws n class r lr c less).lawful x y)

    at : TurnEnds class s → ((r : HeapState) → IsLawful r.history → IsClass class → room_left class (slots_of r.history) < n → Goes r (search_from n class r).state) → Goes s (search_from (suc n) class s).state
    at (Grows g room e) again =
        let lr = lawful_grown laws class s l c.0 c.1 room in
        let less : room_left class (slots_of (grown class s).history) < n = omega (arith, few, room_grown laws (slots_of s.history) class l.in_order c.0 room) in
        on (grown class s) e refl lr less (goes_grown laws class s) (again (grown class s) lr c less)
    at (Lacks g room e) again =
        let f : search_from (suc n) class s ≡ record { state = s; answer = Err (no_room class s) } = search_fails n class s (no_room class s) (ap (λ (t : Turn). t.answer) e) ∙ ap (λ (t : Turn). record { state = t.state; answer = Err (no_room class s) }) e in
        subst (λ (o : Outcome). Goes s o.state) (sym f) (goes_nowhere s)
    at (Draws g slot words free None b e) again =
        let f : search_from (suc n) class s ≡ record { state = with_draws words s; answer = Ok slot } = search_finds n class s slot (ap (λ (t : Turn). t.answer) e) ∙ ap (λ (t : Turn). record { state = t.state; answer = Ok slot }) e in
        subst (λ (o : Outcome). Goes s o.state) (sym f) (goes_drawn words s)
    at (Draws g slot words free (Some broken) b e) again =
        let d : HeapState = with_draws words s in
        let r : HeapState = signalled slot broken d in
        let here : IsSlotIn (slots_of s.history) slot Free = free_slot_in (slots_of s.history) class slot free in
        let ld : IsLawful d.history = lawful_drawn words s l in
        let lr : IsLawful r.history = lawful_spoiled slot broken d ld here in
        let less : room_left class (slots_of r.history) < n = omega (arith, few, room_spoiled laws (slots_of s.history) class slot free here) in
        on r e refl lr less (objects_then laws s d r refl ld lr (goes_drawn words s) (goes_signalled laws class slot broken d free b)) (again r lr c less)

-- ---- a new object, and releases

pub due_held : (clock : ℕ) (x : ObjectState) → is_due clock x ≡ true → is_held x ≡ true
due_held clock Owned e = refl
due_held clock (Deferred due) e = refl
due_held clock (Released due) e = absurd (true≢false (sym e))

-- an address in a slot that none holds is in none that is due
none_due_there : SlotLaws → (classes : List ℕ) (clock a : ℕ) (t : Slot) (os : List Object) → slot_at (places_of classes) a ≡ Some t → AllByRecursion (HasSlot classes) os → any_held t.addr os ≡ false → list_any (is_in_due clock a) os ≡ false
none_due_there laws classes clock a t [] e p h = refl
none_due_there laws classes clock a t (o ∷ os) e p h =
    let k = or_off (holds_slot o && nat_eq (slot_of o) t.addr) (any_held t.addr os) h in
    ap (λ (b : Bool). b || list_any (is_in_due clock a) os) (at (is_due clock o.state) (within (slot_of o) (2 ^ o.class) a) refl refl k.0) ∙ none_due_there laws classes clock a t os e p.1 k.1
  where
    at : (b c : Bool) → is_due clock o.state ≡ b → within (slot_of o) (2 ^ o.class) a ≡ c → (holds_slot o && nat_eq (slot_of o) t.addr) ≡ false → (is_due clock o.state && within (slot_of o) (2 ^ o.class) a) ≡ false
    at false c q r n = ap (λ (x : Bool). x && within (slot_of o) (2 ^ o.class) a) q
    at true false q r n = ap (λ (x : Bool). x && within (slot_of o) (2 ^ o.class) a) q ∙ r
    at true true q r n =
        let u = and_parts (nat_le (slot_of o) a) (nat_lt a (slot_of o + 2 ^ o.class)) r in
        let v = own_slot classes o p.0 in
        let same : v.slot ≡ t = same_Some v.slot t (sym (own_found laws classes o v a (leb-true (slot_of o) a u.0) (ltb-true a (slot_of o + 2 ^ o.class) u.1)) ∙ e) in
        let here : nat_eq (slot_of o) t.addr ≡ true = eq-eqb (slot_of o) t.addr (sym v.addr ∙ ap (λ (x : Slot). x.addr) same) in
        absurd (true≢false (sym (ap (λ (x : Bool). x && nat_eq (slot_of o) t.addr) (due_held clock o.state q) ∙ here) ∙ n))

pub goes_settled : SlotLaws → (r : Request) (zeroed : Bool) (slot : ℕ) (s : HeapState) → IsFreeSlot (slots_of s.history) r.class slot → IsLawful s.history → Goes s (release_due (placed r zeroed slot s))
unfolding release_due
goes_settled laws r zeroed slot s free l = record {
  stay = λ a t e. same_places g after a t refl e;
  seed = refl;
  calls = refl;
  bad = λ a h. h;
  keeps = λ a u. at a u (cases_Bool (any_held u.slot.addr s.history.objects));
  added = [];
  behind = sym (append-nil s.history.signals);
  seen = tt;
}
  where
    g : Slots
    g = slots_of s.history

    objects : List Object
    objects = s.history.objects ++ new_object r slot ∷ []

    clock : ℕ
    clock = length objects

    after : Slots
    after = record { classes = s.history.classes; held = held_by (map (released_object clock) objects); bad = s.history.bad }

    places : Slots
    places = places_of s.history.classes

    has : AllByRecursion (HasSlot s.history.classes) objects
    has = each_push (HasSlot s.history.classes) s.history.objects (new_object r slot) (have_slots s.history l) (new_has_slot s r slot free)

    canary : ℕ → Option ℕ
    canary a = Some (canary_byte (canary_in s.history) a)

    none_after : (a : ℕ) (u : Unheld after a) → any_held u.slot.addr (map (released_object clock) objects) ≡ false
    none_after a u = sym (contains-held (map (released_object clock) objects) u.slot.addr) ∙ u.unheld

    -- it isn't the slot of the new object
    other : (a : ℕ) (u : Unheld after a) → nat_eq slot u.slot.addr ≡ false
    other a u =
        (or_off (nat_eq slot u.slot.addr) false
        (or_off (any_held u.slot.addr (map (released_object clock) s.history.objects)) (any_held u.slot.addr (new_object r slot ∷ []))
        (sym (any_held-append u.slot.addr (map (released_object clock) s.history.objects) (new_object r slot ∷ [])) ∙ sym (ap (any_held u.slot.addr) (map-append (released_object clock) s.history.objects (new_object r slot ∷ []))) ∙ none_after a u)).1).0

    -- whether it was held is whether it was held with the new object
    with_new : (a : ℕ) (u : Unheld after a) → any_held u.slot.addr objects ≡ (any_held u.slot.addr s.history.objects || false)
    with_new a u =
        any_held-append u.slot.addr s.history.objects (new_object r slot ∷ []) ∙ ap (λ (b : Bool). any_held u.slot.addr s.history.objects || (b || false)) (other a u)

    in_places : (a : ℕ) (u : Unheld after a) → slot_at places a ≡ Some (with_state places u.slot)
    in_places a u = same_places after places a u.slot refl u.found

    -- a slot that was held has been filled
    filled_there : (a : ℕ) (u : Unheld after a) → any_held u.slot.addr s.history.objects ≡ true → (b : ℕ) → u.slot.addr ≤ b → b < u.slot.addr + 2 ^ u.slot.class
        → cond (list_any (is_in_due clock b) objects) (canary b) ((placed r zeroed slot s).memory.bytes b) ≡ canary b
    filled_there a u h b lo hi =
        ap (λ (x : Bool). cond x (canary b) ((placed r zeroed slot s).memory.bytes b))
        (released_there laws s.history.classes clock b (with_state places u.slot) objects (laws.apart places a b (with_state places u.slot) (in_places a u) lo hi) has
        (with_new a u ∙ ap (λ (x : Bool). x || false) h) (none_after a u))

    -- the new object's bytes are others
    unplaced : (a : ℕ) (u : Unheld after a) → (z : Bool) → (cond z (filled s.memory slot (2 ^ r.class) (λ address. 0)) s.memory).bytes a ≡ s.memory.bytes a
    unplaced a u false = refl
    unplaced a u true = at (within slot (2 ^ r.class) a) refl
      where
        at : (b : Bool) → within slot (2 ^ r.class) a ≡ b → cond b (Some 0) (s.memory.bytes a) ≡ s.memory.bytes a
        at false q = refl
        at true q =
            let v = and_parts (nat_le slot a) (nat_lt a (slot + 2 ^ r.class)) q in
            let k = free_slot_is g r.class slot free in
            let lo : k.slot.addr ≤ a = omega (arith, k.addr, leb-true slot a v.0) in
            let hi : a < k.slot.addr + 2 ^ k.slot.class = omega (arith, k.addr, ltb-true a (slot + 2 ^ r.class) v.1, ap (λ (c : ℕ). 2 ^ c) k.class) in
            let m : k.slot ≡ with_state g u.slot = same_Some k.slot (with_state g u.slot) (sym (laws.apart g slot a k.slot k.found lo hi) ∙ same_places after g a u.slot refl u.found) in
            absurd (true≢false (sym (eq-eqb slot u.slot.addr (sym k.addr ∙ ap (λ (x : Slot). x.addr) m)) ∙ other a u))

    was_held : (a : ℕ) (u : Unheld after a) → any_held u.slot.addr s.history.objects ≡ true → Unheld g a → ⊥
    was_held a u h v =
        let m : v.slot.addr ≡ u.slot.addr = ap (λ (x : Slot). x.addr) (same_Some (with_state after v.slot) u.slot (sym (same_places g after a v.slot refl v.found) ∙ u.found)) in
        true≢false (sym (contains-held s.history.objects v.slot.addr ∙ ap (λ (x : ℕ). any_held x s.history.objects) m ∙ h) ∙ v.unheld)

    at : (a : ℕ) (u : Unheld after a) → (any_held u.slot.addr s.history.objects ≡ true) ⊎ (any_held u.slot.addr s.history.objects ≡ false)
        → (Unheld g a × ((release_due (placed r zeroed slot s)).memory.bytes a ≡ s.memory.bytes a)) ⊎ ((Unheld g a → ⊥) × IsFreshAt (release_due (placed r zeroed slot s)) a)
    at a u (inl h) = inr (was_held a u h, fresh_from (release_due (placed r zeroed slot s)) a u.slot u.found (filled_there a u h))
    at a u (inr h) =
        inl (
          record { slot = with_state g u.slot; found = same_places after g a u.slot refl u.found; unheld = contains-held s.history.objects u.slot.addr ∙ h },
          ap (λ (x : Bool). cond x (canary a) ((placed r zeroed slot s).memory.bytes a)) (none_due_there laws s.history.classes clock a (with_state places u.slot) objects (in_places a u) has (with_new a u ∙ ap (λ (x : Bool). x || false) h))
              ∙ unplaced a u zeroed,
        )

settled_goes : SlotLaws → (r : Request) (zeroed : Bool) (before s : HeapState) (a : Result ℕ HeapRefusal) → Fits r → s.history.objects ≡ before.history.objects → IsLawful s.history → FindsWhole r.class s a → Goes before s → Goes before (settled r zeroed s a).state
settled_goes laws r zeroed before s (Err refusal) fit same l k x = x
settled_goes laws r zeroed before s (Ok slot) fit same l k x =
    objects_then laws before s (release_due (placed r zeroed slot s)) same l (lawful_released (placed r zeroed slot s) (lawful_placed r zeroed slot s fit k.free l)) x (goes_settled laws r zeroed slot s k.free l)

pub goes_place : SlotLaws → (r : Request) (zeroed : Bool) (s : HeapState) → Fits r → IsLawful s.history → Goes s (place r zeroed s).state
unfolding place
goes_place laws r zeroed s fit l =
    let e = search_whole laws r.class s l fit.class in
    settled_goes laws r zeroed s (search r.class s).state (search r.class s).answer fit e.objects e.lawful e.ends (goes_search laws enough r.class s l fit.class (room_below laws (slots_of s.history) r.class l.in_order))

-- ---- neighbours

goes_neighbour : SlotLaws → (s : HeapState) (o : Option Slot) → Knows (slots_of s.history) o → Goes s (neighbour_checked s o)
goes_neighbour laws s None k = goes_nowhere s
goes_neighbour laws s (Some t) k = at t.state refl (break_in s t.addr t.class) refl
  where
    here : t.state ≡ Free → IsFreeSlot (slots_of s.history) t.class t.addr
    here e = subst (λ (o : Option Slot). IsSomeAnd o (λ u. (u.addr ≡ t.addr) × (u.class ≡ t.class) × (u.state ≡ Free))) (sym (k t refl)) (refl, refl, e)

    at : (u : SlotState) → t.state ≡ u → (b : Option ℕ) → break_in s t.addr t.class ≡ b → Goes s (cond (is_free_state u) (signalled_if t.addr s b) s)
    at Held e b q = goes_nowhere s
    at Bad e b q = goes_nowhere s
    at Free e None q = goes_nowhere s
    at Free e (Some broken) q = goes_signalled laws t.class t.addr broken s (here e) q

goes_neighbours : SlotLaws → (slot : ℕ) (s : HeapState) → IsLawful s.history → Goes s (neighbours_checked slot s)
unfolding neighbours_checked
goes_neighbours laws slot s l =
    let r : HeapState = before_checked slot s in
    let b = lawful_checked s (slot_before (slots_of s.history) (slot_at (slots_of s.history) slot)) (before_knows laws (slots_of s.history) slot) l in
    let a = lawful_checked r (slot_after (slots_of r.history) (slot_at (slots_of r.history) slot)) (after_knows laws (slots_of r.history) slot) b.lawful in
    objects_then laws s r (after_checked slot r) b.objects b.lawful a.lawful (goes_neighbour laws s (slot_before (slots_of s.history) (slot_at (slots_of s.history) slot)) (before_knows laws (slots_of s.history) slot))
    (goes_neighbour laws r (slot_after (slots_of r.history) (slot_at (slots_of r.history) slot)) (after_knows laws (slots_of r.history) slot))

-- ---- the free of an owned object

-- its slot is held before it
pub owner_holds : (os : List Object) (w : Owner) → IsOwner os w → any_held (slot_of w.object) os ≡ true
owner_holds os w k =
    ap (any_held (slot_of w.object)) k.parts ∙ any_held-append (slot_of w.object) k.first (w.object ∷ k.last)
    ∙ or_right (any_held (slot_of w.object) k.first) (any_held (slot_of w.object) (w.object ∷ k.last))
    (or_left (holds_slot w.object && nat_eq (slot_of w.object) (slot_of w.object)) (any_held (slot_of w.object) k.last)
    (ap (λ (x : ObjectState). is_held x && nat_eq (slot_of w.object) (slot_of w.object)) k.owned ∙ eq-eqb (slot_of w.object) (slot_of w.object) refl))

-- a slot that nobody holds afterwards, but somebody before, is the object's own
own_slot_freed : (deferral site : ℕ) (w : Owner) (s : HeapState) (k : IsOwner s.history.objects w) (a : ℕ) (u : Unheld (slots_of (object_freed deferral site w s).history) a) → any_held u.slot.addr s.history.objects ≡ true
    → (slot_of w.object ≡ u.slot.addr) × (holds_slot (freed_object (clock_of s.history) deferral site w.object) ≡ false)
own_slot_freed deferral site w s k a u h =
    let p : Object = freed_object (clock_of s.history) deferral site w.object in
    let objects : List Object = changed_at (freed_object (clock_of s.history) deferral site) w.number s.history.objects in
    changed_there u.slot.addr k.first w.object p k.last refl (ap (any_held u.slot.addr) (sym k.parts) ∙ h)
    (ap (any_held u.slot.addr) (sym (freed_objects (clock_of s.history) deferral site s.history.objects w k)) ∙ sym (contains-held objects u.slot.addr) ∙ u.unheld)

goes_freed : SlotLaws → (deferral site : ℕ) (w : Owner) (s : HeapState) → IsOwner s.history.objects w → IsLawful s.history → Goes s (object_freed deferral site w s)
goes_freed laws deferral site w s k l = record {
  stay = λ a t e. same_places g after a t refl e;
  seed = refl;
  calls = refl;
  bad = λ a h. h;
  keeps = λ a u. at a u (cases_Bool (any_held u.slot.addr s.history.objects));
  added = [];
  behind = sym (append-nil s.history.signals);
  seen = tt;
}
  where
    g : Slots
    g = slots_of s.history

    after : Slots
    after = slots_of (object_freed deferral site w s).history

    places : Slots
    places = places_of s.history.classes

    has : HasSlot s.history.classes w.object
    has = (each_at (IsPlaced s.history.classes) k.first w.object k.last (subst (AllByRecursion (IsPlaced s.history.classes)) k.parts l.placed)).slot

    canary : ℕ → Option ℕ
    canary a = Some (canary_byte (canary_in s.history) a)

    -- the memory after it
    now : ℕ → Bool → Option ℕ
    now a b = (cond b (filled s.memory (slot_of w.object) (2 ^ w.object.class) (canary_byte (canary_in s.history))) s.memory).bytes a

    filled_there : (a : ℕ) (u : Unheld after a) → any_held u.slot.addr s.history.objects ≡ true → (b : ℕ) → u.slot.addr ≤ b → b < u.slot.addr + 2 ^ u.slot.class → now b (nat_eq deferral 0) ≡ canary b
    filled_there a u h b lo hi =
        let c = own_slot_freed deferral site w s k a u h in
        let here : slot_at places b ≡ Some (with_state places u.slot) = laws.apart places a b (with_state places u.slot) (same_places after places a u.slot refl u.found) lo hi in
        let inside : within (slot_of w.object) (2 ^ w.object.class) b ≡ true = in_own_slot laws s.history.classes w.object b (with_state places u.slot) has here c.0 in
        ap (now b) (at_once (clock_of s.history) deferral c.1) ∙ ap (λ (x : Bool). cond x (canary b) (s.memory.bytes b)) inside

    was_held : (a : ℕ) (u : Unheld after a) → any_held u.slot.addr s.history.objects ≡ true → Unheld g a → ⊥
    was_held a u h v =
        let m : v.slot.addr ≡ u.slot.addr = ap (λ (x : Slot). x.addr) (same_Some (with_state after v.slot) u.slot (sym (same_places g after a v.slot refl v.found) ∙ u.found)) in
        true≢false (sym (contains-held s.history.objects v.slot.addr ∙ ap (λ (x : ℕ). any_held x s.history.objects) m ∙ h) ∙ v.unheld)

    kept : (a : ℕ) (u : Unheld after a) → any_held u.slot.addr s.history.objects ≡ false → (b : Bool) → now a b ≡ s.memory.bytes a
    kept a u h false = refl
    kept a u h true = inside (within (slot_of w.object) (2 ^ w.object.class) a) refl
      where
        inside : (b : Bool) → within (slot_of w.object) (2 ^ w.object.class) a ≡ b → cond b (canary a) (s.memory.bytes a) ≡ s.memory.bytes a
        inside false q = refl
        inside true q =
            let x = and_parts (nat_le (slot_of w.object) a) (nat_lt a (slot_of w.object + 2 ^ w.object.class)) q in
            let v = own_slot s.history.classes w.object has in
            let e : v.slot ≡ with_state places u.slot = same_Some v.slot (with_state places u.slot)
            (sym (own_found laws s.history.classes w.object v a (leb-true (slot_of w.object) a x.0) (ltb-true a (slot_of w.object + 2 ^ w.object.class) x.1)) ∙ same_places after places a u.slot refl u.found) in
            let f : slot_of w.object ≡ u.slot.addr = sym v.addr ∙ ap (λ (y : Slot). y.addr) e in
            absurd (true≢false (sym (ap (λ (y : ℕ). any_held y s.history.objects) (sym f) ∙ owner_holds s.history.objects w k) ∙ h))

    at : (a : ℕ) (u : Unheld after a) → (any_held u.slot.addr s.history.objects ≡ true) ⊎ (any_held u.slot.addr s.history.objects ≡ false)
        → (Unheld g a × ((object_freed deferral site w s).memory.bytes a ≡ s.memory.bytes a)) ⊎ ((Unheld g a → ⊥) × IsFreshAt (object_freed deferral site w s) a)
    at a u (inl h) = inr (was_held a u h, fresh_from (object_freed deferral site w s) a u.slot u.found (filled_there a u h))
    at a u (inr h) = inl (record { slot = with_state g u.slot; found = same_places after g a u.slot refl u.found; unheld = contains-held s.history.objects u.slot.addr ∙ h }, kept a u h (nat_eq deferral 0))

-- what comes of it after other steps, during which the object was owned
freed_after : SlotLaws → (deferral site : ℕ) (w : Owner) (s r : HeapState) → IsOwner s.history.objects w → IsOwner r.history.objects w → IsLawful r.history → Goes s r → Goes s (object_freed deferral site w r)
freed_after laws deferral site w s r k j l x =
    let q : HeapState = object_freed deferral site w r in
    let y : Goes r q = goes_freed laws deferral site w r j l in
    goes_then laws s r q l (freed_lawful deferral site w r j l) x y (λ a u n v. once a u n v (cases_Bool (any_held u.slot.addr r.history.objects)))
  where
    q : HeapState
    q = object_freed deferral site w r

    once : (a : ℕ) (u : Unheld (slots_of q.history) a) → (Unheld (slots_of r.history) a → ⊥) → Unheld (slots_of s.history) a
        → (any_held u.slot.addr r.history.objects ≡ true) ⊎ (any_held u.slot.addr r.history.objects ≡ false) → ⊥
    once a u n v (inr h) = n (record { slot = with_state (slots_of r.history) u.slot; found = same_places (slots_of q.history) (slots_of r.history) a u.slot refl u.found; unheld = contains-held r.history.objects u.slot.addr ∙ h })
    once a u n v (inl h) =
        let c : slot_of w.object ≡ u.slot.addr = (own_slot_freed deferral site w r j a u h).0 in
        let there : slot_at (slots_of q.history) a ≡ Some (with_state (slots_of q.history) v.slot) = same_places (slots_of r.history) (slots_of q.history) a (with_state (slots_of r.history) v.slot) refl (x.stay a v.slot v.found) in
        let m : v.slot.addr ≡ u.slot.addr = ap (λ (y : Slot). y.addr) (same_Some (with_state (slots_of q.history) v.slot) u.slot (sym there ∙ u.found)) in
        true≢false (sym (contains-held s.history.objects v.slot.addr ∙ ap (λ (y : ℕ). any_held y s.history.objects) (m ∙ sym c) ∙ owner_holds s.history.objects w k) ∙ v.unheld)

goes_owner_freed : SlotLaws → (rules : Rules) (site : ℕ) (w : Owner) (s r : HeapState) → IsOwner s.history.objects w → IsOwner r.history.objects w → IsLawful r.history → Goes s r → Goes s (owner_freed rules site w r)
unfolding owner_freed
goes_owner_freed laws rules site w s r k j l x =
    let n : HeapState = neighbours_checked (slot_of w.object) r in
    let c = lawful_neighbours laws (slot_of w.object) r l in
    freed_after laws (deferral_of rules w.object site) site w s n k (subst (λ (os : List Object). IsOwner os w) (sym c.objects) j) c.lawful
    (then_objects laws s r n c.objects c.classes l c.lawful x (goes_neighbours laws (slot_of w.object) r l))

-- ---- the copy of an object

goes_copied : SlotLaws → (class slot from to len : ℕ) (s : HeapState) → HeldSlot (slots_of s.history) class slot → slot ≤ to → to + len ≤ slot + 2 ^ class → Goes s (record s { memory = copied from to len s.memory })
goes_copied laws class slot from to len s h behind few = record {
  stay = λ a t e. same_places g g a t refl e;
  seed = refl;
  calls = refl;
  bad = λ a b. b;
  keeps = λ a u. inl (u, at a u (within to (length bytes) a) refl);
  added = [];
  behind = sym (append-nil s.history.signals);
  seen = tt;
}
  where
    g : Slots
    g = slots_of s.history

    bytes : List ℕ
    bytes = unwrap_or (span s.memory.bytes from len) []

    at : (a : ℕ) (u : Unheld g a) → (b : Bool) → within to (length bytes) a ≡ b → cond b (Some (slice_index bytes (a - to))) (s.memory.bytes a) ≡ s.memory.bytes a
    at a u false q = refl
    at a u true q =
        let v = and_parts (nat_le to a) (nat_lt a (to + length bytes)) q in
        let lo : h.slot.addr ≤ a = omega (arith, h.addr, behind, leb-true to a v.0) in
        let hi : a < h.slot.addr + 2 ^ h.slot.class = omega (arith, h.addr, ltb-true a (to + length bytes) v.1, few_bytes s.memory.bytes from len, few, ap (λ (c : ℕ). 2 ^ c) h.class_is) in
        let m : h.slot ≡ u.slot = same_Some h.slot u.slot (sym (laws.apart g slot a h.slot h.found lo hi) ∙ u.found) in
        absurd (unheld_state g u.slot.addr u.unheld (sym (own_state g a u.slot u.found) ∙ ap (λ (x : Slot). x.state) (sym m) ∙ h.state))

goes_moved : SlotLaws → (rules : Rules) (size site : ℕ) (asked : Request) (w : Owner) (before s : HeapState) (a : Result ℕ HeapRefusal) → asked.front + size ≤ 2 ^ asked.class → IsOwner before.history.objects w → IsOwner s.history.objects w → IsLawful s.history → EndsWith asked s a
    → Goes before s → Goes before (moved rules size site w s a).state
goes_moved laws rules size site asked w before s (Err refusal) fits k j l e x = x
goes_moved laws rules size site asked w before s (Ok address) fits k j l e x =
    let r : HeapState = record s { memory = copied (address_of w.object) address (min w.object.size size) s.memory } in
    goes_owner_freed laws rules site w before r k j l (then_objects laws before s r refl refl l l x (goes_copied laws asked.class e.slot.addr (address_of w.object) address (min w.object.size size) s (held_slot asked address s e) (omega (arith, e.behind)) (omega (arith, e.behind, fits))))

-- ---- the calls

leaves_unowned : (s r : HeapState) → IsLawful r.history → Goes (called s) r → LeavesUnowned s r
leaves_unowned s r l x = record {
  places = λ a t e. subst (λ (o : Option Slot). IsSomeAnd o (λ u. (u.addr ≡ t.addr) × (u.class ≡ t.class))) (sym (x.stay a t e)) (refl, refl);
  slots = λ a u. at a (x.keeps a (unheld_of r.history a u));
  bytes = λ a u v. same a u (at a (x.keeps a (unheld_of r.history a v)));
  signals = record { added = x.added; behind = x.behind; seen = each x.added x.seen };
}
  where
    same : (a : ℕ) → IsUnownedAt s.history a → (IsUnownedAt s.history a × (r.memory.bytes a ≡ s.memory.bytes a)) ⊎ ((IsUnownedAt s.history a → ⊥) × IsFreshAt r a) → r.memory.bytes a ≡ s.memory.bytes a
    same a u (inl k) = k.1
    same a u (inr k) = absurd (k.0 u)

    at : (a : ℕ) → (Unheld (slots_of s.history) a × (r.memory.bytes a ≡ s.memory.bytes a)) ⊎ ((Unheld (slots_of s.history) a → ⊥) × IsFreshAt r a)
        → (IsUnownedAt s.history a × (r.memory.bytes a ≡ s.memory.bytes a)) ⊎ ((IsUnownedAt s.history a → ⊥) × IsFreshAt r a)
    at a (inl k) = inl (unowned_of s.history a k.0, k.1)
    at a (inr k) = inr ((λ u. k.0 (unheld_of s.history a u)), k.1)

    each : (gs : List Signal) → AllByRecursion (Seen (called s) r) gs → AllByRecursion (IsSeen s r) gs
    each [] h = tt
    each (g ∷ gs) h = (
      record {
        place = h.0.place;
        was_unowned = unowned_of s.history g.addr h.0.was;
        is_unowned = unowned_of r.history g.addr (bad_unheld r.history g.addr h.0.slot l h.0.found h.0.bad);
        broken = h.0.broken;
        stays = h.0.stays;
        byte = h.0.byte;
      },
      each gs h.1,
    )

goes_allocate : SlotLaws → (rules : Rules) (zeroed : Bool) (align size site : ℕ) → IsAlignment align → (s : HeapState) → IsLawful s.history → Goes s (allocate rules zeroed align size site s).state
goes_allocate laws rules zeroed align size site ok s l = at (nat_lt size_limit size) refl
  where
    at : (b : Bool) → nat_lt size_limit size ≡ b → Goes s (cond b (answers 0 s) (place (request rules align size site) zeroed s)).state
    at true e = goes_nowhere s
    at false e = goes_place laws (request rules align size site) zeroed s (request_fits rules align size site ok (ltb-false size_limit size e)) l

pub malloc_leaves_unowned : SlotLaws → MallocLeavesUnowned
unfolding malloc
malloc_leaves_unowned laws rules size site s l =
    leaves_unowned s (allocate rules rules.zero usual size site (called s)).state (malloc_is_lawful laws rules size site s l) (goes_allocate laws rules rules.zero usual size site usual_is (called s) (called_lawful s l))

pub memalign_leaves_unowned : SlotLaws → MemalignLeavesUnowned
unfolding memalign
memalign_leaves_unowned laws rules align size site s l =
    leaves_unowned s (cond (is_alignment align) (allocate rules rules.zero (max align usual) size site (called s)) (answers 0 (called s))).state (memalign_is_lawful laws rules align size site s l) (at (is_alignment align) refl)
  where
    at : (b : Bool) → is_alignment align ≡ b → Goes (called s) (cond b (allocate rules rules.zero (max align usual) size site (called s)) (answers 0 (called s))).state
    at true e = goes_allocate laws rules rules.zero (max align usual) size site (asked_is align e) (called s) (called_lawful s l)
    at false e = goes_nowhere (called s)

pub calloc_leaves_unowned : SlotLaws → CallocLeavesUnowned
unfolding calloc
calloc_leaves_unowned laws rules count each site s l =
    leaves_unowned s (allocate rules true usual (count * each) site (called s)).state (calloc_is_lawful laws rules count each site s l) (goes_allocate laws rules true usual (count * each) site usual_is (called s) (called_lawful s l))

pub free_leaves_unowned : SlotLaws → FreeLeavesUnowned
unfolding free
free_leaves_unowned laws rules address site s l = leaves_unowned s (freed_if rules site (owner_of s.history.objects address) (called s)) (free_is_lawful laws rules address site s l) (at (owner_of s.history.objects address) refl)
  where
    at : (o : Option Owner) → owner_of s.history.objects address ≡ o → Goes (called s) (freed_if rules site o (called s))
    at None e = goes_nowhere (called s)
    at (Some w) e = let k = owner_found s.history.objects address w e in goes_owner_freed laws rules site w (called s) (called s) k k (called_lawful s l) (goes_nowhere (called s))

goes_resized : SlotLaws → (rules : Rules) (size site : ℕ) (s : HeapState) (o : Option Owner) → ((w : Owner) → o ≡ Some w → IsOwner s.history.objects w) → IsLawful s.history → Goes s (resized rules size site s o).state
goes_resized laws rules size site s None k l = goes_nowhere s
goes_resized laws rules size site s (Some w) k l = at (nat_lt size_limit size) refl
  where
    at : (b : Bool) → nat_lt size_limit size ≡ b → Goes s (cond b (answers 0 s) (replaced rules size site w (place (request rules usual size site) rules.zero s))).state
    at true e = goes_nowhere s
    at false e =
        let r : Request = request rules usual size site in
        let fit = request_fits rules usual size site usual_is (ltb-false size_limit size e) in
        let o : Outcome = place r rules.zero s in
        goes_moved laws rules size site r w s o.state o.answer (omega (arith, fit.room.fits)) (k w refl) (place_owner laws r rules.zero s w fit.class l (k w refl)) (place_lawful laws r rules.zero s fit l) (placement_ends laws s r rules.zero l fit.class)
        (goes_place laws r rules.zero s fit l)

pub realloc_leaves_unowned : SlotLaws → ReallocLeavesUnowned
unfolding realloc
realloc_leaves_unowned laws rules old size site s l =
    leaves_unowned s (cond (nat_eq old 0) (allocate rules rules.zero usual size site (called s)) (resized rules size site (called s) (owner_of s.history.objects old))).state (realloc_is_lawful laws rules old size site s l) (at (nat_eq old 0))
  where
    at : (b : Bool) → Goes (called s) (cond b (allocate rules rules.zero usual size site (called s)) (resized rules size site (called s) (owner_of s.history.objects old))).state
    at true = goes_allocate laws rules rules.zero usual size site usual_is (called s) (called_lawful s l)
    at false = goes_resized laws rules size site (called s) (owner_of s.history.objects old) (λ w e. owner_found s.history.objects old w e) (called_lawful s l)
