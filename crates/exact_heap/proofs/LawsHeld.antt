-- What heap calls do to bytes of slots that objects hold.
use Rattle.std.proofs.Common.{◌≡◌, ℕ, zero, suc, ◌+◌, ◌^◌, ◌<◌, ◌≤◌, refl, ap, sym, ◌∙◌, subst, Bool, true, false, cond, ◌&&◌, ◌||◌, ◌⊎◌, inl, inr, arith, nat_eq, List, [], ◌∷◌, ◌++◌, length, map, Some, None, Result, Ok, Err}
use Rattle.std.specs.List.{AllByRecursion, list_any}
use Rattle.std.specs.FinSet.{contains, remove}
use Rattle.std.proofs.lemmas.Bool.{true≢false, and_parts, or_from, cases_Bool}
use Rattle.std.proofs.lemmas.List.{length-append}
use Rattle.std.proofs.lemmas.Option.{same_Some}
use Rattle.diefast_canary.specs.Canary.{canary_byte}
use Rattle.rv_memory.specs.Memory.{Memory, within, filled}
use Rattle.miniheap.specs.declared.place.Slot.{Slot}
use Rattle.miniheap.specs.Layout.{heap_limit}
use Rattle.miniheap.specs.Laws.{SlotLaws}
use Rattle.miniheap.specs.Slots.{Slots, slot_at, used_of, wanted_of, end_of, IsFreeSlot, IsSlotIn}
use Rattle.miniheap.specs.declared.place.SlotState.TheVariants.{Free}
use Rattle.miniheap.specs.WordList.{canary_of}
use Rattle.exact_heap.specs.declared.parts.Request.{Request}
use Rattle.exact_heap.specs.declared.signal.HeapRefusal.{HeapRefusal}
use Rattle.exact_heap.specs.declared.signal.HeapRefusal.TheVariants.{Room, Memory as NoMemory}
use Rattle.exact_heap.specs.History.{ObjectState, Owned, Deferred, Released, Object, slot_of, is_held, holds_slot, held_by, slots_of, canary_in, clock_of}
use Rattle.exact_heap.specs.Owners.{Owner, changed_at}
use Rattle.exact_heap.specs.Placing.{HeapState, Rules, Outcome, Turn, turn, grown, signalled, with_draws, no_room, search, search_from, room_left, enough, new_object, placed, is_due, after_due, released_object, is_in_due, release_due, settled, place}
use Rattle.exact_heap.specs.Freeing.{neighbours_checked, freed_object, deferral_of, object_freed, owner_freed}
use Rattle.exact_heap.specs.Lawful.{Fits, places_of, IsEarlier, AreApart, IsPlaced, IsLawful}
use Rattle.exact_heap.specs.Laws.{IsClass, IsWhole}
use Rattle.exact_heap.specs.Mapped.{in_region}
use Rattle.exact_heap.specs.Held.{new_byte}
use Rattle.exact_heap.specs.ObjectsAfter.{with_new}
use Rattle.exact_heap.proofs.Homes.{same_places, end_below}
use Rattle.exact_heap.proofs.SlotPlaces.{with_state, among_left}
use Rattle.exact_heap.proofs.Objects.{any_held, contains-held, NoneHolds, none_held, around, held_by-released, each_at, each_push}
use Rattle.exact_heap.proofs.States.{search_goes_on, search_finds, search_fails, room_grown, room_spoiled, room_below}
use Rattle.exact_heap.proofs.Turns.{FreeSlot, free_slot_is, free_slot_in, free_slot_lies}
use Rattle.exact_heap.proofs.Neighbours.{neighbours_memory}
use Rattle.exact_heap.proofs.LawsTurns.{TurnEnds, Grows, Lacks, Draws, turn_ends}
use Rattle.exact_heap.proofs.LawsKept.{lawful_grown, lawful_drawn, lawful_spoiled}
use Rattle.exact_heap.proofs.LawsSearch.{FindsWhole, search_whole}
use Rattle.exact_heap.proofs.LawsApart.{HasSlot, own_slot, own_found}
use Rattle.exact_heap.proofs.LawsPlaced.{map-append, new_held}
use Rattle.exact_heap.proofs.LawsPlacing.{or_either, lawful_placed, not_after}
use Rattle.exact_heap.proofs.LawsNeighbours.{Checked, lawful_neighbours}
use Rattle.exact_heap.proofs.LawsFreed.{IsOwner, freed_objects, fewer_changed}
use Rattle.exact_heap.proofs.LawsQuiet.{free_is, new_has_slot, have_slots}
use Rattle.exact_heap.proofs.LawsQuietCalls.{changed_there}
use Rattle.exact_heap.proofs.LawsUnowned.{Stay, Goes, goes_grown}
use Rattle.exact_heap.proofs.LawsUnownedCalls.{due_held, goes_search}
use Rattle.exact_heap.proofs.LawsMapped.{within_bounds, region_true, own_lies, due_lies}

-- ---- slots that an object holds

-- the slot of an address, which an object holds
pub record InHeld (s : Slots) (a : ℕ) : Type 0 where
  pub slot : Slot
  pub found : slot_at s a ≡ Some slot
  pub held : contains s.held slot.addr ≡ true

-- a free slot isn't one
free_not_held : SlotLaws → (s : Slots) (class slot a : ℕ) → IsFreeSlot s class slot → slot ≤ a → a < slot + 2 ^ class → InHeld s a → ⊥
free_not_held laws s class slot a free lo hi u =
    let k = free_slot_is s class slot free in
    let there : slot_at s a ≡ Some k.slot = laws.apart s slot a k.slot k.found (omega (arith, k.addr, lo)) (omega (arith, k.addr, hi, ap (λ (c : ℕ). 2 ^ c) k.class)) in
    let same : k.slot ≡ u.slot = same_Some k.slot u.slot (sym there ∙ u.found) in
    true≢false (sym u.held ∙ ap (λ (t : Slot). contains s.held t.addr) (sym same) ∙ (free_is s slot k.slot k.found k.state).unheld)

-- where a step changes no object, a slot that was held still is
held_on : (s r : HeapState) → Stay (slots_of s.history) (slots_of r.history) → r.history.objects ≡ s.history.objects → (a : ℕ) → InHeld (slots_of s.history) a → InHeld (slots_of r.history) a
held_on s r stay same a u = record { slot = with_state (slots_of r.history) u.slot; found = stay a u.slot u.found; held = ap (λ (os : List Object). contains (held_by os) u.slot.addr) same ∙ u.held }

-- where a step adds no miniheap and no more slots are held, one that is held was so before
pub held_back : (r q : HeapState) → q.history.classes ≡ r.history.classes → ((x : ℕ) → contains (held_by q.history.objects) x ≡ true → contains (held_by r.history.objects) x ≡ true) → (a : ℕ) → InHeld (slots_of q.history) a → InHeld (slots_of r.history) a
held_back r q places fewer a u = record { slot = with_state (slots_of r.history) u.slot; found = same_places (slots_of q.history) (slots_of r.history) a u.slot places u.found; held = fewer u.slot.addr u.held }

-- ---- what a step may change

-- an address in the heap region, and in no slot that is held both before and after the step
pub record IsSpare (s r : HeapState) (a : ℕ) : Type 0 where
  pub inside : in_region a ≡ true
  pub spare : InHeld (slots_of s.history) a → InHeld (slots_of r.history) a → ⊥

abbrev pub Spares : (s r : HeapState) → Type 0
Spares s r = (a : ℕ) → (r.memory.bytes a ≡ s.memory.bytes a) ⊎ IsSpare s r a

-- one step after another, where what is held before and after both is held between them
pub spares_then : (s r q : HeapState) → Spares s r → Spares r q → ((a : ℕ) → InHeld (slots_of s.history) a → InHeld (slots_of q.history) a → InHeld (slots_of r.history) a) → Spares s q
spares_then s r q x y between a = at (x a) (y a)
  where
    at : (r.memory.bytes a ≡ s.memory.bytes a) ⊎ IsSpare s r a → (q.memory.bytes a ≡ r.memory.bytes a) ⊎ IsSpare r q a → (q.memory.bytes a ≡ s.memory.bytes a) ⊎ IsSpare s q a
    at (inl e) (inl f) = inl (f ∙ e)
    at (inr k) (inl f) = inr (record { inside = k.inside; spare = λ u v. k.spare u (between a u v) })
    at (inl e) (inr m) = inr (record { inside = m.inside; spare = λ u v. m.spare (between a u v) v })
    at (inr k) (inr m) = inr (record { inside = m.inside; spare = λ u v. m.spare (between a u v) v })

pub spares_nothing : (s r : HeapState) → r.memory ≡ s.memory → Spares s r
spares_nothing s r e a = inl (ap (λ (m : Memory). m.bytes a) e)

-- ---- the search

spares_grown : SlotLaws → (class : ℕ) (s : HeapState) → used_of (slots_of s.history) + wanted_of (slots_of s.history) class ≤ heap_limit → Spares s (grown class s)
spares_grown laws class s room a = at (within (end_of g) (wanted_of g class) a) refl
  where
    g : Slots
    g = slots_of s.history

    at : (b : Bool) → within (end_of g) (wanted_of g class) a ≡ b → (cond b (Some (canary_byte (canary_in s.history) a)) (s.memory.bytes a) ≡ s.memory.bytes a) ⊎ IsSpare s (grown class s) a
    at false q = inl refl
    at true q =
        let w = within_bounds (end_of g) (wanted_of g class) a q in
        inr (record { inside = region_true a (omega (arith, w.0)) (omega (arith, w.1, room)); spare = λ u v. beyond u w.0 })
      where
        beyond : InHeld g a → end_of g ≤ a → ⊥
        beyond u lo = omega (arith, lo, (laws.hold g a u.slot u.found).1, (laws.within g a u.slot u.found).1)

spares_search : SlotLaws → (n class : ℕ) (s : HeapState) → IsLawful s.history → IsClass class → room_left class (slots_of s.history) < n → Spares s (search_from n class s).state
spares_search laws zero class s l c few = absurd (omega arith)
spares_search laws (suc n) class s l c few = at (turn_ends laws class s) (spares_search laws n class)
  where
    -- it goes on from a state
    on : (r : HeapState) → turn class s ≡ record { state = r; answer = Ok None } → r.history.objects ≡ s.history.objects → Stay (slots_of s.history) (slots_of r.history) → Spares s r → Spares r (search_from n class r).state → Spares s (search_from (suc n) class s).state
    on r e same stay x y =
        let f : search_from (suc n) class s ≡ search_from n class r = search_goes_on n class s (ap (λ (t : Turn). t.answer) e) ∙ ap (λ (t : Turn). search_from n class t.state) e in
        subst (λ (o : Outcome). Spares s o.state) (sym f) (spares_then s r (search_from n class r).state x y (λ a u v. held_on s r stay same a u))

    at : TurnEnds class s → ((r : HeapState) → IsLawful r.history → IsClass class → room_left class (slots_of r.history) < n → Spares r (search_from n class r).state) → Spares s (search_from (suc n) class s).state
    at (Grows g room e) again =
        let lr = lawful_grown laws class s l c.0 c.1 room in
        let less : room_left class (slots_of (grown class s).history) < n = omega (arith, few, room_grown laws (slots_of s.history) class l.in_order c.0 room) in
        on (grown class s) e refl (goes_grown laws class s).stay (spares_grown laws class s room) (again (grown class s) lr c less)
    at (Lacks g room e) again =
        let f : search_from (suc n) class s ≡ record { state = s; answer = Err (no_room class s) } = search_fails n class s (no_room class s) (ap (λ (t : Turn). t.answer) e) ∙ ap (λ (t : Turn). record { state = t.state; answer = Err (no_room class s) }) e in
        subst (λ (o : Outcome). Spares s o.state) (sym f) (spares_nothing s s refl)
    at (Draws g slot words free None b e) again =
        let f : search_from (suc n) class s ≡ record { state = with_draws words s; answer = Ok slot } = search_finds n class s slot (ap (λ (t : Turn). t.answer) e) ∙ ap (λ (t : Turn). record { state = t.state; answer = Ok slot }) e in
        subst (λ (o : Outcome). Spares s o.state) (sym f) (spares_nothing s (with_draws words s) refl)
    at (Draws g slot words free (Some broken) b e) again =
        let r : HeapState = signalled slot broken (with_draws words s) in
        let here : IsSlotIn (slots_of s.history) slot Free = free_slot_in (slots_of s.history) class slot free in
        let lr : IsLawful r.history = lawful_spoiled slot broken (with_draws words s) (lawful_drawn words s l) here in
        let less : room_left class (slots_of r.history) < n = omega (arith, few, room_spoiled laws (slots_of s.history) class slot free here) in
        on r e refl (λ a t q. same_places (slots_of s.history) (slots_of r.history) a t refl q) (spares_nothing s r refl) (again r lr c less)

-- ---- releases

-- an object that is due at an address has the slot there
due_there : SlotLaws → (classes : List ℕ) (clock a : ℕ) (t : Slot) (o : Object) → slot_at (places_of classes) a ≡ Some t → HasSlot classes o → is_in_due clock a o ≡ true → (slot_of o ≡ t.addr) × (is_due clock o.state ≡ true)
due_there laws classes clock a t o e p q =
    let w = and_parts (is_due clock o.state) (within (slot_of o) (2 ^ o.class) a) q in
    let u = within_bounds (slot_of o) (2 ^ o.class) a w.1 in
    let v = own_slot classes o p in
    let same : v.slot ≡ t = same_Some v.slot t (sym (own_found laws classes o v a u.0 u.1) ∙ e) in
    (sym v.addr ∙ ap (λ (x : Slot). x.addr) same, w.0)

due_released : (clock : ℕ) (x : ObjectState) → is_due clock x ≡ true → is_held (after_due clock x) ≡ false
due_released clock Owned e = absurd (true≢false (sym e))
due_released clock (Deferred due) e = ap (λ (b : Bool). is_held (cond b (Released due) (Deferred due))) e
due_released clock (Released due) e = absurd (true≢false (sym e))

-- where an object holds its slot, no later one has it
drops_later : (clock a : ℕ) (o : Object) (os : List Object) → AllByRecursion (IsEarlier o) os → holds_slot o ≡ true → slot_of o ≡ a → NoneHolds a (map (released_object clock) os)
drops_later clock a o [] h e s = tt
drops_later clock a o (y ∷ os) h e s = ((λ q. absurd (true≢false (sym e ∙ h.0 (s ∙ sym q)))), drops_later clock a o os h.1 e s)

-- where a later one that is due has its slot, it holds it no more
due_later : SlotLaws → (classes : List ℕ) (clock a : ℕ) (t : Slot) (o : Object) (os : List Object) → slot_at (places_of classes) a ≡ Some t → AllByRecursion (HasSlot classes) os → AllByRecursion (IsEarlier o) os → slot_of o ≡ t.addr
    → list_any (is_in_due clock a) os ≡ true → holds_slot o ≡ false
due_later laws classes clock a t o [] e p h s d = absurd (true≢false (sym d))
due_later laws classes clock a t o (y ∷ os) e p h s d = at (or_either (is_in_due clock a y) (list_any (is_in_due clock a) os) d) (due_later laws classes clock a t o os e p.1 h.1 s)
  where
    at : (is_in_due clock a y ≡ true) ⊎ (list_any (is_in_due clock a) os ≡ true) → (list_any (is_in_due clock a) os ≡ true → holds_slot o ≡ false) → holds_slot o ≡ false
    at (inl k) again = h.0 (s ∙ sym (due_there laws classes clock a t y e p.0 k).0)
    at (inr k) again = again k

and_false : (b : Bool) → (b && false) ≡ false
and_false true = refl
and_false false = refl

-- the slot at an address that an object was due at is held no more
pub due_drops : SlotLaws → (classes : List ℕ) (clock a : ℕ) (t : Slot) (os : List Object) → slot_at (places_of classes) a ≡ Some t → AllByRecursion (HasSlot classes) os → AreApart os → list_any (is_in_due clock a) os ≡ true
    → any_held t.addr (map (released_object clock) os) ≡ false
due_drops laws classes clock a t [] e p h d = refl
due_drops laws classes clock a t (o ∷ os) e p h d = at (is_in_due clock a o) refl d (due_drops laws classes clock a t os e p.1 h.1)
  where
    here : (b : Bool) → nat_eq (slot_of o) t.addr ≡ b → list_any (is_in_due clock a) os ≡ true → (is_held (after_due clock o.state) && b) ≡ false
    here false q k = and_false (is_held (after_due clock o.state))
    here true q k =
        ap (λ (b : Bool). b && true) (not_after clock o.state (due_later laws classes clock a t o os e p.1 h.0 (Rattle.std.proofs.lemmas.Bool.eqb-true (slot_of o) t.addr q) k))

    at : (b : Bool) → is_in_due clock a o ≡ b → (b || list_any (is_in_due clock a) os) ≡ true → (list_any (is_in_due clock a) os ≡ true → any_held t.addr (map (released_object clock) os) ≡ false)
        → ((is_held (after_due clock o.state) && nat_eq (slot_of o) t.addr) || any_held t.addr (map (released_object clock) os)) ≡ false
    at true q k again =
        let w = due_there laws classes clock a t o e p.0 q in
        or_from (is_held (after_due clock o.state) && nat_eq (slot_of o) t.addr) (any_held t.addr (map (released_object clock) os))
        (ap (λ (b : Bool). b && nat_eq (slot_of o) t.addr) (due_released clock o.state w.1))
        (none_held t.addr (map (released_object clock) os) (drops_later clock t.addr o os h.0 (due_held clock o.state w.1) w.0))
    at false q k again =
        or_from (is_held (after_due clock o.state) && nat_eq (slot_of o) t.addr) (any_held t.addr (map (released_object clock) os)) (here (nat_eq (slot_of o) t.addr) refl k) (again k)

-- ---- a new object

-- where a placement ends in a slot
pub record HasNew (r : Request) (zeroed : Bool) (before s : HeapState) (answer : ℕ) : Type 0 where
  pub slot : ℕ
  pub address : answer ≡ slot + r.front
  pub unheld : contains (held_by before.history.objects) slot ≡ false
  pub there : Slot
  pub found : slot_at (slots_of s.history) slot ≡ Some there
  pub addr : there.addr ≡ slot
  pub class : there.class ≡ r.class
  pub held : contains (held_by s.history.objects) slot ≡ true
  pub bytes : (a : ℕ) → slot ≤ a → a < slot + 2 ^ r.class → s.memory.bytes a ≡ Some (new_byte zeroed before a)
  pub objects : s.history.objects ≡ with_new before.history.objects (new_object r slot)

pub new_found : SlotLaws → (r : Request) (zeroed : Bool) (before s : HeapState) (answer : ℕ) (k : HasNew r zeroed before s answer) (a : ℕ) → k.slot ≤ a → a < k.slot + 2 ^ r.class → slot_at (slots_of s.history) a ≡ Some k.there
new_found laws r zeroed before s answer k a lo hi = laws.apart (slots_of s.history) k.slot a k.there k.found (omega (arith, k.addr, lo)) (omega (arith, k.addr, hi, ap (λ (c : ℕ). 2 ^ c) k.class))

-- the objects are those before, of which the due ones are released, and the new one
pub new_last : (r : Request) (slot : ℕ) (os : List Object) → map (released_object (length (os ++ new_object r slot ∷ []))) (os ++ new_object r slot ∷ []) ≡ with_new os (new_object r slot)
new_last r slot os =
    ap (λ (c : ℕ). map (released_object c) (os ++ new_object r slot ∷ [])) (length-append os (new_object r slot ∷ []))
    ∙ map-append (released_object (length os + 1)) os (new_object r slot ∷ [])

settled_new : SlotLaws → (r : Request) (zeroed : Bool) (before s : HeapState) (slot : ℕ) → Fits r → s.history.objects ≡ before.history.objects → s.history.seed ≡ before.history.seed → IsLawful s.history → IsWhole s r.class slot
    → HasNew r zeroed before (release_due (placed r zeroed slot s)) (slot + r.front)
unfolding release_due
settled_new laws r zeroed before s slot fit same seed l k = record {
  slot = slot;
  address = refl;
  unheld = ap (λ (os : List Object). contains (held_by os) slot) (sym same) ∙ k.unheld;
  there = with_state after f.slot;
  found = found;
  addr = f.addr;
  class = f.class;
  held = new_held clock r slot s.history.objects;
  bytes = λ a lo hi. at a lo hi (list_any (is_in_due clock a) objects) refl;
  objects = new_last r slot s.history.objects ∙ ap (λ (os : List Object). with_new os (new_object r slot)) same;
}
  where
    objects : List Object
    objects = s.history.objects ++ new_object r slot ∷ []

    clock : ℕ
    clock = length objects

    after : Slots
    after = record { classes = s.history.classes; held = held_by (map (released_object clock) objects); bad = s.history.bad }

    places : Slots
    places = places_of s.history.classes

    f : FreeSlot (slots_of s.history) r.class slot
    f = free_slot_is (slots_of s.history) r.class slot k.free

    found : slot_at after slot ≡ Some (with_state after f.slot)
    found = same_places (slots_of s.history) after slot f.slot refl f.found

    has : AllByRecursion (HasSlot s.history.classes) objects
    has = each_push (HasSlot s.history.classes) s.history.objects (new_object r slot) (have_slots s.history l) (new_has_slot s r slot k.free)

    lawful : IsLawful (placed r zeroed slot s).history
    lawful = lawful_placed r zeroed slot s fit k.free l

    in_places : (a : ℕ) → slot ≤ a → a < slot + 2 ^ r.class → slot_at places a ≡ Some (with_state places f.slot)
    in_places a lo hi = laws.apart places slot a (with_state places f.slot) (same_places (slots_of s.history) places slot f.slot refl f.found) (omega (arith, f.addr, lo)) (omega (arith, f.addr, hi, ap (λ (c : ℕ). 2 ^ c) f.class))

    -- nothing is due there
    none : (a : ℕ) → slot ≤ a → a < slot + 2 ^ r.class → list_any (is_in_due clock a) objects ≡ true → ⊥
    none a lo hi q =
        let d : any_held f.slot.addr (map (released_object clock) objects) ≡ false = due_drops laws s.history.classes clock a (with_state places f.slot) objects (in_places a lo hi) has lawful.apart q in
        true≢false (sym (new_held clock r slot s.history.objects) ∙ contains-held (map (released_object clock) objects) slot ∙ ap (λ (x : ℕ). any_held x (map (released_object clock) objects)) (sym f.addr) ∙ d)

    fresh : (a : ℕ) → slot ≤ a → a < slot + 2 ^ r.class → (z : Bool) → (cond z (filled s.memory slot (2 ^ r.class) (λ address. 0)) s.memory).bytes a ≡ Some (new_byte z before a)
    fresh a lo hi false = k.intact a lo hi ∙ ap (λ (x : ℕ). Some (canary_byte (canary_of x) a)) seed
    fresh a lo hi true = ap (λ (b : Bool). cond b (Some 0) (s.memory.bytes a)) (Rattle.exact_heap.proofs.LawsQuiet.is_within slot (2 ^ r.class) a lo hi)

    at : (a : ℕ) → slot ≤ a → a < slot + 2 ^ r.class → (b : Bool) → list_any (is_in_due clock a) objects ≡ b → cond b (Some (canary_byte (canary_in s.history) a)) ((placed r zeroed slot s).memory.bytes a) ≡ Some (new_byte zeroed before a)
    at a lo hi true q = absurd (none a lo hi q)
    at a lo hi false q = fresh a lo hi zeroed

spares_settled : SlotLaws → (r : Request) (zeroed : Bool) (slot : ℕ) (s : HeapState) → Fits r → IsFreeSlot (slots_of s.history) r.class slot → IsLawful s.history → Spares s (release_due (placed r zeroed slot s))
unfolding release_due
spares_settled laws r zeroed slot s fit free l a = at (list_any (is_in_due clock a) objects) refl
  where
    g : Slots
    g = slots_of s.history

    objects : List Object
    objects = s.history.objects ++ new_object r slot ∷ []

    clock : ℕ
    clock = length objects

    after : Slots
    after = record { classes = s.history.classes; held = held_by (map (released_object clock) objects); bad = s.history.bad }

    places : Slots
    places = places_of s.history.classes

    has : AllByRecursion (HasSlot s.history.classes) objects
    has = each_push (HasSlot s.history.classes) s.history.objects (new_object r slot) (have_slots s.history l) (new_has_slot s r slot free)

    lawful : IsLawful (placed r zeroed slot s).history
    lawful = lawful_placed r zeroed slot s fit free l

    top : end_of g ≤ 0x7fe00000
    top = end_below g l.in_order

    -- what was due isn't held
    dropped : list_any (is_in_due clock a) objects ≡ true → InHeld after a → ⊥
    dropped q v =
        true≢false (sym v.held ∙ contains-held (map (released_object clock) objects) v.slot.addr ∙ due_drops laws s.history.classes clock a (with_state places v.slot) objects (same_places after places a v.slot refl v.found) has lawful.apart q)

    zero_if : (z : Bool) → ((cond z (filled s.memory slot (2 ^ r.class) (λ address. 0)) s.memory).bytes a ≡ s.memory.bytes a) ⊎ IsSpare s (release_due (placed r zeroed slot s)) a
    zero_if false = inl refl
    zero_if true = inside (within slot (2 ^ r.class) a) refl
      where
        inside : (b : Bool) → within slot (2 ^ r.class) a ≡ b → (cond b (Some 0) (s.memory.bytes a) ≡ s.memory.bytes a) ⊎ IsSpare s (release_due (placed r zeroed slot s)) a
        inside false q = inl refl
        inside true q =
            let w = within_bounds slot (2 ^ r.class) a q in
            let i = free_slot_lies laws g r.class slot free in
            inr (record { inside = region_true a (omega (arith, w.0, i.low)) (omega (arith, w.1, i.high, top)); spare = λ u v. free_not_held laws g r.class slot a free w.0 w.1 u })

    at : (b : Bool) → list_any (is_in_due clock a) objects ≡ b → (cond b (Some (canary_byte (canary_in s.history) a)) ((placed r zeroed slot s).memory.bytes a) ≡ s.memory.bytes a) ⊎ IsSpare s (release_due (placed r zeroed slot s)) a
    at true q =
        let i = due_lies laws s.history.classes clock a objects has q in
        inr (record { inside = region_true a i.low (omega (arith, i.high, top)); spare = λ u v. dropped q v })
    at false q = zero_if zeroed

-- ---- placement

abbrev pub EndsNew : Request → (zeroed : Bool) → (before s : HeapState) → Result ℕ HeapRefusal → Type 0
EndsNew r zeroed before s (Ok answer) = HasNew r zeroed before s answer
EndsNew r zeroed before s (Err (Room used wanted)) = s.history.objects ≡ before.history.objects
EndsNew r zeroed before s (Err NoMemory) = ⊥

-- what a placement comes to
pub record PlacedWell (r : Request) (zeroed : Bool) (before : HeapState) (o : Outcome) : Type 0 where
  pub stay : Stay (slots_of before.history) (slots_of o.state.history)
  pub spares : Spares before o.state
  pub ends : EndsNew r zeroed before o.state o.answer

settled_well : SlotLaws → (r : Request) (zeroed : Bool) (before s : HeapState) (a : Result ℕ HeapRefusal) → Fits r → s.history.objects ≡ before.history.objects → IsLawful s.history → FindsWhole r.class s a → Goes before s → Spares before s
    → PlacedWell r zeroed before (settled r zeroed s a)
unfolding release_due
settled_well laws r zeroed before s (Err (Room used wanted)) fit same l k g x = record { stay = g.stay; spares = x; ends = same }
settled_well laws r zeroed before s (Err NoMemory) fit same l k g x = absurd k
settled_well laws r zeroed before s (Ok slot) fit same l k g x = record {
  stay = λ a t e. same_places (slots_of s.history) (slots_of q.history) a (with_state (slots_of s.history) t) refl (g.stay a t e);
  spares = spares_then before s q x (spares_settled laws r zeroed slot s fit k.free l) (λ a u v. held_on before s g.stay same a u);
  ends = settled_new laws r zeroed before s slot fit same g.seed l k;
}
  where
    q : HeapState
    q = release_due (placed r zeroed slot s)

pub placed_well : SlotLaws → (r : Request) (zeroed : Bool) (s : HeapState) → Fits r → IsLawful s.history → PlacedWell r zeroed s (place r zeroed s)
unfolding place
placed_well laws r zeroed s fit l =
    let e = search_whole laws r.class s l fit.class in
    let few = room_below laws (slots_of s.history) r.class l.in_order in
    settled_well laws r zeroed s (search r.class s).state (search r.class s).answer fit e.objects e.lawful e.ends (goes_search laws enough r.class s l fit.class few) (spares_search laws enough r.class s l fit.class few)

-- ---- the free of an owned object

pub freed_fewer : (deferral site : ℕ) (w : Owner) (s : HeapState) → IsOwner s.history.objects w → (x : ℕ) → contains (held_by (object_freed deferral site w s).history.objects) x ≡ true → contains (held_by s.history.objects) x ≡ true
freed_fewer deferral site w s k x h =
    contains-held s.history.objects x ∙ ap (any_held x) k.parts
    ∙ fewer_changed k.first w.object (freed_object (clock_of s.history) deferral site w.object) k.last x refl (ap is_held k.owned)
    (sym (ap (any_held x) (freed_objects (clock_of s.history) deferral site s.history.objects w k)) ∙ sym (contains-held (changed_at (freed_object (clock_of s.history) deferral site) w.number s.history.objects) x) ∙ h)

spares_freed : SlotLaws → (deferral site : ℕ) (w : Owner) (s : HeapState) → IsOwner s.history.objects w → IsLawful s.history → Spares s (object_freed deferral site w s)
spares_freed laws deferral site w s k l a = at (nat_eq deferral 0) refl
  where
    p : Object
    p = freed_object (clock_of s.history) deferral site w.object

    places : Slots
    places = places_of s.history.classes

    after : Slots
    after = slots_of (object_freed deferral site w s).history

    has : HasSlot s.history.classes w.object
    has = (each_at (IsPlaced s.history.classes) k.first w.object k.last (subst (AllByRecursion (IsPlaced s.history.classes)) k.parts l.placed)).slot

    holds : holds_slot w.object ≡ true
    holds = ap is_held k.owned

    -- the slot is free after it
    dropped : nat_eq deferral 0 ≡ true → slot_of w.object ≤ a → a < slot_of w.object + 2 ^ w.object.class → InHeld after a → ⊥
    dropped q lo hi v =
        let t = own_slot s.history.classes w.object has in
        let same : t.slot ≡ with_state places v.slot = same_Some t.slot (with_state places v.slot) (sym (own_found laws s.history.classes w.object t a lo hi) ∙ same_places after places a v.slot refl v.found) in
        let own : v.slot.addr ≡ slot_of w.object = ap (λ (x : Slot). x.addr) (sym same) ∙ t.addr in
        let gone : holds_slot p ≡ false = ap (λ (b : Bool). is_held (cond b (Released (clock_of s.history)) (Deferred (clock_of s.history + deferral)))) q in
        let left : held_by (k.first ++ p ∷ k.last) ≡ remove (held_by (k.first ++ w.object ∷ k.last)) (slot_of w.object) = held_by-released k.first w.object p k.last (around k.first w.object k.last (subst AreApart k.parts l.apart) holds) holds gone in
        let there : contains (remove (held_by (k.first ++ w.object ∷ k.last)) (slot_of w.object)) (slot_of w.object) ≡ true =
        ap (λ (x : _). contains x (slot_of w.object)) (sym left) ∙ ap (λ (os : List Object). contains (held_by os) (slot_of w.object)) (sym (freed_objects (clock_of s.history) deferral site s.history.objects w k))
        ∙ ap (contains (held_by (object_freed deferral site w s).history.objects)) (sym own) ∙ v.held in
        (among_left (held_by (k.first ++ w.object ∷ k.last)) (slot_of w.object) (slot_of w.object) there).0 refl

    at : (b : Bool) → nat_eq deferral 0 ≡ b → ((cond b (filled s.memory (slot_of w.object) (2 ^ w.object.class) (canary_byte (canary_in s.history))) s.memory).bytes a ≡ s.memory.bytes a) ⊎ IsSpare s (object_freed deferral site w s) a
    at false q = inl refl
    at true q = inside (within (slot_of w.object) (2 ^ w.object.class) a) refl
      where
        inside : (b : Bool) → within (slot_of w.object) (2 ^ w.object.class) a ≡ b → (cond b (Some (canary_byte (canary_in s.history) a)) (s.memory.bytes a) ≡ s.memory.bytes a) ⊎ IsSpare s (object_freed deferral site w s) a
        inside false r = inl refl
        inside true r =
            let u = within_bounds (slot_of w.object) (2 ^ w.object.class) a r in
            let i = own_lies laws s.history.classes w.object has in
            inr (record { inside = region_true a (omega (arith, u.0, i.low)) (omega (arith, u.1, i.high, end_below (slots_of s.history) l.in_order)); spare = λ x v. dropped q u.0 u.1 v })

-- what is known after the free of an owned object
pub record FreedWell (w : Owner) (s r : HeapState) : Type 0 where
  pub spares : Spares s r
  pub classes : r.history.classes ≡ s.history.classes
  pub fewer : (x : ℕ) → contains (held_by r.history.objects) x ≡ true → contains (held_by s.history.objects) x ≡ true
  -- but for its slot those that were held still are
  pub others : (x : ℕ) → contains (held_by s.history.objects) x ≡ true → (slot_of w.object ≡ x → ⊥) → contains (held_by r.history.objects) x ≡ true

pub freed_well : SlotLaws → (rules : Rules) (site : ℕ) (w : Owner) (s : HeapState) → IsOwner s.history.objects w → IsLawful s.history → FreedWell w s (owner_freed rules site w s)
unfolding owner_freed
freed_well laws rules site w s k l = record {
  spares = spares_then s n q (spares_nothing s n (neighbours_memory (slot_of w.object) s)) (spares_freed laws deferral site w n j c.lawful)
      (λ a u v. held_on s n (λ b t e. same_places (slots_of s.history) (slots_of n.history) b t (sym c.classes) e) c.objects a u);
  classes = c.classes;
  fewer = λ x h. ap (λ (os : List Object). contains (held_by os) x) (sym c.objects) ∙ freed_fewer deferral site w n j x h;
  others = λ x h apart. stays x h apart (cases_Bool (any_held x objects));
}
  where
    n : HeapState
    n = neighbours_checked (slot_of w.object) s

    deferral : ℕ
    deferral = deferral_of rules w.object site

    q : HeapState
    q = object_freed deferral site w n

    c : Checked s n
    c = lawful_neighbours laws (slot_of w.object) s l

    j : IsOwner n.history.objects w
    j = subst (λ (os : List Object). IsOwner os w) (sym c.objects) k

    p : Object
    p = freed_object (clock_of n.history) deferral site w.object

    objects : List Object
    objects = changed_at (freed_object (clock_of n.history) deferral site) w.number n.history.objects

    objects_are : objects ≡ j.first ++ p ∷ j.last
    objects_are = freed_objects (clock_of n.history) deferral site n.history.objects w j

    stays : (x : ℕ) → contains (held_by s.history.objects) x ≡ true → (slot_of w.object ≡ x → ⊥) → (any_held x objects ≡ true) ⊎ (any_held x objects ≡ false) → contains (held_by objects) x ≡ true
    stays x h apart (inl y) = contains-held objects x ∙ y
    stays x h apart (inr y) =
        let before : any_held x (j.first ++ w.object ∷ j.last) ≡ true =
        ap (any_held x) (sym j.parts) ∙ sym (contains-held n.history.objects x) ∙ ap (λ (os : List Object). contains (held_by os) x) c.objects ∙ h in
        absurd (apart (changed_there x j.first w.object p j.last refl before (ap (any_held x) (sym objects_are) ∙ y)).0)
