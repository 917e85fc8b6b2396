-- What a placement ends with, over the history alone.
use Rattle.std.proofs.Common.{◌≡◌, ℕ, ◌+◌, refl, arith, ap, sym, ◌∙◌, subst, Bool, true, false, cond, ◌||◌, ◌&&◌, List, [], ◌∷◌, ◌++◌, length, map, Some, Result, Ok, Err}
use Rattle.std.specs.FinSet.{contains}
use Rattle.std.proofs.lemmas.Bool.{eq-eqb}
use Rattle.miniheap.specs.declared.place.SlotState.TheVariants.{Free, Held, Bad}
use Rattle.miniheap.specs.Slots.{Slots, slot_at, state_of}
use Rattle.exact_heap.specs.declared.parts.Request.{Request}
use Rattle.exact_heap.specs.declared.signal.HeapRefusal.{HeapRefusal}
use Rattle.exact_heap.specs.declared.signal.HeapRefusal.TheVariants.{Room, Memory as NoMemory}
use Rattle.exact_heap.specs.History.{Object, held_by, slots_of}
use Rattle.exact_heap.specs.Placing.{HeapState, search, settled, new_object, placed, released_object, release_due, place}
use Rattle.exact_heap.specs.Laws.{FindsWholeSlots, PlacesInWholeSlots, SearchKeepsObjects, EndsWith, PlacementEnds}
use Rattle.miniheap.specs.Laws.{SlotLaws}
use Rattle.exact_heap.proofs.Objects.{any_held, contains-held, any_held-append}
use Rattle.exact_heap.proofs.SlotPlaces.{with_state}
use Rattle.exact_heap.proofs.Homes.{same_places}
use Rattle.exact_heap.proofs.Turns.{free_slot_is}
use Rattle.exact_heap.proofs.LawsSearch.{FindsWhole, search_whole}

pub finds_whole_slots : SlotLaws → FindsWholeSlots
finds_whole_slots laws s class slot l c e = subst (FindsWhole class (search class s).state) e (search_whole laws class s l c).ends

-- a placement answers its front behind the slot that was found
pub placed_answer : (r : Request) (zeroed : Bool) (s : HeapState) (slot : ℕ) → (place r zeroed s).answer ≡ Ok (slot + r.front) → (search r.class s).answer ≡ Ok slot
unfolding place
placed_answer r zeroed s slot = at (search r.class s).answer
  where
    at : (a : Result ℕ HeapRefusal) → (settled r zeroed (search r.class s).state a).answer ≡ Ok (slot + r.front) → a ≡ Ok slot
    at (Ok found) e = ap (λ (x : ℕ). Ok x) (let q : found + r.front ≡ slot + r.front = cc in let same : found ≡ slot = omega (arith, q) in same)
    at (Err refusal) e = absurd (cc)

pub places_in_whole_slots : SlotLaws → PlacesInWholeSlots
places_in_whole_slots laws s r zeroed slot l c e = finds_whole_slots laws s r.class slot l c (placed_answer r zeroed s slot e)

pub search_keeps_objects : SlotLaws → SearchKeepsObjects
search_keeps_objects laws s class l c = (search_whole laws class s l c).objects

-- ---- the slot of a new object

pub map-append : (f : Object → Object) (xs ys : List Object) → map f (xs ++ ys) ≡ map f xs ++ map f ys
map-append f [] ys = refl
map-append f (x ∷ xs) ys = ap (λ (zs : List Object). f x ∷ zs) (map-append f xs ys)

or_true : (b : Bool) → (b || true) ≡ true
or_true true = refl
or_true false = refl

-- it is held, whatever is released after it
pub new_held : (clock : ℕ) (r : Request) (slot : ℕ) (os : List Object) → contains (held_by (map (released_object clock) (os ++ new_object r slot ∷ []))) slot ≡ true
new_held clock r slot os =
    contains-held (map (released_object clock) (os ++ new_object r slot ∷ [])) slot ∙ ap (any_held slot) (map-append (released_object clock) os (new_object r slot ∷ []))
    ∙ any_held-append slot (map (released_object clock) os) (new_object r slot ∷ [])
    ∙ ap (λ (b : Bool). any_held slot (map (released_object clock) os) || ((true && b) || false)) (eq-eqb slot slot refl)
    ∙ or_true (any_held slot (map (released_object clock) os))

placed_ends : (r : Request) (zeroed : Bool) (s : HeapState) (a : Result ℕ HeapRefusal) → FindsWhole r.class s a → EndsWith r (settled r zeroed s a).state (settled r zeroed s a).answer
unfolding release_due
placed_ends r zeroed s (Err (Room used wanted)) k = k
placed_ends r zeroed s (Err NoMemory) k = k
placed_ends r zeroed s (Ok slot) k =
    let f = free_slot_is (slots_of s.history) r.class slot k.free in
    let after : Slots = slots_of (release_due (placed r zeroed slot s)).history in
    let e : slot_at after slot ≡ Some (with_state after f.slot) = same_places (slots_of s.history) after slot f.slot refl f.found in
    let held : state_of after slot ≡ Held = ap (λ (b : Bool). cond b Held (cond (contains s.history.bad slot) Bad Free)) (new_held (length (s.history.objects ++ new_object r slot ∷ [])) r slot s.history.objects) in
    record {
      slot = with_state after f.slot;
      found = ap (slot_at after) f.addr ∙ e;
      class = f.class;
      held = ap (state_of after) f.addr ∙ held;
      behind = ap (λ (a : ℕ). a + r.front) (sym f.addr);
    }

pub placement_ends : SlotLaws → PlacementEnds
unfolding place
placement_ends laws s r zeroed l c = placed_ends r zeroed (search r.class s).state (search r.class s).answer (search_whole laws r.class s l c).ends
