-- What the search for a slot ends with, over the history alone.
use Rattle.std.proofs.Common.{◌≡◌, ℕ, zero, suc, ◌+◌, ◌^◌, ◌<◌, refl, ap, sym, ◌∙◌, subst, true, arith, Some, None, Result, Ok, Err}
use Rattle.miniheap.specs.Layout.{heap_limit}
use Rattle.miniheap.specs.declared.place.SlotState.TheVariants.{Free}
use Rattle.miniheap.specs.Slots.{must_grow, used_of, wanted_of, IsSlotIn, IsFreeSlot}
use Rattle.exact_heap.proofs.SlotStates.{not_held, not_bad}
use Rattle.exact_heap.specs.declared.signal.HeapRefusal.{HeapRefusal}
use Rattle.exact_heap.specs.declared.signal.HeapRefusal.TheVariants.{Room, Memory as NoMemory}
use Rattle.exact_heap.specs.History.{slots_of, canary_in}
use Rattle.exact_heap.specs.Placing.{HeapState, Outcome, Turn, turn, with_draws, break_in, grown, signalled, no_room, search, search_from, room_left, enough}
use Rattle.exact_heap.specs.Lawful.{IsLawful}
use Rattle.exact_heap.specs.Laws.{IsClass, IsWhole, LacksRoom, TurnsAreEnough}
use Rattle.miniheap.specs.Laws.{SlotLaws}
use Rattle.exact_heap.proofs.SlotPlaces.{slot_in_is}
use Rattle.exact_heap.proofs.States.{search_goes_on, search_finds, search_fails, room_grown, room_spoiled, room_below}
use Rattle.exact_heap.proofs.Turns.{free_slot_in}
use Rattle.exact_heap.proofs.LawsTurns.{TurnEnds, Grows, Lacks, Draws, turn_ends, intact_of}
use Rattle.exact_heap.proofs.LawsKept.{lawful_grown, lawful_drawn, lawful_spoiled}

-- a whole slot was found, or the class must grow and has no room
abbrev pub FindsWhole : (class : ℕ) → HeapState → Result ℕ HeapRefusal → Type 0
FindsWhole class s (Ok slot) = IsWhole s class slot
FindsWhole class s (Err (Room used wanted)) = LacksRoom class s used wanted
FindsWhole class s (Err NoMemory) = ⊥

pub record SearchEnds (class : ℕ) (s : HeapState) (o : Outcome) : Type 0 where
  pub lawful : IsLawful o.state.history
  pub objects : o.state.history.objects ≡ s.history.objects
  pub ends : FindsWhole class o.state o.answer

-- a state of which the objects are those of another
from_later : (class : ℕ) (s r : HeapState) (o : Outcome) → r.history.objects ≡ s.history.objects → SearchEnds class r o → SearchEnds class s o
from_later class s r o e k = record { lawful = k.lawful; objects = k.objects ∙ e; ends = k.ends }

whole_slot : (class slot : ℕ) (s : HeapState) → IsFreeSlot (slots_of s.history) class slot → break_in s slot class ≡ None → IsWhole s class slot
whole_slot class slot s free e =
    let f = slot_in_is (slots_of s.history) slot Free (free_slot_in (slots_of s.history) class slot free) in
    record {
      free = free;
      unheld = not_held (slots_of s.history) slot f.1;
      good = not_bad (slots_of s.history) slot f.1;
      intact = intact_of s.memory (canary_in s.history) slot (2 ^ class) e;
    }

pub search_ends : SlotLaws → (n class : ℕ) (s : HeapState) → IsLawful s.history → IsClass class → room_left class (slots_of s.history) < n → SearchEnds class s (search_from n class s)
search_ends laws zero class s l c few = absurd (omega arith)
search_ends laws (suc n) class s l c few = at (turn_ends laws class s) (search_ends laws n class)
  where
    goes_on : (r : HeapState) → turn class s ≡ record { state = r; answer = Ok None } → r.history.objects ≡ s.history.objects → SearchEnds class r (search_from n class r) → SearchEnds class s (search_from (suc n) class s)
    goes_on r e same k =
        let f : search_from (suc n) class s ≡ search_from n class r = search_goes_on n class s (ap (λ (t : Turn). t.answer) e) ∙ ap (λ (t : Turn). search_from n class t.state) e in
        subst (SearchEnds class s) (sym f) (from_later class s r (search_from n class r) same k)

    found : (slot words : ℕ) → IsFreeSlot (slots_of s.history) class slot → break_in s slot class ≡ None → turn class s ≡ record { state = with_draws words s; answer = Ok (Some slot) } → SearchEnds class s (search_from (suc n) class s)
    found slot words free e f =
        let g : search_from (suc n) class s ≡ record { state = with_draws words s; answer = Ok slot } = search_finds n class s slot (ap (λ (t : Turn). t.answer) f) ∙ ap (λ (t : Turn). record { state = t.state; answer = Ok slot }) f in
        subst (SearchEnds class s) (sym g) (record { lawful = lawful_drawn words s l; objects = refl; ends = whole_slot class slot (with_draws words s) free e })

    lacks : must_grow (slots_of s.history) class ≡ true → heap_limit < used_of (slots_of s.history) + wanted_of (slots_of s.history) class → turn class s ≡ record { state = s; answer = Err (no_room class s) } → SearchEnds class s (search_from (suc n) class s)
    lacks g r e =
        let f : search_from (suc n) class s ≡ record { state = s; answer = Err (no_room class s) } = search_fails n class s (no_room class s) (ap (λ (t : Turn). t.answer) e) ∙ ap (λ (t : Turn). record { state = t.state; answer = Err (no_room class s) }) e in
        subst (SearchEnds class s) (sym f) (record { lawful = l; objects = refl; ends = record { grows = g; used_is = refl; wanted_is = refl; full = r } })

    at : TurnEnds class s → ((r : HeapState) → IsLawful r.history → IsClass class → room_left class (slots_of r.history) < n → SearchEnds class r (search_from n class r)) → SearchEnds class s (search_from (suc n) class s)
    at (Grows g room e) again =
        goes_on (grown class s) e refl (again (grown class s) (lawful_grown laws class s l c.0 c.1 room) c (omega (arith, few, room_grown laws (slots_of s.history) class l.in_order c.0 room)))
    at (Lacks g room e) again = lacks g room e
    at (Draws g slot words free None b e) again = found slot words free b e
    at (Draws g slot words free (Some broken) b e) again =
        let here : IsSlotIn (slots_of s.history) slot Free = free_slot_in (slots_of s.history) class slot free in
        goes_on (signalled slot broken (with_draws words s)) e refl
        (again (signalled slot broken (with_draws words s)) (lawful_spoiled slot broken (with_draws words s) (lawful_drawn words s l) here) c (omega (arith, few, room_spoiled laws (slots_of s.history) class slot free here)))

pub search_whole : SlotLaws → (class : ℕ) (s : HeapState) → IsLawful s.history → IsClass class → SearchEnds class s (search class s)
search_whole laws class s l c = search_ends laws enough class s l c (room_below laws (slots_of s.history) class l.in_order)

-- ---- turns that aren't needed

same_end : SlotLaws → (n m class : ℕ) (s : HeapState) → IsLawful s.history → IsClass class → room_left class (slots_of s.history) < n → room_left class (slots_of s.history) < m → search_from n class s ≡ search_from m class s
same_end laws zero m class s l c few fewer = absurd (omega arith)
same_end laws (suc n) zero class s l c few fewer = absurd (omega arith)
same_end laws (suc n) (suc m) class s l c few fewer = at (turn_ends laws class s) (same_end laws n m class)
  where
    -- a search that goes on from a state
    goes_on : (k : ℕ) (r : HeapState) → turn class s ≡ record { state = r; answer = Ok None } → search_from (suc k) class s ≡ search_from k class r
    goes_on k r e = search_goes_on k class s (ap (λ (t : Turn). t.answer) e) ∙ ap (λ (t : Turn). search_from k class t.state) e

    at : TurnEnds class s → ((r : HeapState) → IsLawful r.history → IsClass class → room_left class (slots_of r.history) < n → room_left class (slots_of r.history) < m → search_from n class r ≡ search_from m class r)
        → search_from (suc n) class s ≡ search_from (suc m) class s
    at (Grows g room e) again =
        let nearer = room_grown laws (slots_of s.history) class l.in_order c.0 room in
        goes_on n (grown class s) e ∙ again (grown class s) (lawful_grown laws class s l c.0 c.1 room) c (omega (arith, few, nearer)) (omega (arith, fewer, nearer)) ∙ sym (goes_on m (grown class s) e)
    at (Lacks g room e) again =
        let f : (turn class s).answer ≡ Err (no_room class s) = ap (λ (t : Turn). t.answer) e in
        search_fails n class s (no_room class s) f ∙ sym (search_fails m class s (no_room class s) f)
    at (Draws g slot words free None b e) again =
        let f : (turn class s).answer ≡ Ok (Some slot) = ap (λ (t : Turn). t.answer) e in
        search_finds n class s slot f ∙ sym (search_finds m class s slot f)
    at (Draws g slot words free (Some broken) b e) again =
        let r : HeapState = signalled slot broken (with_draws words s) in
        let here : IsSlotIn (slots_of s.history) slot Free = free_slot_in (slots_of s.history) class slot free in
        let nearer = room_spoiled laws (slots_of s.history) class slot free here in
        goes_on n r e ∙ again r (lawful_spoiled slot broken (with_draws words s) (lawful_drawn words s l) here) c (omega (arith, few, nearer)) (omega (arith, fewer, nearer)) ∙ sym (goes_on m r e)

pub turns_are_enough : SlotLaws → TurnsAreEnough
turns_are_enough laws s class turns l c few = same_end laws turns enough class s l c few (room_below laws (slots_of s.history) class l.in_order)
