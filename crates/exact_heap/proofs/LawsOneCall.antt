-- What a heap call counts.
use Rattle.std.proofs.Common.{◌≡◌, ℕ, zero, suc, ◌+◌, ◌*◌, refl, ap, ◌∙◌, Bool, true, false, cond, arith, nat_eq, nat_lt, min, List, [], ◌∷◌, ◌++◌, length, Option, Some, None, Result, Ok, Err, max}
use Rattle.std.proofs.lemmas.List.{length-append, length-map}
use Rattle.miniheap.specs.declared.place.Slot.{Slot}
use Rattle.miniheap.specs.Layout.{heap_limit}
use Rattle.miniheap.specs.Draws.{Pick, picked_by, address_of as drawn_address}
use Rattle.miniheap.specs.Slots.{is_free_state, must_grow, used_of, wanted_of, slot_at}
use Rattle.exact_heap.specs.declared.parts.Request.{Request}
use Rattle.exact_heap.specs.declared.signal.HeapRefusal.{HeapRefusal}
use Rattle.exact_heap.specs.History.{Object, slot_of, slots_of, clock_of, address_of}
use Rattle.exact_heap.specs.Owners.{Owner, owner_of, changed_from, changed_at}
use Rattle.exact_heap.specs.Placing.{HeapState, Rules, Outcome, request, no_room, grown, growth, break_in, signalled, with_draws, checked, drawn, turn, next_turn, search_from, search, enough, new_object, released_object, release_due, settled, place}
use Rattle.exact_heap.specs.Freeing.{slot_before, slot_after, signalled_if, neighbour_checked, before_checked, after_checked, neighbours_checked, freed_object, deferral_of, object_freed, owner_freed}
use Rattle.exact_heap.specs.Calls.{usual, is_alignment, memalign, called, answers, size_limit, allocate, malloc, calloc, freed_if, free, copied, moved, replaced, resized, realloc}
use Rattle.exact_heap.specs.Unowned.{IsOneCall, MallocIsOneCall, MemalignIsOneCall, CallocIsOneCall, FreeIsOneCall, ReallocIsOneCall}
use Rattle.exact_heap.proofs.Moves.{either}

-- what steps of a call keep: so many objects more, and nothing else that is counted
record Tallies (more : ℕ) (s r : HeapState) : Type 0 where
  calls : r.history.calls ≡ s.history.calls
  seed : r.history.seed ≡ s.history.seed
  ended : r.history.ended ≡ s.history.ended
  objects : length r.history.objects ≡ length s.history.objects + more

tallies_then : (s r q : HeapState) (n : ℕ) → Tallies n s r → Tallies 0 r q → Tallies n s q
tallies_then s r q n x y = record { calls = y.calls ∙ x.calls; seed = y.seed ∙ x.seed; ended = y.ended ∙ x.ended; objects = omega (arith, y.objects, x.objects) }

none_more : (s : HeapState) → Tallies 0 s s
none_more s = record { calls = refl; seed = refl; ended = refl; objects = omega arith }

-- ---- the search

tallies_grown : (class : ℕ) (s : HeapState) → Tallies 0 s (grown class s)
tallies_grown class s = record { calls = refl; seed = refl; ended = refl; objects = omega arith }

tallies_signalled : (slot broken : ℕ) (s r : HeapState) → Tallies 0 s r → Tallies 0 s (signalled slot broken r)
tallies_signalled slot broken s r x = record { calls = x.calls; seed = x.seed; ended = x.ended; objects = x.objects }

tallies_checked : (slot words : ℕ) (s : HeapState) (broken : Option ℕ) → Tallies 0 s (checked slot (with_draws words s) broken).state
tallies_checked slot words s None = record { calls = refl; seed = refl; ended = refl; objects = omega arith }
tallies_checked slot words s (Some b) = tallies_signalled slot b s (with_draws words s) (record { calls = refl; seed = refl; ended = refl; objects = omega arith })

tallies_drawn : (class : ℕ) (s : HeapState) (pick : Option Pick) → Tallies 0 s (drawn class s pick).state
tallies_drawn class s None = none_more s
tallies_drawn class s (Some pick) = tallies_checked (drawn_address (slots_of s.history) class pick.number) pick.draws s (break_in s (drawn_address (slots_of s.history) class pick.number) class)

tallies_turn : (class : ℕ) (s : HeapState) → Tallies 0 s (turn class s).state
unfolding turn
tallies_turn class s =
    either (λ t. Tallies 0 s t.state) (must_grow (slots_of s.history) class) (growth class s) (drawn class s (picked_by s.history.seed s.history.spent (slots_of s.history) class))
    (either (λ t. Tallies 0 s t.state) (nat_lt heap_limit (used_of (slots_of s.history) + wanted_of (slots_of s.history) class)) (record { state = s; answer = Err (no_room class s) }) (record { state = grown class s; answer = Ok None })
    (none_more s) (tallies_grown class s))
    (tallies_drawn class s (picked_by s.history.seed s.history.spent (slots_of s.history) class))

tallies_next : (again : HeapState → Outcome) (s r : HeapState) (answer : Result (Option ℕ) HeapRefusal) → Tallies 0 s r → Tallies 0 r (again r).state → Tallies 0 s (next_turn again r answer).state
tallies_next again s r (Ok None) x y = tallies_then s r (again r).state 0 x y
tallies_next again s r (Ok (Some slot)) x y = x
tallies_next again s r (Err refusal) x y = x

tallies_search : (n class : ℕ) (s : HeapState) → Tallies 0 s (search_from n class s).state
unfolding search_from
tallies_search zero class s = none_more s
tallies_search (suc n) class s = tallies_next (search_from n class) s (turn class s).state (turn class s).answer (tallies_turn class s) (tallies_search n class (turn class s).state)

-- ---- a step with one object more, or none

-- no object more, or one
data Adds (s r : HeapState) : Type 0 where
  None_more : Tallies 0 s r → Adds s r
  One_more : Tallies 1 s r → Adds s r

adds_then : (s r q : HeapState) → Adds s r → Tallies 0 r q → Adds s q
adds_then s r q (None_more x) y = None_more (tallies_then s r q 0 x y)
adds_then s r q (One_more x) y = One_more (tallies_then s r q 1 x y)

settled_adds : (r : Request) (zeroed : Bool) (before s : HeapState) (a : Result ℕ HeapRefusal) → Tallies 0 before s → Adds before (settled r zeroed s a).state
unfolding release_due
settled_adds r zeroed before s (Err refusal) x = None_more x
settled_adds r zeroed before s (Ok slot) x =
    let objects : List Object = s.history.objects ++ new_object r slot ∷ [] in
    One_more (record { calls = x.calls; seed = x.seed; ended = x.ended; objects = omega (arith, length-map objects (released_object (length objects)), length-append s.history.objects (new_object r slot ∷ []), x.objects) })

place_adds : (r : Request) (zeroed : Bool) (s : HeapState) → Adds s (place r zeroed s).state
unfolding place
place_adds r zeroed s = settled_adds r zeroed s (search r.class s).state (search r.class s).answer (tallies_search enough r.class s)

-- ---- the free of an object

tallies_neighbour : (s : HeapState) (o : Option Slot) → Tallies 0 s (neighbour_checked s o)
tallies_neighbour s None = none_more s
tallies_neighbour s (Some t) = at (is_free_state t.state) (break_in s t.addr t.class)
  where
    at : (b : Bool) (broken : Option ℕ) → Tallies 0 s (cond b (signalled_if t.addr s broken) s)
    at false broken = none_more s
    at true None = none_more s
    at true (Some broken) = tallies_signalled t.addr broken s s (none_more s)

tallies_neighbours : (slot : ℕ) (s : HeapState) → Tallies 0 s (neighbours_checked slot s)
unfolding neighbours_checked
tallies_neighbours slot s =
    let r : HeapState = before_checked slot s in
    tallies_then s r (after_checked slot r) 0 (tallies_neighbour s (slot_before (slots_of s.history) (slot_at (slots_of s.history) slot))) (tallies_neighbour r (slot_after (slots_of r.history) (slot_at (slots_of r.history) slot)))

changed_length : (f : Object → Object) (number from : ℕ) (os : List Object) → length (changed_from f number from os) ≡ length os
changed_length f number from [] = refl
changed_length f number from (o ∷ os) = at (nat_eq from number) (changed_length f number (from + 1) os)
  where
    at : (b : Bool) → length (changed_from f number (from + 1) os) ≡ length os → length (cond b (f o ∷ os) (o ∷ changed_from f number (from + 1) os)) ≡ suc (length os)
    at true h = refl
    at false h = ap suc h

pub changed_at_length : (f : Object → Object) (number : ℕ) (os : List Object) → length (changed_at f number os) ≡ length os
unfolding changed_at
changed_at_length f number os = changed_length f number 0 os

tallies_freed : (rules : Rules) (site : ℕ) (w : Owner) (s : HeapState) → Tallies 0 s (owner_freed rules site w s)
unfolding owner_freed
tallies_freed rules site w s =
    let r : HeapState = neighbours_checked (slot_of w.object) s in
    let deferral : ℕ = deferral_of rules w.object site in
    let same : length (changed_at (freed_object (clock_of r.history) deferral site) w.number r.history.objects) ≡ length r.history.objects = changed_at_length (freed_object (clock_of r.history) deferral site) w.number r.history.objects in
    tallies_then s r (object_freed deferral site w r) 0 (tallies_neighbours (slot_of w.object) s) (record { calls = refl; seed = refl; ended = refl; objects = omega (arith, same) })

-- ---- the calls

one_call : (s r : HeapState) → Adds (called s) r → IsOneCall s r
one_call s r (None_more x) = record { calls = x.calls; seed = x.seed; ended = x.ended; least = omega (arith, x.objects); most = omega (arith, x.objects) }
one_call s r (One_more x) = record { calls = x.calls; seed = x.seed; ended = x.ended; least = omega (arith, x.objects); most = omega (arith, x.objects) }

allocate_adds : (rules : Rules) (zeroed : Bool) (align size site : ℕ) (s : HeapState) → Adds s (allocate rules zeroed align size site s).state
allocate_adds rules zeroed align size site s = at (nat_lt size_limit size)
  where
    at : (b : Bool) → Adds s (cond b (answers 0 s) (place (request rules align size site) zeroed s)).state
    at true = None_more (none_more s)
    at false = place_adds (request rules align size site) zeroed s

pub malloc_is_one_call : MallocIsOneCall
unfolding malloc
malloc_is_one_call rules size site s = one_call s (allocate rules rules.zero usual size site (called s)).state (allocate_adds rules rules.zero usual size site (called s))

pub memalign_is_one_call : MemalignIsOneCall
unfolding memalign
memalign_is_one_call rules align size site s =
    one_call s (cond (is_alignment align) (allocate rules rules.zero (max align usual) size site (called s)) (answers 0 (called s))).state (at (is_alignment align))
  where
    at : (b : Bool) → Adds (called s) (cond b (allocate rules rules.zero (max align usual) size site (called s)) (answers 0 (called s))).state
    at true = allocate_adds rules rules.zero (max align usual) size site (called s)
    at false = None_more (none_more (called s))

pub calloc_is_one_call : CallocIsOneCall
unfolding calloc
calloc_is_one_call rules count each site s = one_call s (allocate rules true usual (count * each) site (called s)).state (allocate_adds rules true usual (count * each) site (called s))

pub free_is_one_call : FreeIsOneCall
unfolding free
free_is_one_call rules address site s = one_call s (freed_if rules site (owner_of s.history.objects address) (called s)) (None_more (at (owner_of s.history.objects address)))
  where
    at : (o : Option Owner) → Tallies 0 (called s) (freed_if rules site o (called s))
    at None = none_more (called s)
    at (Some w) = tallies_freed rules site w (called s)

moved_adds : (rules : Rules) (size site : ℕ) (w : Owner) (before s : HeapState) (a : Result ℕ HeapRefusal) → Adds before s → Adds before (moved rules size site w s a).state
moved_adds rules size site w before s (Err refusal) x = x
moved_adds rules size site w before s (Ok address) x =
    let r : HeapState = record s { memory = copied (address_of w.object) address (min w.object.size size) s.memory } in
    adds_then before s (owner_freed rules site w r) x (tallies_then s r (owner_freed rules site w r) 0 (record { calls = refl; seed = refl; ended = refl; objects = omega arith }) (tallies_freed rules site w r))

resized_adds : (rules : Rules) (size site : ℕ) (s : HeapState) (o : Option Owner) → Adds s (resized rules size site s o).state
resized_adds rules size site s None = None_more (none_more s)
resized_adds rules size site s (Some w) = at (nat_lt size_limit size)
  where
    at : (b : Bool) → Adds s (cond b (answers 0 s) (replaced rules size site w (place (request rules usual size site) rules.zero s))).state
    at true = None_more (none_more s)
    at false = let o : Outcome = place (request rules usual size site) rules.zero s in moved_adds rules size site w s o.state o.answer (place_adds (request rules usual size site) rules.zero s)

pub realloc_is_one_call : ReallocIsOneCall
unfolding realloc
realloc_is_one_call rules old size site s =
    one_call s (cond (nat_eq old 0) (allocate rules rules.zero usual size site (called s)) (resized rules size site (called s) (owner_of s.history.objects old))).state (at (nat_eq old 0))
  where
    at : (b : Bool) → Adds (called s) (cond b (allocate rules rules.zero usual size site (called s)) (resized rules size site (called s) (owner_of s.history.objects old))).state
    at true = allocate_adds rules rules.zero usual size site (called s)
    at false = resized_adds rules size site (called s) (owner_of s.history.objects old)
