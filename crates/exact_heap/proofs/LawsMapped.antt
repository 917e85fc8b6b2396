-- Heap calls keep what is mapped: what there is outside of the heap region, and the miniheaps in it.
use Rattle.std.proofs.Common.{◌≡◌, ℕ, zero, suc, ◌+◌, ◌-◌, ◌*◌, ◌/◌, ◌%◌, ◌^◌, ◌<◌, ◌≤◌, refl, ap, sym, ◌∙◌, subst, Bool, true, false, cond, ◌⊎◌, inl, inr, arith, nat_eq, nat_lt, min, List, [], ◌∷◌, length, get_or, Option, None, Some, Result, Ok, Err, is_some, max}
use Rattle.std.specs.Prelude.{unwrap_or}
use Rattle.std.specs.List.{AllByRecursion, list_any}
use Rattle.std.proofs.lemmas.Bool.{lt-ltb, ltb-false, and_parts}
use Rattle.std.proofs.lemmas.Bool.Decides.{nat_tests}
use Rattle.std.proofs.lemmas.Nat.{mod_below}
use Rattle.diefast_canary.specs.Canary.{canary_byte}
use Rattle.rv_memory.specs.Memory.{Memory, within, span, with_first}
use Rattle.miniheap.specs.declared.place.SlotState.TheVariants.{Free}
use Rattle.miniheap.specs.Laws.{SlotLaws}
use Rattle.miniheap.specs.Layout.{heap_from, heap_limit, minis, bytes_of}
use Rattle.miniheap.specs.Slots.{Slots, slot_at, used_of, wanted_of, end_of, IsSlotIn, IsFreeSlot}
use Rattle.miniheap.specs.Slots as slots
use Rattle.exact_heap.specs.declared.signal.HeapRefusal.{HeapRefusal}
use Rattle.exact_heap.specs.Calls.{usual, is_alignment, memalign, called, answers, size_limit, allocate, malloc, calloc, freed_if, free, copied, moved, replaced, resized, realloc}
use Rattle.exact_heap.specs.Freeing.{neighbours_checked, deferral_of, object_freed, owner_freed}
use Rattle.exact_heap.specs.declared.parts.Request.{Request}
use Rattle.exact_heap.specs.History.{Object, slot_of, slots_of, canary_in, clock_of, address_of}
use Rattle.exact_heap.specs.Lawful.{IsAlignment, places_of, IsPlaced, IsLawful}
use Rattle.exact_heap.specs.Laws.{IsClass, EndsWith}
use Rattle.exact_heap.specs.Mapped.{in_region, MapsTo, MapsMiniheaps, MallocKeepsMapped, MemalignKeepsMapped, CallocKeepsMapped, FreeKeepsMapped, ReallocKeepsMapped}
use Rattle.exact_heap.specs.Owners.{Owner, owner_of}
use Rattle.exact_heap.specs.Placing.{HeapState, Rules, Outcome, Turn, turn, request, grown, with_draws, signalled, no_room, search, search_from, enough, new_object, placed, is_due, is_in_due, release_due, settled, place}
use Rattle.exact_heap.proofs.Alignments.{usual_is, asked_is}
use Rattle.exact_heap.proofs.Homes.{InHeap, slot_in_heap, end_below}
use Rattle.exact_heap.proofs.LawsApart.{HasSlot, own_slot}
use Rattle.exact_heap.proofs.LawsCalls.{called_lawful, place_owner}
use Rattle.exact_heap.proofs.LawsFreed.{IsOwner, owner_found}
use Rattle.exact_heap.proofs.LawsKept.{lawful_grown, lawful_drawn, lawful_spoiled}
use Rattle.exact_heap.proofs.LawsNeighbours.{lawful_neighbours}
use Rattle.exact_heap.proofs.LawsPlaced.{placement_ends}
use Rattle.exact_heap.proofs.LawsPlacing.{or_either, request_fits, place_lawful}
use Rattle.exact_heap.proofs.LawsQuiet.{new_has_slot}
use Rattle.exact_heap.proofs.LawsSearch.{FindsWhole, search_whole}
use Rattle.exact_heap.proofs.LawsTurns.{TurnEnds, Grows, Lacks, Draws, turn_ends}
use Rattle.exact_heap.proofs.Neighbours.{neighbours_memory}
use Rattle.exact_heap.proofs.Objects.{each_at, each_push, each_weaker}
use Rattle.exact_heap.proofs.States.{search_goes_on, search_finds, search_fails}
use Rattle.exact_heap.proofs.Turns.{free_slot_in, free_slot_lies}

-- ---- tests

either_case : (b : Bool) (P : Bool → Type 0) → (b ≡ true → P true) → (b ≡ false → P false) → P b
either_case true P h k = h refl
either_case false P h k = k refl

clash : {t : Bool} → t ≡ true → t ≡ false → ⊥
clash a b = cc

pub within_bounds : (x n y : ℕ) → within x n y ≡ true → (x ≤ y) × (y < x + n)
within_bounds x n y e = (grind (arith, nat_tests), grind (arith, nat_tests))

-- ---- the heap region

pub region_true : (x : ℕ) → heap_from ≤ x → x < 2 ^ 31 → in_region x ≡ true
region_true x h k = grind (arith, nat_tests)

-- of a layout only the miniheaps' end tells what is mapped
same_top : (l k : ℕ) (p : Memory) (memory : Memory) → k ≡ l → MapsTo l p memory → MapsTo k p memory
same_top l k p memory e m = record {
  mapped = m.mapped;
  writable = m.writable;
  runs = m.runs;
  heap_mapped = λ x r. m.heap_mapped x r ∙ ap (nat_lt x) (sym e);
  heap_writable = λ x r. m.heap_writable x r ∙ ap (nat_lt x) (sym e);
  heap_runs = m.heap_runs;
  bounded = m.bounded;
}

same_maps : (p : Memory) (s r : HeapState) → r.history.classes ≡ s.history.classes → r.memory ≡ s.memory → MapsMiniheaps p s → MapsMiniheaps p r
same_maps p s r e f m =
    same_top (end_of (slots_of s.history)) (end_of (slots_of r.history)) p r.memory (ap (λ (cs : List ℕ). heap_from + bytes_of (minis cs)) e)
    (subst (λ (memory : Memory). MapsTo (end_of (slots_of s.history)) p memory) (sym f) m)

-- bytes change where there are some
painted : (l : ℕ) (p : Memory) (memory : Memory) (test : ℕ → Bool) (byte : ℕ → ℕ) → ((a : ℕ) → test a ≡ true → is_some (memory.bytes a) ≡ true) → ((a : ℕ) → test a ≡ true → byte a < 256) → MapsTo l p memory
    → MapsTo l p (record memory { bytes = λ a. cond (test a) (Some (byte a)) (memory.bytes a) })
painted l p memory test byte there fits m = record {
  mapped = λ x r. same x ∙ m.mapped x r;
  writable = m.writable;
  runs = m.runs;
  heap_mapped = λ x r. same x ∙ m.heap_mapped x r;
  heap_writable = m.heap_writable;
  heap_runs = m.heap_runs;
  bounded = record {
    small = small;
    low = λ x e. m.bounded.low x (sym (same x) ∙ e);
    writable_mapped = λ x e. same x ∙ m.bounded.writable_mapped x e;
    runs_mapped = λ x e. same x ∙ m.bounded.runs_mapped x e;
  };
}
  where
    same : (x : ℕ) → is_some (cond (test x) (Some (byte x)) (memory.bytes x)) ≡ is_some (memory.bytes x)
    same x = either_case (test x) (λ t. is_some (cond t (Some (byte x)) (memory.bytes x)) ≡ is_some (memory.bytes x)) (λ e. sym (there x e)) (λ e. refl)

    small : (x b : ℕ) → cond (test x) (Some (byte x)) (memory.bytes x) ≡ Some b → b < 256
    small x b = either_case (test x) (λ t. cond t (Some (byte x)) (memory.bytes x) ≡ Some b → b < 256)
        (λ e q. let k : byte x ≡ b = cc in subst (λ (n : ℕ). n < 256) k (fits x e))
        (λ e q. m.bounded.small x b q)

-- the miniheaps are mapped
miniheaps_there : (p : Memory) (s : HeapState) → end_of (slots_of s.history) ≤ 0x7fe00000 → MapsMiniheaps p s → (a : ℕ) → heap_from ≤ a → a < end_of (slots_of s.history) → is_some (s.memory.bytes a) ≡ true
miniheaps_there p s top m a lo hi = m.heap_mapped a (region_true a lo (omega (arith, hi, top))) ∙ lt-ltb a (end_of (slots_of s.history)) hi

canary_fits : (word a : ℕ) → canary_byte word a < 256
canary_fits word a = mod_below (word / 256 ^ (a % 4)) 256 (omega arith)

-- ---- growth

grown_maps : SlotLaws → (p : Memory) (c : ℕ) (s : HeapState) → IsLawful s.history → used_of (slots_of s.history) + wanted_of (slots_of s.history) c ≤ heap_limit → MapsMiniheaps p s → MapsMiniheaps p (grown c s)
grown_maps laws p c s l room m = record {
  mapped = λ x r. outside x r (λ b. is_some (cond b (Some (byte x)) (s.memory.bytes x)) ≡ is_some (p.bytes x)) (m.mapped x r);
  writable = λ x r. outside x r (λ b. cond b true (s.memory.writable x) ≡ p.writable x) (m.writable x r);
  runs = λ x r. outside x r (λ b. cond b false (s.memory.runs x) ≡ p.runs x) (m.runs x r);
  heap_mapped = λ x r. further x (λ b. is_some (cond b (Some (byte x)) (s.memory.bytes x))) refl (m.heap_mapped x r);
  heap_writable = λ x r. further x (λ b. cond b true (s.memory.writable x)) refl (m.heap_writable x r);
  heap_runs = λ x r. either_case (here x) (λ b. cond b false (s.memory.runs x) ≡ false) (λ e. refl) (λ e. m.heap_runs x r);
  bounded = record {
    small = λ x b. either_case (here x) (λ t. cond t (Some (byte x)) (s.memory.bytes x) ≡ Some b → b < 256)
        (λ e q. let k : byte x ≡ b = cc in subst (λ (n : ℕ). n < 256) k (canary_fits (canary_in s.history) x))
        (λ e q. m.bounded.small x b q);
    low = λ x. either_case (here x) (λ t. is_some (cond t (Some (byte x)) (s.memory.bytes x)) ≡ true → x < 2 ^ 32)
        (λ e q. omega (arith, (within_bounds (end_of g) (wanted_of g c) x e).1, room))
        (λ e q. m.bounded.low x q);
    writable_mapped = λ x. either_case (here x) (λ t. cond t true (s.memory.writable x) ≡ true → is_some (cond t (Some (byte x)) (s.memory.bytes x)) ≡ true) (λ e q. refl) (λ e q. m.bounded.writable_mapped x q);
    runs_mapped = λ x. either_case (here x) (λ t. cond t false (s.memory.runs x) ≡ true → is_some (cond t (Some (byte x)) (s.memory.bytes x)) ≡ true) (λ e q. refl) (λ e q. m.bounded.runs_mapped x q);
  };
}
  where
    g : Slots
    g = slots_of s.history

    byte : ℕ → ℕ
    byte x = canary_byte (canary_in s.history) x

    here : ℕ → Bool
    here x = within (end_of g) (wanted_of g c) x

    ends : end_of (slots.grown g c) ≡ end_of g + wanted_of g c
    ends = omega (arith, (laws.growing g c l.in_order).used)

    outside : (x : ℕ) → in_region x ≡ false → (P : Bool → Type 0) → P false → P (here x)
    outside x r P k = either_case (here x) P
        (λ e. let w = within_bounds (end_of g) (wanted_of g c) x e in absurd (clash (region_true x (omega (arith, w.0)) (omega (arith, w.1, room))) r))
        (λ e. k)

    beside : (x : ℕ) → here x ≡ false → nat_lt x (end_of g) ≡ nat_lt x (end_of (slots.grown g c))
    beside x e = grind (arith, nat_tests, ends, e)

    further : (x : ℕ) (f : Bool → Bool) → f true ≡ true → f false ≡ nat_lt x (end_of g) → f (here x) ≡ nat_lt x (end_of (slots.grown g c))
    further x f one other = either_case (here x) (λ b. f b ≡ nat_lt x (end_of (slots.grown g c)))
        (λ e. one ∙ sym (lt-ltb x (end_of (slots.grown g c)) (omega (arith, (within_bounds (end_of g) (wanted_of g c) x e).1, ends))))
        (λ e. other ∙ beside x e)

-- ---- the search

search_maps : SlotLaws → (p : Memory) (n class : ℕ) (s : HeapState) → IsLawful s.history → IsClass class → MapsMiniheaps p s → MapsMiniheaps p (search_from n class s).state
unfolding search_from
search_maps laws p zero class s l c m = m
search_maps laws p (suc n) class s l c m = at (turn_ends laws class s) (search_maps laws p n class)
  where
    goes_to : (o : Outcome) → search_from (suc n) class s ≡ o → MapsMiniheaps p o.state → MapsMiniheaps p (search_from (suc n) class s).state
    goes_to o e k = subst (λ (x : Outcome). MapsMiniheaps p x.state) (sym e) k

    ended : (r : HeapState) → (turn class s).state ≡ r → MapsMiniheaps p r → MapsMiniheaps p (turn class s).state
    ended r e k = subst (λ (x : HeapState). MapsMiniheaps p x) (sym e) k

    at : TurnEnds class s → ((r : HeapState) → IsLawful r.history → IsClass class → MapsMiniheaps p r → MapsMiniheaps p (search_from n class r).state) → MapsMiniheaps p (search_from (suc n) class s).state
    at (Grows g room e) again =
        goes_to (search_from n class (grown class s)) (search_goes_on n class s (ap (λ (t : Turn). t.answer) e) ∙ ap (λ (t : Turn). search_from n class t.state) e)
        (again (grown class s) (lawful_grown laws class s l c.0 c.1 room) c (grown_maps laws p class s l room m))
    at (Lacks g room e) again =
        goes_to (record { state = (turn class s).state; answer = Err (no_room class s) }) (search_fails n class s (no_room class s) (ap (λ (t : Turn). t.answer) e)) (ended s (ap (λ (t : Turn). t.state) e) m)
    at (Draws g slot words free None b e) again =
        goes_to (record { state = (turn class s).state; answer = Ok slot }) (search_finds n class s slot (ap (λ (t : Turn). t.answer) e))
        (ended (with_draws words s) (ap (λ (t : Turn). t.state) e) (same_maps p s (with_draws words s) refl refl m))
    at (Draws g slot words free (Some broken) b e) again =
        let r : HeapState = signalled slot broken (with_draws words s) in
        let here : IsSlotIn (slots_of s.history) slot Free = free_slot_in (slots_of s.history) class slot free in
        goes_to (search_from n class r) (search_goes_on n class s (ap (λ (t : Turn). t.answer) e) ∙ ap (λ (t : Turn). search_from n class t.state) e)
        (again r (lawful_spoiled slot broken (with_draws words s) (lawful_drawn words s l) here) c (same_maps p s r refl refl m))

-- ---- placement

placed_maps : SlotLaws → (p : Memory) (rules : Rules) (align size site : ℕ) (zeroed : Bool) (slot : ℕ) (s : HeapState) → IsLawful s.history → IsFreeSlot (slots_of s.history) (request rules align size site).class slot → MapsMiniheaps p s → MapsMiniheaps p (placed (request rules align size site) zeroed slot s)
placed_maps laws p rules align size site false slot s l free m = same_maps p s (placed (request rules align size site) false slot s) refl refl m
placed_maps laws p rules align size site true slot s l free m =
    let class : ℕ = (request rules align size site).class in
    let to : HeapState = placed (request rules align size site) true slot s in
    let i = free_slot_lies laws (slots_of s.history) class slot free in
    same_top (end_of (slots_of s.history)) (end_of (slots_of to.history)) p to.memory refl
    (painted (end_of (slots_of s.history)) p s.memory (within slot (2 ^ class)) (λ a. 0)
    (λ a e. let w = within_bounds slot (2 ^ class) a e in miniheaps_there p s (end_below (slots_of s.history) l.in_order) m a (omega (arith, w.0, i.low)) (omega (arith, w.1, i.high)))
    (λ a e. omega arith) m)

pub own_lies : SlotLaws → (classes : List ℕ) (o : Object) → HasSlot classes o → InHeap (places_of classes) (slot_of o) (2 ^ o.class)
own_lies laws classes o k =
    let v = own_slot classes o k in
    let w = laws.within (places_of classes) (slot_of o) v.slot v.found in
    record { low = omega (arith, w.0, v.addr); high = omega (arith, w.1, v.addr, ap (λ (c : ℕ). 2 ^ c) v.class) }

pub due_lies : SlotLaws → (classes : List ℕ) (clock a : ℕ) (os : List Object) → AllByRecursion (HasSlot classes) os → list_any (is_in_due clock a) os ≡ true → InHeap (places_of classes) a 1
due_lies laws classes clock a [] h e = absurd (cc)
due_lies laws classes clock a (o ∷ os) h e = at (or_either (is_in_due clock a o) (list_any (is_in_due clock a) os) e) (due_lies laws classes clock a os h.1)
  where
    at : (is_in_due clock a o ≡ true) ⊎ (list_any (is_in_due clock a) os ≡ true) → (list_any (is_in_due clock a) os ≡ true → InHeap (places_of classes) a 1) → InHeap (places_of classes) a 1
    at (inl k) again =
        let w = within_bounds (slot_of o) (2 ^ o.class) a (and_parts (is_due clock o.state) (within (slot_of o) (2 ^ o.class) a) k).1 in
        let i = own_lies laws classes o h.0 in
        record { low = omega (arith, w.0, i.low); high = omega (arith, w.1, i.high) }
    at (inr k) again = again k

released_maps : SlotLaws → (p : Memory) (s : HeapState) → end_of (slots_of s.history) ≤ 0x7fe00000 → AllByRecursion (HasSlot s.history.classes) s.history.objects → MapsMiniheaps p s → MapsMiniheaps p (release_due s)
unfolding release_due
released_maps laws p s top have m =
    same_top (end_of (slots_of s.history)) (end_of (slots_of (release_due s).history)) p (release_due s).memory refl
    (painted (end_of (slots_of s.history)) p s.memory (λ a. list_any (is_in_due (clock_of s.history) a) s.history.objects) (canary_byte (canary_in s.history))
    (λ a e. let i = due_lies laws s.history.classes (clock_of s.history) a s.history.objects have e in miniheaps_there p s top m a i.low (omega (arith, i.high)))
    (λ a e. canary_fits (canary_in s.history) a) m)

settled_maps : SlotLaws → (p : Memory) (rules : Rules) (align size site : ℕ) (zeroed : Bool) (s : HeapState) (a : Result ℕ HeapRefusal) → IsLawful s.history → FindsWhole (request rules align size site).class s a → MapsMiniheaps p s
    → MapsMiniheaps p (settled (request rules align size site) zeroed s a).state
settled_maps laws p rules align size site zeroed s (Err refusal) l k m = m
settled_maps laws p rules align size site zeroed s (Ok slot) l k m =
    released_maps laws p (placed (request rules align size site) zeroed slot s) (end_below (slots_of s.history) l.in_order)
    (each_push (HasSlot s.history.classes) s.history.objects (new_object (request rules align size site) slot) (each_weaker (IsPlaced s.history.classes) (HasSlot s.history.classes) (λ o k. k.slot) s.history.objects l.placed)
    (new_has_slot s (request rules align size site) slot k.free))
    (placed_maps laws p rules align size site zeroed slot s l k.free m)

place_maps : SlotLaws → (p : Memory) (rules : Rules) (align size site : ℕ) (zeroed : Bool) (s : HeapState) → IsLawful s.history → IsClass (request rules align size site).class → MapsMiniheaps p s → MapsMiniheaps p (place (request rules align size site) zeroed s).state
unfolding place
place_maps laws p rules align size site zeroed s l c m =
    let class : ℕ = (request rules align size site).class in
    let e = search_whole laws class s l c in
    settled_maps laws p rules align size site zeroed (search class s).state (search class s).answer e.lawful e.ends (search_maps laws p enough class s l c m)

allocate_maps : SlotLaws → (p : Memory) (rules : Rules) (zeroed : Bool) (align size site : ℕ) → IsAlignment align → (s : HeapState) → IsLawful s.history → MapsMiniheaps p s → MapsMiniheaps p (allocate rules zeroed align size site s).state
allocate_maps laws p rules zeroed align size site ok s l m = at (nat_lt size_limit size) refl
  where
    at : (b : Bool) → nat_lt size_limit size ≡ b → MapsMiniheaps p (cond b (answers 0 s) (place (request rules align size site) zeroed s)).state
    at true e = m
    at false e = place_maps laws p rules align size site zeroed s l (request_fits rules align size site ok (ltb-false size_limit size e)).class m

-- ---- free

freed_maps : SlotLaws → (p : Memory) (deferral site : ℕ) (w : Owner) (s : HeapState) → IsLawful s.history → HasSlot s.history.classes w.object → MapsMiniheaps p s → MapsMiniheaps p (object_freed deferral site w s)
freed_maps laws p deferral site w s l has m = at (nat_eq deferral 0)
  where
    byte : ℕ → ℕ
    byte = canary_byte (canary_in s.history)

    at : (b : Bool) → MapsTo (end_of (slots_of (object_freed deferral site w s).history)) p (cond b (record s.memory { bytes = λ a. cond (within (slot_of w.object) (2 ^ w.object.class) a) (Some (byte a)) (s.memory.bytes a) }) s.memory)
    at false = same_top (end_of (slots_of s.history)) (end_of (slots_of (object_freed deferral site w s).history)) p s.memory refl m
    at true =
        let i = own_lies laws s.history.classes w.object has in
        same_top (end_of (slots_of s.history)) (end_of (slots_of (object_freed deferral site w s).history)) p _ refl
        (painted (end_of (slots_of s.history)) p s.memory (within (slot_of w.object) (2 ^ w.object.class)) byte
        (λ a e. let u = within_bounds (slot_of w.object) (2 ^ w.object.class) a e in miniheaps_there p s (end_below (slots_of s.history) l.in_order) m a (omega (arith, u.0, i.low)) (omega (arith, u.1, i.high)))
        (λ a e. canary_fits (canary_in s.history) a) m)

owner_freed_maps : SlotLaws → (p : Memory) (rules : Rules) (site : ℕ) (w : Owner) (s : HeapState) → IsOwner s.history.objects w → IsLawful s.history → MapsMiniheaps p s → MapsMiniheaps p (owner_freed rules site w s)
unfolding owner_freed
owner_freed_maps laws p rules site w s k l m =
    let r : HeapState = neighbours_checked (slot_of w.object) s in
    let c = lawful_neighbours laws (slot_of w.object) s l in
    let own : IsOwner r.history.objects w = subst (λ (os : List Object). IsOwner os w) (sym c.objects) k in
    let has : HasSlot r.history.classes w.object = (each_at (IsPlaced r.history.classes) own.first w.object own.last (subst (λ (os : List Object). AllByRecursion (IsPlaced r.history.classes) os) own.parts c.lawful.placed)).slot in
    freed_maps laws p (deferral_of rules w.object site) site w r c.lawful has (same_maps p s r c.classes (neighbours_memory (slot_of w.object) s) m)

-- ---- the copy of an object

more_bytes : (here : Option ℕ) (others : Option (List ℕ)) (len : ℕ) → length (unwrap_or others []) ≤ len → length (unwrap_or (with_first here others) []) ≤ suc len
more_bytes None others len h = omega arith
more_bytes (Some x) None len h = omega arith
more_bytes (Some x) (Some xs) len h = omega (arith, h)

few_bytes : (bytes : ℕ → Option ℕ) (from len : ℕ) → length (unwrap_or (span bytes from len) []) ≤ len
few_bytes bytes from zero = omega arith
few_bytes bytes from (suc len) = more_bytes (bytes from) (span bytes (from + 1) len) len (few_bytes bytes (from + 1) len)

small_or_none : (here : Option ℕ) → ((b : ℕ) → here ≡ Some b → b < 256) → (others : Option (List ℕ)) → ((k : ℕ) → get_or (unwrap_or others []) k 0 < 256) → (k : ℕ) → get_or (unwrap_or (with_first here others) []) k 0 < 256
small_or_none None h others t k = omega arith
small_or_none (Some x) h None t k = omega arith
small_or_none (Some x) h (Some xs) t zero = h x refl
small_or_none (Some x) h (Some xs) t (suc k) = t k

small_bytes : (bytes : ℕ → Option ℕ) → ((a b : ℕ) → bytes a ≡ Some b → b < 256) → (from len k : ℕ) → get_or (unwrap_or (span bytes from len) []) k 0 < 256
small_bytes bytes h from zero k = omega arith
small_bytes bytes h from (suc len) k = small_or_none (bytes from) (h from) (span bytes (from + 1) len) (small_bytes bytes h (from + 1) len) k

copied_maps : (p : Memory) (from to len : ℕ) (s : HeapState) → IsLawful s.history → heap_from ≤ to → to + len ≤ end_of (slots_of s.history) → MapsMiniheaps p s → MapsMiniheaps p (record s { memory = copied from to len s.memory })
copied_maps p from to len s l low high m =
    painted (end_of (slots_of s.history)) p s.memory (within to (length bytes)) (λ a. get_or bytes (a - to) 0)
    (λ a e. let w = within_bounds to (length bytes) a e in miniheaps_there p s (end_below (slots_of s.history) l.in_order) m a (omega (arith, w.0, low)) (omega (arith, w.1, few_bytes s.memory.bytes from len, high)))
    (λ a e. small_bytes s.memory.bytes m.bounded.small from len (a - to)) m
  where
    bytes : List ℕ
    bytes = unwrap_or (span s.memory.bytes from len) []

-- a placed object lies in the miniheaps
placed_lies : SlotLaws → (r : Request) (a : ℕ) (s : HeapState) (k : EndsWith r s (Ok a)) → InHeap (slots_of s.history) k.slot.addr (2 ^ r.class)
placed_lies laws r a s k =
    let i = slot_in_heap laws (slots_of s.history) k.slot.addr k.slot k.found in
    record { low = i.low; high = omega (arith, i.high, ap (λ (c : ℕ). 2 ^ c) k.class) }

moved_maps : SlotLaws → (p : Memory) (rules : Rules) (size site : ℕ) (asked : Request) (w : Owner) (s : HeapState) (a : Result ℕ HeapRefusal) → asked.front + size ≤ 2 ^ asked.class → IsOwner s.history.objects w → IsLawful s.history → EndsWith asked s a → MapsMiniheaps p s
    → MapsMiniheaps p (moved rules size site w s a).state
moved_maps laws p rules size site asked w s (Err refusal) fits k l e m = m
moved_maps laws p rules size site asked w s (Ok address) fits k l e m =
    let i = placed_lies laws asked address s e in
    owner_freed_maps laws p rules site w (record s { memory = copied (address_of w.object) address (min w.object.size size) s.memory }) k l
    (copied_maps p (address_of w.object) address (min w.object.size size) s l (omega (arith, i.low, e.behind)) (omega (arith, i.high, e.behind, fits)) m)

resized_maps : SlotLaws → (p : Memory) (rules : Rules) (size site : ℕ) (s : HeapState) (o : Option Owner) → ((w : Owner) → o ≡ Some w → IsOwner s.history.objects w) → IsLawful s.history → MapsMiniheaps p s → MapsMiniheaps p (resized rules size site s o).state
resized_maps laws p rules size site s None k l m = m
resized_maps laws p rules size site s (Some v) k l m = at (nat_lt size_limit size) refl
  where
    at : (b : Bool) → nat_lt size_limit size ≡ b → MapsMiniheaps p (cond b (answers 0 s) (replaced rules size site v (place (request rules usual size site) rules.zero s))).state
    at true e = m
    at false e =
        let fit = request_fits rules usual size site usual_is (ltb-false size_limit size e) in
        let o : Outcome = place (request rules usual size site) rules.zero s in
        moved_maps laws p rules size site (request rules usual size site) v o.state o.answer (omega (arith, fit.room.fits)) (place_owner laws (request rules usual size site) rules.zero s v fit.class l (k v refl))
        (place_lawful laws (request rules usual size site) rules.zero s fit l) (placement_ends laws s (request rules usual size site) rules.zero l fit.class) (place_maps laws p rules usual size site rules.zero s l fit.class m)

-- ---- the calls

called_maps : (p : Memory) (s : HeapState) → MapsMiniheaps p s → MapsMiniheaps p (called s)
called_maps p s m = same_maps p s (called s) refl refl m

pub malloc_keeps_mapped : SlotLaws → MallocKeepsMapped
unfolding malloc
malloc_keeps_mapped laws rules size site p s l m = allocate_maps laws p rules rules.zero usual size site usual_is (called s) (called_lawful s l) (called_maps p s m)

pub memalign_keeps_mapped : SlotLaws → MemalignKeepsMapped
unfolding memalign
memalign_keeps_mapped laws rules align size site p s l m = at (is_alignment align) refl
  where
    at : (b : Bool) → is_alignment align ≡ b → MapsMiniheaps p (cond b (allocate rules rules.zero (max align usual) size site (called s)) (answers 0 (called s))).state
    at true e = allocate_maps laws p rules rules.zero (max align usual) size site (asked_is align e) (called s) (called_lawful s l) (called_maps p s m)
    at false e = called_maps p s m

pub calloc_keeps_mapped : SlotLaws → CallocKeepsMapped
unfolding calloc
calloc_keeps_mapped laws rules count each site p s l m = allocate_maps laws p rules true usual (count * each) site usual_is (called s) (called_lawful s l) (called_maps p s m)

pub free_keeps_mapped : SlotLaws → FreeKeepsMapped
unfolding free
free_keeps_mapped laws rules address site p s l m = at (owner_of s.history.objects address) refl
  where
    at : (o : Option Owner) → owner_of s.history.objects address ≡ o → MapsMiniheaps p (freed_if rules site o (called s))
    at None e = called_maps p s m
    at (Some w) e = owner_freed_maps laws p rules site w (called s) (owner_found s.history.objects address w e) (called_lawful s l) (called_maps p s m)

pub realloc_keeps_mapped : SlotLaws → ReallocKeepsMapped
unfolding realloc
realloc_keeps_mapped laws rules old size site p s l m = at (nat_eq old 0)
  where
    at : (b : Bool) → MapsMiniheaps p (cond b (allocate rules rules.zero usual size site (called s)) (resized rules size site (called s) (owner_of s.history.objects old))).state
    at true = allocate_maps laws p rules rules.zero usual size site usual_is (called s) (called_lawful s l) (called_maps p s m)
    at false = resized_maps laws p rules size site (called s) (owner_of s.history.objects old) (λ w e. owner_found s.history.objects old w e) (called_lawful s l) (called_maps p s m)
