-- The bytes of a new object's whole slot.
use Rattle.std.proofs.Common.{◌≡◌, ℕ, ◌+◌, ◌*◌, ◌^◌, ◌<◌, ◌≤◌, refl, ap, sym, ◌∙◌, subst, Bool, true, false, cond, ◌⊎◌, inl, inr, arith, nat_eq, nat_lt, min, max, List, [], ◌∷◌, length, Option, None, Some, Result, Ok, Err, ◌-◌}
use Rattle.std.specs.Prelude.{slice_get, slice_index, unwrap_or}
use Rattle.std.specs.FinSet.{contains}
use Rattle.std.specs.Option.{option_map}
use Rattle.std.proofs.lemmas.Bool.{true≢false, ltb-false, eq-eqb}
use Rattle.std.proofs.lemmas.Option.{same_Some}
use Rattle.rv_memory.specs.Memory.{within, span}
use Rattle.miniheap.specs.Laws.{SlotLaws}
use Rattle.miniheap.specs.Slots.{slot_at}
use Rattle.exact_heap.specs.declared.parts.Request.{Request}
use Rattle.exact_heap.specs.declared.signal.HeapRefusal.{HeapRefusal}
use Rattle.exact_heap.specs.declared.signal.HeapRefusal.TheVariants.{Room, Memory as NoMemory}
use Rattle.exact_heap.specs.History.{Object, History, slot_of, address_of, held_by, slots_of, clock_of}
use Rattle.exact_heap.specs.Owners.{Owner}
use Rattle.exact_heap.specs.Placing.{HeapState, Rules, Outcome, request, new_object, released_object, place}
use Rattle.exact_heap.specs.Freeing.{freed_object, deferral_of, owner_freed}
use Rattle.exact_heap.specs.Calls.{usual, is_alignment, called, answers, size_limit, allocate, malloc, memalign, calloc, copied, moved, replaced, resized, realloc}
use Rattle.exact_heap.specs.Lawful.{IsAlignment, IsLawful}
use Rattle.exact_heap.specs.Laws.{HoldsAt}
use Rattle.exact_heap.specs.Held.{new_byte}
use Rattle.exact_heap.specs.NewSlots.{GivesNewSlot, MallocGivesNewSlot, MemalignGivesNewSlot, CallocGivesNewSlot, NoneReallocGivesNewSlot, ReallocGivesNewSlot}
use Rattle.exact_heap.specs.ObjectsAfter.{with_new}
use Rattle.exact_heap.proofs.Alignments.{usual_is, asked_is}
use Rattle.exact_heap.proofs.Homes.{same_places}
use Rattle.exact_heap.proofs.Objects.{contains-held}
use Rattle.exact_heap.proofs.SlotPlaces.{with_state}
use Rattle.exact_heap.proofs.LawsApart.{holder}
use Rattle.exact_heap.proofs.LawsCalls.{called_lawful, place_owner}
use Rattle.exact_heap.proofs.LawsFreed.{IsOwner, owner_found}
use Rattle.exact_heap.proofs.LawsPlacing.{request_fits, place_lawful}
use Rattle.exact_heap.proofs.LawsQuietCalls.{few_bytes}
use Rattle.exact_heap.proofs.LawsUnownedCalls.{owner_holds}
use Rattle.exact_heap.proofs.LawsMapped.{within_bounds}
use Rattle.exact_heap.proofs.LawsHeld.{IsSpare, new_found, EndsNew, placed_well, FreedWell, freed_well}
use Rattle.exact_heap.proofs.LawsObjects.{adds_one, changes_one, owner_freed_objects}

-- ---- the object whose number was the clock

-- there is none where no object was added
none_past : (os : List Object) → slice_get os (length os) ≡ None
none_past [] = refl
none_past (o ∷ os) = none_past os

none_added : (zeroed : Bool) (before s : HeapState) → s.history.objects ≡ before.history.objects → GivesNewSlot zeroed before s
none_added zeroed before s same a k =
    let x = holder s.history (clock_of before.history) a k in
    absurd (let e : Some x.object ≡ None = sym x.found ∙ ap (λ (os : List Object). slice_get os (clock_of before.history)) same ∙ none_past before.history.objects in cc)

pub new_is_last : (os : List Object) (new : Object) → slice_get (with_new os new) (length os) ≡ Some new
new_is_last os new = adds_one new (length os) os ∙ ap (λ (b : Bool). cond b (Some new) (option_map (released_object (length os + 1)) (slice_get os (length os)))) (eq-eqb (length os) (length os) refl)

-- an address that the object holds lies in its slot
in_new : (r : Request) (slot : ℕ) (h : History) (number a : ℕ) (o : Object) → slice_get h.objects number ≡ Some o → slot_of o ≡ slot → o.class ≡ r.class → HoldsAt h number a → (slot ≤ a) × (a < slot + 2 ^ r.class)
in_new r slot h number a o found same class k =
    let x = holder h number a k in
    let is : x.object ≡ o = same_Some x.object o (sym x.found ∙ found) in
    let from : slot_of x.object ≡ slot = ap slot_of is ∙ same in
    let to : 2 ^ x.object.class ≡ 2 ^ r.class = ap (λ (y : Object). 2 ^ y.class) is ∙ ap (λ (c : ℕ). 2 ^ c) class in
    (omega (arith, x.low, from), omega (arith, x.high, from, to))

-- ---- an allocation

new_slot : (r : Request) (zeroed : Bool) (before s : HeapState) (a : Result ℕ HeapRefusal) → EndsNew r zeroed before s a → GivesNewSlot zeroed before s
new_slot r zeroed before s (Err (Room used wanted)) k = none_added zeroed before s k
new_slot r zeroed before s (Err NoMemory) k = absurd k
new_slot r zeroed before s (Ok answer) k = λ a h.
    let found : slice_get s.history.objects (clock_of before.history) ≡ Some (new_object r k.slot) = ap (λ (os : List Object). slice_get os (clock_of before.history)) k.objects ∙ new_is_last before.history.objects (new_object r k.slot) in
    let w = in_new r k.slot s.history (clock_of before.history) a (new_object r k.slot) found refl refl h in
    k.bytes a w.0 w.1

allocate_slot : SlotLaws → (rules : Rules) (zeroed : Bool) (align size site : ℕ) → IsAlignment align → (s : HeapState) → IsLawful s.history → GivesNewSlot zeroed s (allocate rules zeroed align size site s).state
allocate_slot laws rules zeroed align size site ok s l = at (nat_lt size_limit size) refl
  where
    r : Request
    r = request rules align size site

    at : (b : Bool) → nat_lt size_limit size ≡ b → GivesNewSlot zeroed s (cond b (answers 0 s) (place r zeroed s)).state
    at true e = none_added zeroed s s refl
    at false e = new_slot r zeroed s (place r zeroed s).state (place r zeroed s).answer (placed_well laws r zeroed s (request_fits rules align size site ok (ltb-false size_limit size e)) l).ends

pub malloc_gives_new_slot : SlotLaws → MallocGivesNewSlot
unfolding malloc
malloc_gives_new_slot laws rules size site s l = allocate_slot laws rules rules.zero usual size site usual_is (called s) (called_lawful s l)

pub memalign_gives_new_slot : SlotLaws → MemalignGivesNewSlot
unfolding memalign
memalign_gives_new_slot laws rules align size site s l = at (is_alignment align) refl
  where
    at : (b : Bool) → is_alignment align ≡ b → GivesNewSlot rules.zero s (cond b (allocate rules rules.zero (max align usual) size site (called s)) (answers 0 (called s))).state
    at true e = allocate_slot laws rules rules.zero (max align usual) size site (asked_is align e) (called s) (called_lawful s l)
    at false e = none_added rules.zero s (called s) refl

pub calloc_gives_new_slot : SlotLaws → CallocGivesNewSlot
unfolding calloc
calloc_gives_new_slot laws rules count each site s l = allocate_slot laws rules true usual (count * each) site usual_is (called s) (called_lawful s l)

pub none_realloc_gives_new_slot : SlotLaws → NoneReallocGivesNewSlot
unfolding realloc
none_realloc_gives_new_slot laws rules size site s l = allocate_slot laws rules rules.zero usual size site usual_is (called s) (called_lawful s l)

-- ---- a move

moved_slot : SlotLaws → (rules : Rules) (size site : ℕ) (r : Request) (zeroed : Bool) (w : Owner) (before s : HeapState) (a : Result ℕ HeapRefusal) → IsOwner before.history.objects w → IsOwner s.history.objects w → IsLawful s.history → EndsNew r zeroed before s a
    → (object address : ℕ) → (moved rules size site w s a).answer ≡ Ok object → HoldsAt (moved rules size site w s a).state.history (clock_of before.history) address → (object ≤ address → address < object + min w.object.size size → ⊥)
    → (moved rules size site w s a).state.memory.bytes address ≡ Some (new_byte zeroed before address)
moved_slot laws rules size site r zeroed w before s (Err refusal) j k l h object address e holds apart = absurd (cc)
moved_slot laws rules size site r zeroed w before s (Ok answer) j k l h object address e holds apart = stays (f.spares address) ∙ uncopied (within answer (length bytes) address) refl ∙ h.bytes address there.0 there.1
  where
    len : ℕ
    len = min w.object.size size

    bytes : List ℕ
    bytes = unwrap_or (span s.memory.bytes (address_of w.object) len) []

    n : HeapState
    n = record s { memory = copied (address_of w.object) answer len s.memory }

    final : HeapState
    final = owner_freed rules site w n

    f : FreedWell w n final
    f = freed_well laws rules site w n k l

    new : Object
    new = new_object r h.slot

    freed : Object → Object
    freed = freed_object (length s.history.objects) (deferral_of rules w.object site) site

    -- whether it is the one that was freed or not
    found : (b : Bool) → nat_eq (clock_of before.history) w.number ≡ b → slice_get final.history.objects (clock_of before.history) ≡ Some (cond b (freed new) new)
    found b q =
        ap (λ (os : List Object). slice_get os (clock_of before.history)) (owner_freed_objects rules site w n)
        ∙ changes_one freed w.number (clock_of before.history) s.history.objects
        ∙ ap (λ (o : Option Object). cond (nat_eq (clock_of before.history) w.number) (option_map freed o) o) (ap (λ (os : List Object). slice_get os (clock_of before.history)) h.objects ∙ new_is_last before.history.objects new)
        ∙ ap (λ (c : Bool). cond c (Some (freed new)) (Some new)) q
        ∙ either b
      where
        either : (c : Bool) → cond c (Some (freed new)) (Some new) ≡ Some (cond c (freed new) new)
        either true = refl
        either false = refl

    there : (h.slot ≤ address) × (address < h.slot + 2 ^ r.class)
    there = at (nat_eq (clock_of before.history) w.number) refl
      where
        at : (b : Bool) → nat_eq (clock_of before.history) w.number ≡ b → (h.slot ≤ address) × (address < h.slot + 2 ^ r.class)
        at true q = in_new r h.slot final.history (clock_of before.history) address (freed new) (found true q) refl refl holds
        at false q = in_new r h.slot final.history (clock_of before.history) address new (found false q) refl refl holds

    here : slot_at (slots_of s.history) address ≡ Some h.there
    here = new_found laws r zeroed before s answer h address there.0 there.1

    held : contains (held_by s.history.objects) h.there.addr ≡ true
    held = ap (contains (held_by s.history.objects)) h.addr ∙ h.held

    other : slot_of w.object ≡ h.there.addr → ⊥
    other q = true≢false (sym (contains-held before.history.objects (slot_of w.object) ∙ owner_holds before.history.objects w j) ∙ ap (contains (held_by before.history.objects)) (q ∙ h.addr) ∙ h.unheld)

    -- the new object is held before and after the free
    stays : (final.memory.bytes address ≡ n.memory.bytes address) ⊎ IsSpare n final address → final.memory.bytes address ≡ n.memory.bytes address
    stays (inl q) = q
    stays (inr m) =
        absurd (m.spare (record { slot = h.there; found = here; held = held })
        (record { slot = with_state (slots_of final.history) h.there; found = same_places (slots_of n.history) (slots_of final.history) address h.there (sym f.classes) here; held = f.others h.there.addr held other }))

    uncopied : (b : Bool) → within answer (length bytes) address ≡ b → cond b (Some (slice_index bytes (address - answer))) (s.memory.bytes address) ≡ s.memory.bytes address
    uncopied false q = refl
    uncopied true q =
        let u = within_bounds answer (length bytes) address q in
        let same : answer ≡ object = cc in
        absurd (apart (omega (arith, u.0, same)) (omega (arith, u.1, same, few_bytes s.memory.bytes (address_of w.object) len)))

-- what a move of that owner gives each byte of the new slot but the copied ones
abbrev GivesRest : (rules : Rules) (size : ℕ) → Owner → HeapState → Outcome → Type 0
GivesRest rules size w s o =
    (object address : ℕ) → o.answer ≡ Ok object → HoldsAt o.state.history (clock_of s.history) address → (object ≤ address → address < object + min w.object.size size → ⊥)
    → o.state.memory.bytes address ≡ Some (new_byte rules.zero s address)

resized_slot : SlotLaws → (rules : Rules) (size site : ℕ) (s : HeapState) (w : Owner) → IsOwner s.history.objects w → IsLawful s.history → GivesRest rules size w s (resized rules size site s (Some w))
resized_slot laws rules size site s w k l = at (nat_lt size_limit size) refl
  where
    r : Request
    r = request rules usual size site

    o : Outcome
    o = place r rules.zero s

    at : (b : Bool) → nat_lt size_limit size ≡ b → GivesRest rules size w s (cond b (answers 0 s) (replaced rules size site w o))
    at true q object address e holds apart = none_added rules.zero s s refl address holds
    at false q object address e holds apart =
        let fit = request_fits rules usual size site usual_is (ltb-false size_limit size q) in
        moved_slot laws rules size site r rules.zero w s o.state o.answer k (place_owner laws r rules.zero s w fit.class l k) (place_lawful laws r rules.zero s fit l) (placed_well laws r rules.zero s fit l).ends object address e holds apart

pub realloc_gives_new_slot : SlotLaws → ReallocGivesNewSlot
unfolding realloc
realloc_gives_new_slot laws rules old size site s w l some owner =
    subst (λ (o : Option Owner). GivesRest rules size w s (cond (nat_eq old 0) (allocate rules rules.zero usual size site (called s)) (resized rules size site (called s) o))) (sym owner)
    (subst (λ (b : Bool). GivesRest rules size w s (cond b (allocate rules rules.zero usual size site (called s)) (resized rules size site (called s) (Some w)))) (sym some)
    (resized_slot laws rules size site (called s) w (owner_found s.history.objects old w owner) (called_lawful s l)))
