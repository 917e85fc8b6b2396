-- Where free slots are whole, every call is quiet.
use Rattle.std.proofs.Common.{◌≡◌, ℕ, zero, suc, ◌+◌, ◌-◌, ◌*◌, ◌^◌, ◌<◌, ◌≤◌, refl, ap, sym, ◌∙◌, subst, Bool, true, false, cond, ◌&&◌, ◌||◌, ◌⊎◌, inl, inr, arith, nat_eq, nat_lt, nat_le, min, List, [], ◌∷◌, ◌++◌, length, Option, Some, None, Result, Ok, Err, max}
use Rattle.std.specs.Prelude.{unwrap_or, slice_index}
use Rattle.std.specs.List.{AllByRecursion, filter_map, cons_option}
use Rattle.std.specs.Option.{option_map}
use Rattle.std.proofs.lemmas.Bool.{cases_Bool, true≢false, and_parts, eqb-true, leb-true, ltb-true, ltb-false}
use Rattle.std.proofs.lemmas.List.{append-nil}
use Rattle.std.proofs.lemmas.Option.{same_Some}
use Rattle.diefast_canary.specs.Canary.{canary_byte}
use Rattle.rv_memory.specs.Memory.{within, filled, span, with_first}
use Rattle.miniheap.specs.declared.place.Slot.{Slot}
use Rattle.miniheap.specs.declared.place.SlotState.{SlotState}
use Rattle.miniheap.specs.declared.place.SlotState.TheVariants.{Free, Held, Bad}
use Rattle.miniheap.specs.Layout.{minis, all_slots}
use Rattle.miniheap.specs.Slots.{Slots, is_free_state, slot_at}
use Rattle.exact_heap.specs.declared.parts.Request.{Request}
use Rattle.exact_heap.specs.declared.signal.Signal.{Signal}
use Rattle.exact_heap.specs.declared.signal.Place.TheVariants.{End}
use Rattle.exact_heap.specs.declared.signal.HeapRefusal.{HeapRefusal}
use Rattle.exact_heap.specs.History.{Deferred, Released, Object, slot_of, is_held, holds_slot, slots_of, canary_in, clock_of, address_of}
use Rattle.exact_heap.specs.Owners.{Owner, owner_of, changed_at}
use Rattle.exact_heap.specs.Placing.{HeapState, Rules, Outcome, request, break_in, signal_at, place}
use Rattle.exact_heap.specs.Freeing.{slot_before, slot_after, signalled_if, neighbour_checked, before_checked, after_checked, neighbours_checked, freed_state, freed_object, deferral_of, object_freed, owner_freed}
use Rattle.exact_heap.specs.Calls.{usual, is_alignment, memalign, called, answers, size_limit, allocate, malloc, calloc, freed_if, free, copied, moved, replaced, resized, realloc, end_signal, end_signals, check_end}
use Rattle.exact_heap.specs.Lawful.{IsAlignment, places_of, IsPlaced, IsLawful}
use Rattle.exact_heap.specs.Laws.{EndsWith, FreeSlotsAreWhole, BeginsWhole, IsQuiet, MallocIsQuiet, MemalignIsQuiet, CallocIsQuiet, FreeIsQuiet, ReallocIsQuiet, EndIsQuiet}
use Rattle.miniheap.specs.Laws.{SlotLaws}
use Rattle.exact_heap.proofs.Alignments.{usual_is, asked_is}
use Rattle.exact_heap.proofs.SlotPlaces.{with_state}
use Rattle.exact_heap.proofs.Objects.{any_held, contains-held, any_held-append, each_at}
use Rattle.exact_heap.proofs.Homes.{same_places}
use Rattle.exact_heap.proofs.LawsApart.{HasSlot}
use Rattle.exact_heap.proofs.LawsPlaced.{placement_ends}
use Rattle.exact_heap.proofs.LawsQuiet.{IsFree, free_is, free_state_is, free_slot_whole, either_way, or_off, in_own_slot, places_quietly}
use Rattle.exact_heap.proofs.LawsPlacing.{request_fits, place_lawful}
use Rattle.exact_heap.proofs.LawsNeighbours.{Knows, before_knows, after_knows}
use Rattle.exact_heap.proofs.LawsFreed.{IsOwner, owner_found, freed_objects}
use Rattle.exact_heap.proofs.LawsCalls.{called_lawful, place_owner}

-- ---- neighbours

quiet_neighbour : SlotLaws → (s : HeapState) (o : Option Slot) → Knows (slots_of s.history) o → FreeSlotsAreWhole s → neighbour_checked s o ≡ s
quiet_neighbour laws s None k w = refl
quiet_neighbour laws s (Some t) k w = at t.state refl
  where
    at : (u : SlotState) → t.state ≡ u → cond (is_free_state u) (signalled_if t.addr s (break_in s t.addr t.class)) s ≡ s
    at Held e = refl
    at Bad e = refl
    at Free e = ap (signalled_if t.addr s) (free_slot_whole laws s t w (k t refl) e)

quiet_neighbours : SlotLaws → (slot : ℕ) (s : HeapState) → FreeSlotsAreWhole s → neighbours_checked slot s ≡ s
unfolding neighbours_checked
quiet_neighbours laws slot s w = ap (after_checked slot) first ∙ quiet_neighbour laws s (slot_after (slots_of s.history) (slot_at (slots_of s.history) slot)) (after_knows laws (slots_of s.history) slot) w
  where
    first : before_checked slot s ≡ s
    first = quiet_neighbour laws s (slot_before (slots_of s.history) (slot_at (slots_of s.history) slot)) (before_knows laws (slots_of s.history) slot) w

-- ---- the free of an owned object

-- where a slot is held no more, it is that of the object that has changed
pub changed_there : (a : ℕ) (first : List Object) (o p : Object) (last : List Object) → slot_of p ≡ slot_of o → any_held a (first ++ o ∷ last) ≡ true → any_held a (first ++ p ∷ last) ≡ false → (slot_of o ≡ a) × (holds_slot p ≡ false)
changed_there a first o p last s h n = at (holds_slot o) (nat_eq (slot_of o) a) refl refl
  where
    off : (any_held a first ≡ false) × (any_held a (p ∷ last) ≡ false)
    off = or_off (any_held a first) (any_held a (p ∷ last)) (sym (any_held-append a first (p ∷ last)) ∙ n)

    parts : ((holds_slot p && nat_eq (slot_of p) a) ≡ false) × (any_held a last ≡ false)
    parts = or_off (holds_slot p && nat_eq (slot_of p) a) (any_held a last) off.1

    there : ((holds_slot o && nat_eq (slot_of o) a) || any_held a last) ≡ true
    there = sym (any_held-append a first (o ∷ last) ∙ ap (λ (b : Bool). b || any_held a (o ∷ last)) off.0) ∙ h

    left_off : (b c : Bool) → c ≡ true → (b && c) ≡ false → b ≡ false
    left_off true c f g = absurd (true≢false (sym f ∙ g))
    left_off false c f g = refl

    at : (b c : Bool) → holds_slot o ≡ b → nat_eq (slot_of o) a ≡ c → (slot_of o ≡ a) × (holds_slot p ≡ false)
    at b true e q = (eqb-true (slot_of o) a q, left_off (holds_slot p) (nat_eq (slot_of p) a) (ap (λ (x : ℕ). nat_eq x a) s ∙ q) parts.0)
    at true false e q = absurd (true≢false (sym there ∙ ap (λ (b : Bool). (holds_slot o && b) || any_held a last) q ∙ ap (λ (b : Bool). (b && false) || any_held a last) e ∙ parts.1))
    at false false e q = absurd (true≢false (sym there ∙ ap (λ (b : Bool). (b && nat_eq (slot_of o) a) || any_held a last) e ∙ parts.1))

pub at_once : (clock deferral : ℕ) → is_held (freed_state clock deferral) ≡ false → nat_eq deferral 0 ≡ true
at_once clock deferral e = at (nat_eq deferral 0) e
  where
    at : (b : Bool) → is_held (cond b (Released clock) (Deferred (clock + deferral))) ≡ false → b ≡ true
    at true f = refl
    at false f = absurd (true≢false f)

freed_whole : SlotLaws → (deferral site : ℕ) (w : Owner) (s : HeapState) → IsOwner s.history.objects w → IsLawful s.history → FreeSlotsAreWhole s → FreeSlotsAreWhole (object_freed deferral site w s)
freed_whole laws deferral site w s k l whole a t e f = at (cases_Bool (any_held t.addr s.history.objects))
  where
    p : Object
    p = freed_object (clock_of s.history) deferral site w.object

    objects : List Object
    objects = changed_at (freed_object (clock_of s.history) deferral site) w.number s.history.objects

    objects_are : objects ≡ k.first ++ p ∷ k.last
    objects_are = freed_objects (clock_of s.history) deferral site s.history.objects w k

    g : Slots
    g = slots_of s.history

    after : Slots
    after = slots_of (record s.history { objects = objects })

    byte : Option ℕ
    byte = Some (canary_byte (canary_in s.history) a)

    off : IsFree after t.addr
    off = free_is after a t e f

    -- the memory after it
    now : Bool → Option ℕ
    now b = (cond b (filled s.memory (slot_of w.object) (2 ^ w.object.class) (canary_byte (canary_in s.history))) s.memory).bytes a

    kept : s.memory.bytes a ≡ byte → (b : Bool) → now b ≡ byte
    kept q true = either_way (within (slot_of w.object) (2 ^ w.object.class) a) byte (s.memory.bytes a) q
    kept q false = q

    at : (any_held t.addr s.history.objects ≡ true) ⊎ (any_held t.addr s.history.objects ≡ false) → now (nat_eq deferral 0) ≡ byte
    at (inl h) =
        let c = changed_there t.addr k.first w.object p k.last refl (ap (any_held t.addr) (sym k.parts) ∙ h) (ap (any_held t.addr) (sym objects_are) ∙ sym (contains-held objects t.addr) ∙ off.unheld) in
        let has : HasSlot s.history.classes w.object = (each_at (IsPlaced s.history.classes) k.first w.object k.last (subst (AllByRecursion (IsPlaced s.history.classes)) k.parts l.placed)).slot in
        let inside : within (slot_of w.object) (2 ^ w.object.class) a ≡ true = in_own_slot laws s.history.classes w.object a (with_state (places_of s.history.classes) t) has (same_places after (places_of s.history.classes) a t refl e) c.0 in
        ap now (at_once (clock_of s.history) deferral c.1) ∙ ap (λ (b : Bool). cond b byte (s.memory.bytes a)) inside
    at (inr h) = kept (whole a (with_state g t) (same_places after g a t refl e) (free_state_is g t.addr (contains-held s.history.objects t.addr ∙ h) off.good)) (nat_eq deferral 0)

owner_freed_quiet : SlotLaws → (rules : Rules) (site : ℕ) (w : Owner) (s : HeapState) → IsOwner s.history.objects w → IsLawful s.history → FreeSlotsAreWhole s → IsQuiet s (owner_freed rules site w s)
unfolding owner_freed
owner_freed_quiet laws rules site w s k l whole =
    subst (λ (r : HeapState). IsQuiet s (object_freed (deferral_of rules w.object site) site w r)) (sym (quiet_neighbours laws (slot_of w.object) s whole))
    (record { bad = refl; signals = refl; whole = freed_whole laws (deferral_of rules w.object site) site w s k l whole })

-- ---- the calls

called_whole : (s : HeapState) → FreeSlotsAreWhole s → FreeSlotsAreWhole (called s)
called_whole s w a t e f = w a t e f

quiet_called : (s r : HeapState) → IsQuiet (called s) r → IsQuiet s r
quiet_called s r k = record { bad = k.bad; signals = k.signals; whole = k.whole }

still : (s : HeapState) → FreeSlotsAreWhole s → IsQuiet s s
still s w = record { bad = refl; signals = refl; whole = w }

allocate_quiet : SlotLaws → (rules : Rules) (zeroed : Bool) (align size site : ℕ) → IsAlignment align → (s : HeapState) → IsLawful s.history → FreeSlotsAreWhole s → IsQuiet s (allocate rules zeroed align size site s).state
allocate_quiet laws rules zeroed align size site ok s l w = at (nat_lt size_limit size) refl
  where
    at : (b : Bool) → nat_lt size_limit size ≡ b → IsQuiet s (cond b (answers 0 s) (place (request rules align size site) zeroed s)).state
    at true e = still s w
    at false e = places_quietly laws s (request rules align size site) zeroed l (request_fits rules align size site ok (ltb-false size_limit size e)).class w

pub malloc_is_quiet : SlotLaws → MallocIsQuiet
unfolding malloc
malloc_is_quiet laws rules size site s l w = quiet_called s (allocate rules rules.zero usual size site (called s)).state (allocate_quiet laws rules rules.zero usual size site usual_is (called s) (called_lawful s l) (called_whole s w))

pub memalign_is_quiet : SlotLaws → MemalignIsQuiet
unfolding memalign
memalign_is_quiet laws rules align size site s l w = at (is_alignment align) refl
  where
    at : (b : Bool) → is_alignment align ≡ b → IsQuiet s (cond b (allocate rules rules.zero (max align usual) size site (called s)) (answers 0 (called s))).state
    at true e =
        quiet_called s (allocate rules rules.zero (max align usual) size site (called s)).state
        (allocate_quiet laws rules rules.zero (max align usual) size site (asked_is align e) (called s) (called_lawful s l) (called_whole s w))
    at false e = quiet_called s (called s) (still (called s) (called_whole s w))

pub calloc_is_quiet : SlotLaws → CallocIsQuiet
unfolding calloc
calloc_is_quiet laws rules count each site s l w = quiet_called s (allocate rules true usual (count * each) site (called s)).state (allocate_quiet laws rules true usual (count * each) site usual_is (called s) (called_lawful s l) (called_whole s w))

pub free_is_quiet : SlotLaws → FreeIsQuiet
unfolding free
free_is_quiet laws rules address site s l w = at (owner_of s.history.objects address) refl
  where
    at : (o : Option Owner) → owner_of s.history.objects address ≡ o → IsQuiet s (freed_if rules site o (called s))
    at None e = quiet_called s (called s) (still (called s) (called_whole s w))
    at (Some v) e = quiet_called s (owner_freed rules site v (called s)) (owner_freed_quiet laws rules site v (called s) (owner_found s.history.objects address v e) (called_lawful s l) (called_whole s w))

-- ---- the copy of an object

some_bytes : (here : Option ℕ) (others : Option (List ℕ)) (len : ℕ) → length (unwrap_or others []) ≤ len → length (unwrap_or (with_first here others) []) ≤ suc len
some_bytes None others len h = omega arith
some_bytes (Some x) None len h = omega arith
some_bytes (Some x) (Some xs) len h = omega (arith, h)

pub few_bytes : (bytes : ℕ → Option ℕ) (from len : ℕ) → length (unwrap_or (span bytes from len) []) ≤ len
few_bytes bytes from zero = omega arith
few_bytes bytes from (suc len) = some_bytes (bytes from) (span bytes (from + 1) len) len (few_bytes bytes (from + 1) len)

-- the slot at an address is held
pub record HeldSlot (s : Slots) (class a : ℕ) : Type 0 where
  pub slot : Slot
  pub found : slot_at s a ≡ Some slot
  pub addr : slot.addr ≡ a
  pub class_is : slot.class ≡ class
  pub state : slot.state ≡ Held

pub held_slot : (r : Request) (a : ℕ) (s : HeapState) (k : EndsWith r s (Ok a)) → HeldSlot (slots_of s.history) r.class k.slot.addr
held_slot r a s k = record { slot = k.slot; found = k.found; addr = refl; class_is = k.class; state = k.held }

-- bytes of a held slot change no other slot
copied_whole : SlotLaws → (class slot from to len : ℕ) (s : HeapState) → HeldSlot (slots_of s.history) class slot → slot ≤ to → to + len ≤ slot + 2 ^ class → FreeSlotsAreWhole s → FreeSlotsAreWhole (record s { memory = copied from to len s.memory })
copied_whole laws class slot from to len s h behind few w a t e f = at (within to (length bytes) a) refl
  where
    bytes : List ℕ
    bytes = unwrap_or (span s.memory.bytes from len) []

    clash : Free ≡ Held → ⊥
    clash q = cc

    at : (b : Bool) → within to (length bytes) a ≡ b → cond b (Some (slice_index bytes (a - to))) (s.memory.bytes a) ≡ Some (canary_byte (canary_in s.history) a)
    at false q = w a t e f
    at true q =
        let u = and_parts (nat_le to a) (nat_lt a (to + length bytes)) q in
        let lo : h.slot.addr ≤ a = omega (arith, h.addr, behind, leb-true to a u.0) in
        let hi : a < h.slot.addr + 2 ^ h.slot.class = omega (arith, h.addr, ltb-true a (to + length bytes) u.1, few_bytes s.memory.bytes from len, few, ap (λ (c : ℕ). 2 ^ c) h.class_is) in
        let m : h.slot ≡ t = same_Some h.slot t (sym (laws.apart (slots_of s.history) slot a h.slot h.found lo hi) ∙ e) in
        absurd (clash (sym f ∙ ap (λ (x : Slot). x.state) (sym m) ∙ h.state))

moved_quiet : SlotLaws → (rules : Rules) (size site : ℕ) (asked : Request) (w : Owner) (before s : HeapState) (a : Result ℕ HeapRefusal) → asked.front + size ≤ 2 ^ asked.class → IsOwner s.history.objects w → IsLawful s.history → EndsWith asked s a → IsQuiet before s
    → IsQuiet before (moved rules size site w s a).state
moved_quiet laws rules size site asked w before s (Err refusal) fits k l e q = q
moved_quiet laws rules size site asked w before s (Ok address) fits k l e q =
    let r : HeapState = record s { memory = copied (address_of w.object) address (min w.object.size size) s.memory } in
    let whole : FreeSlotsAreWhole r = copied_whole laws asked.class e.slot.addr (address_of w.object) address (min w.object.size size) s (held_slot asked address s e) (omega (arith, e.behind)) (omega (arith, e.behind, fits)) q.whole in
    let o = owner_freed_quiet laws rules site w r k l whole in
    record { bad = o.bad ∙ q.bad; signals = o.signals ∙ q.signals; whole = o.whole }

resized_quiet : SlotLaws → (rules : Rules) (size site : ℕ) (s : HeapState) (o : Option Owner) → ((w : Owner) → o ≡ Some w → IsOwner s.history.objects w) → IsLawful s.history → FreeSlotsAreWhole s → IsQuiet s (resized rules size site s o).state
resized_quiet laws rules size site s None k l w = still s w
resized_quiet laws rules size site s (Some v) k l w = at (nat_lt size_limit size) refl
  where
    at : (b : Bool) → nat_lt size_limit size ≡ b → IsQuiet s (cond b (answers 0 s) (replaced rules size site v (place (request rules usual size site) rules.zero s))).state
    at true e = still s w
    at false e =
        let r : Request = request rules usual size site in
        let fit = request_fits rules usual size site usual_is (ltb-false size_limit size e) in
        let o : Outcome = place r rules.zero s in
        moved_quiet laws rules size site r v s o.state o.answer (omega (arith, fit.room.fits)) (place_owner laws r rules.zero s v fit.class l (k v refl)) (place_lawful laws r rules.zero s fit l) (placement_ends laws s r rules.zero l fit.class)
        (places_quietly laws s r rules.zero l fit.class w)

pub realloc_is_quiet : SlotLaws → ReallocIsQuiet
unfolding realloc
realloc_is_quiet laws rules old size site s l w = at (nat_eq old 0)
  where
    at : (b : Bool) → IsQuiet s (cond b (allocate rules rules.zero usual size site (called s)) (resized rules size site (called s) (owner_of s.history.objects old))).state
    at true = quiet_called s (allocate rules rules.zero usual size site (called s)).state (allocate_quiet laws rules rules.zero usual size site usual_is (called s) (called_lawful s l) (called_whole s w))
    at false =
        quiet_called s (resized rules size site (called s) (owner_of s.history.objects old)).state
        (resized_quiet laws rules size site (called s) (owner_of s.history.objects old) (λ v e. owner_found s.history.objects old v e) (called_lawful s l) (called_whole s w))

-- ---- the end

none_given : {A B : Type 0} (f : A → Option B) → ((x : A) → f x ≡ None) → (xs : List A) → filter_map f xs ≡ []
none_given f h [] = refl
none_given f h (x ∷ xs) = ap (λ (o : Option _). cons_option o (filter_map f xs)) (h x) ∙ none_given f h xs

no_end_signal : SlotLaws → (s : HeapState) → FreeSlotsAreWhole s → (slot : ℕ) → end_signal s (slot_at (slots_of s.history) slot) ≡ None
no_end_signal laws s w slot = at (slot_at (slots_of s.history) slot) refl
  where
    in_state : (t : Slot) → slot_at (slots_of s.history) slot ≡ Some t → (u : SlotState) → t.state ≡ u → cond (is_free_state u) (option_map (signal_at End s.memory) (break_in s t.addr t.class)) None ≡ None
    in_state t e Held f = refl
    in_state t e Bad f = refl
    in_state t e Free f =
        let h = laws.hold (slots_of s.history) slot t e in
        let here : slot_at (slots_of s.history) t.addr ≡ Some t = laws.apart (slots_of s.history) slot t.addr t e (omega arith) (omega (arith, h.0, h.1)) in
        ap (option_map (signal_at End s.memory)) (free_slot_whole laws s t w here f)

    at : (o : Option Slot) → slot_at (slots_of s.history) slot ≡ o → end_signal s o ≡ None
    at None e = refl
    at (Some t) e = in_state t e t.state refl

pub end_is_quiet : SlotLaws → EndIsQuiet
unfolding check_end end_signals
end_is_quiet laws s w = at s.history.ended
  where
    none : filter_map (λ slot. end_signal s (slot_at (slots_of s.history) slot)) (all_slots (minis s.history.classes)) ≡ []
    none = none_given (λ slot. end_signal s (slot_at (slots_of s.history) slot)) (no_end_signal laws s w) (all_slots (minis s.history.classes))

    at : (b : Bool) → (cond b s.history (record s.history { signals = s.history.signals ++ filter_map (λ slot. end_signal s (slot_at (slots_of s.history) slot)) (all_slots (minis s.history.classes)); ended = true })).signals ≡ s.history.signals
    at true = refl
    at false = ap (λ (xs : List Signal). s.history.signals ++ xs) none ∙ append-nil s.history.signals

-- ---- the beginning

pub begins_whole : BeginsWhole
begins_whole seed memory a t e f = absurd (cc)
