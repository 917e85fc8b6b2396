-- Heap calls keep the bytes of slots that objects hold, and give new objects theirs.
use Rattle.std.proofs.Common.{◌≡◌, ℕ, zero, suc, ◌+◌, ◌-◌, ◌*◌, ◌^◌, ◌<◌, ◌≤◌, refl, ap, sym, ◌∙◌, subst, Bool, true, false, cond, ◌⊎◌, inl, inr, arith, nat_eq, nat_lt, min, max, List, [], ◌∷◌, length, Option, Some, None, Result, Ok, Err, is_some}
use Rattle.std.specs.Prelude.{unwrap_or, slice_index}
use Rattle.std.specs.FinSet.{contains}
use Rattle.std.proofs.lemmas.Bool.{true≢false, le-ltb, ltb-false}
use Rattle.rv_memory.specs.Memory.{within, with_first, span}
use Rattle.miniheap.specs.Laws.{SlotLaws}
use Rattle.miniheap.specs.Slots.{slot_at}
use Rattle.miniheap.specs.declared.place.Slot.{Slot}
use Rattle.exact_heap.specs.declared.parts.Request.{Request}
use Rattle.exact_heap.specs.declared.signal.HeapRefusal.{HeapRefusal}
use Rattle.exact_heap.specs.History.{Object, History, slot_of, address_of, held_by, slots_of}
use Rattle.exact_heap.specs.Owners.{Owner, owner_of}
use Rattle.exact_heap.specs.Placing.{HeapState, Rules, Outcome, request, place}
use Rattle.exact_heap.specs.Freeing.{owner_freed}
use Rattle.exact_heap.specs.Calls.{usual, is_alignment, called, answers, size_limit, allocate, malloc, memalign, calloc, freed_if, free, copied, moved, replaced, resized, realloc}
use Rattle.exact_heap.specs.Lawful.{IsAlignment, IsPlaced, places_of, IsLawful}
use Rattle.exact_heap.specs.Laws.{HoldsAt}
use Rattle.exact_heap.specs.Held.{KeepsHeld, MallocKeepsHeld, MemalignKeepsHeld, CallocKeepsHeld, FreeKeepsHeld, ReallocKeepsHeld, new_byte, GivesNewBytes, MallocGivesNewBytes, MemalignGivesNewBytes, CallocGivesZeros, ReallocGivesNewBytes}
use Rattle.exact_heap.specs.Mapped.{in_region}
use Rattle.exact_heap.proofs.Alignments.{usual_is, asked_is}
use Rattle.exact_heap.proofs.Homes.{end_below, slot_in_heap, same_places}
use Rattle.exact_heap.proofs.Numbers.{number_splits}
use Rattle.exact_heap.proofs.Objects.{held_here_is}
use Rattle.exact_heap.proofs.SlotPlaces.{with_state}
use Rattle.exact_heap.proofs.LawsApart.{holder, own_slot, own_found, each_number}
use Rattle.exact_heap.proofs.LawsCalls.{called_lawful, place_owner, malloc_is_lawful, memalign_is_lawful, calloc_is_lawful, free_is_lawful, realloc_is_lawful}
use Rattle.exact_heap.proofs.LawsFreed.{IsOwner, owner_found}
use Rattle.exact_heap.proofs.LawsPlacing.{request_fits, place_lawful}
use Rattle.exact_heap.proofs.LawsQuietCalls.{few_bytes}
use Rattle.exact_heap.proofs.LawsUnowned.{Stay}
use Rattle.exact_heap.proofs.LawsMapped.{within_bounds, region_true}
use Rattle.exact_heap.proofs.LawsHeld.{InHeld, IsSpare, Spares, spares_then, spares_nothing, held_back, HasNew, new_found, EndsNew, placed_well, freed_well}

-- ---- objects and slots

-- an object that holds an address has its slot
pub in_held : SlotLaws → (h : History) (number a : ℕ) → IsLawful h → HoldsAt h number a → InHeld (slots_of h) a
in_held laws h number a l k =
    let x = holder h number a k in
    let v = own_slot h.classes x.object (each_number (IsPlaced h.classes) h.objects number x.object l.placed x.found).slot in
    let n = number_splits h.objects number x.object x.found in
    record {
      slot = with_state (slots_of h) v.slot;
      found = same_places (places_of h.classes) (slots_of h) a v.slot refl (own_found laws h.classes x.object v a x.low x.high);
      held = ap (contains (held_by h.objects)) v.addr ∙ ap (λ (os : List Object). contains (held_by os) (slot_of x.object)) n.parts ∙ held_here_is n.first x.object n.last x.holds;
    }

keeps_held : SlotLaws → (s r : HeapState) → IsLawful s.history → IsLawful r.history → Spares (called s) r → KeepsHeld s r
keeps_held laws s r l lr x = record {
  outside = λ a e. outside a e (x a);
  held = λ i j a u v. held a (in_held laws s.history i a l u) (in_held laws r.history j a lr v) (x a);
}
  where
    outside : (a : ℕ) → in_region a ≡ false → (r.memory.bytes a ≡ s.memory.bytes a) ⊎ IsSpare (called s) r a → r.memory.bytes a ≡ s.memory.bytes a
    outside a e (inl k) = k
    outside a e (inr k) = absurd (true≢false (sym k.inside ∙ e))

    held : (a : ℕ) → InHeld (slots_of s.history) a → InHeld (slots_of r.history) a → (r.memory.bytes a ≡ s.memory.bytes a) ⊎ IsSpare (called s) r a → r.memory.bytes a ≡ s.memory.bytes a
    held a u v (inl k) = k
    held a u v (inr k) = absurd (k.spare u v)

-- ---- an allocation

allocate_spares : SlotLaws → (rules : Rules) (zeroed : Bool) (align size site : ℕ) → IsAlignment align → (s : HeapState) → IsLawful s.history → Spares s (allocate rules zeroed align size site s).state
allocate_spares laws rules zeroed align size site ok s l = at (nat_lt size_limit size) refl
  where
    at : (b : Bool) → nat_lt size_limit size ≡ b → Spares s (cond b (answers 0 s) (place (request rules align size site) zeroed s)).state
    at true e = spares_nothing s s refl
    at false e = (placed_well laws (request rules align size site) zeroed s (request_fits rules align size site ok (ltb-false size_limit size e)) l).spares

-- ---- the copy of an object

span_first : (here : Option ℕ) (others : Option (List ℕ)) (b : ℕ) (xs : List ℕ) → here ≡ Some b → others ≡ Some xs → with_first here others ≡ Some (b ∷ xs)
span_first here others b xs e f = ap (λ (o : Option ℕ). with_first o others) e ∙ ap (with_first (Some b)) f

-- a span of bytes that are all there
pub record HasBytes (bytes : ℕ → Option ℕ) (from len : ℕ) : Type 0 where
  pub all : List ℕ
  pub span_is : span bytes from len ≡ Some all
  pub count : length all ≡ len
  pub each : (d : ℕ) → d < len → bytes (from + d) ≡ Some (slice_index all d)

there : (o : Option ℕ) → is_some o ≡ true → (b : ℕ) × (o ≡ Some b)
there None e = absurd (true≢false (sym e))
there (Some b) e = (b, refl)

pub has_bytes : (bytes : ℕ → Option ℕ) (from len : ℕ) → ((d : ℕ) → d < len → is_some (bytes (from + d)) ≡ true) → HasBytes bytes from len
has_bytes bytes from zero h = record { all = []; span_is = refl; count = refl; each = λ d k. absurd (omega arith) }
has_bytes bytes from (suc len) h =
    let b = there (bytes from) (subst (λ (x : ℕ). is_some (bytes x) ≡ true) (let e : from + 0 ≡ from = omega arith in e) (h 0 (omega arith))) in
    let k = has_bytes bytes (from + 1) len (λ d lo. subst (λ (x : ℕ). is_some (bytes x) ≡ true) (let e : from + suc d ≡ from + 1 + d = omega arith in e) (h (suc d) (omega arith))) in
    record {
      all = b.0 ∷ k.all;
      span_is = span_first (bytes from) (span bytes (from + 1) len) b.0 k.all b.1 k.span_is;
      count = ap suc k.count;
      each = λ d lo. each b.0 k.all b.1 k.each d lo;
    }
  where
    each : (b : ℕ) (all : List ℕ) → bytes from ≡ Some b → ((d : ℕ) → d < len → bytes (from + 1 + d) ≡ Some (slice_index all d)) → (d : ℕ) → d < suc len → bytes (from + d) ≡ Some (slice_index (b ∷ all) d)
    each b all e k zero lo = ap bytes (let q : from + 0 ≡ from = omega arith in q) ∙ e
    each b all e k (suc d) lo = ap bytes (let q : from + suc d ≡ from + 1 + d = omega arith in q) ∙ k d (omega arith)

-- the new object's slot was held by none before
spares_copied : SlotLaws → (r : Request) (zeroed : Bool) (before s : HeapState) (from to len : ℕ) → IsLawful s.history → Stay (slots_of before.history) (slots_of s.history) → (k : HasNew r zeroed before s to) → r.front + len ≤ 2 ^ r.class → Spares before s
    → Spares before (record s { memory = copied from to len s.memory })
spares_copied laws r zeroed before s from to len l stay k few x a = at (within to (length bytes) a) refl (x a)
  where
    bytes : List ℕ
    bytes = unwrap_or (span s.memory.bytes from len) []

    -- the slot there is the new object's
    other : slot_at (slots_of s.history) a ≡ Some k.there → InHeld (slots_of before.history) a → ⊥
    other e u =
        let same : with_state (slots_of s.history) u.slot ≡ k.there = Rattle.std.proofs.lemmas.Option.same_Some (with_state (slots_of s.history) u.slot) k.there (sym (stay a u.slot u.found) ∙ e) in
        true≢false (sym u.held ∙ ap (contains (held_by before.history.objects)) (ap (λ (t : Slot). t.addr) same ∙ k.addr) ∙ k.unheld)

    at : (b : Bool) → within to (length bytes) a ≡ b → (s.memory.bytes a ≡ before.memory.bytes a) ⊎ IsSpare before s a
        → (cond b (Some (slice_index bytes (a - to))) (s.memory.bytes a) ≡ before.memory.bytes a) ⊎ IsSpare before (record s { memory = copied from to len s.memory }) a
    at false q (inl e) = inl e
    at false q (inr m) = inr (record { inside = m.inside; spare = m.spare })
    at true q m =
        let w = within_bounds to (length bytes) a q in
        let lo : k.slot ≤ a = omega (arith, w.0, k.address) in
        let hi : a < k.slot + 2 ^ r.class = omega (arith, w.1, k.address, few, few_bytes s.memory.bytes from len) in
        let e : slot_at (slots_of s.history) a ≡ Some k.there = new_found laws r zeroed before s to k a lo hi in
        let i = slot_in_heap laws (slots_of s.history) a k.there e in
        let h = laws.hold (slots_of s.history) a k.there e in
        inr (record { inside = region_true a (omega (arith, i.low, h.0)) (omega (arith, i.high, h.1, end_below (slots_of s.history) l.in_order)); spare = λ u v. other e u })

moved_spares : SlotLaws → (rules : Rules) (size site : ℕ) (r : Request) (zeroed : Bool) (w : Owner) (before s : HeapState) (a : Result ℕ HeapRefusal) → r.front + size ≤ 2 ^ r.class → IsOwner s.history.objects w → IsLawful s.history
    → Stay (slots_of before.history) (slots_of s.history) → Spares before s → EndsNew r zeroed before s a → Spares before (moved rules size site w s a).state
moved_spares laws rules size site r zeroed w before s (Err refusal) few k l stay x e = x
moved_spares laws rules size site r zeroed w before s (Ok address) few k l stay x e =
    let n : HeapState = record s { memory = copied (address_of w.object) address (min w.object.size size) s.memory } in
    let f = freed_well laws rules site w n k l in
    spares_then before n (owner_freed rules site w n) (spares_copied laws r zeroed before s (address_of w.object) address (min w.object.size size) l stay e (omega (arith, few)) x) f.spares (λ a u v. held_back n (owner_freed rules site w n) f.classes f.fewer a v)

resized_spares : SlotLaws → (rules : Rules) (size site : ℕ) (s : HeapState) (o : Option Owner) → ((w : Owner) → o ≡ Some w → IsOwner s.history.objects w) → IsLawful s.history → Spares s (resized rules size site s o).state
resized_spares laws rules size site s None k l = spares_nothing s s refl
resized_spares laws rules size site s (Some w) k l = at (nat_lt size_limit size) refl
  where
    at : (b : Bool) → nat_lt size_limit size ≡ b → Spares s (cond b (answers 0 s) (replaced rules size site w (place (request rules usual size site) rules.zero s))).state
    at true e = spares_nothing s s refl
    at false e =
        let r : Request = request rules usual size site in
        let fit = request_fits rules usual size site usual_is (ltb-false size_limit size e) in
        let o : Outcome = place r rules.zero s in
        let p = placed_well laws r rules.zero s fit l in
        moved_spares laws rules size site r rules.zero w s o.state o.answer (omega (arith, fit.room.fits)) (place_owner laws r rules.zero s w fit.class l (k w refl)) (place_lawful laws r rules.zero s fit l) p.stay p.spares p.ends

-- ---- the calls

pub malloc_keeps_held : SlotLaws → MallocKeepsHeld
unfolding malloc
malloc_keeps_held laws rules size site s l =
    keeps_held laws s (allocate rules rules.zero usual size site (called s)).state l (malloc_is_lawful laws rules size site s l) (allocate_spares laws rules rules.zero usual size site usual_is (called s) (called_lawful s l))

pub memalign_keeps_held : SlotLaws → MemalignKeepsHeld
unfolding memalign
memalign_keeps_held laws rules align size site s l =
    keeps_held laws s (cond (is_alignment align) (allocate rules rules.zero (max align usual) size site (called s)) (answers 0 (called s))).state l (memalign_is_lawful laws rules align size site s l) (at (is_alignment align) refl)
  where
    at : (b : Bool) → is_alignment align ≡ b → Spares (called s) (cond b (allocate rules rules.zero (max align usual) size site (called s)) (answers 0 (called s))).state
    at true e = allocate_spares laws rules rules.zero (max align usual) size site (asked_is align e) (called s) (called_lawful s l)
    at false e = spares_nothing (called s) (called s) refl

pub calloc_keeps_held : SlotLaws → CallocKeepsHeld
unfolding calloc
calloc_keeps_held laws rules count each site s l =
    keeps_held laws s (allocate rules true usual (count * each) site (called s)).state l (calloc_is_lawful laws rules count each site s l) (allocate_spares laws rules true usual (count * each) site usual_is (called s) (called_lawful s l))

pub free_keeps_held : SlotLaws → FreeKeepsHeld
unfolding free
free_keeps_held laws rules address site s l = keeps_held laws s (freed_if rules site (owner_of s.history.objects address) (called s)) l (free_is_lawful laws rules address site s l) (at (owner_of s.history.objects address) refl)
  where
    at : (o : Option Owner) → owner_of s.history.objects address ≡ o → Spares (called s) (freed_if rules site o (called s))
    at None e = spares_nothing (called s) (called s) refl
    at (Some w) e = (freed_well laws rules site w (called s) (owner_found s.history.objects address w e) (called_lawful s l)).spares

pub realloc_keeps_held : SlotLaws → ReallocKeepsHeld
unfolding realloc
realloc_keeps_held laws rules old size site s l =
    keeps_held laws s (cond (nat_eq old 0) (allocate rules rules.zero usual size site (called s)) (resized rules size site (called s) (owner_of s.history.objects old))).state l (realloc_is_lawful laws rules old size site s l) (at (nat_eq old 0))
  where
    at : (b : Bool) → Spares (called s) (cond b (allocate rules rules.zero usual size site (called s)) (resized rules size site (called s) (owner_of s.history.objects old))).state
    at true = allocate_spares laws rules rules.zero usual size site usual_is (called s) (called_lawful s l)
    at false = resized_spares laws rules size site (called s) (owner_of s.history.objects old) (λ w e. owner_found s.history.objects old w e) (called_lawful s l)

-- ---- the bytes of a new object

new_bytes : (r : Request) (zeroed : Bool) (before s : HeapState) (a : Result ℕ HeapRefusal) → r.front + r.size ≤ 2 ^ r.class → EndsNew r zeroed before s a → (object address : ℕ) → a ≡ Ok object → object ≤ address → address < object + r.size
    → s.memory.bytes address ≡ Some (new_byte zeroed before address)
new_bytes r zeroed before s (Err refusal) few k object address e lo hi = absurd (cc)
new_bytes r zeroed before s (Ok answer) few k object address e lo hi =
    let same : answer ≡ object = cc in
    k.bytes address (omega (arith, lo, same, k.address)) (omega (arith, hi, same, k.address, few))

allocate_bytes : SlotLaws → (rules : Rules) (zeroed : Bool) (align size site : ℕ) → IsAlignment align → (s : HeapState) → IsLawful s.history → size ≤ size_limit → GivesNewBytes zeroed size s (allocate rules zeroed align size site s)
allocate_bytes laws rules zeroed align size site ok s l small object address = at (nat_lt size_limit size) (le-ltb size_limit size small)
  where
    r : Request
    r = request rules align size site

    at : (b : Bool) → b ≡ false → (cond b (answers 0 s) (place r zeroed s)).answer ≡ Ok object → object ≤ address → address < object + size → (cond b (answers 0 s) (place r zeroed s)).state.memory.bytes address ≡ Some (new_byte zeroed s address)
    at true q e lo hi = absurd (true≢false q)
    at false q e lo hi =
        let fit = request_fits rules align size site ok small in
        let p = placed_well laws r zeroed s fit l in
        new_bytes r zeroed s (place r zeroed s).state (place r zeroed s).answer (omega (arith, fit.room.fits)) p.ends object address e lo hi

pub malloc_gives_new_bytes : SlotLaws → MallocGivesNewBytes
unfolding malloc
malloc_gives_new_bytes laws rules size site s l small = allocate_bytes laws rules rules.zero usual size site usual_is (called s) (called_lawful s l) small

pub memalign_gives_new_bytes : SlotLaws → MemalignGivesNewBytes
unfolding memalign
memalign_gives_new_bytes laws rules align size site s l ok small = at (is_alignment align) refl ok
  where
    at : (b : Bool) → is_alignment align ≡ b → b ≡ true → GivesNewBytes rules.zero size s (cond b (allocate rules rules.zero (max align usual) size site (called s)) (answers 0 (called s)))
    at true e q = allocate_bytes laws rules rules.zero (max align usual) size site (asked_is align e) (called s) (called_lawful s l) small
    at false e q = absurd (true≢false (sym q))

pub calloc_gives_zeros : SlotLaws → CallocGivesZeros
unfolding calloc
calloc_gives_zeros laws rules count each site s l small = allocate_bytes laws rules true usual (count * each) site usual_is (called s) (called_lawful s l) small

pub realloc_gives_new_bytes : SlotLaws → ReallocGivesNewBytes
unfolding realloc
realloc_gives_new_bytes laws rules size site s l small = allocate_bytes laws rules rules.zero usual size site usual_is (called s) (called_lawful s l) small
