-- The bytes that realloc copies.
use Rattle.std.proofs.Common.{◌≡◌, ℕ, ◌+◌, ◌-◌, ◌^◌, ◌<◌, ◌≤◌, refl, ap, sym, ◌∙◌, subst, Bool, true, false, cond, ◌⊎◌, inl, inr, arith, nat_eq, nat_lt, min, List, length, [], Option, Some, Result, Ok, Err, is_some}
use Rattle.std.specs.Prelude.{unwrap_or, slice_index}
use Rattle.std.specs.List.{AllByRecursion}
use Rattle.std.specs.FinSet.{contains}
use Rattle.std.proofs.lemmas.Bool.{true≢false, false_from_ne_true, lt-ltb, le-ltb, cases_lt, eqb-true, and_parts}
use Rattle.rv_memory.specs.Memory.{within, span}
use Rattle.miniheap.specs.Laws.{SlotLaws}
use Rattle.miniheap.specs.Slots.{slot_at}
use Rattle.exact_heap.specs.declared.parts.Request.{Request}
use Rattle.exact_heap.specs.declared.signal.HeapRefusal.{HeapRefusal}
use Rattle.exact_heap.specs.History.{Object, History, slot_of, address_of, is_owned, held_by, slots_of}
use Rattle.exact_heap.specs.Owners.{Owner, is_owned_at, owner_of}
use Rattle.exact_heap.specs.Placing.{HeapState, Rules, Outcome, request, place}
use Rattle.exact_heap.specs.Freeing.{owner_freed}
use Rattle.exact_heap.specs.Calls.{usual, called, answers, size_limit, allocate, copied, moved, replaced, resized, realloc}
use Rattle.exact_heap.specs.Lawful.{IsPlaced, places_of, IsLawful}
use Rattle.exact_heap.specs.Held.{new_byte, CopiesBytes, ReallocCopies}
use Rattle.exact_heap.proofs.Alignments.{usual_is}
use Rattle.exact_heap.proofs.Homes.{same_places}
use Rattle.exact_heap.proofs.Objects.{contains-held, each_at, last_splits}
use Rattle.exact_heap.proofs.SlotPlaces.{with_state}
use Rattle.exact_heap.proofs.LawsApart.{own_slot, own_found}
use Rattle.exact_heap.proofs.LawsCalls.{called_lawful, place_owner}
use Rattle.exact_heap.proofs.LawsFreed.{IsOwner, owner_found}
use Rattle.exact_heap.proofs.LawsPlacing.{request_fits, place_lawful}
use Rattle.exact_heap.proofs.LawsQuiet.{is_within}
use Rattle.exact_heap.proofs.LawsUnownedCalls.{owner_holds}
use Rattle.exact_heap.proofs.LawsMapped.{within_bounds}
use Rattle.exact_heap.proofs.LawsHeld.{InHeld, IsSpare, HasNew, new_found, PlacedWell, placed_well, FreedWell, freed_well}
use Rattle.exact_heap.proofs.LawsHeldCalls.{HasBytes, has_bytes}

-- ---- an owned object

pub owner_placed : (h : History) (w : Owner) → IsOwner h.objects w → IsLawful h → IsPlaced h.classes w.object
owner_placed h w k l = each_at (IsPlaced h.classes) k.first w.object k.last (subst (AllByRecursion (IsPlaced h.classes)) k.parts l.placed)

-- each address of its slot is held
owner_in_held : SlotLaws → (h : History) (w : Owner) → IsOwner h.objects w → IsLawful h → (a : ℕ) → slot_of w.object ≤ a → a < slot_of w.object + 2 ^ w.object.class → InHeld (slots_of h) a
owner_in_held laws h w k l a lo hi =
    let v = own_slot h.classes w.object (owner_placed h w k l).slot in
    record {
      slot = with_state (slots_of h) v.slot;
      found = same_places (places_of h.classes) (slots_of h) a v.slot refl (own_found laws h.classes w.object v a lo hi);
      held = ap (contains (held_by h.objects)) v.addr ∙ contains-held h.objects (slot_of w.object) ∙ owner_holds h.objects w k;
    }

-- its address is the one that it was found by
pub owner_address : (os : List Object) (a : ℕ) (w : Owner) → owner_of os a ≡ Some w → address_of w.object ≡ a
unfolding owner_of
owner_address os a w e = eqb-true (address_of w.object) a (and_parts (nat_eq (address_of w.object) a) (is_owned w.object.state) (last_splits (is_owned_at a) 0 os w e).1).0

-- ---- the copy

moved_bytes : SlotLaws → (rules : Rules) (size site : ℕ) (r : Request) (zeroed : Bool) (w : Owner) (before s : HeapState) (a : Result ℕ HeapRefusal) → r.front + size ≤ 2 ^ r.class → IsOwner before.history.objects w → IsOwner s.history.objects w
    → IsLawful before.history → IsLawful s.history → PlacedWell r zeroed before (record { state = s; answer = a })
    → ((d : ℕ) → d < min w.object.size size → is_some (before.memory.bytes (address_of w.object + d)) ≡ true) → CopiesBytes zeroed (address_of w.object) size w before (moved rules size site w s a)
moved_bytes laws rules size site r zeroed w before s (Err refusal) few j k lb l p mapped object d e lo = absurd (cc)
moved_bytes laws rules size site r zeroed w before s (Ok address) few j k lb l p mapped object d e lo =
    let same : address ≡ object = cc in
    subst (λ (x : ℕ). final.memory.bytes (x + d) ≡ cond (nat_lt d w.object.size) (before.memory.bytes (from + d)) (Some (new_byte zeroed before (x + d)))) same (stays (f.spares (address + d)) ∙ copy (cases_lt d w.object.size))
  where
    h : HasNew r zeroed before s address
    h = p.ends

    from : ℕ
    from = address_of w.object

    len : ℕ
    len = min w.object.size size

    bytes : List ℕ
    bytes = unwrap_or (span s.memory.bytes from len) []

    n : HeapState
    n = record s { memory = copied from address len s.memory }

    final : HeapState
    final = owner_freed rules site w n

    f : FreedWell w n final
    f = freed_well laws rules site w n k l

    -- the old object is held before and after the placement, so its bytes stay
    kept : (i : ℕ) → i < w.object.size → s.memory.bytes (from + i) ≡ before.memory.bytes (from + i)
    kept i few = at (p.spares (from + i))
      where
        high : from + i < slot_of w.object + 2 ^ w.object.class
        high = omega (arith, few, (owner_placed before.history w j lb).room.fits)

        at : (s.memory.bytes (from + i) ≡ before.memory.bytes (from + i)) ⊎ IsSpare before s (from + i) → s.memory.bytes (from + i) ≡ before.memory.bytes (from + i)
        at (inl q) = q
        at (inr m) = absurd (m.spare (owner_in_held laws before.history w j lb (from + i) (omega arith) high) (owner_in_held laws s.history w k l (from + i) (omega arith) high))

    -- the new object is held before and after the free
    here : slot_at (slots_of s.history) (address + d) ≡ Some h.there
    here = new_found laws r zeroed before s address h (address + d) (omega (arith, h.address)) (omega (arith, h.address, lo, few))

    held : contains (held_by s.history.objects) h.there.addr ≡ true
    held = ap (contains (held_by s.history.objects)) h.addr ∙ h.held

    apart : slot_of w.object ≡ h.there.addr → ⊥
    apart q = true≢false (sym (contains-held before.history.objects (slot_of w.object) ∙ owner_holds before.history.objects w j) ∙ ap (contains (held_by before.history.objects)) (q ∙ h.addr) ∙ h.unheld)

    stays : (final.memory.bytes (address + d) ≡ n.memory.bytes (address + d)) ⊎ IsSpare n final (address + d) → final.memory.bytes (address + d) ≡ n.memory.bytes (address + d)
    stays (inl q) = q
    stays (inr m) =
        absurd (m.spare (record { slot = h.there; found = here; held = held })
        (record { slot = with_state (slots_of final.history) h.there; found = same_places (slots_of n.history) (slots_of final.history) (address + d) h.there (sym f.classes) here; held = f.others h.there.addr held apart }))

    all : HasBytes s.memory.bytes from len
    all = has_bytes s.memory.bytes from len (λ i few. ap is_some (kept i (omega (arith, few))) ∙ mapped i few)

    bytes_are : bytes ≡ all.all
    bytes_are = ap (λ (o : Option (List ℕ)). unwrap_or o []) all.span_is

    inside : Bool → Option ℕ
    inside b = cond b (Some (slice_index bytes (address + d - address))) (s.memory.bytes (address + d))

    outside : len ≤ d → within address (length bytes) (address + d) ≡ true → ⊥
    outside far q = let w = within_bounds address (length bytes) (address + d) q in omega (arith, far, w.1, ap length bytes_are, all.count)

    copy : (d < w.object.size) ⊎ (w.object.size ≤ d) → inside (within address (length bytes) (address + d)) ≡ cond (nat_lt d w.object.size) (before.memory.bytes (from + d)) (Some (new_byte zeroed before (address + d)))
    copy (inl q) =
        let near : d < len = omega (arith, q, lo) in
        ap inside (is_within address (length bytes) (address + d) (omega arith) (omega (arith, near, ap length bytes_are, all.count)))
        ∙ ap (λ (xs : List ℕ). Some (slice_index xs (address + d - address))) bytes_are ∙ ap (λ (i : ℕ). Some (slice_index all.all i)) (let z : address + d - address ≡ d = omega arith in z)
        ∙ sym (all.each d near) ∙ kept d q
        ∙ sym (ap (λ (b : Bool). cond b (before.memory.bytes (from + d)) (Some (new_byte zeroed before (address + d)))) (lt-ltb d w.object.size q))
    copy (inr q) =
        ap inside (false_from_ne_true (within address (length bytes) (address + d)) (outside (omega (arith, q)))) ∙ h.bytes (address + d) (omega (arith, h.address)) (omega (arith, h.address, lo, few))
        ∙ sym (ap (λ (b : Bool). cond b (before.memory.bytes (from + d)) (Some (new_byte zeroed before (address + d)))) (le-ltb d w.object.size q))

resized_bytes : SlotLaws → (rules : Rules) (size site : ℕ) (s : HeapState) (w : Owner) → IsOwner s.history.objects w → IsLawful s.history → size ≤ size_limit
    → ((d : ℕ) → d < min w.object.size size → is_some (s.memory.bytes (address_of w.object + d)) ≡ true) → CopiesBytes rules.zero (address_of w.object) size w s (resized rules size site s (Some w))
resized_bytes laws rules size site s w k l small mapped = at (nat_lt size_limit size) (le-ltb size_limit size small)
  where
    r : Request
    r = request rules usual size site

    o : Outcome
    o = place r rules.zero s

    at : (b : Bool) → b ≡ false → CopiesBytes rules.zero (address_of w.object) size w s (cond b (answers 0 s) (replaced rules size site w o))
    at true q = absurd (true≢false q)
    at false q =
        let fit = request_fits rules usual size site usual_is small in
        moved_bytes laws rules size site r rules.zero w s o.state o.answer (omega (arith, fit.room.fits)) k (place_owner laws r rules.zero s w fit.class l k) l (place_lawful laws r rules.zero s fit l) (placed_well laws r rules.zero s fit l) mapped

pub realloc_copies : SlotLaws → ReallocCopies
unfolding realloc
realloc_copies laws rules old size site s w l some owner small mapped =
    subst (λ (x : ℕ). CopiesBytes rules.zero x size w s (cond (nat_eq old 0) (allocate rules rules.zero usual size site (called s)) (resized rules size site (called s) (owner_of s.history.objects old)))) (owner_address s.history.objects old w owner)
    (subst (λ (o : Option Owner). CopiesBytes rules.zero (address_of w.object) size w s (cond (nat_eq old 0) (allocate rules rules.zero usual size site (called s)) (resized rules size site (called s) o))) (sym owner)
    (subst (λ (b : Bool). CopiesBytes rules.zero (address_of w.object) size w s (cond b (allocate rules rules.zero usual size site (called s)) (resized rules size site (called s) (Some w)))) (sym some)
    (resized_bytes laws rules size site (called s) w (owner_found s.history.objects old w owner) (called_lawful s l) small (λ d few. ap (λ (x : ℕ). is_some (s.memory.bytes (x + d))) (owner_address s.history.objects old w owner) ∙ mapped d few))))
