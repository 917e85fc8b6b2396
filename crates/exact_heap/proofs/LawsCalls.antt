-- Every call keeps a history lawful.
use Rattle.std.proofs.Common.{◌≡◌, ℕ, suc, ◌+◌, ◌*◌, ◌^◌, ◌≤◌, refl, ap, sym, ◌∙◌, subst, Bool, true, false, cond, arith, nat_eq, nat_lt, min, List, [], ◌∷◌, ◌++◌, length, map, append_assoc, Option, Some, None, Result, Ok, Err, max}
use Rattle.std.specs.List.{filter_map, cons_option}
use Rattle.std.specs.Ordering.{nat_cmp}
use Rattle.std.specs.FinSet.{len, contains-empty}
use Rattle.std.proofs.lemmas.Bool.{true≢false, ltb-false}
use Rattle.std.proofs.lemmas.List.{length-append, length-map}
use Rattle.std.proofs.lemmas.List.Elements.{All-nil}
use Rattle.miniheap.specs.Layout.{minis, all_slots}
use Rattle.miniheap.specs.Slots.{slot_at}
use Rattle.exact_heap.specs.declared.parts.Request.{Request}
use Rattle.exact_heap.specs.declared.signal.Signal.{Signal}
use Rattle.exact_heap.specs.declared.signal.HeapRefusal.{HeapRefusal}
use Rattle.exact_heap.specs.History.{ObjectState, Object, slots_of, address_of}
use Rattle.exact_heap.specs.Owners.{Owner, owner_of}
use Rattle.exact_heap.specs.Placing.{HeapState, Rules, Outcome, request, search, new_object, after_due, released_object, release_due, settled, place}
use Rattle.exact_heap.specs.Calls.{usual, is_alignment, memalign, called, answers, size_limit, allocate, malloc, calloc, freed_if, free, copied, moved, replaced, resized, realloc, end_signal, end_signals, check_end}
use Rattle.exact_heap.specs.Lawful.{IsAlignment, IsLawful}
use Rattle.exact_heap.specs.Laws.{IsClass, BeginsLawful, MallocIsLawful, MemalignIsLawful, CallocIsLawful, FreeIsLawful, ReallocIsLawful, EndIsLawful}
use Rattle.miniheap.specs.Laws.{SlotLaws}
use Rattle.exact_heap.proofs.Alignments.{usual_is, asked_is}
use Rattle.exact_heap.proofs.Objects.{contains-held}
use Rattle.exact_heap.proofs.LawsSearch.{search_whole}
use Rattle.exact_heap.proofs.LawsPlaced.{map-append}
use Rattle.exact_heap.proofs.LawsPlacing.{place_lawful, request_fits}
use Rattle.exact_heap.proofs.LawsFreed.{IsOwner, owner_found, owner_freed_lawful}

-- ---- the calls

pub called_lawful : (s : HeapState) → IsLawful s.history → IsLawful (called s).history
called_lawful s l = record { in_order = l.in_order; placed = l.placed; apart = l.apart; timed = l.timed; signals = l.signals }

allocate_lawful : SlotLaws → (rules : Rules) (zeroed : Bool) (align size site : ℕ) → IsAlignment align → (s : HeapState) → IsLawful s.history → IsLawful (allocate rules zeroed align size site s).state.history
allocate_lawful laws rules zeroed align size site ok s l = at (nat_lt size_limit size) refl
  where
    at : (b : Bool) → nat_lt size_limit size ≡ b → IsLawful (cond b (answers 0 s) (place (request rules align size site) zeroed s)).state.history
    at true e = l
    at false e = place_lawful laws (request rules align size site) zeroed s (request_fits rules align size site ok (ltb-false size_limit size e)) l

pub malloc_is_lawful : SlotLaws → MallocIsLawful
unfolding malloc
malloc_is_lawful laws rules size site s l = allocate_lawful laws rules rules.zero usual size site usual_is (called s) (called_lawful s l)

pub memalign_is_lawful : SlotLaws → MemalignIsLawful
unfolding memalign
memalign_is_lawful laws rules align size site s l = at (is_alignment align) refl
  where
    at : (b : Bool) → is_alignment align ≡ b → IsLawful (cond b (allocate rules rules.zero (max align usual) size site (called s)) (answers 0 (called s))).state.history
    at true e = allocate_lawful laws rules rules.zero (max align usual) size site (asked_is align e) (called s) (called_lawful s l)
    at false e = called_lawful s l

pub calloc_is_lawful : SlotLaws → CallocIsLawful
unfolding calloc
calloc_is_lawful laws rules count each site s l = allocate_lawful laws rules true usual (count * each) site usual_is (called s) (called_lawful s l)

pub free_is_lawful : SlotLaws → FreeIsLawful
unfolding free
free_is_lawful laws rules address site s l = at (owner_of s.history.objects address) refl
  where
    at : (o : Option Owner) → owner_of s.history.objects address ≡ o → IsLawful (freed_if rules site o (called s)).history
    at None e = called_lawful s l
    at (Some w) e = owner_freed_lawful laws rules site w (called s) (owner_found s.history.objects address w e) (called_lawful s l)

-- an owned object stays what it is while another is placed
pub owner_stays : (clock : ℕ) (os : List Object) (o : Object) (w : Owner) → IsOwner os w → IsOwner (map (released_object clock) (os ++ o ∷ [])) w
owner_stays clock os o w k =
    let f : Object → Object = released_object clock in
    let same : f w.object ≡ w.object = ap (λ (x : ObjectState). record w.object { state = x }) (ap (after_due clock) k.owned ∙ sym k.owned) in
    record {
      first = map f k.first;
      last = map f (k.last ++ o ∷ []);
      parts = ap (λ (xs : List Object). map f (xs ++ o ∷ [])) k.parts ∙ ap (map f) (append_assoc k.first (w.object ∷ k.last) (o ∷ [])) ∙ map-append f k.first (w.object ∷ (k.last ++ o ∷ []))
          ∙ ap (λ (x : Object). map f k.first ++ x ∷ map f (k.last ++ o ∷ [])) same;
      number = k.number ∙ sym (length-map k.first f);
      owned = k.owned;
    }

settled_owner : (r : Request) (zeroed : Bool) (s : HeapState) (a : Result ℕ HeapRefusal) (w : Owner) → IsOwner s.history.objects w → IsOwner (settled r zeroed s a).state.history.objects w
unfolding release_due
settled_owner r zeroed s (Err refusal) w k = k
settled_owner r zeroed s (Ok slot) w k = owner_stays (length (s.history.objects ++ new_object r slot ∷ [])) s.history.objects (new_object r slot) w k

pub place_owner : SlotLaws → (r : Request) (zeroed : Bool) (s : HeapState) (w : Owner) → IsClass r.class → IsLawful s.history → IsOwner s.history.objects w → IsOwner (place r zeroed s).state.history.objects w
unfolding place
place_owner laws r zeroed s w c l k = settled_owner r zeroed (search r.class s).state (search r.class s).answer w (subst (λ (os : List Object). IsOwner os w) (sym (search_whole laws r.class s l c).objects) k)

pub moved_lawful : SlotLaws → (rules : Rules) (size site : ℕ) (w : Owner) (s : HeapState) (a : Result ℕ HeapRefusal) → IsOwner s.history.objects w → IsLawful s.history → IsLawful (moved rules size site w s a).state.history
moved_lawful laws rules size site w s (Err refusal) k l = l
moved_lawful laws rules size site w s (Ok address) k l = owner_freed_lawful laws rules site w (record s { memory = copied (address_of w.object) address (min w.object.size size) s.memory }) k l

resized_lawful : SlotLaws → (rules : Rules) (size site : ℕ) (s : HeapState) (o : Option Owner) → ((w : Owner) → o ≡ Some w → IsOwner s.history.objects w) → IsLawful s.history → IsLawful (resized rules size site s o).state.history
resized_lawful laws rules size site s None k l = l
resized_lawful laws rules size site s (Some w) k l = at (nat_lt size_limit size) refl
  where
    at : (b : Bool) → nat_lt size_limit size ≡ b → IsLawful (cond b (answers 0 s) (replaced rules size site w (place (request rules usual size site) rules.zero s))).state.history
    at true e = l
    at false e =
        let fit = request_fits rules usual size site usual_is (ltb-false size_limit size e) in
        let o : Outcome = place (request rules usual size site) rules.zero s in
        moved_lawful laws rules size site w o.state o.answer (place_owner laws (request rules usual size site) rules.zero s w fit.class l (k w refl)) (place_lawful laws (request rules usual size site) rules.zero s fit l)

pub realloc_is_lawful : SlotLaws → ReallocIsLawful
unfolding realloc
realloc_is_lawful laws rules old size site s l = at (nat_eq old 0)
  where
    at : (b : Bool) → IsLawful (cond b (allocate rules rules.zero usual size site (called s)) (resized rules size site (called s) (owner_of s.history.objects old))).state.history
    at true = allocate_lawful laws rules rules.zero usual size site usual_is (called s) (called_lawful s l)
    at false = resized_lawful laws rules size site (called s) (owner_of s.history.objects old) (λ w e. owner_found s.history.objects old w e) (called_lawful s l)

-- ---- the end

few_given : {A B : Type 0} (f : A → Option B) (xs : List A) → length (filter_map f xs) ≤ length xs
few_given f [] = omega arith
few_given f (x ∷ xs) = at (f x) (few_given f xs)
  where
    at : (o : Option _) → length (filter_map f xs) ≤ length xs → length (cons_option o (filter_map f xs)) ≤ suc (length xs)
    at None h = omega arith
    at (Some y) h = omega arith

pub end_is_lawful : SlotLaws → EndIsLawful
unfolding check_end end_signals
end_is_lawful laws s l = at s.history.ended refl
  where
    found : List Signal
    found = filter_map (λ slot. end_signal s (slot_at (slots_of s.history) slot)) (all_slots (minis s.history.classes))

    at : (b : Bool) → s.history.ended ≡ b → IsLawful (cond b s.history (record s.history { signals = s.history.signals ++ found; ended = true }))
    at true e = l
    at false e =
        let few : length found ≤ length (all_slots (minis s.history.classes)) = few_given (λ slot. end_signal s (slot_at (slots_of s.history) slot)) (all_slots (minis s.history.classes)) in
        let old : length s.history.signals ≤ len s.history.bad + 0 = subst (λ (b : Bool). length s.history.signals ≤ len s.history.bad + cond b (2 ^ 31) 0) e l.signals in
        record {
          in_order = l.in_order;
          placed = l.placed;
          apart = l.apart;
          timed = l.timed;
          signals = omega (arith, old, few, laws.few (slots_of s.history), l.in_order.in_limit, length-append s.history.signals found);
        }

-- ---- the beginning

pub begins_lawful : BeginsLawful
begins_lawful seed = record {
  in_order = record {
    in_classes = All-nil (λ (c : ℕ). (4 ≤ c) × (c ≤ 22));
    in_limit = omega arith;
    held_slots = λ a h. absurd (true≢false (sym h ∙ contains-held [] a));
    bad_slots = λ a h. absurd (true≢false (sym h ∙ contains-empty nat_cmp a));
  };
  placed = tt;
  apart = tt;
  timed = tt;
  signals = omega arith;
}
