-- The objects after each heap call.
use Rattle.std.proofs.Common.{◌≡◌, ℕ, zero, suc, ◌+◌, ◌*◌, refl, ap, sym, ◌∙◌, Bool, true, false, cond, not, ◌||◌, ◌⊎◌, inl, inr, arith, nat_eq, nat_lt, min, max, List, [], ◌∷◌, ◌++◌, length, map, Option, None, Some, Result, Ok, Err}
use Rattle.std.specs.Prelude.{slice_get}
use Rattle.std.specs.Option.{option_map}
use Rattle.std.proofs.lemmas.Bool.{cases_eq, eq-eqb, ne_eqb, eqb-true, ltb-false}
use Rattle.std.proofs.lemmas.List.{length-append, length-map}
use Rattle.miniheap.specs.Laws.{SlotLaws}
use Rattle.exact_heap.specs.declared.parts.Request.{Request}
use Rattle.exact_heap.specs.declared.signal.HeapRefusal.{HeapRefusal}
use Rattle.exact_heap.specs.declared.signal.HeapRefusal.TheVariants.{Room, Memory as NoMemory}
use Rattle.exact_heap.specs.History.{Object, slot_of, address_of}
use Rattle.exact_heap.specs.Owners.{Owner, owner_of, changed_from, changed_at}
use Rattle.exact_heap.specs.Placing.{HeapState, Rules, Outcome, request, released_object, place}
use Rattle.exact_heap.specs.Freeing.{owner_freed}
use Rattle.exact_heap.specs.Calls.{usual, is_alignment, called, answers, size_limit, allocate, malloc, memalign, calloc, freed_if, free, copied, moved, replaced, resized, realloc}
use Rattle.exact_heap.specs.Lawful.{IsAlignment, IsLawful}
use Rattle.exact_heap.specs.ObjectsAfter.{with_freed, AddsOne, CountsOneMore, ChangesOne, KeepsCount, PlaceEnds, AllocationEnds, MallocEnds, MemalignEnds, CallocEnds, objects_freed, FreeEnds, ReplaceEnds, ResizeEnds, ReallocEndsBy, ReallocEnds}
use Rattle.exact_heap.proofs.Alignments.{usual_is, asked_is}
use Rattle.exact_heap.proofs.Neighbours.{neighbours_objects}
use Rattle.exact_heap.proofs.LawsCalls.{called_lawful}
use Rattle.exact_heap.proofs.LawsPlacing.{request_fits}
use Rattle.exact_heap.proofs.LawsOneCall.{changed_at_length}
use Rattle.exact_heap.proofs.LawsHeld.{EndsNew, placed_well}

-- ---- one object more

adds_among : (clock : ℕ) (new : Object) (n : ℕ) (os : List Object) → slice_get (map (released_object clock) os ++ new ∷ []) n ≡ cond (nat_eq n (length os)) (Some new) (option_map (released_object clock) (slice_get os n))
adds_among clock new zero [] = refl
adds_among clock new (suc n) [] = sym (ap (λ (b : Bool). cond b (Some new) None) (ne_eqb (suc n) 0 (λ e. omega (arith, e))))
adds_among clock new zero (o ∷ os) = sym (ap (λ (b : Bool). cond b (Some new) (Some (released_object clock o))) (ne_eqb 0 (suc (length os)) (λ e. omega (arith, e))))
adds_among clock new (suc n) (o ∷ os) = adds_among clock new n os ∙ ap (λ (b : Bool). cond b (Some new) (option_map (released_object clock) (slice_get os n))) (same (cases_eq n (length os)))
  where
    same : (n ≡ length os) ⊎ (n ≡ length os → ⊥) → nat_eq n (length os) ≡ nat_eq (suc n) (suc (length os))
    same (inl e) = eq-eqb n (length os) e ∙ sym (eq-eqb (suc n) (suc (length os)) (ap suc e))
    same (inr m) = ne_eqb n (length os) m ∙ sym (ne_eqb (suc n) (suc (length os)) (λ e. m (omega (arith, e))))

pub adds_one : AddsOne
adds_one new n os = adds_among (length os + 1) new n os

pub counts_one_more : CountsOneMore
counts_one_more new os = omega (arith, length-append (map (released_object (length os + 1)) os) (new ∷ []), length-map os (released_object (length os + 1)))

-- ---- a change by number

changes_from : (f : Object → Object) (number from n : ℕ) (os : List Object) → slice_get (changed_from f number from os) n ≡ cond (nat_eq (from + n) number) (option_map f (slice_get os n)) (slice_get os n)
changes_from f number from n [] = same (nat_eq (from + n) number)
  where
    none : Option Object
    none = None

    same : (b : Bool) → none ≡ cond b none none
    same true = refl
    same false = refl
changes_from f number from zero (o ∷ os) = at (nat_eq from number) ∙ ap (λ (x : ℕ). cond (nat_eq x number) (Some (f o)) (Some o)) (let e : from ≡ from + 0 = omega arith in e)
  where
    at : (b : Bool) → slice_get (cond b (f o ∷ os) (o ∷ changed_from f number (from + 1) os)) 0 ≡ cond b (Some (f o)) (Some o)
    at true = refl
    at false = refl
changes_from f number from (suc n) (o ∷ os) = at (nat_eq from number) refl (changes_from f number (from + 1) n os)
  where
    further : from + 1 + n ≡ from + suc n
    further = omega arith

    other : nat_eq from number ≡ true → nat_eq (from + suc n) number ≡ false
    other q = ne_eqb (from + suc n) number (λ e. omega (arith, e, eqb-true from number q))

    at : (b : Bool) → nat_eq from number ≡ b → slice_get (changed_from f number (from + 1) os) n ≡ cond (nat_eq (from + 1 + n) number) (option_map f (slice_get os n)) (slice_get os n)
        → slice_get (cond b (f o ∷ os) (o ∷ changed_from f number (from + 1) os)) (suc n) ≡ cond (nat_eq (from + suc n) number) (option_map f (slice_get os n)) (slice_get os n)
    at true q h = ap (λ (b : Bool). cond b (option_map f (slice_get os n)) (slice_get os n)) (sym (other q))
    at false q h = h ∙ ap (λ (x : ℕ). cond (nat_eq x number) (option_map f (slice_get os n)) (slice_get os n)) further

pub changes_one : ChangesOne
unfolding changed_at
changes_one f number n os = changes_from f number 0 n os ∙ ap (λ (x : ℕ). cond (nat_eq x number) (option_map f (slice_get os n)) (slice_get os n)) (let e : 0 + n ≡ n = omega arith in e)

pub keeps_count : KeepsCount
keeps_count f number os = changed_at_length f number os

-- ---- an allocation

place_ends : (r : Request) (zeroed : Bool) (before s : HeapState) (a : Result ℕ HeapRefusal) → EndsNew r zeroed before s a → PlaceEnds r before s a
place_ends r zeroed before s (Ok answer) k = record { slot = k.slot; address = k.address; unheld = k.unheld; objects = k.objects }
place_ends r zeroed before s (Err (Room used wanted)) k = k
place_ends r zeroed before s (Err NoMemory) k = k

allocate_ends : SlotLaws → (rules : Rules) (zeroed : Bool) (align size site : ℕ) → IsAlignment align → (s : HeapState) → IsLawful s.history → AllocationEnds (nat_lt size_limit size) (request rules align size site) s (allocate rules zeroed align size site s)
allocate_ends laws rules zeroed align size site ok s l = at (nat_lt size_limit size) refl
  where
    r : Request
    r = request rules align size site

    at : (b : Bool) → nat_lt size_limit size ≡ b → AllocationEnds b r s (cond b (answers 0 s) (place r zeroed s))
    at true e = record { answer = refl; objects = refl }
    at false e = place_ends r zeroed s (place r zeroed s).state (place r zeroed s).answer (placed_well laws r zeroed s (request_fits rules align size site ok (ltb-false size_limit size e)) l).ends

-- a call more changes no object
before_call : (b : Bool) (r : Request) (s : HeapState) (o : Outcome) → AllocationEnds b r (called s) o → AllocationEnds b r s o
before_call true r s o k = record { answer = k.answer; objects = k.objects }
before_call false r s o k = at o.answer k
  where
    at : (a : Result ℕ HeapRefusal) → PlaceEnds r (called s) o.state a → PlaceEnds r s o.state a
    at (Ok answer) m = record { slot = m.slot; address = m.address; unheld = m.unheld; objects = m.objects }
    at (Err (Room used wanted)) m = m
    at (Err NoMemory) m = m

pub malloc_ends : SlotLaws → MallocEnds
unfolding malloc
malloc_ends laws rules size site s l =
    before_call (nat_lt size_limit size) (request rules usual size site) s (allocate rules rules.zero usual size site (called s)) (allocate_ends laws rules rules.zero usual size site usual_is (called s) (called_lawful s l))

pub memalign_ends : SlotLaws → MemalignEnds
unfolding memalign
memalign_ends laws rules align size site s l = at (is_alignment align) refl
  where
    r : Request
    r = request rules (max align usual) size site

    at : (b : Bool) → is_alignment align ≡ b → AllocationEnds (not b || nat_lt size_limit size) r s (cond b (allocate rules rules.zero (max align usual) size site (called s)) (answers 0 (called s)))
    at true e =
        before_call (nat_lt size_limit size) r s (allocate rules rules.zero (max align usual) size site (called s))
        (allocate_ends laws rules rules.zero (max align usual) size site (asked_is align e) (called s) (called_lawful s l))
    at false e = record { answer = refl; objects = refl }

pub calloc_ends : SlotLaws → CallocEnds
unfolding calloc
calloc_ends laws rules count each site s l =
    before_call (nat_lt size_limit (count * each)) (request rules usual (count * each) site) s (allocate rules true usual (count * each) site (called s))
    (allocate_ends laws rules true usual (count * each) site usual_is (called s) (called_lawful s l))

-- ---- the free of an owned object

pub owner_freed_objects : (rules : Rules) (site : ℕ) (w : Owner) (s : HeapState) → (owner_freed rules site w s).history.objects ≡ with_freed rules site w s.history.objects
unfolding owner_freed
owner_freed_objects rules site w s = ap (with_freed rules site w) (neighbours_objects (slot_of w.object) s)

pub free_ends : FreeEnds
unfolding free
free_ends rules address site s l = at (owner_of s.history.objects address)
  where
    at : (o : Option Owner) → (freed_if rules site o (called s)).history.objects ≡ objects_freed rules site o s.history.objects
    at None = refl
    at (Some w) = owner_freed_objects rules site w (called s)

-- ---- realloc

moved_ends : (rules : Rules) (size site : ℕ) (r : Request) (zeroed : Bool) (w : Owner) (before s : HeapState) (a : Result ℕ HeapRefusal) → EndsNew r zeroed before s a
    → ReplaceEnds rules site w r before (moved rules size site w s a).state (moved rules size site w s a).answer
moved_ends rules size site r zeroed w before s (Ok address) k = record {
  slot = k.slot;
  address = k.address;
  unheld = k.unheld;
  objects = owner_freed_objects rules site w (record s { memory = copied (address_of w.object) address (min w.object.size size) s.memory }) ∙ ap (with_freed rules site w) k.objects;
}
moved_ends rules size site r zeroed w before s (Err (Room used wanted)) k = k
moved_ends rules size site r zeroed w before s (Err NoMemory) k = k

resized_ends : SlotLaws → (rules : Rules) (size site : ℕ) (s : HeapState) (o : Option Owner) → IsLawful s.history → ResizeEnds (nat_lt size_limit size) rules site o (request rules usual size site) s (resized rules size site s o)
resized_ends laws rules size site s None l = record { answer = refl; objects = refl }
resized_ends laws rules size site s (Some w) l = at (nat_lt size_limit size) refl
  where
    r : Request
    r = request rules usual size site

    at : (b : Bool) → nat_lt size_limit size ≡ b → ResizeEnds b rules site (Some w) r s (cond b (answers 0 s) (replaced rules size site w (place r rules.zero s)))
    at true e = record { answer = refl; objects = refl }
    at false e =
        moved_ends rules size site r rules.zero w s (place r rules.zero s).state (place r rules.zero s).answer (placed_well laws r rules.zero s (request_fits rules usual size site usual_is (ltb-false size_limit size e)) l).ends

replace_before : (rules : Rules) (site : ℕ) (w : Owner) (r : Request) (s t : HeapState) (a : Result ℕ HeapRefusal) → ReplaceEnds rules site w r (called s) t a → ReplaceEnds rules site w r s t a
replace_before rules site w r s t (Ok answer) m = record { slot = m.slot; address = m.address; unheld = m.unheld; objects = m.objects }
replace_before rules site w r s t (Err (Room used wanted)) m = m
replace_before rules site w r s t (Err NoMemory) m = m

resize_before : (b : Bool) (rules : Rules) (site : ℕ) (w : Option Owner) (r : Request) (s : HeapState) (o : Outcome) → ResizeEnds b rules site w r (called s) o → ResizeEnds b rules site w r s o
resize_before b rules site None r s o k = record { answer = k.answer; objects = k.objects }
resize_before true rules site (Some w) r s o k = record { answer = k.answer; objects = k.objects }
resize_before false rules site (Some w) r s o k = replace_before rules site w r s o.state o.answer k

pub realloc_ends : SlotLaws → ReallocEnds
unfolding realloc
realloc_ends laws rules old size site s l = at (nat_eq old 0)
  where
    r : Request
    r = request rules usual size site

    at : (b : Bool) → ReallocEndsBy b (nat_lt size_limit size) rules site (owner_of s.history.objects old) r s (cond b (allocate rules rules.zero usual size site (called s)) (resized rules size site (called s) (owner_of s.history.objects old)))
    at true = before_call (nat_lt size_limit size) r s (allocate rules rules.zero usual size site (called s)) (allocate_ends laws rules rules.zero usual size site usual_is (called s) (called_lawful s l))
    at false =
        resize_before (nat_lt size_limit size) rules site (owner_of s.history.objects old) r s (resized rules size site (called s) (owner_of s.history.objects old))
        (resized_ends laws rules size site (called s) (owner_of s.history.objects old) (called_lawful s l))
