-- The same calls under other seeds leave the same objects, but for their addresses.
use Rattle.std.proofs.Common.{◌≡◌, ℕ, suc, ◌+◌, ◌*◌, ◌<◌, refl, ap, sym, ◌∙◌, subst, Bool, true, false, cond, ◌&&◌, arith, nat_eq, nat_lt, min, ◌⊎◌, inl, inr, List, [], ◌∷◌, ◌++◌, length, map, Option, Some, None, Result, Ok, Err, count_by, max}
use Rattle.std.specs.Prelude.{slice_get}
use Rattle.std.specs.List.{AllByRecursion}
use Rattle.std.specs.Option.{option_map}
use Rattle.std.specs.Ordering.{nat_cmp}
use Rattle.std.specs.FinSet.{FinSet, contains, empty, contains-empty}
use Rattle.std.proofs.lemmas.Bool.{and_parts, cases_eq, eq-eqb, eqb-true, ne_eqb, ltb-false}
use Rattle.std.proofs.lemmas.List.{length-append, length-map}
use Rattle.std.proofs.lemmas.List.Sums.{sum_by-cons}
use Rattle.std.proofs.lemmas.Option.{same_Some}
use Rattle.rv_memory.specs.Memory.{Memory}
use Rattle.miniheap.specs.Layout.{minis, class_slots}
use Rattle.miniheap.specs.Slots.{taken_count}
use Rattle.exact_heap.proofs.Alignments.{usual_is, asked_is}
use Rattle.exact_heap.proofs.Tallies.{count-cons}
use Rattle.exact_heap.specs.declared.parts.Request.{Request}
use Rattle.exact_heap.specs.declared.signal.HeapRefusal.{HeapRefusal}
use Rattle.exact_heap.specs.History.{Owned, Object, no_history, slot_of, is_owned, slots_of, clock_of, address_of}
use Rattle.exact_heap.specs.Owners.{Owner, is_owned_at, owner_of, changed_from, changed_at}
use Rattle.exact_heap.specs.Placing.{HeapState, Rules, Outcome, request, search, new_object, placed, released_object, release_due, settled, place}
use Rattle.exact_heap.specs.Freeing.{freed_object, deferral_of, owner_freed}
use Rattle.exact_heap.specs.Calls.{usual, is_alignment, memalign, called, answers, size_limit, allocate, malloc, calloc, freed_if, free, copied, moved, replaced, resized, realloc}
use Rattle.exact_heap.specs.Lawful.{IsAlignment, Fits, places_of, IsPlaced, IsLawful}
use Rattle.exact_heap.specs.Laws.{IsClass, holds_in, IsAlike, AnswerAlike, unplaced, number_at, IsQuiet, IsUnharmed, AreIsomorphic, AnswerSame, EndIsomorphic, BeginsIsomorphic, MallocIsSame, MemalignIsSame, CallocIsSame, FreeIsSame, ReallocIsSame}
use Rattle.miniheap.specs.Laws.{SlotLaws}
use Rattle.exact_heap.proofs.Objects.{each_at, last_splits, owner_of_parts}
use Rattle.exact_heap.proofs.LawsSearch.{search_whole}
use Rattle.exact_heap.proofs.LawsApart.{own_slot}
use Rattle.exact_heap.proofs.LawsPlaced.{map-append}
use Rattle.exact_heap.proofs.LawsQuiet.{places_quietly}
use Rattle.exact_heap.proofs.LawsAlike.{places_alike}
use Rattle.exact_heap.proofs.LawsCounted.{taken_are_counted}
use Rattle.exact_heap.proofs.LawsPlacing.{request_fits, place_lawful}
use Rattle.exact_heap.proofs.LawsNeighbours.{lawful_neighbours}
use Rattle.exact_heap.proofs.LawsFreed.{IsOwner, owner_found, owner_freed_lawful}
use Rattle.exact_heap.proofs.LawsCalls.{place_owner, free_is_lawful, realloc_is_lawful, begins_lawful}
use Rattle.exact_heap.proofs.LawsQuietCalls.{free_is_quiet, realloc_is_quiet, begins_whole}

-- ---- as many slots of a class are taken

count_unplaced : (class : ℕ) (os : List Object) → count_by (holds_in class) (map unplaced os) ≡ count_by (holds_in class) os
count_unplaced class [] = refl
count_unplaced class (o ∷ os) =
    let f : Object → ℕ = λ x. cond (holds_in class x) 1 0 in
    omega (arith, sum_by-cons f (unplaced o) (map unplaced os), sum_by-cons f o os, count_unplaced class os)

none_bad : (bad : FinSet nat_cmp) (xs : List ℕ) → bad ≡ empty → count_by (contains bad) xs ≡ 0
none_bad bad [] e = refl
none_bad bad (x ∷ xs) e =
    let n : contains bad x ≡ false = ap (λ (b : FinSet nat_cmp). contains b x) e ∙ contains-empty nat_cmp x in
    let z : cond (contains bad x) 1 0 ≡ 0 = ap (λ (b : Bool). let k : ℕ = cond b 1 0 in k) n in
    omega (arith, count-cons (contains bad) x xs, z, none_bad bad xs e)

taken_in : SlotLaws → (s : HeapState) (class : ℕ) → IsUnharmed s → taken_count (slots_of s.history) class ≡ count_by (holds_in class) (map unplaced s.history.objects)
taken_in laws s class u = omega (arith, taken_are_counted laws s.history class u.lawful, none_bad s.history.bad (class_slots class (minis s.history.classes)) u.good, count_unplaced class s.history.objects)

pub isomorphic_alike : SlotLaws → (class : ℕ) (s t : HeapState) → AreIsomorphic s t → IsAlike class s t
isomorphic_alike laws class s t i = record { classes = i.classes; taken = taken_in laws s class i.one ∙ ap (λ (os : List Object). count_by (holds_in class) os) i.objects ∙ sym (taken_in laws t class i.other) }

-- ---- objects without their addresses

unplaced_released : (clock : ℕ) (os : List Object) → map unplaced (map (released_object clock) os) ≡ map (released_object clock) (map unplaced os)
unplaced_released clock [] = refl
unplaced_released clock (o ∷ os) = ap (λ (xs : List Object). unplaced (released_object clock o) ∷ xs) (unplaced_released clock os)

unplaced_changed : (clock deferral site n from : ℕ) (os : List Object) → map unplaced (changed_from (freed_object clock deferral site) n from os) ≡ changed_from (freed_object clock deferral site) n from (map unplaced os)
unplaced_changed clock deferral site n from [] = refl
unplaced_changed clock deferral site n from (o ∷ os) = at (nat_eq from n) (unplaced_changed clock deferral site n (from + 1) os)
  where
    f : Object → Object
    f = freed_object clock deferral site

    at : (b : Bool) → map unplaced (changed_from f n (from + 1) os) ≡ changed_from f n (from + 1) (map unplaced os)
        → map unplaced (cond b (f o ∷ os) (o ∷ changed_from f n (from + 1) os)) ≡ cond b (f (unplaced o) ∷ map unplaced os) (unplaced o ∷ changed_from f n (from + 1) (map unplaced os))
    at true e = refl
    at false e = ap (λ (xs : List Object). unplaced o ∷ xs) e

same_length : (os ps : List Object) → map unplaced os ≡ map unplaced ps → length os ≡ length ps
same_length os ps e = sym (length-map os unplaced) ∙ ap length e ∙ length-map ps unplaced

got_at : (first : List Object) (o : Object) (last : List Object) → slice_get (map unplaced (first ++ o ∷ last)) (length first) ≡ Some (unplaced o)
got_at [] o last = refl
got_at (x ∷ first) o last = got_at first o last

-- objects of the same number are the same but for their addresses
same_owner : (os ps : List Object) (w v : Owner) → IsOwner os w → IsOwner ps v → map unplaced os ≡ map unplaced ps → w.number ≡ v.number → unplaced w.object ≡ unplaced v.object
same_owner os ps w v k m e n =
    same_Some (unplaced w.object) (unplaced v.object)
    (sym (got_at k.first w.object k.last) ∙ ap (λ (i : ℕ). slice_get (map unplaced (k.first ++ w.object ∷ k.last)) i) (sym k.number ∙ n) ∙ ap (λ (xs : List Object). slice_get (map unplaced xs) v.number) (sym k.parts)
    ∙ ap (λ (xs : List Object). slice_get xs v.number) e ∙ ap (λ (xs : List Object). slice_get (map unplaced xs) v.number) m.parts
    ∙ ap (slice_get (map unplaced (m.first ++ v.object ∷ m.last))) m.number ∙ got_at m.first v.object m.last)

-- ---- who owns an address

owner_address : (os : List Object) (a : ℕ) (w : Owner) → owner_of os a ≡ Some w → address_of w.object ≡ a
unfolding owner_of
owner_address os a w e = eqb-true (address_of w.object) a (and_parts (nat_eq (address_of w.object) a) (is_owned w.object.state) (last_splits (is_owned_at a) 0 os w e).1).0

-- no object is at address 0
none_at_0 : SlotLaws → (s : HeapState) → IsLawful s.history → number_at s 0 ≡ None
none_at_0 laws s l = at (owner_of s.history.objects 0) refl
  where
    at : (o : Option Owner) → owner_of s.history.objects 0 ≡ o → option_map (λ w. w.number) o ≡ None
    at None e = refl
    at (Some w) e =
        let k = owner_found s.history.objects 0 w e in
        let p : IsPlaced s.history.classes w.object = each_at (IsPlaced s.history.classes) k.first w.object k.last (subst (AllByRecursion (IsPlaced s.history.classes)) k.parts l.placed) in
        let v = own_slot s.history.classes w.object p.slot in
        absurd (omega (arith, (laws.within (places_of s.history.classes) (slot_of w.object) v.slot v.found).0, v.addr, owner_address s.history.objects 0 w e))

-- the last object is the owner of its address
pub newest_owner : (os : List Object) (o : Object) → o.state ≡ Owned → owner_of (os ++ o ∷ []) (address_of o) ≡ Some (record { number = length os; object = o })
newest_owner os o e =
    owner_of_parts os o [] (address_of o) (ap (λ (b : Bool). b && is_owned o.state) (eq-eqb (address_of o) (address_of o) refl) ∙ ap is_owned e) tt

-- the last of so many objects is owned at an address
record HasNewest (s : HeapState) (count a : ℕ) : Type 0 where
  others : List Object
  newest : Object
  parts : s.history.objects ≡ others ++ newest ∷ []
  owned : newest.state ≡ Owned
  at_address : address_of newest ≡ a
  number : length others ≡ count

newest_number : (s : HeapState) (count a : ℕ) → HasNewest s count a → IsLawful s.history → number_at s a ≡ Some count
newest_number s count a k l =
    ap (option_map (λ (w : Owner). w.number))
    (ap (owner_of s.history.objects) (sym k.at_address) ∙ ap (λ (os : List Object). owner_of os (address_of k.newest)) k.parts ∙ newest_owner k.others k.newest k.owned)
    ∙ ap (λ (n : ℕ). Some n) k.number

abbrev NewestIn : (s : HeapState) (count : ℕ) → Result ℕ HeapRefusal → Type 0
NewestIn s count (Ok a) = HasNewest s count a
NewestIn s count (Err refusal) = Unit {0}

answer_same : (s t : HeapState) (n m : ℕ) (a b : Result ℕ HeapRefusal) → AnswerAlike a b → NewestIn s n a → NewestIn t m b → n ≡ m → IsLawful s.history → IsLawful t.history → AnswerSame s t a b
answer_same s t n m (Ok a) (Ok b) k x y e l p = newest_number s n a x l ∙ ap (λ (i : ℕ). Some i) e ∙ sym (newest_number t m b y p)
answer_same s t n m (Ok a) (Err refusal) k x y e l p = absurd k
answer_same s t n m (Err refusal) (Ok b) k x y e l p = absurd k
answer_same s t n m (Err refusal) (Err other) k x y e l p = k

-- ---- placement

-- two outcomes have the same miniheaps and objects, and answer the same
record SameEnd (a b : Outcome) : Type 0 where
  classes : a.state.history.classes ≡ b.state.history.classes
  objects : map unplaced a.state.history.objects ≡ map unplaced b.state.history.objects
  answers : AnswerSame a.state b.state a.answer b.answer

unharmed : (s r : HeapState) → IsUnharmed s → IsLawful r.history → IsQuiet s r → IsUnharmed r
unharmed s r u l q = record { lawful = l; whole = q.whole; good = q.bad ∙ u.good }

abbrev with_newest : Request → List Object → List Object
with_newest r os = map (released_object (length os + 1)) (os ++ new_object r 0 ∷ [])

settled_objects : (r : Request) (zeroed : Bool) (slot : ℕ) (s : HeapState) → map unplaced (release_due (placed r zeroed slot s)).history.objects ≡ with_newest r (map unplaced s.history.objects)
unfolding release_due
settled_objects r zeroed slot s =
    let os : List Object = s.history.objects in
    let n : length (os ++ new_object r slot ∷ []) ≡ length (map unplaced os) + 1 = omega (arith, length-append os (new_object r slot ∷ []), length-map os unplaced) in
    unplaced_released (length (os ++ new_object r slot ∷ [])) (os ++ new_object r slot ∷ [])
    ∙ ap (map (released_object (length (os ++ new_object r slot ∷ [])))) (map-append unplaced os (new_object r slot ∷ []))
    ∙ ap (λ (i : ℕ). map (released_object i) (map unplaced os ++ new_object r 0 ∷ [])) n

settled_newest : (r : Request) (zeroed : Bool) (s : HeapState) (a : Result ℕ HeapRefusal) → NewestIn (settled r zeroed s a).state (length s.history.objects) (settled r zeroed s a).answer
unfolding release_due
settled_newest r zeroed s (Err refusal) = tt
settled_newest r zeroed s (Ok slot) =
    let f : Object → Object = released_object (length (s.history.objects ++ new_object r slot ∷ [])) in
    record { others = map f s.history.objects; newest = new_object r slot; parts = map-append f s.history.objects (new_object r slot ∷ []); owned = refl; at_address = refl; number = length-map s.history.objects f }

settled_same : (r : Request) (zeroed : Bool) (s t : HeapState) (a b : Result ℕ HeapRefusal) → AnswerAlike a b → map unplaced s.history.objects ≡ map unplaced t.history.objects
    → map unplaced (settled r zeroed s a).state.history.objects ≡ map unplaced (settled r zeroed t b).state.history.objects
settled_same r zeroed s t (Ok x) (Ok y) k e = settled_objects r zeroed x s ∙ ap (with_newest r) e ∙ sym (settled_objects r zeroed y t)
settled_same r zeroed s t (Ok x) (Err refusal) k e = absurd k
settled_same r zeroed s t (Err refusal) (Ok y) k e = absurd k
settled_same r zeroed s t (Err refusal) (Err other) k e = e

-- answers are alike as the slots that were found
settled_alike : (r : Request) (zeroed : Bool) (s t : HeapState) (a b : Result ℕ HeapRefusal) → AnswerAlike (settled r zeroed s a).answer (settled r zeroed t b).answer → AnswerAlike a b
settled_alike r zeroed s t (Ok x) (Ok y) k = tt
settled_alike r zeroed s t (Ok x) (Err refusal) k = k
settled_alike r zeroed s t (Err refusal) (Ok y) k = k
settled_alike r zeroed s t (Err refusal) (Err other) k = k

place_objects : SlotLaws → (r : Request) (zeroed : Bool) (s t : HeapState) → IsClass r.class → AreIsomorphic s t → AnswerAlike (place r zeroed s).answer (place r zeroed t).answer
    → map unplaced (place r zeroed s).state.history.objects ≡ map unplaced (place r zeroed t).state.history.objects
unfolding place
place_objects laws r zeroed s t c i k =
    settled_same r zeroed (search r.class s).state (search r.class t).state (search r.class s).answer (search r.class t).answer
    (settled_alike r zeroed (search r.class s).state (search r.class t).state (search r.class s).answer (search r.class t).answer k)
    (ap (map unplaced) (search_whole laws r.class s i.one.lawful c).objects ∙ i.objects ∙ sym (ap (map unplaced) (search_whole laws r.class t i.other.lawful c).objects))

place_newest : SlotLaws → (r : Request) (zeroed : Bool) (s : HeapState) → IsClass r.class → IsLawful s.history → NewestIn (place r zeroed s).state (length s.history.objects) (place r zeroed s).answer
unfolding place
place_newest laws r zeroed s c l =
    subst (λ (n : ℕ). NewestIn (settled r zeroed (search r.class s).state (search r.class s).answer).state n (settled r zeroed (search r.class s).state (search r.class s).answer).answer)
    (ap length (search_whole laws r.class s l c).objects) (settled_newest r zeroed (search r.class s).state (search r.class s).answer)

pub place_isomorphic : SlotLaws → (r : Request) (zeroed : Bool) (s t : HeapState) → Fits r → AreIsomorphic s t → EndIsomorphic (place r zeroed s) (place r zeroed t)
place_isomorphic laws r zeroed s t fit i =
    let e = places_alike laws s t r zeroed i.one.lawful i.other.lawful fit.class i.one.whole i.other.whole (isomorphic_alike laws r.class s t i) in
    let l = place_lawful laws r zeroed s fit i.one.lawful in
    let m = place_lawful laws r zeroed t fit i.other.lawful in
    record {
      states = record {
        one = unharmed s (place r zeroed s).state i.one l (places_quietly laws s r zeroed i.one.lawful fit.class i.one.whole);
        other = unharmed t (place r zeroed t).state i.other m (places_quietly laws t r zeroed i.other.lawful fit.class i.other.whole);
        classes = e.classes;
        objects = place_objects laws r zeroed s t fit.class i e.answers;
      };
      answers = answer_same (place r zeroed s).state (place r zeroed t).state (length s.history.objects) (length t.history.objects) (place r zeroed s).answer (place r zeroed t).answer e.answers
          (place_newest laws r zeroed s fit.class i.one.lawful) (place_newest laws r zeroed t fit.class i.other.lawful) (same_length s.history.objects t.history.objects i.objects) l m;
    }

-- ---- malloc and calloc

called_isomorphic : (s t : HeapState) → AreIsomorphic s t → AreIsomorphic (called s) (called t)
called_isomorphic s t i = record { one = one s i.one; other = one t i.other; classes = i.classes; objects = i.objects }
  where
    one : (r : HeapState) → IsUnharmed r → IsUnharmed (called r)
    one r u = record { lawful = record { in_order = u.lawful.in_order; placed = u.lawful.placed; apart = u.lawful.apart; timed = u.lawful.timed; signals = u.lawful.signals }; whole = λ a x e f. u.whole a x e f; good = u.good }

zero_same : SlotLaws → (s t : HeapState) → AreIsomorphic s t → EndIsomorphic (answers 0 s) (answers 0 t)
zero_same laws s t i = record { states = i; answers = none_at_0 laws s i.one.lawful ∙ sym (none_at_0 laws t i.other.lawful) }

allocate_isomorphic : SlotLaws → (rules : Rules) (zeroed : Bool) (align size site : ℕ) → IsAlignment align → (s t : HeapState) → AreIsomorphic s t → EndIsomorphic (allocate rules zeroed align size site s) (allocate rules zeroed align size site t)
allocate_isomorphic laws rules zeroed align size site ok s t i = at (nat_lt size_limit size) refl
  where
    at : (b : Bool) → nat_lt size_limit size ≡ b → EndIsomorphic (cond b (answers 0 s) (place (request rules align size site) zeroed s)) (cond b (answers 0 t) (place (request rules align size site) zeroed t))
    at true e = zero_same laws s t i
    at false e = place_isomorphic laws (request rules align size site) zeroed s t (request_fits rules align size site ok (ltb-false size_limit size e)) i

pub malloc_is_same : SlotLaws → MallocIsSame
unfolding malloc
malloc_is_same laws rules size site s t i = allocate_isomorphic laws rules rules.zero usual size site usual_is (called s) (called t) (called_isomorphic s t i)

pub memalign_is_same : SlotLaws → MemalignIsSame
unfolding memalign
memalign_is_same laws rules align size site s t i = at (is_alignment align) refl
  where
    at : (b : Bool) → is_alignment align ≡ b
        → EndIsomorphic (cond b (allocate rules rules.zero (max align usual) size site (called s)) (answers 0 (called s))) (cond b (allocate rules rules.zero (max align usual) size site (called t)) (answers 0 (called t)))
    at true e = allocate_isomorphic laws rules rules.zero (max align usual) size site (asked_is align e) (called s) (called t) (called_isomorphic s t i)
    at false e = zero_same laws (called s) (called t) (called_isomorphic s t i)

pub calloc_is_same : SlotLaws → CallocIsSame
unfolding calloc
calloc_is_same laws rules count each site s t i = allocate_isomorphic laws rules true usual (count * each) site usual_is (called s) (called t) (called_isomorphic s t i)

-- ---- the free of an owned object

pub owner_freed_objects : SlotLaws → (rules : Rules) (site : ℕ) (w : Owner) (s : HeapState) → IsLawful s.history
    → (owner_freed rules site w s).history.objects ≡ changed_at (freed_object (clock_of s.history) (deferral_of rules w.object site) site) w.number s.history.objects
unfolding owner_freed
owner_freed_objects laws rules site w s l = ap (λ (os : List Object). changed_at (freed_object (length os) (deferral_of rules w.object site) site) w.number os) (lawful_neighbours laws (slot_of w.object) s l).objects

owner_freed_classes : SlotLaws → (rules : Rules) (site : ℕ) (w : Owner) (s : HeapState) → IsLawful s.history → (owner_freed rules site w s).history.classes ≡ s.history.classes
unfolding owner_freed
owner_freed_classes laws rules site w s l = (lawful_neighbours laws (slot_of w.object) s l).classes

changed_unplaced : (clock deferral site n : ℕ) (os : List Object) → map unplaced (changed_at (freed_object clock deferral site) n os) ≡ changed_at (freed_object clock deferral site) n (map unplaced os)
unfolding changed_at
changed_unplaced clock deferral site n os = unplaced_changed clock deferral site n 0 os

freed_same : SlotLaws → (rules : Rules) (site : ℕ) (w v : Owner) (s t : HeapState) → IsLawful s.history → IsLawful t.history → IsOwner s.history.objects w → IsOwner t.history.objects v
    → map unplaced s.history.objects ≡ map unplaced t.history.objects → w.number ≡ v.number → map unplaced (owner_freed rules site w s).history.objects ≡ map unplaced (owner_freed rules site v t).history.objects
freed_same laws rules site w v s t l m k j e n =
    let d : deferral_of rules w.object site ≡ deferral_of rules v.object site = ap (λ (o : Object). deferral_of rules o site) (same_owner s.history.objects t.history.objects w v k j e n) in
    ap (map unplaced) (owner_freed_objects laws rules site w s l) ∙ changed_unplaced (length s.history.objects) (deferral_of rules w.object site) site w.number s.history.objects
    ∙ ap (λ (c : ℕ). changed_at (freed_object c (deferral_of rules w.object site) site) w.number (map unplaced s.history.objects)) (same_length s.history.objects t.history.objects e)
    ∙ ap (λ (x : ℕ). changed_at (freed_object (length t.history.objects) x site) w.number (map unplaced s.history.objects)) d
    ∙ ap (λ (i : ℕ). changed_at (freed_object (length t.history.objects) (deferral_of rules v.object site) site) i (map unplaced s.history.objects)) n
    ∙ ap (changed_at (freed_object (length t.history.objects) (deferral_of rules v.object site) site) v.number) e
    ∙ sym (ap (map unplaced) (owner_freed_objects laws rules site v t m) ∙ changed_unplaced (length t.history.objects) (deferral_of rules v.object site) site v.number t.history.objects)

-- two heaps at which the same is owned
record Freed (s t : HeapState) : Type 0 where
  classes : s.history.classes ≡ t.history.classes
  objects : map unplaced s.history.objects ≡ map unplaced t.history.objects

free_objects : SlotLaws → (rules : Rules) (a b site : ℕ) (s t : HeapState) → AreIsomorphic s t → number_at s a ≡ number_at t b → Freed (free rules a site s) (free rules b site t)
unfolding free
free_objects laws rules a b site s t i n = at (owner_of s.history.objects a) (owner_of t.history.objects b) refl refl n
  where
    j : AreIsomorphic (called s) (called t)
    j = called_isomorphic s t i

    at : (o p : Option Owner) → owner_of s.history.objects a ≡ o → owner_of t.history.objects b ≡ p → option_map (λ w. w.number) o ≡ option_map (λ w. w.number) p → Freed (freed_if rules site o (called s)) (freed_if rules site p (called t))
    at None None e f m = record { classes = i.classes; objects = i.objects }
    at None (Some v) e f m = absurd (cc)
    at (Some w) None e f m = absurd (cc)
    at (Some w) (Some v) e f m = record {
      classes = owner_freed_classes laws rules site w (called s) j.one.lawful ∙ i.classes ∙ sym (owner_freed_classes laws rules site v (called t) j.other.lawful);
      objects = freed_same laws rules site w v (called s) (called t) j.one.lawful j.other.lawful (owner_found s.history.objects a w e) (owner_found t.history.objects b v f) i.objects (same_Some w.number v.number m);
    }

pub free_is_same : SlotLaws → FreeIsSame
free_is_same laws rules a b site s t i n =
    let f = free_objects laws rules a b site s t i n in
    record {
      one = unharmed s (free rules a site s) i.one (free_is_lawful laws rules a site s i.one.lawful) (free_is_quiet laws rules a site s i.one.lawful i.one.whole);
      other = unharmed t (free rules b site t) i.other (free_is_lawful laws rules b site t i.other.lawful) (free_is_quiet laws rules b site t i.other.lawful i.other.whole);
      classes = f.classes;
      objects = f.objects;
    }

-- ---- realloc

length-changed : (f : Object → Object) (n from : ℕ) (os : List Object) → length (changed_from f n from os) ≡ length os
length-changed f n from [] = refl
length-changed f n from (o ∷ os) = at (nat_eq from n) (length-changed f n (from + 1) os)
  where
    at : (b : Bool) → length (changed_from f n (from + 1) os) ≡ length os → length (cond b (f o ∷ os) (o ∷ changed_from f n (from + 1) os)) ≡ suc (length os)
    at true e = refl
    at false e = ap suc e

changed_push : (f : Object → Object) (n from : ℕ) (os : List Object) (x : Object) → n < from + length os → changed_from f n from (os ++ x ∷ []) ≡ changed_from f n from os ++ x ∷ []
changed_push f n from [] x h = ap (λ (b : Bool). cond b (f x ∷ []) (x ∷ changed_from f n (from + 1) [])) (ne_eqb from n (λ e. omega (arith, h, e)))
changed_push f n from (o ∷ os) x h = at (cases_eq from n) (changed_push f n (from + 1) os x)
  where
    at : (from ≡ n) ⊎ (from ≡ n → ⊥) → (n < from + 1 + length os → changed_from f n (from + 1) (os ++ x ∷ []) ≡ changed_from f n (from + 1) os ++ x ∷ [])
        → changed_from f n from (o ∷ (os ++ x ∷ [])) ≡ changed_from f n from (o ∷ os) ++ x ∷ []
    at (inl e) r =
        let t : nat_eq from n ≡ true = eq-eqb from n e in
        ap (λ (b : Bool). cond b (f o ∷ (os ++ x ∷ [])) (o ∷ changed_from f n (from + 1) (os ++ x ∷ []))) t ∙ sym (ap (λ (b : Bool). cond b (f o ∷ os) (o ∷ changed_from f n (from + 1) os) ++ x ∷ []) t)
    at (inr e) r =
        let t : nat_eq from n ≡ false = ne_eqb from n e in
        ap (λ (b : Bool). cond b (f o ∷ (os ++ x ∷ [])) (o ∷ changed_from f n (from + 1) (os ++ x ∷ []))) t
        ∙ ap (λ (xs : List Object). o ∷ xs) (r (omega (arith, h, e)))
        ∙ sym (ap (λ (b : Bool). cond b (f o ∷ os) (o ∷ changed_from f n (from + 1) os) ++ x ∷ []) t)

changed_at_push : (f : Object → Object) (n : ℕ) (os : List Object) (x : Object) → n < length os → changed_at f n (os ++ x ∷ []) ≡ changed_from f n 0 os ++ x ∷ []
unfolding changed_at
changed_at_push f n os x h = changed_push f n 0 os x (omega (arith, h))

freed_newest : SlotLaws → (rules : Rules) (site : ℕ) (w : Owner) (s : HeapState) (count a : ℕ) → IsLawful s.history → HasNewest s count a → w.number < count → HasNewest (owner_freed rules site w s) count a
freed_newest laws rules site w s count a l k h =
    let f : Object → Object = freed_object (clock_of s.history) (deferral_of rules w.object site) site in
    record {
      others = changed_from f w.number 0 k.others;
      newest = k.newest;
      parts = owner_freed_objects laws rules site w s l ∙ ap (changed_at f w.number) k.parts ∙ changed_at_push f w.number k.others k.newest (omega (arith, h, k.number));
      owned = k.owned;
      at_address = k.at_address;
      number = length-changed f w.number 0 k.others ∙ k.number;
    }

-- an owner's number is below the number of objects
owner_below : (os : List Object) (w : Owner) → IsOwner os w → w.number < length os
owner_below os w k = omega (arith, k.number, ap length k.parts, length-append k.first (w.object ∷ k.last))

-- an owner in a heap to which so many objects came
record IsOld (s : HeapState) (count : ℕ) (w : Owner) : Type 0 where
  lawful : IsLawful s.history
  owner : IsOwner s.history.objects w
  below : w.number < count

moved_same : SlotLaws → (rules : Rules) (size site : ℕ) (w v : Owner) (s t : HeapState) (n m : ℕ) (a b : Result ℕ HeapRefusal) → AreIsomorphic s t → AnswerSame s t a b → NewestIn s n a → NewestIn t m b → n ≡ m → IsOld s n w → IsOld t m v → w.number ≡ v.number
    → SameEnd (moved rules size site w s a) (moved rules size site v t b)
moved_same laws rules size site w v s t n m (Ok x) (Err refusal) i k c d e p q f = absurd k
moved_same laws rules size site w v s t n m (Err refusal) (Ok y) i k c d e p q f = absurd k
moved_same laws rules size site w v s t n m (Err refusal) (Err other) i k c d e p q f = record { classes = i.classes; objects = i.objects; answers = k }
moved_same laws rules size site w v s t n m (Ok x) (Ok y) i k c d e p q f =
    let r : HeapState = record s { memory = copied (address_of w.object) x (min w.object.size size) s.memory } in
    let u : HeapState = record t { memory = copied (address_of v.object) y (min v.object.size size) t.memory } in
    let c' : HasNewest r n x = record { others = c.others; newest = c.newest; parts = c.parts; owned = c.owned; at_address = c.at_address; number = c.number } in
    let d' : HasNewest u m y = record { others = d.others; newest = d.newest; parts = d.parts; owned = d.owned; at_address = d.at_address; number = d.number } in
    record {
      classes = owner_freed_classes laws rules site w r p.lawful ∙ i.classes ∙ sym (owner_freed_classes laws rules site v u q.lawful);
      objects = freed_same laws rules site w v r u p.lawful q.lawful p.owner q.owner i.objects f;
      answers = newest_number (owner_freed rules site w r) n x (freed_newest laws rules site w r n x p.lawful c' p.below) (owner_freed_lawful laws rules site w r p.owner p.lawful) ∙ ap (λ (z : ℕ). Some z) e
          ∙ sym (newest_number (owner_freed rules site v u) m y (freed_newest laws rules site v u m y q.lawful d' q.below) (owner_freed_lawful laws rules site v u q.owner q.lawful));
    }

same_end : (a b : Outcome) → EndIsomorphic a b → SameEnd a b
same_end a b e = record { classes = e.states.classes; objects = e.states.objects; answers = e.answers }

replaced_same : SlotLaws → (rules : Rules) (size site : ℕ) (w v : Owner) (s t : HeapState) → Fits (request rules usual size site) → AreIsomorphic s t → IsOwner s.history.objects w → IsOwner t.history.objects v → w.number ≡ v.number
    → SameEnd (replaced rules size site w (place (request rules usual size site) rules.zero s)) (replaced rules size site v (place (request rules usual size site) rules.zero t))
replaced_same laws rules size site w v s t fit i k j e =
    let r : Request = request rules usual size site in
    let p = place_isomorphic laws r rules.zero s t fit i in
    moved_same laws rules size site w v (place r rules.zero s).state (place r rules.zero t).state (length s.history.objects) (length t.history.objects) (place r rules.zero s).answer (place r rules.zero t).answer p.states p.answers
    (place_newest laws r rules.zero s fit.class i.one.lawful) (place_newest laws r rules.zero t fit.class i.other.lawful) (same_length s.history.objects t.history.objects i.objects)
    (record { lawful = place_lawful laws r rules.zero s fit i.one.lawful; owner = place_owner laws r rules.zero s w fit.class i.one.lawful k; below = owner_below s.history.objects w k })
    (record { lawful = place_lawful laws r rules.zero t fit i.other.lawful; owner = place_owner laws r rules.zero t v fit.class i.other.lawful j; below = owner_below t.history.objects v j }) e

resized_same : SlotLaws → (rules : Rules) (size site : ℕ) (s t : HeapState) (o p : Option Owner) → AreIsomorphic s t → ((w : Owner) → o ≡ Some w → IsOwner s.history.objects w) → ((v : Owner) → p ≡ Some v → IsOwner t.history.objects v)
    → option_map (λ w. w.number) o ≡ option_map (λ w. w.number) p → SameEnd (resized rules size site s o) (resized rules size site t p)
resized_same laws rules size site s t None None i k j n = same_end (answers 0 s) (answers 0 t) (zero_same laws s t i)
resized_same laws rules size site s t None (Some v) i k j n = absurd (cc)
resized_same laws rules size site s t (Some w) None i k j n = absurd (cc)
resized_same laws rules size site s t (Some w) (Some v) i k j n = at (nat_lt size_limit size) refl
  where
    at : (b : Bool) → nat_lt size_limit size ≡ b
        → SameEnd (cond b (answers 0 s) (replaced rules size site w (place (request rules usual size site) rules.zero s))) (cond b (answers 0 t) (replaced rules size site v (place (request rules usual size site) rules.zero t)))
    at true e = same_end (answers 0 s) (answers 0 t) (zero_same laws s t i)
    at false e = replaced_same laws rules size site w v s t (request_fits rules usual size site usual_is (ltb-false size_limit size e)) i (k w refl) (j v refl) (same_Some w.number v.number n)

realloc_same : SlotLaws → (rules : Rules) (a b size site : ℕ) (s t : HeapState) → AreIsomorphic s t → number_at s a ≡ number_at t b → (c d : Bool) → c ≡ d
    → SameEnd (cond c (allocate rules rules.zero usual size site (called s)) (resized rules size site (called s) (owner_of s.history.objects a))) (cond d (allocate rules rules.zero usual size site (called t)) (resized rules size site (called t) (owner_of t.history.objects b)))
realloc_same laws rules a b size site s t i n true true e =
    same_end (allocate rules rules.zero usual size site (called s)) (allocate rules rules.zero usual size site (called t)) (allocate_isomorphic laws rules rules.zero usual size site usual_is (called s) (called t) (called_isomorphic s t i))
realloc_same laws rules a b size site s t i n true false e = absurd (cc)
realloc_same laws rules a b size site s t i n false true e = absurd (cc)
realloc_same laws rules a b size site s t i n false false e =
    resized_same laws rules size site (called s) (called t) (owner_of s.history.objects a) (owner_of t.history.objects b) (called_isomorphic s t i) (λ w f. owner_found s.history.objects a w f) (λ v f. owner_found t.history.objects b v f) n

realloc_end : SlotLaws → (rules : Rules) (a b size site : ℕ) (s t : HeapState) → AreIsomorphic s t → number_at s a ≡ number_at t b → nat_eq a 0 ≡ nat_eq b 0 → SameEnd (realloc rules a size site s) (realloc rules b size site t)
unfolding realloc
realloc_end laws rules a b size site s t i n e = realloc_same laws rules a b size site s t i n (nat_eq a 0) (nat_eq b 0) e

pub realloc_is_same : SlotLaws → ReallocIsSame
realloc_is_same laws rules a b size site s t i n e =
    let k = realloc_end laws rules a b size site s t i n e in
    record {
      states = record {
        one = unharmed s (realloc rules a size site s).state i.one (realloc_is_lawful laws rules a size site s i.one.lawful) (realloc_is_quiet laws rules a size site s i.one.lawful i.one.whole);
        other = unharmed t (realloc rules b size site t).state i.other (realloc_is_lawful laws rules b size site t i.other.lawful) (realloc_is_quiet laws rules b size site t i.other.lawful i.other.whole);
        classes = k.classes;
        objects = k.objects;
      };
      answers = k.answers;
    }

-- ---- the beginning

new_unharmed : (seed : ℕ) (m : Memory) → IsUnharmed (record { history = no_history seed; memory = m })
new_unharmed seed m = record { lawful = begins_lawful seed; whole = begins_whole seed m; good = refl }

pub begins_isomorphic : BeginsIsomorphic
begins_isomorphic seed other m n = record { one = new_unharmed seed m; other = new_unharmed other n; classes = refl; objects = refl }
