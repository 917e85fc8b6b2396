-- Releases and turns of the search, as steps from state to state.
use Rattle.std.proofs.Common.{◌≡◌, ℕ, suc, ◌+◌, ◌-◌, ◌*◌, ◌^◌, ◌<◌, ◌≤◌, refl, ap, sym, ◌∙◌, Bool, true, false, cond, not, ◌&&◌, ◌||◌, ◌⊎◌, inl, inr, arith, nat_le, List, [], ◌∷◌, ◌++◌, length, map, Option, Some, None, Ok, Err, IsSomeAnd}
use Rattle.std.specs.List.{AllByRecursion, list_any}
use Rattle.std.proofs.lemmas.Bool.{le-leb, lt-leb, eq-eqb, cases_lt}
use Rattle.std.proofs.Math.Nat.{mul-le-mul_left, le-mul_of_pos_right}
use Rattle.size_class.specs.Laws.{pow_more, first_low, first_high}
use Rattle.std.proofs.lemmas.Nat.{pow_pos}
use Rattle.std.proofs.lemmas.List.Sums.{count_by-le-length}
use Rattle.size_class.specs.Classes.{first_slots, nth_slots}
use Rattle.diefast_canary.specs.Canary.{canary_byte}
use Rattle.rv_memory.specs.Memory.{within, filled}
use Rattle.rv_memory.specs.Laws.{same_memory}
use Rattle.deferral_queue.specs.declared.Due.{Due}
use Rattle.miniheap.specs.declared.place.SlotState.TheVariants.{Free}
use Rattle.miniheap.specs.declared.place.Slot.{Slot}
use Rattle.miniheap.specs.Layout.{heap_limit, minis, class_slots, count_of}
use Rattle.miniheap.specs.Slots.{Slots, is_free, slot_at, slot_count, taken_count, used_of, wanted_of, spoiled_at, IsSlotIn, IsFreeSlot, IsInOrder}
use Rattle.miniheap.specs.Slots as slots
use Rattle.exact_heap.specs.declared.signal.HeapRefusal.{HeapRefusal}
use Rattle.exact_heap.specs.History.{ObjectState, Owned, Deferred, Released, Object, slot_of, canary_in, clock_of, due_entry, dues_from}
use Rattle.exact_heap.specs.Placing.{HeapState, turn, next_turn, search_from, is_due, after_due, released_object, is_in_due, repainted, release_due, enough, room_left}
use Rattle.miniheap.specs.Laws.{SlotLaws}
use Rattle.exact_heap.proofs.Objects.{length-change}
use Rattle.exact_heap.proofs.Standing.{with_change}

-- ---- releases

map_change : (f : Object → Object) (first : List Object) (o x : Object) (last : List Object) → f x ≡ f o → map f (first ++ x ∷ last) ≡ map f (first ++ o ∷ last)
map_change f [] o x last e = ap (λ (y : Object). y ∷ map f last) e
map_change f (a ∷ first) o x last e = ap (λ (ys : List Object). f a ∷ ys) (map_change f first o x last e)

any_change : (test : Object → Bool) (first : List Object) (o x : Object) (last : List Object) → test x ≡ false → list_any test (first ++ o ∷ last) ≡ (test o || list_any test (first ++ x ∷ last))
any_change test [] o x last e = ap (λ (b : Bool). test o || b) (sym (ap (λ (b : Bool). b || list_any test last) e))
any_change test (a ∷ first) o x last e = ap (λ (b : Bool). test a || b) (any_change test first o x last e) ∙ swap (test a) (test o) (list_any test (first ++ x ∷ last))
  where
    swap : (a b c : Bool) → (a || (b || c)) ≡ (b || (a || c))
    swap true true c = refl
    swap true false c = refl
    swap false b c = refl

-- the first release of several
pub release_step : (s : HeapState) (first : List Object) (o : Object) (last : List Object) (due : ℕ) → s.history.objects ≡ first ++ o ∷ last → o.state ≡ Deferred due → due ≤ clock_of s.history
    → release_due s ≡ release_due (record { history = with_change s.history first (record o { state = Released due }) last; memory = filled s.memory (slot_of o) (2 ^ o.class) (canary_byte (canary_in s.history)) })
unfolding release_due
release_step s first o last due parts state h =
    let x : Object = record o { state = Released due } in
    let n : clock_of s.history ≡ length (first ++ x ∷ last) = ap length parts ∙ sym (length-change first o x last) in
    let t : nat_le due (clock_of s.history) ≡ true = le-leb due (clock_of s.history) h in
    let after : after_due (clock_of s.history) o.state ≡ Released due = ap (after_due (clock_of s.history)) state ∙ ap (λ (b : Bool). cond b (Released due) (Deferred due)) t in
    let is : is_due (clock_of s.history) o.state ≡ true = ap (is_due (clock_of s.history)) state ∙ t in
    let objects : map (released_object (clock_of s.history)) s.history.objects ≡ map (released_object (length (first ++ x ∷ last))) (first ++ x ∷ last) =
    ap (map (released_object (clock_of s.history))) parts
    ∙ sym (map_change (released_object (clock_of s.history)) first o x last (ap (λ (y : ObjectState). record o { state = y }) (sym after)))
    ∙ ap (λ (k : ℕ). map (released_object k) (first ++ x ∷ last)) n in
    let memory : repainted (canary_in s.history) (clock_of s.history) s.history.objects s.memory
    ≡ repainted (canary_in s.history) (length (first ++ x ∷ last)) (first ++ x ∷ last) (filled s.memory (slot_of o) (2 ^ o.class) (canary_byte (canary_in s.history))) =
    same_memory _ _ (λ a.
    ap (λ (os : List Object). cond (list_any (is_in_due (clock_of s.history) a) os) (Some (canary_byte (canary_in s.history) a)) (s.memory.bytes a)) parts
    ∙ ap (λ (b : Bool). cond b (Some (canary_byte (canary_in s.history) a)) (s.memory.bytes a)) (any_change (is_in_due (clock_of s.history) a) first o x last refl)
    ∙ ap (λ (b : Bool). cond ((b && within (slot_of o) (2 ^ o.class) a) || list_any (is_in_due (clock_of s.history) a) (first ++ x ∷ last)) (Some (canary_byte (canary_in s.history) a)) (s.memory.bytes a)) is
    ∙ two (within (slot_of o) (2 ^ o.class) a) (list_any (is_in_due (clock_of s.history) a) (first ++ x ∷ last)) (Some (canary_byte (canary_in s.history) a)) (s.memory.bytes a)
    ∙ ap (λ (k : ℕ). cond (list_any (is_in_due k a) (first ++ x ∷ last)) (Some (canary_byte (canary_in s.history) a)) (cond (within (slot_of o) (2 ^ o.class) a) (Some (canary_byte (canary_in s.history) a)) (s.memory.bytes a))) n)
    (λ a. refl) (λ a. refl) in
    λ i. record { history = record s.history { objects = objects i }; memory = memory i }
  where
    two : (b c : Bool) (x y : Option ℕ) → cond (b || c) x y ≡ cond c x (cond b x y)
    two true true x y = refl
    two true false x y = refl
    two false true x y = refl
    two false false x y = refl

-- none is due
none_due : (clock n : ℕ) (os : List Object) → AllByRecursion (λ (d : Due). clock < d.due) (dues_from n os) → AllByRecursion (λ o. is_due clock o.state ≡ false) os
none_due clock n [] h = tt
none_due clock n (o ∷ os) h = at o.state refl h (none_due clock (n + 1) os)
  where
    at : (x : ObjectState) → o.state ≡ x → AllByRecursion (λ (d : Due). clock < d.due) (due_entry n o x ++ dues_from (n + 1) os)
        → (AllByRecursion (λ (d : Due). clock < d.due) (dues_from (n + 1) os) → AllByRecursion (λ o. is_due clock o.state ≡ false) os) → (is_due clock o.state ≡ false) × AllByRecursion (λ o. is_due clock o.state ≡ false) os
    at Owned e k ih = (ap (is_due clock) e, ih k)
    at (Released due) e k ih = (ap (is_due clock) e, ih k)
    at (Deferred due) e k ih = (ap (is_due clock) e ∙ lt-leb due clock k.0, ih k.1)

stays : (clock : ℕ) (x : ObjectState) → is_due clock x ≡ false → after_due clock x ≡ x
stays clock Owned e = refl
stays clock (Deferred due) e = ap (λ (b : Bool). cond b (Released due) (Deferred due)) e
stays clock (Released due) e = refl

all_stay : (clock : ℕ) (os : List Object) → AllByRecursion (λ o. is_due clock o.state ≡ false) os → map (released_object clock) os ≡ os
all_stay clock [] h = refl
all_stay clock (o ∷ os) h = ap (λ (x : ObjectState). record o { state = x } ∷ map (released_object clock) os) (stays clock o.state h.0) ∙ ap (λ (ys : List Object). o ∷ ys) (all_stay clock os h.1)

none_in : (clock a : ℕ) (os : List Object) → AllByRecursion (λ o. is_due clock o.state ≡ false) os → list_any (is_in_due clock a) os ≡ false
none_in clock a [] h = refl
none_in clock a (o ∷ os) h = ap (λ (b : Bool). (b && within (slot_of o) (2 ^ o.class) a) || list_any (is_in_due clock a) os) h.0 ∙ none_in clock a os h.1

pub release_none : (s : HeapState) → AllByRecursion (λ (d : Due). clock_of s.history < d.due) (dues_from 0 s.history.objects) → release_due s ≡ s
unfolding release_due
release_none s h =
    let k = none_due (clock_of s.history) 0 s.history.objects h in
    let objects : map (released_object (clock_of s.history)) s.history.objects ≡ s.history.objects = all_stay (clock_of s.history) s.history.objects k in
    let memory : repainted (canary_in s.history) (clock_of s.history) s.history.objects s.memory ≡ s.memory =
    same_memory _ _ (λ a. ap (λ (b : Bool). cond b (Some (canary_byte (canary_in s.history) a)) (s.memory.bytes a)) (none_in (clock_of s.history) a s.history.objects k)) (λ a. refl) (λ a. refl) in
    λ i. record { history = record s.history { objects = objects i }; memory = memory i }

-- ---- turns

pub search_goes_on : (n c : ℕ) (s : HeapState) → (turn c s).answer ≡ Ok None → search_from (suc n) c s ≡ search_from n c (turn c s).state
unfolding search_from
search_goes_on n c s e = ap (next_turn (search_from n c) (turn c s).state) e

pub search_finds : (n c : ℕ) (s : HeapState) (slot : ℕ) → (turn c s).answer ≡ Ok (Some slot) → search_from (suc n) c s ≡ record { state = (turn c s).state; answer = Ok slot }
unfolding search_from
search_finds n c s slot e = ap (next_turn (search_from n c) (turn c s).state) e

pub search_fails : (n c : ℕ) (s : HeapState) (refusal : HeapRefusal) → (turn c s).answer ≡ Err refusal → search_from (suc n) c s ≡ record { state = (turn c s).state; answer = Err refusal }
unfolding search_from
search_fails n c s refusal e = ap (next_turn (search_from n c) (turn c s).state) e

-- ---- there are few turns

taken_few : (s : Slots) (c : ℕ) → taken_count s c ≤ slot_count s c
taken_few s c = count_by-le-length (λ a. not (is_free s a)) (class_slots c (minis s.classes))

sixteen : (c : ℕ) → 4 ≤ c → 16 ≤ 2 ^ c
sixteen c h = pow_more 4 c h

first_some : (c : ℕ) → 0 < first_slots c
first_some c = at (cases_lt c 14)
  where
    at : (c < 14) ⊎ (14 ≤ c) → 0 < first_slots c
    at (inl h) = omega (arith, first_low c (omega arith), pow_pos (16 - c))
    at (inr h) = omega (arith, first_high c h)

positive : (c n : ℕ) → 0 < nth_slots c n
positive c n = omega (arith, first_some c, le-mul_of_pos_right (first_slots c) (pow_pos n))

pub room_grown : SlotLaws → (s : Slots) (c : ℕ) → IsInOrder s → 4 ≤ c → used_of s + wanted_of s c ≤ heap_limit → room_left c (slots.grown s c) < room_left c s
room_grown laws s c ok low room =
    let g = laws.growing s c ok in
    let n : ℕ = nth_slots c (count_of c s.classes) in
    let some : 0 < n = positive c (count_of c s.classes) in
    let big : n * 16 ≤ n * 2 ^ c = mul-le-mul_left n (sixteen c low) in
    let k : slot_count (slots.grown s c) c ≡ slot_count s c + n = g.slots c ∙ ap (λ (b : Bool). slot_count s c + cond b n 0) (eq-eqb c c refl) in
    let w : wanted_of s c ≡ n * 2 ^ c = refl in
    omega (arith, g.used, k, g.taken c, taken_few s c, some, big, room, w)

pub room_spoiled : SlotLaws → (s : Slots) (c a : ℕ) → IsFreeSlot s c a → IsSlotIn s a Free → room_left c (spoiled_at s a) < room_left c s
room_spoiled laws s c a f h = at (slot_at s a) refl f
  where
    at : (o : Option Slot) → slot_at s a ≡ o → IsSomeAnd o (λ t. (t.addr ≡ a) × (t.class ≡ c) × (t.state ≡ Free)) → room_left c (spoiled_at s a) < room_left c s
    at None e k = absurd k
    at (Some t) e k =
        let m : taken_count (spoiled_at s a) c ≡ taken_count s c + 1 = (laws.taking s a t c e h).1 ∙ ap (λ (b : Bool). taken_count s c + cond b 1 0) (eq-eqb t.class c k.1) in
        let n : slot_count (spoiled_at s a) c ≡ slot_count s c = refl in
        let u : used_of (spoiled_at s a) ≡ used_of s = refl in
        omega (arith, m, n, u, taken_few (spoiled_at s a) c)

pub room_below : SlotLaws → (s : Slots) (c : ℕ) → IsInOrder s → room_left c s < enough
unfolding enough
room_below laws s c ok = omega (arith, laws.fit s c, le-mul_of_pos_right (slot_count s c) (pow_pos c), ok.in_limit)
