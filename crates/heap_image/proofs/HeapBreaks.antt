-- The broken bytes of a heap keep the rules of an image's broken bytes.
use Rattle.std.proofs.Common.{◌≡◌, ℕ, zero, suc, ◌+◌, ◌^◌, ◌<◌, ◌≤◌, refl, ap, sym, ◌∙◌, subst, arith, Bool, true, false, cond, not, ◌||◌, nat_eq, nat_le, nat_lt, inl, inr, List, [], ◌∷◌, ◌++◌, map, Option, Some, None}
use Rattle.std.specs.Prelude.{is_some, unwrap_or, filter}
use Rattle.std.specs.List.{AllByRecursion, list_any, slice_get, filter_map, cons_option, range_with_len}
use Rattle.std.specs.FinSet.{contains, contains-from_list_nat}
use Rattle.std.proofs.lemmas.Bool.{eqb-true, eq-eqb, lt-ltb, true≢false, and_parts}
use Rattle.diefast_canary.specs.Canary.{canary_byte}
use Rattle.rv_memory.specs.Memory.{Memory, IsBounded, is_broken, is_byte}
use Rattle.miniheap.specs.Laws.{SlotsAreAtPlaces}
use Rattle.miniheap.specs.Layout.{heap_from, heap_limit, minis, all_slots}
use Rattle.miniheap.specs.Places.{place_at}
use Rattle.miniheap.specs.Slots.{slot_at, used_of}
use Rattle.miniheap.specs.Sound.{is_held_state}
use Rattle.miniheap.specs.declared.place.Slot.{Slot}
use Rattle.miniheap.specs.declared.place.SlotState.{SlotState}
use Rattle.miniheap.specs.declared.place.SlotState.TheVariants.{Free, Held, Bad}
use Rattle.exact_heap.specs.declared.row.SlotRow.{SlotRow}
use Rattle.exact_heap.specs.History.{ObjectState, Owned, Deferred, Released, Object, History, slot_of, is_held, holds_slot, held_by, slots_of, canary_in}
use Rattle.exact_heap.specs.Placing.{byte_at}
use Rattle.exact_heap.specs.Rows.{state_number, bad_row, row_at, rows_of}
use Rattle.heap_image.specs.declared.image.Broken.{Broken}
use Rattle.heap_image.specs.Rules.{is_owned, is_unowned_at, is_unowned}
use Rattle.heap_image.specs.Lawful.{Each, IsBroken}
use Rattle.heap_image.specs.Taken.{is_unheld, is_broken_in, broken_at, broken_of}
use Rattle.heap_image.proofs.Lists.{both_true, each_implies, each_push, each_passes}
use Rattle.heap_image.proofs.HeapRows.{IsHeapRow, row_is, IsPlaceAt, place_of_slot}

-- ---- slots that objects hold

or_right : (a b : Bool) → b ≡ true → (a || b) ≡ true
or_right true b e = refl
or_right false b e = e

among : (objects : List Object) (n : ℕ) (o : Object) → slice_get objects n ≡ Some o → holds_slot o ≡ true → list_any (λ y. nat_eq y (slot_of o)) (map slot_of (filter holds_slot objects)) ≡ true
among [] n o e h = absurd (cc)
among (x ∷ xs) zero o e h =
    let q : x ≡ o = cc in
    subst (λ (b : Bool). list_any (λ y. nat_eq y (slot_of o)) (map slot_of (cond b (x ∷ filter holds_slot xs) (filter holds_slot xs))) ≡ true) (sym (ap holds_slot q ∙ h))
    (ap (λ (b : Bool). b || list_any (λ y. nat_eq y (slot_of o)) (map slot_of (filter holds_slot xs))) (eq-eqb (slot_of x) (slot_of o) (ap slot_of q)))
among (x ∷ xs) (suc n) o e h = at (holds_slot x) (among xs n o e h)
  where
    at : (b : Bool) → list_any (λ y. nat_eq y (slot_of o)) (map slot_of (filter holds_slot xs)) ≡ true → list_any (λ y. nat_eq y (slot_of o)) (map slot_of (cond b (x ∷ filter holds_slot xs) (filter holds_slot xs))) ≡ true
    at true k = or_right (nat_eq (slot_of x) (slot_of o)) (list_any (λ y. nat_eq y (slot_of o)) (map slot_of (filter holds_slot xs))) k
    at false k = k

held_is : (objects : List Object) (n : ℕ) (o : Object) → slice_get objects n ≡ Some o → holds_slot o ≡ true → contains (held_by objects) (slot_of o) ≡ true
unfolding held_by
held_is objects n o e h = contains-from_list_nat (map slot_of (filter holds_slot objects)) (slot_of o) ∙ among objects n o e h

-- a row of an object that has its slot is of a held slot
owned_is_held : (b : Bool) (s : ObjectState) → nat_le (state_number b s) 1 ≡ true → is_held s ≡ true
owned_is_held b Owned e = refl
owned_is_held b (Deferred due) e = refl
owned_is_held true (Released due) e = absurd (true≢false (sym e))
owned_is_held false (Released due) e = absurd (true≢false (sym e))

held_row : (h : History) (r : SlotRow) → IsHeapRow h r → is_owned r ≡ true → contains (held_by h.objects) r.addr ≡ true
held_row h r (inl bad) e = let f : is_owned (bad_row r.addr) ≡ true = subst (λ (x : SlotRow). is_owned x ≡ true) bad e in absurd (true≢false (sym f))
held_row h r (inr k) e =
    let owned : nat_le (state_number k.is_bad k.object.state) 1 ≡ true = subst (λ (x : SlotRow). is_owned x ≡ true) k.row e in
    subst (λ (a : ℕ). contains (held_by h.objects) a ≡ true) k.slot (held_is h.objects r.object k.object k.found (owned_is_held k.is_bad k.object.state owned))

-- ---- all rows

pub heap_rows : (h : History) (xs : List ℕ) → AllByRecursion (IsHeapRow h) (filter_map (row_at h) xs)
heap_rows h [] = tt
heap_rows h (x ∷ xs) = at (row_at h x) refl (heap_rows h xs)
  where
    at : (o : Option SlotRow) → row_at h x ≡ o → AllByRecursion (IsHeapRow h) (filter_map (row_at h) xs) → AllByRecursion (IsHeapRow h) (cons_option o (filter_map (row_at h) xs))
    at None e rest = rest
    at (Some r) e rest = ((row_is h x r e).1, rest)

rows_are : (h : History) → AllByRecursion (IsHeapRow h) (rows_of h)
unfolding rows_of
rows_are h = heap_rows h (all_slots (minis h.classes))

-- an address in a slot that no object holds is in one without an owner
unheld_is_unowned : SlotsAreAtPlaces → (h : History) (a : ℕ) → is_unheld (slot_at (slots_of h) a) ≡ true → is_unowned h.classes (rows_of h) a ≡ true
unfolding is_unowned
unheld_is_unowned law h a e = at (slot_at (slots_of h) a) refl e
  where
    not_held : (s : SlotState) → not (is_held_state s) ≡ true → s ≡ Held → ⊥
    not_held s f q = true≢false (sym f ∙ ap (λ (x : SlotState). not (is_held_state x)) q)

    held : (t : Slot) (k : IsPlaceAt (slots_of h) a t) → contains (held_by h.objects) k.place.addr ≡ true → t.state ≡ Held
    held t k q = ap (λ (x : Slot). x.state) (sym k.is) ∙ ap (λ (b : Bool). cond b Held (cond (contains h.bad k.place.addr) Bad Free)) q

    row : (t : Slot) (k : IsPlaceAt (slots_of h) a t) → not (is_held_state t.state) ≡ true → (r : SlotRow) → IsHeapRow h r → (owned same : Bool) → is_owned r ≡ owned → nat_eq r.addr k.place.addr ≡ same → (not owned || not same) ≡ true
    row t k f r is false same q g = refl
    row t k f r is true false q g = refl
    row t k f r is true true q g = absurd (not_held t.state f (held t k (subst (λ (x : ℕ). contains (held_by h.objects) x ≡ true) (eqb-true r.addr k.place.addr g) (held_row h r is q))))

    at : (o : Option Slot) → slot_at (slots_of h) a ≡ o → is_unheld o ≡ true → is_unowned_at (rows_of h) (place_at h.classes a) ≡ true
    at None f g = absurd (true≢false (sym g))
    at (Some t) f g =
        let k = place_of_slot law (slots_of h) a t f in
        ap (is_unowned_at (rows_of h)) k.found ∙ each_passes (IsHeapRow h) (λ r. not (is_owned r) || not (nat_eq r.addr k.place.addr)) (λ r is. row t k g r is (is_owned r) (nat_eq r.addr k.place.addr) refl refl) (rows_of h) (rows_are h)

-- ---- broken bytes

record BrokenKnown (h : History) (memory : Memory) : Type 0 where
  places : SlotsAreAtPlaces
  bounded : IsBounded memory
  mapped : (a : ℕ) → is_unheld (slot_at (slots_of h) a) ≡ true → is_some (memory.bytes a) ≡ true

-- an address that lies before
abbrev IsBelow : (from : ℕ) → Broken → Type 0
IsBelow from b = b.addr < from

not_canary : (memory : Memory) (word a : ℕ) → IsBounded memory → is_some (memory.bytes a) ≡ true → is_broken memory word a ≡ true → (byte_at memory a < 256) × (not (nat_eq (byte_at memory a) (canary_byte word a)) ≡ true)
not_canary memory word a bounded mapped broken = at (memory.bytes a) refl mapped broken
  where
    at : (o : Option ℕ) → memory.bytes a ≡ o → is_some o ≡ true → not (is_byte o (canary_byte word a)) ≡ true → (unwrap_or o 0 < 256) × (not (nat_eq (unwrap_or o 0) (canary_byte word a)) ≡ true)
    at None e f g = absurd (true≢false (sym f))
    at (Some b) e f g = (bounded.small a b e, g)

one_broken : (h : History) (memory : Memory) → BrokenKnown h memory → (a : ℕ) (earlier : List Broken) → a < 2 ^ 32 → AllByRecursion (IsBelow a) earlier → is_broken_in (slots_of h) memory (canary_in h) a ≡ true
    → IsBroken h.seed h.classes (rows_of h) earlier (broken_at memory a)
one_broken h memory k a earlier low before broken =
    let parts = and_parts (is_unheld (slot_at (slots_of h) a)) (is_broken memory (canary_in h) a) broken in
    let byte = not_canary memory (canary_in h) a k.bounded (k.mapped a parts.0) parts.1 in
    record {
      addr_word = low;
      byte_byte = omega (arith, byte.0);
      addr = both_true (unheld_is_unowned k.places h a parts.0) (each_passes (IsBelow a) (λ b. nat_lt b.addr a) (λ b e. lt-ltb b.addr a e) earlier before);
      byte = byte.1;
    }

broken_from : (h : History) (memory : Memory) → BrokenKnown h memory → (from n : ℕ) (earlier : List Broken) → from + n ≤ 2 ^ 32 → AllByRecursion (IsBelow from) earlier
    → Each (IsBroken h.seed h.classes (rows_of h)) earlier (map (broken_at memory) (filter (is_broken_in (slots_of h) memory (canary_in h)) (range_with_len from n)))
broken_from h memory k from zero earlier room before = tt
broken_from h memory k from (suc n) earlier room before =
    at (is_broken_in (slots_of h) memory (canary_in h) from) refl (λ more older. broken_from h memory k (from + 1) n more (omega (arith, room)) older)
  where
    rest : List Broken
    rest = map (broken_at memory) (filter (is_broken_in (slots_of h) memory (canary_in h)) (range_with_len (from + 1) n))

    later : AllByRecursion (IsBelow (from + 1)) earlier
    later = each_implies (IsBelow from) (IsBelow (from + 1)) (λ b e. omega (arith, e)) earlier before

    at : (b : Bool) → is_broken_in (slots_of h) memory (canary_in h) from ≡ b
        → ((more : List Broken) → AllByRecursion (IsBelow (from + 1)) more → Each (IsBroken h.seed h.classes (rows_of h)) more (map (broken_at memory) (filter (is_broken_in (slots_of h) memory (canary_in h)) (range_with_len (from + 1) n))))
        → Each (IsBroken h.seed h.classes (rows_of h)) earlier (map (broken_at memory) (cond b (from ∷ filter (is_broken_in (slots_of h) memory (canary_in h)) (range_with_len (from + 1) n)) (filter (is_broken_in (slots_of h) memory (canary_in h)) (range_with_len (from + 1) n))))
    at false e further = further earlier later
    at true e further =
        (one_broken h memory k from earlier (omega (arith, room)) before e, further (earlier ++ broken_at memory from ∷ []) (each_push (IsBelow (from + 1)) earlier (broken_at memory from) later (let q : from < from + 1 = omega arith in q)))

pub broken_fit : SlotsAreAtPlaces → (h : History) (memory : Memory) → IsBounded memory → ((a : ℕ) → is_unheld (slot_at (slots_of h) a) ≡ true → is_some (memory.bytes a) ≡ true) → used_of (slots_of h) ≤ heap_limit
    → Each (IsBroken h.seed h.classes (rows_of h)) [] (broken_of (slots_of h) memory (canary_in h))
unfolding broken_of
broken_fit places h memory bounded mapped room = broken_from h memory (record { places = places; bounded = bounded; mapped = mapped }) heap_from (used_of (slots_of h)) [] (omega (arith, room)) tt
