-- Where free slots are whole, placement signals nothing, and they stay whole.
use Rattle.std.proofs.Common.{◌≡◌, ℕ, zero, suc, ◌+◌, ◌^◌, ◌<◌, ◌≤◌, refl, ap, sym, ◌∙◌, subst, Bool, true, false, cond, not, ◌&&◌, ◌||◌, ◌⊎◌, inl, inr, arith, nat_eq, nat_lt, nat_le, List, [], ◌∷◌, ◌++◌, map, Option, Some, None, Result, Ok, Err, IsSomeAnd}
use Rattle.std.specs.List.{AllByRecursion, list_any, range_with_len, find}
use Rattle.std.specs.Option.{option_map}
use Rattle.std.specs.FinSet.{contains}
use Rattle.std.proofs.lemmas.Bool.{cases_Bool, and_parts, and_from, eqb-true, eq-eqb, le-leb, lt-ltb, leb-true, ltb-true, true≢false}
use Rattle.std.proofs.lemmas.Option.{same_Some}
use Rattle.diefast_canary.specs.Canary.{canary_byte}
use Rattle.rv_memory.specs.Memory.{Memory, within, filled, is_byte, is_broken, first_broken, IsIntact}
use Rattle.miniheap.specs.declared.place.Slot.{Slot}
use Rattle.miniheap.specs.declared.place.SlotState.TheVariants.{Free, Held, Bad}
use Rattle.miniheap.specs.Slots.{Slots, state_of, slot_at, wanted_of, end_of, IsFreeSlot}
use Rattle.exact_heap.proofs.SlotStates.{not_held, not_bad}
use Rattle.exact_heap.specs.declared.parts.Request.{Request}
use Rattle.exact_heap.specs.declared.signal.HeapRefusal.{HeapRefusal}
use Rattle.exact_heap.specs.History.{ObjectState, Owned, Deferred, Released, Object, History, slot_of, is_held, holds_slot, slots_of, canary_in, clock_of}
use Rattle.exact_heap.specs.Placing.{HeapState, Outcome, Turn, turn, grown, break_in, with_draws, no_room, search, search_from, enough, new_object, placed, is_due, after_due, released_object, is_in_due, release_due, settled, place}
use Rattle.exact_heap.specs.Lawful.{places_of, IsPlaced, IsLawful}
use Rattle.exact_heap.specs.Laws.{IsClass, FreeSlotsAreWhole, IsQuiet, PlacesQuietly}
use Rattle.miniheap.specs.Laws.{SlotLaws}
use Rattle.exact_heap.proofs.SlotPlaces.{with_state, slot_at-places}
use Rattle.exact_heap.proofs.Objects.{any_held, contains-held, any_held-append, each_push, each_weaker}
use Rattle.exact_heap.proofs.Homes.{same_places}
use Rattle.exact_heap.proofs.States.{search_goes_on, search_finds, search_fails}
use Rattle.exact_heap.proofs.Turns.{free_slot_is}
use Rattle.exact_heap.proofs.LawsTurns.{TurnEnds, Grows, Lacks, Draws, turn_ends}
use Rattle.exact_heap.proofs.LawsKept.{lawful_grown}
use Rattle.exact_heap.proofs.LawsSearch.{FindsWhole, search_whole}
use Rattle.exact_heap.proofs.LawsApart.{HasSlot, own_slot}

-- ---- states of slots

pub free_state_is : (s : Slots) (a : ℕ) → contains s.held a ≡ false → contains s.bad a ≡ false → state_of s a ≡ Free
free_state_is s a h b = ap (λ (x : Bool). cond x Held (cond (contains s.bad a) Bad Free)) h ∙ ap (λ (x : Bool). cond x Bad Free) b

-- a slot's state is that of its address
pub own_state : (s : Slots) (a : ℕ) (t : Slot) → slot_at s a ≡ Some t → t.state ≡ state_of s t.addr
own_state s a t e = at (slot_at (places_of s.classes) a) (sym (slot_at-places s a) ∙ e)
  where
    at : (o : Option Slot) → option_map (with_state s) o ≡ Some t → t.state ≡ state_of s t.addr
    at None f = absurd (cc)
    at (Some u) f = let k : with_state s u ≡ t = same_Some (with_state s u) t f in subst (λ (x : Slot). x.state ≡ state_of s x.addr) k refl

-- a slot that is free has an address that is neither held nor bad
pub record IsFree (s : Slots) (a : ℕ) : Type 0 where
  pub unheld : contains s.held a ≡ false
  pub good : contains s.bad a ≡ false

pub free_is : (s : Slots) (a : ℕ) (t : Slot) → slot_at s a ≡ Some t → t.state ≡ Free → IsFree s t.addr
free_is s a t e f = let k : state_of s t.addr ≡ Free = sym (own_state s a t e) ∙ f in record { unheld = not_held s t.addr k; good = not_bad s t.addr k }

-- ---- whole slots

find_nothing : (p : ℕ → Bool) (from len : ℕ) → ((a : ℕ) → from ≤ a → a < from + len → p a ≡ false) → find p (range_with_len from len) ≡ None
find_nothing p from zero h = refl
find_nothing p from (suc len) h =
    ap (λ (b : Bool). cond b (Some from) (find p (range_with_len (from + 1) len))) (h from (omega arith) (omega arith)) ∙ find_nothing p (from + 1) len (λ a lo hi. h a (omega arith) (omega arith))

pub not_broken : (here : Option ℕ) (byte : ℕ) → here ≡ Some byte → not (is_byte here byte) ≡ false
not_broken here byte e = ap (λ (o : Option ℕ). not (is_byte o byte)) e ∙ ap not (eq-eqb byte byte refl)

pub none_broken : (memory : Memory) (word from len : ℕ) → IsIntact memory word from len → first_broken memory word from len ≡ None
none_broken memory word from len h = find_nothing (is_broken memory word) from len (λ a lo hi. not_broken (memory.bytes a) (canary_byte word a) (h a lo hi))

pub free_slot_whole : SlotLaws → (s : HeapState) (t : Slot) → FreeSlotsAreWhole s → slot_at (slots_of s.history) t.addr ≡ Some t → t.state ≡ Free → break_in s t.addr t.class ≡ None
free_slot_whole laws s t w e f = none_broken s.memory (canary_in s.history) t.addr (2 ^ t.class) (λ a lo hi. w a t (laws.apart (slots_of s.history) t.addr a t e lo hi) f)

pub free_slot_of_class : SlotLaws → (s : HeapState) (class slot : ℕ) → FreeSlotsAreWhole s → IsFreeSlot (slots_of s.history) class slot → break_in s slot class ≡ None
free_slot_of_class laws s class slot w free =
    let f = free_slot_is (slots_of s.history) class slot free in
    ap (λ (a : ℕ). break_in s a class) (sym f.addr) ∙ ap (break_in s f.slot.addr) (sym f.class)
    ∙ free_slot_whole laws s f.slot w (ap (slot_at (slots_of s.history)) f.addr ∙ f.found) f.state

-- ---- growth

pub is_within : (from len a : ℕ) → from ≤ a → a < from + len → within from len a ≡ true
is_within from len a lo hi = and_from (nat_le from a) (nat_lt a (from + len)) (le-leb from a lo) (lt-ltb a (from + len) hi)

pub either_way : {A : Type 0} (b : Bool) (x y : A) → y ≡ x → cond b x y ≡ x
either_way true x y e = refl
either_way false x y e = e

pub whole_grown : SlotLaws → (class : ℕ) (s : HeapState) → FreeSlotsAreWhole s → FreeSlotsAreWhole (grown class s)
whole_grown laws class s w a t e f = at (slot_at (slots_of s.history) a) refl
  where
    g : Slots
    g = slots_of s.history

    byte : Option ℕ
    byte = Some (canary_byte (canary_in s.history) a)

    at : (o : Option Slot) → slot_at g a ≡ o → cond (within (end_of g) (wanted_of g class) a) byte (s.memory.bytes a) ≡ byte
    at (Some u) q =
        let k : u ≡ t = same_Some u t (sym (laws.stay g class a u q) ∙ e) in
        either_way (within (end_of g) (wanted_of g class) a) byte (s.memory.bytes a) (w a t (q ∙ ap (λ (x : Slot). Some x) k) f)
    at None q =
        let w = laws.added g class a t q e in
        ap (λ (b : Bool). cond b byte (s.memory.bytes a)) (is_within (end_of g) (wanted_of g class) a w.0 w.1)

-- ---- the search

pub record QuietSearch (s : HeapState) (o : Outcome) : Type 0 where
  pub bad : o.state.history.bad ≡ s.history.bad
  pub signals : o.state.history.signals ≡ s.history.signals
  pub whole : FreeSlotsAreWhole o.state

pub some_not_none : (o : Option ℕ) (x : ℕ) → o ≡ Some x → o ≡ None → ⊥
some_not_none o x e f = cc

pub quiet_search : SlotLaws → (n class : ℕ) (s : HeapState) → IsLawful s.history → IsClass class → FreeSlotsAreWhole s → QuietSearch s (search_from n class s)
unfolding search_from
quiet_search laws zero class s l c w = record { bad = refl; signals = refl; whole = w }
quiet_search laws (suc n) class s l c w = at (turn_ends laws class s) (quiet_search laws n class)
  where
    ended : (r : HeapState) (o : Outcome) → o.state ≡ r → r.history.bad ≡ s.history.bad → r.history.signals ≡ s.history.signals → FreeSlotsAreWhole r → QuietSearch s o
    ended r o e b g k = record { bad = ap (λ (x : HeapState). x.history.bad) e ∙ b; signals = ap (λ (x : HeapState). x.history.signals) e ∙ g; whole = subst FreeSlotsAreWhole (sym e) k }

    at : TurnEnds class s → ((r : HeapState) → IsLawful r.history → IsClass class → FreeSlotsAreWhole r → QuietSearch r (search_from n class r)) → QuietSearch s (search_from (suc n) class s)
    at (Grows g room e) again =
        let f : search_from (suc n) class s ≡ search_from n class (grown class s) = search_goes_on n class s (ap (λ (t : Turn). t.answer) e) ∙ ap (λ (t : Turn). search_from n class t.state) e in
        let k = again (grown class s) (lawful_grown laws class s l c.0 c.1 room) c (whole_grown laws class s w) in
        subst (QuietSearch s) (sym f) (record { bad = k.bad; signals = k.signals; whole = k.whole })
    at (Lacks g room e) again =
        let f : search_from (suc n) class s ≡ record { state = (turn class s).state; answer = Err (no_room class s) } = search_fails n class s (no_room class s) (ap (λ (t : Turn). t.answer) e) in
        subst (QuietSearch s) (sym f) (ended s (record { state = (turn class s).state; answer = Err (no_room class s) }) (ap (λ (t : Turn). t.state) e) refl refl w)
    at (Draws g slot words free None b e) again =
        let f : search_from (suc n) class s ≡ record { state = (turn class s).state; answer = Ok slot } = search_finds n class s slot (ap (λ (t : Turn). t.answer) e) in
        subst (QuietSearch s) (sym f) (ended (with_draws words s) (record { state = (turn class s).state; answer = Ok slot }) (ap (λ (t : Turn). t.state) e) refl refl w)
    at (Draws g slot words free (Some broken) b e) again = absurd (some_not_none (break_in s slot class) broken b (free_slot_of_class laws s class slot w free))

-- ---- a new object

any_held_off : (a : ℕ) (xs ys : List Object) → any_held a (xs ++ ys) ≡ false → (any_held a xs ≡ false) × (any_held a ys ≡ false)
any_held_off a xs ys e = at (any_held a xs) (any_held a ys) (sym (any_held-append a xs ys) ∙ e)
  where
    at : (b c : Bool) → (b || c) ≡ false → (b ≡ false) × (c ≡ false)
    at true c f = absurd (true≢false f)
    at false c f = (refl, f)

pub or_off : (b c : Bool) → (b || c) ≡ false → (b ≡ false) × (c ≡ false)
or_off true c e = absurd (true≢false e)
or_off false c e = (refl, e)

pub whole_placed : SlotLaws → (r : Request) (zeroed : Bool) (slot : ℕ) (s : HeapState) → IsFreeSlot (slots_of s.history) r.class slot → FreeSlotsAreWhole s → FreeSlotsAreWhole (placed r zeroed slot s)
whole_placed laws r zeroed slot s free w a t e f = at zeroed
  where
    g : Slots
    g = slots_of s.history

    after : Slots
    after = slots_of (placed r zeroed slot s).history

    before : slot_at g a ≡ Some (with_state g t)
    before = same_places after g a t refl e

    off : IsFree after t.addr
    off = free_is after a t e f

    none : (any_held t.addr s.history.objects ≡ false) × (any_held t.addr (new_object r slot ∷ []) ≡ false)
    none = any_held_off t.addr s.history.objects (new_object r slot ∷ []) (sym (contains-held (s.history.objects ++ new_object r slot ∷ []) t.addr) ∙ off.unheld)

    was : s.memory.bytes a ≡ Some (canary_byte (canary_in s.history) a)
    was = w a (with_state g t) before (free_state_is g t.addr (contains-held s.history.objects t.addr ∙ none.0) off.good)

    -- it is another slot
    other : slot ≡ t.addr → ⊥
    other q = true≢false (sym (eq-eqb slot t.addr q) ∙ (or_off (nat_eq slot t.addr) false none.1).0)

    zero_not : (b : Bool) → within slot (2 ^ r.class) a ≡ b → cond b (Some 0) (s.memory.bytes a) ≡ Some (canary_byte (canary_in s.history) a)
    zero_not false q = was
    zero_not true q =
        let u = and_parts (nat_le slot a) (nat_lt a (slot + 2 ^ r.class)) q in
        let k = free_slot_is g r.class slot free in
        let lo : k.slot.addr ≤ a = omega (arith, k.addr, leb-true slot a u.0) in
        let hi : a < k.slot.addr + 2 ^ k.slot.class = omega (arith, k.addr, ltb-true a (slot + 2 ^ r.class) u.1, ap (λ (c : ℕ). 2 ^ c) k.class) in
        let m : k.slot ≡ with_state g t = same_Some k.slot (with_state g t) (sym (laws.apart g slot a k.slot k.found lo hi) ∙ before) in
        absurd (other (sym k.addr ∙ ap (λ (x : Slot). x.addr) m))

    at : (b : Bool) → (cond b (filled s.memory slot (2 ^ r.class) (λ address. 0)) s.memory).bytes a ≡ Some (canary_byte (canary_in s.history) a)
    at true = zero_not (within slot (2 ^ r.class) a) refl
    at false = was

-- ---- releases

due_if : (clock : ℕ) (x : ObjectState) → is_held x ≡ true → is_held (after_due clock x) ≡ false → is_due clock x ≡ true
due_if clock Owned e f = absurd (true≢false f)
due_if clock (Released due) e f = absurd (true≢false (sym e))
due_if clock (Deferred due) e f = at (nat_le due clock) f
  where
    at : (b : Bool) → is_held (cond b (Released due) (Deferred due)) ≡ false → b ≡ true
    at true g = refl
    at false g = absurd (true≢false g)

-- an address in an object's slot is within it
pub in_own_slot : SlotLaws → (classes : List ℕ) (o : Object) (a : ℕ) (t : Slot) → HasSlot classes o → slot_at (places_of classes) a ≡ Some t → slot_of o ≡ t.addr → within (slot_of o) (2 ^ o.class) a ≡ true
in_own_slot laws classes o a t k e s =
    let v = own_slot classes o k in
    let h = laws.hold (places_of classes) a t e in
    let f : slot_at (places_of classes) t.addr ≡ Some t = laws.apart (places_of classes) a t.addr t e (omega arith) (omega (arith, h.0, h.1)) in
    let q : v.slot ≡ t = same_Some v.slot t (sym v.found ∙ ap (slot_at (places_of classes)) s ∙ f) in
    let c : o.class ≡ t.class = sym v.class ∙ ap (λ (x : Slot). x.class) q in
    and_from (nat_le (slot_of o) a) (nat_lt a (slot_of o + 2 ^ o.class)) (le-leb (slot_of o) a (omega (arith, s, h.0))) (lt-ltb a (slot_of o + 2 ^ o.class) (omega (arith, s, h.1, ap (λ (x : ℕ). 2 ^ x) c)))

-- where a slot is no longer held, its last holder was due
pub released_there : SlotLaws → (classes : List ℕ) (clock a : ℕ) (t : Slot) (os : List Object) → slot_at (places_of classes) a ≡ Some t → AllByRecursion (HasSlot classes) os → any_held t.addr os ≡ true → any_held t.addr (map (released_object clock) os) ≡ false
    → list_any (is_in_due clock a) os ≡ true
released_there laws classes clock a t [] e p h n = absurd (true≢false (sym h))
released_there laws classes clock a t (o ∷ os) e p h n = at (holds_slot o) refl (nat_eq (slot_of o) t.addr) refl h (or_off (is_held (after_due clock o.state) && nat_eq (slot_of o) t.addr) (any_held t.addr (map (released_object clock) os)) n) (released_there laws classes clock a t os e p.1)
  where
    or_right : (b : Bool) → (b || true) ≡ true
    or_right true = refl
    or_right false = refl

    left_off : (b c : Bool) → c ≡ true → (b && c) ≡ false → b ≡ false
    left_off true c f g = absurd (true≢false (sym f ∙ g))
    left_off false c f g = refl

    further : (any_held t.addr os ≡ true) → (any_held t.addr (map (released_object clock) os) ≡ false) → ((any_held t.addr os ≡ true) → (any_held t.addr (map (released_object clock) os) ≡ false) → list_any (is_in_due clock a) os ≡ true) → list_any (is_in_due clock a) (o ∷ os) ≡ true
    further k m ih = ap (λ (b : Bool). is_in_due clock a o || b) (ih k m) ∙ or_right (is_in_due clock a o)

    at : (b : Bool) → holds_slot o ≡ b → (c : Bool) → nat_eq (slot_of o) t.addr ≡ c → ((b && c) || any_held t.addr os) ≡ true
        → ((is_held (after_due clock o.state) && nat_eq (slot_of o) t.addr) ≡ false) × (any_held t.addr (map (released_object clock) os) ≡ false)
        → ((any_held t.addr os ≡ true) → (any_held t.addr (map (released_object clock) os) ≡ false) → list_any (is_in_due clock a) os ≡ true) → list_any (is_in_due clock a) (o ∷ os) ≡ true
    at true ho true q k m ih =
        let due : is_due clock o.state ≡ true = due_if clock o.state ho (left_off (is_held (after_due clock o.state)) (nat_eq (slot_of o) t.addr) q m.0) in
        let inside : within (slot_of o) (2 ^ o.class) a ≡ true = in_own_slot laws classes o a t p.0 e (eqb-true (slot_of o) t.addr q) in
        ap (λ (b : Bool). b || list_any (is_in_due clock a) os) (and_from (is_due clock o.state) (within (slot_of o) (2 ^ o.class) a) due inside)
    at true ho false q k m ih = further k m.1 ih
    at false ho c q k m ih = further k m.1 ih

pub released_bad : (s : HeapState) → (release_due s).history.bad ≡ s.history.bad
unfolding release_due
released_bad s = refl

pub released_signals : (s : HeapState) → (release_due s).history.signals ≡ s.history.signals
unfolding release_due
released_signals s = refl

pub whole_released : SlotLaws → (s : HeapState) → AllByRecursion (HasSlot s.history.classes) s.history.objects → FreeSlotsAreWhole s → FreeSlotsAreWhole (release_due s)
unfolding release_due
whole_released laws s p w a t e f = at (cases_Bool (any_held t.addr s.history.objects))
  where
    g : Slots
    g = slots_of s.history

    after : Slots
    after = slots_of (record s.history { objects = map (released_object (clock_of s.history)) s.history.objects })

    byte : Option ℕ
    byte = Some (canary_byte (canary_in s.history) a)

    off : IsFree after t.addr
    off = free_is after a t e f

    at : (any_held t.addr s.history.objects ≡ true) ⊎ (any_held t.addr s.history.objects ≡ false) → cond (list_any (is_in_due (clock_of s.history) a) s.history.objects) byte (s.memory.bytes a) ≡ byte
    at (inl h) =
        ap (λ (b : Bool). cond b byte (s.memory.bytes a))
        (released_there laws s.history.classes (clock_of s.history) a (with_state (places_of s.history.classes) t) s.history.objects (same_places after (places_of s.history.classes) a t refl e) p h
        (sym (contains-held (map (released_object (clock_of s.history)) s.history.objects) t.addr) ∙ off.unheld))
    at (inr h) =
        either_way (list_any (is_in_due (clock_of s.history) a) s.history.objects) byte (s.memory.bytes a)
        (w a (with_state g t) (same_places after g a t refl e) (free_state_is g t.addr (contains-held s.history.objects t.addr ∙ h) off.good))

-- ---- placement whole

pub new_has_slot : (s : HeapState) (r : Request) (slot : ℕ) → IsFreeSlot (slots_of s.history) r.class slot → HasSlot s.history.classes (new_object r slot)
new_has_slot s r slot free =
    let f = free_slot_is (slots_of s.history) r.class slot free in
    let e : slot_at (places_of s.history.classes) slot ≡ Some (with_state (places_of s.history.classes) f.slot) = same_places (slots_of s.history) (places_of s.history.classes) slot f.slot refl f.found in
    subst (λ (o : Option Slot). IsSomeAnd o (λ t. (t.addr ≡ slot) × (t.class ≡ r.class))) (sym e) (f.addr, f.class)

pub have_slots : (h : History) → IsLawful h → AllByRecursion (HasSlot h.classes) h.objects
have_slots h l = each_weaker (IsPlaced h.classes) (HasSlot h.classes) (λ o k. k.slot) h.objects l.placed

pub quiet_settled : SlotLaws → (r : Request) (zeroed : Bool) (before s : HeapState) (a : Result ℕ HeapRefusal) → IsLawful s.history → FindsWhole r.class s a → QuietSearch before (record { state = s; answer = a }) → IsQuiet before (settled r zeroed s a).state
quiet_settled laws r zeroed before s (Err refusal) l k q = record { bad = q.bad; signals = q.signals; whole = q.whole }
quiet_settled laws r zeroed before s (Ok slot) l k q = record {
  bad = released_bad (placed r zeroed slot s) ∙ q.bad;
  signals = released_signals (placed r zeroed slot s) ∙ q.signals;
  whole = whole_released laws (placed r zeroed slot s) (each_push (HasSlot s.history.classes) s.history.objects (new_object r slot) (have_slots s.history l) (new_has_slot s r slot k.free)) (whole_placed laws r zeroed slot s k.free q.whole);
}

pub places_quietly : SlotLaws → PlacesQuietly
unfolding place
places_quietly laws s r zeroed l c w =
    let e = search_whole laws r.class s l c in
    quiet_settled laws r zeroed s (search r.class s).state (search r.class s).answer e.lawful e.ends (quiet_search laws enough r.class s l c w)
