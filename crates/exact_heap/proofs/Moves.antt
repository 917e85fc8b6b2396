-- An object in place of another.
use Rattle.std.proofs.Common.{◌≡◌, ℕ, zero, suc, ◌+◌, ◌-◌, ◌^◌, ◌<◌, ◌≤◌, ◌⊎◌, inl, inr, refl, ap, sym, ◌∙◌, subst, Bool, true, false, cond, arith, nat_lt, List, [], ◌∷◌, ◌++◌, length, map, append_assoc, get_or, min, unwrap_or, Option, Result, Some, None, is_some, Ok, Err, IsSomeAnd}
use Rattle.std.specs.Option.{option_map}
use Rattle.std.specs.List.{AllByRecursion}
use Rattle.std.proofs.lemmas.Bool.{le-ltb, cases_lt}
use Rattle.std.proofs.lemmas.Option.{same_Some}
use Rattle.std.specs.FinSet.{contains}
use Rattle.std.proofs.Props.{props}
use Rattle.rv_memory.specs.Memory.{Memory, all_in_span, span, is_mapped, can_write, is_taken, KeepsTaken}
use Rattle.rv_memory.specs.Laws.{at_each, from_each}
use Rattle.miniheap.specs.declared.place.Slot.{Slot}
use Rattle.miniheap.specs.declared.place.SlotState.TheVariants.{Held}
use Rattle.miniheap.specs.Layout.{heap_limit}
use Rattle.miniheap.specs.Draws.{Pick, picked_by, address_of as drawn_address}
use Rattle.miniheap.specs.Slots.{Slots, must_grow, used_of, wanted_of, slot_at, IsSlotIn, IsInOrder}
use Rattle.miniheap.specs.Sound.{is_held_state}
use Rattle.exact_heap.proofs.SlotStates.{in_sets}
use Rattle.exact_heap.specs.declared.parts.Parts.{Parts}
use Rattle.exact_heap.specs.declared.rows.Row.{Row}
use Rattle.exact_heap.specs.declared.parts.Request.{Request}
use Rattle.exact_heap.specs.declared.signal.HeapRefusal.{HeapRefusal}
use Rattle.exact_heap.specs.History.{ObjectState, Owned, Object, History, slot_of, address_of, is_held, holds_slot, slots_of}
use Rattle.exact_heap.specs.Owners.{Owner, last_owner}
use Rattle.exact_heap.specs.Home.{IsHome}
use Rattle.exact_heap.specs.Lawful.{AreApart, IsPlaced}
use Rattle.exact_heap.specs.Placing.{HeapState, Rules, Outcome, Turn, request, no_room, grown, growth, break_in, with_draws, drawn, checked, enough, after_due, turn, next_turn, search_from, search, new_object, released_object, placed, release_due, settled, place}
use Rattle.exact_heap.specs.declared.signal.HeapRefusal.TheVariants.{Room, Memory as NoMemory}
use Rattle.exact_heap.specs.Freeing.{owner_freed}
use Rattle.exact_heap.specs.Calls.{usual, answers, size_limit, copied, moved, replaced, resized}
use Rattle.exact_heap.specs.RowStore.{kept_row}
use Rattle.exact_heap.specs.Stands.{row_of, PartsStandFor, IsAt, Gives, rules_in}
use Rattle.miniheap.specs.Laws.{SlotLaws}
use Rattle.exact_heap.proofs.SlotPlaces.{slot_in_is}
use Rattle.exact_heap.proofs.Objects.{around, last_of_held, each_at}
use Rattle.exact_heap.proofs.Standing.{kept_is}
use Rattle.exact_heap.proofs.Freed.{OwnerAt, ObjectSlot, object_slot, held_slot}
use Rattle.exact_heap.proofs.Homes.{InHeap, slot_in_heap, heap_mapped, heap_writable, heap_taken, home_keeps, home_filled}
use Rattle.exact_heap.proofs.LawsQuietCalls.{few_bytes}

abbrev owner_of_number : ℕ → Object → Option Owner
owner_of_number n o = Some (record { number = n; object = o })

pub row_prop : (a b : Option Row) → IsProp (a ≡ b)
row_prop a b = hlevel props

pub bool_prop : (a b : Bool) → IsProp (a ≡ b)
bool_prop a b = hlevel props

pub no_prop : IsProp ⊥
no_prop = hlevel props

-- ---- the search leaves the objects

checked_objects : (slot : ℕ) (s : HeapState) (broken : Option ℕ) → (checked slot s broken).state.history.objects ≡ s.history.objects
checked_objects slot s None = refl
checked_objects slot s (Some b) = refl

drawn_objects : (c : ℕ) (s : HeapState) (pick : Option Pick) → (drawn c s pick).state.history.objects ≡ s.history.objects
drawn_objects c s None = refl
drawn_objects c s (Some pick) = checked_objects (drawn_address (slots_of s.history) c pick.number) (with_draws pick.draws s) (break_in s (drawn_address (slots_of s.history) c pick.number) c)

-- the state of a turn that is one of two
pub either : (P : Turn → Type 0) (b : Bool) (t u : Turn) → P t → P u → P (cond b t u)
either P true t u x y = x
either P false t u x y = y

turn_objects : (c : ℕ) (s : HeapState) → (turn c s).state.history.objects ≡ s.history.objects
unfolding turn
turn_objects c s =
    either (λ t. t.state.history.objects ≡ s.history.objects) (must_grow (slots_of s.history) c) (growth c s) (drawn c s (picked_by s.history.seed s.history.spent (slots_of s.history) c))
    (either (λ t. t.state.history.objects ≡ s.history.objects) (nat_lt heap_limit (used_of (slots_of s.history) + wanted_of (slots_of s.history) c)) (record { state = s; answer = Err (no_room c s) }) (record { state = grown c s; answer = Ok None }) refl refl)
    (drawn_objects c s (picked_by s.history.seed s.history.spent (slots_of s.history) c))

next_objects : (again : HeapState → Outcome) (s : HeapState) (answer : Result (Option ℕ) HeapRefusal) → ((again s).state.history.objects ≡ s.history.objects) → (next_turn again s answer).state.history.objects ≡ s.history.objects
next_objects again s (Ok None) h = h
next_objects again s (Ok (Some slot)) h = refl
next_objects again s (Err refusal) h = refl

search_objects : (n c : ℕ) (s : HeapState) → (search_from n c s).state.history.objects ≡ s.history.objects
unfolding search_from
search_objects zero c s = refl
search_objects (suc n) c s = next_objects (search_from n c) (turn c s).state (turn c s).answer (search_objects n c (turn c s).state) ∙ turn_objects c s

-- ---- after a placement

-- the new object comes last, and others may have been released
pub record AfterPlace (h : History) (r : Request) (slot : ℕ) (k : History) : Type 0 where
  pub clock : ℕ
  pub objects : k.objects ≡ map (released_object clock) (h.objects ++ new_object r slot ∷ [])

-- its address is behind that of its slot
pub record PlacedAt (h : History) (r : Request) (address : ℕ) (k : History) : Type 0 where
  pub slot : ℕ
  pub behind : address ≡ slot + r.front
  pub after : AfterPlace h r slot k

released_objects : (s : HeapState) → (release_due s).history.objects ≡ map (released_object (length s.history.objects)) s.history.objects
unfolding release_due
released_objects s = refl

pub placed_after : (r : Request) (zeroed : Bool) (s : HeapState) (address : ℕ) → (place r zeroed s).answer ≡ Ok address → PlacedAt s.history r address (place r zeroed s).state.history
unfolding place
placed_after r zeroed s address e = at (search r.class s).answer e
  where
    found : HeapState
    found = (search r.class s).state

    at : (a : Result ℕ HeapRefusal) → (settled r zeroed found a).answer ≡ Ok address → PlacedAt s.history r address (settled r zeroed found a).state.history
    at (Err refusal) f = absurd (cc)
    at (Ok slot) f =
        let q : slot + r.front ≡ address = cc in
        record {
          slot = slot;
          behind = sym q;
          after = record {
            clock = length (found.history.objects ++ new_object r slot ∷ []);
            objects = released_objects (placed r zeroed slot found)
                ∙ ap (λ (os : List Object). map (released_object (length (found.history.objects ++ new_object r slot ∷ []))) (os ++ new_object r slot ∷ [])) (search_objects enough r.class s);
          };
        }

map_append : (f : Object → Object) (xs ys : List Object) → map f (xs ++ ys) ≡ map f xs ++ map f ys
map_append f [] ys = refl
map_append f (x ∷ xs) ys = ap (λ (zs : List Object). f x ∷ zs) (map_append f xs ys)

length_map : (f : Object → Object) (xs : List Object) → length (map f xs) ≡ length xs
length_map f [] = refl
length_map f (x ∷ xs) = ap suc (length_map f xs)

-- the new object's place among all
pub new_parts : (h : History) (r : Request) (address : ℕ) (k : History) (a : AfterPlace h r address k) → k.objects ≡ map (released_object a.clock) h.objects ++ new_object r address ∷ []
new_parts h r address k a = a.objects ∙ map_append (released_object a.clock) h.objects (new_object r address ∷ [])

owned_stays : (clock : ℕ) (o : Object) → o.state ≡ Owned → released_object clock o ≡ o
owned_stays clock o e = ap (λ (x : ObjectState). record o { state = x }) (ap (after_due clock) e ∙ sym e)

-- the objects around an owned one
parts_after : (h : History) (r : Request) (address : ℕ) (k : History) (a : ℕ) (row : Row) (after : AfterPlace h r address k) (w : OwnerAt h a row)
    → k.objects ≡ map (released_object after.clock) w.first ++ w.owner.object ∷ (map (released_object after.clock) w.last ++ new_object r address ∷ [])
parts_after h r address k a row after w =
    let f : Object → Object = released_object after.clock in
    let o : Object = w.owner.object in
    new_parts h r address k after ∙ ap (λ (os : List Object). map f os ++ new_object r address ∷ []) w.parts ∙ ap (λ (os : List Object). os ++ new_object r address ∷ []) (map_append f w.first (o ∷ w.last))
    ∙ append_assoc (map f w.first) (f o ∷ map f w.last) (new_object r address ∷ []) ∙ ap (λ (x : Object). map f w.first ++ x ∷ (map f w.last ++ new_object r address ∷ [])) (owned_stays after.clock o w.state)

-- an owned object stays what it was
pub owner_after : (h : History) (r : Request) (address : ℕ) (k : History) (a : ℕ) (row : Row) → AfterPlace h r address k → AreApart k.objects → OwnerAt h a row → OwnerAt k a row
owner_after h r address k a row after apart w =
    let f : Object → Object = released_object after.clock in
    let o : Object = w.owner.object in
    let first : List Object = map f w.first in
    let last : List Object = map f w.last ++ new_object r address ∷ [] in
    let parts : k.objects ≡ first ++ o ∷ last = parts_after h r address k a row after w in
    let number : w.owner.number ≡ length first = w.number ∙ sym (length_map f w.first) in
    let holds : holds_slot o ≡ true = ap is_held w.state in
    let at : last_owner k.objects a ≡ Some w.owner =
    ap (λ (os : List Object). last_owner os a) parts ∙ ap (last_owner (first ++ o ∷ last)) (sym w.slot) ∙ last_of_held first o last (around first o last (subst AreApart parts apart) holds)
    ∙ ap (λ (n : ℕ). owner_of_number n o) (sym number) in
    record {
      owner = w.owner;
      is_last = at;
      row_is = w.row_is;
      first = first;
      last = last;
      parts = parts;
      number = number;
      state = w.state;
      slot = w.slot;
    }

-- and isn't the one that was just placed
pub owner_elsewhere : (h : History) (r : Request) (address : ℕ) (k : History) (a : ℕ) (row : Row) → AfterPlace h r address k → AreApart k.objects → OwnerAt h a row → a ≡ address → ⊥
owner_elsewhere h r address k a row after apart w same =
    let f : Object → Object = released_object after.clock in
    let o : Object = w.owner.object in
    let about = around (map f w.first) o (map f w.last ++ new_object r address ∷ []) (subst AreApart (parts_after h r address k a row after w) apart) (ap is_held w.state) in
    each_at (λ y. slot_of o ≡ slot_of y → ⊥) (map f w.last) (new_object r address) [] about.after (w.slot ∙ same)

pub owner_after_same : (h : History) (r : Request) (address : ℕ) (k : History) (a : ℕ) (row : Row) (after : AfterPlace h r address k) (apart : AreApart k.objects) (w : OwnerAt h a row) → (owner_after h r address k a row after apart w).owner ≡ w.owner
unfolding owner_after
owner_after_same h r address k a row after apart w = refl

pub owner_row : (p : Parts) (h : History) (a : ℕ) (row : Row) → PartsStandFor p h → OwnerAt h a row → kept_row p.slots.grid.classes p.slots.rows a ≡ Some row
owner_row p h a row st w =
    let o : Object = w.owner.object in
    let at : last_owner h.objects a ≡ Some w.owner =
    ap (λ (os : List Object). last_owner os a) w.parts ∙ ap (last_owner (w.first ++ o ∷ w.last)) (sym w.slot) ∙ last_of_held w.first o w.last (around w.first o w.last (subst AreApart w.parts st.lawful.apart) (ap is_held w.state))
    ∙ ap (λ (n : ℕ). owner_of_number n o) (sym w.number) in
    kept_is p.slots h a st.slots ∙ ap (option_map row_of) at ∙ ap (λ (x : Row). Some x) (sym w.row_is)

-- ---- bytes of a held slot

shorter : (test : ℕ → Bool) (from n m : ℕ) → all_in_span test from n ≡ true → m ≤ n → all_in_span test from m ≡ true
shorter test from n m all le = from_each test from m (λ a lo hi. at_each test from n a all lo (omega arith))

inner : (test : ℕ → Bool) (from n skip m : ℕ) → all_in_span test from n ≡ true → skip + m ≤ n → all_in_span test (from + skip) m ≡ true
inner test from n skip m all le = from_each test (from + skip) m (λ a lo hi. at_each test from n a all (omega arith) (omega arith))

-- the bytes that the slot of an object has
pub record HeldBytes (memory : Memory) (taken : ℕ → Bool) (from len : ℕ) : Type 0 where
  pub mapped : is_mapped memory from len ≡ true
  pub writable : can_write memory from len ≡ true
  pub sure : is_taken taken from len ≡ true

-- where the slot of an object lies that holds it
pub record HeldPlace (s : Slots) (a c : ℕ) : Type 0 where
  pub slot : Slot
  pub found : slot_at s a ≡ Some slot
  pub addr : slot.addr ≡ a
  pub class : slot.class ≡ c
  pub held : contains s.held a ≡ true

held_place : (p : Parts) (h : History) (first : List Object) (o : Object) (last : List Object) (a : ℕ) → PartsStandFor p h → h.objects ≡ first ++ o ∷ last → holds_slot o ≡ true → slot_of o ≡ a → HeldPlace p.slots.grid a o.class
held_place p h first o last a st parts holds at =
    let k : ObjectSlot p.slots.grid o = object_slot p h first o last st parts in
    let held : IsSlotIn p.slots.grid (slot_of o) Held = subst (λ (s : Slots). IsSlotIn s (slot_of o) Held) (sym st.slots.grid) (held_slot p h first o last st parts holds) in
    subst (λ (x : ℕ). HeldPlace p.slots.grid x o.class) at
    (record {
      slot = k.slot;
      found = k.found;
      addr = (subst (λ (x : Option Slot). IsSomeAnd x (λ t. (t.addr ≡ slot_of o) × (t.state ≡ Held))) k.found held).0;
      class = k.class;
      held = in_sets p.slots.grid (slot_of o) ∙ ap is_held_state (slot_in_is p.slots.grid (slot_of o) Held held).1;
    })

pub held_bytes : SlotLaws → (p : Parts) (h : History) (first : List Object) (o : Object) (last : List Object) (memory : Memory) (taken : ℕ → Bool) (a skip len : ℕ) → PartsStandFor p h → IsHome p.slots.grid memory taken
    → h.objects ≡ first ++ o ∷ last → holds_slot o ≡ true → slot_of o ≡ a → skip + len ≤ 2 ^ o.class → HeldBytes memory taken (a + skip) len
held_bytes laws p h first o last memory taken a skip len st home parts holds at le =
    let k : HeldPlace p.slots.grid a o.class = held_place p h first o last a st parts holds at in
    let ok : IsInOrder p.slots.grid = subst IsInOrder (sym st.slots.grid) st.lawful.in_order in
    let inside : InHeap p.slots.grid k.slot.addr (2 ^ k.slot.class) = slot_in_heap laws p.slots.grid a k.slot k.found in
    let here : contains p.slots.grid.held k.slot.addr ≡ true = ap (contains p.slots.grid.held) k.addr ∙ k.held in
    let short : skip + len ≤ 2 ^ k.slot.class = omega (arith, le, ap (λ (n : ℕ). 2 ^ n) k.class) in
    subst (λ (x : ℕ). HeldBytes memory taken (x + skip) len) k.addr
    (record {
      mapped = inner _ k.slot.addr (2 ^ k.slot.class) skip len (heap_mapped p.slots.grid memory taken k.slot.addr (2 ^ k.slot.class) ok home inside) short;
      writable = inner memory.writable k.slot.addr (2 ^ k.slot.class) skip len (heap_writable p.slots.grid memory taken k.slot.addr (2 ^ k.slot.class) home inside) short;
      sure = inner _ k.slot.addr (2 ^ k.slot.class) skip len (heap_taken laws p.slots.grid memory taken a k.slot home k.found here) short;
    })

-- two slots have no byte in common
slots_clash : SlotLaws → (s : Slots) (a b c d z : ℕ) → HeldPlace s a c → HeldPlace s b d → a ≤ z → z < a + 2 ^ c → b ≤ z → z < b + 2 ^ d → a ≡ b
slots_clash laws s a b c d z x y low high from to =
    let one : slot_at s z ≡ Some x.slot = laws.apart s a z x.slot x.found (omega (arith, x.addr, low)) (omega (arith, x.addr, high, ap (λ (n : ℕ). 2 ^ n) x.class)) in
    let other : slot_at s z ≡ Some y.slot = laws.apart s b z y.slot y.found (omega (arith, y.addr, from)) (omega (arith, y.addr, to, ap (λ (n : ℕ). 2 ^ n) y.class)) in
    sym x.addr ∙ ap (λ (t : Slot). t.addr) (same_Some x.slot y.slot (sym one ∙ other)) ∙ y.addr

-- nor have spans in them
spans_clash : SlotLaws → (s : Slots) (a b c d i j len : ℕ) → HeldPlace s a c → HeldPlace s b d → i + len ≤ 2 ^ c → j + len ≤ 2 ^ d → (a ≡ b → ⊥) → (a + i + len ≤ b + j → ⊥) → (b + j + len ≤ a + i → ⊥) → ⊥
spans_clash laws s a b c d i j len x y short fits differ below above = at (cases_lt (b + j) (a + i))
  where
    before : a + i ≤ b + j → (b + j < a + i + len) ⊎ (a + i + len ≤ b + j) → ⊥
    before low (inl h) = differ (slots_clash laws s a b c d (b + j) x y (omega (arith, low)) (omega (arith, h, short)) (omega arith) (omega (arith, h, low, fits)))
    before low (inr h) = below h

    behind : b + j < a + i → (a + i < b + j + len) ⊎ (b + j + len ≤ a + i) → ⊥
    behind low (inl h) = differ (slots_clash laws s a b c d (a + i) x y (omega arith) (omega (arith, h, low, short)) (omega (arith, low)) (omega (arith, h, fits)))
    behind low (inr h) = above h

    at : (b + j < a + i) ⊎ (a + i ≤ b + j) → ⊥
    at (inl low) = behind low (cases_lt (a + i) (b + j + len))
    at (inr low) = before low (cases_lt (b + j) (a + i + len))

-- spans of one length lie apart where it can't be that they don't
pub lie_apart : (a b len : ℕ) → ((a + len ≤ b → ⊥) → (b + len ≤ a → ⊥) → ⊥) → (a + len ≤ b) ⊎ (b + len ≤ a)
lie_apart a b len must = at (cases_lt b (a + len)) (cases_lt a (b + len))
  where
    at : (b < a + len) ⊎ (a + len ≤ b) → (a < b + len) ⊎ (b + len ≤ a) → (a + len ≤ b) ⊎ (b + len ≤ a)
    at (inr h) k = inl h
    at (inl h) (inr k) = inr k
    at (inl h) (inl k) = absurd (must (λ x. omega (arith, h, x)) (λ x. omega (arith, k, x)))

-- ---- the answers

pub resized_is : (rules : Rules) (size site : ℕ) (s : HeapState) (o : Option Owner) (owner : Owner) (r : Request) → o ≡ Some owner → size ≤ 2 ^ 20 → r ≡ request rules usual size site
    → resized rules size site s o ≡ replaced rules size site owner (place r rules.zero s)
resized_is rules size site s o owner r e h q =
    ap (resized rules size site s) e
    ∙ ap (λ (b : Bool). cond b (answers 0 s) (replaced rules size site owner (place (request rules usual size site) rules.zero s))) (le-ltb size_limit size h)
    ∙ ap (λ (x : Request). replaced rules size site owner (place x rules.zero s)) (sym q)

pub moved_fails : (rules : Rules) (size site : ℕ) (owner : Owner) (x : Outcome) (p : Parts) (m : Memory) (refusal : HeapRefusal) → Gives x.state x.answer (Err refusal) p m
    → Gives (replaced rules size site owner x).state (replaced rules size site owner x).answer (Err refusal) p m
moved_fails rules size site owner x p m NoMemory g = tt
moved_fails rules size site owner x p m (Room used wanted) g =
    subst (λ (o : Outcome). Gives o.state o.answer (Err (Room used wanted)) p m) (sym (ap (moved rules size site owner x.state) g.0)) (refl, g.1)

pub moved_succeeds : (rules : Rules) (size site old slot address len : ℕ) (row : Row) (owner : Owner) (x : Outcome) (p q : Parts) (m n k : Memory) → x.answer ≡ Ok address → IsAt x.state p m
    → n ≡ copied old address len m → len ≡ min row.size size → row.addr ≡ old → (w : OwnerAt x.state.history slot row) → w.owner ≡ owner → rules_in p ≡ rules
    → ((h : History) (o : Owner) → PartsStandFor p h → last_owner h.objects slot ≡ Some o → IsAt (owner_freed (rules_in p) site o (record { history = h; memory = n })) q k)
    → Gives (replaced rules size site owner x).state (replaced rules size site owner x).answer (Ok address) q k
moved_succeeds rules size site old slot address len row owner x p q m n k e at copy short place w same rule freed =
    subst (λ (o : Outcome). Gives o.state o.answer (Ok address) q k) (sym (ap (moved rules size site owner x.state) e)) (
      refl,
      subst (λ (r : Rules). IsAt (owner_freed r site owner (record { history = x.state.history; memory = copied (address_of owner.object) address (min owner.object.size size) x.state.memory })) q k) rule
          (subst (λ (y : Memory). IsAt (owner_freed (rules_in p) site owner (record { history = x.state.history; memory = y })) q k) bytes
          (freed x.state.history owner at.stands (w.is_last ∙ ap (λ (o : Owner). Some o) same))),
    )
  where
    bytes : n ≡ copied (address_of owner.object) address (min owner.object.size size) x.state.memory
    bytes =
        copy ∙ ap (λ (y : Memory). copied old address len y) at.bytes ∙ ap (λ (l : ℕ). copied old address l x.state.memory) short
        ∙ ap (λ (l : ℕ). copied old address (min l size) x.state.memory) (ap (λ (r : Row). r.size) w.row_is ∙ ap (λ (o : Owner). o.object.size) same)
        ∙ ap (λ (a : ℕ). copied a address (min owner.object.size size) x.state.memory) (sym place ∙ ap (λ (r : Row). r.addr) w.row_is ∙ ap (λ (o : Owner). address_of o.object) same)

-- an owned object that is still there after a placement
record StillOwned (k : History) (slot len : ℕ) (row : Row) : Type 0 where
  owner : OwnerAt k slot row
  fits : owner.owner.object.front + len ≤ 2 ^ owner.owner.object.class
  address : row.addr ≡ slot + owner.owner.object.front

still_owned : (r : Request) (zeroed : Bool) (s : HeapState) (address slot len : ℕ) (row : Row) (p : Parts) (m : Memory) → Gives (place r zeroed s).state (place r zeroed s).answer (Ok address) p m → OwnerAt s.history slot row → len ≤ row.size
    → StillOwned (place r zeroed s).state.history slot len row
still_owned r zeroed s address slot len row p m g w short =
    let k : History = (place r zeroed s).state.history in
    let x : PlacedAt s.history r address k = placed_after r zeroed s address g.0 in
    let v : OwnerAt k slot row = owner_after s.history r x.slot k slot row x.after g.1.stands.lawful.apart w in
    let placed : IsPlaced k.classes v.owner.object = each_at (IsPlaced k.classes) v.first v.owner.object v.last (subst (AllByRecursion (IsPlaced k.classes)) v.parts g.1.stands.lawful.placed) in
    record {
      owner = v;
      fits = omega (arith, short, placed.room.fits, ap (λ (y : Row). y.size) v.row_is);
      address = ap (λ (y : Row). y.addr) v.row_is ∙ ap (λ (a : ℕ). a + v.owner.object.front) v.slot;
    }

-- the bytes that are copied, of the old object and of the new
pub old_bytes : SlotLaws → (r : Request) (zeroed : Bool) (s : HeapState) (address slot len : ℕ) (row : Row) (p : Parts) (m : Memory) (taken : ℕ → Bool) → Gives (place r zeroed s).state (place r zeroed s).answer (Ok address) p m → IsHome p.slots.grid m taken
    → OwnerAt s.history slot row → len ≤ row.size → HeldBytes m taken row.addr len
old_bytes laws r zeroed s address slot len row p m taken g home w short =
    let k : History = (place r zeroed s).state.history in
    let x : StillOwned k slot len row = still_owned r zeroed s address slot len row p m g w short in
    let v : OwnerAt k slot row = x.owner in
    subst (λ (a : ℕ). HeldBytes m taken a len) (sym x.address)
    (held_bytes laws p k v.first v.owner.object v.last m taken slot v.owner.object.front len g.1.stands home v.parts (ap is_held v.state) v.slot x.fits)

pub new_bytes : SlotLaws → (r : Request) (zeroed : Bool) (s : HeapState) (address len : ℕ) (p : Parts) (m : Memory) (taken : ℕ → Bool) → Gives (place r zeroed s).state (place r zeroed s).answer (Ok address) p m → IsHome p.slots.grid m taken
    → r.front + len ≤ 2 ^ r.class → HeldBytes m taken address len
new_bytes laws r zeroed s address len p m taken g home fits =
    let k : History = (place r zeroed s).state.history in
    let x : PlacedAt s.history r address k = placed_after r zeroed s address g.0 in
    subst (λ (a : ℕ). HeldBytes m taken a len) (sym x.behind)
    (held_bytes laws p k (map (released_object x.after.clock) s.history.objects) (new_object r x.slot) [] m taken x.slot r.front len g.1.stands home (new_parts s.history r x.slot k x.after) refl refl fits)

-- they lie apart
pub copy_clash : SlotLaws → (r : Request) (zeroed : Bool) (s : HeapState) (address slot len : ℕ) (row : Row) (p : Parts) (m : Memory) → Gives (place r zeroed s).state (place r zeroed s).answer (Ok address) p m
    → OwnerAt s.history slot row → len ≤ row.size → r.front + len ≤ 2 ^ r.class → (row.addr + len ≤ address → ⊥) → (address + len ≤ row.addr → ⊥) → ⊥
copy_clash laws r zeroed s address slot len row p m g w short fits below above =
    let k : History = (place r zeroed s).state.history in
    let x : PlacedAt s.history r address k = placed_after r zeroed s address g.0 in
    let y : StillOwned k slot len row = still_owned r zeroed s address slot len row p m g w short in
    let v : OwnerAt k slot row = y.owner in
    spans_clash laws p.slots.grid slot x.slot v.owner.object.class r.class v.owner.object.front r.front len (held_place p k v.first v.owner.object v.last slot g.1.stands v.parts (ap is_held v.state) v.slot)
    (held_place p k (map (released_object x.after.clock) s.history.objects) (new_object r x.slot) [] x.slot g.1.stands (new_parts s.history r x.slot k x.after) refl refl)
    y.fits fits (owner_elsewhere s.history r x.slot k slot row x.after g.1.stands.lawful.apart w)
    (λ h. below (omega (arith, h, x.behind, y.address))) (λ h. above (omega (arith, h, x.behind, y.address)))

-- the heap's memory after the copy
pub home_copied : (s : Slots) (memory : Memory) (old new : ℕ → Bool) (from to len : ℕ) → is_mapped memory to len ≡ true → KeepsTaken old new → IsHome s memory old → IsHome s (copied from to len memory) new
home_copied s memory old new from to len mapped keeps home =
    let bytes : List ℕ = unwrap_or (span memory.bytes from len) [] in
    home_keeps s (copied from to len memory) old new keeps
    (home_filled s memory old to (length bytes) (λ a. get_or bytes (a - to) 0) (shorter (λ a. is_some (memory.bytes a)) to len (length bytes) mapped (few_bytes memory.bytes from len)) home)
