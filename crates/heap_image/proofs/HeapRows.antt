-- The rows of a heap keep the rules of an image's rows.
use Rattle.std.proofs.Common.{◌≡◌, ℕ, suc, ◌+◌, ◌-◌, ◌*◌, ◌/◌, ◌%◌, ◌^◌, ◌<◌, ◌≤◌, refl, ap, sym, ◌∙◌, subst, arith, Bool, true, false, cond, not, ◌&&◌, ◌||◌, max, nat_eq, nat_le, nat_lt, ◌⊎◌, inl, inr, List, [], ◌∷◌, ◌++◌, Option, Some, None, IsSomeAnd}
use Rattle.std.specs.List.{AllByRecursion, list_all, slice_get, filter_map, cons_option}
use Rattle.std.specs.FinSet.{contains}
use Rattle.std.specs.Option.{option_map}
use Rattle.std.proofs.lemmas.Bool.{cases_lt, eqb-true, eq-eqb, ne_eqb, le-leb, lt-ltb}
use Rattle.std.proofs.lemmas.Nat.{div-add-mod', mod-mul-add, pow-add, pow_pos}
use Rattle.std.proofs.Math.Nat.{mul_assoc, pow-le-pow_right}
use Rattle.std.proofs.lemmas.Option.{same_Some, slice_get_within}
use Rattle.miniheap.specs.Laws.{SlotsFollow, SlotsAreAtPlaces, IsWalk}
use Rattle.miniheap.specs.Layout.{heap_from, minis, all_slots}
use Rattle.miniheap.specs.Places.{place_at}
use Rattle.miniheap.specs.Slots.{Slots, slot_at}
use Rattle.miniheap.specs.Slots as slots
use Rattle.miniheap.specs.declared.place.Slot.{Slot}
use Rattle.miniheap.specs.declared.place.SlotPlace.{SlotPlace}
use Rattle.exact_heap.specs.declared.row.SlotRow.{SlotRow}
use Rattle.exact_heap.specs.History.{ObjectState, Owned, Deferred, Released, Object, History, slot_of, is_owned, slots_of, clock_of}
use Rattle.exact_heap.specs.Owners.{Owner, or_this, has_slot, last_from, last_owner}
use Rattle.exact_heap.specs.Rows.{state_number, owned_row, bad_row, row_if, row_at, rows_of}
use Rattle.exact_heap.specs.Lawful.{places_of, HasRoom, IsPlaced, IsTimed, IsTimedBy, IsLawful}
use Rattle.exact_heap.specs.Laws.{ObjectsAreTimed}
use Rattle.heap_image.specs.Rules.{slot_bytes, bytes_from, addr_fits, is_fresh, is_unfreed}
use Rattle.heap_image.specs.Lawful.{Each, IsRow}
use Rattle.heap_image.specs.Laws.{IsTyped}
use Rattle.heap_image.proofs.Lists.{both_true, each_implies, each_push, each_passes, each_found}

-- ---- the last owner of a slot

record IsLast (objects : List Object) (slot number : ℕ) (w : Owner) : Type 0 where
  from : number ≤ w.number
  found : slice_get objects (w.number - number) ≡ Some w.object
  has : has_slot slot w.object ≡ true

last_is : (slot number : ℕ) (objects : List Object) (w : Owner) → last_from (has_slot slot) number objects ≡ Some w → IsLast objects slot number w
last_is slot number [] w e = absurd (cc)
last_is slot number (o ∷ os) w e = at (last_is slot (number + 1) os w) (last_from (has_slot slot) (number + 1) os) refl e
  where
    this : Owner
    this = record { number = number; object = o }

    here : (b : Bool) → has_slot slot o ≡ b → cond b (Some this) None ≡ Some w → IsLast (o ∷ os) slot number w
    here false f g = absurd (cc)
    here true f g =
        let q : this ≡ w = same_Some this w g in
        subst (IsLast (o ∷ os) slot number) q (record { from = omega arith; found = subst (λ (n : ℕ). slice_get (o ∷ os) n ≡ Some o) (let z : 0 ≡ number - number = omega arith in z) refl; has = f })

    at : (last_from (has_slot slot) (number + 1) os ≡ Some w → IsLast os slot (number + 1) w) → (l : Option Owner) → last_from (has_slot slot) (number + 1) os ≡ l → or_this l (cond (has_slot slot o) (Some this) None) ≡ Some w → IsLast (o ∷ os) slot number w
    at further None f g = here (has_slot slot o) refl g
    at further (Some v) f g =
        let k = further (f ∙ g) in
        record {
          from = omega (arith, k.from);
          found = subst (λ (n : ℕ). slice_get (o ∷ os) n ≡ Some w.object) (let z : suc (w.number - (number + 1)) ≡ w.number - number = omega (arith, k.from) in z) k.found;
          has = k.has;
        }

-- ---- rows of a heap

-- a row of the object of that number, whose slot it is
pub record IsOwnersRow (h : History) (r : SlotRow) : Type 0 where
  pub object : Object
  pub is_bad : Bool
  pub found : slice_get h.objects r.object ≡ Some object
  pub slot : slot_of object ≡ r.addr
  pub row : r ≡ owned_row r.addr is_bad (record { number = r.object; object = object })

abbrev pub IsHeapRow : History → SlotRow → Type 0
IsHeapRow h r = (r ≡ bad_row r.addr) ⊎ IsOwnersRow h r

owner_found : (objects : List Object) (slot : ℕ) (w : Owner) → last_owner objects slot ≡ Some w → (slice_get objects w.number ≡ Some w.object) × (slot_of w.object ≡ slot)
unfolding last_owner
owner_found objects slot w e =
    let k = last_is slot 0 objects w e in
    (subst (λ (n : ℕ). slice_get objects n ≡ Some w.object) (let z : w.number - 0 ≡ w.number = omega arith in z) k.found, eqb-true (slot_of w.object) slot k.has)

pub row_is : (h : History) (slot : ℕ) (r : SlotRow) → row_at h slot ≡ Some r → (r.addr ≡ slot) × IsHeapRow h r
row_is h slot r e = at (last_owner h.objects slot) refl e
  where
    bad : (b : Bool) → cond b (Some (bad_row slot)) None ≡ Some r → (r.addr ≡ slot) × IsHeapRow h r
    bad false f = absurd (cc)
    bad true f = subst (λ (x : SlotRow). (x.addr ≡ slot) × IsHeapRow h x) (same_Some (bad_row slot) r f) (refl, inl refl)

    at : (l : Option Owner) → last_owner h.objects slot ≡ l → row_if slot (contains h.bad slot) l ≡ Some r → (r.addr ≡ slot) × IsHeapRow h r
    at None f g = bad (contains h.bad slot) g
    at (Some w) f g =
        let k = owner_found h.objects slot w f in
        subst (λ (x : SlotRow). (x.addr ≡ slot) × IsHeapRow h x) (same_Some (owned_row slot (contains h.bad slot) w) r g)
        (refl, inr (record { object = w.object; is_bad = contains h.bad slot; found = k.0; slot = k.1; row = refl }))

-- ---- states of rows

pub state_below_4 : (b : Bool) (s : ObjectState) → nat_eq (state_number b s) 4 ≡ false
state_below_4 b Owned = refl
state_below_4 b (Deferred due) = refl
state_below_4 true (Released due) = refl
state_below_4 false (Released due) = refl

state_is_4 : (b : Bool) (s : ObjectState) → nat_le (state_number b s) 4 ≡ true
state_is_4 b Owned = refl
state_is_4 b (Deferred due) = refl
state_is_4 true (Released due) = refl
state_is_4 false (Released due) = refl

state_unfreed : (b : Bool) (s : ObjectState) → is_unfreed (state_number b s) ≡ is_owned s
state_unfreed b Owned = refl
state_unfreed b (Deferred due) = refl
state_unfreed true (Released due) = refl
state_unfreed false (Released due) = refl

-- ---- the places of slots

pub record IsPlaceAt (s : Slots) (a : ℕ) (t : Slot) : Type 0 where
  pub place : SlotPlace
  pub found : place_at s.classes a ≡ Some place
  pub is : slots.slot_of s place ≡ t

pub place_of_slot : SlotsAreAtPlaces → (s : Slots) (a : ℕ) (t : Slot) → slot_at s a ≡ Some t → IsPlaceAt s a t
place_of_slot law s a t e = at (place_at s.classes a) refl
  where
    at : (o : Option SlotPlace) → place_at s.classes a ≡ o → IsPlaceAt s a t
    at None f = absurd (clash (option_map (slots.slot_of s) (place_at s.classes a)) (ap (option_map (slots.slot_of s)) f) (sym (law s a) ∙ e))
      where
        clash : (o : Option Slot) → o ≡ None → o ≡ Some t → ⊥
        clash o g k = cc
    at (Some p) f = record { place = p; found = f; is = same_Some (slots.slot_of s p) t (sym (ap (option_map (slots.slot_of s)) f) ∙ sym (law s a) ∙ e) }

pub bytes_is : SlotsAreAtPlaces → (s : Slots) (t : Slot) → slot_at s t.addr ≡ Some t → slot_bytes s.classes t.addr ≡ 2 ^ t.class
unfolding slot_bytes
bytes_is law s t e =
    let k = place_of_slot law s t.addr t e in
    let addr : k.place.addr ≡ t.addr = ap (λ (x : Slot). x.addr) k.is in
    let class : k.place.class ≡ t.class = ap (λ (x : Slot). x.class) k.is in
    ap (bytes_from t.addr) k.found ∙ ap (λ (b : Bool). cond b (2 ^ k.place.class) 0) (eq-eqb k.place.addr t.addr addr) ∙ ap (λ (c : ℕ). 2 ^ c) class

-- an object's class is that of the slot at its slot's address
class_is : SlotsAreAtPlaces → (h : History) (o : Object) (t : Slot) → IsPlaced h.classes o → slot_at (slots_of h) (slot_of o) ≡ Some t → o.class ≡ t.class
class_is law h o t placed e =
    let k = place_of_slot law (slots_of h) (slot_of o) t e in
    at (slot_at (places_of h.classes) (slot_of o)) (law (places_of h.classes) (slot_of o) ∙ ap (option_map (slots.slot_of (places_of h.classes))) k.found) placed.slot ∙ ap (λ (x : Slot). x.class) k.is
  where
    at : {p : SlotPlace} (l : Option Slot) → l ≡ Some (slots.slot_of (places_of h.classes) p) → IsSomeAnd l (λ u. (u.addr ≡ slot_of o) × (u.class ≡ o.class)) → o.class ≡ p.class
    at None f is = absurd is
    at {p = p} (Some u) f is = sym is.1 ∙ ap (λ (x : Slot). x.class) (same_Some u (slots.slot_of (places_of h.classes) p) f)

-- ---- one row

bad_row_fits : (classes : List ℕ) (clock : ℕ) (earlier : List SlotRow) (a : ℕ) → IsTyped (bad_row a) → addr_fits classes earlier a ≡ true → IsRow classes clock earlier (bad_row a)
bad_row_fits classes clock earlier a typed fits = record {
  addr_word = typed.addr;
  state_byte = typed.state;
  object_long = typed.object;
  size_word = typed.size;
  front_word = typed.front;
  site_word = typed.site;
  free_site_word = typed.free_site;
  freed_long = typed.freed;
  addr = fits;
  state = refl;
  object = refl;
  size = refl;
  front = refl;
  site = refl;
  free_site = refl;
  freed = refl;
}

-- what is known of an object that has had a slot of so many bytes
record IsKept (slot clock : ℕ) (earlier : List SlotRow) (w : Owner) : Type 0 where
  below : w.number < clock
  fresh : is_fresh earlier w.number ≡ true
  size : w.object.size ≤ 2 ^ 20
  front : w.object.front ≤ 2 ^ 16
  multiple : w.object.front % 16 ≡ 0
  room : w.object.front + max 1 w.object.size ≤ slot
  timed : IsTimed clock w.number w.object

by_state : (number : ℕ) (P : Bool → Type 0) → nat_eq number 4 ≡ false → P false → P (nat_eq number 4)
by_state number P e p = subst P (sym e) p

either_true : (a b : Bool) → b ≡ true → (a || b) ≡ true
either_true true b e = refl
either_true false b e = e

owned_row_fits : (classes : List ℕ) (clock : ℕ) (earlier : List SlotRow) (a : ℕ) (is_bad : Bool) (w : Owner) → IsTyped (owned_row a is_bad w) → addr_fits classes earlier a ≡ true
    → IsKept (slot_bytes classes a) clock earlier w → IsRow classes clock earlier (owned_row a is_bad w)
owned_row_fits classes clock earlier a is_bad w typed fits k = record {
  addr_word = typed.addr;
  state_byte = typed.state;
  object_long = typed.object;
  size_word = typed.size;
  front_word = typed.front;
  site_word = typed.site;
  free_site_word = typed.free_site;
  freed_long = typed.freed;
  addr = fits;
  state = state_is_4 is_bad o.state;
  object = by_state n (λ (b : Bool). cond b (nat_eq w.number 0) (nat_lt w.number clock && is_fresh earlier w.number) ≡ true) low (both_true (lt-ltb w.number clock k.below) k.fresh);
  size = by_state n (λ (b : Bool). cond b (nat_eq o.size 0) (nat_le o.size (2 ^ 20) && nat_le o.size slot) ≡ true) low (both_true (le-leb o.size (2 ^ 20) k.size) (le-leb o.size slot (omega (arith, k.room))));
  front = by_state n (λ (b : Bool). cond b (nat_eq o.front 0) ((nat_eq (o.front % 16) 0) && nat_le o.front 65536 && nat_le (o.front + max o.size 1) slot) ≡ true) low
      (both_true (both_true (eq-eqb (o.front % 16) 0 k.multiple) (le-leb o.front 65536 (omega (arith, k.front)))) (le-leb (o.front + max o.size 1) slot (omega (arith, k.room))));
  site = by_state n (λ (b : Bool). (not b || nat_eq o.site 0) ≡ true) low refl;
  free_site = subst (λ (b : Bool). (not b || nat_eq o.free_site 0) ≡ true) (sym (state_unfreed is_bad o.state)) (unfreed_site (is_owned o.state) k.timed);
  freed = subst (λ (b : Bool). cond b (nat_eq o.freed 0) (nat_lt w.number o.freed && nat_le o.freed clock) ≡ true) (sym (state_unfreed is_bad o.state)) (freed_clock (is_owned o.state) k.timed);
}
  where
    o : Object
    o = w.object

    n : ℕ
    n = state_number is_bad w.object.state

    slot : ℕ
    slot = slot_bytes classes a

    low : nat_eq (state_number is_bad w.object.state) 4 ≡ false
    low = state_below_4 is_bad w.object.state

    unfreed_site : (b : Bool) → IsTimedBy b clock w.number w.object → (not b || nat_eq w.object.free_site 0) ≡ true
    unfreed_site true t = eq-eqb w.object.free_site 0 t.no_site
    unfreed_site false t = refl

    freed_clock : (b : Bool) → IsTimedBy b clock w.number w.object → cond b (nat_eq w.object.freed 0) (nat_lt w.number w.object.freed && nat_le w.object.freed clock) ≡ true
    freed_clock true t = eq-eqb w.object.freed 0 t.no_clock
    freed_clock false t = both_true (lt-ltb w.number w.object.freed t.after) (le-leb w.object.freed clock t.by_now)

-- ---- all rows

-- rows of slots before an address
abbrev IsBefore : History → (from : ℕ) → SlotRow → Type 0
IsBefore h from r = (r.addr < from) × IsHeapRow h r

abbrev AreBefore : History → (from : ℕ) → List SlotRow → Type 0
AreBefore h from earlier = AllByRecursion (IsBefore h from) earlier

-- no earlier row is of an object whose slot lies behind
fresh_behind : (h : History) (from number : ℕ) (o : Object) (earlier : List SlotRow) → AreBefore h from earlier → slice_get h.objects number ≡ Some o → from ≤ slot_of o → is_fresh earlier number ≡ true
fresh_behind h from number o earlier before found far = each_passes (IsBefore h from) (λ r. (nat_eq r.state 4) || not (nat_eq r.object number)) apart earlier before
  where
    other : (r : SlotRow) → r.addr < from → IsHeapRow h r → ((nat_eq r.state 4) || not (nat_eq r.object number)) ≡ true
    other r low (inl bad) = subst (λ (x : ℕ). ((nat_eq x 4) || not (nat_eq r.object number)) ≡ true) (sym (ap (λ (x : SlotRow). x.state) bad)) refl
    other r low (inr k) =
        either_true (nat_eq r.state 4) (not (nat_eq r.object number))
        (ap not (ne_eqb r.object number (λ (e : r.object ≡ number).
        let q : k.object ≡ o = same_Some k.object o (sym k.found ∙ ap (slice_get h.objects) e ∙ found) in
        let slot : slot_of o ≡ r.addr = ap slot_of (sym q) ∙ k.slot in
        omega (arith, slot, low, far))))

    apart : (r : SlotRow) → IsBefore h from r → ((nat_eq r.state 4) || not (nat_eq r.object number)) ≡ true
    apart r k = other r k.0 k.1

record Known (h : History) : Type 0 where
  places : SlotsAreAtPlaces
  timed : ObjectsAreTimed
  lawful : IsLawful h

multiple_of_16 : (front alignment : ℕ) → front % alignment ≡ 0 → (k : ℕ) × (alignment ≡ 2 ^ k) → 16 ≤ alignment → front % 16 ≡ 0
multiple_of_16 front alignment e power low = ap (λ (x : ℕ). x % 16) whole ∙ mod-mul-add (front / alignment * 2 ^ (power.0 - 4)) 16 0 (omega arith)
  where
    four : 4 ≤ power.0
    four = at (cases_lt power.0 4)
      where
        at : (power.0 < 4) ⊎ (4 ≤ power.0) → 4 ≤ power.0
        at (inl below) =
            let few : power.0 ≤ 3 = omega (arith, below) in
            let small : 2 ^ power.0 ≤ 2 ^ 3 = pow-le-pow_right {n = 2} (omega arith) few in
            absurd (omega (arith, small, low, power.1))
        at (inr above) = above

    split : alignment ≡ 2 ^ (power.0 - 4) * 16
    split = power.1 ∙ ap (λ (x : ℕ). 2 ^ x) (let g : power.0 ≡ (power.0 - 4) + 4 = omega (arith, four) in g) ∙ pow-add 2 (power.0 - 4) 4

    parts : front ≡ front / alignment * alignment
    parts = let f = div-add-mod' front alignment in omega (arith, e, f)

    whole : front ≡ front / alignment * 2 ^ (power.0 - 4) * 16 + 0
    whole =
        let g : front / alignment * alignment ≡ front / alignment * 2 ^ (power.0 - 4) * 16 = ap (λ (x : ℕ). front / alignment * x) split ∙ sym (mul_assoc (front / alignment) (2 ^ (power.0 - 4)) 16) in
        omega (arith, parts, g)

kept : (h : History) → Known h → (t : Slot) (earlier : List SlotRow) (w : Owner) → slot_at (slots_of h) t.addr ≡ Some t → AreBefore h t.addr earlier → slice_get h.objects w.number ≡ Some w.object → slot_of w.object ≡ t.addr
    → IsKept (slot_bytes h.classes t.addr) (clock_of h) earlier w
kept h known t earlier w at before found slot =
    let placed : IsPlaced h.classes w.object = each_found (IsPlaced h.classes) h.objects w.number w.object known.lawful.placed found in
    let room : HasRoom w.object.class w.object.front w.object.alignment w.object.size = placed.room in
    let class : w.object.class ≡ t.class = class_is known.places h w.object t placed (ap (slot_at (slots_of h)) slot ∙ at) in
    let bytes : slot_bytes h.classes t.addr ≡ 2 ^ w.object.class = bytes_is known.places (slots_of h) t at ∙ ap (λ (c : ℕ). 2 ^ c) (sym class) in
    record {
      below = slice_get_within h.objects w.number w.object found;
      fresh = fresh_behind h t.addr w.number w.object earlier before found (omega (arith, slot));
      size = room.size_fits;
      front = room.front_fits;
      multiple = multiple_of_16 w.object.front w.object.alignment room.front_aligned room.aligned.power room.aligned.low;
      room = omega (arith, bytes, room.fits);
      timed = known.timed h w.number w.object known.lawful found;
    }

one_row : (h : History) → Known h → (t : Slot) (earlier : List SlotRow) (r : SlotRow) → slot_at (slots_of h) t.addr ≡ Some t → AreBefore h t.addr earlier → r.addr ≡ t.addr → IsTyped r → IsHeapRow h r → IsRow h.classes (clock_of h) earlier r
one_row h known t earlier r at before here typed row = of row
  where
    bytes : 0 < slot_bytes h.classes t.addr
    bytes = omega (arith, bytes_is known.places (slots_of h) t at, pow_pos t.class)

    above : list_all (λ e. nat_lt e.addr t.addr) earlier ≡ true
    above = each_passes (IsBefore h t.addr) (λ e. nat_lt e.addr t.addr) (λ e k. lt-ltb e.addr t.addr k.0) earlier before

    fits : addr_fits h.classes earlier r.addr ≡ true
    fits = subst (λ (a : ℕ). addr_fits h.classes earlier a ≡ true) (sym here) (both_true (lt-ltb 0 (slot_bytes h.classes t.addr) bytes) above)

    of : IsHeapRow h r → IsRow h.classes (clock_of h) earlier r
    of (inl bad) = subst (IsRow h.classes (clock_of h) earlier) (sym bad) (bad_row_fits h.classes (clock_of h) earlier r.addr (subst IsTyped bad typed) fits)
    of (inr k) =
        let w : Owner = record { number = r.object; object = k.object } in
        subst (IsRow h.classes (clock_of h) earlier) (sym k.row)
        (owned_row_fits h.classes (clock_of h) earlier r.addr k.is_bad w (subst IsTyped k.row typed) fits
        (subst (λ (a : ℕ). IsKept (slot_bytes h.classes a) (clock_of h) earlier w) (sym here) (kept h known t earlier w at before k.found (k.slot ∙ here))))

rows_from : (h : History) → Known h → (from : ℕ) (xs : List ℕ) (earlier : List SlotRow) → IsWalk (slots_of h) from xs → AreBefore h from earlier → AllByRecursion IsTyped (filter_map (row_at h) xs)
    → Each (IsRow h.classes (clock_of h)) earlier (filter_map (row_at h) xs)
rows_from h known from [] earlier walk before typed = tt
rows_from h known from (x ∷ xs) earlier walk before typed =
    let t : Slot = walk.0 in
    let here : x ≡ t.addr = walk.3 ∙ sym walk.2 in
    let found : slot_at (slots_of h) t.addr ≡ Some t = ap (slot_at (slots_of h)) walk.2 ∙ walk.1 in
    at t here found walk.2 (λ more older small. rows_from h known (from + 2 ^ t.class) xs more walk.4 older small) (row_at h x) refl typed
  where
    later : (t : Slot) → (rows : List SlotRow) → AreBefore h from rows → AreBefore h (from + 2 ^ t.class) rows
    later t rows all = each_implies (IsBefore h from) (IsBefore h (from + 2 ^ t.class)) (λ r k. (omega (arith, k.0), k.1)) rows all

    at : (t : Slot) → x ≡ t.addr → slot_at (slots_of h) t.addr ≡ Some t → t.addr ≡ from
        → ((more : List SlotRow) → AreBefore h (from + 2 ^ t.class) more → AllByRecursion IsTyped (filter_map (row_at h) xs) → Each (IsRow h.classes (clock_of h)) more (filter_map (row_at h) xs))
        → (o : Option SlotRow) → row_at h x ≡ o → AllByRecursion IsTyped (cons_option o (filter_map (row_at h) xs)) → Each (IsRow h.classes (clock_of h)) earlier (cons_option o (filter_map (row_at h) xs))
    at t here found start further None e small = further earlier (later t earlier before) small
    at t here found start further (Some r) e small =
        let k = row_is h x r e in
        let old : AreBefore h t.addr earlier = subst (λ (a : ℕ). AreBefore h a earlier) (sym start) before in
        let low : r.addr < from + 2 ^ t.class = omega (arith, k.0, here, start, pow_pos t.class) in
        (one_row h known t earlier r found old (k.0 ∙ here) small.0 k.1, further (earlier ++ r ∷ []) (each_push (IsBefore h (from + 2 ^ t.class)) earlier r (later t earlier before) (low, k.1)) small.1)

pub rows_fit : SlotsAreAtPlaces → SlotsFollow → ObjectsAreTimed → (h : History) → IsLawful h → AllByRecursion IsTyped (rows_of h) → Each (IsRow h.classes (clock_of h)) [] (rows_of h)
unfolding rows_of
rows_fit places follow timed h lawful typed = rows_from h (record { places = places; timed = timed; lawful = lawful }) heap_from (all_slots (minis h.classes)) [] (follow (slots_of h)) tt typed
