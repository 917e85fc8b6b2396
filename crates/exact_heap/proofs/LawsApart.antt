-- The slots that objects hold are apart, and lie within the miniheaps.
use Rattle.std.proofs.Common.{◌≡◌, ℕ, zero, suc, ◌+◌, ◌%◌, ◌^◌, ◌<◌, ◌≤◌, refl, ap, sym, ◌∙◌, subst, true, arith, min, List, [], ◌∷◌, Option, Some, None, IsSomeAnd}
use Rattle.std.specs.Prelude.{slice_get}
use Rattle.std.specs.List.{AllByRecursion}
use Rattle.std.proofs.lemmas.Bool.{true≢false}
use Rattle.std.proofs.lemmas.Option.{same_Some}
use Rattle.std.proofs.lemmas.List.Elements.{All-weaker}
use Rattle.miniheap.specs.declared.place.Slot.{Slot}
use Rattle.miniheap.specs.Slots.{slot_at}
use Rattle.exact_heap.specs.History.{Object, History, slot_of, address_of, holds_slot}
use Rattle.exact_heap.specs.Lawful.{places_of, IsPlaced, IsEarlier, AreApart}
use Rattle.exact_heap.specs.Laws.{HoldsAt, HeldSlotsAreApart, ObjectsLieWithin}
use Rattle.miniheap.specs.Laws.{SlotLaws, SlotsBeginAtMultiples}
use Rattle.exact_heap.proofs.Alignments.{sum_multiple, exponent_below}

pub each_number : (P : Object → Type 0) (os : List Object) (i : ℕ) (o : Object) → AllByRecursion P os → slice_get os i ≡ Some o → P o
each_number P [] i o h e = absurd (cc)
each_number P (x ∷ os) zero o h e = subst P (same_Some x o e) h.0
each_number P (x ∷ os) (suc i) o h e = each_number P os i o h.1 e

-- an object that holds its slot is the only one that does
pub one_holds : (os : List Object) (i j : ℕ) (o p : Object) → AreApart os → slice_get os i ≡ Some o → slice_get os j ≡ Some p → holds_slot o ≡ true → holds_slot p ≡ true → slot_of o ≡ slot_of p → i ≡ j
one_holds [] i j o p h e f ho hp s = absurd (cc)
one_holds (x ∷ os) zero zero o p h e f ho hp s = refl
one_holds (x ∷ os) zero (suc j) o p h e f ho hp s =
    let q : x ≡ o = same_Some x o e in
    absurd (true≢false (sym ho ∙ ap holds_slot (sym q) ∙ each_number (IsEarlier x) os j p h.0 f (ap slot_of q ∙ s)))
one_holds (x ∷ os) (suc i) zero o p h e f ho hp s =
    let q : x ≡ p = same_Some x p f in
    absurd (true≢false (sym hp ∙ ap holds_slot (sym q) ∙ each_number (IsEarlier x) os i o h.0 e (ap slot_of q ∙ sym s)))
one_holds (x ∷ os) (suc i) (suc j) o p h e f ho hp s = ap suc (one_holds os i j o p h.1 e f ho hp s)

-- ---- an object's slot

pub record OwnSlot (classes : List ℕ) (o : Object) : Type 0 where
  pub slot : Slot
  pub found : slot_at (places_of classes) (slot_of o) ≡ Some slot
  pub addr : slot.addr ≡ slot_of o
  pub class : slot.class ≡ o.class

abbrev pub HasSlot : List ℕ → Object → Type 0
HasSlot classes o = IsSomeAnd (slot_at (places_of classes) (slot_of o)) (λ t. (t.addr ≡ slot_of o) × (t.class ≡ o.class))

pub own_slot : (classes : List ℕ) (o : Object) → HasSlot classes o → OwnSlot classes o
own_slot classes o k = at (slot_at (places_of classes) (slot_of o)) refl k
  where
    at : (x : Option Slot) → slot_at (places_of classes) (slot_of o) ≡ x → IsSomeAnd x (λ t. (t.addr ≡ slot_of o) × (t.class ≡ o.class)) → OwnSlot classes o
    at None e h = absurd h
    at (Some t) e h = record { slot = t; found = e; addr = h.0; class = h.1 }

-- each address of it finds it
pub own_found : SlotLaws → (classes : List ℕ) (o : Object) (w : OwnSlot classes o) (a : ℕ) → slot_of o ≤ a → a < slot_of o + 2 ^ o.class → slot_at (places_of classes) a ≡ Some w.slot
own_found laws classes o w a lo hi = laws.apart (places_of classes) (slot_of o) a w.slot w.found (omega (arith, w.addr, lo)) (omega (arith, w.addr, hi, ap (λ (c : ℕ). 2 ^ c) w.class))

-- ---- the laws

pub record Holder (h : History) (i a : ℕ) : Type 0 where
  pub object : Object
  pub found : slice_get h.objects i ≡ Some object
  pub holds : holds_slot object ≡ true
  pub low : slot_of object ≤ a
  pub high : a < slot_of object + 2 ^ object.class

pub holder : (h : History) (i a : ℕ) → HoldsAt h i a → Holder h i a
holder h i a k = at (slice_get h.objects i) refl k
  where
    at : (x : Option Object) → slice_get h.objects i ≡ x → IsSomeAnd x (λ o. (holds_slot o ≡ true) × (slot_of o ≤ a) × (a < slot_of o + 2 ^ o.class)) → Holder h i a
    at None e m = absurd m
    at (Some o) e m = record { object = o; found = e; holds = m.0; low = m.1; high = m.2 }

pub held_slots_are_apart : SlotLaws → HeldSlotsAreApart
held_slots_are_apart laws h i j a l ki kj =
    let x = holder h i a ki in
    let y = holder h j a kj in
    let v = own_slot h.classes x.object (each_number (IsPlaced h.classes) h.objects i x.object l.placed x.found).slot in
    let w = own_slot h.classes y.object (each_number (IsPlaced h.classes) h.objects j y.object l.placed y.found).slot in
    let same : v.slot ≡ w.slot = same_Some v.slot w.slot (sym (own_found laws h.classes x.object v a x.low x.high) ∙ own_found laws h.classes y.object w a y.low y.high) in
    one_holds h.objects i j x.object y.object l.apart x.found y.found x.holds y.holds (sym v.addr ∙ ap (λ (t : Slot). t.addr) same ∙ w.addr)

pub objects_lie_within : SlotLaws → SlotsBeginAtMultiples → ObjectsLieWithin
objects_lie_within laws begin h i l o e =
    let k : IsPlaced h.classes o = each_number (IsPlaced h.classes) h.objects i o l.placed e in
    let v = own_slot h.classes o k.slot in
    let w = laws.within (places_of h.classes) (slot_of o) v.slot v.found in
    let power = k.room.aligned.power in
    let small : power.0 ≤ 12 = exponent_below power.0 12 (omega (arith, power.1, k.room.aligned.high)) in
    let fine : power.0 ≤ o.class = exponent_below power.0 o.class (omega (arith, power.1, k.room.alignment_fits)) in
    record {
      low = omega (arith, w.0, v.addr);
      high = omega (arith, w.1, v.addr, ap (λ (c : ℕ). 2 ^ c) v.class);
      aligned = ap (λ (x : ℕ). x % 16) (sym v.addr) ∙ laws.aligned (places_of h.classes) (slot_of o) v.slot (All-weaker (λ (c : ℕ). (4 ≤ c) × (c ≤ 22)) (λ (c : ℕ). 4 ≤ c) (λ c m. m.0) h.classes l.in_order.in_classes) v.found;
      fits = k.room.fits;
      multiple = subst (λ (a : ℕ). address_of o % a ≡ 0) (sym power.1)
          (sum_multiple (slot_of o) o.front (min o.class 16) power.0 (omega (arith, small, fine))
          (ap (λ (x : ℕ). x % 2 ^ min o.class 16) (sym v.addr) ∙ ap (λ (c : ℕ). v.slot.addr % 2 ^ min c 16) (sym v.class) ∙ begin (places_of h.classes) (slot_of o) v.slot v.found)
          (subst (λ (a : ℕ). o.front % a ≡ 0) power.1 k.room.front_aligned));
    }
