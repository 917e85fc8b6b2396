-- Where the objects of a lawful history lie, and which addresses they hold.
use Rattle.std.proofs.Common.{◌≡◌, ℕ, zero, suc, ◌+◌, ◌%◌, ◌^◌, ◌*◌, ◌<◌, ◌≤◌, refl, ap, sym, ◌∙◌, subst, true, false, ◌⊎◌, inl, inr, arith, List, [], ◌∷◌, length, Option, Some, None, IsSomeAnd}
use Rattle.std.specs.Prelude.{slice_get}
use Rattle.std.specs.List.{AllByRecursion}
use Rattle.std.proofs.Math.Nat.{pow-le-pow_right}
use Rattle.std.proofs.lemmas.Bool.{true≢false, cases_lt}
use Rattle.std.proofs.lemmas.Nat.{pow-add, pow_pos}
use Rattle.std.proofs.lemmas.Option.{same_Some}
use Rattle.infinite_heap.specs.Layout.{IsAlignment, IsIn}
use Rattle.exact_heap.specs.History.{Object, History, slot_of, address_of, holds_slot}
use Rattle.exact_heap.specs.Lawful.{IsPlaced, IsLawful}
use Rattle.exact_heap.specs.Laws.{HoldsAt, HeldSlotsAreApart, ObjectsLieWithin, LiesWithin}
use Rattle.rv_machine.specs.Objects.{of_object, layout_of}
use Rattle.simulation.specs.Agreement.{HeapsAreLaidOut}

-- what exact_heap says of where objects lie
pub record LaidFacts : Type 0 where
  pub apart : HeldSlotsAreApart
  pub within : ObjectsLieWithin

-- ---- objects by number

pub record Numbered (os : List Object) (n : ℕ) : Type 0 where
  pub object : Object
  pub found : slice_get os n ≡ Some object

pub numbered : (os : List Object) (n : ℕ) → n < length os → Numbered os n
numbered [] n h = absurd (omega (arith, h))
numbered (o ∷ os) zero h = record { object = o; found = refl }
numbered (o ∷ os) (suc n) h = let k = numbered os n (omega (arith, h)) in record { object = k.object; found = k.found }

pub known : (os : List Object) (n : ℕ) (o : Object) → slice_get os n ≡ Some o → n < length os
known [] n o e = absurd (cc)
known (x ∷ os) zero o e = omega arith
known (x ∷ os) (suc n) o e = omega (arith, known os n o e)

pub each_number : (P : Object → Type 0) (os : List Object) (i : ℕ) (o : Object) → AllByRecursion P os → slice_get os i ≡ Some o → P o
each_number P [] i o h e = absurd (cc)
each_number P (x ∷ os) zero o h e = subst P (same_Some x o e) h.0
each_number P (x ∷ os) (suc i) o h e = each_number P os i o h.1 e

-- ---- addresses that objects hold

pub in_holds : (h : History) (o x : ℕ) → IsIn (layout_of h) o x → HoldsAt h o x
in_holds h o x k = at (slice_get h.objects o) k.held k.from k.to
  where
    at : (y : Option Object) → of_object holds_slot false y ≡ true → of_object slot_of 0 y ≤ x → x < of_object slot_of 0 y + of_object (λ object. 2 ^ object.class) 0 y
        → IsSomeAnd y (λ z. (holds_slot z ≡ true) × (slot_of z ≤ x) × (x < slot_of z + 2 ^ z.class))
    at None e lo hi = absurd (true≢false (sym e))
    at (Some z) e lo hi = (e, lo, hi)

pub record Holder (h : History) (o x : ℕ) : Type 0 where
  pub object : Object
  pub found : slice_get h.objects o ≡ Some object
  pub holds : holds_slot object ≡ true
  pub low : slot_of object ≤ x
  pub high : x < slot_of object + 2 ^ object.class

pub holder : (h : History) (o x : ℕ) → HoldsAt h o x → Holder h o x
holder h o x k = at (slice_get h.objects o) refl k
  where
    at : (y : Option Object) → slice_get h.objects o ≡ y → IsSomeAnd y (λ z. (holds_slot z ≡ true) × (slot_of z ≤ x) × (x < slot_of z + 2 ^ z.class)) → Holder h o x
    at None e m = absurd m
    at (Some z) e m = record { object = z; found = e; holds = m.0; low = m.1; high = m.2 }

pub holds_in : (h : History) (o x : ℕ) → HoldsAt h o x → IsIn (layout_of h) o x
holds_in h o x k =
    let y = holder h o x k in
    let slot : of_object slot_of 0 (slice_get h.objects o) ≡ slot_of y.object = ap (of_object slot_of 0) y.found in
    let span : of_object (λ object. 2 ^ object.class) 0 (slice_get h.objects o) ≡ 2 ^ y.object.class = ap (of_object (λ object. 2 ^ object.class) 0) y.found in
    record {
      known = known h.objects o y.object y.found;
      held = ap (of_object holds_slot false) y.found ∙ y.holds;
      from = omega (arith, y.low, slot);
      to = omega (arith, y.high, slot, span);
    }

-- ---- alignments

pub exponent_below : (k j : ℕ) → 2 ^ k ≤ 2 ^ j → k ≤ j
exponent_below k j h = at (cases_lt j k)
  where
    at : (j < k) ⊎ (k ≤ j) → k ≤ j
    at (inl above) =
        let g : 2 ^ (j + 1) ≤ 2 ^ k = pow-le-pow_right {n = 2} (omega arith) (omega (arith, above)) in
        let d : 2 ^ (j + 1) ≡ 2 ^ j * 2 ^ 1 = pow-add 2 j 1 in
        absurd (omega (arith, g, d, h, pow_pos j))
    at (inr le) = le

-- ---- the layout

-- an object of a lawful history
pub record Lain (h : History) (o : ℕ) : Type 0 where
  pub object : Object
  pub found : slice_get h.objects o ≡ Some object
  pub lies : LiesWithin h object
  pub placed : IsPlaced h.classes object

pub lain : LaidFacts → (h : History) → IsLawful h → (o : ℕ) → o < length h.objects → Lain h o
lain facts h l o small =
    let k = numbered h.objects o small in
    record { object = k.object; found = k.found; lies = facts.within h o l k.object k.found; placed = each_number (IsPlaced h.classes) h.objects o k.object l.placed k.found }

-- it lies below where its slot ends
pub lain_below : (h : History) (o : ℕ) (k : Lain h o) → address_of k.object < slot_of k.object + 2 ^ k.object.class
lain_below h o k = omega (arith, k.lies.fits)

alignment_is : (h : History) (o : ℕ) → Lain h o → IsAlignment (of_object (λ object. object.alignment) 16 (slice_get h.objects o))
alignment_is h o k =
    let a = k.placed.room.aligned in
    let is : of_object (λ object. object.alignment) 16 (slice_get h.objects o) ≡ k.object.alignment = ap (of_object (λ object. object.alignment) 16) k.found in
    (a.power.0, exponent_below 4 a.power.0 (omega (arith, a.low, a.power.1)), exponent_below a.power.0 12 (omega (arith, a.high, a.power.1)), is ∙ a.power.1)

pub heaps_are_laid_out : LaidFacts → HeapsAreLaidOut
heaps_are_laid_out facts h l = record {
  aligned = record {
    power = λ o small. alignment_is h o (lain facts h l o small);
    whole = λ o small. whole o (lain facts h l o small);
    above = λ o small. let k = lain facts h l o small in omega (arith, ap (of_object address_of 0) k.found, k.lies.low);
    below = λ o small. let k = lain facts h l o small in omega (arith, ap (of_object address_of 0) k.found, lain_below h o k, k.lies.high, l.in_order.in_limit);
  };
  region_from = λ o small. let k = lain facts h l o small in omega (arith, ap (of_object slot_of 0) k.found, k.lies.low);
  region_to = λ o small. let k = lain facts h l o small in omega (arith, ap (of_object slot_of 0) k.found, ap (of_object (λ object. 2 ^ object.class) 0) k.found, k.lies.high);
  top_below = omega (arith, l.in_order.in_limit);
  apart = λ o p x j k. facts.apart h o p x l (in_holds h o x j) (in_holds h p x k);
}
  where
    whole : (o : ℕ) → (k : Lain h o) → of_object address_of 0 (slice_get h.objects o) % of_object (λ object. object.alignment) 16 (slice_get h.objects o) ≡ 0
    whole o k = subst (λ (y : Option Object). of_object address_of 0 y % of_object (λ object. object.alignment) 16 y ≡ 0) (sym k.found) k.lies.multiple
