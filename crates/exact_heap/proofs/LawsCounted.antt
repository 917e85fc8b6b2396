-- How many slots of a class are taken.
use Rattle.std.proofs.Common.{◌≡◌, ℕ, ◌+◌, refl, ap, sym, ◌∙◌, subst, Bool, true, false, cond, not, ◌&&◌, ◌||◌, arith, nat_eq, List, [], ◌∷◌, count_by}
use Rattle.std.specs.List.{AllByRecursion}
use Rattle.std.specs.FinSet.{contains}
use Rattle.std.proofs.lemmas.Bool.{eq-eqb, ne_eqb, true≢false, false_from_ne_true}
use Rattle.std.proofs.lemmas.List.Sums.{sum_by-cons}
use Rattle.miniheap.specs.declared.place.SlotState.TheVariants.{Free, Held, Bad}
use Rattle.miniheap.specs.Layout.{minis, class_slots}
use Rattle.miniheap.specs.Slots.{Slots, is_free_state, is_free, taken_count, IsInOrder}
use Rattle.exact_heap.specs.History.{Object, slot_of, holds_slot, held_by, slots_of}
use Rattle.exact_heap.specs.Lawful.{places_of, IsPlaced, IsEarlier, AreApart}
use Rattle.exact_heap.specs.Laws.{holds_in, bad_count, TakenAreCounted}
use Rattle.miniheap.specs.Laws.{SlotLaws}
use Rattle.exact_heap.proofs.Tallies.{times, count-cons, count_one_more, count_same}
use Rattle.exact_heap.proofs.Objects.{any_held, contains-held, none_held, NoneHolds}
use Rattle.exact_heap.proofs.SlotPlaces.{slot_in_is}
use Rattle.exact_heap.proofs.LawsApart.{OwnSlot, own_slot}

-- ---- either of two tests, of which at most one passes

abbrev one_if : Bool → ℕ
one_if b = cond b 1 0

count_either : (p q r : ℕ → Bool) → ((a : ℕ) → r a ≡ (p a || q a)) → ((a : ℕ) → p a ≡ true → q a ≡ false) → (xs : List ℕ) → count_by r xs ≡ count_by p xs + count_by q xs
count_either p q r either one [] = refl
count_either p q r either one (x ∷ xs) = at (p x) (q x) refl refl (count_either p q r either one xs)
  where
    at : (b c : Bool) → p x ≡ b → q x ≡ c → count_by r xs ≡ count_by p xs + count_by q xs → count_by r (x ∷ xs) ≡ count_by p (x ∷ xs) + count_by q (x ∷ xs)
    at true true e f k = absurd (true≢false (sym f ∙ one x e))
    at true false e f k =
        let rx : r x ≡ true = either x ∙ ap (λ (b : Bool). b || q x) e in
        omega (arith, k, count-cons r x xs, count-cons p x xs, count-cons q x xs, ap one_if rx, ap one_if e, ap one_if f)
    at false true e f k =
        let rx : r x ≡ true = either x ∙ ap (λ (b : Bool). b || q x) e ∙ f in
        omega (arith, k, count-cons r x xs, count-cons p x xs, count-cons q x xs, ap one_if rx, ap one_if e, ap one_if f)
    at false false e f k =
        let rx : r x ≡ false = either x ∙ ap (λ (b : Bool). b || q x) e ∙ f in
        omega (arith, k, count-cons r x xs, count-cons p x xs, count-cons q x xs, ap one_if rx, ap one_if e, ap one_if f)

taken_is : (s : Slots) (a : ℕ) → not (is_free s a) ≡ (contains s.held a || contains s.bad a)
taken_is s a = at (contains s.held a) (contains s.bad a)
  where
    at : (h b : Bool) → not (is_free_state (cond h Held (cond b Bad Free))) ≡ (h || b)
    at true b = refl
    at false true = refl
    at false false = refl

held_not_bad : (s : Slots) (a : ℕ) → IsInOrder s → contains s.held a ≡ true → contains s.bad a ≡ false
held_not_bad s a ok h = false_from_ne_true (contains s.bad a) (λ b. clash (sym (slot_in_is s a Held (ok.held_slots a h)).1 ∙ (slot_in_is s a Bad (ok.bad_slots a b)).1))
  where
    clash : Held ≡ Bad → ⊥
    clash e = cc

-- ---- an object's slot stands once among the slots of its class

stands_once : SlotLaws → (classes : List ℕ) (o : Object) (w : OwnSlot classes o) (class : ℕ) → times (slot_of o) (class_slots class (minis classes)) ≡ cond (nat_eq o.class class) 1 0
stands_once laws classes o w class =
    subst (λ (c : ℕ). times (slot_of o) (class_slots class (minis classes)) ≡ cond (nat_eq c class) 1 0) w.class (laws.once (places_of classes) (slot_of o) w.slot class w.found w.addr)

-- ---- as many slots are held as objects hold one

none_later : (o : Object) (os : List Object) → holds_slot o ≡ true → AllByRecursion (IsEarlier o) os → NoneHolds (slot_of o) os
none_later o [] e h = tt
none_later o (x ∷ os) e h = (λ q. absurd (true≢false (sym e ∙ h.0 (sym q))), none_later o os e h.1)

held_count : SlotLaws → (classes : List ℕ) (class : ℕ) (os : List Object) → AllByRecursion (IsPlaced classes) os → AreApart os → count_by (λ a. any_held a os) (class_slots class (minis classes)) ≡ count_by (holds_in class) os
held_count laws classes class [] p h = none (class_slots class (minis classes))
  where
    none : (xs : List ℕ) → count_by (λ a. any_held a []) xs ≡ 0
    none [] = refl
    none (x ∷ xs) = omega (arith, count-cons (λ a. any_held a []) x xs, none xs)
held_count laws classes class (o ∷ os) p h = at (holds_slot o) refl (held_count laws classes class os p.1 h.1)
  where
    xs : List ℕ
    xs = class_slots class (minis classes)

    one : count_by (holds_in class) (o ∷ os) ≡ cond (holds_in class o) 1 0 + count_by (holds_in class) os
    one = sum_by-cons (λ x. cond (holds_in class x) 1 0) o os

    here : (b : Bool) → holds_slot o ≡ b → (a : ℕ) → any_held a (o ∷ os) ≡ ((b && nat_eq (slot_of o) a) || any_held a os)
    here b e a = ap (λ (x : Bool). (x && nat_eq (slot_of o) a) || any_held a os) e

    at : (b : Bool) → holds_slot o ≡ b → count_by (λ a. any_held a os) xs ≡ count_by (holds_in class) os → count_by (λ a. any_held a (o ∷ os)) xs ≡ count_by (holds_in class) (o ∷ os)
    at false e k =
        let n : holds_in class o ≡ false = ap (λ (x : Bool). x && nat_eq o.class class) e in
        omega (arith, count_same (λ a. any_held a os) (λ a. any_held a (o ∷ os)) (here false e) xs, k, one, ap one_if n)
    at true e k =
        let n : holds_in class o ≡ nat_eq o.class class = ap (λ (x : Bool). x && nat_eq o.class class) e in
        let c : count_by (λ a. any_held a (o ∷ os)) xs ≡ count_by (λ a. any_held a os) xs + times (slot_of o) xs =
        count_one_more (λ a. any_held a os) (λ a. any_held a (o ∷ os)) (slot_of o) (none_held (slot_of o) os (none_later o os e h.0))
        (here true e (slot_of o) ∙ ap (λ (b : Bool). b || any_held (slot_of o) os) (eq-eqb (slot_of o) (slot_of o) refl))
        (λ a m. here true e a ∙ ap (λ (b : Bool). b || any_held a os) (ne_eqb (slot_of o) a (λ q. m (sym q)))) xs in
        omega (arith, c, k, stands_once laws classes o (own_slot classes o p.0.slot) class, one, ap one_if n)

pub taken_are_counted : SlotLaws → TakenAreCounted
taken_are_counted laws h class l =
    let xs : List ℕ = class_slots class (minis h.classes) in
    let e : taken_count (slots_of h) class ≡ count_by (contains (held_by h.objects)) xs + bad_count h class =
    count_either (contains (held_by h.objects)) (contains h.bad) (λ a. not (is_free (slots_of h) a)) (taken_is (slots_of h)) (λ a b. held_not_bad (slots_of h) a l.in_order b) xs in
    let f : count_by (contains (held_by h.objects)) xs ≡ count_by (λ a. any_held a h.objects) xs = count_same (λ a. any_held a h.objects) (contains (held_by h.objects)) (contains-held h.objects) xs in
    omega (arith, e, f, held_count laws h.classes class h.objects l.placed l.apart)
