-- The checks of neighbours keep a history lawful.
use Rattle.std.proofs.Common.{◌≡◌, ℕ, suc, ◌+◌, ◌-◌, ◌*◌, ◌/◌, ◌^◌, ◌<◌, refl, sym, ◌∙◌, subst, Bool, true, false, cond, ◌&&◌, arith, nat_eq, nat_lt, nat_le, List, [], ◌∷◌, length, Option, Some, None, IsSomeAnd}
use Rattle.std.proofs.lemmas.Bool.{and_parts, eqb-false, leb-true, ltb-true}
use Rattle.std.proofs.lemmas.Nat.{pow_pos, div_below}
use Rattle.std.proofs.lemmas.Option.{same_Some}
use Rattle.miniheap.specs.declared.place.Slot.{Slot}
use Rattle.miniheap.specs.declared.place.SlotState.{SlotState}
use Rattle.miniheap.specs.declared.place.SlotState.TheVariants.{Free, Held, Bad}
use Rattle.miniheap.specs.Layout.{Mini, mini_end, minis, mini_at}
use Rattle.miniheap.specs.Slots.{Slots, is_free_state, slot_in, slot_from, slot_at, nth_slot, IsSlotIn}
use Rattle.exact_heap.specs.History.{slots_of}
use Rattle.exact_heap.specs.Placing.{HeapState, break_in}
use Rattle.exact_heap.specs.Freeing.{slot_before, slot_after, signalled_if, neighbour_checked, before_checked, neighbours_checked}
use Rattle.exact_heap.specs.Lawful.{IsLawful}
use Rattle.miniheap.specs.Laws.{SlotLaws}
use Rattle.exact_heap.proofs.LawsKept.{lawful_spoiled}

-- ---- neighbours

record IsKnown (ms : List Mini) (i : ℕ) (t : Slot) : Type 0 where
  index : ℕ
  mini_is : t.mini ≡ i + index
  known : index < length ms
  inside : t.nth < (mini_at ms index).slots

slot_known : (s : Slots) (a i : ℕ) (ms : List Mini) (t : Slot) → slot_from s a i ms ≡ Some t → IsKnown ms i t
slot_known s a i [] t e = absurd (cc)
slot_known s a i (m ∷ ms) t e = at (nat_le m.base a && nat_lt a (mini_end m)) refl e (slot_known s a (suc i) ms t)
  where
    at : (b : Bool) → (nat_le m.base a && nat_lt a (mini_end m)) ≡ b → cond b (Some (slot_in s i m ((a - m.base) / 2 ^ m.class))) (slot_from s a (suc i) ms) ≡ Some t
        → (slot_from s a (suc i) ms ≡ Some t → IsKnown ms (suc i) t) → IsKnown (m ∷ ms) i t
    at true q f r =
        let u = and_parts (nat_le m.base a) (nat_lt a (mini_end m)) q in
        let k : slot_in s i m ((a - m.base) / 2 ^ m.class) ≡ t = same_Some (slot_in s i m ((a - m.base) / 2 ^ m.class)) t f in
        let hi : a < m.base + m.slots * 2 ^ m.class = ltb-true a (mini_end m) u.1 in
        let below : (a - m.base) / 2 ^ m.class < m.slots = div_below (a - m.base) (2 ^ m.class) m.slots (pow_pos m.class) (omega (arith, leb-true m.base a u.0, hi)) in
        subst (IsKnown (m ∷ ms) i) k (record { index = 0; mini_is = omega arith; known = omega arith; inside = below })
    at false q f r = let k = r f in record { index = suc k.index; mini_is = omega (arith, k.mini_is); known = omega (arith, k.known); inside = k.inside }

-- a slot that is told of is one of the heap
abbrev pub Knows : Slots → Option Slot → Type 0
Knows s o = (u : Slot) → o ≡ Some u → slot_at s u.addr ≡ Some u

known_number : SlotLaws → (s : Slots) (t : Slot) (n : ℕ) (k : IsKnown (minis s.classes) 0 t) → n < (mini_at (minis s.classes) k.index).slots → slot_at s (nth_slot s t.mini n).addr ≡ Some (nth_slot s t.mini n)
known_number laws s t n k h =
    let e : t.mini ≡ k.index = omega (arith, k.mini_is) in
    subst (λ (i : ℕ). slot_at s (nth_slot s i n).addr ≡ Some (nth_slot s i n)) (sym e) (laws.found s k.index n k.known h)

pub before_knows : SlotLaws → (s : Slots) (a : ℕ) → Knows s (slot_before s (slot_at s a))
before_knows laws s a u e = at (slot_at s a) refl e
  where
    nth : (t : Slot) → slot_at s a ≡ Some t → (b : Bool) → cond b None (Some (nth_slot s t.mini (t.nth - 1))) ≡ Some u → slot_at s u.addr ≡ Some u
    nth t q true f = absurd (cc)
    nth t q false f =
        let k = slot_known s a 0 (minis s.classes) t q in
        subst (λ (x : Slot). slot_at s x.addr ≡ Some x) (same_Some (nth_slot s t.mini (t.nth - 1)) u f) (known_number laws s t (t.nth - 1) k (omega (arith, k.inside)))

    at : (o : Option Slot) → slot_at s a ≡ o → slot_before s o ≡ Some u → slot_at s u.addr ≡ Some u
    at None q f = absurd (cc)
    at (Some t) q f = nth t q (nat_eq t.nth 0) f

pub after_knows : SlotLaws → (s : Slots) (a : ℕ) → Knows s (slot_after s (slot_at s a))
after_knows laws s a u e = at (slot_at s a) refl e
  where
    nth : (t : Slot) → slot_at s a ≡ Some t → (b : Bool) → nat_eq (t.nth + 1) (mini_at (minis s.classes) t.mini).slots ≡ b → cond b None (Some (nth_slot s t.mini (t.nth + 1))) ≡ Some u → slot_at s u.addr ≡ Some u
    nth t q true g f = absurd (cc)
    nth t q false g f =
        let k = slot_known s a 0 (minis s.classes) t q in
        let i : t.mini ≡ k.index = omega (arith, k.mini_is) in
        let n : (t.nth + 1 ≡ (mini_at (minis s.classes) k.index).slots) → ⊥ = subst (λ (j : ℕ). (t.nth + 1 ≡ (mini_at (minis s.classes) j).slots) → ⊥) i (eqb-false (t.nth + 1) (mini_at (minis s.classes) t.mini).slots g) in
        subst (λ (x : Slot). slot_at s x.addr ≡ Some x) (same_Some (nth_slot s t.mini (t.nth + 1)) u f) (known_number laws s t (t.nth + 1) k (omega (arith, k.inside, n)))

    at : (o : Option Slot) → slot_at s a ≡ o → slot_after s o ≡ Some u → slot_at s u.addr ≡ Some u
    at None q f = absurd (cc)
    at (Some t) q f = nth t q (nat_eq (t.nth + 1) (mini_at (minis s.classes) t.mini).slots) refl f

-- what a check keeps
pub record Checked (s r : HeapState) : Type 0 where
  pub lawful : IsLawful r.history
  pub objects : r.history.objects ≡ s.history.objects
  pub classes : r.history.classes ≡ s.history.classes

pub lawful_checked : (s : HeapState) (o : Option Slot) → Knows (slots_of s.history) o → IsLawful s.history → Checked s (neighbour_checked s o)
lawful_checked s None k l = record { lawful = l; objects = refl; classes = refl }
lawful_checked s (Some t) k l = at t.state refl (break_in s t.addr t.class)
  where
    stays : Checked s s
    stays = record { lawful = l; objects = refl; classes = refl }

    here : t.state ≡ Free → IsSlotIn (slots_of s.history) t.addr Free
    here e = subst (λ (o : Option Slot). IsSomeAnd o (λ u. (u.addr ≡ t.addr) × (u.state ≡ Free))) (sym (k t refl)) (refl, e)

    at : (u : SlotState) → t.state ≡ u → (b : Option ℕ) → Checked s (cond (is_free_state u) (signalled_if t.addr s b) s)
    at Held e b = stays
    at Bad e b = stays
    at Free e None = stays
    at Free e (Some broken) = record { lawful = lawful_spoiled t.addr broken s l (here e); objects = refl; classes = refl }

pub lawful_neighbours : SlotLaws → (slot : ℕ) (s : HeapState) → IsLawful s.history → Checked s (neighbours_checked slot s)
unfolding neighbours_checked
lawful_neighbours laws slot s l =
    let b = lawful_checked s (slot_before (slots_of s.history) (slot_at (slots_of s.history) slot)) (before_knows laws (slots_of s.history) slot) l in
    let r : HeapState = before_checked slot s in
    let a = lawful_checked r (slot_after (slots_of r.history) (slot_at (slots_of r.history) slot)) (after_knows laws (slots_of r.history) slot) b.lawful in
    record { lawful = a.lawful; objects = a.objects ∙ b.objects; classes = a.classes ∙ b.classes }
