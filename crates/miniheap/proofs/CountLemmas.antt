-- How the counts of a class follow what happens to its slots.
use Rattle.std.proofs.Common.{◌≡◌, ℕ, ◌+◌, ◌-◌, ◌*◌, ◌/◌, ◌<◌, ◌≤◌, ◌^◌, refl, ap, sym, ◌∙◌, subst, Bool, true, false, cond, not, arith, nat_eq, List, [], ◌∷◌, length, count_by, Some, None, Option, IsSomeAnd}
use Rattle.std.specs.FinSet.{contains}
use Rattle.std.proofs.lemmas.Bool.{false_from_ne_true}
use Rattle.std.proofs.lemmas.Nat.{pow_pos, div_below}
use Rattle.std.proofs.lemmas.List.{length-append}
use Rattle.std.proofs.lemmas.List.Sums.{sum_by-cons}
use Rattle.std.proofs.Math.Nat.{le-mul_of_pos_right}
use Rattle.miniheap.specs.declared.place.Slot.{Slot}
use Rattle.miniheap.specs.declared.place.SlotState.{SlotState}
use Rattle.miniheap.specs.declared.place.SlotState.TheVariants.{Free, Held, Bad}
use Rattle.miniheap.specs.Layout.{Mini, mini_bytes, mini_end, mini_slots, all_slots, heap_from, count_of, nth_mini, minis, mini_at, bytes_of, class_slots}
use Rattle.miniheap.specs.Slots.{Slots, state_of, is_free_state, slot_at, slot_count, taken_count, end_of, grown, IsSlotIn, IsInOrder}
use Rattle.miniheap.specs.Laws.{one_in, SlotsFit, SlotsAreFew, SlotsStandOnce, TakingCounts, ReleasingCounts, GrowingCounts}
use Rattle.miniheap.proofs.ListLemmas.{times, count-append, count_none}
use Rattle.miniheap.proofs.LayoutLemmas.{minis_chain, minis_push, class_slots_push, bytes_of_push, rises-slots_from, length-slots_from, times_in_class, class_bytes}
use Rattle.miniheap.proofs.SlotsLemmas.{is_taken, not_bad, taken_list}
use Rattle.miniheap.proofs.GrowLemmas.{slot_count_grown}
use Rattle.miniheap.proofs.LawLemmas.{found_at, slots_hold_their_addresses, slots_lie_within}

-- ---- how many there are

pub slots_fit : SlotsFit
slots_fit s c = class_bytes c (minis s.classes)

few_slots : (ms : List Mini) → length (all_slots ms) ≤ bytes_of ms
few_slots [] = omega arith
few_slots (m ∷ ms) =
    omega (arith, length-append (mini_slots m) (all_slots ms), length-slots_from m.base (2 ^ m.class) m.slots, sum_by-cons mini_bytes m ms, le-mul_of_pos_right m.slots (pow_pos m.class), few_slots ms)

pub slots_are_few : SlotsAreFew
slots_are_few s = few_slots (minis s.classes)

-- ---- how many are taken

-- the slot that is found at its own address
at_address : (s : Slots) (a : ℕ) (t : Slot) (u : SlotState) → slot_at s a ≡ Some t → IsSlotIn s a u → (t.addr ≡ a) × (t.state ≡ u)
at_address s a t u e h = subst (λ (o : Option Slot). IsSomeAnd o (λ (x : Slot). (x.addr ≡ a) × (x.state ≡ u))) e h

state_at_address : (s : Slots) (a : ℕ) (t : Slot) (u : SlotState) → slot_at s a ≡ Some t → IsSlotIn s a u → state_of s a ≡ u
state_at_address s a t u e h =
    let f = found_at s a t e in
    let k = at_address s a t u e h in
    ap (state_of s) (sym k.0) ∙ ap (λ (x : Slot). state_of s x.addr) f.is ∙ sym (ap (λ (x : Slot). x.state) f.is) ∙ k.1

-- it stands once among the slots of its class
pub slots_stand_once : SlotsStandOnce
slots_stand_once s a t c e k =
    let f = found_at s a t e in
    let n : ℕ = (a - f.mini.base) / 2 ^ f.mini.class in
    let below : n < f.mini.slots = div_below (a - f.mini.base) (2 ^ f.mini.class) f.mini.slots (pow_pos f.mini.class) (omega (arith, f.from, f.to)) in
    let r : times ((mini_at (minis s.classes) f.index).base + n * 2 ^ (mini_at (minis s.classes) f.index).class) (class_slots c (minis s.classes)) ≡ one_in (mini_at (minis s.classes) f.index).class c =
    times_in_class heap_from (minis s.classes) f.index n (minis_chain s.classes) f.index_known (subst (λ (m : Mini). n < m.slots) f.mini_is below) c in
    let here : f.mini.base + n * 2 ^ f.mini.class ≡ a = sym (ap (λ (x : Slot). x.addr) f.is) ∙ k in
    ap (λ (x : ℕ). times x (class_slots c (minis s.classes))) (sym here)
    ∙ ap (λ (m : Mini). times (m.base + n * 2 ^ m.class) (class_slots c (minis s.classes))) f.mini_is ∙ r
    ∙ ap (λ (m : Mini). one_in m.class c) (sym f.mini_is) ∙ ap (λ (x : Slot). one_in x.class c) (sym f.is)

pub taking_counts : TakingCounts
taking_counts s a t c e h =
    let k = at_address s a t Free e h in
    let z : state_of s a ≡ Free = state_at_address s a t Free e h in
    let o : times a (class_slots c (minis s.classes)) ≡ one_in t.class c = slots_stand_once s a t c e k.0 in
    let p = taken_list s a Held z (not_bad s a z) (class_slots c (minis s.classes)) in
    let q = taken_list s a Bad z (not_bad s a z) (class_slots c (minis s.classes)) in
    (omega (arith, o, p), omega (arith, o, q))

-- a held slot of a heap in order isn't bad
held_not_bad : (s : Slots) (a : ℕ) → IsInOrder s → IsSlotIn s a Held → contains s.bad a ≡ false
held_not_bad s a ok h = false_from_ne_true (contains s.bad a) (λ b. two_states (slot_at s a) h (ok.bad_slots a b))
  where
    two_states : (o : Option Slot) → IsSomeAnd o (λ (x : Slot). (x.addr ≡ a) × (x.state ≡ Held)) → IsSomeAnd o (λ (x : Slot). (x.addr ≡ a) × (x.state ≡ Bad)) → ⊥
    two_states None p q = absurd p
    two_states (Some x) p q = let z : Held ≡ Bad = sym p.1 ∙ q.1 in cc

pub releasing_counts : ReleasingCounts
releasing_counts s a t c ok e h =
    let k = at_address s a t Held e h in
    let o : times a (class_slots c (minis s.classes)) ≡ one_in t.class c = slots_stand_once s a t c e k.0 in
    let p = taken_list s a Free (state_at_address s a t Held e h) (held_not_bad s a ok h) (class_slots c (minis s.classes)) in
    omega (arith, o, p)

-- no slot lies beyond the miniheaps
nothing_beyond : (s : Slots) (q : ℕ) (u : SlotState) → end_of s ≤ q → IsSlotIn s q u → ⊥
nothing_beyond s q u far h = at (slot_at s q) refl h
  where
    at : (o : Option Slot) → slot_at s q ≡ o → IsSomeAnd o (λ (x : Slot). (x.addr ≡ q) × (x.state ≡ u)) → ⊥
    at None e p = absurd p
    at (Some x) e p =
        let a = slots_hold_their_addresses s q x e in
        let b = slots_lie_within s q x e in
        absurd (omega (arith, a.1, b.1))

free_beyond : (s : Slots) → IsInOrder s → (q : ℕ) → end_of s ≤ q → is_taken s q ≡ false
free_beyond s ok q far =
    ap (λ (b : Bool). not (is_free_state (cond b Held (cond (contains s.bad q) Bad Free)))) (false_from_ne_true (contains s.held q) (λ b. nothing_beyond s q Held far (ok.held_slots q b)))
    ∙ ap (λ (b : Bool). not (is_free_state (cond b Bad Free))) (false_from_ne_true (contains s.bad q) (λ b. nothing_beyond s q Bad far (ok.bad_slots q b)))

pub growing_counts : GrowingCounts
growing_counts s class ok = record { taken = taken; slots = slots; used = ap bytes_of (minis_push s.classes class) ∙ bytes_of_push (minis s.classes) m }
  where
    m : Mini
    m = nth_mini class (heap_from + bytes_of (minis s.classes)) (count_of class s.classes)

    none : (t : Bool) → count_by (is_taken s) (cond t (mini_slots (nth_mini class (heap_from + bytes_of (minis s.classes)) (count_of class s.classes))) []) ≡ 0
    none true = count_none (is_taken s) m.base (mini_end m) (λ q h. free_beyond s ok q h) (mini_slots m) (rises-slots_from m.base (2 ^ class) m.slots (pow_pos class))
    none false = refl

    taken : (c : ℕ) → taken_count (grown s class) c ≡ taken_count s c
    taken c =
        ap (λ (ms : List Mini). count_by (is_taken s) (class_slots c ms)) (minis_push s.classes class)
        ∙ ap (count_by (is_taken s)) (class_slots_push c (minis s.classes) m)
        ∙ count-append (is_taken s) (class_slots c (minis s.classes)) (cond (nat_eq class c) (mini_slots m) [])
        ∙ ap (λ (x : ℕ). count_by (is_taken s) (class_slots c (minis s.classes)) + x) (none (nat_eq class c))
        ∙ (let e : count_by (is_taken s) (class_slots c (minis s.classes)) + 0 ≡ count_by (is_taken s) (class_slots c (minis s.classes)) = omega arith in e)

    slots : (c : ℕ) → slot_count (grown s class) c ≡ slot_count s c + cond (nat_eq class c) (nth_mini class (heap_from + bytes_of (minis s.classes)) (count_of class s.classes)).slots 0
    slots c = slot_count_grown s.classes class c
