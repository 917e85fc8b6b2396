-- Whatever is held or bad is a slot.
use Rattle.std.proofs.Common.{◌≡◌, ℕ, suc, ◌+◌, ◌-◌, ◌*◌, ◌<◌, ◌≤◌, ◌^◌, refl, ap, sym, ◌∙◌, subst, Bool, true, false, cond, ◌⊎◌, inl, inr, arith, nat_eq, List, [], ◌∷◌, ◌++◌, length, get_or, Option, IsSomeAnd}
use Rattle.std.specs.Ordering.{nat_cmp}
use Rattle.std.specs.FinSet.{contains, from_list, contains-from_list_nat}
use Rattle.std.proofs.lemmas.List.{length-append, get_or_append_left, get_or-append_right}
use Rattle.std.proofs.lemmas.Bool.{cases_lt, or_cases, eqb-true, true≢false}
use Rattle.miniheap.specs.declared.place.Slot.{Slot}
use Rattle.miniheap.specs.declared.place.SlotState.{SlotState}
use Rattle.miniheap.specs.declared.place.SlotState.TheVariants.{Free, Held, Bad}
use Rattle.miniheap.specs.Layout.{Mini, minis, mini_at, mini_slots, all_slots}
use Rattle.miniheap.specs.Slots.{Slots, state_of, slot_at, nth_slot, IsSlotIn, IsInOrder}
use Rattle.miniheap.specs.Places.{AreClasses}
use Rattle.miniheap.specs.Sound.{chosen, is_held_state, is_bad_state, states_at, all_states, stands_for, HaveStates, IsSound}
use Rattle.miniheap.proofs.LayoutLemmas.{length-slots_from, get-slots_from}
use Rattle.miniheap.proofs.SlotsLemmas.{among, nth_slot_at}
use Rattle.miniheap.proofs.SoundLemmas.{Found, found, state_is, tested}

-- a slot among all of them is one of a miniheap
pub record IsNumbered (ms : List Mini) (a : ℕ) : Type 0 where
  pub mini : ℕ
  pub nth : ℕ
  pub mini_known : mini < length ms
  pub nth_known : nth < (mini_at ms mini).slots
  pub address_is : a ≡ (mini_at ms mini).base + nth * 2 ^ (mini_at ms mini).class

pub numbered : (ms : List Mini) (g : ℕ) → g < length (all_slots ms) → IsNumbered ms (get_or (all_slots ms) g 0)
numbered [] g h = absurd (omega arith)
numbered (m ∷ ms) g h = at (cases_lt g m.slots) (numbered ms (g - m.slots))
  where
    l : length (mini_slots m) ≡ m.slots
    l = length-slots_from m.base (2 ^ m.class) m.slots

    at : (g < m.slots) ⊎ (m.slots ≤ g) → (g - m.slots < length (all_slots ms) → IsNumbered ms (get_or (all_slots ms) (g - m.slots) 0)) → IsNumbered (m ∷ ms) (get_or (mini_slots m ++ all_slots ms) g 0)
    at (inl p) r = record {
      mini = 0;
      nth = g;
      mini_known = omega arith;
      nth_known = p;
      address_is = get_or_append_left (mini_slots m) (all_slots ms) 0 g (omega (arith, l)) ∙ get-slots_from m.base (2 ^ m.class) m.slots g p;
    }
    at (inr p) r =
        let q = r (omega (arith, h, length-append (mini_slots m) (all_slots ms), l)) in
        record {
          mini = suc q.mini;
          nth = q.nth;
          mini_known = omega (arith, q.mini_known);
          nth_known = q.nth_known;
          address_is = get_or-append_right (mini_slots m) (all_slots ms) m.slots g 0 l p ∙ q.address_is;
        }

-- what is chosen is one of the addresses, at a place whose state passes
record IsChosen (test : SlotState → Bool) (xs : List ℕ) (ts : List SlotState) (a : ℕ) : Type 0 where
  place : ℕ
  known : place < length xs
  is : get_or xs place 0 ≡ a

chosen_from : (test : SlotState → Bool) (xs : List ℕ) (ts : List SlotState) (a : ℕ) → among a (chosen test xs ts) ≡ true → IsChosen test xs ts a
chosen_from test [] ts a h = absurd (true≢false (sym h))
chosen_from test (x ∷ xs) [] a h = absurd (true≢false (sym h))
chosen_from test (x ∷ xs) (t ∷ ts) a h = at (test t) h (chosen_from test xs ts a)
  where
    deep : IsChosen test xs ts a → IsChosen test (x ∷ xs) (t ∷ ts) a
    deep r = record { place = suc r.place; known = omega (arith, r.known); is = r.is }

    both : (among a (chosen test xs ts) ≡ true → IsChosen test xs ts a) → (nat_eq x a ≡ true) ⊎ (among a (chosen test xs ts) ≡ true) → IsChosen test (x ∷ xs) (t ∷ ts) a
    both r (inl e) = record { place = 0; known = omega arith; is = eqb-true x a e }
    both r (inr e) = deep (r e)

    at : (b : Bool) → among a (cond b (x ∷ chosen test xs ts) (chosen test xs ts)) ≡ true → (among a (chosen test xs ts) ≡ true → IsChosen test xs ts a) → IsChosen test (x ∷ xs) (t ∷ ts) a
    at true e r = both r (or_cases (nat_eq x a) (among a (chosen test xs ts)) e)
    at false e r = deep (r e)

-- slot n of miniheap i is a slot in its state
pub slot_in_state : (s : Slots) (i n a : ℕ) (u : SlotState) → i < length (minis s.classes) → n < (mini_at (minis s.classes) i).slots → a ≡ (nth_slot s i n).addr → state_of s a ≡ u → IsSlotIn s a u
slot_in_state s i n a u h k e v =
    subst (λ (o : Option Slot). IsSomeAnd o (λ (x : Slot). (x.addr ≡ a) × (x.state ≡ u))) (sym (ap (slot_at s) e ∙ nth_slot_at s i n h k)) (sym e, ap (state_of s) (sym e) ∙ v)

-- a slot whose address is in a set is in the state that passes
in_state : (test : SlotState → Bool) (cs : List ℕ) (ls : List (List SlotState)) → HaveStates (minis cs) ls → (a : ℕ) → contains (from_list {R = nat_cmp} (chosen test (all_slots (minis cs)) (all_states ls))) a ≡ true
    → (u : SlotState) → ((t : SlotState) → test t ≡ true → t ≡ u) → IsNumbered (minis cs) a → IsSlotIn (stands_for cs ls) a u
in_state test cs ls e a h u only w =
    let f : Found cs ls w.mini w.nth = found cs ls e w.mini w.nth w.mini_known w.nth_known in
    let t : get_or (states_at ls w.mini) w.nth Free ≡ u = only (get_or (states_at ls w.mini) w.nth Free)
    (sym (tested test cs ls w.mini w.nth f) ∙ ap (contains (from_list {R = nat_cmp} (chosen test (all_slots (minis cs)) (all_states ls)))) (sym w.address_is) ∙ h) in
    slot_in_state (stands_for cs ls) w.mini w.nth a u w.mini_known w.nth_known w.address_is (ap (state_of (stands_for cs ls)) w.address_is ∙ state_is cs ls w.mini w.nth f ∙ t)

-- an address in one of the sets is that of a slot
is_numbered : (test : SlotState → Bool) (cs : List ℕ) (ls : List (List SlotState)) (a : ℕ) → contains (from_list {R = nat_cmp} (chosen test (all_slots (minis cs)) (all_states ls))) a ≡ true → IsNumbered (minis cs) a
is_numbered test cs ls a h =
    let m : among a (chosen test (all_slots (minis cs)) (all_states ls)) ≡ true = sym (contains-from_list_nat (chosen test (all_slots (minis cs)) (all_states ls)) a) ∙ h in
    let q : IsChosen test (all_slots (minis cs)) (all_states ls) a = chosen_from test (all_slots (minis cs)) (all_states ls) a m in
    subst (IsNumbered (minis cs)) q.is (numbered (minis cs) q.place q.known)

in_set : (test : SlotState → Bool) (cs : List ℕ) (ls : List (List SlotState)) → HaveStates (minis cs) ls → (a : ℕ) → contains (from_list {R = nat_cmp} (chosen test (all_slots (minis cs)) (all_states ls))) a ≡ true
    → (u : SlotState) → ((t : SlotState) → test t ≡ true → t ≡ u) → IsSlotIn (stands_for cs ls) a u
in_set test cs ls e a h u only = in_state test cs ls e a h u only (is_numbered test cs ls a h)

pub in_order : (cs : List ℕ) (ls : List (List SlotState)) (taken : List ℕ) → AreClasses cs → IsSound cs ls taken → IsInOrder (stands_for cs ls)
in_order cs ls taken classes ok = record {
  in_classes = classes.in_range;
  in_limit = classes.in_limit;
  held_slots = λ a h. in_set is_held_state cs ls ok.states_are a h Held held_only;
  bad_slots = λ a h. in_set is_bad_state cs ls ok.states_are a h Bad bad_only;
}
  where
    held_only : (t : SlotState) → is_held_state t ≡ true → t ≡ Held
    held_only Free h = absurd (cc)
    held_only Held h = refl
    held_only Bad h = absurd (cc)

    bad_only : (t : SlotState) → is_bad_state t ≡ true → t ≡ Bad
    bad_only Free h = absurd (cc)
    bad_only Held h = absurd (cc)
    bad_only Bad h = refl
