-- Slots by their places alone, and heaps whose slots stay in order.
use Rattle.std.proofs.Common.{◌≡◌, ℕ, suc, ◌+◌, ◌-◌, ◌/◌, ◌≤◌, ◌^◌, refl, ap, sym, ◌∙◌, subst, Bool, true, false, cond, not, ◌&&◌, ◌||◌, ◌⊎◌, inl, inr, arith, nat_eq, nat_lt, nat_le, List, [], ◌∷◌, ◌++◌, Option, Some, None, IsSomeAnd, All}
use Rattle.std.specs.Option.{option_map}
use Rattle.std.specs.Ordering.{nat_cmp}
use Rattle.std.specs.Cmp.{nat_cmp_total}
use Rattle.std.specs.FinSet.{FinSet, contains, insert, remove, contains-insert, contains-remove}
use Rattle.std.proofs.lemmas.Bool.{cases_eq, eq-eqb, ne_eqb, true≢false}
use Rattle.std.proofs.lemmas.List.Elements.{All-append, All-cons, All-nil}
use Rattle.miniheap.specs.declared.place.Slot.{Slot}
use Rattle.miniheap.specs.declared.place.SlotState.{SlotState}
use Rattle.miniheap.specs.declared.place.SlotState.TheVariants.{Free, Held, Bad}
use Rattle.miniheap.specs.Layout.{Mini, mini_end, heap_limit, minis}
use Rattle.miniheap.specs.Slots.{Slots, state_of, slot_in, slot_from, slot_at, IsSlotIn, IsInOrder, held_at, released_at, spoiled_at, grown, used_of, wanted_of}
use Rattle.exact_heap.specs.Lawful.{places_of}
use Rattle.miniheap.specs.Laws.{SlotLaws}
use Rattle.exact_heap.proofs.SlotStates.{eq_turned, state_other, state_spoiled}

-- a slot in the state that it has in a heap
abbrev pub with_state : Slots → Slot → Slot
with_state s t = record t { state = state_of s t.addr }

slot_from-places : (s : Slots) (a i : ℕ) (ms : List Mini) → slot_from s a i ms ≡ option_map (with_state s) (slot_from (places_of s.classes) a i ms)
slot_from-places s a i [] = refl
slot_from-places s a i (m ∷ ms) = at (nat_le m.base a && nat_lt a (mini_end m)) (slot_from-places s a (suc i) ms)
  where
    at : (b : Bool) → slot_from s a (suc i) ms ≡ option_map (with_state s) (slot_from (places_of s.classes) a (suc i) ms)
        → cond b (Some (slot_in s i m ((a - m.base) / 2 ^ m.class))) (slot_from s a (suc i) ms)
        ≡ option_map (with_state s) (cond b (Some (slot_in (places_of s.classes) i m ((a - m.base) / 2 ^ m.class))) (slot_from (places_of s.classes) a (suc i) ms))
    at true r = refl
    at false r = r

-- what is held or bad decides a slot's state alone
pub slot_at-places : (s : Slots) (a : ℕ) → slot_at s a ≡ option_map (with_state s) (slot_at (places_of s.classes) a)
slot_at-places s a = slot_from-places s a 0 (minis s.classes)

-- an address is that of a slot
abbrev pub IsSlotAt : Option Slot → ℕ → Type 0
IsSlotAt found a = IsSomeAnd found (λ t. t.addr ≡ a)

abbrev pub IsSlot : List ℕ → ℕ → Type 0
IsSlot classes a = IsSlotAt (slot_at (places_of classes) a) a

-- an address is that of a slot of a class
abbrev pub IsSlotOfClass : Option Slot → (a class : ℕ) → Type 0
IsSlotOfClass found a class = IsSomeAnd found (λ t. (t.addr ≡ a) × (t.class ≡ class))

pub slot_in_from : (s : Slots) (a : ℕ) (u : SlotState) → IsSlot s.classes a → state_of s a ≡ u → IsSlotIn s a u
slot_in_from s a u k e = subst (λ (o : Option Slot). IsSomeAnd o (λ t. (t.addr ≡ a) × (t.state ≡ u))) (sym (slot_at-places s a)) (at (slot_at (places_of s.classes) a) k)
  where
    at : (o : Option Slot) → IsSlotAt o a → IsSomeAnd (option_map (with_state s) o) (λ t. (t.addr ≡ a) × (t.state ≡ u))
    at None k = absurd k
    at (Some t) k = (k, ap (state_of s) k ∙ e)

pub slot_in_is : (s : Slots) (a : ℕ) (u : SlotState) → IsSlotIn s a u → IsSlot s.classes a × (state_of s a ≡ u)
slot_in_is s a u h = at (slot_at (places_of s.classes) a) (subst (λ (o : Option Slot). IsSomeAnd o (λ t. (t.addr ≡ a) × (t.state ≡ u))) (slot_at-places s a) h)
  where
    at : (o : Option Slot) → IsSomeAnd (option_map (with_state s) o) (λ t. (t.addr ≡ a) × (t.state ≡ u)) → IsSlotAt o a × (state_of s a ≡ u)
    at None k = absurd k
    at (Some t) k = (k.0, ap (state_of s) (sym k.0) ∙ k.1)

-- ---- slots in order

-- whatever is held or bad is a slot, and not both
pub record Marks (s : Slots) : Type 0 where
  pub held : (a : ℕ) → contains s.held a ≡ true → IsSlot s.classes a × (state_of s a ≡ Held)
  pub bad : (a : ℕ) → contains s.bad a ≡ true → IsSlot s.classes a × (state_of s a ≡ Bad)

pub marks_of : (s : Slots) → IsInOrder s → Marks s
marks_of s ok = record { held = λ a h. slot_in_is s a Held (ok.held_slots a h); bad = λ a h. slot_in_is s a Bad (ok.bad_slots a h) }

ordered : (s : Slots) → All (λ (c : ℕ). (4 ≤ c) × (c ≤ 22)) s.classes → used_of s ≤ heap_limit → Marks s → IsInOrder s
ordered s classes limit m = record {
  in_classes = classes;
  in_limit = limit;
  held_slots = λ a h. let k = m.held a h in slot_in_from s a Held k.0 k.1;
  bad_slots = λ a h. let k = m.bad a h in slot_in_from s a Bad k.0 k.1;
}

pub held_state : (s : Slots) (a : ℕ) → contains s.held a ≡ true → state_of s a ≡ Held
held_state s a h = ap (λ (b : Bool). cond b Held (cond (contains s.bad a) Bad Free)) h

bad_state : (s : Slots) (a : ℕ) → contains s.held a ≡ false → contains s.bad a ≡ true → state_of s a ≡ Bad
bad_state s a h b = ap (λ (x : Bool). cond x Held (cond (contains s.bad a) Bad Free)) h ∙ ap (λ (x : Bool). cond x Bad Free) b

pub not_held_bad : (s : Slots) (a : ℕ) → state_of s a ≡ Bad → contains s.held a ≡ false
not_held_bad s a e = at (contains s.held a) (contains s.bad a) e
  where
    at : (h b : Bool) → cond h Held (cond b Bad Free) ≡ Bad → h ≡ false
    at true b e = absurd (cc)
    at false b e = refl

pub among_inserted : (s : FinSet nat_cmp) (a b : ℕ) → contains (insert s a) b ≡ true → (b ≡ a) ⊎ (contains s b ≡ true)
among_inserted s a b h = at (cases_eq b a)
  where
    at : (b ≡ a) ⊎ (b ≡ a → ⊥) → (b ≡ a) ⊎ (contains s b ≡ true)
    at (inl e) = inl e
    at (inr n) = inr (sym (out n) ∙ h)
      where
        out : (b ≡ a → ⊥) → contains (insert s a) b ≡ contains s b
        out n = contains-insert nat_cmp_total s a b ∙ ap (λ (x : Bool). x || contains s b) (eq_turned b a ∙ ne_eqb b a n)

pub among_left : (s : FinSet nat_cmp) (a b : ℕ) → contains (remove s a) b ≡ true → (b ≡ a → ⊥) × (contains s b ≡ true)
among_left s a b h = at (nat_eq b a) refl (sym (contains-remove nat_cmp_total s a b ∙ ap (λ (x : Bool). not x && contains s b) (eq_turned b a)) ∙ h)
  where
    at : (t : Bool) → nat_eq b a ≡ t → (not t && contains s b) ≡ true → (b ≡ a → ⊥) × (contains s b ≡ true)
    at true e k = absurd (true≢false (sym k))
    at false e k = (λ f. true≢false (sym (eq-eqb b a f) ∙ e), k)

marks_spoiled : (s : Slots) (a : ℕ) → Marks s → IsSlot s.classes a → state_of s a ≡ Free → Marks (spoiled_at s a)
marks_spoiled s a m k e = record {
  held = λ b h. ((m.held b h).0, held_state (spoiled_at s a) b h);
  bad = λ b h. at b (cases_eq b a) (among_inserted s.bad a b h);
}
  where
    here : (b : ℕ) → b ≡ a → IsSlot s.classes b × (state_of (spoiled_at s a) b ≡ Bad)
    here b q = subst (λ (x : ℕ). IsSlot s.classes x × (state_of (spoiled_at s a) x ≡ Bad)) (sym q) (k, state_spoiled s a e)

    at : (b : ℕ) → (b ≡ a) ⊎ (b ≡ a → ⊥) → (b ≡ a) ⊎ (contains s.bad b ≡ true) → IsSlot s.classes b × (state_of (spoiled_at s a) b ≡ Bad)
    at b (inl q) o = here b q
    at b (inr n) (inl q) = absurd (n q)
    at b (inr n) (inr h) = let r = m.bad b h in (r.0, state_other s a b Bad n ∙ r.1)

marks_held : (s : Slots) (a : ℕ) → Marks s → IsSlot s.classes a → state_of s a ≡ Free → Marks (held_at s a)
marks_held s a m k e = record {
  held = λ b h. (at b (among_inserted s.held a b h), held_state (held_at s a) b h);
  bad = λ b h. let r = m.bad b h in (r.0, state_other s a b Held (apart b r.1) ∙ r.1);
}
  where
    at : (b : ℕ) → (b ≡ a) ⊎ (contains s.held b ≡ true) → IsSlot s.classes b
    at b (inl q) = subst (IsSlot s.classes) (sym q) k
    at b (inr h) = (m.held b h).0

    apart : (b : ℕ) → state_of s b ≡ Bad → b ≡ a → ⊥
    apart b r q = clash (sym e ∙ ap (state_of s) (sym q) ∙ r)
      where
        clash : Free ≡ Bad → ⊥
        clash x = cc

marks_released : (s : Slots) (a : ℕ) → Marks s → state_of s a ≡ Held → Marks (released_at s a)
marks_released s a m e = record {
  held = λ b h. let r = among_left s.held a b h in ((m.held b r.1).0, held_state (released_at s a) b h);
  bad = λ b h. let r = m.bad b h in (r.0, state_other s a b Free (apart b r.1) ∙ r.1);
}
  where
    apart : (b : ℕ) → state_of s b ≡ Bad → b ≡ a → ⊥
    apart b r q = clash (sym e ∙ ap (state_of s) (sym q) ∙ r)
      where
        clash : Held ≡ Bad → ⊥
        clash x = cc

-- growth keeps a slot
pub slot_stays : SlotLaws → (P : Slot → Type 0) (classes : List ℕ) (c a : ℕ) → IsSomeAnd (slot_at (places_of classes) a) P → IsSomeAnd (slot_at (places_of (classes ++ c ∷ [])) a) P
slot_stays laws P classes c a k = at (slot_at (places_of classes) a) refl k
  where
    at : (o : Option Slot) → slot_at (places_of classes) a ≡ o → IsSomeAnd o P → IsSomeAnd (slot_at (places_of (classes ++ c ∷ [])) a) P
    at None e k = absurd k
    at (Some t) e k = subst (λ (o : Option Slot). IsSomeAnd o P) (sym (laws.stay (places_of classes) c a t e)) k

marks_grown : SlotLaws → (s : Slots) (c : ℕ) → Marks s → Marks (grown s c)
marks_grown laws s c m = record {
  held = λ b h. let r = m.held b h in (slot_stays laws (λ t. t.addr ≡ b) s.classes c b r.0, r.1);
  bad = λ b h. let r = m.bad b h in (slot_stays laws (λ t. t.addr ≡ b) s.classes c b r.0, r.1);
}

pub spoiled_ordered : (s : Slots) (a : ℕ) → IsInOrder s → IsSlotIn s a Free → IsInOrder (spoiled_at s a)
spoiled_ordered s a ok h = let k = slot_in_is s a Free h in ordered (spoiled_at s a) ok.in_classes ok.in_limit (marks_spoiled s a (marks_of s ok) k.0 k.1)

pub held_ordered : (s : Slots) (a : ℕ) → IsInOrder s → IsSlotIn s a Free → IsInOrder (held_at s a)
held_ordered s a ok h = let k = slot_in_is s a Free h in ordered (held_at s a) ok.in_classes ok.in_limit (marks_held s a (marks_of s ok) k.0 k.1)

pub released_ordered : (s : Slots) (a : ℕ) → IsInOrder s → IsSlotIn s a Held → IsInOrder (released_at s a)
released_ordered s a ok h = let k = slot_in_is s a Held h in ordered (released_at s a) ok.in_classes ok.in_limit (marks_released s a (marks_of s ok) k.1)

pub grown_ordered : SlotLaws → (s : Slots) (c : ℕ) → IsInOrder s → 4 ≤ c → c ≤ 22 → used_of s + wanted_of s c ≤ heap_limit → IsInOrder (grown s c)
grown_ordered laws s c ok low high room =
    let u : used_of (grown s c) ≡ used_of s + wanted_of s c = (laws.growing s c ok).used in
    ordered (grown s c) (All-append (λ (x : ℕ). (4 ≤ x) × (x ≤ 22)) s.classes (c ∷ []) ok.in_classes (All-cons (λ (x : ℕ). (4 ≤ x) × (x ≤ 22)) c [] (low, high) (All-nil (λ (x : ℕ). (4 ≤ x) × (x ≤ 22)))))
    (omega (arith, u, room)) (marks_grown laws s c (marks_of s ok))

-- the slot that was found at the address of one has it
pub found_addr : (s : Slots) (a : ℕ) (t : Slot) (state : SlotState) → slot_at s a ≡ Some t → IsSlotIn s a state → t.addr ≡ a
found_addr s a t state e h = let k : (t.addr ≡ a) × (t.state ≡ state) = subst (λ (o : Option Slot). IsSomeAnd o (λ t. (t.addr ≡ a) × (t.state ≡ state))) e h in k.0

pub not_nowhere : (s : Slots) (a : ℕ) (state : SlotState) → slot_at s a ≡ None → IsSlotIn s a state → ⊥
not_nowhere s a state e h = subst (λ (o : Option Slot). IsSomeAnd o (λ t. (t.addr ≡ a) × (t.state ≡ state))) e h
