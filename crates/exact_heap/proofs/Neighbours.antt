-- The neighbours of a slot.
use Rattle.std.proofs.Common.{◌≡◌, ℕ, ◌+◌, ◌-◌, ◌<◌, refl, ap, sym, ◌∙◌, subst, Bool, true, false, cond, List, ◌*◌, ◌^◌, arith, length, Option, Some, None}
use Rattle.std.specs.Prelude.{IsNone, IfSome, ◌↔◌}
use Rattle.std.specs.Option.{ForSome}
use Rattle.std.proofs.lemmas.Bool.{eq-eqb, ne_eqb, true≢false}
use Rattle.std.proofs.lemmas.Option.{same_Some}
use Rattle.rv_memory.specs.Memory.{Memory}
use Rattle.miniheap.specs.declared.place.Slot.{Slot}
use Rattle.miniheap.specs.Layout.{Mini, minis, mini_at}
use Rattle.miniheap.specs.Slots.{Slots, is_free_state, nth_slot, slot_at, IsSlotOf}
use Rattle.exact_heap.specs.Placing.{HeapState, Rules, break_in}
use Rattle.exact_heap.specs.History.{slots_of, slot_of}
use Rattle.exact_heap.specs.Owners.{Owner}
use Rattle.exact_heap.specs.Freeing.{slot_before, slot_after, signalled_if, neighbour_checked, before_checked, after_checked, neighbours_checked, deferral_of, object_freed, owner_freed}
use Rattle.miniheap.specs.Laws.{SlotLaws}
use Rattle.exact_heap.proofs.Homes.{same_places}

pub before_is : (s : Slots) (t : Slot) (r : Option Slot) → IsNone r ↔ (t.nth ≡ 0) → IfSome r (λ u. u ≡ nth_slot s t.mini (t.nth - 1)) → slot_before s (Some t) ≡ r
before_is s t None e is = ap (λ (b : Bool). cond b None (Some (nth_slot s t.mini (t.nth - 1)))) (eq-eqb t.nth 0 (e.0 refl))
before_is s t (Some u) e is = ap (λ (b : Bool). cond b None (Some (nth_slot s t.mini (t.nth - 1)))) (ne_eqb t.nth 0 (λ q. true≢false (e.1 q))) ∙ ap (λ (x : Slot). Some x) (sym is)

pub after_is : (s : Slots) (t : Slot) (r : Option Slot) → IsNone r ↔ (t.nth + 1 ≡ (mini_at (minis s.classes) t.mini).slots) → IfSome r (λ u. u ≡ nth_slot s t.mini (t.nth + 1)) → slot_after s (Some t) ≡ r
after_is s t None e is = ap (λ (b : Bool). cond b None (Some (nth_slot s t.mini (t.nth + 1)))) (eq-eqb (t.nth + 1) (mini_at (minis s.classes) t.mini).slots (e.0 refl))
after_is s t (Some u) e is = ap (λ (b : Bool). cond b None (Some (nth_slot s t.mini (t.nth + 1)))) (ne_eqb (t.nth + 1) (mini_at (minis s.classes) t.mini).slots (λ q. true≢false (e.1 q))) ∙ ap (λ (x : Slot). Some x) (sym is)

pub before_known : SlotLaws → (s : Slots) (t : Slot) (r : Option Slot) → IsSlotOf s t → IfSome r (λ u. u ≡ nth_slot s t.mini (t.nth - 1)) → ForSome r (λ u. slot_at s u.addr ≡ Some u)
before_known laws s t None k is u e = absurd (cc)
before_known laws s t (Some v) k is u e =
    let q : nth_slot s t.mini (t.nth - 1) ≡ u = sym is ∙ same_Some v u e in
    subst (λ (x : Slot). slot_at s x.addr ≡ Some x) q (laws.found s t.mini (t.nth - 1) k.mini_known (omega (arith, k.nth_known)))

pub after_known : SlotLaws → (s : Slots) (t : Slot) (r : Option Slot) → IsSlotOf s t → IsNone r ↔ (t.nth + 1 ≡ (mini_at (minis s.classes) t.mini).slots) → IfSome r (λ u. u ≡ nth_slot s t.mini (t.nth + 1)) → ForSome r (λ u. slot_at s u.addr ≡ Some u)
after_known laws s t None k n is u e = absurd (cc)
after_known laws s t (Some v) k n is u e =
    let q : nth_slot s t.mini (t.nth + 1) ≡ u = sym is ∙ same_Some v u e in
    let m : t.nth + 1 ≡ (mini_at (minis s.classes) t.mini).slots → ⊥ = λ z. true≢false (n.1 z) in
    subst (λ (x : Slot). slot_at s x.addr ≡ Some x) q (laws.found s t.mini (t.nth + 1) k.mini_known (omega (arith, k.nth_known, m)))

-- a slot of a heap is one of another with the same miniheaps
pub slot_of_same : (s r : Slots) (t : Slot) → r.classes ≡ s.classes → IsSlotOf s t → IsSlotOf r t
slot_of_same s r t e k =
    let m : minis s.classes ≡ minis r.classes = ap minis (sym e) in
    record {
      mini_known = omega (arith, k.mini_known, ap length m);
      nth_known = subst (λ (ms : List Mini). t.nth < (mini_at ms t.mini).slots) m k.nth_known;
      class_is = subst (λ (ms : List Mini). t.class ≡ (mini_at ms t.mini).class) m k.class_is;
      address_is = subst (λ (ms : List Mini). t.addr ≡ (mini_at ms t.mini).base + t.nth * 2 ^ t.class) m k.address_is;
    }

-- a check changes no byte
pub neighbour_memory : (s : HeapState) (o : Option Slot) → (neighbour_checked s o).memory ≡ s.memory
neighbour_memory s None = refl
neighbour_memory s (Some t) = at (is_free_state t.state) (break_in s t.addr t.class)
  where
    broken : (b : Option ℕ) → (signalled_if t.addr s b).memory ≡ s.memory
    broken None = refl
    broken (Some x) = refl

    at : (b : Bool) (o : Option ℕ) → (cond b (signalled_if t.addr s o) s).memory ≡ s.memory
    at true o = broken o
    at false o = refl

-- ---- both checks

pub no_neighbours : (a : ℕ) (s : HeapState) → slot_at (slots_of s.history) a ≡ None → neighbours_checked a s ≡ s
unfolding neighbours_checked
no_neighbours a s e = ap (λ (r : HeapState). after_checked a r) first ∙ ap (λ (o : Option Slot). neighbour_checked s (slot_after (slots_of s.history) o)) e
  where
    first : before_checked a s ≡ s
    first = ap (λ (o : Option Slot). neighbour_checked s (slot_before (slots_of s.history) o)) e

-- the checks of what is before and after in the slots as they are then
pub both_checked : (a : ℕ) (s : HeapState) (g k : Slots) (t : Slot) (before after : Option Slot) → g ≡ slots_of s.history → slot_at g a ≡ Some t → slot_before g (Some t) ≡ before
    → k ≡ slots_of (neighbour_checked s before).history → k.classes ≡ g.classes → slot_after k (Some t) ≡ after
    → neighbours_checked a s ≡ neighbour_checked (neighbour_checked s before) after
unfolding neighbours_checked
both_checked a s g k t before after e here is f same is_after = ap (λ (r : HeapState). after_checked a r) first ∙ ap (neighbour_checked (neighbour_checked s before)) second
  where
    first : before_checked a s ≡ neighbour_checked s before
    first = ap (λ (x : Slots). neighbour_checked s (slot_before x (slot_at x a))) (sym e) ∙ ap (λ (o : Option Slot). neighbour_checked s (slot_before g o)) here ∙ ap (neighbour_checked s) is

    second : slot_after (slots_of (neighbour_checked s before).history) (slot_at (slots_of (neighbour_checked s before).history) a) ≡ after
    second =
        ap (λ (x : Slots). slot_after x (slot_at x a)) (sym f) ∙ ap (slot_after k) (same_places g k a t (sym same) here) ∙ is_after

neighbour_objects : (s : HeapState) (o : Option Slot) → (neighbour_checked s o).history.objects ≡ s.history.objects
neighbour_objects s None = refl
neighbour_objects s (Some t) = at (is_free_state t.state) (break_in s t.addr t.class)
  where
    broken : (b : Option ℕ) → (signalled_if t.addr s b).history.objects ≡ s.history.objects
    broken None = refl
    broken (Some x) = refl

    at : (b : Bool) (o : Option ℕ) → (cond b (signalled_if t.addr s o) s).history.objects ≡ s.history.objects
    at true o = broken o
    at false o = refl

-- the checks leave the bytes and the objects
pub neighbours_memory : (a : ℕ) (s : HeapState) → (neighbours_checked a s).memory ≡ s.memory
unfolding neighbours_checked
neighbours_memory a s = neighbour_memory (before_checked a s) (slot_after (slots_of (before_checked a s).history) (slot_at (slots_of (before_checked a s).history) a)) ∙ neighbour_memory s (slot_before (slots_of s.history) (slot_at (slots_of s.history) a))

pub neighbours_objects : (a : ℕ) (s : HeapState) → (neighbours_checked a s).history.objects ≡ s.history.objects
unfolding neighbours_checked
neighbours_objects a s = neighbour_objects (before_checked a s) (slot_after (slots_of (before_checked a s).history) (slot_at (slots_of (before_checked a s).history) a)) ∙ neighbour_objects s (slot_before (slots_of s.history) (slot_at (slots_of s.history) a))

-- a free is the free of the object after the checks
pub owner_freed_is : (rules : Rules) (site : ℕ) (owner : Owner) (s : HeapState) (a deferral : ℕ) → a ≡ slot_of owner.object → deferral ≡ deferral_of rules owner.object site
    → owner_freed rules site owner s ≡ object_freed deferral site owner (record { history = (neighbours_checked a s).history; memory = s.memory })
unfolding owner_freed
owner_freed_is rules site owner s a deferral e d =
    ap (λ (n : ℕ). object_freed n site owner (neighbours_checked (slot_of owner.object) s)) (sym d)
    ∙ ap (λ (x : ℕ). object_freed deferral site owner (neighbours_checked x s)) (sym e)
    ∙ ap (λ (m : Memory). object_freed deferral site owner (record { history = (neighbours_checked a s).history; memory = m })) (neighbours_memory a s)
