-- What one turn of the search comes to.
use Rattle.std.proofs.Common.{◌≡◌, ℕ, ◌^◌, refl, ap, sym, ◌∙◌, subst, Bool, true, false, cond, Option, Some, None, IsSomeAnd}
use Rattle.miniheap.specs.declared.place.Slot.{Slot}
use Rattle.miniheap.specs.declared.place.SlotState.TheVariants.{Free}
use Rattle.miniheap.specs.Slots.{Slots, slot_at, must_grow, IsSlotIn, IsFreeSlot}
use Rattle.miniheap.specs.Draws.{Pick, picked_by, address_of}
use Rattle.exact_heap.specs.History.{slots_of}
use Rattle.exact_heap.specs.Placing.{HeapState, growth, checked, with_draws, drawn, turn, break_in}
use Rattle.miniheap.specs.Laws.{SlotLaws}
use Rattle.exact_heap.proofs.Homes.{InHeap, slot_in_heap}

pub turn_grows : (c : ℕ) (s : HeapState) → must_grow (slots_of s.history) c ≡ true → turn c s ≡ growth c s
unfolding turn
turn_grows c s e = ap (λ (b : Bool). cond b (growth c s) (drawn c s (picked_by s.history.seed s.history.spent (slots_of s.history) c))) e

pub turn_draws : (c : ℕ) (s : HeapState) (g : Slots) (pick : Pick) (slot : ℕ) (broken : Option ℕ) → g ≡ slots_of s.history → must_grow g c ≡ false → picked_by s.history.seed s.history.spent g c ≡ Some pick
    → slot ≡ address_of g c pick.number → break_in s slot c ≡ broken → turn c s ≡ checked slot (with_draws pick.draws s) broken
unfolding turn
turn_draws c s g pick slot broken e stays is at breaks =
    ap (λ (b : Bool). cond b (growth c s) (drawn c s (picked_by s.history.seed s.history.spent (slots_of s.history) c))) (ap (λ (x : Slots). must_grow x c) (sym e) ∙ stays)
    ∙ ap (drawn c s) (ap (λ (x : Slots). picked_by s.history.seed s.history.spent x c) (sym e) ∙ is)
    ∙ ap (λ (a : ℕ). checked a (with_draws pick.draws s) (break_in s a c)) (ap (λ (x : Slots). address_of x c pick.number) (sym e) ∙ sym at)
    ∙ ap (checked slot (with_draws pick.draws s)) breaks

-- a free slot of a class
pub record FreeSlot (s : Slots) (c a : ℕ) : Type 0 where
  pub slot : Slot
  pub found : slot_at s a ≡ Some slot
  pub addr : slot.addr ≡ a
  pub class : slot.class ≡ c
  pub state : slot.state ≡ Free

pub free_slot_is : (s : Slots) (c a : ℕ) → IsFreeSlot s c a → FreeSlot s c a
free_slot_is s c a f = at (slot_at s a) refl f
  where
    at : (o : Option Slot) → slot_at s a ≡ o → IsSomeAnd o (λ t. (t.addr ≡ a) × (t.class ≡ c) × (t.state ≡ Free)) → FreeSlot s c a
    at None e k = absurd k
    at (Some t) e k = record { slot = t; found = e; addr = k.0; class = k.1; state = k.2 }

pub free_slot_in : (s : Slots) (c a : ℕ) → IsFreeSlot s c a → IsSlotIn s a Free
free_slot_in s c a f = let k = free_slot_is s c a f in subst (λ (o : Option Slot). IsSomeAnd o (λ t. (t.addr ≡ a) × (t.state ≡ Free))) (sym k.found) (k.addr, k.state)

pub free_slot_lies : SlotLaws → (s : Slots) (c a : ℕ) → IsFreeSlot s c a → InHeap s a (2 ^ c)
free_slot_lies laws s c a f =
    let k = free_slot_is s c a f in
    subst (λ (n : ℕ). InHeap s a (2 ^ n)) k.class (subst (λ (n : ℕ). InHeap s n (2 ^ k.slot.class)) k.addr (slot_in_heap laws s a k.slot k.found))
