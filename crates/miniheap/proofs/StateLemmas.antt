-- What the methods of a grid need of its states.
use Rattle.std.proofs.Common.{◌≡◌, ℕ, ◌<◌, ap, sym, ◌∙◌, subst, List, [], length, get_or, Option, Some, None, option_map, IsSomeAnd}
use Rattle.std.proofs.lemmas.List.{get_or_read}
use Rattle.miniheap.specs.declared.place.Slot.{Slot}
use Rattle.miniheap.specs.declared.place.SlotPlace.{SlotPlace}
use Rattle.miniheap.specs.declared.place.SlotState.{SlotState}
use Rattle.miniheap.specs.declared.place.SlotState.TheVariants.{Free}
use Rattle.miniheap.specs.Layout.{minis}
use Rattle.miniheap.specs.Places.{IsPlaceOf, place_at}
use Rattle.miniheap.specs.Slots.{Slots, state_of, slot_at, slot_of, nth_slot, IsSlotIn}
use Rattle.miniheap.specs.Sound.{states_at, stands_for, IsSound}
use Rattle.miniheap.specs.Walk.{address_number, place_number, slot_number}
use Rattle.miniheap.proofs.PlaceLemmas.{place_is_nth}
use Rattle.miniheap.proofs.SlotsLemmas.{slot_from_place}
use Rattle.miniheap.proofs.SoundLemmas.{Found, found, state_is, address_at}

-- the slot at a place, in a state
abbrev pub slot_with : SlotPlace → SlotState → Slot
slot_with p t = record { addr = p.addr; class = p.class; mini = p.mini; nth = p.nth; state = t }

-- the states of a miniheap that were read
pub record IsRead (s : Slots) (p : SlotPlace) (ts : List SlotState) : Type 0 where
  pub known : p.nth < length ts
  pub slot_is : slot_with p (get_or ts p.nth Free) ≡ nth_slot s p.mini p.nth

pub is_read : (cs : List ℕ) (ls : List (List SlotState)) (taken : List ℕ) → IsSound cs ls taken → (s : Slots) → stands_for cs ls ≡ s → (p : SlotPlace) → IsPlaceOf s.classes p
    → (ts : List SlotState) → ts ≡ get_or ls p.mini ts → IsRead s p ts
is_read cs ls taken ok s v p of ts e = subst (λ (x : Slots). IsRead x p ts) v (here (subst (λ (x : Slots). IsPlaceOf x.classes p) (sym v) of))
  where
    here : IsPlaceOf cs p → IsRead (stands_for cs ls) p ts
    here own =
        let f : Found cs ls p.mini p.nth = found cs ls ok.states_are p.mini p.nth own.mini_known own.nth_known in
        let same : ts ≡ states_at ls p.mini = get_or_read ls p.mini ts f.list_known e [] in
        record {
          known = subst (λ (us : List SlotState). p.nth < length us) (sym same) f.state_known;
          slot_is =
              ap (slot_with p) (ap (λ (us : List SlotState). get_or us p.nth Free) same ∙ sym (state_is cs ls p.mini p.nth f))
              ∙ ap (λ (q : SlotPlace). slot_with q (state_of (stands_for cs ls) (address_at cs p.mini p.nth))) (place_is_nth cs p own);
        }

pub nth_slot_of_place : (s : Slots) (p : SlotPlace) → IsPlaceOf s.classes p → slot_of s p ≡ nth_slot s p.mini p.nth
nth_slot_of_place s p of = ap (slot_of s) (place_is_nth s.classes p of)

-- the slot of an address, by the place of that address
pub found_slot : (cs : List ℕ) (ls : List (List SlotState)) (s : Slots) → stands_for cs ls ≡ s → (a : ℕ) (p : SlotPlace) → place_at cs a ≡ Some p → IsPlaceOf s.classes p → slot_at s a ≡ Some (nth_slot s p.mini p.nth)
found_slot cs ls s v a p e of =
    slot_from_place s a 0 (minis s.classes)
    ∙ ap (option_map (slot_of s)) (ap (λ (x : Slots). place_at x.classes a) (sym v) ∙ e)
    ∙ ap (λ (t : Slot). Some t) (nth_slot_of_place s p of)

pub no_slot : (cs : List ℕ) (ls : List (List SlotState)) (s : Slots) → stands_for cs ls ≡ s → (a : ℕ) → place_at cs a ≡ None → slot_at s a ≡ None
no_slot cs ls s v a e = slot_from_place s a 0 (minis s.classes) ∙ ap (option_map (slot_of s)) (ap (λ (x : Slots). place_at x.classes a) (sym v) ∙ e)

pub no_slot_in : (cs : List ℕ) (ls : List (List SlotState)) (s : Slots) → stands_for cs ls ≡ s → (a : ℕ) (t : SlotState) → place_at cs a ≡ None → IsSlotIn s a t → ⊥
no_slot_in cs ls s v a t e h = subst (λ (o : Option Slot). IsSomeAnd o (λ (x : Slot). (x.addr ≡ a) × (x.state ≡ t))) (no_slot cs ls s v a e) h

-- the same by the number among all slots
pub slot_number_is : (cs : List ℕ) (ls : List (List SlotState)) (s : Slots) → stands_for cs ls ≡ s → (k : ℕ) (p : SlotPlace) → place_number cs k ≡ Some p → IsPlaceOf s.classes p → slot_number s k ≡ Some (nth_slot s p.mini p.nth)
slot_number_is cs ls s v k p e of = found_slot cs ls s v (address_number s.classes k) p (ap (λ (x : Slots). place_at cs (address_number x.classes k)) (sym v) ∙ e) of

pub no_slot_number : (cs : List ℕ) (ls : List (List SlotState)) (s : Slots) → stands_for cs ls ≡ s → (k : ℕ) → place_number cs k ≡ None → slot_number s k ≡ None
no_slot_number cs ls s v k e = no_slot cs ls s v (address_number s.classes k) (ap (λ (x : Slots). place_at cs (address_number x.classes k)) (sym v) ∙ e)
