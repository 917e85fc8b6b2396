-- What holds of slots, of a heap of which none is held or bad, holds of their places.
use Rattle.std.proofs.Common.{◌≡◌, ℕ, ap, sym, ◌∙◌, List, [], ◌∷◌, ◌++◌, Option, Some, None, option_map}
use Rattle.std.specs.FinSet.{empty}
use Rattle.std.proofs.lemmas.Option.{same_Some}
use Rattle.miniheap.specs.declared.place.Slot.{Slot}
use Rattle.miniheap.specs.declared.place.SlotPlace.{SlotPlace}
use Rattle.miniheap.specs.Layout.{minis}
use Rattle.miniheap.specs.Places.{nth_place, place_at}
use Rattle.miniheap.specs.Slots.{Slots, slot_at, slot_of, IsSlotOf}
use Rattle.miniheap.specs.Sound.{place_of}
use Rattle.miniheap.specs.Laws.{SlotsAreAtPlaces, PlacesHoldTheirAddresses, PlacesLieWithin, PlacesAreApart, PlacesBeginAtMultiples, PlacesAreKnown, PlacesAreFound, PlacesStay}
use Rattle.miniheap.proofs.SlotsLemmas.{slot_from_place, nth_slot_at}
use Rattle.miniheap.proofs.LawLemmas.{slots_hold_their_addresses, slots_lie_within, slots_are_apart, slots_begin_at_multiples, slots_are_known, slots_stay}

pub slots_are_at_places : SlotsAreAtPlaces
slots_are_at_places s a = slot_from_place s a 0 (minis s.classes)

-- the heap of these miniheaps, of which every slot is free
abbrev pub all_free : List ℕ → Slots
all_free classes = record { classes = classes; held = empty; bad = empty }

pub to_slot : (classes : List ℕ) (a : ℕ) (p : SlotPlace) → place_at classes a ≡ Some p → slot_at (all_free classes) a ≡ Some (slot_of (all_free classes) p)
to_slot classes a p e = slots_are_at_places (all_free classes) a ∙ ap (option_map (slot_of (all_free classes))) e

to_place : (classes : List ℕ) (a : ℕ) (p : SlotPlace) → slot_at (all_free classes) a ≡ Some (slot_of (all_free classes) p) → place_at classes a ≡ Some p
to_place classes a p e = at (place_at classes a) (sym (slots_are_at_places (all_free classes) a) ∙ e)
  where
    at : (o : Option SlotPlace) → option_map (slot_of (all_free classes)) o ≡ Some (slot_of (all_free classes) p) → o ≡ Some p
    at None q = absurd (cc)
    at (Some x) q = ap (λ (t : Slot). Some (place_of t)) (same_Some (slot_of (all_free classes) x) (slot_of (all_free classes) p) q)

pub places_hold_their_addresses : PlacesHoldTheirAddresses
places_hold_their_addresses classes a p e = slots_hold_their_addresses (all_free classes) a (slot_of (all_free classes) p) (to_slot classes a p e)

pub places_lie_within : PlacesLieWithin
places_lie_within classes a p e = slots_lie_within (all_free classes) a (slot_of (all_free classes) p) (to_slot classes a p e)

pub places_are_apart : PlacesAreApart
places_are_apart classes a b p e from to = to_place classes b p (slots_are_apart (all_free classes) a b (slot_of (all_free classes) p) (to_slot classes a p e) from to)

pub places_begin_at_multiples : PlacesBeginAtMultiples
places_begin_at_multiples classes a p e = slots_begin_at_multiples (all_free classes) a (slot_of (all_free classes) p) (to_slot classes a p e)

pub places_are_known : PlacesAreKnown
places_are_known classes a p e =
    let k : IsSlotOf (all_free classes) (slot_of (all_free classes) p) = (slots_are_known (all_free classes) a (slot_of (all_free classes) p) (to_slot classes a p e)).0 in
    record { mini_known = k.mini_known; nth_known = k.nth_known; class_is = k.class_is; address_is = k.address_is }

pub places_are_found : PlacesAreFound
places_are_found classes i n h k = to_place classes (nth_place classes i n).addr (nth_place classes i n) (nth_slot_at (all_free classes) i n h k)

pub places_stay : PlacesStay
places_stay classes c a p e = to_place (classes ++ c ∷ []) a p (slots_stay (all_free classes) c a (slot_of (all_free classes) p) (to_slot classes a p e))
