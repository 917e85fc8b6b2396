-- Histories stay lawful, step by step.
use Rattle.std.proofs.Common.{◌≡◌, ℕ, ◌+◌, ◌^◌, ◌≤◌, Bool, true, false, cond, arith, List, [], ◌∷◌, ◌++◌, length}
use Rattle.std.specs.Cmp.{nat_cmp_total}
use Rattle.std.specs.FinSet.{contains, insert, len, len-insert}
use Rattle.std.proofs.lemmas.Bool.{true≢false}
use Rattle.std.proofs.lemmas.List.{length-append}
use Rattle.miniheap.specs.declared.place.SlotState.TheVariants.{Free}
use Rattle.miniheap.specs.Layout.{heap_limit}
use Rattle.miniheap.specs.Slots.{used_of, wanted_of, IsSlotIn}
use Rattle.exact_heap.proofs.SlotStates.{not_bad}
use Rattle.exact_heap.specs.declared.signal.Place.TheVariants.{Call}
use Rattle.exact_heap.specs.History.{Object, History, slot_of, slots_of}
use Rattle.exact_heap.specs.Placing.{HeapState, grown, signalled, signal_at, with_draws}
use Rattle.exact_heap.specs.Lawful.{IsPlaced, IsLawful}
use Rattle.miniheap.specs.Laws.{SlotLaws}
use Rattle.exact_heap.proofs.SlotPlaces.{slot_in_is, slot_stays, grown_ordered, spoiled_ordered}
use Rattle.exact_heap.proofs.Objects.{each_weaker}

placed_grown : SlotLaws → (classes : List ℕ) (c : ℕ) (o : Object) → IsPlaced classes o → IsPlaced (classes ++ c ∷ []) o
placed_grown laws classes c o k = record { slot = slot_stays laws (λ t. (t.addr ≡ slot_of o) × (t.class ≡ o.class)) classes c (slot_of o) k.slot; room = k.room }

pub lawful_grown : SlotLaws → (c : ℕ) (s : HeapState) → IsLawful s.history → 4 ≤ c → c ≤ 22 → used_of (slots_of s.history) + wanted_of (slots_of s.history) c ≤ heap_limit → IsLawful (grown c s).history
lawful_grown laws c s l low high room = record {
  in_order = grown_ordered laws (slots_of s.history) c l.in_order low high room;
  placed = each_weaker (IsPlaced s.history.classes) (IsPlaced (s.history.classes ++ c ∷ [])) (placed_grown laws s.history.classes c) s.history.objects l.placed;
  apart = l.apart;
  timed = l.timed;
  signals = l.signals;
}

pub lawful_drawn : (draws : ℕ) (s : HeapState) → IsLawful s.history → IsLawful (with_draws draws s).history
lawful_drawn draws s l = record { in_order = l.in_order; placed = l.placed; apart = l.apart; timed = l.timed; signals = l.signals }

pub lawful_spoiled : (slot broken : ℕ) (s : HeapState) → IsLawful s.history → IsSlotIn (slots_of s.history) slot Free → IsLawful (signalled slot broken s).history
lawful_spoiled slot broken s l free = record {
  in_order = spoiled_ordered (slots_of s.history) slot l.in_order free;
  placed = l.placed;
  apart = l.apart;
  timed = l.timed;
  signals = count (contains h.bad slot) (len-insert nat_cmp_total h.bad slot) (not_bad (slots_of h) slot (slot_in_is (slots_of h) slot Free free).1);
}
  where
    h : History
    h = s.history

    count : (b : Bool) → len (insert h.bad slot) ≡ cond b (len h.bad) (len h.bad + 1) → b ≡ false → length (h.signals ++ signal_at (Call h.calls) s.memory broken ∷ []) ≤ len (insert h.bad slot) + cond h.ended (2 ^ 31) 0
    count true e q = absurd (true≢false q)
    count false e q = omega (arith, e, l.signals, length-append h.signals (signal_at (Call h.calls) s.memory broken ∷ []))
