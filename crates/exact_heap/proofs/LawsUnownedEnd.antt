-- What the check at the end sees of slots that no object holds.
use Rattle.std.proofs.Common.{◌≡◌, ℕ, ◌^◌, refl, sym, Bool, true, false, cond, List, [], ◌∷◌, ◌++◌, Option, Some, None, IsSomeAnd, subst}
use Rattle.std.specs.List.{AllByRecursion, filter_map, cons_option}
use Rattle.std.specs.Option.{option_map}
use Rattle.std.proofs.lemmas.List.{append-nil}
use Rattle.std.proofs.lemmas.Option.{same_Some}
use Rattle.miniheap.specs.declared.place.Slot.{Slot}
use Rattle.miniheap.specs.declared.place.SlotState.{SlotState}
use Rattle.miniheap.specs.declared.place.SlotState.TheVariants.{Free, Held, Bad}
use Rattle.miniheap.specs.Layout.{minis, all_slots}
use Rattle.miniheap.specs.Slots.{is_free_state, slot_at}
use Rattle.exact_heap.specs.declared.signal.Signal.{Signal}
use Rattle.exact_heap.specs.declared.signal.Place.TheVariants.{End}
use Rattle.exact_heap.specs.History.{slots_of, canary_in}
use Rattle.exact_heap.specs.Placing.{HeapState, break_in, signal_at}
use Rattle.exact_heap.specs.Calls.{end_signal, end_signals, check_end}
use Rattle.exact_heap.specs.Unowned.{IsSeenAtEnd, EndAddsSignals, EndLeavesUnowned}
use Rattle.miniheap.specs.Laws.{SlotLaws}
use Rattle.exact_heap.proofs.LawsUnowned.{break_is}

each_given : {A : Type 0} (P : Signal → Type 0) (f : A → Option Signal) → ((x : A) (g : Signal) → f x ≡ Some g → P g) → (xs : List A) → AllByRecursion P (filter_map f xs)
each_given P f h [] = tt
each_given P f h (x ∷ xs) = at (f x) refl (each_given P f h xs)
  where
    at : (o : Option Signal) → f x ≡ o → AllByRecursion P (filter_map f xs) → AllByRecursion P (cons_option o (filter_map f xs))
    at None e k = k
    at (Some g) e k = (h x g e, k)

seen_at_end : SlotLaws → (s : HeapState) (slot : ℕ) (g : Signal) → end_signal s (slot_at (slots_of s.history) slot) ≡ Some g → IsSeenAtEnd s g
seen_at_end laws s slot g e = at (slot_at (slots_of s.history) slot) refl e
  where
    broken_at : (t : Slot) → slot_at (slots_of s.history) slot ≡ Some t → t.state ≡ Free → (b : Option ℕ) → break_in s t.addr t.class ≡ b → option_map (signal_at End s.memory) b ≡ Some g → IsSeenAtEnd s g
    broken_at t q f None r k = absurd (cc)
    broken_at t q f (Some broken) r k =
        let b = break_is s.memory (canary_in s.history) t.addr (2 ^ t.class) broken r in
        let there : slot_at (slots_of s.history) broken ≡ Some t = laws.apart (slots_of s.history) slot broken t q b.0 b.1 in
        subst (IsSeenAtEnd s) (same_Some (signal_at End s.memory broken) g k)
        (record { place = refl; free = subst (λ (o : Option Slot). IsSomeAnd o (λ u. u.state ≡ Free)) (sym there) f; broken = b.2; byte = refl })

    in_state : (t : Slot) → slot_at (slots_of s.history) slot ≡ Some t → (u : SlotState) → t.state ≡ u → cond (is_free_state u) (option_map (signal_at End s.memory) (break_in s t.addr t.class)) None ≡ Some g → IsSeenAtEnd s g
    in_state t q Held f k = absurd (cc)
    in_state t q Bad f k = absurd (cc)
    in_state t q Free f k = broken_at t q f (break_in s t.addr t.class) refl k

    at : (o : Option Slot) → slot_at (slots_of s.history) slot ≡ o → end_signal s o ≡ Some g → IsSeenAtEnd s g
    at None q k = absurd (cc)
    at (Some t) q k = in_state t q t.state refl k

pub end_leaves_unowned : SlotLaws → EndLeavesUnowned
unfolding check_end end_signals
end_leaves_unowned laws s = at s.history.ended refl
  where
    found : List Signal
    found = filter_map (λ slot. end_signal s (slot_at (slots_of s.history) slot)) (all_slots (minis s.history.classes))

    at : (b : Bool) → s.history.ended ≡ b → EndAddsSignals s (cond b s.history (record s.history { signals = s.history.signals ++ found; ended = true }))
    at true e = record { added = []; behind = sym (λ i. record s.history { signals = append-nil s.history.signals i; ended = sym e i }); seen = tt }
    at false e = record { added = found; behind = refl; seen = each_given (IsSeenAtEnd s) (λ slot. end_signal s (slot_at (slots_of s.history) slot)) (seen_at_end laws s) (all_slots (minis s.history.classes)) }
