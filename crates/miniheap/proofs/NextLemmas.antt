-- The slot that comes after another one in order of creation.
use Rattle.std.proofs.Common.{◌≡◌, ℕ, zero, suc, ◌+◌, ◌*◌, ◌^◌, ◌<◌, ◌≤◌, ap, sym, ◌∙◌, ◌⊎◌, inl, inr, arith, List, [], ◌∷◌, ◌++◌, length, get_or, take, Some, None}
use Rattle.std.proofs.lemmas.Bool.{cases_lt}
use Rattle.std.proofs.lemmas.List.{get_or_past}
use Rattle.std.proofs.lemmas.List.Sums.{sum_by-cons}
use Rattle.std.proofs.lemmas.Option.{same_Some}
use Rattle.miniheap.specs.declared.place.Slot.{Slot}
use Rattle.miniheap.specs.declared.place.SlotPlace.{SlotPlace}
use Rattle.miniheap.specs.Laws.{IsWalk, PlacesAreNumbered, NumbersAreApart}
use Rattle.miniheap.specs.Layout.{Mini, mini_bytes, mini_end, heap_from, count_of, nth_mini, minis_from, minis, mini_at, bytes_of, all_slots}
use Rattle.miniheap.specs.Places.{end_behind, nth_place, place_at, IsPlaceOf}
use Rattle.miniheap.specs.Slots.{Slots, slot_at, slot_of, end_of}
use Rattle.miniheap.specs.Walk.{address_number, place_number}
use Rattle.miniheap.proofs.ListLemmas.{Rises, rises_at}
use Rattle.miniheap.proofs.LayoutLemmas.{Chain, minis_chain, chain_base, chain_rises, slot_of_all}
use Rattle.miniheap.proofs.OrderLemmas.{IsNumbered, numbered}
use Rattle.miniheap.proofs.RowLemmas.{slots_some}
use Rattle.miniheap.proofs.PlaceLemmas.{place_from_none, place_is_nth}
use Rattle.miniheap.proofs.PlaceLaws.{all_free, to_slot, places_are_found, places_are_known, places_lie_within}
use Rattle.miniheap.proofs.WalkLemmas.{slots_follow}

-- ---- the miniheap after another one

next_base : (base : ℕ) (ms : List Mini) (i : ℕ) → Chain base ms → i + 1 < length ms → (mini_at ms (i + 1)).base ≡ mini_end (mini_at ms i)
next_base base [] i ch h = absurd (omega arith)
next_base base (m ∷ []) i ch h = absurd (omega arith)
next_base base (m ∷ n ∷ ms) zero ch h = ch.1.0
next_base base (m ∷ n ∷ ms) (suc i) ch h = ap (λ (j : ℕ). (mini_at (m ∷ n ∷ ms) j).base) (let e : suc i + 1 ≡ suc (i + 1) = omega arith in e) ∙ next_base (mini_end m) (n ∷ ms) i ch.1 (omega arith)

last_end : (base : ℕ) (ms : List Mini) (i : ℕ) → Chain base ms → i + 1 ≡ length ms → mini_end (mini_at ms i) ≡ base + bytes_of ms
last_end base [] i ch h = absurd (omega arith)
last_end base (m ∷ []) zero ch h = omega (arith, ch.0, sum_by-cons mini_bytes m [])
last_end base (m ∷ n ∷ ms) zero ch h = absurd (omega arith)
last_end base (m ∷ ms) (suc i) ch h = last_end (mini_end m) ms i ch.1 (omega arith) ∙ omega (arith, ch.0, sum_by-cons mini_bytes m ms)

minis_from_some : (earlier : List ℕ) (base : ℕ) (cs : List ℕ) (i : ℕ) → i < length (minis_from earlier base cs) → 0 < (mini_at (minis_from earlier base cs) i).slots
minis_from_some earlier base [] i h = absurd (omega arith)
minis_from_some earlier base (c ∷ cs) zero h = slots_some c (count_of c earlier)
minis_from_some earlier base (c ∷ cs) (suc i) h = minis_from_some (earlier ++ c ∷ []) (mini_end (nth_mini c base (count_of c earlier))) cs i (omega arith)

-- each miniheap has a slot
pub has_slots : (cs : List ℕ) (i : ℕ) → i < length (minis cs) → 0 < (mini_at (minis cs) i).slots
has_slots cs i h = minis_from_some [] heap_from cs i h

-- ---- the place behind another one

behind_is : (cs : List ℕ) (p : SlotPlace) → IsPlaceOf cs p → p.addr + 2 ^ p.class ≡ (mini_at (minis cs) p.mini).base + (p.nth + 1) * 2 ^ (mini_at (minis cs) p.mini).class
behind_is cs p of =
    ap (λ (q : SlotPlace). q.addr + 2 ^ q.class) (place_is_nth cs p of)
    ∙ (let m : Mini = mini_at (minis cs) p.mini in let e : m.base + p.nth * 2 ^ m.class + 2 ^ m.class ≡ m.base + (p.nth + 1) * 2 ^ m.class = omega arith in e)

-- in the same miniheap
pub behind_within : (cs : List ℕ) (p : SlotPlace) → IsPlaceOf cs p → p.nth + 1 < (mini_at (minis cs) p.mini).slots → place_at cs (p.addr + 2 ^ p.class) ≡ Some (nth_place cs p.mini (p.nth + 1))
behind_within cs p of h = ap (place_at cs) (behind_is cs p of) ∙ places_are_found cs p.mini (p.nth + 1) of.mini_known h

-- behind the miniheap's last slot
past : (cs : List ℕ) (p : SlotPlace) → IsPlaceOf cs p → p.nth + 1 ≡ (mini_at (minis cs) p.mini).slots → p.addr + 2 ^ p.class ≡ mini_end (mini_at (minis cs) p.mini)
past cs p of h = behind_is cs p of ∙ ap (λ (n : ℕ). (mini_at (minis cs) p.mini).base + n * 2 ^ (mini_at (minis cs) p.mini).class) h

pub behind_across : (cs : List ℕ) (p : SlotPlace) → IsPlaceOf cs p → p.nth + 1 ≡ (mini_at (minis cs) p.mini).slots → p.mini + 1 < length (minis cs) → place_at cs (p.addr + 2 ^ p.class) ≡ Some (nth_place cs (p.mini + 1) 0)
behind_across cs p of h k =
    ap (place_at cs) (past cs p of h ∙ sym (next_base heap_from (minis cs) p.mini (minis_chain cs) k) ∙ (let m : Mini = mini_at (minis cs) (p.mini + 1) in let e : m.base ≡ m.base + 0 * 2 ^ m.class = omega arith in e))
    ∙ places_are_found cs (p.mini + 1) 0 k (has_slots cs (p.mini + 1) k)

nothing_there : (cs : List ℕ) (a : ℕ) → (a < heap_from) ⊎ (end_behind cs ≤ a) → place_at cs a ≡ None
nothing_there cs a h = place_from_none a 0 heap_from (minis cs) (minis_chain cs) h

pub behind_all : (cs : List ℕ) (p : SlotPlace) → IsPlaceOf cs p → p.nth + 1 ≡ (mini_at (minis cs) p.mini).slots → p.mini + 1 ≡ length (minis cs) → place_at cs (p.addr + 2 ^ p.class) ≡ None
behind_all cs p of h k = nothing_there cs (p.addr + 2 ^ p.class) (inr (omega (arith, past cs p of h, last_end heap_from (minis cs) p.mini (minis_chain cs) k)))

-- ---- the first place

pub first_there : (cs : List ℕ) → 0 < length (minis cs) → place_at cs heap_from ≡ Some (nth_place cs 0 0)
first_there cs h =
    ap (place_at cs) (let m : Mini = mini_at (minis cs) 0 in let b : m.base ≡ heap_from + 0 = chain_base heap_from (minis cs) 0 (minis_chain cs) h in let e : heap_from ≡ m.base + 0 * 2 ^ m.class = omega (arith, b) in e)
    ∙ places_are_found cs 0 0 h (has_slots cs 0 h)

pub first_none : (cs : List ℕ) → length (minis cs) ≡ 0 → place_at cs heap_from ≡ None
first_none cs h = nothing_there cs heap_from (inr (at (minis cs) h))
  where
    at : (ms : List Mini) → length ms ≡ 0 → heap_from + bytes_of ms ≤ heap_from
    at [] e = omega arith
    at (m ∷ ms) e = absurd (omega arith)

-- ---- in order

-- what a walk meets at one of its addresses
record IsMet (s : Slots) (xs : List ℕ) (k : ℕ) : Type 0 where
  slot : Slot
  found : slot_at s (get_or xs k 0) ≡ Some slot
  more : k + 1 < length xs → get_or xs (k + 1) 0 ≡ get_or xs k 0 + 2 ^ slot.class
  last : k + 1 ≡ length xs → get_or xs k 0 + 2 ^ slot.class ≡ end_of s

is_met : (s : Slots) (from : ℕ) (xs : List ℕ) (k : ℕ) → IsWalk s from xs → k < length xs → IsMet s xs k
is_met s from [] k w h = absurd (omega arith)
is_met s from (x ∷ []) zero w h = record {
  slot = w.0;
  found = ap (slot_at s) w.3 ∙ w.1;
  more = λ p. absurd (omega (arith, p));
  last = λ _. ap (λ (y : ℕ). y + 2 ^ (w.0).class) w.3 ∙ w.4;
}
is_met s from (x ∷ y ∷ ys) zero w h = record {
  slot = w.0;
  found = ap (slot_at s) w.3 ∙ w.1;
  more = λ _. (w.4).3 ∙ ap (λ (z : ℕ). z + 2 ^ (w.0).class) (sym w.3);
  last = λ p. absurd (omega (arith, p));
}
is_met s from (x ∷ xs) (suc k) w h =
    let r = is_met s (from + 2 ^ (w.0).class) xs k w.4 (omega arith) in
    record {
      slot = r.slot;
      found = r.found;
      more = λ p. ap (λ (j : ℕ). get_or (x ∷ xs) j 0) (let e : suc k + 1 ≡ suc (k + 1) = omega arith in e) ∙ r.more (omega (arith, p));
      last = λ p. r.last (omega (arith, p));
    }

pub first_number : (cs : List ℕ) → place_at cs heap_from ≡ place_number cs 0
first_number cs = at (all_slots (minis cs)) (slots_follow (all_free cs))
  where
    at : (xs : List ℕ) → IsWalk (all_free cs) heap_from xs → place_at cs heap_from ≡ place_at cs (get_or xs 0 0)
    at [] w = nothing_there cs heap_from (inr (omega (arith, w))) ∙ sym (nothing_there cs 0 (inl (omega arith)))
    at (x ∷ xs) w = ap (place_at cs) (sym w.3)

pub next_number : (cs : List ℕ) (p : SlotPlace) → IsPlaceOf cs p → (k : ℕ) → address_number cs k ≡ p.addr → place_at cs (p.addr + 2 ^ p.class) ≡ place_number cs (k + 1)
next_number cs p of k e = known (cases_lt k (length (all_slots (minis cs))))
  where
    own : place_at cs p.addr ≡ Some p
    own = ap (λ (q : SlotPlace). place_at cs q.addr) (place_is_nth cs p of) ∙ places_are_found cs p.mini p.nth of.mini_known of.nth_known ∙ ap (λ (q : SlotPlace). Some q) (sym (place_is_nth cs p of))

    class_of : (w : IsMet (all_free cs) (all_slots (minis cs)) k) → w.slot.class ≡ p.class
    class_of w = ap (λ (t : Slot). t.class) (same_Some w.slot (slot_of (all_free cs) p) (sym w.found ∙ ap (slot_at (all_free cs)) e ∙ to_slot cs p.addr p own))

    there : IsMet (all_free cs) (all_slots (minis cs)) k → (k + 1 < length (all_slots (minis cs))) ⊎ (length (all_slots (minis cs)) ≤ k + 1) → k < length (all_slots (minis cs)) → place_at cs (p.addr + 2 ^ p.class) ≡ place_number cs (k + 1)
    there w (inl h) below = ap (place_at cs) (sym (w.more h ∙ ap (λ (x : ℕ). x + 2 ^ w.slot.class) e ∙ ap (λ (c : ℕ). p.addr + 2 ^ c) (class_of w)))
    there w (inr h) below =
        let z : p.addr + 2 ^ p.class ≡ end_behind cs = ap (λ (c : ℕ). p.addr + 2 ^ c) (sym (class_of w)) ∙ ap (λ (x : ℕ). x + 2 ^ w.slot.class) (sym e) ∙ w.last (omega (arith, h, below)) in
        nothing_there cs (p.addr + 2 ^ p.class) (inr (omega (arith, z)))
        ∙ sym (ap (place_at cs) (get_or_past (all_slots (minis cs)) (k + 1) 0 h) ∙ nothing_there cs 0 (inl (omega arith)))

    known : (k < length (all_slots (minis cs))) ⊎ (length (all_slots (minis cs)) ≤ k) → place_at cs (p.addr + 2 ^ p.class) ≡ place_number cs (k + 1)
    known (inl h) = there (is_met (all_free cs) heap_from (all_slots (minis cs)) k (slots_follow (all_free cs)) h) (cases_lt (k + 1) (length (all_slots (minis cs)))) h
    known (inr h) = absurd (let z : 0 ≡ p.addr = sym (get_or_past (all_slots (minis cs)) k 0 h) ∙ e in omega (arith, z, (places_lie_within cs p.addr p own).0))

-- ---- each slot once

pub places_are_numbered : PlacesAreNumbered
places_are_numbered cs a p e =
    let of : IsPlaceOf cs p = places_are_known cs a p e in
    let r = slot_of_all (minis cs) p.mini p.nth of.mini_known of.nth_known in (
      length (all_slots (take p.mini (minis cs))) + p.nth,
      r.0,
      ap (place_at cs) r.1 ∙ places_are_found cs p.mini p.nth of.mini_known of.nth_known ∙ ap (λ (q : SlotPlace). Some q) (sym (place_is_nth cs p of)),
    )

rising_apart : (low high : ℕ) (xs : List ℕ) (i j : ℕ) → Rises low high xs → i < j → j < length xs → get_or xs i 0 < get_or xs j 0
rising_apart low high [] i j r p h = absurd (omega arith)
rising_apart low high (x ∷ xs) i zero r p h = absurd (omega arith)
rising_apart low high (x ∷ xs) zero (suc j) r p h = omega (arith, (rises_at (suc x) high xs j r.1 (omega arith)).0)
rising_apart low high (x ∷ xs) (suc i) (suc j) r p h = rising_apart (suc x) high xs i j r.1 (omega arith) (omega arith)

-- the place of a number has the address of that number
address_met : (cs : List ℕ) (k : ℕ) → k < length (all_slots (minis cs)) → (p : SlotPlace) × (place_number cs k ≡ Some p) × (p.addr ≡ address_number cs k)
address_met cs k h =
    let s : IsNumbered (minis cs) (address_number cs k) = numbered (minis cs) k h in (
      nth_place cs s.mini s.nth,
      ap (place_at cs) s.address_is ∙ places_are_found cs s.mini s.nth s.mini_known s.nth_known,
      sym s.address_is,
    )

pub numbers_are_apart : NumbersAreApart
numbers_are_apart cs j k h i e = at (cases_lt j k) (cases_lt k j)
  where
    same : address_number cs j ≡ address_number cs k
    same =
        let a = address_met cs j h in
        let b = address_met cs k i in
        sym a.2 ∙ ap (λ (p : SlotPlace). p.addr) (same_Some a.0 b.0 (sym a.1 ∙ e ∙ b.1)) ∙ b.2

    rises : Rises heap_from (heap_from + bytes_of (minis cs)) (all_slots (minis cs))
    rises = chain_rises heap_from (minis cs) (minis_chain cs)

    at : (j < k) ⊎ (k ≤ j) → (k < j) ⊎ (j ≤ k) → j ≡ k
    at (inl p) q = absurd (omega (arith, same, rising_apart heap_from (heap_from + bytes_of (minis cs)) (all_slots (minis cs)) j k rises p i))
    at (inr p) (inl q) = absurd (omega (arith, same, rising_apart heap_from (heap_from + bytes_of (minis cs)) (all_slots (minis cs)) k j rises q h))
    at (inr p) (inr q) = omega (arith, p, q)
