-- Placement and releases keep a history lawful.
use Rattle.std.proofs.Common.{◌≡◌, ℕ, zero, suc, ◌+◌, ◌-◌, ◌*◌, ◌%◌, ◌^◌, ◌<◌, ◌≤◌, refl, ap, sym, ◌∙◌, subst, Bool, true, false, cond, ◌&&◌, ◌||◌, ◌⊎◌, inl, inr, arith, nat_eq, nat_le, max, List, [], ◌∷◌, map, Result, Ok, Err}
use Rattle.std.specs.List.{AllByRecursion}
use Rattle.std.specs.Ordering.{nat_cmp}
use Rattle.std.specs.FinSet.{FinSet, contains}
use Rattle.std.proofs.lemmas.Bool.{true≢false, false_from_ne_true, leb-true}
use Rattle.std.proofs.lemmas.Nat.{pow-add, pow_pos}
use Rattle.size_class.specs.Classes.{class_from, class_of}
use Rattle.patch_table.specs.Table.{value_at}
use Rattle.miniheap.specs.declared.place.SlotState.TheVariants.{Free, Held, Bad}
use Rattle.miniheap.specs.Slots.{Slots, state_of, IsSlotIn, IsFreeSlot, IsInOrder}
use Rattle.exact_heap.proofs.Alignments.{exponent_below, rounded_is, rounded_below}
use Rattle.exact_heap.proofs.SlotStates.{not_held}
use Rattle.exact_heap.specs.declared.parts.Request.{Request}
use Rattle.exact_heap.specs.declared.signal.HeapRefusal.{HeapRefusal}
use Rattle.exact_heap.specs.History.{ObjectState, Owned, Deferred, Released, Object, slot_of, is_held, holds_slot, held_by, slots_of, clock_of}
use Rattle.exact_heap.specs.Placing.{HeapState, Rules, reach_of, front_in, front_of, request, search, new_object, placed, after_due, released_object, release_due, settled, place}
use Rattle.exact_heap.specs.Calls.{free}
use Rattle.exact_heap.specs.Lawful.{IsAlignment, Fits, IsPlaced, IsEarlier, AreApart, IsLawful}
use Rattle.exact_heap.specs.Laws.{IsClass}
use Rattle.miniheap.specs.Laws.{SlotLaws}
use Rattle.exact_heap.proofs.SlotPlaces.{held_state, not_held_bad, slot_in_from, slot_in_is, held_ordered}
use Rattle.exact_heap.proofs.Objects.{any_held, contains-held, not_held_none, held_by-push, apart_push, each_push}
use Rattle.exact_heap.proofs.Timed.{timed_more, timed_all_released}
use Rattle.exact_heap.proofs.Turns.{free_slot_in}
use Rattle.exact_heap.proofs.LawsSearch.{FindsWhole, search_whole}
use Rattle.exact_heap.proofs.LawsQuiet.{new_has_slot}

-- ---- slots that are held no more

-- slots stay in order where no more of them are held
pub fewer_ordered : (s : Slots) (held : FinSet nat_cmp) → ((a : ℕ) → contains held a ≡ true → contains s.held a ≡ true) → IsInOrder s → IsInOrder (record s { held = held })
fewer_ordered s held fewer ok = record {
  in_classes = ok.in_classes;
  in_limit = ok.in_limit;
  held_slots = λ a h. slot_in_from after a Held (slot_in_is s a Held (ok.held_slots a (fewer a h))).0 (held_state after a h);
  bad_slots = λ a b. let k = slot_in_is s a Bad (ok.bad_slots a b) in slot_in_from after a Bad k.0 (bad a b k.1);
}
  where
    after : Slots
    after = record s { held = held }

    bad : (a : ℕ) → contains s.bad a ≡ true → state_of s a ≡ Bad → state_of after a ≡ Bad
    bad a b e =
        let h : contains held a ≡ false = false_from_ne_true (contains held a) (λ k. true≢false (sym (fewer a k) ∙ not_held_bad s a e)) in
        ap (λ (x : Bool). cond x Held (cond (contains s.bad a) Bad Free)) h ∙ ap (λ (x : Bool). cond x Bad Free) b

pub or_either : (b c : Bool) → (b || c) ≡ true → (b ≡ true) ⊎ (c ≡ true)
or_either true c e = inl refl
or_either false c e = inr e

pub or_left : (b c : Bool) → b ≡ true → (b || c) ≡ true
or_left b c e = ap (λ (x : Bool). x || c) e

pub or_right : (b c : Bool) → c ≡ true → (b || c) ≡ true
or_right true c e = refl
or_right false c e = e

and_left_of : (b c d : Bool) → (b ≡ true → d ≡ true) → (b && c) ≡ true → (d && c) ≡ true
and_left_of true c d f e = ap (λ (x : Bool). x && c) (f refl) ∙ e
and_left_of false c d f e = absurd (true≢false (sym e))

-- ---- an object more

pub lawful_placed : (r : Request) (zeroed : Bool) (slot : ℕ) (s : HeapState) → Fits r → IsFreeSlot (slots_of s.history) r.class slot → IsLawful s.history → IsLawful (placed r zeroed slot s).history
lawful_placed r zeroed slot s fit free l = record {
  in_order = subst (λ (x : FinSet nat_cmp). IsInOrder (record { classes = s.history.classes; held = x; bad = s.history.bad })) (sym (held_by-push s.history.objects (new_object r slot) refl)) (held_ordered (slots_of s.history) slot l.in_order here);
  placed = each_push (IsPlaced s.history.classes) s.history.objects (new_object r slot) l.placed (record { slot = new_has_slot s r slot free; room = fit.room });
  apart = apart_push s.history.objects (new_object r slot) (not_held_none slot s.history.objects (sym (contains-held s.history.objects slot) ∙ not_held (slots_of s.history) slot (slot_in_is (slots_of s.history) slot Free here).1)) l.apart;
  timed = timed_more s.history.objects (new_object r slot) (λ n. record { no_site = refl; no_clock = refl }) l.timed;
  signals = l.signals;
}
  where
    here : IsSlotIn (slots_of s.history) slot Free
    here = free_slot_in (slots_of s.history) r.class slot free

-- ---- releases

pub still_held : (clock : ℕ) (x : ObjectState) → is_held (after_due clock x) ≡ true → is_held x ≡ true
still_held clock Owned e = refl
still_held clock (Deferred due) e = refl
still_held clock (Released due) e = e

fewer_held : (clock a : ℕ) (os : List Object) → any_held a (map (released_object clock) os) ≡ true → any_held a os ≡ true
fewer_held clock a [] e = e
fewer_held clock a (o ∷ os) e = at (or_either (is_held (after_due clock o.state) && nat_eq (slot_of o) a) (any_held a (map (released_object clock) os)) e) (fewer_held clock a os)
  where
    at : ((is_held (after_due clock o.state) && nat_eq (slot_of o) a) ≡ true) ⊎ (any_held a (map (released_object clock) os) ≡ true) → (any_held a (map (released_object clock) os) ≡ true → any_held a os ≡ true) → any_held a (o ∷ os) ≡ true
    at (inl k) r = or_left (holds_slot o && nat_eq (slot_of o) a) (any_held a os) (and_left_of (is_held (after_due clock o.state)) (nat_eq (slot_of o) a) (holds_slot o) (still_held clock o.state) k)
    at (inr k) r = or_right (holds_slot o && nat_eq (slot_of o) a) (any_held a os) (r k)

each_released : (classes : List ℕ) (clock : ℕ) (os : List Object) → AllByRecursion (IsPlaced classes) os → AllByRecursion (IsPlaced classes) (map (released_object clock) os)
each_released classes clock [] h = tt
each_released classes clock (o ∷ os) h = (record { slot = h.0.slot; room = h.0.room }, each_released classes clock os h.1)

pub not_after : (clock : ℕ) (x : ObjectState) → is_held x ≡ false → is_held (after_due clock x) ≡ false
not_after clock x e = false_from_ne_true (is_held (after_due clock x)) (λ k. true≢false (sym (still_held clock x k) ∙ e))

pub apart_released : (clock : ℕ) (os : List Object) → AreApart os → AreApart (map (released_object clock) os)
apart_released clock [] h = tt
apart_released clock (o ∷ os) h = (later os h.0, apart_released clock os h.1)
  where
    later : (ys : List Object) → AllByRecursion (IsEarlier o) ys → AllByRecursion (IsEarlier (released_object clock o)) (map (released_object clock) ys)
    later [] k = tt
    later (y ∷ ys) k = (λ q. not_after clock o.state (k.0 q), later ys k.1)

pub lawful_released : (s : HeapState) → IsLawful s.history → IsLawful (release_due s).history
unfolding release_due
lawful_released s l = record {
  in_order = fewer_ordered (slots_of s.history) (held_by (map (released_object (clock_of s.history)) s.history.objects))
      (λ a h. contains-held s.history.objects a ∙ fewer_held (clock_of s.history) a s.history.objects (sym (contains-held (map (released_object (clock_of s.history)) s.history.objects) a) ∙ h)) l.in_order;
  placed = each_released s.history.classes (clock_of s.history) s.history.objects l.placed;
  apart = apart_released (clock_of s.history) s.history.objects l.apart;
  timed = timed_all_released (clock_of s.history) s.history.objects l.timed;
  signals = l.signals;
}

-- ---- placement

settled_lawful : (r : Request) (zeroed : Bool) (s : HeapState) (a : Result ℕ HeapRefusal) → Fits r → IsLawful s.history → FindsWhole r.class s a → IsLawful (settled r zeroed s a).state.history
settled_lawful r zeroed s (Err refusal) fit l k = l
settled_lawful r zeroed s (Ok slot) fit l k = lawful_released (placed r zeroed slot s) (lawful_placed r zeroed slot s fit k.free l)

pub place_lawful : SlotLaws → (r : Request) (zeroed : Bool) (s : HeapState) → Fits r → IsLawful s.history → IsLawful (place r zeroed s).state.history
unfolding place
place_lawful laws r zeroed s fit l = let e = search_whole laws r.class s l fit.class in settled_lawful r zeroed (search r.class s).state (search r.class s).answer fit e.lawful e.ends

-- the class of any need is one of the classes, and holds the need or is the last
class_from_low : (need c n : ℕ) → (c ≤ class_from need c n) × (class_from need c n ≤ c + n) × ((need ≤ 2 ^ class_from need c n) ⊎ (class_from need c n ≡ c + n))
unfolding class_from
class_from_low need c zero = (omega arith, omega arith, inr (let e : c ≡ c + 0 = omega arith in e))
class_from_low need c (suc n) = at (nat_le need (2 ^ c)) refl (class_from_low need (suc c) n)
  where
    further : (need ≤ 2 ^ class_from need (suc c) n) ⊎ (class_from need (suc c) n ≡ suc c + n) → (need ≤ 2 ^ class_from need (suc c) n) ⊎ (class_from need (suc c) n ≡ c + suc n)
    further (inl k) = inl k
    further (inr k) = inr (omega (arith, k))

    at : (t : Bool) → nat_le need (2 ^ c) ≡ t → (suc c ≤ class_from need (suc c) n) × (class_from need (suc c) n ≤ suc c + n) × ((need ≤ 2 ^ class_from need (suc c) n) ⊎ (class_from need (suc c) n ≡ suc c + n))
        → (c ≤ cond t c (class_from need (suc c) n)) × (cond t c (class_from need (suc c) n) ≤ c + suc n) × ((need ≤ 2 ^ cond t c (class_from need (suc c) n)) ⊎ (cond t c (class_from need (suc c) n) ≡ c + suc n))
    at true e r = (omega arith, omega arith, inl (leb-true need (2 ^ c) e))
    at false e r = (omega (arith, r.0), omega (arith, r.1), further r.2)

-- so it has at least as many bytes as it was to have, or as many as any
class_wide : (need : ℕ) → IsClass (class_of need) × ((need ≤ 2 ^ class_of need) ⊎ (class_of need ≡ 22))
class_wide need = let k = class_from_low (max 1 need) 4 18 in ((k.0, k.1), at k.2)
  where
    at : (max 1 need ≤ 2 ^ class_of need) ⊎ (class_of need ≡ 4 + 18) → (need ≤ 2 ^ class_of need) ⊎ (class_of need ≡ 22)
    at (inl k) = inl (omega (arith, k))
    at (inr k) = inr (omega (arith, k))

-- a site's front is bounded
front_low : (rules : Rules) (site : ℕ) → front_in rules site ≤ 2 ^ 16
front_low rules site = omega arith

-- and stays so where it is rounded up
pub front_fits : (rules : Rules) (align site : ℕ) → IsAlignment align → (front_of rules align site % align ≡ 0) × (front_of rules align site ≤ 2 ^ 16)
front_fits rules align site ok =
    let pos : 0 < align = omega (arith, ok.low) in
    let k = rounded_is (front_in rules site) align pos in
    let small : ok.power.0 ≤ 16 = exponent_below ok.power.0 16 (omega (arith, ok.power.1, ok.high)) in
    let whole : 2 ^ (16 - ok.power.0) * align ≡ 2 ^ 16 =
    ap (λ (x : ℕ). 2 ^ (16 - ok.power.0) * x) ok.power.1 ∙ sym (pow-add 2 (16 - ok.power.0) ok.power.0) ∙ ap (λ (x : ℕ). 2 ^ x) (let e : 16 - ok.power.0 + ok.power.0 ≡ 16 = omega (arith, small) in e) in
    (k.whole, omega (arith, whole, rounded_below (front_in rules site) align (front_of rules align site) (2 ^ (16 - ok.power.0)) k (omega (arith, whole, front_low rules site)) pos))

pub request_fits : (rules : Rules) (align size site : ℕ) → IsAlignment align → size ≤ 2 ^ 20 → Fits (request rules align size site)
request_fits rules align size site ok small =
    let front = front_fits rules align site ok in
    let near = class_wide (size + value_at rules.patches.pads site) in
    let k = class_wide (max align (front_of rules align site + reach_of rules size site)) in
    let reach : max 1 size ≤ reach_of rules size site = reaches near.1 in
    record {
      class = k.0;
      room = record {
        fits = fits front.1 reach k.1;
        size_fits = small;
        aligned = ok;
        alignment_fits = holds k.1;
        front_aligned = front.0;
        front_fits = front.1;
      };
    }
  where
    reaches : (size + value_at rules.patches.pads site ≤ reach_of rules size site) ⊎ (class_of (size + value_at rules.patches.pads site) ≡ 22) → max 1 size ≤ reach_of rules size site
    reaches (inl k) = omega (arith, k, pow_pos (class_of (size + value_at rules.patches.pads site)))
    reaches (inr k) = omega (arith, ap (λ (c : ℕ). 2 ^ c) k, small)

    fits : front_of rules align site ≤ 2 ^ 16 → max 1 size ≤ reach_of rules size site
        → (max align (front_of rules align site + reach_of rules size site) ≤ 2 ^ (request rules align size site).class) ⊎ ((request rules align size site).class ≡ 22)
        → front_of rules align site + max 1 size ≤ 2 ^ (request rules align size site).class
    fits low reach (inl k) = omega (arith, reach, k)
    fits low reach (inr k) = omega (arith, low, ap (λ (c : ℕ). 2 ^ c) k, small)

    holds : (max align (front_of rules align site + reach_of rules size site) ≤ 2 ^ (request rules align size site).class) ⊎ ((request rules align size site).class ≡ 22) → align ≤ 2 ^ (request rules align size site).class
    holds (inl k) = omega (arith, k)
    holds (inr k) = omega (arith, ok.high, ap (λ (c : ℕ). 2 ^ c) k)
