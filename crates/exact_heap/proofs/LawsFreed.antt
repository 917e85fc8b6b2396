-- The free of an owned object keeps a history lawful.
use Rattle.std.proofs.Common.{◌≡◌, ℕ, ◌+◌, ◌<◌, refl, ap, sym, ◌∙◌, subst, Bool, true, false, cond, ◌&&◌, ◌||◌, ◌⊎◌, inl, inr, arith, nat_eq, List, ◌∷◌, ◌++◌, length, Some}
use Rattle.std.specs.List.{AllByRecursion}
use Rattle.std.proofs.lemmas.Bool.{true≢false, and_parts}
use Rattle.exact_heap.specs.History.{ObjectState, Owned, Deferred, Released, Object, History, slot_of, address_of, is_owned, is_held, holds_slot, held_by, slots_of, clock_of}
use Rattle.exact_heap.specs.Owners.{Owner, is_owned_at, owner_of, changed_at}
use Rattle.exact_heap.specs.Placing.{HeapState, Rules, place}
use Rattle.exact_heap.specs.Freeing.{neighbours_checked, freed_object, deferral_of, object_freed, owner_freed}
use Rattle.exact_heap.specs.Lawful.{IsPlaced, AreApart, IsTimedBy, IsTimed, IsLawful}
use Rattle.miniheap.specs.Laws.{SlotLaws}
use Rattle.exact_heap.proofs.Objects.{any_held, contains-held, any_held-append, apart_changed, each_changed, last_splits, changed_at-is}
use Rattle.exact_heap.proofs.Timed.{timed_change, freed_in_time}
use Rattle.exact_heap.proofs.LawsPlacing.{fewer_ordered, or_either, or_left, or_right}
use Rattle.exact_heap.proofs.LawsNeighbours.{lawful_neighbours}

-- ---- the free of an owned object

pub record IsOwner (os : List Object) (w : Owner) : Type 0 where
  pub first : List Object
  pub last : List Object
  pub parts : os ≡ first ++ w.object ∷ last
  pub number : w.number ≡ length first
  pub owned : w.object.state ≡ Owned

owned_is : (x : ObjectState) → is_owned x ≡ true → x ≡ Owned
owned_is Owned e = refl
owned_is (Deferred due) e = absurd (true≢false (sym e))
owned_is (Released due) e = absurd (true≢false (sym e))

pub owner_found : (os : List Object) (a : ℕ) (w : Owner) → owner_of os a ≡ Some w → IsOwner os w
unfolding owner_of
owner_found os a w e =
    let k = last_splits (is_owned_at a) 0 os w e in
    record { first = k.0.before; last = k.0.after; parts = k.0.parts; number = omega (arith, k.0.number); owned = owned_is w.object.state (and_parts (nat_eq (address_of w.object) a) (is_owned w.object.state) k.1).1 }

-- the objects after it
pub freed_objects : (clock deferral site : ℕ) (os : List Object) (w : Owner) (k : IsOwner os w) → changed_at (freed_object clock deferral site) w.number os ≡ k.first ++ freed_object clock deferral site w.object ∷ k.last
freed_objects clock deferral site os w k = ap (changed_at (freed_object clock deferral site) w.number) k.parts ∙ changed_at-is (freed_object clock deferral site) w.number k.first w.object k.last k.number

-- an object that is changed in its place and holds no other slot
pub fewer_changed : (first : List Object) (o p : Object) (last : List Object) (a : ℕ) → slot_of p ≡ slot_of o → holds_slot o ≡ true → any_held a (first ++ p ∷ last) ≡ true → any_held a (first ++ o ∷ last) ≡ true
fewer_changed first o p last a s h e = any_held-append a first (o ∷ last) ∙ at (or_either (any_held a first) (any_held a (p ∷ last)) (sym (any_held-append a first (p ∷ last)) ∙ e))
  where
    here : ((holds_slot p && nat_eq (slot_of p) a) ≡ true) ⊎ (any_held a last ≡ true) → any_held a (o ∷ last) ≡ true
    here (inl k) =
        let q : nat_eq (slot_of o) a ≡ true = ap (λ (x : ℕ). nat_eq x a) (sym s) ∙ (and_parts (holds_slot p) (nat_eq (slot_of p) a) k).1 in
        or_left (holds_slot o && nat_eq (slot_of o) a) (any_held a last) (ap (λ (b : Bool). b && nat_eq (slot_of o) a) h ∙ q)
    here (inr k) = or_right (holds_slot o && nat_eq (slot_of o) a) (any_held a last) k

    at : (any_held a first ≡ true) ⊎ (any_held a (p ∷ last) ≡ true) → (any_held a first || any_held a (o ∷ last)) ≡ true
    at (inl k) = or_left (any_held a first) (any_held a (o ∷ last)) k
    at (inr k) = or_right (any_held a first) (any_held a (o ∷ last)) (here (or_either (holds_slot p && nat_eq (slot_of p) a) (any_held a last) k))

lawful_changed : (h : History) (first : List Object) (o p : Object) (last : List Object) → h.objects ≡ first ++ o ∷ last → slot_of p ≡ slot_of o → holds_slot o ≡ true → (IsPlaced h.classes o → IsPlaced h.classes p)
    → (IsTimed (clock_of h) (length first) o → IsTimed (clock_of h) (length first) p) → IsLawful h → IsLawful (record h { objects = first ++ p ∷ last })
lawful_changed h first o p last parts s holds place time l = record {
  in_order = fewer_ordered (slots_of h) (held_by (first ++ p ∷ last))
      (λ a e. contains-held h.objects a ∙ ap (any_held a) parts ∙ fewer_changed first o p last a s holds (sym (contains-held (first ++ p ∷ last) a) ∙ e)) l.in_order;
  placed = each_changed (IsPlaced h.classes) first o p last place (subst (AllByRecursion (IsPlaced h.classes)) parts l.placed);
  apart = apart_changed first o p last s (λ e. absurd (true≢false (sym holds ∙ e))) (subst AreApart parts l.apart);
  timed = timed_change h.objects first o p last parts time l.timed;
  signals = l.signals;
}

freed_timed : (deferral site clock number : ℕ) (o : Object) → number < clock → IsTimed clock number (freed_object clock deferral site o)
freed_timed deferral site clock number o below = at (nat_eq deferral 0)
  where
    at : (b : Bool) → IsTimedBy (is_owned (cond b (Released clock) (Deferred (clock + deferral)))) clock number (freed_object clock deferral site o)
    at true = record { after = below; by_now = omega arith }
    at false = record { after = below; by_now = omega arith }

pub freed_lawful : (deferral site : ℕ) (w : Owner) (s : HeapState) → IsOwner s.history.objects w → IsLawful s.history → IsLawful (object_freed deferral site w s).history
freed_lawful deferral site w s k l =
    let p : Object = freed_object (clock_of s.history) deferral site w.object in
    subst (λ (os : List Object). IsLawful (record s.history { objects = os })) (sym (freed_objects (clock_of s.history) deferral site s.history.objects w k))
    (lawful_changed s.history k.first w.object p k.last k.parts refl (ap is_held k.owned) (λ q. record { slot = q.slot; room = q.room })
    (λ t. freed_timed deferral site (clock_of s.history) (length k.first) w.object (freed_in_time s.history.objects k.first w.object k.last k.parts)) l)

pub owner_freed_lawful : SlotLaws → (rules : Rules) (site : ℕ) (w : Owner) (s : HeapState) → IsOwner s.history.objects w → IsLawful s.history → IsLawful (owner_freed rules site w s).history
unfolding owner_freed
owner_freed_lawful laws rules site w s k l =
    let c = lawful_neighbours laws (slot_of w.object) s l in
    freed_lawful (deferral_of rules w.object site) site w (neighbours_checked (slot_of w.object) s) (subst (λ (os : List Object). IsOwner os w) (sym c.objects) k) c.lawful
