-- Which object owns an address.
use Rattle.std.proofs.Common.{◌≡◌, ℕ, zero, suc, ◌+◌, ◌^◌, ◌<◌, ◌≤◌, refl, ap, sym, ◌∙◌, subst, Bool, true, cond, ◌&&◌, arith, List, [], ◌∷◌, ◌++◌, Option, Some, None, IsSomeAnd}
use Rattle.std.specs.Prelude.{slice_get}
use Rattle.std.proofs.lemmas.Bool.{true≢false, eq-eqb}
use Rattle.std.proofs.lemmas.Option.{same_Some}
use Rattle.miniheap.specs.Laws.{SlotLaws}
use Rattle.exact_heap.specs.History.{Owned, Object, History, slot_of, address_of, is_owned, is_held, holds_slot}
use Rattle.exact_heap.specs.Owners.{Owner, or_this, last_from, is_owned_at, owner_of}
use Rattle.exact_heap.specs.Lawful.{IsPlaced, IsLawful}
use Rattle.exact_heap.specs.Laws.{HoldsAt}
use Rattle.exact_heap.specs.Owned.{OwnsAt, OwnersOwn, OwnersAreFound, OthersHaveNone, NoneIsOwned, InnerHaveNone, ForeignHaveNone}
use Rattle.exact_heap.proofs.Addresses.{no_owner}
use Rattle.exact_heap.proofs.Numbers.{number_of}
use Rattle.exact_heap.proofs.LawsApart.{each_number, held_slots_are_apart}
use Rattle.exact_heap.proofs.LawsFreed.{IsOwner, owner_found}
use Rattle.exact_heap.proofs.LawsCopies.{owner_address}

pub owner_number : (os : List Object) (w : Owner) → IsOwner os w → slice_get os w.number ≡ Some w.object
owner_number os w k = ap (λ (xs : List Object). slice_get xs w.number) k.parts ∙ ap (slice_get (k.first ++ w.object ∷ k.last)) k.number ∙ number_of k.first w.object k.last

pub owners_own : OwnersOwn
owners_own h a w e = let k = owner_found h.objects a w e in record { found = owner_number h.objects w k; owned = k.owned; address_is = owner_address h.objects a w e }

-- an object holds each address of its slot
pub holds_at : (h : History) (number a : ℕ) (o : Object) → slice_get h.objects number ≡ Some o → holds_slot o ≡ true → slot_of o ≤ a → a < slot_of o + 2 ^ o.class → HoldsAt h number a
holds_at h number a o e ho lo hi = subst (λ (x : Option Object). IsSomeAnd x (λ p. (holds_slot p ≡ true) × (slot_of p ≤ a) × (a < slot_of p + 2 ^ p.class))) (sym e) (ho, lo, hi)

-- an owned one its address
owned_at : (h : History) (number a : ℕ) (o : Object) → IsLawful h → slice_get h.objects number ≡ Some o → o.state ≡ Owned → address_of o ≡ a → HoldsAt h number a
owned_at h number a o l e owned q =
    let k : IsPlaced h.classes o = each_number (IsPlaced h.classes) h.objects number o l.placed e in
    holds_at h number a o e (ap is_held owned) (omega (arith, q)) (omega (arith, q, k.room.fits))

-- where no object is found, none passes the test
none_passes : (test : Object → Bool) (n : ℕ) (os : List Object) (i : ℕ) (o : Object) → slice_get os i ≡ Some o → test o ≡ true → last_from test n os ≡ None → ⊥
none_passes test n [] i o e t q = absurd (cc)
none_passes test n (x ∷ os) zero o e t q = at (last_from test (n + 1) os) q
  where
    passes : test x ≡ true
    passes = ap test (same_Some x o e) ∙ t

    at : (w : Option Owner) → or_this w (cond (test x) (Some (record { number = n; object = x })) None) ≡ None → ⊥
    at None f = some_none (sym (ap (λ (b : Bool). cond b (Some (record { number = n; object = x })) None) passes) ∙ f)
      where
        some_none : {w : Owner} → Some w ≡ None → ⊥
        some_none e = cc
    at (Some w) f = cc
none_passes test n (x ∷ os) (suc i) o e t q = at (last_from test (n + 1) os) refl q (none_passes test (n + 1) os i o e t)
  where
    at : (w : Option Owner) → last_from test (n + 1) os ≡ w → or_this w (cond (test x) (Some (record { number = n; object = x })) None) ≡ None → (last_from test (n + 1) os ≡ None → ⊥) → ⊥
    at None g f again = again g
    at (Some w) g f again = cc

passes_test : (a : ℕ) (o : Object) → o.state ≡ Owned → address_of o ≡ a → is_owned_at a o ≡ true
passes_test a o owned q = ap (λ (b : Bool). b && is_owned o.state) (eq-eqb (address_of o) a q) ∙ ap is_owned owned

pub none_is_owned : NoneIsOwned
unfolding owner_of
none_is_owned h a number o none e owned q = none_passes (is_owned_at a) 0 h.objects number o e (passes_test a o owned q) none

pub others_have_none : OthersHaveNone
others_have_none h a none = no_owner h.objects a (λ w e. let k = owners_own h a w e in none w.number w.object k.found k.owned k.address_is)

-- the owner of an address is the object that holds it
owner_is : SlotLaws → (h : History) (a number : ℕ) (o : Object) (w : Owner) → IsLawful h → slice_get h.objects number ≡ Some o → HoldsAt h number a → OwnsAt h a w → (w.number ≡ number) × (w.object ≡ o)
owner_is laws h a number o w l e holds k =
    let same : w.number ≡ number = held_slots_are_apart laws h w.number number a l (owned_at h w.number a w.object l k.found k.owned k.address_is) holds in
    (same, same_Some w.object o (sym k.found ∙ ap (slice_get h.objects) same ∙ e))

pub owners_are_found : SlotLaws → OwnersAreFound
owners_are_found laws h number o l e owned = at (owner_of h.objects (address_of o)) refl
  where
    at : (x : Option Owner) → owner_of h.objects (address_of o) ≡ x → owner_of h.objects (address_of o) ≡ Some (record { number = number; object = o })
    at None q = absurd (none_is_owned h (address_of o) number o q e owned refl)
    at (Some w) q =
        let k = owner_is laws h (address_of o) number o w l e (owned_at h number (address_of o) o l e owned refl) (owners_own h (address_of o) w q) in
        q ∙ ap (λ (n : ℕ). Some (record { number = n; object = w.object })) k.0 ∙ ap (λ (x : Object). Some (record { number = number; object = x })) k.1

pub inner_have_none : SlotLaws → InnerHaveNone
inner_have_none laws h number a o l e ho lo hi other = no_owner h.objects a (λ w q.
    let k = owners_own h a w q in
    let same = owner_is laws h a number o w l e (holds_at h number a o e ho lo hi) k in
    true≢false (sym (passes_test a w.object k.owned k.address_is) ∙ ap (is_owned_at a) same.1 ∙ other))

pub foreign_have_none : ForeignHaveNone
foreign_have_none h a l none = no_owner h.objects a (λ w q. let k = owners_own h a w q in none w.number (owned_at h w.number a w.object l k.found k.owned k.address_is))
