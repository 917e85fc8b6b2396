-- Which object owns the address that a pointer is, and which addresses have no owner.
use Rattle.std.proofs.Common.{◌≡◌, ℕ, ◌+◌, ◌^◌, ◌<◌, ◌≤◌, ap, sym, ◌∙◌, subst, Bool, true, false, ◌&&◌, arith, nat_eq, List, length, Some, None}
use Rattle.std.specs.Prelude.{slice_get}
use Rattle.std.proofs.lemmas.Bool.{true≢false, ne_eqb, eqb-false}
use Rattle.std.proofs.lemmas.Bool.Decides.{nat_tests}
use Rattle.infinite_heap.specs.Layout.{IsIn, IsPlace, IsHarmlessUse, IsHarmlessFree, place}
use Rattle.infinite_heap.specs.Objects as obj
use Rattle.infinite_heap.specs.Objects.{object_at}
use Rattle.infinite_heap.specs.Region.{in_region}
use Rattle.exact_heap.specs.History.{Owned, Object, History, address_of, is_owned, slot_of, holds_slot, clock_of}
use Rattle.exact_heap.specs.Lawful.{IsLawful}
use Rattle.exact_heap.specs.Owned.{OwnersAreFound, OthersHaveNone, InnerHaveNone}
use Rattle.exact_heap.specs.Owners.{owner_of}
use Rattle.rv_machine.specs.Objects.{FreeMatches, ObjectsMatch, of_object, layout_of}
use Rattle.simulation.specs.Agreement.{HeapsAreLaidOut}
use Rattle.simulation.proofs.Laid.{numbered, known}

-- what the laws say of owners
pub record OwnerFacts : Type 0 where
  pub found : OwnersAreFound
  pub none : OthersHaveNone
  pub inner : InnerHaveNone

-- where the object of a pointer lies
pub record Pointed (h : History) (o : ℕ) : Type 0 where
  pub object : Object
  pub is : slice_get h.objects o ≡ Some object
  pub address : (layout_of h).at o ≡ address_of object
  pub low : address_of object < 2 ^ 31

pub pointed : HeapsAreLaidOut → (h : History) → IsLawful h → (o : ℕ) → o < length h.objects → Pointed h o
pointed laid h l o e =
    let f = numbered h.objects o e in
    let at : (layout_of h).at o ≡ address_of f.object = ap (of_object address_of 0) f.found in
    record { object = f.object; is = f.found; address = at; low = omega (arith, (laid h l).aligned.below o e, at) }

-- the object of a pointer to its beginning, which isn't freed, owns its address
pub owned_at : HeapsAreLaidOut → OwnerFacts → (h : History) (objects : List obj.Object) → IsLawful h → ObjectsMatch h objects → (o x : ℕ) → IsPlace (layout_of h) o 0 x → (object_at objects o).freed ≡ None
    → (f : Pointed h o) → owner_of h.objects x ≡ Some (record { number = o; object = f.object })
owned_at laid owners h objects l m o x is free f =
    let owned : f.object.state ≡ Owned = subst (FreeMatches (clock_of h) f.object) free (m.each o f.object f.is).free in
    let here : x ≡ address_of f.object = omega (arith, is.is, f.address, f.low) in
    ap (owner_of h.objects) here ∙ owners.found h o f.object l f.is owned

-- the address of an object that no owned object has
pub none_at : HeapsAreLaidOut → OwnerFacts → (h : History) → IsLawful h → (o x : ℕ) → IsPlace (layout_of h) o 0 x → IsHarmlessFree (layout_of h) o → owner_of h.objects x ≡ None
none_at laid owners h l o x is harmless =
    let f = pointed laid h l o is.known in
    let here : x ≡ address_of f.object = omega (arith, is.is, f.address, f.low) in
    owners.none h x (λ n p e owned at.
    harmless n (known h.objects n p e) (ap (of_object (λ (object : Object). is_owned object.state) false) e ∙ ap is_owned owned) (ap (of_object address_of 0) e ∙ at ∙ here ∙ sym f.address))

-- an address inside a held slot that isn't its object's
pub none_inside : HeapsAreLaidOut → OwnerFacts → (h : History) → IsLawful h → (o d x : ℕ) → IsPlace (layout_of h) o d x → nat_eq d 0 ≡ false → IsHarmlessUse (layout_of h) o d 1 → owner_of h.objects x ≡ None
none_inside laid owners h l o d x is apart harmless =
    let f = pointed laid h l o is.known in
    let other : d ≡ 0 → ⊥ = eqb-false d 0 apart in
    let inside : IsIn (layout_of h) o (place (layout_of h) o (d + 0)) = harmless.inside 0 (omega arith) in
    let same : place (layout_of h) o (d + 0) ≡ x = sym (is.is ∙ ap (place (layout_of h) o) (let e : d ≡ d + 0 = omega arith in e)) in
    let from : slot_of f.object ≤ x = omega (arith, inside.from, ap (of_object slot_of 0) f.is, same) in
    let span : (layout_of h).span o ≡ 2 ^ f.object.class = ap (of_object (λ (p : Object). 2 ^ p.class) 0) f.is in
    let to : x < slot_of f.object + 2 ^ f.object.class = omega (arith, inside.to, ap (of_object slot_of 0) f.is, same, span) in
    let elsewhere : address_of f.object ≡ x → ⊥ = λ e. omega (arith, e, is.is, is.fits, f.address, f.low, other) in
    owners.inner h o x f.object l f.is (sym (ap (of_object holds_slot false) f.is) ∙ harmless.held) from to
    (ap (λ (b : Bool). b && is_owned f.object.state) (ne_eqb (address_of f.object) x elsewhere))

-- a number outside the heap region
pub none_outside : HeapsAreLaidOut → OwnerFacts → (h : History) → IsLawful h → (x : ℕ) → in_region x ≡ false → owner_of h.objects x ≡ None
none_outside laid owners h l x out =
    owners.none h x (λ n p e owned at.
    let small : n < length h.objects = known h.objects n p e in
    let here : (layout_of h).at n ≡ x = ap (of_object address_of 0) e ∙ at in
    let above : 2 ^ 30 ≤ x = omega (arith, (laid h l).aligned.above n small, here) in
    let below : x < 2 ^ 31 = omega (arith, (laid h l).aligned.below n small, here) in
    let inside : in_region x ≡ true = grind (arith, nat_tests) in
    true≢false (sym inside ∙ out))
