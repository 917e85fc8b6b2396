-- Which object owns an address (docs/heap.md, "History").
use Rattle.std.specs.Prelude.{◌≡◌, ℕ, ◌+◌, ◌^◌, ◌<◌, ◌≤◌, true, false, slice_get, Some, None}
use Rattle.exact_heap.specs.History.{Owned, Object, History, slot_of, address_of, holds_slot}
use Rattle.exact_heap.specs.Owners.{Owner, is_owned_at, owner_of}
use Rattle.exact_heap.specs.Lawful.{IsLawful}
use Rattle.exact_heap.specs.Laws.{HoldsAt}

-- the object of that number is owned, and has the address
pub record OwnsAt (h : History) (address : ℕ) (owner : Owner) : Type 0 where
  pub found : slice_get h.objects owner.number ≡ Some owner.object
  pub owned : owner.object.state ≡ Owned
  pub address_is : address_of owner.object ≡ address

-- the owner of an address does
abbrev pub OwnersOwn : Type 0
OwnersOwn = (h : History) (address : ℕ) (owner : Owner) → owner_of h.objects address ≡ Some owner → OwnsAt h address owner

-- an owned object is the owner of its address
abbrev pub OwnersAreFound : Type 0
OwnersAreFound = (h : History) (number : ℕ) (o : Object) → IsLawful h → slice_get h.objects number ≡ Some o → o.state ≡ Owned → owner_of h.objects (address_of o) ≡ Some (record { number = number; object = o })

-- an address has no owner exactly where no owned object has it
abbrev pub OthersHaveNone : Type 0
OthersHaveNone = (h : History) (address : ℕ) → ((number : ℕ) (o : Object) → slice_get h.objects number ≡ Some o → o.state ≡ Owned → address_of o ≡ address → ⊥) → owner_of h.objects address ≡ None

abbrev pub NoneIsOwned : Type 0
NoneIsOwned = (h : History) (address number : ℕ) (o : Object) → owner_of h.objects address ≡ None → slice_get h.objects number ≡ Some o → o.state ≡ Owned → address_of o ≡ address → ⊥

-- an address in a held slot has no owner where it isn't that of an owned object whose slot it is
abbrev pub InnerHaveNone : Type 0
InnerHaveNone =
    (h : History) (number address : ℕ) (o : Object) → IsLawful h → slice_get h.objects number ≡ Some o → holds_slot o ≡ true → slot_of o ≤ address → address < slot_of o + 2 ^ o.class → is_owned_at address o ≡ false
    → owner_of h.objects address ≡ None

-- and neither has an address in no held slot
abbrev pub ForeignHaveNone : Type 0
ForeignHaveNone = (h : History) (address : ℕ) → IsLawful h → ((number : ℕ) → HoldsAt h number address → ⊥) → owner_of h.objects address ≡ None
