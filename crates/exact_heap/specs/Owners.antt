-- Who has, or had, a slot (docs/heap.md, "History").
use Rattle.std.specs.Prelude.{ℕ, ◌+◌, ◌==◌, ◌&&◌, Bool, List, [], ◌∷◌, Option, Some, None, if◌then◌else◌}
use Rattle.exact_heap.specs.History.{Object, slot_of, address_of, is_owned}

-- an object and its number
pub record Owner : Type 0 where
  pub number : ℕ
  pub object : Object

abbrev pub or_this : Option Owner → Option Owner → Option Owner
or_this None other = other
or_this (Some owner) other = Some owner

-- the last object that passes a test, the first of the list having a number
abbrev pub last_from : (Object → Bool) → (number : ℕ) → List Object → Option Owner
last_from test number [] = None
last_from test number (o ∷ os) = or_this (last_from test (number + 1) os) (if test o then Some (record { number = number; object = o }) else None)

abbrev pub has_slot : ℕ → Object → Bool
has_slot slot o = slot_of o == slot

abbrev pub is_owned_at : ℕ → Object → Bool
is_owned_at address o = address_of o == address && is_owned o.state

-- the last owner of the slot at an address
unfoldable pub last_owner : List Object → (slot : ℕ) → Option Owner
last_owner objects slot = last_from (has_slot slot) 0 objects

-- the owned object at an address, of which there is one at most
unfoldable pub owner_of : List Object → (address : ℕ) → Option Owner
owner_of objects address = last_from (is_owned_at address) 0 objects

-- one object changed, by its number
abbrev pub changed_from : (Object → Object) → (number : ℕ) → (from : ℕ) → List Object → List Object
changed_from f number from [] = []
changed_from f number from (o ∷ os) = if from == number then f o ∷ os else o ∷ changed_from f number (from + 1) os

unfoldable pub changed_at : (Object → Object) → (number : ℕ) → List Object → List Object
changed_at f number objects = changed_from f number 0 objects
