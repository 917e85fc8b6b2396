-- What is true of every history (docs/heap.md, "What always holds").
use Rattle.std.specs.Prelude.{◌≡◌, ℕ, ◌+◌, ◌%◌, ◌^◌, ◌<◌, ◌≤◌, max, Bool, true, false, List, [], ◌∷◌, length, IsSomeAnd, if◌then◌else◌}
use Rattle.std.specs.Int.{IsPowerOfTwo}
use Rattle.std.specs.List.{AllByRecursion}
use Rattle.std.specs.FinSet.{empty, len}
use Rattle.size_class.specs.Classes.{IsClass}
use Rattle.miniheap.specs.Slots.{Slots, slot_at, IsInOrder}
use Rattle.exact_heap.specs.declared.parts.Request.{Request}
use Rattle.exact_heap.specs.History.{Object, History, slot_of, is_owned, holds_slot, slots_of, clock_of}

-- the slots of a heap as places alone
abbrev pub places_of : List ℕ → Slots
places_of classes = record { classes = classes; held = empty; bad = empty }

-- an alignment that objects have
pub record IsAlignment (a : ℕ) : Type 0 where
  pub power : IsPowerOfTwo a
  pub low : 16 ≤ a
  pub high : a ≤ 4096

-- an object of that alignment has its place in the slots of a class
pub record HasRoom (class front alignment size : ℕ) : Type 0 where
  pub fits : front + max 1 size ≤ 2 ^ class
  pub size_fits : size ≤ 2 ^ 20
  pub aligned : IsAlignment alignment
  pub alignment_fits : alignment ≤ 2 ^ class
  pub front_aligned : front % alignment ≡ 0
  pub front_fits : front ≤ 2 ^ 16

-- what is asked for fits its class
pub record Fits (r : Request) : Type 0 where
  pub class : IsClass r.class
  pub room : HasRoom r.class r.front r.alignment r.size

-- the object's slot is a slot of its class, and holds it
pub record IsPlaced (classes : List ℕ) (o : Object) : Type 0 where
  pub slot : IsSomeAnd (slot_at (places_of classes) (slot_of o)) (λ t. (t.addr ≡ slot_of o) × (t.class ≡ o.class))
  pub room : HasRoom o.class o.front o.alignment o.size

-- an earlier owner of a slot has released it
abbrev pub IsEarlier : (o : Object) → (later : Object) → Type 0
IsEarlier o later = slot_of o ≡ slot_of later → holds_slot o ≡ false

abbrev pub AreApart : List Object → Type 0
AreApart [] = Unit {0}
AreApart (o ∷ os) = AllByRecursion (IsEarlier o) os × AreApart os

-- an owned object has neither a site nor a clock of a free
pub record IsUnfreed (o : Object) : Type 0 where
  pub no_site : o.free_site ≡ 0
  pub no_clock : o.freed ≡ 0

-- the object of that number was freed after it was placed, and not after this clock
pub record WasFreed (clock number : ℕ) (o : Object) : Type 0 where
  pub after : number < o.freed
  pub by_now : o.freed ≤ clock

abbrev pub IsTimedBy : (owned : Bool) → (clock number : ℕ) → Object → Type 0
IsTimedBy true clock number o = IsUnfreed o
IsTimedBy false clock number o = WasFreed clock number o

abbrev pub IsTimed : (clock number : ℕ) → Object → Type 0
IsTimed clock number o = IsTimedBy (is_owned o.state) clock number o

-- the first of them has that number
abbrev pub AreTimed : (clock number : ℕ) → List Object → Type 0
AreTimed clock number [] = Unit {0}
AreTimed clock number (o ∷ os) = IsTimed clock number o × AreTimed clock (number + 1) os

pub record IsLawful (h : History) : Type 0 where
  pub in_order : IsInOrder (slots_of h)
  pub placed : AllByRecursion (IsPlaced h.classes) h.objects
  pub apart : AreApart h.objects
  pub timed : AreTimed (clock_of h) 0 h.objects
  -- each signal before the end has its bad slot
  pub signals : length h.signals ≤ len h.bad + (if h.ended then 2 ^ 31 else 0)
