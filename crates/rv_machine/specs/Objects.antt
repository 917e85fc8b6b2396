-- When the objects of a heap's history are those of the infinite heap, and where they lie: docs/infinite-heap.md, "Layouts".
use Rattle.std.specs.Prelude.{◌≡◌, ℕ, ◌<◌, ◌≤◌, ◌^◌, false, List, length, slice_get}
use Rattle.std.specs.declared.option.Option.{Option}
use Rattle.std.specs.declared.option.Option.TheVariants.{Some, None}
use Rattle.infinite_heap.specs.Layout.{Layout}
use Rattle.infinite_heap.specs.Objects as inf
use Rattle.infinite_heap.specs.Objects.{Freed, object_at}
use Rattle.infinite_heap.specs.Region.{least_alignment}
use Rattle.miniheap.specs.Slots.{end_of}
use Rattle.exact_heap.specs.History.{ObjectState, Owned, Deferred, Released, Object, History, slot_of, address_of, slots_of, clock_of, is_owned, holds_slot}

-- what an object of that number has, or what is said where there is none
abbrev pub of_object : {A : Type 0} → (Object → A) → A → Option Object → A
of_object f none (Some o) = f o
of_object f none None = none

-- where a history's objects lie
abbrev pub layout_of : History → Layout
layout_of h = record {
  count = length h.objects;
  at = λ o. of_object address_of 0 (slice_get h.objects o);
  align = λ o. of_object (λ object. object.alignment) least_alignment (slice_get h.objects o);
  slot = λ o. of_object slot_of 0 (slice_get h.objects o);
  span = λ o. of_object (λ object. 2 ^ object.class) 0 (slice_get h.objects o);
  held = λ o. of_object holds_slot false (slice_get h.objects o);
  owned = λ o. of_object (λ object. is_owned object.state) false (slice_get h.objects o);
  top = end_of (slots_of h);
}

-- a freed object is deferred exactly while the clock is below its due
abbrev pub IsKept : (clock : ℕ) → ObjectState → Type 0
IsKept clock Owned = ⊥
IsKept clock (Deferred due) = clock < due
IsKept clock (Released due) = due ≤ clock

-- an object is owned exactly where it isn't freed
abbrev pub FreeMatches : (clock : ℕ) → Object → Option Freed → Type 0
FreeMatches clock o None = o.state ≡ Owned
FreeMatches clock o (Some freed) = (o.free_site ≡ freed.site) × (o.freed ≡ freed.clock) × IsKept clock o.state

pub record ObjectMatches (clock : ℕ) (o : Object) (other : inf.Object) : Type 0 where
  pub size : o.size ≡ other.size
  pub alignment : o.alignment ≡ other.alignment
  pub site : o.site ≡ other.site
  pub free : FreeMatches clock o other.freed

-- the objects of a history are those of the infinite heap, with the same numbers
pub record ObjectsMatch (h : History) (objects : List inf.Object) : Type 0 where
  pub count : length h.objects ≡ length objects
  pub each : (n : ℕ) (o : Object) → slice_get h.objects n ≡ Some o → ObjectMatches (clock_of h) o (object_at objects n)
