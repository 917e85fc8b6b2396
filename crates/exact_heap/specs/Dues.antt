-- When objects are released (docs/heap.md, "After placement" and "Free").
use Rattle.std.specs.Prelude.{◌≡◌, ℕ, ◌+◌, ◌^◌, ◌<◌, ◌≤◌, true, slice_get, None, Some}
use Rattle.exact_heap.specs.History.{ObjectState, Owned, Deferred, Released, Object, History, no_history, slot_of, address_of, holds_slot, clock_of}
use Rattle.exact_heap.specs.Owners.{owner_of}
use Rattle.exact_heap.specs.Placing.{HeapState, Rules}
use Rattle.exact_heap.specs.Calls.{malloc, memalign, calloc, free, realloc}
use Rattle.exact_heap.specs.Lawful.{IsLawful}
use Rattle.exact_heap.specs.Laws.{HoldsAt}

-- a deferred object is due later, and a released one was due by then
abbrev pub IsDue : (clock : ℕ) → ObjectState → Type 0
IsDue clock Owned = Unit {0}
IsDue clock (Deferred due) = clock < due
IsDue clock (Released due) = due ≤ clock

-- every object is so, and none holds the slot of one that was released at the present clock
pub record KeepsDues (h : History) : Type 0 where
  pub dues : (number : ℕ) (o : Object) → slice_get h.objects number ≡ Some o → IsDue (clock_of h) o.state
  pub free : (i j : ℕ) (o p : Object) → slice_get h.objects i ≡ Some o → slice_get h.objects j ≡ Some p → holds_slot o ≡ true → p.state ≡ Released (clock_of h) → slot_of o ≡ slot_of p → ⊥

-- so no object holds an address of such a slot
abbrev pub ReleasedSlotsAreFree : Type 0
ReleasedSlotsAreFree =
    (h : History) (i j address : ℕ) (o : Object) → IsLawful h → KeepsDues h → slice_get h.objects j ≡ Some o → o.state ≡ Released (clock_of h) → slot_of o ≤ address → address < slot_of o + 2 ^ o.class → HoldsAt h i address → ⊥

-- and its last object's address has no owner
abbrev pub ReleasedHaveNone : Type 0
ReleasedHaveNone = (h : History) (number : ℕ) (o : Object) → IsLawful h → KeepsDues h → slice_get h.objects number ≡ Some o → o.state ≡ Released (clock_of h) → owner_of h.objects (address_of o) ≡ None

abbrev pub CallKeepsDues : (HeapState → History) → Type 0
CallKeepsDues call = (s : HeapState) → IsLawful s.history → KeepsDues s.history → KeepsDues (call s)

abbrev pub NewHeapKeepsDues : Type 0
NewHeapKeepsDues = (seed : ℕ) → KeepsDues (no_history seed)

abbrev pub MallocKeepsDues : Type 0
MallocKeepsDues = (rules : Rules) (size site : ℕ) → CallKeepsDues (λ s. (malloc rules size site s).state.history)

abbrev pub MemalignKeepsDues : Type 0
MemalignKeepsDues = (rules : Rules) (align size site : ℕ) → CallKeepsDues (λ s. (memalign rules align size site s).state.history)

abbrev pub CallocKeepsDues : Type 0
CallocKeepsDues = (rules : Rules) (count each site : ℕ) → CallKeepsDues (λ s. (calloc rules count each site s).state.history)

abbrev pub FreeKeepsDues : Type 0
FreeKeepsDues = (rules : Rules) (address site : ℕ) → CallKeepsDues (λ s. (free rules address site s).history)

abbrev pub ReallocKeepsDues : Type 0
ReallocKeepsDues = (rules : Rules) (old size site : ℕ) → CallKeepsDues (λ s. (realloc rules old size site s).state.history)
