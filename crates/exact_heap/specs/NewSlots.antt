-- The bytes of a new object's whole slot (docs/heap.md, "Placement").
use Rattle.std.specs.Prelude.{◌≡◌, ℕ, ◌+◌, ◌<◌, ◌≤◌, ◌==◌, min, Bool, true, false, Some, Ok}
use Rattle.exact_heap.specs.History.{clock_of}
use Rattle.exact_heap.specs.Owners.{Owner, owner_of}
use Rattle.exact_heap.specs.Placing.{HeapState, Rules}
use Rattle.exact_heap.specs.Calls.{malloc, memalign, calloc, realloc}
use Rattle.exact_heap.specs.Lawful.{IsLawful}
use Rattle.exact_heap.specs.Laws.{HoldsAt}
use Rattle.exact_heap.specs.Held.{new_byte}

-- each byte of the slot of the object that the call placed, if it did: the object whose number was the clock
abbrev pub GivesNewSlot : (zeroed : Bool) → (before after : HeapState) → Type 0
GivesNewSlot zeroed before after = (address : ℕ) → HoldsAt after.history (clock_of before.history) address → after.memory.bytes address ≡ Some (new_byte zeroed before address)

abbrev pub MallocGivesNewSlot : Type 0
MallocGivesNewSlot = (rules : Rules) (size site : ℕ) (s : HeapState) → IsLawful s.history → GivesNewSlot rules.zero s (malloc rules size site s).state

abbrev pub MemalignGivesNewSlot : Type 0
MemalignGivesNewSlot = (rules : Rules) (align size site : ℕ) (s : HeapState) → IsLawful s.history → GivesNewSlot rules.zero s (memalign rules align size site s).state

abbrev pub CallocGivesNewSlot : Type 0
CallocGivesNewSlot = (rules : Rules) (count each site : ℕ) (s : HeapState) → IsLawful s.history → GivesNewSlot true s (calloc rules count each site s).state

-- realloc of no object is malloc
abbrev pub NoneReallocGivesNewSlot : Type 0
NoneReallocGivesNewSlot = (rules : Rules) (size site : ℕ) (s : HeapState) → IsLawful s.history → GivesNewSlot rules.zero s (realloc rules 0 size site s).state

-- Where an object is moved, so is each byte of the new slot that isn't of its first bytes, as many as both sizes have: those are copied.
abbrev pub ReallocGivesNewSlot : Type 0
ReallocGivesNewSlot =
    (rules : Rules) (old size site : ℕ) (s : HeapState) (owner : Owner) → IsLawful s.history → (old == 0) ≡ false → owner_of s.history.objects old ≡ Some owner
    → (object address : ℕ) → (realloc rules old size site s).answer ≡ Ok object → HoldsAt (realloc rules old size site s).state.history (clock_of s.history) address
    → (object ≤ address → address < object + min owner.object.size size → ⊥) → (realloc rules old size site s).state.memory.bytes address ≡ Some (new_byte rules.zero s address)
