-- Laws of slots that objects hold (docs/heap.md, "What always holds").
use Rattle.std.specs.Prelude.{◌≡◌, ℕ, ◌+◌, ◌*◌, ◌<◌, ◌≤◌, ◌==◌, min, Bool, true, false, nat_lt, Some, is_some, Ok, if◌then◌else◌}
use Rattle.diefast_canary.specs.Canary.{canary_byte}
use Rattle.exact_heap.specs.History.{canary_in}
use Rattle.exact_heap.specs.Owners.{Owner, owner_of}
use Rattle.exact_heap.specs.Placing.{HeapState, Rules, Outcome}
use Rattle.exact_heap.specs.Calls.{size_limit, is_alignment, malloc, memalign, calloc, free, realloc}
use Rattle.exact_heap.specs.Lawful.{IsLawful}
use Rattle.exact_heap.specs.Laws.{HoldsAt}
use Rattle.exact_heap.specs.Mapped.{in_region}

-- ---- bytes that stay

-- A byte outside of the heap region stays. So does one in a slot that an object holds before the call, and an object afterwards.
pub record KeepsHeld (before after : HeapState) : Type 0 where
  pub outside : (address : ℕ) → in_region address ≡ false → after.memory.bytes address ≡ before.memory.bytes address
  pub held : (i j address : ℕ) → HoldsAt before.history i address → HoldsAt after.history j address → after.memory.bytes address ≡ before.memory.bytes address

abbrev pub CallKeepsHeld : (HeapState → HeapState) → Type 0
CallKeepsHeld call = (s : HeapState) → IsLawful s.history → KeepsHeld s (call s)

abbrev pub MallocKeepsHeld : Type 0
MallocKeepsHeld = (rules : Rules) (size site : ℕ) → CallKeepsHeld (λ s. (malloc rules size site s).state)

abbrev pub MemalignKeepsHeld : Type 0
MemalignKeepsHeld = (rules : Rules) (align size site : ℕ) → CallKeepsHeld (λ s. (memalign rules align size site s).state)

abbrev pub CallocKeepsHeld : Type 0
CallocKeepsHeld = (rules : Rules) (count each site : ℕ) → CallKeepsHeld (λ s. (calloc rules count each site s).state)

abbrev pub FreeKeepsHeld : Type 0
FreeKeepsHeld = (rules : Rules) (address site : ℕ) → CallKeepsHeld (free rules address site)

abbrev pub ReallocKeepsHeld : Type 0
ReallocKeepsHeld = (rules : Rules) (old size site : ℕ) → CallKeepsHeld (λ s. (realloc rules old size site s).state)

-- ---- bytes of a new object

-- the byte that a new object has at an address: zero, or the canary's, which its slot held
abbrev pub new_byte : (zeroed : Bool) → HeapState → (address : ℕ) → ℕ
new_byte zeroed s address = if zeroed then 0 else canary_byte (canary_in s.history) address

abbrev pub GivesNewBytes : (zeroed : Bool) → (size : ℕ) → HeapState → Outcome → Type 0
GivesNewBytes zeroed size s outcome = (object address : ℕ) → outcome.answer ≡ Ok object → object ≤ address → address < object + size → outcome.state.memory.bytes address ≡ Some (new_byte zeroed s address)

abbrev pub MallocGivesNewBytes : Type 0
MallocGivesNewBytes = (rules : Rules) (size site : ℕ) (s : HeapState) → IsLawful s.history → size ≤ size_limit → GivesNewBytes rules.zero size s (malloc rules size site s)

abbrev pub MemalignGivesNewBytes : Type 0
MemalignGivesNewBytes =
    (rules : Rules) (align size site : ℕ) (s : HeapState) → IsLawful s.history → is_alignment align ≡ true → size ≤ size_limit → GivesNewBytes rules.zero size s (memalign rules align size site s)

abbrev pub CallocGivesZeros : Type 0
CallocGivesZeros = (rules : Rules) (count each site : ℕ) (s : HeapState) → IsLawful s.history → count * each ≤ size_limit → GivesNewBytes true (count * each) s (calloc rules count each site s)

-- realloc of no object is malloc
abbrev pub ReallocGivesNewBytes : Type 0
ReallocGivesNewBytes = (rules : Rules) (size site : ℕ) (s : HeapState) → IsLawful s.history → size ≤ size_limit → GivesNewBytes rules.zero size s (realloc rules 0 size site s)

-- The bytes of the old object below both sizes, which are mapped, stand in the new one. The others are a new object's.
abbrev pub CopiesBytes : (zeroed : Bool) → (old size : ℕ) → Owner → HeapState → Outcome → Type 0
CopiesBytes zeroed old size owner s outcome =
    (object d : ℕ) → outcome.answer ≡ Ok object → d < size
    → outcome.state.memory.bytes (object + d) ≡ (if nat_lt d owner.object.size then s.memory.bytes (old + d) else Some (new_byte zeroed s (object + d)))

abbrev pub ReallocCopies : Type 0
ReallocCopies =
    (rules : Rules) (old size site : ℕ) (s : HeapState) (owner : Owner) → IsLawful s.history → (old == 0) ≡ false → owner_of s.history.objects old ≡ Some owner → size ≤ size_limit
    → ((d : ℕ) → d < min owner.object.size size → is_some (s.memory.bytes (old + d)) ≡ true) → CopiesBytes rules.zero old size owner s (realloc rules old size site s)
