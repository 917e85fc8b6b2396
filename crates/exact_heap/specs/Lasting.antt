-- What stays of objects (docs/heap.md, "What always holds").
use Rattle.std.specs.Prelude.{◌≡◌, ℕ, ◌<◌, ◌≤◌, true, slice_get, Some, IsSomeAnd}
use Rattle.exact_heap.specs.History.{Object, History, is_owned, holds_slot, clock_of}
use Rattle.exact_heap.specs.Placing.{HeapState, Rules}
use Rattle.exact_heap.specs.Calls.{malloc, memalign, calloc, free, realloc}
use Rattle.exact_heap.specs.Lawful.{IsLawful}
use Rattle.exact_heap.specs.Laws.{HoldsAt}

-- an object has its place and what was asked for still, and is owned and holds its slot only where it did
pub record Lasts (o later : Object) : Type 0 where
  pub slot : later.slot ≡ o.slot
  pub front : later.front ≡ o.front
  pub alignment : later.alignment ≡ o.alignment
  pub class : later.class ≡ o.class
  pub size : later.size ≡ o.size
  pub site : later.site ≡ o.site
  pub owned : is_owned later.state ≡ true → is_owned o.state ≡ true
  pub held : holds_slot later ≡ true → holds_slot o ≡ true

-- each object does, under its number
pub record ObjectsLast (before after : History) : Type 0 where
  pub count : clock_of before ≤ clock_of after
  pub each : (number : ℕ) (o : Object) → slice_get before.objects number ≡ Some o → IsSomeAnd (slice_get after.objects number) (Lasts o)

-- so what an older object holds it held before
abbrev pub HoldersHeld : Type 0
HoldersHeld = (before after : History) (number address : ℕ) → ObjectsLast before after → number < clock_of before → HoldsAt after number address → HoldsAt before number address

abbrev pub CallKeepsObjects : (HeapState → History) → Type 0
CallKeepsObjects call = (s : HeapState) → IsLawful s.history → ObjectsLast s.history (call s)

abbrev pub MallocKeepsObjects : Type 0
MallocKeepsObjects = (rules : Rules) (size site : ℕ) → CallKeepsObjects (λ s. (malloc rules size site s).state.history)

abbrev pub MemalignKeepsObjects : Type 0
MemalignKeepsObjects = (rules : Rules) (align size site : ℕ) → CallKeepsObjects (λ s. (memalign rules align size site s).state.history)

abbrev pub CallocKeepsObjects : Type 0
CallocKeepsObjects = (rules : Rules) (count each site : ℕ) → CallKeepsObjects (λ s. (calloc rules count each site s).state.history)

abbrev pub FreeKeepsObjects : Type 0
FreeKeepsObjects = (rules : Rules) (address site : ℕ) → CallKeepsObjects (λ s. (free rules address site s).history)

abbrev pub ReallocKeepsObjects : Type 0
ReallocKeepsObjects = (rules : Rules) (old size site : ℕ) → CallKeepsObjects (λ s. (realloc rules old size site s).state.history)
