-- Laws of slots that no object holds (docs/heap.md, "What always holds").
use Rattle.std.specs.Prelude.{◌≡◌, ℕ, ◌+◌, ◌^◌, ◌≤◌, true, ◌⊎◌, List, ◌++◌, Some, IsSomeAnd}
use Rattle.std.specs.List.{AllByRecursion}
use Rattle.rv_memory.specs.Memory.{IsIntact, is_broken}
use Rattle.miniheap.specs.Slots.{slot_at}
use Rattle.miniheap.specs.declared.place.Slot.{Slot}
use Rattle.miniheap.specs.declared.place.SlotState.TheVariants.{Free, Held}
use Rattle.exact_heap.specs.declared.signal.Signal.{Signal}
use Rattle.exact_heap.specs.declared.signal.Place.TheVariants.{Call, End}
use Rattle.exact_heap.specs.History.{History, slots_of, canary_in, clock_of}
use Rattle.exact_heap.specs.Placing.{HeapState, Rules, byte_at}
use Rattle.exact_heap.specs.Calls.{malloc, memalign, calloc, free, realloc, check_end}
use Rattle.exact_heap.specs.Lawful.{IsLawful}

-- an address lies in a slot that no object holds
abbrev pub IsUnownedAt : History → (address : ℕ) → Type 0
IsUnownedAt h address = IsSomeAnd (slot_at (slots_of h) address) (λ t. ¬ (t.state ≡ Held))

-- each byte of the slot that an address lies in is the canary's
abbrev pub IsFreshAt : HeapState → (address : ℕ) → Type 0
IsFreshAt s address = IsSomeAnd (slot_at (slots_of s.history) address) (λ t. IsIntact s.memory (canary_in s.history) t.addr (2 ^ t.class))

-- ---- what a heap call does to slots

-- each slot stays where it is
abbrev pub KeepsPlaces : (before after : HeapState) → Type 0
KeepsPlaces before after = (address : ℕ) (t : Slot) → slot_at (slots_of before.history) address ≡ Some t
    → IsSomeAnd (slot_at (slots_of after.history) address) (λ u. (u.addr ≡ t.addr) × (u.class ≡ t.class))

-- An address in a slot that no object holds afterwards lay in such a slot before and has its byte still. Or it lay in none,
-- or in one that was held, and the slot has just been made or filled with the canary.
abbrev pub KeepsUnowned : (before after : HeapState) → Type 0
KeepsUnowned before after = (address : ℕ) → IsUnownedAt after.history address
    → (IsUnownedAt before.history address × (after.memory.bytes address ≡ before.memory.bytes address)) ⊎ ((¬ (IsUnownedAt before.history address)) × IsFreshAt after address)

-- the other way round: an address in a slot that no object holds before and none afterwards, broken or not, has its byte still
abbrev pub KeepsBytes : (before after : HeapState) → Type 0
KeepsBytes before after = (address : ℕ) → IsUnownedAt before.history address → IsUnownedAt after.history address → after.memory.bytes address ≡ before.memory.bytes address

-- ---- the signals of a heap call

-- A signal names the call, and a byte of a slot that no object held before and none holds afterwards. It was broken before the
-- call, and is the same byte afterwards.
pub record IsSeen (before after : HeapState) (signal : Signal) : Type 0 where
  pub place : signal.place ≡ Call after.history.calls
  pub was_unowned : IsUnownedAt before.history signal.addr
  pub is_unowned : IsUnownedAt after.history signal.addr
  pub broken : is_broken before.memory (canary_in before.history) signal.addr ≡ true
  pub stays : after.memory.bytes signal.addr ≡ before.memory.bytes signal.addr
  pub byte : signal.byte ≡ byte_at after.memory signal.addr

-- the signals of a call come behind those before it
pub record AddsSignals (before after : HeapState) : Type 0 where
  pub added : List Signal
  pub behind : after.history.signals ≡ before.history.signals ++ added
  pub seen : AllByRecursion (IsSeen before after) added

-- ---- the calls

pub record LeavesUnowned (before after : HeapState) : Type 0 where
  pub places : KeepsPlaces before after
  pub slots : KeepsUnowned before after
  pub bytes : KeepsBytes before after
  pub signals : AddsSignals before after

-- a call of a lawful heap leaves the slots alone that no object holds
abbrev pub CallLeavesUnowned : (HeapState → HeapState) → Type 0
CallLeavesUnowned call = (s : HeapState) → IsLawful s.history → LeavesUnowned s (call s)

abbrev pub MallocLeavesUnowned : Type 0
MallocLeavesUnowned = (rules : Rules) (size site : ℕ) → CallLeavesUnowned (λ s. (malloc rules size site s).state)

abbrev pub MemalignLeavesUnowned : Type 0
MemalignLeavesUnowned = (rules : Rules) (align size site : ℕ) → CallLeavesUnowned (λ s. (memalign rules align size site s).state)

abbrev pub CallocLeavesUnowned : Type 0
CallocLeavesUnowned = (rules : Rules) (count each site : ℕ) → CallLeavesUnowned (λ s. (calloc rules count each site s).state)

abbrev pub FreeLeavesUnowned : Type 0
FreeLeavesUnowned = (rules : Rules) (address site : ℕ) → CallLeavesUnowned (free rules address site)

abbrev pub ReallocLeavesUnowned : Type 0
ReallocLeavesUnowned = (rules : Rules) (old size site : ℕ) → CallLeavesUnowned (λ s. (realloc rules old size site s).state)

-- ---- the end

-- a signal of the check at the end names a broken byte of a free slot
pub record IsSeenAtEnd (s : HeapState) (signal : Signal) : Type 0 where
  pub place : signal.place ≡ End
  pub free : IsSomeAnd (slot_at (slots_of s.history) signal.addr) (λ t. t.state ≡ Free)
  pub broken : is_broken s.memory (canary_in s.history) signal.addr ≡ true
  pub byte : signal.byte ≡ byte_at s.memory signal.addr

-- nothing but signals comes of the check
pub record EndAddsSignals (s : HeapState) (after : History) : Type 0 where
  pub added : List Signal
  pub behind : after ≡ record s.history { signals = s.history.signals ++ added; ended = true }
  pub seen : AllByRecursion (IsSeenAtEnd s) added

abbrev pub EndLeavesUnowned : Type 0
EndLeavesUnowned = (s : HeapState) → EndAddsSignals s (check_end s)

-- ---- what a heap call counts

-- a heap call is counted once, and places one object at most. The seed stays, and no object is forgotten
pub record IsOneCall (before after : HeapState) : Type 0 where
  pub calls : after.history.calls ≡ before.history.calls + 1
  pub seed : after.history.seed ≡ before.history.seed
  pub ended : after.history.ended ≡ before.history.ended
  pub least : clock_of before.history ≤ clock_of after.history
  pub most : clock_of after.history ≤ clock_of before.history + 1

abbrev pub MallocIsOneCall : Type 0
MallocIsOneCall = (rules : Rules) (size site : ℕ) (s : HeapState) → IsOneCall s (malloc rules size site s).state

abbrev pub MemalignIsOneCall : Type 0
MemalignIsOneCall = (rules : Rules) (align size site : ℕ) (s : HeapState) → IsOneCall s (memalign rules align size site s).state

abbrev pub CallocIsOneCall : Type 0
CallocIsOneCall = (rules : Rules) (count each site : ℕ) (s : HeapState) → IsOneCall s (calloc rules count each site s).state

abbrev pub FreeIsOneCall : Type 0
FreeIsOneCall = (rules : Rules) (address site : ℕ) (s : HeapState) → IsOneCall s (free rules address site s)

abbrev pub ReallocIsOneCall : Type 0
ReallocIsOneCall = (rules : Rules) (old size site : ℕ) (s : HeapState) → IsOneCall s (realloc rules old size site s).state
