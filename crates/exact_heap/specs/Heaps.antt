-- A heap stands for a history (docs/heap.md, "What is kept").
use Rattle.std.specs.Prelude.{◌≡◌, ℕ, ◌+◌, ◌≤◌, true, false, Result, Ok, Err}
use Rattle.rv_memory.specs.declared.space.Space.{Space}
use Rattle.rv_memory.specs.Memory.{KeepsTaken}
use Rattle.rv_memory.specs.Spaces.{memory_of, taken_of}
use Rattle.miniheap.specs.Slots.{Slots}
use Rattle.exact_heap.specs.declared.heap.Heap.{Heap}
use Rattle.exact_heap.specs.declared.signal.HeapRefusal.{HeapRefusal}
use Rattle.exact_heap.specs.declared.signal.HeapRefusal.TheVariants.{Room, Memory as NoMemory}
use Rattle.exact_heap.specs.History.{History}
use Rattle.exact_heap.specs.Placing.{HeapState, Rules, Outcome}
use Rattle.exact_heap.specs.Home.{IsHome}
use Rattle.exact_heap.specs.Stands.{PartsStandFor, state_at, rules_in}

-- a call wanted memory: the heap places nothing any more
unfoldable pub IsSpent : Heap → Type 0
IsSpent heap = heap.spent ≡ true

-- everything that a heap keeps is what the history gives, and it isn't spent
pub record StandsFor (heap : Heap) (h : History) : Type 0 where
  pub parts : PartsStandFor heap.parts h
  pub lives : heap.spent ≡ false

-- what the heap goes by
unfoldable pub rules_of : Heap → Rules
rules_of heap = rules_in heap.parts

-- its slots, its clock and its number of heap calls
unfoldable pub slots_in : Heap → Slots
slots_in heap = heap.parts.slots.grid

unfoldable pub clock_in : Heap → ℕ
clock_in heap = heap.parts.counts.clock

unfoldable pub calls_in : Heap → ℕ
calls_in heap = heap.parts.counts.calls

-- While a heap isn't spent, the guest's memory has exactly its miniheaps in the heap region, they are writable, and
-- the pages of its held slots are taken.
unfoldable pub HasHome : Heap → Space → Type 0
HasHome heap space = heap.spent ≡ false → IsHome heap.parts.slots.grid (memory_of space) (taken_of space)

-- what a call leaves: the heap stands for the state's history, and the space has the state's memory
pub record Leaves (state : HeapState) (heap : Heap) (space : Space) : Type 0 where
  pub stands : StandsFor heap state.history
  pub memory : memory_of space ≡ state.memory

-- a call answers and leaves what it should, but for want of memory, after which the heap is spent
abbrev pub Answers : Outcome → (result : Result ℕ HeapRefusal) → Heap → Space → Type 0
Answers outcome (Ok address) heap space = (outcome.answer ≡ Ok address) × Leaves outcome.state heap space
Answers outcome (Err (Room used wanted)) heap space = (outcome.answer ≡ Err (Room used wanted)) × Leaves outcome.state heap space
Answers outcome (Err NoMemory) heap space = IsSpent heap

-- A heap carries out a call that places an object, of the rules that it goes by.
pub record CarriesOut (call : HeapState → Outcome) (old : Heap) (before : Space) (result : Result ℕ HeapRefusal) (new : Heap) (after : Space) : Type 0 where
  -- whatever history the heap stood for, it answers and leaves what the rules say
  pub answers : (h : History) → StandsFor old h → Answers (call (state_at h before)) result new after
  -- a spent heap wants memory, and what wants memory spends the heap
  pub spent : IsSpent old → result ≡ Err NoMemory
  pub memory : result ≡ Err NoMemory → IsSpent new
  pub rules : rules_of new ≡ rules_of old
  -- one object at most is placed, in one heap call
  pub counted : clock_in new ≤ clock_in old + 1
  pub numbered : calls_in new ≤ calls_in old + 1
  -- the guest's memory still has exactly the miniheaps in the heap region, and no page was given back
  pub home : HasHome new after
  pub taken : KeepsTaken (taken_of before) (taken_of after)
