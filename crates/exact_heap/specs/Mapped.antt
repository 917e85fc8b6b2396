-- What of the guest's memory is mapped (docs/heap.md, "The guest's memory").
use Rattle.std.specs.Prelude.{◌≡◌, ℕ, ◌^◌, Bool, true, false, ◌&&◌, nat_le, nat_lt, Some, is_some, IsTrue}
use Rattle.rv_memory.specs.declared.space.Space.{Space}
use Rattle.rv_memory.specs.Memory.{Memory, IsBounded, no_memory, is_mapped, is_unmapped, can_write}
use Rattle.rv_memory.specs.Spaces.{memory_of}
use Rattle.miniheap.specs.declared.place.Slot.{Slot}
use Rattle.miniheap.specs.Layout.{heap_from}
use Rattle.miniheap.specs.Slots.{slot_at, end_of}
use Rattle.exact_heap.specs.declared.heap.Heap.{Heap}
use Rattle.exact_heap.specs.Calls.{malloc, memalign, calloc, free, realloc}
use Rattle.exact_heap.specs.Heaps.{IsSpent, HasHome, slots_in}
use Rattle.exact_heap.specs.History.{slots_of}
use Rattle.exact_heap.specs.Lawful.{IsLawful}
use Rattle.exact_heap.specs.Placing.{HeapState, Rules}

-- an address of the heap region
abbrev pub in_region : ℕ → Bool
in_region address = nat_le heap_from address && nat_lt address (2 ^ 31)

-- Outside of the heap region a memory is mapped, writable and executable where another one is. In it, it is mapped and writable below an
-- end, and nowhere executable.
pub record MapsTo (end : ℕ) (other memory : Memory) : Type 0 where
  pub mapped : (address : ℕ) → in_region address ≡ false → is_some (memory.bytes address) ≡ is_some (other.bytes address)
  pub writable : (address : ℕ) → in_region address ≡ false → memory.writable address ≡ other.writable address
  pub runs : (address : ℕ) → in_region address ≡ false → memory.runs address ≡ other.runs address
  pub heap_mapped : (address : ℕ) → in_region address ≡ true → is_some (memory.bytes address) ≡ nat_lt address end
  pub heap_writable : (address : ℕ) → in_region address ≡ true → memory.writable address ≡ nat_lt address end
  pub heap_runs : (address : ℕ) → in_region address ≡ true → memory.runs address ≡ false
  pub bounded : IsBounded memory

-- in the heap region exactly the miniheaps
abbrev pub MapsMiniheaps : (other : Memory) → HeapState → Type 0
MapsMiniheaps other s = MapsTo (end_of (slots_of s.history)) other s.memory

-- a call of a lawful heap keeps what is mapped outside of the heap region, and that in it the miniheaps are, those that it adds too
abbrev pub KeepsMapped : (HeapState → HeapState) → Type 0
KeepsMapped call = (other : Memory) (s : HeapState) → IsLawful s.history → MapsMiniheaps other s → MapsMiniheaps other (call s)

abbrev pub MallocKeepsMapped : Type 0
MallocKeepsMapped = (rules : Rules) (size site : ℕ) → KeepsMapped (λ s. (malloc rules size site s).state)

abbrev pub MemalignKeepsMapped : Type 0
MemalignKeepsMapped = (rules : Rules) (align size site : ℕ) → KeepsMapped (λ s. (memalign rules align size site s).state)

abbrev pub CallocKeepsMapped : Type 0
CallocKeepsMapped = (rules : Rules) (count each site : ℕ) → KeepsMapped (λ s. (calloc rules count each site s).state)

abbrev pub FreeKeepsMapped : Type 0
FreeKeepsMapped = (rules : Rules) (address site : ℕ) → KeepsMapped (free rules address site)

abbrev pub ReallocKeepsMapped : Type 0
ReallocKeepsMapped = (rules : Rules) (old size site : ℕ) → KeepsMapped (λ s. (realloc rules old size site s).state)

-- ---- of a heap

-- each slot of a heap that isn't spent is mapped and writable, whoever has it
abbrev pub SlotsAreMapped : Type 0
SlotsAreMapped = (heap : Heap) (space : Space) (address : ℕ) (t : Slot) → ¬ (IsSpent heap) → HasHome heap space → slot_at (slots_in heap) address ≡ Some t
    → IsTrue (is_mapped (memory_of space) t.addr (2 ^ t.class)) × IsTrue (can_write (memory_of space) t.addr (2 ^ t.class))

-- an empty memory has nothing in the heap region
abbrev pub NothingIsMapped : Type 0
NothingIsMapped = (space : Space) → memory_of space ≡ no_memory → IsTrue (is_unmapped (memory_of space) heap_from (2 ^ 30))
