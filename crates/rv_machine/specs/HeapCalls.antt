-- The next step of a guest with its heap: an instruction, or one heap call (docs/guest.md, "Heap calls").
use Rattle.std.specs.Prelude.{ℕ, ◌+◌, ◌-◌, ◌%◌, ◌==◌, if◌then◌else◌, Result, Ok, Err}
use Rattle.std.specs.declared.option.Option.{Option}
use Rattle.std.specs.declared.option.Option.TheVariants.{Some, None}
use Rattle.infinite_heap.specs.declared.fault.FaultKind.TheVariants as fault
use Rattle.infinite_heap.specs.declared.program.HeapCall.{HeapCall}
use Rattle.infinite_heap.specs.declared.program.HeapCall.TheVariants.{Malloc, Free, Calloc, Realloc, Memalign, AlignedAlloc, MallocR, FreeR, CallocR, ReallocR, MemalignR}
use Rattle.infinite_heap.specs.Calls.{pop}
use Rattle.infinite_heap.specs.CallSite.{site_of}
use Rattle.infinite_heap.specs.InfiniteHeap.{call_at}
use Rattle.exact_heap.specs.declared.signal.HeapRefusal.{HeapRefusal}
use Rattle.exact_heap.specs.declared.signal.HeapRefusal.TheVariants.{Room, Memory as NoMemory}
use Rattle.exact_heap.specs.Calls.{malloc, calloc, realloc, memalign, free}
use Rattle.exact_heap.specs.Placing.{HeapState, Outcome}
use Rattle.rv_machine.specs.declared.ended.Ended.{Ended}
use Rattle.rv_machine.specs.declared.ended.Ended.TheVariants.{Roomed}
use Rattle.rv_machine.specs.Core.{Core, Next, Faults, Stays, register, with_register}
use Rattle.rv_machine.specs.Guest.{Guest, with_core, heap_of, with_heap}
use Rattle.rv_machine.specs.Steps.{next}

-- what the next step does
pub data GuestNext : Type 0 where
  -- an instruction, or nothing where the guest has ended
  Carries : Next → GuestNext
  -- a heap call, which returns
  Returns : Guest → GuestNext
  -- a heap call that meets no room: the bytes in use, and the bytes that the next miniheap wants
  Lacks : (used wanted : ℕ) → Guest → GuestNext

-- ---- returns

-- a call returns: one return address is popped, and the step is counted
abbrev pub back_to : (back : ℕ) → Core → Core
back_to back core = record core { pc = back; steps = core.steps + 1; calls = pop core.calls }

-- a call returns with an answer in a0
abbrev pub back_with : (back answer : ℕ) → Core → Core
back_with back answer core = record (back_to back core) { regs = with_register core.regs 10 answer }

-- want of room ends the guest where it is, and the step isn't counted
abbrev pub roomed : (used wanted : ℕ) → Core → Core
roomed used wanted core = record core { ended = Some (Roomed used wanted) }

-- ---- the calls. Each is made where the return addresses still have the caller's, and `back` is where it returns to

-- what a call leaves of the heap, and what it answers. That memory is wanting is never the answer here
abbrev pub answered : Guest → (back : ℕ) → HeapState → Result ℕ HeapRefusal → GuestNext
answered g back s (Ok address) = Returns (with_core (with_heap g s) (back_with back address (with_heap g s).core))
answered g back s (Err (Room used wanted)) = Lacks used wanted (with_core (with_heap g s) (roomed used wanted (with_heap g s).core))
answered g back s (Err NoMemory) = Lacks 0 0 (with_core (with_heap g s) (roomed 0 0 (with_heap g s).core))

abbrev pub answers : Guest → (back : ℕ) → Outcome → GuestNext
answers g back outcome = answered g back outcome.state outcome.answer

-- a free answers nothing: a0 stays
abbrev pub frees : Guest → (back : ℕ) → HeapState → GuestNext
frees g back s = Returns (with_core (with_heap g s) (back_to back (with_heap g s).core))

-- a call by its name: a0, a1, a2 are x10, x11, x12, and a name that ends in R skips a0
abbrev pub called : Guest → (back : ℕ) → HeapCall → GuestNext
called g back Malloc = answers g back (malloc g.rules (register g.core 10) (site_of g.core.calls) (heap_of g))
called g back MallocR = answers g back (malloc g.rules (register g.core 11) (site_of g.core.calls) (heap_of g))
called g back Free = frees g back (free g.rules (register g.core 10) (site_of g.core.calls) (heap_of g))
called g back FreeR = frees g back (free g.rules (register g.core 11) (site_of g.core.calls) (heap_of g))
called g back Calloc = answers g back (calloc g.rules (register g.core 10) (register g.core 11) (site_of g.core.calls) (heap_of g))
called g back CallocR = answers g back (calloc g.rules (register g.core 11) (register g.core 12) (site_of g.core.calls) (heap_of g))
called g back Realloc = answers g back (realloc g.rules (register g.core 10) (register g.core 11) (site_of g.core.calls) (heap_of g))
called g back ReallocR = answers g back (realloc g.rules (register g.core 11) (register g.core 12) (site_of g.core.calls) (heap_of g))
called g back Memalign = answers g back (memalign g.rules (register g.core 10) (register g.core 11) (site_of g.core.calls) (heap_of g))
called g back AlignedAlloc = answers g back (memalign g.rules (register g.core 10) (register g.core 11) (site_of g.core.calls) (heap_of g))
called g back MemalignR = answers g back (memalign g.rules (register g.core 11) (register g.core 12) (site_of g.core.calls) (heap_of g))

-- a call from a return address, its lowest bit cleared: that has to be a multiple of 4
abbrev pub call_from : Guest → (back : ℕ) → HeapCall → GuestNext
call_from g back function = if back % 4 == 0 then called g back function else Carries (Faults fault.Jump back)

-- ra is x1
abbrev pub heap_call : Guest → HeapCall → GuestNext
heap_call g function = call_from g (register g.core 1 - register g.core 1 % 2) function

-- ---- the step

-- a heap function is looked for before anything is fetched
abbrev pub guest_next_at : Guest → Option HeapCall → GuestNext
guest_next_at g (Some function) = heap_call g function
guest_next_at g None = Carries (next g.core)

abbrev pub guest_next_of : Guest → Option Ended → GuestNext
guest_next_of g (Some ended) = Carries (Stays ended)
guest_next_of g None = guest_next_at g (call_at g.names g.core.pc)

abbrev pub guest_next : Guest → GuestNext
guest_next g = guest_next_of g g.core.ended
