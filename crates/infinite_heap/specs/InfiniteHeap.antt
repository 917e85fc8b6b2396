-- The heap calls of the infinite-heap machine: docs/infinite-run.md, "Heap calls".
use Rattle.std.specs.Prelude.{ℕ, ◌+◌, ◌-◌, ◌*◌, ◌%◌, Bool, true, nat_eq, nat_lt, min, max, if◌then◌else◌, List, [], ◌∷◌, ◌++◌}
use Rattle.std.specs.declared.option.Option.{Option}
use Rattle.std.specs.declared.option.Option.TheVariants.{Some, None}
use Rattle.infinite_heap.specs.declared.access.AccessKind.TheVariants as kind
use Rattle.infinite_heap.specs.declared.fault.FaultKind.TheVariants as fault
use Rattle.infinite_heap.specs.declared.fault.Why.TheVariants as why
use Rattle.infinite_heap.specs.declared.program.HeapCall.{HeapCall}
use Rattle.infinite_heap.specs.declared.program.HeapCall.TheVariants.{Malloc, Free, Calloc, Realloc, Memalign, AlignedAlloc, MallocR, FreeR, CallocR, ReallocR, MemalignR}
use Rattle.infinite_heap.specs.declared.program.HeapName.{HeapName}
use Rattle.infinite_heap.specs.declared.value.Value.{Value}
use Rattle.infinite_heap.specs.declared.value.Value.TheVariants.{Num, Ptr}
use Rattle.infinite_heap.specs.Calls.{pop}
use Rattle.infinite_heap.specs.CallSite.{site_of}
use Rattle.infinite_heap.specs.InfiniteState.{InfState, InfStep, Goes, Faults, Blurs, cells_of_state, clock_of, access, set_reg}
use Rattle.infinite_heap.specs.Memory.{get_all, write_all, is_stored}
use Rattle.infinite_heap.specs.Objects.{Freed, new_object, object_at, size_in, with_free}
use Rattle.infinite_heap.specs.Region.{in_region, most_allocated, least_alignment, is_valid_alignment}

-- the heap function at an address
abbrev pub call_at : List HeapName → (address : ℕ) → Option HeapCall
call_at [] address = None
call_at (name ∷ names) address = if nat_eq name.at address then Some name.call else call_at names address

-- ---- what a call does. It is made where the return addresses still have the caller's, `back` is where it returns to,
-- and `zeroed` says that objects begin with zeros

-- a call returns: one return address is popped, and the step is counted
abbrev pub inf_back : InfState → (back : ℕ) → InfState
inf_back s back = record s { pc = back; steps = s.steps + 1; calls = pop s.calls }

-- a call returns with an answer in a0
abbrev pub inf_back_with : InfState → (back : ℕ) → Value → InfState
inf_back_with s back v = record (inf_back s back) { regs = set_reg s.regs 10 v }

-- one more object, whose number is the clock
abbrev pub with_object : InfState → (zeroed : Bool) → (align size : ℕ) → InfState
with_object s zeroed align size = record s { objects = s.objects ++ new_object size align (site_of s.calls) zeroed ∷ [] }

-- object o is freed
abbrev pub with_freed : InfState → (o : ℕ) → InfState
with_freed s o = record s { objects = with_free s.objects o (record { clock = clock_of s; site = site_of s.calls }) }

-- the first so many cells of object o are copied into object p, with the mark of those that were stored
abbrev pub with_copy : InfState → (o p count : ℕ) → InfState
with_copy s o p count = record s { written = write_all (is_stored s.written o) s.written p 0 (get_all ((cells_of_state s).heap o) 0 count) }

-- ---- malloc, calloc and memalign

abbrev pub inf_allocate : InfState → (zeroed : Bool) → (back align size : ℕ) → InfStep
inf_allocate s zeroed back align size =
    if nat_lt most_allocated size then Goes (inf_back_with s back (Num 0)) []
    else Goes (inf_back_with (with_object s zeroed align size) back (Ptr (clock_of s) 0)) []

abbrev pub inf_malloc : InfState → (zeroed : Bool) → (back : ℕ) → (size : Value) → InfStep
inf_malloc s zeroed back (Num size) = inf_allocate s zeroed back least_alignment size
inf_malloc s zeroed back v = Blurs why.Size []

-- so many objects of one size are one object, of their whole product
abbrev pub inf_calloc_of : InfState → (back count : ℕ) → (each : Value) → InfStep
inf_calloc_of s back count (Num each) = inf_allocate s true back least_alignment (count * each)
inf_calloc_of s back count v = Blurs why.Size []

abbrev pub inf_calloc : InfState → (back : ℕ) → (count each : Value) → InfStep
inf_calloc s back (Num count) each = inf_calloc_of s back count each
inf_calloc s back v each = Blurs why.Size []

-- an object of an alignment that may be asked for, and of 16 at least
abbrev pub inf_memalign_of : InfState → (zeroed : Bool) → (back align : ℕ) → (size : Value) → InfStep
inf_memalign_of s zeroed back align (Num size) =
    if is_valid_alignment align then inf_allocate s zeroed back (max align least_alignment) size
    else Goes (inf_back_with s back (Num 0)) []
inf_memalign_of s zeroed back align v = Blurs why.Size []

abbrev pub inf_memalign : InfState → (zeroed : Bool) → (back : ℕ) → (align size : Value) → InfStep
inf_memalign s zeroed back (Num align) size = inf_memalign_of s zeroed back align size
inf_memalign s zeroed back v size = Blurs why.Size []

-- ---- free

-- the first free of an object is noted, a later one is recorded
abbrev pub inf_free_object : InfState → (back o : ℕ) → Option Freed → InfStep
inf_free_object s back o None = Goes (inf_back (with_freed s o) back) []
inf_free_object s back o (Some freed) = Goes (inf_back s back) (access s kind.Again o 0 0 ∷ [])

abbrev pub inf_free : InfState → (back : ℕ) → Value → InfStep
inf_free s back (Num n) = if in_region n then Blurs why.Freed [] else Goes (inf_back s back) []
inf_free s back (Ptr o d) =
    if nat_eq d 0 then inf_free_object s back o (object_at s.objects o).freed
    else Goes (inf_back s back) (access s kind.Touch o d 1 ∷ [])
inf_free s back v = Blurs why.Freed []

-- ---- realloc

-- a new object with the cells of object o below both sizes; then o is freed, at the clock that counts the new one
abbrev pub with_moved : InfState → (zeroed : Bool) → (o size : ℕ) → InfState
with_moved s zeroed o size = with_freed (with_copy (with_object s zeroed least_alignment size) o (clock_of s) (min (size_in s.objects o) size)) o

abbrev pub inf_resize : InfState → (zeroed : Bool) → (back o : ℕ) → (size : Value) → InfStep
inf_resize s zeroed back o (Num size) =
    if nat_lt most_allocated size then Goes (inf_back_with s back (Num 0)) []
    else Goes (inf_back_with (with_moved s zeroed o size) back (Ptr (clock_of s) 0)) []
inf_resize s zeroed back o v = Blurs why.Size []

abbrev pub inf_realloc_object : InfState → (zeroed : Bool) → (back o : ℕ) → (size : Value) → Option Freed → InfStep
inf_realloc_object s zeroed back o size None = inf_resize s zeroed back o size
inf_realloc_object s zeroed back o size (Some freed) = Blurs why.Realloc []

abbrev pub inf_realloc : InfState → (zeroed : Bool) → (back : ℕ) → (old size : Value) → InfStep
inf_realloc s zeroed back (Num n) size = if nat_eq n 0 then inf_malloc s zeroed back size else Blurs why.Realloc []
inf_realloc s zeroed back (Ptr o d) size =
    if nat_eq d 0 then inf_realloc_object s zeroed back o size (object_at s.objects o).freed
    else Blurs why.Realloc []
inf_realloc s zeroed back v size = Blurs why.Realloc []

-- ---- the whole call

-- a call by its name: a0, a1, a2 are x10, x11, x12, and a name that ends in R skips a0
abbrev pub inf_called : InfState → (zeroed : Bool) → (back : ℕ) → HeapCall → InfStep
inf_called s zeroed back Malloc = inf_malloc s zeroed back (s.regs 10)
inf_called s zeroed back MallocR = inf_malloc s zeroed back (s.regs 11)
inf_called s zeroed back Free = inf_free s back (s.regs 10)
inf_called s zeroed back FreeR = inf_free s back (s.regs 11)
inf_called s zeroed back Memalign = inf_memalign s zeroed back (s.regs 10) (s.regs 11)
inf_called s zeroed back AlignedAlloc = inf_memalign s zeroed back (s.regs 10) (s.regs 11)
inf_called s zeroed back MemalignR = inf_memalign s zeroed back (s.regs 11) (s.regs 12)
inf_called s zeroed back Calloc = inf_calloc s back (s.regs 10) (s.regs 11)
inf_called s zeroed back CallocR = inf_calloc s back (s.regs 11) (s.regs 12)
inf_called s zeroed back Realloc = inf_realloc s zeroed back (s.regs 10) (s.regs 11)
inf_called s zeroed back ReallocR = inf_realloc s zeroed back (s.regs 11) (s.regs 12)

-- a call from the return address that a value is, its lowest bit cleared: that has to be a multiple of 4
abbrev pub inf_call_from : InfState → (zeroed : Bool) → HeapCall → (ra : Value) → InfStep
inf_call_from s zeroed function (Num ra) = if nat_eq ((ra - ra % 2) % 4) 0 then inf_called s zeroed (ra - ra % 2) function else Faults fault.Jump []
inf_call_from s zeroed function v = Blurs why.Target []

-- ra is x1
abbrev pub inf_call : InfState → (zeroed : Bool) → HeapCall → InfStep
inf_call s zeroed function = inf_call_from s zeroed function (s.regs 1)
