-- The heap calls, and the check at the end of a run (docs/heap.md, "Calls" and "End").
use Rattle.std.specs.Prelude.{ℕ, ◌+◌, ◌*◌, ◌^◌, ◌==◌, ◌&&◌, max, min, Bool, true, nat_le, nat_lt, if◌then◌else◌, List, [], ◌++◌, unwrap_or, Option, Some, None, Result, Ok, Err}
use Rattle.std.specs.Int.{is_power_of_two}
use Rattle.std.specs.List.{filter_map}
use Rattle.std.specs.Option.{option_map}
use Rattle.rv_memory.specs.Memory.{Memory, span, with_bytes}
use Rattle.miniheap.specs.Layout.{minis, all_slots}
use Rattle.miniheap.specs.Slots.{is_free_state, slot_at}
use Rattle.miniheap.specs.declared.place.Slot.{Slot}
use Rattle.exact_heap.specs.declared.signal.Signal.{Signal}
use Rattle.exact_heap.specs.declared.signal.Place.TheVariants.{End}
use Rattle.exact_heap.specs.declared.signal.HeapRefusal.{HeapRefusal}
use Rattle.exact_heap.specs.History.{History, address_of, slots_of}
use Rattle.exact_heap.specs.Owners.{Owner, owner_of}
use Rattle.exact_heap.specs.Placing.{HeapState, Rules, Outcome, request, break_in, signal_at, place}
use Rattle.exact_heap.specs.Freeing.{owner_freed}

-- one heap call more
abbrev pub called : HeapState → HeapState
called s = record s { history = record s.history { calls = s.history.calls + 1 } }

abbrev pub answers : ℕ → HeapState → Outcome
answers answer s = record { state = s; answer = Ok answer }

-- the greatest size of an object
abbrev pub size_limit : ℕ
size_limit = 2 ^ 20

-- the alignment of objects that none was asked for
abbrev pub usual : ℕ
usual = 16

-- a size above the limit answers 0
abbrev pub allocate : Rules → (zeroed : Bool) → (align size site : ℕ) → HeapState → Outcome
allocate rules zeroed align size site s = if nat_lt size_limit size then answers 0 s else place (request rules align size site) zeroed s

unfoldable pub malloc : Rules → (size site : ℕ) → HeapState → Outcome
malloc rules size site s = allocate rules rules.zero usual size site (called s)

-- an alignment that can be asked for
abbrev pub is_alignment : ℕ → Bool
is_alignment align = is_power_of_two align && nat_le align 4096

-- any other answers 0
unfoldable pub memalign : Rules → (align size site : ℕ) → HeapState → Outcome
memalign rules align size site s =
    if is_alignment align then allocate rules rules.zero (max align usual) size site (called s) else answers 0 (called s)

-- the product doesn't wrap, and the object is set to zero
unfoldable pub calloc : Rules → (count each site : ℕ) → HeapState → Outcome
calloc rules count each site s = allocate rules true usual (count * each) site (called s)

-- ---- free

abbrev pub freed_if : Rules → (site : ℕ) → Option Owner → HeapState → HeapState
freed_if rules site None s = s
freed_if rules site (Some owner) s = owner_freed rules site owner s

-- nothing is done where no owned object has the address
unfoldable pub free : Rules → (address site : ℕ) → HeapState → HeapState
free rules address site s = freed_if rules site (owner_of s.history.objects address) (called s)

-- ---- realloc

-- so many bytes from one address stand at another
abbrev pub copied : (from to len : ℕ) → Memory → Memory
copied from to len memory = with_bytes memory to (unwrap_or (span memory.bytes from len) [])

-- the bytes of the old object are copied to the new one, and the old one is freed
abbrev pub moved : Rules → (size site : ℕ) → Owner → HeapState → Result ℕ HeapRefusal → Outcome
moved rules size site owner s (Ok address) =
    answers address (owner_freed rules site owner (record s { memory = copied (address_of owner.object) address (min owner.object.size size) s.memory }))
moved rules size site owner s (Err refusal) = record { state = s; answer = Err refusal }

abbrev pub replaced : Rules → (size site : ℕ) → Owner → Outcome → Outcome
replaced rules size site owner outcome = moved rules size site owner outcome.state outcome.answer

-- a size above the limit answers 0, and so does an address that no owned object has
abbrev pub resized : Rules → (size site : ℕ) → HeapState → Option Owner → Outcome
resized rules size site s None = answers 0 s
resized rules size site s (Some owner) =
    if nat_lt size_limit size then answers 0 s else replaced rules size site owner (place (request rules usual size site) rules.zero s)

unfoldable pub realloc : Rules → (old size site : ℕ) → HeapState → Outcome
realloc rules old size site s =
    if old == 0 then allocate rules rules.zero usual size site (called s) else resized rules size site (called s) (owner_of s.history.objects old)

-- ---- the end

abbrev pub end_signal_if : HeapState → Slot → Option Signal
end_signal_if s t = if is_free_state t.state then option_map (signal_at End s.memory) (break_in s t.addr t.class) else None

abbrev pub end_signal : HeapState → Option Slot → Option Signal
end_signal s None = None
end_signal s (Some t) = end_signal_if s t

-- each free slot whose canary is broken, in order of address
unfoldable pub end_signals : HeapState → List Signal
end_signals s = filter_map (λ slot. end_signal s (slot_at (slots_of s.history) slot)) (all_slots (minis s.history.classes))

-- the check at the end is made once. Its slots stay free
unfoldable pub check_end : HeapState → History
check_end s = if s.history.ended then s.history else record s.history { signals = s.history.signals ++ end_signals s; ended = true }
