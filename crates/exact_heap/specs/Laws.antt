-- Laws of a heap's history (docs/heap.md, "What always holds").
use Rattle.std.specs.Prelude.{◌≡◌, ℕ, ◌+◌, ◌%◌, ◌^◌, ◌<◌, ◌≤◌, ◌==◌, max, Bool, true, false, ◌&&◌, List, length, count_by, map, slice_get, Option, Some, is_some, IsSomeAnd, Result, Ok, Err}
use Rattle.std.specs.Option.{option_map}
use Rattle.std.specs.FinSet.{contains, empty}
use Rattle.diefast_canary.specs.Canary.{canary_byte}
use Rattle.rv_memory.specs.declared.space.Space.{Space}
use Rattle.rv_memory.specs.Memory.{Memory, IsBounded, IsIntact, KeepsTaken, can_write, with_bytes}
use Rattle.rv_memory.specs.Spaces.{memory_of, taken_of}
pub use Rattle.size_class.specs.Classes.{IsClass}
use Rattle.miniheap.specs.Layout.{heap_from, heap_limit, minis, class_slots}
use Rattle.miniheap.specs.Slots.{slot_at, must_grow, used_of, wanted_of, taken_count, end_of, IsFreeSlot}
use Rattle.miniheap.specs.declared.place.Slot.{Slot}
use Rattle.miniheap.specs.declared.place.SlotState.TheVariants.{Free, Held}
use Rattle.exact_heap.specs.declared.heap.Heap.{Heap}
use Rattle.exact_heap.specs.declared.parts.Request.{Request}
use Rattle.exact_heap.specs.declared.signal.HeapRefusal.{HeapRefusal}
use Rattle.exact_heap.specs.declared.signal.HeapRefusal.TheVariants.{Room, Memory as NoMemory}
use Rattle.exact_heap.specs.History.{Object, History, no_history, slot_of, address_of, holds_slot, held_by, slots_of, canary_in, clock_of}
use Rattle.exact_heap.specs.Owners.{owner_of}
use Rattle.exact_heap.specs.Placing.{HeapState, Rules, Outcome, search, search_from, room_left, place}
use Rattle.exact_heap.specs.Calls.{malloc, memalign, calloc, free, realloc, check_end}
use Rattle.exact_heap.specs.Heaps.{StandsFor, HasHome}
use Rattle.exact_heap.specs.Lawful.{IsTimed, IsLawful}

-- ---- slots that are held

-- the object of that number holds its slot, and the address lies in it
abbrev pub HoldsAt : History → (number address : ℕ) → Type 0
HoldsAt h number address = IsSomeAnd (slice_get h.objects number) (λ o. (holds_slot o ≡ true) × (slot_of o ≤ address) × (address < slot_of o + 2 ^ o.class))

-- an address lies in the slot of one object at most that holds it
abbrev pub HeldSlotsAreApart : Type 0
HeldSlotsAreApart = (h : History) (i j address : ℕ) → IsLawful h → HoldsAt h i address → HoldsAt h j address → i ≡ j

-- an object's slot lies within the miniheaps, at a multiple of 16, and the object fits it. Its address is a multiple of its alignment
pub record LiesWithin (h : History) (o : Object) : Type 0 where
  pub low : heap_from ≤ slot_of o
  pub high : slot_of o + 2 ^ o.class ≤ end_of (slots_of h)
  pub aligned : slot_of o % 16 ≡ 0
  pub fits : o.front + max 1 o.size ≤ 2 ^ o.class
  pub multiple : address_of o % o.alignment ≡ 0

abbrev pub ObjectsLieWithin : Type 0
ObjectsLieWithin = (h : History) (number : ℕ) → IsLawful h → (o : Object) → slice_get h.objects number ≡ Some o → LiesWithin h o

-- ---- slots of a class that are taken

-- an object holds a slot of a class
abbrev pub holds_in : (class : ℕ) → Object → Bool
holds_in class o = holds_slot o && o.class == class

-- how many slots of a class are bad
abbrev pub bad_count : History → (class : ℕ) → ℕ
bad_count h class = count_by (contains h.bad) (class_slots class (minis h.classes))

-- as many slots of a class are held or bad as objects hold one and as are bad
abbrev pub TakenAreCounted : Type 0
TakenAreCounted = (h : History) (class : ℕ) → IsLawful h → taken_count (slots_of h) class ≡ count_by (holds_in class) h.objects + bad_count h class

-- ---- slots that are found

-- a slot of a class is free: nothing holds it, and it isn't bad. Each of its bytes is the canary's
pub record IsWhole (s : HeapState) (class slot : ℕ) : Type 0 where
  pub free : IsFreeSlot (slots_of s.history) class slot
  pub unheld : contains (held_by s.history.objects) slot ≡ false
  pub good : contains s.history.bad slot ≡ false
  pub intact : IsIntact s.memory (canary_in s.history) slot (2 ^ class)

abbrev pub FindsWholeSlots : Type 0
FindsWholeSlots = (s : HeapState) (class slot : ℕ) → IsLawful s.history → IsClass class → (search class s).answer ≡ Ok slot → IsWhole (search class s).state class slot

-- and that is where an object is placed, its front behind the slot's address
abbrev pub PlacesInWholeSlots : Type 0
PlacesInWholeSlots = (s : HeapState) (r : Request) (zeroed : Bool) (slot : ℕ) → IsLawful s.history → IsClass r.class → (place r zeroed s).answer ≡ Ok (slot + r.front) → IsWhole (search r.class s).state r.class slot

-- a search adds and changes no object
abbrev pub SearchKeepsObjects : Type 0
SearchKeepsObjects = (s : HeapState) (class : ℕ) → IsLawful s.history → IsClass class → (search class s).state.history.objects ≡ s.history.objects

-- ---- the end of a placement

-- a class must grow, and what is used and what its next miniheap wants are more than a heap has
pub record LacksRoom (class : ℕ) (s : HeapState) (used wanted : ℕ) : Type 0 where
  pub grows : must_grow (slots_of s.history) class ≡ true
  pub used_is : used ≡ used_of (slots_of s.history)
  pub wanted_is : wanted ≡ wanted_of (slots_of s.history) class
  pub full : heap_limit < used + wanted

-- an address lies its front behind that of a slot of the class, which is held
pub record HasPlace (r : Request) (s : HeapState) (address : ℕ) : Type 0 where
  pub slot : Slot
  pub found : slot_at (slots_of s.history) slot.addr ≡ Some slot
  pub class : slot.class ≡ r.class
  pub held : slot.state ≡ Held
  pub behind : address ≡ slot.addr + r.front

-- a placement answers such an address, or that there is no room
abbrev pub EndsWith : Request → HeapState → Result ℕ HeapRefusal → Type 0
EndsWith r s (Ok address) = HasPlace r s address
EndsWith r s (Err (Room used wanted)) = LacksRoom r.class s used wanted
EndsWith r s (Err NoMemory) = ⊥

abbrev pub PlacementEnds : Type 0
PlacementEnds = (s : HeapState) (r : Request) (zeroed : Bool) → IsLawful s.history → IsClass r.class → EndsWith r (place r zeroed s).state (place r zeroed s).answer

-- a search has come to its end before its turns are used up: more turns change nothing
abbrev pub TurnsAreEnough : Type 0
TurnsAreEnough = (s : HeapState) (class turns : ℕ) → IsLawful s.history → IsClass class → room_left class (slots_of s.history) < turns → search_from turns class s ≡ search class s

-- ---- quiet heaps

-- each byte of every slot that is neither held nor bad is the canary's
abbrev pub FreeSlotsAreWhole : HeapState → Type 0
FreeSlotsAreWhole s = (address : ℕ) (t : Slot) → slot_at (slots_of s.history) address ≡ Some t → t.state ≡ Free → s.memory.bytes address ≡ Some (canary_byte (canary_in s.history) address)

-- as they are in a new heap, which has no slot
abbrev pub BeginsWhole : Type 0
BeginsWhole = (seed : ℕ) (memory : Memory) → FreeSlotsAreWhole (record { history = no_history seed; memory = memory })

-- nothing was signalled and no slot became bad, and the free slots are whole
pub record IsQuiet (before after : HeapState) : Type 0 where
  pub bad : after.history.bad ≡ before.history.bad
  pub signals : after.history.signals ≡ before.history.signals
  pub whole : FreeSlotsAreWhole after

abbrev pub PlacesQuietly : Type 0
PlacesQuietly = (s : HeapState) (r : Request) (zeroed : Bool) → IsLawful s.history → IsClass r.class → FreeSlotsAreWhole s → IsQuiet s (place r zeroed s).state

-- ---- quiet calls

-- a call of a lawful heap whose free slots are whole
abbrev pub IsQuietCall : (HeapState → HeapState) → Type 0
IsQuietCall call = (s : HeapState) → IsLawful s.history → FreeSlotsAreWhole s → IsQuiet s (call s)

abbrev pub MallocIsQuiet : Type 0
MallocIsQuiet = (rules : Rules) (size site : ℕ) → IsQuietCall (λ s. (malloc rules size site s).state)

abbrev pub MemalignIsQuiet : Type 0
MemalignIsQuiet = (rules : Rules) (align size site : ℕ) → IsQuietCall (λ s. (memalign rules align size site s).state)

abbrev pub CallocIsQuiet : Type 0
CallocIsQuiet = (rules : Rules) (count each site : ℕ) → IsQuietCall (λ s. (calloc rules count each site s).state)

abbrev pub FreeIsQuiet : Type 0
FreeIsQuiet = (rules : Rules) (address site : ℕ) → IsQuietCall (free rules address site)

abbrev pub ReallocIsQuiet : Type 0
ReallocIsQuiet = (rules : Rules) (old size site : ℕ) → IsQuietCall (λ s. (realloc rules old size site s).state)

abbrev pub EndIsQuiet : Type 0
EndIsQuiet = (s : HeapState) → FreeSlotsAreWhole s → (check_end s).signals ≡ s.history.signals

-- ---- other seeds

-- two heaps have the same miniheaps, and as many slots of the class that are held or bad
pub record IsAlike (class : ℕ) (s t : HeapState) : Type 0 where
  pub classes : s.history.classes ≡ t.history.classes
  pub taken : taken_count (slots_of s.history) class ≡ taken_count (slots_of t.history) class

-- both give a slot, or both meet want of room with the same two numbers
abbrev pub AnswerAlike : Result ℕ HeapRefusal → Result ℕ HeapRefusal → Type 0
AnswerAlike (Ok a) (Ok b) = Unit {0}
AnswerAlike (Ok a) (Err refusal) = ⊥
AnswerAlike (Err refusal) (Ok b) = ⊥
AnswerAlike (Err refusal) (Err other) = refusal ≡ other

pub record EndAlike (a b : Outcome) : Type 0 where
  pub answers : AnswerAlike a.answer b.answer
  pub classes : a.state.history.classes ≡ b.state.history.classes

-- whatever their seeds, their spent words and where their slots lie
abbrev pub PlacesAlike : Type 0
PlacesAlike = (s t : HeapState) (r : Request) (zeroed : Bool) → IsLawful s.history → IsLawful t.history → IsClass r.class → FreeSlotsAreWhole s → FreeSlotsAreWhole t → IsAlike r.class s t → EndAlike (place r zeroed s) (place r zeroed t)

-- ---- the same calls under other seeds

-- an object without its slot's address
abbrev pub unplaced : Object → Object
unplaced o = record o { slot = 0 }

-- the number of the object that is owned at an address
abbrev pub number_at : HeapState → (address : ℕ) → Option ℕ
number_at s address = option_map (λ w. w.number) (owner_of s.history.objects address)

-- a lawful heap whose free slots are whole and that has no bad slot
pub record IsUnharmed (s : HeapState) : Type 0 where
  pub lawful : IsLawful s.history
  pub whole : FreeSlotsAreWhole s
  pub good : s.history.bad ≡ empty

-- two such heaps have the same miniheaps, and the same objects but for their addresses
pub record AreIsomorphic (s t : HeapState) : Type 0 where
  pub one : IsUnharmed s
  pub other : IsUnharmed t
  pub classes : s.history.classes ≡ t.history.classes
  pub objects : map unplaced s.history.objects ≡ map unplaced t.history.objects

-- as new heaps have, whose seeds and memories may be any
abbrev pub BeginsIsomorphic : Type 0
BeginsIsomorphic = (seed other : ℕ) (m n : Memory) → AreIsomorphic (record { history = no_history seed; memory = m }) (record { history = no_history other; memory = n })

-- both answer addresses at which the same object is owned, or none, or both meet want of room with the same two numbers
abbrev pub AnswerSame : (s t : HeapState) → Result ℕ HeapRefusal → Result ℕ HeapRefusal → Type 0
AnswerSame s t (Ok a) (Ok b) = number_at s a ≡ number_at t b
AnswerSame s t (Ok a) (Err refusal) = ⊥
AnswerSame s t (Err refusal) (Ok b) = ⊥
AnswerSame s t (Err refusal) (Err other) = refusal ≡ other

pub record EndIsomorphic (a b : Outcome) : Type 0 where
  pub states : AreIsomorphic a.state b.state
  pub answers : AnswerSame a.state b.state a.answer b.answer

abbrev pub MallocIsSame : Type 0
MallocIsSame = (rules : Rules) (size site : ℕ) (s t : HeapState) → AreIsomorphic s t → EndIsomorphic (malloc rules size site s) (malloc rules size site t)

abbrev pub MemalignIsSame : Type 0
MemalignIsSame = (rules : Rules) (align size site : ℕ) (s t : HeapState) → AreIsomorphic s t → EndIsomorphic (memalign rules align size site s) (memalign rules align size site t)

abbrev pub CallocIsSame : Type 0
CallocIsSame = (rules : Rules) (count each site : ℕ) (s t : HeapState) → AreIsomorphic s t → EndIsomorphic (calloc rules count each site s) (calloc rules count each site t)

-- the addresses are those of the same object, or of none
abbrev pub FreeIsSame : Type 0
FreeIsSame = (rules : Rules) (a b site : ℕ) (s t : HeapState) → AreIsomorphic s t → number_at s a ≡ number_at t b → AreIsomorphic (free rules a site s) (free rules b site t)

abbrev pub ReallocIsSame : Type 0
ReallocIsSame = (rules : Rules) (a b size site : ℕ) (s t : HeapState) → AreIsomorphic s t → number_at s a ≡ number_at t b → (a == 0) ≡ (b == 0) → EndIsomorphic (realloc rules a size site s) (realloc rules b size site t)

-- ---- lawful histories

-- a call keeps a history lawful
abbrev pub KeepsLawful : (HeapState → History) → Type 0
KeepsLawful call = (s : HeapState) → IsLawful s.history → IsLawful (call s)

abbrev pub BeginsLawful : Type 0
BeginsLawful = (seed : ℕ) → IsLawful (no_history seed)

abbrev pub MallocIsLawful : Type 0
MallocIsLawful = (rules : Rules) (size site : ℕ) → KeepsLawful (λ s. (malloc rules size site s).state.history)

abbrev pub MemalignIsLawful : Type 0
MemalignIsLawful = (rules : Rules) (align size site : ℕ) → KeepsLawful (λ s. (memalign rules align size site s).state.history)

abbrev pub CallocIsLawful : Type 0
CallocIsLawful = (rules : Rules) (count each site : ℕ) → KeepsLawful (λ s. (calloc rules count each site s).state.history)

abbrev pub FreeIsLawful : Type 0
FreeIsLawful = (rules : Rules) (address site : ℕ) → KeepsLawful (λ s. (free rules address site s).history)

abbrev pub ReallocIsLawful : Type 0
ReallocIsLawful = (rules : Rules) (old size site : ℕ) → KeepsLawful (λ s. (realloc rules old size site s).state.history)

abbrev pub EndIsLawful : Type 0
EndIsLawful = KeepsLawful check_end

-- An owned object has neither a site nor a clock of a free. One that was freed has the clock at that time, which is above the object's
-- number and at most the clock
abbrev pub ObjectsAreTimed : Type 0
ObjectsAreTimed = (h : History) (number : ℕ) (o : Object) → IsLawful h → slice_get h.objects number ≡ Some o → IsTimed (clock_of h) number o

-- what a heap stands for is lawful
abbrev pub HeapsAreLawful : Type 0
HeapsAreLawful = (heap : Heap) (h : History) → StandsFor heap h → IsLawful h

-- ---- the guest's memory

-- bytes that the guest may store keep what the heap asks of its memory
abbrev pub StoresKeepHome : Type 0
StoresKeepHome = (heap : Heap) (old new : Space) (from : ℕ) (bytes : List ℕ) → IsBounded (memory_of old) → can_write (memory_of old) from (length bytes) ≡ true
    → memory_of new ≡ with_bytes (memory_of old) from bytes → KeepsTaken (taken_of old) (taken_of new) → HasHome heap old → HasHome heap new

-- where in the heap region the same is mapped and writable as before, the memory keeps what the heap asks of it
abbrev pub MappingKeepsHome : Type 0
MappingKeepsHome = (heap : Heap) (old new : Space) → ((a : ℕ) → heap_from ≤ a → a < 2 ^ 31 → is_some ((memory_of new).bytes a) ≡ is_some ((memory_of old).bytes a))
    → ((a : ℕ) → heap_from ≤ a → a < 2 ^ 31 → (memory_of new).writable a ≡ (memory_of old).writable a) → KeepsTaken (taken_of old) (taken_of new) → HasHome heap old → HasHome heap new
