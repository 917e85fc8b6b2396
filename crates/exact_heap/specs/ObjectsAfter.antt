-- The objects after each heap call (docs/heap.md, "Calls").
use Rattle.std.specs.Prelude.{◌≡◌, ℕ, ◌+◌, ◌*◌, ◌==◌, max, Bool, true, false, not, ◌||◌, nat_lt, List, [], ◌∷◌, ◌++◌, length, map, slice_get, Option, None, Some, Result, Ok, Err, if◌then◌else◌}
use Rattle.std.specs.Option.{option_map}
use Rattle.std.specs.FinSet.{contains}
use Rattle.exact_heap.specs.declared.parts.Request.{Request}
use Rattle.exact_heap.specs.declared.signal.HeapRefusal.{HeapRefusal}
use Rattle.exact_heap.specs.declared.signal.HeapRefusal.TheVariants.{Room, Memory as NoMemory}
use Rattle.exact_heap.specs.History.{Object, held_by}
use Rattle.exact_heap.specs.Owners.{Owner, owner_of, changed_at}
use Rattle.exact_heap.specs.Placing.{HeapState, Rules, Outcome, request, new_object, released_object}
use Rattle.exact_heap.specs.Freeing.{freed_object, deferral_of}
use Rattle.exact_heap.specs.Calls.{usual, size_limit, is_alignment, malloc, memalign, calloc, free, realloc}
use Rattle.exact_heap.specs.Lawful.{IsLawful}

-- ---- one object more, and one freed

-- each object that is due at the clock with the new object is released, and the new one is the last
abbrev pub with_new : List Object → Object → List Object
with_new objects new = map (released_object (length objects + 1)) objects ++ new ∷ []

-- the new object has the number of objects before it
abbrev pub AddsOne : Type 0
AddsOne = (new : Object) (n : ℕ) (objects : List Object) → slice_get (with_new objects new) n ≡ (if n == length objects then Some new else option_map (released_object (length objects + 1)) (slice_get objects n))

abbrev pub CountsOneMore : Type 0
CountsOneMore = (new : Object) (objects : List Object) → length (with_new objects new) ≡ length objects + 1

-- the owner's object alone is another: the clock is the number of objects
abbrev pub with_freed : Rules → (site : ℕ) → Owner → List Object → List Object
with_freed rules site owner objects = changed_at (freed_object (length objects) (deferral_of rules owner.object site) site) owner.number objects

-- a change by number is a change of the object of that number
abbrev pub ChangesOne : Type 0
ChangesOne = (f : Object → Object) (number n : ℕ) (objects : List Object) → slice_get (changed_at f number objects) n ≡ (if n == number then option_map f (slice_get objects n) else slice_get objects n)

abbrev pub KeepsCount : Type 0
KeepsCount = (f : Object → Object) (number : ℕ) (objects : List Object) → length (changed_at f number objects) ≡ length objects

-- ---- placement

-- the new object has a slot that no object held, and its address is the answer
pub record PlacesNew (r : Request) (before after : HeapState) (answer : ℕ) : Type 0 where
  pub slot : ℕ
  pub address : answer ≡ slot + r.front
  pub unheld : contains (held_by before.history.objects) slot ≡ false
  pub objects : after.history.objects ≡ with_new before.history.objects (new_object r slot)

-- and there is none where there is no room
abbrev pub PlaceEnds : Request → (before after : HeapState) → Result ℕ HeapRefusal → Type 0
PlaceEnds r before after (Ok answer) = PlacesNew r before after answer
PlaceEnds r before after (Err (Room used wanted)) = after.history.objects ≡ before.history.objects
PlaceEnds r before after (Err NoMemory) = ⊥

-- what is refused answers 0 and leaves the objects as they are
pub record LeavesObjects (before : HeapState) (outcome : Outcome) : Type 0 where
  pub answer : outcome.answer ≡ Ok 0
  pub objects : outcome.state.history.objects ≡ before.history.objects

abbrev pub AllocationEnds : (refused : Bool) → Request → HeapState → Outcome → Type 0
AllocationEnds true r s outcome = LeavesObjects s outcome
AllocationEnds false r s outcome = PlaceEnds r s outcome.state outcome.answer

abbrev pub MallocEnds : Type 0
MallocEnds = (rules : Rules) (size site : ℕ) (s : HeapState) → IsLawful s.history → AllocationEnds (nat_lt size_limit size) (request rules usual size site) s (malloc rules size site s)

abbrev pub MemalignEnds : Type 0
MemalignEnds =
    (rules : Rules) (align size site : ℕ) (s : HeapState) → IsLawful s.history
    → AllocationEnds (not (is_alignment align) || nat_lt size_limit size) (request rules (max align usual) size site) s (memalign rules align size site s)

abbrev pub CallocEnds : Type 0
CallocEnds =
    (rules : Rules) (count each site : ℕ) (s : HeapState) → IsLawful s.history
    → AllocationEnds (nat_lt size_limit (count * each)) (request rules usual (count * each) site) s (calloc rules count each site s)

-- ---- free

-- where no owned object has the address, nothing changes
abbrev pub objects_freed : Rules → (site : ℕ) → Option Owner → List Object → List Object
objects_freed rules site None objects = objects
objects_freed rules site (Some owner) objects = with_freed rules site owner objects

abbrev pub FreeEnds : Type 0
FreeEnds =
    (rules : Rules) (address site : ℕ) (s : HeapState) → IsLawful s.history
    → (free rules address site s).history.objects ≡ objects_freed rules site (owner_of s.history.objects address) s.history.objects

-- ---- realloc

-- the new object is placed, and then the old one is freed
pub record Replaces (rules : Rules) (site : ℕ) (owner : Owner) (r : Request) (before after : HeapState) (answer : ℕ) : Type 0 where
  pub slot : ℕ
  pub address : answer ≡ slot + r.front
  pub unheld : contains (held_by before.history.objects) slot ≡ false
  pub objects : after.history.objects ≡ with_freed rules site owner (with_new before.history.objects (new_object r slot))

abbrev pub ReplaceEnds : Rules → (site : ℕ) → Owner → Request → (before after : HeapState) → Result ℕ HeapRefusal → Type 0
ReplaceEnds rules site owner r before after (Ok answer) = Replaces rules site owner r before after answer
ReplaceEnds rules site owner r before after (Err (Room used wanted)) = after.history.objects ≡ before.history.objects
ReplaceEnds rules site owner r before after (Err NoMemory) = ⊥

abbrev pub ResizeEnds : (refused : Bool) → Rules → (site : ℕ) → Option Owner → Request → HeapState → Outcome → Type 0
ResizeEnds refused rules site None r s outcome = LeavesObjects s outcome
ResizeEnds true rules site (Some owner) r s outcome = LeavesObjects s outcome
ResizeEnds false rules site (Some owner) r s outcome = ReplaceEnds rules site owner r s outcome.state outcome.answer

-- of address 0 it is malloc
abbrev pub ReallocEndsBy : (new refused : Bool) → Rules → (site : ℕ) → Option Owner → Request → HeapState → Outcome → Type 0
ReallocEndsBy true refused rules site owner r s outcome = AllocationEnds refused r s outcome
ReallocEndsBy false refused rules site owner r s outcome = ResizeEnds refused rules site owner r s outcome

abbrev pub ReallocEnds : Type 0
ReallocEnds =
    (rules : Rules) (old size site : ℕ) (s : HeapState) → IsLawful s.history
    → ReallocEndsBy (old == 0) (nat_lt size_limit size) rules site (owner_of s.history.objects old) (request rules usual size site) s (realloc rules old size site s)
