-- What patches decide of objects, where they stay (docs/heap.md, "Placement" and "Free").
use Rattle.std.specs.Prelude.{◌≡◌, ℕ, ◌+◌, false, slice_get, Some}
use Rattle.patch_table.specs.Table.{Table}
use Rattle.exact_heap.specs.History.{ObjectState, Owned, Deferred, Released, Object, History, no_history}
use Rattle.exact_heap.specs.Placing.{HeapState, Rules, request}
use Rattle.exact_heap.specs.Freeing.{deferral_of}
use Rattle.exact_heap.specs.Calls.{malloc, memalign, calloc, free, realloc}
use Rattle.exact_heap.specs.Lawful.{IsLawful}

-- whether objects are set to zero plays no part
abbrev pub by_patches : Table → Rules
by_patches patches = record { patches = patches; zero = false }

-- an object's class and front are those of a request for its alignment and size at its site
pub record IsPlacedBy (patches : Table) (o : Object) : Type 0 where
  pub class : o.class ≡ (request (by_patches patches) o.alignment o.size o.site).class
  pub front : o.front ≡ (request (by_patches patches) o.alignment o.size o.site).front

-- the due of one that was freed is the clock of the free and the deferral of the object's two sites
abbrev pub IsDueBy : Table → Object → ObjectState → Type 0
IsDueBy patches o Owned = Unit {0}
IsDueBy patches o (Deferred due) = due ≡ o.freed + deferral_of (by_patches patches) o o.free_site
IsDueBy patches o (Released due) = due ≡ o.freed + deferral_of (by_patches patches) o o.free_site

-- every object is so
pub record FollowsPatches (patches : Table) (h : History) : Type 0 where
  pub placed : (number : ℕ) (o : Object) → slice_get h.objects number ≡ Some o → IsPlacedBy patches o
  pub due : (number : ℕ) (o : Object) → slice_get h.objects number ≡ Some o → IsDueBy patches o o.state

-- a call that goes by these patches keeps it so
abbrev pub CallFollowsPatches : Table → (HeapState → History) → Type 0
CallFollowsPatches patches call = (s : HeapState) → IsLawful s.history → FollowsPatches patches s.history → FollowsPatches patches (call s)

abbrev pub NewHeapFollowsPatches : Type 0
NewHeapFollowsPatches = (patches : Table) (seed : ℕ) → FollowsPatches patches (no_history seed)

abbrev pub MallocFollowsPatches : Type 0
MallocFollowsPatches = (rules : Rules) (size site : ℕ) → CallFollowsPatches rules.patches (λ s. (malloc rules size site s).state.history)

abbrev pub MemalignFollowsPatches : Type 0
MemalignFollowsPatches = (rules : Rules) (align size site : ℕ) → CallFollowsPatches rules.patches (λ s. (memalign rules align size site s).state.history)

abbrev pub CallocFollowsPatches : Type 0
CallocFollowsPatches = (rules : Rules) (count each site : ℕ) → CallFollowsPatches rules.patches (λ s. (calloc rules count each site s).state.history)

abbrev pub FreeFollowsPatches : Type 0
FreeFollowsPatches = (rules : Rules) (address site : ℕ) → CallFollowsPatches rules.patches (λ s. (free rules address site s).history)

abbrev pub ReallocFollowsPatches : Type 0
ReallocFollowsPatches = (rules : Rules) (old size site : ℕ) → CallFollowsPatches rules.patches (λ s. (realloc rules old size site s).state.history)
