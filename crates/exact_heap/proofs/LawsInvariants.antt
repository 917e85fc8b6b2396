-- What every call keeps of the objects, where one more and one freed keep it.
use Rattle.std.proofs.Common.{◌≡◌, ℕ, ◌*◌, refl, sym, ◌∙◌, subst, Bool, true, false, not, ◌||◌, nat_eq, nat_lt, max, List, [], ◌∷◌, ◌++◌, length, Option, Some, None, Result, Ok, Err}
use Rattle.std.specs.FinSet.{contains}
use Rattle.miniheap.specs.Laws.{SlotLaws}
use Rattle.exact_heap.specs.declared.parts.Request.{Request}
use Rattle.exact_heap.specs.declared.signal.HeapRefusal.{HeapRefusal}
use Rattle.exact_heap.specs.declared.signal.HeapRefusal.TheVariants.{Room, Memory as NoMemory}
use Rattle.exact_heap.specs.History.{Object, held_by}
use Rattle.exact_heap.specs.Owners.{Owner, owner_of}
use Rattle.exact_heap.specs.Placing.{HeapState, Rules, Outcome, request, new_object}
use Rattle.exact_heap.specs.Calls.{usual, size_limit, is_alignment, malloc, memalign, calloc, free, realloc}
use Rattle.exact_heap.specs.Lawful.{AreApart, IsLawful}
use Rattle.exact_heap.specs.ObjectsAfter.{with_new, with_freed, PlaceEnds, AllocationEnds, objects_freed, ReplaceEnds, ResizeEnds, ReallocEndsBy}
use Rattle.exact_heap.proofs.Objects.{contains-held, not_held_none, apart_push}
use Rattle.exact_heap.proofs.LawsCalls.{owner_stays}
use Rattle.exact_heap.proofs.LawsFreed.{IsOwner, owner_found}
use Rattle.exact_heap.proofs.LawsPlacing.{apart_released}
use Rattle.exact_heap.proofs.LawsHeld.{new_last}
use Rattle.exact_heap.proofs.LawsObjects.{malloc_ends, memalign_ends, calloc_ends, free_ends, realloc_ends}

-- what holds of the objects stays with an object more, in a slot that none holds, and with the free of an owned one
pub record IsKeptBy (rules : Rules) (P : List Object → Type 0) : Type 0 where
  pub new : (align size site slot : ℕ) (os : List Object) → AreApart os → contains (held_by os) slot ≡ false → P os → P (with_new os (new_object (request rules align size site) slot))
  pub freed : (site : ℕ) (w : Owner) (os : List Object) → AreApart os → IsOwner os w → P os → P (with_freed rules site w os)

-- ---- the objects with a new one

new_apart : (r : Request) (slot : ℕ) (os : List Object) → AreApart os → contains (held_by os) slot ≡ false → AreApart (with_new os (new_object r slot))
new_apart r slot os h none =
    subst AreApart (new_last r slot os)
    (apart_released (length (os ++ new_object r slot ∷ [])) (os ++ new_object r slot ∷ []) (apart_push os (new_object r slot) (not_held_none slot os (sym (contains-held os slot) ∙ none)) h))

new_owner : (r : Request) (slot : ℕ) (os : List Object) (w : Owner) → IsOwner os w → IsOwner (with_new os (new_object r slot)) w
new_owner r slot os w k = subst (λ (xs : List Object). IsOwner xs w) (new_last r slot os) (owner_stays (length (os ++ new_object r slot ∷ [])) os (new_object r slot) w k)

-- ---- the calls

allocation_keeps : (rules : Rules) (P : List Object → Type 0) → IsKeptBy rules P → (refused : Bool) (align size site : ℕ) (s : HeapState) (o : Outcome) → AreApart s.history.objects → AllocationEnds refused (request rules align size site) s o → P s.history.objects → P o.state.history.objects
allocation_keeps rules P kept true align size site s o apart k h = subst P (sym k.objects) h
allocation_keeps rules P kept false align size site s o apart k h = at o.answer k
  where
    at : (a : Result ℕ HeapRefusal) → PlaceEnds (request rules align size site) s o.state a → P o.state.history.objects
    at (Ok answer) m = subst P (sym m.objects) (kept.new align size site m.slot s.history.objects apart m.unheld h)
    at (Err (Room used wanted)) m = subst P (sym m) h
    at (Err NoMemory) m = absurd m

pub malloc_keeps : SlotLaws → (rules : Rules) (P : List Object → Type 0) → IsKeptBy rules P → (size site : ℕ) (s : HeapState) → IsLawful s.history → P s.history.objects → P (malloc rules size site s).state.history.objects
malloc_keeps laws rules P kept size site s l h = allocation_keeps rules P kept (nat_lt size_limit size) usual size site s (malloc rules size site s) l.apart (malloc_ends laws rules size site s l) h

pub memalign_keeps : SlotLaws → (rules : Rules) (P : List Object → Type 0) → IsKeptBy rules P → (align size site : ℕ) (s : HeapState) → IsLawful s.history → P s.history.objects → P (memalign rules align size site s).state.history.objects
memalign_keeps laws rules P kept align size site s l h =
    allocation_keeps rules P kept (not (is_alignment align) || nat_lt size_limit size) (max align usual) size site s (memalign rules align size site s) l.apart (memalign_ends laws rules align size site s l) h

pub calloc_keeps : SlotLaws → (rules : Rules) (P : List Object → Type 0) → IsKeptBy rules P → (count each site : ℕ) (s : HeapState) → IsLawful s.history → P s.history.objects → P (calloc rules count each site s).state.history.objects
calloc_keeps laws rules P kept count each site s l h = allocation_keeps rules P kept (nat_lt size_limit (count * each)) usual (count * each) site s (calloc rules count each site s) l.apart (calloc_ends laws rules count each site s l) h

pub free_keeps : (rules : Rules) (P : List Object → Type 0) → IsKeptBy rules P → (address site : ℕ) (s : HeapState) → IsLawful s.history → P s.history.objects → P (free rules address site s).history.objects
free_keeps rules P kept address site s l h = subst P (sym (free_ends rules address site s l)) (at (owner_of s.history.objects address) refl)
  where
    at : (o : Option Owner) → owner_of s.history.objects address ≡ o → P (objects_freed rules site o s.history.objects)
    at None e = h
    at (Some w) e = kept.freed site w s.history.objects l.apart (owner_found s.history.objects address w e) h

replacement_keeps : (rules : Rules) (P : List Object → Type 0) → IsKeptBy rules P → (size site : ℕ) (w : Owner) (s t : HeapState) (a : Result ℕ HeapRefusal) → AreApart s.history.objects → IsOwner s.history.objects w
    → ReplaceEnds rules site w (request rules usual size site) s t a → P s.history.objects → P t.history.objects
replacement_keeps rules P kept size site w s t (Ok answer) apart own m h =
    let r : Request = request rules usual size site in
    let os : List Object = s.history.objects in
    subst P (sym m.objects) (kept.freed site w (with_new os (new_object r m.slot)) (new_apart r m.slot os apart m.unheld) (new_owner r m.slot os w own) (kept.new usual size site m.slot os apart m.unheld h))
replacement_keeps rules P kept size site w s t (Err (Room used wanted)) apart own m h = subst P (sym m) h
replacement_keeps rules P kept size site w s t (Err NoMemory) apart own m h = absurd m

resize_keeps : (rules : Rules) (P : List Object → Type 0) → IsKeptBy rules P → (refused : Bool) (size site : ℕ) (w : Option Owner) (s : HeapState) (o : Outcome) → AreApart s.history.objects → ((x : Owner) → w ≡ Some x → IsOwner s.history.objects x)
    → ResizeEnds refused rules site w (request rules usual size site) s o → P s.history.objects → P o.state.history.objects
resize_keeps rules P kept refused size site None s o apart own k h = subst P (sym k.objects) h
resize_keeps rules P kept true size site (Some w) s o apart own k h = subst P (sym k.objects) h
resize_keeps rules P kept false size site (Some w) s o apart own k h = replacement_keeps rules P kept size site w s o.state o.answer apart (own w refl) k h

pub realloc_keeps : SlotLaws → (rules : Rules) (P : List Object → Type 0) → IsKeptBy rules P → (old size site : ℕ) (s : HeapState) → IsLawful s.history → P s.history.objects → P (realloc rules old size site s).state.history.objects
realloc_keeps laws rules P kept old size site s l h = at (nat_eq old 0) (realloc_ends laws rules old size site s l)
  where
    at : (b : Bool) → ReallocEndsBy b (nat_lt size_limit size) rules site (owner_of s.history.objects old) (request rules usual size site) s (realloc rules old size site s) → P (realloc rules old size site s).state.history.objects
    at true k = allocation_keeps rules P kept (nat_lt size_limit size) usual size site s (realloc rules old size site s) l.apart k h
    at false k =
        resize_keeps rules P kept (nat_lt size_limit size) size site (owner_of s.history.objects old) s (realloc rules old size site s) l.apart (λ w e. owner_found s.history.objects old w e) k h
