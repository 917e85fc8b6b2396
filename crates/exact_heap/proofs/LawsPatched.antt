-- Patches that stay decide each object's class, front and due.
use Rattle.std.proofs.Common.{◌≡◌, ℕ, ◌+◌, refl, sym, subst, Bool, true, false, cond, arith, nat_eq, nat_le, List, length, Some}
use Rattle.std.specs.Prelude.{slice_get}
use Rattle.std.proofs.lemmas.Bool.{eqb-true}
use Rattle.patch_table.specs.Table.{Table}
use Rattle.miniheap.specs.Laws.{SlotLaws}
use Rattle.exact_heap.specs.History.{ObjectState, Owned, Deferred, Released, Object, History}
use Rattle.exact_heap.specs.Owners.{Owner}
use Rattle.exact_heap.specs.Placing.{Rules, request, new_object, after_due, released_object}
use Rattle.exact_heap.specs.Freeing.{freed_state, freed_object, deferral_of}
use Rattle.exact_heap.specs.Calls.{malloc, memalign, calloc, free, realloc}
use Rattle.exact_heap.specs.Patched.{IsPlacedBy, IsDueBy, FollowsPatches, NewHeapFollowsPatches, MallocFollowsPatches, MemalignFollowsPatches, CallocFollowsPatches, FreeFollowsPatches, ReallocFollowsPatches}
use Rattle.exact_heap.proofs.LawsFreed.{IsOwner}
use Rattle.exact_heap.proofs.LawsOwned.{owner_number}
use Rattle.exact_heap.proofs.LawsInvariants.{IsKeptBy, malloc_keeps, memalign_keeps, calloc_keeps, free_keeps, realloc_keeps}
use Rattle.exact_heap.proofs.LawsDues.{WithNew, Old, New, with_new_is, WithFreed, Stays, Freed, with_freed_is}

pub record Follows (patches : Table) (o : Object) : Type 0 where
  pub placed : IsPlacedBy patches o
  pub due : IsDueBy patches o o.state

abbrev AllFollow : Table → List Object → Type 0
AllFollow patches os = (n : ℕ) (o : Object) → slice_get os n ≡ Some o → Follows patches o

-- ---- one object

released_due : (patches : Table) (clock : ℕ) (o : Object) (x : ObjectState) → IsDueBy patches o x → IsDueBy patches (released_object clock o) (after_due clock x)
released_due patches clock o Owned h = tt
released_due patches clock o (Released due) h = h
released_due patches clock o (Deferred due) h = at (nat_le due clock)
  where
    at : (b : Bool) → IsDueBy patches (released_object clock o) (cond b (Released due) (Deferred due))
    at true = h
    at false = h

released_follows : (patches : Table) (clock : ℕ) (o : Object) → Follows patches o → Follows patches (released_object clock o)
released_follows patches clock o k = record { placed = record { class = k.placed.class; front = k.placed.front }; due = released_due patches clock o o.state k.due }

new_follows : (rules : Rules) (align size site slot : ℕ) → Follows rules.patches (new_object (request rules align size site) slot)
new_follows rules align size site slot = record { placed = record { class = refl; front = refl }; due = tt }

freed_due : (rules : Rules) (clock site : ℕ) (o : Object) → IsDueBy rules.patches (freed_object clock (deferral_of rules o site) site o) (freed_state clock (deferral_of rules o site))
freed_due rules clock site o = at (nat_eq (deferral_of rules o site) 0) refl
  where
    at : (b : Bool) → nat_eq (deferral_of rules o site) 0 ≡ b → IsDueBy rules.patches (freed_object clock (deferral_of rules o site) site o) (cond b (Released clock) (Deferred (clock + deferral_of rules o site)))
    at true e = let k : deferral_of rules o site ≡ 0 = eqb-true (deferral_of rules o site) 0 e in omega (arith, k)
    at false e = refl

freed_follows : (rules : Rules) (clock site : ℕ) (o : Object) → Follows rules.patches o → Follows rules.patches (freed_object clock (deferral_of rules o site) site o)
freed_follows rules clock site o k = record { placed = record { class = k.placed.class; front = k.placed.front }; due = freed_due rules clock site o }

-- ---- the objects

follows_kept : (rules : Rules) → IsKeptBy rules (AllFollow rules.patches)
follows_kept rules = record {
  new = λ align size site slot os apart none h n x e. more align size site slot os h n x (with_new_is os (new_object (request rules align size site) slot) n x e);
  freed = λ site w os apart k h n x e. less site w os k h n x (with_freed_is (freed_object (length os) (deferral_of rules w.object site) site) w os k n x e);
}
  where
    more : (align size site slot : ℕ) (os : List Object) → AllFollow rules.patches os → (n : ℕ) (x : Object) → WithNew os (new_object (request rules align size site) slot) n x → Follows rules.patches x
    more align size site slot os h n x (Old o e q) = subst (Follows rules.patches) (sym q) (released_follows rules.patches (length os + 1) o (h n o e))
    more align size site slot os h n x (New q) = subst (Follows rules.patches) (sym q) (new_follows rules align size site slot)

    less : (site : ℕ) (w : Owner) (os : List Object) → IsOwner os w → AllFollow rules.patches os → (n : ℕ) (x : Object) → WithFreed (freed_object (length os) (deferral_of rules w.object site) site) w os n x → Follows rules.patches x
    less site w os k h n x (Stays m e) = h n x e
    less site w os k h n x (Freed m q) = subst (Follows rules.patches) (sym q) (freed_follows rules (length os) site w.object (h w.number w.object (owner_number os w k)))

inward : (patches : Table) (h : History) → FollowsPatches patches h → AllFollow patches h.objects
inward patches h k n o e = record { placed = k.placed n o e; due = k.due n o e }

outward : (patches : Table) (h : History) → AllFollow patches h.objects → FollowsPatches patches h
outward patches h k = record { placed = λ n o e. (k n o e).placed; due = λ n o e. (k n o e).due }

-- ---- the calls

pub new_heap_follows_patches : NewHeapFollowsPatches
new_heap_follows_patches patches seed = record { placed = λ n o e. absurd (cc); due = λ n o e. absurd (cc) }

pub malloc_follows_patches : SlotLaws → MallocFollowsPatches
malloc_follows_patches laws rules size site s l k = outward rules.patches (malloc rules size site s).state.history (malloc_keeps laws rules (AllFollow rules.patches) (follows_kept rules) size site s l (inward rules.patches s.history k))

pub memalign_follows_patches : SlotLaws → MemalignFollowsPatches
memalign_follows_patches laws rules align size site s l k =
    outward rules.patches (memalign rules align size site s).state.history (memalign_keeps laws rules (AllFollow rules.patches) (follows_kept rules) align size site s l (inward rules.patches s.history k))

pub calloc_follows_patches : SlotLaws → CallocFollowsPatches
calloc_follows_patches laws rules count each site s l k =
    outward rules.patches (calloc rules count each site s).state.history (calloc_keeps laws rules (AllFollow rules.patches) (follows_kept rules) count each site s l (inward rules.patches s.history k))

pub free_follows_patches : FreeFollowsPatches
free_follows_patches rules address site s l k = outward rules.patches (free rules address site s).history (free_keeps rules (AllFollow rules.patches) (follows_kept rules) address site s l (inward rules.patches s.history k))

pub realloc_follows_patches : SlotLaws → ReallocFollowsPatches
realloc_follows_patches laws rules old size site s l k =
    outward rules.patches (realloc rules old size site s).state.history (realloc_keeps laws rules (AllFollow rules.patches) (follows_kept rules) old size site s l (inward rules.patches s.history k))
