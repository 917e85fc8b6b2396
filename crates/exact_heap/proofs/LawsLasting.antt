-- Heap calls keep each object's place and what was asked for.
use Rattle.std.proofs.Common.{◌≡◌, ℕ, zero, suc, ◌+◌, ◌^◌, ◌<◌, ◌≤◌, refl, ap, sym, ◌∙◌, subst, Bool, true, false, cond, arith, nat_eq, List, [], ◌∷◌, length, Option, Some, IsSomeAnd}
use Rattle.std.specs.Prelude.{slice_get}
use Rattle.std.specs.Option.{option_map}
use Rattle.std.proofs.lemmas.Bool.{true≢false, eqb-true, ne_eqb}
use Rattle.std.proofs.lemmas.Option.{same_Some, slice_get_within}
use Rattle.miniheap.specs.Laws.{SlotLaws}
use Rattle.exact_heap.specs.History.{Owned, Deferred, Released, Object, History, is_owned, is_held}
use Rattle.exact_heap.specs.Owners.{Owner, changed_at}
use Rattle.exact_heap.specs.Placing.{Rules, request, new_object, released_object}
use Rattle.exact_heap.specs.Freeing.{freed_state, freed_object, deferral_of}
use Rattle.exact_heap.specs.Calls.{malloc, memalign, calloc, free, realloc}
use Rattle.exact_heap.specs.Lasting.{Lasts, ObjectsLast, HoldersHeld, MallocKeepsObjects, MemalignKeepsObjects, CallocKeepsObjects, FreeKeepsObjects, ReallocKeepsObjects}
use Rattle.exact_heap.specs.ObjectsAfter.{with_new}
use Rattle.exact_heap.proofs.Timed.{owned_after}
use Rattle.exact_heap.proofs.LawsApart.{holder}
use Rattle.exact_heap.proofs.LawsFreed.{IsOwner}
use Rattle.exact_heap.proofs.LawsPlacing.{still_held}
use Rattle.exact_heap.proofs.LawsOneCall.{changed_at_length}
use Rattle.exact_heap.proofs.LawsObjects.{adds_one, counts_one_more, changes_one}
use Rattle.exact_heap.proofs.LawsOwned.{holds_at, owner_number}
use Rattle.exact_heap.proofs.LawsInvariants.{IsKeptBy, malloc_keeps, memalign_keeps, calloc_keeps, free_keeps, realloc_keeps}

-- a later object of that number
pub record Later (os : List Object) (n : ℕ) (o : Object) : Type 0 where
  pub object : Object
  pub found : slice_get os n ≡ Some object
  pub lasts : Lasts o object

pub record AllLast (before os : List Object) : Type 0 where
  pub count : length before ≤ length os
  pub each : (n : ℕ) (o : Object) → slice_get before n ≡ Some o → Later os n o

-- ---- one object

released_lasts : (clock : ℕ) (o p : Object) → Lasts o p → Lasts o (released_object clock p)
released_lasts clock o p k = record {
  slot = k.slot;
  front = k.front;
  alignment = k.alignment;
  class = k.class;
  size = k.size;
  site = k.site;
  owned = λ e. k.owned (sym (owned_after clock p.state) ∙ e);
  held = λ e. k.held (still_held clock p.state e);
}

not_owned : (clock deferral : ℕ) → is_owned (freed_state clock deferral) ≡ false
not_owned clock deferral = at (nat_eq deferral 0)
  where
    at : (b : Bool) → is_owned (cond b (Released clock) (Deferred (clock + deferral))) ≡ false
    at true = refl
    at false = refl

freed_lasts : (clock deferral site : ℕ) (o p : Object) → p.state ≡ Owned → Lasts o p → Lasts o (freed_object clock deferral site p)
freed_lasts clock deferral site o p owned k = record {
  slot = k.slot;
  front = k.front;
  alignment = k.alignment;
  class = k.class;
  size = k.size;
  site = k.site;
  owned = λ e. absurd (true≢false (sym e ∙ not_owned clock deferral));
  held = λ e. k.held (ap is_held owned);
}

-- ---- the objects

all_last : (os : List Object) → AllLast os os
all_last os = record {
  count = omega arith;
  each = λ n o e. record { object = o; found = e; lasts = record { slot = refl; front = refl; alignment = refl; class = refl; size = refl; site = refl; owned = λ h. h; held = λ h. h } };
}

last_with_new : (before os : List Object) (new : Object) → AllLast before os → AllLast before (with_new os new)
last_with_new before os new h = record {
  count = omega (arith, h.count, counts_one_more new os);
  each = λ n o e. later n o (h.each n o e);
}
  where
    later : (n : ℕ) (o : Object) → Later os n o → Later (with_new os new) n o
    later n o k =
        let other : nat_eq n (length os) ≡ false = ne_eqb n (length os) (λ q. omega (arith, q, slice_get_within os n k.object k.found)) in
        record {
          object = released_object (length os + 1) k.object;
          found = adds_one new n os ∙ ap (λ (b : Bool). cond b (Some new) (option_map (released_object (length os + 1)) (slice_get os n))) other ∙ ap (option_map (released_object (length os + 1))) k.found;
          lasts = released_lasts (length os + 1) o k.object k.lasts;
        }

last_with_freed : (before os : List Object) (clock deferral site : ℕ) (w : Owner) → IsOwner os w → AllLast before os → AllLast before (changed_at (freed_object clock deferral site) w.number os)
last_with_freed before os clock deferral site w own h = record {
  count = omega (arith, h.count, changed_at_length f w.number os);
  each = λ n o e. later n o (h.each n o e) (nat_eq n w.number) refl;
}
  where
    f : Object → Object
    f = freed_object clock deferral site

    later : (n : ℕ) (o : Object) → Later os n o → (b : Bool) → nat_eq n w.number ≡ b → Later (changed_at f w.number os) n o
    later n o k false q = record { object = k.object; found = changes_one f w.number n os ∙ ap (λ (b : Bool). cond b (option_map f (slice_get os n)) (slice_get os n)) q ∙ k.found; lasts = k.lasts }
    later n o k true q =
        let same : k.object ≡ w.object = same_Some k.object w.object (sym k.found ∙ ap (slice_get os) (eqb-true n w.number q) ∙ owner_number os w own) in
        record {
          object = f k.object;
          found = changes_one f w.number n os ∙ ap (λ (b : Bool). cond b (option_map f (slice_get os n)) (slice_get os n)) q ∙ ap (option_map f) k.found;
          lasts = freed_lasts clock deferral site o k.object (ap (λ (x : Object). x.state) same ∙ own.owned) k.lasts;
        }

last_kept : (rules : Rules) (before : List Object) → IsKeptBy rules (AllLast before)
last_kept rules before = record {
  new = λ align size site slot os apart none h. last_with_new before os (new_object (request rules align size site) slot) h;
  freed = λ site w os apart own h. last_with_freed before os (length os) (deferral_of rules w.object site) site w own h;
}

-- ---- the calls

outward : (before after : History) → AllLast before.objects after.objects → ObjectsLast before after
outward before after h = record {
  count = h.count;
  each = λ n o e. let k = h.each n o e in subst (λ (x : Option Object). IsSomeAnd x (Lasts o)) (sym k.found) k.lasts;
}

-- a number below the count has an object
record Numbered (os : List Object) (n : ℕ) : Type 0 where
  object : Object
  found : slice_get os n ≡ Some object

numbered : (os : List Object) (n : ℕ) → n < length os → Numbered os n
numbered [] n few = absurd (omega arith)
numbered (x ∷ os) zero few = record { object = x; found = refl }
numbered (x ∷ os) (suc n) few = let k = numbered os n (omega arith) in record { object = k.object; found = k.found }

pub holders_held : HoldersHeld
holders_held before after n a last few k =
    let x = holder after n a k in
    let o = numbered before.objects n few in
    let same : Lasts o.object x.object = subst (λ (y : Option Object). IsSomeAnd y (Lasts o.object)) x.found (last.each n o.object o.found) in
    holds_at before n a o.object o.found (same.held x.holds) (omega (arith, x.low, same.slot)) (omega (arith, x.high, same.slot, ap (λ (c : ℕ). 2 ^ c) same.class))

pub malloc_keeps_objects : SlotLaws → MallocKeepsObjects
malloc_keeps_objects laws rules size site s l = outward s.history (malloc rules size site s).state.history (malloc_keeps laws rules (AllLast s.history.objects) (last_kept rules s.history.objects) size site s l (all_last s.history.objects))

pub memalign_keeps_objects : SlotLaws → MemalignKeepsObjects
memalign_keeps_objects laws rules align size site s l =
    outward s.history (memalign rules align size site s).state.history (memalign_keeps laws rules (AllLast s.history.objects) (last_kept rules s.history.objects) align size site s l (all_last s.history.objects))

pub calloc_keeps_objects : SlotLaws → CallocKeepsObjects
calloc_keeps_objects laws rules count each site s l =
    outward s.history (calloc rules count each site s).state.history (calloc_keeps laws rules (AllLast s.history.objects) (last_kept rules s.history.objects) count each site s l (all_last s.history.objects))

pub free_keeps_objects : FreeKeepsObjects
free_keeps_objects rules address site s l = outward s.history (free rules address site s).history (free_keeps rules (AllLast s.history.objects) (last_kept rules s.history.objects) address site s l (all_last s.history.objects))

pub realloc_keeps_objects : SlotLaws → ReallocKeepsObjects
realloc_keeps_objects laws rules old size site s l =
    outward s.history (realloc rules old size site s).state.history (realloc_keeps laws rules (AllLast s.history.objects) (last_kept rules s.history.objects) old size site s l (all_last s.history.objects))
