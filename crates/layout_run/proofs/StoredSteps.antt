-- What a step of a run does to the bytes of slots that no object holds, and to the signals.
use Rattle.std.proofs.Common.{◌≡◌, ℕ, zero, suc, ◌+◌, ◌-◌, ◌%◌, Bool, true, false, cond, ◌==◌, ◌⊎◌, inl, inr, List, [], ◌∷◌, ◌++◌, length, Option, None, Some, Result, Ok, Err, refl, ap, sym, ◌∙◌, subst}
use Rattle.std.specs.Prelude.{slice_get}
use Rattle.std.specs.List.{AllByRecursion}
use Rattle.std.proofs.lemmas.Option.{same_Some}
use Rattle.infinite_heap.specs.declared.fault.FaultKind.TheVariants as fault
use Rattle.infinite_heap.specs.declared.program.HeapCall.{HeapCall}
use Rattle.infinite_heap.specs.declared.program.HeapCall.TheVariants.{Malloc, Free, Calloc, Realloc, Memalign, AlignedAlloc, MallocR, FreeR, CallocR, ReallocR, MemalignR}
use Rattle.infinite_heap.specs.CallSite.{site_of}
use Rattle.infinite_heap.specs.InfiniteHeap.{call_at}
use Rattle.infinite_heap.specs.InfiniteSystem.{taken}
use Rattle.patch_table.specs.Table.{Table}
use Rattle.exact_heap.specs.declared.signal.HeapRefusal.{HeapRefusal}
use Rattle.exact_heap.specs.declared.signal.HeapRefusal.TheVariants.{Room, Memory as NoMemory}
use Rattle.exact_heap.specs.declared.signal.Signal.{Signal}
use Rattle.exact_heap.specs.Calls.{malloc, calloc, realloc, free, memalign}
use Rattle.exact_heap.specs.Lawful.{IsLawful}
use Rattle.exact_heap.specs.Placing.{HeapState, Outcome}
use Rattle.exact_heap.specs.Laws.{BeginsLawful, MallocIsLawful, CallocIsLawful, MemalignIsLawful, FreeIsLawful, ReallocIsLawful}
use Rattle.exact_heap.specs.Unowned.{IsUnownedAt, IsFreshAt, IsSeen, LeavesUnowned, IsOneCall, MallocIsOneCall, CallocIsOneCall, MemalignIsOneCall, FreeIsOneCall, ReallocIsOneCall, MallocLeavesUnowned, CallocLeavesUnowned, MemalignLeavesUnowned, FreeLeavesUnowned, ReallocLeavesUnowned, EndLeavesUnowned}
use Rattle.miniheap.specs.Laws.{SlotsHoldTheirAddresses}
use Rattle.rv_machine.specs.declared.ended.Ended.{Ended}
use Rattle.rv_machine.specs.Core.{Next, Goes, Faults, Reads, Prints, Exits, Stays, register}
use Rattle.rv_machine.specs.Flat.{Flat, with_guest, carried, after_step}
use Rattle.rv_machine.specs.Guest.{Guest, heap_of, with_patches}
use Rattle.rv_machine.specs.HeapCalls.{GuestNext, Carries, answered, answers, frees, called, call_from, guest_next_at, guest_next_of}
use Rattle.rv_machine.specs.Steps.{next}
use Rattle.layout_run.specs.Stored.{IsStep, WritesBy, WritesNext, Writes}
use Rattle.layout_run.proofs.StoredBytes.{Puts, PutsNext, puts_bytes, puts_next}

-- what the heap's laws say of its calls
pub record HeapLaws : Type 0 where
  pub begins : BeginsLawful
  pub malloc_lawful : MallocIsLawful
  pub calloc_lawful : CallocIsLawful
  pub memalign_lawful : MemalignIsLawful
  pub free_lawful : FreeIsLawful
  pub realloc_lawful : ReallocIsLawful
  pub malloc_one : MallocIsOneCall
  pub calloc_one : CallocIsOneCall
  pub memalign_one : MemalignIsOneCall
  pub free_one : FreeIsOneCall
  pub realloc_one : ReallocIsOneCall
  pub malloc_leaves : MallocLeavesUnowned
  pub calloc_leaves : CallocLeavesUnowned
  pub memalign_leaves : MemalignLeavesUnowned
  pub free_leaves : FreeLeavesUnowned
  pub realloc_leaves : ReallocLeavesUnowned
  pub end_leaves : EndLeavesUnowned
  pub hold : SlotsHoldTheirAddresses

-- ---- what a step does

-- an unowned address was unowned before, and is written or has its byte still; or its slot was made or filled by this step
abbrev pub Keeps : (writes : ℕ → Type 0) → (before after : HeapState) → (address : ℕ) → Type 0
Keeps writes before after address =
    (IsUnownedAt before.history address × Puts (writes address) (before.memory.bytes address) (after.memory.bytes address)) ⊎ ((¬ (IsUnownedAt before.history address)) × IsFreshAt after address)

-- a signal that this step adds is one of a heap call, which writes nothing
pub record IsNew (writes : ℕ → Type 0) (before after : HeapState) (signal : Signal) : Type 0 where
  pub seen : IsSeen before after signal
  pub calls : after.history.calls ≡ before.history.calls + 1
  pub quiet : (address : ℕ) → ¬ (writes address)

abbrev pub OldOrNew : (writes : ℕ → Type 0) → (before after : HeapState) → (k : ℕ) → Signal → Type 0
OldOrNew writes before after k signal = (slice_get before.history.signals k ≡ Some signal) ⊎ IsNew writes before after signal

pub record IsDone (writes : ℕ → Type 0) (before after : HeapState) : Type 0 where
  pub lawful : IsLawful after.history
  pub seed : after.history.seed ≡ before.history.seed
  pub slots : (address : ℕ) → IsUnownedAt after.history address → Keeps writes before after address
  pub signals : (k : ℕ) (signal : Signal) → slice_get after.history.signals k ≡ Some signal → OldOrNew writes before after k signal

-- ---- the step, before which the patches may have been raised

-- the same guest with other patches
abbrev pub raised : Flat → Table → Flat
raised flat patches = with_guest flat (with_patches flat.guest patches)

abbrev IsDoneBy : (input : List ℕ) → Flat → Table → (n m : GuestNext) → Type 0
IsDoneBy input flat patches n m = IsDone (WritesNext input flat n) (heap_of flat.guest) (heap_of (after_step input (raised flat patches) m).guest)

-- ---- instructions

-- bytes alone are written
done_memory : (writes : ℕ → Type 0) (before after : HeapState) → IsLawful before.history → after.history ≡ before.history → ((address : ℕ) → Puts (writes address) (before.memory.bytes address) (after.memory.bytes address)) → IsDone writes before after
done_memory writes before after l same puts = record {
  lawful = subst IsLawful (sym same) l;
  seed = ap (λ h. h.seed) same;
  slots = λ a u. inl (subst (λ h. IsUnownedAt h a) same u, puts a);
  signals = λ k signal e. inl (ap (λ h. slice_get h.signals k) (sym same) ∙ e);
}

done_carried : (input : List ℕ) (flat : Flat) (patches : Table) (n : Next) → IsLawful flat.guest.history → PutsNext flat.guest.core n → IsDoneBy input flat patches (Carries n) (Carries n)
done_carried input flat patches n l puts = done_memory (WritesBy input flat n) (heap_of flat.guest) (heap_of (carried input (raised flat patches) n).guest) l (same n) (each_put n puts)
  where
    same : (m : Next) → (carried input (raised flat patches) m).guest.history ≡ flat.guest.history
    same (Goes core) = refl
    same (Faults kind at) = refl
    same (Reads from len) = refl
    same (Prints fd from len bytes core) = refl
    same (Exits code core) = refl
    same (Stays ended) = refl

    each_put : (m : Next) → PutsNext flat.guest.core m → (a : ℕ) → Puts (WritesBy input flat m a) (flat.guest.core.memory.bytes a) ((carried input (raised flat patches) m).guest.core.memory.bytes a)
    each_put (Goes core) puts a = puts a
    each_put (Faults kind at) puts a = inr (λ w. w, refl)
    each_put (Reads from len) puts a = puts_bytes flat.guest.core.memory from (length (taken input flat.place len)) (taken input flat.place len) refl a
    each_put (Prints fd from len bytes core) puts a = inr (λ w. w, puts a)
    each_put (Exits code core) puts a = inr (λ w. w, puts a)
    each_put (Stays ended) puts a = inr (λ w. w, refl)

-- ---- heap calls

got_each : {A : Type 0} (P : A → Type 0) (xs : List A) (k : ℕ) (x : A) → AllByRecursion P xs → slice_get xs k ≡ Some x → P x
got_each P [] k x h e = absurd (cc)
got_each P (y ∷ ys) zero x h e = subst P (same_Some y x e) h.0
got_each P (y ∷ ys) (suc k) x h e = got_each P ys k x h.1 e

-- an element of a list and another behind it, of which each has a property
pub got_behind : {A : Type 0} (P : A → Type 0) (xs added : List A) (k : ℕ) (x : A) → AllByRecursion P added → slice_get (xs ++ added) k ≡ Some x → (slice_get xs k ≡ Some x) ⊎ P x
got_behind P [] added k x h e = inr (got_each P added k x h e)
got_behind P (y ∷ xs) added zero x h e = inl e
got_behind P (y ∷ xs) added (suc k) x h e = got_behind P xs added k x h e

done_call : (writes : ℕ → Type 0) (before after : HeapState) → ((address : ℕ) → ¬ (writes address)) → IsLawful after.history → LeavesUnowned before after → IsOneCall before after → IsDone writes before after
done_call writes before after quiet l leaves one = record {
  lawful = l;
  seed = one.seed;
  slots = λ a u. slot_kept a (leaves.slots a u);
  signals = λ k signal e. signal_new k signal (got_behind (IsSeen before after) before.history.signals leaves.signals.added k signal leaves.signals.seen (ap (λ (xs : List Signal). slice_get xs k) (sym leaves.signals.behind) ∙ e));
}
  where
    slot_kept : (a : ℕ) → (IsUnownedAt before.history a × (after.memory.bytes a ≡ before.memory.bytes a)) ⊎ ((¬ (IsUnownedAt before.history a)) × IsFreshAt after a) → Keeps writes before after a
    slot_kept a (inl h) = inl (h.0, inr (quiet a, h.1))
    slot_kept a (inr h) = inr h

    signal_new : (k : ℕ) (signal : Signal) → (slice_get before.history.signals k ≡ Some signal) ⊎ IsSeen before after signal → OldOrNew writes before after k signal
    signal_new k signal (inl e) = inl e
    signal_new k signal (inr seen) = inr (record { seen = seen; calls = one.calls; quiet = quiet })

never_answered : (input : List ℕ) (flat : Flat) (g : Guest) (back : ℕ) (s : HeapState) (answer : Result ℕ HeapRefusal) (address : ℕ) → ¬ (WritesNext input flat (answered g back s answer) address)
never_answered input flat g back s (Ok a) address w = w
never_answered input flat g back s (Err (Room used wanted)) address w = w
never_answered input flat g back s (Err NoMemory) address w = w

-- an answer leaves the heap as the call does
done_answered : (input : List ℕ) (flat : Flat) (writes : ℕ → Type 0) (before : HeapState) (g : Guest) (back : ℕ) (s : HeapState) (answer : Result ℕ HeapRefusal) → IsDone writes before s → IsDone writes before (heap_of (after_step input flat (answered g back s answer)).guest)
done_answered input flat writes before g back s (Ok a) d = d
done_answered input flat writes before g back s (Err (Room used wanted)) d = d
done_answered input flat writes before g back s (Err NoMemory) d = d

done_placing : (input : List ℕ) (flat : Flat) (patches : Table) (back : ℕ) (o q : Outcome) → IsLawful q.state.history → LeavesUnowned (heap_of flat.guest) q.state → IsOneCall (heap_of flat.guest) q.state
    → IsDoneBy input flat patches (answered flat.guest back o.state o.answer) (answered (with_patches flat.guest patches) back q.state q.answer)
done_placing input flat patches back o q l leaves one =
    done_answered input (raised flat patches) (WritesNext input flat (answered flat.guest back o.state o.answer)) (heap_of flat.guest) (with_patches flat.guest patches) back q.state q.answer
    (done_call (WritesNext input flat (answered flat.guest back o.state o.answer)) (heap_of flat.guest) q.state (never_answered input flat flat.guest back o.state o.answer) l leaves one)

-- the calls with their arguments
abbrev called_malloc : Guest → (back size : ℕ) → GuestNext
called_malloc g back size = answers g back (malloc g.rules size (site_of g.core.calls) (heap_of g))

abbrev called_calloc : Guest → (back count each : ℕ) → GuestNext
called_calloc g back count each = answers g back (calloc g.rules count each (site_of g.core.calls) (heap_of g))

abbrev called_memalign : Guest → (back align size : ℕ) → GuestNext
called_memalign g back align size = answers g back (memalign g.rules align size (site_of g.core.calls) (heap_of g))

abbrev called_realloc : Guest → (back old size : ℕ) → GuestNext
called_realloc g back old size = answers g back (realloc g.rules old size (site_of g.core.calls) (heap_of g))

abbrev called_free : Guest → (back address : ℕ) → GuestNext
called_free g back address = frees g back (free g.rules address (site_of g.core.calls) (heap_of g))

done_malloc : HeapLaws → (input : List ℕ) (flat : Flat) (patches : Table) → IsLawful flat.guest.history → (back size : ℕ) → IsDoneBy input flat patches (called_malloc flat.guest back size) (called_malloc (with_patches flat.guest patches) back size)
done_malloc laws input flat patches l back size =
    let g : Guest = with_patches flat.guest patches in
    let s : HeapState = heap_of flat.guest in
    let site : ℕ = site_of flat.guest.core.calls in
    done_placing input flat patches back (malloc flat.guest.rules size site s) (malloc g.rules size site s) (laws.malloc_lawful g.rules size site s l) (laws.malloc_leaves g.rules size site s l) (laws.malloc_one g.rules size site s)

done_calloc : HeapLaws → (input : List ℕ) (flat : Flat) (patches : Table) → IsLawful flat.guest.history → (back count each : ℕ) → IsDoneBy input flat patches (called_calloc flat.guest back count each) (called_calloc (with_patches flat.guest patches) back count each)
done_calloc laws input flat patches l back count each =
    let g : Guest = with_patches flat.guest patches in
    let s : HeapState = heap_of flat.guest in
    let site : ℕ = site_of flat.guest.core.calls in
    done_placing input flat patches back (calloc flat.guest.rules count each site s) (calloc g.rules count each site s) (laws.calloc_lawful g.rules count each site s l) (laws.calloc_leaves g.rules count each site s l) (laws.calloc_one g.rules count each site s)

done_memalign : HeapLaws → (input : List ℕ) (flat : Flat) (patches : Table) → IsLawful flat.guest.history → (back align size : ℕ) → IsDoneBy input flat patches (called_memalign flat.guest back align size) (called_memalign (with_patches flat.guest patches) back align size)
done_memalign laws input flat patches l back align size =
    let g : Guest = with_patches flat.guest patches in
    let s : HeapState = heap_of flat.guest in
    let site : ℕ = site_of flat.guest.core.calls in
    done_placing input flat patches back (memalign flat.guest.rules align size site s) (memalign g.rules align size site s) (laws.memalign_lawful g.rules align size site s l) (laws.memalign_leaves g.rules align size site s l) (laws.memalign_one g.rules align size site s)

done_realloc : HeapLaws → (input : List ℕ) (flat : Flat) (patches : Table) → IsLawful flat.guest.history → (back old size : ℕ) → IsDoneBy input flat patches (called_realloc flat.guest back old size) (called_realloc (with_patches flat.guest patches) back old size)
done_realloc laws input flat patches l back old size =
    let g : Guest = with_patches flat.guest patches in
    let s : HeapState = heap_of flat.guest in
    let site : ℕ = site_of flat.guest.core.calls in
    done_placing input flat patches back (realloc flat.guest.rules old size site s) (realloc g.rules old size site s) (laws.realloc_lawful g.rules old size site s l) (laws.realloc_leaves g.rules old size site s l) (laws.realloc_one g.rules old size site s)

done_free : HeapLaws → (input : List ℕ) (flat : Flat) (patches : Table) → IsLawful flat.guest.history → (back address : ℕ) → IsDoneBy input flat patches (called_free flat.guest back address) (called_free (with_patches flat.guest patches) back address)
done_free laws input flat patches l back address =
    let g : Guest = with_patches flat.guest patches in
    let s : HeapState = heap_of flat.guest in
    let site : ℕ = site_of flat.guest.core.calls in
    done_call (WritesNext input flat (called_free flat.guest back address)) s (free g.rules address site s) (λ a w. w) (laws.free_lawful g.rules address site s l) (laws.free_leaves g.rules address site s l) (laws.free_one g.rules address site s)

done_called : HeapLaws → (input : List ℕ) (flat : Flat) (patches : Table) → IsLawful flat.guest.history → (back : ℕ) (function : HeapCall) → IsDoneBy input flat patches (called flat.guest back function) (called (with_patches flat.guest patches) back function)
done_called laws input flat patches l back Malloc = done_malloc laws input flat patches l back (register flat.guest.core 10)
done_called laws input flat patches l back MallocR = done_malloc laws input flat patches l back (register flat.guest.core 11)
done_called laws input flat patches l back Free = done_free laws input flat patches l back (register flat.guest.core 10)
done_called laws input flat patches l back FreeR = done_free laws input flat patches l back (register flat.guest.core 11)
done_called laws input flat patches l back Calloc = done_calloc laws input flat patches l back (register flat.guest.core 10) (register flat.guest.core 11)
done_called laws input flat patches l back CallocR = done_calloc laws input flat patches l back (register flat.guest.core 11) (register flat.guest.core 12)
done_called laws input flat patches l back Realloc = done_realloc laws input flat patches l back (register flat.guest.core 10) (register flat.guest.core 11)
done_called laws input flat patches l back ReallocR = done_realloc laws input flat patches l back (register flat.guest.core 11) (register flat.guest.core 12)
done_called laws input flat patches l back Memalign = done_memalign laws input flat patches l back (register flat.guest.core 10) (register flat.guest.core 11)
done_called laws input flat patches l back AlignedAlloc = done_memalign laws input flat patches l back (register flat.guest.core 10) (register flat.guest.core 11)
done_called laws input flat patches l back MemalignR = done_memalign laws input flat patches l back (register flat.guest.core 11) (register flat.guest.core 12)

done_from : HeapLaws → (input : List ℕ) (flat : Flat) (patches : Table) → IsLawful flat.guest.history → (back : ℕ) (function : HeapCall) → IsDoneBy input flat patches (call_from flat.guest back function) (call_from (with_patches flat.guest patches) back function)
done_from laws input flat patches l back function = at (back % 4 == 0)
  where
    at : (b : Bool) → IsDoneBy input flat patches (cond b (called flat.guest back function) (Carries (Faults fault.Jump back))) (cond b (called (with_patches flat.guest patches) back function) (Carries (Faults fault.Jump back)))
    at true = done_called laws input flat patches l back function
    at false = done_carried input flat patches (Faults fault.Jump back) l (λ a. tt)

done_at : HeapLaws → (input : List ℕ) (flat : Flat) (patches : Table) → IsLawful flat.guest.history → (function : Option HeapCall) → IsDoneBy input flat patches (guest_next_at flat.guest function) (guest_next_at (with_patches flat.guest patches) function)
done_at laws input flat patches l (Some function) = done_from laws input flat patches l (register flat.guest.core 1 - register flat.guest.core 1 % 2) function
done_at laws input flat patches l None = done_carried input flat patches (next flat.guest.core) l (puts_next flat.guest.core)

done_of : HeapLaws → (input : List ℕ) (flat : Flat) (patches : Table) → IsLawful flat.guest.history → (ended : Option Ended) → IsDoneBy input flat patches (guest_next_of flat.guest ended) (guest_next_of (with_patches flat.guest patches) ended)
done_of laws input flat patches l (Some ended) = done_carried input flat patches (Stays ended) l (λ a. tt)
done_of laws input flat patches l None = done_at laws input flat patches l (call_at flat.guest.names flat.guest.core.pc)

pub step_done : HeapLaws → (input : List ℕ) (before after : Flat) → IsStep input before after → IsLawful before.guest.history → IsDone (Writes input before) (heap_of before.guest) (heap_of after.guest)
step_done laws input before after step l = subst (λ (f : Flat). IsDone (Writes input before) (heap_of before.guest) (heap_of f.guest)) (sym step.steps) (done_of laws input before step.patches l before.guest.core.ended)
