-- Steps that signal nothing: heap calls, and instructions whose stores stay in the slots of their objects.
use Rattle.std.proofs.Common.{◌≡◌, ℕ, ◌-◌, ◌%◌, ◌^◌, ◌<◌, ◌≤◌, sym, ◌∙◌, subst, Bool, true, false, cond, arith, nat_eq, List, [], ◌∷◌, Some, Result, Ok, Err}
use Rattle.std.specs.Prelude.{⊤}
use Rattle.std.specs.FinSet.{empty}
use Rattle.std.proofs.lemmas.Bool.Decides.{nat_tests}
use Rattle.infinite_heap.specs.declared.access.AccessKind.{AccessKind}
use Rattle.infinite_heap.specs.declared.access.Record.{Record}
use Rattle.infinite_heap.specs.declared.fault.FaultKind.TheVariants as fault
use Rattle.infinite_heap.specs.declared.program.HeapCall.{HeapCall}
use Rattle.infinite_heap.specs.declared.program.HeapCall.TheVariants.{Malloc, Free, Calloc, Realloc, Memalign, AlignedAlloc, MallocR, FreeR, CallocR, ReallocR, MemalignR}
use Rattle.infinite_heap.specs.CallSite.{site_of}
use Rattle.infinite_heap.specs.Layout.{IsIn, IsHarmlessUse}
use Rattle.infinite_heap.specs.Region.{in_region}
use Rattle.rv_memory.specs.Memory.{Memory}
use Rattle.miniheap.specs.declared.place.Slot.{Slot}
use Rattle.miniheap.specs.declared.place.SlotState.TheVariants.{Free, Held}
use Rattle.miniheap.specs.Laws.{SlotsHoldTheirAddresses, SlotsLieWithin}
use Rattle.miniheap.specs.Slots.{slot_at}
use Rattle.exact_heap.specs.declared.signal.HeapRefusal.{HeapRefusal}
use Rattle.exact_heap.specs.declared.signal.HeapRefusal.TheVariants.{Room, Memory as NoMemory}
use Rattle.exact_heap.specs.Calls.{free}
use Rattle.exact_heap.specs.HeldSlots.{HoldersHaveHeldSlots}
use Rattle.exact_heap.specs.History.{History, slots_of}
use Rattle.exact_heap.specs.Lawful.{IsLawful}
use Rattle.exact_heap.specs.Laws as exact
use Rattle.exact_heap.specs.Laws.{HoldsAt, FreeSlotsAreWhole, MallocIsQuiet, MemalignIsQuiet, CallocIsQuiet, FreeIsQuiet, ReallocIsQuiet}
use Rattle.exact_heap.specs.Placing.{HeapState, Outcome}
use Rattle.rv_machine.specs.Core.{Next, Goes, Faults, Reads, Prints, Exits, Stays, register}
use Rattle.rv_machine.specs.Flat.{Flat, carried, after_step}
use Rattle.rv_machine.specs.Guest.{Guest, heap_of}
use Rattle.rv_machine.specs.HeapCalls.{GuestNext, Carries, Returns, Lacks, answered, answers, called, call_from, heap_call}
use Rattle.rv_machine.specs.Objects.{layout_of}
use Rattle.rv_machine.specs.Stored.{StoresAt, NoneStoresAt}
use Rattle.simulation.specs.Coverage.{IsAtHome, AllAtHome}
use Rattle.simulation.proofs.Laid.{in_holds}
use Rattle.simulation.proofs.Stepped.{carried-history}

-- each byte of every free slot is the canary's, no slot is bad, and nothing was signalled
pub record IsSilent (s : HeapState) : Type 0 where
  pub whole : FreeSlotsAreWhole s
  pub good : s.history.bad ≡ empty
  pub signals : s.history.signals ≡ []

-- what silent steps stand on
pub record SilentFacts : Type 0 where
  pub malloc : MallocIsQuiet
  pub memalign : MemalignIsQuiet
  pub calloc : CallocIsQuiet
  pub free : FreeIsQuiet
  pub realloc : ReallocIsQuiet
  pub holders : HoldersHaveHeldSlots
  pub hold : SlotsHoldTheirAddresses
  pub within : SlotsLieWithin

-- ---- heap calls

silent_after : (before after : HeapState) → IsSilent before → exact.IsQuiet before after → IsSilent after
silent_after before after k q = record { whole = q.whole; good = q.bad ∙ k.good; signals = q.signals ∙ k.signals }

abbrev IsFault : Next → Type 0
IsFault (Faults kind address) = ⊤
IsFault n = ⊥

-- a heap call leaves a silent heap, or it is a fault
abbrev pub LeavesSilent : GuestNext → Type 0
LeavesSilent (Carries n) = IsFault n
LeavesSilent (Returns to) = IsSilent (heap_of to)
LeavesSilent (Lacks used wanted to) = IsSilent (heap_of to)

answered_silent : (g : Guest) (back : ℕ) (s : HeapState) (answer : Result ℕ HeapRefusal) → IsSilent s → LeavesSilent (answered g back s answer)
answered_silent g back s (Ok address) k = record { whole = k.whole; good = k.good; signals = k.signals }
answered_silent g back s (Err (Room used wanted)) k = record { whole = k.whole; good = k.good; signals = k.signals }
answered_silent g back s (Err NoMemory) k = record { whole = k.whole; good = k.good; signals = k.signals }

answers_silent : (g : Guest) → IsSilent (heap_of g) → (back : ℕ) (outcome : Outcome) → exact.IsQuiet (heap_of g) outcome.state → LeavesSilent (answers g back outcome)
answers_silent g k back outcome q = answered_silent g back outcome.state outcome.answer (silent_after (heap_of g) outcome.state k q)

freed_silent : SilentFacts → (g : Guest) → IsLawful g.history → IsSilent (heap_of g) → (address : ℕ) → IsSilent (free g.rules address (site_of g.core.calls) (heap_of g))
freed_silent facts g l k address = silent_after (heap_of g) _ k (facts.free g.rules address (site_of g.core.calls) (heap_of g) l k.whole)

called_silent : SilentFacts → (g : Guest) → IsLawful g.history → IsSilent (heap_of g) → (back : ℕ) (function : HeapCall) → LeavesSilent (called g back function)
called_silent facts g l k back Malloc = answers_silent g k back _ (facts.malloc g.rules (register g.core 10) (site_of g.core.calls) (heap_of g) l k.whole)
called_silent facts g l k back MallocR = answers_silent g k back _ (facts.malloc g.rules (register g.core 11) (site_of g.core.calls) (heap_of g) l k.whole)
called_silent facts g l k back Free = freed_silent facts g l k (register g.core 10)
called_silent facts g l k back FreeR = freed_silent facts g l k (register g.core 11)
called_silent facts g l k back Calloc = answers_silent g k back _ (facts.calloc g.rules (register g.core 10) (register g.core 11) (site_of g.core.calls) (heap_of g) l k.whole)
called_silent facts g l k back CallocR = answers_silent g k back _ (facts.calloc g.rules (register g.core 11) (register g.core 12) (site_of g.core.calls) (heap_of g) l k.whole)
called_silent facts g l k back Realloc = answers_silent g k back _ (facts.realloc g.rules (register g.core 10) (register g.core 11) (site_of g.core.calls) (heap_of g) l k.whole)
called_silent facts g l k back ReallocR = answers_silent g k back _ (facts.realloc g.rules (register g.core 11) (register g.core 12) (site_of g.core.calls) (heap_of g) l k.whole)
called_silent facts g l k back Memalign = answers_silent g k back _ (facts.memalign g.rules (register g.core 10) (register g.core 11) (site_of g.core.calls) (heap_of g) l k.whole)
called_silent facts g l k back AlignedAlloc = answers_silent g k back _ (facts.memalign g.rules (register g.core 10) (register g.core 11) (site_of g.core.calls) (heap_of g) l k.whole)
called_silent facts g l k back MemalignR = answers_silent g k back _ (facts.memalign g.rules (register g.core 11) (register g.core 12) (site_of g.core.calls) (heap_of g) l k.whole)

pub call_silent : SilentFacts → (g : Guest) → IsLawful g.history → IsSilent (heap_of g) → (function : HeapCall) → LeavesSilent (heap_call g function)
call_silent facts g l k function = go (register g.core 1 - register g.core 1 % 2)
  where
    go : (back : ℕ) → LeavesSilent (call_from g back function)
    go back = by (nat_eq (back % 4) 0)
      where
        by : (b : Bool) → LeavesSilent (cond b (called g back function) (Carries (Faults fault.Jump back)))
        by true = called_silent facts g l k back function
        by false = tt

-- the run after it is silent
pub after_silent : (input : List ℕ) (f : Flat) → IsSilent (heap_of f.guest) → (n : GuestNext) → LeavesSilent n → IsSilent (heap_of (after_step input f n).guest)
after_silent input f k (Returns to) h = h
after_silent input f k (Lacks used wanted to) h = h
after_silent input f k (Carries (Faults kind address)) h = record { whole = k.whole; good = k.good; signals = k.signals }
after_silent input f k (Carries (Goes to)) h = absurd h
after_silent input f k (Carries (Reads address len)) h = absurd h
after_silent input f k (Carries (Prints fd address len bytes to)) h = absurd h
after_silent input f k (Carries (Exits code to)) h = absurd h
after_silent input f k (Carries (Stays ended)) h = absurd h

-- ---- instructions

-- an instruction keeps the heap's history
pub carried_silent : (input : List ℕ) (f : Flat) (n : Next) → IsSilent (record { history = f.guest.history; memory = (carried input f n).guest.core.memory }) → IsSilent (heap_of (carried input f n).guest)
carried_silent input f n k = subst (λ (h : History). IsSilent (record { history = h; memory = (carried input f n).guest.core.memory })) (sym (carried-history input f n)) k

-- what stays at home stores to no free slot
none_stores : SilentFacts → (h : History) → IsLawful h → (x : ℕ) (t : Slot) → slot_at (slots_of h) x ≡ Some t → t.state ≡ Free → (records : List Record) → AllAtHome (layout_of h) records → NoneStoresAt (layout_of h) records x
none_stores facts h l x t found free [] home = tt
none_stores facts h l x t found free (r ∷ records) home = (apart, none_stores facts h l x t found free records home.1)
  where
    free_not_held : Free ≡ Held → ⊥
    free_not_held e = cc

    apart : StoresAt (layout_of h) r x → ⊥
    apart w =
        let kept : IsHarmlessUse (layout_of h) r.access.object r.access.offset r.access.width = subst (λ (k : AccessKind). IsAtHome (layout_of h) k r.access.object r.access.offset r.access.width) w.stores home.0 in
        let in_slot : IsIn (layout_of h) r.access.object x = subst (IsIn (layout_of h) r.access.object) (sym w.is) (kept.inside w.byte w.within) in
        free_not_held (sym free ∙ facts.holders h r.access.object x t l (in_holds h r.access.object x in_slot) found)

slot_in_region : SilentFacts → (h : History) → IsLawful h → (x : ℕ) (t : Slot) → slot_at (slots_of h) x ≡ Some t → in_region x ≡ true
slot_in_region facts h l x t found =
    let at = facts.hold (slots_of h) x t found in
    let lies = facts.within (slots_of h) x t found in
    let low : 2 ^ 30 ≤ x = omega (arith, at.0, lies.0) in
    let high : x < 2 ^ 31 = omega (arith, at.1, lies.1, l.in_order.in_limit) in
    grind (arith, nat_tests)

-- where the bytes of the heap region stay to which nothing is stored, a heap stays silent
pub stored_silent : SilentFacts → (h : History) → IsLawful h → (records : List Record) → AllAtHome (layout_of h) records → (m m' : Memory) → ((x : ℕ) → in_region x ≡ true → NoneStoresAt (layout_of h) records x → m'.bytes x ≡ m.bytes x)
    → IsSilent (record { history = h; memory = m }) → IsSilent (record { history = h; memory = m' })
stored_silent facts h l records home m m' same k = record {
  whole = λ x t found free. same x (slot_in_region facts h l x t found) (none_stores facts h l x t found free records home) ∙ k.whole x t found free;
  good = k.good;
  signals = k.signals;
}
