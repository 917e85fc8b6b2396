-- Runs that patches cover: each step goes by these patches, and what it records is harmless.
use Rattle.std.proofs.Common.{◌≡◌, ℕ, zero, suc, ◌-◌, ◌%◌, ◌<◌, ◌≤◌, ap, sym, subst, Bool, true, false, cond, arith, ◌==◌, List, [], ◌∷◌, length, Option, None, Some, Result, Ok, Err, ◌⊎◌, inl, inr}
use Rattle.std.specs.Prelude.{⊤}
use Rattle.std.proofs.lemmas.Bool.{cases_lt}
use Rattle.infinite_heap.specs.declared.access.AccessKind.{AccessKind}
use Rattle.infinite_heap.specs.declared.access.AccessKind.TheVariants.{Load, Store, Touch, Again}
use Rattle.infinite_heap.specs.declared.access.Record.{Record}
use Rattle.infinite_heap.specs.declared.fault.FaultKind.TheVariants as fault
use Rattle.infinite_heap.specs.declared.program.HeapCall.{HeapCall}
use Rattle.infinite_heap.specs.declared.program.HeapCall.TheVariants.{Malloc, Free, Calloc, Realloc, Memalign, AlignedAlloc, MallocR, FreeR, CallocR, ReallocR, MemalignR}
use Rattle.infinite_heap.specs.declared.program.HeapName.{HeapName}
use Rattle.infinite_heap.specs.CallSite.{site_of}
use Rattle.infinite_heap.specs.Covered.{AllCovered, IsCoveredRun, next_records, records_after}
use Rattle.infinite_heap.specs.InfiniteHeap.{call_at}
use Rattle.infinite_heap.specs.InfiniteRun.{InfRun, InfEnding, inf_mapping, inf_run}
use Rattle.infinite_heap.specs.InfiniteState.{clock_of}
use Rattle.infinite_heap.specs.Layout.{Layout, IsHarmless, AllHarmless}
use Rattle.infinite_heap.specs.Loaded.{Loaded}
use Rattle.infinite_heap.specs.Mapped.{Mapping}
use Rattle.patch_table.specs.Limits.{InLimits}
use Rattle.patch_table.specs.Table.{Table}
use Rattle.exact_heap.specs.declared.signal.HeapRefusal.{HeapRefusal}
use Rattle.exact_heap.specs.declared.signal.HeapRefusal.TheVariants.{Room, Memory as NoMemory}
use Rattle.exact_heap.specs.Calls.{malloc, calloc, realloc, memalign}
use Rattle.exact_heap.specs.Lawful as heap
use Rattle.exact_heap.specs.Patched.{FollowsPatches, NewHeapFollowsPatches, MallocFollowsPatches, MemalignFollowsPatches, CallocFollowsPatches, FreeFollowsPatches, ReallocFollowsPatches}
use Rattle.exact_heap.specs.Placing.{HeapState, Rules, Outcome}
use Rattle.rv_machine.specs.declared.ended.Ended.{Ended}
use Rattle.rv_machine.specs.declared.settings.Settings.{Settings}
use Rattle.rv_machine.specs.Core as flat
use Rattle.rv_machine.specs.Core.{Next, register}
use Rattle.rv_machine.specs.Cures.{cures_of}
use Rattle.rv_machine.specs.Flat.{Flat, after_step, flat_steps, flat_run}
use Rattle.rv_machine.specs.Guest.{Guest, heap_of}
use Rattle.rv_machine.specs.HeapCalls.{GuestNext, Carries, Returns, Lacks, guest_next, guest_next_at, guest_next_of, answered, answers, called, call_from}
use Rattle.rv_machine.specs.Laws.{AllKnown, RecordsAreKnown, RunsKeepRules, RunsStayMapped}
use Rattle.rv_machine.specs.Objects.{layout_of}
use Rattle.simulation.specs.Agreement.{RunsAgree, IsGiven}
use Rattle.simulation.specs.Coverage.{IsAtHome, AllAtHome, CoveredStaysHome, CoveredStepsStayHome, CoveredRunsAreHarmless, CoveredRunsAgree}
use Rattle.simulation.specs.Runs.{HarmlessRunsAgree}
use Rattle.simulation.proofs.Stepped.{carried-history}
use Rattle.simulation.proofs.Stepped.{states_of}
use Rattle.simulation.proofs.Timed.{AreNow, records_are_timed}

-- what patches decide, call by call, and what runs keep
pub record PatchFacts : Type 0 where
  pub begins : NewHeapFollowsPatches
  pub malloc : MallocFollowsPatches
  pub memalign : MemalignFollowsPatches
  pub calloc : CallocFollowsPatches
  pub free : FreeFollowsPatches
  pub realloc : ReallocFollowsPatches
  pub rules : RunsKeepRules
  pub mapped : RunsStayMapped
  pub known : RecordsAreKnown

-- ---- a step goes by the guest's patches

abbrev Goes : Table → GuestNext → Type 0
Goes patches (Carries n) = ⊤
Goes patches (Returns to) = FollowsPatches patches to.history
Goes patches (Lacks used wanted to) = FollowsPatches patches to.history

goes-answered : (patches : Table) (g : Guest) (back : ℕ) (s : HeapState) (answer : Result ℕ HeapRefusal) → FollowsPatches patches s.history → Goes patches (answered g back s answer)
goes-answered patches g back s (Ok address) k = k
goes-answered patches g back s (Err (Room used wanted)) k = k
goes-answered patches g back s (Err NoMemory) k = k

goes-answers : (patches : Table) (g : Guest) (back : ℕ) (outcome : Outcome) → FollowsPatches patches outcome.state.history → Goes patches (answers g back outcome)
goes-answers patches g back outcome k = goes-answered patches g back outcome.state outcome.answer k

module _ (facts : PatchFacts) (g : Guest) (l : heap.IsLawful g.history) (k : FollowsPatches g.rules.patches g.history) (back : ℕ) where
  by-malloc : (size : ℕ) → Goes g.rules.patches (answers g back (malloc g.rules size (site_of g.core.calls) (heap_of g)))
  by-malloc size = goes-answers g.rules.patches g back (malloc g.rules size (site_of g.core.calls) (heap_of g)) (facts.malloc g.rules size (site_of g.core.calls) (heap_of g) l k)

  by-calloc : (count each : ℕ) → Goes g.rules.patches (answers g back (calloc g.rules count each (site_of g.core.calls) (heap_of g)))
  by-calloc count each = goes-answers g.rules.patches g back (calloc g.rules count each (site_of g.core.calls) (heap_of g)) (facts.calloc g.rules count each (site_of g.core.calls) (heap_of g) l k)

  by-realloc : (old size : ℕ) → Goes g.rules.patches (answers g back (realloc g.rules old size (site_of g.core.calls) (heap_of g)))
  by-realloc old size = goes-answers g.rules.patches g back (realloc g.rules old size (site_of g.core.calls) (heap_of g)) (facts.realloc g.rules old size (site_of g.core.calls) (heap_of g) l k)

  by-memalign : (align size : ℕ) → Goes g.rules.patches (answers g back (memalign g.rules align size (site_of g.core.calls) (heap_of g)))
  by-memalign align size = goes-answers g.rules.patches g back (memalign g.rules align size (site_of g.core.calls) (heap_of g)) (facts.memalign g.rules align size (site_of g.core.calls) (heap_of g) l k)

  goes-called : (function : HeapCall) → Goes g.rules.patches (called g back function)
  goes-called Malloc = by-malloc (register g.core 10)
  goes-called MallocR = by-malloc (register g.core 11)
  goes-called Free = facts.free g.rules (register g.core 10) (site_of g.core.calls) (heap_of g) l k
  goes-called FreeR = facts.free g.rules (register g.core 11) (site_of g.core.calls) (heap_of g) l k
  goes-called Calloc = by-calloc (register g.core 10) (register g.core 11)
  goes-called CallocR = by-calloc (register g.core 11) (register g.core 12)
  goes-called Realloc = by-realloc (register g.core 10) (register g.core 11)
  goes-called ReallocR = by-realloc (register g.core 11) (register g.core 12)
  goes-called Memalign = by-memalign (register g.core 10) (register g.core 11)
  goes-called AlignedAlloc = by-memalign (register g.core 10) (register g.core 11)
  goes-called MemalignR = by-memalign (register g.core 11) (register g.core 12)

  goes-from : (function : HeapCall) → Goes g.rules.patches (call_from g back function)
  goes-from function = at (back % 4 == 0)
    where
      at : (b : Bool) → Goes g.rules.patches (cond b (called g back function) (Carries (flat.Faults fault.Jump back)))
      at true = goes-called function
      at false = tt

goes-at : PatchFacts → (g : Guest) → heap.IsLawful g.history → FollowsPatches g.rules.patches g.history → (call : Option HeapCall) → Goes g.rules.patches (guest_next_at g call)
goes-at facts g l k None = tt
goes-at facts g l k (Some function) = goes-from facts g l k (register g.core 1 - register g.core 1 % 2) function

goes-of : PatchFacts → (g : Guest) → heap.IsLawful g.history → FollowsPatches g.rules.patches g.history → (e : Option Ended) → Goes g.rules.patches (guest_next_of g e)
goes-of facts g l k None = goes-at facts g l k (call_at g.names g.core.pc)
goes-of facts g l k (Some e) = tt

step-follows : (patches : Table) (input : List ℕ) (f : Flat) (n : GuestNext) → FollowsPatches patches f.guest.history → Goes patches n → FollowsPatches patches (after_step input f n).guest.history
step-follows patches input f (Carries n) k h = subst (FollowsPatches patches) (sym (carried-history input f n)) k
step-follows patches input f (Returns g) k h = h
step-follows patches input f (Lacks used wanted g) k h = h

-- ---- so does a run

run-follows : PatchFacts → (program : Loaded) (args : List (List ℕ)) (settings : Settings) (input : List ℕ) → IsGiven program args input → (n : ℕ) → FollowsPatches settings.patches (flat_run program args settings input n).guest.history
unfolding flat_steps
run-follows facts program args settings input given zero = facts.begins settings.patches settings.seed
run-follows facts program args settings input given (suc n) =
    let f : Flat = flat_run program args settings input n in
    let before : FollowsPatches settings.patches f.guest.history = run-follows facts program args settings input given n in
    let lawful : heap.IsLawful f.guest.history = (facts.mapped program given.lawful args given.starts settings input given.reads n).lawful in
    let patches-are : f.guest.rules.patches ≡ settings.patches = ap (λ (r : Rules). r.patches) (facts.rules program args settings input n).1 in
    let goes : Goes settings.patches (guest_next f.guest) =
    subst (λ (t : Table). Goes t (guest_next f.guest)) patches-are (goes-of facts f.guest lawful (subst (λ (t : Table). FollowsPatches t f.guest.history) (sym patches-are) before) f.guest.core.ended) in
    step-follows settings.patches input f (guest_next f.guest) before goes

-- ---- what is covered is harmless

at-home : (l : Layout) (kind : AccessKind) (o d w : ℕ) → IsAtHome l kind o d w → IsHarmless l kind o d w
at-home l Load o d w h = h
at-home l Touch o d w h = h
at-home l Store o d w h = λ j less. inl (h.inside j less)
at-home l Again o d w h = h

all-home : CoveredStaysHome → (patches : Table) → InLimits patches → (p : Mapping) (run : InfRun) (f : Flat) → RunsAgree p run f → FollowsPatches patches f.guest.history → (records : List Record)
    → AllKnown (length run.state.objects) records → AreNow (clock_of run.state) records → AllCovered (cures_of patches) run.state.objects records → AllAtHome (layout_of f.guest.history) records
all-home home patches limits p run f a follows [] known now covered = tt
all-home home patches limits p run f a follows (r ∷ rs) known now covered =
    (home patches limits p run.state f.guest (states_of p run f a) follows r known.0 now.0 covered.0, all-home home patches limits p run f a follows rs known.1 now.1 covered.1)

all-harmless : (l : Layout) (records : List Record) → AllAtHome l records → AllHarmless l records
all-harmless l [] h = tt
all-harmless l (r ∷ rs) h = (at-home l r.kind r.access.object r.access.offset r.access.width h.0, all-harmless l rs h.1)

-- the records of the next step have its clock
next-timed : (p : Mapping) (names : List HeapName) (zeroed : Bool) (input : List ℕ) (run : InfRun) (e : Option InfEnding) → AreNow (clock_of run.state) (next_records p names zeroed input run e)
next-timed p names zeroed input run None = records_are_timed p zeroed input run.state (call_at names run.state.pc)
next-timed p names zeroed input run (Some e) = tt

-- each step of a covered run is covered
covered-step : (patches : Table) (program : Loaded) (args : List (List ℕ)) (input : List ℕ) (zeroed : Bool) (n k : ℕ) → k < n → IsCoveredRun (cures_of patches) program args input zeroed n
    → AllCovered (cures_of patches) (inf_run program args input zeroed k).state.objects (records_after program args input zeroed k)
unfolding IsCoveredRun
covered-step patches program args input zeroed zero k less c = absurd (omega (arith, less))
covered-step patches program args input zeroed (suc n) k less c = at (cases_lt k n) (λ before. covered-step patches program args input zeroed n k before c.0)
  where
    at : (k < n) ⊎ (n ≤ k) → (k < n → AllCovered (cures_of patches) (inf_run program args input zeroed k).state.objects (records_after program args input zeroed k))
        → AllCovered (cures_of patches) (inf_run program args input zeroed k).state.objects (records_after program args input zeroed k)
    at (inl before) earlier = earlier before
    at (inr last) earlier = let same : n ≡ k = omega arith in subst (λ (m : ℕ). AllCovered (cures_of patches) (inf_run program args input zeroed m).state.objects (records_after program args input zeroed m)) same c.1

pub covered_steps_stay_home : PatchFacts → CoveredStaysHome → CoveredStepsStayHome
covered_steps_stay_home facts home program args settings input given limits n covered k less a =
    let run : InfRun = inf_run program args input settings.zero k in
    all-home home settings.patches limits (inf_mapping program args) run (flat_run program args settings input k) a (run-follows facts program args settings input given k) (records_after program args input settings.zero k)
    (facts.known program args given.starts input given.reads settings.zero k) (next-timed (inf_mapping program args) program.names settings.zero input run run.ending) (covered-step settings.patches program args input settings.zero n k less covered)

pub covered_runs_are_harmless : CoveredStepsStayHome → CoveredRunsAreHarmless
covered_runs_are_harmless steps program args settings input given limits n covered k less a =
    all-harmless (layout_of (flat_run program args settings input k).guest.history) (records_after program args input settings.zero k) (steps program args settings input given limits n covered k less a)

pub covered_runs_agree : CoveredRunsAreHarmless → HarmlessRunsAgree → CoveredRunsAgree
covered_runs_agree harmless agree program args settings input given limits n c covered = agree program args settings input given n c (harmless program args settings input given limits n covered)
