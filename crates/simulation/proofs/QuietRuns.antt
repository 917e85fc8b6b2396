-- Clear runs that their patches cover signal nothing.
use Rattle.std.proofs.Common.{◌≡◌, ℕ, zero, suc, refl, ap, sym, ◌∙◌, subst, Bool, true, arith, List, Option, None, Some, inl, inr}
use Rattle.infinite_heap.specs.declared.program.HeapCall.{HeapCall}
use Rattle.infinite_heap.specs.declared.program.HeapName.{HeapName}
use Rattle.infinite_heap.specs.Covered.{IsCoveredRun, next_records}
use Rattle.infinite_heap.specs.InfiniteHeap.{call_at}
use Rattle.infinite_heap.specs.InfiniteRun.{InfRun, InfEnding, InfExit, InfFault, InfBlur, inf_after, inf_step_of, inf_mapping, inf_run, is_clear}
use Rattle.infinite_heap.specs.InfiniteState as inf
use Rattle.infinite_heap.specs.InfiniteState.{InfStep, records_of}
use Rattle.infinite_heap.specs.InfiniteStep.{inf_step}
use Rattle.infinite_heap.specs.Loaded.{Loaded}
use Rattle.infinite_heap.specs.Mapped.{Mapping}
use Rattle.patch_table.specs.Limits.{InLimits}
use Rattle.exact_heap.specs.Laws.{BeginsWhole, EndIsQuiet}
use Rattle.rv_machine.specs.declared.ended.Ended.{Ended}
use Rattle.rv_machine.specs.declared.ended.Ended.TheVariants.{Roomed}
use Rattle.rv_machine.specs.declared.settings.Settings.{Settings}
use Rattle.rv_machine.specs.Cures.{cures_of}
use Rattle.rv_machine.specs.Flat.{Flat, carried, after_step, flat_step, flat_steps, flat_run}
use Rattle.rv_machine.specs.Guest.{Guest, heap_of}
use Rattle.rv_machine.specs.HeapCalls.{GuestNext, guest_next_at, guest_next_of, heap_call}
use Rattle.rv_machine.specs.Laws.{ProgramsStayOutside, RunsKeepRules}
use Rattle.rv_machine.specs.Matches.{IsOutside, SameEnding}
use Rattle.rv_machine.specs.Objects.{layout_of}
use Rattle.rv_machine.specs.Steps.{next}
use Rattle.rv_machine.specs.Stored.{IsClearStep, StoresAreRecorded}
use Rattle.simulation.specs.Agreement.{RunsAgree, IsGiven, HeapsAreLaidOut}
use Rattle.simulation.specs.Coverage.{AllAtHome, CoveredStepsStayHome, CoveredRunsAgree}
use Rattle.simulation.specs.Quiet.{CoveredRunsAreQuiet}
use Rattle.simulation.specs.Runs.{AgreesOrRoomed}
use Rattle.simulation.proofs.Ran.{clear-before, ended-stays}
use Rattle.simulation.proofs.QuietSteps.{IsSilent, SilentFacts, call_silent, after_silent, carried_silent, stored_silent}

-- what quiet runs stand on
pub record QuietFacts : Type 0 where
  pub silent : SilentFacts
  pub begins : BeginsWhole
  pub check_end : EndIsQuiet
  pub layouts : HeapsAreLaidOut
  pub stores : StoresAreRecorded
  pub outside : ProgramsStayOutside
  pub rules : RunsKeepRules
  pub home : CoveredStepsStayHome
  pub agree : CoveredRunsAgree

-- ---- endings

-- where a run is clear, so is its step
pub clear_step : (run : InfRun) (i : InfStep) → is_clear (inf_after run i) ≡ true → IsClearStep i
clear_step run (inf.Goes s r) c = tt
clear_step run (inf.Reads len s r) c = tt
clear_step run (inf.Prints fd bytes s r) c = tt
clear_step run (inf.Exits code s) c = tt
clear_step run (inf.Faults kind r) c = tt
clear_step run (inf.Blurs why r) c = absurd (cc)

-- where the guest goes on, so does the run on the infinite heap
pub going : (e : Option InfEnding) (d : Option Ended) → d ≡ None → SameEnding e d → e ≡ None
going None d q s = refl
going (Some e) d q s = absurd (unended e (subst (SameEnding (Some e)) q s))
  where
    unended : (e : InfEnding) → SameEnding (Some e) None → ⊥
    unended (InfExit code) t = t
    unended (InfFault kind pc) t = t
    unended (InfBlur why pc) t = t

-- ---- one step

step_silent : QuietFacts → (p : Mapping) → IsOutside p → (input : List ℕ) (names : List HeapName) (zeroed : Bool) (run : InfRun) (f : Flat) → RunsAgree p run f → f.guest.names ≡ names
    → is_clear (inf_step_of p names zeroed input run run.ending) ≡ true → AllAtHome (layout_of f.guest.history) (next_records p names zeroed input run run.ending)
    → IsSilent (heap_of f.guest) → IsSilent (heap_of (flat_step input f).guest)
step_silent facts p out input names zeroed run f a same c home k = at f.guest.core.ended refl
  where
    silent_at : GuestNext → Type 0
    silent_at n = IsSilent (heap_of (after_step input f n).guest)

    carries : run.ending ≡ None → f.guest.core.ended ≡ None → call_at names run.state.pc ≡ None → IsSilent (heap_of (carried input f (next f.guest.core)).guest)
    carries e d none =
        let i : InfStep = inf_step p names zeroed input run.state in
        let clear : IsClearStep i = clear_step run i (subst (λ (x : Option InfEnding). is_clear (inf_step_of p names zeroed input run x) ≡ true) e c) in
        let stays : AllAtHome (layout_of f.guest.history) (records_of i) = subst (λ (x : Option InfEnding). AllAtHome (layout_of f.guest.history) (next_records p names zeroed input run x)) e home in
        carried_silent input f (next f.guest.core)
        (stored_silent facts.silent f.guest.history a.mapped.lawful (records_of i) stays f.guest.core.memory (carried input f (next f.guest.core)).guest.core.memory
        (facts.stores (layout_of f.guest.history) (facts.layouts f.guest.history a.mapped.lawful) p out input names zeroed run.state f a.matches.state d none clear) k)

    by_call : run.ending ≡ None → f.guest.core.ended ≡ None → (call : Option HeapCall) → call_at f.guest.names f.guest.core.pc ≡ call → silent_at (guest_next_at f.guest call)
    by_call e d (Some function) is = after_silent input f k (heap_call f.guest function) (call_silent facts.silent f.guest a.mapped.lawful k function)
    by_call e d None is = carries e d (ap (λ (ns : List HeapName). call_at ns run.state.pc) (sym same) ∙ ap (call_at f.guest.names) a.matches.state.pc ∙ is)

    at : (d : Option Ended) → f.guest.core.ended ≡ d → silent_at (guest_next_of f.guest d)
    at (Some e) is = k
    at None is = by_call (going run.ending f.guest.core.ended is a.matches.ending) is (call_at f.guest.names f.guest.core.pc) refl

-- ---- runs

run_silent : QuietFacts → (program : Loaded) (args : List (List ℕ)) (settings : Settings) (input : List ℕ) → IsGiven program args input → InLimits settings.patches
    → (n : ℕ) → is_clear (inf_run program args input settings.zero n) ≡ true → IsCoveredRun (cures_of settings.patches) program args input settings.zero n
    → IsSilent (heap_of (flat_run program args settings input n).guest)
unfolding inf_run flat_steps IsCoveredRun
run_silent facts program args settings input given limits zero c h = record { whole = facts.begins settings.seed (flat_run program args settings input 0).guest.core.memory; good = refl; signals = refl }
run_silent facts program args settings input given limits (suc n) c h =
    let clear : is_clear run ≡ true = clear-before p program.names settings.zero input run run.ending refl c in
    let k : IsSilent (heap_of f.guest) = run_silent facts program args settings input given limits n clear h.0 in
    by k (facts.agree program args settings input given limits n clear h.0)
  where
    run : InfRun
    run = inf_run program args input settings.zero n

    f : Flat
    f = flat_run program args settings input n

    p : Mapping
    p = inf_mapping program args

    by : IsSilent (heap_of f.guest) → AgreesOrRoomed p run f → IsSilent (heap_of (flat_step input f).guest)
    by k (inr (used, wanted, roomed)) = subst (λ (x : Flat). IsSilent (heap_of x.guest)) (sym (ended-stays input f (Roomed used wanted) roomed.ended)) k
    by k (inl a) =
        step_silent facts p (facts.outside program given.lawful args) input program.names settings.zero run f a (facts.rules program args settings input n).0 c
        (facts.home program args settings input given limits (suc n) h n (omega arith) a) k

pub covered_runs_are_quiet : QuietFacts → CoveredRunsAreQuiet
covered_runs_are_quiet facts program args settings input given limits n c h =
    let g : Guest = (flat_run program args settings input n).guest in
    let k : IsSilent (heap_of g) = run_silent facts program args settings input given limits n c h in
    record { whole = k.whole; good = k.good; signals = k.signals; end = facts.check_end (heap_of g) k.whole ∙ k.signals }
