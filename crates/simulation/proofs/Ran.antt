-- Runs of the two machines agree, as far as what is recorded is harmless, or there was no room.
use Rattle.std.proofs.Common.{◌≡◌, ℕ, zero, suc, ◌<◌, ◌≤◌, refl, ap, sym, ◌∙◌, subst, Bool, true, arith, List, [], Option, None, Some, ◌⊎◌, inl, inr}
use Rattle.std.proofs.lemmas.Bool.{cases_lt}
use Rattle.std.proofs.lemmas.List.Elements.{All-nil}
use Rattle.infinite_heap.specs.declared.program.HeapName.{HeapName}
use Rattle.infinite_heap.specs.Covered.{IsCoveredRun, next_records}
use Rattle.infinite_heap.specs.InfiniteRun.{InfRun, InfEnding, inf_step_of, inf_mapping, inf_run, is_clear, is_clear_ending}
use Rattle.infinite_heap.specs.Lawful.{IsLawful}
use Rattle.infinite_heap.specs.Layout.{AllHarmless}
use Rattle.infinite_heap.specs.Loaded.{Loaded}
use Rattle.infinite_heap.specs.Mapped.{Mapping}
use Rattle.infinite_heap.specs.Memory.{Written}
use Rattle.exact_heap.specs.Dues.{NewHeapKeepsDues}
use Rattle.rv_machine.specs.declared.ended.Ended.{Ended}
use Rattle.rv_machine.specs.declared.settings.Settings.{Settings}
use Rattle.rv_machine.specs.Flat.{Flat, after_step, flat_step, flat_steps, flat_run}
use Rattle.rv_machine.specs.HeapCalls.{guest_next_of}
use Rattle.rv_machine.specs.Laws.{AllBytes, ProgramsStayOutside, RunsKeepRules, RunsMatch, RunsStayMapped}
use Rattle.rv_machine.specs.Matches.{IsOutside, RunMatches}
use Rattle.rv_machine.specs.Objects.{layout_of}
use Rattle.simulation.specs.Agreement.{RunsAgree, IsRoomed, IsGiven}
use Rattle.simulation.specs.Runs.{AgreesOrRoomed, StepsAgree, HarmlessRunsAgree, RoomComesLast}

-- what runs stand on
pub record RunFacts : Type 0 where
  pub outside : ProgramsStayOutside
  pub nameless : RunsMatch
  pub mapped : RunsStayMapped
  pub rules : RunsKeepRules
  pub dues : NewHeapKeepsDues

-- ---- the start, which no heap function has a part in

nameless-lawful : (program : Loaded) → IsLawful program → IsLawful (record program { names = [] })
nameless-lawful program l = record { placed = l.placed; apart = l.apart; total = l.total; aligned = l.aligned; entered = l.entered; rising = λ i j d less h. absurd (omega arith) }

start-agrees : RunFacts → (program : Loaded) (args : List (List ℕ)) (settings : Settings) (input : List ℕ) → IsGiven program args input → RunsAgree (inf_mapping program args) (inf_run program args input settings.zero 0) (flat_run program args settings input 0)
unfolding inf_run flat_steps IsCoveredRun
start-agrees facts program args settings input given =
    let w : RunMatches (inf_mapping program args) (inf_run program args input settings.zero 0) (flat_run (record program { names = [] }) args settings input 0) =
    facts.nameless (record program { names = [] }) (nameless-lawful program given.lawful) refl args given.starts settings input given.reads 0 refl tt in
    record {
      matches = record { objects = w.objects; state = w.state; place = refl; out = refl; err = refl; ending = tt };
      mapped = facts.mapped program given.lawful args given.starts settings input given.reads 0;
      dues = facts.dues settings.seed;
      written = All-nil (λ (w : Written). w.object < 0);
    }

-- ---- one step more

-- a run that is clear was clear before
pub clear-before : (p : Mapping) (names : List HeapName) (zeroed : Bool) (input : List ℕ) (run : InfRun) (e : Option InfEnding) → run.ending ≡ e → is_clear (inf_step_of p names zeroed input run e) ≡ true → is_clear run ≡ true
clear-before p names zeroed input run None q c = ap is_clear_ending q
clear-before p names zeroed input run (Some e) q c = c

-- a guest that has ended stays as it is
pub ended-stays : (input : List ℕ) (f : Flat) (e : Ended) → f.guest.core.ended ≡ Some e → flat_step input f ≡ f
ended-stays input f e is = ap (λ (d : Option Ended). after_step input f (guest_next_of f.guest d)) is

-- the step by the program's heap functions and by what was set
by-rules : StepsAgree → (p : Mapping) → IsOutside p → (input : List ℕ) → AllBytes input → (run : InfRun) (f : Flat) → RunsAgree p run f → (names : List HeapName) (zeroed : Bool) → f.guest.names ≡ names → f.guest.rules.zero ≡ zeroed
    → is_clear (inf_step_of p names zeroed input run run.ending) ≡ true → AllHarmless (layout_of f.guest.history) (next_records p names zeroed input run run.ending) → AgreesOrRoomed p (inf_step_of p names zeroed input run run.ending) (flat_step input f)
by-rules steps p out input all run f a names zeroed same-names same-zero =
    subst (λ (names : List HeapName). is_clear (inf_step_of p names zeroed input run run.ending) ≡ true → AllHarmless (layout_of f.guest.history) (next_records p names zeroed input run run.ending) → AgreesOrRoomed p (inf_step_of p names zeroed input run run.ending) (flat_step input f)) same-names
    (subst (λ (zeroed : Bool). is_clear (inf_step_of p f.guest.names zeroed input run run.ending) ≡ true → AllHarmless (layout_of f.guest.history) (next_records p f.guest.names zeroed input run run.ending) → AgreesOrRoomed p (inf_step_of p f.guest.names zeroed input run run.ending) (flat_step input f)) same-zero
    (λ c u. steps p out input all run f a c u))

goes-on : (p : Mapping) (input : List ℕ) (run next : InfRun) (f : Flat) → (RunsAgree p run f → AgreesOrRoomed p next (flat_step input f)) → AgreesOrRoomed p run f → AgreesOrRoomed p next (flat_step input f)
goes-on p input run next f step (inl a) = step a
goes-on p input run next f step (inr (used, wanted, r)) = inr (used, wanted, subst (λ (g : Flat). IsRoomed g used wanted) (sym (ended-stays input f _ r.ended)) r)

-- ---- runs

pub harmless_runs_agree : StepsAgree → RunFacts → HarmlessRunsAgree
unfolding inf_run flat_steps
harmless_runs_agree steps facts program args settings input given zero c h = inl (start-agrees facts program args settings input given)
harmless_runs_agree steps facts program args settings input given (suc n) c h =
    let p : Mapping = inf_mapping program args in
    let run : InfRun = inf_run program args input settings.zero n in
    let f : Flat = flat_run program args settings input n in
    let kept = facts.rules program args settings input n in
    let before : AgreesOrRoomed p run f = harmless_runs_agree steps facts program args settings input given n (clear-before p program.names settings.zero input run run.ending refl c) (λ k less a. h k (omega (arith, less)) a) in
    goes-on p input run (inf_step_of p program.names settings.zero input run run.ending) f
    (λ a. by-rules steps p (facts.outside program given.lawful args) input given.reads run f a program.names settings.zero kept.0 (ap (λ (r : _). r.zero) kept.1) c (h n (omega arith) a)) before

pub room_comes_last : RoomComesLast
unfolding flat_steps
room_comes_last program args settings input used wanted k zero less r = absurd (omega (arith, less))
room_comes_last program args settings input used wanted k (suc n) less r = at (cases_lt k n) (λ before. room_comes_last program args settings input used wanted k n before r)
  where
    at : (k < n) ⊎ (n ≤ k) → (k < n → flat_run program args settings input n ≡ flat_run program args settings input k) → flat_run program args settings input (suc n) ≡ flat_run program args settings input k
    at (inl before) earlier = ap (flat_step input) (earlier before) ∙ ended-stays input (flat_run program args settings input k) _ r.ended
    at (inr last) earlier =
        let same : n ≡ k = omega arith in
        ap (λ (m : ℕ). flat_step input (flat_run program args settings input m)) same ∙ ended-stays input (flat_run program args settings input k) _ r.ended
