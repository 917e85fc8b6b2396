-- Replicas that agree with one and the same state of the run on the infinite heap have come to the same.
use Rattle.std.proofs.Common.{◌≡◌, ℕ, refl, ap, sym, ◌∙◌, subst, Bool, true, nat_le, List, [], Option, None, Some}
use Rattle.std.specs.Prelude.{⊤}
use Rattle.infinite_heap.specs.declared.program.HeapCall.{HeapCall}
use Rattle.infinite_heap.specs.declared.program.HeapName.{HeapName}
use Rattle.infinite_heap.specs.Covered.{next_records}
use Rattle.infinite_heap.specs.InfiniteHeap.{call_at, inf_call}
use Rattle.infinite_heap.specs.InfiniteRun.{InfRun, InfEnding, InfExit, InfFault, InfBlur, inf_after, inf_step_of, is_clear}
use Rattle.infinite_heap.specs.InfiniteState as inf
use Rattle.infinite_heap.specs.InfiniteState.{InfState, InfStep, records_of}
use Rattle.infinite_heap.specs.InfiniteStep.{inf_fetch, inf_step, inf_step_at}
use Rattle.infinite_heap.specs.Layout.{Layout, AllHarmless}
use Rattle.infinite_heap.specs.Mapped.{Mapping}
use Rattle.exact_heap.specs.History.{clock_of}
use Rattle.rv_machine.specs.declared.ended.Ended.{Ended}
use Rattle.rv_machine.specs.declared.ended.Ended.TheVariants.{Exited, Faulted, Roomed}
use Rattle.rv_machine.specs.Core as flat
use Rattle.rv_machine.specs.Core.{Core, Next}
use Rattle.rv_machine.specs.Flat.{Flat}
use Rattle.rv_machine.specs.HeapCalls.{GuestNext, Carries, Returns, Lacks, guest_next, guest_next_at, guest_next_of, heap_call}
use Rattle.rv_machine.specs.Laws.{AllBytes, StepsMatch}
use Rattle.rv_machine.specs.Matches.{IsOutside, StepMatches, SameEnding}
use Rattle.rv_machine.specs.Objects.{layout_of}
use Rattle.rv_machine.specs.Steps.{next}
use Rattle.simulation.specs.Agreement.{RunsAgree, StatesAgree, HeapsAreLaidOut}
use Rattle.simulation.specs.Calls.{CallMatches, HeapCallsMatch}
use Rattle.replicate.specs.Replicas.{at_budget, at_end, write_next}
use Rattle.replicate.specs.declared.arrival.Arrival.{Arrival}
use Rattle.replicate.specs.declared.arrival.Arrival.TheVariants as at

-- what the laws of the crates below say of steps
pub record StepFacts : Type 0 where
  pub laid : HeapsAreLaidOut
  pub calls : HeapCallsMatch
  pub steps : StepsMatch

-- ---- what the run on the infinite heap comes to

-- the write that a step makes there
abbrev inf_write : InfStep → Option Arrival
inf_write (inf.Prints fd bytes s records) = Some (at.Write fd bytes)
inf_write step = None

abbrev inf_write_of : Mapping → List HeapName → (zeroed : Bool) → (input : List ℕ) → InfRun → Option InfEnding → Option Arrival
inf_write_of p names zeroed input run None = inf_write (inf_step p names zeroed input run.state)
inf_write_of p names zeroed input run (Some ending) = None

abbrev inf_end : (budget : ℕ) → InfRun → Option InfEnding → Option Arrival
inf_end budget run (Some (InfExit code)) = Some (at.Exit code)
inf_end budget run (Some (InfFault kind pc)) = Some (at.Fault kind pc)
inf_end budget run (Some (InfBlur why pc)) = None
inf_end budget run None = at_budget (nat_le budget run.state.steps)

-- ---- a step of a guest that agrees

-- a guest that hasn't ended doesn't stay
abbrev pub IsGone : GuestNext → Type 0
IsGone (Carries (flat.Stays ended)) = ⊥
IsGone next = ⊤

-- it makes this write, or none
record Writes (write : Option Arrival) (n : GuestNext) : Type 0 where
  same : write_next n ≡ write
  gone : IsGone n

core-writes : (l : Layout) (p : Mapping) (input : List ℕ) (run : InfRun) (t : Core) (i : InfStep) (n : Next) → AllHarmless l (records_of i) → is_clear (inf_after run i) ≡ true → StepMatches l p input run.state t i n → Writes (inf_write i) (Carries n)
core-writes l p input run t (inf.Prints fd bytes s r) (flat.Prints fd' a len bytes' t') u c h =
    let w = h u in record { same = ap (λ x. Some (at.Write x bytes')) w.1 ∙ ap (λ ys. Some (at.Write fd ys)) w.2; gone = tt }
core-writes l p input run t (inf.Goes s r) (flat.Goes t') u c h = record { same = refl; gone = tt }
core-writes l p input run t (inf.Reads wanted s r) (flat.Reads a len) u c h = record { same = refl; gone = tt }
core-writes l p input run t (inf.Exits code s) (flat.Exits code' t') u c h = record { same = refl; gone = tt }
core-writes l p input run t (inf.Faults k r) (flat.Faults k' a) u c h = record { same = refl; gone = tt }
core-writes l p input run t (inf.Blurs w r) n u c h = absurd (cc)
core-writes l p input run t (inf.Goes s r) (flat.Reads a len) u c h = absurd (h u)
core-writes l p input run t (inf.Goes s r) (flat.Faults x a) u c h = absurd (h u)
core-writes l p input run t (inf.Goes s r) (flat.Prints fd a len bytes t') u c h = absurd (h u)
core-writes l p input run t (inf.Goes s r) (flat.Exits code t') u c h = absurd (h u)
core-writes l p input run t (inf.Goes s r) (flat.Stays x) u c h = absurd (h u)
core-writes l p input run t (inf.Reads wanted s r) (flat.Goes t') u c h = absurd (h u)
core-writes l p input run t (inf.Reads wanted s r) (flat.Faults x a) u c h = absurd (h u)
core-writes l p input run t (inf.Reads wanted s r) (flat.Prints fd a len bytes t') u c h = absurd (h u)
core-writes l p input run t (inf.Reads wanted s r) (flat.Exits code t') u c h = absurd (h u)
core-writes l p input run t (inf.Reads wanted s r) (flat.Stays x) u c h = absurd (h u)
core-writes l p input run t (inf.Prints fd bytes s r) (flat.Goes t') u c h = absurd (h u)
core-writes l p input run t (inf.Prints fd bytes s r) (flat.Faults x a) u c h = absurd (h u)
core-writes l p input run t (inf.Prints fd bytes s r) (flat.Reads a len) u c h = absurd (h u)
core-writes l p input run t (inf.Prints fd bytes s r) (flat.Exits code t') u c h = absurd (h u)
core-writes l p input run t (inf.Prints fd bytes s r) (flat.Stays x) u c h = absurd (h u)
core-writes l p input run t (inf.Exits code s) (flat.Goes t') u c h = absurd h
core-writes l p input run t (inf.Exits code s) (flat.Faults x a) u c h = absurd h
core-writes l p input run t (inf.Exits code s) (flat.Reads a len) u c h = absurd h
core-writes l p input run t (inf.Exits code s) (flat.Prints fd a len bytes t') u c h = absurd h
core-writes l p input run t (inf.Exits code s) (flat.Stays x) u c h = absurd h
core-writes l p input run t (inf.Faults x r) (flat.Goes t') u c h = absurd (h u)
core-writes l p input run t (inf.Faults x r) (flat.Reads a len) u c h = absurd (h u)
core-writes l p input run t (inf.Faults x r) (flat.Prints fd a len bytes t') u c h = absurd (h u)
core-writes l p input run t (inf.Faults x r) (flat.Exits code t') u c h = absurd (h u)
core-writes l p input run t (inf.Faults x r) (flat.Stays y) u c h = absurd (h u)

call-writes : (l : Layout) (p : Mapping) (run : InfRun) (i : InfStep) (n : GuestNext) → is_clear (inf_after run i) ≡ true → CallMatches l p run.state i n → Writes (inf_write i) n
call-writes l p run (inf.Goes s r) (Returns g) c h = record { same = refl; gone = tt }
call-writes l p run (inf.Goes s r) (Lacks used wanted g) c h = record { same = refl; gone = tt }
call-writes l p run (inf.Goes s r) (Carries n) c h = absurd h
call-writes l p run (inf.Faults k r) (Carries (flat.Faults k' address)) c h = record { same = refl; gone = tt }
call-writes l p run (inf.Faults k r) (Carries (flat.Goes core)) c h = absurd h
call-writes l p run (inf.Faults k r) (Carries (flat.Reads address len)) c h = absurd h
call-writes l p run (inf.Faults k r) (Carries (flat.Prints fd address len bytes core)) c h = absurd h
call-writes l p run (inf.Faults k r) (Carries (flat.Exits code core)) c h = absurd h
call-writes l p run (inf.Faults k r) (Carries (flat.Stays ended)) c h = absurd h
call-writes l p run (inf.Faults k r) (Returns g) c h = absurd h
call-writes l p run (inf.Faults k r) (Lacks used wanted g) c h = absurd h
call-writes l p run (inf.Blurs w r) n c h = absurd (cc)
call-writes l p run (inf.Reads len s r) n c h = absurd h
call-writes l p run (inf.Prints fd bytes s r) n c h = absurd h
call-writes l p run (inf.Exits code s) n c h = absurd h

pub states_of : (p : Mapping) (run : InfRun) (f : Flat) → RunsAgree p run f → StatesAgree p run.state f.guest
states_of p run f a = record { objects = a.matches.objects; state = a.matches.state; mapped = a.mapped; dues = a.dues; written = a.written }

at-call : StepFacts → (p : Mapping) → IsOutside p → (input : List ℕ) → AllBytes input → (zeroed : Bool) (run : InfRun) (f : Flat) → RunsAgree p run f → f.guest.rules.zero ≡ zeroed → f.guest.core.ended ≡ None → (call : Option HeapCall)
    → (call ≡ None → call_at f.guest.names run.state.pc ≡ None)
    → is_clear (inf_after run (inf_step_at p zeroed input run.state call)) ≡ true → AllHarmless (layout_of f.guest.history) (records_of (inf_step_at p zeroed input run.state call))
    → Writes (inf_write (inf_step_at p zeroed input run.state call)) (guest_next_at f.guest call)
at-call facts p out input all zeroed run f a same d None lacks c u =
    core-writes (layout_of f.guest.history) p input run f.guest.core (inf_fetch p input run.state) (next f.guest.core) u c
    (facts.steps (layout_of f.guest.history) (facts.laid f.guest.history a.mapped.lawful) p out input all [] zeroed run.state f.guest.core a.matches.state d refl)
at-call facts p out input all zeroed run f a same d (Some function) lacks c u =
    call-writes (layout_of f.guest.history) p run (inf_call run.state zeroed function) (heap_call f.guest function) c
    (subst (λ zeroed. CallMatches (layout_of f.guest.history) p run.state (inf_call run.state zeroed function) (heap_call f.guest function)) same (facts.calls p out run.state f.guest (states_of p run f a) d function))

-- what the next step of a guest does that agrees with such a run; it may have ended
abbrev pub IsGoneUnless : Option Ended → GuestNext → Type 0
IsGoneUnless None n = IsGone n
IsGoneUnless (Some ended) n = ⊤

record WritesAlike (p : Mapping) (names : List HeapName) (zeroed : Bool) (input : List ℕ) (run : InfRun) (e : Option InfEnding) (d : Option Ended) (n : GuestNext) : Type 0 where
  same : write_next n ≡ inf_write_of p names zeroed input run e
  gone : IsGoneUnless d n

turn : StepFacts → (p : Mapping) → IsOutside p → (input : List ℕ) → AllBytes input → (names : List HeapName) (zeroed : Bool) (run : InfRun) (f : Flat) → RunsAgree p run f → f.guest.names ≡ names → f.guest.rules.zero ≡ zeroed
    → (e : Option InfEnding) (d : Option Ended) → f.guest.core.ended ≡ d → SameEnding e d
    → is_clear (inf_step_of p names zeroed input run e) ≡ true → AllHarmless (layout_of f.guest.history) (next_records p names zeroed input run e)
    → WritesAlike p names zeroed input run e d (guest_next_of f.guest d)
turn facts p out input all names zeroed run f a called same None None r alike c u =
    let there : call_at names run.state.pc ≡ call_at f.guest.names f.guest.core.pc = ap (call_at names) a.matches.state.pc ∙ ap (λ ns. call_at ns f.guest.core.pc) (sym called) in
    let w : Writes (inf_write (inf_step_at p zeroed input run.state (call_at names run.state.pc))) (guest_next_at f.guest (call_at f.guest.names f.guest.core.pc)) =
    subst (λ (call : Option HeapCall). Writes (inf_write (inf_step_at p zeroed input run.state (call_at names run.state.pc))) (guest_next_at f.guest call)) there
    (at-call facts p out input all zeroed run f a same r (call_at names run.state.pc) (λ none. ap (λ ns. call_at ns run.state.pc) called ∙ none) c u) in
    record { same = w.same; gone = w.gone }
turn facts p out input all names zeroed run f a called same (Some e) (Some d) r alike c u = record { same = refl; gone = tt }
turn facts p out input all names zeroed run f a called same None (Some d) r alike c u = absurd alike
turn facts p out input all names zeroed run f a called same (Some (InfExit code)) None r alike c u = absurd alike
turn facts p out input all names zeroed run f a called same (Some (InfFault k pc)) None r alike c u = absurd alike
turn facts p out input all names zeroed run f a called same (Some (InfBlur w pc)) None r alike c u = absurd alike

-- ---- what a replica that agrees has come to

end-alike : (budget : ℕ) (run : InfRun) (f : Flat) → f.guest.core.steps ≡ run.state.steps → (e : Option InfEnding) (d : Option Ended) → SameEnding e d → at_end budget f d ≡ inf_end budget run e
end-alike budget run f steps None None same = ap (λ n. at_budget (nat_le budget n)) steps
end-alike budget run f steps (Some (InfExit code)) (Some (Exited code')) same = ap (λ c. Some (at.Exit c)) same
end-alike budget run f steps (Some (InfFault kind pc)) (Some (Faulted kind' pc' address)) same = ap (λ k. Some (at.Fault k pc')) same.0 ∙ ap (λ x. Some (at.Fault kind x)) same.1
end-alike budget run f steps None (Some d) same = absurd same
end-alike budget run f steps (Some (InfExit code)) None same = absurd same
end-alike budget run f steps (Some (InfExit code)) (Some (Faulted kind' pc' address)) same = absurd same
end-alike budget run f steps (Some (InfExit code)) (Some (Roomed used wanted)) same = absurd same
end-alike budget run f steps (Some (InfFault kind pc)) None same = absurd same
end-alike budget run f steps (Some (InfFault kind pc)) (Some (Exited code')) same = absurd same
end-alike budget run f steps (Some (InfFault kind pc)) (Some (Roomed used wanted)) same = absurd same
end-alike budget run f steps (Some (InfBlur why pc)) d same = absurd same

-- of two that agree with one run
pub ends_alike : (budget : ℕ) (p : Mapping) (run : InfRun) (f f' : Flat) → RunsAgree p run f → RunsAgree p run f' → at_end budget f f.guest.core.ended ≡ at_end budget f' f'.guest.core.ended
ends_alike budget p run f f' a a' =
    end-alike budget run f (sym a.matches.state.steps) run.ending f.guest.core.ended a.matches.ending
    ∙ sym (end-alike budget run f' (sym a'.matches.state.steps) run.ending f'.guest.core.ended a'.matches.ending)

-- a guest that agrees, with what the run's next step records there
pub record IsHarmlessly (p : Mapping) (names : List HeapName) (zeroed : Bool) (input : List ℕ) (run : InfRun) (f : Flat) : Type 0 where
  pub agrees : RunsAgree p run f
  pub called : f.guest.names ≡ names
  pub zeros : f.guest.rules.zero ≡ zeroed
  pub harmless : AllHarmless (layout_of f.guest.history) (next_records p names zeroed input run run.ending)

module _ (facts : StepFacts) (p : Mapping) (out : IsOutside p) (input : List ℕ) (all : AllBytes input) (names : List HeapName) (zeroed : Bool) (run : InfRun) (clear : is_clear (inf_step_of p names zeroed input run run.ending) ≡ true) where
  alike : (f : Flat) → IsHarmlessly p names zeroed input run f → WritesAlike p names zeroed input run run.ending f.guest.core.ended (guest_next f.guest)
  alike f h = turn facts p out input all names zeroed run f h.agrees h.called h.zeros run.ending f.guest.core.ended refl h.agrees.matches.ending clear h.harmless

  pub writes_alike : (f f' : Flat) → IsHarmlessly p names zeroed input run f → IsHarmlessly p names zeroed input run f' → write_next (guest_next f.guest) ≡ write_next (guest_next f'.guest)
  writes_alike f f' h h' = (alike f h).same ∙ sym ((alike f' h').same)

  pub goes_unless_ended : (f : Flat) → IsHarmlessly p names zeroed input run f → f.guest.core.ended ≡ None → IsGone (guest_next f.guest)
  goes_unless_ended f h none = subst (λ d. IsGoneUnless d (guest_next f.guest)) none (alike f h).gone

pub clocks_alike : (p : Mapping) (run : InfRun) (f f' : Flat) → RunsAgree p run f → RunsAgree p run f' → clock_of f.guest.history ≡ clock_of f'.guest.history
clocks_alike p run f f' a a' = a.matches.objects.count ∙ sym a'.matches.objects.count
