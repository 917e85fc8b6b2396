-- Runs of the two machines match.
use Rattle.std.proofs.Common.{◌≡◌, ℕ, zero, suc, ◌+◌, ◌<◌, refl, ap, sym, ◌∙◌, subst, Bool, true, arith, List, [], ◌∷◌, length, slice_get, Option, None, Some}
use Rattle.infinite_heap.specs.declared.access.Record.{Record}
use Rattle.infinite_heap.specs.declared.program.HeapName.{HeapName}
use Rattle.infinite_heap.specs.Covered.{IsCoveredRun, next_records, records_after}
use Rattle.infinite_heap.specs.InfiniteHeap.{call_at}
use Rattle.infinite_heap.specs.InfiniteRun.{InfRun, InfEnding, InfExit, InfFault, InfBlur, printed_on, inf_after, inf_step_of, inf_mapping, inf_run, is_clear, is_clear_ending}
use Rattle.infinite_heap.specs.InfiniteState as inf
use Rattle.infinite_heap.specs.InfiniteState.{InfState, InfStep, records_of}
use Rattle.infinite_heap.specs.InfiniteStep.{inf_step}
use Rattle.infinite_heap.specs.InfiniteSystem.{taken}
use Rattle.infinite_heap.specs.Layout.{Layout, AllHarmless}
use Rattle.infinite_heap.specs.Loaded.{Loaded}
use Rattle.infinite_heap.specs.Mapped.{Mapping}
use Rattle.infinite_heap.specs.Objects.{Object}
use Rattle.rv_machine.specs.declared.ended.Ended.{Ended}
use Rattle.rv_machine.specs.declared.ended.Ended.TheVariants.{Faulted}
use Rattle.exact_heap.specs.History.{History, no_history}
use Rattle.exact_heap.specs.History as exact
use Rattle.rv_machine.specs.declared.settings.Settings.{Settings}
use Rattle.rv_machine.specs.Core as flat
use Rattle.rv_machine.specs.Core.{Core, Next, faulted, filled}
use Rattle.rv_machine.specs.Flat.{Flat, carried, after_step, flat_step, flat_steps, flat_run}
use Rattle.rv_machine.specs.Guest.{Guest}
use Rattle.rv_machine.specs.HeapCalls.{GuestNext, Carries, Returns, Lacks, guest_next, guest_next_at, guest_next_of}
use Rattle.rv_machine.specs.Laws.{AllBytes, AllKnown, StepsMatch, RecordsAreKnown, RunsMatch, RunsKeepRules, NamelessAreHeapless}
use Rattle.rv_machine.specs.Matches.{IsOutside, StateMatches, StepMatches, SameEnding, RunMatches}
use Rattle.rv_machine.specs.Objects.{ObjectsMatch, layout_of}
use Rattle.rv_machine.specs.Shape.{IsGuestShaped}
use Rattle.rv_machine.specs.Steps.{next, next_of}
use Rattle.rv_machine.proofs.Begun.{heapless-lies, programs_stay_outside, start_matches}
use Rattle.rv_machine.proofs.Shaped.{guest-shaped}

-- ---- what a run keeps

-- a guest's names and rules are those of another
abbrev KeepsRules : Guest → Guest → Type 0
KeepsRules g to = (to.names ≡ g.names) × (to.rules ≡ g.rules)

carries-rules : (input : List ℕ) (f : Flat) (n : Next) → KeepsRules f.guest (carried input f n).guest
carries-rules input f (flat.Goes core) = (refl, refl)
carries-rules input f (flat.Faults kind address) = (refl, refl)
carries-rules input f (flat.Reads address len) = (refl, refl)
carries-rules input f (flat.Prints fd address len bytes core) = (refl, refl)
carries-rules input f (flat.Exits code core) = (refl, refl)
carries-rules input f (flat.Stays ended) = (refl, refl)

step-rules : (input : List ℕ) (f : Flat) (n : GuestNext) → IsGuestShaped f.guest n → KeepsRules f.guest (after_step input f n).guest
step-rules input f (Carries n) shape = carries-rules input f n
step-rules input f (Returns g) shape = (shape.1, shape.2)
step-rules input f (Lacks used wanted g) shape = (shape.1, shape.2)

pub runs_keep_rules : RunsKeepRules
unfolding flat_steps
runs_keep_rules program args settings input zero = (refl, refl)
runs_keep_rules program args settings input (suc n) =
    let f : Flat = flat_run program args settings input n in
    let before = runs_keep_rules program args settings input n in
    let kept = step-rules input f (guest_next f.guest) (guest-shaped f.guest) in
    (kept.0 ∙ before.0, kept.1 ∙ before.1)

-- ---- a guest without heap functions

nameless-of : (g : Guest) → g.names ≡ [] → (e : Option Ended) → g.core.ended ≡ e → guest_next_of g e ≡ Carries (next_of g.core e)
nameless-of g none None is = ap (guest_next_at g) (ap (λ (ns : List HeapName). call_at ns g.core.pc) none) ∙ ap (λ (e : Option Ended). Carries (next_of g.core e)) is
nameless-of g none (Some e) is = refl

nameless-next : (g : Guest) → g.names ≡ [] → guest_next g ≡ Carries (next g.core)
nameless-next g none = nameless-of g none g.core.ended refl

carries-history : (input : List ℕ) (f : Flat) (n : Next) → (carried input f n).guest.history ≡ f.guest.history
carries-history input f (flat.Goes core) = refl
carries-history input f (flat.Faults kind address) = refl
carries-history input f (flat.Reads address len) = refl
carries-history input f (flat.Prints fd address len bytes core) = refl
carries-history input f (flat.Exits code core) = refl
carries-history input f (flat.Stays ended) = refl

nameless-step : (input : List ℕ) (f : Flat) → f.guest.names ≡ [] → flat_step input f ≡ carried input f (next f.guest.core)
nameless-step input f none = ap (after_step input f) (nameless-next f.guest none)

run-nameless : (program : Loaded) → program.names ≡ [] → (args : List (List ℕ)) (settings : Settings) (input : List ℕ) (n : ℕ) → (flat_run program args settings input n).guest.names ≡ []
run-nameless program nameless args settings input n = (runs_keep_rules program args settings input n).0 ∙ nameless

pub nameless_are_heapless : NamelessAreHeapless
unfolding flat_steps
nameless_are_heapless program nameless args settings input zero = refl
nameless_are_heapless program nameless args settings input (suc n) =
    let f : Flat = flat_run program args settings input n in
    ap (λ (x : Flat). x.guest.history) (nameless-step input f (run-nameless program nameless args settings input n)) ∙ carries-history input f (next f.guest.core)
    ∙ nameless_are_heapless program nameless args settings input n

-- ---- matching runs

-- a new heap has no object
heapless-match : (h : History) (seed : ℕ) (objects : List Object) → h ≡ no_history seed → length objects ≡ length h.objects → ObjectsMatch h objects
heapless-match h seed objects e count = record {
  count = sym count;
  each = λ n o at. absurd (nothing n o (ap (λ (g : History). slice_get g.objects n) (sym e) ∙ at));
}
  where
    nothing : (n : ℕ) (o : exact.Object) → slice_get (no_history seed).objects n ≡ Some o → ⊥
    nothing n o at = absurd (cc)

-- without objects nothing is recorded
none-recorded : (l : Layout) (count : ℕ) (records : List Record) → count ≡ 0 → AllKnown count records → AllHarmless l records
none-recorded l count [] e h = tt
none-recorded l count (r ∷ rest) e h = let z : r.access.object < count = h.0 in absurd (omega arith)

-- that the guest has ended is no part of what matches
ended-matches : (l : Layout) (p : Mapping) (s : InfState) (t : Core) (e : Option Ended) → StateMatches l p s t → StateMatches l p s (record t { ended = e })
ended-matches l p s t e m = record {
  pc = m.pc;
  pc_fits = m.pc_fits;
  steps = m.steps;
  calls = m.calls;
  count = m.count;
  aligned = m.aligned;
  width = m.width;
  fits = m.fits;
  regs = m.regs;
  maps = m.maps;
  memory = m.memory;
}

same-none : (e : Option InfEnding) (d : Option Ended) → e ≡ None → d ≡ None → SameEnding e d
same-none e d p q = subst (λ (x : Option InfEnding). SameEnding x d) (sym p) (subst (λ (y : Option Ended). SameEnding None y) (sym q) tt)

-- matching steps of matching runs
goes_on : (seed : ℕ) (p : Mapping) (input : List ℕ) (run : InfRun) (f : Flat) → f.guest.history ≡ no_history seed → RunMatches p run f → run.ending ≡ None → f.guest.core.ended ≡ None → (i : InfStep) (n : Next) → AllHarmless (layout_of f.guest.history) (records_of i) → is_clear (inf_after run i) ≡ true
    → StepMatches (layout_of f.guest.history) p input run.state f.guest.core i n → RunMatches p (inf_after run i) (carried input f n)
goes_on seed p input run f new m e d (inf.Goes s r) (flat.Goes t) u c h = let w = h u in record {
  objects = heapless-match f.guest.history seed s.objects new w.0.count;
  state = w.0;
  place = m.place ∙ sym w.1;
  out = m.out;
  err = m.err;
  ending = same-none run.ending t.ended e (w.2 ∙ d);
}
goes_on seed p input run f new m e d (inf.Goes s r) (flat.Reads a len) u c h = absurd (h u)
goes_on seed p input run f new m e d (inf.Reads wanted s r) (flat.Reads a len) u c h = let w = h u in record {
  objects = heapless-match f.guest.history seed s.objects new w.0.count;
  state = subst (λ (n : ℕ). StateMatches (layout_of f.guest.history) p s (filled f.guest.core a (taken input f.place n))) (sym w.1)
      (subst (λ (k : ℕ). StateMatches (layout_of f.guest.history) p s (filled f.guest.core a (taken input k wanted))) (sym m.place) w.0);
  place = ap (λ (n : ℕ). f.place + length (taken input f.place n)) w.1 ∙ (ap (λ (k : ℕ). k + length (taken input k wanted)) m.place ∙ sym w.2);
  out = m.out;
  err = m.err;
  ending = same-none run.ending f.guest.core.ended e d;
}
goes_on seed p input run f new m e d (inf.Goes s r) (flat.Faults k a) u c h = absurd (h u)
goes_on seed p input run f new m e d (inf.Goes s r) (flat.Prints fd a len bytes t) u c h = absurd (h u)
goes_on seed p input run f new m e d (inf.Goes s r) (flat.Exits code t) u c h = absurd (h u)
goes_on seed p input run f new m e d (inf.Goes s r) (flat.Stays x) u c h = absurd (h u)
goes_on seed p input run f new m e d (inf.Reads wanted s r) (flat.Goes t) u c h = absurd (h u)
goes_on seed p input run f new m e d (inf.Reads wanted s r) (flat.Faults k a) u c h = absurd (h u)
goes_on seed p input run f new m e d (inf.Reads wanted s r) (flat.Prints fd a len bytes t) u c h = absurd (h u)
goes_on seed p input run f new m e d (inf.Reads wanted s r) (flat.Exits code t) u c h = absurd (h u)
goes_on seed p input run f new m e d (inf.Reads wanted s r) (flat.Stays x) u c h = absurd (h u)
goes_on seed p input run f new m e d (inf.Prints fd bytes s r) (flat.Prints fd' a len bytes' t) u c h = let w = h u in record {
  objects = heapless-match f.guest.history seed s.objects new w.0.count;
  state = w.0;
  place = m.place ∙ sym w.3;
  out = ap (λ (xs : List ℕ). printed_on 1 fd' xs bytes') m.out ∙ ap (λ (x : ℕ). printed_on 1 x run.out bytes') w.1 ∙ ap (λ (ys : List ℕ). printed_on 1 fd run.out ys) w.2;
  err = ap (λ (xs : List ℕ). printed_on 2 fd' xs bytes') m.err ∙ ap (λ (x : ℕ). printed_on 2 x run.err bytes') w.1 ∙ ap (λ (ys : List ℕ). printed_on 2 fd run.err ys) w.2;
  ending = same-none run.ending t.ended e (w.4 ∙ d);
}
goes_on seed p input run f new m e d (inf.Prints fd bytes s r) (flat.Goes t) u c h = absurd (h u)
goes_on seed p input run f new m e d (inf.Prints fd bytes s r) (flat.Faults k a) u c h = absurd (h u)
goes_on seed p input run f new m e d (inf.Prints fd bytes s r) (flat.Reads a len) u c h = absurd (h u)
goes_on seed p input run f new m e d (inf.Prints fd bytes s r) (flat.Exits code t) u c h = absurd (h u)
goes_on seed p input run f new m e d (inf.Prints fd bytes s r) (flat.Stays x) u c h = absurd (h u)
goes_on seed p input run f new m e d (inf.Exits code s) (flat.Exits code' t) u c h = record {
  objects = heapless-match f.guest.history seed s.objects new h.0.count;
  state = h.0;
  place = m.place ∙ sym h.2;
  out = m.out;
  err = m.err;
  ending = subst (λ (y : Option Ended). SameEnding (Some (InfExit code)) y) (sym h.3) refl;
}
goes_on seed p input run f new m e d (inf.Exits code s) (flat.Goes t) u c h = absurd h
goes_on seed p input run f new m e d (inf.Exits code s) (flat.Faults k a) u c h = absurd h
goes_on seed p input run f new m e d (inf.Exits code s) (flat.Reads a len) u c h = absurd h
goes_on seed p input run f new m e d (inf.Exits code s) (flat.Prints fd a len bytes t) u c h = absurd h
goes_on seed p input run f new m e d (inf.Exits code s) (flat.Stays x) u c h = absurd h
goes_on seed p input run f new m e d (inf.Faults k r) (flat.Faults k' a) u c h = record {
  objects = m.objects;
  state = ended-matches (layout_of f.guest.history) p run.state f.guest.core (Some (Faulted k' f.guest.core.pc a)) m.state;
  place = m.place;
  out = m.out;
  err = m.err;
  ending = (h u, sym m.state.pc);
}
goes_on seed p input run f new m e d (inf.Faults k r) (flat.Goes t) u c h = absurd (h u)
goes_on seed p input run f new m e d (inf.Faults k r) (flat.Reads a len) u c h = absurd (h u)
goes_on seed p input run f new m e d (inf.Faults k r) (flat.Prints fd a len bytes t) u c h = absurd (h u)
goes_on seed p input run f new m e d (inf.Faults k r) (flat.Exits code t) u c h = absurd (h u)
goes_on seed p input run f new m e d (inf.Faults k r) (flat.Stays x) u c h = absurd (h u)
goes_on seed p input run f new m e d (inf.Blurs w r) n u c h = absurd (cc)

-- a run that is clear was clear before
clear-before : (p : Mapping) (names : List HeapName) (zeroed : Bool) (input : List ℕ) (run : InfRun) (e : Option InfEnding) → run.ending ≡ e → is_clear (inf_step_of p names zeroed input run e) ≡ true → is_clear run ≡ true
clear-before p names zeroed input run None q c = ap is_clear_ending q
clear-before p names zeroed input run (Some e) q c = c

turn_matches : StepsMatch → (seed : ℕ) (p : Mapping) → IsOutside p → (names : List HeapName) → names ≡ [] → (zeroed : Bool) (input : List ℕ) → AllBytes input
    → (run : InfRun) (f : Flat) → f.guest.history ≡ no_history seed → RunMatches p run f → (e : Option InfEnding) (d : Option Ended) → run.ending ≡ e → f.guest.core.ended ≡ d → SameEnding e d
    → AllHarmless (layout_of f.guest.history) (next_records p names zeroed input run e) → is_clear (inf_step_of p names zeroed input run e) ≡ true → RunMatches p (inf_step_of p names zeroed input run e) (carried input f (next_of f.guest.core d))
turn_matches steps seed p out names nameless zeroed input all run f new m None None q r same u c =
    goes_on seed p input run f new m q r (inf_step p names zeroed input run.state) (next_of f.guest.core None) u c
    (subst (λ (x : Option Ended). StepMatches (layout_of f.guest.history) p input run.state f.guest.core (inf_step p names zeroed input run.state) (next_of f.guest.core x)) r
    (steps (layout_of f.guest.history) (heapless-lies f.guest.history seed new) p out input all names zeroed run.state f.guest.core m.state r (ap (λ (ns : List HeapName). call_at ns run.state.pc) nameless)))
turn_matches steps seed p out names nameless zeroed input all run f new m (Some e) (Some d) q r same u c = m
turn_matches steps seed p out names nameless zeroed input all run f new m None (Some d) q r same u c = absurd same
turn_matches steps seed p out names nameless zeroed input all run f new m (Some (InfExit code)) None q r same u c = absurd same
turn_matches steps seed p out names nameless zeroed input all run f new m (Some (InfFault k pc)) None q r same u c = absurd same
turn_matches steps seed p out names nameless zeroed input all run f new m (Some (InfBlur w pc)) None q r same u c = absurd same

pub run_matches : StepsMatch → RecordsAreKnown → RunsMatch
unfolding inf_run flat_steps IsCoveredRun
run_matches steps known program lawful nameless args bytes settings input all zero c h = record {
  objects = heapless-match (no_history settings.seed) settings.seed [] refl refl;
  state = start_matches settings.seed program lawful args bytes;
  place = refl;
  out = refl;
  err = refl;
  ending = tt;
}
run_matches steps known program lawful nameless args bytes settings input all (suc n) c h =
    let run : InfRun = inf_run program args input settings.zero n in
    let f : Flat = flat_run program args settings input n in
    let p : Mapping = inf_mapping program args in
    let m : RunMatches p run f = run_matches steps known program lawful nameless args bytes settings input all n (clear-before p program.names settings.zero input run run.ending refl c) h.0 in
    let new : f.guest.history ≡ no_history settings.seed = nameless_are_heapless program nameless args settings input n in
    let few : length run.state.objects ≡ 0 = m.state.count ∙ ap (λ (g : History). length g.objects) new in
    subst (λ (x : Flat). RunMatches p (inf_step_of p program.names settings.zero input run run.ending) x) (sym (nameless-step input f (run-nameless program nameless args settings input n)))
    (turn_matches steps settings.seed p (programs_stay_outside program lawful args) program.names nameless settings.zero input all run f new m run.ending f.guest.core.ended refl refl m.ending
    (none-recorded (layout_of f.guest.history) (length run.state.objects) (records_after program args input settings.zero n) few (known program args bytes input all settings.zero n)) c)
