-- From runs that agree one whole step of each leads to runs that agree, or to no room.
use Rattle.std.proofs.Common.{◌≡◌, ℕ, ◌+◌, refl, ap, sym, ◌∙◌, subst, true, List, [], length, Option, None, Some, inl, inr}
use Rattle.infinite_heap.specs.declared.program.HeapCall.{HeapCall}
use Rattle.infinite_heap.specs.Covered.{next_records}
use Rattle.infinite_heap.specs.InfiniteHeap.{call_at, inf_call}
use Rattle.infinite_heap.specs.InfiniteRun.{InfRun, InfEnding, InfExit, InfFault, InfBlur, printed_on, inf_after, inf_step_of, is_clear}
use Rattle.infinite_heap.specs.InfiniteState as inf
use Rattle.infinite_heap.specs.InfiniteState.{InfState, InfStep, records_of}
use Rattle.infinite_heap.specs.InfiniteStep.{inf_fetch, inf_step_at}
use Rattle.infinite_heap.specs.InfiniteSystem.{taken}
use Rattle.infinite_heap.specs.Layout.{Layout, AllHarmless}
use Rattle.infinite_heap.specs.Mapped.{Mapping}
use Rattle.infinite_heap.specs.Objects.{Object}
use Rattle.exact_heap.specs.Dues.{KeepsDues}
use Rattle.exact_heap.specs.History.{History}
use Rattle.rv_machine.specs.declared.ended.Ended.{Ended}
use Rattle.rv_machine.specs.declared.ended.Ended.TheVariants.{Faulted}
use Rattle.rv_machine.specs.Core as flat
use Rattle.rv_machine.specs.Core.{Core, Next, filled}
use Rattle.rv_machine.specs.Flat.{Flat, carried, after_step}
use Rattle.rv_machine.specs.Guest.{Guest}
use Rattle.rv_machine.specs.HeapCalls.{GuestNext, Carries, Returns, Lacks, guest_next, guest_next_at, guest_next_of, heap_call}
use Rattle.rv_machine.specs.Laws.{AllBytes, StepsMatch, StepsStayMapped}
use Rattle.rv_machine.specs.Matches.{IsOutside, IsMapped, StateMatches, StepMatches, SameEnding, RunMatches}
use Rattle.rv_machine.specs.Objects.{ObjectsMatch, layout_of}
use Rattle.rv_machine.specs.Shape.{IsGuestShaped}
use Rattle.rv_machine.specs.Steps.{next}
use Rattle.value_laws.specs.OperationLaws.{LiftIsSound}
use Rattle.rv_decode.specs.Laws.{RowsAreInRange}
use Rattle.simulation.specs.Agreement.{StatesAgree, RunsAgree, HeapsAreLaidOut, AreOfObjects}
use Rattle.simulation.specs.Calls.{CallMatches, HeapCallsMatch}
use Rattle.simulation.specs.Runs.{AgreesOrRoomed, StepsAgree}
use Rattle.simulation.proofs.SteppedWrites.{KeepsWritten, writes_are_known}
use Rattle.simulation.proofs.Timed.{IsSteady, instructions_are_steady}

-- what the laws of the crates below say of steps
pub record StepFacts : Type 0 where
  pub laid : HeapsAreLaidOut
  pub calls : HeapCallsMatch
  pub steps : StepsMatch
  pub mapped : StepsStayMapped
  pub shaped : (g : Guest) → IsGuestShaped g (guest_next g)
  pub lift : LiftIsSound
  pub rows : RowsAreInRange

pub states_of : (p : Mapping) (run : InfRun) (f : Flat) → RunsAgree p run f → StatesAgree p run.state f.guest
states_of p run f a = record { objects = a.matches.objects; state = a.matches.state; mapped = a.mapped; dues = a.dues; written = a.written }

-- that the guest has ended is no part of what matches
ended-matches : (l : Layout) (p : Mapping) (s : InfState) (t : Core) (e : Option Ended) → StateMatches l p s t → StateMatches l p s (record t { ended = e })
ended-matches l p s t e m = record {
  pc = m.pc;
  pc_fits = m.pc_fits;
  steps = m.steps;
  calls = m.calls;
  count = m.count;
  aligned = m.aligned;
  width = m.width;
  fits = m.fits;
  regs = m.regs;
  maps = m.maps;
  memory = m.memory;
}

same-none : (e : Option InfEnding) (d : Option Ended) → e ≡ None → d ≡ None → SameEnding e d
same-none e d p q = subst (λ (x : Option InfEnding). SameEnding x d) (sym p) (subst (λ (y : Option Ended). SameEnding None y) (sym q) tt)

faulted-matches : (p : Mapping) (input : List ℕ) (run : InfRun) (f : Flat) → RunMatches p run f → (k k' : _) (r : _) (a : ℕ) → k' ≡ k → RunMatches p (inf_after run (inf.Faults k r)) (carried input f (flat.Faults k' a))
faulted-matches p input run f m k k' r a same = record {
  objects = m.objects;
  state = ended-matches (layout_of f.guest.history) p run.state f.guest.core (Some (Faulted k' f.guest.core.pc a)) m.state;
  place = m.place;
  out = m.out;
  err = m.err;
  ending = (same, sym m.state.pc);
}

-- ---- instructions

kept-objects : (h : History) (old new : List Object) → new ≡ old → ObjectsMatch h old → ObjectsMatch h new
kept-objects h old new e m = subst (ObjectsMatch h) (sym e) m

-- matching steps of matching runs
goes-on : (p : Mapping) (input : List ℕ) (run : InfRun) (f : Flat) → RunMatches p run f → run.ending ≡ None → f.guest.core.ended ≡ None → (i : InfStep) (n : Next) → IsSteady run.state i → AllHarmless (layout_of f.guest.history) (records_of i) → is_clear (inf_after run i) ≡ true
    → StepMatches (layout_of f.guest.history) p input run.state f.guest.core i n → RunMatches p (inf_after run i) (carried input f n)
goes-on p input run f m e d (inf.Goes s r) (flat.Goes t) k u c h = let w = h u in record {
  objects = kept-objects f.guest.history run.state.objects s.objects k.0 m.objects;
  state = w.0;
  place = m.place ∙ sym w.1;
  out = m.out;
  err = m.err;
  ending = same-none run.ending t.ended e (w.2 ∙ d);
}
goes-on p input run f m e d (inf.Reads wanted s r) (flat.Reads a len) k u c h = let w = h u in record {
  objects = kept-objects f.guest.history run.state.objects s.objects k.0 m.objects;
  state = subst (λ (n : ℕ). StateMatches (layout_of f.guest.history) p s (filled f.guest.core a (taken input f.place n))) (sym w.1)
      (subst (λ (k : ℕ). StateMatches (layout_of f.guest.history) p s (filled f.guest.core a (taken input k wanted))) (sym m.place) w.0);
  place = ap (λ (n : ℕ). f.place + length (taken input f.place n)) w.1 ∙ (ap (λ (k : ℕ). k + length (taken input k wanted)) m.place ∙ sym w.2);
  out = m.out;
  err = m.err;
  ending = same-none run.ending f.guest.core.ended e d;
}
goes-on p input run f m e d (inf.Prints fd bytes s r) (flat.Prints fd' a len bytes' t) k u c h = let w = h u in record {
  objects = kept-objects f.guest.history run.state.objects s.objects k.0 m.objects;
  state = w.0;
  place = m.place ∙ sym w.3;
  out = ap (λ (xs : List ℕ). printed_on 1 fd' xs bytes') m.out ∙ ap (λ (x : ℕ). printed_on 1 x run.out bytes') w.1 ∙ ap (λ (ys : List ℕ). printed_on 1 fd run.out ys) w.2;
  err = ap (λ (xs : List ℕ). printed_on 2 fd' xs bytes') m.err ∙ ap (λ (x : ℕ). printed_on 2 x run.err bytes') w.1 ∙ ap (λ (ys : List ℕ). printed_on 2 fd run.err ys) w.2;
  ending = same-none run.ending t.ended e (w.4 ∙ d);
}
goes-on p input run f m e d (inf.Exits code s) (flat.Exits code' t) k u c h = record {
  objects = kept-objects f.guest.history run.state.objects s.objects k m.objects;
  state = h.0;
  place = m.place ∙ sym h.2;
  out = m.out;
  err = m.err;
  ending = subst (λ (y : Option Ended). SameEnding (Some (InfExit code)) y) (sym h.3) refl;
}
goes-on p input run f m e d (inf.Faults k r) (flat.Faults k' a) q u c h = faulted-matches p input run f m k k' r a (h u)
goes-on p input run f m e d (inf.Blurs w r) n k u c h = absurd (cc)
goes-on p input run f m e d (inf.Goes s r) (flat.Reads a len) k u c h = absurd (h u)
goes-on p input run f m e d (inf.Goes s r) (flat.Faults x a) k u c h = absurd (h u)
goes-on p input run f m e d (inf.Goes s r) (flat.Prints fd a len bytes t) k u c h = absurd (h u)
goes-on p input run f m e d (inf.Goes s r) (flat.Exits code t) k u c h = absurd (h u)
goes-on p input run f m e d (inf.Goes s r) (flat.Stays x) k u c h = absurd (h u)
goes-on p input run f m e d (inf.Reads wanted s r) (flat.Goes t) k u c h = absurd (h u)
goes-on p input run f m e d (inf.Reads wanted s r) (flat.Faults x a) k u c h = absurd (h u)
goes-on p input run f m e d (inf.Reads wanted s r) (flat.Prints fd a len bytes t) k u c h = absurd (h u)
goes-on p input run f m e d (inf.Reads wanted s r) (flat.Exits code t) k u c h = absurd (h u)
goes-on p input run f m e d (inf.Reads wanted s r) (flat.Stays x) k u c h = absurd (h u)
goes-on p input run f m e d (inf.Prints fd bytes s r) (flat.Goes t) k u c h = absurd (h u)
goes-on p input run f m e d (inf.Prints fd bytes s r) (flat.Faults x a) k u c h = absurd (h u)
goes-on p input run f m e d (inf.Prints fd bytes s r) (flat.Reads a len) k u c h = absurd (h u)
goes-on p input run f m e d (inf.Prints fd bytes s r) (flat.Exits code t) k u c h = absurd (h u)
goes-on p input run f m e d (inf.Prints fd bytes s r) (flat.Stays x) k u c h = absurd (h u)
goes-on p input run f m e d (inf.Exits code s) (flat.Goes t) k u c h = absurd h
goes-on p input run f m e d (inf.Exits code s) (flat.Faults x a) k u c h = absurd h
goes-on p input run f m e d (inf.Exits code s) (flat.Reads a len) k u c h = absurd h
goes-on p input run f m e d (inf.Exits code s) (flat.Prints fd a len bytes t) k u c h = absurd h
goes-on p input run f m e d (inf.Exits code s) (flat.Stays x) k u c h = absurd h
goes-on p input run f m e d (inf.Faults x r) (flat.Goes t) k u c h = absurd (h u)
goes-on p input run f m e d (inf.Faults x r) (flat.Reads a len) k u c h = absurd (h u)
goes-on p input run f m e d (inf.Faults x r) (flat.Prints fd a len bytes t) k u c h = absurd (h u)
goes-on p input run f m e d (inf.Faults x r) (flat.Exits code t) k u c h = absurd (h u)
goes-on p input run f m e d (inf.Faults x r) (flat.Stays y) k u c h = absurd (h u)

-- what is written is of objects that there are
keeps-written : (l : Layout) (p : Mapping) (s s' : InfState) (t : Core) → StateMatches l p s t → s'.objects ≡ s.objects → (AreOfObjects l.count s.written → AreOfObjects l.count s'.written) → AreOfObjects (length s.objects) s.written → AreOfObjects (length s'.objects) s'.written
keeps-written l p s s' t m same keeps w =
    let count : l.count ≡ length s'.objects = sym m.count ∙ ap (λ (xs : List Object). length xs) (sym same) in
    subst (λ (n : ℕ). AreOfObjects n s'.written) count (keeps (subst (λ (n : ℕ). AreOfObjects n s.written) m.count w))

writes : (l : Layout) (p : Mapping) (run : InfRun) (t : Core) → StateMatches l p run.state t → AreOfObjects (length run.state.objects) run.state.written → (i : InfStep) → IsSteady run.state i → KeepsWritten l.count run.state i
    → AreOfObjects (length (inf_after run i).state.objects) (inf_after run i).state.written
writes l p run t m w (inf.Goes s r) steady keeps = keeps-written l p run.state s t m steady.0 keeps w
writes l p run t m w (inf.Reads len s r) steady keeps = keeps-written l p run.state s t m steady.0 keeps w
writes l p run t m w (inf.Prints fd bytes s r) steady keeps = keeps-written l p run.state s t m steady.0 keeps w
writes l p run t m w (inf.Exits code s) steady keeps = keeps-written l p run.state s t m steady keeps w
writes l p run t m w (inf.Faults k r) steady keeps = w
writes l p run t m w (inf.Blurs why r) steady keeps = w

-- no instruction changes the heap's history
pub carried-history : (input : List ℕ) (f : Flat) (n : Next) → (carried input f n).guest.history ≡ f.guest.history
carried-history input f (flat.Goes core) = refl
carried-history input f (flat.Faults kind address) = refl
carried-history input f (flat.Reads address len) = refl
carried-history input f (flat.Prints fd address len bytes core) = refl
carried-history input f (flat.Exits code core) = refl
carried-history input f (flat.Stays ended) = refl

-- ---- heap calls

returns : (p : Mapping) (input : List ℕ) (run : InfRun) (f : Flat) → RunsAgree p run f → run.ending ≡ None → f.guest.core.ended ≡ None → (i : InfStep) (n : GuestNext) → AllHarmless (layout_of f.guest.history) (records_of i) → is_clear (inf_after run i) ≡ true
    → IsMapped p (after_step input f n).guest → IsGuestShaped f.guest n → CallMatches (layout_of f.guest.history) p run.state i n → AgreesOrRoomed p (inf_after run i) (after_step input f n)
returns p input run f a e d (inf.Goes s r) (Returns g) u c mapped shape h = let w = h u in inl (record {
  matches = record {
    objects = w.0.objects;
    state = w.0.state;
    place = a.matches.place ∙ sym w.1;
    out = a.matches.out;
    err = a.matches.err;
    ending = same-none run.ending g.core.ended e (shape.0 ∙ d);
  };
  mapped = w.0.mapped;
  dues = w.0.dues;
  written = w.0.written;
})
returns p input run f a e d (inf.Goes s r) (Lacks used wanted g) u c mapped shape h = inr (used, wanted, record { ended = shape.0 })
returns p input run f a e d (inf.Goes s r) (Carries n) u c mapped shape h = absurd h
returns p input run f a e d (inf.Faults k r) (Carries (flat.Faults k' address)) u c mapped shape h =
    inl (record { matches = faulted-matches p input run f a.matches k k' r address h; mapped = mapped; dues = a.dues; written = a.written })
returns p input run f a e d (inf.Faults k r) (Carries (flat.Goes core)) u c mapped shape h = absurd h
returns p input run f a e d (inf.Faults k r) (Carries (flat.Reads address len)) u c mapped shape h = absurd h
returns p input run f a e d (inf.Faults k r) (Carries (flat.Prints fd address len bytes core)) u c mapped shape h = absurd h
returns p input run f a e d (inf.Faults k r) (Carries (flat.Exits code core)) u c mapped shape h = absurd h
returns p input run f a e d (inf.Faults k r) (Carries (flat.Stays ended)) u c mapped shape h = absurd h
returns p input run f a e d (inf.Faults k r) (Returns g) u c mapped shape h = absurd h
returns p input run f a e d (inf.Faults k r) (Lacks used wanted g) u c mapped shape h = absurd h
returns p input run f a e d (inf.Blurs w r) n u c mapped shape h = absurd (cc)
returns p input run f a e d (inf.Reads len s r) n u c mapped shape h = absurd h
returns p input run f a e d (inf.Prints fd bytes s r) n u c mapped shape h = absurd h
returns p input run f a e d (inf.Exits code s) n u c mapped shape h = absurd h

-- ---- the step

at-call : StepFacts → (p : Mapping) → IsOutside p → (input : List ℕ) → AllBytes input → (run : InfRun) (f : Flat) → RunsAgree p run f → run.ending ≡ None → f.guest.core.ended ≡ None → (call : Option HeapCall)
    → is_clear (inf_after run (inf_step_at p f.guest.rules.zero input run.state call)) ≡ true → AllHarmless (layout_of f.guest.history) (records_of (inf_step_at p f.guest.rules.zero input run.state call))
    → IsMapped p (after_step input f (guest_next_at f.guest call)).guest → IsGuestShaped f.guest (guest_next_at f.guest call)
    → AgreesOrRoomed p (inf_after run (inf_step_at p f.guest.rules.zero input run.state call)) (after_step input f (guest_next_at f.guest call))
at-call facts p out input all run f a e d None c u mapped shape =
    let i : InfStep = inf_fetch p input run.state in
    let steps : StepMatches (layout_of f.guest.history) p input run.state f.guest.core i (next f.guest.core) = facts.steps (layout_of f.guest.history) (facts.laid f.guest.history a.mapped.lawful) p out input all [] f.guest.rules.zero run.state f.guest.core a.matches.state d refl in
    inl (record {
      matches = goes-on p input run f a.matches e d i (next f.guest.core) (instructions_are_steady p input run.state) u c steps;
      mapped = mapped;
      dues = subst KeepsDues (sym (carried-history input f (next f.guest.core))) a.dues;
      written = writes (layout_of f.guest.history) p run f.guest.core a.matches.state a.written i (instructions_are_steady p input run.state)
          (writes_are_known facts.lift facts.rows (layout_of f.guest.history) (facts.laid f.guest.history a.mapped.lawful) p input run.state f.guest.core a.matches.state);
    })
at-call facts p out input all run f a e d (Some function) c u mapped shape =
    returns p input run f a e d (inf_call run.state f.guest.rules.zero function) (heap_call f.guest function) u c mapped shape
    (facts.calls p out run.state f.guest (states_of p run f a) d function)

turn : StepFacts → (p : Mapping) → IsOutside p → (input : List ℕ) → AllBytes input → (run : InfRun) (f : Flat) → RunsAgree p run f → (e : Option InfEnding) (d : Option Ended) → run.ending ≡ e → f.guest.core.ended ≡ d → SameEnding e d
    → is_clear (inf_step_of p f.guest.names f.guest.rules.zero input run e) ≡ true → AllHarmless (layout_of f.guest.history) (next_records p f.guest.names f.guest.rules.zero input run e)
    → IsMapped p (after_step input f (guest_next_of f.guest d)).guest → IsGuestShaped f.guest (guest_next_of f.guest d)
    → AgreesOrRoomed p (inf_step_of p f.guest.names f.guest.rules.zero input run e) (after_step input f (guest_next_of f.guest d))
turn facts p out input all run f a None None q r same c u mapped shape =
    let there : call_at f.guest.names run.state.pc ≡ call_at f.guest.names f.guest.core.pc = ap (call_at f.guest.names) a.matches.state.pc in
    subst (λ (call : Option HeapCall). AgreesOrRoomed p (inf_after run (inf_step_at p f.guest.rules.zero input run.state call)) (after_step input f (guest_next_at f.guest (call_at f.guest.names f.guest.core.pc)))) (sym there)
    (at-call facts p out input all run f a q r (call_at f.guest.names f.guest.core.pc)
    (subst (λ (call : Option HeapCall). is_clear (inf_after run (inf_step_at p f.guest.rules.zero input run.state call)) ≡ true) there c)
    (subst (λ (call : Option HeapCall). AllHarmless (layout_of f.guest.history) (records_of (inf_step_at p f.guest.rules.zero input run.state call))) there u) mapped shape)
turn facts p out input all run f a (Some e) (Some d) q r same c u mapped shape = inl a
turn facts p out input all run f a None (Some d) q r same c u mapped shape = absurd same
turn facts p out input all run f a (Some (InfExit code)) None q r same c u mapped shape = absurd same
turn facts p out input all run f a (Some (InfFault k pc)) None q r same c u mapped shape = absurd same
turn facts p out input all run f a (Some (InfBlur w pc)) None q r same c u mapped shape = absurd same

pub steps_agree : StepFacts → StepsAgree
steps_agree facts p out input all run f a c u = turn facts p out input all run f a run.ending f.guest.core.ended refl refl a.matches.ending c u (facts.mapped p input all f a.mapped) (facts.shaped f.guest)
