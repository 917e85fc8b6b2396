-- Runs under two seeds, step by step: the same objects, or no room at the same step with the same two numbers.
use Rattle.std.proofs.Common.{◌≡◌, ℕ, zero, suc, refl, ap, sym, ◌∙◌, subst, Bool, true, arith, List, map, Option, None, Some, ◌⊎◌, inl, inr}
use Rattle.infinite_heap.specs.declared.program.HeapCall.{HeapCall}
use Rattle.infinite_heap.specs.declared.program.HeapName.{HeapName}
use Rattle.infinite_heap.specs.Covered.{IsCoveredRun, next_records}
use Rattle.infinite_heap.specs.InfiniteHeap.{call_at, inf_call}
use Rattle.infinite_heap.specs.InfiniteRun.{InfRun, InfEnding, InfExit, InfFault, InfBlur, inf_step_of, inf_mapping, inf_run, is_clear}
use Rattle.infinite_heap.specs.InfiniteState.{InfState, InfStep, records_of}
use Rattle.infinite_heap.specs.InfiniteStep.{inf_step, inf_step_at}
use Rattle.infinite_heap.specs.Layout.{AllHarmless}
use Rattle.infinite_heap.specs.Loaded.{Loaded}
use Rattle.infinite_heap.specs.Mapped.{Mapping}
use Rattle.patch_table.specs.Limits.{InLimits}
use Rattle.exact_heap.specs.History.{History}
use Rattle.exact_heap.specs.Laws.{IsUnharmed, AreIsomorphic, BeginsIsomorphic, unplaced}
use Rattle.rv_machine.specs.declared.ended.Ended.{Ended}
use Rattle.rv_machine.specs.declared.ended.Ended.TheVariants.{Exited, Faulted, Roomed}
use Rattle.rv_machine.specs.declared.settings.Settings.{Settings}
use Rattle.rv_machine.specs.Core as flat
use Rattle.rv_machine.specs.Core.{Core, Next}
use Rattle.rv_machine.specs.Cures.{cures_of}
use Rattle.rv_machine.specs.Flat.{Flat, carried, after_step, flat_step, flat_steps, flat_run}
use Rattle.rv_machine.specs.Guest.{Guest, heap_of}
use Rattle.rv_machine.specs.HeapCalls.{GuestNext, Carries, Returns, Lacks, guest_next, guest_next_at, guest_next_of}
use Rattle.rv_machine.specs.Laws.{RunsKeepRules, RunsStayMapped}
use Rattle.rv_machine.specs.Matches.{SameEnding}
use Rattle.rv_machine.specs.Objects.{layout_of}
use Rattle.rv_machine.specs.Shape.{IsShaped, IsGuestShaped}
use Rattle.rv_machine.specs.Stored.{IsClearStep}
use Rattle.simulation.specs.Agreement.{RunsAgree, IsRoomed, IsGiven}
use Rattle.simulation.specs.Coverage.{CoveredRunsAreHarmless, CoveredRunsAgree}
use Rattle.simulation.specs.Quiet.{CoveredRunsAreQuiet}
use Rattle.simulation.specs.Rooms.{seeded, RoomIsTheSame}
use Rattle.simulation.specs.Runs.{AgreesOrRoomed}
use Rattle.simulation.proofs.Stepped.{carried-history}
use Rattle.simulation.proofs.Ran.{clear-before, ended-stays}
use Rattle.simulation.proofs.QuietRuns.{clear_step, going}
use Rattle.simulation.proofs.AlikeObjects.{StandsBy}
use Rattle.simulation.proofs.AlikeCalls.{AlikeFacts, Abreast, NextAlike, call_alike}

-- what runs under two seeds stand on
pub record SeedFacts : Type 0 where
  pub calls : AlikeFacts
  pub begins : BeginsIsomorphic
  pub rules : RunsKeepRules
  pub mapped : RunsStayMapped
  pub shape : (g : Guest) → IsGuestShaped g (guest_next g)
  pub harmless : CoveredRunsAreHarmless
  pub agree : CoveredRunsAgree
  pub quiet : CoveredRunsAreQuiet

-- ---- no room

-- a guest that has met no room agrees with no run on the infinite heap
ending_unroomed : (e : Option InfEnding) (used wanted : ℕ) → SameEnding e (Some (Roomed used wanted)) → ⊥
ending_unroomed None used wanted t = t
ending_unroomed (Some (InfExit code)) used wanted t = t
ending_unroomed (Some (InfFault kind pc)) used wanted t = t
ending_unroomed (Some (InfBlur why pc)) used wanted t = t

abbrev IsUnroomed : Flat → Type 0
IsUnroomed f = (used wanted : ℕ) → IsRoomed f used wanted → ⊥

unroomed : (p : Mapping) (run : InfRun) (f : Flat) → RunsAgree p run f → IsUnroomed f
unroomed p run f a used wanted r = ending_unroomed run.ending used wanted (subst (SameEnding run.ending) r.ended a.matches.ending)

agreed : (p : Mapping) (run : InfRun) (f : Flat) → AgreesOrRoomed p run f → IsUnroomed f → RunsAgree p run f
agreed p run f (inl a) none = a
agreed p run f (inr (used, wanted, r)) none = absurd (none used wanted r)

none_not : (d : Option Ended) (e : Ended) → d ≡ None → d ≡ Some e → ⊥
none_not d e p q = absurd (some_not (sym p ∙ q))
  where
    some_not : None ≡ Some e → ⊥
    some_not t = cc

-- where the run on the infinite heap goes on, so does the guest
still : (e : Option InfEnding) (d : Option Ended) → e ≡ None → SameEnding e d → d ≡ None
still e d q same = at d (subst (λ (x : Option InfEnding). SameEnding x d) q same)
  where
    at : (x : Option Ended) → SameEnding None x → x ≡ None
    at None t = refl
    at (Some y) t = absurd t

-- no instruction meets no room
carried_unroomed : (input : List ℕ) (f : Flat) (n : Next) → IsShaped f.guest.core n → IsUnroomed f → IsUnroomed (carried input f n)
carried_unroomed input f (flat.Goes to) shape none used wanted r = none used wanted (record { ended = sym shape ∙ r.ended })
carried_unroomed input f (flat.Faults kind address) shape none used wanted r = let e : Some (Faulted kind f.guest.core.pc address) ≡ Some (Roomed used wanted) = r.ended in absurd (cc)
carried_unroomed input f (flat.Reads address len) shape none used wanted r = none used wanted (record { ended = r.ended })
carried_unroomed input f (flat.Prints fd address len bytes to) shape none used wanted r = none used wanted (record { ended = ap (λ (c : Core). c.ended) (sym shape.3) ∙ r.ended })
carried_unroomed input f (flat.Exits code to) shape none used wanted r = let e : Some (Exited code) ≡ Some (Roomed used wanted) = sym shape ∙ r.ended in absurd (cc)
carried_unroomed input f (flat.Stays ended) shape none used wanted r = none used wanted r

-- ---- one step

-- both agree with one run and have isomorphic heaps, or both have met no room with the same two numbers
abbrev AreAlike : Mapping → InfRun → Flat → Flat → Type 0
AreAlike p run f k = (RunsAgree p run f × RunsAgree p run k × AreIsomorphic (heap_of f.guest) (heap_of k.guest)) ⊎ ((used wanted : ℕ) × IsRoomed f used wanted × IsRoomed k used wanted)

same_histories : (g h g' h' : Guest) → g'.history ≡ g.history → h'.history ≡ h.history → IsUnharmed (heap_of g') → IsUnharmed (heap_of h') → AreIsomorphic (heap_of g) (heap_of h) → AreIsomorphic (heap_of g') (heap_of h')
same_histories g h g' h' p q one other i = record {
  one = one;
  other = other;
  classes = ap (λ (x : History). x.classes) p ∙ i.classes ∙ sym (ap (λ (x : History). x.classes) q);
  objects = ap (λ (x : History). map unplaced x.objects) p ∙ i.objects ∙ sym (ap (λ (x : History). map unplaced x.objects) q);
}

after_alike : (p : Mapping) (input : List ℕ) (run : InfRun) (f k : Flat) (n m : GuestNext) → NextAlike n m → IsGuestShaped f.guest n → IsGuestShaped k.guest m → IsUnroomed f → IsUnroomed k → AreIsomorphic (heap_of f.guest) (heap_of k.guest)
    → IsUnharmed (heap_of (after_step input f n).guest) → IsUnharmed (heap_of (after_step input k m).guest) → AgreesOrRoomed p run (after_step input f n) → AgreesOrRoomed p run (after_step input k m) → AreAlike p run (after_step input f n) (after_step input k m)
after_alike p input run f k (Carries n) (Carries m) alike sf sk uf uk i one other a b = inl (
  agreed p run (carried input f n) a (carried_unroomed input f n sf.0 uf),
  agreed p run (carried input k m) b (carried_unroomed input k m sk.0 uk),
  same_histories f.guest k.guest (carried input f n).guest (carried input k m).guest (carried-history input f n) (carried-history input k m) one other i,
)
after_alike p input run f k (Returns g) (Returns h) alike sf sk uf uk i one other a b = inl (
  agreed p run (after_step input f (Returns g)) a (λ used wanted r. uf used wanted (record { ended = sym sf.0 ∙ r.ended })),
  agreed p run (after_step input k (Returns h)) b (λ used wanted r. uk used wanted (record { ended = sym sk.0 ∙ r.ended })),
  alike,
)
after_alike p input run f k (Lacks used wanted g) (Lacks used' wanted' h) alike sf sk uf uk i one other a b = inr (
  used,
  wanted,
  record { ended = sf.0 },
  record { ended = sk.0 ∙ ap (λ (u : ℕ). Some (Roomed u wanted')) alike.0 ∙ ap (λ (w : ℕ). Some (Roomed used w)) alike.1 },
)
after_alike p input run f k (Carries n) (Returns h) alike sf sk uf uk i one other a b = absurd alike
after_alike p input run f k (Carries n) (Lacks used wanted h) alike sf sk uf uk i one other a b = absurd alike
after_alike p input run f k (Returns g) (Carries m) alike sf sk uf uk i one other a b = absurd alike
after_alike p input run f k (Returns g) (Lacks used wanted h) alike sf sk uf uk i one other a b = absurd alike
after_alike p input run f k (Lacks used wanted g) (Carries m) alike sf sk uf uk i one other a b = absurd alike
after_alike p input run f k (Lacks used wanted g) (Returns h) alike sf sk uf uk i one other a b = absurd alike

-- the guests have the program's heap functions, and stand for the run's state
next_alike : SeedFacts → (p : Mapping) (input : List ℕ) (names : List HeapName) (zeroed : Bool) (run : InfRun) (f k : Flat) → RunsAgree p run f → RunsAgree p run k → f.guest.names ≡ names → k.guest.names ≡ names → Abreast p run.state f.guest k.guest
    → is_clear (inf_step_of p names zeroed input run run.ending) ≡ true → AllHarmless (layout_of f.guest.history) (next_records p names zeroed input run run.ending) → AllHarmless (layout_of k.guest.history) (next_records p names zeroed input run run.ending)
    → NextAlike (guest_next f.guest) (guest_next k.guest)
next_alike facts p input names zeroed run f k a b nf nk w c u u' = at f.guest.core.ended k.guest.core.ended refl refl
  where
    s : InfState
    s = run.state

    by_call : run.ending ≡ None → (call : Option HeapCall) → call_at names s.pc ≡ call → NextAlike (guest_next_at f.guest call) (guest_next_at k.guest call)
    by_call e None is = tt
    by_call e (Some function) is =
        let step : inf_step p names zeroed input s ≡ inf_call s zeroed function = ap (inf_step_at p zeroed input s) is in
        let clear : IsClearStep (inf_step p names zeroed input s) = clear_step run (inf_step p names zeroed input s) (subst (λ (x : Option InfEnding). is_clear (inf_step_of p names zeroed input run x) ≡ true) e c) in
        let one : AllHarmless (layout_of f.guest.history) (records_of (inf_step p names zeroed input s)) = subst (λ (x : Option InfEnding). AllHarmless (layout_of f.guest.history) (next_records p names zeroed input run x)) e u in
        let other : AllHarmless (layout_of k.guest.history) (records_of (inf_step p names zeroed input s)) = subst (λ (x : Option InfEnding). AllHarmless (layout_of k.guest.history) (next_records p names zeroed input run x)) e u' in
        call_alike facts.calls p s f.guest k.guest w zeroed function (subst IsClearStep step clear)
        (subst (λ (x : InfStep). AllHarmless (layout_of f.guest.history) (records_of x)) step one) (subst (λ (x : InfStep). AllHarmless (layout_of k.guest.history) (records_of x)) step other)

    at : (d e : Option Ended) → f.guest.core.ended ≡ d → k.guest.core.ended ≡ e → NextAlike (guest_next_of f.guest d) (guest_next_of k.guest e)
    at (Some d) (Some e) is was = tt
    at (Some d) None is was = absurd (none_not f.guest.core.ended d (still run.ending f.guest.core.ended (going run.ending k.guest.core.ended was b.matches.ending) a.matches.ending) is)
    at None (Some e) is was = absurd (none_not k.guest.core.ended e (still run.ending k.guest.core.ended (going run.ending f.guest.core.ended is a.matches.ending) b.matches.ending) was)
    at None None is was =
        let one : call_at names s.pc ≡ call_at f.guest.names f.guest.core.pc = ap (λ (ns : List HeapName). call_at ns s.pc) (sym nf) ∙ ap (call_at f.guest.names) a.matches.state.pc in
        let other : call_at names s.pc ≡ call_at k.guest.names k.guest.core.pc = ap (λ (ns : List HeapName). call_at ns s.pc) (sym nk) ∙ ap (call_at k.guest.names) b.matches.state.pc in
        subst (λ (x : Option HeapCall). NextAlike (guest_next_at f.guest x) (guest_next_at k.guest (call_at k.guest.names k.guest.core.pc))) one
        (subst (λ (x : Option HeapCall). NextAlike (guest_next_at f.guest (call_at names s.pc)) (guest_next_at k.guest x)) other
        (by_call (going run.ending f.guest.core.ended is a.matches.ending) (call_at names s.pc) refl))

-- ---- runs

-- each of the two runs by itself
pub record Run (program : Loaded) (args : List (List ℕ)) (settings : Settings) (input : List ℕ) (n : ℕ) : Type 0 where
  pub agrees : AgreesOrRoomed (inf_mapping program args) (inf_run program args input settings.zero n) (flat_run program args settings input n)
  pub unharmed : IsUnharmed (heap_of (flat_run program args settings input n).guest)

run_of : SeedFacts → (program : Loaded) (args : List (List ℕ)) (settings : Settings) (input : List ℕ) → IsGiven program args input → InLimits settings.patches
    → (n : ℕ) → is_clear (inf_run program args input settings.zero n) ≡ true → IsCoveredRun (cures_of settings.patches) program args input settings.zero n → Run program args settings input n
run_of facts program args settings input given limits n c h =
    let quiet = facts.quiet program args settings input given limits n c h in
    record {
      agrees = facts.agree program args settings input given limits n c h;
      unharmed = record { lawful = (facts.mapped program given.lawful args given.starts settings input given.reads n).lawful; whole = quiet.whole; good = quiet.good };
    }

stands_by : (p : Mapping) (run : InfRun) (f : Flat) → RunsAgree p run f → StandsBy p run.state f.guest
stands_by p run f a = record { lawful = a.mapped.lawful; objects = a.matches.objects; state = a.matches.state }

runs_alike : SeedFacts → (program : Loaded) (args : List (List ℕ)) (settings : Settings) (input : List ℕ) → IsGiven program args input → InLimits settings.patches → (seed : ℕ)
    → (n : ℕ) → is_clear (inf_run program args input settings.zero n) ≡ true → IsCoveredRun (cures_of settings.patches) program args input settings.zero n
    → AreAlike (inf_mapping program args) (inf_run program args input settings.zero n) (flat_run program args settings input n) (flat_run program args (seeded seed settings) input n)
unfolding inf_run flat_steps IsCoveredRun
runs_alike facts program args settings input given limits seed zero c h = inl (
  agreed _ _ _ (facts.agree program args settings input given limits 0 c h) (λ used wanted r. none_not None (Roomed used wanted) refl r.ended),
  agreed _ _ _ (facts.agree program args (seeded seed settings) input given limits 0 c h) (λ used wanted r. none_not None (Roomed used wanted) refl r.ended),
  facts.begins settings.seed seed (flat_run program args settings input 0).guest.core.memory (flat_run program args (seeded seed settings) input 0).guest.core.memory,
)
runs_alike facts program args settings input given limits seed (suc n) c h = by (runs_alike facts program args settings input given limits seed n (clear-before p program.names settings.zero input run run.ending refl c) h.0)
  where
    run : InfRun
    run = inf_run program args input settings.zero n

    other : Settings
    other = seeded seed settings

    f : Flat
    f = flat_run program args settings input n

    k : Flat
    k = flat_run program args other input n

    p : Mapping
    p = inf_mapping program args

    next_run : InfRun
    next_run = inf_step_of p program.names settings.zero input run run.ending

    by : AreAlike p run f k → AreAlike p next_run (flat_step input f) (flat_step input k)
    by (inr (used, wanted, rf, rk)) = inr (
      used,
      wanted,
      subst (λ (x : Flat). IsRoomed x used wanted) (sym (ended-stays input f (Roomed used wanted) rf.ended)) rf,
      subst (λ (x : Flat). IsRoomed x used wanted) (sym (ended-stays input k (Roomed used wanted) rk.ended)) rk,
    )
    by (inl (a, b, i)) =
        let one = run_of facts program args settings input given limits (suc n) c h in
        let two = run_of facts program args other input given limits (suc n) c h in
        let kept = facts.rules program args settings input n in
        let kept' = facts.rules program args other input n in
        let abreast : Abreast p run.state f.guest k.guest = record { one = stands_by p run f a; other = stands_by p run k b; rules = kept.1 ∙ sym kept'.1; heaps = i } in
        after_alike p input next_run f k (guest_next f.guest) (guest_next k.guest)
        (next_alike facts p input program.names settings.zero run f k a b kept.0 kept'.0 abreast c
        (facts.harmless program args settings input given limits (suc n) h n (omega arith) a) (facts.harmless program args other input given limits (suc n) h n (omega arith) b))
        (facts.shape f.guest) (facts.shape k.guest) (unroomed p run f a) (unroomed p run k b) i one.unharmed two.unharmed one.agrees two.agrees

pub room_is_the_same : SeedFacts → RoomIsTheSame
room_is_the_same facts program args settings input given limits n c h used wanted r seed = by (runs_alike facts program args settings input given limits seed n c h)
  where
    f : Flat
    f = flat_run program args settings input n

    k : Flat
    k = flat_run program args (seeded seed settings) input n

    by : AreAlike (inf_mapping program args) (inf_run program args input settings.zero n) f k → IsRoomed k used wanted
    by (inl (a, b, i)) = absurd (unroomed (inf_mapping program args) (inf_run program args input settings.zero n) f a used wanted r)
    by (inr (u, w, rf, rk)) = record { ended = rk.ended ∙ sym rf.ended ∙ r.ended }
