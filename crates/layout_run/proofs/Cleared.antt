-- A clear run that its patches cover comes to what the run on the infinite heap comes to, or meets no room.
use Rattle.std.proofs.Common.{◌≡◌, inl, inr, ℕ, zero, suc, ◌+◌, ◌*◌, ◌<◌, max, refl, ap, sym, ◌∙◌, subst, Bool, true, false, not, arith, List, [], ◌∷◌, ◌++◌, cond, length, slice_get, Option, None, Some, is_some, Ok, Err}
use Rattle.std.specs.Prelude.{Result, count_by}
use Rattle.std.proofs.lemmas.List.Recursion.{is_count_by}
use Rattle.patch_table.specs.Limits.{InLimits}
use Rattle.infinite_heap.specs.declared.fault.FaultKind.TheVariants as fault
use Rattle.infinite_heap.specs.declared.program.HeapCall.{HeapCall}
use Rattle.infinite_heap.specs.declared.program.HeapCall.TheVariants.{Malloc, Free, Calloc, Realloc, Memalign, AlignedAlloc, MallocR, FreeR, CallocR, ReallocR, MemalignR}
use Rattle.infinite_heap.specs.CallSite.{site_of}
use Rattle.infinite_heap.specs.Covered.{IsCoveredRun}
use Rattle.infinite_heap.specs.InfiniteHeap.{call_at}
use Rattle.infinite_heap.specs.InfiniteRun.{InfRun, InfEnding, InfExit, InfFault, InfBlur, inf_mapping, inf_run, inf_step_of, is_clear, is_clear_ending}
use Rattle.infinite_heap.specs.Loaded.{Loaded}
use Rattle.infinite_heap.specs.Objects as inf
use Rattle.infinite_heap.specs.Objects.{object_at}
use Rattle.infinite_heap.specs.declared.program.HeapName.{HeapName}
use Rattle.infinite_heap.specs.Mapped.{Mapping}
use Rattle.exact_heap.specs.declared.signal.HeapRefusal.{HeapRefusal}
use Rattle.exact_heap.specs.declared.signal.HeapRefusal.TheVariants.{Room, Memory as NoMemory}
use Rattle.exact_heap.specs.Calls.{usual, malloc, memalign, calloc, realloc, check_end, end_signals}
use Rattle.exact_heap.specs.History.{ObjectState, Owned, Deferred, Released, Object, History, clock_of, frees_of, is_owned}
use Rattle.exact_heap.specs.Lawful.{IsLawful}
use Rattle.exact_heap.specs.ObjectsAfter.{PlaceEnds, AllocationEnds, ReplaceEnds, ResizeEnds, ReallocEndsBy, MallocEnds, MemalignEnds, CallocEnds, ReallocEnds}
use Rattle.exact_heap.specs.Owners.{Owner}
use Rattle.exact_heap.specs.Placing.{HeapState, Outcome, Rules, request}
use Rattle.rv_machine.specs.declared.ended.Ended.{Ended}
use Rattle.rv_machine.specs.declared.ended.Ended.TheVariants.{Exited, Faulted, Roomed}
use Rattle.rv_machine.specs.declared.settings.Settings.{Settings}
use Rattle.rv_machine.specs.Core as flat
use Rattle.rv_machine.specs.Core.{Core, Next, register}
use Rattle.rv_machine.specs.Flat.{Flat, carried, after_step, flat_steps, flat_run}
use Rattle.rv_machine.specs.Guest.{Guest, heap_of}
use Rattle.rv_machine.specs.HeapCalls.{GuestNext, Carries, Returns, Lacks, answered, answers, called, guest_next, guest_next_at, guest_next_of}
use Rattle.rv_machine.specs.Matches.{SameEnding}
use Rattle.rv_machine.specs.Cures.{cures_of}
use Rattle.rv_machine.specs.Objects.{IsKept, FreeMatches, ObjectMatches, ObjectsMatch}
use Rattle.rv_machine.specs.Shape.{IsShaped, IsGuestShaped}
use Rattle.simulation.specs.Agreement.{RunsAgree, IsRoomed, IsGiven}
use Rattle.simulation.specs.Coverage.{CoveredRunsAgree}
use Rattle.simulation.specs.Quiet.{IsQuiet, CoveredRunsAreQuiet}
use Rattle.simulation.specs.Rooms.{RoomIsTheSame}
use Rattle.simulation.specs.Runs.{AgreesOrRoomed, RoomComesLast}
use Rattle.layout_run.specs.Clear.{ending_at, freed_count, ComesTo, EndsWithoutRoom, EndsClear, ClearRunsMatch}
use Rattle.layout_run.specs.Whole.{ended_as, first_place}
use Rattle.layout_run.specs.declared.ran.Ending.{Ending}
use Rattle.layout_run.specs.declared.ran.Ending.TheVariants.{Exit, Fault, Room as NoRoom}

-- what the crates below say
pub record Laws : Type 0 where
  pub agree : CoveredRunsAgree
  pub quiet : CoveredRunsAreQuiet
  pub same : RoomIsTheSame
  pub last : RoomComesLast
  pub malloc : MallocEnds
  pub memalign : MemalignEnds
  pub calloc : CallocEnds
  pub realloc : ReallocEnds

-- ---- a call without room

-- it leaves objects and counted steps as they are
record Leaves (g to : Guest) : Type 0 where
  objects : to.history.objects ≡ g.history.objects
  steps : to.core.steps ≡ g.core.steps

abbrev LeavesIfLacks : Guest → GuestNext → Type 0
LeavesIfLacks g (Lacks used wanted to) = Leaves g to
LeavesIfLacks g (Returns to) = Unit {0}
LeavesIfLacks g (Carries n) = Unit {0}

abbrev StayIfRefused : (before after : HeapState) → Result ℕ HeapRefusal → Type 0
StayIfRefused before after (Ok address) = Unit {0}
StayIfRefused before after (Err refusal) = after.history.objects ≡ before.history.objects

stay : (before after : HeapState) (a : Result ℕ HeapRefusal) → after.history.objects ≡ before.history.objects → StayIfRefused before after a
stay before after (Ok address) is = tt
stay before after (Err refusal) is = is

place-stays : (rules : Rules) (align size site : ℕ) (before after : HeapState) (a : Result ℕ HeapRefusal) → PlaceEnds (request rules align size site) before after a → StayIfRefused before after a
place-stays rules align size site before after (Ok address) ends = tt
place-stays rules align size site before after (Err (Room used wanted)) ends = ends
place-stays rules align size site before after (Err NoMemory) ends = absurd ends

allocation-stays : (refused : Bool) (rules : Rules) (align size site : ℕ) (s : HeapState) (outcome : Outcome) → AllocationEnds refused (request rules align size site) s outcome → StayIfRefused s outcome.state outcome.answer
allocation-stays true rules align size site s outcome ends = stay s outcome.state outcome.answer ends.objects
allocation-stays false rules align size site s outcome ends = place-stays rules align size site s outcome.state outcome.answer ends

replace-stays : (rules : Rules) (size site : ℕ) (owner : Owner) (before after : HeapState) (a : Result ℕ HeapRefusal) → ReplaceEnds rules site owner (request rules usual size site) before after a → StayIfRefused before after a
replace-stays rules size site owner before after (Ok address) ends = tt
replace-stays rules size site owner before after (Err (Room used wanted)) ends = ends
replace-stays rules size site owner before after (Err NoMemory) ends = absurd ends

resize-stays : (refused : Bool) (rules : Rules) (size site : ℕ) (owner : Option Owner) (s : HeapState) (outcome : Outcome) → ResizeEnds refused rules site owner (request rules usual size site) s outcome → StayIfRefused s outcome.state outcome.answer
resize-stays refused rules size site None s outcome ends = stay s outcome.state outcome.answer ends.objects
resize-stays true rules size site (Some owner) s outcome ends = stay s outcome.state outcome.answer ends.objects
resize-stays false rules size site (Some owner) s outcome ends = replace-stays rules size site owner s outcome.state outcome.answer ends

realloc-stays : (new refused : Bool) (rules : Rules) (size site : ℕ) (owner : Option Owner) (s : HeapState) (outcome : Outcome) → ReallocEndsBy new refused rules site owner (request rules usual size site) s outcome → StayIfRefused s outcome.state outcome.answer
realloc-stays true refused rules size site owner s outcome ends = allocation-stays refused rules usual size site s outcome ends
realloc-stays false refused rules size site owner s outcome ends = resize-stays refused rules size site owner s outcome ends

answered-leaves : (g : Guest) (back : ℕ) (s : HeapState) (a : Result ℕ HeapRefusal) → StayIfRefused (heap_of g) s a → LeavesIfLacks g (answered g back s a)
answered-leaves g back s (Ok address) is = tt
answered-leaves g back s (Err (Room used wanted)) is = record { objects = is; steps = refl }
answered-leaves g back s (Err NoMemory) is = record { objects = is; steps = refl }

module _ (laws : Laws) (g : Guest) (lawful : IsLawful g.history) where
  at-malloc : (back size : ℕ) → LeavesIfLacks g (answers g back (malloc g.rules size (site_of g.core.calls) (heap_of g)))
  at-malloc back size = answered-leaves g back _ _ (allocation-stays _ g.rules usual size (site_of g.core.calls) (heap_of g) _ (laws.malloc g.rules size (site_of g.core.calls) (heap_of g) lawful))

  at-memalign : (back align size : ℕ) → LeavesIfLacks g (answers g back (memalign g.rules align size (site_of g.core.calls) (heap_of g)))
  at-memalign back align size = answered-leaves g back _ _ (allocation-stays _ g.rules (max align usual) size (site_of g.core.calls) (heap_of g) _ (laws.memalign g.rules align size (site_of g.core.calls) (heap_of g) lawful))

  at-calloc : (back count each : ℕ) → LeavesIfLacks g (answers g back (calloc g.rules count each (site_of g.core.calls) (heap_of g)))
  at-calloc back count each = answered-leaves g back _ _ (allocation-stays _ g.rules usual (count * each) (site_of g.core.calls) (heap_of g) _ (laws.calloc g.rules count each (site_of g.core.calls) (heap_of g) lawful))

  at-realloc : (back old size : ℕ) → LeavesIfLacks g (answers g back (realloc g.rules old size (site_of g.core.calls) (heap_of g)))
  at-realloc back old size = answered-leaves g back _ _ (realloc-stays _ _ g.rules size (site_of g.core.calls) _ (heap_of g) _ (laws.realloc g.rules old size (site_of g.core.calls) (heap_of g) lawful))

  called-leaves : (back : ℕ) (function : HeapCall) → LeavesIfLacks g (called g back function)
  called-leaves back Malloc = at-malloc back (register g.core 10)
  called-leaves back MallocR = at-malloc back (register g.core 11)
  called-leaves back Free = tt
  called-leaves back FreeR = tt
  called-leaves back Calloc = at-calloc back (register g.core 10) (register g.core 11)
  called-leaves back CallocR = at-calloc back (register g.core 11) (register g.core 12)
  called-leaves back Realloc = at-realloc back (register g.core 10) (register g.core 11)
  called-leaves back ReallocR = at-realloc back (register g.core 11) (register g.core 12)
  called-leaves back Memalign = at-memalign back (register g.core 10) (register g.core 11)
  called-leaves back AlignedAlloc = at-memalign back (register g.core 10) (register g.core 11)
  called-leaves back MemalignR = at-memalign back (register g.core 11) (register g.core 12)

  from-leaves : (b : Bool) (back : ℕ) (function : HeapCall) → LeavesIfLacks g (cond b (called g back function) (Carries (flat.Faults fault.Jump back)))
  from-leaves true back function = called-leaves back function
  from-leaves false back function = tt

  at-leaves : (call : Option HeapCall) → LeavesIfLacks g (guest_next_at g call)
  at-leaves (Some function) = from-leaves _ _ function
  at-leaves None = tt

  next-leaves : (e : Option Ended) → LeavesIfLacks g (guest_next_of g e)
  next-leaves (Some ended) = tt
  next-leaves None = at-leaves (call_at g.names g.core.pc)

-- ---- the step at which there is no room

record StaysAt (f to : Flat) : Type 0 where
  objects : to.guest.history.objects ≡ f.guest.history.objects
  steps : to.guest.core.steps ≡ f.guest.core.steps
  out : to.out ≡ f.out
  err : to.err ≡ f.err

not-roomed : (e : Option InfEnding) (d : Option Ended) → SameEnding e d → (used wanted : ℕ) → d ≡ Some (Roomed used wanted) → ⊥
not-roomed e d same used wanted is = go e (subst (SameEnding e) is same)
  where
    go : (e : Option InfEnding) → SameEnding e (Some (Roomed used wanted)) → ⊥
    go None same = same
    go (Some (InfExit code)) same = same
    go (Some (InfFault kind pc)) same = same
    go (Some (InfBlur why pc)) same = same

carried-stays : (input : List ℕ) (f : Flat) (n : Next) (used wanted : ℕ) → (f.guest.core.ended ≡ Some (Roomed used wanted) → ⊥) → IsShaped f.guest.core n → IsRoomed (carried input f n) used wanted → StaysAt f (carried input f n)
carried-stays input f (flat.Goes core) used wanted none shape roomed = absurd (none (sym shape ∙ roomed.ended))
carried-stays input f (flat.Faults kind address) used wanted none shape roomed = let is = roomed.ended in absurd (cc)
carried-stays input f (flat.Reads address len) used wanted none shape roomed = absurd (none roomed.ended)
carried-stays input f (flat.Prints fd address len bytes core) used wanted none shape roomed = absurd (none (sym (ap (λ (c : Core). c.ended) shape.3) ∙ roomed.ended))
carried-stays input f (flat.Exits code core) used wanted none shape roomed = let is = sym shape ∙ roomed.ended in absurd (cc)
carried-stays input f (flat.Stays e) used wanted none shape roomed = absurd (none roomed.ended)

step-stays : (input : List ℕ) (f : Flat) (n : GuestNext) (used wanted : ℕ) → (f.guest.core.ended ≡ Some (Roomed used wanted) → ⊥) → IsGuestShaped f.guest n → LeavesIfLacks f.guest n → IsRoomed (after_step input f n) used wanted → StaysAt f (after_step input f n)
step-stays input f (Carries n) used wanted none shape leaves roomed = carried-stays input f n used wanted none shape.0 roomed
step-stays input f (Returns g) used wanted none shape leaves roomed = absurd (none (sym shape.0 ∙ roomed.ended))
step-stays input f (Lacks u w g) used wanted none shape leaves roomed = record { objects = leaves.objects; steps = leaves.steps; out = refl; err = refl }

-- ---- what a guest comes to

is-freed : (clock : ℕ) (o : Object) (other : Option inf.Freed) → FreeMatches clock o other → not (is_owned o.state) ≡ is_some other
is-freed clock o None is = ap (λ (s : ObjectState). not (is_owned s)) is
is-freed clock o (Some freed) is = go o.state is.2
  where
    go : (s : ObjectState) → IsKept clock s → not (is_owned s) ≡ true
    go Owned kept = absurd kept
    go (Deferred due) kept = refl
    go (Released due) kept = refl

abbrev counted : {A : Type 0} → (A → Bool) → List A → ℕ
counted f [] = 0
counted f (x ∷ xs) = cond (f x) (1 + counted f xs) (counted f xs)

count-is : {A : Type 0} (f : A → Bool) (xs : List A) → counted f xs ≡ count_by f xs
count-is f xs = is_count_by (counted f) f refl (λ x xs. refl) xs

frees-counted : (clock : ℕ) (os : List Object) (others : List inf.Object) → length os ≡ length others → ((n : ℕ) (o : Object) → slice_get os n ≡ Some o → ObjectMatches clock o (object_at others n))
    → counted (λ (o : Object). not (is_owned o.state)) os ≡ counted (λ (o : inf.Object). is_some o.freed) others
frees-counted clock [] [] count each = refl
frees-counted clock [] (p ∷ ps) count each = absurd (omega arith)
frees-counted clock (o ∷ os) [] count each = absurd (omega arith)
frees-counted clock (o ∷ os) (p ∷ ps) count each =
    let rest = frees-counted clock os ps (omega arith) (λ n x at. each (suc n) x at) in
    ap (λ b. cond b (1 + counted (λ (o : Object). not (is_owned o.state)) os) (counted (λ (o : Object). not (is_owned o.state)) os)) (is-freed clock o p.freed (each 0 o refl).free)
    ∙ ap (λ k. cond (is_some p.freed) (1 + k) k) rest

frees-same : (h : History) (others : List inf.Object) → ObjectsMatch h others → frees_of h ≡ freed_count others
frees-same h others m = sym (count-is _ h.objects) ∙ frees-counted (clock_of h) h.objects others m.count m.each ∙ count-is _ others

checked-objects : (s : HeapState) (b : Bool) → s.history.ended ≡ b → (check_end s).objects ≡ s.history.objects
unfolding check_end
checked-objects s true is = ap (λ b. (cond b s.history (record s.history { signals = s.history.signals ++ end_signals s; ended = true })).objects) is
checked-objects s false is = ap (λ b. (cond b s.history (record s.history { signals = s.history.signals ++ end_signals s; ended = true })).objects) is

-- of a quiet guest whose objects and steps these are
comes-to : (run : InfRun) (ending : Ending) (f : Flat) (h : History) → f.out ≡ run.out → f.err ≡ run.err → f.guest.history.objects ≡ h.objects → ObjectsMatch h run.state.objects → f.guest.core.steps ≡ run.state.steps → IsQuiet f.guest → ended_as f.guest.core.ended ≡ ending
    → ComesTo run ending f
comes-to run ending f h out err objects m steps quiet ends =
    let after : History = check_end (heap_of f.guest) in
    let same : after.objects ≡ h.objects = checked-objects (heap_of f.guest) f.guest.history.ended refl ∙ objects in
    let clock : length after.objects ≡ length run.state.objects = ap length same ∙ m.count in
    let frees : frees_of after ≡ freed_count run.state.objects = ap (count_by (λ (o : Object). not (is_owned o.state))) same ∙ frees-same h run.state.objects m in
    let signals : after.signals ≡ [] = quiet.end in record {
      out = out;
      err = err;
      ran =
          ap (λ e. record { ending = e; steps = f.guest.core.steps; clock = length after.objects; frees = frees_of after; signals = length after.signals; first = first_place after.signals; image = None }) ends
          ∙ ap (λ k. record { ending = ending; steps = k; clock = length after.objects; frees = frees_of after; signals = length after.signals; first = first_place after.signals; image = None }) steps
          ∙ ap (λ k. record { ending = ending; steps = run.state.steps; clock = k; frees = frees_of after; signals = length after.signals; first = first_place after.signals; image = None }) clock
          ∙ ap (λ k. record { ending = ending; steps = run.state.steps; clock = length run.state.objects; frees = k; signals = length after.signals; first = first_place after.signals; image = None }) frees
          ∙ ap (λ s. record { ending = ending; steps = run.state.steps; clock = length run.state.objects; frees = freed_count run.state.objects; signals = length s; first = first_place s; image = None }) signals;
    }

ends-at : (e : Option InfEnding) (d : Option Ended) → SameEnding e d → (address : ℕ) × (ended_as d ≡ ending_at address e)
ends-at None None same = (0, refl)
ends-at (Some (InfExit code)) (Some (Exited code')) same = (0, ap Exit same)
ends-at (Some (InfFault kind pc)) (Some (Faulted kind' pc' address)) same = (address, ap (λ k. Fault k pc' address) same.0 ∙ ap (λ p. Fault kind p address) same.1)
ends-at None (Some d) same = absurd same
ends-at (Some (InfExit code)) None same = absurd same
ends-at (Some (InfExit code)) (Some (Faulted kind' pc' address)) same = absurd same
ends-at (Some (InfExit code)) (Some (Roomed used wanted)) same = absurd same
ends-at (Some (InfFault kind pc)) None same = absurd same
ends-at (Some (InfFault kind pc)) (Some (Exited code')) same = absurd same
ends-at (Some (InfFault kind pc)) (Some (Roomed used wanted)) same = absurd same
ends-at (Some (InfBlur why pc)) d same = absurd same

-- ---- runs

-- a run that is clear was clear before
clear-of : (p : Mapping) (names : List HeapName) (zeroed : Bool) (input : List ℕ) (run : InfRun) (e : Option InfEnding) → run.ending ≡ e → is_clear (inf_step_of p names zeroed input run e) ≡ true → is_clear run ≡ true
clear-of p names zeroed input run None is clear = ap is_clear_ending is
clear-of p names zeroed input run (Some e) is clear = clear

clear-before : (program : Loaded) (args : List (List ℕ)) (input : List ℕ) (zeroed : Bool) (n : ℕ) → is_clear (inf_run program args input zeroed (suc n)) ≡ true → is_clear (inf_run program args input zeroed n) ≡ true
unfolding inf_run
clear-before program args input zeroed n clear =
    let run : InfRun = inf_run program args input zeroed n in
    clear-of (inf_mapping program args) program.names zeroed input run run.ending refl clear

module _ (laws : Laws) (program : Loaded) (args : List (List ℕ)) (settings : Settings) (input : List ℕ) (given : IsGiven program args input) (limits : InLimits settings.patches) where
  abbrev run : ℕ → InfRun
  run n = inf_run program args input settings.zero n

  abbrev flat-run : ℕ → Flat
  flat-run n = flat_run program args settings input n

  abbrev IsCovered : ℕ → Type 0
  IsCovered n = IsCoveredRun (cures_of settings.patches) program args input settings.zero n

  -- the step at which there was no room
  record Found (n used wanted : ℕ) : Type 0 where
    made : ℕ
    within : made < n
    agrees : RunsAgree (inf_mapping program args) (run made) (flat-run made)
    roomed : IsRoomed (flat-run (suc made)) used wanted
    stays : flat-run n ≡ flat-run (suc made)
    clear : is_clear (run (suc made)) ≡ true
    covered : IsCovered (suc made)

  covered-before : (n : ℕ) → IsCovered (suc n) → IsCovered n
  unfolding IsCoveredRun
  covered-before n covered = covered.0

  starts-alive : (used wanted : ℕ) → IsRoomed (flat-run 0) used wanted → ⊥
  unfolding flat_steps
  starts-alive used wanted roomed = let is = roomed.ended in absurd (cc)

  found-next : (n used wanted : ℕ) → is_clear (run (suc n)) ≡ true → IsCovered (suc n) → IsRoomed (flat-run (suc n)) used wanted → (IsRoomed (flat-run n) used wanted → Found n used wanted)
      → AgreesOrRoomed (inf_mapping program args) (run n) (flat-run n) → Found (suc n) used wanted
  found-next n used wanted clear covered roomed earlier (inl agrees) = record { made = n; within = omega arith; agrees = agrees; roomed = roomed; stays = refl; clear = clear; covered = covered }
  found-next n used wanted clear covered roomed earlier (inr (u, w, there)) =
      let same : flat-run (suc n) ≡ flat-run n = laws.last program args settings input u w n (suc n) (omega arith) there in
      let found : Found n used wanted = earlier (subst (λ f. IsRoomed f used wanted) same roomed) in record {
        made = found.made;
        within = omega (arith, found.within);
        agrees = found.agrees;
        roomed = found.roomed;
        stays = same ∙ found.stays;
        clear = found.clear;
        covered = found.covered;
      }

  find : (n : ℕ) → is_clear (run n) ≡ true → IsCovered n → (used wanted : ℕ) → IsRoomed (flat-run n) used wanted → Found n used wanted
  find zero clear covered used wanted roomed = absurd (starts-alive used wanted roomed)
  find (suc n) clear covered used wanted roomed =
      let clear' : is_clear (run n) ≡ true = clear-before program args input settings.zero n clear in
      let covered' : IsCovered n = covered-before n covered in
      found-next n used wanted clear covered roomed (λ there. find n clear' covered' used wanted there) (laws.agree program args settings input given limits n clear' covered')

  -- the guest as it is there
  stays-there : ((g : Guest) → IsGuestShaped g (guest_next g)) → (k used wanted : ℕ) → RunsAgree (inf_mapping program args) (run k) (flat-run k) → IsRoomed (flat-run (suc k)) used wanted → StaysAt (flat-run k) (flat-run (suc k))
  unfolding flat_steps
  stays-there shaped k used wanted agrees roomed =
      let f : Flat = flat-run k in
      step-stays input f (guest_next f.guest) used wanted (not-roomed (run k).ending f.guest.core.ended agrees.matches.ending used wanted) (shaped f.guest) (next-leaves laws f.guest agrees.mapped.lawful f.guest.core.ended) roomed

  without-room : ((g : Guest) → IsGuestShaped g (guest_next g)) → (n : ℕ) → is_clear (run n) ≡ true → IsCovered n → (used wanted : ℕ) → IsRoomed (flat-run n) used wanted → EndsWithoutRoom program args settings input n (flat-run n)
  without-room shaped n clear covered used wanted roomed =
      let found : Found n used wanted = find n clear covered used wanted roomed in
      let k : ℕ = found.made in
      let f : Flat = flat-run k in
      let m = found.agrees.matches in
      let there : StaysAt f (flat-run (suc k)) = stays-there shaped k used wanted found.agrees found.roomed in
      let same = found.stays in record {
        made = k;
        within = found.within;
        used = used;
        wanted = wanted;
        meets = laws.same program args settings input given limits (suc k) found.clear found.covered used wanted found.roomed;
        comes = comes-to (run k) (NoRoom used wanted) (flat-run n) f.guest.history
            (ap (λ (x : Flat). x.out) same ∙ there.out ∙ m.out)
            (ap (λ (x : Flat). x.err) same ∙ there.err ∙ m.err)
            (ap (λ (x : Flat). x.guest.history.objects) same ∙ there.objects)
            m.objects
            (ap (λ (x : Flat). x.guest.core.steps) same ∙ there.steps ∙ sym m.state.steps)
            (laws.quiet program args settings input given limits n clear covered)
            (ap ended_as roomed.ended);
      }

  ends-clear : ((g : Guest) → IsGuestShaped g (guest_next g)) → (n : ℕ) → is_clear (run n) ≡ true → IsCovered n → EndsClear program args settings input n (flat-run n)
  ends-clear shaped n clear covered = go (laws.agree program args settings input given limits n clear covered)
    where
      go : AgreesOrRoomed (inf_mapping program args) (run n) (flat-run n) → EndsClear program args settings input n (flat-run n)
      go (inl agrees) =
          let f : Flat = flat-run n in
          let m = agrees.matches in
          let end = ends-at (run n).ending f.guest.core.ended m.ending in
          inl (record {
            address = end.0;
            comes = comes-to (run n) (ending_at end.0 (run n).ending) f f.guest.history m.out m.err refl m.objects (sym m.state.steps) (laws.quiet program args settings input given limits n clear covered) end.1;
          })
      go (inr (used, wanted, roomed)) = inr (without-room shaped n clear covered used wanted roomed)

pub clear_runs_match : Laws → ((g : Guest) → IsGuestShaped g (guest_next g)) → ClearRunsMatch
clear_runs_match laws shaped program args settings input budget is = ends-clear laws program args settings input is.given is.limits shaped budget is.clear is.covered
