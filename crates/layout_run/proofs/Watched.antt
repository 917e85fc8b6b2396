-- What is taken of a run so far, and the image of a whole run.
use Rattle.std.proofs.Common.{◌≡◌, ◌<◌, ◌≤◌, ℕ, max, zero, suc, ◌+◌, ◌-◌, Bool, false, true, cond, List, [], ◌∷◌, Option, None, Some, Ok, refl, sym, ◌∙◌, ap, subst, add-zero, arith}
use Rattle.std.specs.Io.KnownBytes.{Appends}
use Rattle.ex_io.specs.Causes.{AppendsFront}
use Rattle.ex_io.specs.Tape.{Track}
use Rattle.infinite_heap.specs.Loaded.{Loaded}
use Rattle.exact_heap.specs.Calls.{check_end}
use Rattle.exact_heap.specs.declared.signal.Place.{Place}
use Rattle.exact_heap.specs.declared.signal.Place.TheVariants.{Call, End}
use Rattle.exact_heap.specs.declared.signal.Signal.{Signal}
use Rattle.rv_machine.specs.Core.{Core}
use Rattle.rv_machine.specs.Flat.{Flat, flat_run, flat_steps}
use Rattle.rv_machine.specs.Going.{GoesOn, HasGone}
use Rattle.rv_machine.specs.Guest.{Guest, heap_of}
use Rattle.rv_machine.specs.Stands.{IsAt, IsReady, tag_in}
use Rattle.rv_machine.specs.declared.ended.Ended.{Ended}
use Rattle.rv_machine.specs.declared.ended.Ended.TheVariants.{Exited, Faulted, Roomed}
use Rattle.rv_machine.specs.declared.machine.Machine.{Machine}
use Rattle.rv_machine.specs.declared.settings.Settings.{Settings}
use Rattle.heap_image.specs.Snapshot.{Snapshot}
use Rattle.layout_run.specs.Imaged.{if_imaged, if_signalled, image_at, image_of_first, image_of_run, or_later, place_of, signalled, with_image}
use Rattle.layout_run.specs.Advances.{Follows}
use Rattle.layout_run.specs.Outside.{Held}
use Rattle.layout_run.specs.Runs.{LeavesTape, RunsAs}
use Rattle.layout_run.specs.Watched.{IsAtEnd, by_signal, image_by_signal, is_stop, last_image, place_at_end, ran_to, taken_after, taken_by}
use Rattle.layout_run.specs.Whole.{ended_as, ending_of, is_stopped, ran_of, ran_with, run_until, unless_stopped}
use Rattle.layout_run.specs.declared.ran.Ending.{Ending}
use Rattle.layout_run.specs.declared.ran.Ending.TheVariants.{Budget, Stopped}
use Rattle.layout_run.specs.declared.ran.Ran.{Ran}
use Rattle.layout_run.proofs.Known.{whole-front}
use Rattle.layout_run.proofs.SoFar.{IsOver, IsSoFar, Tells, Turn, gone-run, run-over, so_far-ended, so_far-gone, so_far-next, so_far-spent, so_far-stopped, turned}
use Rattle.layout_run.proofs.Whole.{unstopped}

-- ---- where the first signal comes

none-found : (signals : List Signal) (flat : Flat) → if_signalled signals flat ≡ None → signals ≡ []
none-found [] flat is = refl
none-found (signal ∷ signals) flat is = absurd (cc)

none-later : (earlier : Option Flat) (flat : Flat) → or_later earlier flat ≡ None → flat.guest.history.signals ≡ []
none-later (Some f) flat is = absurd (cc)
none-later None flat is = none-found flat.guest.history.signals flat is

-- what taken is at an end, and what it is of a state with the same signals
later-same : (found : Option Flat) (signals : List Signal) (later : Flat) → later.guest.history.signals ≡ signals → (found ≡ None → signals ≡ []) → or_later found later ≡ found
later-same (Some f) signals later is none = refl
later-same None signals later is none = ap (λ s. if_signalled s later) (is ∙ none refl)

-- by a guest with these signals
taken-new : (program : Loaded) (signals : List Signal) (later : Flat) → later.guest.history.signals ≡ signals → image_by_signal program.tag signals later.guest ≡ taken_by true program (if_signalled signals later)
taken-new program [] later is = refl
taken-new program (signal ∷ signals) later is = ap (λ s. Some (image_at program (place_of s) later)) (sym is)

taken-step : (watches : Bool) (program : Loaded) (found : Option Flat) (later : Flat) → taken_after watches (taken_by watches program found) program.tag later.guest ≡ taken_by watches program (or_later found later)
taken-step false program found later = refl
taken-step true program None later = taken-new program later.guest.history.signals later refl
taken-step true program (Some f) later = refl

-- what was taken of a run, where one state of it was found and another
abbrev pub IsTaken : (watches : Bool) → Loaded → (args : List (List ℕ)) → Settings → (input : List ℕ) → (n : ℕ) → (taken : Option Snapshot) → Type 0
IsTaken watches program args settings input n taken = taken ≡ taken_by watches program (signalled program args settings input n)

taken-by : (watches : Bool) (program : Loaded) (found earlier : Option Flat) → (watches ≡ true → found ≡ earlier) → taken_by watches program earlier ≡ taken_by watches program found
taken-by false program found earlier same = refl
taken-by true program found earlier same = ap (taken_by true program) (sym (same refl))

pub taken-start : (watches : Bool) (program : Loaded) (args : List (List ℕ)) (settings : Settings) (input : List ℕ) (taken : Option Snapshot) → taken ≡ None → IsTaken watches program args settings input 0 taken
unfolding signalled
taken-start false program args settings input taken is = is
taken-start true program args settings input taken is = is

module _ (program : Loaded) (args : List (List ℕ)) (settings : Settings) (input : List ℕ) where
  quiet-before : (n : ℕ) → signalled program args settings input n ≡ None → (flat_run program args settings input n).guest.history.signals ≡ []
  unfolding signalled flat_steps
  quiet-before zero is = refl
  quiet-before (suc n) is = none-later (signalled program args settings input n) (flat_run program args settings input (suc n)) is

  found-next : (n : ℕ) → signalled program args settings input (suc n) ≡ or_later (signalled program args settings input n) (flat_run program args settings input (suc n))
  unfolding signalled
  found-next n = refl

  -- a state with the signals of an earlier one finds none
  found-same : (n i : ℕ) → signalled program args settings input n ≡ signalled program args settings input i
      → (flat_run program args settings input (suc n)).guest.history.signals ≡ (flat_run program args settings input i).guest.history.signals → signalled program args settings input (suc n) ≡ signalled program args settings input i
  found-same n i same signals =
      found-next n ∙ ap (λ o. or_later o (flat_run program args settings input (suc n))) same
      ∙ later-same (signalled program args settings input i) (flat_run program args settings input i).guest.history.signals (flat_run program args settings input (suc n)) signals (quiet-before i)

  flat-is : (stop_at : Option ℕ) → stop_at ≡ None → (n : ℕ) → run_until program args settings input stop_at n ≡ flat_run program args settings input n
  flat-is stop_at none n = ap (λ s. run_until program args settings input s n) none ∙ unstopped program args settings input n

  -- the same of the run that is stopped nowhere
  run-same : (stop_at : Option ℕ) → stop_at ≡ None → (n i : ℕ) → signalled program args settings input n ≡ signalled program args settings input i
      → (run_until program args settings input stop_at (suc n)).guest.history.signals ≡ (run_until program args settings input stop_at i).guest.history.signals → signalled program args settings input (suc n) ≡ signalled program args settings input i
  run-same stop_at none n i same signals =
      let P : Flat → Flat → Type 0 = λ (a b : Flat). a.guest.history.signals ≡ b.guest.history.signals in
      let one = subst (λ f. P f (run_until program args settings input stop_at i)) (flat-is stop_at none (suc n)) signals in
      let both = subst (λ f. P (flat_run program args settings input (suc n)) f) (flat-is stop_at none i) one in
      found-same n i same both

  found-over : (stop_at : Option ℕ) → stop_at ≡ None → (n k : ℕ) → unless_stopped (is_stopped stop_at (run_until program args settings input stop_at n).guest.history) input (run_until program args settings input stop_at n) ≡ run_until program args settings input stop_at n
      → signalled program args settings input (n + k) ≡ signalled program args settings input n
  found-over stop_at none n zero over = ap (signalled program args settings input) (add-zero n)
  found-over stop_at none n (suc k) over =
      let is : n + suc k ≡ suc (n + k) = omega arith in
      let stays : run_until program args settings input stop_at (suc (n + k)) ≡ run_until program args settings input stop_at n = ap (run_until program args settings input stop_at) (sym is) ∙ run-over program args settings input stop_at n (suc k) over in
      ap (signalled program args settings input) is ∙ run-same stop_at none (n + k) n (found-over stop_at none n k over) (ap (λ (f : Flat). f.guest.history.signals) stays)

  -- ---- what is taken

  -- the run is over
  pub taken-over : (stop_at : Option ℕ) (watches : Bool) → (watches ≡ true → stop_at ≡ None) → (n budget : ℕ) (taken : Option Snapshot) → n ≤ budget
      → unless_stopped (is_stopped stop_at (run_until program args settings input stop_at n).guest.history) input (run_until program args settings input stop_at n) ≡ run_until program args settings input stop_at n
      → IsTaken watches program args settings input n taken → IsTaken watches program args settings input budget taken
  taken-over stop_at watches none n budget taken less over is =
      let sum : n + (budget - n) ≡ budget = omega (arith, less) in
      is ∙ taken-by watches program (signalled program args settings input budget) (signalled program args settings input n) (λ on. ap (signalled program args settings input) (sym sum) ∙ found-over stop_at (none on) n (budget - n) over)

  module _ (stop_at : Option ℕ) (i budget : ℕ) (machine : Machine) (place : ℕ) (start mid : Held) (so : IsSoFar program args settings input stop_at i machine place start mid) where
    found-gone : stop_at ≡ None → (n : ℕ) (core : Core) → GoesOn n (run_until program args settings input stop_at i).guest core → signalled program args settings input (i + n) ≡ signalled program args settings input i
    unfolding GoesOn
    found-gone none zero core goes = ap (signalled program args settings input) (add-zero i)
    found-gone none (suc n) core goes =
        let is : i + suc n ≡ suc (i + n) = omega arith in
        let gone = gone-run program args settings input stop_at i budget machine place start mid so (suc n) core goes in
        let there = ap (run_until program args settings input stop_at) (sym is) ∙ gone in
        ap (signalled program args settings input) is ∙ run-same stop_at none (i + n) i (found-gone none n goes.0 goes.1) (ap (λ (f : Flat). f.guest.history.signals) there)

    -- instructions that go on
    pub taken-gone : (watches : Bool) → (watches ≡ true → stop_at ≡ None) → (n : ℕ) (after' : Machine) (taken : Option Snapshot) → ((g : Guest) → IsAt g machine → HasGone g n after')
        → IsTaken watches program args settings input i taken → IsTaken watches program args settings input (i + n) taken
    taken-gone watches none n after' taken gone is =
        let has = gone (run_until program args settings input stop_at i).guest so.flat.at in
        is ∙ taken-by watches program (signalled program args settings input (i + n)) (signalled program args settings input i) (λ on. found-gone (none on) n has.core has.goes)

  -- one more state
  pub taken-next : (stop_at : Option ℕ) (watches : Bool) → (watches ≡ true → stop_at ≡ None) → (n : ℕ) (taken taken' : Option Snapshot) (tag : ℕ) → tag ≡ program.tag
      → taken' ≡ taken_after watches taken tag (run_until program args settings input stop_at (n + 1)).guest
      → IsTaken watches program args settings input n taken → IsTaken watches program args settings input (n + 1) taken'
  taken-next stop_at false none n taken taken' tag same new is = new ∙ is
  taken-next stop_at true none n taken taken' tag same new is =
      let more : n + 1 ≡ suc n = omega arith in
      let there = ap (run_until program args settings input stop_at) more ∙ flat-is stop_at (none refl) (suc n) in
      let found = signalled program args settings input n in
      new ∙ ap (λ t. taken_after true t tag (run_until program args settings input stop_at (n + 1)).guest) is
      ∙ ap (λ t. taken_after true (taken_by true program found) t (run_until program args settings input stop_at (n + 1)).guest) same
      ∙ ap (λ (f : Flat). taken_after true (taken_by true program found) program.tag f.guest) there
      ∙ taken-step true program found (flat_run program args settings input (suc n))
      ∙ ap (taken_by true program) (sym (found-next n))
      ∙ ap (λ m. taken_by true program (signalled program args settings input m)) (sym more)

-- ---- the end of a run

module _ (program : Loaded) (args : List (List ℕ)) (settings : Settings) (input : List ℕ) (stop_at : Option ℕ) (watches : Bool) (answer : Ending) (machine : Machine) (taken : Option Snapshot) (old new : Track) (start now : Held) where
  pub at-end : (n : ℕ) (place : ℕ) (left left' : Option (List ℕ)) → tag_in machine ≡ program.tag → IsOver stop_at (run_until program args settings input stop_at n) answer machine place start now → IsTaken watches program args settings input n taken → Follows old new left left' place
      → IsAtEnd program args settings input stop_at n watches answer machine taken old new start now
  at-end n place left left' tag over is follows = record { at = over.at; tag = tag; ending = over.comes; taken = is; high = follows.high ∙ ap (λ p. max old.high p) over.place; out = over.out; err = over.err }

  -- it is over at any greater number of steps
  pub at-end-later : (watches ≡ true → stop_at ≡ None) → (n budget : ℕ) → n ≤ budget → unless_stopped (is_stopped stop_at (run_until program args settings input stop_at n).guest.history) input (run_until program args settings input stop_at n) ≡ run_until program args settings input stop_at n
      → IsAtEnd program args settings input stop_at n watches answer machine taken old new start now → IsAtEnd program args settings input stop_at budget watches answer machine taken old new start now
  at-end-later none n budget less stays end =
      let sum : n + (budget - n) ≡ budget = omega (arith, less) in
      let same : run_until program args settings input stop_at n ≡ run_until program args settings input stop_at budget = sym (run-over program args settings input stop_at n (budget - n) stays) ∙ ap (run_until program args settings input stop_at) sum in
      record {
        at = subst (λ (f : Flat). IsAt f.guest machine) same end.at;
        tag = end.tag;
        ending = end.ending ∙ ap (ending_of stop_at) same;
        taken = taken-over program args settings input stop_at watches none n budget taken less stays end.taken;
        high = end.high ∙ ap (λ (f : Flat). max old.high f.place) same;
        out = subst (λ (f : Flat). Appends start.out now.out f.out) same end.out;
        err = subst (λ (f : Flat). Appends start.err now.err f.err) same end.err;
      }

-- ---- a turn of the loop

-- what holds of a run so far
abbrev pub IsRunning : Loaded → (args : List (List ℕ)) → Settings → (input : List ℕ) → (stop_at : Option ℕ) → (watches : Bool) → (n : ℕ) → Machine → (place : ℕ) → (taken : Option Snapshot) → (start now : Held) → Type 0
IsRunning program args settings input stop_at watches n machine place taken start now = IsSoFar program args settings input stop_at n machine place start now × IsTaken watches program args settings input n taken

-- what was watched of a machine
abbrev pub Watches : (watches : Bool) → Machine → (old new : Option Snapshot) → Type 0
Watches watches machine old new = (g : Guest) → IsAt g machine → new ≡ taken_after watches old (tag_in machine) g

module _ (program : Loaded) (args : List (List ℕ)) (settings : Settings) (input : List ℕ) (stop_at : Option ℕ) (watches : Bool) (none : watches ≡ true → stop_at ≡ None) (i budget : ℕ) (machine : Machine) (place : ℕ) (taken : Option Snapshot) (start mid : Held)
    (running : IsRunning program args settings input stop_at watches i machine place taken start mid) where
  -- after instructions that go on
  pub running-gone : (n : ℕ) (after' : Machine) → ((g : Guest) → IsAt g machine → HasGone g n after') → IsReady after' → IsRunning program args settings input stop_at watches (i + n) after' place taken start mid
  running-gone n after' gone ready = (so_far-gone program args settings input stop_at i budget machine place start mid running.0 n after' gone ready, taken-gone program args settings input stop_at i budget machine place start mid running.0 watches none n after' taken gone running.1)

  module _ (after' : Machine) (place' : ℕ) (taken' : Option Snapshot) (now : Held) (ended : Option Ending) (tag : tag_in after' ≡ program.tag) (turn : Turn input machine after' place place' (Ok ended) start mid now) (watched : Watches watches after' taken taken') where
    taken-turned : IsTaken watches program args settings input (i + 1) taken'
    taken-turned =
        let done = turned program args settings input stop_at i budget machine place start mid running.0 (Ok ended) after' place' now turn in
        taken-next program args settings input stop_at watches none i taken taken' (tag_in after') tag (watched (run_until program args settings input stop_at (i + 1)).guest done.0.at) running.1

    pub running-next : ended ≡ None → Tells stop_at after' false → IsRunning program args settings input stop_at watches (i + 1) after' place' taken' start now
    running-next going tells = (so_far-next program args settings input stop_at i budget machine place start mid running.0 after' place' now (subst (λ e. Turn input machine after' place place' (Ok e) start mid now) going turn) tells, taken-turned)

    module _ (old new : Track) (left left' : Option (List ℕ)) (follows : Follows old new left left' place') (less : i < budget) where
      pub running-stopped : Tells stop_at after' true → IsAtEnd program args settings input stop_at budget watches Stopped after' taken' old new start now
      running-stopped tells =
          let over = so_far-stopped program args settings input stop_at i budget machine place start mid running.0 ended after' place' now turn tells in
          at-end-later program args settings input stop_at watches Stopped after' taken' old new start now none (i + 1) budget (omega (arith, less)) over.1
          (at-end program args settings input stop_at watches Stopped after' taken' old new start now (i + 1) place' left left' tag over.0 taken-turned follows)

      pub running-ended : (ending : Ending) → ended ≡ Some ending → Tells stop_at after' false → IsAtEnd program args settings input stop_at budget watches ending after' taken' old new start now
      running-ended ending is tells =
          let over = so_far-ended program args settings input stop_at i budget machine place start mid running.0 ending after' place' now (subst (λ e. Turn input machine after' place place' (Ok e) start mid now) is turn) tells in
          at-end-later program args settings input stop_at watches ending after' taken' old new start now none (i + 1) budget (omega (arith, less)) over.1
          (at-end program args settings input stop_at watches ending after' taken' old new start now (i + 1) place' left left' tag over.0 taken-turned follows)

  pub running-spent : (old new : Track) (left left' : Option (List ℕ)) → Follows old new left left' place → tag_in machine ≡ program.tag → i ≡ budget → IsAtEnd program args settings input stop_at budget watches Budget machine taken old new start mid
  running-spent old new left left' follows tag is =
      subst (λ n. IsAtEnd program args settings input stop_at n watches Budget machine taken old new start mid) is
      (at-end program args settings input stop_at watches Budget machine taken old new start mid i place left left' tag (so_far-spent program args settings input stop_at i budget machine place start mid running.0) running.1 follows)

-- ---- the image of a whole run

stop-is : (stop_at : Option ℕ) (flat : Flat) → is_stop (ending_of stop_at flat) ≡ is_stopped stop_at flat.guest.history
stop-is stop_at flat = at (is_stopped stop_at flat.guest.history) flat.guest.core.ended
  where
    at : (b : Bool) (ended : Option Ended) → is_stop (cond b Stopped (ended_as ended)) ≡ b
    at true ended = refl
    at false None = refl
    at false (Some (Exited code)) = refl
    at false (Some (Faulted kind pc address)) = refl
    at false (Some (Roomed used wanted)) = refl

pub image-is : (program : Loaded) (args : List (List ℕ)) (settings : Settings) (input : List ℕ) (stop_at : Option ℕ) (budget : ℕ) (imaged : Bool) (ending : Ending) (taken : Option Snapshot) (tag : ℕ)
    → tag ≡ program.tag → ending ≡ ending_of stop_at (run_until program args settings input stop_at budget) → IsTaken (by_signal imaged stop_at) program args settings input budget taken
    → last_image imaged taken tag (place_at_end stop_at ending) (run_until program args settings input stop_at budget).guest ≡ if_imaged imaged (image_of_run program args settings input stop_at budget)
image-is program args settings input stop_at budget false ending taken tag same ended is = refl
image-is program args settings input None budget true ending taken tag same ended is =
    let flat : Flat = run_until program args settings input None budget in
    ap (λ t. last_image true t tag End flat.guest) is
    ∙ ap (λ t. last_image true (taken_by true program (signalled program args settings input budget)) t End flat.guest) same
    ∙ ap (λ (f : Flat). last_image true (taken_by true program (signalled program args settings input budget)) program.tag End f.guest) (unstopped program args settings input budget)
    ∙ at (signalled program args settings input budget)
  where
    at : (found : Option Flat) → last_image true (taken_by true program found) program.tag End (flat_run program args settings input budget).guest ≡ Some (image_of_first program found (flat_run program args settings input budget))
    at (Some f) = refl
    at None = refl
image-is program args settings input (Some call) budget true ending taken tag same ended is =
    let flat : Flat = run_until program args settings input (Some call) budget in
    ap (λ t. last_image true t tag (place_at_end (Some call) ending) flat.guest) is
    ∙ ap (λ t. last_image true None t (place_at_end (Some call) ending) flat.guest) same
    ∙ ap (λ b. Some (image_at program (cond b (Call call) End) flat)) (ap is_stop ended ∙ stop-is (Some call) flat)

pub ran-is : (stop_at : Option ℕ) (flat : Flat) (ran : Ran) (ending : Ending) (image image' : Option Snapshot) → ran ≡ ran_to ending image flat.guest → ending ≡ ending_of stop_at flat → image ≡ image' → ran ≡ with_image image' (ran_of stop_at flat)
ran-is stop_at flat ran ending image image' is ended same =
    is ∙ ap (λ x. ran_to ending x flat.guest) same ∙ ap (λ e. ran_to e image' flat.guest) ended
    ∙ ap (λ b. with_image image' (ran_with (ending_of stop_at flat) flat.guest.core.steps (cond b flat.guest.history (check_end (heap_of flat.guest))))) (stop-is stop_at flat)

-- what a run comes to, and what it leaves of the tape
pub whole-run : (program : Loaded) (args : List (List ℕ)) (settings : Settings) (input : List ℕ) (stop_at : Option ℕ) (budget : ℕ) (imaged watches : Bool) (ending : Ending) (machine : Machine) (taken image : Option Snapshot) (place : Place) (ran : Ran) (old new : Track) (start now : Held)
    → watches ≡ by_signal imaged stop_at → place ≡ place_at_end stop_at ending → ((g : Guest) → IsAt g machine → image ≡ last_image imaged taken (tag_in machine) place g) → ((g : Guest) → IsAt g machine → ran ≡ ran_to ending image g)
    → IsAtEnd program args settings input stop_at budget watches ending machine taken old new start now
    → RunsAs stop_at (run_until program args settings input stop_at budget) (if_imaged imaged (image_of_run program args settings input stop_at budget)) (Ok ran) start now × LeavesTape (run_until program args settings input stop_at budget) (Ok ran) old new
whole-run program args settings input stop_at budget imaged watches ending machine taken image place ran old new start now asks at-place of-image of-ran end =
    let flat : Flat = run_until program args settings input stop_at budget in
    let is : IsTaken (by_signal imaged stop_at) program args settings input budget taken = end.taken ∙ ap (λ b. taken_by b program (signalled program args settings input budget)) asks in
    let image-told = of-image flat.guest end.at ∙ ap (λ p. last_image imaged taken (tag_in machine) p flat.guest) at-place ∙ image-is program args settings input stop_at budget imaged ending taken (tag_in machine) end.tag end.ending is in
    ((ran-is stop_at flat ran ending image (if_imaged imaged (image_of_run program args settings input stop_at budget)) (of-ran flat.guest end.at) end.ending image-told, end.out, end.err), end.high)

-- what was printed where its image has no memory
pub cut-short : (program : Loaded) (args : List (List ℕ)) (settings : Settings) (input : List ℕ) (stop_at : Option ℕ) (budget : ℕ) (watches : Bool) (ending : Ending) (machine : Machine) (taken : Option Snapshot) (old new : Track) (start now : Held)
    → IsAtEnd program args settings input stop_at budget watches ending machine taken old new start now
    → AppendsFront start.out now.out (run_until program args settings input stop_at budget).out × AppendsFront start.err now.err (run_until program args settings input stop_at budget).err × Unit {0}
cut-short program args settings input stop_at budget watches ending machine taken old new start now end = (whole-front _ _ _ end.out, whole-front _ _ _ end.err, tt)
