-- A run so far, and what a turn makes of it.
use Rattle.std.proofs.Common.{◌≡◌, ◌<◌, ◌≤◌, ℕ, zero, suc, ◌+◌, ◌-◌, ◌^◌, Bool, false, true, cond, List, drop, length, length-drop, length-take, Option, None, Some, Result, Ok, Err, IfSome, refl, sym, ◌∙◌, ap, subst, add-one, add-zero, arith}
use Rattle.std.proofs.lemmas.Bool.Decides.{nat_tests}
use Rattle.std.specs.Io.KnownBytes.{Appends}
use Rattle.ex_io.specs.Causes.{AppendsFront}
use Rattle.ex_io.specs.Tape.{most_kept}
use Rattle.infinite_heap.specs.InfiniteSystem.{taken}
use Rattle.infinite_heap.specs.Loaded.{Loaded}
use Rattle.exact_heap.specs.Heaps.{StandsFor}
use Rattle.exact_heap.specs.History.{History, no_history}
use Rattle.exact_heap.specs.declared.heap.Heap.{Heap}
use Rattle.rv_machine.specs.Core.{Core, Goes, Faults, Reads, Prints, Exits, Stays as StaysEnded}
use Rattle.rv_machine.specs.Flat.{Flat, after_step, flat_step, with_guest}
use Rattle.rv_machine.specs.Going.{GoesOn, HasGone}
use Rattle.rv_machine.specs.Guest.{Guest, guest_start, with_core}
use Rattle.rv_machine.specs.HeapCalls.{GuestNext, Carries, Returns, Lacks, guest_next, guest_next_of}
use Rattle.rv_machine.specs.Stands.{heap_in, IsAt, IsReady}
use Rattle.rv_machine.specs.declared.ended.Ended.{Ended}
use Rattle.rv_machine.specs.declared.machine.Machine.{Machine}
use Rattle.rv_machine.specs.declared.settings.Settings.{Settings}
use Rattle.layout_run.specs.Advances.{EndsAs, IsGoing}
use Rattle.layout_run.specs.Outside.{Held}
use Rattle.layout_run.specs.Runs.{MayFail, StopsAtLimit}
use Rattle.layout_run.specs.Turns.{IsAtLimit, IsFlat, Turns, Stops}
use Rattle.layout_run.specs.Whole.{run_until, unless_stopped, is_stopped, ended_as, ending_of}
use Rattle.layout_run.specs.declared.ran.Ending.{Ending}
use Rattle.layout_run.specs.declared.ran.Ending.TheVariants.{Budget, Stopped}
use Rattle.layout_run.specs.declared.ran.RunRefusal.{RunRefusal}
use Rattle.layout_run.specs.declared.ran.RunRefusal.TheVariants as why
use Rattle.layout_run.proofs.Advanced.{going-at, going-by}
use Rattle.layout_run.proofs.Known.{appends-none, front-trans, front-wider, prefix-some, whole-front}
use Rattle.layout_run.proofs.Turned.{Grows, stays, step-grows}

-- ---- runs

unless-grows : (b : Bool) (input : List ℕ) (flat : Flat) → Grows flat (unless_stopped b input flat)
unless-grows true input flat = stays flat
unless-grows false input flat = step-grows flat (guest_next flat.guest) input

run-next : (program : Loaded) (args : List (List ℕ)) (settings : Settings) (input : List ℕ) (stop_at : Option ℕ) (i : ℕ) → run_until program args settings input stop_at (i + 1) ≡ unless_stopped (is_stopped stop_at (run_until program args settings input stop_at i).guest.history) input (run_until program args settings input stop_at i)
unfolding run_until
run-next program args settings input stop_at i = rw add-one

run-grows : (program : Loaded) (args : List (List ℕ)) (settings : Settings) (input : List ℕ) (stop_at : Option ℕ) (n k : ℕ) → Grows (run_until program args settings input stop_at n) (run_until program args settings input stop_at (n + k))
run-grows program args settings input stop_at n zero = rw add-zero (stays (run_until program args settings input stop_at n))
run-grows program args settings input stop_at n (suc k) =
    let is : n + suc k ≡ (n + k) + 1 = omega arith in
    let before = run-grows program args settings input stop_at n k in
    let more = unless-grows (is_stopped stop_at (run_until program args settings input stop_at (n + k)).guest.history) input (run_until program args settings input stop_at (n + k)) in
    rw (is, run-next program args settings input stop_at (n + k)) (front-trans _ _ _ before.0 more.0, front-trans _ _ _ before.1 more.1)

-- what was printed by then is a prefix
pub printed-by : (program : Loaded) (args : List (List ℕ)) (settings : Settings) (input : List ℕ) (stop_at : Option ℕ) (n m : ℕ) → n ≤ m → Grows (run_until program args settings input stop_at n) (run_until program args settings input stop_at m)
printed-by program args settings input stop_at n m less =
    let sum : n + (m - n) ≡ m = omega (arith, less) in
    subst (λ k. Grows (run_until program args settings input stop_at n) (run_until program args settings input stop_at k)) sum (run-grows program args settings input stop_at n (m - n))

-- it is in the input
read-within : (input : List ℕ) (place len : ℕ) → place ≤ length input → place + length (taken input place len) ≤ length input
read-within input place len within = omega (arith, length-take len (drop place input), length-drop place input, within)

step-within : (input : List ℕ) (flat : Flat) (n : GuestNext) → flat.place ≤ length input → (after_step input flat n).place ≤ length input
step-within input flat (Carries (Reads a l)) within = read-within input flat.place l within
step-within input flat (Carries (Prints fd a l bytes core)) within = within
step-within input flat (Carries (Goes core)) within = within
step-within input flat (Carries (Faults kind a)) within = within
step-within input flat (Carries (Exits code core)) within = within
step-within input flat (Carries (StaysEnded e)) within = within
step-within input flat (Returns to) within = within
step-within input flat (Lacks used wanted to) within = within

unless-within : (b : Bool) (input : List ℕ) (flat : Flat) → flat.place ≤ length input → (unless_stopped b input flat).place ≤ length input
unless-within true input flat within = within
unless-within false input flat within = step-within input flat (guest_next flat.guest) within

pub places-within : (program : Loaded) (args : List (List ℕ)) (settings : Settings) (input : List ℕ) (stop_at : Option ℕ) (n : ℕ) → (run_until program args settings input stop_at n).place ≤ length input
unfolding run_until
places-within program args settings input stop_at zero = omega arith
places-within program args settings input stop_at (suc n) = unless-within (is_stopped stop_at (run_until program args settings input stop_at n).guest.history) input (run_until program args settings input stop_at n) (places-within program args settings input stop_at n)

-- the place in the input never goes back
step-rises : (flat : Flat) (n : GuestNext) (input : List ℕ) → flat.place ≤ (after_step input flat n).place
step-rises flat (Carries (Reads a l)) input = omega arith
step-rises flat (Carries (Prints fd a l bytes core)) input = omega arith
step-rises flat (Carries (Goes core)) input = omega arith
step-rises flat (Carries (Faults kind a)) input = omega arith
step-rises flat (Carries (Exits code core)) input = omega arith
step-rises flat (Carries (StaysEnded e)) input = omega arith
step-rises flat (Returns to) input = omega arith
step-rises flat (Lacks used wanted to) input = omega arith

unless-rises : (b : Bool) (input : List ℕ) (flat : Flat) → flat.place ≤ (unless_stopped b input flat).place
unless-rises true input flat = omega arith
unless-rises false input flat = step-rises flat (guest_next flat.guest) input

run-rises : (program : Loaded) (args : List (List ℕ)) (settings : Settings) (input : List ℕ) (stop_at : Option ℕ) (n k : ℕ) → (run_until program args settings input stop_at n).place ≤ (run_until program args settings input stop_at (n + k)).place
run-rises program args settings input stop_at n zero = rw add-zero (omega arith)
run-rises program args settings input stop_at n (suc k) =
    let is : n + suc k ≡ (n + k) + 1 = omega arith in
    let before = run-rises program args settings input stop_at n k in
    let more = unless-rises (is_stopped stop_at (run_until program args settings input stop_at (n + k)).guest.history) input (run_until program args settings input stop_at (n + k)) in
    rw (is, run-next program args settings input stop_at (n + k)) (omega (arith, before, more))

pub places-rise : (program : Loaded) (args : List (List ℕ)) (settings : Settings) (input : List ℕ) (stop_at : Option ℕ) (n m : ℕ) → n ≤ m → (run_until program args settings input stop_at n).place ≤ (run_until program args settings input stop_at m).place
places-rise program args settings input stop_at n m less =
    let sum : n + (m - n) ≡ m = omega (arith, less) in
    subst (λ k. (run_until program args settings input stop_at n).place ≤ (run_until program args settings input stop_at k).place) sum (run-rises program args settings input stop_at n (m - n))

-- a sink that may fail may fail later on
may-later : (refused : RunRefusal) (flat later : Flat) → MayFail refused flat → Grows flat later → MayFail refused later
may-later why.Memory flat later may grown = tt
may-later why.Input flat later may grown = tt
may-later why.Source flat later may grown = tt
may-later why.Out flat later may grown = prefix-some flat.out later.out grown.0 may
may-later why.Err flat later may grown = prefix-some flat.err later.err grown.1 may

-- a run that can't go on from a state stays there
pub run-over : (program : Loaded) (args : List (List ℕ)) (settings : Settings) (input : List ℕ) (stop_at : Option ℕ) (n k : ℕ) → unless_stopped (is_stopped stop_at (run_until program args settings input stop_at n).guest.history) input (run_until program args settings input stop_at n) ≡ run_until program args settings input stop_at n → run_until program args settings input stop_at (n + k) ≡ run_until program args settings input stop_at n
run-over program args settings input stop_at n zero over = rw add-zero
run-over program args settings input stop_at n (suc k) over =
    let is : n + suc k ≡ (n + k) + 1 = omega arith in
    let stays = run-over program args settings input stop_at n k over in
    rw (is, run-next program args settings input stop_at (n + k), stays) over

-- a guest that has ended stays
unless-ended : (b : Bool) (input : List ℕ) (flat : Flat) (e : Ended) → flat.guest.core.ended ≡ Some e → unless_stopped b input flat ≡ flat
unless-ended true input flat e is = refl
unless-ended false input flat e is = ap (λ x. after_step input flat (guest_next_of flat.guest x)) is

never-first : (stop_at : Option ℕ) (seed : ℕ) → is_stopped stop_at (no_history seed) ≡ false
never-first None seed = refl
never-first (Some call) seed = grind (arith, nat_tests)

-- ---- the loop

-- after instructions that go on a machine still goes on
pub going-gone : (machine after' : Machine) (n : ℕ) → IsGoing machine → ((g : Guest) → IsAt g machine → HasGone g n after') → IsReady after' → IsGoing after'
going-gone machine after' n going gone ready =
    going-by machine after' going (λ g at alive.
    let has = gone g at in
    going-at (with_core g has.core) after' has.at (ap (λ (c : Core). c.ended) (sym has.at.core) ∙ ready.going))

-- a run after i steps, none of which ended it
pub record IsSoFar (program : Loaded) (args : List (List ℕ)) (settings : Settings) (input : List ℕ) (stop_at : Option ℕ) (i : ℕ) (machine : Machine) (place : ℕ) (start now : Held) : Type 0 where
  pub flat : IsFlat (run_until program args settings input stop_at i) machine place start now
  pub on : is_stopped stop_at (run_until program args settings input stop_at i).guest.history ≡ false
  pub alive : (run_until program args settings input stop_at i).guest.core.ended ≡ None

-- a run that is over: how it has ended, and what is there then
pub record IsOver (stop_at : Option ℕ) (flat : Flat) (ending : Ending) (machine : Machine) (reached : ℕ) (start now : Held) : Type 0 where
  pub at : IsAt flat.guest machine
  pub comes : ending ≡ ending_of stop_at flat
  pub place : reached ≡ flat.place
  pub out : Appends start.out now.out flat.out
  pub err : Appends start.err now.err flat.err

-- whether the run is stopped, as the machine's heap tells it
abbrev pub Tells : Option ℕ → Machine → Bool → Type 0
Tells stop_at machine b = (h : History) → StandsFor (heap_in machine) h → is_stopped stop_at h ≡ b

-- a turn from here, whichever state of a run the machine and the sinks show
abbrev pub Turn : (input : List ℕ) → Machine → Machine → (place place' : ℕ) → Result (Option Ending) RunRefusal → (start mid now : Held) → Type 0
Turn input machine after' place place' result start mid now = (flat : Flat) → IsFlat flat machine place start mid → Turns (flat_step input flat) result after' place' start now

-- what a heap's count of calls tells
abbrev pub Counts : ℕ → Heap → Type 0
Counts calls heap = (h : History) → StandsFor heap h → calls ≡ h.calls

abbrev pub Bounds : Option ℕ → ℕ → Type 0
Bounds stop_at most = (h : History) → h.calls < 2 ^ 64 → Stops stop_at most h

pub tells-past : (stop_at : Option ℕ) (most calls : ℕ) (heap : Heap) (machine : Machine) → heap ≡ heap_in machine → Counts calls heap → Bounds stop_at most → calls < 2 ^ 64 → most < calls → Tells stop_at machine true
tells-past stop_at most calls heap machine is counts bounds fits past = λ h stands.
    let same : calls ≡ h.calls = counts h (subst (λ heap. StandsFor heap h) (sym is) stands) in
    (bounds h (omega (arith, same, fits))).past (omega (arith, same, past))

pub tells-within : (stop_at : Option ℕ) (most calls : ℕ) (heap : Heap) (machine : Machine) → heap ≡ heap_in machine → Counts calls heap → Bounds stop_at most → calls < 2 ^ 64 → calls ≤ most → Tells stop_at machine false
tells-within stop_at most calls heap machine is counts bounds fits within = λ h stands.
    let same : calls ≡ h.calls = counts h (subst (λ heap. StandsFor heap h) (sym is) stands) in
    (bounds h (omega (arith, same, fits))).within (omega (arith, same, within))

pub so_far-start : (program : Loaded) (args : List (List ℕ)) (settings : Settings) (input : List ℕ) (stop_at : Option ℕ) (machine : Machine) (start : Held) → IsAt (guest_start program args settings) machine → IsSoFar program args settings input stop_at 0 machine 0 start start
unfolding run_until
so_far-start program args settings input stop_at machine start at = record { flat = record { at = at; place = refl; out = appends-none start.out; err = appends-none start.err }; on = never-first stop_at settings.seed; alive = refl }

-- how a run has ended that wasn't stopped, and one that was
told-ended : (stop_at : Option ℕ) (flat : Flat) → is_stopped stop_at flat.guest.history ≡ false → ended_as flat.guest.core.ended ≡ ending_of stop_at flat
told-ended stop_at flat on = ap (λ b. cond b Stopped (ended_as flat.guest.core.ended)) (sym on)

told-stopped : (stop_at : Option ℕ) (flat : Flat) → is_stopped stop_at flat.guest.history ≡ true → Stopped ≡ ending_of stop_at flat
told-stopped stop_at flat stopped = ap (λ b. cond b Stopped (ended_as flat.guest.core.ended)) (sym stopped)

-- a guest that has ended so has that ending
ending-of : (ended : Option Ended) (ending : Ending) → EndsAs ended (Some ending) → (e : Ended) × (ended ≡ Some e) × (ending ≡ ended_as ended)
ending-of None ending ends = absurd ends
ending-of (Some e) ending ends = (e, refl, ends)

going-of : (ended : Option Ended) → EndsAs ended None → ended ≡ None
going-of None ends = refl
going-of (Some e) ends = absurd ends

module _ (program : Loaded) (args : List (List ℕ)) (settings : Settings) (input : List ℕ) (stop_at : Option ℕ) (i budget : ℕ) (machine : Machine) (place : ℕ) (start mid : Held) (so : IsSoFar program args settings input stop_at i machine place start mid) where
  abbrev pub run : ℕ → Flat
  run n = run_until program args settings input stop_at n

  -- the state after one more step
  step-is : run (i + 1) ≡ flat_step input (run i)
  step-is = run-next program args settings input stop_at i ∙ ap (λ b. unless_stopped b input (run i)) so.on

  -- the state after so many instructions that go on
  pub gone-run : (n : ℕ) (core : Core) → GoesOn n (run i).guest core → run (i + n) ≡ with_guest (run i) (with_core (run i).guest core)
  unfolding GoesOn
  gone-run zero core goes = rw (add-zero, goes)
  gone-run (suc n) core goes =
      let is : i + suc n ≡ (i + n) + 1 = omega arith in
      let before : Flat = with_guest (run i) (with_core (run i).guest goes.0) in
      ap run is ∙ run-next program args settings input stop_at (i + n)
      ∙ ap (λ (f : Flat). unless_stopped (is_stopped stop_at f.guest.history) input f) (gone-run n goes.0 goes.1)
      ∙ ap (λ b. unless_stopped b input before) so.on
      ∙ ap (after_step input before) goes.2

  pub so_far-gone : (n : ℕ) (after' : Machine) → ((g : Guest) → IsAt g machine → HasGone g n after') → IsReady after' → IsSoFar program args settings input stop_at (i + n) after' place start mid
  so_far-gone n after' gone ready =
      let g = (run i).guest in
      let has = gone g so.flat.at in
      let ended : has.core.ended ≡ None = ap (λ (c : Core). c.ended) (sym has.at.core) ∙ ready.going in
      let P : Flat → Type 0 = λ f. IsFlat f after' place start mid × (is_stopped stop_at f.guest.history ≡ false) × (f.guest.core.ended ≡ None) in
      let here : P (with_guest (run i) (with_core g has.core)) = (record { at = has.at; place = so.flat.place; out = so.flat.out; err = so.flat.err }, so.on, ended) in
      let there : P (run (i + n)) = subst P (sym (gone-run n has.core has.goes)) here in
      record { flat = there.0; on = there.1; alive = there.2 }

  pub turned : (result : Result (Option Ending) RunRefusal) (after' : Machine) (place' : ℕ) (now : Held) → Turn input machine after' place place' result start mid now → Turns (run (i + 1)) result after' place' start now
  turned result after' place' now turn = subst (λ f. Turns f result after' place' start now) (sym step-is) (turn (run i) so.flat)

  pub so_far-next : (after' : Machine) (place' : ℕ) (now : Held) → Turn input machine after' place place' (Ok None) start mid now → Tells stop_at after' false
      → IsSoFar program args settings input stop_at (i + 1) after' place' start now
  so_far-next after' place' now turn tells =
      let done = turned (Ok None) after' place' now turn in
      record { flat = done.0; on = tells (run (i + 1)).guest.history done.0.at.history; alive = going-of (run (i + 1)).guest.core.ended done.1 }

  -- the run can't go on from a state
  abbrev pub Stays : ℕ → Type 0
  Stays n = unless_stopped (is_stopped stop_at (run n).guest.history) input (run n) ≡ run n

  -- the run is stopped after this turn
  pub so_far-stopped : (ending : Option Ending) (after' : Machine) (place' : ℕ) (now : Held) → Turn input machine after' place place' (Ok ending) start mid now → Tells stop_at after' true → IsOver stop_at (run (i + 1)) Stopped after' place' start now × Stays (i + 1)
  so_far-stopped ending after' place' now turn tells =
      let done = turned (Ok ending) after' place' now turn in
      let flat : Flat = run (i + 1) in
      let stopped : is_stopped stop_at flat.guest.history ≡ true = tells flat.guest.history done.0.at.history in
      (record { at = done.0.at; comes = told-stopped stop_at flat stopped; place = done.0.place; out = done.0.out; err = done.0.err }, ap (λ b. unless_stopped b input flat) stopped)

  -- this turn ends the guest, and the run isn't stopped
  pub so_far-ended : (ending : Ending) (after' : Machine) (place' : ℕ) (now : Held) → Turn input machine after' place place' (Ok (Some ending)) start mid now → Tells stop_at after' false → IsOver stop_at (run (i + 1)) ending after' place' start now × Stays (i + 1)
  so_far-ended ending after' place' now turn tells =
      let done = turned (Ok (Some ending)) after' place' now turn in
      let flat : Flat = run (i + 1) in
      let ended = ending-of flat.guest.core.ended ending done.1 in
      let on : is_stopped stop_at flat.guest.history ≡ false = tells flat.guest.history done.0.at.history in
      (record { at = done.0.at; comes = ended.2 ∙ told-ended stop_at flat on; place = done.0.place; out = done.0.out; err = done.0.err }, unless-ended (is_stopped stop_at flat.guest.history) input flat ended.0 ended.1)

  -- the budget was used up
  pub so_far-spent : IsOver stop_at (run i) Budget machine place start mid
  so_far-spent = record { at = so.flat.at; comes = ap ended_as (sym so.alive) ∙ told-ended stop_at (run i) so.on; place = so.flat.place; out = so.flat.out; err = so.flat.err }

  -- a turn was cut short
  pub so_far-cut : (refused : RunRefusal) (after' : Machine) (place' : ℕ) (now : Held) → Turn input machine after' place place' (Err refused) start mid now → i < budget
      → AppendsFront start.out now.out (run budget).out × AppendsFront start.err now.err (run budget).err × MayFail refused (run budget)
  so_far-cut refused after' place' now turn less =
      let part = turned (Err refused) after' place' now turn in
      let sum : (i + 1) + (budget - (i + 1)) ≡ budget = omega (arith, less) in
      let all = subst (λ n. Grows (run (i + 1)) (run n)) sum (run-grows program args settings input stop_at (i + 1) (budget - (i + 1))) in
      (front-wider start.out now.out _ _ part.0 all.0, front-wider start.err now.err _ _ part.1 all.1, may-later refused (run (i + 1)) (run budget) part.2 all)

  -- the next turn would read past the most that is kept
  pub so_far-limit : (now : Held) → IsAtLimit input (run i) start now → i < budget → StopsAtLimit run budget start now
  so_far-limit now at less = record {
    made = i;
    limit = record {
      less = less;
      within = at.within;
      past = subst (λ (flat : Flat). most_kept < flat.place) (sym (run-next program args settings input stop_at i ∙ ap (λ b. unless_stopped b input (run i)) so.on)) at.past;
    };
    out = at.out;
    err = at.err;
  }

  -- a turn was made, and then the run was cut short
  pub so_far-left : (refused : RunRefusal) (ending : Option Ending) (after' : Machine) (place' : ℕ) (now : Held) → MayFail refused (run (i + 1)) → Turn input machine after' place place' (Ok ending) start mid now → i < budget
      → AppendsFront start.out now.out (run budget).out × AppendsFront start.err now.err (run budget).err × MayFail refused (run budget)
  so_far-left refused ending after' place' now may turn less =
      let done = turned (Ok ending) after' place' now turn in
      let sum : (i + 1) + (budget - (i + 1)) ≡ budget = omega (arith, less) in
      let all = subst (λ n. Grows (run (i + 1)) (run n)) sum (run-grows program args settings input stop_at (i + 1) (budget - (i + 1))) in
      (front-wider start.out now.out _ _ (whole-front _ _ _ done.0.out) all.0, front-wider start.err now.err _ _ (whole-front _ _ _ done.0.err) all.1, may-later refused (run (i + 1)) (run budget) may all)

-- ---- for an input that may be told

pub mapped : (o : Option (List ℕ)) (P Q : List ℕ → Type 0) → ((b : List ℕ) → o ≡ Some b → P b → Q b) → IfSome o P → IfSome o Q
mapped None P Q f h = tt
mapped (Some b) P Q f h = f b refl h

pub each-some : (o : Option (List ℕ)) (Q : List ℕ → Type 0) → ((b : List ℕ) → o ≡ Some b → Q b) → IfSome o Q
each-some None Q f = tt
each-some (Some b) Q f = f b refl
