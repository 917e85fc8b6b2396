-- Runs that are clear and covered go in lockstep, whatever the seed.
use Rattle.std.proofs.Common.{◌≡◌, ◌⊎◌, ◌<◌, ◌≤◌, inl, inr, ℕ, zero, suc, ◌+◌, ◌-◌, refl, ap, sym, ◌∙◌, subst, Bool, true, false, cond, nat_le, arith, List, length, ◌++◌, Option, None, Some, is_some}
use Rattle.std.proofs.lemmas.Bool.{cases_lt, true≢false}
use Rattle.std.proofs.lemmas.Bool.Decides.{nat_tests}
use Rattle.infinite_heap.specs.Covered.{IsCoveredRun}
use Rattle.infinite_heap.specs.InfiniteRun.{InfRun, InfEnding, InfExit, InfFault, InfBlur, inf_mapping, inf_run, inf_step_of, is_clear, is_clear_ending}
use Rattle.infinite_heap.specs.Loaded.{Loaded}
use Rattle.infinite_heap.specs.Mapped.{Mapping}
use Rattle.infinite_heap.specs.declared.program.HeapName.{HeapName}
use Rattle.exact_heap.specs.Calls.{check_end, end_signals}
use Rattle.exact_heap.specs.History.{clock_of}
use Rattle.exact_heap.specs.Placing.{HeapState, Rules}
use Rattle.rv_machine.specs.declared.ended.Ended.{Ended}
use Rattle.rv_machine.specs.declared.ended.Ended.TheVariants.{Roomed}
use Rattle.rv_machine.specs.declared.settings.Settings.{Settings}
use Rattle.rv_machine.specs.Core as flat
use Rattle.rv_machine.specs.Core.{Core}
use Rattle.rv_machine.specs.Flat.{Flat, after_step, flat_run, flat_step, flat_steps}
use Rattle.rv_machine.specs.Guest.{Guest, heap_of}
use Rattle.rv_machine.specs.HeapCalls.{GuestNext, Carries, Returns, Lacks, guest_next, guest_next_of}
use Rattle.rv_machine.specs.Laws.{ProgramsStayOutside, RunsKeepRules}
use Rattle.rv_machine.specs.Matches.{SameEnding}
use Rattle.rv_machine.specs.Shape.{IsGuestShaped}
use Rattle.simulation.specs.Agreement.{RunsAgree, IsRoomed}
use Rattle.simulation.specs.Coverage.{CoveredRunsAgree, CoveredRunsAreHarmless}
use Rattle.simulation.specs.Quiet.{CoveredRunsAreQuiet}
use Rattle.simulation.specs.Rooms.{RoomIsTheSame, seeded}
use Rattle.simulation.specs.Runs.{AgreesOrRoomed, RoomComesLast}
use Rattle.layout_run.specs.Clear.{ClearRunsMatch, ClearRunsPrintPrefixes, EndsClear, IsClearRun, ending_at}
use Rattle.layout_run.specs.Unstopped.{UnstoppedRunsAreFlatRuns}
use Rattle.layout_run.specs.Whole.{ended_as}
use Rattle.layout_run.specs.declared.ran.Ending.TheVariants.{Room}
use Rattle.layout_run.specs.declared.ran.Ran.{Ran}
use Rattle.replicate.proofs.Agreed.{IsGone, IsHarmlessly, StepFacts, clocks_alike, ends_alike, goes_unless_ended, writes_alike}
use Rattle.replicate.proofs.Onward.{attempts, onward-suc, onward-zero}
use Rattle.replicate.specs.Counted.{IsGuestCounted, StepsAreCounted}
use Rattle.replicate.specs.Replicas.{Replica, arrival, at_budget, at_end, attempt, attempted, has_arrived, is_due, mark_of, onward, write_next}
use Rattle.replicate.specs.declared.arrival.Arrival.{Arrival}
use Rattle.replicate.specs.declared.arrival.Arrival.TheVariants as at

-- what the laws say
pub record Laws : Type 0 where
  pub facts : StepFacts
  pub outside : ProgramsStayOutside
  pub rules : RunsKeepRules
  pub agree : CoveredRunsAgree
  pub harmless : CoveredRunsAreHarmless
  pub quiet : CoveredRunsAreQuiet
  pub room : RoomIsTheSame
  pub last : RoomComesLast
  pub match : ClearRunsMatch
  pub prefixes : ClearRunsPrintPrefixes
  pub unstopped : UnstoppedRunsAreFlatRuns
  pub counted : StepsAreCounted
  pub shaped : (g : Guest) → IsGuestShaped g (guest_next g)

-- ---- one step

-- a run that is clear was clear before
pub clear-of : (p : Mapping) (names : List HeapName) (zeroed : Bool) (input : List ℕ) (run : InfRun) (e : Option InfEnding) → run.ending ≡ e → is_clear (inf_step_of p names zeroed input run e) ≡ true → is_clear run ≡ true
clear-of p names zeroed input run None is clear = ap is_clear_ending is
clear-of p names zeroed input run (Some e) is clear = clear

-- a guest that has ended stays as it is
pub ended-stays : (input : List ℕ) (f : Flat) (e : Ended) → f.guest.core.ended ≡ Some e → flat_step input f ≡ f
ended-stays input f e is = ap (λ (d : Option Ended). after_step input f (guest_next_of f.guest d)) is

pub not-roomed : (e : Option InfEnding) (d : Option Ended) → SameEnding e d → (used wanted : ℕ) → d ≡ Some (Roomed used wanted) → ⊥
not-roomed e d same used wanted is = go e (subst (SameEnding e) is same)
  where
    go : (e : Option InfEnding) → SameEnding e (Some (Roomed used wanted)) → ⊥
    go None same = same
    go (Some (InfExit code)) same = same
    go (Some (InfFault kind pc)) same = same
    go (Some (InfBlur why pc)) same = same

-- a step after which the guest hasn't ended was counted
pub step-counts : (input : List ℕ) (f : Flat) (n : GuestNext) → IsGone n → IsGuestShaped f.guest n → IsGuestCounted f.guest n → (after_step input f n).guest.core.ended ≡ None → (after_step input f n).guest.core.steps ≡ f.guest.core.steps + 1
step-counts input f (Carries (flat.Goes core)) gone shape counted is = counted
step-counts input f (Carries (flat.Faults kind address)) gone shape counted is = absurd (cc)
step-counts input f (Carries (flat.Reads address len)) gone shape counted is = refl
step-counts input f (Carries (flat.Prints fd address len bytes core)) gone shape counted is = counted
step-counts input f (Carries (flat.Exits code core)) gone shape counted is = let ended = sym (shape.0) ∙ is in absurd (cc)
step-counts input f (Carries (flat.Stays ended)) gone shape counted is = absurd gone
step-counts input f (Returns g) gone shape counted is = counted
step-counts input f (Lacks used wanted g) gone shape counted is = let ended = sym (shape.0) ∙ is in absurd (cc)

-- a step of a replica, which waits where it comes to a write
pub attempted-by : (input : List ℕ) (r : Replica) (n : GuestNext) → attempted input r n ≡ cond (is_some (write_next n)) (record r { waits = true }) (record r { flat = after_step input r.flat n })
attempted-by input r (Carries (flat.Goes core)) = refl
attempted-by input r (Carries (flat.Faults kind address)) = refl
attempted-by input r (Carries (flat.Reads address len)) = refl
attempted-by input r (Carries (flat.Prints fd address len bytes core)) = refl
attempted-by input r (Carries (flat.Exits code core)) = refl
attempted-by input r (Carries (flat.Stays ended)) = refl
attempted-by input r (Returns g) = refl
attempted-by input r (Lacks used wanted g) = refl

pub record PrintsNothing (f to : Flat) : Type 0 where
  pub out : to.out ≡ f.out
  pub err : to.err ≡ f.err

pub prints-nothing : (input : List ℕ) (f : Flat) (n : GuestNext) → is_some (write_next n) ≡ false → PrintsNothing f (after_step input f n)
prints-nothing input f (Carries (flat.Goes core)) is = record { out = refl; err = refl }
prints-nothing input f (Carries (flat.Faults kind address)) is = record { out = refl; err = refl }
prints-nothing input f (Carries (flat.Reads address len)) is = record { out = refl; err = refl }
prints-nothing input f (Carries (flat.Prints fd address len bytes core)) is = absurd (true≢false is)
prints-nothing input f (Carries (flat.Exits code core)) is = record { out = refl; err = refl }
prints-nothing input f (Carries (flat.Stays ended)) is = record { out = refl; err = refl }
prints-nothing input f (Returns g) is = record { out = refl; err = refl }
prints-nothing input f (Lacks used wanted g) is = record { out = refl; err = refl }

-- ---- one that hasn't arrived

end-open : (d : Bool) (b : Option Arrival) → is_some (cond d (Some at.Clock) b) ≡ false → is_some b ≡ false
end-open true b is = absurd (true≢false is)
end-open false b is = is

pub record IsOpen (budget : ℕ) (f : Flat) : Type 0 where
  pub going : f.guest.core.ended ≡ None
  pub left : nat_le budget f.guest.core.steps ≡ false

open-end : (budget : ℕ) (f : Flat) (d : Option Ended) → f.guest.core.ended ≡ d → is_some (at_end budget f d) ≡ false → IsOpen budget f
open-end budget f (Some e) same is = absurd (true≢false is)
open-end budget f None same is = go (nat_le budget f.guest.core.steps) refl is
  where
    go : (u : Bool) → nat_le budget f.guest.core.steps ≡ u → is_some (at_budget u) ≡ false → IsOpen budget f
    go true left is = absurd (true≢false is)
    go false left is = record { going = same; left = left }

pub is-open : (budget : ℕ) (r : Replica) → r.waits ≡ false → has_arrived budget r ≡ false → IsOpen budget r.flat
is-open budget r waits is =
    let there : is_some (cond (is_due r.mark.clock (clock_of r.flat.guest.history)) (Some at.Clock) (at_end budget r.flat r.flat.guest.core.ended)) ≡ false =
    sym (ap (λ w. is_some (cond w (write_next (guest_next r.flat.guest)) (cond (is_due r.mark.clock (clock_of r.flat.guest.history)) (Some at.Clock) (at_end budget r.flat r.flat.guest.core.ended)))) waits) ∙ is in
    open-end budget r.flat r.flat.guest.core.ended refl (end-open (is_due r.mark.clock (clock_of r.flat.guest.history)) _ there)

pub below-budget : (budget k : ℕ) → nat_le budget k ≡ false → k < budget
below-budget budget k is = grind (arith, nat_tests)

pub up-budget : (budget k : ℕ) → nat_le budget k ≡ true → budget ≤ k
up-budget budget k is = grind (arith, nat_tests)

-- ---- runs

checked-clock : (s : HeapState) (b : Bool) → s.history.ended ≡ b → clock_of (check_end s) ≡ clock_of s.history
unfolding check_end
checked-clock s true is = ap (λ b. clock_of (cond b s.history (record s.history { signals = s.history.signals ++ end_signals s; ended = true }))) is
checked-clock s false is = ap (λ b. clock_of (cond b s.history (record s.history { signals = s.history.signals ++ end_signals s; ended = true }))) is

no-room : (address used wanted : ℕ) (e : Option InfEnding) → Room used wanted ≡ ending_at address e → ⊥
no-room address used wanted None is = cc
no-room address used wanted (Some (InfExit code)) is = cc
no-room address used wanted (Some (InfFault kind pc)) is = cc
no-room address used wanted (Some (InfBlur why pc)) is = cc

module _ (laws : Laws) (program : Loaded) (args : List (List ℕ)) (settings : Settings) (input : List ℕ) where
  abbrev pub mapping : Mapping
  mapping = inf_mapping program args

  abbrev pub run : ℕ → InfRun
  run k = inf_run program args input settings.zero k

  abbrev pub flat-at : (s k : ℕ) → Flat
  flat-at s k = flat_run program args (seeded s settings) input k

  abbrev pub IsClearTo : ℕ → Type 0
  IsClearTo k = IsClearRun program args settings input k

  clear-before : (k : ℕ) → IsClearTo (suc k) → IsClearTo k
  unfolding inf_run IsCoveredRun
  clear-before k is = record { given = is.given; limits = is.limits; clear = clear-of mapping program.names settings.zero input (run k) (run k).ending refl is.clear; covered = is.covered.0 }

  clear-by : (d k n : ℕ) → d + k ≡ n → IsClearTo n → IsClearTo k
  clear-by zero k n same is = let there : n ≡ k = omega (arith, same) in subst IsClearTo there is
  clear-by (suc d) k n same is = clear-before k (clear-by d (suc k) n (omega (arith, same)) is)

  pub clear-to : (k n : ℕ) → k ≤ n → IsClearTo n → IsClearTo k
  clear-to k n less is = clear-by (n - k) k n (omega (arith, less)) is

  pub for-seed : (s k : ℕ) → IsClearTo k → IsClearRun program args (seeded s settings) input k
  for-seed s k is = record { given = is.given; limits = is.limits; clear = is.clear; covered = is.covered }

  pub agrees : (s k : ℕ) → IsClearTo k → AgreesOrRoomed mapping (run k) (flat-at s k)
  agrees s k is = laws.agree program args (seeded s settings) input is.given is.limits k is.clear is.covered

  -- all runs agree after so many steps, or all have met no room
  pub record AllRoomed (k : ℕ) : Type 0 where
    pub used : ℕ
    pub wanted : ℕ
    pub roomed : (s : ℕ) → IsRoomed (flat-at s k) used wanted

  abbrev pub AllAgree : ℕ → Type 0
  AllAgree k = (s : ℕ) → RunsAgree mapping (run k) (flat-at s k)

  pub standing : (k : ℕ) → IsClearTo k → AllAgree k ⊎ AllRoomed k
  standing k is = go (agrees 0 k is)
    where
      other : (s : ℕ) → RunsAgree mapping (run k) (flat-at 0 k) → AgreesOrRoomed mapping (run k) (flat-at s k) → RunsAgree mapping (run k) (flat-at s k)
      other s a (inl b) = b
      other s a (inr (used, wanted, r)) =
          let there : IsRoomed (flat-at 0 k) used wanted = laws.room program args (seeded s settings) input is.given is.limits k is.clear is.covered used wanted r 0 in
          absurd (not-roomed (run k).ending (flat-at 0 k).guest.core.ended a.matches.ending used wanted there.ended)

      go : AgreesOrRoomed mapping (run k) (flat-at 0 k) → AllAgree k ⊎ AllRoomed k
      go (inl a) = inl (λ s. other s a (agrees s k is))
      go (inr (used, wanted, r)) = inr (record { used = used; wanted = wanted; roomed = λ s. laws.room program args (seeded 0 settings) input is.given is.limits k is.clear is.covered used wanted r s })

  room-stays : (s j k used wanted : ℕ) → j ≤ k → IsRoomed (flat-at s j) used wanted → IsRoomed (flat-at s k) used wanted
  room-stays s j k used wanted less r = go (cases_lt j k)
    where
      go : (j < k) ⊎ (k ≤ j) → IsRoomed (flat-at s k) used wanted
      go (inl before) = subst (λ f. IsRoomed f used wanted) (sym (laws.last program args (seeded s settings) input used wanted j k before r)) r
      go (inr up) = let same : j ≡ k = omega (arith, less, up) in subst (λ i. IsRoomed (flat-at s i) used wanted) same r

  -- ---- clocks

  roomed-clock : (k : ℕ) → IsClearTo (suc k) → AllAgree k → AllRoomed (suc k) → (s : ℕ) → clock_of (flat-at s (suc k)).guest.history ≡ length (run k).state.objects
  roomed-clock k is a r s = go (laws.match program args (seeded s settings) input (suc k) (for-seed s (suc k) is))
    where
      go : EndsClear program args (seeded s settings) input (suc k) (flat-at s (suc k)) → clock_of (flat-at s (suc k)).guest.history ≡ length (run k).state.objects
      go (inl ends) =
          let there : ended_as (flat-at s (suc k)).guest.core.ended ≡ ending_at ends.address (run (suc k)).ending = ap (λ (x : Ran). x.ending) ends.comes.ran in
          absurd (no-room ends.address r.used r.wanted (run (suc k)).ending (sym (ap ended_as (r.roomed s).ended) ∙ there))
      go (inr ends) = at-made (cases_lt ends.made k)
        where
          at-made : (ends.made < k) ⊎ (k ≤ ends.made) → clock_of (flat-at s (suc k)).guest.history ≡ length (run k).state.objects
          at-made (inl before) =
              absurd (not-roomed (run k).ending (flat-at s k).guest.core.ended (a s).matches.ending ends.used ends.wanted (room-stays s (suc ends.made) k ends.used ends.wanted (omega (arith, before)) (ends.meets s)).ended)
          at-made (inr up) =
              let within = ends.within in
              let same : ends.made ≡ k = omega (arith, up, within) in
              sym (checked-clock (heap_of (flat-at s (suc k)).guest) (flat-at s (suc k)).guest.history.ended refl) ∙ ap (λ (x : Ran). x.clock) ends.comes.ran ∙ ap (λ j. length (run j).state.objects) same

  pub clocks : (k : ℕ) → IsClearTo k → (s s' : ℕ) → clock_of (flat-at s k).guest.history ≡ clock_of (flat-at s' k).guest.history
  unfolding flat_steps
  clocks zero is s s' = refl
  clocks (suc k) is s s' = go (clocks k (clear-before k is) s s') (standing (suc k) is) (standing k (clear-before k is))
    where
      go : clock_of (flat-at s k).guest.history ≡ clock_of (flat-at s' k).guest.history → AllAgree (suc k) ⊎ AllRoomed (suc k) → AllAgree k ⊎ AllRoomed k → clock_of (flat-at s (suc k)).guest.history ≡ clock_of (flat-at s' (suc k)).guest.history
      go same (inl a) before = clocks_alike mapping (run (suc k)) (flat-at s (suc k)) (flat-at s' (suc k)) (a s) (a s')
      go same (inr r) (inl a) = roomed-clock k is a r s ∙ sym (roomed-clock k is a r s')
      go same (inr r) (inr r0) =
          ap (λ (f : Flat). clock_of f.guest.history) (laws.last program args (seeded s settings) input r0.used r0.wanted k (suc k) (omega arith) (r0.roomed s))
          ∙ same
          ∙ sym (ap (λ (f : Flat). clock_of f.guest.history) (laws.last program args (seeded s' settings) input r0.used r0.wanted k (suc k) (omega arith) (r0.roomed s')))

  -- ---- steps

  clear-next : (k : ℕ) → IsClearTo (suc k) → is_clear (inf_step_of mapping program.names settings.zero input (run k) (run k).ending) ≡ true
  unfolding inf_run
  clear-next k is = is.clear

  harmlessly : (k : ℕ) → IsClearTo (suc k) → (s : ℕ) → RunsAgree mapping (run k) (flat-at s k) → IsHarmlessly mapping program.names settings.zero input (run k) (flat-at s k)
  harmlessly k is s a =
      let kept = laws.rules program args (seeded s settings) input k in
      record { agrees = a; called = kept.0; zeros = ap (λ (r : Rules). r.zero) kept.1; harmless = laws.harmless program args (seeded s settings) input is.given is.limits (suc k) is.covered k (omega arith) a }

  pub writes : (k : ℕ) → IsClearTo (suc k) → (s s' : ℕ) → write_next (guest_next (flat-at s k).guest) ≡ write_next (guest_next (flat-at s' k).guest)
  writes k is s s' = go (standing k (clear-before k is))
    where
      go : AllAgree k ⊎ AllRoomed k → write_next (guest_next (flat-at s k).guest) ≡ write_next (guest_next (flat-at s' k).guest)
      go (inl a) = writes_alike laws.facts mapping (laws.outside program is.given.lawful args) input is.given.reads program.names settings.zero (run k) (clear-next k is) (flat-at s k) (flat-at s' k) (harmlessly k is s (a s)) (harmlessly k is s' (a s'))
      go (inr r) = ap (λ d. write_next (guest_next_of (flat-at s k).guest d)) (r.roomed s).ended ∙ sym (ap (λ d. write_next (guest_next_of (flat-at s' k).guest d)) (r.roomed s').ended)

  gone : (k : ℕ) → IsClearTo (suc k) → (s : ℕ) → (flat-at s k).guest.core.ended ≡ None → IsGone (guest_next (flat-at s k).guest)
  gone k is s going = go (agrees s k (clear-before k is))
    where
      go : AgreesOrRoomed mapping (run k) (flat-at s k) → IsGone (guest_next (flat-at s k).guest)
      go (inl a) = goes_unless_ended laws.facts mapping (laws.outside program is.given.lawful args) input is.given.reads program.names settings.zero (run k) (clear-next k is) (flat-at s k) (harmlessly k is s a) going
      go (inr (used, wanted, r)) = let ended = sym r.ended ∙ going in absurd (cc)

  pub steps-are : (k : ℕ) → IsClearTo k → (s : ℕ) → (flat-at s k).guest.core.ended ≡ None → (flat-at s k).guest.core.steps ≡ k
  unfolding flat_steps
  steps-are zero is s going = refl
  steps-are (suc k) is s going = go (steps-are k (clear-before k is) s) (flat-at s k).guest.core.ended refl
    where
      go : ((flat-at s k).guest.core.ended ≡ None → (flat-at s k).guest.core.steps ≡ k) → (d : Option Ended) → (flat-at s k).guest.core.ended ≡ d → (flat-at s (suc k)).guest.core.steps ≡ suc k
      go earlier (Some e) same = let ended = sym same ∙ sym (ap (λ (f : Flat). f.guest.core.ended) (ended-stays input (flat-at s k) e same)) ∙ going in absurd (cc)
      go earlier None same =
          let f : Flat = flat-at s k in
          let before : f.guest.core.steps ≡ k = earlier same in
          let more : (flat-at s (suc k)).guest.core.steps ≡ f.guest.core.steps + 1 = step-counts input f (guest_next f.guest) (gone k is s same) (laws.shaped f.guest) (laws.counted f.guest) going in
          omega (arith, before, more)

  pub ends : (budget k : ℕ) → IsClearTo k → (s s' : ℕ) → at_end budget (flat-at s k) (flat-at s k).guest.core.ended ≡ at_end budget (flat-at s' k) (flat-at s' k).guest.core.ended
  ends budget k is s s' = go (standing k is)
    where
      go : AllAgree k ⊎ AllRoomed k → at_end budget (flat-at s k) (flat-at s k).guest.core.ended ≡ at_end budget (flat-at s' k) (flat-at s' k).guest.core.ended
      go (inl a) = ends_alike budget mapping (run k) (flat-at s k) (flat-at s' k) (a s) (a s')
      go (inr r) = ap (at_end budget (flat-at s k)) (r.roomed s).ended ∙ sym (ap (at_end budget (flat-at s' k)) (r.roomed s').ended)

  -- ---- replicas

  -- the replica of a seed after so many steps, which was compared after m of them
  abbrev pub rep : (s k : ℕ) (waits : Bool) (m : ℕ) → Replica
  rep s k waits m = record { flat = flat-at s k; waits = waits; live = true; mark = mark_of (flat-at s m) }

  module _ (budget : ℕ) (clear : IsClearTo budget) (s0 : ℕ) where
    -- how far replicas are
    pub record Fits (k : ℕ) (waits : Bool) : Type 0 where
      pub within : k ≤ budget
      pub more : waits ≡ true → k < budget
      pub writes : waits ≡ true → is_some (write_next (guest_next (flat-at s0 k).guest)) ≡ true

    pub arrivals : (k : ℕ) (waits : Bool) (m : ℕ) → Fits k waits → m ≤ budget → (s s' : ℕ) → arrival budget (rep s k waits m) ≡ arrival budget (rep s' k waits m)
    arrivals k true m fits marked s s' = writes k (clear-to (suc k) budget (let less = fits.more refl in omega (arith, less)) clear) s s'
    arrivals k false m fits marked s s' =
        ap (λ b. cond (is_due b (clock_of (flat-at s k).guest.history)) (Some at.Clock) (at_end budget (flat-at s k) (flat-at s k).guest.core.ended)) (clocks m (clear-to m budget marked clear) s s')
        ∙ ap (λ c. cond (is_due (clock_of (flat-at s' m).guest.history) c) (Some at.Clock) (at_end budget (flat-at s k) (flat-at s k).guest.core.ended)) (clocks k (clear-to k budget fits.within clear) s s')
        ∙ ap (cond (is_due (clock_of (flat-at s' m).guest.history) (clock_of (flat-at s' k).guest.history)) (Some at.Clock)) (ends budget k (clear-to k budget fits.within clear) s s')

    -- all replicas come to the same place, and print nothing on their way
    pub record Moves (k : ℕ) (waits : Bool) (m : ℕ) (change : Replica → Replica) : Type 0 where
      pub to : ℕ
      pub then-waits : Bool
      pub fits : Fits to then-waits
      pub moved : (s : ℕ) → change (rep s k waits m) ≡ rep s to then-waits m
      pub quiet : PrintsNothing (flat-at s0 k) (flat-at s0 to)

    attempt-moves : (k : ℕ) (waits : Bool) (m : ℕ) → Fits k waits → m ≤ budget → Moves k waits m (attempt input budget)
    unfolding flat_steps
    attempt-moves k waits m fits marked = go (has_arrived budget (rep s0 k waits m)) refl
      where
        like : (b : Bool) → has_arrived budget (rep s0 k waits m) ≡ b → (s : ℕ) → has_arrived budget (rep s k waits m) ≡ b
        like b is s = ap is_some (arrivals k waits m fits marked s s0) ∙ is

        step : waits ≡ false → ((s : ℕ) → has_arrived budget (rep s k false m) ≡ false) → k < budget → (b : Bool) → is_some (write_next (guest_next (flat-at s0 k).guest)) ≡ b → Moves k false m (attempt input budget)
        step is fresh less true writing = record {
          to = k;
          then-waits = true;
          fits = record { within = fits.within; more = λ w. less; writes = λ w. writing };
          moved = λ s.
              attempts input budget (rep s k false m) (fresh s) ∙ attempted-by input (rep s k false m) (guest_next (flat-at s k).guest)
              ∙ ap (λ b. cond b (rep s k true m) (record (rep s k false m) { flat = after_step input (flat-at s k) (guest_next (flat-at s k).guest) })) (ap is_some (writes k (clear-to (suc k) budget (omega (arith, less)) clear) s s0) ∙ writing);
          quiet = record { out = refl; err = refl };
        }
        step is fresh less false writing = record {
          to = suc k;
          then-waits = false;
          fits = record { within = omega (arith, less); more = λ w. absurd (true≢false (sym w)); writes = λ w. absurd (true≢false (sym w)) };
          moved = λ s.
              attempts input budget (rep s k false m) (fresh s) ∙ attempted-by input (rep s k false m) (guest_next (flat-at s k).guest)
              ∙ ap (λ b. cond b (rep s k true m) (record (rep s k false m) { flat = after_step input (flat-at s k) (guest_next (flat-at s k).guest) })) (ap is_some (writes k (clear-to (suc k) budget (omega (arith, less)) clear) s s0) ∙ writing);
          quiet = prints-nothing input (flat-at s0 k) (guest_next (flat-at s0 k).guest) writing;
        }

        by-waits : (w : Bool) → waits ≡ w → has_arrived budget (rep s0 k waits m) ≡ false → Moves k waits m (attempt input budget)
        by-waits true same is = absurd (true≢false (sym (fits.writes same) ∙ sym (ap (λ w. has_arrived budget (rep s0 k w m)) same) ∙ is))
        by-waits false same is =
            let opens : IsOpen budget (flat-at s0 k) = is-open budget (rep s0 k waits m) same is in
            let count : (flat-at s0 k).guest.core.steps ≡ k = steps-are k (clear-to k budget fits.within clear) s0 opens.going in
            let less : k < budget = below-budget budget k (ap (nat_le budget) (sym count) ∙ opens.left) in
            subst (λ w. Moves k w m (attempt input budget)) (sym same)
            (step same (λ s. sym (ap (λ w. has_arrived budget (rep s k w m)) same) ∙ like false is s) less (is_some (write_next (guest_next (flat-at s0 k).guest))) refl)

        go : (there : Bool) → has_arrived budget (rep s0 k waits m) ≡ there → Moves k waits m (attempt input budget)
        go true is = record {
          to = k;
          then-waits = waits;
          fits = fits;
          moved = λ s. ap (λ b. cond b (rep s k waits m) (attempted input (rep s k waits m) (guest_next (flat-at s k).guest))) (like true is s);
          quiet = record { out = refl; err = refl };
        }
        go false is = by-waits waits refl is

    pub onward-moves : (n k : ℕ) (waits : Bool) (m : ℕ) → Fits k waits → m ≤ budget → Moves k waits m (onward input budget n)
    onward-moves zero k waits m fits marked = record { to = k; then-waits = waits; fits = fits; moved = λ s. onward-zero input budget (rep s k waits m); quiet = record { out = refl; err = refl } }
    onward-moves (suc n) k waits m fits marked =
        let a : Moves k waits m (onward input budget n) = onward-moves n k waits m fits marked in
        let b : Moves a.to a.then-waits m (attempt input budget) = attempt-moves a.to a.then-waits m a.fits marked in record {
          to = b.to;
          then-waits = b.then-waits;
          fits = b.fits;
          moved = λ s. onward-suc input budget n (rep s k waits m) ∙ ap (attempt input budget) (a.moved s) ∙ b.moved s;
          quiet = record { out = b.quiet.out ∙ a.quiet.out; err = b.quiet.err ∙ a.quiet.err };
        }
