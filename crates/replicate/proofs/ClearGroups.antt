-- Groups stay whole whose run on the infinite heap is clear and covered.
use Rattle.std.proofs.Common.{◌≡◌, ◌⊎◌, ◌<◌, ◌≤◌, inl, inr, ℕ, zero, suc, ◌+◌, ◌-◌, refl, ap, sym, ◌∙◌, subst, Bool, true, false, cond, nat_le, nat_eq, arith, List, [], ◌∷◌, ◌++◌, map, append-nil, Option, None, Some, is_some, unwrap_or}
use Rattle.std.specs.List.{range_with_len}
use Rattle.std.proofs.lemmas.Bool.{true≢false}
use Rattle.ex_io.specs.Causes.{IsPrefix}
use Rattle.infinite_heap.specs.InfiniteRun.{InfRun, InfEnding, inf_mapping, inf_run, inf_step_of, printed_on}
use Rattle.infinite_heap.specs.Loaded.{Loaded}
use Rattle.patch_table.specs.Table.{Table}
use Rattle.exact_heap.specs.History.{clock_of}
use Rattle.exact_heap.specs.Placing.{Rules}
use Rattle.rv_machine.specs.declared.ended.Ended.{Ended}
use Rattle.rv_machine.specs.declared.ended.Ended.TheVariants.{Exited, Faulted, Roomed}
use Rattle.rv_machine.specs.declared.settings.Settings.{Settings}
use Rattle.rv_machine.specs.Core as flat
use Rattle.rv_machine.specs.Flat.{Flat, after_step, flat_run, flat_steps}
use Rattle.rv_machine.specs.HeapCalls.{GuestNext, Carries, Returns, Lacks, guest_next}
use Rattle.simulation.specs.Rooms.{seeded}
use Rattle.layout_run.specs.Clear.{IsClearRun, ending_at}
use Rattle.layout_run.specs.Clear as run
use Rattle.layout_run.specs.Whole.{ended_as}
use Rattle.layout_run.specs.declared.ran.Ran.{Ran}
use Rattle.replicate.proofs.Lockstep.{Fits, Laws, Moves, arrivals, clear-to, for-seed, onward-moves, rep, steps-are, up-budget}
use Rattle.replicate.proofs.Unanimous.{Comes, all-quiet, all-win, all-winners, comes-wins, map-each, no-losers, none-missing, quiet-replica}
use Rattle.replicate.specs.Clear.{ClearGroupsStayWhole, ClearRoundsStayWhole, EndsClear, StaysWhole}
use Rattle.replicate.specs.Gates.{CuresWhere, DecidesBy, Gates, IsOpened, WaitsOrDecides, any_signalled, counted_gates, cured_in, end_at, gone_on, has_signalled, image_of, losers_from, missing_from, opened, passed, printed_at_gate, prints_where, shown_on, winners, won, written}
use Rattle.replicate.specs.Groups.{Group, moved}
use Rattle.replicate.specs.Replicas.{Replica, arrival, at_budget, at_end, end_of, is_due, mark_of, onward, write_next}
use Rattle.replicate.specs.Rounds.{IsRound, Rounds, SchedulesAreRounds, StartedWaitForWrites, each_ahead, gathered, seed_behind, started}
use Rattle.replicate.specs.declared.answer.GateAnswer.{GateAnswer}
use Rattle.replicate.specs.declared.answer.GateAnswer.TheVariants as answer
use Rattle.replicate.specs.declared.answer.Retired.{Retired}
use Rattle.replicate.specs.declared.arrival.Arrival.{Arrival}
use Rattle.replicate.specs.declared.arrival.Arrival.TheVariants as at

some-inj : {A : Type 0} (x y : A) → Some x ≡ Some y → x ≡ y
some-inj x y is = ap (λ o. unwrap_or o x) is

-- ---- a write at a gate

-- what a step prints is what a gate shows
pub record PrintsShown (f to : Flat) (write : Option Arrival) : Type 0 where
  pub out : to.out ≡ f.out ++ shown_on 1 write
  pub err : to.err ≡ f.err ++ shown_on 2 write

printed-where : (descriptor fd : ℕ) (before bytes : List ℕ) → printed_on descriptor fd before bytes ≡ before ++ shown_on descriptor (Some (at.Write fd bytes))
printed-where descriptor fd before bytes = go (nat_eq fd descriptor)
  where
    go : (b : Bool) → cond b (before ++ bytes) before ≡ before ++ cond b bytes []
    go true = refl
    go false = sym (append-nil before)

nothing-shown : (f to : Flat) → to.out ≡ f.out → to.err ≡ f.err → PrintsShown f to None
nothing-shown f to out err = record { out = out ∙ sym (append-nil f.out); err = err ∙ sym (append-nil f.err) }

pub prints-shown : (input : List ℕ) (f : Flat) (n : GuestNext) → PrintsShown f (after_step input f n) (write_next n)
prints-shown input f (Carries (flat.Goes core)) = nothing-shown f (after_step input f (Carries (flat.Goes core))) refl refl
prints-shown input f (Carries (flat.Faults kind address)) = nothing-shown f (after_step input f (Carries (flat.Faults kind address))) refl refl
prints-shown input f (Carries (flat.Reads address len)) = nothing-shown f (after_step input f (Carries (flat.Reads address len))) refl refl
prints-shown input f (Carries (flat.Prints fd address len bytes core)) = record { out = printed-where 1 fd f.out bytes; err = printed-where 2 fd f.err bytes }
prints-shown input f (Carries (flat.Exits code core)) = nothing-shown f (after_step input f (Carries (flat.Exits code core))) refl refl
prints-shown input f (Carries (flat.Stays ended)) = nothing-shown f f refl refl
prints-shown input f (Returns g) = nothing-shown f (after_step input f (Returns g)) refl refl
prints-shown input f (Lacks used wanted g) = nothing-shown f (after_step input f (Lacks used wanted g)) refl refl

-- a write reads no input
pub write-reads-nothing : (input : List ℕ) (f : Flat) (n : GuestNext) → is_some (write_next n) ≡ true → after_step [] f n ≡ after_step input f n
write-reads-nothing input f (Carries (flat.Prints fd address len bytes core)) is = refl
write-reads-nothing input f (Carries (flat.Goes core)) is = refl
write-reads-nothing input f (Carries (flat.Faults kind address)) is = refl
write-reads-nothing input f (Carries (flat.Reads address len)) is = absurd (true≢false (sym is))
write-reads-nothing input f (Carries (flat.Exits code core)) is = refl
write-reads-nothing input f (Carries (flat.Stays ended)) is = refl
write-reads-nothing input f (Returns g) is = refl
write-reads-nothing input f (Lacks used wanted g) is = refl

-- and ends no group
pub write-ends-nothing : (n : GuestNext) (a : Arrival) (rs : List Replica) → write_next n ≡ Some a → end_at a rs ≡ None
write-ends-nothing (Carries (flat.Prints fd address len bytes core)) a rs is = subst (λ a. end_at a rs ≡ None) (some-inj (at.Write fd bytes) a is) refl
write-ends-nothing (Carries (flat.Goes core)) a rs is = absurd (true≢false (sym (ap is_some is)))
write-ends-nothing (Carries (flat.Faults kind address)) a rs is = absurd (true≢false (sym (ap is_some is)))
write-ends-nothing (Carries (flat.Reads address len)) a rs is = absurd (true≢false (sym (ap is_some is)))
write-ends-nothing (Carries (flat.Exits code core)) a rs is = absurd (true≢false (sym (ap is_some is)))
write-ends-nothing (Carries (flat.Stays ended)) a rs is = absurd (true≢false (sym (ap is_some is)))
write-ends-nothing (Returns g) a rs is = absurd (true≢false (sym (ap is_some is)))
write-ends-nothing (Lacks used wanted g) a rs is = absurd (true≢false (sym (ap is_some is)))

-- ---- an end at a gate

pub record IsEnd (a : Arrival) : Type 0 where
  pub shown : (descriptor : ℕ) → shown_on descriptor (Some a) ≡ []
  pub ends : (r : Replica) (rs : List Replica) → end_at a (r ∷ rs) ≡ Some (answer.Ended (ended_as r.flat.guest.core.ended))

end-is : (e : Ended) → IsEnd (end_of e)
end-is (Exited code) = record { shown = λ descriptor. refl; ends = λ r rs. refl }
end-is (Faulted kind pc address) = record { shown = λ descriptor. refl; ends = λ r rs. refl }
end-is (Roomed used wanted) = record { shown = λ descriptor. refl; ends = λ r rs. refl }

budget-end : (u : Bool) (a : Arrival) → at_budget u ≡ Some a → IsEnd a
budget-end true a is = subst IsEnd (some-inj at.Budget a is) (record { shown = λ descriptor. refl; ends = λ r rs. refl })
budget-end false a is = absurd (true≢false (sym (ap is_some is)))

end-arrives : (budget : ℕ) (f : Flat) (d : Option Ended) (a : Arrival) → at_end budget f d ≡ Some a → IsEnd a
end-arrives budget f (Some e) a is = subst IsEnd (some-inj (end_of e) a is) (end-is e)
end-arrives budget f None a is = budget-end (nat_le budget f.guest.core.steps) a is

-- what a replica comes to that doesn't wait
pub record IsOver (budget : ℕ) (r : Replica) (a : Arrival) : Type 0 where
  pub end : IsEnd a
  pub there : at_end budget r.flat r.flat.guest.core.ended ≡ Some a

pub comes-to : (budget : ℕ) (r : Replica) (a : Arrival) → r.waits ≡ false → arrival budget r ≡ Some a → (at.Clock ≡ a) ⊎ IsOver budget r a
comes-to budget r a waits is = go (is_due r.mark.clock (clock_of r.flat.guest.history)) there
  where
    there : cond (is_due r.mark.clock (clock_of r.flat.guest.history)) (Some at.Clock) (at_end budget r.flat r.flat.guest.core.ended) ≡ Some a
    there = sym (ap (λ w. cond w (write_next (guest_next r.flat.guest)) (cond (is_due r.mark.clock (clock_of r.flat.guest.history)) (Some at.Clock) (at_end budget r.flat r.flat.guest.core.ended))) waits) ∙ is

    go : (d : Bool) → cond d (Some at.Clock) (at_end budget r.flat r.flat.guest.core.ended) ≡ Some a → (at.Clock ≡ a) ⊎ IsOver budget r a
    go true is = inl (some-inj at.Clock a is)
    go false is = inr (record { end = end-arrives budget r.flat r.flat.guest.core.ended a is; there = is })

-- ---- a replica that goes on by the same patches

goes-on-alike : (table : Table) (f : Flat) → f.guest.rules.patches ≡ table → gone_on table f ≡ record { flat = f; waits = false; live = true; mark = mark_of f }
goes-on-alike table f same = ap (λ t. gone_on t f) (sym same)

-- ---- runs that have ended

inf-stays : (program : Loaded) (args : List (List ℕ)) (input : List ℕ) (zeroed : Bool) (k d n : ℕ) → d + k ≡ n → is_some (inf_run program args input zeroed k).ending ≡ true → inf_run program args input zeroed n ≡ inf_run program args input zeroed k
unfolding inf_run
inf-stays program args input zeroed k zero n same ended = let there : n ≡ k = omega (arith, same) in ap (inf_run program args input zeroed) there
inf-stays program args input zeroed k (suc d) n same ended =
    let before : inf_run program args input zeroed (d + k) ≡ inf_run program args input zeroed k = inf-stays program args input zeroed k d (d + k) refl ended in
    let there : n ≡ suc (d + k) = omega (arith, same) in
    ap (inf_run program args input zeroed) there
    ∙ ap (λ (r : InfRun). inf_step_of (inf_mapping program args) program.names zeroed input r r.ending) before
    ∙ stays (inf_run program args input zeroed k) (inf_run program args input zeroed k).ending ended
  where
    stays : (r : InfRun) (e : Option InfEnding) → is_some e ≡ true → inf_step_of (inf_mapping program args) program.names zeroed input r e ≡ r
    stays r (Some e) is = refl
    stays r None is = absurd (true≢false (sym is))

ended-too : (e : Ended) (address : ℕ) (i : Option InfEnding) → ended_as (Some e) ≡ ending_at address i → is_some i ≡ true
ended-too e address (Some i) is = refl
ended-too (Exited code) address None is = absurd (cc)
ended-too (Faulted kind pc at) address None is = absurd (cc)
ended-too (Roomed used wanted) address None is = absurd (cc)

-- ---- a group

module _ (laws : Laws) (program : Loaded) (args : List (List ℕ)) (settings : Settings) (input : List ℕ) (budget : ℕ) (clear : IsClearRun program args settings input budget) (seed-of : ℕ → ℕ) (first : ℕ) (others : List ℕ) where
  abbrev s0 : ℕ
  s0 = seed-of first

  abbrev flat-of : (s k : ℕ) → Flat
  flat-of s k = flat_run program args (seeded s settings) input k

  abbrev run-of : ℕ → InfRun
  run-of k = inf_run program args input settings.zero k

  abbrev FitsAt : ℕ → Bool → Type 0
  FitsAt k waits = Fits laws program args settings input budget clear s0 k waits

  abbrev one-of : (k : ℕ) (waits : Bool) (m i : ℕ) → Replica
  one-of k waits m i = rep laws program args settings input (seed-of i) k waits m

  abbrev all-of : (k : ℕ) (waits : Bool) (m : ℕ) → List Replica
  all-of k waits m = map (one-of k waits m) (first ∷ others)

  abbrev group-with : (rs : List Replica) (gates : ℕ) (out err : List ℕ) (over : Option GateAnswer) → Group
  group-with rs gates out err over = record { replicas = rs; budget = budget; tag = program.tag; table = settings.patches; gates = gates; out = out; err = err; retired = []; patched = []; over = over }

  -- all replicas have made k steps, and were compared after m of them
  abbrev group-at : (k : ℕ) (waits : Bool) (m gates : ℕ) → Group
  group-at k waits m gates = group-with (all-of k waits m) gates (flat-of s0 k).out (flat-of s0 k).err None

  record Stood (g : Group) : Type 0 where
    k : ℕ
    waits : Bool
    m : ℕ
    gates : ℕ
    fits : FitsAt k waits
    marked : m ≤ budget
    is : g ≡ group-at k waits m gates

  record Over (g : Group) : Type 0 where
    whole : StaysWhole program args settings input budget g
    over : is_some g.over ≡ true

  -- ---- what is printed

  prefixes-at : (k : ℕ) → k ≤ budget → IsPrefix (flat-of s0 k).out (run-of budget).out × IsPrefix (flat-of s0 k).err (run-of budget).err
  prefixes-at k less =
      subst (λ (f : Flat). IsPrefix f.out (run-of budget).out × IsPrefix f.err (run-of budget).err) (laws.unstopped program args (seeded s0 settings) input k)
      (laws.prefixes program args (seeded s0 settings) input budget k (for-seed laws program args settings input s0 budget clear) less)

  stays-whole : (k : ℕ) (waits : Bool) (m gates : ℕ) → FitsAt k waits → StaysWhole program args settings input budget (group-at k waits m gates)
  stays-whole k waits m gates fits = let printed = prefixes-at k fits.within in record { retired = refl; patched = refl; table = refl; prints = record { out = printed.0; err = printed.1 }; ends = tt }

  stood-whole : (g : Group) → Stood g → StaysWhole program args settings input budget g
  stood-whole g s = subst (StaysWhole program args settings input budget) (sym s.is) (stays-whole s.k s.waits s.m s.gates s.fits)

  -- ---- all come to the same

  module _ (k : ℕ) (waits : Bool) (m : ℕ) (fits : FitsAt k waits) (marked : m ≤ budget) where
    comes : (a : Arrival) → arrival budget (one-of k waits m first) ≡ Some a → (i : ℕ) → Comes budget a (one-of k waits m i)
    comes a is i = record { live = refl; comes = arrivals laws program args settings input budget clear s0 k waits m fits marked (seed-of i) s0 ∙ is }

    quiet : (i : ℕ) → has_signalled (one-of k waits m i) ≡ false
    quiet i =
        let there = clear-to laws program args settings input k budget fits.within clear in
        quiet-replica (one-of k waits m i) (laws.quiet program args (seeded (seed-of i) settings) input there.given there.limits k there.clear there.covered).signals

    record Found : Type 0 where
      found : Arrival
      is : arrival budget (one-of k waits m first) ≡ Some found

    find : missing_from budget 0 (all-of k waits m) ≡ None → Found
    find none = go (arrival budget (one-of k waits m first)) refl
      where
        go : (v : Option Arrival) → arrival budget (one-of k waits m first) ≡ v → Found
        go (Some a) is = record { found = a; is = is }
        go None is = absurd (true≢false (sym (none-missing budget (one-of k waits m first) (map (one-of k waits m) others) refl none) ∙ ap is_some is))

    -- what they come to prints what the run prints next
    shown-next : (a : Arrival) → arrival budget (one-of k waits m first) ≡ Some a → IsPrefix ((flat-of s0 k).out ++ shown_on 1 (Some a)) (run-of budget).out × IsPrefix ((flat-of s0 k).err ++ shown_on 2 (Some a)) (run-of budget).err
    unfolding flat_steps
    shown-next a is = go waits refl
      where
        none-shown : ((descriptor : ℕ) → shown_on descriptor (Some a) ≡ []) → IsPrefix ((flat-of s0 k).out ++ shown_on 1 (Some a)) (run-of budget).out × IsPrefix ((flat-of s0 k).err ++ shown_on 2 (Some a)) (run-of budget).err
        none-shown none =
            let printed = prefixes-at k fits.within in (
              subst (λ out. IsPrefix out (run-of budget).out) (sym (append-nil (flat-of s0 k).out) ∙ ap (λ xs. (flat-of s0 k).out ++ xs) (sym (none 1))) printed.0,
              subst (λ err. IsPrefix err (run-of budget).err) (sym (append-nil (flat-of s0 k).err) ∙ ap (λ xs. (flat-of s0 k).err ++ xs) (sym (none 2))) printed.1,
            )

        go : (w : Bool) → waits ≡ w → IsPrefix ((flat-of s0 k).out ++ shown_on 1 (Some a)) (run-of budget).out × IsPrefix ((flat-of s0 k).err ++ shown_on 2 (Some a)) (run-of budget).err
        go true w =
            let less = fits.more w in
            let printed = prefixes-at (suc k) (omega (arith, less)) in
            let writing : write_next (guest_next (flat-of s0 k).guest) ≡ Some a = sym (ap (λ b. arrival budget (one-of k b m first)) w) ∙ is in
            let shows : PrintsShown (flat-of s0 k) (flat-of s0 (suc k)) (write_next (guest_next (flat-of s0 k).guest)) = prints-shown input (flat-of s0 k) (guest_next (flat-of s0 k).guest) in (
              subst (λ out. IsPrefix out (run-of budget).out) (shows.out ∙ ap (λ v. (flat-of s0 k).out ++ shown_on 1 v) writing) printed.0,
              subst (λ err. IsPrefix err (run-of budget).err) (shows.err ∙ ap (λ v. (flat-of s0 k).err ++ shown_on 2 v) writing) printed.1,
            )
        go false w = clock-or-end (comes-to budget (one-of k waits m first) a w is)
          where
            clock-or-end : (at.Clock ≡ a) ⊎ IsOver budget (one-of k waits m first) a → IsPrefix ((flat-of s0 k).out ++ shown_on 1 (Some a)) (run-of budget).out × IsPrefix ((flat-of s0 k).err ++ shown_on 2 (Some a)) (run-of budget).err
            clock-or-end (inl clock) = none-shown (λ descriptor. subst (λ a. shown_on descriptor (Some a) ≡ []) clock refl)
            clock-or-end (inr over) = none-shown over.end.shown

    -- ---- the gate that they open

    -- the group after it
    abbrev after-gate : (gates : ℕ) (a : Arrival) (over : Option GateAnswer) → Group
    after-gate gates a over = group-with (map (passed budget a settings.patches) (all-of k waits m)) (counted_gates over gates) ((flat-of s0 k).out ++ shown_on 1 (Some a)) ((flat-of s0 k).err ++ shown_on 2 (Some a)) over

    opens : (gates : ℕ) (a : Arrival) → arrival budget (one-of k waits m first) ≡ Some a → (got : GateAnswer) (to : Group) → IsOpened (group-at k waits m gates) a got to → to ≡ after-gate gates a (end_at a (all-of k waits m))
    opens gates a is got to o =
        let g : Group = group-at k waits m gates in
        let win : winners budget a g.replicas ≡ g.replicas = all-winners budget a (one-of k waits m) (comes a is) (first ∷ others) in
        let none : any_signalled (winners budget a g.replicas) ≡ false = ap any_signalled win ∙ all-quiet (one-of k waits m) quiet (first ∷ others) in
        let cured : o.cured ≡ cured_in g = subst (λ b. CuresWhere b (g.gates + 1) (map (image_of g.tag) (winners budget a g.replicas)) (cured_in g) o.cured) none o.cures in
        o.is
        ∙ ap (opened g a) cured
        ∙ ap (λ (rs : List Replica). record (group-with (map (passed budget a settings.patches) g.replicas) (counted_gates (end_at a rs) gates) (g.out ++ shown_on 1 (Some a)) (g.err ++ shown_on 2 (Some a)) (end_at a rs)) { retired = [] ++ losers_from budget a (g.gates + 1) 0 g.replicas }) win
        ∙ ap (λ (lost : List Retired). record (after-gate gates a (end_at a g.replicas)) { retired = lost }) (no-losers budget a (one-of k waits m) (comes a is) (g.gates + 1) 0 (first ∷ others))

    patches-of : (s j : ℕ) → (flat-of s j).guest.rules.patches ≡ settings.patches
    patches-of s j = ap (λ (r : Rules). r.patches) (laws.rules program args (seeded s settings) input j).1

    -- what becomes of each
    passes : (a : Arrival) → arrival budget (one-of k waits m first) ≡ Some a → (i j : ℕ) → written (one-of k waits m i) ≡ flat-of (seed-of i) j → passed budget a settings.patches (one-of k waits m i) ≡ one-of j false j i
    passes a is i j made =
        ap (λ b. cond b (gone_on settings.patches (written (one-of k waits m i))) (record (one-of k waits m i) { live = false })) (comes-wins budget a (one-of k waits m i) (comes a is i))
        ∙ ap (gone_on settings.patches) made
        ∙ goes-on-alike settings.patches (flat-of (seed-of i) j) (patches-of (seed-of i) j)

    all-pass : (a : Arrival) → arrival budget (one-of k waits m first) ≡ Some a → (j : ℕ) → ((i : ℕ) → written (one-of k waits m i) ≡ flat-of (seed-of i) j) → map (passed budget a settings.patches) (all-of k waits m) ≡ all-of j false j
    all-pass a is j made = map-each (passed budget a settings.patches) (one-of k waits m) (one-of j false j) (λ i. passes a is i j (made i)) (first ∷ others)

    -- the group goes on from there
    goes-on : (gates : ℕ) (a : Arrival) → arrival budget (one-of k waits m first) ≡ Some a → (j : ℕ) → ((i : ℕ) → written (one-of k waits m i) ≡ flat-of (seed-of i) j) → j ≤ budget
        → (flat-of s0 k).out ++ shown_on 1 (Some a) ≡ (flat-of s0 j).out → (flat-of s0 k).err ++ shown_on 2 (Some a) ≡ (flat-of s0 j).err → end_at a (all-of k waits m) ≡ None
        → (to : Group) → to ≡ after-gate gates a (end_at a (all-of k waits m)) → Stood to
    goes-on gates a is j made within out err still to same = record {
      k = j;
      waits = false;
      m = j;
      gates = gates + 1;
      fits = record { within = within; more = λ w. absurd (true≢false (sym w)); writes = λ w. absurd (true≢false (sym w)) };
      marked = within;
      is =
          same ∙ ap (after-gate gates a) still
          ∙ ap (λ rs. group-with rs (gates + 1) ((flat-of s0 k).out ++ shown_on 1 (Some a)) ((flat-of s0 k).err ++ shown_on 2 (Some a)) None) (all-pass a is j made)
          ∙ ap (λ out. group-with (all-of j false j) (gates + 1) out ((flat-of s0 k).err ++ shown_on 2 (Some a)) None) out
          ∙ ap (λ err. group-with (all-of j false j) (gates + 1) (flat-of s0 j).out err None) err;
    }

    at-write : (gates : ℕ) (a : Arrival) → arrival budget (one-of k waits m first) ≡ Some a → waits ≡ true → (to : Group) → to ≡ after-gate gates a (end_at a (all-of k waits m)) → Stood to
    unfolding flat_steps
    at-write gates a is w to same =
        let less = fits.more w in
        let writing : (i : ℕ) → write_next (guest_next (flat-of (seed-of i) k).guest) ≡ Some a = λ i. sym (ap (λ b. arrival budget (one-of k b m i)) w) ∙ (comes a is i).comes in
        let shows : PrintsShown (flat-of s0 k) (flat-of s0 (suc k)) (write_next (guest_next (flat-of s0 k).guest)) = prints-shown input (flat-of s0 k) (guest_next (flat-of s0 k).guest) in
        goes-on gates a is (suc k)
        (λ i. ap (λ b. written (one-of k b m i)) w ∙ write-reads-nothing input (flat-of (seed-of i) k) (guest_next (flat-of (seed-of i) k).guest) (ap is_some (writing i)))
        (omega (arith, less))
        (sym (shows.out ∙ ap (λ v. (flat-of s0 k).out ++ shown_on 1 v) (writing first)))
        (sym (shows.err ∙ ap (λ v. (flat-of s0 k).err ++ shown_on 2 v) (writing first)))
        (write-ends-nothing (guest_next (flat-of s0 k).guest) a (all-of k waits m) (writing first)) to same

    none-written : waits ≡ false → (i : ℕ) → written (one-of k waits m i) ≡ flat-of (seed-of i) k
    none-written w i = ap (λ b. written (one-of k b m i)) w

    at-clock : (gates : ℕ) (a : Arrival) → arrival budget (one-of k waits m first) ≡ Some a → waits ≡ false → at.Clock ≡ a → (to : Group) → to ≡ after-gate gates a (end_at a (all-of k waits m)) → Stood to
    at-clock gates a is w clock to same =
        goes-on gates a is k (none-written w) fits.within
        (subst (λ a. (flat-of s0 k).out ++ shown_on 1 (Some a) ≡ (flat-of s0 k).out) clock (append-nil (flat-of s0 k).out))
        (subst (λ a. (flat-of s0 k).err ++ shown_on 2 (Some a) ≡ (flat-of s0 k).err) clock (append-nil (flat-of s0 k).err))
        (subst (λ a. end_at a (all-of k waits m) ≡ None) clock refl) to same

    -- ---- the gate at which they end

    -- the run on the infinite heap comes no further than this
    run-ends : (address : ℕ) → ended_as (flat-of s0 k).guest.core.ended ≡ ending_at address (run-of k).ending → (a : Arrival) → at_end budget (flat-of s0 k) (flat-of s0 k).guest.core.ended ≡ Some a → run-of budget ≡ run-of k
    run-ends address ends a there = go (flat-of s0 k).guest.core.ended refl
      where
        within : k ≤ budget
        within = fits.within

        go : (d : Option Ended) → (flat-of s0 k).guest.core.ended ≡ d → run-of budget ≡ run-of k
        go (Some e) is = inf-stays program args input settings.zero k (budget - k) budget (omega (arith, within)) (ended-too e address (run-of k).ending (ap ended_as (sym is) ∙ ends))
        go None is =
            let count : (flat-of s0 k).guest.core.steps ≡ k = steps-are laws program args settings input k (clear-to laws program args settings input k budget within clear) s0 is in
            let used : is_some (at_budget (nat_le budget k)) ≡ true = ap is_some (ap (λ n. at_budget (nat_le budget n)) (sym count) ∙ ap (at_end budget (flat-of s0 k)) (sym is) ∙ there) in
            let up : budget ≤ k = up-budget budget k (used-up (nat_le budget k) used) in
            let same : budget ≡ k = omega (arith, within, up) in
            ap run-of same
          where
            used-up : (b : Bool) → is_some (at_budget b) ≡ true → b ≡ true
            used-up true is = refl
            used-up false is = is

    ends-clear : (a : Arrival) → at_end budget (flat-of s0 k) (flat-of s0 k).guest.core.ended ≡ Some a → (g : Group) → g.out ≡ (flat-of s0 k).out → g.err ≡ (flat-of s0 k).err
        → EndsClear program args settings input budget g (Some (answer.Ended (ended_as (flat-of s0 k).guest.core.ended)))
    ends-clear a there g out err = go (laws.match program args (seeded s0 settings) input k (for-seed laws program args settings input s0 k (clear-to laws program args settings input k budget fits.within clear)))
      where
        go : run.EndsClear program args (seeded s0 settings) input k (flat-of s0 k) → EndsClear program args settings input budget g (Some (answer.Ended (ended_as (flat-of s0 k).guest.core.ended)))
        go (inl e) =
            let ends : ended_as (flat-of s0 k).guest.core.ended ≡ ending_at e.address (run-of k).ending = ap (λ (r : Ran). r.ending) e.comes.ran in
            let same : run-of budget ≡ run-of k = run-ends e.address ends a there in
            inl (record {
              prints = record { out = out ∙ e.comes.out ∙ ap (λ (r : InfRun). r.out) (sym same); err = err ∙ e.comes.err ∙ ap (λ (r : InfRun). r.err) (sym same) };
              address = e.address;
              ends = ends ∙ ap (λ (r : InfRun). ending_at e.address r.ending) (sym same);
            })
        go (inr e) = let within = fits.within in let made = e.within in inr (record {
          made = e.made;
          within = omega (arith, within, made);
          used = e.used;
          wanted = e.wanted;
          meets = e.meets;
          prints = record { out = out ∙ e.comes.out; err = err ∙ e.comes.err };
          ends = ap (λ (r : Ran). r.ending) e.comes.ran;
        })

    at-end : (gates : ℕ) (a : Arrival) → IsOver budget (one-of k waits m first) a → (to : Group) → to ≡ after-gate gates a (end_at a (all-of k waits m)) → Over to
    at-end gates a over to same =
        let ending : Option GateAnswer = Some (answer.Ended (ended_as (flat-of s0 k).guest.core.ended)) in
        let is : to ≡ after-gate gates a ending = same ∙ ap (after-gate gates a) (over.end.ends (one-of k waits m first) (map (one-of k waits m) others)) in
        let out : (flat-of s0 k).out ++ shown_on 1 (Some a) ≡ (flat-of s0 k).out = ap (λ xs. (flat-of s0 k).out ++ xs) (over.end.shown 1) ∙ append-nil (flat-of s0 k).out in
        let err : (flat-of s0 k).err ++ shown_on 2 (Some a) ≡ (flat-of s0 k).err = ap (λ xs. (flat-of s0 k).err ++ xs) (over.end.shown 2) ∙ append-nil (flat-of s0 k).err in
        let printed = prefixes-at k fits.within in
        subst Over (sym is) (record {
          whole = record {
            retired = refl;
            patched = refl;
            table = refl;
            prints = record { out = subst (λ xs. IsPrefix xs (run-of budget).out) (sym out) printed.0; err = subst (λ xs. IsPrefix xs (run-of budget).err) (sym err) printed.1 };
            ends = ends-clear a over.there (after-gate gates a ending) out err;
          };
          over = refl;
        })

    -- ---- either

    at-opened : (gates : ℕ) (a : Arrival) → arrival budget (one-of k waits m first) ≡ Some a → (got : GateAnswer) (to : Group) → IsOpened (group-at k waits m gates) a got to → Stood to ⊎ Over to
    at-opened gates a is got to o = go waits refl
      where
        same : to ≡ after-gate gates a (end_at a (all-of k waits m))
        same = opens gates a is got to o

        go : (w : Bool) → waits ≡ w → Stood to ⊎ Over to
        go true w = inl (at-write gates a is w to same)
        go false w = clock-or-end (comes-to budget (one-of k waits m first) a w is)
          where
            clock-or-end : (at.Clock ≡ a) ⊎ IsOver budget (one-of k waits m first) a → Stood to ⊎ Over to
            clock-or-end (inl clock) = inl (at-clock gates a is w clock to same)
            clock-or-end (inr over) = inr (at-end gates a over to same)

    all-won : (gates : ℕ) (a : Arrival) → arrival budget (one-of k waits m first) ≡ Some a → won (group-at k waits m gates) ≡ Some a
    all-won gates a is = all-win budget a (one-of k waits m) (comes a is) first others

    at-one-gate : (gates : ℕ) (got : GateAnswer) (to : Group) → Gates (group-at k waits m gates) got to → Stood to ⊎ Over to
    at-one-gate gates got to gate = go (missing_from budget 0 (all-of k waits m)) refl gate
      where
        go : (missing : Option ℕ) → missing_from budget 0 (all-of k waits m) ≡ missing → WaitsOrDecides missing (group-at k waits m gates) got to → Stood to ⊎ Over to
        go (Some i) is there = inl (record { k = k; waits = waits; m = m; gates = gates; fits = fits; marked = marked; is = there.1 })
        go None is there =
            let found : Found = find is in
            at-opened gates found.found found.is got to (subst (λ v. DecidesBy v (group-at k waits m gates) got to) (all-won gates found.found found.is) there)

    -- what it prints goes on in the run's bytes
    abbrev Prints : Option ℕ → Option Arrival → Type 0
    Prints missing v = IsPrefix ((flat-of s0 k).out ++ prints_where 1 None missing v) (run-of budget).out × IsPrefix ((flat-of s0 k).err ++ prints_where 2 None missing v) (run-of budget).err

    prints-next : (gates : ℕ) → IsPrefix ((flat-of s0 k).out ++ printed_at_gate 1 (group-at k waits m gates)) (run-of budget).out × IsPrefix ((flat-of s0 k).err ++ printed_at_gate 2 (group-at k waits m gates)) (run-of budget).err
    prints-next gates = go (missing_from budget 0 (all-of k waits m)) refl
      where
        go : (missing : Option ℕ) → missing_from budget 0 (all-of k waits m) ≡ missing → Prints (missing_from budget 0 (all-of k waits m)) (won (group-at k waits m gates))
        go (Some i) is =
            let printed = prefixes-at k fits.within in
            subst (λ missing. Prints missing (won (group-at k waits m gates))) (sym is)
            (subst (λ out. IsPrefix out (run-of budget).out) (sym (append-nil (flat-of s0 k).out)) printed.0, subst (λ err. IsPrefix err (run-of budget).err) (sym (append-nil (flat-of s0 k).err)) printed.1)
        go None is =
            let found : Found = find is in
            subst (λ missing. Prints missing (won (group-at k waits m gates))) (sym is) (subst (Prints None) (sym (all-won gates found.found found.is)) (shown-next found.found found.is))

  -- ---- rounds

  abbrev Gathers : (k : ℕ) (waits : Bool) (m : ℕ) → Type 0
  Gathers k waits m = Moves laws program args settings input budget clear s0 k waits m (onward input budget (suc budget))

  gathers : (k : ℕ) (waits : Bool) (m gates : ℕ) (moves : Gathers k waits m) → gathered input (group-at k waits m gates) ≡ group-at moves.to moves.then-waits m gates
  gathers k waits m gates moves =
      ap (λ rs. group-with rs gates (flat-of s0 k).out (flat-of s0 k).err None) (map-each (moved input budget (suc budget)) (one-of k waits m) (one-of moves.to moves.then-waits m) (λ i. moves.moved (seed-of i)) (first ∷ others))
      ∙ ap (λ out. group-with (all-of moves.to moves.then-waits m) gates out (flat-of s0 k).err None) (sym moves.quiet.out)
      ∙ ap (λ err. group-with (all-of moves.to moves.then-waits m) gates (flat-of s0 moves.to).out err None) (sym moves.quiet.err)

  gather : (g : Group) (s : Stood g) → Gathers s.k s.waits s.m
  gather g s = onward-moves laws program args settings input budget clear s0 (suc budget) s.k s.waits s.m s.fits s.marked

  round-on : (from to : Group) → Stood from → IsRound input from to → Stood to ⊎ Over to
  round-on from to s round =
      let moves : Gathers s.k s.waits s.m = gather from s in
      let same : gathered input from ≡ group-at moves.to moves.then-waits s.m s.gates = ap (gathered input) s.is ∙ gathers s.k s.waits s.m s.gates moves in
      at-one-gate moves.to moves.then-waits s.m moves.fits s.marked s.gates round.got to (subst (λ g. Gates g round.got to) same round.gate)

  rounds-on : (start : Group) → start ≡ group-at 0 false 0 0 → (n : ℕ) (g : Group) → Rounds input start n g → Stood g ⊎ Over g
  unfolding Rounds
  rounds-on start begins zero g is =
      inl (record { k = 0; waits = false; m = 0; gates = 0; fits = record { within = omega arith; more = λ w. absurd (true≢false (sym w)); writes = λ w. absurd (true≢false (sym w)) }; marked = omega arith; is = is ∙ begins })
  rounds-on start begins (suc n) g after = go (rounds-on start begins n after.from after.reached)
    where
      go : Stood after.from ⊎ Over after.from → Stood g ⊎ Over g
      go (inl s) = round-on after.from g s after.round
      go (inr o) = absurd (true≢false (sym o.over ∙ ap is_some after.round.going))

  -- ---- what follows of a group

  abbrev PrintsOn : Group → Type 0
  PrintsOn g = IsPrefix (g.out ++ printed_at_gate 1 (gathered input g)) (run-of budget).out × IsPrefix (g.err ++ printed_at_gate 2 (gathered input g)) (run-of budget).err

  is-whole : (g : Group) → Stood g ⊎ Over g → StaysWhole program args settings input budget g
  is-whole g (inl s) = stood-whole g s
  is-whole g (inr o) = o.whole

  abbrev PrintsBy : Group → Option GateAnswer → Type 0
  PrintsBy g over =
      IsPrefix (g.out ++ prints_where 1 over (missing_from g.budget 0 (gathered input g).replicas) (won (gathered input g))) (run-of budget).out
      × IsPrefix (g.err ++ prints_where 2 over (missing_from g.budget 0 (gathered input g).replicas) (won (gathered input g))) (run-of budget).err

  prints-on : (g : Group) → Stood g ⊎ Over g → PrintsOn g
  prints-on g (inl s) =
      let moves : Gathers s.k s.waits s.m = gather g s in
      let same : gathered input g ≡ group-at moves.to moves.then-waits s.m s.gates = ap (gathered input) s.is ∙ gathers s.k s.waits s.m s.gates moves in
      let next = prints-next moves.to moves.then-waits s.m moves.fits s.marked s.gates in (
        subst (λ out. IsPrefix (out ++ printed_at_gate 1 (gathered input g)) (run-of budget).out) (moves.quiet.out ∙ sym (ap (λ (h : Group). h.out) s.is))
            (subst (λ h. IsPrefix ((flat-of s0 moves.to).out ++ printed_at_gate 1 h) (run-of budget).out) (sym same) next.0),
        subst (λ err. IsPrefix (err ++ printed_at_gate 2 (gathered input g)) (run-of budget).err) (moves.quiet.err ∙ sym (ap (λ (h : Group). h.err) s.is))
            (subst (λ h. IsPrefix ((flat-of s0 moves.to).err ++ printed_at_gate 2 h) (run-of budget).err) (sym same) next.1),
      )
  prints-on g (inr o) = go g.over refl o.over
    where
      go : (over : Option GateAnswer) → g.over ≡ over → is_some g.over ≡ true → PrintsBy g g.over
      go (Some over) is some = subst (PrintsBy g) (sym is) (subst (λ out. IsPrefix out (run-of budget).out) (sym (append-nil g.out)) o.whole.prints.out, subst (λ err. IsPrefix err (run-of budget).err) (sym (append-nil g.err)) o.whole.prints.err)
      go None is some = absurd (true≢false (sym some ∙ ap is_some is))

-- ---- the laws

module _ (laws : Laws) (program : Loaded) (args : List (List ℕ)) (settings : Settings) (input : List ℕ) (budget : ℕ) (clear : IsClearRun program args settings input budget) where
  begins : (count : ℕ) → started program args settings budget (suc count) ≡ group-at laws program args settings input budget clear (seed_behind settings.seed) 0 (range_with_len 1 count) 0 false 0 0
  unfolding flat_steps
  begins count = refl

  both-laws : (count n : ℕ) (g : Group) → 0 < count → Rounds input (started program args settings budget count) n g
      → StaysWhole program args settings input budget g × IsPrefix (g.out ++ printed_at_gate 1 (gathered input g)) (inf_run program args input settings.zero budget).out × IsPrefix (g.err ++ printed_at_gate 2 (gathered input g)) (inf_run program args input settings.zero budget).err
  both-laws zero n g some rounds = absurd (omega (arith, some))
  both-laws (suc count) n g some rounds =
      let seeds : ℕ → ℕ = seed_behind settings.seed in
      let others : List ℕ = range_with_len 1 count in
      let on = rounds-on laws program args settings input budget clear seeds 0 others (started program args settings budget (suc count)) (begins count) n g rounds in
      let printed = prints-on laws program args settings input budget clear seeds 0 others g on in
      (is-whole laws program args settings input budget clear seeds 0 others g on, printed.0, printed.1)

pub clear_rounds_stay_whole : Laws → ClearRoundsStayWhole
clear_rounds_stay_whole laws program args settings input budget count some clear n g rounds = both-laws laws program args settings input budget clear count n g some rounds

-- steps that were given since change nothing of it
module _ (program : Loaded) (args : List (List ℕ)) (settings : Settings) (input : List ℕ) (budget : ℕ) (g : Group) (rs : List Replica) where
  ends-ahead : (over : Option GateAnswer) → EndsClear program args settings input budget g over → EndsClear program args settings input budget (record g { replicas = rs }) over
  ends-ahead None e = tt
  ends-ahead (Some (answer.Ended ending)) (inl e) = inl (record { prints = record { out = e.prints.out; err = e.prints.err }; address = e.address; ends = e.ends })
  ends-ahead (Some (answer.Ended ending)) (inr e) =
      inr (record { made = e.made; within = e.within; used = e.used; wanted = e.wanted; meets = e.meets; prints = record { out = e.prints.out; err = e.prints.err }; ends = e.ends })
  ends-ahead (Some answer.Passed) e = absurd e
  ends-ahead (Some (answer.Waiting i)) e = absurd e
  ends-ahead (Some (answer.Lost largest live)) e = absurd e

  whole-ahead : (b : Bool) → StaysWhole program args settings input budget g → StaysWhole program args settings input budget (cond b g (record g { replicas = rs }))
  whole-ahead true w = w
  whole-ahead false w = record { retired = w.retired; patched = w.patched; table = w.table; prints = record { out = w.prints.out; err = w.prints.err }; ends = ends-ahead g.over w.ends }

pub clear_groups_stay_whole : ClearRoundsStayWhole → SchedulesAreRounds → StartedWaitForWrites → ClearGroupsStayWhole
clear_groups_stay_whole whole schedules wait program args settings input budget count some clear schedule c follows =
    let there = schedules input (started program args settings budget count) schedule c (wait program args settings budget count) follows in
    subst (StaysWhole program args settings input budget) (sym there.ahead)
    (whole-ahead program args settings input budget there.base (each_ahead input there.base.budget c.given 0 there.base.replicas) (is_some there.base.over) (whole program args settings input budget count some clear c.rounds there.base there.rounds).0)
