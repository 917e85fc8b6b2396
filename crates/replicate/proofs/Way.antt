-- A group on its way: what turns and gates make of it, and where it stops.
use Rattle.std.proofs.Common.{◌≡◌, ◌≢◌, ◌<◌, ◌≤◌, inl, inr, ℕ, zero, suc, ◌+◌, ◌-◌, max, Bool, false, true, cond, List, [], ◌∷◌, ◌++◌, drop, length, map, Option, None, Some, is_some, Result, Ok, Err, IfSome, OnOk, refl, sym, ◌∙◌, ap, subst, append_assoc, arith}
use Rattle.std.proofs.lemmas.Bool.{true≢false}
use Rattle.std.proofs.lemmas.List.{append-nil, length-drop, length-take}
use Rattle.std.specs.List.{AllByRecursion}
use Rattle.std.specs.Io.KnownBytes.{Appends}
use Rattle.ex_io.specs.Causes.{AppendsFront, IsPrefix}
use Rattle.ex_io.specs.Tape.{HasAnswered, Track, begins, most_kept}
use Rattle.ex_io.specs.Tape as tape
use Rattle.infinite_heap.specs.InfiniteSystem.{taken}
use Rattle.rv_machine.specs.Core.{Goes, Faults, Reads, Prints, Exits, Stays}
use Rattle.rv_machine.specs.Guest.{Guest}
use Rattle.rv_machine.specs.HeapCalls.{GuestNext, Carries, Returns, Lacks, guest_next}
use Rattle.rv_machine.specs.Shape.{IsGuestShaped}
use Rattle.layout_run.specs.Advances.{CutsInput, TellsInput}
use Rattle.layout_run.specs.Runs.{CutsRun, RefusesInput}
use Rattle.layout_run.specs.Outside.{Faults as FaultCounts, Held}
use Rattle.layout_run.specs.declared.ran.RunRefusal.{RunRefusal}
use Rattle.layout_run.specs.declared.ran.RunRefusal.TheVariants as why
use Rattle.layout_run.specs.declared.step.Progress.{Progress}
use Rattle.layout_run.specs.declared.step.Progress.TheVariants as progress
use Rattle.replicate.proofs.Ahead.{ahead-going, ahead-gathered, ahead-none, all-moved, decided-awaits, gathered-ahead, moved-awaits, moved-live, turned-ahead}
use Rattle.replicate.proofs.Arriving.{comes-within}
use Rattle.replicate.proofs.Ending.{Order, gate-reads, moved-reads, onward-reads, order}
use Rattle.replicate.proofs.Gating.{rounds-begin, rounds-more}
use Rattle.replicate.proofs.Onward.{attempts, onward-both, onward-suc, onward-there}
use Rattle.replicate.specs.Counted.{StepsAreCounted}
use Rattle.replicate.specs.Gates.{DecidesBy, Gates, GatesFrom, WaitsOrDecides, missing_from, printed_at_gate, prints_where, won}
use Rattle.replicate.specs.GroupStands.{CutsGate, IsGroup, MayFailAt, PrintsAt}
use Rattle.replicate.specs.Groups.{Group, moved, turned, with_changed}
use Rattle.replicate.specs.Limits.{MeetsLimitAt, PassesKept}
use Rattle.replicate.specs.Replicas.{Replica, attempted, has_arrived, onward, write_next}
use Rattle.replicate.specs.Rounds.{Rounds, WaitForWrites, WaitsForWrite, ahead, each_ahead, gathered, no_steps, with_steps}
use Rattle.replicate.specs.Runs.{Comes, CutsWay, IsCutShort, IsOnWay, IsRun, IsStopped, PrintsBetween, RunsAs, furthest, furthest_of}
use Rattle.replicate.specs.Seats.{IsSeat, StandsAs}
use Rattle.replicate.specs.Standings.{AreKept, IsAnswered, IsSameInput, SeatsAre, place_at}
use Rattle.replicate.specs.declared.answer.GateAnswer.{GateAnswer}
use Rattle.replicate.specs.declared.arrival.Arrival.{Arrival}
use Rattle.replicate.specs.declared.group.Group as code
use Rattle.replicate.specs.declared.seat.Seat.{Seat}
use Rattle.rv_machine.specs.declared.machine.Machine.{Machine}

-- ---- places

place-by : (state : Option Progress) (r : Replica) (machine : Machine) (place : ℕ) → StandsAs r state machine place → place ≡ r.flat.place
place-by None r machine place stands = absurd stands
place-by (Some progress.Going) r machine place stands = stands.3
place-by (Some (progress.Prints fd address len)) r machine place stands = stands.1.place
place-by (Some (progress.Ended ending)) r machine place stands = stands.3

seat-place : (r : Replica) (seat : Seat) → IsSeat r seat → seat.place ≡ r.flat.place
seat-place r seat is = place-by seat.state r seat.machine seat.place is.stands

-- the place of replica i
abbrev place_in : ℕ → List Replica → ℕ
place_in i [] = 0
place_in zero (r ∷ rs) = r.flat.place
place_in (suc i) (r ∷ rs) = place_in i rs

places-are : (budget i : ℕ) (rs : List Replica) (seats : List Seat) → SeatsAre budget rs seats → place_at i seats ≡ place_in i rs
places-are budget i [] [] so = refl
places-are budget i [] (s ∷ ss) so = absurd so
places-are budget i (r ∷ rs) [] so = absurd so
places-are budget zero (r ∷ rs) (s ∷ ss) so = seat-place r s so.0
places-are budget (suc i) (r ∷ rs) (s ∷ ss) so = places-are budget i rs ss so.2

-- no replica is past what the tape has answered
all-within : (budget : ℕ) (rs : List Replica) (seats : List Seat) (track : Track) → SeatsAre budget rs seats → AllByRecursion (IsAnswered track) seats → furthest_of rs ≤ track.high
all-within budget [] [] track so known = omega arith
all-within budget [] (s ∷ ss) track so known = absurd so
all-within budget (r ∷ rs) [] track so known = absurd so
all-within budget (r ∷ rs) (s ∷ ss) track so known =
    let here = seat-place r s so.0 in
    let rest = all-within budget rs ss track so.2 known.1 in
    let this = known.0 in
    omega (arith, here, rest, this)

same-count : (budget : ℕ) (rs : List Replica) (seats : List Seat) → SeatsAre budget rs seats → length rs ≡ length seats
same-count budget [] [] so = refl
same-count budget [] (s ∷ ss) so = absurd so
same-count budget (r ∷ rs) [] so = absurd so
same-count budget (r ∷ rs) (s ∷ ss) so = ap (λ n. suc n) (same-count budget rs ss so.2)

-- the one that has moved is the only one that has read on
furthest-changed : (input : List ℕ) (budget n i : ℕ) (rs : List Replica) → i < length rs → furthest_of (with_changed (moved input budget n) i rs) ≡ max (furthest_of rs) (place_in i (with_changed (moved input budget n) i rs))
furthest-changed input budget n i [] within = absurd (omega (arith, within))
furthest-changed input budget n zero (r ∷ rs) within =
    let rises = (moved-reads input budget n r).rises in
    omega (arith, rises)
furthest-changed input budget n (suc i) (r ∷ rs) within =
    let rest = furthest-changed input budget n i rs (omega (arith, within)) in
    omega (arith, rest)

-- a gate reads nothing
zeros : ℕ → List ℕ
zeros zero = []
zeros (suc n) = 0 ∷ zeros n

length-zeros : (n : ℕ) → length (zeros n) ≡ n
unfolding zeros
length-zeros zero = refl
length-zeros (suc n) = ap (λ m. suc m) (length-zeros n)

pub gate-places : (g : Group) (got : GateAnswer) (to : Group) → Gates g got to → furthest to ≡ furthest g
gate-places g got to gate =
    let all = zeros (furthest g) in
    let count = length-zeros (furthest g) in
    let reads = gate-reads all g.over g got to gate in
    let rises = reads.rises in
    let inside = reads.inside (omega (arith, count)) in
    omega (arith, rises, inside, count)

-- ---- a turn

module _ (input : List ℕ) (start : Group) (first old new : Track) (before after : Held) (group group' : code.Group) (i n : ℕ) (way : IsOnWay input start group first old before after) where
  abbrev present : Group
  present = ahead input way.given way.base

  going-present : present.over ≡ None
  going-present = ap (λ (g : Group). g.over) (ahead-going input way.given way.base way.going) ∙ way.going

  pub going-code : group.over ≡ None
  going-code = way.stands.over ∙ going-present

  turned-present : turned input i n present ≡ ahead input (with_steps i n way.given) way.base
  turned-present = turned-ahead input i n way.given way.base

  turned-lists : (turned input i n present).replicas ≡ with_changed (moved input present.budget n) i present.replicas
  turned-lists = ap (λ o. (cond (is_some o) present (record present { replicas = with_changed (moved input present.budget n) i present.replicas })).replicas) going-present

  pub turns-on : i < length group.seats.items → IsGroup (turned input i n present) group' → AreKept new group'.seats.items → HasAnswered (length new.kept) new.high new.keep new.refused → new.high ≡ max old.high (place_at i group'.seats.items)
      → IsOnWay input start group' first new before after
  turns-on within stands kept answered high =
      let stands' : IsGroup (ahead input (with_steps i n way.given) way.base) group' = subst (λ (g : Group). IsGroup g group') turned-present stands in
      let next = ahead input (with_steps i n way.given) way.base in
      let answered' : HasAnswered (length new.kept) new.high true false = rw (kept.keep, kept.going) at answered in
      let below = all-within next.budget next.replicas group'.seats.items new stands'.seats kept.known in
      let most = answered'.1 in
      let place = places-are (turned input i n present).budget i (turned input i n present).replicas group'.seats.items stands.seats in
      let same-list : furthest (turned input i n present) ≡ furthest next = ap furthest turned-present in
      let count = same-count present.budget present.replicas group.seats.items way.stands.seats in
      let moves : furthest_of (with_changed (moved input present.budget n) i present.replicas) ≡ max (furthest present) (place_in i (with_changed (moved input present.budget n) i present.replicas)) = furthest-changed input present.budget n i present.replicas (omega (arith, count, within)) in
      let there : furthest (turned input i n present) ≡ max (furthest present) (place_in i (turned input i n present).replicas) = subst (λ rs. furthest_of rs ≡ max (furthest present) (place_in i rs)) (sym turned-lists) moves in
      let so-far = way.high in
      record {
        rounds = way.rounds;
        base = way.base;
        given = with_steps i n way.given;
        are = way.are;
        going = way.going;
        sound = way.sound;
        stands = stands';
        within = omega (arith, below, most);
        high = omega (arith, high, place, same-list, there, so-far);
        prints = way.prints;
      }

-- ---- where the input is refused

from-reads : (input : List ℕ) (place len : ℕ) → place ≤ most_kept → most_kept < place + len → most_kept < length input → most_kept < place + length (taken input place len)
from-reads input place len within past long = omega (arith, within, past, long, length-take {A = ℕ} len (drop place input), length-drop {A = ℕ} place input)

passes-step : (input : List ℕ) (s : Replica) (n : GuestNext) → PassesKept n input s.flat.place → most_kept < (attempted input s n).flat.place
passes-step input s (Carries (Reads address len)) (within, past, long) = from-reads input s.flat.place len within past long
passes-step input s (Carries (Goes core)) past = absurd past
passes-step input s (Carries (Faults kind a)) past = absurd past
passes-step input s (Carries (Prints fd a l bytes core)) past = absurd past
passes-step input s (Carries (Exits code core)) past = absurd past
passes-step input s (Carries (Stays ended)) past = absurd past
passes-step input s (Returns to) past = absurd past
passes-step input s (Lacks used wanted to) past = absurd past

module _ (counted : StepsAreCounted) (shaped : (g : Guest) → IsGuestShaped g (guest_next g)) where
  passes-on : (input : List ℕ) (budget made : ℕ) (r : Replica) → WaitsForWrite r → has_arrived budget (onward input budget made r) ≡ false → PassesKept (guest_next (onward input budget made r).flat.guest) input (onward input budget made r).flat.place
      → most_kept < (onward input budget (suc budget) r).flat.place
  passes-on input budget made r sound open-still past = go (order (suc made) (suc budget))
    where
      at-read : Replica
      at-read = onward input budget made r

      step : onward input budget (suc made) r ≡ attempted input at-read (guest_next at-read.flat.guest)
      step = onward-suc input budget made r ∙ attempts input budget at-read open-still

      far : most_kept < (onward input budget (suc made) r).flat.place
      far = subst (λ (s : Replica). most_kept < s.flat.place) (sym step) (passes-step input at-read (guest_next at-read.flat.guest) past)

      later : (k : ℕ) → most_kept < (onward input budget (suc made + k) r).flat.place
      later k =
          let rises = (onward-reads input budget k (onward input budget (suc made) r)).rises in
          subst (λ (s : Replica). most_kept < s.flat.place) (sym (onward-both input budget (suc made) k r)) (omega (arith, far, rises))

      go : Order (suc made) (suc budget) → most_kept < (onward input budget (suc budget) r).flat.place
      go (inl less) =
          let same : suc made + (suc budget - suc made) ≡ suc budget = omega (arith, less) in
          subst (λ k. most_kept < (onward input budget k r).flat.place) same (later (suc budget - suc made))
      go (inr (inl same)) = subst (λ k. most_kept < (onward input budget k r).flat.place) same far
      go (inr (inr more)) =
          let there = comes-within counted shaped input budget r sound in
          let same : suc budget + (made - suc budget) ≡ made = omega (arith, more) in
          let stays : onward input budget made r ≡ onward input budget (suc budget) r = ap (λ k. onward input budget k r) (sym same) ∙ onward-both input budget (suc budget) (made - suc budget) r ∙ onward-there input budget (made - suc budget) (onward input budget (suc budget) r) there in
          absurd (true≢false (sym there ∙ ap (has_arrived budget) (sym stays) ∙ open-still))

  meets-far : (input : List ℕ) (budget n i : ℕ) (rs : List Replica) → AllByRecursion WaitsForWrite rs → MeetsLimitAt input budget n i rs → most_kept < furthest_of (map (moved input budget (suc budget)) rs)
  meets-far input budget n i [] sound meets = absurd meets
  meets-far input budget n zero (r ∷ rs) sound (live, meets) =
      let far = passes-on input budget meets.made r sound.0 meets.before meets.past in
      let same = ap (λ (s : Replica). s.flat.place) (moved-live input budget (suc budget) r live) in
      omega (arith, far, same)
  meets-far input budget n (suc i) (r ∷ rs) sound meets =
      let rest = meets-far input budget n i rs sound.1 meets in
      omega (arith, rest)

  -- ---- on the way

  each-awaits : (input : List ℕ) (budget : ℕ) (given : ℕ → ℕ) (k : ℕ) (rs : List Replica) → AllByRecursion WaitsForWrite rs → AllByRecursion WaitsForWrite (each_ahead input budget given k rs)
  each-awaits input budget given k [] sound = tt
  each-awaits input budget given k (r ∷ rs) sound = (moved-awaits input budget (given k) r sound.0, each-awaits input budget given (k + 1) rs sound.1)

  each-further : (input : List ℕ) (budget : ℕ) (given : ℕ → ℕ) (k : ℕ) (rs : List Replica) → furthest_of rs ≤ furthest_of (each_ahead input budget given k rs)
  each-further input budget given k [] = omega arith
  each-further input budget given k (r ∷ rs) =
      let here = (moved-reads input budget (given k) r).rises in
      let rest = each-further input budget given (k + 1) rs in
      omega (arith, here, rest)

  module _ (input : List ℕ) (start : Group) (first old : Track) (before after : Held) (group : code.Group) (way : IsOnWay input start group first old before after) where
    abbrev now : Group
    now = ahead input way.given way.base

    now-is : now ≡ record way.base { replicas = each_ahead input way.base.budget way.given 0 way.base.replicas }
    now-is = ahead-going input way.given way.base way.going

    now-over : now.over ≡ None
    now-over = ap (λ (g : Group). g.over) now-is ∙ way.going

    now-gathered : gathered input now ≡ gathered input way.base
    now-gathered = gathered-ahead counted shaped input way.given way.base way.going way.sound

    now-sound : WaitForWrites now
    now-sound = subst (λ (g : Group). WaitForWrites g) (sym now-is) (each-awaits input way.base.budget way.given 0 way.base.replicas way.sound)

    base-within : furthest way.base ≤ most_kept
    base-within =
        let more = each-further input way.base.budget way.given 0 way.base.replicas in
        let same : furthest now ≡ furthest_of (each_ahead input way.base.budget way.given 0 way.base.replicas) = ap furthest now-is in
        let within = way.within in
        omega (arith, more, same, within)

    pub stops-here : (n i : ℕ) → MeetsLimitAt input now.budget n i now.replicas → IsStopped input start before after
    stops-here n i meets =
        let far : most_kept < furthest (gathered input now) = meets-far input now.budget n i now.replicas now-sound meets in
        let same = ap furthest now-gathered in
        record {
          at = way.base;
          limit = record { rounds = way.rounds; are = way.are; going = way.going; within = base-within; past = λ short. absurd (omega (arith, far, same, short)) };
          prints = way.prints;
        }

    -- nothing more was printed
    pub cut-here : (refused : RunRefusal) → ((out err : List ℕ) → MayFailAt refused out err) → IsCutShort input start refused before after
    cut-here refused may = record {
      rounds = way.rounds;
      at = way.base;
      are = way.are;
      out = way.prints.out ++ printed_at_gate 1 (gathered input way.base);
      are_out = ap (λ x. x ++ printed_at_gate 1 (gathered input way.base)) way.prints.are_out ∙ append_assoc start.out way.prints.out (printed_at_gate 1 (gathered input way.base));
      on_out = (way.prints.out, (printed_at_gate 1 (gathered input way.base), refl), way.prints.on_out);
      err = way.prints.err ++ printed_at_gate 2 (gathered input way.base);
      are_err = ap (λ x. x ++ printed_at_gate 2 (gathered input way.base)) way.prints.are_err ∙ append_assoc start.err way.prints.err (printed_at_gate 2 (gathered input way.base));
      on_err = (way.prints.err, (printed_at_gate 2 (gathered input way.base), refl), way.prints.on_err);
      may = may (way.prints.out ++ printed_at_gate 1 (gathered input way.base)) (way.prints.err ++ printed_at_gate 2 (gathered input way.base));
    }

    pub turn-cut : (refused : RunRefusal) (n i : ℕ) (there : Type 0) (faults faults' : ℕ) → (there → MeetsLimitAt input now.budget n i now.replicas) → RefusesInput {T = Bool} (Err refused) old there → CutsInput {T = Bool} (Err refused) faults faults' → CutsWay input start refused before after
    turn-cut why.Input n i there faults faults' meets limit cause = stops-here n i (meets limit.1)
    turn-cut why.Memory n i there faults faults' meets limit cause = cut-here why.Memory (λ out err. tt)
    turn-cut why.Source n i there faults faults' meets limit cause = cut-here why.Source (λ out err. tt)
    turn-cut why.Out n i there faults faults' meets limit cause = absurd cause
    turn-cut why.Err n i there faults faults' meets limit cause = absurd cause

-- ---- the input

pub tells-on : (input : List ℕ) (old new : Track) (left left' : Option (List ℕ)) → old.keep ≡ true → new.keep ≡ true → IsSameInput old new left left' → TellsInput input old left → TellsInput input new left'
tells-on input old new left left' keep keep' same tells =
    let a : begins old ≡ 0 = ap (λ b. cond b 0 old.high) keep in
    let b : begins new ≡ 0 = ap (λ b. cond b 0 new.high) keep' in
    let there : tape.input old left ≡ Some input = tells ∙ ap (λ n. Some (drop n input)) a in
    let here : tape.input new left' ≡ Some input = subst (λ (o : Option (List ℕ)). IfSome o (λ bytes. tape.input new left' ≡ Some bytes)) there same in
    here ∙ ap (λ n. Some (drop n input)) (sym b)

pub same-both : (a b c : Track) (left left' left'' : Option (List ℕ)) → IsSameInput a b left left' → IsSameInput b c left' left'' → IsSameInput a c left left''
same-both a b c left left' left'' one two = go (tape.input a left) one
  where
    go : (o : Option (List ℕ)) → IfSome o (λ bytes. tape.input b left' ≡ Some bytes) → IfSome o (λ bytes. tape.input c left'' ≡ Some bytes)
    go None is = tt
    go (Some bytes) is = subst (λ (o : Option (List ℕ)). IfSome o (λ bytes. tape.input c left'' ≡ Some bytes)) is two

appends-both : (old mid new : Option (List ℕ)) (xs ys : List ℕ) → Appends old mid xs → Appends mid new ys → Appends old new (xs ++ ys)
appends-both None mid new xs ys one two = tt
appends-both (Some old) None new xs ys one two = absurd one
appends-both (Some old) (Some mid) None xs ys one two = absurd two
appends-both (Some old) (Some mid) (Some new) xs ys one two = two ∙ ap (λ m. m ++ ys) one ∙ append_assoc old xs ys

-- ---- a gate

gate-out : (p : Group) (got : GateAnswer) (to : Group) → p.over ≡ None → Gates p got to → (to.out ≡ p.out ++ printed_at_gate 1 p) × (to.err ≡ p.err ++ printed_at_gate 2 p)
gate-out p got to over gate = by-missing (missing_from p.budget 0 p.replicas) refl (subst (λ o. GatesFrom o p got to) over gate)
  where
    shown : (missing : Option ℕ) (vote : Option Arrival) → missing_from p.budget 0 p.replicas ≡ missing → won p ≡ vote → (to.out ≡ p.out ++ prints_where 1 None missing vote) × (to.err ≡ p.err ++ prints_where 2 None missing vote) → (to.out ≡ p.out ++ printed_at_gate 1 p) × (to.err ≡ p.err ++ printed_at_gate 2 p)
    shown missing vote is wins so =
        let all : (d : ℕ) → prints_where d None missing vote ≡ printed_at_gate d p = λ d. ap (λ o. prints_where d o missing vote) (sym over) ∙ ap (λ m. prints_where d p.over m vote) (sym is) ∙ ap (λ v. prints_where d p.over (missing_from p.budget 0 p.replicas) v) (sym wins) in
        (so.0 ∙ ap (λ x. p.out ++ x) (all 1), so.1 ∙ ap (λ x. p.err ++ x) (all 2))

    by-vote : (vote : Option Arrival) → won p ≡ vote → missing_from p.budget 0 p.replicas ≡ None → DecidesBy vote p got to → (to.out ≡ p.out ++ printed_at_gate 1 p) × (to.err ≡ p.err ++ printed_at_gate 2 p)
    by-vote None wins none decides = shown None None none wins (ap (λ (g : Group). g.out) decides.1 ∙ sym (append-nil p.out), ap (λ (g : Group). g.err) decides.1 ∙ sym (append-nil p.err))
    by-vote (Some a) wins none decides = shown None (Some a) none wins (ap (λ (g : Group). g.out) decides.is, ap (λ (g : Group). g.err) decides.is)

    by-missing : (missing : Option ℕ) → missing_from p.budget 0 p.replicas ≡ missing → WaitsOrDecides missing p got to → (to.out ≡ p.out ++ printed_at_gate 1 p) × (to.err ≡ p.err ++ printed_at_gate 2 p)
    by-missing (Some i) is waits = shown (Some i) (won p) is refl (ap (λ (g : Group). g.out) waits.1 ∙ sym (append-nil p.out), ap (λ (g : Group). g.err) waits.1 ∙ sym (append-nil p.err))
    by-missing None is decides = by-vote (won p) refl is decides

-- bytes of a gate behind those that were printed so far
on-prints : (start base to : Group) (before mid after : Held) (out err : List ℕ) → PrintsBetween start base before mid → to.out ≡ base.out ++ out → to.err ≡ base.err ++ err → Appends mid.out after.out out → Appends mid.err after.err err → PrintsBetween start to before after
on-prints start base to before mid after out err so is-out is-err on-out on-err = record {
  out = so.out ++ out;
  are_out = is-out ∙ ap (λ x. x ++ out) so.are_out ∙ append_assoc start.out so.out out;
  on_out = appends-both before.out mid.out after.out so.out out so.on_out on-out;
  err = so.err ++ err;
  are_err = is-err ∙ ap (λ x. x ++ err) so.are_err ∙ append_assoc start.err so.err err;
  on_err = appends-both before.err mid.err after.err so.err err so.on_err on-err;
}

module _ (counted : StepsAreCounted) (shaped : (g : Guest) → IsGuestShaped g (guest_next g)) (input : List ℕ) (start : Group) (first at-tape : Track) (before mid after : Held) (group group' : code.Group) (way : IsOnWay input start group first at-tape before mid) where
  abbrev p : Group
  p = ahead input way.given way.base

  p-is : p ≡ record way.base { replicas = each_ahead input way.base.budget way.given 0 way.base.replicas }
  p-is = ahead-going input way.given way.base way.going

  p-over : p.over ≡ None
  p-over = ap (λ (g : Group). g.over) p-is ∙ way.going

  p-out : p.out ≡ way.base.out
  p-out = ap (λ (g : Group). g.out) p-is

  p-err : p.err ≡ way.base.err
  p-err = ap (λ (g : Group). g.err) p-is

  p-gathered : gathered input p ≡ gathered input way.base
  p-gathered = gathered-ahead counted shaped input way.given way.base way.going way.sound

  -- where none is missing all have arrived
  all-there : missing_from p.budget 0 p.replicas ≡ None → p ≡ gathered input way.base
  all-there none = ahead-gathered counted shaped input way.given way.base way.going way.sound (sym (ap (λ (g : Group). missing_from g.budget 0 g.replicas) p-is) ∙ none)

  module _ (got : GateAnswer) (to : Group) (gate : Gates p got to) (stands : IsGroup to group') (on-out : Appends mid.out after.out (printed_at_gate 1 p)) (on-err : Appends mid.err after.err (printed_at_gate 2 p)) where
    kept-within : furthest to ≤ most_kept
    kept-within = let same = gate-places p got to gate in let within = way.within in omega (arith, same, within)

    kept-high : at-tape.high ≡ max first.high (furthest to)
    kept-high = let same = gate-places p got to gate in let high = way.high in omega (arith, same, high)

    printed : PrintsBetween start to before after
    printed =
        let out = (gate-out p got to p-over gate).0 in
        let err = (gate-out p got to p-over gate).1 in
        on-prints start way.base to before mid after (printed_at_gate 1 p) (printed_at_gate 2 p) way.prints (out ∙ ap (λ x. x ++ printed_at_gate 1 p) p-out) (err ∙ ap (λ x. x ++ printed_at_gate 2 p) p-err) on-out on-err

    next-round : missing_from p.budget 0 p.replicas ≡ None → Rounds input start (suc way.rounds) to
    next-round none = rounds-more input start way.rounds to (record { from = way.base; reached = way.are; round = record { going = way.going; got = got; gate = subst (λ (g : Group). Gates g got to) (all-there none) gate } })

    decides-here : missing_from p.budget 0 p.replicas ≡ None → DecidesBy (won p) p got to
    decides-here none = subst (λ m. WaitsOrDecides m p got to) none (subst (λ o. GatesFrom o p got to) p-over gate)

    stays-here : (i : ℕ) → missing_from p.budget 0 p.replicas ≡ Some i → to ≡ p
    stays-here i is = (subst (λ m. WaitsOrDecides m p got to) is (subst (λ o. GatesFrom o p got to) p-over gate)).1

    goes : (missing : Option ℕ) → missing_from p.budget 0 p.replicas ≡ missing → to.over ≡ None → IsOnWay input start group' first at-tape before after
    goes (Some i) is over =
        let same = stays-here i is in
        let same-out : to.out ≡ way.base.out = ap (λ (g : Group). g.out) same ∙ p-out in
        let same-err : to.err ≡ way.base.err = ap (λ (g : Group). g.err) same ∙ p-err in
        record {
          rounds = way.rounds;
          base = way.base;
          given = way.given;
          are = way.are;
          going = way.going;
          sound = way.sound;
          stands = subst (λ (g : Group). IsGroup g group') same stands;
          within = way.within;
          high = way.high;
          prints = record { out = printed.out; are_out = sym same-out ∙ printed.are_out; on_out = printed.on_out; err = printed.err; are_err = sym same-err ∙ printed.are_err; on_err = printed.on_err };
        }
    goes None none over =
        let none-given = ahead-none input to in record {
          rounds = suc way.rounds;
          base = to;
          given = no_steps;
          are = next-round none;
          going = over;
          sound = decided-awaits (won p) p got to (decides-here none) (subst (λ (g : Group). WaitForWrites g) (sym (all-there none)) (all-moved input way.base.budget (suc way.base.budget) way.base.replicas way.sound));
          stands = subst (λ (g : Group). IsGroup g group') none-given stands;
          within = subst (λ (g : Group). furthest g ≤ most_kept) none-given kept-within;
          high = subst (λ (g : Group). at-tape.high ≡ max first.high (furthest g)) none-given kept-high;
          prints = printed;
        }

    ends : (missing : Option ℕ) (end : GateAnswer) → missing_from p.budget 0 p.replicas ≡ missing → to.over ≡ Some end → IsRun input start end group' first at-tape before after
    ends (Some i) end is over = absurd (none≢some (sym (ap (λ (g : Group). g.over) (stays-here i is) ∙ p-over) ∙ over))
      where
        none≢some : None ≡ Some end → ⊥
        none≢some same = cc
    ends None end none over = record {
      to = to;
      comes = record { rounds = suc way.rounds; are = next-round none; over = over; within = kept-within };
      stands = stands;
      high = kept-high;
      prints = printed;
    }

    comes-by : (over : Option GateAnswer) → to.over ≡ over → Comes input start (Ok over) group' first at-tape before after
    comes-by None is = goes (missing_from p.budget 0 p.replicas) refl is
    comes-by (Some end) is = ends (missing_from p.budget 0 p.replicas) end refl is

    pub comes-on : Comes input start (Ok group'.over) group' first at-tape before after
    comes-on = comes-by group'.over (sym stands.over)

  -- ---- it was cut short

  -- what this gate prints is what the gate of the round prints, or nothing
  fronts : (d : ℕ) (out : List ℕ) (old held : Option (List ℕ)) (before-held : Option (List ℕ)) → Appends before-held old out → AppendsFront old held (printed_at_gate d p) → AppendsFront before-held held (out ++ printed_at_gate d (gathered input way.base))
  fronts d out old held before-held so (front, begins-with, on) = by-missing (missing_from p.budget 0 p.replicas) refl
    where
      whole : IsPrefix front (printed_at_gate d (gathered input way.base)) → AppendsFront before-held held (out ++ printed_at_gate d (gathered input way.base))
      whole (rest, is) = (out ++ front, (rest, ap (λ x. out ++ x) is ∙ sym (append_assoc out front rest)), appends-both before-held old held out front so on)

      nothing : (i : ℕ) → missing_from p.budget 0 p.replicas ≡ Some i → printed_at_gate d p ≡ []
      nothing i is = ap (λ o. prints_where d o (missing_from p.budget 0 p.replicas) (won p)) p-over ∙ ap (λ m. prints_where d None m (won p)) is

      empty-front : (xs ys : List ℕ) → IsPrefix xs ys → ys ≡ [] → xs ≡ []
      empty-front [] ys is none = refl
      empty-front (x ∷ xs) ys (rest, is) none = cc

      by-missing : (missing : Option ℕ) → missing_from p.budget 0 p.replicas ≡ missing → AppendsFront before-held held (out ++ printed_at_gate d (gathered input way.base))
      by-missing (Some i) is = whole (printed_at_gate d (gathered input way.base), ap (λ x. x ++ printed_at_gate d (gathered input way.base)) (sym (empty-front front (printed_at_gate d p) begins-with (nothing i is))))
      by-missing None none = whole (subst (λ (g : Group). IsPrefix front (printed_at_gate d g)) (all-there none) begins-with)

  may-out : (d : ℕ) (out : List ℕ) → printed_at_gate d p ≢ [] → out ++ printed_at_gate d (gathered input way.base) ≢ []
  may-out d out some = by-missing (missing_from p.budget 0 p.replicas) refl
    where
      no-tail : (xs ys : List ℕ) → xs ++ ys ≡ [] → ys ≡ []
      no-tail [] ys is = is
      no-tail (x ∷ xs) ys is = cc

      by-missing : (missing : Option ℕ) → missing_from p.budget 0 p.replicas ≡ missing → out ++ printed_at_gate d (gathered input way.base) ≢ []
      by-missing (Some i) is = λ none. some (ap (λ o. prints_where d o (missing_from p.budget 0 p.replicas) (won p)) p-over ∙ ap (λ m. prints_where d None m (won p)) is)
      by-missing None none = λ empty. some (ap (printed_at_gate d) (all-there none) ∙ no-tail out (printed_at_gate d (gathered input way.base)) empty)

  may-at : (refused : RunRefusal) → MayFailAt refused (printed_at_gate 1 p) (printed_at_gate 2 p) → MayFailAt refused (way.prints.out ++ printed_at_gate 1 (gathered input way.base)) (way.prints.err ++ printed_at_gate 2 (gathered input way.base))
  may-at why.Out some = may-out 1 way.prints.out some
  may-at why.Err some = may-out 2 way.prints.err some
  may-at why.Memory some = tt
  may-at why.Input some = tt
  may-at why.Source some = tt

  cut-by : (refused : RunRefusal) → PrintsAt {T = GateAnswer} p (Err refused) mid after → IsCutShort input start refused before after
  cut-by refused prints = record {
    rounds = way.rounds;
    at = way.base;
    are = way.are;
    out = way.prints.out ++ printed_at_gate 1 (gathered input way.base);
    are_out = ap (λ x. x ++ printed_at_gate 1 (gathered input way.base)) way.prints.are_out ∙ append_assoc start.out way.prints.out (printed_at_gate 1 (gathered input way.base));
    on_out = fronts 1 way.prints.out mid.out after.out before.out way.prints.on_out prints.0;
    err = way.prints.err ++ printed_at_gate 2 (gathered input way.base);
    are_err = ap (λ x. x ++ printed_at_gate 2 (gathered input way.base)) way.prints.are_err ∙ append_assoc start.err way.prints.err (printed_at_gate 2 (gathered input way.base));
    on_err = fronts 2 way.prints.err mid.err after.err before.err way.prints.on_err prints.1;
    may = may-at refused prints.2;
  }

  pub gate-cut : (refused : RunRefusal) (faults faults' : FaultCounts) → PrintsAt {T = GateAnswer} p (Err refused) mid after → CutsGate {T = GateAnswer} (Err refused) faults faults' → CutsWay input start refused before after
  gate-cut why.Memory f f' prints cause = cut-by why.Memory prints
  gate-cut why.Input f f' prints cause = absurd cause
  gate-cut why.Source f f' prints cause = absurd cause
  gate-cut why.Out f f' prints cause = cut-by why.Out prints
  gate-cut why.Err f f' prints cause = cut-by why.Err prints

pub gate-cause : (refused : RunRefusal) (faults faults' : FaultCounts) → CutsGate {T = GateAnswer} (Err refused) faults faults' → CutsRun {T = Option GateAnswer} (Err refused) faults faults'
gate-cause why.Memory f f' cause = cause
gate-cause why.Input f f' cause = absurd cause
gate-cause why.Source f f' cause = absurd cause
gate-cause why.Out f f' cause = cause
gate-cause why.Err f f' cause = cause

pub on-any : {T E : Type 0} (result : Result T E) (P : Type 0) → P → OnOk result P
on-any (Ok value) P holds = holds
on-any (Err cause) P holds = tt

-- ---- the whole run

waits-by : (state : Option Progress) (r : Replica) (machine : Machine) (place : ℕ) → StandsAs r state machine place → WaitsForWrite r
waits-by None r machine place stands = absurd stands
waits-by (Some progress.Going) r machine place stands = λ waits. absurd (true≢false (sym waits ∙ stands.0))
waits-by (Some (progress.Prints fd address len)) r machine place stands = λ waits. ap (λ n. is_some (write_next n)) stands.1.prints
waits-by (Some (progress.Ended ending)) r machine place stands = λ waits. absurd (true≢false (sym waits ∙ stands.0))

seats-wait : (budget : ℕ) (rs : List Replica) (seats : List Seat) → SeatsAre budget rs seats → AllByRecursion WaitsForWrite rs
seats-wait budget [] seats so = tt
seats-wait budget (r ∷ rs) [] so = absurd so
seats-wait budget (r ∷ rs) (s ∷ ss) so = (waits-by s.state r s.machine s.place so.0.stands, seats-wait budget rs ss so.2)

appends-nothing : (held : Option (List ℕ)) → Appends held held []
appends-nothing None = tt
appends-nothing (Some bytes) = sym (append-nil bytes)

prints-nothing : (g : Group) (held : Held) → PrintsBetween g g held held
prints-nothing g held = record { out = []; are_out = sym (append-nil g.out); on_out = appends-nothing held.out; err = []; are_err = sym (append-nil g.err); on_err = appends-nothing held.err }

module _ (input : List ℕ) (m : Group) (group : code.Group) (track : Track) (held : Held) (is : IsGroup m group) (kept : AreKept track group.seats.items) (answered : HasAnswered (length track.kept) track.high track.keep track.refused) where
  below : furthest m ≤ track.high
  below = all-within m.budget m.replicas group.seats.items track is.seats kept.known

  most : track.high ≤ most_kept
  most = let answered' : HasAnswered (length track.kept) track.high true false = rw (kept.keep, kept.going) at answered in answered'.1

  pub begins-way : group.over ≡ None → IsOnWay input m group track track held held
  begins-way over =
      let none-given = ahead-none input m in record {
        rounds = 0;
        base = m;
        given = no_steps;
        are = rounds-begin input m m refl;
        going = sym is.over ∙ over;
        sound = seats-wait m.budget m.replicas group.seats.items is.seats;
        stands = subst (λ (g : Group). IsGroup g group) none-given is;
        within = subst (λ (g : Group). furthest g ≤ most_kept) none-given (omega (arith, below, most));
        high = subst (λ (g : Group). track.high ≡ max track.high (furthest g)) none-given (omega (arith, below));
        prints = prints-nothing m held;
      }

  pub over-already : (end : GateAnswer) → group.over ≡ Some end → IsRun input m end group track track held held
  over-already end over = record {
    to = m;
    comes = record { rounds = 0; are = rounds-begin input m m refl; over = sym is.over ∙ over; within = omega (arith, below, most) };
    stands = is;
    high = omega (arith, below);
    prints = prints-nothing m held;
  }

pub runs-cut : (input : List ℕ) (start : Group) (refused : RunRefusal) (group : code.Group) (old new : Track) (before after : Held) → CutsWay input start refused before after → RunsAs input start (Err refused) group old new before after
runs-cut input start why.Memory group old new before after cut = cut
runs-cut input start why.Input group old new before after cut = cut
runs-cut input start why.Source group old new before after cut = cut
runs-cut input start why.Out group old new before after cut = cut
runs-cut input start why.Err group old new before after cut = cut

pub same-self : (track : Track) (left : Option (List ℕ)) → IsSameInput track track left left
same-self track left = go (tape.input track left) refl
  where
    go : (o : Option (List ℕ)) → tape.input track left ≡ o → IfSome o (λ bytes. tape.input track left ≡ Some bytes)
    go None is = tt
    go (Some bytes) is = is
