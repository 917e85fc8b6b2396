-- Turns between gates take each replica so many steps further; the gates are those of rounds.
use Rattle.std.proofs.Common.{◌≡◌, ◌≢◌, ◌≤◌, ℕ, zero, suc, ◌+◌, ◌==◌, ◌&&◌, not, Bool, false, true, cond, List, [], ◌∷◌, map, Option, None, Some, is_some, refl, sym, ◌∙◌, ap, ap₂, subst, add-one, arith}
use Rattle.std.proofs.lemmas.Bool.{true≢false}
use Rattle.std.proofs.lemmas.Bool.Decides.{nat_tests}
use Rattle.std.specs.List.{AllByRecursion, range_with_len}
use Rattle.infinite_heap.specs.Loaded.{Loaded}
use Rattle.patch_table.specs.Table.{Table}
use Rattle.rv_machine.specs.Core.{Prints}
use Rattle.rv_machine.specs.Guest.{Guest}
use Rattle.rv_machine.specs.HeapCalls.{GuestNext, Carries, guest_next}
use Rattle.rv_machine.specs.Shape.{IsGuestShaped}
use Rattle.rv_machine.specs.declared.settings.Settings.{Settings}
use Rattle.replicate.proofs.Arriving.{comes-within, is-write, there-waiting}
use Rattle.replicate.proofs.Gating.{rounds-begin, rounds-more, rounds-suc, rounds-zero}
use Rattle.replicate.proofs.Onward.{attempts, attempt-there, onward-both, onward-there, onward-zero, onward-suc}
use Rattle.replicate.specs.Counted.{StepsAreCounted}
use Rattle.replicate.specs.Gates.{DecidesBy, Gates, GatesFrom, WaitsOrDecides, answer_of, end_at, gone_on, missing_from, passed, wins, winners, won, written}
use Rattle.replicate.specs.Groups.{Group, moved, turned, with_changed}
use Rattle.replicate.specs.Replicas.{Replica, attempt, attempted, has_arrived, onward}
use Rattle.replicate.specs.Rounds.{Course, Event, Follows, Gate, Happens, Rounds, RoundsGoOn, RoundsWaitForWrites, SchedulesAreRounds, StartedWaitForWrites, Turn, WaitForWrites, WaitsForWrite, after_turn, ahead, begun, decided, each_ahead, gathered, no_steps, replica_at, with_steps}
use Rattle.replicate.specs.declared.answer.GateAnswer.{GateAnswer}
use Rattle.replicate.specs.declared.answer.GateAnswer.TheVariants as answer
use Rattle.replicate.specs.declared.arrival.Arrival.{Arrival}
use Rattle.replicate.specs.declared.arrival.Arrival.TheVariants as at

-- ---- a replica that goes on still votes, and waits for a write alone

-- what no step changes
pub onward-keeps : {X : Type 0} (part : Replica → X) (input : List ℕ) (budget n : ℕ) (r : Replica) → ((s : Replica) → part (attempted input s (guest_next s.flat.guest)) ≡ part s) → part (onward input budget n r) ≡ part r
onward-keeps part input budget zero r kept = ap part (onward-zero input budget r)
onward-keeps part input budget (suc n) r kept = ap part (onward-suc input budget n r) ∙ attempt-keeps (onward input budget n r) ∙ onward-keeps part input budget n r kept
  where
    attempt-keeps : (s : Replica) → part (attempt input budget s) ≡ part s
    attempt-keeps s = go (has_arrived budget s)
      where
        go : (b : Bool) → part (cond b s (attempted input s (guest_next s.flat.guest))) ≡ part s
        go true = refl
        go false = kept s

attempted-live : (input : List ℕ) (r : Replica) (n : GuestNext) → (attempted input r n).live ≡ r.live
attempted-live input r (Carries (Prints fd address len bytes core)) = refl
attempted-live input r n = refl

pub onward-live : (input : List ℕ) (budget n : ℕ) (r : Replica) → (onward input budget n r).live ≡ r.live
onward-live input budget n r = onward-keeps (λ (s : Replica). s.live) input budget n r (λ s. attempted-live input s (guest_next s.flat.guest))

attempted-awaits : (input : List ℕ) (r : Replica) (n : GuestNext) → guest_next r.flat.guest ≡ n → r.waits ≡ false → WaitsForWrite (attempted input r n)
attempted-awaits input r (Carries (Prints fd address len bytes core)) is going = λ waits. is-write fd address len bytes core (guest_next r.flat.guest) is
attempted-awaits input r n is going = λ waits. absurd (true≢false (sym waits ∙ going))

attempt-awaits : (input : List ℕ) (budget : ℕ) (r : Replica) → WaitsForWrite r → WaitsForWrite (attempt input budget r)
attempt-awaits input budget r sound = go (has_arrived budget r) refl
  where
    going : (w : Bool) → r.waits ≡ w → has_arrived budget r ≡ false → r.waits ≡ false
    going false waits is = waits
    going true waits is = absurd (true≢false (sym (there-waiting budget r waits (sound waits)) ∙ is))

    go : (b : Bool) → has_arrived budget r ≡ b → WaitsForWrite (attempt input budget r)
    go true is = subst (λ (s : Replica). WaitsForWrite s) (sym (attempt-there input budget r is)) sound
    go false is = subst (λ (s : Replica). WaitsForWrite s) (sym (attempts input budget r is)) (attempted-awaits input r (guest_next r.flat.guest) refl (going r.waits refl is))

onward-awaits : (input : List ℕ) (budget n : ℕ) (r : Replica) → WaitsForWrite r → WaitsForWrite (onward input budget n r)
onward-awaits input budget zero r sound = subst (λ (s : Replica). WaitsForWrite s) (sym (onward-zero input budget r)) sound
onward-awaits input budget (suc n) r sound = subst (λ (s : Replica). WaitsForWrite s) (sym (onward-suc input budget n r)) (attempt-awaits input budget (onward input budget n r) (onward-awaits input budget n r sound))

pub moved-awaits : (input : List ℕ) (budget n : ℕ) (r : Replica) → WaitsForWrite r → WaitsForWrite (moved input budget n r)
moved-awaits input budget n r sound = go r.live
  where
    go : (b : Bool) → WaitsForWrite (cond b (onward input budget n r) r)
    go true = onward-awaits input budget n r sound
    go false = sound

-- ---- moves of live ones

pub moved-live : (input : List ℕ) (budget n : ℕ) (r : Replica) → r.live ≡ true → moved input budget n r ≡ onward input budget n r
moved-live input budget n r is = ap (λ b. cond b (onward input budget n r) r) is

pub moved-retired : (input : List ℕ) (budget n : ℕ) (r : Replica) → r.live ≡ false → moved input budget n r ≡ r
moved-retired input budget n r is = ap (λ b. cond b (onward input budget n r) r) is

pub moved-zero : (input : List ℕ) (budget : ℕ) (r : Replica) → moved input budget 0 r ≡ r
moved-zero input budget r = go r.live
  where
    go : (b : Bool) → cond b (onward input budget 0 r) r ≡ r
    go true = onward-zero input budget r
    go false = refl

pub moved-both : (input : List ℕ) (budget m n : ℕ) (r : Replica) → moved input budget n (moved input budget m r) ≡ moved input budget (m + n) r
moved-both input budget m n r = go r.live refl
  where
    go : (b : Bool) → r.live ≡ b → moved input budget n (moved input budget m r) ≡ moved input budget (m + n) r
    go true is =
        ap (moved input budget n) (moved-live input budget m r is) ∙ moved-live input budget n (onward input budget m r) (onward-live input budget m r ∙ is)
        ∙ sym (onward-both input budget m n r) ∙ sym (moved-live input budget (m + n) r is)
    go false is = ap (moved input budget n) (moved-retired input budget m r is) ∙ moved-retired input budget n r is ∙ sym (moved-retired input budget (m + n) r is)

-- one that isn't missing stays
moved-there : (input : List ℕ) (budget n : ℕ) (r : Replica) → (r.live && not (has_arrived budget r)) ≡ false → moved input budget n r ≡ r
moved-there input budget n r is = go r.live (has_arrived budget r) refl is
  where
    go : (b there : Bool) → has_arrived budget r ≡ there → (b && not there) ≡ false → cond b (onward input budget n r) r ≡ r
    go false there has is = refl
    go true true has is = onward-there input budget n r has
    go true false has is = absurd (true≢false is)

-- ---- lists of them

each-same : (input : List ℕ) (budget : ℕ) (given given' : ℕ → ℕ) (k : ℕ) (rs : List Replica) → ((j : ℕ) → k ≤ j → given j ≡ given' j) → each_ahead input budget given k rs ≡ each_ahead input budget given' k rs
each-same input budget given given' k [] same = refl
each-same input budget given given' k (r ∷ rs) same =
    ap₂ (λ (s : Replica) (ss : List Replica). s ∷ ss) (ap (λ m. moved input budget m r) (same k (omega arith))) (each-same input budget given given' (k + 1) rs (λ j from. same j (omega (arith, from))))

pub each-none : (input : List ℕ) (budget k : ℕ) (rs : List Replica) → each_ahead input budget no_steps k rs ≡ rs
each-none input budget k [] = refl
each-none input budget k (r ∷ rs) = ap₂ (λ (s : Replica) (ss : List Replica). s ∷ ss) (moved-zero input budget r) (each-none input budget (k + 1) rs)

is-here : (i j : ℕ) → i ≡ j → (i == j) ≡ true
is-here i j same = grind (arith, nat_tests)

is-elsewhere : (i j : ℕ) → i ≢ j → (i == j) ≡ false
is-elsewhere i j apart = grind (arith, nat_tests)

pub with-here : (i n : ℕ) (given : ℕ → ℕ) (j : ℕ) → i ≡ j → with_steps i n given j ≡ given j + n
with-here i n given j same = ap (λ b. cond b (given j + n) (given j)) (is-here i j same)

pub with-elsewhere : (i n : ℕ) (given : ℕ → ℕ) (j : ℕ) → i ≢ j → with_steps i n given j ≡ given j
with-elsewhere i n given j apart = ap (λ b. cond b (given j + n) (given j)) (is-elsewhere i j apart)

-- the i-th of those from k on takes n more steps
each-changed : (input : List ℕ) (budget n : ℕ) (given : ℕ → ℕ) (place k i : ℕ) (rs : List Replica) → place ≡ k + i → with_changed (moved input budget n) i (each_ahead input budget given k rs) ≡ each_ahead input budget (with_steps place n given) k rs
each-changed input budget n given place k i [] is = refl
each-changed input budget n given place k zero (r ∷ rs) is =
    ap₂ (λ (s : Replica) (ss : List Replica). s ∷ ss)
    (moved-both input budget (given k) n r ∙ ap (λ m. moved input budget m r) (sym (with-here place n given k (omega (arith, is)))))
    (each-same input budget given (with_steps place n given) (k + 1) rs (λ j from. sym (with-elsewhere place n given j (omega (arith, is, from)))))
each-changed input budget n given place k (suc i) (r ∷ rs) is =
    ap₂ (λ (s : Replica) (ss : List Replica). s ∷ ss)
    (ap (λ m. moved input budget m r) (sym (with-elsewhere place n given k (omega (arith, is)))))
    (each-changed input budget n given place (k + 1) i rs (omega (arith, is)))

-- none of them is missing, so all stay
none-missing : (input : List ℕ) (budget n i : ℕ) (rs : List Replica) → missing_from budget i rs ≡ None → map (moved input budget n) rs ≡ rs
none-missing input budget n i [] is = refl
none-missing input budget n i (r ∷ rs) is = go (r.live && not (has_arrived budget r)) refl is (none-missing input budget n (i + 1) rs)
  where
    go : (b : Bool) → (r.live && not (has_arrived budget r)) ≡ b → cond b (Some i) (missing_from budget (i + 1) rs) ≡ None → (missing_from budget (i + 1) rs ≡ None → map (moved input budget n) rs ≡ rs) → map (moved input budget n) (r ∷ rs) ≡ r ∷ rs
    go true missing is rest = cc
    go false missing is rest = ap₂ (λ (s : Replica) (ss : List Replica). s ∷ ss) (moved-there input budget n r missing) (rest is)

-- ---- groups

abbrev pub with_replicas : Group → List Replica → Group
with_replicas g rs = record g { replicas = rs }

pub ahead-going : (input : List ℕ) (given : ℕ → ℕ) (g : Group) → g.over ≡ None → ahead input given g ≡ with_replicas g (each_ahead input g.budget given 0 g.replicas)
ahead-going input given g over = ap (λ o. cond (is_some o) g (with_replicas g (each_ahead input g.budget given 0 g.replicas))) over

pub ahead-over : (input : List ℕ) (given : ℕ → ℕ) (g : Group) (end : GateAnswer) → g.over ≡ Some end → ahead input given g ≡ g
ahead-over input given g end over = ap (λ o. cond (is_some o) g (with_replicas g (each_ahead input g.budget given 0 g.replicas))) over

turned-going : (input : List ℕ) (i n : ℕ) (g : Group) → g.over ≡ None → turned input i n g ≡ with_replicas g (with_changed (moved input g.budget n) i g.replicas)
turned-going input i n g over = ap (λ o. cond (is_some o) g (with_replicas g (with_changed (moved input g.budget n) i g.replicas))) over

turned-over : (input : List ℕ) (i n : ℕ) (g : Group) (end : GateAnswer) → g.over ≡ Some end → turned input i n g ≡ g
turned-over input i n g end over = ap (λ o. cond (is_some o) g (with_replicas g (with_changed (moved input g.budget n) i g.replicas))) over

pub ahead-none : (input : List ℕ) (g : Group) → g ≡ ahead input no_steps g
ahead-none input g = go (is_some g.over)
  where
    go : (b : Bool) → g ≡ cond b g (with_replicas g (each_ahead input g.budget no_steps 0 g.replicas))
    go true = refl
    go false = ap (with_replicas g) (sym (each-none input g.budget 0 g.replicas))

pub turned-ahead : (input : List ℕ) (i n : ℕ) (given : ℕ → ℕ) (base : Group) → turned input i n (ahead input given base) ≡ ahead input (with_steps i n given) base
turned-ahead input i n given base = go base.over refl
  where
    go : (o : Option GateAnswer) → base.over ≡ o → turned input i n (ahead input given base) ≡ ahead input (with_steps i n given) base
    go (Some end) over = ap (turned input i n) (ahead-over input given base end over) ∙ turned-over input i n base end over ∙ sym (ahead-over input (with_steps i n given) base end over)
    go None over =
        ap (turned input i n) (ahead-going input given base over) ∙ turned-going input i n (with_replicas base (each_ahead input base.budget given 0 base.replicas)) over
        ∙ ap (with_replicas base) (each-changed input base.budget n given i 0 i base.replicas (omega arith)) ∙ sym (ahead-going input (with_steps i n given) base over)

-- ---- a gate leaves replicas that wait for a write alone

pub all-moved : (input : List ℕ) (budget n : ℕ) (rs : List Replica) → AllByRecursion WaitsForWrite rs → AllByRecursion WaitsForWrite (map (moved input budget n) rs)
all-moved input budget n [] sound = tt
all-moved input budget n (r ∷ rs) sound = (moved-awaits input budget n r sound.0, all-moved input budget n rs sound.1)

passed-awaits : (budget : ℕ) (a : Arrival) (table : Table) (r : Replica) → WaitsForWrite r → WaitsForWrite (passed budget a table r)
passed-awaits budget a table r sound = go (wins budget a r)
  where
    go : (b : Bool) → WaitsForWrite (cond b (gone_on table (written r)) (record r { live = false }))
    go true = λ waits. absurd (true≢false (sym waits))
    go false = sound

pub all-passed : (budget : ℕ) (a : Arrival) (table : Table) (rs : List Replica) → AllByRecursion WaitsForWrite rs → AllByRecursion WaitsForWrite (map (passed budget a table) rs)
all-passed budget a table [] sound = tt
all-passed budget a table (r ∷ rs) sound = (passed-awaits budget a table r sound.0, all-passed budget a table rs sound.1)

pub decided-awaits : (vote : Option Arrival) (g : Group) (got : GateAnswer) (to : Group) → DecidesBy vote g got to → WaitForWrites g → WaitForWrites to
decided-awaits None g got to decides sound = subst (λ (h : Group). WaitForWrites h) (sym decides.1) sound
decided-awaits (Some a) g got to decides sound = subst (λ (h : Group). WaitForWrites h) (sym decides.is) (all-passed g.budget a decides.cured.table g.replicas sound)

pub gate-awaits : (over : Option GateAnswer) (g : Group) (got : GateAnswer) (to : Group) → GatesFrom over g got to → WaitForWrites g → WaitForWrites to
gate-awaits (Some end) g got to gate sound = subst (λ (h : Group). WaitForWrites h) (sym gate.1) sound
gate-awaits None g got to gate sound = go (missing_from g.budget 0 g.replicas) gate
  where
    go : (missing : Option ℕ) → WaitsOrDecides missing g got to → WaitForWrites to
    go (Some i) waits = subst (λ (h : Group). WaitForWrites h) (sym waits.1) sound
    go None decides = decided-awaits (won g) g got to decides sound

pub rounds-await : RoundsWaitForWrites
rounds-await input start zero g sound are = subst (λ (h : Group). WaitForWrites h) (sym (rounds-zero input start g are)) sound
rounds-await input start (suc n) g sound are =
    let last = rounds-suc input start n g are in
    gate-awaits (gathered input last.from).over (gathered input last.from) last.round.got g last.round.gate
    (all-moved input last.from.budget (suc last.from.budget) last.from.replicas (rounds-await input start n last.from sound last.reached))

pub all-started : (program : Loaded) (args : List (List ℕ)) (settings : Settings) (numbers : List ℕ) → AllByRecursion WaitsForWrite (map (replica_at program args settings) numbers)
all-started program args settings [] = tt
all-started program args settings (i ∷ numbers) = (λ waits. absurd (true≢false (sym waits)), all-started program args settings numbers)

pub started-await : StartedWaitForWrites
started-await program args settings budget count = all-started program args settings (range_with_len 0 count)

-- ---- a gate that decides doesn't answer that it waits

abbrev Decides : GateAnswer → Type 0
Decides (answer.Waiting i) = ⊥
Decides got = Unit {0}

end-decides : (a : Arrival) (rs : List Replica) → Decides (answer_of (end_at a rs))
end-decides (at.Write fd bytes) rs = tt
end-decides at.Clock rs = tt
end-decides (at.Exit code) [] = tt
end-decides (at.Exit code) (r ∷ rs) = tt
end-decides (at.Fault kind pc) [] = tt
end-decides (at.Fault kind pc) (r ∷ rs) = tt
end-decides (at.Room used wanted) [] = tt
end-decides (at.Room used wanted) (r ∷ rs) = tt
end-decides at.Budget [] = tt
end-decides at.Budget (r ∷ rs) = tt

vote-decides : (vote : Option Arrival) (g : Group) (got : GateAnswer) (to : Group) → DecidesBy vote g got to → Decides got
vote-decides None g got to decides = subst (λ got. Decides got) (sym decides.0) tt
vote-decides (Some a) g got to decides = subst (λ got. Decides got) (sym decides.answer) (end-decides a (winners g.budget a g.replicas))

abbrev next_course : Course → Group → Course
next_course c to = record { group = to; rounds = c.rounds + 1; given = no_steps }

is-decided : (over : Option GateAnswer) (got : GateAnswer) (c : Course) (to : Group) → over ≡ None → Decides got → decided over got c to ≡ next_course c to
is-decided (Some end) got c to is decides = cc
is-decided None answer.Passed c to is decides = refl
is-decided None (answer.Waiting i) c to is decides = absurd decides
is-decided None (answer.Ended ending) c to is decides = refl
is-decided None (answer.Lost largest live) c to is decides = refl

is-over : (over : Option GateAnswer) (end got : GateAnswer) (c : Course) (to : Group) → over ≡ Some end → to ≡ c.group → decided over got c to ≡ c
is-over (Some end') end got c to is same = ap (λ (h : Group). record c { group = h }) same
is-over None end got c to is same = cc

still-waits : (over : Option GateAnswer) (got : GateAnswer) (i : ℕ) (c : Course) (to : Group) → over ≡ None → got ≡ answer.Waiting i → to ≡ c.group → decided over got c to ≡ c
still-waits (Some end) got i c to is waits same = cc
still-waits None answer.Passed i c to is waits same = cc
still-waits None (answer.Waiting j) i c to is waits same = ap (λ (h : Group). record c { group = h }) same
still-waits None (answer.Ended ending) i c to is waits same = cc
still-waits None (answer.Lost largest live) i c to is waits same = cc

-- ---- from gate to gate

module _ (counted : StepsAreCounted) (shaped : (g : Guest) → IsGuestShaped g (guest_next g)) where
  gathered-moved : (input : List ℕ) (budget m : ℕ) (r : Replica) → WaitsForWrite r → moved input budget (suc budget) (moved input budget m r) ≡ moved input budget (suc budget) r
  gathered-moved input budget m r sound = go r.live refl
    where
      swap : m + suc budget ≡ suc budget + m
      swap = omega arith

      go : (b : Bool) → r.live ≡ b → moved input budget (suc budget) (moved input budget m r) ≡ moved input budget (suc budget) r
      go true is =
          moved-both input budget m (suc budget) r ∙ moved-live input budget (m + suc budget) r is ∙ ap (λ k. onward input budget k r) swap
          ∙ onward-both input budget (suc budget) m r ∙ onward-there input budget m (onward input budget (suc budget) r) (comes-within counted shaped input budget r sound)
          ∙ sym (moved-live input budget (suc budget) r is)
      go false is = ap (moved input budget (suc budget)) (moved-retired input budget m r is)

  all-gathered : (input : List ℕ) (budget : ℕ) (given : ℕ → ℕ) (k : ℕ) (rs : List Replica) → AllByRecursion WaitsForWrite rs → map (moved input budget (suc budget)) (each_ahead input budget given k rs) ≡ map (moved input budget (suc budget)) rs
  all-gathered input budget given k [] sound = refl
  all-gathered input budget given k (r ∷ rs) sound = ap₂ (λ (s : Replica) (ss : List Replica). s ∷ ss) (gathered-moved input budget (given k) r sound.0) (all-gathered input budget given (k + 1) rs sound.1)

  pub gathered-ahead : (input : List ℕ) (given : ℕ → ℕ) (base : Group) → base.over ≡ None → WaitForWrites base → gathered input (ahead input given base) ≡ gathered input base
  gathered-ahead input given base over sound = ap (gathered input) (ahead-going input given base over) ∙ ap (with_replicas base) (all-gathered input base.budget given 0 base.replicas sound)

  -- all have come to the gate
  pub ahead-gathered : (input : List ℕ) (given : ℕ → ℕ) (base : Group) → base.over ≡ None → WaitForWrites base → missing_from base.budget 0 (each_ahead input base.budget given 0 base.replicas) ≡ None → ahead input given base ≡ gathered input base
  ahead-gathered input given base over sound none =
      ahead-going input given base over
      ∙ ap (with_replicas base) (sym (none-missing input base.budget (suc base.budget) 0 (each_ahead input base.budget given 0 base.replicas) none) ∙ all-gathered input base.budget given 0 base.replicas sound)

  -- the group is as many rounds further, but for the steps that were given since
  record IsOnWay (input : List ℕ) (start : Group) (c : Course) : Type 0 where
    base : Group
    rounds : Rounds input start c.rounds base
    sound : WaitForWrites base
    ahead : c.group ≡ ahead input c.given base

  begins-so : (input : List ℕ) (start : Group) → WaitForWrites start → IsOnWay input start (begun start)
  begins-so input start sound = record { base = start; rounds = rounds-begin input start start refl; sound = sound; ahead = ahead-none input start }

  turns-so : (input : List ℕ) (start : Group) (i n : ℕ) (c : Course) → IsOnWay input start c → IsOnWay input start (after_turn input i n c)
  turns-so input start i n c so = record { base = so.base; rounds = so.rounds; sound = so.sound; ahead = ap (turned input i n) so.ahead ∙ turned-ahead input i n c.given so.base }

  opens-so : (input : List ℕ) (start : Group) (c : Course) (got : GateAnswer) (to : Group) (so : IsOnWay input start c) → so.base.over ≡ None → c.group ≡ gathered input so.base → Gates c.group got to → DecidesBy (won c.group) c.group got to → IsOnWay input start (next_course c to)
  opens-so input start c got to so over same gate decides = record {
    base = to;
    rounds = subst (λ n. Rounds input start n to) (sym (add-one c.rounds)) (rounds-more input start c.rounds to (record { from = so.base; reached = so.rounds; round = record { going = over; got = got; gate = subst (λ (g : Group). Gates g got to) same gate } }));
    sound = decided-awaits (won c.group) c.group got to decides (subst (λ (g : Group). WaitForWrites g) (sym same) (all-moved input so.base.budget (suc so.base.budget) so.base.replicas so.sound));
    ahead = ahead-none input to;
  }

  gates-so : (input : List ℕ) (start : Group) (c : Course) (got : GateAnswer) (to : Group) → IsOnWay input start c → Gates c.group got to → IsOnWay input start (decided c.group.over got c to)
  gates-so input start c got to so gate = go so.base.over refl
    where
      stays : decided c.group.over got c to ≡ c → IsOnWay input start (decided c.group.over got c to)
      stays same = subst (λ (d : Course). IsOnWay input start d) (sym same) so

      at_gate : (missing : Option ℕ) → missing_from c.group.budget 0 c.group.replicas ≡ missing → so.base.over ≡ None → c.group.over ≡ None → c.group ≡ with_replicas so.base (each_ahead input so.base.budget c.given 0 so.base.replicas) → WaitsOrDecides missing c.group got to → IsOnWay input start (decided c.group.over got c to)
      at_gate (Some i) is over going here waits = stays (still-waits c.group.over got i c to going waits.0 waits.1)
      at_gate None is over going here decides =
          let none : missing_from so.base.budget 0 (each_ahead input so.base.budget c.given 0 so.base.replicas) ≡ None = sym (ap (λ (g : Group). missing_from g.budget 0 g.replicas) here) ∙ is in
          subst (λ (d : Course). IsOnWay input start d) (sym (is-decided c.group.over got c to going (vote-decides (won c.group) c.group got to decides)))
          (opens-so input start c got to so over (so.ahead ∙ ahead-gathered input c.given so.base over so.sound none) gate decides)

      go : (o : Option GateAnswer) → so.base.over ≡ o → IsOnWay input start (decided c.group.over got c to)
      go (Some end) over =
          let going : c.group.over ≡ Some end = ap (λ (g : Group). g.over) (so.ahead ∙ ahead-over input c.given so.base end over) ∙ over in
          let kept = subst (λ o. GatesFrom o c.group got to) going gate in
          stays (is-over c.group.over end got c to going kept.1)
      go None over =
          let here : c.group ≡ with_replicas so.base (each_ahead input so.base.budget c.given 0 so.base.replicas) = so.ahead ∙ ahead-going input c.given so.base over in
          let going : c.group.over ≡ None = ap (λ (g : Group). g.over) here ∙ over in
          at_gate (missing_from c.group.budget 0 c.group.replicas) refl over going here (subst (λ o. GatesFrom o c.group got to) going gate)

  happens-so : (input : List ℕ) (start : Group) (event : Event) (from to : Course) → IsOnWay input start from → Happens input event from to → IsOnWay input start to
  happens-so input start (Turn i n) from to so is = subst (λ (c : Course). IsOnWay input start c) (sym is) (turns-so input start i n from so)
  happens-so input start Gate from to so after = subst (λ (c : Course). IsOnWay input start c) (sym after.is) (gates-so input start from after.got after.group so after.gate)

  follows-so : (input : List ℕ) (start : Group) (schedule : List Event) (c : Course) → WaitForWrites start → Follows input start schedule c → IsOnWay input start c
  follows-so input start [] c sound is = subst (λ (d : Course). IsOnWay input start d) (sym is) (begins-so input start sound)
  follows-so input start (event ∷ earlier) c sound after = happens-so input start event after.from c (follows-so input start earlier after.from sound after.reached) after.happens

  pub schedules-are-rounds : SchedulesAreRounds
  schedules-are-rounds input start schedule c sound follows =
      let so = follows-so input start schedule c sound follows in
      record { base = so.base; rounds = so.rounds; ahead = so.ahead }

  -- ---- rounds from where a group is

  pub rounds-go-on : RoundsGoOn
  rounds-go-on input given base zero to over sound are =
      let last = rounds-suc input (ahead input given base) 0 to are in
      let from : last.from ≡ ahead input given base = rounds-zero input (ahead input given base) last.from last.reached in
      rounds-more input base 0 to (record {
        from = base;
        reached = rounds-begin input base base refl;
        round = record { going = over; got = last.round.got; gate = subst (λ (g : Group). Gates g last.round.got to) (ap (gathered input) from ∙ gathered-ahead input given base over sound) last.round.gate };
      })
  rounds-go-on input given base (suc n) to over sound are =
      let last = rounds-suc input (ahead input given base) (suc n) to are in
      rounds-more input base (suc n) to (record { from = last.from; reached = rounds-go-on input given base n last.from over sound last.reached; round = last.round })
