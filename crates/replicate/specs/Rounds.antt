-- Rounds of a group, and schedules of its calls: docs/replicas.md, "Rounds" and "Schedules".
use Rattle.std.specs.Prelude.{◌≡◌, ℕ, zero, suc, ◌+◌, ◌%◌, ◌^◌, ◌==◌, true, false, if◌then◌else◌, List, [], ◌∷◌, map, Option, Some, None, is_some}
use Rattle.std.specs.List.{AllByRecursion, range_with_len}
use Rattle.infinite_heap.specs.Loaded.{Loaded}
use Rattle.rv_machine.specs.declared.settings.Settings.{Settings}
use Rattle.rv_machine.specs.Flat.{flat_start}
use Rattle.rv_machine.specs.HeapCalls.{guest_next}
use Rattle.replicate.specs.declared.answer.GateAnswer.{GateAnswer}
use Rattle.replicate.specs.declared.answer.GateAnswer.TheVariants.{Waiting}
use Rattle.replicate.specs.Gates.{Gates}
use Rattle.replicate.specs.Groups.{Group, moved, turned}
use Rattle.replicate.specs.Replicas.{Replica, has_arrived, mark_of, onward, write_next}

-- ---- the start

-- the i-th seed behind a seed; seeds wrap
abbrev pub seed_behind : (seed i : ℕ) → ℕ
seed_behind seed i = (seed + i) % 2 ^ 64

abbrev pub replica_at : Loaded → (args : List (List ℕ)) → Settings → (i : ℕ) → Replica
replica_at program args settings i =
    record {
      flat = flat_start program args (record settings { seed = seed_behind settings.seed i });
      waits = false;
      live = true;
      mark = mark_of (flat_start program args (record settings { seed = seed_behind settings.seed i }));
    }

-- so many replicas, numbered from 0
abbrev pub started : Loaded → (args : List (List ℕ)) → Settings → (budget count : ℕ) → Group
started program args settings budget count = record {
  replicas = map (replica_at program args settings) (range_with_len 0 count);
  budget = budget;
  tag = program.tag;
  table = settings.patches;
  gates = 0;
  out = [];
  err = [];
  retired = [];
  patched = [];
  over = None;
}

-- ---- rounds

-- Each live replica goes to its arrival. It has come there after its budget of steps, and one that isn't counted.
abbrev pub gathered : (input : List ℕ) → Group → Group
gathered input g = record g { replicas = map (moved input g.budget (suc g.budget)) g.replicas }

-- a round of a group that isn't over: all go to their arrivals, and then comes a gate
pub record IsRound (input : List ℕ) (from to : Group) : Type 0 where
  pub going : from.over ≡ None
  pub got : GateAnswer
  pub gate : Gates (gathered input from) got to

pub record IsRoundAfter (input : List ℕ) (Reached : Group → Type 0) (to : Group) : Type 0 where
  pub from : Group
  pub reached : Reached from
  pub round : IsRound input from to

-- what so many rounds lead to
unfoldable pub Rounds : (input : List ℕ) → (start : Group) → ℕ → Group → Type 0
Rounds input start zero g = g ≡ start
Rounds input start (suc n) g = IsRoundAfter input (Rounds input start n) g

-- where a replica waits, its next step is a write
abbrev pub WaitsForWrite : Replica → Type 0
WaitsForWrite r = r.waits ≡ true → is_some (write_next (guest_next r.flat.guest)) ≡ true

abbrev pub WaitForWrites : Group → Type 0
WaitForWrites g = AllByRecursion WaitsForWrite g.replicas

-- So it is at the start, and after each round.
abbrev pub StartedWaitForWrites : Type 0
StartedWaitForWrites = (program : Loaded) (args : List (List ℕ)) (settings : Settings) (budget count : ℕ) → WaitForWrites (started program args settings budget count)

abbrev pub RoundsWaitForWrites : Type 0
RoundsWaitForWrites = (input : List ℕ) (start : Group) (n : ℕ) (g : Group) → WaitForWrites start → Rounds input start n g → WaitForWrites g

-- ---- schedules

-- a call of a group: a turn of n steps for replica i, or a gate
pub data Event : Type 0 where
  Turn : (i n : ℕ) → Event
  Gate : Event

-- A group on its way: the gates that were decided so far, and the steps that each replica was given by turns since the last of
-- these.
pub record Course : Type 0 where
  pub group : Group
  pub rounds : ℕ
  pub given : ℕ → ℕ

abbrev pub no_steps : ℕ → ℕ
no_steps i = 0

abbrev pub begun : Group → Course
begun g = record { group = g; rounds = 0; given = no_steps }

abbrev pub with_steps : (i n : ℕ) → (ℕ → ℕ) → ℕ → ℕ
with_steps i n given j = if i == j then given j + n else given j

abbrev pub after_turn : (input : List ℕ) → (i n : ℕ) → Course → Course
after_turn input i n c = record { group = turned input i n c.group; rounds = c.rounds; given = with_steps i n c.given }

-- a gate that waits decides nothing, and neither does one of a group that is over
abbrev pub decided : (over : Option GateAnswer) → (got : GateAnswer) → Course → Group → Course
decided (Some over) got c to = record c { group = to }
decided None (Waiting i) c to = record c { group = to }
decided None got c to = record { group = to; rounds = c.rounds + 1; given = no_steps }

pub record IsAfterGate (from to : Course) : Type 0 where
  pub got : GateAnswer
  pub group : Group
  pub gate : Gates from.group got group
  pub is : to ≡ decided from.group.over got from group

abbrev pub Happens : (input : List ℕ) → Event → (from to : Course) → Type 0
Happens input (Turn i n) from to = to ≡ after_turn input i n from
Happens input Gate from to = IsAfterGate from to

pub record HappensAfter (input : List ℕ) (event : Event) (Reached : Course → Type 0) (to : Course) : Type 0 where
  pub from : Course
  pub reached : Reached from
  pub happens : Happens input event from to

-- what the calls of a schedule lead to, the last of them first
abbrev pub Follows : (input : List ℕ) → (start : Group) → List Event → Course → Type 0
Follows input start [] c = c ≡ begun start
Follows input start (event ∷ earlier) c = HappensAfter input event (Follows input start earlier) c

-- each live replica as many steps further as it was given, or at its arrival where that comes first
abbrev pub each_ahead : (input : List ℕ) → (budget : ℕ) → (given : ℕ → ℕ) → (i : ℕ) → List Replica → List Replica
each_ahead input budget given i [] = []
each_ahead input budget given i (r ∷ rs) = moved input budget (given i) r ∷ each_ahead input budget given (i + 1) rs

abbrev pub ahead : (input : List ℕ) → (given : ℕ → ℕ) → Group → Group
ahead input given g = if is_some g.over then g else record g { replicas = each_ahead input g.budget given 0 g.replicas }

-- Whatever the schedule, the group is that of as many rounds as gates were decided, but for the steps that were given since.
pub record IsAhead (input : List ℕ) (start : Group) (c : Course) : Type 0 where
  pub base : Group
  pub rounds : Rounds input start c.rounds base
  pub ahead : c.group ≡ ahead input c.given base

abbrev pub SchedulesAreRounds : Type 0
SchedulesAreRounds = (input : List ℕ) (start : Group) (schedule : List Event) (c : Course) → WaitForWrites start → Follows input start schedule c → IsAhead input start c

-- Rounds lead to one group, and gates to one answer.
abbrev pub RoundsAreOne : Type 0
RoundsAreOne = (input : List ℕ) (start : Group) (n : ℕ) (a b : Group) → Rounds input start n a → Rounds input start n b → a ≡ b

abbrev pub GatesAreOne : Type 0
GatesAreOne = (g : Group) (got got' : GateAnswer) (a b : Group) → Gates g got a → Gates g got' b → (got ≡ got') × (a ≡ b)

-- Rounds from a group that is ahead are those from where it was ahead of.
abbrev pub RoundsGoOn : Type 0
RoundsGoOn = (input : List ℕ) (given : ℕ → ℕ) (base : Group) (n : ℕ) (to : Group) → base.over ≡ None → WaitForWrites base → Rounds input (ahead input given base) (suc n) to → Rounds input base (suc n) to

-- Each replica has arrived after its budget of steps, and one that isn't counted.
abbrev pub EachArrives : Type 0
EachArrives = (input : List ℕ) (budget : ℕ) (r : Replica) → WaitsForWrite r → has_arrived budget (onward input budget (suc budget) r) ≡ true
