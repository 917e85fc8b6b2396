-- What a whole run of a group comes to: docs/replicas.md, "Runs of a group".
use Rattle.std.specs.Prelude.{◌≡◌, ◌≤◌, ℕ, max, List, [], ◌∷◌, ◌++◌, length, Option, Some, None, Result, Ok, Err}
use Rattle.std.specs.List.{AllByRecursion}
use Rattle.std.specs.Io.KnownBytes.{Appends}
use Rattle.ex_io.specs.Causes.{AppendsFront}
use Rattle.ex_io.specs.Tape.{Track, most_kept}
use Rattle.infinite_heap.specs.Loaded.{Loaded}
use Rattle.rv_machine.specs.declared.settings.Settings.{Settings}
use Rattle.layout_run.specs.Outside.{Held}
use Rattle.layout_run.specs.declared.ran.RunRefusal.{RunRefusal}
use Rattle.layout_run.specs.declared.ran.RunRefusal.TheVariants as why
use Rattle.replicate.specs.declared.answer.GateAnswer.{GateAnswer}
use Rattle.replicate.specs.declared.group.Group as code
use Rattle.replicate.specs.declared.seat.Seat.{Seat}
use Rattle.replicate.specs.Gates.{printed_at_gate}
use Rattle.replicate.specs.GroupStands.{IsGroup, MayFailAt}
use Rattle.replicate.specs.Groups.{Group}
use Rattle.replicate.specs.Replicas.{Replica}
use Rattle.replicate.specs.Rounds.{Rounds, WaitForWrites, ahead, gathered, started}

-- ---- places in the input

-- the furthest place of all replicas, also of those that are retired
abbrev pub furthest_of : List Replica → ℕ
furthest_of [] = 0
furthest_of (r ∷ rs) = max r.flat.place (furthest_of rs)

abbrev pub furthest : Group → ℕ
furthest g = furthest_of g.replicas

-- Behind so many rounds, a replica reads past the most that is kept of an input, on its way to the next gate.
pub record ReachesLimit (input : List ℕ) (start at : Group) : Type 0 where
  pub rounds : ℕ
  pub are : Rounds input start rounds at
  pub going : at.over ≡ None
  pub within : furthest at ≤ most_kept
  pub past : furthest (gathered input at) ≤ most_kept → ⊥

-- rounds lead to the end, or to a lost vote, and none of them reads past that
pub record ComesTo (input : List ℕ) (start to : Group) (got : GateAnswer) : Type 0 where
  pub rounds : ℕ
  pub are : Rounds input start rounds to
  pub over : to.over ≡ Some got
  pub within : furthest to ≤ most_kept

-- ---- on the outside

-- what was printed between two states of a group
pub record PrintsBetween (from to : Group) (before after : Held) : Type 0 where
  pub out : List ℕ
  pub are_out : to.out ≡ from.out ++ out
  pub on_out : Appends before.out after.out out
  pub err : List ℕ
  pub are_err : to.err ≡ from.err ++ err
  pub on_err : Appends before.err after.err err

-- a front of what so many rounds print, and one more gate
pub record IsCutShort (input : List ℕ) (start : Group) (refused : RunRefusal) (before after : Held) : Type 0 where
  pub rounds : ℕ
  pub at : Group
  pub are : Rounds input start rounds at
  pub out : List ℕ
  pub are_out : at.out ++ printed_at_gate 1 (gathered input at) ≡ start.out ++ out
  pub on_out : AppendsFront before.out after.out out
  pub err : List ℕ
  pub are_err : at.err ++ printed_at_gate 2 (gathered input at) ≡ start.err ++ err
  pub on_err : AppendsFront before.err after.err err
  pub may : MayFailAt refused out err

-- it goes to its end: the group stands for the last one, all of its bytes are printed, and the tape was read up to the furthest place
pub record IsRun (input : List ℕ) (start : Group) (got : GateAnswer) (group : code.Group) (old new : Track) (before after : Held) : Type 0 where
  pub to : Group
  pub comes : ComesTo input start to got
  pub stands : IsGroup to group
  pub high : new.high ≡ max old.high (furthest to)
  pub prints : PrintsBetween start to before after

-- or it stops where more of the input is read than is kept: what was printed by then stands on the sinks
pub record IsStopped (input : List ℕ) (start : Group) (before after : Held) : Type 0 where
  pub at : Group
  pub limit : ReachesLimit input start at
  pub prints : PrintsBetween start at before after

abbrev pub RunsAs : (input : List ℕ) → (start : Group) → Result GateAnswer RunRefusal → code.Group → (old new : Track) → (before after : Held) → Type 0
RunsAs input start (Ok got) group old new before after = IsRun input start got group old new before after
RunsAs input start (Err why.Input) group old new before after = IsStopped input start before after
RunsAs input start (Err refused) group old new before after = IsCutShort input start refused before after

abbrev pub HasReadNothing : Seat → Type 0
HasReadNothing seat = seat.place ≡ 0

-- no call of the group was refused, and no replica has read
pub record StartsAnew (group : code.Group) : Type 0 where
  pub going : group.refused ≡ None
  pub unread : AllByRecursion HasReadNothing group.seats.items

-- ---- on its way

-- A group on its way from a start: `base` is so many rounds further and isn't over, and the group is that but for the steps that were given
-- since. What was printed up to `base` stands on the sinks, and the tape was read up to the furthest place.
pub record IsOnWay (input : List ℕ) (start : Group) (group : code.Group) (old now : Track) (before after : Held) : Type 0 where
  pub rounds : ℕ
  pub base : Group
  pub given : ℕ → ℕ
  pub are : Rounds input start rounds base
  pub going : base.over ≡ None
  pub sound : WaitForWrites base
  pub stands : IsGroup (ahead input given base) group
  pub within : furthest (ahead input given base) ≤ most_kept
  pub high : now.high ≡ max old.high (furthest (ahead input given base))
  pub prints : PrintsBetween start base before after

-- a turn was cut short
abbrev pub CutsWay : (input : List ℕ) → (start : Group) → RunRefusal → (before after : Held) → Type 0
CutsWay input start why.Input before after = IsStopped input start before after
CutsWay input start refused before after = IsCutShort input start refused before after

-- turns of its replicas leave a group on its way
abbrev pub GoesOn : {T : Type 0} → (input : List ℕ) → (start : Group) → Result T RunRefusal → code.Group → (old now : Track) → (before after : Held) → Type 0
GoesOn input start (Ok done) group old now before after = IsOnWay input start group old now before after
GoesOn input start (Err refused) group old now before after = CutsWay input start refused before after

-- and so does a gate, unless it ends the group
abbrev pub Comes : (input : List ℕ) → (start : Group) → Result (Option GateAnswer) RunRefusal → code.Group → (old now : Track) → (before after : Held) → Type 0
Comes input start (Ok None) group old now before after = IsOnWay input start group old now before after
Comes input start (Ok (Some got)) group old now before after = IsRun input start got group old now before after
Comes input start (Err refused) group old now before after = CutsWay input start refused before after

-- ---- laws

-- a group ends in one way
abbrev pub EndsAreOne : Type 0
EndsAreOne = (input : List ℕ) (start a b : Group) (got got' : GateAnswer) → ComesTo input start a got → ComesTo input start b got' → (a ≡ b) × (got ≡ got')

-- or it stops in one place
abbrev pub StopsAreOne : Type 0
StopsAreOne = (input : List ℕ) (start a b : Group) → ReachesLimit input start a → ReachesLimit input start b → a ≡ b

-- and not both
abbrev pub EndsOrStops : Type 0
EndsOrStops = (input : List ℕ) (start to at : Group) (got : GateAnswer) → ComesTo input start to got → ReachesLimit input start at → ⊥

-- No replica reads on past the end of the input.
abbrev pub PlacesAreInside : Type 0
PlacesAreInside =
    (program : Loaded) (args : List (List ℕ)) (settings : Settings) (input : List ℕ) (budget count n : ℕ) (g : Group)
    → Rounds input (started program args settings budget count) n g → furthest (gathered input g) ≤ length input
