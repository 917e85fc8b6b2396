-- What a group comes to where the run on the infinite heap is clear: docs/replicas.md, "Clear runs".
use Rattle.std.specs.Prelude.{ℕ, zero, suc, ◌≡◌, ◌≢◌, ◌⊎◌, ◌<◌, ◌+◌, ◌*◌, Bool, true, false, if◌then◌else◌, List, [], ◌∷◌, ◌++◌, Option, Some, None}
use Rattle.ex_io.specs.Causes.{IsPrefix}
use Rattle.infinite_heap.specs.Covered.{records_after}
use Rattle.infinite_heap.specs.InfiniteRun.{InfRun, inf_run, is_clear}
use Rattle.infinite_heap.specs.Layout.{AllHarmless}
use Rattle.infinite_heap.specs.Loaded.{Loaded}
use Rattle.patch_table.specs.Limits.{InLimits}
use Rattle.rv_machine.specs.declared.ended.Ended.TheVariants.{Roomed}
use Rattle.rv_machine.specs.declared.settings.Settings.{Settings}
use Rattle.rv_machine.specs.Flat.{Flat}
use Rattle.rv_machine.specs.Objects.{layout_of}
use Rattle.simulation.specs.Agreement.{IsGiven}
use Rattle.layout_run.specs.Clear.{IsClearRun, MeetsNoRoom, ending_at}
use Rattle.layout_run.specs.declared.ran.Ending.{Ending}
use Rattle.layout_run.specs.declared.ran.Ending.TheVariants.{Exit, Fault, Budget, Room}
use Rattle.replicate.specs.declared.answer.GateAnswer.{GateAnswer}
use Rattle.replicate.specs.declared.answer.GateAnswer.TheVariants.{Ended}
use Rattle.replicate.specs.Gates.{printed_at_gate}
use Rattle.replicate.specs.Groups.{Group}
use Rattle.replicate.specs.Replicas.{Replica, has_arrived, onward}
use Rattle.replicate.specs.Rounds.{Course, Event, Follows, Rounds, gathered, started}

-- ---- covered by the patches

-- the group has printed that run's bytes, and ends so
pub record PrintsAs (run : InfRun) (g : Group) : Type 0 where
  pub out : g.out ≡ run.out
  pub err : g.err ≡ run.err

pub record EndsAlike (run : InfRun) (g : Group) (ending : Ending) : Type 0 where
  pub prints : PrintsAs run g
  pub address : ℕ
  pub ends : ending ≡ ending_at address run.ending

-- a heap call meets no room, the same one in each replica and with the same two numbers
pub record EndsWithoutRoom (program : Loaded) (args : List (List ℕ)) (settings : Settings) (input : List ℕ) (budget : ℕ) (g : Group) (ending : Ending) : Type 0 where
  pub made : ℕ
  pub within : made < budget
  pub used : ℕ
  pub wanted : ℕ
  pub meets : MeetsNoRoom program args settings input made used wanted
  pub prints : PrintsAs (inf_run program args input settings.zero made) g
  pub ends : ending ≡ Room used wanted

-- no vote is lost
abbrev pub EndsClear : Loaded → (args : List (List ℕ)) → Settings → (input : List ℕ) → (budget : ℕ) → Group → Option GateAnswer → Type 0
EndsClear program args settings input budget g None = Unit {0}
EndsClear program args settings input budget g (Some (Ended ending)) =
    EndsAlike (inf_run program args input settings.zero budget) g ending ⊎ EndsWithoutRoom program args settings input budget g ending
EndsClear program args settings input budget g (Some other) = ⊥

pub record PrintsPrefixes (run : InfRun) (g : Group) : Type 0 where
  pub out : IsPrefix g.out run.out
  pub err : IsPrefix g.err run.err

-- all replicas come to the same at each gate: nobody is retired, no table changes, and what is printed is a prefix of that run's
-- bytes, and all of them at the end
pub record StaysWhole (program : Loaded) (args : List (List ℕ)) (settings : Settings) (input : List ℕ) (budget : ℕ) (g : Group) : Type 0 where
  pub retired : g.retired ≡ []
  pub patched : g.patched ≡ []
  pub table : g.table ≡ settings.patches
  pub prints : PrintsPrefixes (inf_run program args input settings.zero budget) g
  pub ends : EndsClear program args settings input budget g g.over

-- Under every schedule a group stays whole where the run is clear and its patches cover it.
abbrev pub ClearGroupsStayWhole : Type 0
ClearGroupsStayWhole =
    (program : Loaded) (args : List (List ℕ)) (settings : Settings) (input : List ℕ) (budget count : ℕ) → 0 < count → IsClearRun program args settings input budget
    → (schedule : List Event) (c : Course) → Follows input (started program args settings budget count) schedule c → StaysWhole program args settings input budget c.group

-- The same after each round, and what the gate that comes next prints goes on in that run's bytes.
abbrev pub ClearRoundsStayWhole : Type 0
ClearRoundsStayWhole =
    (program : Loaded) (args : List (List ℕ)) (settings : Settings) (input : List ℕ) (budget count : ℕ) → 0 < count → IsClearRun program args settings input budget
    → (n : ℕ) (g : Group) → Rounds input (started program args settings budget count) n g
    → StaysWhole program args settings input budget g
    × IsPrefix (g.out ++ printed_at_gate 1 (gathered input g)) (inf_run program args input settings.zero budget).out
    × IsPrefix (g.err ++ printed_at_gate 2 (gathered input g)) (inf_run program args input settings.zero budget).err

-- ---- more than half are harmless

-- what the next step of the run records does no harm where this guest's objects lie
abbrev pub IsHarmlessAt : Loaded → (args : List (List ℕ)) → (input : List ℕ) → (zeroed : Bool) → Flat → Type 0
IsHarmlessAt program args input zeroed flat = AllHarmless (layout_of flat.guest.history) (records_after program args input zeroed flat.guest.core.steps)

-- each step that a replica makes until it has arrived, and the write that it then waits for
pub record IsHarmlessRound (program : Loaded) (args : List (List ℕ)) (input : List ℕ) (zeroed : Bool) (budget : ℕ) (r : Replica) : Type 0 where
  pub steps : (n : ℕ) → has_arrived budget (onward input budget n r) ≡ false → IsHarmlessAt program args input zeroed (onward input budget n r).flat
  pub write : (n : ℕ) → (onward input budget n r).waits ≡ true → IsHarmlessAt program args input zeroed (onward input budget n r).flat
  pub room : (n used wanted : ℕ) → (onward input budget n r).flat.guest.core.ended ≢ Some (Roomed used wanted)

-- so is each live one of these replicas, counted from i on
abbrev pub AreHarmless : (chosen : ℕ → Bool) → Loaded → (args : List (List ℕ)) → (input : List ℕ) → (zeroed : Bool) → (budget i : ℕ) → List Replica → Type 0
AreHarmless chosen program args input zeroed budget i [] = Unit {0}
AreHarmless chosen program args input zeroed budget i (r ∷ rs) =
    (chosen i ≡ true → r.live ≡ true → IsHarmlessRound program args input zeroed budget r) × AreHarmless chosen program args input zeroed budget (i + 1) rs

abbrev pub chosen_count : (chosen : ℕ → Bool) → ℕ → ℕ
chosen_count chosen zero = 0
chosen_count chosen (suc n) = if chosen n then suc (chosen_count chosen n) else chosen_count chosen n

-- more than half of the replicas are harmless in their own runs, in each of the rounds so far, and meet no want of room
pub record IsHarmlessHalf (program : Loaded) (args : List (List ℕ)) (settings : Settings) (input : List ℕ) (budget count rounds : ℕ) : Type 0 where
  pub chosen : ℕ → Bool
  pub half : count < 2 * chosen_count chosen count
  pub harmless : (n : ℕ) (g : Group) → n < rounds → Rounds input (started program args settings budget count) n g → AreHarmless chosen program args input settings.zero budget 0 g.replicas

-- A group that has ended, but for want of room, has printed all, and ends as that run does.
abbrev pub EndsWhole : InfRun → Group → Option GateAnswer → Type 0
EndsWhole run g (Some (Ended (Exit code))) = EndsAlike run g (Exit code)
EndsWhole run g (Some (Ended (Fault kind pc address))) = EndsAlike run g (Fault kind pc address)
EndsWhole run g (Some (Ended Budget)) = EndsAlike run g Budget
EndsWhole run g over = Unit {0}

pub record IsOutvoted (run : InfRun) (g : Group) : Type 0 where
  pub prints : PrintsPrefixes run g
  pub ends : EndsWhole run g g.over

-- Where the run is clear and more than half of the replicas are harmless, they outvote the others: under every schedule.
abbrev pub HarmlessHalvesDecide : Type 0
HarmlessHalvesDecide =
    (program : Loaded) (args : List (List ℕ)) (settings : Settings) (input : List ℕ) (budget count : ℕ) → IsGiven program args input → InLimits settings.patches
    → is_clear (inf_run program args input settings.zero budget) ≡ true
    → (schedule : List Event) (c : Course) → Follows input (started program args settings budget count) schedule c
    → IsHarmlessHalf program args settings input budget count c.rounds → IsOutvoted (inf_run program args input settings.zero budget) c.group
