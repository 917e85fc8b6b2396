-- What a whole run comes to where the run on the infinite heap is clear and its patches cover it: docs/infinite-run.md, "What a run comes to".
use Rattle.std.specs.Prelude.{ℕ, suc, ◌≡◌, ◌<◌, ◌≤◌, ◌⊎◌, true, List, length, count_by, Option, Some, None, is_some, Result, Ok, Err}
use Rattle.std.specs.Io.KnownBytes.{Appends}
use Rattle.ex_io.specs.Causes.{AppendsFront, IsPrefix}
use Rattle.infinite_heap.specs.Covered.{IsCoveredRun}
use Rattle.infinite_heap.specs.InfiniteRun.{InfRun, InfEnding, InfExit, InfFault, InfBlur, inf_run, is_clear}
use Rattle.infinite_heap.specs.Loaded.{Loaded}
use Rattle.infinite_heap.specs.Objects.{Object}
use Rattle.patch_table.specs.Limits.{InLimits}
use Rattle.rv_machine.specs.declared.settings.Settings.{Settings}
use Rattle.rv_machine.specs.Cures.{cures_of}
use Rattle.rv_machine.specs.Flat.{Flat, flat_run}
use Rattle.simulation.specs.Agreement.{IsRoomed, IsGiven}
use Rattle.simulation.specs.Rooms.{seeded}
use Rattle.layout_run.specs.declared.ran.Ending.{Ending}
use Rattle.layout_run.specs.declared.ran.Ending.TheVariants.{Exit, Fault, Budget, Room, Stopped}
use Rattle.layout_run.specs.declared.ran.Ran.{Ran}
use Rattle.layout_run.specs.declared.ran.RunRefusal.{RunRefusal}
use Rattle.layout_run.specs.Imaged.{with_image}
use Rattle.layout_run.specs.Outside.{Held}
use Rattle.layout_run.specs.Whole.{ran_of, run_until}

-- Of at most so many steps, the run on the infinite heap is clear, and the patches cover each of its records. The seed plays no part.
pub record IsClearRun (program : Loaded) (args : List (List ℕ)) (settings : Settings) (input : List ℕ) (budget : ℕ) : Type 0 where
  pub given : IsGiven program args input
  pub limits : InLimits settings.patches
  pub clear : is_clear (inf_run program args input settings.zero budget) ≡ true
  pub covered : IsCoveredRun (cures_of settings.patches) program args input settings.zero budget

-- The step behind so many is a heap call that meets no room, with these two numbers, whatever the seed.
abbrev pub MeetsNoRoom : Loaded → (args : List (List ℕ)) → Settings → (input : List ℕ) → (made used wanted : ℕ) → Type 0
MeetsNoRoom program args settings input made used wanted = (seed : ℕ) → IsRoomed (flat_run program args (seeded seed settings) input (suc made)) used wanted

-- ---- what it comes to

-- how a guest ends whose run on the infinite heap ends so: the address of a fault is its own. A clear run ends in no blur
abbrev pub ending_at : (address : ℕ) → Option InfEnding → Ending
ending_at address (Some (InfExit code)) = Exit code
ending_at address (Some (InfFault kind pc)) = Fault kind pc address
ending_at address (Some (InfBlur why pc)) = Stopped
ending_at address None = Budget

-- the objects that were freed
abbrev pub freed_count : List Object → ℕ
freed_count objects = count_by (λ o. is_some o.freed) objects

-- the counts of the run on the infinite heap, and no signal
abbrev pub quiet_ran : InfRun → Ending → Ran
quiet_ran run ending = record { ending = ending; steps = run.state.steps; clock = length run.state.objects; frees = freed_count run.state.objects; signals = 0; first = None; image = None }

-- the guest printed what the run on the infinite heap prints, and comes to this
pub record ComesTo (run : InfRun) (ending : Ending) (flat : Flat) : Type 0 where
  pub out : flat.out ≡ run.out
  pub err : flat.err ≡ run.err
  pub ran : ran_of None flat ≡ quiet_ran run ending

-- it ends as that run does
pub record EndsAlike (run : InfRun) (flat : Flat) : Type 0 where
  pub address : ℕ
  pub comes : ComesTo run (ending_at address run.ending) flat

-- A heap call meets no room, the same one and with the same two numbers under every seed. Up to there the guest does what the run on the infinite
-- heap does.
pub record EndsWithoutRoom (program : Loaded) (args : List (List ℕ)) (settings : Settings) (input : List ℕ) (budget : ℕ) (flat : Flat) : Type 0 where
  -- the steps before that call
  pub made : ℕ
  pub within : made < budget
  pub used : ℕ
  pub wanted : ℕ
  pub meets : MeetsNoRoom program args settings input made used wanted
  pub comes : ComesTo (inf_run program args input settings.zero made) (Room used wanted) flat

abbrev pub EndsClear : Loaded → (args : List (List ℕ)) → Settings → (input : List ℕ) → (budget : ℕ) → Flat → Type 0
EndsClear program args settings input budget flat = EndsAlike (inf_run program args input settings.zero budget) flat ⊎ EndsWithoutRoom program args settings input budget flat

-- Whatever the seed, a clear run that its patches cover ends so.
abbrev pub ClearRunsMatch : Type 0
ClearRunsMatch =
    (program : Loaded) (args : List (List ℕ)) (settings : Settings) (input : List ℕ) (budget : ℕ) → IsClearRun program args settings input budget
    → EndsClear program args settings input budget (flat_run program args settings input budget)

-- What it has printed at any time is a prefix of that run's bytes.
abbrev pub ClearRunsPrintPrefixes : Type 0
ClearRunsPrintPrefixes =
    (program : Loaded) (args : List (List ℕ)) (settings : Settings) (input : List ℕ) (budget made : ℕ) → IsClearRun program args settings input budget → made ≤ budget
    → IsPrefix (run_until program args settings input None made).out (inf_run program args input settings.zero budget).out
    × IsPrefix (run_until program args settings input None made).err (inf_run program args input settings.zero budget).err

-- ---- of a run that was carried out, or cut short

-- it comes to this, but for an image, and has printed that run's bytes
pub record RanAs (run : InfRun) (ending : Ending) (ran : Ran) (before after : Held) : Type 0 where
  pub is : with_image None ran ≡ quiet_ran run ending
  pub out : Appends before.out after.out run.out
  pub err : Appends before.err after.err run.err

pub record RanAlike (run : InfRun) (ran : Ran) (before after : Held) : Type 0 where
  pub address : ℕ
  pub runs : RanAs run (ending_at address run.ending) ran before after

pub record RanWithoutRoom (program : Loaded) (args : List (List ℕ)) (settings : Settings) (input : List ℕ) (budget : ℕ) (ran : Ran) (before after : Held) : Type 0 where
  pub made : ℕ
  pub within : made < budget
  pub used : ℕ
  pub wanted : ℕ
  pub meets : MeetsNoRoom program args settings input made used wanted
  pub runs : RanAs (inf_run program args input settings.zero made) (Room used wanted) ran before after

-- a run that was cut short has printed prefixes of that run's bytes
abbrev pub RunsClear : Loaded → (args : List (List ℕ)) → Settings → (input : List ℕ) → (budget : ℕ) → Result Ran RunRefusal → (before after : Held) → Type 0
RunsClear program args settings input budget (Ok ran) before after =
    RanAlike (inf_run program args input settings.zero budget) ran before after ⊎ RanWithoutRoom program args settings input budget ran before after
RunsClear program args settings input budget (Err refused) before after =
    AppendsFront before.out after.out (inf_run program args input settings.zero budget).out × AppendsFront before.err after.err (inf_run program args input settings.zero budget).err
