-- What a repair gives, whole or cut short: docs/repair.md.
use Rattle.std.specs.Prelude.{◌≡◌, ◌≢◌, ◌⊎◌, ◌<◌, ◌≤◌, ℕ, List, drop, Option, Some, None, Result, Ok, Err}
use Rattle.std.specs.Io.KnownBytes.{Appends}
use Rattle.ex_io.specs.Causes.{AppendsFront}
use Rattle.ex_io.specs.Tape.{most_kept}
use Rattle.exact_heap.specs.declared.signal.Place.{Place}
use Rattle.heap_image.specs.Agreement.{AreMixed}
use Rattle.layout_run.specs.Outside.{Faults, Held}
use Rattle.layout_run.specs.Runs.{CutsRun, MayFail, StopsAtLimit}
use Rattle.layout_run.specs.Whole.{run_until}
use Rattle.layout_run.specs.declared.ran.RunRefusal.TheVariants as why
use Rattle.culprits.specs.declared.isolated.Isolated.{Isolated}
use Rattle.iterate.specs.declared.repairing.Repaired.{Repaired}
use Rattle.iterate.specs.declared.repairing.RepairRefusal.{RepairRefusal}
use Rattle.iterate.specs.declared.repairing.RepairRefusal.TheVariants.{Run, Mixed}
use Rattle.iterate.specs.Isolated.{IsIsolated}
use Rattle.iterate.specs.Reruns.{Job, furthest, printed_run, printed_ran, images_of}

-- what was isolated, and the table that comes of it
abbrev pub isolated_in : Repaired → Isolated
isolated_in r = record { patches = r.patches; pads = r.pads; defers = r.defers }

-- without a signal no image is taken and the patches stay
abbrev pub IsCured : Job → (input : List ℕ) → (count : ℕ) → (first : Option Place) → Repaired → Type 0
IsCured job input count None r = (r.images ≡ 0) × (isolated_in r ≡ record { patches = job.settings.patches; pads = 0; defers = 0 })
IsCured job input count (Some place) r = (r.images ≡ count) × IsIsolated (images_of job input count) job.settings.patches (isolated_in r)

pub record IsRepaired (job : Job) (input : List ℕ) (count : ℕ) (r : Repaired) : Type 0 where
  pub ran : r.ran ≡ printed_ran job input
  pub cured : IsCured job input count (printed_ran job input).first r

-- the images can't be compared: some run ended before it came to the place of the first image
pub record IsMixed (job : Job) (input : List ℕ) (count : ℕ) : Type 0 where
  pub signalled : (printed_ran job input).first ≢ None
  pub mixed : AreMixed (images_of job input count)

-- all that the run prints stands on the sinks, and nothing else
abbrev pub PrintsAll : Job → (input : List ℕ) → (before after : Held) → Type 0
PrintsAll job input before after = Appends before.out after.out (printed_run job input).out × Appends before.err after.err (printed_run job input).err

-- More of the input is read than is kept: by the run that prints, which is cut short there, or by a run after it.
abbrev pub CutsAtLimit : Job → (input : List ℕ) → (count : ℕ) → (before after : Held) → Type 0
CutsAtLimit job input count before after =
    StopsAtLimit (run_until job.program job.args job.settings input None) job.budget before after
    ⊎ (((printed_run job input).place ≤ most_kept) × (most_kept < furthest job input count) × PrintsAll job input before after)

-- The runs after the first print nothing.
abbrev pub Repairs : Job → (input : List ℕ) → (count : ℕ) → Result Repaired RepairRefusal → (before after : Held) → Type 0
Repairs job input count (Ok r) before after = (furthest job input count ≤ most_kept) × IsRepaired job input count r × PrintsAll job input before after
Repairs job input count (Err Mixed) before after = (furthest job input count ≤ most_kept) × IsMixed job input count × PrintsAll job input before after
Repairs job input count (Err (Run why.Input)) before after = CutsAtLimit job input count before after
Repairs job input count (Err (Run refused)) before after =
    AppendsFront before.out after.out (printed_run job input).out × AppendsFront before.err after.err (printed_run job input).err × MayFail refused (printed_run job input)

-- of the input there is left what is behind the furthest place of the runs
abbrev pub LeavesInput : Job → (input : List ℕ) → (count : ℕ) → Result Repaired RepairRefusal → (left : Option (List ℕ)) → Type 0
LeavesInput job input count (Err (Run refused)) left = Unit {0}
LeavesInput job input count done left = left ≡ Some (drop (furthest job input count) input)

-- a count rose where its object is named, and else it stayed
abbrev pub CutsRepair : Result Repaired RepairRefusal → (before after : Faults) → Type 0
CutsRepair (Ok r) before after = after ≡ before
CutsRepair (Err Mixed) before after = after ≡ before
CutsRepair (Err (Run refused)) before after = CutsRun {T = Repaired} (Err refused) before after
