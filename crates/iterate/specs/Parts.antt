-- What the parts of a repair do: docs/repair.md, "Runs".
use Rattle.std.specs.Prelude.{◌≡◌, ◌<◌, ℕ, true, false, List, Option, Some, Result, Ok, Err, IfSome}
use Rattle.ex_io.specs.Tape.{Track, most_kept, input as unread}
use Rattle.infinite_heap.specs.Loaded.{Loaded}
use Rattle.patch_table.specs.Table.{Table}
use Rattle.rv_machine.specs.declared.settings.Settings.{Settings}
use Rattle.heap_image.specs.Agreement.{AreMixed}
use Rattle.heap_image.specs.Snapshot.{Snapshot}
use Rattle.layout_run.specs.Advances.{CutsInput}
use Rattle.layout_run.specs.declared.ran.Ran.{Ran}
use Rattle.layout_run.specs.declared.ran.RunRefusal.TheVariants as why
use Rattle.iterate.specs.declared.repairing.Repaired.{Repaired}
use Rattle.iterate.specs.declared.repairing.RepairRefusal.{RepairRefusal}
use Rattle.iterate.specs.declared.repairing.RepairRefusal.TheVariants.{Run, Mixed}
use Rattle.iterate.specs.Reruns.{Job, furthest}
use Rattle.iterate.specs.Isolated.{IsIsolated}
use Rattle.iterate.specs.Repairs.{IsMixed, IsRepaired, isolated_in}

-- ---- the input

-- the tape keeps all of the input, and no read of it was refused
pub record IsWhole (track : Track) : Type 0 where
  pub keep : track.keep ≡ true
  pub going : track.refused ≡ false

-- the input is as it was
abbrev pub InputIsSame : (old new : Track) → (left left' : Option (List ℕ)) → Type 0
InputIsSame old new left left' = IfSome (unread old left) (λ bytes. unread new left' ≡ Some bytes)

-- ---- what follows the run that prints

abbrev pub job_of : Loaded → (args : List (List ℕ)) → Settings → (budget : ℕ) → Job
job_of program args settings budget = record { program = program; args = args; settings = settings; budget = budget }

-- It comes to what the images call for, and the tape is read up to the furthest place of the runs, or some run reads past the
-- most that is kept.
abbrev pub Settles : Job → (input : List ℕ) → (count : ℕ) → Result Repaired RepairRefusal → (high : ℕ) → Type 0
Settles job input count (Ok r) high = IsRepaired job input count r × (high ≡ furthest job input count)
Settles job input count (Err Mixed) high = IsMixed job input count × (high ≡ furthest job input count)
Settles job input count (Err (Run why.Input)) high = most_kept < furthest job input count
Settles job input count (Err (Run refused)) high = Unit {0}

-- after a refusal of the images, and where there is none, the tape goes on
abbrev pub IsStillWhole : Result Repaired RepairRefusal → Track → Type 0
IsStillWhole (Err (Run refused)) track = Unit {0}
IsStillWhole done track = IsWhole track

abbrev pub InputStaysSame : Result Repaired RepairRefusal → (old new : Track) → (left left' : Option (List ℕ)) → Type 0
InputStaysSame (Err (Run refused)) old new left left' = Unit {0}
InputStaysSame done old new left left' = InputIsSame old new left left'

-- it comes to what these images call for
abbrev pub SettlesBy : (images : List Snapshot) → (old : Table) → (count : ℕ) → Ran → Result Repaired RepairRefusal → Type 0
SettlesBy images old count ran (Ok r) = (r.ran ≡ ran) × (r.images ≡ count) × IsIsolated images old (isolated_in r)
SettlesBy images old count ran (Err Mixed) = AreMixed images
SettlesBy images old count ran (Err (Run why.Memory)) = Unit {0}
SettlesBy images old count ran (Err (Run refused)) = ⊥

-- the source's count rose where it failed, and else it stayed
abbrev pub CutsRest : Result Repaired RepairRefusal → (before now : ℕ) → Type 0
CutsRest (Ok r) before now = now ≡ before
CutsRest (Err Mixed) before now = now ≡ before
CutsRest (Err (Run refused)) before now = CutsInput {T = Repaired} (Err refused) before now
