-- The command `repair`: docs/program.md, "Repair".
use Rattle.std.specs.Prelude.{◌≡◌, ◌<◌, ◌≤◌, ◌⊎◌, ℕ, List, ◌++◌, Result, Ok, Err, None, Some, codes}
use Rattle.ex_io.specs.Files.{FileMap}
use Rattle.ex_io.specs.Tape.{most_kept}
use Rattle.patch_table.specs.Spelling.{spelling}
use Rattle.patch_table.specs.declared.line.Version.TheVariants.{Two}
use Rattle.rv_machine.specs.Flat.{Flat}
use Rattle.iterate.specs.Repairs.{IsMixed, IsRepaired}
use Rattle.iterate.specs.Reruns.{Job, furthest, printed_run}
use Rattle.layout_run.specs.Runs.{ReachesLimit}
use Rattle.layout_run.specs.Whole.{run_until}
use Rattle.iterate.specs.declared.repairing.Repaired.{Repaired}
use Rattle.exterm_cli.specs.Accepted.{AcceptsGuest}
use Rattle.exterm_cli.specs.Counted.{word}
use Rattle.exterm_cli.specs.Plan.{Plan, Stage, Repairs, Settles, line}
use Rattle.exterm_cli.specs.Refusals.{long_input, mixed_images}
use Rattle.exterm_cli.specs.Report.{counts_text, ending_status, ending_text, images_text}
use Rattle.exterm_cli.specs.Run.{counts_of}
use Rattle.exterm_cli.specs.declared.words.GuestWords.{GuestWords}

-- ---- what a repair comes to

abbrev pub repair_report : Repaired → List ℕ
repair_report r = line (codes "heap " ++ counts_text (counts_of r.ran)) ++ (line (images_text r.images r.pads r.defers) ++ line (ending_text r.ran.ending r.ran.steps))

-- the run's bytes are printed, the table is written, and both are reported
abbrev pub repaired_plan : Flat → (to : List ℕ) → Repaired → Plan
repaired_plan flat to r = record {
  status = ending_status r.ran.ending;
  out = flat.out;
  err = flat.err;
  file = Some (record { name = to; bytes = spelling Two r.patches });
  report = repair_report r;
}

-- the run's bytes are printed, and its images can't be compared
abbrev pub mixed_plan : Flat → Plan
mixed_plan flat = record mixed_images { out = flat.out; err = flat.err }

-- more of the input is read than is kept: what the run has printed by then stays, and that is told
abbrev pub cut_plan : Flat → Plan
cut_plan flat = record long_input { out = flat.out; err = flat.err }

-- ---- on an input

abbrev pub ComesToRepaired : Job → (images : ℕ) → (to input : List ℕ) → Plan → Type 0
ComesToRepaired job images to input plan = (r : Repaired) × IsRepaired job input images r × (plan ≡ repaired_plan (printed_run job input) to r)

abbrev pub ComesToMixed : Job → (images : ℕ) → (input : List ℕ) → Plan → Type 0
ComesToMixed job images input plan = IsMixed job input images × (plan ≡ mixed_plan (printed_run job input))

-- the run that prints reads more than is kept, behind so many steps
abbrev pub ComesToLimit : Job → (input : List ℕ) → Plan → Type 0
ComesToLimit job input plan = (made : ℕ) × ReachesLimit (run_until job.program job.args job.settings input None) job.budget made × (plan ≡ cut_plan (run_until job.program job.args job.settings input None made))

-- or a run after it does
abbrev pub ComesToLimitLater : Job → (images : ℕ) → (input : List ℕ) → Plan → Type 0
ComesToLimitLater job images input plan = ((printed_run job input).place ≤ most_kept) × (most_kept < furthest job input images) × (plan ≡ cut_plan (printed_run job input))

abbrev pub repair_plans : Job → (images : ℕ) → (to input : List ℕ) → Plan → Type 0
repair_plans job images to input plan =
    (ComesToLimit job input plan ⊎ ComesToLimitLater job images input plan)
    ⊎ ((furthest job input images ≤ most_kept) × (ComesToRepaired job images to input plan ⊎ ComesToMixed job images input plan))

-- ---- what the words lead to

abbrev pub repairing : (images : ℕ) → (to : List ℕ) → Result Job Plan → Stage
repairing images to (Ok job) = Repairs job images to
repairing images to (Err plan) = Settles plan

abbrev pub LeadsRepair : List (List ℕ) → FileMap → GuestWords → (images to : ℕ) → Stage → Type 0
LeadsRepair words files g images to stage = (accepted : Result Job Plan) × AcceptsGuest words files g accepted × (stage ≡ repairing images (word words to) accepted)
