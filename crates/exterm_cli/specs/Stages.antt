-- What a stage comes to on an input: docs/program.md, "Order".
use Rattle.std.specs.Prelude.{◌≡◌, ◌≤◌, ℕ, List, drop, Option, None, Some}
use Rattle.ex_io.specs.Files.{FileMap, OthersStay}
use Rattle.ex_io.specs.Tape.{most_kept}
use Rattle.iterate.specs.Reruns.{furthest, printed_run}
use Rattle.replicate.specs.Groups.{Group}
use Rattle.replicate.specs.Runs.{ComesTo}
use Rattle.replicate.specs.Runs.{furthest as furthest_of_group}
use Rattle.replicate.specs.declared.answer.GateAnswer.{GateAnswer}
use Rattle.exterm_cli.specs.Isolate.{IsIsolation}
use Rattle.exterm_cli.specs.Plan.{Kept, Plan, Stage, Isolates, Repairs, Replicates, Runs, Settles, nothing}
use Rattle.exterm_cli.specs.Repair.{repair_plans}
use Rattle.exterm_cli.specs.Replicate.{gates_print, group_of, replicate_plans}
use Rattle.exterm_cli.specs.Run.{flat_plan, run_plan}

abbrev pub PlansOn : Stage → (input : List ℕ) → Plan → Type 0
PlansOn (Settles settled) input plan = plan ≡ settled
PlansOn (Runs job image) input plan = plan ≡ run_plan job image input
PlansOn (Repairs job images to) input plan = repair_plans job images to input plan
PlansOn (Replicates job replicas to) input plan = replicate_plans job replicas to input plan
PlansOn (Isolates images to) input plan = IsIsolation images to plan

-- it comes to this and to nothing else
pub record IsThePlan (stage : Stage) (input : List ℕ) (plan : Plan) : Type 0 where
  pub comes : PlansOn stage input plan
  pub only : (other : Plan) → PlansOn stage input other → other ≡ plan

-- What is printed at most, where a stage is cut short before all of it is printed: of replicas, what was voted by some gate and what the
-- next one prints.
abbrev pub PrintsAtMost : Stage → (input : List ℕ) → Plan → Type 0
PrintsAtMost (Settles settled) input plan = plan ≡ settled
PrintsAtMost (Runs job image) input plan = plan ≡ run_plan job image input
PrintsAtMost (Repairs job images to) input plan = plan ≡ flat_plan (printed_run job input)
PrintsAtMost (Replicates job replicas to) input plan = gates_print job replicas input plan
PrintsAtMost (Isolates images to) input plan = plan ≡ nothing

-- What is left of the input where a call isn't cut short: what is behind the guest's place, or behind the furthest of the runs of a
-- repair, or of the replicas, which read no more than is kept.
abbrev pub LeavesInput : Stage → (input : List ℕ) → (left : Option (List ℕ)) → Type 0
LeavesInput (Runs job image) input left = left ≡ Some (drop (printed_run job input).place input)
LeavesInput (Repairs job images to) input left = furthest job input images ≤ most_kept → left ≡ Some (drop (furthest job input images) input)
LeavesInput (Replicates job replicas to) input left = (g : Group) (over : GateAnswer) → ComesTo input (group_of job replicas) g over → left ≡ Some (drop (furthest_of_group g) input)
LeavesInput stage input left = left ≡ Some input

-- ---- files, whatever the input is

abbrev pub name_of : Option Kept → Option (List ℕ)
name_of None = None
name_of (Some kept) = Some kept.name

-- the file that may be written
abbrev pub written_name : Stage → Option (List ℕ)
written_name (Settles plan) = name_of plan.file
written_name (Runs job image) = image
written_name (Repairs job images to) = Some to
written_name (Replicates job replicas to) = to
written_name (Isolates images to) = to

-- nothing but that file changes
abbrev pub MayWrite : (name : Option (List ℕ)) → (old : FileMap) → (new : Option FileMap) → Type 0
MayWrite name old None = ⊥
MayWrite None old (Some new) = new ≡ old
MayWrite (Some name) old (Some new) = OthersStay old new name
