-- The headline: where the run on the infinite heap is clear and covered, what is printed and answered is that run's.
use Rattle.std.specs.Prelude.{◌≡◌, ◌≢◌, ◌⊎◌, ◌<◌, ℕ, suc, true, List, ◌++◌, None, codes, length}
use Rattle.ex_io.specs.Causes.{IsPrefix}
use Rattle.ex_io.specs.Tape.{most_kept}
use Rattle.infinite_heap.specs.InfiniteRun.{InfRun, is_clear}
use Rattle.infinite_heap.specs.Objects.{Object}
use Rattle.simulation.specs.Agreement.{IsRoomed}
use Rattle.layout_run.specs.Clear.{ending_at, freed_count}
use Rattle.layout_run.specs.declared.ran.Ending.{Ending}
use Rattle.layout_run.specs.declared.ran.Ending.TheVariants.{Room}
use Rattle.exterm_cli.specs.Cases.{Accepts, Alone, Case, IsCoveredCase, Manner, Repaired, Replicated, run_of, run_after, flat_after}
use Rattle.exterm_cli.specs.Ends.{End, IsCaused, status_of}
use Rattle.exterm_cli.specs.Outside.{Seen}
use Rattle.exterm_cli.specs.Plan.{Plan, line}
use Rattle.exterm_cli.specs.Refusals.{long_input}
use Rattle.exterm_cli.specs.Shows.{Shows}
use Rattle.exterm_cli.specs.Replicate.{group_ending_text}
use Rattle.exterm_cli.specs.Report.{counts_text, ending_status, ending_text, images_text, report_of}
use Rattle.exterm_cli.specs.declared.report.HeapCounts.{HeapCounts}

-- the objects, those of them that were freed, and no broken canary
abbrev pub heap_counts : List Object → HeapCounts
heap_counts objects = record { allocations = length objects; frees = freed_count objects; signals = 0 }

-- the report of a run, or of a repair, which takes no image, or of replicas, of which none is retired
abbrev pub quiet_report : Manner → HeapCounts → Ending → (steps gate : ℕ) → List ℕ
quiet_report Alone counts ending steps gate = report_of counts ending steps
quiet_report Repaired counts ending steps gate = line (codes "heap " ++ counts_text counts) ++ (line (images_text 0 0 0) ++ line (ending_text ending steps))
quiet_report Replicated counts ending steps gate = line (group_ending_text ending gate)

-- all that the run prints, the status of this ending, and its report
abbrev pub quiet_plan : Case → InfRun → Ending → (gate : ℕ) → Plan
quiet_plan case run ending gate = record {
  status = ending_status ending;
  out = run.out;
  err = run.err;
  file = None;
  report = quiet_report case.manner (heap_counts run.state.objects) ending run.state.steps gate;
}

-- a plan but for the file that is written
abbrev pub without_file : Plan → Plan
without_file plan = record plan { file = None }

-- it ends as the run does, where replicas are run at this gate
abbrev pub whole_plan : Case → (address gate : ℕ) → Plan
whole_plan case address gate = quiet_plan case (run_of case) (ending_at address (run_of case).ending) gate

-- A heap call meets no room, the same one and with the same two numbers whatever the seed: what the run prints before it, and these numbers.
pub record IsWithoutRoom (case : Case) (plan : Plan) : Type 0 where
  -- the steps before that call
  pub made : ℕ
  pub within : made < case.budget
  pub used : ℕ
  pub wanted : ℕ
  pub meets : (seed : ℕ) → IsRoomed (flat_after seed case (suc made)) used wanted
  pub gate : ℕ
  pub is : without_file plan ≡ quiet_plan case (run_after case made) (Room used wanted) gate

-- a repair, and replicas, keep what they read, and that is too much: a prefix of what the run prints, and that line
pub record IsTooLong (case : Case) (plan : Plan) : Type 0 where
  pub keeps : case.manner ≢ Alone
  pub long : most_kept < length case.input
  pub out : IsPrefix plan.out (run_of case).out
  pub err : IsPrefix plan.err (run_of case).err
  pub status : plan.status ≡ long_input.status
  pub report : plan.report ≡ long_input.report

-- what is to be printed and answered, whatever is written to a file
abbrev pub IsPlanOf : Case → Plan → Type 0
IsPlanOf case plan = ((address : ℕ) × (gate : ℕ) × (without_file plan ≡ whole_plan case address gate)) ⊎ (IsWithoutRoom case plan ⊎ IsTooLong case plan)

-- that is done, or it is cut short for a cause
pub record Carries (case : Case) (before after : Seen) (status : ℕ) : Type 0 where
  pub plan : Plan
  pub planned : IsPlanOf case plan
  pub end : End
  pub told : status ≡ status_of end
  pub caused : IsCaused end before.faults after.faults
  pub shows : Shows plan end before after

abbrev pub Headline : List (List ℕ) → Seen → Seen → ℕ → Type 0
Headline words before after status = (case : Case) → Accepts words before case → is_clear (run_of case) ≡ true → IsCoveredCase case → Carries case before after status
