-- What the top call does: what is planned, or it is cut short by a cause.
use Rattle.std.specs.Prelude.{◌≡◌, ◌⊎◌, [], ℕ, List, Option, None, Some, IfSome}
use Rattle.ex_io.specs.Files.{FileMap, OthersStay, with_file}
use Rattle.exterm_cli.specs.Ends.{End, Done, Stops, Printing, Keeping, IsCaused, status_of}
use Rattle.exterm_cli.specs.Leads.{Leads}
use Rattle.exterm_cli.specs.Outside.{Seen}
use Rattle.exterm_cli.specs.Plan.{Kept, Plan, Stage, Isolates, Settles}
use Rattle.exterm_cli.specs.Shows.{Shows}
use Rattle.exterm_cli.specs.Stages.{IsThePlan, LeavesInput, MayWrite, PrintsAtMost, written_name}
use Rattle.exterm_cli.specs.declared.cut.Cut.{Cut}

-- The files afterwards: the one that is planned is written before the report, and nothing else changes. Of a file that
-- failed to be kept nothing is known.
abbrev pub Keeps : Option Kept → End → (old : FileMap) → (new : Option FileMap) → Type 0
Keeps kept (Stops Printing cause answer) old new = new ≡ Some old
Keeps None (Stops Keeping cause answer) old new = ⊥
Keeps (Some kept) (Stops Keeping cause answer) old None = ⊥
Keeps (Some kept) (Stops Keeping cause answer) old (Some new) = OthersStay old new kept.name
Keeps None end old new = new ≡ Some old
Keeps (Some kept) end old new = new ≡ Some (with_file old kept.name kept.bytes)

abbrev pub Does : Plan → End → FileMap → Seen → Seen → Type 0
Does plan end files before after = Shows plan end before after × Keeps plan.file end files after.files

-- the one thing that a stage comes to on an input is done
pub record DoesPlanned (stage : Stage) (input : List ℕ) (end : End) (files : FileMap) (before after : Seen) : Type 0 where
  pub plan : Plan
  pub is : IsThePlan stage input plan
  pub does : Does plan end files before after

-- it was cut short before all of it was printed
pub record CutsPrinting (stage : Stage) (input : List ℕ) (end : End) (files : FileMap) (before after : Seen) : Type 0 where
  pub most : Plan
  pub at_most : PrintsAtMost stage input most
  pub cause : Cut
  pub answer : Cut
  pub is : end ≡ Stops Printing cause answer
  pub does : Does most (Stops Printing cause answer) files before after

abbrev pub DoesOn : Stage → (input : List ℕ) → End → FileMap → Seen → Seen → Type 0
DoesOn stage input end files before after = DoesPlanned stage input end files before after ⊎ CutsPrinting stage input end files before after

abbrev pub Leaves : Stage → (input : List ℕ) → End → (left : Option (List ℕ)) → Type 0
Leaves stage input (Done status) left = LeavesInput stage input left
Leaves stage input (Stops point cause answer) left = Unit {0}

-- What the words and the files settle leaves the input as it was. Of an input that isn't told, only which file may be
-- written is known.
abbrev pub DoesStage : Stage → Option (List ℕ) → End → FileMap → Seen → Seen → Type 0
DoesStage (Settles plan) left end files before after = Does plan end files before after × (after.left ≡ left)
DoesStage (Isolates images to) left end files before after = DoesOn (Isolates images to) [] end files before after × (after.left ≡ left)
DoesStage stage (Some input) end files before after = DoesOn stage input end files before after × Leaves stage input end after.left
DoesStage stage None end files before after = MayWrite (written_name stage) files after.files

-- where the folder tells its files, there is one stage that words and files lead to
pub record DoesAll (words : List (List ℕ)) (files : FileMap) (end : End) (before after : Seen) : Type 0 where
  pub stage : Stage
  pub leads : Leads words files stage
  pub only : (other : Stage) → Leads words files other → other ≡ stage
  pub does : DoesStage stage before.left end files before after

pub record Answers (words : List (List ℕ)) (before after : Seen) (status : ℕ) : Type 0 where
  pub end : End
  pub told : status ≡ status_of end
  pub caused : IsCaused end before.faults after.faults
  pub does : IfSome before.files (λ files. DoesAll words files end before after)
