-- The command `run`: docs/program.md, "Order".
use Rattle.std.specs.Prelude.{◌≡◌, ℕ, List, Result, Ok, Err, Option, None, Some}
use Rattle.ex_io.specs.Files.{FileMap}
use Rattle.heap_image.specs.Snapshot.{Snapshot}
use Rattle.heap_image.specs.Spelling.{spelling}
use Rattle.heap_image.specs.Versions.{text_of}
use Rattle.heap_image.specs.declared.version.Version.TheVariants.{Two}
use Rattle.layout_run.specs.Whole.{ran_of}
use Rattle.layout_run.specs.declared.ran.Ran.{Ran}
use Rattle.rv_machine.specs.Flat.{Flat}
use Rattle.exterm_cli.specs.Accepted.{AcceptsGuest}
use Rattle.exterm_cli.specs.Counted.{word}
use Rattle.iterate.specs.Reruns.{Job, first_image, printed_run}
use Rattle.exterm_cli.specs.Plan.{Kept, Plan, Stage, Runs, Settles}
use Rattle.exterm_cli.specs.Report.{ended}
use Rattle.exterm_cli.specs.declared.report.HeapCounts.{HeapCounts}
use Rattle.exterm_cli.specs.declared.words.GuestWords.{GuestWords}

-- ---- the image's file

abbrev pub image_bytes : Snapshot → List ℕ
image_bytes s = spelling Two (text_of Two s.patches) s

-- where a file is named for an image and there is one
abbrev pub image_file : (name : Option (List ℕ)) → Option Snapshot → Option Kept
image_file None image = None
image_file (Some name) None = None
image_file (Some name) (Some s) = Some (record { name = name; bytes = image_bytes s })

-- ---- the run

-- the objects that were placed, the frees that took effect, and the broken canaries that were seen
abbrev pub counts_of : Ran → HeapCounts
counts_of ran = record { allocations = ran.clock; frees = ran.frees; signals = ran.signals }

abbrev pub reported : Flat → Ran → Plan
reported flat ran = ended flat.out flat.err (counts_of ran) ran.ending ran.steps

-- a run that was stopped nowhere, without a file
abbrev pub flat_plan : Flat → Plan
flat_plan flat = reported flat (ran_of None flat)

-- a run whose image is written before its report, where a file is named
abbrev pub imaged_plan : Flat → (image : Option (List ℕ)) → Snapshot → Plan
imaged_plan flat image s = record (flat_plan flat) { file = image_file image (Some s) }

-- a guest on this input
abbrev pub run_plan : Job → (image : Option (List ℕ)) → (input : List ℕ) → Plan
run_plan job image input = imaged_plan (printed_run job input) image (first_image job input)

-- ---- what the words lead to

-- the word at an index, where there is one
abbrev pub word_named : List (List ℕ) → Option ℕ → Option (List ℕ)
word_named words None = None
word_named words (Some at) = Some (word words at)

abbrev pub running : (image : Option (List ℕ)) → Result Job Plan → Stage
running image (Ok job) = Runs job image
running image (Err plan) = Settles plan

abbrev pub LeadsRun : List (List ℕ) → FileMap → GuestWords → (image : Option ℕ) → Stage → Type 0
LeadsRun words files g image stage = (accepted : Result Job Plan) × AcceptsGuest words files g accepted × (stage ≡ running (word_named words image) accepted)
