-- The command `isolate`: docs/program.md, "Isolate".
use Rattle.std.specs.Prelude.{◌≡◌, ℕ, List, length, slice_get, Result, Ok, Err, Option, None, Some}
use Rattle.ex_io.specs.Files.{FileMap}
use Rattle.heap_image.specs.Agreement.{IsRefused}
use Rattle.heap_image.specs.Snapshot.{Snapshot}
use Rattle.heap_image.specs.declared.agreement.IsoRefusal.{IsoRefusal}
use Rattle.heap_image.specs.declared.agreement.IsoRefusal.TheVariants as why
use Rattle.iterate.specs.Isolated.{IsIsolated}
use Rattle.culprits.specs.declared.isolated.Isolated.{Isolated}
use Rattle.patch_table.specs.Spelling.{spelling}
use Rattle.patch_table.specs.Table.{Table, no_patches}
use Rattle.patch_table.specs.declared.line.Version.TheVariants.{Two}
use Rattle.exterm_cli.specs.Plan.{Plan, Stage, Isolates, Settles, gives_to, reporting}
use Rattle.exterm_cli.specs.Refusals.{not_isolated}
use Rattle.exterm_cli.specs.Report.{images_text}
use Rattle.exterm_cli.specs.Run.{word_named}
use Rattle.exterm_cli.specs.Taking.{ReadsFiles, ReadsImage}
use Rattle.exterm_cli.specs.declared.words.FileWords.{FileWords}

-- ---- what words and files lead to

abbrev pub isolating : (to : Option (List ℕ)) → Result (List Snapshot) Plan → Stage
isolating to (Ok images) = Isolates images to
isolating to (Err plan) = Settles plan

abbrev pub LeadsIsolate : List (List ℕ) → FileMap → FileWords → Stage → Type 0
LeadsIsolate words files names stage =
    (read : Result (List Snapshot) Plan) × ReadsFiles ReadsImage words files names.count names.first 1 read × (stage ≡ isolating (word_named words names.out) read)

-- ---- what images lead to

abbrev pub patches_in : Option Snapshot → Table
patches_in None = no_patches
patches_in (Some image) = image.patches

-- the patches that the runs of all these images had, where they are the same: those of the first
abbrev pub patches_of : List Snapshot → Table
patches_of images = patches_in (slice_get images 0)

-- what images call for beside the patches that their runs had, or why they can't be compared
abbrev pub IsolatesAs : List Snapshot → Result Isolated IsoRefusal → Type 0
IsolatesAs images (Ok isolated) = IsIsolated images (patches_of images) isolated
IsolatesAs images (Err why.Few) = IsRefused images why.Few
IsolatesAs images (Err why.Mixed) = IsRefused images why.Mixed
IsolatesAs images (Err why.Memory) = ⊥

-- the text of the patches on out or in a file, and a line on how many images, sites and pairs of sites there were
abbrev pub isolation : (to : Option (List ℕ)) → (images : ℕ) → Result Isolated IsoRefusal → Plan
isolation to images (Ok isolated) = reporting (images_text images isolated.pads isolated.defers) (gives_to to (spelling Two isolated.patches))
isolation to images (Err refused) = not_isolated refused

abbrev pub IsIsolation : List Snapshot → (to : Option (List ℕ)) → Plan → Type 0
IsIsolation images to plan = (isolated : Result Isolated IsoRefusal) × IsolatesAs images isolated × (plan ≡ isolation to (length images) isolated)
