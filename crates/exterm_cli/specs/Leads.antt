-- What the words and the files lead to: a row for each command.
use Rattle.std.specs.Prelude.{◌≡◌, ℕ, List, Result, Ok, Err}
use Rattle.ex_io.specs.Files.{FileMap}
use Rattle.exterm_cli.specs.Isolate.{LeadsIsolate}
use Rattle.exterm_cli.specs.Made.{make_stage, trial_stage}
use Rattle.exterm_cli.specs.Merge.{LeadsMerge}
use Rattle.exterm_cli.specs.Plan.{Stage, Settles}
use Rattle.exterm_cli.specs.Refusals.{unbuilt, wrong_words}
use Rattle.exterm_cli.specs.Repair.{LeadsRepair}
use Rattle.exterm_cli.specs.Replicate.{LeadsReplicate}
use Rattle.exterm_cli.specs.Run.{LeadsRun}
use Rattle.exterm_cli.specs.Show.{LeadsShow}
use Rattle.exterm_cli.specs.Words.{words_of}
use Rattle.exterm_cli.specs.declared.words.Command.{Command}
use Rattle.exterm_cli.specs.declared.words.Command.TheVariants as command
use Rattle.exterm_cli.specs.declared.words.Refusal.{Refusal}

abbrev pub LeadsCommand : List (List ℕ) → FileMap → Result Command Refusal → Stage → Type 0
LeadsCommand words files (Ok (command.Run g image)) stage = LeadsRun words files g image stage
LeadsCommand words files (Ok (command.Repair g images to)) stage = LeadsRepair words files g images to stage
LeadsCommand words files (Ok (command.Replicate g replicas quantum to)) stage = LeadsReplicate words files g replicas to stage
LeadsCommand words files (Ok (command.Show at)) stage = LeadsShow words files at stage
LeadsCommand words files (Ok (command.Merge names)) stage = LeadsMerge words files names stage
LeadsCommand words files (Ok (command.Isolate names)) stage = LeadsIsolate words files names stage
LeadsCommand words files (Ok (command.Make n to)) stage = stage ≡ make_stage words n to
LeadsCommand words files (Ok (command.Trial n seed)) stage = stage ≡ trial_stage n seed
LeadsCommand words files (Ok other) stage = stage ≡ Settles unbuilt
LeadsCommand words files (Err refused) stage = stage ≡ Settles (wrong_words refused)

abbrev pub Leads : List (List ℕ) → FileMap → Stage → Type 0
Leads words files stage = LeadsCommand words files (words_of words) stage
