-- What an accepted call runs: docs/program.md, "What exterm promises".
use Rattle.std.specs.Prelude.{◌≡◌, ℕ, ◌≤◌, Bool, List, length, Ok, Option, None, Some}
use Rattle.ex_io.specs.Files.{FileMap, most_taken}
use Rattle.infinite_heap.specs.Covered.{IsCoveredRun}
use Rattle.infinite_heap.specs.Elf.{program_of}
use Rattle.infinite_heap.specs.InfiniteRun.{InfRun, inf_run}
use Rattle.infinite_heap.specs.Loaded.{Loaded}
use Rattle.patch_table.specs.Grammar.{IsPatchText}
use Rattle.patch_table.specs.Table.{Table, no_patches}
use Rattle.rv_machine.specs.declared.settings.Settings.{Settings}
use Rattle.rv_machine.specs.Cures.{cures_of}
use Rattle.rv_machine.specs.Flat.{Flat, flat_run}
use Rattle.exterm_cli.specs.Counted.{args_of, word}
use Rattle.exterm_cli.specs.Outside.{Seen}
use Rattle.exterm_cli.specs.Words.{words_of}
use Rattle.exterm_cli.specs.declared.words.Command.{Command}
use Rattle.exterm_cli.specs.declared.words.Command.TheVariants as command
use Rattle.exterm_cli.specs.declared.words.GuestWords.{GuestWords}

-- how it is run
pub data Manner : Type 0 where
  Alone : Manner
  Repaired : Manner
  Replicated : Manner

-- What is run: a program with its arguments and input, the patches, whether objects begin with zeros, and the most steps. It is run alone,
-- or repaired, or by several replicas.
pub record Case : Type 0 where
  pub program : Loaded
  pub args : List (List ℕ)
  pub input : List ℕ
  pub patches : Table
  pub zero : Bool
  pub budget : ℕ
  pub manner : Manner

-- its run on the infinite heap, which has no seed, no patches and no addresses
abbrev pub run_after : Case → ℕ → InfRun
run_after case n = inf_run case.program case.args case.input case.zero n

abbrev pub run_of : Case → InfRun
run_of case = run_after case case.budget

-- what a guest is set to under this seed
abbrev pub seeded_by : (seed : ℕ) → Case → Settings
seeded_by seed case = record { seed = seed; zero = case.zero; patches = case.patches }

-- the guest under this seed, after so many steps
abbrev pub flat_after : (seed : ℕ) → Case → ℕ → Flat
flat_after seed case n = flat_run case.program case.args (seeded_by seed case) case.input n

-- its patches cover each access
abbrev pub IsCoveredCase : Case → Type 0
IsCoveredCase case = IsCoveredRun (cures_of case.patches) case.program case.args case.input case.zero case.budget

-- a file of a folder that may be taken
abbrev pub IsFile : FileMap → (name file : List ℕ) → Type 0
IsFile files name file = (files name ≡ Some file) × (length file ≤ most_taken)

-- the table that a run goes by: that of its patch file, or an empty one
abbrev pub GivesTable : List (List ℕ) → FileMap → Option ℕ → Table → Type 0
GivesTable words files None table = table ≡ no_patches
GivesTable words files (Some at) table = (text : List ℕ) × IsFile files (word words at) text × IsPatchText text table

-- the command runs the guest of these words in this manner, whatever else it asks for
abbrev pub Asks : Manner → GuestWords → Command → Type 0
Asks Alone guest (command.Run g image) = g ≡ guest
Asks Repaired guest (command.Repair g images to) = g ≡ guest
Asks Replicated guest (command.Replicate g replicas quantum to) = g ≡ guest
Asks manner guest other = ⊥

-- the words and the files are accepted and give this case, with any seed
pub record Accepts (words : List (List ℕ)) (before : Seen) (case : Case) : Type 0 where
  pub files : FileMap
  pub guest : GuestWords
  pub asked : Command
  pub file : List ℕ
  pub tells : before.files ≡ Some files
  pub read : words_of words ≡ Ok asked
  pub asks : Asks case.manner guest asked
  pub found : IsFile files (word words guest.elf) file
  pub loads : program_of file ≡ Ok case.program
  pub given : case.args ≡ args_of words guest
  pub patched : GivesTable words files guest.patches case.patches
  pub zeroed : case.zero ≡ guest.zero
  pub lasts : case.budget ≡ guest.steps
  pub left : before.left ≡ Some case.input
