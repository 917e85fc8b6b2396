-- The commands `make` and `trial`: docs/program.md, "Made programs".
use Rattle.std.specs.Prelude.{ℕ, false, List, [], ◌∷◌, ◌++◌, slice_index, length, Result, Ok, Err, Option, None, codes, decimal}
use Rattle.infinite_heap.specs.Elf.{program_of}
use Rattle.infinite_heap.specs.Loaded.{Loaded}
use Rattle.infinite_heap.specs.Values.{word_of}
use Rattle.layout_run.specs.Whole.{ran_of, run_until}
use Rattle.layout_run.specs.declared.ran.Ran.{Ran}
use Rattle.patch_table.specs.Table.{no_patches}
use Rattle.hex_text.specs.Hex.{hex_of}
use Rattle.rv_machine.specs.Flat.{Flat}
use Rattle.work_maker.specs.Made.{made_file, made_words}
use Rattle.exterm_cli.specs.Plan.{Plan, Stage, Settles, gives}
use Rattle.exterm_cli.specs.Report.{counts_text, ending_status, unless_done}
use Rattle.exterm_cli.specs.Run.{counts_of}
use Rattle.exterm_cli.specs.Taking.{loaded}
use Rattle.exterm_cli.specs.Words.{usual_steps}
use Rattle.exterm_cli.specs.declared.report.HeapCounts.{HeapCounts}

abbrev pub make_stage : List (List ℕ) → (n : ℕ) → (to : Option ℕ) → Stage
make_stage words n to = Settles (gives words to (made_file n))

-- a made program's run under a seed, without patches or input; its name is `made`
abbrev pub trial_run : Loaded → (seed : ℕ) → Flat
trial_run program seed = run_until program (codes "made" ∷ []) (record { seed = seed; zero = false; patches = no_patches }) [] None usual_steps

-- the sum that it prints, its lowest byte first
abbrev pub sum_in : List ℕ → ℕ
sum_in out = word_of (slice_index out 0) (slice_index out 1) (slice_index out 2) (slice_index out 3)

abbrev pub trial_line : (n words sum : ℕ) → HeapCounts → List ℕ
trial_line n words sum counts = codes "trial " ++ (decimal n ++ (codes " words " ++ (decimal words ++ (codes " sum " ++ (hex_of 8 sum ++ (codes " " ++ (counts_text counts ++ 10 ∷ [])))))))

abbrev pub tried : (n : ℕ) → Flat → Ran → Plan
tried n flat ran = record {
  status = ending_status ran.ending;
  out = trial_line n (length (made_words n)) (sum_in flat.out) (counts_of ran);
  err = [];
  file = None;
  report = unless_done ran.ending ran.steps;
}

abbrev pub trial_plan : (n seed : ℕ) → Result Loaded Plan → Plan
trial_plan n seed (Ok program) = tried n (trial_run program seed) (ran_of None (trial_run program seed))
trial_plan n seed (Err plan) = plan

abbrev pub trial_stage : (n seed : ℕ) → Stage
trial_stage n seed = Settles (trial_plan n seed (loaded (program_of (made_file n))))
