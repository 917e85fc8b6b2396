-- What is said of a run: docs/judge.md.
use Rattle.std.specs.Prelude.{◌≡◌, ℕ, suc, ◌<◌, ◌≤◌, Bool, true, List}
use Rattle.std.specs.declared.option.Option.TheVariants.{Some}
use Rattle.std.specs.declared.result.Result.{Result}
use Rattle.std.specs.declared.result.Result.TheVariants.{Ok, Err}
use Rattle.infinite_heap.specs.declared.access.Record.{Record}
use Rattle.infinite_heap.specs.Covered.{Cures, AllCovered, IsCoveredRun, records_after}
use Rattle.infinite_heap.specs.InfiniteRun.{InfRun, InfBlur, inf_run, is_clear}
use Rattle.infinite_heap.specs.Loaded.{Loaded}
use Rattle.infinite_heap.specs.Memory.{stored_count}
use Rattle.blind_judge.specs.declared.verdict.Verdict.{Verdict}
use Rattle.blind_judge.specs.declared.verdict.Verdict.TheVariants.{Clear, Blur, Uncovered}
use Rattle.blind_judge.specs.declared.verdict.JudgeRefusal.{JudgeRefusal}
use Rattle.blind_judge.specs.declared.verdict.JudgeRefusal.TheVariants as refusal
use Rattle.blind_judge.specs.Steps.{IsFirstUncovered}

-- what a run is made of
pub record Case : Type 0 where
  pub program : Loaded
  pub args : List (List ℕ)
  pub input : List ℕ
  pub zeroed : Bool
  pub cures : Cures
  -- how many cells may not be stored
  pub limit : ℕ

abbrev pub run_of : Case → ℕ → InfRun
run_of c n = inf_run c.program c.args c.input c.zeroed n

-- how many cells of objects were stored in the first n steps
abbrev pub stored_in : Case → ℕ → ℕ
stored_in c n = stored_count (run_of c n).state.written

-- what step n + 1 records
abbrev pub step_records : Case → ℕ → List Record
step_records c n = records_after c.program c.args c.input c.zeroed n

abbrev pub IsCoveredStep : Case → ℕ → Type 0
IsCoveredStep c n = AllCovered c.cures (run_of c n).state.objects (step_records c n)

-- In the first n steps nothing depends on an address or an unset byte, each record is covered, and fewer cells were
-- stored after each of them than the limit.
pub record Passes (c : Case) (n : ℕ) : Type 0 where
  pub clear : is_clear (run_of c n) ≡ true
  pub covered : IsCoveredRun c.cures c.program c.args c.input c.zeroed n
  pub cells : (k : ℕ) → k < n → stored_in c (suc k) < c.limit

-- Step n + 1 gives the answer: its first record that isn't covered, or else its blur, or else the cells that are stored
-- after it, which have reached the limit.
abbrev pub Finds : Case → (n : ℕ) → Result Verdict JudgeRefusal → Type 0
Finds c n (Ok (Uncovered access)) = (found : Record) × (access ≡ found.access) × IsFirstUncovered c.cures (run_of c n).state.objects (step_records c n) found
Finds c n (Ok (Blur pc why)) = IsCoveredStep c n × ((run_of c (suc n)).ending ≡ Some (InfBlur why pc))
Finds c n (Err (refusal.Cells count)) = IsCoveredStep c n × (is_clear (run_of c (suc n)) ≡ true) × (c.limit ≤ stored_in c (suc n)) × (count ≡ stored_in c (suc n))
Finds c n answer = ⊥

-- the answer of the first step that has one
pub record FindsFirst (c : Case) (budget : ℕ) (answer : Result Verdict JudgeRefusal) : Type 0 where
  pub at : ℕ
  pub within : at < budget
  pub before : Passes c at
  pub finds : Finds c at answer

-- What is answered for a run of at most so many steps. Nothing is said here of refused input and of want of memory.
abbrev pub Judges : Case → (budget : ℕ) → Result Verdict JudgeRefusal → Type 0
Judges c budget (Ok Clear) = Passes c budget
Judges c budget (Err refusal.Input) = Unit {0}
Judges c budget (Err refusal.Source) = Unit {0}
Judges c budget (Err refusal.Memory) = Unit {0}
Judges c budget answer = FindsFirst c budget answer

-- an answer that says something of the run
abbrev pub IsSaid : Result Verdict JudgeRefusal → Type 0
IsSaid (Err refusal.Input) = ⊥
IsSaid (Err refusal.Source) = ⊥
IsSaid (Err refusal.Memory) = ⊥
IsSaid answer = Unit {0}

abbrev pub OneVerdict : Type 0
OneVerdict = (c : Case) (budget : ℕ) (x y : Result Verdict JudgeRefusal) → IsSaid x → IsSaid y → Judges c budget x → Judges c budget y → x ≡ y
