-- The runs of a repair and their images: docs/repair.md, "Runs".
use Rattle.std.specs.Prelude.{ℕ, ◌+◌, ◌-◌, ◌%◌, ◌^◌, max, List, [], ◌∷◌, map, Option}
use Rattle.std.specs.List.{range_with_len}
use Rattle.std.specs.declared.option.Option.TheVariants.{Some, None}
use Rattle.infinite_heap.specs.Loaded.{Loaded}
use Rattle.exact_heap.specs.declared.signal.Place.{Place}
use Rattle.exact_heap.specs.declared.signal.Place.TheVariants.{Call, End}
use Rattle.rv_machine.specs.declared.settings.Settings.{Settings}
use Rattle.rv_machine.specs.Flat.{Flat}
use Rattle.heap_image.specs.Snapshot.{Snapshot}
use Rattle.layout_run.specs.Imaged.{image_of_run}
use Rattle.layout_run.specs.Whole.{ran_of, run_until}
use Rattle.layout_run.specs.declared.ran.Ran.{Ran}

-- what is repaired: a program with its arguments, its settings and the most steps of a run
pub record Job : Type 0 where
  pub program : Loaded
  pub args : List (List ℕ)
  pub settings : Settings
  pub budget : ℕ

-- ---- the run that prints

abbrev pub printed_run : Job → (input : List ℕ) → Flat
printed_run job input = run_until job.program job.args job.settings input None job.budget

abbrev pub printed_ran : Job → (input : List ℕ) → Ran
printed_ran job input = ran_of None (printed_run job input)

-- its image: of the state just after the heap call of its first signal, or of its end
abbrev pub first_image : Job → (input : List ℕ) → Snapshot
first_image job input = image_of_run job.program job.args job.settings input None job.budget

-- ---- the runs after it

-- the same settings with the i-th seed behind the first; seeds wrap
abbrev pub reseeded : (i : ℕ) → Settings → Settings
reseeded i settings = record settings { seed = (settings.seed + i) % 2 ^ 64 }

-- A run is stopped after the heap call of that number. No heap call has the last number, so where the place is the end it
-- is stopped nowhere.
abbrev pub stop_number : Place → ℕ
stop_number (Call call) = call
stop_number End = 18446744073709551615

abbrev pub rerun : Job → (input : List ℕ) → (place : Place) → (i : ℕ) → Flat
rerun job input place i = run_until job.program job.args (reseeded i job.settings) input (Some (stop_number place)) job.budget

abbrev pub rerun_image : Job → (input : List ℕ) → (place : Place) → (i : ℕ) → Snapshot
rerun_image job input place i = image_of_run job.program job.args (reseeded i job.settings) input (Some (stop_number place)) job.budget

-- so many images, the first of the run that prints, the others of runs that go to the place of the first
abbrev pub images_of : Job → (input : List ℕ) → (count : ℕ) → List Snapshot
images_of job input count = first_image job input ∷ map (rerun_image job input (first_image job input).place) (range_with_len 1 (count - 1))

-- ---- how far they read

abbrev pub highest : List ℕ → ℕ
highest [] = 0
highest (n ∷ ns) = max n (highest ns)

-- the places in the input of the runs after the first, which there are where it has a signal
abbrev pub rerun_places : Job → (input : List ℕ) → (count : ℕ) → (first : Option Place) → List ℕ
rerun_places job input count None = []
rerun_places job input count (Some signal) = map (λ i. (rerun job input (first_image job input).place i).place) (range_with_len 1 (count - 1))

-- the furthest place of all runs
abbrev pub furthest : Job → (input : List ℕ) → (count : ℕ) → ℕ
furthest job input count = max (printed_run job input).place (highest (rerun_places job input count (printed_ran job input).first))
