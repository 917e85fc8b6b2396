-- What a call is to print, write, report and answer, where nothing cuts it short: docs/program.md.
use Rattle.std.specs.Prelude.{ℕ, List, [], ◌∷◌, ◌++◌, Option, None, Some, codes}
use Rattle.heap_image.specs.Snapshot.{Snapshot}
use Rattle.exterm_cli.specs.Counted.{word}
use Rattle.iterate.specs.Reruns.{Job}

-- a file that is made or replaced
pub record Kept : Type 0 where
  pub name : List ℕ
  pub bytes : List ℕ

pub record Plan : Type 0 where
  pub status : ℕ
  -- the guest's bytes on out, or what the program prints there itself
  pub out : List ℕ
  -- the guest's bytes on err
  pub err : List ℕ
  -- written once all of these are printed
  pub file : Option Kept
  -- the program's own lines on err, put last
  pub report : List ℕ

-- What the words and the files lead to: they settle what is done, or it hangs on the run of a guest on the input. The guest is run once, with
-- its image written to a file where one is named; or it is repaired from so many images, with its patches written; or so many replicas of it
-- vote, with their last table written to a file where one is named.
pub data Stage : Type 0 where
  Settles : Plan → Stage
  Runs : Job → (image : Option (List ℕ)) → Stage
  Repairs : Job → (images : ℕ) → (to : List ℕ) → Stage
  Replicates : Job → (replicas : ℕ) → (to : Option (List ℕ)) → Stage
  -- images call for patches, which go to out or to the file of a name
  Isolates : List Snapshot → (to : Option (List ℕ)) → Stage

-- a line of the program's own
abbrev pub line : List ℕ → List ℕ
line text = codes "exterm: " ++ (text ++ 10 ∷ [])

-- a status with its one line
abbrev pub refusal : ℕ → List ℕ → Plan
refusal status text = record { status = status; out = []; err = []; file = None; report = line text }

-- nothing at all
abbrev pub nothing : Plan
nothing = record { status = 0; out = []; err = []; file = None; report = [] }

-- what a command gives with nothing to report: on out, or to the file of a name
abbrev pub gives_to : (to : Option (List ℕ)) → List ℕ → Plan
gives_to None bytes = record nothing { out = bytes }
gives_to (Some name) bytes = record nothing { file = Some (record { name = name; bytes = bytes }) }

-- the same to the file of the word at an index
abbrev pub gives : List (List ℕ) → (to : Option ℕ) → List ℕ → Plan
gives words None bytes = gives_to None bytes
gives words (Some at) bytes = gives_to (Some (word words at)) bytes

-- the same with a line of report
abbrev pub reporting : (text : List ℕ) → Plan → Plan
reporting text plan = record plan { report = line text }
