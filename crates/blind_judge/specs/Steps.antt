-- What the judge makes of a step of the infinite-heap machine.
use Rattle.std.specs.Prelude.{◌≡◌, ◌⊎◌, List, [], ◌∷◌, ℕ, Option, Some, None, Result, Ok, Err}
use Rattle.std.specs.declared.alloc.AllocError.{AllocError}
use Rattle.infinite_heap.specs.declared.access.Record.{Record}
use Rattle.infinite_heap.specs.declared.value.Value.{Value}
use Rattle.infinite_heap.specs.declared.value.Value.TheVariants.{Num, Ptr}
use Rattle.infinite_heap.specs.Covered.{Cures, IsCovered, AllCovered}
use Rattle.infinite_heap.specs.InfiniteState.{InfState, InfStep, Goes, Reads, Prints, Exits, Faults, Blurs, records_of}
use Rattle.infinite_heap.specs.InfiniteSystem.{as_cells, inf_read, taken}
use Rattle.infinite_heap.specs.Memory.{put_all, store_all}
use Rattle.infinite_heap.specs.Objects.{Object}
use Rattle.blind_judge.specs.declared.progress.Progress.{Progress}
use Rattle.blind_judge.specs.declared.progress.Progress.TheVariants as progress
use Rattle.blind_judge.specs.declared.state.State.{State}
use Rattle.blind_judge.specs.Stands.{Stands}

-- the first of the records that isn't covered, on the objects as they are at its step
abbrev pub IsFirstUncovered : Cures → List Object → List Record → Record → Type 0
IsFirstUncovered cures objects [] found = ⊥
IsFirstUncovered cures objects (r ∷ records) found =
    ((IsCovered cures objects r → ⊥) × (found ≡ r)) ⊎ (IsCovered cures objects r × IsFirstUncovered cures objects records found)

-- the state after a read of bytes to the address or the object's offset that a value is
abbrev pub read_into : InfState → Value → List ℕ → InfState
read_into s (Num n) bytes = record (inf_read s bytes) { flat = put_all s.flat n (as_cells bytes) }
read_into s (Ptr o d) bytes = record (inf_read s bytes) { written = store_all s.written o d (as_cells bytes) }
read_into s v bytes = s

-- what a step leaves of a state s, where each of its records is covered; a read has yet to be made
abbrev pub Leaves : (input : List ℕ) → InfState → InfStep → Progress → State → Type 0
Leaves input s (Goes to records) progress.Going state = Stands state to
Leaves input s (Prints fd bytes to records) progress.Going state = Stands state to
Leaves input s (Reads len to records) (progress.Reads at len') state = (len' ≡ len) × (to ≡ read_into s at (taken input s.place len)) × Stands state s
Leaves input s (Exits code to) progress.Exited state = Stands state to
Leaves input s (Faults kind records) progress.Faulted state = Stands state s
Leaves input s (Blurs why records) (progress.Blurred why') state = (why' ≡ why) × Stands state s
Leaves input s step other state = ⊥

-- what comes first in a step of a state s: a record that isn't covered, or else a blur, or else what it leaves
abbrev pub StepsAs : Cures → (input : List ℕ) → InfState → InfStep → Result Progress AllocError → State → Type 0
StepsAs cures input s step (Ok (progress.Uncovered found)) state = IsFirstUncovered cures s.objects (records_of step) found
StepsAs cures input s step (Ok answer) state = AllCovered cures s.objects (records_of step) × Leaves input s step answer state
StepsAs cures input s step (Err refused) state = Unit {0}

-- the first of the records that isn't covered, where there is one
abbrev pub Screens : Cures → List Object → List Record → Option Record → Type 0
Screens cures objects records None = AllCovered cures objects records
Screens cures objects records (Some found) = IsFirstUncovered cures objects records found

-- what a call comes to that takes this step of whichever state the judge's state stands for
abbrev pub Takes : Cures → (old : State) → (List ℕ → InfState → InfStep) → Result Progress AllocError → (new : State) → Type 0
Takes cures old step result new = (input : List ℕ) (s : InfState) → Stands old s → StepsAs cures input s (step input s) result new
