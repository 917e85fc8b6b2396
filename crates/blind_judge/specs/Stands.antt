-- Which state of the infinite-heap machine the judge's state is.
use Rattle.std.specs.Prelude.{◌≡◌, ℕ, List, get_or}
use Rattle.infinite_heap.specs.declared.value.Value.{Value}
use Rattle.infinite_heap.specs.declared.value.Value.TheVariants.{Num}
use Rattle.infinite_heap.specs.InfiniteState.{InfState}
use Rattle.blind_judge.specs.declared.state.State.{State}
use Rattle.blind_judge.specs.Flat.{flat_of}
use Rattle.blind_judge.specs.HeapCells.{AreWritten}
use Rattle.blind_judge.specs.Objects.{objects_of}

-- the registers, of which there are no others
abbrev pub registers_of : List Value → ℕ → Value
registers_of regs r = get_or regs r (Num 0)

-- The state stands for this one. It forgets the order in which cells were written, counts no steps, and doesn't say how
-- much of the input was read.
pub record Stands (state : State) (s : InfState) : Type 0 where
  pub pc : s.pc ≡ state.pc
  pub calls : s.calls ≡ state.calls
  pub regs : s.regs ≡ registers_of state.regs
  pub flat : s.flat ≡ flat_of state.flat
  pub written : AreWritten state.cells s.written
  pub objects : s.objects ≡ objects_of state.objects.items
