-- What a state stands for has any place in the input.
use Rattle.std.proofs.Common.{ℕ}
use Rattle.infinite_heap.specs.InfiniteState.{InfState}
use Rattle.blind_judge.specs.declared.state.State.{State}
use Rattle.blind_judge.specs.Stands.{Stands}

pub any_place : (state : State) (s : InfState) (place : ℕ) → Stands state s → Stands state (record s { place = place })
any_place state s place h = record { pc = h.pc; calls = h.calls; regs = h.regs; flat = h.flat; written = h.written; objects = h.objects }
