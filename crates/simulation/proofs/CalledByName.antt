-- Every heap call of the two machines.
use Rattle.std.proofs.Common.{ℕ, ◌-◌, ◌%◌, ◌^◌, ◌<◌, subst, cond, arith, nat_eq, [], refl}
use Rattle.infinite_heap.specs.declared.fault.FaultKind.TheVariants as fault
use Rattle.infinite_heap.specs.declared.program.HeapCall.{HeapCall}
use Rattle.infinite_heap.specs.declared.program.HeapCall.TheVariants.{Malloc, Free, Calloc, Realloc, Memalign, AlignedAlloc, MallocR, FreeR, CallocR, ReallocR, MemalignR}
use Rattle.infinite_heap.specs.declared.value.Value.{Value}
use Rattle.infinite_heap.specs.declared.value.Value.TheVariants.{Num, Ptr, Mix, Low}
use Rattle.infinite_heap.specs.CallSite.{site_of}
use Rattle.infinite_heap.specs.InfiniteHeap.{inf_calloc, inf_memalign, inf_called, inf_call_from}
use Rattle.infinite_heap.specs.InfiniteState as inf
use Rattle.infinite_heap.specs.InfiniteState.{InfState}
use Rattle.infinite_heap.specs.Layout.{Stands}
use Rattle.infinite_heap.specs.Mapped.{Mapping}
use Rattle.exact_heap.specs.Calls.{calloc, memalign}
use Rattle.rv_machine.specs.Core as flat
use Rattle.rv_machine.specs.Core.{register}
use Rattle.rv_machine.specs.Guest.{Guest, heap_of}
use Rattle.rv_machine.specs.HeapCalls.{Carries, answers, called, call_from}
use Rattle.rv_machine.specs.Objects.{layout_of}
use Rattle.simulation.specs.Agreement.{StatesAgree}
use Rattle.simulation.specs.Calls.{CallMatches, HeapCallsMatch}
use Rattle.simulation.proofs.Placed.{two_ways}
use Rattle.simulation.proofs.Freed.{FreeFacts, free_matches}
use Rattle.simulation.proofs.Moved.{MallocMatches, MoveFacts, realloc_matches}

-- calloc and memalign of any two values match
abbrev pub CallocMatches : Type 0
CallocMatches =
    (p : Mapping) (s : InfState) (g : Guest) (back : ℕ) → StatesAgree p s g → back < 2 ^ 32 → (v : Value) (x : ℕ) → Stands (layout_of g.history) v x → (u : Value) (y : ℕ) → Stands (layout_of g.history) u y
    → CallMatches (layout_of g.history) p s (inf_calloc s back v u) (answers g back (calloc g.rules x y (site_of g.core.calls) (heap_of g)))

abbrev pub MemalignMatches : Type 0
MemalignMatches =
    (p : Mapping) (s : InfState) (g : Guest) (back : ℕ) → StatesAgree p s g → back < 2 ^ 32 → (v : Value) (x : ℕ) → Stands (layout_of g.history) v x → (u : Value) (y : ℕ) → Stands (layout_of g.history) u y
    → CallMatches (layout_of g.history) p s (inf_memalign s g.rules.zero back v u) (answers g back (memalign g.rules x y (site_of g.core.calls) (heap_of g)))

-- what each call leads to
pub record Calls : Type 0 where
  pub malloc : MallocMatches
  pub calloc : CallocMatches
  pub memalign : MemalignMatches
  pub free : FreeFacts
  pub move : MoveFacts

by_name : Calls → (p : Mapping) (s : InfState) (g : Guest) (back : ℕ) → StatesAgree p s g → back < 2 ^ 32 → (function : HeapCall)
    → CallMatches (layout_of g.history) p s (inf_called s g.rules.zero back function) (called g back function)
by_name calls p s g back a low Malloc = calls.malloc p s g back a low (s.regs 10) (register g.core 10) (a.state.regs 10 (omega arith))
by_name calls p s g back a low MallocR = calls.malloc p s g back a low (s.regs 11) (register g.core 11) (a.state.regs 11 (omega arith))
by_name calls p s g back a low Free = free_matches calls.free p s g back (s.regs 10) (register g.core 10) a low (a.state.regs 10 (omega arith))
by_name calls p s g back a low FreeR = free_matches calls.free p s g back (s.regs 11) (register g.core 11) a low (a.state.regs 11 (omega arith))
by_name calls p s g back a low Calloc = calls.calloc p s g back a low (s.regs 10) (register g.core 10) (a.state.regs 10 (omega arith)) (s.regs 11) (register g.core 11) (a.state.regs 11 (omega arith))
by_name calls p s g back a low CallocR = calls.calloc p s g back a low (s.regs 11) (register g.core 11) (a.state.regs 11 (omega arith)) (s.regs 12) (register g.core 12) (a.state.regs 12 (omega arith))
by_name calls p s g back a low Memalign = calls.memalign p s g back a low (s.regs 10) (register g.core 10) (a.state.regs 10 (omega arith)) (s.regs 11) (register g.core 11) (a.state.regs 11 (omega arith))
by_name calls p s g back a low AlignedAlloc = calls.memalign p s g back a low (s.regs 10) (register g.core 10) (a.state.regs 10 (omega arith)) (s.regs 11) (register g.core 11) (a.state.regs 11 (omega arith))
by_name calls p s g back a low MemalignR = calls.memalign p s g back a low (s.regs 11) (register g.core 11) (a.state.regs 11 (omega arith)) (s.regs 12) (register g.core 12) (a.state.regs 12 (omega arith))
by_name calls p s g back a low Realloc = realloc_matches calls.move calls.malloc p s g back a low (s.regs 10) (register g.core 10) (a.state.regs 10 (omega arith)) (s.regs 11) (register g.core 11) (a.state.regs 11 (omega arith))
by_name calls p s g back a low ReallocR = realloc_matches calls.move calls.malloc p s g back a low (s.regs 11) (register g.core 11) (a.state.regs 11 (omega arith)) (s.regs 12) (register g.core 12) (a.state.regs 12 (omega arith))

-- a call from a return address, which has to be a multiple of 4
from_value : Calls → (p : Mapping) (s : InfState) (g : Guest) → StatesAgree p s g → (function : HeapCall) (v : Value) (x : ℕ) → x < 2 ^ 32 → Stands (layout_of g.history) v x
    → CallMatches (layout_of g.history) p s (inf_call_from s g.rules.zero function v) (call_from g (x - x % 2) function)
from_value calls p s g a function (Num ra) x fits stands =
    subst (λ (ra : ℕ). CallMatches (layout_of g.history) p s (inf_call_from s g.rules.zero function (Num ra)) (call_from g (x - x % 2) function)) stands
    (two_ways (nat_eq ((x - x % 2) % 4) 0) (λ b. CallMatches (layout_of g.history) p s (cond b (inf_called s g.rules.zero (x - x % 2) function) (inf.Faults fault.Jump [])) (cond b (called g (x - x % 2) function) (Carries (flat.Faults fault.Jump (x - x % 2)))))
    (λ e. by_name calls p s g (x - x % 2) a (omega (arith, fits)) function)
    (λ e. refl))
from_value calls p s g a function (Ptr o d) x fits stands = tt
from_value calls p s g a function (Mix b c d e) x fits stands = tt
from_value calls p s g a function (Low b) x fits stands = tt

pub calls_match : Calls → HeapCallsMatch
calls_match calls p outside s g a running function = from_value calls p s g a function (s.regs 1) (register g.core 1) (a.state.fits 1 (omega arith)) (a.state.regs 1 (omega arith))
