-- Heap calls of the two machines.
use Rattle.std.specs.Prelude.{◌≡◌, ⊤}
use Rattle.std.specs.declared.option.Option.TheVariants.{None}
use Rattle.infinite_heap.specs.declared.program.HeapCall.{HeapCall}
use Rattle.infinite_heap.specs.InfiniteHeap.{inf_call}
use Rattle.infinite_heap.specs.InfiniteState as inf
use Rattle.infinite_heap.specs.InfiniteState.{InfState, InfStep}
use Rattle.infinite_heap.specs.Layout.{Layout, AllHarmless}
use Rattle.infinite_heap.specs.Mapped.{Mapping}
use Rattle.rv_machine.specs.Core as flat
use Rattle.rv_machine.specs.Guest.{Guest}
use Rattle.rv_machine.specs.HeapCalls.{GuestNext, Carries, Returns, Lacks, heap_call}
use Rattle.rv_machine.specs.Matches.{IsOutside}
use Rattle.rv_machine.specs.Objects.{layout_of}
use Rattle.simulation.specs.Agreement.{StatesAgree}

-- what heap calls from states that agree lead to: states that agree, or no room, as long as what is recorded is harmless; or one fault
abbrev pub CallMatches : Layout → Mapping → InfState → InfStep → GuestNext → Type 0
CallMatches l p s (inf.Goes s' records) (Returns g') = AllHarmless l records → StatesAgree p s' g' × (s'.place ≡ s.place)
CallMatches l p s (inf.Goes s' records) (Lacks used wanted g') = ⊤
CallMatches l p s (inf.Goes s' records) (Carries next) = ⊥
CallMatches l p s (inf.Faults kind records) (Carries (flat.Faults kind' address)) = kind' ≡ kind
CallMatches l p s (inf.Faults kind records) other = ⊥
CallMatches l p s (inf.Blurs why records) other = ⊤
CallMatches l p s other next = ⊥

-- From states that agree a heap call leads to states that agree, unless there is no room for its object or the call blurs; as long as what it
-- records is harmless where the objects lie.
abbrev pub HeapCallsMatch : Type 0
HeapCallsMatch =
    (p : Mapping) → IsOutside p → (s : InfState) (g : Guest) → StatesAgree p s g → g.core.ended ≡ None → (function : HeapCall)
    → CallMatches (layout_of g.history) p s (inf_call s g.rules.zero function) (heap_call g function)
