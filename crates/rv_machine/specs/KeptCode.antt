-- Instructions that are kept decoded.
use Rattle.std.specs.Prelude.{◌≡◌, ◌/◌, ◌%◌, List, None, Ok, slice_get, IsSomeAnd}
use Rattle.std.specs.List.{All}
use Rattle.infinite_heap.specs.declared.program.HeapName.{HeapName}
use Rattle.infinite_heap.specs.InfiniteHeap.{call_at}
use Rattle.rv_memory.specs.Access.{fetched}
use Rattle.rv_machine.specs.declared.decoded.Decoded.{Decoded}
use Rattle.rv_machine.specs.Core.{Core}

-- No heap function stands where an instruction is kept. Instructions stand at multiples of four.
abbrev pub AreNameless : List HeapName → Decoded → Type 0
AreNameless names kept = All (λ e. e.at % 4 ≡ 0 → call_at names e.at ≡ None) kept.entries.items

-- the instruction at pc is kept, by that address and by the word that stands there
abbrev pub IsKept : Core → Decoded → Type 0
IsKept core kept = IsSomeAnd (slice_get kept.entries.items (core.pc / 4 % 4096)) (λ e. (e.at ≡ core.pc) × (Ok e.word ≡ fetched core.memory core.pc))
