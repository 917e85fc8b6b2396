-- What a program holds, as definitions see it.
use Rattle.std.specs.Prelude.{ℕ, List}
use Rattle.infinite_heap.specs.declared.program.Segment.{Segment}
use Rattle.infinite_heap.specs.declared.program.HeapName.{HeapName}

-- the segments, the address of the first instruction, the heap functions, and the tag of the file
pub record Loaded : Type 0 where
  pub segments : List Segment
  pub entry : ℕ
  pub names : List HeapName
  pub tag : ℕ
