-- Segments put into memory one after the other.
use Rattle.std.specs.Prelude.{ℕ, ◌+◌, ◌-◌, ◌<◌, ◌≤◌, true, false, List, ◌++◌, length, replicate, slice_index_or}
use Rattle.infinite_heap.specs.declared.program.Segment.{Segment}
use Rattle.rv_memory.specs.Access.{new_byte}
use Rattle.rv_memory.specs.Memory.{Memory, with_range}
use Rattle.rv_memory.specs.declared.access.Rest.TheVariants.{Zero}

abbrev pub with_segment : Memory → Segment → Memory
with_segment memory s = with_range memory s.from s.len (new_byte s.bytes Zero s.from) s.writable s.runs

-- a stack of so many bytes, with these from the pointer on and zeros below
abbrev pub with_stack : Memory → (from len pointer : ℕ) → List ℕ → Memory
with_stack memory from len pointer top = with_range memory from len (new_byte (replicate (pointer - from) 0 ++ top) Zero from) true false

-- the segments lie below this one
abbrev pub AllBelow : List Segment → Segment → Type 0
AllBelow segments s = (k : ℕ) (d : Segment) → k < length segments → (slice_index_or segments k d).from + (slice_index_or segments k d).len ≤ s.from
