-- What segments map, by addresses: docs/guest.md, "Memory".
use Rattle.std.specs.Prelude.{ℕ, ◌+◌, ◌-◌, Bool, false, ◌&&◌, nat_lt, nat_le, List, [], ◌∷◌, slice_index, is_some, if◌then◌else◌}
use Rattle.std.specs.declared.option.Option.{Option}
use Rattle.std.specs.declared.option.Option.TheVariants.{Some, None}
use Rattle.infinite_heap.specs.declared.program.Segment.{Segment}

-- the address lies in the segment
abbrev pub holds : Segment → ℕ → Bool
holds segment address = nat_le segment.from address && nat_lt address (segment.from + segment.len)

-- the byte at an address, none where nothing is mapped; past a segment's own bytes it is zero
abbrev pub byte_at : List Segment → ℕ → Option ℕ
byte_at [] address = None
byte_at (segment ∷ segments) address = if holds segment address then Some (slice_index segment.bytes (address - segment.from)) else byte_at segments address

-- the address may be written to
abbrev pub writable_at : List Segment → ℕ → Bool
writable_at [] address = false
writable_at (segment ∷ segments) address = if holds segment address then segment.writable else writable_at segments address

-- the byte at the address may be run
abbrev pub runs_at : List Segment → ℕ → Bool
runs_at [] address = false
runs_at (segment ∷ segments) address = if holds segment address then segment.runs else runs_at segments address

-- which addresses are mapped, which of them may be written to, and which may be run
pub record Mapping : Type 0 where
  pub mapped : ℕ → Bool
  pub writable : ℕ → Bool
  pub runs : ℕ → Bool

abbrev pub mapping_of : List Segment → Mapping
mapping_of segments = record { mapped = λ address. is_some (byte_at segments address); writable = writable_at segments; runs = runs_at segments }
