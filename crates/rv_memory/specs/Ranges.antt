-- A memory that is kept as a list of ranges.
use Rattle.std.specs.Prelude.{◌≡◌, ◌≢◌, ℕ, ◌+◌, ◌-◌, ◌*◌, ◌≤◌, ◌<◌, ◌==◌, max, Bool, true, false, ◌&&◌, ◌||◌, nat_lt, nat_le, List, [], ◌∷◌, length, slice_index_or, Option, None, Some, is_some, Result, Ok, Err, if◌then◌else◌}
use Rattle.diefast_canary.specs.Canary.{canary_byte}
use Rattle.rv_memory.specs.declared.range.Range.{Range}
use Rattle.rv_memory.specs.declared.range.Purpose.{Purpose}
use Rattle.rv_memory.specs.declared.range.Purpose.TheVariants.{Reading, Writing, Running}
use Rattle.rv_memory.specs.Access.{rest_byte}
use Rattle.rv_memory.specs.Memory.{Memory, within}

abbrev pub holds : Range → ℕ → Bool
holds range address = nat_le range.from address && nat_lt (address - range.from) range.len

abbrev pub end_of : Range → ℕ
end_of range = range.from + range.len

-- what a range has at an address of its own: the byte that was made there, or what it was mapped with
abbrev pub byte_at : Range → ℕ → ℕ
byte_at range address = slice_index_or range.bytes.items (address - range.from) (rest_byte range.rest address)

abbrev pub is_whole : Range → Bool
is_whole range = length range.bytes.items == range.len

-- the first range that holds an address
abbrev pub range_at : List Range → ℕ → Option Range
range_at [] address = None
range_at (range ∷ ranges) address = if holds range address then Some range else range_at ranges address

abbrev pub byte_in : Option Range → ℕ → Option ℕ
byte_in None address = None
byte_in (Some range) address = Some (byte_at range address)

-- whether a range grants a purpose
abbrev pub grants : Purpose → Option Range → Bool
grants purpose None = false
grants Reading (Some range) = true
grants Writing (Some range) = range.writable
grants Running (Some range) = range.runs

abbrev pub memory_in : List Range → Memory
memory_in ranges = record {
  bytes = λ address. byte_in (range_at ranges address) address;
  writable = λ address. grants Writing (range_at ranges address);
  runs = λ address. grants Running (range_at ranges address);
}

-- whether a memory grants a purpose at an address
abbrev pub granted : Purpose → Memory → ℕ → Bool
granted Reading memory address = is_some (memory.bytes address)
granted Writing memory address = memory.writable address
granted Running memory address = memory.runs address

-- the place of a range that holds an address, None where no range does
abbrev pub IsPlace : List Range → ℕ → Option ℕ → Type 0
IsPlace ranges address None = range_at ranges address ≡ None
IsPlace ranges address (Some i) = (i < length ranges) × ((d : Range) → holds (slice_index_or ranges i d) address ≡ true)

-- no address lies in two of the ranges
abbrev pub IsApart : List Range → Type 0
IsApart ranges = (i j address : ℕ) (d : Range) → i < length ranges → j < length ranges → holds (slice_index_or ranges i d) address ≡ true → holds (slice_index_or ranges j d) address ≡ true → i ≡ j

-- each range has a byte, and none begins before those in front of it have ended
abbrev pub IsInOrder : List Range → Type 0
IsInOrder ranges = ((i : ℕ) (d : Range) → i < length ranges → (slice_index_or ranges i d).from < end_of (slice_index_or ranges i d))
    × ((i j : ℕ) (d : Range) → i < j → j < length ranges → end_of (slice_index_or ranges i d) ≤ (slice_index_or ranges j d).from)

-- so many ranges, the first ones, begin at an address or before it
abbrev pub HaveBegun : List Range → (count address : ℕ) → Type 0
HaveBegun ranges count address = (i : ℕ) (d : Range) → i < count → (slice_index_or ranges i d).from ≤ address

-- and the others behind it
abbrev pub AreToCome : List Range → (count address : ℕ) → Type 0
AreToCome ranges count address = (i : ℕ) (d : Range) → count ≤ i → i < length ranges → address < (slice_index_or ranges i d).from

-- a range whose bytes in a span, which it holds, are now those that the function gives
pub record Overwrites (old new : Range) (from len : ℕ) (byte : ℕ → ℕ) : Type 0 where
  pub begins : old.from ≤ from
  pub ends : from + len ≤ end_of old
  pub from_same : new.from ≡ old.from
  pub len_same : new.len ≡ old.len
  pub writable_same : new.writable ≡ old.writable
  pub runs_same : new.runs ≡ old.runs
  pub grows : length old.bytes.items ≤ length new.bytes.items
  pub bytes : (address : ℕ) → holds old address ≡ true → byte_at new address ≡ (if within from len address then byte address else byte_at old address)

-- two ranges, one behind the other, as one
pub record Joins (first second joined : Range) : Type 0 where
  pub from_same : joined.from ≡ first.from
  pub len_is : joined.len ≡ first.len + second.len
  pub writable_same : joined.writable ≡ first.writable
  pub runs_same : joined.runs ≡ first.runs
  pub whole : is_whole joined ≡ true
  pub first_bytes : (address : ℕ) → holds first address ≡ true → byte_at joined address ≡ byte_at first address
  pub second_bytes : (address : ℕ) → holds second address ≡ true → byte_at joined address ≡ byte_at second address

-- the first break of the canary in a range between two addresses, or up to where there is none
abbrev pub IsBreakIn : Range → (from end word : ℕ) → Result ℕ ℕ → Type 0
IsBreakIn range from end word (Ok next) = (from < next) × (next ≤ end) × (next ≤ end_of range) × ((address : ℕ) → from ≤ address → address < next → byte_at range address ≡ canary_byte word address)
IsBreakIn range from end word (Err broken) = (from ≤ broken) × (broken < end) × (broken < end_of range) × (byte_at range broken ≢ canary_byte word broken)
    × ((address : ℕ) → from ≤ address → address < broken → byte_at range address ≡ canary_byte word address)

-- whether a range has an address in a page
abbrev pub meets : Range → (page : ℕ) → Bool
meets range page = nat_lt range.from (4096 * page + 4096) && nat_lt (max range.from (4096 * page)) (end_of range)

-- the pages that a range with all its bytes meets
abbrev pub is_taken_in : List Range → (page : ℕ) → Bool
is_taken_in [] page = false
is_taken_in (range ∷ ranges) page = is_whole range && meets range page || is_taken_in ranges page

pub record IsPart (byte : ℕ → ℕ) (writable runs : Bool) (part : Range) : Type 0 where
  pub some : 0 < part.len
  pub writable_same : part.writable ≡ writable
  pub runs_same : part.runs ≡ runs
  pub bytes : (address : ℕ) → holds part address ≡ true → byte_at part address ≡ byte address

-- ranges from an address up to another, the last one first, which hold what the function gives
abbrev pub AreParts : (from end : ℕ) → (ℕ → ℕ) → (writable runs : Bool) → List Range → Type 0
AreParts from end byte writable runs [] = from ≡ end
AreParts from end byte writable runs (part ∷ parts) = (end_of part ≡ end) × IsPart byte writable runs part × AreParts from part.from byte writable runs parts
