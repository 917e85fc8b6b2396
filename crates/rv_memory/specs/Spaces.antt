-- The memory that a space stands for. Callers know nothing else of it.
use Rattle.std.specs.Prelude.{◌≡◌, ℕ, ◌<◌, ◌≤◌, Bool, false, List, ◌∷◌, Some}
use Rattle.rv_memory.specs.declared.range.Range.{Range}
use Rattle.rv_memory.specs.declared.range.Purpose.{Purpose}
use Rattle.rv_memory.specs.declared.space.Space.{Space}
use Rattle.rv_memory.specs.Memory.{Memory}
use Rattle.rv_memory.specs.Ranges.{memory_in, grants, granted, byte_at, end_of, is_taken_in}

abbrev pub ranges_of : Space → List Range
ranges_of space = space.code ∷ space.ranges.items

unfoldable pub memory_of : Space → Memory
memory_of space = memory_in (ranges_of space)

-- the taken pages, by number: those in which a store wants no memory
unfoldable pub taken_of : Space → ℕ → Bool
taken_of space = is_taken_in (ranges_of space)

-- the range that holds an address, and what the memory has from there up to the range's end
pub record IsFoundAt (space : Space) (address : ℕ) (range : Range) : Type 0 where
  pub begins : range.from ≤ address
  pub ends : address < end_of range
  pub bytes : (a : ℕ) → address ≤ a → a < end_of range → (memory_of space).bytes a ≡ Some (byte_at range a)
  pub grants : (purpose : Purpose) (a : ℕ) → address ≤ a → a < end_of range → granted purpose (memory_of space) a ≡ grants purpose (Some range)

-- no range holds an address
abbrev pub IsNowhere : Space → ℕ → Type 0
IsNowhere space address = (purpose : Purpose) → granted purpose (memory_of space) address ≡ false
