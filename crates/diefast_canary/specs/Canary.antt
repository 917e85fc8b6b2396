-- The canary of unowned memory, and the places at which bytes differ from it, as docs/canary.md states it.
use Rattle.std.specs.Prelude.{◌≡◌, ◌≢◌, ℕ, zero, suc, ◌+◌, ◌/◌, ◌%◌, ◌^◌, ◌<◌, ◌==◌, Bool, not, List, [], ◌∷◌, length, slice_index, filter, find, Option}
use Rattle.std.specs.List.{range_with_len}

-- the canary's byte at an address: byte (address mod 4) of the word, the lowest byte first
abbrev pub canary_byte : (word address : ℕ) → ℕ
canary_byte word address = word / 256 ^ (address % 4) % 256

-- the canary of so many addresses, from the given one on
abbrev pub canary_bytes : (word address count : ℕ) → List ℕ
canary_bytes word address zero = []
canary_bytes word address (suc count) = canary_byte word address ∷ canary_bytes word (address + 1) count

-- whether the byte at this place isn't the canary's, where the first byte has the given address
abbrev pub is_broken_at : (word address : ℕ) → List ℕ → ℕ → Bool
is_broken_at word address bytes place = not (slice_index bytes place == canary_byte word (address + place))

-- the places of a list: 0, 1, .. up to its length
abbrev pub places : List ℕ → List ℕ
places bytes = range_with_len 0 (length bytes)

-- the places that are broken, in order
abbrev pub broken_places : (word address : ℕ) → List ℕ → List ℕ
broken_places word address bytes = filter (is_broken_at word address bytes) (places bytes)

-- those before a place
abbrev pub broken_before : (word address : ℕ) → List ℕ → ℕ → List ℕ
broken_before word address bytes end = filter (is_broken_at word address bytes) (range_with_len 0 end)

-- the first of them all
abbrev pub first_broken : (word address : ℕ) → List ℕ → Option ℕ
first_broken word address bytes = find (is_broken_at word address bytes) (places bytes)

-- each byte is the canary's
abbrev pub IsIntact : (word address : ℕ) → List ℕ → Type 0
IsIntact word address bytes = bytes ≡ canary_bytes word address (length bytes)

-- each byte before a place is the canary's
abbrev pub IsIntactTo : (word address : ℕ) → List ℕ → ℕ → Type 0
IsIntactTo word address bytes end = (k : ℕ) → k < end → slice_index bytes k ≡ canary_byte word (address + k)

-- the least place that is broken
pub record IsFirstBroken (word address : ℕ) (bytes : List ℕ) (place : ℕ) : Type 0 where
  pub within : place < length bytes
  pub broken : slice_index bytes place ≢ canary_byte word (address + place)
  pub before : (k : ℕ) → k < place → slice_index bytes k ≡ canary_byte word (address + k)
