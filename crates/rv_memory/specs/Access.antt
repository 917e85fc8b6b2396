-- Loads, stores and fetches, and their little-endian numbers (docs/memory.md).
use Rattle.std.specs.Prelude.{◌≡◌, ℕ, zero, suc, ◌+◌, ◌-◌, ◌*◌, ◌/◌, ◌%◌, nat_lt, Bool, true, false, List, [], ◌∷◌, length, slice_index, Option, None, Some, Result, Ok, Err, if◌then◌else◌}
use Rattle.diefast_canary.specs.Canary.{canary_byte}
use Rattle.rv_memory.specs.Memory.{Memory, span, code_at}
use Rattle.rv_memory.specs.declared.access.Width.{Width}
use Rattle.rv_memory.specs.declared.access.Width.TheVariants.{One, Two, Four}
use Rattle.rv_memory.specs.declared.access.Unmapped.{Unmapped}
use Rattle.rv_memory.specs.declared.access.StoreFault.{StoreFault}
use Rattle.rv_memory.specs.declared.access.StoreFault.TheVariants as refused
use Rattle.rv_memory.specs.declared.access.Rest.{Rest}
use Rattle.rv_memory.specs.declared.access.Rest.TheVariants.{Zero, Canary}

-- how many bytes an access has
abbrev pub bytes_in : Width → ℕ
bytes_in One = 1
bytes_in Two = 2
bytes_in Four = 4

-- the number whose bytes these are, the lowest first
abbrev pub number_of : List ℕ → ℕ
number_of [] = 0
number_of (byte ∷ bytes) = byte + 256 * number_of bytes

-- so many bytes of a number, the lowest first
abbrev pub bytes_of : (count number : ℕ) → List ℕ
bytes_of zero number = []
bytes_of (suc count) number = number % 256 ∷ bytes_of count (number / 256)

abbrev pub read_as : Option (List ℕ) → Result ℕ Unmapped
read_as None = Err (record {})
read_as (Some bytes) = Ok (number_of bytes)

-- a load is the number of its bytes, refused where one isn't mapped
abbrev pub loaded : Memory → (address : ℕ) → Width → Result ℕ Unmapped
loaded memory address width = read_as (span memory.bytes address (bytes_in width))

-- a fetch is the number of four bytes, refused where one may not be run
abbrev pub fetched : Memory → (address : ℕ) → Result ℕ Unmapped
fetched memory address = read_as (span (code_at memory) address 4)

-- What a store answers: Ok only where each byte may be written to, Unmapped exactly where one may not, and want of
-- memory only where each may and some page isn't taken.
abbrev pub StoreAnswers : (lawful taken : Bool) → Result (Unit {0}) StoreFault → Type 0
StoreAnswers lawful taken (Ok done) = lawful ≡ true
StoreAnswers lawful taken (Err refused.Unmapped) = lawful ≡ false
StoreAnswers lawful taken (Err refused.Memory) = (lawful ≡ true) × (taken ≡ false)

-- what a range holds at an address behind its first bytes
abbrev pub rest_byte : Rest → (address : ℕ) → ℕ
rest_byte Zero address = 0
rest_byte (Canary word) address = canary_byte word address

-- what a new range holds: its first bytes, and the rest behind them
abbrev pub new_byte : (first : List ℕ) → Rest → (from address : ℕ) → ℕ
new_byte first rest from address = if nat_lt (address - from) (length first) then slice_index first (address - from) else rest_byte rest address
