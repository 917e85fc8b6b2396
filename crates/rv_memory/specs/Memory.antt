-- The memory of a guest: a byte at each mapped address, and two flags (docs/memory.md).
use Rattle.std.specs.Prelude.{◌≡◌, ℕ, zero, suc, ◌+◌, ◌-◌, ◌/◌, ◌^◌, ◌<◌, ◌≤◌, ◌==◌, Bool, true, false, ◌&&◌, not, nat_lt, nat_le, List, [], ◌∷◌, length, slice_index, Option, None, Some, is_some, is_none, find, unwrap_or, if◌then◌else◌}
use Rattle.std.specs.List.{range_with_len}
use Rattle.diefast_canary.specs.Canary.{canary_byte}

pub record Memory : Type 0 where
  -- the byte at each address, None where none is mapped
  pub bytes : ℕ → Option ℕ
  -- the mapped addresses that may be written to
  pub writable : ℕ → Bool
  -- the mapped addresses whose bytes may be run
  pub runs : ℕ → Bool

-- nothing is mapped
abbrev pub no_memory : Memory
no_memory = record { bytes = λ address. None; writable = λ address. false; runs = λ address. false }

-- The span of an address and a length is the addresses from that one on, as many as the length. It never wraps.
abbrev pub within : (from len address : ℕ) → Bool
within from len address = nat_le from address && nat_lt address (from + len)

-- whether a test holds at each address of a span
abbrev pub all_in_span : (ℕ → Bool) → (from len : ℕ) → Bool
all_in_span test from zero = true
all_in_span test from (suc len) = test from && all_in_span test (from + 1) len

abbrev pub with_first : Option ℕ → Option (List ℕ) → Option (List ℕ)
with_first None others = None
with_first (Some byte) None = None
with_first (Some byte) (Some others) = Some (byte ∷ others)

-- the bytes of a span, None where one isn't there
abbrev pub span : (ℕ → Option ℕ) → (from len : ℕ) → Option (List ℕ)
span bytes from zero = Some []
span bytes from (suc len) = with_first (bytes from) (span bytes (from + 1) len)

abbrev pub is_mapped : Memory → (from len : ℕ) → Bool
is_mapped memory = all_in_span (λ address. is_some (memory.bytes address))

abbrev pub is_unmapped : Memory → (from len : ℕ) → Bool
is_unmapped memory = all_in_span (λ address. is_none (memory.bytes address))

abbrev pub can_write : Memory → (from len : ℕ) → Bool
can_write memory = all_in_span memory.writable

-- whether a span ends at 2^32 at most, and each of its bytes is mapped, and may be written to where it is to be
abbrev pub is_lawful : Memory → (from len : ℕ) → (writing : Bool) → Bool
is_lawful memory from len writing = nat_le (from + len) (2 ^ 32) && (if writing then can_write memory from len else is_mapped memory from len)

-- the byte of an address that may be run
abbrev pub code_at : Memory → ℕ → Option ℕ
code_at memory address = if memory.runs address then memory.bytes address else None

-- the same memory, but that each byte of a span is the one that the function gives for its address
abbrev pub filled : Memory → (from len : ℕ) → (ℕ → ℕ) → Memory
filled memory from len byte = record {
  bytes = λ address. if within from len address then Some (byte address) else memory.bytes address;
  writable = memory.writable;
  runs = memory.runs;
}

-- the same memory, but that these bytes stand from an address on
abbrev pub with_bytes : Memory → (from : ℕ) → List ℕ → Memory
with_bytes memory from bytes = filled memory from (length bytes) (λ address. slice_index bytes (address - from))

-- the same memory, but that the bytes of a span stand from another address on too
abbrev pub with_copy : Memory → (from to len : ℕ) → Memory
with_copy memory from to len = with_bytes memory to (unwrap_or (span memory.bytes from len) [])

-- the same memory and one more range, with its bytes and its flags
abbrev pub with_range : Memory → (from len : ℕ) → (ℕ → ℕ) → (writable runs : Bool) → Memory
with_range memory from len byte writable runs = record {
  bytes = λ address. if within from len address then Some (byte address) else memory.bytes address;
  writable = λ address. if within from len address then writable else memory.writable address;
  runs = λ address. if within from len address then runs else memory.runs address;
}

-- Addresses lie in pages of 4,096. A memory's keeper has taken some pages: a store there wants no more memory.
abbrev pub page_of : ℕ → ℕ
page_of address = address / 4096

abbrev pub is_taken : (taken : ℕ → Bool) → (from len : ℕ) → Bool
is_taken taken = all_in_span (λ address. taken (page_of address))

-- a taken page stays taken
abbrev pub KeepsTaken : (old new : ℕ → Bool) → Type 0
KeepsTaken old new = (page : ℕ) → old page ≡ true → new page ≡ true

-- what every memory of 32-bit addresses keeps
pub record IsBounded (memory : Memory) : Type 0 where
  pub small : (address byte : ℕ) → memory.bytes address ≡ Some byte → byte < 256
  pub low : (address : ℕ) → is_some (memory.bytes address) ≡ true → address < 2 ^ 32
  pub writable_mapped : (address : ℕ) → memory.writable address ≡ true → is_some (memory.bytes address) ≡ true
  pub runs_mapped : (address : ℕ) → memory.runs address ≡ true → is_some (memory.bytes address) ≡ true

abbrev pub is_byte : Option ℕ → ℕ → Bool
is_byte None byte = false
is_byte (Some here) byte = here == byte

-- whether an address doesn't hold the canary's byte of this word
abbrev pub is_broken : Memory → (word address : ℕ) → Bool
is_broken memory word address = not (is_byte (memory.bytes address) (canary_byte word address))

-- the first address of a span that doesn't hold the canary's byte
abbrev pub first_broken : Memory → (word from len : ℕ) → Option ℕ
first_broken memory word from len = find (is_broken memory word) (range_with_len from len)

-- each address of a span holds the canary's byte
abbrev pub IsIntact : Memory → (word from len : ℕ) → Type 0
IsIntact memory word from len = (address : ℕ) → from ≤ address → address < from + len → memory.bytes address ≡ Some (canary_byte word address)

-- the least address of a span that doesn't hold the canary's byte
pub record IsLeastBreak (memory : Memory) (word from len broken : ℕ) : Type 0 where
  pub inside : within from len broken ≡ true
  pub breaks : is_broken memory word broken ≡ true
  pub before : (address : ℕ) → from ≤ address → address < broken → memory.bytes address ≡ Some (canary_byte word address)
