-- Laws over spans and memories, which crates above cite in their proofs. `spans_are_their_bytes` has them as clauses.
use Rattle.std.proofs.Common.{◌≡◌, ℕ, zero, suc, ◌+◌, ◌<◌, ◌≤◌, ◌&&◌, Bool, true, false, List, Option, None, Some, is_some, refl, ap, ◌∙◌, arith, ◌⊎◌, inl, inr, ⊎_elim}
use Rattle.std.proofs.lemmas.Bool.{cases_lt}
use mathlib.Core.Path.{fun_ext}
use Rattle.rv_memory.specs.Memory.{Memory, all_in_span, span, with_first}

-- what a test of a span says of each of its addresses
abbrev pub TestsHoldAtEach : Type 0
TestsHoldAtEach = (test : ℕ → Bool) (from len address : ℕ) → all_in_span test from len ≡ true → from ≤ address → address < from + len → test address ≡ true

both-true : (a b : Bool) → a && b ≡ true → (a ≡ true) × (b ≡ true)
both-true true true is = (refl, refl)
both-true true false is = absurd (cc)
both-true false b is = absurd (cc)

first_or_further : (from address : ℕ) → from ≤ address → (address ≡ from) ⊎ (from + 1 ≤ address)
first_or_further from address low = ⊎_elim (λ (above : from < address). inr (omega arith)) (λ (here : address ≤ from). inl (omega arith)) (cases_lt from address)

pub at_each : TestsHoldAtEach
at_each test from zero address all low high = absurd (omega arith)
at_each test from (suc len) address all low high =
    let both = both-true (test from) (all_in_span test (from + 1) len) all in
    ⊎_elim (λ (here : address ≡ from). ap test here ∙ both.0)
    (λ (further : from + 1 ≤ address). at_each test (from + 1) len address both.1 further (omega arith)) (first_or_further from address low)

-- a test that holds at each address holds for the span
abbrev pub TestsHoldFromEach : Type 0
TestsHoldFromEach = (test : ℕ → Bool) (from len : ℕ) → ((address : ℕ) → from ≤ address → address < from + len → test address ≡ true) → all_in_span test from len ≡ true

pub from_each : TestsHoldFromEach
from_each test from zero each = refl
from_each test from (suc len) each =
    let first : test from ≡ true = each from (omega arith) (omega arith) in
    rw first (from_each test (from + 1) len (λ address low high. each address (omega arith) (omega arith)))

-- a span is there exactly where each of its bytes is
abbrev pub SpansAreWhole : Type 0
SpansAreWhole = (bytes : ℕ → Option ℕ) (from len : ℕ) → is_some (span bytes from len) ≡ all_in_span (λ address. is_some (bytes address)) from len

is_some-with_first : (first : Option ℕ) (others : Option (List ℕ)) → is_some (with_first first others) ≡ is_some first && is_some others
is_some-with_first None others = refl
is_some-with_first (Some byte) None = refl
is_some-with_first (Some byte) (Some bytes) = refl

pub is_some-span : SpansAreWhole
is_some-span bytes from zero = refl
is_some-span bytes from (suc len) = is_some-with_first (bytes from) (span bytes (from + 1) len) ∙ ap (λ b. is_some (bytes from) && b) (is_some-span bytes (from + 1) len)

none_of : (all : Option (List ℕ)) → is_some all ≡ false → all ≡ None
none_of None is = refl
none_of (Some bytes) is = absurd (cc)

-- a span with a byte that isn't there isn't there
pub span-none : (bytes : ℕ → Option ℕ) (from len : ℕ) → all_in_span (λ address. is_some (bytes address)) from len ≡ false → span bytes from len ≡ None
span-none bytes from len fails = none_of (span bytes from len) (is_some-span bytes from len ∙ fails)

-- two memories that agree at each address are one
abbrev pub MemoriesAreTheirAddresses : Type 0
MemoriesAreTheirAddresses = (m n : Memory) → ((a : ℕ) → m.bytes a ≡ n.bytes a) → ((a : ℕ) → m.writable a ≡ n.writable a) → ((a : ℕ) → m.runs a ≡ n.runs a) → m ≡ n

abbrev make : (ℕ → Option ℕ) → (ℕ → Bool) → (ℕ → Bool) → Memory
make bytes writable runs = record { bytes = bytes; writable = writable; runs = runs }

pub same_memory : MemoriesAreTheirAddresses
same_memory m n bytes writable runs =
    ap (λ (b : ℕ → Option ℕ). make b m.writable m.runs) (fun_ext bytes) ∙ ap (λ (w : ℕ → Bool). make n.bytes w m.runs) (fun_ext writable) ∙ ap (λ (r : ℕ → Bool). make n.bytes n.writable r) (fun_ext runs)
