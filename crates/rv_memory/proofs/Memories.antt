-- Bytes of a memory a span of which was filled.
use Rattle.std.proofs.Common.{◌≡◌, ℕ, ◌+◌, ◌<◌, ◌≤◌, Bool, true, false, cond, Option, Some, is_some, refl, arith}
use Rattle.std.proofs.lemmas.Bool.Decides.{nat_tests}
use Rattle.rv_memory.specs.Memory.{Memory, within, filled, is_mapped}
use Rattle.rv_memory.specs.Laws.{at_each, from_each, same_memory}

-- a byte within a span that was filled
pub inside-filled : (memory : Memory) (from n a : ℕ) (byte : ℕ → ℕ) → from ≤ a → a < from + n → (filled memory from n byte).bytes a ≡ Some (byte a)
inside-filled memory from n a byte low high = let inside : within from n a ≡ true = grind (arith, nat_tests) in rw inside refl

-- a byte before it
pub before-filled : (memory : Memory) (from n a : ℕ) (byte : ℕ → ℕ) → a < from → (filled memory from n byte).bytes a ≡ memory.bytes a
before-filled memory from n a byte before = let out : within from n a ≡ false = grind (arith, nat_tests) in rw out refl

-- a byte behind it
pub behind-filled : (memory : Memory) (from n a : ℕ) (byte : ℕ → ℕ) → from + n ≤ a → (filled memory from n byte).bytes a ≡ memory.bytes a
behind-filled memory from n a byte behind = let out : within from n a ≡ false = grind (arith, nat_tests) in rw out refl

pub nothing-in : (from a : ℕ) → within from 0 a ≡ false
nothing-in from a = grind (arith, nat_tests)

-- an empty span
pub nothing-filled : (memory : Memory) (from : ℕ) (byte : ℕ → ℕ) → filled memory from 0 byte ≡ memory
nothing-filled memory from byte = same_memory (filled memory from 0 byte) memory (λ a. let out = nothing-in from a in rw out refl) (λ a. refl) (λ a. refl)

some-either : (b : Bool) (byte : ℕ) (other : Option ℕ) → is_some other ≡ true → is_some (cond b (Some byte) other) ≡ true
some-either true byte other is = refl
some-either false byte other is = is

-- what was mapped still is
pub mapped-filled : (memory : Memory) (from n start len : ℕ) (byte : ℕ → ℕ) → is_mapped memory start len ≡ true → is_mapped (filled memory from n byte) start len ≡ true
mapped-filled memory from n start len byte mapped = from_each (λ a. is_some ((filled memory from n byte).bytes a)) start len (λ a low high. some-either (within from n a) (byte a) (memory.bytes a) (at_each (λ x. is_some (memory.bytes x)) start len a mapped low high))

pub mapped-part : (memory : Memory) (from done count len : ℕ) → done + count ≤ len → is_mapped memory from len ≡ true → is_mapped memory (from + done) count ≡ true
mapped-part memory from done count len fits mapped = from_each (λ a. is_some (memory.bytes a)) (from + done) count (λ a low high. at_each (λ a. is_some (memory.bytes a)) from len a mapped (omega arith) (omega arith))
