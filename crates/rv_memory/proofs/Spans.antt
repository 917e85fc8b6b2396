-- Tests and bytes over spans, address by address.
use Rattle.std.proofs.Common.{◌≡◌, ℕ, zero, suc, ◌+◌, ◌<◌, ◌≤◌, Bool, true, false, List, [], ◌∷◌, length, get_or, Option, Some, is_some, refl, sym, ap, ◌∙◌, arith}
use Rattle.rv_memory.specs.Memory.{Memory, all_in_span, span, can_write, is_mapped, IsBounded}
use Rattle.rv_memory.specs.Laws.{at_each, from_each}

-- a test that fails at one address fails for the span
pub fails_at : (test : ℕ → Bool) (from len address : ℕ) → from ≤ address → address < from + len → test address ≡ false → all_in_span test from len ≡ false
fails_at test from len address low high fails = fails_by (all_in_span test from len) refl
  where
    fails_by : (b : Bool) → all_in_span test from len ≡ b → all_in_span test from len ≡ false
    fails_by true all = absurd (let h = at_each test from len address all low high in cc)
    fails_by false all = all

-- a span whose bytes are known one by one
pub span-is : (bytes : ℕ → Option ℕ) (from len : ℕ) (list : List ℕ) → length list ≡ len → ((k : ℕ) → k < len → bytes (from + k) ≡ Some (get_or list k 0)) → span bytes from len ≡ Some list
span-is bytes from zero [] same each = refl
span-is bytes from zero (byte ∷ list) same each = absurd (omega arith)
span-is bytes from (suc len) [] same each = absurd (omega arith)
span-is bytes from (suc len) (byte ∷ list) same each =
    let spot : from + 0 ≡ from = omega arith in
    let first : bytes from ≡ Some byte = ap bytes (sym spot) ∙ each 0 (omega arith) in
    let others : span bytes (from + 1) len ≡ Some list = span-is bytes (from + 1) len list (omega arith) (λ k low. let there : from + 1 + k ≡ from + suc k = omega arith in ap bytes there ∙ each (suc k) (omega arith)) in
    rw (first, others) refl

-- what may be written to is mapped
pub mapped-writable : (memory : Memory) (from len : ℕ) → IsBounded memory → can_write memory from len ≡ true → is_mapped memory from len ≡ true
mapped-writable memory from len bounded can = from_each (λ a. is_some (memory.bytes a)) from len (λ a low high. bounded.writable_mapped a (at_each memory.writable from len a can low high))
