-- A space one of whose ranges was written over.
use Rattle.std.proofs.Common.{◌≡◌, ℕ, suc, ◌<◌, Bool, true, false, cond, ◌∷◌, length, get_or, set, Option, None, Some, is_some, refl, ap, ◌∙◌, subst, arith}
use Rattle.rv_memory.specs.declared.range.Range.{Range}
use Rattle.rv_memory.specs.declared.range.Purpose.TheVariants.{Writing}
use Rattle.rv_memory.specs.declared.space.Space.{Space}
use Rattle.rv_memory.specs.Memory.{filled}
use Rattle.rv_memory.specs.Ranges.{holds, range_at, byte_at, byte_in, grants, memory_in, IsApart, IsInOrder, Overwrites}
use Rattle.rv_memory.specs.Spaces.{ranges_of, memory_of}
use Rattle.rv_memory.proofs.Changed.{memory-set, apart-set}
use Rattle.rv_memory.proofs.Memories.{nothing-filled}
use Rattle.rv_memory.proofs.Ordered.{order-set}
use Rattle.rv_memory.proofs.Pieces.{clash}

not-writable : (b : Bool) (code : Range) (rest : Option Range) → code.writable ≡ false → rest ≡ None → grants Writing (cond b (Some code) rest) ≡ false
not-writable true code rest fixed missed = fixed
not-writable false code rest fixed missed = rw missed refl

-- what may be written to lies in a range behind the code
pub missed-write : (space : Space) (address : ℕ) → range_at space.ranges.items address ≡ None → (memory_of space).writable address ≡ true → ⊥
unfolding memory_of
missed-write space address missed writable = clash (grants Writing (range_at (ranges_of space) address)) writable (not-writable (holds space.code address) space.code (range_at space.ranges.items address) space.code_fixed missed)

-- one of the ranges was written over
pub written-range : (space : Space) (i from len : ℕ) (old new : Range) (byte : ℕ → ℕ) → i < length space.ranges.items → old ≡ get_or space.ranges.items i old → Overwrites old new from len byte → memory_in (space.code ∷ set space.ranges.items i new) ≡ filled (memory_of space) from len byte
unfolding memory_of
written-range space i from len old new byte low is over =
    memory-set (ranges_of space) (suc i) old new from len byte space.apart (omega arith) (subst (λ (r : Range). Overwrites r new from len byte) is over)

pub apart-range : (space : Space) (i from len : ℕ) (old new : Range) (byte : ℕ → ℕ) → i < length space.ranges.items → old ≡ get_or space.ranges.items i old → Overwrites old new from len byte → IsApart (space.code ∷ set space.ranges.items i new)
apart-range space i from len old new byte low is over =
    apart-set (ranges_of space) (suc i) old new from len byte space.apart (omega arith) (subst (λ (r : Range). Overwrites r new from len byte) is over)

pub order-range : (space : Space) (i from len : ℕ) (old new : Range) (byte : ℕ → ℕ) → i < length space.ranges.items → old ≡ get_or space.ranges.items i old → Overwrites old new from len byte → IsInOrder (set space.ranges.items i new)
order-range space i from len old new byte low is over =
    order-set space.ranges.items i old new low (over.from_same ∙ ap (λ (r : Range). r.from) is) (over.len_same ∙ ap (λ (r : Range). r.len) is) space.order

-- the code was written over
pub written-code : (space : Space) (from len : ℕ) (new : Range) (byte : ℕ → ℕ) → Overwrites space.code new from len byte → memory_in (new ∷ space.ranges.items) ≡ filled (memory_of space) from len byte
unfolding memory_of
written-code space from len new byte over = memory-set (ranges_of space) 0 space.code new from len byte space.apart (omega arith) over

pub apart-code : (space : Space) (from len : ℕ) (new : Range) (byte : ℕ → ℕ) → Overwrites space.code new from len byte → IsApart (new ∷ space.ranges.items)
apart-code space from len new byte over = apart-set (ranges_of space) 0 space.code new from len byte space.apart (omega arith) over

code-holds : (b : Bool) (code : Range) (rest : Option Range) (address : ℕ) → rest ≡ None → is_some (byte_in (cond b (Some code) rest) address) ≡ true → b ≡ true
code-holds true code rest address missed mapped = refl
code-holds false code rest address missed mapped = absurd (let e : is_some (byte_in None address) ≡ true = subst (λ (r : Option Range). is_some (byte_in r address) ≡ true) missed mapped in cc)

-- what is mapped lies in the code where it lies in no other range
pub code-held : (space : Space) (address : ℕ) → range_at space.ranges.items address ≡ None → is_some ((memory_of space).bytes address) ≡ true → holds space.code address ≡ true
unfolding memory_of
code-held space address missed mapped = code-holds (holds space.code address) space.code (range_at space.ranges.items address) address missed mapped

-- a range's bytes were made
pub made-same : (space : Space) (i : ℕ) (old new : Range) → i < length space.ranges.items → old ≡ get_or space.ranges.items i old → Overwrites old new old.from 0 (byte_at old) → memory_in (space.code ∷ set space.ranges.items i new) ≡ memory_of space
made-same space i old new low is over = written-range space i old.from 0 old new (byte_at old) low is over ∙ nothing-filled (memory_of space) old.from (byte_at old)

-- the first code is as it was
pub code-same : (space : Space) (new : Range) → Overwrites space.code new space.code.from 0 (byte_at space.code) → memory_in (new ∷ space.ranges.items) ≡ memory_of space
code-same space new over = written-code space space.code.from 0 new (byte_at space.code) over ∙ nothing-filled (memory_of space) space.code.from (byte_at space.code)
