-- Pieces of a span that were read or written one after the other.
use Rattle.std.proofs.Common.{◌≡◌, ℕ, ◌+◌, ◌-◌, ◌<◌, ◌≤◌, Bool, true, false, cond, List, length, get_or, take, drop, ap, ◌∙◌, arith}
use Rattle.rv_memory.specs.declared.range.Range.{Range}
use Rattle.rv_memory.specs.Memory.{within}
use Rattle.rv_memory.specs.Ranges.{Overwrites}
use Rattle.rv_memory.proofs.Bytes.{shift-byte, IsSameBut, over-whole}
use Rattle.rv_memory.proofs.Overwritten.{get_or-part}

pub clash : (b : Bool) → b ≡ true → b ≡ false → ⊥
clash b passes fails = cc

-- a piece of some bytes that was put into a range
pub written-piece : (old new : Range) (written : List ℕ) (addr done n : ℕ) (bytes : List ℕ) → IsSameBut old new written → old.from ≤ addr + done → addr + done + n ≤ old.from + old.len → length (take n (drop done bytes)) ≡ n
    → ((k : ℕ) → k < length written → get_or written k 0 ≡ cond (within (addr + done - old.from) (length (take n (drop done bytes))) k) (get_or (take n (drop done bytes)) (k - (addr + done - old.from)) 0) (get_or old.bytes.items k 0)) → Overwrites old new (addr + done) n (λ a. get_or bytes (a - addr) 0)
written-piece old new written addr done n bytes same begins ends size each = over-whole old new written (addr + done) n (λ a. get_or bytes (a - addr) 0) same begins ends (λ k low. shift-byte old.from (addr + done) (addr + done - old.from) n k (get_or written k 0) (get_or old.bytes.items k 0) (λ j. get_or (take n (drop done bytes)) (j - (addr + done - old.from)) 0) (λ a. get_or bytes (a - addr) 0) (omega arith)
    (each k low ∙ ap (λ m. cond (within (addr + done - old.from) m k) (get_or (take n (drop done bytes)) (k - (addr + done - old.from)) 0) (get_or old.bytes.items k 0)) size)
    (λ above below.
    let spot : done + (k - (addr + done - old.from)) ≡ old.from + k - addr = omega arith in
    get_or-part done n (k - (addr + done - old.from)) bytes (omega arith) ∙ ap (λ p. get_or bytes p 0) spot))
