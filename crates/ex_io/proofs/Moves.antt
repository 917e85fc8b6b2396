-- Bytes that are moved from the front of what is left.
use Rattle.std.proofs.Common.{arith, ◌≡◌, ◌≤◌, ℕ, ◌+◌, List, ◌++◌, take, drop, length, sym, subst, ap, length-drop}
use Rattle.std.proofs.Math.Seq.{take-append_seam}
use Rattle.std.proofs.lemmas.List.{take-append-drop, drop-drop, length-take}

-- a piece that was copied to the front of a buffer
pub moves-front : (bytes copied tail : List ℕ) (at n : ℕ) → copied ≡ take n (drop at bytes) → n + at ≤ length bytes → drop at bytes ≡ take n (copied ++ tail) ++ drop (at + n) bytes
moves-front bytes copied tail at n is fits =
    let len : n ≡ length copied = omega (arith, ap length is, length-take n (drop at bytes), length-drop at bytes) in
    let front : take n (copied ++ tail) ≡ copied = subst (λ k. take k (copied ++ tail) ≡ copied) (sym len) (take-append_seam copied tail) in
    rw (front, is, ← drop-drop n at bytes) (sym (take-append-drop n (drop at bytes)))
