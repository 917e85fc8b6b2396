-- Numbers as `byteorder` reads them are the file's.
use Rattle.std.proofs.Common.{◌≡◌, ℕ, ◌+◌, List, drop, get_or, arith}
use Rattle.std.proofs.lemmas.List.{get_or-drop}
use Rattle.byteorder.specs.Endian.{little_number}
use Rattle.infinite_heap.specs.ElfFields.{u16_at, u32_at}

byte_behind : (file : List ℕ) (at i : ℕ) → get_or (drop at file) i 0 ≡ get_or file (at + i) 0
byte_behind file at i = get_or-drop at file i 0

pub two_bytes : (file : List ℕ) (at : ℕ) → little_number 2 (drop at file) ≡ u16_at file at
unfolding u16_at
two_bytes file at = let z : at + 0 ≡ at = omega arith in rw (byte_behind file at 0, byte_behind file at 1, z) (omega arith)

pub four_bytes : (file : List ℕ) (at : ℕ) → little_number 4 (drop at file) ≡ u32_at file at
unfolding u16_at u32_at
four_bytes file at =
    let z : at + 0 ≡ at = omega arith in
    let t : at + 2 + 1 ≡ at + 3 = omega arith in
    rw (byte_behind file at 0, byte_behind file at 1, byte_behind file at 2, byte_behind file at 3, z, t) (omega arith)
