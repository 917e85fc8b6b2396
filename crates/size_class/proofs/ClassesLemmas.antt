-- The bytes of a miniheap, as they are computed in 64 bits.
use Rattle.std.proofs.Common.{◌≡◌, ℕ, ◌*◌, ◌%◌, ◌^◌, ◌<◌, ◌≤◌, arith}
use Rattle.std.proofs.lemmas.Nat.{mul-le}
use Rattle.std.proofs.Math.Nat.{mod-eq_of_lt, mul_right_comm}
use Rattle.size_class.specs.Classes.{first_slots, nth_bytes}
use Rattle.size_class.specs.Laws.{pow_more, first_bytes}

bytes_fit : (c n : ℕ) → c ≤ 22 → n ≤ 31 → nth_bytes c n < 2 ^ 64
bytes_fit c n h k =
    let low : first_slots c * 2 ^ c * 2 ^ n ≤ 2 ^ 24 * 2 ^ 31 = mul-le (first_slots c * 2 ^ c) (2 ^ n) (2 ^ 24) (2 ^ 31) (first_bytes c h) (pow_more n 31 k) in
    rw (mul_right_comm (first_slots c) (2 ^ n) (2 ^ c)) (omega arith)

pub bytes_are : (c n : ℕ) → c ≤ 22 → n ≤ 31 → first_slots c * 2 ^ c % 2 ^ 64 * 2 ^ n % 2 ^ 64 ≡ nth_bytes c n
bytes_are c n h k =
    let below : first_slots c * 2 ^ c < 2 ^ 64 = omega (arith, first_bytes c h) in
    let fits : first_slots c * 2 ^ c * 2 ^ n < 2 ^ 64 = rw (mul_right_comm (first_slots c) (2 ^ c) (2 ^ n)) (bytes_fit c n h k) in
    rw (mod-eq_of_lt below, mod-eq_of_lt fits) (mul_right_comm (first_slots c) (2 ^ c) (2 ^ n))
