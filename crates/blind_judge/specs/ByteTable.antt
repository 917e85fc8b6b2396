-- What holds of a table of pages and their bytes.
use Rattle.std.specs.Prelude.{◌≡◌, ℕ, ◌+◌, ◌*◌, ◌%◌, ◌<◌, ◌≤◌, List, length, slice_index}

-- the bytes of no two pages that were written to are in one place, and those of the others are zeros
pub record IsTable (table bytes : List ℕ) : Type 0 where
  pub long : length table ≡ 1048576
  pub whole : length bytes % 4096 ≡ 0
  pub inside : (p : ℕ) → slice_index table p * 4096 + 4096 ≤ length bytes
  pub zero : (k : ℕ) → k < 4096 → slice_index bytes k ≡ 0
  pub apart : (p q : ℕ) → 0 < slice_index table p → slice_index table q ≡ slice_index table p → q ≡ p
