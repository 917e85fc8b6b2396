-- Bytes that are kept by pages.
use Rattle.std.specs.Prelude.{ℕ, ◌+◌, ◌*◌, ◌/◌, ◌%◌, List, slice_index}
use Rattle.blind_judge.specs.declared.flat_bytes.FlatBytes.{FlatBytes}

-- The byte at an address, by the table, which has the number of each page's bytes. Page 0 is shared by all pages that
-- weren't written to.
abbrev pub byte_by : (table bytes : List ℕ) → ℕ → ℕ
byte_by table bytes = λ x. slice_index bytes (slice_index table (x / 4096) * 4096 + x % 4096)

abbrev pub byte_in : FlatBytes → ℕ → ℕ
byte_in pages = byte_by pages.table.items pages.bytes.items
