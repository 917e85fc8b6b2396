-- The site of a heap call, a hash of the return addresses from which it came: docs/call-sites.md.
use Rattle.std.specs.Prelude.{ℕ, ◌+◌, ◌*◌, ◌%◌, ◌^◌, List, map, fold, slice_index}
use Rattle.std.specs.List.{range_with_len}

-- the five newest return addresses, newest first; a missing one counts as 0
abbrev pub newest_five : List ℕ → List ℕ
newest_five calls = map (slice_index calls) (range_with_len 0 5)

-- one more address
abbrev pub hashed : (hash address : ℕ) → ℕ
hashed hash address = (hash * 33 + address) % 2 ^ 32

-- the site, from the return addresses, newest first
unfoldable pub site_of : List ℕ → ℕ
site_of calls = fold hashed 5381 (newest_five calls)
