-- The hash of one return address more.
use Rattle.std.proofs.Common.{◌≡◌, ℕ, ◌+◌, List, map, slice_index, ap, ◌∙◌, arith}
use Rattle.std.specs.List.{range_with_len, fold}
use Rattle.std.proofs.lemmas.List.Sums.{fold_push}
use Rattle.std.proofs.lemmas.List.FromFn.{map-range_with_len_more}
use Rattle.infinite_heap.specs.CallSite.{hashed}

-- the hash of the n newest
abbrev pub hash_of : List ℕ → ℕ → ℕ
hash_of calls n = fold hashed 5381 (map (slice_index calls) (range_with_len 0 n))

pub hash_of_more : (calls : List ℕ) (n : ℕ) → hash_of calls (n + 1) ≡ hashed (hash_of calls n) (slice_index calls n)
hash_of_more calls n =
    ap (fold hashed 5381) (map-range_with_len_more (slice_index calls) 0 n n (omega arith))
    ∙ fold_push hashed 5381 (map (slice_index calls) (range_with_len 0 n)) (slice_index calls n)
