-- The addresses that programs may use, those of the heap region, and the limits of what lies there: docs/guest.md,
-- "Memory", and docs/elf.md.
use Rattle.std.specs.Prelude.{ℕ, ◌-◌, ◌^◌, ◌&&◌, Bool, nat_eq, nat_lt, nat_le, [], ◌∷◌}
use Rattle.std.specs.List.{list_any}

-- programs may use the addresses from here on
abbrev pub lowest_address : ℕ
lowest_address = 4096

-- the most bytes that the segments of a program have together
abbrev pub most_segment_bytes : ℕ
most_segment_bytes = 67108864

-- the heap region begins where the addresses that programs may use end
abbrev pub region_from : ℕ
region_from = 2 ^ 30

abbrev pub region_end : ℕ
region_end = 2 ^ 31

abbrev pub in_region : ℕ → Bool
in_region n = nat_le region_from n && nat_lt n region_end

-- the farthest offset whose place is still above its object's address and in the heap region, wherever objects lie
abbrev pub farthest : ℕ
farthest = 2 ^ 21

-- miniheaps end here at the latest: a place beyond an object by the farthest offset is still in the heap region
abbrev pub miniheaps_end : ℕ
miniheaps_end = region_end - farthest

-- the most bytes that are allocated at once
abbrev pub most_allocated : ℕ
most_allocated = 2 ^ 20

-- an object's address is a multiple of 16, and of more where more was asked for: of 4,096 at most
abbrev pub least_alignment : ℕ
least_alignment = 16

abbrev pub greatest_alignment : ℕ
greatest_alignment = 4096

-- the alignments that may be asked for: the powers of two up to the greatest
unfoldable pub is_valid_alignment : ℕ → Bool
is_valid_alignment align = list_any (nat_eq align) (1 ∷ 2 ∷ 4 ∷ 8 ∷ 16 ∷ 32 ∷ 64 ∷ 128 ∷ 256 ∷ 512 ∷ 1024 ∷ 2048 ∷ greatest_alignment ∷ [])
