-- Segments that share an address, and segments in the order of their addresses.
use Rattle.std.specs.Prelude.{◌≡◌, ℕ, ◌+◌, ◌<◌, ◌≤◌, max, min, Bool, false, ◌||◌, nat_lt, List, [], ◌∷◌, Some, if◌then◌else◌}
use Rattle.std.specs.List.{list_any, slice_get}
use Rattle.infinite_heap.specs.declared.program.Segment.{Segment}

-- the segment has the address
abbrev pub Holds : Segment → ℕ → Type 0
Holds s x = (s.from ≤ x) × (x < s.from + s.len)

-- the ranges meet
abbrev pub shares : Segment → Segment → Bool
shares a b = nat_lt (max a.from b.from) (min (a.from + a.len) (b.from + b.len))

-- two of the segments share an address
abbrev pub overlaps : List Segment → Bool
overlaps [] = false
overlaps (s ∷ ss) = list_any (shares s) ss || overlaps ss

-- the same, said of two places and an address
pub record Overlap (segments : List Segment) : Type 0 where
  pub first : ℕ
  pub second : ℕ
  pub one : Segment
  pub other : Segment
  pub address : ℕ
  pub apart : first < second
  pub one_is : slice_get segments first ≡ Some one
  pub other_is : slice_get segments second ≡ Some other
  pub in_one : Holds one address
  pub in_other : Holds other address

-- a segment put before those that begin later
abbrev pub placed : Segment → List Segment → List Segment
placed s [] = s ∷ []
placed s (t ∷ ts) = if nat_lt s.from t.from then s ∷ t ∷ ts else t ∷ placed s ts

-- the segments by their addresses
abbrev pub by_address : List Segment → List Segment
by_address [] = []
by_address (s ∷ ss) = placed s (by_address ss)
