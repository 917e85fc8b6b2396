-- The rules that every program keeps.
use Rattle.std.specs.Prelude.{◌≡◌, ℕ, ◌+◌, ◌%◌, ◌<◌, ◌≤◌, true, length}
use Rattle.std.specs.List.{All, AllPairs, Any, sum_by}
use Rattle.infinite_heap.specs.declared.program.Segment.{Segment}
use Rattle.infinite_heap.specs.declared.program.Program.TheInside.{Inside}
use Rattle.infinite_heap.specs.Loaded.{Loaded}
use Rattle.infinite_heap.specs.Region.{lowest_address, region_from, most_segment_bytes}

abbrev pub loaded : Inside → Loaded
loaded p = record { segments = p.segments; entry = p.entry; names = p.names; tag = p.tag }

-- it has addresses, all of them programs may use, and no more bytes than addresses
pub record IsPlaced (s : Segment) : Type 0 where
  pub some : 0 < s.len
  pub low : lowest_address ≤ s.from
  pub high : s.from + s.len ≤ region_from
  pub held : length s.bytes ≤ s.len

-- the four bytes of the first instruction lie in it, and it runs
pub record Enters (entry : ℕ) (s : Segment) : Type 0 where
  pub runs : s.runs ≡ true
  pub low : s.from ≤ entry
  pub high : entry + 4 ≤ s.from + s.len

pub record IsLawful (p : Loaded) : Type 0 where
  pub placed : All IsPlaced p.segments
  pub apart : AllPairs (λ s t. s.from + s.len ≤ t.from) p.segments
  pub total : sum_by (λ s. s.len) p.segments ≤ most_segment_bytes
  pub aligned : p.entry % 4 ≡ 0
  pub entered : Any (Enters p.entry) p.segments
  pub rising : AllPairs (λ m n. m.at < n.at) p.names
