-- What areas map.
use Rattle.std.specs.Prelude.{ℕ, ◌+◌, ◌&&◌, nat_le, Bool, false, true, List, [], ◌∷◌, map, Option, Some, None, if◌then◌else◌}
use Rattle.infinite_heap.specs.declared.program.Segment.{Segment}
use Rattle.infinite_heap.specs.Mapped.{Mapping, holds, mapping_of}
use Rattle.blind_judge.specs.declared.areas.Area.{Area}
use Rattle.blind_judge.specs.declared.areas.Purpose.{Purpose}
use Rattle.blind_judge.specs.declared.areas.Purpose.TheVariants.{Reading, Writing, Running}

-- the segment of an area's addresses, with none of its bytes
abbrev pub segment_of : Area → Segment
segment_of area = record { from = area.from; len = area.len; bytes = []; writable = area.writable; runs = area.runs }

abbrev pub mapping_by : List Area → Mapping
mapping_by areas = mapping_of (map segment_of areas)

-- the first area that holds an address
abbrev pub area_at : List Area → ℕ → Option Area
area_at [] x = None
area_at (area ∷ areas) x = if holds (segment_of area) x then Some area else area_at areas x

-- each area begins behind the one before, and the first of them at `low` at least
abbrev pub are_in_order : (low : ℕ) → List Area → Bool
are_in_order low [] = true
are_in_order low (area ∷ areas) = nat_le low area.from && are_in_order (area.from + area.len) areas

-- which addresses may be used for a purpose
abbrev pub test_of : Purpose → Mapping → ℕ → Bool
test_of Reading mapping = mapping.mapped
test_of Writing mapping = mapping.writable
test_of Running mapping = mapping.runs

-- whether an area may be used for a purpose
abbrev pub grants : Purpose → Area → Bool
grants Reading area = true
grants Writing area = area.writable
grants Running area = area.runs

abbrev pub granted : Purpose → Option Area → Bool
granted purpose None = false
granted purpose (Some area) = grants purpose area
