-- The segments of a file, and what they have to keep: docs/elf.md, the rules Region to Entry.
use Rattle.std.specs.Prelude.{ℕ, ◌+◌, ◌/◌, ◌%◌, ◌==◌, ◌&&◌, ◌||◌, not, Bool, nat_lt, nat_le, List, map}
use Rattle.std.specs.List.{filter, list_any, sum_by}
use Rattle.infinite_heap.specs.declared.program.Segment.{Segment}
use Rattle.infinite_heap.specs.ElfFields.{bytes_at, e_entry, p_offset, p_vaddr, p_filesz, p_memsz, p_flags}
use Rattle.infinite_heap.specs.ElfHeaders.{is_loadable, program_headers}
use Rattle.infinite_heap.specs.Overlap.{overlaps}
use Rattle.infinite_heap.specs.Region.{lowest_address, region_from, most_segment_bytes}

-- a loadable header that takes no address gives no segment
abbrev pub gives_segment : List ℕ → ℕ → Bool
gives_segment file at = is_loadable file at && not (p_memsz file at == 0)

unfoldable pub segment_at : List ℕ → ℕ → Segment
segment_at file at = record {
  from = p_vaddr file at;
  len = p_memsz file at;
  bytes = bytes_at file (p_offset file at) (p_filesz file at);
  writable = p_flags file at / 2 % 2 == 1;
  runs = p_flags file at % 2 == 1;
}

-- in the order of their headers
unfoldable pub segments_of : List ℕ → List Segment
segments_of file = map (segment_at file) (filter (gives_segment file) (program_headers file))

-- not all of its addresses are ones that programs may use
abbrev pub leaves_region : ℕ → ℕ → Bool
leaves_region from len = nat_lt from lowest_address || nat_lt region_from (from + len)

unfoldable pub breaks_region : List ℕ → Bool
breaks_region file = list_any (λ s. leaves_region s.from s.len) (segments_of file)

unfoldable pub breaks_overlap : List ℕ → Bool
breaks_overlap file = overlaps (segments_of file)

unfoldable pub breaks_total : List ℕ → Bool
breaks_total file = nat_lt most_segment_bytes (sum_by (λ s. s.len) (segments_of file))

-- a segment that runs and has the four bytes from an address on
abbrev pub has_instruction : ℕ → ℕ → ℕ → Bool → Bool
has_instruction at from len runs = runs && (nat_le from at && nat_le (at + 4) (from + len))

unfoldable pub breaks_entry : List ℕ → Bool
breaks_entry file = not (e_entry file % 4 == 0) || not (list_any (λ s. has_instruction (e_entry file) s.from s.len s.runs) (segments_of file))
