-- A file's program keeps the rules that every program keeps.
use Rattle.std.proofs.Common.{◌≡◌, ℕ, zero, suc, ◌+◌, ◌%◌, ◌^◌, ◌<◌, ◌≤◌, Bool, true, false, cond, ◌&&◌, ◌||◌, not, ltb, leb, eqb, List, [], ◌∷◌, map, length, get_or, drop, Option, Some, None, Result, Ok, Err, refl, sym, subst, ◌∙◌, arith}
use Rattle.std.specs.List.{All, Any, AllPairs, AllByRecursion, filter, filter_map, list_any, sum_by}
use Rattle.std.proofs.lemmas.Bool.Decides.{nat_tests}
use Rattle.std.proofs.lemmas.List.{length-take}
use Rattle.std.proofs.lemmas.List.Elements.{All-from_recursion, recursion_from_All}
use Rattle.std.proofs.lemmas.List.Folds.{Any-from_list_any}
use Rattle.std.proofs.lemmas.List.Sorted.{All-permutation, sum_by-IsPermutation, list_any-IsPermutation}
use Rattle.infinite_heap.specs.declared.program.ElfRefusal.{ElfRefusal}
use Rattle.infinite_heap.specs.declared.program.Segment.{Segment}
use Rattle.infinite_heap.specs.declared.program.HeapName.{HeapName}
use Rattle.infinite_heap.specs.declared.program.Program.{Program}
use Rattle.infinite_heap.specs.ElfFields.{e_entry}
use Rattle.infinite_heap.specs.ElfHeaders.{breaks_program_table, breaks_section_table, breaks_loads}
use Rattle.infinite_heap.specs.ElfSegments.{segments_of, leaves_region, has_instruction, breaks_region, breaks_overlap, breaks_total, breaks_entry}
use Rattle.infinite_heap.specs.ElfSymbols.{symbol_table, heap_name, strings_of, symbols_of, names_of, names_by}
use Rattle.infinite_heap.specs.Overlap.{shares, overlaps, by_address}
use Rattle.infinite_heap.specs.Elf.{tag_of, program, program_of}
use Rattle.infinite_heap.specs.Lawful.{IsPlaced, Enters, IsLawful}
use Rattle.elf_load.specs.declared.header.ProgramHeader.{ProgramHeader}
use Rattle.elf_load.specs.Headers.{segment_of, loads}
use Rattle.elf_load.specs.Stages.{IsLoad, AreLoads, HasSegments}
use Rattle.elf_load.proofs.Pairs.{apart_from, apart_any_order, or_left, or_right}
use Rattle.elf_load.proofs.Ordered.{Rising, by_address_moves, rising_by_address}
use Rattle.elf_load.proofs.Loads.{are_loads, headers}
use Rattle.elf_load.proofs.RisingNames.{names_rise}

-- ---- each segment

within : (from len : ℕ) → leaves_region from len ≡ false → (4096 ≤ from) × (from + len ≤ 2 ^ 30)
within from len e = (grind (arith, nat_tests), grind (arith, nat_tests))

is_placed : (file : List ℕ) (h : ProgramHeader) → IsLoad file h → leaves_region h.from h.len ≡ false → IsPlaced (segment_of file h)
is_placed file h l e =
    let w = within h.from h.len e in
    record { some = l.some; low = w.0; high = w.1; held = omega (arith, length-take h.held (drop h.offset file), l.fits) }

placed_by : (file : List ℕ) (hs : List ProgramHeader) → AllByRecursion (IsLoad file) hs → list_any (λ s. leaves_region s.from s.len) (map (segment_of file) hs) ≡ false → AllByRecursion IsPlaced (map (segment_of file) hs)
placed_by file [] l e = tt
placed_by file (h ∷ hs) l e = (
  is_placed file h l.0 (or_left (leaves_region h.from h.len) (list_any (λ s. leaves_region s.from s.len) (map (segment_of file) hs)) e),
  placed_by file hs l.1 (or_right (leaves_region h.from h.len) (list_any (λ s. leaves_region s.from s.len) (map (segment_of file) hs)) e),
)

pub all_placed : (file : List ℕ) (hs : List ProgramHeader) → AreLoads file hs → breaks_region file ≡ false → All IsPlaced (segments_of file)
unfolding breaks_region
all_placed file hs a e =
    subst (All IsPlaced) a.same (All-from_recursion IsPlaced (map (segment_of file) hs) (placed_by file hs (recursion_from_All (IsLoad file) hs a.each) (subst (λ ss. list_any (λ (s : Segment). leaves_region s.from s.len) ss ≡ false) (sym a.same) e)))

-- ---- apart

first_below : (a : ℕ) (xs : List Segment) (j : ℕ) (d : Segment) → AllByRecursion (λ t. a < t.from) xs → j < length xs → a < (get_or xs j d).from
first_below a [] j d h lt = absurd (omega arith)
first_below a (x ∷ xs) zero d h lt = h.0
first_below a (x ∷ xs) (suc j) d h lt = first_below a xs j d h.1 (omega arith)

rising_at : (xs : List Segment) (i j : ℕ) (d : Segment) → Rising xs → i < j → j < length xs → (get_or xs i d).from < (get_or xs j d).from
rising_at [] i j d h lt bj = absurd (omega arith)
rising_at (x ∷ xs) zero zero d h lt bj = absurd (omega arith)
rising_at (x ∷ xs) zero (suc j) d h lt bj = first_below x.from xs j d h.0 (omega arith)
rising_at (x ∷ xs) (suc i) zero d h lt bj = absurd (omega arith)
rising_at (x ∷ xs) (suc i) (suc j) d h lt bj = rising_at xs i j d h.1 (omega arith) (omega arith)

ends_before : (a b : Segment) → a.from < b.from → 0 < b.len → shares a b ≡ false → a.from + a.len ≤ b.from
ends_before a b p q e = grind (arith, nat_tests)

pub all_apart : (xs : List Segment) → All (λ s. 0 < s.len) xs → overlaps xs ≡ false → AllPairs (λ s t. s.from + s.len ≤ t.from) (by_address xs)
all_apart xs pos e = λ i j d lt bj.
    let moves = by_address_moves xs in
    let up = rising_by_address xs (recursion_from_All (λ s. 0 < s.len) xs pos) e in
    let apart = apart_any_order xs (by_address xs) moves (apart_from xs e) in
    let pos_ys = All-permutation (λ s. 0 < s.len) xs (by_address xs) moves pos in
    ends_before (get_or (by_address xs) i d) (get_or (by_address xs) j d) (rising_at (by_address xs) i j d up lt bj) (pos_ys j d bj) (apart.at i j d (λ q. absurd (omega arith)) (omega arith) bj)

-- ---- the entry

and_left : (a b : Bool) → (a && b) ≡ true → a ≡ true
and_left true b e = refl
and_left false b e = absurd cc

and_right : (a b : Bool) → (a && b) ≡ true → b ≡ true
and_right true b e = e
and_right false b e = absurd cc

not_not : (b : Bool) → not b ≡ false → b ≡ true
not_not true e = refl
not_not false e = absurd cc

at_most : (a b : ℕ) → leb a b ≡ true → a ≤ b
at_most a b e = grind (arith, nat_tests)

not_above : (a b : ℕ) → ltb a b ≡ false → b ≤ a
not_above a b e = grind (arith, nat_tests)

is_equal : (a b : ℕ) → eqb a b ≡ true → a ≡ b
is_equal a b e = grind (arith, nat_tests)

enters : (entry : ℕ) (s : Segment) → has_instruction entry s.from s.len s.runs ≡ true → Enters entry s
enters entry s e =
    let both = and_right s.runs (leb s.from entry && leb (entry + 4) (s.from + s.len)) e in
    record {
      runs = and_left s.runs (leb s.from entry && leb (entry + 4) (s.from + s.len)) e;
      low = at_most s.from entry (and_left _ _ both);
      high = at_most (entry + 4) (s.from + s.len) (and_right _ _ both);
    }

entered_by : (entry : ℕ) (xs : List Segment) → list_any (λ s. has_instruction entry s.from s.len s.runs) xs ≡ true → Any (Enters entry) xs
entered_by entry xs e =
    let found = Any-from_list_any (λ (s : Segment). has_instruction entry s.from s.len s.runs) xs e in
    (found.0, found.1, found.2, found.3, enters entry found.1 found.4)

-- ---- the whole

names_by_rise : (file : List ℕ) (table : Option ℕ) → AllPairs (λ m n. m.at < n.at) (names_by file table)
names_by_rise file None = λ i j d lt bj. absurd (omega arith)
names_by_rise file (Some table) = names_rise (filter_map (heap_name file (strings_of file table)) (symbols_of file table))

pub lawful : (file : List ℕ) → HasSegments file → IsLawful (program file)
unfolding breaks_overlap breaks_total breaks_entry names_of
lawful file h =
    let segs = segments_of file in
    let placed = all_placed file (filter loads (headers file)) (are_loads file h.headers.loads) h.region in
    let moves = by_address_moves segs in
    let total = not_above 67108864 (sum_by (λ s. s.len) segs) h.small in
    record {
      placed = All-permutation IsPlaced segs (by_address segs) moves placed;
      apart = all_apart segs (λ k d lt. (placed k d lt).some) h.apart;
      total = omega (arith, total, sum_by-IsPermutation (λ (s : Segment). s.len) segs (by_address segs) moves);
      aligned = is_equal (e_entry file % 4) 0 (not_not _ (or_left _ _ h.entered));
      entered = entered_by (e_entry file) (by_address segs) (sym (list_any-IsPermutation (λ (s : Segment). has_instruction (e_entry file) s.from s.len s.runs) segs (by_address segs) moves) ∙ not_not _ (or_right _ _ h.entered));
      rising = names_by_rise file (symbol_table file);
    }

guard : (b : Bool) (why : ElfRefusal) (rest : Result Program ElfRefusal) (p : Program) → cond b (Err why) rest ≡ Ok p → (b ≡ false) × (rest ≡ Ok p)
guard true why rest p e = absurd cc
guard false why rest p e = (refl, e)

abbrev Outcome : Type 0
Outcome = Result Program ElfRefusal

same_ok : (p q : Program) → (let a : Outcome = Ok p in a ≡ Ok q) → p ≡ q
same_ok p q e = cc

accepted : (file : List ℕ) (p : Program) → program_of file ≡ Ok p → HasSegments file × (program file ≡ p)
unfolding program_of
accepted file p e =
    let short = guard _ _ _ p e in
    let magic = guard _ _ _ p short.1 in
    let class = guard _ _ _ p magic.1 in
    let kind = guard _ _ _ p class.1 in
    let machine = guard _ _ _ p kind.1 in
    let flags = guard _ _ _ p machine.1 in
    let tables = guard _ _ _ p flags.1 in
    let dynamic = guard _ _ _ p tables.1 in
    let region = guard _ _ _ p dynamic.1 in
    let overlap = guard _ _ _ p region.1 in
    let total = guard _ _ _ p overlap.1 in
    let entry = guard _ _ _ p total.1 in
    let symbols = guard _ _ _ p entry.1 in
    let behind = or_right (breaks_program_table file) (breaks_section_table file || breaks_loads file) tables.0 in (
      record {
        headers = record {
          head = record {
            long = short.0;
            magic = not_not _ magic.0;
            class = not_not _ class.0;
            kind = not_not _ kind.0;
            machine = not_not _ machine.0;
            flags = not_not _ flags.0;
          };
          programs = or_left (breaks_program_table file) (breaks_section_table file || breaks_loads file) tables.0;
          sections = or_left (breaks_section_table file) (breaks_loads file) behind;
          loads = or_right (breaks_section_table file) (breaks_loads file) behind;
          still = dynamic.0;
        };
        region = region.0;
        apart = overlap.0;
        small = total.0;
        entered = entry.0;
      },
      same_ok (program file) p symbols.1,
    )

pub accepted_is_lawful : (file : List ℕ) (p : Program) → program_of file ≡ Ok p → IsLawful p
accepted_is_lawful file p e = let a = accepted file p e in subst IsLawful a.1 (lawful file a.0)

pub accepted_is_program : (file : List ℕ) (p : Program) → program_of file ≡ Ok p → program file ≡ p
accepted_is_program file p e = (accepted file p e).1

-- a program by its parts
pub program_is : (file : List ℕ) (segments : List Segment) (entry : ℕ) (names : List HeapName) (tag : ℕ) → segments ≡ by_address (segments_of file) → entry ≡ e_entry file → names ≡ names_of file → tag ≡ tag_of file
    → program file ≡ record { segments = segments; entry = entry; names = names; tag = tag }
program_is file segments entry names tag s e n t = rw (s, e, n, t) refl
