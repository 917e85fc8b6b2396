-- The rules on segments, as the headers show them.
use Rattle.std.proofs.Common.{◌≡◌, ℕ, ◌+◌, ◌%◌, Bool, true, false, cond, ◌&&◌, ◌||◌, not, ltb, eqb, List, [], ◌∷◌, map, length, refl, sym, ap, ◌∙◌, arith}
use Rattle.std.specs.List.{AllByRecursion, filter, list_any, sum_by, fold}
use Rattle.std.proofs.lemmas.Bool.Decides.{nat_tests}
use Rattle.std.proofs.lemmas.List.Elements.{All-from_recursion}
use Rattle.infinite_heap.specs.declared.program.Segment.{Segment}
use Rattle.infinite_heap.specs.ElfFields.{e_entry}
use Rattle.infinite_heap.specs.ElfHeaders.{program_headers, breaks_loads, is_dynamic}
use Rattle.infinite_heap.specs.ElfSegments.{gives_segment, segment_at, segments_of, leaves_region, has_instruction, breaks_region, breaks_overlap, breaks_total, breaks_entry}
use Rattle.infinite_heap.specs.Overlap.{overlaps, by_address}
use Rattle.elf_load.specs.declared.header.ProgramHeader.{ProgramHeader}
use Rattle.elf_load.specs.Headers.{header_at, breaks, links, loads, runs, segment_of}
use Rattle.elf_load.specs.Order.{InOrder}
use Rattle.elf_load.specs.Stages.{IsLoad, AreLoads}
use Rattle.elf_load.proofs.Pairs.{or_left, or_right}

pub any_map : {A B : Type 0} (f : A → B) (p : B → Bool) (xs : List A) → list_any p (map f xs) ≡ list_any (λ x. p (f x)) xs
any_map f p [] = refl
any_map f p (x ∷ xs) = ap (λ b. p (f x) || b) (any_map f p xs)

pub any_same : {A : Type 0} (p q : A → Bool) (xs : List A) → ((x : A) → p x ≡ q x) → list_any p xs ≡ list_any q xs
any_same p q [] h = refl
any_same p q (x ∷ xs) h = let a = h x in let b = any_same p q xs h in rw (a, b) refl

total_from : {A B : Type 0} (f : A → B) (n : B → ℕ) (m : ℕ) (xs : List A) → fold (λ a x. a + n x) m (map f xs) ≡ fold (λ a x. a + n (f x)) m xs
total_from f n m [] = refl
total_from f n m (x ∷ xs) = total_from f n (m + n (f x)) xs

pub total_map : {A B : Type 0} (f : A → B) (n : B → ℕ) (xs : List A) → sum_by n (map f xs) ≡ sum_by (λ x. n (f x)) xs
total_map f n xs = total_from f n 0 xs

-- ---- the headers of a file

abbrev pub headers : List ℕ → List ProgramHeader
headers file = map (header_at file) (program_headers file)

pub any_break : (file : List ℕ) → list_any (breaks (length file)) (headers file) ≡ breaks_loads file
unfolding breaks_loads header_at
any_break file = any_map (header_at file) (breaks (length file)) (program_headers file)

pub any_link : (file : List ℕ) → list_any links (headers file) ≡ is_dynamic file
unfolding is_dynamic header_at
any_link file = any_map (header_at file) links (program_headers file)

pub breaks_is : (file : List ℕ) (ds : List ProgramHeader) (b : Bool) → ds ≡ headers file → b ≡ list_any (breaks (length file)) ds → breaks_loads file ≡ b
breaks_is file ds b d e = sym (e ∙ ap (list_any (breaks (length file))) d ∙ any_break file)

pub links_is : (file : List ℕ) (ds : List ProgramHeader) (b : Bool) → ds ≡ headers file → b ≡ list_any links ds → is_dynamic file ≡ b
links_is file ds b d e = sym (e ∙ ap (list_any links) d ∙ any_link file)

segments_by : (file : List ℕ) (places : List ℕ) → map (segment_of file) (filter loads (map (header_at file) places)) ≡ map (segment_at file) (filter (gives_segment file) places)
unfolding header_at segment_at
segments_by file [] = refl
segments_by file (p ∷ ps) =
    elim (gives_segment file p) as (λ b. map (segment_of file) (cond b (header_at file p ∷ filter loads (map (header_at file) ps)) (filter loads (map (header_at file) ps))) ≡ map (segment_at file) (cond b (p ∷ filter (gives_segment file) ps) (filter (gives_segment file) ps))) [
      | true ↦ ap (λ ss. segment_at file p ∷ ss) (segments_by file ps)
      | false ↦ segments_by file ps
    ]

is_load : (file : List ℕ) (h : ProgramHeader) → loads h ≡ true → breaks (length file) h ≡ false → IsLoad file h
is_load file h e q = record { some = grind (arith, nat_tests); fits = grind (arith, nat_tests); inside = grind (arith, nat_tests) }

loads_by : (file : List ℕ) (hs : List ProgramHeader) → list_any (breaks (length file)) hs ≡ false → AllByRecursion (IsLoad file) (filter loads hs)
loads_by file [] e = tt
loads_by file (h ∷ hs) e =
    let rest = loads_by file hs (or_right (breaks (length file) h) (list_any (breaks (length file)) hs) e) in
    elim (loads h) as (λ b. loads h ≡ b → AllByRecursion (IsLoad file) (cond b (h ∷ filter loads hs) (filter loads hs))) [
      | true ↦ λ q. (is_load file h q (or_left (breaks (length file) h) (list_any (breaks (length file)) hs) e), rest)
      | false ↦ λ q. rest
    ] refl

pub are_loads : (file : List ℕ) → breaks_loads file ≡ false → AreLoads file (filter loads (headers file))
unfolding segments_of
are_loads file e = record {
  each = All-from_recursion (IsLoad file) (filter loads (headers file)) (loads_by file (headers file) (any_break file ∙ e));
  same = segments_by file (program_headers file);
}

-- ---- their segments

-- `ds` is the list of headers as it was lent, and b what a test of it answered
pub region_is : (file : List ℕ) (hs ds : List ProgramHeader) (b : Bool) → AreLoads file hs → ds ≡ hs → b ≡ list_any (λ h. leaves_region h.from h.len) ds → breaks_region file ≡ b
unfolding breaks_region
region_is file hs ds b h d e =
    sym (e ∙ ap (list_any (λ (h : ProgramHeader). leaves_region h.from h.len)) d ∙ sym (any_map (segment_of file) (λ s. leaves_region s.from s.len) hs) ∙ ap (list_any (λ (s : Segment). leaves_region s.from s.len)) h.same)

pub total_is : (file : List ℕ) (hs ds : List ProgramHeader) (b : Bool) → AreLoads file hs → ds ≡ hs → b ≡ ltb 67108864 (sum_by (λ h. h.len) ds) → breaks_total file ≡ b
unfolding breaks_total
total_is file hs ds b h d e =
    sym (e ∙ ap (λ (hs : List ProgramHeader). ltb 67108864 (sum_by (λ h. h.len) hs)) d ∙ ap (ltb 67108864) (sym (total_map (segment_of file) (λ s. s.len) hs) ∙ ap (sum_by (λ (s : Segment). s.len)) h.same))

nand : (a b : Bool) → not (a && b) ≡ (not a || not b)
nand true b = refl
nand false b = refl

pub entry_is : (file : List ℕ) (hs ds : List ProgramHeader) (at : ℕ) (b : Bool) → AreLoads file hs → ds ≡ hs → at ≡ e_entry file → b ≡ (eqb (at % 4) 0 && list_any (λ h. has_instruction at h.from h.len (runs h)) ds) → breaks_entry file ≡ not b
unfolding breaks_entry
entry_is file hs ds at b h d q e =
    let same = sym (any_map (segment_of file) (λ s. has_instruction (e_entry file) s.from s.len s.runs) hs) ∙ ap (list_any (λ (s : Segment). has_instruction (e_entry file) s.from s.len s.runs)) h.same in
    sym (ap not (e ∙ ap (λ a. eqb (a % 4) 0 && list_any (λ (h : ProgramHeader). has_instruction a h.from h.len (runs h)) ds) q)
    ∙ nand (eqb (e_entry file % 4) 0) (list_any (λ h. has_instruction (e_entry file) h.from h.len (runs h)) ds)
    ∙ ap (λ b. not (eqb (e_entry file % 4) 0) || not b) (ap (list_any (λ (h : ProgramHeader). has_instruction (e_entry file) h.from h.len (runs h))) d ∙ same))

-- `after` are the headers in order
pub order_is : (file : List ℕ) (hs after : List ProgramHeader) → AreLoads file hs → InOrder (map (segment_of file) hs) (map (segment_of file) after) true → (breaks_overlap file ≡ false) × (map (segment_of file) after ≡ by_address (segments_of file))
unfolding breaks_overlap
order_is file hs after h o = (ap overlaps (sym h.same) ∙ o.0, o.1 ∙ ap by_address h.same)

pub overlap_is : (file : List ℕ) (hs after : List ProgramHeader) → AreLoads file hs → InOrder (map (segment_of file) hs) (map (segment_of file) after) false → breaks_overlap file ≡ true
unfolding breaks_overlap
overlap_is file hs after h o = ap overlaps (sym h.same) ∙ o
