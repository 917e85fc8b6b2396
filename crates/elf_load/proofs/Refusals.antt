-- The first rule that a file breaks is its refusal.
use Rattle.std.proofs.Common.{◌≡◌, ℕ, true, false, ◌<◌, ◌≤◌, List, length, Err, Ok, refl, arith}
use Rattle.std.proofs.lemmas.Bool.Decides.{nat_tests}
use Rattle.infinite_heap.specs.declared.program.ElfRefusal.TheVariants.{Short, Magic, Class, Kind, Machine, Flags, Headers, Dynamic, Region, Overlap, Total, Entry, Symbols}
use Rattle.infinite_heap.specs.ElfHeaders.{is_short, has_magic, has_class, has_kind, has_machine, has_flags, breaks_program_table, breaks_section_table, breaks_loads, is_dynamic}
use Rattle.infinite_heap.specs.ElfSegments.{breaks_region, breaks_overlap, breaks_total, breaks_entry}
use Rattle.infinite_heap.specs.ElfSymbols.{breaks_symbols}
use Rattle.infinite_heap.specs.Elf.{program_of, program}
use Rattle.elf_load.specs.Stages.{HasHead, HasHeaders, HasSegments}

pub is_long : (file : List ℕ) → 52 ≤ length file → is_short file ≡ false
is_long file le = grind (arith, nat_tests)

pub is_cut : (file : List ℕ) → length file < 52 → is_short file ≡ true
is_cut file lt = grind (arith, nat_tests)

pub short : (file : List ℕ) → is_short file ≡ true → program_of file ≡ Err Short
unfolding program_of
short file a = rw a refl

pub magic : (file : List ℕ) → is_short file ≡ false → has_magic file ≡ false → program_of file ≡ Err Magic
unfolding program_of
magic file a b = rw (a, b) refl

pub class : (file : List ℕ) → is_short file ≡ false → has_magic file ≡ true → has_class file ≡ false → program_of file ≡ Err Class
unfolding program_of
class file a b c = rw (a, b, c) refl

pub kind : (file : List ℕ) → is_short file ≡ false → has_magic file ≡ true → has_class file ≡ true → has_kind file ≡ false → program_of file ≡ Err Kind
unfolding program_of
kind file a b c d = rw (a, b, c, d) refl

pub machine : (file : List ℕ) → is_short file ≡ false → has_magic file ≡ true → has_class file ≡ true → has_kind file ≡ true → has_machine file ≡ false → program_of file ≡ Err Machine
unfolding program_of
machine file a b c d e = rw (a, b, c, d, e) refl

pub flags : (file : List ℕ) → is_short file ≡ false → has_magic file ≡ true → has_class file ≡ true → has_kind file ≡ true → has_machine file ≡ true → has_flags file ≡ false → program_of file ≡ Err Flags
unfolding program_of
flags file a b c d e f = rw (a, b, c, d, e, f) refl

pub program_table : (file : List ℕ) → HasHead file → breaks_program_table file ≡ true → program_of file ≡ Err Headers
unfolding program_of
program_table file h p = rw (h.long, h.magic, h.class, h.kind, h.machine, h.flags, p) refl

pub section_table : (file : List ℕ) → HasHead file → breaks_program_table file ≡ false → breaks_section_table file ≡ true → program_of file ≡ Err Headers
unfolding program_of
section_table file h p s = rw (h.long, h.magic, h.class, h.kind, h.machine, h.flags, p, s) refl

pub loads : (file : List ℕ) → HasHead file → breaks_program_table file ≡ false → breaks_section_table file ≡ false → breaks_loads file ≡ true → program_of file ≡ Err Headers
unfolding program_of
loads file h p s l = rw (h.long, h.magic, h.class, h.kind, h.machine, h.flags, p, s, l) refl

pub dynamic : (file : List ℕ) → HasHead file → breaks_program_table file ≡ false → breaks_section_table file ≡ false → breaks_loads file ≡ false → is_dynamic file ≡ true → program_of file ≡ Err Dynamic
unfolding program_of
dynamic file h p s l d = rw (h.long, h.magic, h.class, h.kind, h.machine, h.flags, p, s, l, d) refl

pub region : (file : List ℕ) → HasHeaders file → breaks_region file ≡ true → program_of file ≡ Err Region
unfolding program_of
region file h r = rw (h.head.long, h.head.magic, h.head.class, h.head.kind, h.head.machine, h.head.flags, h.programs, h.sections, h.loads, h.still, r) refl

pub overlap : (file : List ℕ) → HasHeaders file → breaks_region file ≡ false → breaks_overlap file ≡ true → program_of file ≡ Err Overlap
unfolding program_of
overlap file h r o = rw (h.head.long, h.head.magic, h.head.class, h.head.kind, h.head.machine, h.head.flags, h.programs, h.sections, h.loads, h.still, r, o) refl

pub total : (file : List ℕ) → HasHeaders file → breaks_region file ≡ false → breaks_overlap file ≡ false → breaks_total file ≡ true → program_of file ≡ Err Total
unfolding program_of
total file h r o t = rw (h.head.long, h.head.magic, h.head.class, h.head.kind, h.head.machine, h.head.flags, h.programs, h.sections, h.loads, h.still, r, o, t) refl

pub entry : (file : List ℕ) → HasHeaders file → breaks_region file ≡ false → breaks_overlap file ≡ false → breaks_total file ≡ false → breaks_entry file ≡ true → program_of file ≡ Err Entry
unfolding program_of
entry file h r o t e = rw (h.head.long, h.head.magic, h.head.class, h.head.kind, h.head.machine, h.head.flags, h.programs, h.sections, h.loads, h.still, r, o, t, e) refl

pub symbols : (file : List ℕ) → HasSegments file → breaks_symbols file ≡ true → program_of file ≡ Err Symbols
unfolding program_of
symbols file g s = let h = g.headers in rw (h.head.long, h.head.magic, h.head.class, h.head.kind, h.head.machine, h.head.flags, h.programs, h.sections, h.loads, h.still, g.region, g.apart, g.small, g.entered, s) refl

pub accepted : (file : List ℕ) → HasSegments file → breaks_symbols file ≡ false → program_of file ≡ Ok (program file)
unfolding program_of
accepted file g s = let h = g.headers in rw (h.head.long, h.head.magic, h.head.class, h.head.kind, h.head.machine, h.head.flags, h.programs, h.sections, h.loads, h.still, g.region, g.apart, g.small, g.entered, s) refl
