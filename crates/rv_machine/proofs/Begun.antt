-- Before their first steps the two machines match.
use Rattle.std.proofs.Common.{◌≡◌, ◌≢◌, ℕ, suc, ◌+◌, ◌-◌, ◌*◌, ◌/◌, ◌^◌, ◌<◌, ◌≤◌, refl, ap, sym, ◌∙◌, subst, Bool, true, false, cond, arith, nat_eq, nat_lt, List, [], ◌∷◌, ◌++◌, length, get_or, set, replicate, Option, None, Some, is_some}
use Rattle.std.specs.Prelude.{All, unwrap_or}
use Rattle.std.proofs.lemmas.Bool.Decides.{nat_tests}
use Rattle.std.proofs.lemmas.Bool.{eqb-true, eqb-false}
use Rattle.std.proofs.lemmas.Grind.{get_or-set_at}
use Rattle.std.proofs.lemmas.List.{get_or-set_other, get_or-replicate, length-set}
use Rattle.infinite_heap.specs.declared.program.Segment.{Segment}
use Rattle.infinite_heap.specs.declared.value.Value.{Value}
use Rattle.infinite_heap.specs.declared.value.Value.TheVariants.{Num}
use Rattle.infinite_heap.specs.InfiniteRun.{inf_start, inf_mapping}
use Rattle.infinite_heap.specs.Lawful.{IsLawful, IsPlaced}
use Rattle.infinite_heap.specs.Layout.{IsLayout, Stands}
use Rattle.infinite_heap.specs.Loaded.{Loaded}
use Rattle.infinite_heap.specs.Mapped.{holds, byte_at, writable_at, runs_at}
use Rattle.infinite_heap.specs.Region.{in_region}
use Rattle.infinite_heap.specs.Start.{stack_pointer, stack_of, stack_with, segments_of, string_block}
use Rattle.rv_machine.specs.Core.{start, memory_in}
use Rattle.exact_heap.specs.History.{History, no_history}
use Rattle.rv_machine.specs.Laws.{StartsWithBytes, ProgramsStayOutside}
use Rattle.rv_machine.specs.Matches.{MapsAlike, StateMatches}
use Rattle.rv_machine.specs.Objects.{layout_of}
use Rattle.rv_machine.proofs.Spanned.{two_ways, clash}

-- a new heap has no object, and no miniheap
new-lies : (seed : ℕ) → IsLayout (layout_of (no_history seed))
new-lies seed = record {
  aligned = record { power = λ o h. absurd (omega arith); whole = λ o h. absurd (omega arith); above = λ o h. absurd (omega arith); below = λ o h. absurd (omega arith) };
  region_from = λ o h. absurd (omega arith);
  region_to = λ o h. absurd (omega arith);
  top_below = omega arith;
  apart = λ o q x h k. absurd (let z : o < 0 = h.known in omega arith);
}

pub heapless-lies : (h : History) (seed : ℕ) → h ≡ no_history seed → IsLayout (layout_of h)
heapless-lies h seed e = subst (λ (g : History). IsLayout (layout_of g)) (sym e) (new-lies seed)

-- ---- what is mapped

rest-placed : (s : Segment) (ss : List Segment) → All IsPlaced (s ∷ ss) → All IsPlaced ss
rest-placed s ss h k d hk = h (suc k) d (omega arith)

first-placed : (s : Segment) (ss : List Segment) → All IsPlaced (s ∷ ss) → IsPlaced s
first-placed s ss h = h 0 s (omega arith)

missed : (s : Segment) (x : ℕ) → s.from + s.len ≤ x → holds s x ≡ false
missed s x h = grind (arith, nat_tests)

region-from : (x : ℕ) → in_region x ≡ true → 2 ^ 30 ≤ x
region-from x h = grind (arith, nat_tests)

above-stack : (bytes : List ℕ) (x : ℕ) → in_region x ≡ true → holds (stack_with bytes) x ≡ false
above-stack bytes x h = grind (arith, nat_tests)

-- nothing of the region is mapped, by segments below it and a stack above it
byte-none : (ss : List Segment) (bytes : List ℕ) (x : ℕ) → All IsPlaced ss → in_region x ≡ true → byte_at (ss ++ stack_with bytes ∷ []) x ≡ None
byte-none [] bytes x h r = ap (λ (b : Bool). cond b (Some (get_or bytes (x - 0xBF800000) 0)) None) (above-stack bytes x r)
byte-none (s ∷ ss) bytes x h r =
    let low : s.from + s.len ≤ x = omega (arith, (first-placed s ss h).high, region-from x r) in
    ap (λ (b : Bool). cond b (Some (get_or s.bytes (x - s.from) 0)) (byte_at (ss ++ stack_with bytes ∷ []) x)) (missed s x low) ∙ byte-none ss bytes x (rest-placed s ss h) r

writable-none : (ss : List Segment) (bytes : List ℕ) (x : ℕ) → All IsPlaced ss → in_region x ≡ true → writable_at (ss ++ stack_with bytes ∷ []) x ≡ false
writable-none [] bytes x h r = ap (λ (b : Bool). cond b true false) (above-stack bytes x r)
writable-none (s ∷ ss) bytes x h r =
    let low : s.from + s.len ≤ x = omega (arith, (first-placed s ss h).high, region-from x r) in
    ap (λ (b : Bool). cond b s.writable (writable_at (ss ++ stack_with bytes ∷ []) x)) (missed s x low) ∙ writable-none ss bytes x (rest-placed s ss h) r

runs-none : (ss : List Segment) (bytes : List ℕ) (x : ℕ) → All IsPlaced ss → in_region x ≡ true → runs_at (ss ++ stack_with bytes ∷ []) x ≡ false
runs-none [] bytes x h r = ap (λ (b : Bool). cond b false false) (above-stack bytes x r)
runs-none (s ∷ ss) bytes x h r =
    let low : s.from + s.len ≤ x = omega (arith, (first-placed s ss h).high, region-from x r) in
    ap (λ (b : Bool). cond b s.runs (runs_at (ss ++ stack_with bytes ∷ []) x)) (missed s x low) ∙ runs-none ss bytes x (rest-placed s ss h) r

pub programs_stay_outside : ProgramsStayOutside
programs_stay_outside program lawful args x r = (
  ap is_some (byte-none program.segments (stack_of args) x lawful.placed r),
  writable-none program.segments (stack_of args) x lawful.placed r,
  runs-none program.segments (stack_of args) x lawful.placed r,
)

held-below : (s : Segment) (x : ℕ) → holds s x ≡ true → x < s.from + s.len
held-below s x h = grind (arith, nat_tests)

byte-low : (ss : List Segment) (bytes : List ℕ) (x : ℕ) → All IsPlaced ss → is_some (byte_at (ss ++ stack_with bytes ∷ []) x) ≡ true → x < 2 ^ 32
byte-low [] bytes x h = two_ways (holds (stack_with bytes) x) (λ b. is_some (cond b (Some (get_or bytes (x - 0xBF800000) 0)) None) ≡ true → x < 2 ^ 32)
    (λ e q. let k : x < 0xBF800000 + 0x800000 = held-below (stack_with bytes) x e in omega arith)
    (λ e q. absurd (clash q refl))
byte-low (s ∷ ss) bytes x h = two_ways (holds s x) (λ b. is_some (cond b (Some (get_or s.bytes (x - s.from) 0)) (byte_at (ss ++ stack_with bytes ∷ []) x)) ≡ true → x < 2 ^ 32)
    (λ e q. omega (arith, held-below s x e, (first-placed s ss h).high))
    (λ e q. byte-low ss bytes x (rest-placed s ss h) q)

writable-mapped : (ss : List Segment) (x : ℕ) → writable_at ss x ≡ true → is_some (byte_at ss x) ≡ true
writable-mapped [] x = λ h. absurd (clash h refl)
writable-mapped (s ∷ ss) x = two_ways (holds s x) (λ b. cond b s.writable (writable_at ss x) ≡ true → is_some (cond b (Some (get_or s.bytes (x - s.from) 0)) (byte_at ss x)) ≡ true) (λ e h. refl) (λ e h. writable-mapped ss x h)

runs-mapped : (ss : List Segment) (x : ℕ) → runs_at ss x ≡ true → is_some (byte_at ss x) ≡ true
runs-mapped [] x = λ h. absurd (clash h refl)
runs-mapped (s ∷ ss) x = two_ways (holds s x) (λ b. cond b s.runs (runs_at ss x) ≡ true → is_some (cond b (Some (get_or s.bytes (x - s.from) 0)) (byte_at ss x)) ≡ true) (λ e h. refl) (λ e h. runs-mapped ss x h)

not-below : (x : ℕ) → in_region x ≡ true → nat_lt x (2 ^ 30) ≡ false
not-below x h = grind (arith, nat_tests)

pub maps_alike : (seed : ℕ) (program : Loaded) → IsLawful program → (args : List (List ℕ)) → StartsWithBytes program args → MapsAlike (layout_of (no_history seed)) (inf_mapping program args) (memory_in (segments_of program args))
maps_alike seed program lawful args bytes = record {
  mapped = λ x r. refl;
  writable = λ x r. refl;
  runs = λ x r. refl;
  heap_mapped = λ x r. ap is_some (byte-none program.segments (stack_of args) x lawful.placed r) ∙ sym (not-below x r);
  heap_writable = λ x r. writable-none program.segments (stack_of args) x lawful.placed r ∙ sym (not-below x r);
  heap_runs = λ x r. runs-none program.segments (stack_of args) x lawful.placed r;
  bounded = record {
    small = bytes;
    low = λ x e. byte-low program.segments (stack_of args) x lawful.placed e;
    writable_mapped = λ x e. writable-mapped (segments_of program args) x e;
    runs_mapped = λ x e. runs-mapped (segments_of program args) x e;
  };
}

-- ---- registers

rounded : (a b : ℕ) → (0xC0000000 - a - b) / 16 * 16 < 2 ^ 32
rounded a b = omega arith

pointer-fits : (args : List (List ℕ)) → stack_pointer args < 2 ^ 32
pointer-fits args = rounded (length (string_block args)) (4 * (length args + 5))

register-case : (sp r : ℕ) (P : Value → ℕ → Type 0) → r < 32 → P (Num sp) sp → P (Num 0) 0 → P (cond (nat_eq r 2) (Num sp) (Num 0)) (get_or (set (replicate 32 0) 2 sp) r 0)
register-case sp r P hr one other = two_ways (nat_eq r 2) (λ b. P (cond b (Num sp) (Num 0)) (get_or (set (replicate 32 0) 2 sp) r 0))
    (λ e. subst (P (Num sp)) (sym (get_or-set_at (replicate 32 0) 2 r sp 0 (eqb-true r 2 e) (omega arith))) one)
    (λ e. let apart : r ≢ 2 = λ at. eqb-false r 2 e at in
    subst (P (Num 0)) (sym (get_or-set_other (replicate 32 0) 2 r sp 0 apart ∙ get_or-replicate 32 r 0 0 hr)) other)

-- ---- the start

small-or : (o : Option ℕ) → ((b : ℕ) → o ≡ Some b → b < 256) → unwrap_or o 0 < 256
small-or None h = omega arith
small-or (Some b) h = h b refl

entry-fits : (program : Loaded) → IsLawful program → program.entry < 2 ^ 32
entry-fits program lawful =
    let e = lawful.entered in
    let s : Segment = e.1 in
    let h : IsPlaced s = subst IsPlaced e.3 (lawful.placed e.0 s e.2) in
    omega (arith, e.4.high, h.high)

pub start_matches : (seed : ℕ) (program : Loaded) → IsLawful program → (args : List (List ℕ)) → StartsWithBytes program args → StateMatches (layout_of (no_history seed)) (inf_mapping program args) (inf_start program args).state (start program args)
start_matches seed program lawful args bytes = record {
  pc = refl;
  pc_fits = entry-fits program lawful;
  steps = refl;
  calls = refl;
  count = refl;
  aligned = λ o h. absurd (omega arith);
  width = length-set (replicate 32 0) 2 (stack_pointer args);
  fits = λ r hr. register-case (stack_pointer args) r (λ v n. n < 2 ^ 32) hr (pointer-fits args) (omega arith);
  regs = λ r hr. register-case (stack_pointer args) r (Stands (layout_of (no_history seed))) hr refl refl;
  maps = maps_alike seed program lawful args bytes;
  memory = record {
    fits = λ x. small-or (byte_at (segments_of program args) x) (bytes x);
    flat = λ x r. refl;
    heap = λ o d hd i. absurd (let z : o < 0 = i.known in omega arith);
  };
}
