-- What a step keeps: registers, what is mapped, and that memory matches.
use Rattle.std.proofs.Common.{◌≡◌, ◌≢◌, ℕ, ◌+◌, ◌-◌, ◌^◌, ◌<◌, ◌≤◌, refl, sym, ◌∙◌, subst, true, false, cond, not, ◌&&◌, arith, nat_eq, List, length, get_or, set, Some, is_some}
use Rattle.std.specs.Prelude.{All}
use Rattle.std.proofs.lemmas.Bool.{eqb-true, eqb-false}
use Rattle.std.proofs.lemmas.Grind.{get_or-set_at}
use Rattle.std.proofs.lemmas.List.{get_or-set_other, length-set}
use Rattle.infinite_heap.specs.declared.value.Value.{Value}
use Rattle.infinite_heap.specs.InfiniteState.{set_reg}
use Rattle.infinite_heap.specs.Layout.{Layout, Stands, CellStands, place}
use Rattle.infinite_heap.specs.Mapped.{Mapping}
use Rattle.infinite_heap.specs.Memory.{CellMap, Matches, put_all}
use Rattle.rv_memory.specs.Memory.{Memory, IsBounded, all_in_span, within, with_bytes}
use Rattle.rv_memory.specs.Laws.{at_each}
use Rattle.rv_machine.specs.Core.{with_register}
use Rattle.rv_machine.specs.Matches.{MapsAlike, bytes_in}
use Rattle.rv_machine.proofs.Spanned.{two_ways, within-parts, bytes_in-with_bytes}

-- ---- registers

-- x0 stays in both, and another register holds what it was given
register-case : (regs : List ℕ) (values : ℕ → Value) (rd n r : ℕ) (v : Value) (P : Value → ℕ → Type 0) → length regs ≡ 32 → rd < 32 → P v n → P (values r) (get_or regs r 0)
    → P (set_reg values rd v r) (get_or (with_register regs rd n) r 0)
register-case regs values rd n r v P width small new old =
    two_ways (nat_eq rd 0) (λ b. P (cond (nat_eq rd r && not b) v (values r)) (get_or (cond b regs (set regs rd n)) r 0))
    (λ e. two_ways (nat_eq rd r) (λ b. P (cond (b && false) v (values r)) (get_or regs r 0)) (λ t. old) (λ t. old))
    (λ e. two_ways (nat_eq rd r) (λ b. P (cond (b && true) v (values r)) (get_or (set regs rd n) r 0))
    (λ t. let at : r ≡ rd = sym (eqb-true rd r t) in
    let fits : rd < length regs = omega arith in
    subst (P v) (sym (get_or-set_at regs rd r n 0 at fits)) new)
    (λ t. let apart : r ≢ rd = λ at. eqb-false rd r t (sym at) in
    subst (P (values r)) (sym (get_or-set_other regs rd r n 0 apart)) old))

pub register-stands : (l : Layout) (regs : List ℕ) (values : ℕ → Value) (rd n : ℕ) (v : Value) → length regs ≡ 32 → rd < 32 → Stands l v n
    → ((r : ℕ) → r < 32 → Stands l (values r) (get_or regs r 0)) → (r : ℕ) → r < 32 → Stands l (set_reg values rd v r) (get_or (with_register regs rd n) r 0)
register-stands l regs values rd n v width small new old r hr = register-case regs values rd n r v (Stands l) width small new (old r hr)

pub register-fits : (regs : List ℕ) (values : ℕ → Value) (rd n : ℕ) (v : Value) → length regs ≡ 32 → rd < 32 → n < 2 ^ 32
    → ((r : ℕ) → r < 32 → get_or regs r 0 < 2 ^ 32) → (r : ℕ) → r < 32 → get_or (with_register regs rd n) r 0 < 2 ^ 32
register-fits regs values rd n v width small new old r hr = register-case regs values rd n r v (λ v x. x < 2 ^ 32) width small new (old r hr)

pub register-width : (regs : List ℕ) (rd n : ℕ) → length regs ≡ 32 → length (with_register regs rd n) ≡ 32
register-width regs rd n width = two_ways (nat_eq rd 0) (λ b. length (cond b regs (set regs rd n)) ≡ 32) (λ e. width) (λ e. length-set regs rd n ∙ width)

-- ---- memory

is_some-written : (memory : Memory) (a : ℕ) (bs : List ℕ) → IsBounded memory → all_in_span memory.writable a (length bs) ≡ true → (x : ℕ) → is_some ((with_bytes memory a bs).bytes x) ≡ is_some (memory.bytes x)
is_some-written memory a bs bounded can x =
    two_ways (within a (length bs) x) (λ t. is_some (cond t (Some (get_or bs (x - a) 0)) (memory.bytes x)) ≡ is_some (memory.bytes x))
    (λ e. let p = within-parts a (length bs) x e in sym (bounded.writable_mapped x (at_each memory.writable a (length bs) x can p.0 p.1)))
    (λ e. refl)

small-written : (memory : Memory) (a : ℕ) (bs : List ℕ) → IsBounded memory → All (λ b. b < 256) bs → (x byte : ℕ) → (with_bytes memory a bs).bytes x ≡ Some byte → byte < 256
small-written memory a bs bounded all x byte =
    two_ways (within a (length bs) x) (λ t. cond t (Some (get_or bs (x - a) 0)) (memory.bytes x) ≡ Some byte → byte < 256)
    (λ e q. let p = within-parts a (length bs) x e in
    let h : get_or bs (x - a) 0 < 256 = all (x - a) 0 (omega (arith, p.0, p.1)) in
    let same : get_or bs (x - a) 0 ≡ byte = cc in
    subst (λ (b : ℕ). b < 256) same h)
    (λ e q. bounded.small x byte q)

-- a write where it is allowed maps nothing, and leaves bytes
pub maps-written : (l : Layout) (p : Mapping) (memory : Memory) (a : ℕ) (bs : List ℕ) → MapsAlike l p memory → all_in_span memory.writable a (length bs) ≡ true → All (λ b. b < 256) bs → MapsAlike l p (with_bytes memory a bs)
maps-written l p memory a bs m can all = record {
  mapped = λ x r. is_some-written memory a bs m.bounded can x ∙ m.mapped x r;
  writable = m.writable;
  runs = m.runs;
  heap_mapped = λ x r. is_some-written memory a bs m.bounded can x ∙ m.heap_mapped x r;
  heap_writable = m.heap_writable;
  heap_runs = m.heap_runs;
  bounded = record {
    small = small-written memory a bs m.bounded all;
    low = λ x e. m.bounded.low x (sym (is_some-written memory a bs m.bounded can x) ∙ e);
    writable_mapped = λ x e. is_some-written memory a bs m.bounded can x ∙ m.bounded.writable_mapped x e;
    runs_mapped = λ x e. is_some-written memory a bs m.bounded can x ∙ m.bounded.runs_mapped x e;
  };
}

-- memory that matches is told by its bytes alone
matches-same : (l : Layout) (c : CellMap) (f g : ℕ → ℕ) → ((x : ℕ) → f x ≡ g x) → Matches l c f → Matches l c g
matches-same l c f g same m = record {
  fits = λ x. subst (λ (b : ℕ). b < 256) (same x) (m.fits x);
  flat = λ x r. subst (CellStands l (c.flat x)) (same x) (m.flat x r);
  heap = λ o d h i. subst (CellStands l (c.heap o d)) (same (place l o d)) (m.heap o d h i);
}

pub matches-written : (l : Layout) (c : CellMap) (memory : Memory) (a : ℕ) (bs : List ℕ) → a + length bs ≤ 2 ^ 32 → Matches l c (put_all (bytes_in memory) a bs) → Matches l c (bytes_in (with_bytes memory a bs))
matches-written l c memory a bs h = matches-same l c (put_all (bytes_in memory) a bs) (bytes_in (with_bytes memory a bs)) (λ x. bytes_in-with_bytes memory a bs x h)
