-- Spans of addresses that don't wrap, seen by both machines.
use Rattle.std.proofs.Common.{◌≡◌, ℕ, zero, suc, ◌+◌, ◌-◌, ◌^◌, ◌<◌, ◌≤◌, refl, ap, sym, ◌∙◌, subst, Bool, true, false, cond, arith, List, [], ◌∷◌, length, get_or, Option, None, Some, is_some}
use Rattle.std.specs.Prelude.{unwrap_or}
use Rattle.std.proofs.lemmas.Bool.Decides.{nat_tests}
use Rattle.std.proofs.lemmas.Bool.{ne_eqb, eq-eqb}
use Rattle.infinite_heap.specs.InfiniteSystem.{all_in}
use Rattle.infinite_heap.specs.Memory.{put, put_all, get_all, next}
use Rattle.rv_memory.specs.Memory.{Memory, all_in_span, span, with_first, within, with_bytes}
use Rattle.rv_memory.specs.Laws.{at_each}
use Rattle.rv_machine.specs.Matches.{bytes_in}

-- a test that goes two ways
pub two_ways : (b : Bool) (P : Bool → Type 0) → (b ≡ true → P true) → (b ≡ false → P false) → P b
two_ways true P h k = h refl
two_ways false P h k = k refl

pub clash : {t : Bool} → t ≡ true → t ≡ false → ⊥
clash a b = cc

-- two tests that agree on a span
pub all_in-same : (P Q : ℕ → Bool) (x n : ℕ) → ((y : ℕ) → x ≤ y → y < x + n → P y ≡ Q y) → all_in P x n ≡ all_in_span Q x n
all_in-same P Q x zero h = refl
all_in-same P Q x (suc n) h =
    let one : P x ≡ Q x = h x (omega arith) (omega arith) in
    let rest : all_in P (x + 1) n ≡ all_in_span Q (x + 1) n = all_in-same P Q (x + 1) n (λ y low high. h y (omega arith) (omega arith)) in
    rw (one, rest) refl

there : (byte : Option ℕ) → is_some byte ≡ true → byte ≡ Some (unwrap_or byte 0)
there None e = absurd (cc)
there (Some b) e = refl

get_all-next : {A : Type 0} (f : ℕ → A) (x n : ℕ) → x + 1 + n ≤ 2 ^ 32 → get_all f (next x) n ≡ get_all f (x + 1) n
get_all-next f x zero h = refl
get_all-next f x (suc n) h = let e : next x ≡ x + 1 = omega arith in ap (λ (y : ℕ). get_all f y (suc n)) e

-- the bytes of a span that is there
pub span-all : (bytes : ℕ → Option ℕ) (x n : ℕ) → x + n ≤ 2 ^ 32 → ((y : ℕ) → x ≤ y → y < x + n → is_some (bytes y) ≡ true) → span bytes x n ≡ Some (get_all (λ y. unwrap_or (bytes y) 0) x n)
span-all bytes x zero h each = refl
span-all bytes x (suc n) h each =
    let first : bytes x ≡ Some (unwrap_or (bytes x) 0) = there (bytes x) (each x (omega arith) (omega arith)) in
    let others : span bytes (x + 1) n ≡ Some (get_all (λ y. unwrap_or (bytes y) 0) (x + 1) n) = span-all bytes (x + 1) n (omega arith) (λ y low high. each y (omega arith) (omega arith)) in
    let moved : get_all (λ y. unwrap_or (bytes y) 0) (next x) n ≡ get_all (λ y. unwrap_or (bytes y) 0) (x + 1) n = get_all-next (λ y. unwrap_or (bytes y) 0) x n (omega arith) in
    ap (λ (b : Option ℕ). with_first b (span bytes (x + 1) n)) first
    ∙ ap (λ (r : Option (List ℕ)). with_first (Some (unwrap_or (bytes x) 0)) r) others
    ∙ ap (λ (r : List ℕ). Some (unwrap_or (bytes x) 0 ∷ r)) (sym moved)

pub length-get_all : {A : Type 0} (f : ℕ → A) (x n : ℕ) → length (get_all f x n) ≡ n
length-get_all f x zero = refl
length-get_all f x (suc n) = ap suc (length-get_all f (next x) n)

-- what stands outside of a span stays
put_all-out : (f : ℕ → ℕ) (x : ℕ) (bs : List ℕ) (y : ℕ) → x + length bs ≤ 2 ^ 32 → ((j : ℕ) → j < length bs → x + j ≡ y → ⊥) → put_all f x bs y ≡ f y
put_all-out f x [] y h n = refl
put_all-out f x (b ∷ bs) y h n =
    put_all-out (put f x b) (next x) bs y (omega arith) (λ j hj e. n (suc j) (omega arith) (omega arith))
    ∙ ap (λ (t : Bool). cond t b (f y)) (ne_eqb x y (λ e. n 0 (omega arith) (omega arith)))

-- and each byte of the list stands in the span
put_all-in : (f : ℕ → ℕ) (x : ℕ) (bs : List ℕ) (j : ℕ) → x + length bs ≤ 2 ^ 32 → j < length bs → put_all f x bs (x + j) ≡ get_or bs j 0
put_all-in f x [] j h hj = absurd (omega arith)
put_all-in f x (b ∷ bs) zero h hj =
    put_all-out (put f x b) (next x) bs (x + 0) (omega arith) (λ j hj e. omega arith)
    ∙ ap (λ (t : Bool). cond t b (f (x + 0))) (eq-eqb x (x + 0) (omega arith))
put_all-in f x (b ∷ bs) (suc j) h hj =
    let e : x + suc j ≡ next x + j = omega arith in
    ap (put_all (put f x b) (next x) bs) e ∙ put_all-in (put f x b) (next x) bs j (omega arith) (omega arith)

pub within-parts : (x n y : ℕ) → within x n y ≡ true → (x ≤ y) × (y < x + n)
within-parts x n y e = (grind (arith, nat_tests), grind (arith, nat_tests))

pub within-true : (x n y : ℕ) → x ≤ y → y < x + n → within x n y ≡ true
within-true x n y h k = grind (arith, nat_tests)

-- bytes put into memory, as a map
pub bytes_in-with_bytes : (memory : Memory) (x : ℕ) (bs : List ℕ) (y : ℕ) → x + length bs ≤ 2 ^ 32 → put_all (bytes_in memory) x bs y ≡ bytes_in (with_bytes memory x bs) y
bytes_in-with_bytes memory x bs y h =
    two_ways (within x (length bs) y) (λ t. put_all (bytes_in memory) x bs y ≡ unwrap_or (cond t (Some (get_or bs (y - x) 0)) (memory.bytes y)) 0)
    (λ e. let p = within-parts x (length bs) y e in
    let at : x + (y - x) ≡ y = omega (arith, p.0, p.1) in
    subst (λ (z : ℕ). put_all (bytes_in memory) x bs z ≡ get_or bs (y - x) 0) at (put_all-in (bytes_in memory) x bs (y - x) h (omega (arith, p.0, p.1))))
    (λ e. put_all-out (bytes_in memory) x bs y h (λ j hj q. clash (within-true x (length bs) y (omega arith) (omega arith)) e))

-- what a test of a span says of each of its addresses
pub all_in-each : (P : ℕ → Bool) (x n : ℕ) → all_in P x n ≡ true → (y : ℕ) → x ≤ y → y < x + n → P y ≡ true
all_in-each P x n e y low high = at_each P x n y (sym (all_in-same P P x n (λ z l h. refl)) ∙ e) low high
