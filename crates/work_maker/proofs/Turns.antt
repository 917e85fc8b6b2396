-- The program, turn by turn and place by place.
use Rattle.std.proofs.Common.{◌≡◌, ◌⊎◌, inl, inr, ℕ, zero, suc, ◌+◌, ◌*◌, ◌%◌, ◌<◌, ◌≤◌, ◌==◌, Bool, true, false, not, List, ◌++◌, length, replicate, get_or, set, if◌then◌else◌, refl, sym, ap, subst, ◌∙◌, arith, add-one, length-append, length-set}
use Rattle.std.proofs.lemmas.List.{get_or-replicate, get_or-set_other}
use Rattle.std.proofs.lemmas.Grind.{get_or-set_at}
use Rattle.std.proofs.lemmas.Bool.{cases_eq, eq-eqb, ne_eqb}
use Rattle.infinite_heap.specs.declared.instr.Instr.{Instr}
use Rattle.work_maker.specs.Instrs.{start, allocation, release, again, ending}
use Rattle.work_maker.specs.Program.{place_of, size_of, is_full, with_turn, before_turn, with_release, before_place, program, IsBefore}

-- ---- how long it is

length-with_turn : (full : Bool) (j draw : ℕ) (code : List Instr) → length (with_turn full j draw code) ≤ length code + 5
unfolding allocation release
length-with_turn true j draw code = rw (length-append code (release (place_of draw) (length code))) (omega arith)
length-with_turn false j draw code = rw (length-append code (allocation (place_of draw) (size_of draw) (j % 128) (length code))) (omega arith)

pub length-before_turn : (draws : ℕ → ℕ) (j : ℕ) → length (before_turn draws j) ≤ 3 + 5 * j
unfolding before_turn start
length-before_turn draws zero = omega arith
length-before_turn draws (suc j) =
    omega (arith, length-before_turn draws j, length-with_turn (is_full draws j (place_of (draws j))) j (draws j) (before_turn draws j))

pub length-with_release : (full : Bool) (k : ℕ) (code : List Instr) → length (with_release full k code) ≤ length code + 4
unfolding release
length-with_release true k code = rw (length-append code (release k (length code))) (omega arith)
length-with_release false k code = omega arith

pub length-before_place : (full : ℕ → Bool) (turns : List Instr) (k : ℕ) → length (before_place full turns k) ≤ length turns + 4 * k
unfolding before_place
length-before_place full turns zero = omega arith
length-before_place full turns (suc k) =
    omega (arith, length-before_place full turns k, length-with_release (full k) k (before_place full turns k))

pub length-turns : (draws : ℕ → ℕ) (j : ℕ) (code : List Instr) (full : List Bool) → IsBefore draws j code full → length code ≤ 3 + 5 * j
length-turns draws j code full before = subst (λ (c : List Instr). length c ≤ 3 + 5 * j) (sym before.code_so_far) (length-before_turn draws j)

pub length-places : (full : ℕ → Bool) (turns : List Instr) (k : ℕ) (code : List Instr) → code ≡ before_place full turns k → length code ≤ length turns + 4 * k
length-places full turns k code is = subst (λ (c : List Instr). length c ≤ length turns + 4 * k) (sym is) (length-before_place full turns k)

-- ---- turns

none-before : (draws : ℕ → ℕ) → IsBefore draws 0 start (replicate 64 false)
unfolding before_turn is_full
none-before draws = record { code_so_far = refl; full_so_far = λ k h. get_or-replicate 64 k false false h; places = refl }

pub begins : (draws : ℕ → ℕ) (code : List Instr) (full : List Bool) → code ≡ start → full ≡ replicate 64 false → IsBefore draws 0 code full
begins draws code full starts empty =
    subst (λ (c : List Instr). IsBefore draws 0 c full) (sym starts) (subst (λ (xs : List Bool). IsBefore draws 0 start xs) (sym empty) (none-before draws))

toggled-by : (p k : ℕ) (full : List Bool) (was : Bool) → p < length full → get_or full k false ≡ was → (p ≡ k) ⊎ (p ≡ k → ⊥)
    → get_or (set full p (not (get_or full p false))) k false ≡ (if p == k then not was else was)
toggled-by p k full was lt is (inl e) =
    subst (λ (b : Bool). get_or (set full p (not (get_or full p false))) k false ≡ (if b then not was else was)) (sym (eq-eqb p k e))
    (get_or-set_at full p k (not (get_or full p false)) false (sym e) lt ∙ ap not (ap (λ (i : ℕ). get_or full i false) e ∙ is))
toggled-by p k full was lt is (inr n) =
    subst (λ (b : Bool). get_or (set full p (not (get_or full p false))) k false ≡ (if b then not was else was)) (sym (ne_eqb p k n))
    (get_or-set_other full p k (not (get_or full p false)) false (λ e. n (sym e)) ∙ is)

with-turn_of_draw : (draws : ℕ → ℕ) (j : ℕ) (code next : List Instr) (full toggled : List Bool) → IsBefore draws j code full
    → next ≡ with_turn (get_or full (place_of (draws j)) false) j (draws j) code
    → toggled ≡ set full (place_of (draws j)) (not (get_or full (place_of (draws j)) false))
    → IsBefore draws (suc j) next toggled
unfolding before_turn is_full
with-turn_of_draw draws j code next full toggled before grows sets =
    let p : ℕ = draws j % 64 in
    let small : p < 64 = omega arith in
    let lt : p < length full = omega (arith, before.places) in
    record {
      code_so_far =
          grows ∙ ap (λ (b : Bool). with_turn b j (draws j) code) (before.full_so_far p small)
          ∙ ap (λ (c : List Instr). with_turn (is_full draws j p) j (draws j) c) before.code_so_far;
      full_so_far = λ k h.
          ap (λ (xs : List Bool). get_or xs k false) sets
          ∙ toggled-by p k full (is_full draws j k) lt (before.full_so_far k h) (cases_eq p k);
      places = ap (λ (xs : List Bool). length xs) sets ∙ length-set full p (not (get_or full p false)) ∙ before.places;
    }

pub with-one_more_turn : (draws : ℕ → ℕ) (j draw : ℕ) (code next : List Instr) (full toggled : List Bool) → IsBefore draws j code full
    → draws j ≡ draw
    → next ≡ with_turn (get_or full (place_of draw) false) j draw code
    → toggled ≡ set full (place_of draw) (not (get_or full (place_of draw) false))
    → IsBefore draws (j + 1) next toggled
with-one_more_turn draws j draw code next full toggled before drawn grows sets =
    let Turned : ℕ → Type 0 = λ d. next ≡ with_turn (get_or full (place_of d) false) j d code in
    let Toggled : ℕ → Type 0 = λ d. toggled ≡ set full (place_of d) (not (get_or full (place_of d) false)) in
    subst (λ (i : ℕ). IsBefore draws i next toggled) (sym (add-one j))
    (with-turn_of_draw draws j code next full toggled before (subst Turned (sym drawn) grows) (subst Toggled (sym drawn) sets))

-- ---- places

pub first-place : (full : ℕ → Bool) (turns : List Instr) → turns ≡ before_place full turns 0
unfolding before_place
first-place full turns = refl

pub with-one_more_place : (full : ℕ → Bool) (turns : List Instr) (k : ℕ) (code next : List Instr) → code ≡ before_place full turns k
    → next ≡ with_release (full k) k code → next ≡ before_place full turns (k + 1)
unfolding before_place
with-one_more_place full turns k code next before grows =
    subst (λ (i : ℕ). next ≡ before_place full turns i) (sym (add-one k))
    (grows ∙ ap (λ (c : List Instr). with_release (full k) k c) before)

same-places : (f g : ℕ → Bool) (turns : List Instr) (k : ℕ) → ((i : ℕ) → i < k → f i ≡ g i) → before_place f turns k ≡ before_place g turns k
unfolding before_place
same-places f g turns zero same = refl
same-places f g turns (suc k) same =
    ap (λ (b : Bool). with_release b k (before_place f turns k)) (same k (omega arith))
    ∙ ap (λ (c : List Instr). with_release (g k) k c) (same-places f g turns k (λ i lt. same i (omega arith)))

pub whole-program : (draws : ℕ → ℕ) (turns : ℕ) (code freed whole : List Instr) (full : List Bool) → IsBefore draws turns code full
    → freed ≡ before_place (λ k. get_or full k false) code 64
    → whole ≡ freed ++ again (length freed) ++ ending
    → whole ≡ program draws turns
unfolding program
whole-program draws turns code freed whole full before frees ends =
    let all : freed ≡ before_place (is_full draws turns) (before_turn draws turns) 64 =
    frees ∙ ap (λ (c : List Instr). before_place (λ k. get_or full k false) c 64) before.code_so_far
    ∙ same-places (λ k. get_or full k false) (is_full draws turns) (before_turn draws turns) 64 before.full_so_far in
    ends ∙ ap (λ (c : List Instr). c ++ again (length c) ++ ending) all
