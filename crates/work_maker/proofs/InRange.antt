-- Each instruction of a program with fewer than 8,192 turns has a word: sizes, bytes and places fit their
-- immediates, and a jump back over the whole program fits a jal.
use Rattle.std.proofs.Common.{◌≡◌, ℕ, zero, suc, ◌+◌, ◌-◌, ◌*◌, ◌%◌, ◌^◌, ◌<◌, ◌≤◌, nat_lt, Bool, true, false, cond, List, [], ◌∷◌, ◌++◌, length, refl, sym, ap, subst, ◌∙◌, arith, length-append}
use Rattle.std.specs.Prelude.{ℤ, pos, negsuc, ◌-ℤ◌}
use Rattle.std.specs.List.{All}
use Rattle.std.proofs.lemmas.Int.{ints}
use Rattle.std.proofs.lemmas.Bool.Decides.{nat_tests}
use Rattle.infinite_heap.specs.declared.instr.Instr.{Instr}
use Rattle.infinite_heap.specs.InRange.{IsInRange, IsImm12, IsImmJ}
use Rattle.work_maker.specs.Instrs.{addi, lw, sw, lbu, sb, malloc, free, address_of, body, jal_to, start, allocation, release, again, ending}
use Rattle.work_maker.specs.Program.{place_of, size_of, is_full, with_turn, before_turn, with_release, before_place, program}
use Rattle.work_maker.proofs.Turns.{length-before_turn, length-before_place}

-- ---- all of a list

abbrev pub Each : List Instr → Type 0
Each [] = Unit {0}
Each (i ∷ is) = IsInRange i × Each is

each-append : (xs ys : List Instr) → Each xs → Each ys → Each (xs ++ ys)
each-append [] ys h t = t
each-append (x ∷ xs) ys h t = (h.0, each-append xs ys h.1 t)

each-at : (xs : List Instr) → Each xs → All IsInRange xs
each-at [] h k d lt = absurd (omega arith)
each-at (x ∷ xs) h zero d lt = h.0
each-at (x ∷ xs) h (suc k) d lt = each-at xs h.1 k d (omega arith)

-- ---- one instruction

imm12 : (n : ℕ) → n < 2048 → IsImm12 (pos n)
imm12 n small = (omega (arith, ints), omega (arith, ints))

addi-in_range : (rd rs1 n : ℕ) → rd < 32 → rs1 < 32 → n < 2048 → IsInRange (addi rd rs1 (pos n))
addi-in_range rd rs1 n a b small = (a, b, imm12 n small)

lw-in_range : (rd n rs1 : ℕ) → rd < 32 → rs1 < 32 → n < 2048 → IsInRange (lw rd n rs1)
lw-in_range rd n rs1 a b small = (refl, a, b, imm12 n small)

sw-in_range : (rs2 n rs1 : ℕ) → rs1 < 32 → rs2 < 32 → n < 2048 → IsInRange (sw rs2 n rs1)
sw-in_range rs2 n rs1 a b small = (refl, a, b, imm12 n small)

lbu-in_range : (rd n rs1 : ℕ) → rd < 32 → rs1 < 32 → n < 2048 → IsInRange (lbu rd n rs1)
lbu-in_range rd n rs1 a b small = (refl, a, b, imm12 n small)

sb-in_range : (rs2 n rs1 : ℕ) → rs1 < 32 → rs2 < 32 → n < 2048 → IsInRange (sb rs2 n rs1)
sb-in_range rs2 n rs1 a b small = (refl, a, b, imm12 n small)

backward : (d : ℕ) → d < 2 ^ 20 → d % 2 ≡ 1 → IsImmJ (negsuc d)
backward d small odd = ((omega (arith, ints), omega (arith, ints)), omega (arith, ints))

back-is : (a m : ℕ) → a ≤ m → pos a -ℤ pos (suc m) ≡ negsuc (m - a)
back-is a m le =
    let yes : nat_lt a (suc m) ≡ true = grind (arith, nat_tests) in
    let same : suc m - suc a ≡ m - a = omega arith in
    ap (λ (b : Bool). cond b (negsuc (suc m - suc a)) (pos (a - suc m))) yes ∙ ap (λ (d : ℕ). negsuc d) same

jump-back : (a m b : ℕ) → suc m ≡ b → a ≤ m → m < 2 ^ 20 → (m - a) % 2 ≡ 1 → IsImmJ (pos a -ℤ pos b)
jump-back a m b is le small odd =
    let less : m - a < 2 ^ 20 = omega arith in
    subst (λ (x : ℕ). IsImmJ (pos a -ℤ pos x)) is (subst (λ (z : ℤ). IsImmJ z) (sym (back-is a m le)) (backward (m - a) less odd))

jal-in_range : (rd address nth : ℕ) → rd < 32 → address % 2 ≡ 0 → address < address_of nth → nth < 2 ^ 17 → IsInRange (jal_to rd address nth)
jal-in_range rd address nth r even back small =
    (r, jump-back address (0x1000f + 4 * nth) (address_of nth) (omega arith) (omega arith) (omega arith) (omega arith))

-- ---- the pieces

each-start : Each start
unfolding start
each-start = (
  (omega arith, omega arith),
  (addi-in_range 9 0 0 (omega arith) (omega arith) (omega arith), (addi-in_range 18 0 16 (omega arith) (omega arith) (omega arith), tt)),
)

each-allocation : (k size byte nth : ℕ) → k < 64 → size ≤ 1024 → byte < 128 → nth < 2 ^ 16 → Each (allocation k size byte nth)
unfolding allocation
each-allocation k size byte nth place sized valued small = (
  addi-in_range 10 0 size (omega arith) (omega arith) (omega arith),
  (
    jal-in_range 1 malloc (nth + 1) (omega arith) (omega arith) (omega arith) (omega arith),
    (
      sw-in_range 10 (4 * k) 8 (omega arith) (omega arith) (omega arith),
      (
        addi-in_range 11 0 byte (omega arith) (omega arith) (omega arith),
        (sb-in_range 11 0 10 (omega arith) (omega arith) (omega arith), tt),
      ),
    ),
  ),
)

each-release : (k nth : ℕ) → k < 64 → nth < 2 ^ 16 → Each (release k nth)
unfolding release
each-release k nth place small = (
  lw-in_range 10 (4 * k) 8 (omega arith) (omega arith) (omega arith),
  (
    lbu-in_range 11 0 10 (omega arith) (omega arith) (omega arith),
    (
      (refl, omega arith, omega arith, omega arith),
      (jal-in_range 1 free (nth + 3) (omega arith) (omega arith) (omega arith) (omega arith), tt),
    ),
  ),
)

each-again : (nth : ℕ) → 3 ≤ nth → nth < 2 ^ 16 → Each (again nth)
unfolding again
each-again nth behind small = (
  (omega arith, omega arith, (omega (arith, ints), omega (arith, ints))),
  (
    (refl, omega arith, omega arith, ((omega (arith, ints), omega (arith, ints)), refl)),
    (jal-in_range 0 (address_of body) (nth + 2) (omega arith) (omega arith) (omega arith) (omega arith), tt),
  ),
)

each-ending : Each ending
unfolding ending
each-ending = (
  sw-in_range 9 256 8 (omega arith) (omega arith) (omega arith),
  (
    addi-in_range 11 8 256 (omega arith) (omega arith) (omega arith),
    (
      addi-in_range 10 0 1 (omega arith) (omega arith) (omega arith),
      (
        addi-in_range 12 0 4 (omega arith) (omega arith) (omega arith),
        (
          addi-in_range 17 0 64 (omega arith) (omega arith) (omega arith),
          (
            refl,
            (
              addi-in_range 10 0 0 (omega arith) (omega arith) (omega arith),
              (
                addi-in_range 17 0 93 (omega arith) (omega arith) (omega arith),
                (refl, tt),
              ),
            ),
          ),
        ),
      ),
    ),
  ),
)

-- ---- the program

each-with_turn : (full : Bool) (j draw : ℕ) (code : List Instr) → length code < 2 ^ 16 → Each code → Each (with_turn full j draw code)
each-with_turn true j draw code small each =
    each-append code (release (place_of draw) (length code)) each (each-release (place_of draw) (length code) (omega arith) small)
each-with_turn false j draw code small each =
    each-append code (allocation (place_of draw) (size_of draw) (j % 128) (length code)) each
    (each-allocation (place_of draw) (size_of draw) (j % 128) (length code) (omega arith) (omega arith) (omega arith) small)

each-before_turn : (draws : ℕ → ℕ) (j : ℕ) → j < 8192 → Each (before_turn draws j)
unfolding before_turn
each-before_turn draws zero few = each-start
each-before_turn draws (suc j) few =
    each-with_turn (is_full draws j (place_of (draws j))) j (draws j) (before_turn draws j)
    (omega (arith, length-before_turn draws j)) (each-before_turn draws j (omega arith))

each-with_release : (full : Bool) (k : ℕ) (code : List Instr) → k < 64 → length code < 2 ^ 16 → Each code → Each (with_release full k code)
each-with_release true k code place small each = each-append code (release k (length code)) each (each-release k (length code) place small)
each-with_release false k code place small each = each

each-before_place : (full : ℕ → Bool) (turns : List Instr) (k : ℕ) → length turns < 2 ^ 15 + 2 ^ 14 → k ≤ 64 → Each turns → Each (before_place full turns k)
unfolding before_place
each-before_place full turns zero small few each = each
each-before_place full turns (suc k) small few each =
    each-with_release (full k) k (before_place full turns k) (omega arith) (omega (arith, length-before_place full turns k))
    (each-before_place full turns k small (omega arith) each)

longer-with_turn : (full : Bool) (j draw : ℕ) (code : List Instr) → length code ≤ length (with_turn full j draw code)
longer-with_turn true j draw code = rw (length-append code (release (place_of draw) (length code))) (omega arith)
longer-with_turn false j draw code = rw (length-append code (allocation (place_of draw) (size_of draw) (j % 128) (length code))) (omega arith)

start-first : (draws : ℕ → ℕ) (j : ℕ) → 3 ≤ length (before_turn draws j)
unfolding before_turn start
start-first draws zero = omega arith
start-first draws (suc j) =
    omega (arith, start-first draws j, longer-with_turn (is_full draws j (place_of (draws j))) j (draws j) (before_turn draws j))

longer-with_release : (full : Bool) (k : ℕ) (code : List Instr) → length code ≤ length (with_release full k code)
longer-with_release true k code = rw (length-append code (release k (length code))) (omega arith)
longer-with_release false k code = omega arith

turns-first : (full : ℕ → Bool) (turns : List Instr) (k : ℕ) → length turns ≤ length (before_place full turns k)
unfolding before_place
turns-first full turns zero = omega arith
turns-first full turns (suc k) = omega (arith, turns-first full turns k, longer-with_release (full k) k (before_place full turns k))

each-program : (draws : ℕ → ℕ) (turns : ℕ) → turns < 8192 → Each (program draws turns)
unfolding program
each-program draws turns few =
    let body = before_turn draws turns in
    let code = before_place (is_full draws turns) body 64 in
    let long : length code < 2 ^ 16 = omega (arith, length-before_turn draws turns, length-before_place (is_full draws turns) body 64) in
    let behind : 3 ≤ length code = omega (arith, start-first draws turns, turns-first (is_full draws turns) body 64) in
    each-append (code ++ again (length code)) ending
    (each-append code (again (length code))
    (each-before_place (is_full draws turns) body 64 (omega (arith, length-before_turn draws turns)) (omega arith) (each-before_turn draws turns few))
    (each-again (length code) behind long))
    each-ending

length-program : (draws : ℕ → ℕ) (turns : ℕ) → turns < 8192 → length (program draws turns) < 2 ^ 16
unfolding program again ending
length-program draws turns few =
    let body = before_turn draws turns in
    let code = before_place (is_full draws turns) body 64 in
    rw (length-append (code ++ again (length code)) ending, length-append code (again (length code)))
    (omega (arith, length-before_turn draws turns, length-before_place (is_full draws turns) body 64))

pub in_range-program : (draws : ℕ → ℕ) (turns : ℕ) (code : List Instr) → turns < 8192 → code ≡ program draws turns → All IsInRange code
in_range-program draws turns code few is = subst (λ (c : List Instr). All IsInRange c) (sym is) (each-at (program draws turns) (each-program draws turns few))

pub short-program : (draws : ℕ → ℕ) (turns : ℕ) (code : List Instr) → turns < 8192 → code ≡ program draws turns → length code < 2 ^ 16
short-program draws turns code few is = subst (λ (c : List Instr). length c < 2 ^ 16) (sym is) (length-program draws turns few)
