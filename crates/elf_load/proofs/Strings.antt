-- The bytes of names: where they end, and how much of one tells a heap function.
use Rattle.std.proofs.Common.{◌≡◌, ℕ, zero, suc, ◌+◌, ◌-◌, ◌<◌, ◌≤◌, min, Bool, true, false, cond, ◌&&◌, not, ltb, eqb, List, [], ◌∷◌, length, take, drop, get_or, codes, refl, sym, ap, subst, ◌∙◌, arith}
use Rattle.std.specs.List.{list_any, before_first, position_or_len}
use Rattle.std.specs.Str.{bytes_eq}
use Rattle.std.proofs.lemmas.Bool.Decides.{nat_tests}
use Rattle.std.proofs.lemmas.List.{length-drop, get_or-drop, drop_min, take_min}
use Rattle.std.proofs.lemmas.List.Folds.{list_any-from_Any}
use Rattle.elf_load.proofs.Pairs.{or_right}
use Rattle.infinite_heap.specs.ElfSymbols.{ends, call_of, name_at}

-- ---- the last zero byte

abbrev zeros : List ℕ → Bool
zeros xs = list_any (λ b. eqb b 0) xs

after : (xs : List ℕ) (k : ℕ) → zeros xs ≡ false → zeros (drop k xs) ≡ false
after xs zero e = e
after [] (suc k) e = refl
after (x ∷ xs) (suc k) e = after xs k (or_right (eqb x 0) (zeros xs) e)

later : (xs : List ℕ) (end start : ℕ) → zeros (drop end xs) ≡ false → end ≤ start → zeros (drop start xs) ≡ false
later xs zero start e le = after xs start e
later [] (suc end) start e le = after [] start refl
later (x ∷ xs) (suc end) zero e le = absurd (omega arith)
later (x ∷ xs) (suc end) (suc start) e le = later xs end start e (omega arith)

before : (xs : List ℕ) (end start : ℕ) → start < end → end ≤ length xs → get_or xs (end - 1) 0 ≡ 0 → zeros (drop start xs) ≡ true
before xs end start lt le z =
    let place : start + (end - 1 - start) ≡ end - 1 = omega arith in
    list_any-from_Any (λ b. eqb b 0) (drop start xs) (end - 1 - start, 0, omega (arith, length-drop start xs), get_or-drop start xs (end - 1 - start) 0 ∙ ap (λ k. get_or xs k 0) place ∙ z, refl)

not_below : (a b : ℕ) → ltb a b ≡ false → b ≤ a
not_below a b e = grind (arith, nat_tests)

is_below : (a b : ℕ) → ltb a b ≡ true → a < b
is_below a b e = grind (arith, nat_tests)

-- `end` is the place behind the last zero byte
pub ends_there : (xs : List ℕ) (end : ℕ) → end ≤ length xs → get_or xs (end - 1) 0 ≡ 0 → zeros (drop end xs) ≡ false → (start : ℕ) → ends xs start ≡ ltb start end
ends_there xs end le z none start =
    elim (ltb start end) as (λ b. ltb start end ≡ b → ends xs start ≡ b) [
      | true ↦ λ e. before xs end start (is_below start end e) le z
      | false ↦ λ e. later xs end start none (not_below start end e)
    ] refl

pub ends_nowhere : (xs : List ℕ) (end : ℕ) → end ≤ 0 → zeros (drop end xs) ≡ false → (start : ℕ) → ends xs start ≡ ltb start 0
ends_nowhere xs end le none start =
    elim (ltb start 0) as (λ b. ltb start 0 ≡ b → ends xs start ≡ b) [
      | true ↦ λ e. let lt = is_below start 0 e in absurd (omega arith)
      | false ↦ λ e. later xs end start none (omega arith)
    ] refl

-- ---- the name of a heap function

one_plus : (k : ℕ) → 1 + k ≡ suc k
one_plus k = omega arith

before_take : (p : ℕ → Bool) (n : ℕ) (xs : List ℕ) → before_first p (take n xs) ≡ take n (before_first p xs)
before_take p zero xs = refl
before_take p (suc n) [] = refl
before_take p (suc n) (x ∷ xs) =
    elim (p x) as (λ b. take (cond (not b) (1 + position_or_len p (take n xs)) 0) (x ∷ take n xs) ≡ take (suc n) (take (cond (not b) (1 + position_or_len p xs) 0) (x ∷ xs))) [
      | true ↦ refl
      | false ↦
          let a = one_plus (position_or_len p (take n xs)) in
          let b = one_plus (position_or_len p xs) in
          subst (λ k. take k (x ∷ take n xs) ≡ take (suc n) (take (1 + position_or_len p xs) (x ∷ xs))) (sym a)
          (subst (λ k. take (suc (position_or_len p (take n xs))) (x ∷ take n xs) ≡ take (suc n) (take k (x ∷ xs))) (sym b) (ap (λ ys. x ∷ ys) (before_take p n xs)))
    ]

eq_take : (n : ℕ) (xs ys : List ℕ) → length ys < n → bytes_eq (take n xs) ys ≡ bytes_eq xs ys
eq_take zero xs ys lt = absurd (omega arith)
eq_take (suc n) [] ys lt = refl
eq_take (suc n) (x ∷ xs) [] lt = refl
eq_take (suc n) (x ∷ xs) (y ∷ ys) lt = ap (λ b. eqb x y && b) (eq_take n xs ys (omega arith))

call_take : (name : List ℕ) → call_of (take 14 name) ≡ call_of name
unfolding call_of
call_take name =
    rw (
      eq_take 14 name (codes "malloc") (omega arith),
      eq_take 14 name (codes "free") (omega arith),
      eq_take 14 name (codes "calloc") (omega arith),
      eq_take 14 name (codes "realloc") (omega arith),
      eq_take 14 name (codes "memalign") (omega arith),
      eq_take 14 name (codes "aligned_alloc") (omega arith),
      eq_take 14 name (codes "_malloc_r") (omega arith),
      eq_take 14 name (codes "_free_r") (omega arith),
      eq_take 14 name (codes "_calloc_r") (omega arith),
      eq_take 14 name (codes "_realloc_r") (omega arith),
      eq_take 14 name (codes "_memalign_r") (omega arith),
    ) refl

-- the first fourteen bytes tell
pub call_is : (strings behind first : List ℕ) (start : ℕ) → behind ≡ drop (min start (length strings)) strings → first ≡ take (min 14 (length behind)) behind → call_of (before_first (λ b. eqb b 0) first) ≡ call_of (name_at strings start)
call_is strings behind first start b f =
    ap (λ xs. call_of (before_first (λ b. eqb b 0) xs)) (f ∙ take_min 14 behind ∙ ap (take 14) (b ∙ drop_min start strings))
    ∙ ap call_of (before_take (λ b. eqb b 0) 14 (drop start strings))
    ∙ call_take (name_at strings start)
