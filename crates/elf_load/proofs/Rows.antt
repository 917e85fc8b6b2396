-- Rows of a table, one after the other, as a loop reads them.
use Rattle.std.proofs.Common.{◌≡◌, ℕ, zero, suc, Bool, true, false, Option, Some, None, ◌+◌, ◌-◌, ◌*◌, ◌<◌, ◌≤◌, List, [], ◌∷◌, ◌++◌, map, append_assoc, append-nil, length, refl, ap, arith}
use Rattle.std.specs.List.{find, list_all}
use Rattle.infinite_heap.specs.ElfFields.{rows}

pub no_rows : (at size : ℕ) → rows at size 0 ≡ []
unfolding rows
no_rows at size = refl

pub next_row : (at size count i : ℕ) → i < count → rows at size (count - i) ≡ at ∷ rows (at + size) size (count - (i + 1))
unfolding rows
next_row at size count i lt = let k : count - i ≡ suc (count - (i + 1)) = omega arith in rw k refl

-- one symbol before those behind
pub row_before : (from left count : ℕ) → 0 < left → left ≤ count → rows (from + 16 * (left - 1)) 16 (count - (left - 1)) ≡ (from + 16 * (left - 1)) ∷ rows (from + 16 * left) 16 (count - left)
unfolding rows
row_before from left count some le =
    let k : count - (left - 1) ≡ suc (count - left) = omega arith in
    let p : from + 16 * (left - 1) + 16 ≡ from + 16 * left = omega arith in
    rw k (ap (λ q. (from + 16 * (left - 1)) ∷ rows q 16 (count - left)) p)

pub length_rows : (at size count : ℕ) → length (rows at size count) ≡ count
unfolding rows
length_rows at size zero = refl
length_rows at size (suc count) = omega (arith, length_rows (at + size) size count)

-- a loop that pushes what f makes of each row's place
pub pushed : {X : Type 0} (f : ℕ → X) (xs ys whole : List X) (x : X) (at size count i : ℕ) → i < count → ys ≡ xs ++ x ∷ [] → x ≡ f at → xs ++ map f (rows at size (count - i)) ≡ whole
    → ys ++ map f (rows (at + size) size (count - (i + 1))) ≡ whole
pushed f xs ys whole x at size count i lt e q h = rw (e, q, append_assoc) (rw (next_row at size count i lt) at h)

pub pushed_all : {X : Type 0} (f : ℕ → X) (xs whole : List X) (at size count i : ℕ) → count ≤ i → xs ++ map f (rows at size (count - i)) ≡ whole → xs ≡ whole
pushed_all f xs whole at size count i le h =
    let k : count - i ≡ 0 = omega arith in
    rw (k, no_rows at size, append-nil) at h

pub found_row : (p : ℕ → Bool) (at size count i : ℕ) → i < count → p at ≡ true → find p (rows at size (count - i)) ≡ Some at
found_row p at size count i lt e = rw (next_row at size count i lt, e) refl

pub passed_row : (p : ℕ → Bool) (at size count i : ℕ) (r : Option ℕ) → i < count → p at ≡ false → find p (rows at size (count - i)) ≡ r → find p (rows (at + size) size (count - (i + 1))) ≡ r
passed_row p at size count i r lt e h = rw (next_row at size count i lt, e) at h

pub no_row : (p : ℕ → Bool) (at size count i : ℕ) → count ≤ i → find p (rows at size (count - i)) ≡ None
no_row p at size count i le = let k : count - i ≡ 0 = omega arith in rw (k, no_rows at size) refl

pub all_row : (p : ℕ → Bool) (at size count i : ℕ) (r : Bool) → i < count → p at ≡ true → list_all p (rows at size (count - i)) ≡ r → list_all p (rows (at + size) size (count - (i + 1))) ≡ r
all_row p at size count i r lt e h = rw (next_row at size count i lt, e) at h

pub not_all_rows : (p : ℕ → Bool) (at size count i : ℕ) → i < count → p at ≡ false → list_all p (rows at size (count - i)) ≡ false
not_all_rows p at size count i lt e = rw (next_row at size count i lt, e) refl

pub all_rows : (p : ℕ → Bool) (at size count i : ℕ) → count ≤ i → list_all p (rows at size (count - i)) ≡ true
all_rows p at size count i le = let k : count - i ≡ 0 = omega arith in rw (k, no_rows at size) refl
