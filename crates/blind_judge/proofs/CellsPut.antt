-- Marks of the words that have a cell that is no number.
use Rattle.std.proofs.Common.{◌≡◌, ℕ, ◌/◌, ap, ◌∙◌, arith, rules, Some, None, Option, Ok, Err, Result, OnOk, OnErr}
use Rattle.std.specs.BTreeMap as tree
use Rattle.std.specs.BTreeMap.{BTreeMap, Updates, IsUnchanged, is_at}
use Rattle.std.specs.Map.{lookup}
use Rattle.std.specs.Ordering.{nat_cmp}
use Rattle.infinite_heap.specs.Memory.{put}
use Rattle.infinite_heap.specs.declared.value.Cell.{Cell}
use Rattle.blind_judge.proofs.Puts.{put_case}

abbrev pub Marked : (ℕ → ℕ) → (ℕ → Option Cell) → Type 0
Marked marks odd = (x : ℕ) → marks (x / 4) ≡ 0 → odd x ≡ None

-- one more mark
pub one_more_mark : (marks : ℕ → ℕ) (odd : ℕ → Option Cell) (k : ℕ) → Marked marks odd → Marked (put marks k 1) odd
one_more_mark marks odd k h x = put_case marks k 1 (x / 4) (λ m. m ≡ 0 → odd x ≡ None) (λ e m. absurd (omega arith)) (λ n m. h x m)

-- a cell in a word that is marked
pub marked_put : (marks : ℕ → ℕ) (odd : ℕ → Option Cell) (x : ℕ) (v : Option Cell) → Marked (put marks (x / 4) 1) odd → Marked (put marks (x / 4) 1) (put odd x v)
marked_put marks odd x v h y = put_case odd x v y (λ o. put marks (x / 4) 1 (y / 4) ≡ 0 → o ≡ None)
    (λ e. put_case marks (x / 4) 1 (y / 4) (λ m. m ≡ 0 → v ≡ None) (λ same m. absurd (omega arith)) (λ n m. absurd (n (ap (λ z. z / 4) e))))
    (λ n. h y)

-- a cell in a word that is marked, put into the map or refused
pub marked_insert : {T E : Type 0} (r : Result T E) (marks : ℕ → ℕ) (m n : BTreeMap ℕ Cell) (x : ℕ) (v : Cell)
    → Marked (put marks (x / 4) 1) (tree.get nat_cmp m) → OnOk r (Updates nat_cmp m n x (Some v)) → OnErr r (IsUnchanged m n) → Marked (put marks (x / 4) 1) (tree.get nat_cmp n)
marked_insert (Ok t) marks m n x v h up same = λ y. put_case marks (x / 4) 1 (y / 4) (λ k. k ≡ 0 → tree.get nat_cmp n y ≡ None)
    (λ e zero. absurd (omega arith))
    (λ apart zero. up.2 y (search (arith, rules)) ∙ put_case marks (x / 4) 1 (y / 4) (λ k. (k ≡ 0 → tree.get nat_cmp m y ≡ None) → tree.get nat_cmp m y ≡ None) (λ e. absurd (apart e)) (λ n f. f zero) (h y))
marked_insert (Err e) marks m n x v h up same = λ y zero. ap (λ es. lookup (is_at (nat_cmp y)) es) same ∙ h y zero
