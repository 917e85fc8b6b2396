-- One entry changed.
use Rattle.std.proofs.Common.{◌≡◌, ℕ, cond, subst, sym, eq-eqb, ne_eqb, inl, inr}
use Rattle.std.proofs.lemmas.Bool.{cases_eq}
use Rattle.infinite_heap.specs.Memory.{put}

-- by cases: the entry that is changed, and any other
pub put_case : {A : Type 0} (f : ℕ → A) (x : ℕ) (c : A) (y : ℕ) (P : A → Type 0) → (x ≡ y → P c) → ((x ≡ y → ⊥) → P (f y)) → P (put f x c y)
put_case f x c y P here there = elim (cases_eq x y) [
  | inl e ↦ subst (λ b. P (cond b c (f y))) (sym (eq-eqb x y e)) (here e)
  | inr n ↦ subst (λ b. P (cond b c (f y))) (sym (ne_eqb x y n)) (there n)
]
