-- Numbers, idle numbers, pointers moved, and distances.
use Rattle.std.proofs.Common.{◌≡◌, ℕ, ◌*◌, ◌%◌, ◌^◌, ◌<◌, refl, ap, sym, ◌∙◌, subst, Bool, true, false, arith, nat_eq, w32}
use Rattle.std.specs.Prelude.{ℤ, pos, negsuc}
use lib.Signed.{shr_z}
use Rattle.std.specs.Bool.{then_some}
use Rattle.std.proofs.lemmas.Bool.Decides.{nat_tests}
use Rattle.std.proofs.lemmas.Bool.{eqb-true}
use Rattle.std.proofs.lemmas.Int.{of_z-to_z}
use Rattle.std.specs.Int.Bits.{or_zero_r, xor_zero_r}
use Rattle.infinite_heap.specs.declared.instr.Operation.{Operation}
use Rattle.infinite_heap.specs.declared.instr.Operation.TheVariants.{Add, Sub, Sll, Xor, Srl, Sra, Or}
use Rattle.infinite_heap.specs.declared.value.Value.{Value}
use Rattle.infinite_heap.specs.declared.value.Value.TheVariants.{Num, Ptr}
use Rattle.infinite_heap.specs.Alu.{alu, signed, word}
use Rattle.value_laws.specs.OperationLaws.{RowStands}
use Rattle.infinite_heap.specs.Lift.{number_result, kept_left, kept_right, is_idle_left, is_idle_right, moved_pointer, distance}
use Rattle.infinite_heap.specs.Layout.{Layout, place, Stands}

pub when_stands : (l : Layout) (b : Bool) (v : Value) (x : ℕ) → (b ≡ true → Stands l v x) → RowStands l (then_some b v) x
when_stands l true v x h = h refl
when_stands l false v x h = tt

pub number_result_stands : (l : Layout) (op : Operation) (x y : Value) (a b : ℕ) → Stands l x a → Stands l y b → RowStands l (number_result op x y) (alu op a b)
number_result_stands l op (Num m) (Num n) a b p q = cc
number_result_stands l op _ _ a b p q = tt

pow_none : (a k : ℕ) → k ≡ 0 → a * 2 ^ k ≡ a
pow_none a k e = rw e (omega arith)

-- a word read as signed and shifted by nothing
sra_none : (a k : ℕ) → a < 2 ^ 32 → k ≡ 0 → a ≡ word (shr_z (signed a) (2 ^ k))
sra_none a k h e = rw e (sym (ap word (shr_one (signed a)) ∙ of_z-to_z w32 a h))
  where
    shr_one : (z : ℤ) → shr_z z (2 ^ 0) ≡ z
    shr_one (pos n) = ap pos (omega arith)
    shr_one (negsuc n) = ap negsuc (omega arith)

pub is_idle_right_same : (op : Operation) (a b : ℕ) → a < 2 ^ 32 → is_idle_right op b ≡ true → a ≡ alu op a b
is_idle_right_same Add a b h e = grind (arith, nat_tests)
is_idle_right_same Sub a b h e = grind (arith, nat_tests)
is_idle_right_same Or a b h e = rw (eqb-true b 0 e, or_zero_r) refl
is_idle_right_same Xor a b h e = rw (eqb-true b 0 e, xor_zero_r) refl
is_idle_right_same Sll a b h e = rw (eqb-true (b % 32) 0 e) (omega arith)
is_idle_right_same Srl a b h e = rw (eqb-true (b % 32) 0 e) (omega arith)
is_idle_right_same Sra a b h e = sra_none a (b % 32) h (eqb-true (b % 32) 0 e)
is_idle_right_same _ a b h e = cc

pub is_idle_left_same : (op : Operation) (a b : ℕ) → b < 2 ^ 32 → is_idle_left op a ≡ true → b ≡ alu op a b
is_idle_left_same Add a b h e = grind (arith, nat_tests)
is_idle_left_same Or a b h e = rw (eqb-true a 0 e)
is_idle_left_same Xor a b h e = rw (eqb-true a 0 e)
is_idle_left_same _ a b h e = cc

pub kept_left_stands : (l : Layout) (op : Operation) (x y : Value) (a b : ℕ) → a < 2 ^ 32 → Stands l x a → Stands l y b → RowStands l (kept_left op x y) (alu op a b)
kept_left_stands l op x (Num n) a b h p q =
    when_stands l (is_idle_right op n) x (alu op a b) (λ e. subst (Stands l x) (is_idle_right_same op a b h (rw q e)) p)
kept_left_stands l op _ _ a b h p q = tt

pub kept_right_stands : (l : Layout) (op : Operation) (x y : Value) (a b : ℕ) → b < 2 ^ 32 → Stands l x a → Stands l y b → RowStands l (kept_right op x y) (alu op a b)
kept_right_stands l op (Num n) y a b h p q =
    when_stands l (is_idle_left op n) y (alu op a b) (λ e. subst (Stands l y) (is_idle_left_same op a b h (rw p e)) q)
kept_right_stands l op _ _ a b h p q = tt

pub moved_pointer_stands : (l : Layout) (op : Operation) (x y : Value) (a b : ℕ) → a < 2 ^ 32 → b < 2 ^ 32 → Stands l x a → Stands l y b → RowStands l (moved_pointer op x y) (alu op a b)
moved_pointer_stands l Add (Ptr o d) (Num n) a b ha hb p q = record { known = p.known; fits = omega arith; is = omega (arith, p.is) }
moved_pointer_stands l Add (Num n) (Ptr o d) a b ha hb p q = record { known = q.known; fits = omega arith; is = omega (arith, q.is) }
moved_pointer_stands l Sub (Ptr o d) (Num n) a b ha hb p q = record { known = p.known; fits = omega arith; is = omega (arith, p.is) }
moved_pointer_stands l _ _ _ a b ha hb p q = tt

pub distance_stands : (l : Layout) (op : Operation) (x y : Value) (a b : ℕ) → a < 2 ^ 32 → b < 2 ^ 32 → Stands l x a → Stands l y b → RowStands l (distance op x y) (alu op a b)
distance_stands l Sub (Ptr o d) (Ptr p e) a b ha hb h k =
    when_stands l (nat_eq o p) (Num (alu Sub d e)) (alu Sub a b) (λ t. let s : b ≡ place l o e = k.is ∙ ap (λ (i : ℕ). place l i e) (sym (eqb-true o p t)) in omega (arith, h.is))
distance_stands l _ _ _ a b ha hb p q = tt
