-- Cells that are numbers, one after the other.
use Rattle.std.proofs.Common.{◌≡◌, ℕ, zero, suc, ◌-◌, ◌<◌, refl, ◌∙◌, ap, arith, Option, Some, None, List, is_some, false}
use Rattle.infinite_heap.specs.InfiniteSystem.{numbers_of, with_number}
use Rattle.infinite_heap.specs.Memory.{get_all, next}
use Rattle.infinite_heap.specs.declared.value.Cell.{Cell}
use Rattle.infinite_heap.specs.declared.value.Cell.TheVariants.{Byte, Part, Unset}

one_more : (b : ℕ) (o : Option (List ℕ)) → is_some (with_number (Byte b) o) ≡ is_some o
one_more b None = refl
one_more b (Some bs) = refl

no_more : (c : Cell) (o : Option (List ℕ)) → ((b : ℕ) → c ≡ Byte b → ⊥) → is_some (with_number c o) ≡ false
no_more (Byte b) o h = absurd (h b refl)
no_more (Part p d k) o h = refl
no_more Unset o h = refl

pub numbers_step : (f : ℕ → Cell) (x n b : ℕ) → 0 < n → f x ≡ Byte b → is_some (numbers_of (get_all f x n)) ≡ is_some (numbers_of (get_all f (next x) (n - 1)))
numbers_step f x zero b some e = absurd (omega arith)
numbers_step f x (suc n) b some e =
    let m : n ≡ suc n - 1 = omega arith in
    ap (λ c. is_some (with_number c (numbers_of (get_all f (next x) n)))) e ∙ one_more b (numbers_of (get_all f (next x) n)) ∙ ap (λ k. is_some (numbers_of (get_all f (next x) k))) m

pub no_numbers : (f : ℕ → Cell) (x n : ℕ) → 0 < n → ((b : ℕ) → f x ≡ Byte b → ⊥) → is_some (numbers_of (get_all f x n)) ≡ false
no_numbers f x zero some h = absurd (omega arith)
no_numbers f x (suc n) some h = no_more (f x) (numbers_of (get_all f (next x) n)) h
