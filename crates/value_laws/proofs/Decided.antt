-- Decided equalities.
use Rattle.std.proofs.Common.{◌≡◌, ℕ, ◌+◌, ◌%◌, ◌^◌, ◌<◌, ◌≤◌, refl, ap, sym, ◌∙◌, Bool, true, false, cond, not, ◌&&◌, ◌⊎◌, inl, inr, arith, nat_eq, nat_lt, max, [], ◌∷◌}
use Rattle.std.specs.Prelude.{IfSome}
use Rattle.std.specs.Bool.{then_some}
use Rattle.std.proofs.lemmas.Bool.Decides.{nat_tests}
use Rattle.std.proofs.lemmas.Bool.{eqb-true, leb-true, eqb-false, and_parts, ne_eqb, not-true, eq-eqb}
use Rattle.std.specs.declared.option.Option.{Option}
use Rattle.std.specs.declared.option.Option.TheVariants.{Some, None}
use Rattle.infinite_heap.specs.declared.value.Value.{Value}
use Rattle.infinite_heap.specs.declared.value.Value.TheVariants.{Num, Ptr}
use Rattle.infinite_heap.specs.Order.{near}
use Rattle.infinite_heap.specs.Region.{in_region}
use Rattle.infinite_heap.specs.Equality.{Decision, same, two_pointers, pointer_and_number, touches}
use Rattle.infinite_heap.specs.Layout.{Layout, IsAligned, IsLayout, IsIn, IsPlace, place, Stands, AllHarmless}
use Rattle.value_laws.specs.DecisionLaws.{DecisionHolds}

-- a test that goes two ways
pub two_ways : (b : Bool) (P : Bool → Type 0) → (b ≡ true → P true) → (b ≡ false → P false) → P b
two_ways true P h k = h refl
two_ways false P h k = k refl

pub when_some : {A : Type 0} (b : Bool) (v : A) (P : A → Type 0) → (b ≡ true → P v) → IfSome (then_some b v) P
when_some true v P h = h refl
when_some false v P h = tt

pub outside_of : (x : ℕ) → in_region x ≡ false → (x < 2 ^ 30) ⊎ (2 ^ 31 ≤ x)
outside_of x h = grind (arith, nat_tests)

pub place_along : (l : Layout) (o d a j : ℕ) → IsPlace l o d a → place l o (d + j) ≡ (a + j) % 2 ^ 32
place_along l o d a j p = omega (arith, p.is)

pointer_and_number_holds : (l : Layout) → IsAligned l → (clock pc o d n a b : ℕ) → IsPlace l o d a → b ≡ n → DecisionHolds l clock pc (pointer_and_number d n) (nat_eq a b)
pointer_and_number_holds l al clock pc o d n a b p e = when_some (near d && not (in_region n)) _ (λ k. AllHarmless l (touches clock pc k.looks) → k.answer ≡ nat_eq a b) (λ t. λ _.
    let u = and_parts (near d) (not (in_region n)) t in
    let h : d ≤ 2 ^ 21 = leb-true d (2 ^ 21) u.0 in
    apart (outside_of n (not-true (in_region n) u.1)) h)
  where
    apart : (n < 2 ^ 30) ⊎ (2 ^ 31 ≤ n) → d ≤ 2 ^ 21 → false ≡ nat_eq a b
    apart (inl k) h = sym (ne_eqb a b (λ q. omega (arith, p.is, al.above o p.known, al.below o p.known)))
    apart (inr k) h = sym (ne_eqb a b (λ q. omega (arith, p.is, al.above o p.known, al.below o p.known)))

turned_holds : (l : Layout) (clock pc : ℕ) (o : Option Decision) (a b : ℕ) → DecisionHolds l clock pc o (nat_eq a b) → DecisionHolds l clock pc o (nat_eq b a)
turned_holds l clock pc (Some d) a b p = λ u. p u ∙ nat_eq-turned a b
  where
    nat_eq-turned : (x y : ℕ) → nat_eq x y ≡ nat_eq y x
    nat_eq-turned x y = grind (arith, nat_tests)
turned_holds l clock pc None a b p = tt

nat_eq-same : (x y u v : ℕ) → (x ≡ y → u ≡ v) → (u ≡ v → x ≡ y) → nat_eq x y ≡ nat_eq u v
nat_eq-same x y u v f g = two_ways (nat_eq x y) (λ t. t ≡ nat_eq u v) (λ t. sym (eq-eqb u v (f (eqb-true x y t)))) (λ t. sym (ne_eqb u v (λ k. eqb-false x y t (g k))))

two_pointers_hold : (l : Layout) → IsLayout l → (sizes : ℕ → ℕ) (clock pc o d i e a b : ℕ) → IsPlace l o d a → IsPlace l i e b → DecisionHolds l clock pc (two_pointers sizes o d i e) (nat_eq a b)
two_pointers_hold l il sizes clock pc o d i e a b p q = two_ways (nat_eq o i) (λ t. DecisionHolds l clock pc (cond t (Some (record { answer = nat_eq d e; looks = [] }))
    (then_some (nat_lt d (max (sizes o) 1) && nat_lt e (max (sizes i) 1)) (record { answer = false; looks = record { object = o; offset = d; width = 1 } ∷ record { object = i; offset = e; width = 1 } ∷ [] }))) (nat_eq a b))
    (λ t. λ _. one (eqb-true o i t))
    (λ t. when_some (nat_lt d (max (sizes o) 1) && nat_lt e (max (sizes i) 1)) _ (λ k. AllHarmless l (touches clock pc k.looks) → k.answer ≡ nat_eq a b)
    (λ _. λ u. two (eqb-false o i t) (u.0.inside 0 (omega arith)) (u.1.0.inside 0 (omega arith))))
  where
    one : o ≡ i → nat_eq d e ≡ nat_eq a b
    one t =
        let s : b ≡ place l o e = q.is ∙ ap (λ (k : ℕ). place l k e) (sym t) in
        let h : l.at o < 0x7FE00000 = il.aligned.below o p.known in
        nat_eq-same d e a b (λ k. p.is ∙ ap (λ (x : ℕ). place l o x) k ∙ sym s) (λ k. omega (arith, p.is, p.fits, q.fits))

    two : (o ≡ i → ⊥) → IsIn l o (place l o (d + 0)) → IsIn l i (place l i (e + 0)) → false ≡ nat_eq a b
    two n h k = sym (ne_eqb a b (λ r. n (il.apart o i (place l o (d + 0)) h (rw (place_along l o d a 0 p, r, ← place_along l i e b 0 q) k))))

pub same_holds : (l : Layout) → IsLayout l → (sizes : ℕ → ℕ) (x y : Value) (a b clock pc : ℕ) → Stands l x a → Stands l y b → DecisionHolds l clock pc (same sizes x y) (nat_eq a b)
same_holds l il sizes (Num m) (Num n) a b clock pc p q = λ _. rw (p, q) refl
same_holds l il sizes (Ptr o d) (Num n) a b clock pc p q = pointer_and_number_holds l il.aligned clock pc o d n a b p q
same_holds l il sizes (Num n) (Ptr o d) a b clock pc p q = turned_holds l clock pc (pointer_and_number d n) b a (pointer_and_number_holds l il.aligned clock pc o d n b a q p)
same_holds l il sizes (Ptr o d) (Ptr i e) a b clock pc p q = two_pointers_hold l il sizes clock pc o d i e a b p q
same_holds l il sizes _ _ a b clock pc p q = tt
