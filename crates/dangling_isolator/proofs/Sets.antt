-- A set of marks by their order.
use Rattle.std.proofs.Common.{◌≡◌, ℕ, ◌==◌, ◌&&◌, ◌||◌, Bool, true, false, cond, filter, List, [], ◌∷◌, refl, ap, ◌∙◌, arith}
use Rattle.std.specs.List.{list_any}
use Rattle.std.specs.Ordering.{nat_cmp, ordering_then, is_eq}
use Rattle.std.specs.declared.cmp.Ordering.{Ordering}
use Rattle.std.specs.declared.cmp.Ordering.TheVariants.{Less, Equal, Greater}
use Rattle.std.proofs.lemmas.Bool.Decides.{nat_tests}
use Rattle.dangling_isolator.specs.declared.mark.Mark.{Mark}
use Rattle.dangling_isolator.specs.Marks.{same_mark, is_among}

abbrev pub mark_cmp : Mark → Mark → Ordering
mark_cmp a b = ordering_then (nat_cmp a.object b.object) (ordering_then (nat_cmp a.size b.size) (ordering_then (nat_cmp a.front b.front) (ordering_then (nat_cmp a.site b.site) (ordering_then (nat_cmp a.free_site b.free_site) (ordering_then (nat_cmp a.freed b.freed) (ordering_then (nat_cmp a.offset b.offset) (nat_cmp a.byte b.byte)))))))

tied : (a b : ℕ) → is_eq (nat_cmp a b) ≡ (b == a)
tied a b = grind (arith, nat_tests)

then_tied : (o p : Ordering) (b c : Bool) → is_eq o ≡ b → is_eq p ≡ c → is_eq (ordering_then o p) ≡ (b && c)
then_tied Less p b c h k = ap (λ x. x && c) h
then_tied Equal p b c h k = k ∙ ap (λ x. x && c) h
then_tied Greater p b c h k = ap (λ x. x && c) h

two : (b c d : Bool) → (b && (c && d)) ≡ ((b && c) && d)
two true c d = refl
two false c d = refl

six : (a b c d e f t : Bool) → (a && (b && (c && (d && (e && (f && t)))))) ≡ ((a && (b && (c && (d && (e && f))))) && t)
six true true true true true f t = refl
six false b c d e f t = refl
six true false c d e f t = refl
six true true false d e f t = refl
six true true true false e f t = refl
six true true true true false f t = refl

tied_is : (m x : Mark) → is_eq (mark_cmp m x) ≡ same_mark x m
tied_is m x =
    then_tied _ _ _ _ (tied m.object x.object)
    (then_tied _ _ _ _ (tied m.size x.size)
    (then_tied _ _ _ _ (tied m.front x.front)
    (then_tied _ _ _ _ (tied m.site x.site)
    (then_tied _ _ _ _ (tied m.free_site x.free_site)
    (then_tied _ _ _ _ (tied m.freed x.freed)
    (then_tied _ _ _ _ (tied m.offset x.offset) (tied m.byte x.byte)))))))
    ∙ six (x.object == m.object) (x.size == m.size) (x.front == m.front) (x.site == m.site) (x.free_site == m.free_site) (x.freed == m.freed) ((x.offset == m.offset) && (x.byte == m.byte))

pub among_by : (marks : List Mark) (m : Mark) → list_any (λ x. is_eq (mark_cmp m x)) marks ≡ is_among marks m
among_by [] m = refl
among_by (x ∷ marks) m = ap (λ b. b || list_any (λ y. is_eq (mark_cmp m y)) marks) (tied_is m x) ∙ ap (λ b. same_mark x m || b) (among_by marks m)

pub among_same : (old marks : List Mark) → ((m : Mark) → is_among old m ≡ is_among marks m) → (xs : List Mark) → filter (is_among old) xs ≡ filter (is_among marks) xs
among_same old marks h [] = refl
among_same old marks h (x ∷ xs) = ap (λ b. cond b (x ∷ filter (is_among old) xs) (filter (is_among old) xs)) (h x) ∙ ap (λ ys. cond (is_among marks x) (x ∷ ys) ys) (among_same old marks h xs)
