-- The order of deferred frees and lists in that order: the order in which they were put doesn't matter. Crates above cite
-- this in their proofs; `puts_commute` has it as a clause.
use Rattle.std.proofs.Common.{◌≡◌, inl, inr, true, false, List, [], ◌∷◌, refl, ap, sym, ◌∙◌}
use Rattle.std.proofs.lemmas.Bool.{cases_Bool, false≢true}
use Rattle.std.specs.declared.cmp.Ordering.{Ordering}
use Rattle.std.specs.declared.cmp.Ordering.TheVariants.{Less, Equal, Greater}
use Rattle.std.specs.Ordering.{nat_cmp, ordering_then, ordering_reverse, is_lt}
use Rattle.std.specs.Cmp.{IsTotalOrder, then_total, on_total, nat_cmp_total}
use Rattle.std.specs.FinMap.{nat_cmp-IsAntisymmetric}
use Rattle.deferral_queue.specs.declared.Due.{Due}
use Rattle.deferral_queue.specs.Order.{due_order, is_before}
use Rattle.deferral_queue.specs.Deferrals.{insert_due}

abbrev pub PutsCommute : Type 0
PutsCommute = (x y : Due) (zs : List Due) → insert_due x (insert_due y zs) ≡ insert_due y (insert_due x zs)

-- ---- the order is total

due_total : IsTotalOrder due_order
due_total = then_total (on_total (λ (d : Due). d.due) nat_cmp_total) (then_total (on_total (λ (d : Due). d.object) nat_cmp_total) (on_total (λ (d : Due). d.addr) nat_cmp_total))

reversed : (r : Ordering) → is_lt r ≡ true → is_lt (ordering_reverse r) ≡ false
reversed Less e = refl
reversed Equal e = refl
reversed Greater e = absurd (false≢true e)

pub before_asym : (a b : Due) → is_before a b ≡ true → is_before b a ≡ false
unfolding is_before
before_asym a b e = ap is_lt (due_total.antisymm b a) ∙ reversed (due_order a b) e

tied : (r : Ordering) → is_lt r ≡ false → is_lt (ordering_reverse r) ≡ false → r ≡ Equal
tied Less e f = absurd (false≢true (sym e))
tied Equal e f = refl
tied Greater e f = absurd (false≢true (sym f))

first_tied : (r s : Ordering) → ordering_then r s ≡ Equal → r ≡ Equal
first_tied Less s e = e
first_tied Equal s e = refl
first_tied Greater s e = e

then_tied : (r s : Ordering) → r ≡ Equal → ordering_then r s ≡ Equal → s ≡ Equal
then_tied r s first e = ap (λ (o : Ordering). ordering_then o s) (sym first) ∙ e

pub before_same : (a b : Due) → is_before a b ≡ false → is_before b a ≡ false → a ≡ b
unfolding is_before
before_same a b e f =
    let tie = tied (due_order a b) e (ap is_lt (sym (due_total.antisymm b a)) ∙ f) in
    let dues = first_tied (nat_cmp a.due b.due) _ tie in
    let rest = then_tied (nat_cmp a.due b.due) (ordering_then (nat_cmp a.object b.object) (nat_cmp a.addr b.addr)) dues tie in
    let objects = first_tied (nat_cmp a.object b.object) _ rest in
    let addrs = then_tied (nat_cmp a.object b.object) (nat_cmp a.addr b.addr) objects rest in
    let due = nat_cmp-IsAntisymmetric a.due b.due dues in
    let object = nat_cmp-IsAntisymmetric a.object b.object objects in
    let addr = nat_cmp-IsAntisymmetric a.addr b.addr addrs in
    λ i. record { due = due i; object = object i; addr = addr i }

pub before_le_lt : (x y z : Due) → is_before z x ≡ false → is_before z y ≡ true → is_before x y ≡ true
unfolding is_before
before_le_lt x y z e f = at (due_order z x) refl e
  where
    less : (r : Ordering) → is_lt r ≡ true → r ≡ Less
    less Less e = refl
    less Equal e = absurd (false≢true e)
    less Greater e = absurd (false≢true e)

    at : (r : Ordering) → due_order z x ≡ r → is_lt r ≡ false → is_lt (due_order x y) ≡ true
    at Less is e = absurd (false≢true (sym e))
    at Equal is e = ap is_lt (sym (due_total.congr z x y is)) ∙ f
    at Greater is e = ap is_lt (due_total.trans x z y (due_total.antisymm x z ∙ ap ordering_reverse is) (less (due_order z y) f))

-- ---- lists in order

pub insert_due-past : (x y : Due) (ys : List Due) → is_before y x ≡ true → insert_due x (y ∷ ys) ≡ y ∷ insert_due x ys
insert_due-past x y ys e = rw e refl

pub insert_due-front : (x y : Due) (ys : List Due) → is_before y x ≡ false → insert_due x (y ∷ ys) ≡ x ∷ (y ∷ ys)
insert_due-front x y ys e = rw e refl

-- x goes before z, and y behind it
between : (x y z : Due) (zs : List Due) → is_before z x ≡ false → is_before z y ≡ true → insert_due x (insert_due y (z ∷ zs)) ≡ insert_due y (insert_due x (z ∷ zs))
between x y z zs zx zy =
    ap (insert_due x) (insert_due-past y z zs zy) ∙ insert_due-front x z (insert_due y zs) zx
    ∙ sym (ap (insert_due y) (insert_due-front x z zs zx) ∙ insert_due-past y x (z ∷ zs) (before_le_lt x y z zx zy) ∙ ap (λ l. x ∷ l) (insert_due-past y z zs zy))

-- both go before z
front : (x y z : Due) (zs : List Due) → is_before z x ≡ false → is_before z y ≡ false → insert_due x (y ∷ (z ∷ zs)) ≡ insert_due y (x ∷ (z ∷ zs))
front x y z zs zx zy =
    elim (cases_Bool (is_before y x)) [
      | inl yx ↦ insert_due-past x y (z ∷ zs) yx ∙ ap (λ l. y ∷ l) (insert_due-front x z zs zx) ∙ sym (insert_due-front y x (z ∷ zs) (before_asym y x yx))
      | inr yx ↦ elim (cases_Bool (is_before x y)) [
        | inl xy ↦ insert_due-front x y (z ∷ zs) yx ∙ sym (insert_due-past y x (z ∷ zs) xy ∙ ap (λ l. x ∷ l) (insert_due-front y z zs zy))
        | inr xy ↦ let e : x ≡ y = before_same x y xy yx in ap (λ v. insert_due v (y ∷ (z ∷ zs))) e ∙ ap (λ v. insert_due y (v ∷ (z ∷ zs))) (sym e)
      ]
    ]

pub insert_due_comm : PutsCommute
insert_due_comm x y [] =
    elim (cases_Bool (is_before y x)) [
      | inl yx ↦ insert_due-past x y [] yx ∙ sym (insert_due-front y x [] (before_asym y x yx))
      | inr yx ↦ elim (cases_Bool (is_before x y)) [
        | inl xy ↦ insert_due-front x y [] yx ∙ sym (insert_due-past y x [] xy)
        | inr xy ↦ let e : x ≡ y = before_same x y xy yx in ap (λ v. insert_due v (y ∷ [])) e ∙ ap (λ v. insert_due y (v ∷ [])) (sym e)
      ]
    ]
insert_due_comm x y (z ∷ zs) =
    elim (cases_Bool (is_before z y)) [
      | inl zy ↦ elim (cases_Bool (is_before z x)) [
        | inl zx ↦ ap (insert_due x) (insert_due-past y z zs zy) ∙ insert_due-past x z (insert_due y zs) zx ∙ ap (λ l. z ∷ l) (insert_due_comm x y zs)
            ∙ sym (ap (insert_due y) (insert_due-past x z zs zx) ∙ insert_due-past y z (insert_due x zs) zy)
        | inr zx ↦ between x y z zs zx zy
      ]
      | inr zy ↦ elim (cases_Bool (is_before z x)) [
        | inl zx ↦ sym (between y x z zs zy zx)
        | inr zx ↦ ap (insert_due x) (insert_due-front y z zs zy) ∙ front x y z zs zx zy ∙ ap (insert_due y) (sym (insert_due-front x z zs zx))
      ]
    ]
