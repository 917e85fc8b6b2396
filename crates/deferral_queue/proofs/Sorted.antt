-- Lists of deferred frees in order.
use Rattle.std.proofs.Common.{◌≡◌, ℕ, zero, suc, ◌<◌, inl, inr, true, false, List, [], ◌∷◌, ◌++◌, length, get_or, set, refl, ap, sym, ◌∙◌, arith}
use Rattle.std.specs.List.{swap, AllByRecursion}
use Rattle.std.specs.List.Sorted.{IsPermutation}
use Rattle.std.proofs.lemmas.Bool.{cases_Bool, false≢true, cases_eq}
use Rattle.std.proofs.lemmas.List.{length-set, get_or-set_same, get_or-set_other}
use Rattle.std.proofs.lemmas.List.Sorted.{IsPermutation-keeps}
use Rattle.deferral_queue.specs.declared.Due.{Due}
use Rattle.deferral_queue.specs.Order.{is_before}
use Rattle.deferral_queue.specs.Deferrals.{insert_due, sorted_dues}
use Rattle.deferral_queue.specs.Laws.{insert_due-past, insert_due-front, insert_due_comm}
use Rattle.deferral_queue.proofs.Before.{before_irrefl}

pub length-insert_due : (x : Due) (ys : List Due) → length (insert_due x ys) ≡ suc (length ys)
length-insert_due x [] = refl
length-insert_due x (y ∷ ys) =
    elim (cases_Bool (is_before y x)) [
      | inl yx ↦ ap length (insert_due-past x y ys yx) ∙ ap suc (length-insert_due x ys)
      | inr yx ↦ ap length (insert_due-front x y ys yx)
    ]

apart : {X : Type 0} (x y : Due) → is_before y x ≡ true → y ≡ x → X
apart x y yx e = absurd (false≢true (sym (before_irrefl x) ∙ ap (λ v. is_before v x) (sym e) ∙ yx))

-- what was put may be taken out of both sides
pub insert_due_cancel : (x : Due) (ys zs : List Due) → insert_due x ys ≡ insert_due x zs → ys ≡ zs
insert_due_cancel x [] [] e = refl
insert_due_cancel x [] (z ∷ zs) e = absurd (omega (arith, ap length e, length-insert_due x (z ∷ zs)))
insert_due_cancel x (y ∷ ys) [] e = absurd (omega (arith, ap length e, length-insert_due x (y ∷ ys)))
insert_due_cancel x (y ∷ ys) (z ∷ zs) e =
    elim (cases_Bool (is_before y x)) [
      | inl yx ↦ elim (cases_Bool (is_before z x)) [
        | inl zx ↦
            let both : y ∷ insert_due x ys ≡ z ∷ insert_due x zs = sym (insert_due-past x y ys yx) ∙ e ∙ insert_due-past x z zs zx in
            let head : y ≡ z = cc in
            let tail : insert_due x ys ≡ insert_due x zs = cc in
            ap (λ v. v ∷ ys) head ∙ ap (λ l. z ∷ l) (insert_due_cancel x ys zs tail)
        | inr zx ↦
            let both : y ∷ insert_due x ys ≡ x ∷ (z ∷ zs) = sym (insert_due-past x y ys yx) ∙ e ∙ insert_due-front x z zs zx in
            let head : y ≡ x = cc in
            apart x y yx head
      ]
      | inr yx ↦ elim (cases_Bool (is_before z x)) [
        | inl zx ↦
            let both : x ∷ (y ∷ ys) ≡ z ∷ insert_due x zs = sym (insert_due-front x y ys yx) ∙ e ∙ insert_due-past x z zs zx in
            let head : z ≡ x = cc in
            apart x z zx head
        | inr zx ↦
            let both : x ∷ (y ∷ ys) ≡ x ∷ (z ∷ zs) = sym (insert_due-front x y ys yx) ∙ e ∙ insert_due-front x z zs zx in
            cc
      ]
    ]

-- in place of one of the list, another
pub sorted_dues-set : (l : List Due) (i : ℕ) (v d : Due) → i < length l → insert_due (get_or l i d) (sorted_dues (set l i v)) ≡ insert_due v (sorted_dues l)
sorted_dues-set [] i v d h = absurd (omega arith)
sorted_dues-set (a ∷ bs) zero v d h = insert_due_comm a v (sorted_dues bs)
sorted_dues-set (a ∷ bs) (suc i) v d h =
    insert_due_comm (get_or bs i d) a (sorted_dues (set bs i v)) ∙ ap (insert_due a) (sorted_dues-set bs i v d (omega arith)) ∙ insert_due_comm a v (sorted_dues bs)

pub sorted_dues-swap : (l : List Due) (i j : ℕ) → i < length l → j < length l → sorted_dues (swap l i j) ≡ sorted_dues l
sorted_dues-swap [] i j hi hj = refl
sorted_dues-swap (d ∷ ys) i j hi hj =
    insert_due_cancel (get_or (d ∷ ys) j d) _ _
    (ap (λ v. insert_due v (sorted_dues (swap (d ∷ ys) i j))) (sym moved)
    ∙ sorted_dues-set (set (d ∷ ys) i (get_or (d ∷ ys) j d)) j (get_or (d ∷ ys) i d) d (omega (arith, length-set (d ∷ ys) i (get_or (d ∷ ys) j d)))
    ∙ sorted_dues-set (d ∷ ys) i (get_or (d ∷ ys) j d) d hi)
  where
    moved : get_or (set (d ∷ ys) i (get_or (d ∷ ys) j d)) j d ≡ get_or (d ∷ ys) j d
    moved = elim (cases_eq j i) [
      | inl e ↦ rw e (get_or-set_same (d ∷ ys) i (get_or (d ∷ ys) i d) d hi)
      | inr n ↦ get_or-set_other (d ∷ ys) i j (get_or (d ∷ ys) j d) d n
    ]

pub sorted_dues-IsPermutation : (xs ys : List Due) → IsPermutation xs ys → sorted_dues ys ≡ sorted_dues xs
sorted_dues-IsPermutation xs ys h =
    IsPermutation-keeps xs (λ l. sorted_dues l ≡ sorted_dues xs) refl (λ l i j hi hj e. sorted_dues-swap l i j hi hj ∙ e) ys h

-- one in the midst of others
pub sorted_dues-middle : (xs : List Due) (y : Due) (zs : List Due) → sorted_dues (xs ++ y ∷ zs) ≡ insert_due y (sorted_dues (xs ++ zs))
sorted_dues-middle [] y zs = refl
sorted_dues-middle (x ∷ xs) y zs = ap (insert_due x) (sorted_dues-middle xs y zs) ∙ insert_due_comm x y (sorted_dues (xs ++ zs))

-- one that none comes before stands in front
pub insert_due-first : (x : Due) (ys : List Due) → AllByRecursion (λ y. is_before y x ≡ false) ys → insert_due x ys ≡ x ∷ ys
insert_due-first x [] all = refl
insert_due-first x (y ∷ ys) all = insert_due-front x y ys all.0

-- what holds of all holds of all in order
pub all_inserted : (P : Due → Type 0) (x : Due) (ys : List Due) → P x → AllByRecursion P ys → AllByRecursion P (insert_due x ys)
all_inserted P x [] p all = (p, tt)
all_inserted P x (y ∷ ys) p all =
    elim (cases_Bool (is_before y x)) [
      | inl yx ↦ rw (insert_due-past x y ys yx) (all.0, all_inserted P x ys p all.1)
      | inr yx ↦ rw (insert_due-front x y ys yx) (p, all)
    ]

pub all_sorted : (P : Due → Type 0) (xs : List Due) → AllByRecursion P xs → AllByRecursion P (sorted_dues xs)
all_sorted P [] all = tt
all_sorted P (x ∷ xs) all = all_inserted P x (sorted_dues xs) all.0 (all_sorted P xs all.1)
