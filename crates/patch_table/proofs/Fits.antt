-- What holds of every entry, and entries that are put at the end.
use Rattle.std.proofs.Common.{◌≡◌, ℕ, zero, suc, true, false, cond, List, [], ◌∷◌, ◌++◌, Some, None, refl, sym, ap, subst, ◌∙◌, max, arith, ◌⊎◌, inl, inr}
use Rattle.std.specs.Option.{unwrap_or}
use Rattle.std.specs.Ordering.{is_lt, is_eq, ordering_reverse}
use Rattle.std.specs.declared.cmp.Ordering.{Ordering}
use Rattle.std.specs.declared.cmp.Ordering.TheVariants.{Less, Equal, Greater}
use Rattle.std.specs.Cmp.{IsTotalOrder}
use Rattle.std.specs.List.{AllByRecursion, slice_get}
use Rattle.std.specs.Map.{keys_of}
use Rattle.std.specs.FinMap.{FinMap, IsAntisymmetric, entries, find, put, entries-insert, get-entries}
use Rattle.std.specs.FinMap.Entries.{by_order}
use Rattle.patch_table.specs.Table.{value_at, raised, raised_each}
use Rattle.patch_table.specs.Grammar.{AllBelow}

module _ {K : Type 0} (R : K → K → Ordering) (o : IsTotalOrder R) where
  -- ---- above all others
  less_from : (a b c : K) (r : Ordering) → R a b ≡ r → is_lt r ≡ false → R a c ≡ Less → R b c ≡ Less
  less_from a b c Less e h l = absurd cc
  less_from a b c Equal e h l = sym (o.congr a b c e) ∙ l
  less_from a b c Greater e h l = o.trans b a c (o.antisymm b a ∙ ap ordering_reverse e) l

  pub below_last : {X : Type 0} (es : List (K × X)) (last k : K) → AllByRecursion (λ q. is_lt (R last q) ≡ false) (keys_of es) → R last k ≡ Less → AllBelow R es k
  below_last [] last k h l = tt
  below_last (e ∷ es) last k h l = (less_from last e.0 k (R last e.0) refl h.0 l, below_last es last k h.1 l)

  pub last_below : {X : Type 0} (es : List (K × X)) (i : ℕ) (last k : K) (v : X) → slice_get es i ≡ Some (last, v) → AllBelow R es k → R last k ≡ Less
  last_below [] i last k v e h = absurd cc
  last_below {X} (d ∷ es) zero last k v e h =
      let same : d ≡ (last, v) = cc in
      sym (ap (λ (p : K × X). R p.0 k) same) ∙ h.0
  last_below (d ∷ es) (suc i) last k v e h = last_below es i last k v e h.1

  pub put_at_end : {X : Type 0} (k : K) (v : X) (es : List (K × X)) → AllBelow R es k → put R k v es ≡ es ++ (k, v) ∷ []
  put_at_end k v [] h = refl
  put_at_end {X} k v (e ∷ es) h =
      let greater : R k e.0 ≡ Greater = o.antisymm k e.0 ∙ ap ordering_reverse h.0 in
      ap (λ r. by_order r ((k, v) ∷ e ∷ es) ((e.0, v) ∷ es) (e ∷ put R k v es)) greater ∙ ap (λ (t : List (K × X)). e ∷ t) (put_at_end k v es h.1)

  find_above : {X : Type 0} (k : K) (es : List (K × X)) → AllBelow R es k → find R k es ≡ None
  find_above k [] h = refl
  find_above {X} k (e ∷ es) h =
      let greater : R k e.0 ≡ Greater = o.antisymm k e.0 ∙ ap ordering_reverse h.0 in
      ap (λ r. cond (is_eq r) (Some e.1) (find R k es)) greater ∙ find_above k es h.1

  pub raised_at_end : (m : FinMap R ℕ) (k : K) (n : ℕ) → AllBelow R (entries m) k → entries (raised m k n) ≡ entries m ++ (k, n) ∷ []
  raised_at_end m k n h =
      let none : value_at m k ≡ 0 = ap (λ g. unwrap_or g 0) (get-entries m k ∙ find_above k (entries m) h) in
      let most : max (value_at m k) n ≡ n = rw none (omega arith) in
      entries-insert o m k (max (value_at m k) n) ∙ ap (λ x. put R k x (entries m)) most ∙ put_at_end k n (entries m) h

  -- ---- every entry
  module _ (same : IsAntisymmetric R) (P : K × ℕ → Type 0) where
    put_all : (k : K) (v : ℕ) (es : List (K × ℕ)) → AllByRecursion P es → P (k, v) → AllByRecursion P (put R k v es)
    put_all k v [] h p = (p, tt)
    put_all k v (e ∷ es) h p =
        elim (R k e.0) as (λ r. R k e.0 ≡ r → AllByRecursion P (by_order r ((k, v) ∷ e ∷ es) ((e.0, v) ∷ es) (e ∷ put R k v es))) [
          | Less ↦ λ is. (p, h)
          | Equal ↦ λ is. (subst (λ x. P (x, v)) (same k e.0 is) p, h.1)
          | Greater ↦ λ is. (h.0, put_all k v es h.1 p)
        ] refl

    tied : (k x : K) → is_eq (R k x) ≡ true → k ≡ x
    tied k x e = same k x (equal (R k x) e)
      where
        equal : (r : Ordering) → is_eq r ≡ true → r ≡ Equal
        equal Less p = absurd cc
        equal Equal p = refl
        equal Greater p = absurd cc

    kept_max : (k : K) (x n : ℕ) → P (k, x) → P (k, n) → P (k, max x n)
    kept_max k x n p q = elim (cases x n) as (λ _. P (k, max x n)) [ inl e ↦ subst (λ y. P (k, y)) (sym e) p | inr e ↦ subst (λ y. P (k, y)) (sym e) q ]
      where
        cases : (x n : ℕ) → (max x n ≡ x) ⊎ (max x n ≡ n)
        cases x n = grind arith

    found_max : (k : K) (n : ℕ) (es : List (K × ℕ)) → AllByRecursion P es → P (k, n) → P (k, max (unwrap_or (find R k es) 0) n)
    found_max k n [] h q = let e : max 0 n ≡ n = omega arith in subst (λ y. P (k, y)) (sym e) q
    found_max k n (e ∷ es) h q =
        elim (is_eq (R k e.0)) as (λ b. is_eq (R k e.0) ≡ b → P (k, max (unwrap_or (cond b (Some e.1) (find R k es)) 0) n)) [
          | true ↦ λ is. kept_max k e.1 n (subst (λ x. P (x, e.1)) (sym (tied k e.0 is)) h.0) q
          | false ↦ λ is. found_max k n es h.1 q
        ] refl

    pub raised_all : (m : FinMap R ℕ) (k : K) (n : ℕ) → AllByRecursion P (entries m) → P (k, n) → AllByRecursion P (entries (raised m k n))
    raised_all m k n h q =
        let most = subst (λ g. P (k, max (unwrap_or g 0) n)) (sym (get-entries m k)) (found_max k n (entries m) h q) in
        subst (AllByRecursion P) (sym (entries-insert o m k (max (value_at m k) n))) (put_all k (max (value_at m k) n) (entries m) h most)

    pub raised_each_all : (m : FinMap R ℕ) (es : List (K × ℕ)) → AllByRecursion P (entries m) → AllByRecursion P es → AllByRecursion P (entries (raised_each m es))
    raised_each_all m [] h q = h
    raised_each_all m (e ∷ es) h q = raised_each_all (raised m e.0 e.1) es (raised_all m e.0 e.1 h q.0) q.1
