-- The laws of the join.
use Rattle.std.proofs.Common.{◌≡◌, ℕ, ◌≤◌, ◌^◌, ◌%◌, Bool, true, false, cond, List, [], ◌∷◌, Option, Some, None, refl, sym, ap, subst, ◌∙◌, max, arith}
use Rattle.std.specs.Prelude.{T}
use Rattle.std.specs.List.{AllByRecursion}
use Rattle.std.specs.Option.{unwrap_or}
use Rattle.std.specs.Ordering.{nat_cmp, is_eq, eq_by_cmp}
use Rattle.std.specs.declared.cmp.Ordering.{Ordering}
use Rattle.std.specs.declared.cmp.Ordering.TheVariants.{Less, Equal, Greater}
use Rattle.std.specs.Cmp.{IsTotalOrder}
use Rattle.std.specs.FinMap.{FinMap, IsAntisymmetric, entries, get, insert, find, is_sorted, entries_sorted, get-entries, get-insert, get_tied, same_map, empty, get-empty}
use Rattle.std.specs.FinMap.Entries.{below_all}
use Rattle.std.proofs.lemmas.Map.Lookups.{exact_pairs, exact_unsigned}
use Rattle.patch_table.specs.Table.{Table, pair_cmp, value_at, raised, raised_each, joined, greater, IsBelowMap, IsJoinMap}
use Rattle.patch_table.specs.Limits.{IsPad, IsFront}
use Rattle.patch_table.proofs.Order.{first, second, less}

pub exact_pair : IsAntisymmetric pair_cmp
exact_pair = exact_pairs nat_cmp nat_cmp exact_unsigned exact_unsigned

equal : (o : Ordering) → is_eq o ≡ true → o ≡ Equal
equal Less p = cc
equal Equal p = refl
equal Greater p = cc

pub same_table : {a b c d : FinMap nat_cmp ℕ} {e f : FinMap pair_cmp ℕ} → a ≡ b → c ≡ d → e ≡ f → ◌≡◌ {A = Table} (record { pads = a; fronts = c; defers = e }) (record { pads = b; fronts = d; defers = f })
same_table p q r = λ i. record { pads = p i; fronts = q i; defers = r i }

pub below_self : {K : Type 0} {R : K → K → Ordering} (m : FinMap R ℕ) → IsBelowMap m m
below_self m k = omega arith

pub below_both : {K : Type 0} {R : K → K → Ordering} (l m n : FinMap R ℕ) → IsBelowMap l m → IsBelowMap m n → IsBelowMap l n
below_both l m n p q k = let a = p k in let b = q k in omega (arith, a, b)

module _ {K : Type 0} (R : K → K → Ordering) (o : IsTotalOrder R) where
  find_none : (k q : K) (es : List (K × ℕ)) → R q k ≡ Equal → T (below_all R k es) → find R q es ≡ None
  find_none k q [] tie h = refl
  find_none k q (e ∷ es) tie h =
      let other : R q e.0 ≡ Less = o.congr q k e.0 tie ∙ less _ (first _ _ h) in
      rw other (find_none k q es tie (second _ _ h))

  at_key : (g : Option ℕ) (v : ℕ) → greater (Some (max (unwrap_or g 0) v)) None ≡ greater g (Some v)
  at_key None v = let e : max 0 v ≡ v = omega arith in ap Some e
  at_key (Some x) v = refl

  one_step : (m : FinMap R ℕ) (k q : K) (v : ℕ) (es : List (K × ℕ)) (b : Bool) → eq_by_cmp R q k ≡ b → T (below_all R k es)
      → greater (get (raised m k v) q) (find R q es) ≡ greater (get m q) (cond b (Some v) (find R q es))
  one_step m k q v es true e h =
      let tie : R q k ≡ Equal = equal (R q k) e in
      let same : get m k ≡ get m q = get_tied o m q k tie in
      let here : get (raised m k v) q ≡ Some (max (unwrap_or (get m q) 0) v) = get-insert o m k (max (value_at m k) v) q ∙ ap (λ b. cond b (Some (max (value_at m k) v)) (get m q)) e ∙ ap (λ g. Some (max (unwrap_or g 0) v)) same in
      rw (find_none k q es tie h, here) (at_key (get m q) v)
  one_step m k q v es false e h = ap (λ g. greater g (find R q es)) (get-insert o m k (max (value_at m k) v) q ∙ ap (λ b. cond b (Some (max (value_at m k) v)) (get m q)) e)

  get-raised_each : (m : FinMap R ℕ) (q : K) (es : List (K × ℕ)) → T (is_sorted R es) → get (raised_each m es) q ≡ greater (get m q) (find R q es)
  get-raised_each m q [] h = nothing (get m q)
    where
      nothing : (g : Option ℕ) → g ≡ greater g None
      nothing None = refl
      nothing (Some x) = refl
  get-raised_each m q (e ∷ es) h = get-raised_each (raised m e.0 e.1) q es (second _ _ h) ∙ one_step m e.0 q e.1 es (eq_by_cmp R q e.0) refl (first _ _ h)

  pub get-joined : (m n : FinMap R ℕ) (q : K) → get (joined m n) q ≡ greater (get m q) (get n q)
  unfolding joined
  get-joined m n q = get-raised_each m q (entries n) (entries_sorted n) ∙ ap (greater (get m q)) (sym (get-entries n q))

  value_of_greater : (a b : Option ℕ) → unwrap_or (greater a b) 0 ≡ max (unwrap_or a 0) (unwrap_or b 0)
  value_of_greater None b = omega arith
  value_of_greater (Some x) None = omega arith
  value_of_greater (Some x) (Some y) = refl

  pub value-joined : (m n : FinMap R ℕ) (q : K) → value_at (joined m n) q ≡ max (value_at m q) (value_at n q)
  value-joined m n q = ap (λ g. unwrap_or g 0) (get-joined m n q) ∙ value_of_greater (get m q) (get n q)

  module _ (same : IsAntisymmetric R) where
    some : (x y : ℕ) → x ≡ y → greater (Some x) None ≡ greater (Some y) None
    some x y e = ap (λ n. greater (Some n) None) e

    commutes : (a b : Option ℕ) → greater a b ≡ greater b a
    commutes None None = refl
    commutes None (Some y) = refl
    commutes (Some x) None = refl
    commutes (Some x) (Some y) = some (max x y) (max y x) (omega arith)

    associates : (a b c : Option ℕ) → greater (greater a b) c ≡ greater a (greater b c)
    associates None b c = refl
    associates (Some x) None None = refl
    associates (Some x) None (Some z) = refl
    associates (Some x) (Some y) None = refl
    associates (Some x) (Some y) (Some z) = some (max (max x y) z) (max x (max y z)) (omega arith)

    idempotent : (a : Option ℕ) → greater a a ≡ a
    idempotent None = refl
    idempotent (Some x) = some (max x x) x (omega arith)

    pub joined-commutes : (m n : FinMap R ℕ) → joined m n ≡ joined n m
    joined-commutes m n = same_map o same _ _ (λ q. get-joined m n q ∙ commutes (get m q) (get n q) ∙ sym (get-joined n m q))

    pub joined-associates : (l m n : FinMap R ℕ) → joined (joined l m) n ≡ joined l (joined m n)
    joined-associates l m n = same_map o same _ _ (λ q. get-joined (joined l m) n q ∙ ap (λ g. greater g (get n q)) (get-joined l m q) ∙ associates (get l q) (get m q) (get n q) ∙ ap (greater (get l q)) (sym (get-joined m n q)) ∙ sym (get-joined l (joined m n) q))

    pub joined-idempotent : (m : FinMap R ℕ) → joined m m ≡ m
    joined-idempotent m = same_map o same _ _ (λ q. get-joined m m q ∙ idempotent (get m q))

  pub least : (l m n : FinMap R ℕ) → IsBelowMap l n → IsBelowMap m n → IsBelowMap (joined l m) n
  least l m n p q k = let a = p k in let b = q k in omega (arith, a, b, value-joined l m k)

  pub above_left : (l m : FinMap R ℕ) → IsBelowMap l (joined l m)
  above_left l m k = omega (arith, value-joined l m k)

  pub above_right : (l m : FinMap R ℕ) → IsBelowMap m (joined l m)
  above_right l m k = omega (arith, value-joined l m k)

  nothing_more : (a : Option ℕ) → greater a None ≡ a
  nothing_more None = refl
  nothing_more (Some x) = refl

  module _ (same : IsAntisymmetric R) where
    pub only_joined : (l m n : FinMap R ℕ) → IsJoinMap l m n → n ≡ joined l m
    only_joined l m n h = same_map o same _ _ (λ q. h q ∙ sym (get-joined l m q))

    pub joined_none : (m : FinMap R ℕ) → m ≡ joined m empty
    joined_none m = same_map o same _ _ (λ q. sym (get-joined m empty q ∙ ap (greater (get m q)) (get-empty R q) ∙ nothing_more (get m q)))

    raised_at : (m : FinMap R ℕ) (k q : K) (n : ℕ) (b : Bool) → eq_by_cmp R q k ≡ b → cond b (Some (max (value_at m k) n)) (get m q) ≡ greater (get m q) (cond b (Some n) None)
    raised_at m k q n true e =
        let here : get m k ≡ get m q = get_tied o m q k (equal (R q k) e) in
        ap (λ g. Some (max (unwrap_or g 0) n)) here ∙ one (get m q)
      where
        one : (g : Option ℕ) → Some (max (unwrap_or g 0) n) ≡ greater g (Some n)
        one None = let e : max 0 n ≡ n = omega arith in ap Some e
        one (Some x) = refl
    raised_at m k q n false e = sym (nothing_more (get m q))

    pub joined_one : (m : FinMap R ℕ) (k : K) (n : ℕ) → raised m k n ≡ joined m (insert empty k n)
    joined_one m k n = same_map o same _ _ (λ q. get-insert o m k (max (value_at m k) n) q ∙ raised_at m k q n (eq_by_cmp R q k) refl
        ∙ sym (get-joined m (insert empty k n) q ∙ ap (greater (get m q)) (get-insert o empty k n q ∙ ap (cond (eq_by_cmp R q k) (Some n)) (get-empty R q))))

    -- maps whose numbers are at least 1 are the same where each is below the other
    found_some : (P : K × ℕ → Type 0) → ((k : K) (n : ℕ) → P (k, n) → 1 ≤ n) → (es : List (K × ℕ)) (q : K) (n : ℕ) → AllByRecursion P es → find R q es ≡ Some n → 1 ≤ n
    found_some P least [] q n h e = absurd cc
    found_some P least (d ∷ es) q n h e = split (is_eq (R q d.0)) e (λ f. found_some P least es q n h.1 f)
      where
        split : (b : Bool) → cond b (Some d.1) (find R q es) ≡ Some n → (find R q es ≡ Some n → 1 ≤ n) → 1 ≤ n
        split true e later = let is : d.1 ≡ n = cc in subst (λ x. 1 ≤ x) is (least d.0 d.1 h.0)
        split false e later = later e

    alike : (a b : Option ℕ) → ((n : ℕ) → a ≡ Some n → 1 ≤ n) → ((n : ℕ) → b ≡ Some n → 1 ≤ n) → unwrap_or a 0 ≤ unwrap_or b 0 → unwrap_or b 0 ≤ unwrap_or a 0 → a ≡ b
    alike None None p q l g = refl
    alike None (Some y) p q l g = absurd (omega (arith, q y refl, g))
    alike (Some x) None p q l g = absurd (omega (arith, p x refl, l))
    alike (Some x) (Some y) p q l g = let e : x ≡ y = omega arith in ap Some e

    pub same_below : (P : K × ℕ → Type 0) → ((k : K) (n : ℕ) → P (k, n) → 1 ≤ n) → (m n : FinMap R ℕ) → AllByRecursion P (entries m) → AllByRecursion P (entries n) → IsBelowMap m n → IsBelowMap n m → m ≡ n
    same_below P least m n fm fn p q = same_map o same _ _ (λ k. alike (get m k) (get n k)
        (λ v e. found_some P least (entries m) k v fm (sym (get-entries m k) ∙ e)) (λ v e. found_some P least (entries n) k v fn (sym (get-entries n k) ∙ e)) (p k) (q k))

-- what holds of 0 and of each number holds of what is looked up
found_value : (P : ℕ × ℕ → Type 0) (Q : ℕ → Type 0) → Q 0 → ((e : ℕ × ℕ) → P e → Q e.1) → (es : List (ℕ × ℕ)) (q : ℕ) → AllByRecursion P es → Q (unwrap_or (find nat_cmp q es) 0)
found_value P Q none each [] q h = none
found_value P Q none each (d ∷ es) q h = split (is_eq (nat_cmp q d.0)) (found_value P Q none each es q h.1)
  where
    split : (b : Bool) → Q (unwrap_or (find nat_cmp q es) 0) → Q (unwrap_or (cond b (Some d.1) (find nat_cmp q es)) 0)
    split true later = each d h.0
    split false later = later

pub pad_limit : (m : FinMap nat_cmp ℕ) (q : ℕ) → AllByRecursion IsPad (entries m) → value_at m q ≤ 2 ^ 20
pad_limit m q h = subst (λ g. unwrap_or g 0 ≤ 2 ^ 20) (sym (get-entries m q)) (found_value IsPad (λ n. n ≤ 2 ^ 20) (omega arith) (λ e p. p.2) (entries m) q h)

pub front_limit : (m : FinMap nat_cmp ℕ) (q : ℕ) → AllByRecursion IsFront (entries m) → (value_at m q ≤ 2 ^ 16) × (value_at m q % 16 ≡ 0)
front_limit m q h =
    subst (λ g. (unwrap_or g 0 ≤ 2 ^ 16) × (unwrap_or g 0 % 16 ≡ 0)) (sym (get-entries m q)) (found_value IsFront (λ n. (n ≤ 2 ^ 16) × (n % 16 ≡ 0)) (omega arith, refl) (λ e p. (p.2, p.3)) (entries m) q h)
