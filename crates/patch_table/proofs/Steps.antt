-- A map that takes in another: the steps of its two loops, seen at one key.
use Rattle.std.proofs.Common.{◌≡◌, ℕ, ◌≤◌, Bool, true, false, not, cond, nat_eq, List, [], ◌∷◌, Option, Some, None, IsSome, refl, sym, ap, subst, ◌∙◌, max, arith}
use Rattle.std.specs.Option.{is_some}
use Rattle.std.specs.Ordering.{is_eq, match_ordering, ordering_reverse}
use Rattle.std.specs.declared.cmp.Ordering.{Ordering}
use Rattle.std.specs.declared.cmp.Ordering.TheVariants.{Less, Equal, Greater}
use Rattle.std.specs.Cmp.{IsTotalOrder}
use Rattle.std.specs.List.{AllByRecursion, filter}
use Rattle.std.specs.List.Sorted.{IsStrictlySortedBy}
use Rattle.std.specs.Map.{lookup, keys_of}
use Rattle.std.specs.BTreeMap as tree
use Rattle.std.specs.BTreeMap.{BTreeMap, is_at, insert_entry}
use Rattle.std.specs.FinMap.{FinMap, IsAntisymmetric, from_sorted, same_map}
use Rattle.patch_table.specs.Table.{joined, greater}
use Rattle.patch_table.specs.Joining.{with_key, lifted, is_entry}
use Rattle.patch_table.proofs.Trees.{get_of}
use Rattle.patch_table.proofs.Joins.{get-joined}

-- ---- keys that are added

pub none_where_not : {X : Type 0} (a : Option X) → is_some a ≡ false → a ≡ None
none_where_not None e = refl
none_where_not (Some x) e = absurd (cc)

pub with_none : (a : Option ℕ) → with_key a None ≡ a
with_none None = refl
with_none (Some x) = refl

-- a key that is there already
with_present : (a : Option ℕ) (t : Bool) (v : ℕ) (b : Option ℕ) → (t ≡ true → IsSome a) → with_key a b ≡ with_key a (cond t (Some v) b)
with_present (Some x) t v b there = refl
with_present None true v b there =
    let none = there refl in
    absurd (cc)
with_present None false v b there = refl

-- one that is added
with_added : (a : Option ℕ) (t : Bool) (v : ℕ) (b : Option ℕ) → (t ≡ true → a ≡ None) → with_key (cond t (Some 0) a) b ≡ with_key a (cond t (Some v) b)
with_added a true v b none = sym (ap (λ o. with_key o (Some v)) (none refl))
with_added a false v b none = refl

-- ---- values that are raised

pub lifted_none : (a : Option ℕ) → lifted a None ≡ a
lifted_none None = refl
lifted_none (Some x) = refl

lifted_absent : (a : Option ℕ) (t : Bool) (v : ℕ) (b : Option ℕ) → (t ≡ true → a ≡ None) → lifted a b ≡ lifted a (cond t (Some v) b)
lifted_absent a true v b none = rw (none refl) refl
lifted_absent a false v b none = refl

lifted_written : (a : Option ℕ) (t : Bool) (x v : ℕ) (b : Option ℕ) → (t ≡ true → a ≡ Some x) → (t ≡ true → b ≡ None)
    → lifted (cond t (Some (max x v)) a) b ≡ lifted a (cond t (Some v) b)
lifted_written a true x v b here none = rw (here refl, none refl) refl
lifted_written a false x v b here none = refl

-- both together
lifted_with : (a b : Option ℕ) → lifted (with_key a b) b ≡ greater a b
lifted_with None None = refl
lifted_with None (Some v) = let e : max 0 v ≡ v = omega arith in ap Some e
lifted_with (Some x) None = refl
lifted_with (Some x) (Some v) = refl

-- ---- entries and keys

pub entries_stay : {K : Type 0} (es : List (K × ℕ)) → AllByRecursion (λ e. 1 ≤ e.1) es → filter is_entry es ≡ es
entries_stay [] all = refl
entries_stay {K} (e ∷ es) all =
    let some : not (nat_eq e.1 0) ≡ true = grind (arith, all.0) in
    rw some (ap (λ (t : List (K × ℕ)). e ∷ t) (entries_stay es all.1))

pub added_is_no_entry : {K : Type 0} (R : K → K → Ordering) (k : K) (es : List (K × ℕ)) → lookup (is_at (R k)) es ≡ None → filter is_entry (insert_entry R es k 0) ≡ filter is_entry es
added_is_no_entry R k [] none = refl
added_is_no_entry {K} R k (e ∷ es) none =
    elim (R k e.0) as (λ r. R k e.0 ≡ r → filter is_entry (match_ordering r ((k, 0) ∷ e ∷ es) ((e.0, 0) ∷ es) (e ∷ insert_entry R es k 0)) ≡ filter is_entry (e ∷ es)) [
      | Less ↦ λ is. refl
      | Equal ↦ λ is. let found : lookup (is_at (R k)) (e ∷ es) ≡ Some e.1 = ap (λ r. cond (is_eq r) (Some e.1) (lookup (is_at (R k)) es)) is in absurd (cc)
      | Greater ↦ λ is.
          let later : lookup (is_at (R k)) es ≡ None = sym (ap (λ r. cond (is_eq r) (Some e.1) (lookup (is_at (R k)) es)) is) ∙ none in
          ap (λ (t : List (K × ℕ)). cond (is_entry e) (e ∷ t) t) (added_is_no_entry R k es later)
    ] refl

module _ {K : Type 0} {R : K → K → Ordering} (o : IsTotalOrder R) where
  equal : (r : Ordering) → is_eq r ≡ true → r ≡ Equal
  equal Less p = cc
  equal Equal p = refl
  equal Greater p = cc

  -- equal keys find the same
  tied : (k q : K) (es : List (K × ℕ)) → R k q ≡ Equal → lookup (is_at (R k)) es ≡ lookup (is_at (R q)) es
  tied k q [] e = refl
  tied k q (x ∷ es) e =
      let here : R k x.0 ≡ R q x.0 = o.congr k q x.0 e in
      ap (λ r. cond (is_eq r) (Some x.1) (lookup (is_at (R k)) es)) here ∙ ap (cond (is_eq (R q x.0)) (Some x.1)) (tied k q es e)

  turned : (k q : K) → is_eq (R k q) ≡ is_eq (R q k)
  turned k q = ap is_eq (o.antisymm k q) ∙ reversed (R q k)
    where
      reversed : (r : Ordering) → is_eq (ordering_reverse r) ≡ is_eq r
      reversed Less = refl
      reversed Equal = refl
      reversed Greater = refl

  both_ways : (k q : K) → is_eq (R q k) ≡ true → R k q ≡ Equal
  both_ways k q t = equal (R k q) (turned k q ∙ t)

  abbrev at : List (K × ℕ) → K → Option ℕ
  at es q = lookup (is_at (R q)) es

  pub present_step : (es : List (K × ℕ)) (k q : K) (v : ℕ) (more rest : List (K × ℕ)) → more ≡ (k, v) ∷ rest → IsSome (at es k) → with_key (at es q) (at rest q) ≡ with_key (at es q) (at more q)
  present_step es k q v more rest steps there =
      with_present (at es q) (is_eq (R q k)) v (at rest q) (λ t. subst IsSome (tied k q es (both_ways k q t)) there) ∙ ap (λ l. with_key (at es q) (at l q)) (sym steps)

  pub added_step : (es fs : List (K × ℕ)) (k q : K) (v : ℕ) (more rest : List (K × ℕ)) → more ≡ (k, v) ∷ rest → at es k ≡ None → at fs q ≡ cond (is_eq (R k q)) (Some 0) (at es q)
      → with_key (at fs q) (at rest q) ≡ with_key (at es q) (at more q)
  added_step es fs k q v more rest steps none grows =
      ap (λ a. with_key a (at rest q)) (grows ∙ ap (λ t. cond t (Some 0) (at es q)) (turned k q))
      ∙ with_added (at es q) (is_eq (R q k)) v (at rest q) (λ t. sym (tied k q es (both_ways k q t)) ∙ none) ∙ ap (λ l. with_key (at es q) (at l q)) (sym steps)

  pub absent_step : (es : List (K × ℕ)) (k q : K) (v : ℕ) (more rest : List (K × ℕ)) → more ≡ (k, v) ∷ rest → at es k ≡ None → lifted (at es q) (at rest q) ≡ lifted (at es q) (at more q)
  absent_step es k q v more rest steps none =
      lifted_absent (at es q) (is_eq (R q k)) v (at rest q) (λ t. sym (tied k q es (both_ways k q t)) ∙ none) ∙ ap (λ l. lifted (at es q) (at l q)) (sym steps)

  -- no later key is the first one
  past_first : (k q : K) (rest : List (K × ℕ)) → AllByRecursion (λ y. R k y ≡ Less) (keys_of rest) → R q k ≡ Equal → at rest q ≡ None
  past_first k q [] below tie = refl
  past_first k q (e ∷ rest) below tie =
      let other : R q e.0 ≡ Less = o.congr q k e.0 tie ∙ below.0 in
      ap (λ r. cond (is_eq r) (Some e.1) (at rest q)) other ∙ past_first k q rest below.1 tie

  pub written_step : (es fs : List (K × ℕ)) (k q : K) (x v most : ℕ) (more rest : List (K × ℕ)) → more ≡ (k, v) ∷ rest → IsStrictlySortedBy R (keys_of more) → at es k ≡ Some x → most ≡ max x v
      → at fs q ≡ cond (is_eq (R k q)) (Some most) (at es q) → lifted (at fs q) (at rest q) ≡ lifted (at es q) (at more q)
  unfolding IsStrictlySortedBy
  written_step es fs k q x v most more rest steps sorted here is writes =
      let below = subst (λ (l : List (K × ℕ)). IsStrictlySortedBy R (keys_of l)) steps sorted in
      ap (λ a. lifted a (at rest q)) (writes ∙ ap (λ n. cond (is_eq (R k q)) (Some n) (at es q)) is ∙ ap (λ t. cond t (Some (max x v)) (at es q)) (turned k q))
      ∙ lifted_written (at es q) (is_eq (R q k)) x v (at rest q) (λ t. sym (tied k q es (both_ways k q t)) ∙ here) (λ t. past_first k q rest below.0 (equal (R q k) t))
      ∙ ap (λ l. lifted (at es q) (at l q)) (sym steps)

  pub sorted_rest : (k : K) (v : ℕ) (more rest : List (K × ℕ)) → more ≡ (k, v) ∷ rest → IsStrictlySortedBy R (keys_of more) → IsStrictlySortedBy R (keys_of rest)
  unfolding IsStrictlySortedBy
  sorted_rest k v more rest steps sorted = (subst (λ (l : List (K × ℕ)). IsStrictlySortedBy R (keys_of l)) steps sorted).1

  -- keys that were added and then raised make the join
  pub joined_in_place : IsAntisymmetric R → (old mid new other : BTreeMap K ℕ) → tree.IsOrdered R old → tree.IsOrdered R new → tree.IsOrdered R other
      → ((q : K) → tree.get R mid q ≡ with_key (tree.get R old q) (tree.get R other q)) → ((q : K) → tree.get R new q ≡ lifted (tree.get R mid q) (tree.get R other q))
      → from_sorted {R = R} new.entries ≡ joined (from_sorted {R = R} old.entries) (from_sorted {R = R} other.entries)
  joined_in_place same old mid new other old_rises new_rises other_rises added raised =
      same_map o same _ _
      (λ q.
      get_of R new q new_rises ∙ raised q ∙ ap (λ a. lifted a (tree.get R other q)) (added q) ∙ lifted_with (tree.get R old q) (tree.get R other q)
      ∙ ap (λ a. greater a (tree.get R other q)) (sym (get_of R old q old_rises)) ∙ ap (greater (Rattle.std.specs.FinMap.get (from_sorted {R = R} old.entries) q)) (sym (get_of R other q other_rises))
      ∙ sym (get-joined R o (from_sorted {R = R} old.entries) (from_sorted {R = R} other.entries) q))
