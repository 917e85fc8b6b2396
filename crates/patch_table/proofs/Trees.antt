-- A tree in order is the finite map of its entries.
use Rattle.std.proofs.Common.{◌≡◌, ℕ, Bool, true, false, cond, ◌&&◌, List, [], ◌∷◌, length, Some, refl, sym, ap, subst, ◌∙◌}
use Rattle.std.specs.Prelude.{T}
use Rattle.std.specs.Option.{unwrap_or}
use Rattle.std.specs.Ordering.{is_lt, match_ordering}
use Rattle.std.specs.declared.cmp.Ordering.{Ordering}
use Rattle.std.specs.declared.cmp.Ordering.TheVariants.{Less, Equal, Greater}
use Rattle.std.specs.Cmp.{IsTotalOrder, nat_cmp_total}
use Rattle.std.specs.List.{AllByRecursion}
use Rattle.std.specs.List.Sorted.{IsStrictlySortedBy}
use Rattle.std.specs.Map.{lookup, keys_of}
use Rattle.std.specs.BTreeMap as tree
use Rattle.std.specs.BTreeMap.{BTreeMap, is_at, insert_entry}
use Rattle.std.specs.FinMap.{entries, empty, get, insert, from_sorted, find, put, is_sorted, same_entries_map, entries-from_sorted, entries-insert, get-from_sorted, empty_of_len, len-entries}
use Rattle.std.specs.FinMap.Entries.{below_all, by_order}
use Rattle.std.proofs.lemmas.Cmp.{then_total, on_total}
use Rattle.patch_table.specs.Table.{pair_cmp, value_at}

pub pairs_total : IsTotalOrder pair_cmp
pairs_total = then_total (on_total (λ (p : ℕ × ℕ). p.0) nat_cmp_total) (on_total (λ (p : ℕ × ℕ). p.1) nat_cmp_total)

both : (a b : Bool) → T a → T b → T (a && b)
both true b p q = q
both false b p q = p

below_all_is : {K X : Type 0} (R : K → K → Ordering) (k : K) (es : List (K × X)) → AllByRecursion (λ y. R k y ≡ Less) (keys_of es) → T (below_all R k es)
below_all_is R k [] h = tt
below_all_is R k (e ∷ es) h = both _ _ (subst (λ r. T (is_lt r)) (sym h.0) tt) (below_all_is R k es h.1)

pub sorted_is : {K X : Type 0} (R : K → K → Ordering) (es : List (K × X)) → IsStrictlySortedBy R (keys_of es) → T (is_sorted R es)
unfolding IsStrictlySortedBy
sorted_is R [] h = tt
sorted_is R (e ∷ es) h = both _ _ (below_all_is R e.0 es h.0) (sorted_is R es h.1)

pub find_is : {K X : Type 0} (R : K → K → Ordering) (q : K) (es : List (K × X)) → find R q es ≡ lookup (is_at (R q)) es
find_is R q [] = refl
find_is R q (e ∷ es) = ap (cond (is_at (R q) e.0) (Some e.1)) (find_is R q es)

put_is : {K X : Type 0} (R : K → K → Ordering) (k : K) (v : X) (es : List (K × X)) → put R k v es ≡ insert_entry R es k v
put_is R k v [] = refl
put_is {K} {X} R k v (e ∷ es) =
    elim (R k e.0) as (λ r. by_order r ((k, v) ∷ e ∷ es) ((e.0, v) ∷ es) (e ∷ put R k v es) ≡ match_ordering r ((k, v) ∷ e ∷ es) ((e.0, v) ∷ es) (e ∷ insert_entry R es k v)) [
      | Less ↦ refl
      | Equal ↦ refl
      | Greater ↦ ap (λ (t : List (K × X)). e ∷ t) (put_is R k v es)
    ]

-- the entries of what a tree stands for are its own
pub entries_of : {K X : Type 0} (R : K → K → Ordering) (m : BTreeMap K X) → tree.IsOrdered R m → entries (from_sorted {R = R} m.entries) ≡ m.entries
entries_of R m h = entries-from_sorted R m.entries (sorted_is R m.entries h)

pub get_of : {K X : Type 0} (R : K → K → Ordering) (m : BTreeMap K X) (q : K) → tree.IsOrdered R m → get (from_sorted {R = R} m.entries) q ≡ tree.get R m q
get_of R m q h = get-from_sorted R m.entries q (sorted_is R m.entries h) ∙ find_is R q m.entries

pub insert_of : {K X : Type 0} {R : K → K → Ordering} (o : IsTotalOrder R) (m n : BTreeMap K X) (k : K) (v : X) → tree.IsOrdered R m → tree.IsOrdered R n → n.entries ≡ insert_entry R m.entries k v
    → from_sorted {R = R} n.entries ≡ insert (from_sorted m.entries) k v
insert_of {R = R} o m n k v h g e =
    same_entries_map _ _ (entries_of R n g ∙ e ∙ sym (put_is R k v m.entries) ∙ ap (put R k v) (sym (entries_of R m h)) ∙ sym (entries-insert o (from_sorted m.entries) k v))

pub empty_of : {K X : Type 0} (R : K → K → Ordering) (m : BTreeMap K X) → tree.IsOrdered R m → m.entries ≡ [] → from_sorted {R = R} m.entries ≡ empty
empty_of R m h e = empty_of_len _ (len-entries _ ∙ ap length (entries_of R m h ∙ e))

-- what `get` and `unwrap_or` find
pub value_of : {K : Type 0} (R : K → K → Ordering) (m : BTreeMap K ℕ) (q : K) → tree.IsOrdered R m → unwrap_or (tree.get R m q) 0 ≡ value_at (from_sorted {R = R} m.entries) q
value_of R m q h = ap (λ o. unwrap_or o 0) (sym (get_of R m q h))
