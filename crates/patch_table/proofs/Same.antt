-- Two trees in order stand for one map exactly where their entries are the same.
use Rattle.std.proofs.Common.{◌≡◌, ℕ, Bool, true, false, ◌&&◌, ◌==◌, refl, sym, ap, ◌∙◌}
use Rattle.std.specs.Bool.{Decides}
use Rattle.std.specs.Cmp.{unsigned_Decides}
use Rattle.std.specs.Cmp.Lexicographic.{pointwise, pointwise_decides}
use Rattle.std.specs.declared.cmp.Ordering.{Ordering}
use Rattle.std.specs.BTreeMap as tree
use Rattle.std.specs.BTreeMap.{BTreeMap}
use Rattle.std.specs.FinMap.{entries, from_sorted}
use Rattle.patch_table.proofs.Trees.{entries_of}

both-true : (a b : Bool) → a && b ≡ true → (a ≡ true) × (b ≡ true)
both-true true true is = (refl, refl)
both-true true false is = absurd (cc)
both-true false b is = absurd (cc)

true-both : (a b : Bool) → a ≡ true → b ≡ true → a && b ≡ true
true-both true b first second = second
true-both false b first second = absurd (cc)

pub pair_decides : {K : Type 0} (same : K → K → Bool) → ((x y : K) → Decides (same x y) (x ≡ y)) → (p q : K × ℕ) → Decides (same p.0 q.0 && p.1 == q.1) (p ≡ q)
pair_decides {K} same keys p q = (
  λ is. let parts = both-true (same p.0 q.0) (p.1 == q.1) is in let first = (keys p.0 q.0).0 parts.0 in let second = (unsigned_Decides p.1 q.1).0 parts.1 in λ i. (first i, second i),
  λ is. true-both (same p.0 q.0) (p.1 == q.1) ((keys p.0 q.0).1 (ap (λ (x : K × ℕ). x.0) is)) ((unsigned_Decides p.1 q.1).1 (ap (λ (x : K × ℕ). x.1) is)),
)

pub same_map : {K : Type 0} (R : K → K → Ordering) (same : K → K → Bool) → ((x y : K) → Decides (same x y) (x ≡ y)) → (m n : BTreeMap K ℕ) → tree.IsOrdered R m → tree.IsOrdered R n → Decides (pointwise (λ p q. same p.0 q.0 && p.1 == q.1) m.entries n.entries) (from_sorted {R = R} m.entries ≡ from_sorted {R = R} n.entries)
same_map R same keys m n m-rises n-rises =
    let lists = pointwise_decides (pair_decides same keys) m.entries n.entries in
    (λ is. ap (λ es. from_sorted {R = R} es) (lists.0 is), λ is. lists.1 (sym (entries_of R m m-rises) ∙ ap entries is ∙ entries_of R n n-rises))
