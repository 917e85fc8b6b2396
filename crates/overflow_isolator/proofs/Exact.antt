-- What the entries say is exactly what the images show.
use Rattle.std.proofs.Common.{◌≡◌, ℕ, ◌+◌, ◌≤◌, List, Option, Some, None, map, sym, ap, subst, ◌∙◌, arith}
use Rattle.std.specs.Prelude.{IsSomeAnd}
use Rattle.std.specs.List.{Contains}
use Rattle.std.specs.List.Sorted.{IsStrictlySortedBy}
use Rattle.std.specs.Ordering.{nat_cmp}
use Rattle.std.proofs.lemmas.List.Elements.{All-contains}
use Rattle.std.proofs.lemmas.Map.Keys.{IsStrictlyIncreasing-from_sorted}
use Rattle.exact_heap.specs.declared.row.SlotRow.{SlotRow}
use Rattle.heap_image.specs.Snapshot.{Snapshot}
use Rattle.heap_image.specs.Agreement.{Allocation, AgreeOn, allocation_of, row_of}
use Rattle.culprits.specs.declared.found.Overflow.{Overflow}
use Rattle.culprits.specs.declared.found.Underflow.{Underflow}
use Rattle.overflow_isolator.specs.Found.{AreFoundIn}
use Rattle.overflow_isolator.specs.Overflows.{IsOverflow, IsUnderflow, IsGreatestOverflow, IsGreatestUnderflow, AreOverflowsOf, AreUnderflowsOf}
use Rattle.overflow_isolator.proofs.Rows.{row_there}
use Rattle.overflow_isolator.proofs.Entries.{keys_are, value_is, value_in, contains_had, has_contained}

one_allocation : (images : List Snapshot) (s : Snapshot) → Contains images s → (object : ℕ) (a b : Allocation) → AgreeOn images object a → AgreeOn images object b → a ≡ b
one_allocation images s among object a b p q =
    go (row_of object s)
    (All-contains (λ (t : Snapshot). IsSomeAnd (row_of object t) (λ r. allocation_of r ≡ a)) images s p among)
    (All-contains (λ (t : Snapshot). IsSomeAnd (row_of object t) (λ r. allocation_of r ≡ b)) images s q among)
  where
    go : (o : Option SlotRow) → IsSomeAnd o (λ r. allocation_of r ≡ a) → IsSomeAnd o (λ r. allocation_of r ≡ b) → a ≡ b
    go None p q = absurd p
    go (Some r) p q = sym p ∙ q

no_more : (a b : ℕ) → a ≤ b → b ≤ a → a ≡ b
no_more a b h k = omega arith

same_overflow : (f g : Overflow) → f.object ≡ g.object → f.site ≡ g.site → f.size ≡ g.size → f.extent ≡ g.extent → f ≡ g
same_overflow f g p q r t = λ i. record { object = p i; site = q i; size = r i; extent = t i }

-- an object has one greatest overflow at most
pub one_overflow : (images : List Snapshot) (s : Snapshot) → Contains images s → (f g : Overflow) → IsGreatestOverflow images f → IsGreatestOverflow images g → f.object ≡ g.object → f ≡ g
one_overflow images s among f g a b e =
    let alloc : a.allocation ≡ b.allocation = one_allocation images s among g.object a.allocation b.allocation (subst (λ o. AgreeOn images o a.allocation) e a.agreed) b.agreed in
    let far : a.distance ≡ b.distance = no_more a.distance b.distance (b.greatest a.distance (subst (λ o. IsOverflow images o a.distance) e a.holds)) (a.greatest b.distance (subst (λ o. IsOverflow images o b.distance) (sym e) b.holds)) in
    same_overflow f g e
    (a.site ∙ ap (λ (x : Allocation). x.site) alloc ∙ sym b.site)
    (a.size ∙ ap (λ (x : Allocation). x.size) alloc ∙ sym b.size)
    (a.extent ∙ ap (λ n. n + 1) far ∙ sym b.extent)

pub are_overflows : (images : List Snapshot) (s : Snapshot) (es : List (ℕ × Overflow)) → Contains images s → IsStrictlySortedBy nat_cmp (map (λ e. e.0) es) → AreFoundIn (λ f. f.object) (IsGreatestOverflow images) s.rows es → AreOverflowsOf images (map (λ e. e.1) es)
are_overflows images s es among sorted found = record {
  rising = IsStrictlyIncreasing-from_sorted (map (λ (f : Overflow). f.object) (map (λ e. e.1) es)) (subst (IsStrictlySortedBy nat_cmp) (sym (keys_are (λ (f : Overflow). f.object) (IsGreatestOverflow images) es found.0)) sorted);
  members = λ f. (λ h. value_is (λ (f : Overflow). f.object) (IsGreatestOverflow images) es f found.0 (has_contained (map (λ e. e.1) es) f h), there f);
}
  where
    there : (f : Overflow) → IsGreatestOverflow images f → Contains (map (λ e. e.1) es) f
    there f k =
        let r = row_there f.object s.rows (λ r. allocation_of r ≡ k.allocation) (All-contains (λ (t : Snapshot). IsSomeAnd (row_of f.object t) (λ r. allocation_of r ≡ k.allocation)) images s k.agreed among) in
        contains_had (map (λ e. e.1) es) f (value_in es (f.object, f) (found.1 f r.0 k r.1 r.2))

same_underflow : (f g : Underflow) → f.object ≡ g.object → f.site ≡ g.site → f.extent ≡ g.extent → f ≡ g
same_underflow f g p q t = λ i. record { object = p i; site = q i; extent = t i }

-- an object has one greatest underflow at most
pub one_underflow : (images : List Snapshot) (s : Snapshot) → Contains images s → (f g : Underflow) → IsGreatestUnderflow images f → IsGreatestUnderflow images g → f.object ≡ g.object → f ≡ g
one_underflow images s among f g a b e =
    let alloc : a.allocation ≡ b.allocation = one_allocation images s among g.object a.allocation b.allocation (subst (λ o. AgreeOn images o a.allocation) e a.agreed) b.agreed in
    let far : f.extent ≡ g.extent = no_more f.extent g.extent (b.greatest f.extent (subst (λ o. IsUnderflow images o f.extent) e a.holds)) (a.greatest g.extent (subst (λ o. IsUnderflow images o g.extent) (sym e) b.holds)) in
    same_underflow f g e
    (a.site ∙ ap (λ (x : Allocation). x.site) alloc ∙ sym b.site)
    far

pub are_underflows : (images : List Snapshot) (s : Snapshot) (es : List (ℕ × Underflow)) → Contains images s → IsStrictlySortedBy nat_cmp (map (λ e. e.0) es) → AreFoundIn (λ f. f.object) (IsGreatestUnderflow images) s.rows es → AreUnderflowsOf images (map (λ e. e.1) es)
are_underflows images s es among sorted found = record {
  rising = IsStrictlyIncreasing-from_sorted (map (λ (f : Underflow). f.object) (map (λ e. e.1) es)) (subst (IsStrictlySortedBy nat_cmp) (sym (keys_are (λ (f : Underflow). f.object) (IsGreatestUnderflow images) es found.0)) sorted);
  members = λ f. (λ h. value_is (λ (f : Underflow). f.object) (IsGreatestUnderflow images) es f found.0 (has_contained (map (λ e. e.1) es) f h), there f);
}
  where
    there : (f : Underflow) → IsGreatestUnderflow images f → Contains (map (λ e. e.1) es) f
    there f k =
        let r = row_there f.object s.rows (λ r. allocation_of r ≡ k.allocation) (All-contains (λ (t : Snapshot). IsSomeAnd (row_of f.object t) (λ r. allocation_of r ≡ k.allocation)) images s k.agreed among) in
        contains_had (map (λ e. e.1) es) f (value_in es (f.object, f) (found.1 f r.0 k r.1 r.2))
