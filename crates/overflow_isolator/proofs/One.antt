-- What images show is one list, in reach of a pad or a front.
use Rattle.std.proofs.Common.{◌≡◌, ℕ, Option, Some, None, List, [], ◌∷◌, map, sym, ap, ◌∙◌, arith}
use Rattle.std.specs.Prelude.{IsSomeAnd}
use Rattle.std.proofs.lemmas.Map.Keys.{sorted_from_strictly_increasing}
use Rattle.exact_heap.specs.declared.row.SlotRow.{SlotRow}
use Rattle.culprits.specs.declared.found.Overflow.{Overflow}
use Rattle.culprits.specs.declared.found.Underflow.{Underflow}
use Rattle.culprits.specs.Isolated.{IsBefore, IsPast}
use Rattle.culprits.specs.Laws.{RisingIsOne}
use Rattle.heap_image.specs.Agreement.{Allocation, AgreeOn, AreComparable, allocation_of, row_of}
use Rattle.heap_image.specs.Items.{all_of}
use Rattle.heap_image.specs.Snapshot.{Snapshot}
use Rattle.overflow_isolator.specs.Laws.{FoundIsInReach, ImagesHaveOneList}
use Rattle.overflow_isolator.specs.Overflows.{IsGreatestOverflow, IsGreatestUnderflow}
use Rattle.overflow_isolator.proofs.Entries.{contains_had}

-- ---- one list

pub have_one : RisingIsOne (λ (f : Overflow). f.object) → RisingIsOne (λ (f : Underflow). f.object) → ImagesHaveOneList
have_one past before = record {
  overflows = λ images a b p q.
      past a b (sorted_from_strictly_increasing (map (λ (f : Overflow). f.object) a) p.rising) (sorted_from_strictly_increasing (map (λ (f : Overflow). f.object) b) q.rising)
      (λ f. (λ h. (q.members f).1 ((p.members f).0 h), λ h. (p.members f).1 ((q.members f).0 h)));
  underflows = λ images a b p q.
      before a b (sorted_from_strictly_increasing (map (λ (f : Underflow). f.object) a) p.rising) (sorted_from_strictly_increasing (map (λ (f : Underflow). f.object) b) q.rising)
      (λ f. (λ h. (q.members f).1 ((p.members f).0 h), λ h. (p.members f).1 ((q.members f).0 h)));
}

-- ---- in reach

one_allocation : (images : List Snapshot) → AreComparable images → (object : ℕ) (a b : Allocation) → AgreeOn images object a → AgreeOn images object b → a ≡ b
one_allocation [] comparable object a b p q = absurd (omega (arith, comparable.two))
one_allocation (s ∷ images) comparable object a b p q = go (row_of object s) (p 0 s (omega arith)) (q 0 s (omega arith))
  where
    go : (o : Option SlotRow) → IsSomeAnd o (λ r. allocation_of r ≡ a) → IsSomeAnd o (λ r. allocation_of r ≡ b) → a ≡ b
    go None p q = absurd p
    go (Some r) p q = sym p ∙ q

is_past : (images : List Snapshot) → AreComparable images → (f : Overflow) → IsGreatestOverflow images f → IsPast f
is_past images comparable f g =
    let same = ap (λ (a : Allocation). a.size) (one_allocation images comparable f.object g.holds.allocation g.allocation g.holds.agreed g.agreed) in
    let past = g.holds.past in
    let near = g.holds.near in
    let size = g.size in
    let extent = g.extent in record {
      beyond = omega (arith, same, past, size, extent);
      near = omega (arith, same, near, size, extent);
    }

is_before : (images : List Snapshot) (f : Underflow) → IsGreatestUnderflow images f → IsBefore f
is_before images f g = let near = g.holds.near in record { beyond = g.holds.before; near = omega (arith, near) }

pub in_reach : FoundIsInReach
in_reach = record {
  overflows = λ images found comparable are. all_of IsPast found (λ f h. is_past images comparable f ((are.members f).0 (contains_had found f h)));
  underflows = λ images found are. all_of IsBefore found (λ f h. is_before images f ((are.members f).0 (contains_had found f h)));
}
