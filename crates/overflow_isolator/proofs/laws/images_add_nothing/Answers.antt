use Rattle.std.proofs.Common.{◌≡◌, ◌+◌, ◌-◌, ◌≤◌, List}
use Rattle.std.specs.Prelude.{IsSomeAnd, IsTrue}
use Rattle.std.specs.List.{All, slice_index_or}
use Rattle.std.proofs.lemmas.List.Elements.{All-contains}
use Rattle.heap_image.specs.Snapshot.{Snapshot}
use Rattle.heap_image.specs.Agreement.{row_of, allocation_of}
use Rattle.heap_image.specs.Lookup.{is_broken, address_of}
use Rattle.overflow_isolator.specs.Laws.{AreAmong}
use Rattle.overflow_isolator.proofs.laws.images_add_nothing.Goals as goal

-- what each of the others has, each of the images has
among : (P : Snapshot → Type 0) (images others : List Snapshot) → AreAmong images others → All P others → All P images
among P images others h all = λ k d lt. All-contains P others (slice_index_or images k d) all (h k d lt)

pub returns-clause-overflow : goal.returns-clause-overflow
returns-clause-overflow c = λ images others object distance h o. record {
  allocation = o.allocation;
  agreed = among (λ s. IsSomeAnd (row_of object s) (λ r. allocation_of r ≡ o.allocation)) images others h o.agreed;
  past = o.past;
  near = o.near;
  broken = among (λ s. IsSomeAnd (row_of object s) (λ r. IsTrue (is_broken s (address_of r + distance)))) images others h o.broken;
}

pub returns-clause-underflow : goal.returns-clause-underflow
returns-clause-underflow c = λ images others object distance h o. record {
  allocation = o.allocation;
  agreed = among (λ s. IsSomeAnd (row_of object s) (λ r. allocation_of r ≡ o.allocation)) images others h o.agreed;
  before = o.before;
  near = o.near;
  broken = among (λ s. IsSomeAnd (row_of object s) (λ r. (distance ≤ address_of r) × IsTrue (is_broken s (address_of r - distance)))) images others h o.broken;
}
