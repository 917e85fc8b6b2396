-- What patches cover.
use Rattle.std.specs.Prelude.{ℕ, ◌≡◌, ◌+◌, ◌^◌, ◌≤◌, max, Bool, List}
use Rattle.infinite_heap.specs.declared.access.Record.{Record}
use Rattle.infinite_heap.specs.Covered.{Cures, reach, IsCovered, IsCoveredRun}
use Rattle.infinite_heap.specs.Loaded.{Loaded}
use Rattle.infinite_heap.specs.Objects.{Object}

-- r is the least power of two, from 2 ^ from on, that is at least the need
pub record IsLeastPower (from need r : ℕ) : Type 0 where
  pub power : (c : ℕ) × (from ≤ c) × (r ≡ 2 ^ c)
  pub enough : need ≤ r
  pub least : (c : ℕ) → from ≤ c → need ≤ 2 ^ c → r ≤ 2 ^ c

-- The reach of an object is the least power of two, from the one given on, that holds its size and its site's pad, and 1.
abbrev pub ReachIsLeast : (from : ℕ) → Type 0
ReachIsLeast from = (cures : Cures) (object : Object) → IsLeastPower from (max 1 (object.size + cures.pad object.site)) (reach cures object)

-- A record that the one table covers is covered by the other, where they are ordered so.
abbrev pub RecordsStay : (Cures → Cures → Type 0) → Type 0
RecordsStay IsOrdered = (low high : Cures) → IsOrdered low high → (objects : List Object) (r : Record) → IsCovered low objects r → IsCovered high objects r

-- A run that the one table covers is covered by the other, where they are ordered so.
abbrev pub RunsStay : (Cures → Cures → Type 0) → Type 0
RunsStay IsOrdered =
    (low high : Cures) → IsOrdered low high → (program : Loaded) (args : List (List ℕ)) (input : List ℕ) (zeroed : Bool) (n : ℕ)
    → IsCoveredRun low program args input zeroed n → IsCoveredRun high program args input zeroed n
