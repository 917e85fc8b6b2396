-- Lists of objects that were found.
use Rattle.std.specs.Prelude.{◌≡◌, ◌↔◌, ℕ, List, Contains, map}
use Rattle.std.specs.List.Sorted.{IsStrictlySortedBy}
use Rattle.std.specs.Ordering.{nat_cmp}
use Rattle.culprits.specs.declared.found.Dangling.{Dangling}
use Rattle.culprits.specs.declared.found.Overflow.{Overflow}
use Rattle.culprits.specs.declared.found.Underflow.{Underflow}
use Rattle.culprits.specs.declared.isolated.Isolated.{Isolated}
use Rattle.culprits.specs.Isolated.{IsJoined}
use Rattle.patch_table.specs.Table.{Table}

-- lists that rise by a number and have the same items are equal
abbrev pub RisingIsOne : {X : Type 0} → (number_of : X → ℕ) → Type 0
RisingIsOne {X} number_of = (xs ys : List X) → IsStrictlySortedBy nat_cmp (map number_of xs) → IsStrictlySortedBy nat_cmp (map number_of ys) → ((x : X) → Contains xs x ↔ Contains ys x) → xs ≡ ys

-- what was found calls for one table
abbrev pub JoinsOne : Type 0
JoinsOne = (past : List Overflow) (before : List Underflow) (late : List Dangling) (old : Table) (a b : Isolated) → IsJoined past before late old a → IsJoined past before late old b → a ≡ b
