-- The patches that images call for: docs/repair.md, "Patches".
use Rattle.std.specs.Prelude.{◌≡◌, List}
use Rattle.culprits.specs.declared.isolated.Isolated.{Isolated}
use Rattle.culprits.specs.Isolated.{IsIsolatedFrom}
use Rattle.patch_table.specs.Table.{Table}
use Rattle.heap_image.specs.Agreement.{AreComparable}
use Rattle.heap_image.specs.Snapshot.{Snapshot}
use Rattle.overflow_isolator.specs.Overflows.{AreOverflowsOf, AreUnderflowsOf}
use Rattle.dangling_isolator.specs.Danglings.{AreDanglings}

-- The table that images of runs with the table `old` call for, and how many sites and pairs of sites were found.
pub record IsIsolated (images : List Snapshot) (old : Table) (isolated : Isolated) : Type 0 where
  pub comparable : AreComparable images
  pub found : IsIsolatedFrom (AreOverflowsOf images) (AreUnderflowsOf images) (AreDanglings images) old isolated

-- images call for one table
abbrev pub IsolatesOne : Type 0
IsolatesOne = (images : List Snapshot) (old : Table) (a b : Isolated) → IsIsolated images old a → IsIsolated images old b → a ≡ b
