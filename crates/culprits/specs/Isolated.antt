-- The patches that objects call for which a program misuses: docs/repair.md, "Patches".
use Rattle.std.specs.Prelude.{◌≡◌, ℕ, ◌+◌, ◌-◌, ◌*◌, ◌/◌, ◌<◌, ◌≤◌, List, [], ◌∷◌, min}
use Rattle.std.specs.FinMap as map
use Rattle.patch_table.specs.Ranges.{greatest_front, greatest_pad}
use Rattle.patch_table.specs.Table.{Table, join, no_patches, raised}
use Rattle.culprits.specs.declared.found.Dangling.{Dangling}
use Rattle.culprits.specs.declared.found.Overflow.{Overflow}
use Rattle.culprits.specs.declared.found.Underflow.{Underflow}
use Rattle.culprits.specs.declared.isolated.Isolated.{Isolated}

-- ---- the table of what was found

-- the pad of a site: the farthest that one of its objects was written to past its end
abbrev pub padded : Table → List Overflow → Table
padded table [] = table
padded table (f ∷ found) = padded (record table { pads = raised table.pads f.site (f.extent - f.size) }) found

-- a multiple of 16, not below an extent
abbrev pub front_for : (extent : ℕ) → ℕ
front_for extent = (extent + 15) / 16 * 16

-- the front of a site: the farthest that one of its objects was written to before its start
abbrev pub fronted : Table → List Underflow → Table
fronted table [] = table
fronted table (f ∷ found) = fronted (record table { fronts = raised table.fronts f.site (front_for f.extent) }) found

-- twice the allocations between the free and the image, and one more
abbrev pub deferral_for : Dangling → ℕ
deferral_for d = min (2 * (d.seen - d.freed) + 1) 4294967295

abbrev pub deferred : Table → List Dangling → Table
deferred table [] = table
deferred table (d ∷ found) = deferred (record table { defers = raised table.defers (d.site, d.free_site) (deferral_for d) }) found

abbrev pub found_table : List Overflow → List Underflow → List Dangling → Table
found_table overflows underflows danglings = deferred (fronted (padded no_patches overflows) underflows) danglings

-- ---- what goes into a table

-- it was written to past its end, and not farther than a pad reaches
pub record IsPast (f : Overflow) : Type 0 where
  pub beyond : f.size < f.extent
  pub near : f.extent ≤ f.size + greatest_pad

-- it was written to before its start, and not farther than a front reaches
pub record IsBefore (f : Underflow) : Type 0 where
  pub beyond : 1 ≤ f.extent
  pub near : f.extent ≤ greatest_front

-- ---- the old table joined with it

-- The old table joined with what was found, and how many sites and pairs of sites were found, also those that the old table
-- covers: a site with a pad and one with a front count each.
pub record IsJoined (overflows : List Overflow) (underflows : List Underflow) (danglings : List Dangling) (old : Table) (isolated : Isolated) : Type 0 where
  pub patches : isolated.patches ≡ join old (found_table overflows underflows danglings)
  pub pads : isolated.pads ≡ map.len (found_table overflows underflows danglings).pads + map.len (found_table overflows underflows danglings).fronts
  pub defers : isolated.defers ≡ map.len (found_table overflows underflows danglings).defers

-- the same, where it is only said which lists of objects are those that were found
pub record IsIsolatedFrom (AreOverflows : List Overflow → Type 0) (AreUnderflows : List Underflow → Type 0) (AreDanglings : List Dangling → Type 0) (old : Table) (isolated : Isolated) : Type 0 where
  pub overflows : List Overflow
  pub are_overflows : AreOverflows overflows
  pub underflows : List Underflow
  pub are_underflows : AreUnderflows underflows
  pub danglings : List Dangling
  pub are_danglings : AreDanglings danglings
  pub joined : IsJoined overflows underflows danglings old isolated
