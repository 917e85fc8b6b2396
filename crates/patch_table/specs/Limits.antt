-- The ranges of a table's numbers (docs/patches.md, "Tables").
use Rattle.std.specs.Prelude.{ℕ, ◌≡◌, ◌<◌, ◌≤◌, ◌^◌, ◌%◌}
use Rattle.std.specs.List.{AllByRecursion}
use Rattle.std.specs.FinMap.{entries}
use Rattle.patch_table.specs.Ranges.{greatest_pad, front_unit, greatest_front, deferrals_below}
use Rattle.patch_table.specs.Table.{Table}

-- a site is a 32-bit number, a pad 1 to 1,048,576 bytes
abbrev pub IsPad : ℕ × ℕ → Type 0
IsPad e = (e.0 < 2 ^ 32) × (1 ≤ e.1) × (e.1 ≤ greatest_pad)

-- a front is a multiple of 16 from 16 to 65,536 bytes
abbrev pub IsFront : ℕ × ℕ → Type 0
IsFront e = (e.0 < 2 ^ 32) × (front_unit ≤ e.1) × (e.1 ≤ greatest_front) × (e.1 % front_unit ≡ 0)

-- a deferral is 1 to 4,294,967,295 allocations
abbrev pub IsDefer : (ℕ × ℕ) × ℕ → Type 0
IsDefer e = (e.0.0 < 2 ^ 32) × (e.0.1 < 2 ^ 32) × (1 ≤ e.1) × (e.1 < deferrals_below)

-- what a table may hold
pub record InLimits (table : Table) : Type 0 where
  pub pads : AllByRecursion IsPad (entries table.pads)
  pub fronts : AllByRecursion IsFront (entries table.fronts)
  pub defers : AllByRecursion IsDefer (entries table.defers)
