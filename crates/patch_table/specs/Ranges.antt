-- The ranges of pads, fronts and deferrals; the least pad and the least deferral are 1 (docs/patches.md, "Tables").
use Rattle.std.specs.Prelude.{ℕ, ◌^◌}

abbrev pub greatest_pad : ℕ
greatest_pad = 2 ^ 20

-- a front is a multiple of it, and the least front
abbrev pub front_unit : ℕ
front_unit = 16

abbrev pub greatest_front : ℕ
greatest_front = 2 ^ 16

-- a deferral fits 32 bits
abbrev pub deferrals_below : ℕ
deferrals_below = 2 ^ 32
