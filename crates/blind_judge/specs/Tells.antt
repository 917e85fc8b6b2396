-- A test of a proposition.
use Rattle.std.specs.Prelude.{Bool, true, false}

-- the answer is whether it holds
abbrev pub Tells : Bool → Type 0 → Type 0
Tells true P = P
Tells false P = P → ⊥
