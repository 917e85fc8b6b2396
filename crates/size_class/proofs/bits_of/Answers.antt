use Rattle.std.proofs.Common.{◌≡◌, ◌<◌, ◌≤◌, ◌^◌, ℕ, suc, ◌-◌, ◌⊎◌, inl, inr, arith}
use Rattle.std.proofs.lemmas.Nat.{leading_top}
use Rattle.std.proofs.lemmas.Bool.{cases_lt}
use Rattle.size_class.specs.Laws.{pow_more}
use Rattle.size_class.proofs.bits_of.Goals as goal

-- a number of j + 1 digits lies between two powers
digits : (n j : ℕ) → 2 ^ j ≤ n → (d : ℕ) → n < 2 ^ d → suc j ≤ d
digits n j low d h = at (cases_lt j d)
  where
    at : (j < d) ⊎ (d ≤ j) → suc j ≤ d
    at (inl p) = omega arith
    at (inr p) = absurd (omega (arith, pow_more d j p))

pub returns : goal.returns
returns c =
    let top = leading_top 32 c.args.n c.requires.positive (omega arith) in
    let is : 32 - lib.Count.count_leading_zeros 32 c.args.n ≡ suc top.0 = omega (arith, top.1) in
    rw is (record { above = top.3; below = digits c.args.n top.0 top.2 })
