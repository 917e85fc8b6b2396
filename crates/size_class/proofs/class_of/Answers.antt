use Rattle.std.proofs.Common.{◌<◌, ◌≤◌, ◌^◌, ℕ, ◌-◌, max, ◌⊎◌, inl, inr, arith}
use Rattle.std.proofs.lemmas.Bool.{cases_lt}
use Rattle.size_class.specs.Classes.{IsLeastClass}
use Rattle.size_class.specs.Laws.{pow_more, class_of_least, least_class_one}
use Rattle.size_class.proofs.class_of.Goals as goal

-- the digits of the number below the need
least : (need bits : ℕ) → max need 16 - 1 < 2 ^ bits → ((d : ℕ) → max need 16 - 1 < 2 ^ d → bits ≤ d) → IsLeastClass need bits
least need bits above below = record {
  in_classes = four (cases_lt bits 4);
  holds = omega arith;
  least = λ d low h. below d (fits d (pow_more 4 d low) h);
}
  where
    four : (bits < 4) ⊎ (4 ≤ bits) → 4 ≤ bits
    four (inl p) = absurd (omega (arith, pow_more bits 3 (omega arith)))
    four (inr p) = p

    fits : (d : ℕ) → 2 ^ 4 ≤ 2 ^ d → max 1 need ≤ 2 ^ d → max need 16 - 1 < 2 ^ d
    fits d p h = omega arith

-- the class of a need in range is one of 4 to 22
high : (need bits : ℕ) → need ≤ 2 ^ 22 → ((d : ℕ) → max need 16 - 1 < 2 ^ d → bits ≤ d) → bits ≤ 22
high need bits h below = below 22 (omega arith)

pub returns-clause-least : goal.returns-clause-least
returns-clause-least c = least c.args.need c.bits_of.result (rw c.max.ensures at c.bits_of.ensures.above) (rw c.max.ensures at c.bits_of.ensures.below)

pub returns-clause-in_classes : goal.returns-clause-in_classes
returns-clause-in_classes c = high c.args.need c.bits_of.result (omega arith) (rw c.max.ensures at c.bits_of.ensures.below)

pub returns-clause-value : goal.returns-clause-value
returns-clause-value c =
    least_class_one c.args.need c.bits_of.result _ (least c.args.need c.bits_of.result (rw c.max.ensures at c.bits_of.ensures.above) (rw c.max.ensures at c.bits_of.ensures.below)) (class_of_least c.args.need (omega arith)).1
