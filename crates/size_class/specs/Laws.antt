-- Laws over size classes, which crates above cite in their proofs. `classes_are_least` and `slots_are_powers` have them
-- as clauses.
use Rattle.std.proofs.Common.{◌≡◌, ℕ, zero, suc, ◌+◌, ◌-◌, ◌*◌, ◌^◌, ◌<◌, ◌≤◌, refl, ap, sym, Bool, true, false, cond, ◌⊎◌, inl, inr, arith, nat_le, max}
use Rattle.std.proofs.lemmas.Bool.{leb-true, leb-false, le-leb, cases_lt}
use Rattle.std.proofs.lemmas.Nat.{pow-add}
use Rattle.std.proofs.Math.Nat.{pow-le-pow_right}
use Rattle.size_class.specs.Classes.{class_from, class_of, IsClass, IsLeastClass, first_slots}

-- ---- the least class

-- the class of a need is one of the classes, and the least whose slots hold it
abbrev pub ClassesAreLeast : Type 0
ClassesAreLeast = (need : ℕ) → need ≤ 2 ^ 22 → IsClass (class_of need) × IsLeastClass need (class_of need)

-- there is no other
abbrev pub LeastClassesAreOne : Type 0
LeastClassesAreOne = (need c d : ℕ) → IsLeastClass need c → IsLeastClass need d → c ≡ d

from_low : (need c n : ℕ) → c ≤ class_from need c n
unfolding class_from
from_low need c zero = omega arith
from_low need c (suc n) = at (nat_le need (2 ^ c)) (from_low need (suc c) n)
  where
    at : (t : Bool) → suc c ≤ class_from need (suc c) n → c ≤ cond t c (class_from need (suc c) n)
    at true low = omega arith
    at false low = omega arith

from_high : (need c n : ℕ) → class_from need c n ≤ c + n
unfolding class_from
from_high need c zero = omega arith
from_high need c (suc n) = at (nat_le need (2 ^ c)) (from_high need (suc c) n)
  where
    at : (t : Bool) → class_from need (suc c) n ≤ suc c + n → cond t c (class_from need (suc c) n) ≤ c + suc n
    at true high = omega arith
    at false high = omega arith

from_holds : (need c n : ℕ) → need ≤ 2 ^ (c + n) → need ≤ 2 ^ class_from need c n
unfolding class_from
from_holds need c zero fits = let e : c + 0 ≡ c = omega arith in rw (ap (λ (k : ℕ). 2 ^ k) e) at fits
from_holds need c (suc n) fits = at (nat_le need (2 ^ c)) refl (from_holds need (suc c) n (let e : c + suc n ≡ suc c + n = omega arith in rw (ap (λ (k : ℕ). 2 ^ k) e) at fits))
  where
    at : (t : Bool) → nat_le need (2 ^ c) ≡ t → need ≤ 2 ^ class_from need (suc c) n → need ≤ 2 ^ cond t c (class_from need (suc c) n)
    at true e later = leb-true need (2 ^ c) e
    at false e later = later

from_least : (need c n d : ℕ) → c ≤ d → need ≤ 2 ^ d → class_from need c n ≤ d
unfolding class_from
from_least need c zero d low fits = low
from_least need c (suc n) d low fits = at (nat_le need (2 ^ c)) refl (cases_lt c d) (λ below. from_least need (suc c) n d below fits)
  where
    here : d ≤ c → need ≤ 2 ^ c
    here above = let same : d ≡ c = omega arith in rw (ap (λ (k : ℕ). 2 ^ k) same) at fits

    at : (t : Bool) → nat_le need (2 ^ c) ≡ t → (c < d) ⊎ (d ≤ c) → (suc c ≤ d → class_from need (suc c) n ≤ d) → cond t c (class_from need (suc c) n) ≤ d
    at true e side later = low
    at false e (inl below) later = later below
    at false e (inr above) later = absurd (omega (arith, leb-false need (2 ^ c) e, here above))

pub class_of_least : ClassesAreLeast
class_of_least need high = (
  (from_low (max 1 need) 4 18, from_high (max 1 need) 4 18),
  record {
    in_classes = from_low (max 1 need) 4 18;
    holds = from_holds (max 1 need) 4 18 (omega arith);
    least = λ d low fits. from_least (max 1 need) 4 18 d low fits;
  },
)

pub least_class_one : LeastClassesAreOne
least_class_one need c d least other =
    let below = least.least d other.in_classes other.holds in
    let above = other.least c least.in_classes least.holds in
    omega arith

-- ---- sizes

-- slots of two classes: the size of the smaller divides that of the greater, and is no greater
abbrev pub SlotsDivide : Type 0
SlotsDivide = (c d : ℕ) → c ≤ d → 2 ^ c * 2 ^ (d - c) ≡ 2 ^ d

abbrev pub SlotsRise : Type 0
SlotsRise = (c d : ℕ) → c ≤ d → 2 ^ c ≤ 2 ^ d

-- the slots of a class's first miniheap: 64 KiB of them up to class 13, and 4 of the others
abbrev pub FirstSlotsBelow : Type 0
FirstSlotsBelow = (c : ℕ) → c ≤ 13 → first_slots c ≡ 2 ^ (16 - c)

abbrev pub FirstSlotsAbove : Type 0
FirstSlotsAbove = (c : ℕ) → 14 ≤ c → first_slots c ≡ 4

-- no first miniheap has more than 16 MiB
abbrev pub FirstBytesFit : Type 0
FirstBytesFit = (c : ℕ) → c ≤ 22 → first_slots c * 2 ^ c ≤ 2 ^ 24

pub slots_divide : SlotsDivide
slots_divide c d low = rw (← pow-add 2 c (d - c)) (let e : c + (d - c) ≡ d = omega arith in ap (λ (k : ℕ). 2 ^ k) e)

pub pow_more : SlotsRise
pow_more c d low = pow-le-pow_right {n = 2} (omega arith) low

pub first_low : FirstSlotsBelow
unfolding first_slots
first_low c h =
    let low : c ≤ 16 = omega arith in
    rw (le-leb c 16 low) (let four : 4 ≤ 2 ^ (16 - c) = pow_more 2 (16 - c) (omega arith) in omega arith)

pub first_high : FirstSlotsAbove
unfolding first_slots
first_high c h = at (nat_le c 16) refl
  where
    at : (t : Bool) → nat_le c 16 ≡ t → cond t (max 4 (2 ^ (16 - c))) 4 ≡ 4
    at true e = let le : 2 ^ (16 - c) ≤ 4 = pow_more (16 - c) 2 (omega arith) in omega arith
    at false e = refl

pub first_bytes : FirstBytesFit
first_bytes c h = at (cases_lt c 14)
  where
    low : c ≤ 13 → first_slots c * 2 ^ c ≡ 2 ^ 16
    low p = rw (first_low c p, ← pow-add 2 (16 - c) c) (let e : 16 - c + c ≡ 16 = omega arith in ap (λ (x : ℕ). 2 ^ x) e)

    high : 14 ≤ c → first_slots c * 2 ^ c ≡ 2 ^ (2 + c)
    high p = rw (first_high c p) (sym (pow-add 2 2 c))

    at : (c < 14) ⊎ (14 ≤ c) → first_slots c * 2 ^ c ≤ 2 ^ 24
    at (inl p) = omega (arith, low (omega arith))
    at (inr p) = omega (arith, high p, pow_more (2 + c) 24 (omega arith))
