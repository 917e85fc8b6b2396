-- Orders and equalities of values at the edges of what is decided: docs/infinite-heap.md, "Order", "Equality" and
-- "Worked values".
use Rattle.std.specs.Prelude.{ℕ, ◌≡◌, ◌+◌, ◌-◌, ◌^◌, Bool, true, false, nat_eq, if◌then◌else◌, List, [], ◌∷◌}
use Rattle.std.specs.declared.option.Option.TheVariants.{Some, None}
use Rattle.infinite_heap.specs.declared.value.Value.{Value}
use Rattle.infinite_heap.specs.declared.value.Value.TheVariants.{Num, Low}
use Rattle.infinite_heap.specs.Equality.{Look, same}
use Rattle.infinite_heap.specs.Order.{below, below_signed}
use Rattle.worked_cases.specs.Operations.{at, other, nothing}

-- x is below y, or isn't, as unsigned words
abbrev pub IsBelow : Value → Value → Bool → Type 0
IsBelow x y b = below x y ≡ Some b

abbrev pub IsBelowSigned : Value → Value → Bool → Type 0
IsBelowSigned x y b = below_signed x y ≡ Some b

abbrev pub HasNoOrder : Value → Value → Type 0
HasNoOrder x y = (below x y ≡ None) × (below_signed x y ≡ None)

-- Of pointers to one object, at its first and its last byte, at its end, 16, and as far as the rule goes.
abbrev pub PointersInOrder : Type 0
PointersInOrder =
    IsBelow (at 0) (at 0) false × IsBelow (at 0) (at 15) true × IsBelow (at 15) (at 16) true × IsBelow (at 16) (at 15) false × IsBelow (at 16) (at (2 ^ 21)) true
    × IsBelow (at (2 ^ 21)) (at (2 ^ 21)) false

abbrev pub PointersInSignedOrder : Type 0
PointersInSignedOrder =
    IsBelowSigned (at 0) (at 0) false × IsBelowSigned (at 0) (at 15) true × IsBelowSigned (at 15) (at 16) true × IsBelowSigned (at 16) (at 15) false
    × IsBelowSigned (at 16) (at (2 ^ 21)) true × IsBelowSigned (at (2 ^ 21)) (at (2 ^ 21)) false

-- Of a pointer and a number, at the edges of the heap region, on either side.
abbrev pub NumbersInOrder : Type 0
NumbersInOrder =
    IsBelow (at 0) (Num 0) false × IsBelow (at (2 ^ 21)) (Num (2 ^ 30 - 1)) false × IsBelow (at (2 ^ 21)) (Num (2 ^ 31)) true × IsBelow (at 0) (Num (2 ^ 32 - 1)) true × IsBelow (Num 0) (at 0) true
    × IsBelow (Num (2 ^ 30 - 1)) (at (2 ^ 21)) true × IsBelow (Num (2 ^ 31)) (at (2 ^ 21)) false × IsBelow (Num (2 ^ 32 - 1)) (at 0) false

-- As a signed number a word from 2^31 on is below all others.
abbrev pub NumbersInSignedOrder : Type 0
NumbersInSignedOrder =
    IsBelowSigned (at 0) (Num 0) false × IsBelowSigned (at (2 ^ 21)) (Num (2 ^ 30 - 1)) false × IsBelowSigned (at (2 ^ 21)) (Num (2 ^ 31)) false × IsBelowSigned (at 0) (Num (2 ^ 32 - 1)) false
    × IsBelowSigned (Num 0) (at 0) true × IsBelowSigned (Num (2 ^ 30 - 1)) (at (2 ^ 21)) true × IsBelowSigned (Num (2 ^ 31)) (at (2 ^ 21)) true × IsBelowSigned (Num (2 ^ 32 - 1)) (at 0) true

abbrev pub Unordered : Type 0
Unordered =
    HasNoOrder (at (2 ^ 21 + 1)) (at 0) × HasNoOrder (at 0) (at (2 ^ 21 + 1)) × HasNoOrder (at 0) (other 8) × HasNoOrder (at (2 ^ 21 + 1)) (Num 0) × HasNoOrder (Num 0) (at (2 ^ 21 + 1))
    × HasNoOrder (at 0) (Num (2 ^ 30)) × HasNoOrder (at 0) (Num (2 ^ 31 - 1)) × HasNoOrder (Num (2 ^ 30)) (at 0) × HasNoOrder (Num (2 ^ 31 - 1)) (at 0) × HasNoOrder (Low 3) (Num 3)
    × HasNoOrder nothing (at 0)

-- ---- equality, where the one object has 16 bytes and the other none

abbrev pub sizes : ℕ → ℕ
sizes o = if nat_eq o 3 then 16 else 0

-- x is y, or isn't, and the answer has these looks
abbrev pub IsSame : Value → Value → Bool → List Look → Type 0
IsSame x y b looks = same sizes x y ≡ Some (record { answer = b; looks = looks })

abbrev pub IsUndecided : Value → Value → Type 0
IsUndecided x y = same sizes x y ≡ None

abbrev pub look : (object offset : ℕ) → Look
look object offset = record { object = object; offset = offset; width = 1 }

-- Pointers to one object, in its bounds and out of them.
abbrev pub OneObject : Type 0
OneObject =
    IsSame (at 0) (at 0) true [] × IsSame (at 15) (at 16) false [] × IsSame (at 16) (at 16) true [] × IsSame (at 17) (at 16) false [] × IsSame (at (2 ^ 21)) (at (2 ^ 21 + 1)) false []
    × IsSame (at (2 ^ 21 + 1)) (at (2 ^ 21 + 1)) true [] × IsSame (at (2 ^ 32 - 1)) (at 0) false []

-- Pointers to the last byte of the one and to the first of the other, which has none but counts as if it had one.
abbrev pub TwoObjects : Type 0
TwoObjects =
    IsSame (at 15) (other 0) false (look 3 15 ∷ look 4 0 ∷ []) × IsSame (other 0) (at 0) false (look 4 0 ∷ look 3 0 ∷ []) × IsUndecided (at 16) (other 0) × IsUndecided (at 15) (other 1)
    × IsUndecided (other 0) (at 16)

abbrev pub PointerAndNumber : Type 0
PointerAndNumber =
    IsSame (at 0) (Num 0) false [] × IsSame (at (2 ^ 21)) (Num (2 ^ 30 - 1)) false [] × IsSame (at (2 ^ 21)) (Num (2 ^ 31)) false [] × IsSame (Num 0) (at (2 ^ 21)) false []
    × IsSame (Num (2 ^ 30 - 1)) (at 0) false [] × IsSame (Num (2 ^ 32 - 1)) (at 0) false [] × IsUndecided (at (2 ^ 21 + 1)) (Num 0) × IsUndecided (at 0) (Num (2 ^ 30))
    × IsUndecided (at 0) (Num (2 ^ 31 - 1)) × IsUndecided (Num (2 ^ 30)) (at 0) × IsUndecided (Num 0) (at (2 ^ 21 + 1))

abbrev pub OtherValues : Type 0
OtherValues = IsSame (Num 7) (Num 7) true [] × IsSame (Num 7) (Num (2 ^ 32 - 1)) false [] × IsUndecided (Low 3) (Num 4) × IsUndecided nothing nothing × IsUndecided (Low 3) (at 4)
