-- Which of two values is the lesser, where that is decided: docs/infinite-heap.md, "Order".
use Rattle.std.specs.Prelude.{ℕ, ◌&&◌, Bool, true, false, not, nat_eq, nat_lt, nat_le, int_lt}
use Rattle.std.specs.Bool.{then_some}
use Rattle.std.specs.declared.option.Option.{Option}
use Rattle.std.specs.declared.option.Option.TheVariants.{Some, None}
use Rattle.infinite_heap.specs.declared.value.Value.{Value}
use Rattle.infinite_heap.specs.declared.value.Value.TheVariants.{Num, Ptr}
use Rattle.infinite_heap.specs.Alu.{signed}
use Rattle.infinite_heap.specs.Region.{region_from, region_end, in_region, farthest}

-- an offset so small that its place is above the object's address and below the end of the heap region
abbrev pub near : ℕ → Bool
near d = nat_le d farthest

-- x is below y, as unsigned words
abbrev pub below : Value → Value → Option Bool
below (Num m) (Num n) = Some (nat_lt m n)
below (Ptr o d) (Ptr p e) = then_some (nat_eq o p && (near d && near e)) (nat_lt d e)
below (Ptr o d) (Num n) = then_some (near d && not (in_region n)) (nat_le region_end n)
below (Num n) (Ptr o d) = then_some (near d && not (in_region n)) (nat_lt n region_from)
below x y = None

-- x is below y, as signed words
abbrev pub below_signed : Value → Value → Option Bool
below_signed (Num m) (Num n) = Some (int_lt (signed m) (signed n))
below_signed (Ptr o d) (Ptr p e) = then_some (nat_eq o p && (near d && near e)) (nat_lt d e)
below_signed (Ptr o d) (Num n) = then_some (near d && not (in_region n)) false
below_signed (Num n) (Ptr o d) = then_some (near d && not (in_region n)) true
below_signed x y = None
