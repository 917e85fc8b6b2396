-- Whether two values are equal, where that is decided, and what the answer records: docs/infinite-heap.md, "Equality".
use Rattle.std.specs.Prelude.{ℕ, ◌&&◌, Bool, false, not, max, nat_eq, nat_lt, if◌then◌else◌, List, [], ◌∷◌}
use Rattle.std.specs.Bool.{then_some}
use Rattle.std.specs.declared.option.Option.{Option}
use Rattle.std.specs.declared.option.Option.TheVariants.{Some, None}
use Rattle.infinite_heap.specs.declared.access.Record.{Record}
use Rattle.infinite_heap.specs.declared.access.AccessKind.TheVariants.{Touch}
use Rattle.infinite_heap.specs.declared.value.Value.{Value}
use Rattle.infinite_heap.specs.declared.value.Value.TheVariants.{Num, Ptr}
use Rattle.infinite_heap.specs.Order.{near}
use Rattle.infinite_heap.specs.Region.{in_region}

-- bytes of an object that an answer speaks of
pub record Look : Type 0 where
  pub object : ℕ
  pub offset : ℕ
  pub width : ℕ

-- an answer, with what it records
pub record Decision : Type 0 where
  pub answer : Bool
  pub looks : List Look

-- a pointer's offset and a number
abbrev pub pointer_and_number : ℕ → ℕ → Option Decision
pointer_and_number d n = then_some (near d && not (in_region n)) (record { answer = false; looks = [] })

-- pointers to offset d of object o and to offset e of object p
abbrev pub two_pointers : (ℕ → ℕ) → ℕ → ℕ → ℕ → ℕ → Option Decision
two_pointers sizes o d p e =
    if nat_eq o p then Some (record { answer = nat_eq d e; looks = [] })
    else then_some (nat_lt d (max (sizes o) 1) && nat_lt e (max (sizes p) 1))
    (record { answer = false; looks = record { object = o; offset = d; width = 1 } ∷ record { object = p; offset = e; width = 1 } ∷ [] })

-- whether x and y are equal; `sizes` has the objects' sizes
abbrev pub same : (ℕ → ℕ) → Value → Value → Option Decision
same sizes (Num m) (Num n) = Some (record { answer = nat_eq m n; looks = [] })
same sizes (Ptr o d) (Num n) = pointer_and_number d n
same sizes (Num n) (Ptr o d) = pointer_and_number d n
same sizes (Ptr o d) (Ptr p e) = two_pointers sizes o d p e
same sizes x y = None

-- an answer that records nothing
abbrev pub plain : Option Bool → Option Decision
plain (Some b) = Some (record { answer = b; looks = [] })
plain None = None

-- the answer to the opposite question, with the same records
abbrev pub opposite : Option Decision → Option Decision
opposite (Some d) = Some (record { answer = not d.answer; looks = d.looks })
opposite None = None

-- the records of an answer that is given at a clock by the instruction at pc
abbrev pub touches : ℕ → ℕ → List Look → List Record
touches clock pc [] = []
touches clock pc (k ∷ ks) =
    record { kind = Touch; access = record { object = k.object; offset = k.offset; width = k.width; clock = clock; pc = pc } } ∷ touches clock pc ks
