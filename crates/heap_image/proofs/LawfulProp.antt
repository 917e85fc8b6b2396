-- That an image keeps its rules is a proposition.
use Rattle.std.proofs.Common.{ℕ, List, [], ◌∷◌, ◌++◌}
use Rattle.std.proofs.Props.{props}
use Rattle.exact_heap.specs.declared.signal.Place.{Place}
use Rattle.exact_heap.specs.declared.signal.Place.TheVariants.{Call, End}
use Rattle.exact_heap.specs.declared.row.SlotRow.{SlotRow}
use Rattle.heap_image.specs.declared.image.Broken.{Broken}
use Rattle.heap_image.specs.Snapshot.{Snapshot}
use Rattle.heap_image.specs.Lawful.{Each, IsPlace, IsClass, IsRow, IsBroken, IsLawful}

Each-prop : {X : Type 0} (R : List X → X → Type 0) → ((earlier : List X) (x : X) → IsProp (R earlier x)) → (earlier xs : List X) → IsProp (Each R earlier xs)
Each-prop R each earlier [] = hlevel props
Each-prop R each earlier (x ∷ xs) = let first = each earlier x in let rest = Each-prop R each (earlier ++ x ∷ []) xs in hlevel (props, first, rest)

IsPlace-prop : (place : Place) → IsProp (IsPlace place)
IsPlace-prop (Call n) = hlevel props
IsPlace-prop End = hlevel props

IsClass-prop : (greatest : ℕ) (earlier : List ℕ) (class : ℕ) → IsProp (IsClass greatest earlier class)
IsClass-prop greatest earlier class = hlevel props

IsRow-prop : (classes : List ℕ) (clock : ℕ) (earlier : List SlotRow) (r : SlotRow) → IsProp (IsRow classes clock earlier r)
IsRow-prop classes clock earlier r = hlevel props

IsBroken-prop : (seed : ℕ) (classes : List ℕ) (rows : List SlotRow) (earlier : List Broken) (b : Broken) → IsProp (IsBroken seed classes rows earlier b)
IsBroken-prop seed classes rows earlier b = hlevel props

pub IsLawful-prop : (s : Snapshot) → IsProp (IsLawful s)
IsLawful-prop s =
    let place = IsPlace-prop s.place in
    let minis = Each-prop (IsClass 22) (IsClass-prop 22) [] s.miniheaps in
    let rows = Each-prop (IsRow s.miniheaps s.clock) (IsRow-prop s.miniheaps s.clock) [] s.rows in
    let broken = Each-prop (IsBroken s.seed s.miniheaps s.rows) (IsBroken-prop s.seed s.miniheaps s.rows) [] s.broken in
    hlevel (props, place, minis, rows, broken)
