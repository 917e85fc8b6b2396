-- What is found of objects, one by one and by their numbers.
use Rattle.std.specs.Prelude.{Option, Some, None, ◌≡◌, ℕ, true, List}
use Rattle.std.specs.List.{AllByRecursion}
use Rattle.std.specs.Ordering.{nat_cmp}
use Rattle.std.specs.BTreeMap.{insert_entry}
use Rattle.exact_heap.specs.declared.row.SlotRow.{SlotRow}
use Rattle.heap_image.specs.Agreement.{is_row_of}
use Rattle.heap_image.specs.Items.{Has}

-- what an object has of a kind, where it has one
abbrev pub IsFoundOf : {F : Type 0} → (object_of : F → ℕ) → (IsKind : F → Type 0) → (object : ℕ) → Option F → Type 0
IsFoundOf object_of IsKind object None = (f : _) → IsKind f → object_of f ≡ object → ⊥
IsFoundOf object_of IsKind object (Some f) = (object_of f ≡ object) × IsKind f

-- entries of a kind, by object: all that objects of these rows have
abbrev pub AreFoundIn : {F : Type 0} → (object_of : F → ℕ) → (IsKind : F → Type 0) → List SlotRow → List (ℕ × F) → Type 0
AreFoundIn {F} object_of IsKind rows entries =
    AllByRecursion (λ e. (object_of e.1 ≡ e.0) × IsKind e.1) entries
    × ((f : F) (r : SlotRow) → IsKind f → Has rows r → is_row_of (object_of f) r ≡ true → Has entries (object_of f, f))

-- the entries with what was found of an object
abbrev pub entries_with : {F : Type 0} → List (ℕ × F) → (object : ℕ) → Option F → List (ℕ × F)
entries_with entries object None = entries
entries_with entries object (Some f) = insert_entry nat_cmp entries object f
