-- What holds of addresses, and what stays when more objects are laid out, or slots change hands.
use Rattle.std.specs.Prelude.{ℕ, ◌≡◌, ◌+◌, ◌%◌, ◌<◌, ◌≤◌, ◌^◌, true, false}
use Rattle.infinite_heap.specs.declared.value.Value.{Value}
use Rattle.infinite_heap.specs.Region.{in_region}
use Rattle.infinite_heap.specs.Layout.{Layout, IsAligned, IsLayout, IsPlace, IsIn, place, CellStands, Stands}
use Rattle.infinite_heap.specs.Memory.{CellMap, Matches}

-- The address of an object is a multiple of 16, whatever its alignment.
abbrev pub AddressesAreWhole : Type 0
AddressesAreWhole = (l : Layout) → IsAligned l → (o : ℕ) → o < l.count → l.at o % 16 ≡ 0

-- m is a later layout than l: its first objects are those of l, at the same addresses
pub record IsLater (l m : Layout) : Type 0 where
  pub count : l.count ≤ m.count
  pub at : (o : ℕ) → o < l.count → m.at o ≡ l.at o

-- A value stands for the same word under a later layout.
abbrev pub ValuesStay : Type 0
ValuesStay = (l m : Layout) → IsLater l m → (v : Value) (x : ℕ) → Stands l v x → Stands m v x

-- The bytes outside the heap region stay, and those in the slot of an object of l that is still held.
pub record KeepsBytes (l m : Layout) (old new : ℕ → ℕ) : Type 0 where
  pub fits : (x : ℕ) → new x < 256
  pub flat : (x : ℕ) → in_region x ≡ false → new x ≡ old x
  pub held : (o x : ℕ) → o < l.count → IsIn m o x → IsIn l o x × (new x ≡ old x)

-- The cells outside the heap region stay, and those of the objects of l.
pub record KeepsCells (l : Layout) (old new : CellMap) : Type 0 where
  pub flat : (x : ℕ) → new.flat x ≡ old.flat x
  pub heap : (o d : ℕ) → o < l.count → d < 2 ^ 32 → new.heap o d ≡ old.heap o d

-- each cell of the new objects whose place lies in the object's slot stands for the byte there
abbrev pub NewCellsStand : Layout → Layout → CellMap → (ℕ → ℕ) → Type 0
NewCellsStand l m new bytes = (o d : ℕ) → l.count ≤ o → d < 2 ^ 32 → IsIn m o (place m o d) → CellStands m (new.heap o d) (bytes (place m o d))

-- Memory that matches under l matches under a later layout, where cells and bytes of the old objects stay and
-- cells of the new ones stand for their bytes.
abbrev pub MemoryStays : Type 0
MemoryStays =
    (l m : Layout) → IsLater l m → (c k : CellMap) (old new : ℕ → ℕ) → Matches l c old → KeepsBytes l m old new → KeepsCells l c k → NewCellsStand l m k new
    → Matches m k new

-- The place of an offset that is j further is j bytes further.
abbrev pub PlacesGoOn : Type 0
PlacesGoOn = (l : Layout) (o d a j : ℕ) → IsPlace l o d a → place l o (d + j) ≡ (a + j) % 2 ^ 32

-- An address in the slot of a held object lies in the heap region.
abbrev pub SlotsLieInRegion : Type 0
SlotsLieInRegion = (l : Layout) → IsLayout l → (o x : ℕ) → IsIn l o x → in_region x ≡ true
