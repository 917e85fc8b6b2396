-- What holds of cells in memory, of loads and of stores.
use Rattle.std.specs.Prelude.{ℕ, ◌≡◌, ◌+◌, ◌%◌, ◌<◌, ◌≤◌, ◌^◌, Bool, false, List, length, All, map}
use Rattle.infinite_heap.specs.declared.access.AccessKind.TheVariants.{Load, Store}
use Rattle.infinite_heap.specs.declared.value.Cell.{Cell}
use Rattle.infinite_heap.specs.declared.value.Cell.TheVariants.{Byte}
use Rattle.infinite_heap.specs.declared.value.Value.{Value}
use Rattle.infinite_heap.specs.Region.{in_region}
use Rattle.infinite_heap.specs.Layout.{Layout, IsLayout, IsPlace, Stands, AllStand, IsHarmless}
use Rattle.infinite_heap.specs.Memory.{CellMap, Matches, Written, cell_at, write_all, put_all, get_all, cells_from, bytes_from, value_from, word_from}

-- no byte of the n from address x on lies in the heap region
abbrev pub IsOutside : ℕ → ℕ → Type 0
IsOutside x n = (j : ℕ) → j < n → in_region ((x + j) % 2 ^ 32) ≡ false

-- The lowest cells of a value stand for the lowest bytes of its word.
abbrev pub CellsStand : Type 0
CellsStand = (l : Layout) (v : Value) (x : ℕ) → Stands l v x → (n : ℕ) → AllStand l (cells_from n v) (bytes_from n x)

-- The value of loaded cells stands for the word of the bytes that they stand for, signed or not.
abbrev pub LoadedStands : Type 0
LoadedStands = (l : Layout) (extends : Bool) (cs : List Cell) (bs : List ℕ) → AllStand l cs bs → Stands l (value_from extends cs) (word_from extends bs) × (word_from extends bs < 2 ^ 32)

-- Numbers stand for the bytes that they are.
abbrev pub NumbersStand : Type 0
NumbersStand = (l : Layout) (bs : List ℕ) → All (λ b. b < 256) bs → AllStand l (map Byte bs) bs

-- Numbers stand for no other bytes.
abbrev pub NumbersAreBytes : Type 0
NumbersAreBytes = (l : Layout) (ns bs : List ℕ) → AllStand l (map Byte ns) bs → bs ≡ ns

-- Cells read through a pointer, each byte of them harmless, stand for the bytes at its address.
abbrev pub PointerLoads : Type 0
PointerLoads = (l : Layout) (m : CellMap) (bytes : ℕ → ℕ) → Matches l m bytes → (o d a n : ℕ) → IsPlace l o d a → IsHarmless l Load o d n → AllStand l (get_all (m.heap o) d n) (get_all bytes a n)

-- Cells read outside the heap region stand for the bytes there.
abbrev pub OutsideLoads : Type 0
OutsideLoads = (l : Layout) (m : CellMap) (bytes : ℕ → ℕ) → Matches l m bytes → (x n : ℕ) → x < 2 ^ 32 → IsOutside x n → AllStand l (get_all m.flat x n) (get_all bytes x n)

-- the objects' cells, by those that were written
abbrev pub with_written : (ℕ → Cell) → (ℕ → Cell) → List Written → CellMap
with_written flat begins ws = record { flat = flat; heap = cell_at begins ws }

-- Cells stored through a pointer, each byte of them harmless, and the bytes that they stand for, stored at its
-- address, keep memory matching.
abbrev pub PointerStores : Type 0
PointerStores =
    (l : Layout) → IsLayout l → (flat begins : ℕ → Cell) (marks : ℕ → Bool) (ws : List Written) (bytes : ℕ → ℕ) → Matches l (with_written flat begins ws) bytes
    → (o d a : ℕ) → IsPlace l o d a → (cs : List Cell) (bs : List ℕ) → AllStand l cs bs → IsHarmless l Store o d (length bs)
    → Matches l (with_written flat begins (write_all marks ws o d cs)) (put_all bytes a bs)

-- Cells stored outside the heap region, and the bytes that they stand for, keep memory matching.
abbrev pub OutsideStores : Type 0
OutsideStores =
    (l : Layout) → IsLayout l → (m : CellMap) (bytes : ℕ → ℕ) → Matches l m bytes
    → (x : ℕ) → x < 2 ^ 32 → (cs : List Cell) (bs : List ℕ) → AllStand l cs bs → IsOutside x (length bs)
    → Matches l (record { flat = put_all m.flat x cs; heap = m.heap }) (put_all bytes x bs)

-- A load of n bytes through a pointer gives a value that stands for the word loaded at its address.
abbrev pub LoadStands : Type 0
LoadStands =
    (l : Layout) (m : CellMap) (bytes : ℕ → ℕ) → Matches l m bytes → (o d a n : ℕ) → IsPlace l o d a → IsHarmless l Load o d n
    → (extends : Bool) → Stands l (value_from extends (get_all (m.heap o) d n)) (word_from extends (get_all bytes a n))

-- A store of the lowest n bytes of a value through a pointer keeps memory matching.
abbrev pub StoreMatches : Type 0
StoreMatches =
    (l : Layout) → IsLayout l → (flat begins : ℕ → Cell) (marks : ℕ → Bool) (ws : List Written) (bytes : ℕ → ℕ) → Matches l (with_written flat begins ws) bytes
    → (o d a n : ℕ) → IsPlace l o d a → IsHarmless l Store o d n → (v : Value) (x : ℕ) → Stands l v x
    → Matches l (with_written flat begins (write_all marks ws o d (cells_from n v))) (put_all bytes a (bytes_from n x))

-- Up to 2^32 cells that were written to an object are read back.
abbrev pub WrittenIsRead : Type 0
WrittenIsRead =
    (begins : ℕ → Cell) (marks : ℕ → Bool) (ws : List Written) (o d : ℕ) (cs : List Cell) → d < 2 ^ 32 → length cs ≤ 2 ^ 32
    → get_all (cell_at begins (write_all marks ws o d cs) o) d (length cs) ≡ cs

-- A cell that isn't among the n from offset d of object o on.
abbrev pub IsElsewhere : ℕ → ℕ → ℕ → ℕ → ℕ → Type 0
IsElsewhere o d n p e = (j : ℕ) → j < n → o ≡ p → (d + j) % 2 ^ 32 ≡ e → ⊥

-- Every other cell is as before.
abbrev pub OthersStay : Type 0
OthersStay =
    (begins : ℕ → Cell) (marks : ℕ → Bool) (ws : List Written) (o d : ℕ) (cs : List Cell) → d < 2 ^ 32 → (p e : ℕ) → IsElsewhere o d (length cs) p e
    → cell_at begins (write_all marks ws o d cs) p e ≡ cell_at begins ws p e
