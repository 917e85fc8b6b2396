-- Cells and bytes in memory, loads and stores: docs/infinite-heap.md, "Memory".
use Rattle.std.specs.Prelude.{ℕ, zero, suc, ◌≡◌, ◌+◌, ◌%◌, ◌^◌, ◌<◌, ◌&&◌, ◌||◌, Bool, true, false, not, nat_eq, nat_lt, if◌then◌else◌, List, [], ◌∷◌, take}
use Rattle.infinite_heap.specs.declared.instr.Op.{Op}
use Rattle.infinite_heap.specs.declared.instr.Op.TheVariants.{Lb, Lh, Lw, Lbu, Lhu, Sb, Sh, Sw}
use Rattle.infinite_heap.specs.declared.value.Cell.{Cell}
use Rattle.infinite_heap.specs.declared.value.Cell.TheVariants.{Byte}
use Rattle.infinite_heap.specs.declared.value.Value.{Value}
use Rattle.infinite_heap.specs.Values.{byte, cells_of, word_of, value_of, unknown, sign_cell}
use Rattle.infinite_heap.specs.Region.{in_region}
use Rattle.infinite_heap.specs.Layout.{Layout, IsIn, place, CellStands}

-- ---- maps from addresses, or from the offsets of one object

abbrev pub next : ℕ → ℕ
next x = (x + 1) % 2 ^ 32

-- one entry changed
abbrev pub put : {A : Type 0} → (ℕ → A) → ℕ → A → ℕ → A
put f x c y = if nat_eq x y then c else f y

-- the entries from x on changed to those of the list
abbrev pub put_all : {A : Type 0} → (ℕ → A) → ℕ → List A → ℕ → A
put_all f x [] = f
put_all f x (c ∷ cs) = put_all (put f x c) (next x) cs

-- the n entries from x on
abbrev pub get_all : {A : Type 0} → (ℕ → A) → ℕ → ℕ → List A
get_all f x zero = []
get_all f x (suc n) = f x ∷ get_all f (next x) n

-- ---- the objects' cells

-- A cell that was written. It counts as stored where a store, a read or a copy of a stored cell wrote it; a copy of
-- another cell doesn't store.
pub record Written : Type 0 where
  pub object : ℕ
  pub offset : ℕ
  pub cell : Cell
  pub stored : Bool

-- the cell of an object at an offset, by the cells that were written, newest first; `begins` has the cell
-- that each object began with
abbrev pub cell_at : (ℕ → Cell) → List Written → ℕ → ℕ → Cell
cell_at begins [] o d = begins o
cell_at begins (w ∷ ws) o d = if nat_eq w.object o && nat_eq w.offset d then w.cell else cell_at begins ws o d

-- cells written to object o from offset d on; `marks` says of each offset whether its cell counts as stored
abbrev pub write_all : (ℕ → Bool) → List Written → ℕ → ℕ → List Cell → List Written
write_all marks ws o d [] = ws
write_all marks ws o d (c ∷ cs) = write_all marks (record { object = o; offset = d; cell = c; stored = marks d } ∷ ws) o (next d) cs

-- cells stored to object o from offset d on
abbrev pub store_all : List Written → ℕ → ℕ → List Cell → List Written
store_all ws o d cs = write_all (λ offset. true) ws o d cs

-- the cell was stored
abbrev pub is_stored : List Written → ℕ → ℕ → Bool
is_stored [] o d = false
is_stored (w ∷ ws) o d = (w.stored && (nat_eq w.object o && nat_eq w.offset d)) || is_stored ws o d

-- how many cells were stored, each counted once
abbrev pub stored_count : List Written → ℕ
stored_count [] = 0
stored_count (w ∷ ws) = if w.stored && not (is_stored ws w.object w.offset) then suc (stored_count ws) else stored_count ws

-- all cells of the infinite heap: at the addresses outside the heap region, and of each object at each offset
pub record CellMap : Type 0 where
  pub flat : ℕ → Cell
  pub heap : ℕ → ℕ → Cell

-- The cells stand for the bytes outside the heap region, and in the slots of held objects. Nothing is said of
-- other slots.
pub record Matches (l : Layout) (m : CellMap) (bytes : ℕ → ℕ) : Type 0 where
  pub fits : (x : ℕ) → bytes x < 256
  pub flat : (x : ℕ) → in_region x ≡ false → CellStands l (m.flat x) (bytes x)
  pub heap : (o d : ℕ) → d < 2 ^ 32 → IsIn l o (place l o d) → CellStands l (m.heap o d) (bytes (place l o d))

-- ---- loads and stores: the RISC-V Unprivileged ISA manual, "Load and Store Instructions"

-- how many bytes a load or a store moves
abbrev pub width_of : Op → ℕ
width_of Lb = 1
width_of Lbu = 1
width_of Sb = 1
width_of Lh = 2
width_of Lhu = 2
width_of Sh = 2
width_of Lw = 4
width_of Sw = 4
width_of op = 0

-- a load that extends the sign of its last byte
abbrev pub extends_sign : Op → Bool
extends_sign Lb = true
extends_sign Lh = true
extends_sign op = false

-- the cell above a last loaded one
abbrev pub cell_above : Bool → Cell → Cell
cell_above true c = sign_cell c
cell_above false c = Byte 0

-- the value of one, two or four cells that were loaded
abbrev pub value_from : Bool → List Cell → Value
value_from extends (a ∷ []) = value_of a (cell_above extends a) (cell_above extends a) (cell_above extends a)
value_from extends (a ∷ b ∷ []) = value_of a b (cell_above extends b) (cell_above extends b)
value_from extends (a ∷ b ∷ c ∷ d ∷ []) = value_of a b c d
value_from extends cs = unknown

-- the lowest n cells of a value
abbrev pub cells_from : ℕ → Value → List Cell
cells_from n v = take n ((cells_of v).c0 ∷ (cells_of v).c1 ∷ (cells_of v).c2 ∷ (cells_of v).c3 ∷ [])

-- the lowest n bytes of a word
abbrev pub bytes_from : ℕ → ℕ → List ℕ
bytes_from n x = take n (byte 0 x ∷ byte 1 x ∷ byte 2 x ∷ byte 3 x ∷ [])

-- the byte above a last loaded one
abbrev pub byte_above : Bool → ℕ → ℕ
byte_above true b = if nat_lt b 128 then 0 else 255
byte_above false b = 0

-- the word of one, two or four bytes that were loaded
abbrev pub word_from : Bool → List ℕ → ℕ
word_from extends (a ∷ []) = word_of a (byte_above extends a) (byte_above extends a) (byte_above extends a)
word_from extends (a ∷ b ∷ []) = word_of a b (byte_above extends b) (byte_above extends b)
word_from extends (a ∷ b ∷ c ∷ d ∷ []) = word_of a b c d
word_from extends bs = 0
