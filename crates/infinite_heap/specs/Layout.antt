-- What values stand for where the objects lie at given addresses: docs/infinite-heap.md, "Layouts".
use Rattle.std.specs.Prelude.{ℕ, ◌≡◌, ◌+◌, ◌%◌, ◌^◌, ◌<◌, ◌≤◌, ⊤, Bool, true, ◌⊎◌, List, [], ◌∷◌}
use Rattle.infinite_heap.specs.declared.access.AccessKind.{AccessKind}
use Rattle.infinite_heap.specs.declared.access.AccessKind.TheVariants.{Load, Store, Touch, Again}
use Rattle.infinite_heap.specs.declared.access.Record.{Record}
use Rattle.infinite_heap.specs.declared.value.Cell.{Cell}
use Rattle.infinite_heap.specs.declared.value.Cell.TheVariants.{Byte, Part, Unset}
use Rattle.infinite_heap.specs.declared.value.Value.{Value}
use Rattle.infinite_heap.specs.declared.value.Value.TheVariants.{Num, Ptr, Mix, Low}
use Rattle.infinite_heap.specs.Region.{region_from, miniheaps_end}
use Rattle.infinite_heap.specs.Values.{byte}

-- How many objects there are, and of each: its address, of what that is a multiple, where its slot begins and how many
-- bytes the slot has, whether it is held (owned or deferred), and whether it is owned. Miniheaps end at `top`.
pub record Layout : Type 0 where
  pub count : ℕ
  pub at : ℕ → ℕ
  pub align : ℕ → ℕ
  pub slot : ℕ → ℕ
  pub span : ℕ → ℕ
  pub held : ℕ → Bool
  pub owned : ℕ → Bool
  pub top : ℕ

-- a power of two from 16 to 4,096
abbrev pub IsAlignment : ℕ → Type 0
IsAlignment a = (k : ℕ) × (4 ≤ k) × (k ≤ 12) × (a ≡ 2 ^ k)

-- every object's address is a multiple of its alignment in the heap region, below where miniheaps end at the latest
pub record IsAligned (l : Layout) : Type 0 where
  pub power : (o : ℕ) → o < l.count → IsAlignment (l.align o)
  pub whole : (o : ℕ) → o < l.count → l.at o % l.align o ≡ 0
  pub above : (o : ℕ) → o < l.count → region_from ≤ l.at o
  pub below : (o : ℕ) → o < l.count → l.at o < miniheaps_end

-- no object is said to have a greater alignment than the layout's
abbrev pub AreAlignments : Layout → (ℕ → ℕ) → Type 0
AreAlignments l aligns = (o : ℕ) → o < l.count → aligns o ≤ l.align o

-- the address of offset d in object o
abbrev pub place : Layout → ℕ → ℕ → ℕ
place l o d = (l.at o + d) % 2 ^ 32

-- the word x is the address of offset d in object o
pub record IsPlace (l : Layout) (o d x : ℕ) : Type 0 where
  pub known : o < l.count
  pub fits : d < 2 ^ 32
  pub is : x ≡ place l o d

-- the byte b is byte k of the address of offset d in object o
pub record IsPart (l : Layout) (o d k b : ℕ) : Type 0 where
  pub known : o < l.count
  pub fits : d < 2 ^ 32
  pub is : b ≡ byte k (place l o d)

-- the cell stands for the byte b; an unset one for any
abbrev pub CellStands : Layout → Cell → ℕ → Type 0
CellStands l (Byte n) b = b ≡ n
CellStands l (Part o d k) b = IsPart l o d k b
CellStands l Unset b = ⊤

-- the value stands for the word x
abbrev pub Stands : Layout → Value → ℕ → Type 0
Stands l (Num n) x = x ≡ n
Stands l (Ptr o d) x = IsPlace l o d x
Stands l (Mix a b c d) x = CellStands l a (byte 0 x) × CellStands l b (byte 1 x) × CellStands l c (byte 2 x) × CellStands l d (byte 3 x)
Stands l (Low b) x = x % 16 ≡ b

-- each cell of a list stands for the byte in its place
pub data AllStand (l : Layout) : List Cell → List ℕ → Type 0 where
  none : AllStand l [] []
  more : {c : Cell} {b : ℕ} {cs : List Cell} {bs : List ℕ} → b < 256 → CellStands l c b → AllStand l cs bs → AllStand l (c ∷ cs) (b ∷ bs)

-- the address x lies in the slot of object o, which is held
pub record IsIn (l : Layout) (o x : ℕ) : Type 0 where
  pub known : o < l.count
  pub held : l.held o ≡ true
  pub from : l.slot o ≤ x
  pub to : x < l.slot o + l.span o

-- Objects are aligned, and their slots lie in the heap region below the miniheaps' end. Slots of held objects are
-- disjoint.
pub record IsLayout (l : Layout) : Type 0 where
  pub aligned : IsAligned l
  pub region_from : (o : ℕ) → o < l.count → region_from ≤ l.slot o
  pub region_to : (o : ℕ) → o < l.count → l.slot o + l.span o ≤ l.top
  pub top_below : l.top ≤ miniheaps_end
  pub apart : (o p x : ℕ) → IsIn l o x → IsIn l p x → o ≡ p

-- the address x lies in a slot that no object holds
pub record IsUnowned (l : Layout) (x : ℕ) : Type 0 where
  pub from : region_from ≤ x
  pub to : x < l.top
  pub none : (o : ℕ) → ¬ (IsIn l o x)

-- a store to x through a pointer to object o changes no byte of another held object's slot
abbrev pub IsHarmlessByte : Layout → ℕ → ℕ → Type 0
IsHarmlessByte l o x = IsIn l o x ⊎ IsUnowned l x

-- each of n bytes from offset d of object o lies in its slot, and the object is held
pub record IsHarmlessUse (l : Layout) (o d n : ℕ) : Type 0 where
  pub held : l.held o ≡ true
  pub inside : (j : ℕ) → j < n → IsIn l o (place l o (d + j))

-- a store of n bytes from offset d of object o is harmless at each byte
abbrev pub IsHarmlessStore : Layout → ℕ → ℕ → ℕ → Type 0
IsHarmlessStore l o d n = (j : ℕ) → j < n → IsHarmlessByte l o (place l o (d + j))

-- no owned object has the address of object o
abbrev pub IsHarmlessFree : Layout → ℕ → Type 0
IsHarmlessFree l o = (i : ℕ) → i < l.count → l.owned i ≡ true → ¬ (l.at i ≡ l.at o)

-- an access does no harm under this layout: docs/infinite-heap.md, "Harmless accesses"
abbrev pub IsHarmless : Layout → AccessKind → ℕ → ℕ → ℕ → Type 0
IsHarmless l Load o d n = IsHarmlessUse l o d n
IsHarmless l Touch o d n = IsHarmlessUse l o d n
IsHarmless l Store o d n = IsHarmlessStore l o d n
IsHarmless l Again o d n = IsHarmlessFree l o

abbrev pub AllHarmless : Layout → List Record → Type 0
AllHarmless l [] = ⊤
AllHarmless l (r ∷ rest) = IsHarmless l r.kind r.access.object r.access.offset r.access.width × AllHarmless l rest
