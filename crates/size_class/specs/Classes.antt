-- Size classes and the sizes of miniheaps (docs/heap-layout.md, "Classes" and "Miniheaps").
use Rattle.std.specs.Prelude.{ℕ, zero, suc, ◌*◌, ◌-◌, ◌^◌, ◌≤◌, max, nat_le, if◌then◌else◌}

-- the classes; a slot of class c has 2 ^ c bytes
abbrev pub IsClass : ℕ → Type 0
IsClass c = (4 ≤ c) × (c ≤ 22)

-- the least class from c on whose slots, of 2 ^ class bytes, hold need bytes: one of the n classes
-- from c on, or else the one after them
unfoldable pub class_from : ℕ → ℕ → ℕ → ℕ
class_from need c zero = c
class_from need c (suc n) = if nat_le need (2 ^ c) then c else class_from need (suc c) n

-- the least class of 4 to 22 whose slots hold max(1, need) bytes, for a need of at most 2 ^ 22
abbrev pub class_of : ℕ → ℕ
class_of need = class_from (max 1 need) 4 18

-- slots of class c hold an allocation that needs so many bytes
abbrev pub Holds : (c need : ℕ) → Type 0
Holds c need = max 1 need ≤ 2 ^ c

-- c is the least class whose slots hold it
pub record IsLeastClass (need c : ℕ) : Type 0 where
  pub in_classes : 4 ≤ c
  pub holds : Holds c need
  pub least : (d : ℕ) → 4 ≤ d → Holds d need → c ≤ d

-- slots of a class's first miniheap
unfoldable pub first_slots : ℕ → ℕ
first_slots c = if nat_le c 16 then max 4 (2 ^ (16 - c)) else 4

-- slots of the miniheap of a class that has n earlier ones: each has twice as many as the one before
abbrev pub nth_slots : (c n : ℕ) → ℕ
nth_slots c n = first_slots c * 2 ^ n

-- its bytes
abbrev pub nth_bytes : (c n : ℕ) → ℕ
nth_bytes c n = nth_slots c n * 2 ^ c
