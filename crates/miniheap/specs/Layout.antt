-- Miniheaps and their slots (docs/heap-layout.md, "Miniheaps").
use Rattle.std.specs.Prelude.{ℕ, zero, suc, ◌+◌, ◌*◌, ◌^◌, nat_eq, List, [], ◌∷◌, ◌++◌, filter, sum_by, count_by, get_or}
use Rattle.std.specs.List.{flat_map}
use Rattle.size_class.specs.Classes.{nth_slots}

pub record Mini : Type 0 where
  pub class : ℕ
  pub base : ℕ
  pub slots : ℕ

abbrev pub mini_bytes : Mini → ℕ
mini_bytes m = m.slots * 2 ^ m.class

abbrev pub mini_end : Mini → ℕ
mini_end m = m.base + mini_bytes m

-- where the heap begins, and how many bytes all miniheaps have at most
abbrev pub heap_from : ℕ
heap_from = 0x40000000

abbrev pub heap_limit : ℕ
heap_limit = 1071644672

-- how many miniheaps of a list have that class
abbrev pub count_of : ℕ → List ℕ → ℕ
count_of c classes = count_by (λ d. nat_eq d c) classes

abbrev pub nth_mini : (class base n : ℕ) → Mini
nth_mini class base n = record { class = class; base = base; slots = nth_slots class n }

-- the miniheaps that come after those of the earlier classes, one after the other from base on
abbrev pub minis_from : (earlier : List ℕ) (base : ℕ) → List ℕ → List Mini
minis_from earlier base [] = []
minis_from earlier base (c ∷ cs) =
    let m : Mini = nth_mini c base (count_of c earlier) in m ∷ minis_from (earlier ++ c ∷ []) (mini_end m) cs

-- the miniheaps of a heap, whose classes are in order of creation
abbrev pub minis : List ℕ → List Mini
minis classes = minis_from [] heap_from classes

abbrev pub mini_at : List Mini → ℕ → Mini
mini_at ms i = get_or ms i (record { class = 0; base = 0; slots = 0 })

-- the bytes of all miniheaps
abbrev pub bytes_of : List Mini → ℕ
bytes_of ms = sum_by mini_bytes ms

-- the addresses of n slots of so many bytes, from an address on
unfoldable pub slots_from : (address size n : ℕ) → List ℕ
slots_from address size zero = []
slots_from address size (suc n) = address ∷ slots_from (address + size) size n

abbrev pub mini_slots : Mini → List ℕ
mini_slots m = slots_from m.base (2 ^ m.class) m.slots

-- all slots, in order
abbrev pub all_slots : List Mini → List ℕ
all_slots ms = flat_map mini_slots ms

-- the slots of a class, numbered through its miniheaps
abbrev pub class_slots : ℕ → List Mini → List ℕ
class_slots c ms = all_slots (filter (λ m. nat_eq m.class c) ms)
