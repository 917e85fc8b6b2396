-- Where the slots of a heap lie, whichever of them are held or bad (docs/heap-layout.md, "Places").
use Rattle.std.specs.Prelude.{◌≡◌, ℕ, suc, ◌+◌, ◌-◌, ◌*◌, ◌/◌, ◌^◌, ◌<◌, ◌≤◌, ◌&&◌, nat_lt, nat_le, if◌then◌else◌, List, [], ◌∷◌, length, All, Option, Some, None}
use Rattle.size_class.specs.Classes.{nth_bytes}
use Rattle.miniheap.specs.Layout.{Mini, mini_end, heap_from, heap_limit, count_of, minis, mini_at, bytes_of}
use Rattle.miniheap.specs.declared.place.Miniheap.{Miniheap}
use Rattle.miniheap.specs.declared.place.SlotPlace.{SlotPlace}

-- the bytes of all miniheaps, whose classes are in order of creation, and those of the next one of a class
abbrev pub bytes_used : List ℕ → ℕ
bytes_used classes = bytes_of (minis classes)

abbrev pub bytes_wanted : List ℕ → (class : ℕ) → ℕ
bytes_wanted classes c = nth_bytes c (count_of c classes)

-- where the next miniheap begins
abbrev pub end_behind : List ℕ → ℕ
end_behind classes = heap_from + bytes_used classes

-- slot n of miniheap i
abbrev pub place_in : ℕ → Mini → ℕ → SlotPlace
place_in i m n = record { addr = m.base + n * 2 ^ m.class; class = m.class; mini = i; nth = n }

abbrev pub nth_place : List ℕ → (mini nth : ℕ) → SlotPlace
nth_place classes i n = place_in i (mini_at (minis classes) i) n

-- the slot that an address lies in, in the miniheaps from number i on
abbrev pub place_from : (address i : ℕ) → List Mini → Option SlotPlace
place_from address i [] = None
place_from address i (m ∷ ms) =
    if nat_le m.base address && nat_lt address (mini_end m)
    then Some (place_in i m ((address - m.base) / 2 ^ m.class))
    else place_from address (suc i) ms

abbrev pub place_at : List ℕ → ℕ → Option SlotPlace
place_at classes address = place_from address 0 (minis classes)

-- a slot's address, class and numbers are those of a slot of these miniheaps
pub record IsPlaceOf (classes : List ℕ) (place : SlotPlace) : Type 0 where
  pub mini_known : place.mini < length (minis classes)
  pub nth_known : place.nth < (mini_at (minis classes) place.mini).slots
  pub class_is : place.class ≡ (mini_at (minis classes) place.mini).class
  pub address_is : place.addr ≡ (mini_at (minis classes) place.mini).base + place.nth * 2 ^ place.class

-- the classes of miniheaps that a heap can have
pub record AreClasses (classes : List ℕ) : Type 0 where
  pub in_range : All (λ c. (4 ≤ c) × (c ≤ 22)) classes
  pub in_limit : bytes_used classes ≤ heap_limit

-- a miniheap as its caller has it
abbrev pub mini_of : Miniheap → Mini
mini_of m = record { class = m.class; base = m.base; slots = m.slots }
