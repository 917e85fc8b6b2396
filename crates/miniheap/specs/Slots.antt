-- Which slots are held, bad and free, and growth (docs/heap-layout.md, "Slots" and "Growth").
use Rattle.std.specs.Prelude.{◌≡◌, ℕ, suc, ◌+◌, ◌-◌, ◌*◌, ◌/◌, ◌^◌, ◌<◌, ◌≤◌, Bool, true, false, not, refl, ◌&&◌, nat_lt, nat_le, if◌then◌else◌, List, [], ◌∷◌, ◌++◌, length, count_by, All, Option, Some, None, IsSomeAnd}
use Rattle.std.specs.Ordering.{nat_cmp}
use Rattle.std.specs.FinSet.{FinSet, code, empty, contains, insert, remove}
use Rattle.std.specs.Coded.{Coded, code_by, coded×, coded_ℕ, coded_list}
use Rattle.size_class.specs.Classes.{nth_bytes}
use Rattle.miniheap.specs.Layout.{Mini, mini_end, heap_from, heap_limit, count_of, minis, mini_at, bytes_of, class_slots}
use Rattle.miniheap.specs.declared.place.Slot.{Slot}
use Rattle.miniheap.specs.declared.place.SlotPlace.{SlotPlace}
use Rattle.miniheap.specs.declared.place.SlotState.{SlotState}
use Rattle.miniheap.specs.declared.place.SlotState.TheVariants.{Free, Held, Bad}

-- the slots of a heap: the class of each miniheap in order of creation, and the addresses of the
-- slots that are held and that are bad
pub record Slots : Type 0 where
  pub classes : List ℕ
  pub held : FinSet nat_cmp
  pub bad : FinSet nat_cmp

abbrev pub slots_code : Coded Slots
slots_code =
    code_by (List ℕ × (FinSet nat_cmp × FinSet nat_cmp)) (coded× (coded_list coded_ℕ) (coded× (code coded_ℕ) (code coded_ℕ)))
    (λ s. (s.classes, (s.held, s.bad))) (λ p. record { classes = p.0; held = p.1.0; bad = p.1.1 }) (λ _. refl)

abbrev pub no_slots : Slots
no_slots = record { classes = []; held = empty; bad = empty }

-- a slot that is neither held nor bad is free
abbrev pub state_of : Slots → ℕ → SlotState
state_of s address = if contains s.held address then Held else (if contains s.bad address then Bad else Free)

abbrev pub is_free_state : SlotState → Bool
is_free_state Free = true
is_free_state Held = false
is_free_state Bad = false

abbrev pub is_free : Slots → ℕ → Bool
is_free s address = is_free_state (state_of s address)

-- ---- growth

abbrev pub slot_count : Slots → ℕ → ℕ
slot_count s c = length (class_slots c (minis s.classes))

-- how many slots of the class are held or bad
abbrev pub taken_count : Slots → ℕ → ℕ
taken_count s c = count_by (λ a. not (is_free s a)) (class_slots c (minis s.classes))

-- a class grows while one slot more would be more than half of them
abbrev pub must_grow : Slots → ℕ → Bool
must_grow s c = nat_lt (slot_count s c) ((taken_count s c + 1) * 2)

-- the bytes of all miniheaps, and those of the next one of a class
abbrev pub used_of : Slots → ℕ
used_of s = bytes_of (minis s.classes)

abbrev pub wanted_of : Slots → ℕ → ℕ
wanted_of s c = nth_bytes c (count_of c s.classes)

-- where the next miniheap begins
abbrev pub end_of : Slots → ℕ
end_of s = heap_from + used_of s

abbrev pub grown : Slots → ℕ → Slots
grown s c = record s { classes = s.classes ++ c ∷ [] }

-- ---- the changes of a slot

abbrev pub held_at : Slots → ℕ → Slots
held_at s address = record s { held = insert s.held address }

abbrev pub released_at : Slots → ℕ → Slots
released_at s address = record s { held = remove s.held address }

abbrev pub spoiled_at : Slots → ℕ → Slots
spoiled_at s address = record s { bad = insert s.bad address }

-- a free slot becomes held or bad, a held one free
abbrev pub marked : Slots → ℕ → SlotState → Slots
marked s address Free = released_at s address
marked s address Held = held_at s address
marked s address Bad = spoiled_at s address

-- what it was before
abbrev pub state_before : SlotState → SlotState
state_before Free = Held
state_before Held = Free
state_before Bad = Free

-- ---- slots by address and by number

-- slot n of miniheap i
abbrev pub slot_in : Slots → ℕ → Mini → ℕ → Slot
slot_in s i m n =
    let address = m.base + n * 2 ^ m.class in
    record { addr = address; class = m.class; mini = i; nth = n; state = state_of s address }

-- the slot at a place, in the state that it has
abbrev pub slot_of : Slots → SlotPlace → Slot
slot_of s p = record { addr = p.addr; class = p.class; mini = p.mini; nth = p.nth; state = state_of s p.addr }

abbrev pub nth_slot : Slots → (mini nth : ℕ) → Slot
nth_slot s i n = slot_in s i (mini_at (minis s.classes) i) n

-- the slot that an address lies in, in the miniheaps from number i on
abbrev pub slot_from : Slots → ℕ → ℕ → List Mini → Option Slot
slot_from s address i [] = None
slot_from s address i (m ∷ ms) =
    if nat_le m.base address && nat_lt address (mini_end m)
    then Some (slot_in s i m ((address - m.base) / 2 ^ m.class))
    else slot_from s address (suc i) ms

abbrev pub slot_at : Slots → ℕ → Option Slot
slot_at s address = slot_from s address 0 (minis s.classes)

-- an address is that of a slot in this state
abbrev pub IsSlotIn : Slots → ℕ → SlotState → Type 0
IsSlotIn s address state = IsSomeAnd (slot_at s address) (λ t. (t.addr ≡ address) × (t.state ≡ state))

-- an address is that of a free slot of a class
abbrev pub IsFreeSlot : Slots → (class address : ℕ) → Type 0
IsFreeSlot s c address = IsSomeAnd (slot_at s address) (λ t. (t.addr ≡ address) × (t.class ≡ c) × (t.state ≡ Free))

-- a slot's address, class and numbers are those of a slot of this heap, whatever state it has
pub record IsSlotOf (s : Slots) (slot : Slot) : Type 0 where
  pub mini_known : slot.mini < length (minis s.classes)
  pub nth_known : slot.nth < (mini_at (minis s.classes) slot.mini).slots
  pub class_is : slot.class ≡ (mini_at (minis s.classes) slot.mini).class
  pub address_is : slot.addr ≡ (mini_at (minis s.classes) slot.mini).base + slot.nth * 2 ^ slot.class

-- what is true of the slots of every heap
pub record IsInOrder (s : Slots) : Type 0 where
  pub in_classes : All (λ c. (4 ≤ c) × (c ≤ 22)) s.classes
  pub in_limit : used_of s ≤ heap_limit
  pub held_slots : (a : ℕ) → contains s.held a ≡ true → IsSlotIn s a Held
  pub bad_slots : (a : ℕ) → contains s.bad a ≡ true → IsSlotIn s a Bad
