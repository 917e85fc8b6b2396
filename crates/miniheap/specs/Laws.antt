-- Laws of slots, whichever are held or bad.
use Rattle.std.specs.Prelude.{◌≡◌, ℕ, ◌+◌, ◌*◌, ◌%◌, ◌^◌, ◌<◌, ◌≤◌, min, Bool, false, ◌&&◌, ◌||◌, nat_eq, nat_le, if◌then◌else◌, List, [], ◌∷◌, ◌++◌, length, count_by, Some, None, All, option_map}
use Rattle.size_class.specs.Classes.{nth_slots}
use Rattle.miniheap.specs.Draws.{Pick, next_free, picked_by, address_of}
use Rattle.miniheap.specs.Layout.{heap_from, count_of, minis, mini_at, all_slots, class_slots}
use Rattle.miniheap.specs.Places.{end_behind, nth_place, place_at, IsPlaceOf}
use Rattle.miniheap.specs.Slots.{Slots, state_of, slot_at, slot_of, nth_slot, grown, held_at, released_at, spoiled_at, end_of, used_of, wanted_of, slot_count, taken_count, must_grow, IsSlotIn, IsSlotOf, IsFreeSlot, IsInOrder}
use Rattle.miniheap.specs.Walk.{place_number}
use Rattle.miniheap.specs.declared.place.Slot.{Slot}
use Rattle.miniheap.specs.declared.place.SlotPlace.{SlotPlace}
use Rattle.miniheap.specs.declared.place.SlotState.TheVariants.{Free, Held}

-- the slot of an address holds it
abbrev pub SlotsHoldTheirAddresses : Type 0
SlotsHoldTheirAddresses = (s : Slots) (a : ℕ) (t : Slot) → slot_at s a ≡ Some t → (t.addr ≤ a) × (a < t.addr + 2 ^ t.class)

-- and lies within the miniheaps
abbrev pub SlotsLieWithin : Type 0
SlotsLieWithin = (s : Slots) (a : ℕ) (t : Slot) → slot_at s a ≡ Some t → (heap_from ≤ t.addr) × (t.addr + 2 ^ t.class ≤ end_of s)

-- slots are apart: each address of a slot finds this very slot
abbrev pub SlotsAreApart : Type 0
SlotsAreApart = (s : Slots) (a b : ℕ) (t : Slot) → slot_at s a ≡ Some t → t.addr ≤ b → b < t.addr + 2 ^ t.class → slot_at s b ≡ Some t

-- slots begin at multiples of 16
abbrev pub SlotsAreAligned : Type 0
SlotsAreAligned = (s : Slots) (a : ℕ) (t : Slot) → All (λ c. 4 ≤ c) s.classes → slot_at s a ≡ Some t → t.addr % 16 ≡ 0

-- those of 2 ^ 16 bytes and more begin at multiples of 2 ^ 16, and smaller ones at multiples of their size
abbrev pub SlotsBeginAtMultiples : Type 0
SlotsBeginAtMultiples = (s : Slots) (a : ℕ) (t : Slot) → slot_at s a ≡ Some t → t.addr % 2 ^ min t.class 16 ≡ 0

-- the slot of an address is one of a miniheap by its number, and is in the state of its address
abbrev pub SlotsAreKnown : Type 0
SlotsAreKnown = (s : Slots) (a : ℕ) (t : Slot) → slot_at s a ≡ Some t → IsSlotOf s t × (t.state ≡ state_of s t.addr)

-- each slot of a miniheap is found at its own address
abbrev pub SlotsAreFound : Type 0
SlotsAreFound = (s : Slots) (i n : ℕ) → i < length (minis s.classes) → n < (mini_at (minis s.classes) i).slots → slot_at s (nth_slot s i n).addr ≡ Some (nth_slot s i n)

-- the addresses of the slots from one on, each behind the one before, up to the end
abbrev pub IsWalk : Slots → ℕ → List ℕ → Type 0
IsWalk s from [] = from ≡ end_of s
IsWalk s from (x ∷ xs) = (t : Slot) × (slot_at s from ≡ Some t) × (t.addr ≡ from) × (x ≡ from) × IsWalk s (from + 2 ^ t.class) xs

-- all slots follow one another
abbrev pub SlotsFollow : Type 0
SlotsFollow = (s : Slots) → IsWalk s heap_from (all_slots (minis s.classes))

-- growth keeps every slot
abbrev pub SlotsStay : Type 0
SlotsStay = (s : Slots) (c a : ℕ) (t : Slot) → slot_at s a ≡ Some t → slot_at (grown s c) a ≡ Some t

-- and adds slots behind them alone
abbrev pub SlotsAreAdded : Type 0
SlotsAreAdded = (s : Slots) (c a : ℕ) (t : Slot) → slot_at s a ≡ None → slot_at (grown s c) a ≡ Some t → (end_of s ≤ a) × (a < end_of s + wanted_of s c)

-- ---- places

-- the slot of an address is the one at the place of that address
abbrev pub SlotsAreAtPlaces : Type 0
SlotsAreAtPlaces = (s : Slots) (a : ℕ) → slot_at s a ≡ option_map (slot_of s) (place_at s.classes a)

-- the place of an address holds it
abbrev pub PlacesHoldTheirAddresses : Type 0
PlacesHoldTheirAddresses = (classes : List ℕ) (a : ℕ) (p : SlotPlace) → place_at classes a ≡ Some p → (p.addr ≤ a) × (a < p.addr + 2 ^ p.class)

-- and lies within the miniheaps
abbrev pub PlacesLieWithin : Type 0
PlacesLieWithin = (classes : List ℕ) (a : ℕ) (p : SlotPlace) → place_at classes a ≡ Some p → (heap_from ≤ p.addr) × (p.addr + 2 ^ p.class ≤ end_behind classes)

-- places are apart: each address of a slot finds this very place
abbrev pub PlacesAreApart : Type 0
PlacesAreApart = (classes : List ℕ) (a b : ℕ) (p : SlotPlace) → place_at classes a ≡ Some p → p.addr ≤ b → b < p.addr + 2 ^ p.class → place_at classes b ≡ Some p

-- those of 2 ^ 16 bytes and more begin at multiples of 2 ^ 16, and smaller ones at multiples of their size
abbrev pub PlacesBeginAtMultiples : Type 0
PlacesBeginAtMultiples = (classes : List ℕ) (a : ℕ) (p : SlotPlace) → place_at classes a ≡ Some p → p.addr % 2 ^ min p.class 16 ≡ 0

-- each is that of a number in a miniheap, and each number of a miniheap has its place
abbrev pub PlacesAreKnown : Type 0
PlacesAreKnown = (classes : List ℕ) (a : ℕ) (p : SlotPlace) → place_at classes a ≡ Some p → IsPlaceOf classes p

abbrev pub PlacesAreFound : Type 0
PlacesAreFound = (classes : List ℕ) (i n : ℕ) → i < length (minis classes) → n < (mini_at (minis classes) i).slots → place_at classes (nth_place classes i n).addr ≡ Some (nth_place classes i n)

-- each is one of all slots in order of creation, and no two numbers have the same one
abbrev pub PlacesAreNumbered : Type 0
PlacesAreNumbered = (classes : List ℕ) (a : ℕ) (p : SlotPlace) → place_at classes a ≡ Some p → (k : ℕ) × (k < length (all_slots (minis classes))) × (place_number classes k ≡ Some p)

abbrev pub NumbersAreApart : Type 0
NumbersAreApart = (classes : List ℕ) (j k : ℕ) → j < length (all_slots (minis classes)) → k < length (all_slots (minis classes)) → place_number classes j ≡ place_number classes k → j ≡ k

-- growth keeps every place
abbrev pub PlacesStay : Type 0
PlacesStay = (classes : List ℕ) (c a : ℕ) (p : SlotPlace) → place_at classes a ≡ Some p → place_at (classes ++ c ∷ []) a ≡ Some p

-- ---- counts

-- the slots of a class have no more bytes than all miniheaps
abbrev pub SlotsFit : Type 0
SlotsFit = (s : Slots) (c : ℕ) → slot_count s c * 2 ^ c ≤ used_of s

-- and there are no more slots than bytes
abbrev pub SlotsAreFew : Type 0
SlotsAreFew = (s : Slots) → length (all_slots (minis s.classes)) ≤ used_of s

-- one where a slot's class is this one
abbrev pub one_in : (class c : ℕ) → ℕ
one_in class c = if nat_eq class c then 1 else 0

-- a slot's address stands once among those of its class, and among those of no other
abbrev pub SlotsStandOnce : Type 0
SlotsStandOnce = (s : Slots) (a : ℕ) (t : Slot) (c : ℕ) → slot_at s a ≡ Some t → t.addr ≡ a → count_by (λ q. nat_eq q a) (class_slots c (minis s.classes)) ≡ one_in t.class c

-- a free slot that becomes held or bad is one more of its class that is taken
abbrev pub TakingCounts : Type 0
TakingCounts = (s : Slots) (a : ℕ) (t : Slot) (c : ℕ) → slot_at s a ≡ Some t → IsSlotIn s a Free
    → (taken_count (held_at s a) c ≡ taken_count s c + one_in t.class c) × (taken_count (spoiled_at s a) c ≡ taken_count s c + one_in t.class c)

-- a held slot that becomes free is one less
abbrev pub ReleasingCounts : Type 0
ReleasingCounts = (s : Slots) (a : ℕ) (t : Slot) (c : ℕ) → IsInOrder s → slot_at s a ≡ Some t → IsSlotIn s a Held
    → taken_count (released_at s a) c + one_in t.class c ≡ taken_count s c

-- growth adds free slots to its class alone
pub record GrowthCounts (s : Slots) (class : ℕ) : Type 0 where
  pub taken : (c : ℕ) → taken_count (grown s class) c ≡ taken_count s c
  pub slots : (c : ℕ) → slot_count (grown s class) c ≡ slot_count s c + (if nat_eq class c then nth_slots class (count_of class s.classes) else 0)
  pub used : used_of (grown s class) ≡ used_of s + wanted_of s class

abbrev pub GrowingCounts : Type 0
GrowingCounts = (s : Slots) (class : ℕ) → IsInOrder s → GrowthCounts s class

-- ---- draws

-- the words of a seed pick a slot of the class, and it is free
pub record PicksFree (s : Slots) (class seed spent : ℕ) : Type 0 where
  pub pick : Pick
  pub is_picked : picked_by seed spent s class ≡ Some pick
  pub free : IsFreeSlot s class (address_of s class pick.number)

-- as they do of each class that needn't grow
abbrev pub DrawsFindFreeSlots : Type 0
DrawsFindFreeSlots = (s : Slots) (class seed spent : ℕ) → must_grow s class ≡ false → PicksFree s class seed spent

-- twelve slots of which those of the numbers 0, 2, 3, 4 and 11 are taken
abbrev pub free_of_twelve : ℕ → Bool
free_of_twelve k = nat_eq k 1 || (nat_le 5 k && nat_le k 10)

-- the next free one after a number: behind it, also past taken ones, or else from 0 on
abbrev pub SearchesGoRound : Type 0
SearchesGoRound = (next_free free_of_twelve 12 0 12 ≡ Some 1) × (next_free free_of_twelve 12 1 12 ≡ Some 5) × (next_free free_of_twelve 12 4 12 ≡ Some 5)
    × (next_free free_of_twelve 12 5 12 ≡ Some 6) × (next_free free_of_twelve 12 9 12 ≡ Some 10) × (next_free free_of_twelve 12 10 12 ≡ Some 1) × (next_free free_of_twelve 12 11 12 ≡ Some 1)

-- ---- all of them

-- what holds of the slots of every heap
pub record SlotLaws : Type 0 where
  pub hold : SlotsHoldTheirAddresses
  pub within : SlotsLieWithin
  pub apart : SlotsAreApart
  pub aligned : SlotsAreAligned
  pub known : SlotsAreKnown
  pub found : SlotsAreFound
  pub follow : SlotsFollow
  pub stay : SlotsStay
  pub added : SlotsAreAdded
  pub fit : SlotsFit
  pub few : SlotsAreFew
  pub once : SlotsStandOnce
  pub taking : TakingCounts
  pub growing : GrowingCounts
  pub free : DrawsFindFreeSlots
