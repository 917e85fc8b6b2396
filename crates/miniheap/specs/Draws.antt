-- How a free slot is drawn (docs/heap-layout.md, "Draws").
use Rattle.std.specs.Prelude.{◌≡◌, ℕ, zero, suc, ◌+◌, ◌%◌, Bool, if◌then◌else◌, get_or, Option, Some, None}
use Rattle.miniheap.specs.WordList.{WordList, HasSpent, draws_of, after, word_from}
use Rattle.miniheap.specs.Layout.{minis, class_slots}
use Rattle.miniheap.specs.Slots.{Slots, is_free, slot_count, IsFreeSlot}
use Rattle.miniheap.specs.declared.heap.Draw.{Draw}
use Rattle.miniheap.specs.declared.heap.Draw.TheVariants.{Found, Missed}

-- the number of a slot in its class, and how many draws it took
pub record Pick : Type 0 where
  pub number : ℕ
  pub draws : ℕ

-- the first of the draws left that finds a free slot. Draw n is word n modulo the number of slots
unfoldable pub drawn : (word : ℕ → ℕ) (free : ℕ → Bool) (slots n left : ℕ) → Option Pick
drawn word free slots n zero = None
drawn word free slots n (suc left) =
    if free (word n % slots) then Some (record { number = word n % slots; draws = n + 1 }) else drawn word free slots (n + 1) left

-- the first free slot of so many that come after number k in cyclic order
unfoldable pub next_free : (free : ℕ → Bool) (slots k left : ℕ) → Option ℕ
next_free free slots k zero = None
next_free free slots k (suc left) =
    if free ((k + 1) % slots) then Some ((k + 1) % slots) else next_free free slots ((k + 1) % slots) left

abbrev pub after_draws : Option ℕ → Option Pick
after_draws None = None
after_draws (Some k) = Some (record { number = k; draws = 64 })

abbrev pub or_else : Option Pick → Option Pick → Option Pick
or_else (Some p) q = Some p
or_else None q = q

-- the first free slot of at most 64 draws, or else the next free one after the last draw
abbrev pub picked : (word : ℕ → ℕ) (free : ℕ → Bool) (slots : ℕ) → Option Pick
picked word free slots = or_else (drawn word free slots 0 64) (after_draws (next_free free slots (word 63 % slots) slots))

-- the address of a slot by its number in its class
abbrev pub address_of : Slots → (class number : ℕ) → ℕ
address_of s c k = get_or (class_slots c (minis s.classes)) k 0

abbrev pub is_free_number : Slots → ℕ → ℕ → Bool
is_free_number s c k = is_free s (address_of s c k)

-- what the seed's words pick, of which so many were spent before
abbrev pub picked_by : (seed spent : ℕ) → Slots → ℕ → Option Pick
picked_by seed spent s c = picked (draws_of seed spent) (is_free_number s c) (slot_count s c)

-- a draw gives this address and spends the words that it took
pub record IsDrawn (seed spent : ℕ) (s : Slots) (c address : ℕ) (words : WordList) : Type 0 where
  pub pick : Pick
  pub is_picked : picked_by seed spent s c ≡ Some pick
  pub address_is : address ≡ address_of s c pick.number
  pub spends : HasSpent words seed (spent + pick.draws)

-- what 64 draws find from a generator on
pub record FoundBy (s : Slots) (c : ℕ) (old : WordList) (address : ℕ) (new : WordList) : Type 0 where
  pub pick : Pick
  pub is_drawn : drawn (word_from old.generator) (is_free_number s c) (slot_count s c) 0 64 ≡ Some pick
  pub address_is : address ≡ address_of s c pick.number
  pub free : IsFreeSlot s c address
  pub spends : new ≡ record old { generator = after old.generator pick.draws }

pub record MissedBy (s : Slots) (c : ℕ) (old : WordList) (last : ℕ) (new : WordList) : Type 0 where
  pub is_missed : drawn (word_from old.generator) (is_free_number s c) (slot_count s c) 0 64 ≡ None
  pub last_is : last ≡ word_from old.generator 63 % slot_count s c
  pub spends : new ≡ record old { generator = after old.generator 64 }

-- the next free slot after a number
pub record IsNext (s : Slots) (c from address : ℕ) : Type 0 where
  pub number : ℕ
  pub is_next : next_free (is_free_number s c) (slot_count s c) from (slot_count s c) ≡ Some number
  pub address_is : address ≡ address_of s c number

abbrev pub IsAttempt : Slots → ℕ → WordList → Draw → WordList → Type 0
IsAttempt s c old (Found address) new = FoundBy s c old address new
IsAttempt s c old (Missed last) new = MissedBy s c old last new
