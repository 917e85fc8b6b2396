-- Which states the words of a bitmap stand for.
use Rattle.std.specs.Prelude.{ℕ, ◌*◌, ◌/◌, ◌%◌, ◌≤◌, nat_eq, cond, List, length, map, get_or}
use Rattle.std.specs.Int.{bit_at}
use Rattle.std.specs.List.{range_with_len}
use Rattle.miniheap.specs.declared.place.SlotState.{SlotState}
use Rattle.miniheap.specs.declared.place.SlotState.TheVariants.{Free, Held, Bad}
use Rattle.miniheap.specs.declared.states.Marks.{Marks}
use Rattle.miniheap.specs.declared.states.States.TheInside.{Inside}

abbrev pub state_by : (held bad : ℕ) → SlotState
state_by held bad = cond (nat_eq held 1) Held (cond (nat_eq bad 1) Bad Free)

-- the state of one of the 64 slots of a word
abbrev pub state_of_bit : Marks → ℕ → SlotState
state_of_bit m i = state_by (bit_at m.held i) (bit_at m.bad i)

-- the state of slot n
abbrev pub state_in : List Marks → ℕ → SlotState
state_in words n = state_of_bit (get_or words (n / 64) (record { held = 0; bad = 0 })) (n % 64)

abbrev pub states_in : List Marks → ℕ → List SlotState
states_in words slots = map (state_in words) (range_with_len 0 slots)

abbrev pub states_of : Inside → List SlotState
states_of s = states_in s.words.items s.slots

-- each slot has its bits
abbrev pub have_words : Inside → Type 0
have_words s = s.slots ≤ length s.words.items * 64
