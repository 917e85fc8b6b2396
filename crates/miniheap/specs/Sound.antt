-- What the fields of a grid stand for.
use Rattle.std.specs.Prelude.{◌≡◌, ℕ, ◌≤◌, Bool, true, false, cond, nat_eq, List, [], ◌∷◌, length, map, get_or}
use Rattle.std.specs.List.{flat_map}
use Rattle.std.specs.FinSet.{from_list}
use Rattle.miniheap.specs.Layout.{Mini, minis, all_slots}
use Rattle.miniheap.specs.Slots.{Slots, is_free_state, taken_count}
use Rattle.miniheap.specs.declared.place.SlotState.{SlotState}
use Rattle.miniheap.specs.declared.place.SlotState.TheVariants.{Free, Held, Bad}
use Rattle.miniheap.specs.declared.place.Slot.{Slot}
use Rattle.miniheap.specs.declared.place.SlotPlace.{SlotPlace}

-- ---- what is held and what is bad

abbrev pub is_held_state : SlotState → Bool
is_held_state Free = false
is_held_state Held = true
is_held_state Bad = false

abbrev pub is_bad_state : SlotState → Bool
is_bad_state Free = false
is_bad_state Held = false
is_bad_state Bad = true

-- the addresses whose states pass a test
abbrev pub chosen : (SlotState → Bool) → List ℕ → List SlotState → List ℕ
chosen test [] states = []
chosen test (a ∷ rest) [] = []
chosen test (a ∷ rest) (t ∷ ts) = cond (test t) (a ∷ chosen test rest ts) (chosen test rest ts)

-- the states of a miniheap's slots, and those of all slots, in order
abbrev pub states_at : List (List SlotState) → ℕ → List SlotState
states_at ls i = get_or ls i []

abbrev pub all_states : List (List SlotState) → List SlotState
all_states ls = flat_map (λ ts. ts) ls

abbrev pub stands_for : (classes : List ℕ) → List (List SlotState) → Slots
stands_for classes ls = record {
  classes = classes;
  held = from_list (chosen is_held_state (all_slots (minis classes)) (all_states ls));
  bad = from_list (chosen is_bad_state (all_slots (minis classes)) (all_states ls));
}

-- where a slot lies
abbrev pub place_of : Slot → SlotPlace
place_of t = record { addr = t.addr; class = t.class; mini = t.mini; nth = t.nth }

-- ---- the numbers that are kept

-- how many slots a change frees, and how many it takes
abbrev pub frees : SlotState → ℕ
frees t = cond (is_free_state t) 1 0

abbrev pub takes : SlotState → ℕ
takes t = cond (is_free_state t) 0 1

-- the same of a class, where the slot that changes has this one
abbrev pub freed_by : SlotState → (class c : ℕ) → ℕ
freed_by t class c = cond (is_free_state t) (cond (nat_eq class c) 1 0) 0

abbrev pub taken_by : SlotState → (class c : ℕ) → ℕ
taken_by t class c = cond (is_free_state t) 0 (cond (nat_eq class c) 1 0)

-- each slot of the miniheaps has a state
abbrev pub HaveStates : List Mini → List (List SlotState) → Type 0
HaveStates ms ls = map (λ ts. length ts) ls ≡ map (λ m. m.slots) ms

pub record IsSound (classes : List ℕ) (ls : List (List SlotState)) (taken : List ℕ) : Type 0 where
  pub states_are : HaveStates (minis classes) ls
  pub taken_are : (c : ℕ) → 4 ≤ c → c ≤ 22 → get_or taken c 0 ≡ taken_count (stands_for classes ls) c
