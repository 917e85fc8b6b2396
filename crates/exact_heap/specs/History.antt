-- A heap's history: what has happened so far, and nothing forgotten (docs/heap.md, "History").
use Rattle.std.specs.Prelude.{ℕ, ◌+◌, Bool, true, false, not, List, [], ◌∷◌, ◌++◌, length, map, filter, count_by}
use Rattle.std.specs.Ordering.{nat_cmp}
use Rattle.std.specs.FinSet.{FinSet, empty, from_list}
use Rattle.deferral_queue.specs.declared.Due.{Due}
use Rattle.miniheap.specs.Slots.{Slots}
use Rattle.miniheap.specs.WordList.{canary_of}
use Rattle.exact_heap.specs.declared.signal.Signal.{Signal}

-- what has become of an object. A released object had its due, which is the clock of its free where that was not put off
pub data ObjectState : Type 0 where
  Owned : ObjectState
  Deferred : (due : ℕ) → ObjectState
  Released : (due : ℕ) → ObjectState

pub record Object : Type 0 where
  -- the address of its slot
  pub slot : ℕ
  -- how many bytes of the slot lie before it
  pub front : ℕ
  pub alignment : ℕ
  -- its slot has 2 ^ class bytes
  pub class : ℕ
  pub size : ℕ
  -- the site that allocated it
  pub site : ℕ
  pub state : ObjectState
  -- the site that freed it, and the clock at that time; 0 before
  pub free_site : ℕ
  pub freed : ℕ

pub record History : Type 0 where
  -- the class of each miniheap, in order of creation
  pub classes : List ℕ
  -- every object there ever was, in order of number
  pub objects : List Object
  -- the slots whose canary was found broken
  pub bad : FinSet nat_cmp
  -- all signals, in order
  pub signals : List Signal
  pub seed : ℕ
  -- how many words of the seed draws have used
  pub spent : ℕ
  -- how many heap calls were made
  pub calls : ℕ
  -- whether the check at the end was made
  pub ended : Bool

-- the history of a new heap
abbrev pub no_history : (seed : ℕ) → History
no_history seed = record { classes = []; objects = []; bad = empty; signals = []; seed = seed; spent = 0; calls = 0; ended = false }

abbrev pub slot_of : Object → ℕ
slot_of o = o.slot

abbrev pub address_of : Object → ℕ
address_of o = o.slot + o.front

abbrev pub is_owned : ObjectState → Bool
is_owned Owned = true
is_owned (Deferred due) = false
is_owned (Released due) = false

-- owned and deferred objects hold their slots
abbrev pub is_held : ObjectState → Bool
is_held Owned = true
is_held (Deferred due) = true
is_held (Released due) = false

abbrev pub holds_slot : Object → Bool
holds_slot o = is_held o.state

-- the addresses of the slots that are held
unfoldable pub held_by : List Object → FinSet nat_cmp
held_by objects = from_list (map slot_of (filter holds_slot objects))

-- which slots are held, bad and free
abbrev pub slots_of : History → Slots
slots_of h = record { classes = h.classes; held = held_by h.objects; bad = h.bad }

-- the word of the canary
abbrev pub canary_in : History → ℕ
canary_in h = canary_of h.seed

-- the clock counts the objects
abbrev pub clock_of : History → ℕ
clock_of h = length h.objects

-- every free that took effect
abbrev pub frees_of : History → ℕ
frees_of h = count_by (λ o. not (is_owned o.state)) h.objects

-- the deferred objects' entries, from an object's number on
abbrev pub due_entry : (number : ℕ) → Object → ObjectState → List Due
due_entry number o Owned = []
due_entry number o (Deferred due) = record { due = due; object = number; addr = slot_of o } ∷ []
due_entry number o (Released due) = []

abbrev pub dues_from : (number : ℕ) → List Object → List Due
dues_from number [] = []
dues_from number (o ∷ os) = due_entry number o o.state ++ dues_from (number + 1) os
