-- What a heap keeps stands for a history (docs/heap.md, "What is kept").
use Rattle.std.specs.Prelude.{◌≡◌, ℕ, ◌+◌, ◌<◌, ◌≤◌, Bool, true, false, ◌==◌, if◌then◌else◌, Option, Some, None, Result, Ok, Err}
use Rattle.std.specs.Option.{option_map}
use Rattle.deferral_queue.specs.Deferrals.{sorted_dues}
use Rattle.miniheap.specs.declared.place.SlotState.{SlotState}
use Rattle.miniheap.specs.declared.place.SlotState.TheVariants.{Free, Held, Bad}
use Rattle.miniheap.specs.declared.places.GrowRefusal.{GrowRefusal}
use Rattle.miniheap.specs.declared.places.GrowRefusal.TheVariants as grow
use Rattle.miniheap.specs.WordList.{HasSpent}
use Rattle.rv_memory.specs.declared.space.Space.{Space}
use Rattle.rv_memory.specs.Memory.{Memory, KeepsTaken}
use Rattle.rv_memory.specs.Spaces.{memory_of, taken_of}
use Rattle.exact_heap.specs.declared.parts.Parts.{Parts}
use Rattle.exact_heap.specs.declared.rows.Row.{Row}
use Rattle.exact_heap.specs.declared.slot_table.SlotTable.{SlotTable}
use Rattle.exact_heap.specs.declared.rules.Rules.{Rules as KeptRules}
use Rattle.exact_heap.specs.declared.signal.Signal.{Signal}
use Rattle.exact_heap.specs.declared.signal.HeapRefusal.{HeapRefusal}
use Rattle.exact_heap.specs.declared.signal.HeapRefusal.TheVariants.{Room, Memory as NoMemory}
use Rattle.exact_heap.specs.Counted.{counts_of}
use Rattle.exact_heap.specs.RowStore.{kept_row, HaveChunks}
use Rattle.exact_heap.specs.SeenSignals.{seen, with_signal}
use Rattle.exact_heap.specs.History.{History, address_of, slots_of, clock_of, frees_of, dues_from}
use Rattle.exact_heap.specs.Owners.{Owner, last_owner}
use Rattle.exact_heap.specs.Home.{IsHome}
use Rattle.exact_heap.specs.Placing.{HeapState, Rules, Outcome, room_left, search, search_from, release_due}
use Rattle.exact_heap.specs.Lawful.{IsLawful}

-- the row that is kept of a slot's last owner
abbrev pub row_of : Owner → Row
row_of owner = record {
  object = owner.number;
  freed = owner.object.freed;
  addr = address_of owner.object;
  size = owner.object.size;
  site = owner.object.site;
  free_site = owner.object.free_site;
}

-- the number of a row's state, by the clock of the free and by the slot's state
abbrev pub number_by : SlotState → ℕ
number_by Held = 1
number_by Free = 2
number_by Bad = 3

abbrev pub kept_number : (freed : ℕ) → SlotState → ℕ
kept_number freed state = if freed == 0 then 0 else number_by state

abbrev pub rules_from : KeptRules → Rules
rules_from r = record { patches = r.patches; zero = r.zero }

-- what a heap goes by
abbrev pub rules_in : Parts → Rules
rules_in p = rules_from p.rules

-- the slots are those of the history, and each has the row of its last owner. Of earlier owners nothing is kept
pub record TableStandsFor (t : SlotTable) (h : History) : Type 0 where
  pub grid : t.grid ≡ slots_of h
  pub rows : (slot : ℕ) → kept_row h.classes t.rows slot ≡ option_map row_of (last_owner h.objects slot)
  pub chunks : HaveChunks h.classes t.rows

-- everything that is kept is what the history gives
pub record PartsStandFor (p : Parts) (h : History) : Type 0 where
  pub seed : p.seed ≡ h.seed
  pub slots : TableStandsFor p.slots h
  pub words : HasSpent p.words h.seed h.spent
  pub dues : p.queue.dues ≡ sorted_dues (dues_from 0 h.objects)
  -- each owned object's free can be put off
  pub room : clock_of h ≤ p.queue.spare + frees_of h
  pub counts : p.counts ≡ counts_of h
  pub signals : p.signals ≡ seen h.signals
  pub ended : p.ended ≡ h.ended
  pub lawful : IsLawful h

-- what is kept stands for some history
abbrev pub IsSound : Parts → Type 0
IsSound p = ∥ ((h : History) × PartsStandFor p h) ∥₁

-- the guest's memory is as the heap asks
abbrev pub AtHome : Parts → Space → Type 0
AtHome p space = IsHome p.slots.grid (memory_of space) (taken_of space)

-- a history and the memory of a space
abbrev pub state_at : History → Space → HeapState
state_at h space = record { history = h; memory = memory_of space }

-- what is kept stands for a state's history, and the guest's memory is the state's
pub record IsAt (state : HeapState) (p : Parts) (memory : Memory) : Type 0 where
  pub stands : PartsStandFor p state.history
  pub bytes : memory ≡ state.memory

-- a state from which the search comes to the same
pub record Searches (class : ℕ) (state : HeapState) (p : Parts) (memory : Memory) : Type 0 where
  pub next : HeapState
  pub turns : ℕ
  pub is_at : IsAt next p memory
  pub few : room_left class p.slots.grid < turns
  pub same : search class state ≡ search_from turns class next

-- a state from which the same is released
pub record Releases (state : HeapState) (p : Parts) (memory : Memory) : Type 0 where
  pub next : HeapState
  pub is_at : IsAt next p memory
  pub same : release_due state ≡ release_due next

-- a call answers as it should, but for want of memory
abbrev pub Gives : {A : Type 0} → HeapState → Result A HeapRefusal → (result : Result A HeapRefusal) → Parts → Memory → Type 0
Gives state answer (Ok value) p memory = (answer ≡ Ok value) × IsAt state p memory
Gives state answer (Err (Room used wanted)) p memory = (answer ≡ Err (Room used wanted)) × IsAt state p memory
Gives state answer (Err NoMemory) p memory = Unit {0}

-- what holds unless memory was wanting
abbrev pub UnlessMemory : {A : Type 0} → Result A HeapRefusal → Type 0 → Type 0
UnlessMemory (Ok value) P = P
UnlessMemory (Err (Room used wanted)) P = P
UnlessMemory (Err NoMemory) P = Unit {0}

-- what a call that places an object leaves, or a part of it in which so many heap calls were made
pub record Places (call : HeapState → Outcome) (calls : ℕ) (old : Parts) (before : Space) (result : Result ℕ HeapRefusal) (new : Parts) (after : Space) : Type 0 where
  -- whatever history the heap stood for, it answers and leaves what the rules say
  pub gives : (h : History) → PartsStandFor old h → Gives (call (state_at h before)).state (call (state_at h before)).answer result new (memory_of after)
  pub sound : IsSound new
  pub home : UnlessMemory result (AtHome new after)
  pub taken : KeepsTaken (taken_of before) (taken_of after)
  pub rules : rules_in new ≡ rules_in old
  -- one object at most is placed
  pub counted : new.counts.clock ≤ old.counts.clock + 1
  pub numbered : new.counts.calls ≡ old.counts.calls + calls

-- what a signal, where there is one, adds to those that are kept
abbrev pub AddsSignal : Option Signal → (old new : Parts) → Type 0
AddsSignal None old new = new ≡ old
AddsSignal (Some signal) old new = new.signals ≡ with_signal old.signals signal

-- whether a call wanted memory
abbrev pub wanted_memory : Result ℕ HeapRefusal → Bool
wanted_memory (Ok address) = false
wanted_memory (Err (Room used wanted)) = false
wanted_memory (Err NoMemory) = true

-- why a class didn't grow, as a heap call says it
abbrev pub growth_refusal : GrowRefusal → HeapRefusal
growth_refusal (grow.Room used wanted) = Room used wanted
growth_refusal grow.Memory = NoMemory
