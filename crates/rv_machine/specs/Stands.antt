-- What a machine stands for, and what its stops say.
use Rattle.std.specs.Prelude.{◌≡◌, Bool, true, false, List, ℕ, Result, Ok, Err}
use Rattle.std.specs.declared.alloc.AllocError.{AllocError}
use Rattle.std.specs.declared.option.Option.TheVariants.{None}
use Rattle.rv_memory.specs.declared.space.Space.{Space}
use Rattle.exact_heap.specs.declared.heap.Heap.{Heap}
use Rattle.exact_heap.specs.History.{History}
use Rattle.exact_heap.specs.Heaps.{StandsFor, rules_of}
use Rattle.exact_heap.specs.Placing.{Rules}
use Rattle.rv_machine.specs.declared.machine.Machine.{Machine}
use Rattle.rv_machine.specs.declared.stop.Stop.{Stop}
use Rattle.rv_machine.specs.declared.stop.Stop.TheVariants as stop
use Rattle.rv_machine.specs.declared.stop.Waiting.{Waiting}
use Rattle.rv_machine.specs.declared.stop.Waiting.TheVariants.{Nothing}
use Rattle.rv_machine.specs.Core.{Core, Next, Reads, Prints, filled}
use Rattle.rv_machine.specs.Guest.{Guest, with_core}
use Rattle.rv_machine.specs.Harts as hart
use Rattle.rv_machine.specs.HeapCalls.{GuestNext, Carries, Returns, Lacks}
use Rattle.rv_machine.specs.Stops.{Stops}

abbrev pub core_of : Machine → Core
core_of machine = hart.core_of machine.hart

-- the heap, what it goes by, and the memory that it lies in
abbrev pub heap_in : Machine → Heap
heap_in machine = machine.heap

abbrev pub rules_in : Machine → Rules
rules_in machine = rules_of machine.heap

abbrev pub space_in : Machine → Space
space_in machine = machine.hart.space

-- the tag of the program's file
abbrev pub tag_in : Machine → ℕ
tag_in machine = machine.tag

-- what the machine waits for before its next step
abbrev pub waits : Machine → Waiting
waits machine = hart.waits machine.hart

-- memory was wanting, and the machine answers nothing else from then on
abbrev pub is_spent : Machine → Bool
is_spent machine = hart.is_spent machine.hart

-- The machine stands for this guest, and waits for an answer, or for nothing. It forgets much of a heap's history, so it
-- stands for more than one guest.
pub record AwaitsAt (g : Guest) (answer : Waiting) (machine : Machine) : Type 0 where
  pub core : core_of machine ≡ g.core
  pub names : machine.names.items ≡ g.names
  pub rules : rules_in machine ≡ g.rules
  pub history : StandsFor (heap_in machine) g.history
  pub waiting : waits machine ≡ answer
  pub sound : is_spent machine ≡ false

-- the guest that a machine stands for, by one history of its heap
abbrev pub guest_in : Machine → History → Guest
guest_in machine h = record { core = core_of machine; names = machine.names.items; rules = rules_in machine; history = h }

-- the guest hasn't ended, and waits for nothing
pub record IsReady (machine : Machine) : Type 0 where
  pub ready : waits machine ≡ Nothing
  pub sound : is_spent machine ≡ false
  pub going : (core_of machine).ended ≡ None

-- the machine stands for this guest, and can take a step
abbrev pub IsAt : Guest → Machine → Type 0
IsAt g machine = AwaitsAt g Nothing machine

-- what a step stops with, by what the step of this guest does, and what the machine then stands for
abbrev pub Steps : Guest → GuestNext → Stop → Machine → Type 0
Steps g (Carries n) stopped machine = Stops (λ core. IsAt (with_core g core) machine) (λ answer. AwaitsAt g answer machine) (is_spent machine ≡ true) g.core n stopped
Steps g (Returns to) stop.Going machine = IsAt to machine
Steps g (Returns to) stop.Memory machine = is_spent machine ≡ true
Steps g (Lacks used wanted to) (stop.Room used' wanted') machine = (used' ≡ used) × (wanted' ≡ wanted) × IsAt to machine
Steps g (Lacks used wanted to) stop.Memory machine = is_spent machine ≡ true
Steps g next other machine = ⊥

-- what giving these bytes leaves, where the guest's next step reads
abbrev pub Gives : Guest → Next → List ℕ → Result (Unit {0}) AllocError → Machine → Type 0
Gives g (Reads address len) bytes (Ok done) machine = IsAt (with_core g (filled g.core address bytes)) machine
Gives g next bytes (Ok done) machine = ⊥
Gives g next bytes (Err refused) machine = is_spent machine ≡ true

-- what finishing a write leaves
abbrev pub Finishes : Guest → Next → Machine → Type 0
Finishes g (Prints fd address len bytes core) machine = IsAt (with_core g core) machine
Finishes g next machine = ⊥
