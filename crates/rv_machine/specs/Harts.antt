-- What a hart stands for, and what its stops say.
use Rattle.std.specs.Prelude.{◌≡◌, Bool, true, false, List, ℕ, Result, Ok, Err}
use Rattle.std.specs.declared.alloc.AllocError.{AllocError}
use Rattle.exact_heap.specs.declared.signal.HeapRefusal.{HeapRefusal}
use Rattle.exact_heap.specs.declared.signal.HeapRefusal.TheVariants.{Room, Memory as NoMemory}
use Rattle.rv_memory.specs.Memory.{KeepsTaken}
use Rattle.rv_memory.specs.Spaces.{memory_of, taken_of}
use Rattle.rv_machine.specs.Core.{Core, Next, Goes, Faults, Reads, Prints, filled, register}
use Rattle.rv_machine.specs.HeapCalls.{back_with, roomed}
use Rattle.rv_machine.specs.Steps.{ecall}
use Rattle.rv_machine.specs.Stops.{Stops}
use Rattle.rv_machine.specs.declared.hart.Hart.{Hart}
use Rattle.rv_machine.specs.declared.outcome.Outcome.{Outcome}
use Rattle.rv_machine.specs.declared.outcome.Outcome.TheVariants as outcome
use Rattle.rv_machine.specs.declared.stop.Stop.{Stop}
use Rattle.rv_machine.specs.declared.stop.Stop.TheVariants as stop
use Rattle.rv_machine.specs.declared.stop.Waiting.{Waiting}
use Rattle.rv_machine.specs.declared.stop.Waiting.TheVariants.{Nothing}

abbrev pub core_of : Hart → Core
core_of hart = record {
  regs = hart.registers;
  pc = hart.pc;
  memory = memory_of hart.space;
  calls = hart.calls;
  steps = hart.steps;
  ended = hart.ended;
}

-- what the hart waits for before its next step
abbrev pub waits : Hart → Waiting
waits hart = hart.waiting

-- memory was wanting, and the hart answers nothing else from then on
abbrev pub is_spent : Hart → Bool
is_spent hart = hart.spent

-- the pages that were taken are taken
abbrev pub Keeps : Hart → Hart → Type 0
Keeps old new = KeepsTaken (taken_of old.space) (taken_of new.space)

-- the hart stands for this, and can take a step
pub record IsAt (core : Core) (hart : Hart) : Type 0 where
  pub stands : core_of hart ≡ core
  pub ready : waits hart ≡ Nothing
  pub sound : is_spent hart ≡ false

-- the hart stands for this, and waits for an answer
pub record AwaitsAt (core : Core) (answer : Waiting) (hart : Hart) : Type 0 where
  pub stands : core_of hart ≡ core
  pub waiting : waits hart ≡ answer
  pub sound : is_spent hart ≡ false

-- what a step stops with, by what the step of this core does, and what the hart then stands for
abbrev pub Steps : Core → Next → Stop → Hart → Type 0
Steps old next stop hart = Stops (λ core. IsAt core hart) (λ answer. AwaitsAt old answer hart) (is_spent hart ≡ true) old next stop

-- What carrying out an instruction comes to, by what the step of this core does. Unless it goes on nothing has changed.
abbrev pub Executes : Core → Next → Outcome → Hart → Type 0
Executes old (Goes core) outcome.Going hart = IsAt core hart
Executes old (Goes core) outcome.Memory hart = IsAt old hart
Executes old (Faults kind address) (outcome.Fault kind' address') hart = (kind' ≡ kind) × (address' ≡ address) × IsAt old hart
Executes old next outcome.Call hart = (next ≡ ecall old (register old 17)) × IsAt old hart
Executes old next other hart = ⊥

-- what giving these bytes leaves
abbrev pub Gives : Core → Next → List ℕ → Result (Unit {0}) AllocError → Hart → Type 0
Gives old (Reads address len) bytes (Ok done) hart = IsAt (filled old address bytes) hart
Gives old next bytes (Ok done) hart = ⊥
Gives old next bytes (Err refused) hart = is_spent hart ≡ true

-- what finishing a write leaves
abbrev pub Finishes : Next → Hart → Type 0
Finishes (Prints fd address len bytes core) hart = IsAt core hart
Finishes next hart = ⊥

-- what a heap call that returns to `back` comes to, by the heap's answer
abbrev pub Comes : Core → (back : ℕ) → Result ℕ HeapRefusal → Stop → Hart → Type 0
Comes core back (Ok address) stopped hart = (stopped ≡ stop.Going) × IsAt (back_with back address core) hart
Comes core back (Err (Room used wanted)) stopped hart = (stopped ≡ stop.Room used wanted) × IsAt (roomed used wanted core) hart
Comes core back (Err NoMemory) stopped hart = (stopped ≡ stop.Memory) × (is_spent hart ≡ true)
