-- What a step stops with, by what an instruction does.
use Rattle.std.specs.Prelude.{◌≡◌, ◌≤◌, ℕ, true, List, length}
use Rattle.std.specs.declared.option.Option.TheVariants.{Some}
use Rattle.infinite_heap.specs.InfiniteSystem.{is_printed}
use Rattle.rv_memory.specs.Memory.{span}
use Rattle.rv_machine.specs.declared.ended.Ended.TheVariants.{Exited, Faulted, Roomed}
use Rattle.rv_machine.specs.declared.stop.Stop.{Stop}
use Rattle.rv_machine.specs.declared.stop.Stop.TheVariants as stop
use Rattle.rv_machine.specs.declared.stop.Waiting.{Waiting}
use Rattle.rv_machine.specs.declared.stop.Waiting.TheVariants.{ReadBytes, WriteDone}
use Rattle.rv_machine.specs.Core.{Core, Next, Goes, Faults, Reads, Prints, Exits, Stays, faulted}

-- `At core` says that the guest is at this core and can go on, `Awaits answer` that it is as it was and waits for an
-- answer, and `Spent` that memory was wanting
abbrev pub Stops : (At : Core → Type 0) → (Awaits : Waiting → Type 0) → (Spent : Type 0) → Core → Next → Stop → Type 0
Stops At Awaits Spent old (Goes core) stop.Going = At core
Stops At Awaits Spent old (Goes core) stop.Memory = Spent
Stops At Awaits Spent old (Faults kind address) (stop.Fault kind' pc address') = (kind' ≡ kind) × (pc ≡ old.pc) × (address' ≡ address) × At (faulted old kind address)
Stops At Awaits Spent old (Reads address len) (stop.Read address' len') = (address' ≡ address) × (len' ≡ len) × Awaits ReadBytes
Stops At Awaits Spent old (Prints fd address len bytes core) (stop.Write fd' address' len') = (fd' ≡ fd) × (address' ≡ address) × (len' ≡ len) × (span old.memory.bytes address len ≡ Some bytes) × (is_printed fd ≡ true) × Awaits WriteDone
Stops At Awaits Spent old (Exits code core) (stop.Ended code') = (code' ≡ code) × At core
Stops At Awaits Spent old (Stays (Exited code)) (stop.Ended code') = (code' ≡ code) × At old
Stops At Awaits Spent old (Stays (Faulted kind pc address)) (stop.Fault kind' pc' address') = (kind' ≡ kind) × (pc' ≡ pc) × (address' ≡ address) × At old
Stops At Awaits Spent old (Stays (Roomed used wanted)) (stop.Room used' wanted') = (used' ≡ used) × (wanted' ≡ wanted) × At old
Stops At Awaits Spent old next other = ⊥

-- the bytes that a guest may be given that waits for input
abbrev pub Takes : Next → Waiting → List ℕ → Type 0
Takes (Reads address len) ReadBytes bytes = length bytes ≤ len
Takes next waiting bytes = ⊥

-- the next step prints
abbrev pub IsPrint : Next → Type 0
IsPrint (Prints fd address len bytes core) = Unit {0}
IsPrint next = ⊥
