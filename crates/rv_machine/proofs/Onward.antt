-- A step keeps what is mapped and what may be written to, its steps don't go down, and an ended guest stays ended.
use Rattle.std.proofs.Common.{◌≡◌, ℕ, ◌+◌, ◌-◌, ◌*◌, ◌%◌, ◌/◌, ◌^◌, ◌≤◌, Bool, true, false, cond, not, ◌&&◌, ◌==◌, List, length, get_or, Option, None, Some, refl, sym, subst, ap, ◌∙◌, arith, is_some}
use Rattle.std.proofs.lemmas.List.{length-take}
use Rattle.std.specs.Int.{w32, from_le_bytes}
use Rattle.infinite_heap.specs.declared.fault.FaultKind.{FaultKind}
use Rattle.infinite_heap.specs.declared.fault.FaultKind.TheVariants as fault
use Rattle.infinite_heap.specs.declared.instr.Instr.{Instr}
use Rattle.infinite_heap.specs.declared.instr.Instr.TheVariants as instr
use Rattle.infinite_heap.specs.declared.instr.Op.{Op}
use Rattle.infinite_heap.specs.declared.instr.Op.TheVariants as op
use Rattle.infinite_heap.specs.declared.instr.Operation.{Operation}
use Rattle.infinite_heap.specs.declared.instr.Operation.TheVariants.{Add}
use Rattle.infinite_heap.specs.Alu.{alu}
use Rattle.infinite_heap.specs.Calls.{after_jal, after_jalr}
use Rattle.infinite_heap.specs.InfiniteState.{after}
use Rattle.infinite_heap.specs.InfiniteStep.{imm_word}
use Rattle.infinite_heap.specs.InfiniteSystem.{is_read, is_write, is_exit, is_printed, no_call, bad_descriptor, bad_span}
use Rattle.infinite_heap.specs.Memory.{width_of, bytes_from}
use Rattle.infinite_heap.specs.Operations.{operation_of}
use Rattle.infinite_heap.specs.Row.{row}
use Rattle.rv_memory.specs.Memory.{Memory, IsBounded, within, span, code_at, can_write, is_lawful, with_bytes}
use Rattle.rv_memory.specs.Laws.{at_each, from_each}
use Rattle.rv_machine.specs.Core.{Core, Next, Goes, Faults, Reads, Prints, Exits, register, with_register, stepped, passed, exited, filled, faulted}
use Rattle.rv_machine.specs.Steps.{jumped, holds, loaded_from, operate, answers, read_call, prints, write_call, ecall, system, executed, decoded, fetched, next, next_of}
use Rattle.rv_machine.specs.declared.ended.Ended.{Ended}
use Rattle.rv_machine.proofs.Spanned.{two_ways, within-parts}

-- ---- memory

pub record SameMap (old new : Memory) : Type 0 where
  pub mapped : (a : ℕ) → is_some (new.bytes a) ≡ is_some (old.bytes a)
  pub writable : (a : ℕ) → new.writable a ≡ old.writable a

same : (m : Memory) → SameMap m m
same m = record { mapped = λ a. refl; writable = λ a. refl }

-- bytes that are written where they may be map nothing
written : (m : Memory) (from : ℕ) (bytes : List ℕ) → IsBounded m → can_write m from (length bytes) ≡ true → SameMap m (with_bytes m from bytes)
written m from bytes bounded can = record {
  mapped = λ a. two_ways (within from (length bytes) a) (λ t. is_some (cond t (Some (get_or bytes (a - from) 0)) (m.bytes a)) ≡ is_some (m.bytes a))
      (λ e. let p = within-parts from (length bytes) a e in sym (bounded.writable_mapped a (at_each m.writable from (length bytes) a can p.0 p.1)))
      (λ e. refl);
  writable = λ a. refl;
}

fewer : (m : Memory) (from few many : ℕ) → few ≤ many → can_write m from many ≡ true → can_write m from few ≡ true
fewer m from few many h can = from_each m.writable from few (λ a lo hi. at_each m.writable from many a can lo (omega arith))

-- ---- one core after another

pub record Onward (old new : Core) : Type 0 where
  pub map : SameMap old.memory new.memory
  pub steps : old.steps ≤ new.steps
  pub going : new.ended ≡ None → old.ended ≡ None

-- what goes on, prints or exits is onward, and what is read may be written
abbrev pub Leads : Core → Next → Type 0
Leads core (Goes to) = Onward core to
Leads core (Prints fd address len bytes to) = Onward core to
Leads core (Exits code to) = Onward core to
Leads core (Reads address len) = (can_write core.memory address len ≡ true) × (core.ended ≡ None)
Leads core n = Unit {0}

pub here : (core : Core) → Onward core core
here core = record { map = same core.memory; steps = omega arith; going = λ e. e }

on-with : (core to : Core) → to.memory ≡ core.memory → to.steps ≡ core.steps + 1 → to.ended ≡ core.ended → Onward core to
on-with core to m s e = record { map = subst (SameMap core.memory) (sym m) (same core.memory); steps = omega arith; going = λ n. sym e ∙ n }

choose : (core : Core) (b : Bool) (x y : Next) → (b ≡ true → Leads core x) → (b ≡ false → Leads core y) → Leads core (cond b x y)
choose core true x y one two = one refl
choose core false x y one two = two refl

jumps : (core to : Core) (target : ℕ) → to.memory ≡ core.memory → to.steps ≡ core.steps → to.ended ≡ core.ended → Leads core (jumped to target)
jumps core to target m s e = choose core (target % 4 == 0) (Goes (record to { pc = target; steps = to.steps + 1 })) (Faults fault.Jump target)
    (λ t. on-with core (record to { pc = target; steps = to.steps + 1 }) m (ap (λ (n : ℕ). n + 1) s) e) (λ t. tt)

steps-over : (core : Core) (rd n : ℕ) → Onward core (stepped core rd n)
steps-over core rd n = on-with core (stepped core rd n) refl refl refl

passes : (core : Core) → Onward core (passed core)
passes core = on-with core (passed core) refl refl refl

loads : (core : Core) (o : Op) (rd address : ℕ) (s : Option (List ℕ)) → Leads core (loaded_from core o rd address s)
loads core o rd address None = tt
loads core o rd address (Some bytes) = steps-over core rd _

operates : (core : Core) (rd : ℕ) (o : Option Operation) (x y : ℕ) → Leads core (operate core rd o x y)
operates core rd None x y = tt
operates core rd (Some o) x y = steps-over core rd _

prints-on : (core : Core) (fd address len : ℕ) (s : Option (List ℕ)) → Leads core (prints core fd address len s)
prints-on core fd address len None = steps-over core 10 bad_span
prints-on core fd address len (Some bytes) = steps-over core 10 len

second : (a b : Bool) → (a && b) ≡ true → b ≡ true
second true b is = is
second false b is = absurd (cc)

reads : (core : Core) (fd address len : ℕ) → core.ended ≡ None → Leads core (read_call core fd address len)
reads core fd address len e =
    choose core (not (fd == 0)) (answers core bad_descriptor) _ (λ t. steps-over core 10 bad_descriptor) (λ t.
    choose core (len == 0) (answers core 0) _ (λ t. steps-over core 10 0) (λ t.
    choose core (is_lawful core.memory address len true) (Reads address len) (answers core bad_span) (λ t. (second _ _ t, e)) (λ t. steps-over core 10 bad_span)))

writes : (core : Core) (fd address len : ℕ) → Leads core (write_call core fd address len)
writes core fd address len =
    choose core (not (is_printed fd)) (answers core bad_descriptor) _ (λ t. steps-over core 10 bad_descriptor) (λ t.
    choose core (len == 0) (answers core 0) _ (λ t. steps-over core 10 0) (λ t.
    choose core (is_lawful core.memory address len false) (prints core fd address len (span core.memory.bytes address len)) (answers core bad_span) (λ t. prints-on core fd address len (span core.memory.bytes address len)) (λ t. steps-over core 10 bad_span)))

exits : (core : Core) (code : ℕ) → core.ended ≡ None → Onward core (exited core code)
exits core code e = record { map = same core.memory; steps = omega arith; going = λ n. e }

calls : (core : Core) (a7 : ℕ) → core.ended ≡ None → Leads core (ecall core a7)
calls core a7 e =
    choose core (is_exit a7) (Exits (register core 10 % 256) (exited core (register core 10 % 256))) _ (λ t. exits core (register core 10 % 256) e) (λ t.
    choose core (is_read a7) (read_call core (register core 10) (register core 11) (register core 12)) _ (λ t. reads core (register core 10) (register core 11) (register core 12) e) (λ t.
    choose core (is_write a7) (write_call core (register core 10) (register core 11) (register core 12)) (answers core no_call) (λ t. writes core (register core 10) (register core 11) (register core 12)) (λ t. steps-over core 10 no_call)))

systems : (core : Core) (o : Op) → core.ended ≡ None → Leads core (system core o)
systems core op.Ecall e = calls core (register core 17) e
systems core op.Ebreak e = tt
systems core op.Fence e = passes core
systems core op.FenceI e = passes core
systems core o e = tt

stores : (core : Core) (address : ℕ) (bytes : List ℕ) (width : ℕ) → IsBounded core.memory → length bytes ≤ width → can_write core.memory address width ≡ true → Onward core (record (passed core) { memory = with_bytes core.memory address bytes })
stores core address bytes width bounded long can = record {
  map = written core.memory address bytes bounded (fewer core.memory address (length bytes) width long can);
  steps = omega arith;
  going = λ n. n;
}

few-bytes : (w x : ℕ) → length (bytes_from w x) ≤ w
few-bytes w x = omega (arith, length-take {A = ℕ})

executes : (core : Core) (i : Instr) → IsBounded core.memory → core.ended ≡ None → Leads core (executed core i)
executes core (instr.Alu o rd rs1 rs2) bounded e = operates core rd (operation_of o) (register core rs1) (register core rs2)
executes core (instr.AluImm o rd rs1 imm) bounded e = operates core rd (operation_of o) (register core rs1) (imm_word imm)
executes core (instr.Lui rd top) bounded e = steps-over core rd (top * 4096)
executes core (instr.Auipc rd top) bounded e = steps-over core rd ((core.pc + top * 4096) % 2 ^ 32)
executes core (instr.Jal rd imm) bounded e = jumps core (record core { regs = with_register core.regs rd (after core.pc); calls = after_jal rd (after core.pc) core.calls }) ((core.pc + imm_word imm) % 2 ^ 32) refl refl refl
executes core (instr.Jalr rd rs1 imm) bounded e = jumps core (record core { regs = with_register core.regs rd (after core.pc); calls = after_jalr rd rs1 (after core.pc) core.calls }) (alu Add (register core rs1) (imm_word imm) / 2 * 2) refl refl refl
executes core (instr.Branch o rs1 rs2 imm) bounded e = choose core (holds o (register core rs1) (register core rs2)) (jumped core ((core.pc + imm_word imm) % 2 ^ 32)) (Goes (passed core)) (λ t. jumps core core ((core.pc + imm_word imm) % 2 ^ 32) refl refl refl) (λ t. passes core)
executes core (instr.Load o rd rs1 imm) bounded e =
    let address : ℕ = alu Add (register core rs1) (imm_word imm) in
    choose core (not (address % width_of o == 0)) (Faults fault.LoadAlign address) (loaded_from core o rd address (span core.memory.bytes address (width_of o))) (λ t. tt) (λ t. loads core o rd address (span core.memory.bytes address (width_of o)))
executes core (instr.Store o rs1 rs2 imm) bounded e =
    let address : ℕ = alu Add (register core rs1) (imm_word imm) in
    choose core (not (address % width_of o == 0)) (Faults fault.StoreAlign address) _ (λ t. tt) (λ t.
    choose core (can_write core.memory address (width_of o)) (Goes (record (passed core) { memory = with_bytes core.memory address (bytes_from (width_of o) (register core rs2)) })) (Faults fault.Store address) (λ can. stores core address (bytes_from (width_of o) (register core rs2)) (width_of o) bounded (few-bytes (width_of o) (register core rs2)) can) (λ t. tt))
executes core (instr.System o) bounded e = systems core o e

decodes : (core : Core) (i : Option Instr) → IsBounded core.memory → core.ended ≡ None → Leads core (decoded core i)
decodes core None bounded e = tt
decodes core (Some i) bounded e = executes core i bounded e

fetches : (core : Core) (s : Option (List ℕ)) → IsBounded core.memory → core.ended ≡ None → Leads core (fetched core s)
fetches core None bounded e = tt
fetches core (Some word) bounded e = decodes core (row (from_le_bytes w32 word)) bounded e

leads-of : (core : Core) (ended : Option Ended) → core.ended ≡ ended → IsBounded core.memory → Leads core (next_of core ended)
leads-of core None e bounded = fetches core (span (code_at core.memory) core.pc 4) bounded e
leads-of core (Some ended) e bounded = tt

pub leads : (core : Core) → IsBounded core.memory → Leads core (next core)
leads core bounded = leads-of core core.ended refl bounded

pub faults-on : (core : Core) (kind : FaultKind) (address : ℕ) → Onward core (faulted core kind address)
faults-on core kind address = record { map = same core.memory; steps = omega arith; going = λ n. absurd (cc) }

pub fills : (core : Core) (address len : ℕ) (bytes : List ℕ) → IsBounded core.memory → Leads core (Reads address len) → length bytes ≤ len → Onward core (filled core address bytes)
fills core address len bytes bounded l few = record {
  map = written core.memory address bytes bounded (fewer core.memory address (length bytes) len few l.0);
  steps = omega arith;
  going = λ n. l.1;
}
