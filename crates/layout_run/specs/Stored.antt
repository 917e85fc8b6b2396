-- Bytes of a run that were stored to while no object held their slot: docs/heap.md, "Signals".
use Rattle.std.specs.Prelude.{◌≡◌, ℕ, suc, ◌<◌, ◌≤◌, true, List, length, Option, Some, None}
use Rattle.std.specs.Int.{w32, from_le_bytes}
use Rattle.infinite_heap.specs.declared.instr.Instr.{Instr}
use Rattle.infinite_heap.specs.declared.instr.Instr.TheVariants.{Store}
use Rattle.infinite_heap.specs.declared.instr.Operation.TheVariants.{Add}
use Rattle.infinite_heap.specs.Alu.{alu}
use Rattle.infinite_heap.specs.InfiniteStep.{imm_word}
use Rattle.infinite_heap.specs.InfiniteSystem.{taken}
use Rattle.infinite_heap.specs.Memory.{width_of}
use Rattle.infinite_heap.specs.Row.{row}
use Rattle.patch_table.specs.Table.{Table, IsBelow}
use Rattle.rv_memory.specs.Memory.{within, span, code_at}
use Rattle.exact_heap.specs.Unowned.{IsUnownedAt, IsFreshAt}
use Rattle.rv_machine.specs.Core.{Core, Next, Goes, Reads, register}
use Rattle.rv_machine.specs.Flat.{Flat, flat_step, with_guest}
use Rattle.rv_machine.specs.Guest.{with_patches, heap_of}
use Rattle.rv_machine.specs.HeapCalls.{GuestNext, Carries, guest_next}

-- ---- runs

-- a step of a run, before which the patches may have been raised
pub record IsStep (input : List ℕ) (before after : Flat) : Type 0 where
  pub patches : Table
  pub raised : IsBelow before.guest.rules.patches patches
  pub steps : after ≡ flat_step input (with_guest before (with_patches before.guest patches))

-- the states of a run's first n steps, each from the one before; step i goes from state i to the next
abbrev pub IsRun : (input : List ℕ) → (states : ℕ → Flat) → (n : ℕ) → Type 0
IsRun input states n = (i : ℕ) → i < n → IsStep input (states i) (states (suc i))

-- ---- stores

-- the instruction at pc
abbrev pub word_at : Option (List ℕ) → Option Instr
word_at None = None
word_at (Some word) = row (from_le_bytes w32 word)

abbrev pub instruction_at : Core → Option Instr
instruction_at core = word_at (span (code_at core.memory) core.pc 4)

-- an instruction stores to an address
abbrev pub StoresTo : Core → Option Instr → (address : ℕ) → Type 0
StoresTo core (Some (Store o rs1 rs2 imm)) address = within (alu Add (register core rs1) (imm_word imm)) (width_of o) address ≡ true
StoresTo core other address = ⊥

-- an instruction that goes stores to an address, or a read call puts bytes of the input there
abbrev pub WritesBy : (input : List ℕ) → Flat → Next → (address : ℕ) → Type 0
WritesBy input flat (Goes core) address = StoresTo flat.guest.core (instruction_at flat.guest.core) address
WritesBy input flat (Reads from len) address = within from (length (taken input flat.place len)) address ≡ true
WritesBy input flat next address = ⊥

-- a heap call is neither
abbrev pub WritesNext : (input : List ℕ) → Flat → GuestNext → (address : ℕ) → Type 0
WritesNext input flat (Carries next) address = WritesBy input flat next address
WritesNext input flat other address = ⊥

-- the next step writes an address: by a store or a read call, which are the same whatever the patches
abbrev pub Writes : (input : List ℕ) → Flat → (address : ℕ) → Type 0
Writes input flat address = WritesNext input flat (guest_next flat.guest) address

-- ---- slots that no object holds

-- an address lies in a slot that no object holds
abbrev pub IsUnowned : Flat → (address : ℕ) → Type 0
IsUnowned flat address = IsUnownedAt flat.guest.history address

-- each byte of the slot that an address lies in is the canary's
abbrev pub IsFresh : Flat → (address : ℕ) → Type 0
IsFresh flat address = IsFreshAt (heap_of flat.guest) address

-- the byte at an address
abbrev pub byte_in : Flat → (address : ℕ) → Option ℕ
byte_in flat address = flat.guest.core.memory.bytes address

-- In the first n steps of a run an address was stored to while no object held its slot, and that left a value there.
pub record WasStored (input : List ℕ) (states : ℕ → Flat) (n address value : ℕ) : Type 0 where
  -- the step by which its slot was made, or last filled with the canary
  pub made : ℕ
  pub before : ¬ (IsUnowned (states made) address)
  pub fresh : IsFresh (states (suc made)) address
  -- since then no object has held it
  pub unowned : (i : ℕ) → made < i → i ≤ n → IsUnowned (states i) address
  -- the last step that wrote it, and what that left
  pub last : ℕ
  pub later : made < last
  pub within : last < n
  pub writes : Writes input (states last) address
  pub none : (i : ℕ) → last < i → i < n → ¬ (Writes input (states i) address)
  pub left : byte_in (states (suc last)) address ≡ Some value
  pub stays : byte_in (states n) address ≡ Some value
