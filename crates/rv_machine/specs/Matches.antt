-- When a state of the infinite-heap machine and a guest on flat memory match: docs/infinite-heap.md, "Layouts".
use Rattle.std.specs.Prelude.{◌≡◌, ℕ, ◌+◌, ◌<◌, ◌^◌, ⊤, true, false, nat_lt, List, length, slice_index, unwrap_or, is_some}
use Rattle.std.specs.declared.option.Option.{Option}
use Rattle.std.specs.declared.option.Option.TheVariants.{Some, None}
use Rattle.infinite_heap.specs.InfiniteState as inf
use Rattle.infinite_heap.specs.InfiniteState.{InfState, InfStep, cells_of_state}
use Rattle.infinite_heap.specs.InfiniteRun.{InfRun, InfEnding, InfExit, InfFault}
use Rattle.infinite_heap.specs.InfiniteSystem.{taken}
use Rattle.infinite_heap.specs.Layout.{Layout, AreAlignments, Stands, AllHarmless}
use Rattle.infinite_heap.specs.Mapped.{Mapping}
use Rattle.infinite_heap.specs.Memory.{Matches}
use Rattle.infinite_heap.specs.Objects.{alignment_in}
use Rattle.infinite_heap.specs.Region.{in_region}
use Rattle.rv_memory.specs.Memory.{Memory, IsBounded}
use Rattle.exact_heap.specs.History.{slots_of}
use Rattle.exact_heap.specs.Home.{IsHome}
use Rattle.exact_heap.specs.Lawful.{IsLawful}
use Rattle.rv_machine.specs.Core as flat
use Rattle.rv_machine.specs.Core.{Core, Next, filled}
use Rattle.rv_machine.specs.declared.ended.Ended.{Ended}
use Rattle.rv_machine.specs.declared.ended.Ended.TheVariants.{Exited, Faulted}
use Rattle.rv_machine.specs.Flat.{Flat}
use Rattle.rv_machine.specs.Guest.{Guest}
use Rattle.rv_machine.specs.Objects.{ObjectsMatch, layout_of}

-- a program maps nothing of the heap region
abbrev pub IsOutside : Mapping → Type 0
IsOutside p = (x : ℕ) → in_region x ≡ true → (p.mapped x ≡ false) × (p.writable x ≡ false) × (p.runs x ≡ false)

-- the byte at an address, zero where none is mapped
abbrev pub bytes_in : Memory → ℕ → ℕ
bytes_in memory x = unwrap_or (memory.bytes x) 0

-- Outside the heap region the two machines agree on what is mapped, may be written to and may be run. Inside it
-- exactly the miniheaps are mapped; they may be written to, and never run.
pub record MapsAlike (l : Layout) (p : Mapping) (memory : Memory) : Type 0 where
  pub mapped : (x : ℕ) → in_region x ≡ false → is_some (memory.bytes x) ≡ p.mapped x
  pub writable : (x : ℕ) → in_region x ≡ false → memory.writable x ≡ p.writable x
  pub runs : (x : ℕ) → in_region x ≡ false → memory.runs x ≡ p.runs x
  pub heap_mapped : (x : ℕ) → in_region x ≡ true → is_some (memory.bytes x) ≡ nat_lt x l.top
  pub heap_writable : (x : ℕ) → in_region x ≡ true → memory.writable x ≡ nat_lt x l.top
  pub heap_runs : (x : ℕ) → in_region x ≡ true → memory.runs x ≡ false
  pub bounded : IsBounded memory

-- what is mapped in a guest's memory is what its program and its heap have there; the heap's history is lawful
pub record IsMapped (p : Mapping) (g : Guest) : Type 0 where
  pub lawful : IsLawful g.history
  pub maps : MapsAlike (layout_of g.history) p g.core.memory
  -- what a heap asks of the memory, but for the pages that are taken
  pub home : IsHome (slots_of g.history) g.core.memory (λ page. true)

pub record StateMatches (l : Layout) (p : Mapping) (s : InfState) (t : Core) : Type 0 where
  pub pc : s.pc ≡ t.pc
  pub pc_fits : t.pc < 2 ^ 32
  pub steps : s.steps ≡ t.steps
  pub calls : s.calls ≡ t.calls
  pub count : length s.objects ≡ l.count
  pub aligned : AreAlignments l (alignment_in s.objects)
  pub width : length t.regs ≡ 32
  pub fits : (r : ℕ) → r < 32 → slice_index t.regs r < 2 ^ 32
  pub regs : (r : ℕ) → r < 32 → Stands l (s.regs r) (slice_index t.regs r)
  pub maps : MapsAlike l p t.memory
  pub memory : Matches l (cells_of_state s) (bytes_in t.memory)

-- what matching steps lead to, for the input given
abbrev pub StepMatches : Layout → Mapping → (input : List ℕ) → InfState → Core → InfStep → Next → Type 0
StepMatches l p input s t (inf.Goes s' records) (flat.Goes t') = AllHarmless l records → StateMatches l p s' t' × (s'.place ≡ s.place) × (t'.ended ≡ t.ended)
StepMatches l p input s t (inf.Reads len s' records) (flat.Reads address len') = AllHarmless l records → StateMatches l p s' (filled t address (taken input s.place len)) × (len' ≡ len) × (s'.place ≡ s.place + length (taken input s.place len))
StepMatches l p input s t (inf.Prints fd bytes s' records) (flat.Prints fd' address len bytes' t') = AllHarmless l records → StateMatches l p s' t' × (fd' ≡ fd) × (bytes' ≡ bytes) × (s'.place ≡ s.place) × (t'.ended ≡ t.ended)
StepMatches l p input s t (inf.Exits code s') (flat.Exits code' t') = StateMatches l p s' t' × (code' ≡ code) × (s'.place ≡ s.place) × (t'.ended ≡ Some (Exited code))
StepMatches l p input s t (inf.Faults kind records) (flat.Faults kind' address) = AllHarmless l records → kind' ≡ kind
StepMatches l p input s t (inf.Blurs why records) next = ⊤
StepMatches l p input s t (inf.Goes s' records) other = AllHarmless l records → ⊥
StepMatches l p input s t (inf.Reads len s' records) other = AllHarmless l records → ⊥
StepMatches l p input s t (inf.Prints fd bytes s' records) other = AllHarmless l records → ⊥
StepMatches l p input s t (inf.Exits code s') other = ⊥
StepMatches l p input s t (inf.Faults kind records) other = AllHarmless l records → ⊥

-- the endings are one, but for a fault's address
abbrev pub SameEnding : Option InfEnding → Option Ended → Type 0
SameEnding None None = ⊤
SameEnding (Some (InfExit code)) (Some (Exited code')) = code' ≡ code
SameEnding (Some (InfFault kind pc)) (Some (Faulted kind' pc' address)) = (kind' ≡ kind) × (pc' ≡ pc)
SameEnding ending other = ⊥

-- a run that is clear so far, over the objects of the flat guest's history and where they lie
pub record RunMatches (p : Mapping) (run : InfRun) (flat' : Flat) : Type 0 where
  pub objects : ObjectsMatch flat'.guest.history run.state.objects
  pub state : StateMatches (layout_of flat'.guest.history) p run.state flat'.guest.core
  pub place : flat'.place ≡ run.state.place
  pub out : flat'.out ≡ run.out
  pub err : flat'.err ≡ run.err
  pub ending : SameEnding run.ending flat'.guest.core.ended
