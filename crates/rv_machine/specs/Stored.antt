-- Which bytes of the heap region an instruction changes: docs/infinite-heap.md, "Harmless accesses".
use Rattle.std.specs.Prelude.{ℕ, ◌≡◌, ◌+◌, ◌<◌, ⊤, Bool, true, List}
use Rattle.std.specs.List.{AllByRecursion}
use Rattle.std.specs.declared.option.Option.TheVariants.{None}
use Rattle.infinite_heap.specs.declared.access.AccessKind.TheVariants.{Store}
use Rattle.infinite_heap.specs.declared.access.Record.{Record}
use Rattle.infinite_heap.specs.declared.program.HeapName.{HeapName}
use Rattle.infinite_heap.specs.InfiniteHeap.{call_at}
use Rattle.infinite_heap.specs.InfiniteState.{InfState, InfStep, Blurs, records_of}
use Rattle.infinite_heap.specs.InfiniteStep.{inf_step}
use Rattle.infinite_heap.specs.Layout.{Layout, IsLayout, place}
use Rattle.infinite_heap.specs.Mapped.{Mapping}
use Rattle.infinite_heap.specs.Region.{in_region}
use Rattle.rv_machine.specs.Flat.{Flat, carried}
use Rattle.rv_machine.specs.Matches.{IsOutside, StateMatches}
use Rattle.rv_machine.specs.Steps.{next}

-- a record is of a store to an address
pub record StoresAt (l : Layout) (r : Record) (address : ℕ) : Type 0 where
  pub stores : r.kind ≡ Store
  pub byte : ℕ
  pub within : byte < r.access.width
  pub is : address ≡ place l r.access.object (r.access.offset + byte)

-- none of the records is
abbrev pub NoneStoresAt : Layout → List Record → (address : ℕ) → Type 0
NoneStoresAt l records address = AllByRecursion (λ r. ¬ (StoresAt l r address)) records

-- a step that doesn't blur
abbrev pub IsClearStep : InfStep → Type 0
IsClearStep (Blurs why records) = ⊥
IsClearStep step = ⊤

-- From matching states an instruction changes no byte of the heap region but where it records a store, unless it blurs.
abbrev pub StoresAreRecorded : Type 0
StoresAreRecorded =
    (l : Layout) → IsLayout l → (p : Mapping) → IsOutside p → (input : List ℕ) (names : List HeapName) (zeroed : Bool)
    → (s : InfState) (flat : Flat) → StateMatches l p s flat.guest.core → flat.guest.core.ended ≡ None → call_at names s.pc ≡ None → IsClearStep (inf_step p names zeroed input s)
    → (address : ℕ) → in_region address ≡ true → NoneStoresAt l (records_of (inf_step p names zeroed input s)) address
    → (carried input flat (next flat.guest.core)).guest.core.memory.bytes address ≡ flat.guest.core.memory.bytes address
