-- When a guest with its heap and a state of the infinite-heap machine agree: docs/infinite-run.md, "The match with flat memory".
use Rattle.std.specs.Prelude.{ℕ, ◌≡◌, ◌<◌, List, length, All}
use Rattle.std.specs.declared.option.Option.TheVariants.{Some}
use Rattle.infinite_heap.specs.InfiniteRun.{InfRun}
use Rattle.infinite_heap.specs.InfiniteState.{InfState}
use Rattle.infinite_heap.specs.Lawful.{IsLawful}
use Rattle.infinite_heap.specs.Layout.{IsLayout}
use Rattle.infinite_heap.specs.Loaded.{Loaded}
use Rattle.infinite_heap.specs.Mapped.{Mapping}
use Rattle.infinite_heap.specs.Memory.{Written}
use Rattle.infinite_heap.specs.Region.{is_valid_alignment}
use Rattle.exact_heap.specs.Calls.{is_alignment}
use Rattle.exact_heap.specs.Dues.{KeepsDues}
use Rattle.exact_heap.specs.History.{History}
use Rattle.exact_heap.specs.Lawful as heap
use Rattle.rv_machine.specs.declared.ended.Ended.TheVariants.{Roomed}
use Rattle.rv_machine.specs.Flat.{Flat}
use Rattle.rv_machine.specs.Guest.{Guest}
use Rattle.rv_machine.specs.Laws.{AllBytes, StartsWithBytes}
use Rattle.rv_machine.specs.Matches.{IsMapped, StateMatches, RunMatches}
use Rattle.rv_machine.specs.Objects.{ObjectsMatch, layout_of}

-- the cells that were written are of objects that there are, so many
abbrev pub AreOfObjects : (count : ℕ) → List Written → Type 0
AreOfObjects count written = All (λ w. w.object < count) written

-- The guest stands for the state where its objects lie, its heap's history is lawful and has its miniheaps mapped, and what was
-- due by now was released.
pub record StatesAgree (p : Mapping) (s : InfState) (g : Guest) : Type 0 where
  pub objects : ObjectsMatch g.history s.objects
  pub state : StateMatches (layout_of g.history) p s g.core
  pub written : AreOfObjects (length s.objects) s.written
  pub mapped : IsMapped p g
  pub dues : KeepsDues g.history

-- so do the states of two runs, which have read and printed the same and have ended alike
pub record RunsAgree (p : Mapping) (run : InfRun) (flat : Flat) : Type 0 where
  pub matches : RunMatches p run flat
  pub written : AreOfObjects (length run.state.objects) run.state.written
  pub mapped : IsMapped p flat.guest
  pub dues : KeepsDues flat.guest.history

-- the guest ended in a heap call without room
pub record IsRoomed (flat : Flat) (used wanted : ℕ) : Type 0 where
  pub ended : flat.guest.core.ended ≡ Some (Roomed used wanted)

-- a program as it is loaded, with arguments and input that are bytes
pub record IsGiven (program : Loaded) (args : List (List ℕ)) (input : List ℕ) : Type 0 where
  pub lawful : IsLawful program
  pub starts : StartsWithBytes program args
  pub reads : AllBytes input

-- ---- laws

-- The objects of a lawful history lie apart, in the heap region.
abbrev pub HeapsAreLaidOut : Type 0
HeapsAreLaidOut = (h : History) → heap.IsLawful h → IsLayout (layout_of h)

-- The alignments that may be asked for on the infinite heap are those of the heap's calls.
abbrev pub AlignmentsAreOne : Type 0
AlignmentsAreOne = (align : ℕ) → is_alignment align ≡ is_valid_alignment align
