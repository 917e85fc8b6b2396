-- What one step of the guest and its read come to: docs/guest.md, "Step by step".
use Rattle.std.specs.Prelude.{◌≡◌, ℕ, ◌+◌, ◌<◌, ◌≤◌, true, false, List, length, drop, max, Option, None, Some, Result, Ok, Err, IfSome}
use Rattle.ex_io.specs.Causes.{Rose}
use Rattle.ex_io.specs.Tape.{Track, InputStays, begins, most_kept, part, input as unread}
use Rattle.infinite_heap.specs.InfiniteSystem.{is_printed}
use Rattle.exact_heap.specs.Heaps.{StandsFor}
use Rattle.exact_heap.specs.History.{History}
use Rattle.rv_memory.specs.Memory.{span}
use Rattle.rv_machine.specs.declared.ended.Ended.{Ended}
use Rattle.rv_machine.specs.declared.ended.Ended.TheVariants.{Exited, Faulted, Roomed}
use Rattle.rv_machine.specs.declared.machine.Machine.{Machine}
use Rattle.rv_machine.specs.declared.stop.Waiting.TheVariants.{WriteDone}
use Rattle.rv_machine.specs.Core.{Core, Next, Goes, Faults, Reads, Prints, Exits, Stays, filled, faulted}
use Rattle.rv_machine.specs.Flat.{Flat, after_step}
use Rattle.rv_machine.specs.Guest.{Guest, with_core}
use Rattle.rv_machine.specs.HeapCalls.{GuestNext, Carries, Returns, Lacks, guest_next}
use Rattle.rv_machine.specs.Stands.{AwaitsAt, IsAt, IsReady, core_of, heap_in, is_spent, waits}
use Rattle.rv_machine.specs.Steps.{next}
use Rattle.layout_run.specs.Whole.{ended_as}
use Rattle.layout_run.specs.declared.step.Progress.{Progress}
use Rattle.layout_run.specs.declared.step.Progress.TheVariants as progress
use Rattle.layout_run.specs.declared.ran.Ending.{Ending}
use Rattle.layout_run.specs.declared.ran.RunRefusal.{RunRefusal}
use Rattle.layout_run.specs.declared.ran.RunRefusal.TheVariants as why

-- ---- what the machine can do

-- it can take a step: its guest hasn't ended, and its heap stands for some history
pub record IsGoing (machine : Machine) : Type 0 where
  pub ready : IsReady machine
  pub stands : ∥ ((h : History) × StandsFor (heap_in machine) h) ∥₁

-- the next step prints the bytes of this span
abbrev pub Shows : Next → Core → (fd address len : ℕ) → Type 0
Shows (Prints fd address len bytes core) from fd' address' len' = (fd' ≡ fd) × (address' ≡ address) × (len' ≡ len) × (span from.memory.bytes address' len' ≡ Some bytes)
Shows next from fd address len = ⊥

-- it waits until the bytes of this span are printed
pub record IsPrinting (machine : Machine) (fd address len : ℕ) : Type 0 where
  pub sound : is_spent machine ≡ false
  pub waiting : waits machine ≡ WriteDone
  pub printed : is_printed fd ≡ true
  pub shows : Shows (next (core_of machine)) (core_of machine) fd address len

-- what it can do after a step
abbrev pub IsReadyFor : Progress → Machine → Type 0
IsReadyFor progress.Going machine = IsGoing machine
IsReadyFor (progress.Prints fd address len) machine = IsPrinting machine fd address len
IsReadyFor (progress.Ended ending) machine = Unit {0}

-- ---- the input

-- The tape can be read at the guest's place in the input: it keeps all, or the place is where it has answered to.
pub record IsReadable (track : Track) (place : ℕ) : Type 0 where
  pub going : track.refused ≡ false
  pub known : place < track.high + 1
  pub onward : track.keep ≡ false → place ≡ track.high

-- What a guest that goes on leaves of the tape, whose place is `place'` now: the input is as it was, and the high place
-- is that of the guest where that is greater.
pub record Follows (old new : Track) (left left' : Option (List ℕ)) (place' : ℕ) : Type 0 where
  pub keep : new.keep ≡ old.keep
  pub high : new.high ≡ max old.high place'
  pub readable : IsReadable new place'
  pub stays : InputStays old new left left'

-- bytes are those of the input at a place, at most so many
abbrev pub AreNext : List ℕ → Track → (left : Option (List ℕ)) → (place len : ℕ) → Type 0
AreNext bytes track left place len = IfSome (unread track left) (λ all. bytes ≡ part track place len all)

-- the tape and the source tell this input, from the first byte on that is still kept
abbrev pub TellsInput : (input : List ℕ) → Track → (left : Option (List ℕ)) → Type 0
TellsInput input track left = unread track left ≡ Some (drop (begins track) input)

-- a read of so many bytes is the one that passes the most that is kept of the input
pub record PassesLimit (track : Track) (left : Option (List ℕ)) (place len : ℕ) : Type 0 where
  pub within : place ≤ most_kept
  pub past : most_kept < place + len
  pub long : IfSome (unread track left) (λ bytes. most_kept < length bytes)

-- the next step is such a read
abbrev pub ReadsPast : GuestNext → Track → (left : Option (List ℕ)) → (place : ℕ) → Type 0
ReadsPast (Carries (Reads address len)) track left place = PassesLimit track left place len
ReadsPast next track left place = ⊥

-- the source's count rose where it failed, and else it stayed
abbrev pub CutsInput : {T : Type 0} → Result T RunRefusal → (before now : ℕ) → Type 0
CutsInput (Ok done) before now = now ≡ before
CutsInput (Err why.Memory) before now = now ≡ before
CutsInput (Err why.Input) before now = now ≡ before
CutsInput (Err why.Source) before now = Rose before now
CutsInput (Err other) before now = ⊥

-- ---- the step

-- at most one step was counted, and none yet that prints
abbrev pub Counts : Progress → (before now : ℕ) → Type 0
Counts (progress.Prints fd address len) before now = now ≡ before
Counts other before now = now ≤ before + 1

-- What a step with its read comes to, by what the next step of this guest is. The tape and the input are those before
-- it, and `place` and `place'` the guest's places in the input before and after it.
abbrev pub Advances : Guest → GuestNext → Result Progress RunRefusal → Machine → Track → (left : Option (List ℕ)) → (place place' : ℕ) → Type 0
Advances g (Carries (Goes core)) (Ok progress.Going) machine track left place place' = IsAt (with_core g core) machine × (place' ≡ place)
Advances g (Carries (Reads address len)) (Ok progress.Going) machine track left place place' =
    (bytes : List ℕ) × IsAt (with_core g (filled g.core address bytes)) machine × AreNext bytes track left place len × (place' ≡ place + length bytes)
Advances g (Carries (Prints fd address len bytes core)) (Ok (progress.Prints fd' address' len')) machine track left place place' =
    (fd' ≡ fd) × (address' ≡ address) × (len' ≡ len) × AwaitsAt g WriteDone machine × (place' ≡ place)
Advances g (Carries (Exits code core)) (Ok (progress.Ended ending)) machine track left place place' = (ending ≡ ended_as (Some (Exited code))) × IsAt (with_core g core) machine × (place' ≡ place)
Advances g (Carries (Faults kind address)) (Ok (progress.Ended ending)) machine track left place place' =
    (ending ≡ ended_as (Some (Faulted kind g.core.pc address))) × IsAt (with_core g (faulted g.core kind address)) machine × (place' ≡ place)
Advances g (Returns to) (Ok progress.Going) machine track left place place' = IsAt to machine × (place' ≡ place)
Advances g (Lacks used wanted to) (Ok (progress.Ended ending)) machine track left place place' = (ending ≡ ended_as (Some (Roomed used wanted))) × IsAt to machine × (place' ≡ place)
Advances g (Carries (Stays ended)) answer machine track left place place' = ⊥
Advances g next (Err refused) machine track left place place' = Unit {0}
Advances g next answer machine track left place place' = ⊥

-- ---- a step of a run

-- a guest has ended so, or hasn't
abbrev pub EndsAs : Option Ended → Option Ending → Type 0
EndsAs None None = Unit {0}
EndsAs (Some ended) (Some ending) = ending ≡ ended_as (Some ended)
EndsAs ended ending = ⊥

-- the machine and the place in the input are those after a step that printed nothing
pub record IsStepped (from to : Flat) (ending : Option Ending) (machine : Machine) (reached : ℕ) : Type 0 where
  pub at : IsAt to.guest machine
  pub place : reached ≡ to.place
  pub out : to.out ≡ from.out
  pub err : to.err ≡ from.err
  pub ended : EndsAs to.guest.core.ended ending

-- the next step prints the bytes of this span, and the machine waits until they are printed
pub record IsToPrint (flat : Flat) (n : GuestNext) (fd address len : ℕ) (machine : Machine) (reached : ℕ) : Type 0 where
  pub bytes : List ℕ
  pub core : Core
  pub prints : n ≡ Carries (Prints fd address len bytes core)
  pub at : AwaitsAt flat.guest WriteDone machine
  pub place : reached ≡ flat.place

-- what a step with its read makes of a state of a run, where n is what the next step does
abbrev pub StepsTo : (input : List ℕ) → Flat → (n : GuestNext) → Progress → Machine → (place : ℕ) → Type 0
StepsTo input flat n progress.Going machine place = IsStepped flat (after_step input flat n) None machine place
StepsTo input flat n (progress.Ended ending) machine place = IsStepped flat (after_step input flat n) (Some ending) machine place
StepsTo input flat n (progress.Prints fd address len) machine place = IsToPrint flat n fd address len machine place

-- Where the input is told, a step with its read is the next step of the run, but that the bytes that it prints are still
-- to be printed.
abbrev pub AdvancesAreSteps : Type 0
AdvancesAreSteps =
    (input : List ℕ) (flat : Flat) (track : Track) (left : Option (List ℕ)) (machine : Machine) (answer : Progress) (place' : ℕ)
    → TellsInput input track left → IsReadable track flat.place → Advances flat.guest (guest_next flat.guest) (Ok answer) machine track left flat.place place'
    → StepsTo input flat (guest_next flat.guest) answer machine place'
