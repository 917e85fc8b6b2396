-- What the parts of a run do: a read, a write, and a step with what it reads or prints.
use Rattle.std.specs.Prelude.{◌≡◌, ℕ, ◌<◌, ◌≤◌, ◌+◌, true, false, List, length, Option, Result, Ok, Err}
use Rattle.std.specs.Io.KnownBytes.{Appends}
use Rattle.ex_io.specs.Causes.{AppendsFront, Rose}
use Rattle.ex_io.specs.Tape.{Track, most_kept}
use Rattle.ex_io.specs.declared.outside.OutsideFault.{OutsideFault}
use Rattle.ex_io.specs.declared.outside.OutsideFault.TheVariants as fault
use Rattle.exact_heap.specs.History.{History}
use Rattle.rv_machine.specs.declared.machine.Machine.{Machine}
use Rattle.rv_machine.specs.Core.{Next, Reads, Prints, filled}
use Rattle.rv_machine.specs.Flat.{Flat, flat_step}
use Rattle.rv_machine.specs.Guest.{Guest, with_core}
use Rattle.rv_machine.specs.Stands.{IsAt}
use Rattle.layout_run.specs.Advances.{AreNext, EndsAs}
use Rattle.layout_run.specs.Outside.{Held}
use Rattle.layout_run.specs.Runs.{MayFail}
use Rattle.layout_run.specs.Whole.{is_stopped}
use Rattle.layout_run.specs.declared.ran.Ending.{Ending}
use Rattle.layout_run.specs.declared.ran.RunRefusal.{RunRefusal}

-- a waiting guest, whose next step reads, got bytes of the input
abbrev pub Gets : Guest → Next → Result ℕ RunRefusal → Machine → Track → (left : Option (List ℕ)) → (place : ℕ) → Type 0
Gets g (Reads address len) (Ok count) machine track left place = (bytes : List ℕ) × (count ≡ length bytes) × IsAt (with_core g (filled g.core address bytes)) machine × AreNext bytes track left place len
Gets g next (Ok count) machine track left place = ⊥
Gets g next (Err refused) machine track left place = Unit {0}

-- the bytes of a waiting guest's next step were put on a sink, or a front of them
abbrev pub Puts : Guest → Next → Result (Unit {0}) OutsideFault → Machine → (old new : Option (List ℕ)) → Type 0
Puts g (Prints fd address len bytes core) (Ok done) machine old new = IsAt (with_core g core) machine × Appends old new bytes
Puts g (Prints fd address len bytes core) (Err refused) machine old new = AppendsFront old new bytes
Puts g next result machine old new = ⊥

-- the sink's count rose where it failed, and else it stayed
abbrev pub CutsPut : {T : Type 0} → Result T OutsideFault → (before now : ℕ) → Type 0
CutsPut (Ok done) before now = now ≡ before
CutsPut (Err fault.Memory) before now = now ≡ before
CutsPut (Err fault.Failed) before now = Rose before now

-- what the machine and the sinks show of a state of a run, which began when the sinks held `start`
pub record IsFlat (flat : Flat) (machine : Machine) (reached : ℕ) (start now : Held) : Type 0 where
  pub at : IsAt flat.guest machine
  pub place : reached ≡ flat.place
  pub out : Appends start.out now.out flat.out
  pub err : Appends start.err now.err flat.err

-- what is there after the step to this state, carried out or cut short
abbrev pub Turns : (to : Flat) → Result (Option Ending) RunRefusal → Machine → (reached : ℕ) → (start now : Held) → Type 0
Turns to (Ok ending) machine reached start now = IsFlat to machine reached start now × EndsAs to.guest.core.ended ending
Turns to (Err refused) machine reached start now = AppendsFront start.out now.out to.out × AppendsFront start.err now.err to.err × MayFail refused to

-- the next step of this state would read past the most that is kept, and nothing was printed since
pub record IsAtLimit (input : List ℕ) (flat : Flat) (start now : Held) : Type 0 where
  pub within : flat.place ≤ most_kept
  pub past : most_kept < (flat_step input flat).place
  pub out : Appends start.out now.out flat.out
  pub err : Appends start.err now.err flat.err

-- with more heap calls than this a run is stopped, and with at most this many it isn't
pub record Stops (stop_at : Option ℕ) (most : ℕ) (h : History) : Type 0 where
  pub past : most < h.calls → is_stopped stop_at h ≡ true
  pub within : h.calls < most + 1 → is_stopped stop_at h ≡ false
