-- What a run does on the outside, whole or cut short.
use Rattle.std.specs.Prelude.{◌≡◌, ◌≢◌, ◌⊎◌, ◌<◌, ◌≤◌, ◌+◌, ℕ, max, true, false, List, [], Option, Result, Ok, Err}
use Rattle.std.specs.Io.KnownBytes.{Appends}
use Rattle.ex_io.specs.Causes.{AppendsFront, Rose}
use Rattle.ex_io.specs.Tape.{Track, InputStays, most_kept}
use Rattle.rv_machine.specs.Flat.{Flat}
use Rattle.heap_image.specs.Snapshot.{Snapshot}
use Rattle.layout_run.specs.Imaged.{with_image}
use Rattle.layout_run.specs.Outside.{Faults, Held}
use Rattle.layout_run.specs.Whole.{ran_of}
use Rattle.layout_run.specs.declared.ran.Ran.{Ran}
use Rattle.layout_run.specs.declared.ran.RunRefusal.{RunRefusal}
use Rattle.layout_run.specs.declared.ran.RunRefusal.TheVariants as why

-- the tape has the whole input: it keeps all, or has answered nothing yet
abbrev pub HasAll : Track → Type 0
HasAll tape = (tape.keep ≡ true) ⊎ (tape.high ≡ 0)

-- A sink fails only at what the run prints there.
abbrev pub MayFail : RunRefusal → Flat → Type 0
MayFail why.Out flat = flat.out ≢ []
MayFail why.Err flat = flat.err ≢ []
MayFail other flat = Unit {0}

-- a run that was carried out, or cut short: what was printed is the definition's, or a front of it
abbrev pub RunsAs : (stop_at : Option ℕ) → Flat → (image : Option Snapshot) → Result Ran RunRefusal → (before after : Held) → Type 0
RunsAs stop_at flat image (Ok ran) before after = (ran ≡ with_image image (ran_of stop_at flat)) × Appends before.out after.out flat.out × Appends before.err after.err flat.err
RunsAs stop_at flat image (Err refused) before after = AppendsFront before.out after.out flat.out × AppendsFront before.err after.err flat.err × MayFail refused flat

-- what a run that was carried out leaves of the tape and the input: what is kept is as before, the high place is that
-- of the run where that is greater, and the input is as it was, from the first byte on that is still kept
abbrev pub LeavesTape : Flat → Result Ran RunRefusal → (old new : Track) → Type 0
LeavesTape flat (Ok ran) old new = new.high ≡ max old.high flat.place
LeavesTape flat (Err refused) old new = Unit {0}

abbrev pub KeepsTape : {T : Type 0} → Result T RunRefusal → (old new : Track) → (left left' : Option (List ℕ)) → Type 0
KeepsTape (Ok done) old new left left' = (new.keep ≡ old.keep) × (new.refused ≡ false) × InputStays old new left left'
KeepsTape (Err refused) old new left left' = Unit {0}

-- A count rose where its object is named, and else it stayed.
abbrev pub CutsRun : {T : Type 0} → Result T RunRefusal → (before after : Faults) → Type 0
CutsRun (Ok done) before after = after ≡ before
CutsRun (Err why.Memory) before after = after ≡ before
CutsRun (Err why.Input) before after = after ≡ before
CutsRun (Err why.Source) before after = Rose before.input after.input × (after.out ≡ before.out) × (after.err ≡ before.err)
CutsRun (Err why.Out) before after = (after.input ≡ before.input) × Rose before.out after.out × (after.err ≡ before.err)
CutsRun (Err why.Err) before after = (after.input ≡ before.input) × (after.out ≡ before.out) × Rose before.err after.err

-- the input is refused only where all of it is kept, and there
abbrev pub RefusesInput : {T : Type 0} → Result T RunRefusal → Track → (there : Type 0) → Type 0
RefusesInput (Err why.Input) tape there = (tape.keep ≡ true) × there
RefusesInput other tape there = Unit {0}

-- Behind so many steps, fewer than its budget, a run reads past the most that is kept of an input.
pub record ReachesLimit (run : ℕ → Flat) (budget made : ℕ) : Type 0 where
  pub less : made < budget
  pub within : (run made).place ≤ most_kept
  pub past : most_kept < (run (made + 1)).place

-- It was cut short there: what it has printed by then stands on the sinks.
pub record StopsAtLimit (run : ℕ → Flat) (budget : ℕ) (before after : Held) : Type 0 where
  pub made : ℕ
  pub limit : ReachesLimit run budget made
  pub out : Appends before.out after.out (run made).out
  pub err : Appends before.err after.err (run made).err
