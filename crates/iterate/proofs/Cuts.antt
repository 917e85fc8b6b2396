-- How a repair is cut short, from how its parts are.
use Rattle.std.proofs.Common.{◌≡◌, ℕ, ◌<◌, ◌≤◌, List, drop, Option, None, Some, Result, Ok, Err, inl, inr, refl, ap, ◌∙◌, subst, arith}
use Rattle.ex_io.specs.Tape.{Track, most_kept}
use Rattle.heap_image.specs.Snapshot.{Snapshot}
use Rattle.layout_run.specs.Advances.{CutsInput}
use Rattle.layout_run.specs.Outside.{Faults, Held, faults}
use Rattle.layout_run.specs.Runs.{CutsRun, RefusesInput, RunsAs, StopsAtLimit}
use Rattle.layout_run.specs.Whole.{run_until}
use Rattle.layout_run.specs.declared.ran.Ran.{Ran}
use Rattle.layout_run.specs.declared.ran.RunRefusal.{RunRefusal}
use Rattle.layout_run.specs.declared.ran.RunRefusal.TheVariants as why
use Rattle.iterate.specs.declared.repairing.Repaired.{Repaired}
use Rattle.iterate.specs.declared.repairing.RepairRefusal.{RepairRefusal}
use Rattle.iterate.specs.declared.repairing.RepairRefusal.TheVariants.{Run, Mixed}
use Rattle.iterate.specs.Parts.{CutsRest, InputIsSame, InputStaysSame, IsStillWhole, IsWhole, Settles}
use Rattle.iterate.specs.Repairs.{CutsRepair, LeavesInput, PrintsAll, Repairs}
use Rattle.iterate.specs.Reruns.{Job, furthest, printed_run}
use Rattle.iterate.proofs.Whole.{front-all}

-- it wasn't cut short
abbrev pub IsEnded : Result Repaired RepairRefusal → Type 0
IsEnded (Err (Run refused)) = ⊥
IsEnded done = Unit {0}

-- ---- counts

-- sinks that never fail don't cut a run short
pub cuts_input : (T U : Type 0) (refused : RunRefusal) (a b : ℕ) → CutsRun {T = T} (Err refused) (faults a 0 0) (faults b 0 0) → CutsInput {T = U} (Err refused) a b
cuts_input T U why.Memory a b c = ap (λ (f : Faults). f.input) c
cuts_input T U why.Input a b c = ap (λ (f : Faults). f.input) c
cuts_input T U why.Source a b c = c.0
cuts_input T U why.Out a b c = absurd (omega (arith, c.1))
cuts_input T U why.Err a b c = absurd (omega (arith, c.2))

pub cuts_as : (T U : Type 0) (refused : RunRefusal) (before after : Faults) → CutsRun {T = T} (Err refused) before after → CutsRun {T = U} (Err refused) before after
cuts_as T U why.Memory before after c = c
cuts_as T U why.Input before after c = c
cuts_as T U why.Source before after c = c
cuts_as T U why.Out before after c = c
cuts_as T U why.Err before after c = c

pub cuts_input_as : (T U : Type 0) (refused : RunRefusal) (a b : ℕ) → CutsInput {T = T} (Err refused) a b → CutsInput {T = U} (Err refused) a b
cuts_input_as T U why.Memory a b c = c
cuts_input_as T U why.Input a b c = c
cuts_input_as T U why.Source a b c = c
cuts_input_as T U why.Out a b c = c
cuts_input_as T U why.Err a b c = c

pub cuts_repair : (result : Result Repaired RepairRefusal) (a b out err : ℕ) → CutsRest result a b → CutsRepair result (faults a out err) (faults b out err)
cuts_repair (Ok r) a b out err c = ap (λ n. faults n out err) c
cuts_repair (Err Mixed) a b out err c = ap (λ n. faults n out err) c
cuts_repair (Err (Run why.Memory)) a b out err c = ap (λ n. faults n out err) c
cuts_repair (Err (Run why.Input)) a b out err c = ap (λ n. faults n out err) c
cuts_repair (Err (Run why.Source)) a b out err c = (c, refl, refl)
cuts_repair (Err (Run why.Out)) a b out err c = absurd c
cuts_repair (Err (Run why.Err)) a b out err c = absurd c

-- ---- what was printed

-- the run that prints is done
pub repairs_rest : (job : Job) (bytes : List ℕ) (count : ℕ) (result : Result Repaired RepairRefusal) (a b high : ℕ) (before after : Held) → (printed_run job bytes).place ≤ most_kept → (IsEnded result → high ≤ most_kept) → Settles job bytes count result high → CutsRest result a b → PrintsAll job bytes before after → Repairs job bytes count result before after
repairs_rest job bytes count (Ok r) a b high before after printed within s c p = (subst (λ n. n ≤ most_kept) s.1 (within tt), s.0, p)
repairs_rest job bytes count (Err Mixed) a b high before after printed within s c p = (subst (λ n. n ≤ most_kept) s.1 (within tt), s.0, p)
repairs_rest job bytes count (Err (Run why.Memory)) a b high before after printed within s c p = (front-all before.out after.out _ p.0, front-all before.err after.err _ p.1, tt)
repairs_rest job bytes count (Err (Run why.Input)) a b high before after printed within s c p = inr (printed, s, p)
repairs_rest job bytes count (Err (Run why.Source)) a b high before after printed within s c p = (front-all before.out after.out _ p.0, front-all before.err after.err _ p.1, tt)
repairs_rest job bytes count (Err (Run why.Out)) a b high before after printed within s c p = absurd c
repairs_rest job bytes count (Err (Run why.Err)) a b high before after printed within s c p = absurd c

-- the run that prints was cut short
pub repairs_cut : (job : Job) (bytes : List ℕ) (count : ℕ) (image : Option Snapshot) (refused : RunRefusal) (before after : Held) (track : Track)
    → RefusesInput {T = Ran} (Err refused) track (StopsAtLimit (run_until job.program job.args job.settings bytes None) job.budget before after) → RunsAs None (printed_run job bytes) image (Err refused) before after → Repairs job bytes count (Err (Run refused)) before after
repairs_cut job bytes count image why.Memory before after track r runs = runs
repairs_cut job bytes count image why.Input before after track r runs = inl r.1
repairs_cut job bytes count image why.Source before after track r runs = runs
repairs_cut job bytes count image why.Out before after track r runs = runs
repairs_cut job bytes count image why.Err before after track r runs = runs

-- a run after it was cut short
pub settles_cut : (T : Type 0) (job : Job) (bytes : List ℕ) (count high : ℕ) (refused : RunRefusal) (track : Track) → RefusesInput {T = T} (Err refused) track (most_kept < furthest job bytes count) → Settles job bytes count (Err (Run refused)) high
settles_cut T job bytes count high why.Memory track r = tt
settles_cut T job bytes count high why.Input track r = r.1
settles_cut T job bytes count high why.Source track r = tt
settles_cut T job bytes count high why.Out track r = tt
settles_cut T job bytes count high why.Err track r = tt

-- ---- what is left

pub left_after : (job : Job) (bytes : List ℕ) (count : ℕ) (result : Result Repaired RepairRefusal) (high : ℕ) (left : Option (List ℕ)) → Settles job bytes count result high → (IsEnded result → left ≡ Some (drop high bytes)) → LeavesInput job bytes count result left
left_after job bytes count (Ok r) high left s is = is tt ∙ ap (λ n. Some (drop n bytes)) s.1
left_after job bytes count (Err Mixed) high left s is = is tt ∙ ap (λ n. Some (drop n bytes)) s.1
left_after job bytes count (Err (Run refused)) high left s is = tt

pub ended-whole : (result : Result Repaired RepairRefusal) (track : Track) → IsStillWhole result track → IsEnded result → IsWhole track
ended-whole (Ok r) track whole ended = whole
ended-whole (Err Mixed) track whole ended = whole
ended-whole (Err (Run refused)) track whole ended = absurd ended

pub ended-same : (result : Result Repaired RepairRefusal) (old new : Track) (left left' : Option (List ℕ)) → InputStaysSame result old new left left' → IsEnded result → InputIsSame old new left left'
ended-same (Ok r) old new left left' same ended = same
ended-same (Err Mixed) old new left left' same ended = same
ended-same (Err (Run refused)) old new left left' same ended = absurd ended
