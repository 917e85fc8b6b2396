-- What images call for, as the outcome of a repair.
use Rattle.std.proofs.Common.{◌≡◌, ◌≢◌, ℕ, ◌-◌, max, List, [], map, Option, None, Some, Result, Ok, Err, sym, ap, ◌∙◌, subst, arith}
use Rattle.std.specs.List.{range_with_len}
use Rattle.exact_heap.specs.declared.signal.Place.{Place}
use Rattle.heap_image.specs.Agreement.{AreMixed}
use Rattle.heap_image.specs.Snapshot.{Snapshot}
use Rattle.layout_run.specs.declared.ran.Ran.{Ran}
use Rattle.layout_run.specs.declared.ran.RunRefusal.TheVariants as why
use Rattle.iterate.specs.declared.repairing.Repaired.{Repaired}
use Rattle.iterate.specs.declared.repairing.RepairRefusal.{RepairRefusal}
use Rattle.iterate.specs.declared.repairing.RepairRefusal.TheVariants.{Run, Mixed}
use Rattle.iterate.specs.Isolated.{IsIsolated}
use Rattle.iterate.specs.Parts.{Settles, SettlesBy}
use Rattle.iterate.specs.Repairs.{IsCured, IsRepaired, isolated_in}
use Rattle.iterate.specs.Reruns.{Job, first_image, furthest, highest, images_of, printed_ran, printed_run, rerun, rerun_places}

pub quiet : (job : Job) (bytes : List ℕ) (count : ℕ) (r : Repaired) → r.ran ≡ printed_ran job bytes → r.ran.first ≡ None → r.images ≡ 0 → isolated_in r ≡ record { patches = job.settings.patches; pads = 0; defers = 0 } → IsRepaired job bytes count r
quiet job bytes count r ran first images stays = record {
  ran = ran;
  cured = subst (λ (o : Option Place). IsCured job bytes count o r) (sym first ∙ ap (λ (x : Ran). x.first) ran) (images, stays);
}

signalled : (o : Option Place) (place : Place) → o ≡ Some place → o ≢ None
signalled o place is none = cc

-- the tape was read as far as the runs went, of which there is one alone, or those after it too
pub quiet-high : (job : Job) (bytes : List ℕ) (count : ℕ) (ran : Ran) (high : ℕ) → ran ≡ printed_ran job bytes → ran.first ≡ None → high ≡ (printed_run job bytes).place → high ≡ furthest job bytes count
quiet-high job bytes count ran high is none at =
    let no : [] ≡ rerun_places job bytes count (printed_ran job bytes).first = ap (rerun_places job bytes count) (sym none ∙ ap (λ (x : Ran). x.first) is) in
    let zero : highest [] ≡ highest (rerun_places job bytes count (printed_ran job bytes).first) = ap highest no in
    omega (arith, at, zero)

pub rerun-high : (job : Job) (bytes : List ℕ) (count : ℕ) (ran : Ran) (place : Place) → ran ≡ printed_ran job bytes → ran.first ≡ Some place
    → max (printed_run job bytes).place (highest (map (λ i. (rerun job bytes (first_image job bytes).place i).place) (range_with_len 1 (count - 1)))) ≡ furthest job bytes count
rerun-high job bytes count ran place is some = ap (λ o. max (printed_run job bytes).place (highest (rerun_places job bytes count o))) (sym some ∙ ap (λ (x : Ran). x.first) is)

pub settled : (job : Job) (bytes : List ℕ) (count : ℕ) (images : List Snapshot) (ran : Ran) (place : Place) (result : Result Repaired RepairRefusal) (high : ℕ)
    → images ≡ images_of job bytes count → ran ≡ printed_ran job bytes → ran.first ≡ Some place → SettlesBy images job.settings.patches count ran result → high ≡ furthest job bytes count → Settles job bytes count result high
settled job bytes count images ran place (Ok r) high are is first s at = (
  record {
    ran = s.0 ∙ is;
    cured = subst (λ (o : Option Place). IsCured job bytes count o r) (sym first ∙ ap (λ (x : Ran). x.first) is) (s.1, subst (λ (i : List Snapshot). IsIsolated i job.settings.patches (isolated_in r)) are s.2);
  },
  at,
)
settled job bytes count images ran place (Err Mixed) high are is first s at = (
  record {
    signalled = λ none. signalled ran.first place first (ap (λ (x : Ran). x.first) is ∙ none);
    mixed = subst AreMixed are s;
  },
  at,
)
settled job bytes count images ran place (Err (Run why.Memory)) high are is first s at = tt
settled job bytes count images ran place (Err (Run why.Input)) high are is first s at = absurd s
settled job bytes count images ran place (Err (Run why.Source)) high are is first s at = tt
settled job bytes count images ran place (Err (Run why.Out)) high are is first s at = tt
settled job bytes count images ran place (Err (Run why.Err)) high are is first s at = tt
