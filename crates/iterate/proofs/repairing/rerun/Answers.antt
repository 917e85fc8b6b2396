use Rattle.std.proofs.Common.{◌≡◌, ◌<◌, ◌+◌, ℕ, ◌∙◌, max, IfSome, None, Some, Ok, map, string_bytes, subst, arith}
use Rattle.ex_io.specs.Tape.{input, most_kept}
use Rattle.infinite_heap.specs.Elf.{program_of}
use Rattle.infinite_heap.specs.Loaded.{Loaded}
use Rattle.heap_image.specs.Snapshot.{Snapshot}
use Rattle.layout_run.specs.Outside.{held}
use Rattle.layout_run.specs.Runs.{StopsAtLimit}
use Rattle.layout_run.specs.Whole.{ran_of, run_until}
use Rattle.iterate.specs.Parts.{job_of}
use Rattle.iterate.specs.Reruns.{rerun}
use Rattle.layout_run.specs.declared.ran.Ran.{Ran}
use Rattle.iterate.proofs.Cuts.{cuts_input}
use Rattle.iterate.proofs.Images.{rerun-is}
use Rattle.iterate.proofs.Whole.{mapped, refuses}
use Rattle.iterate.proofs.repairing.rerun.Goals as goal

pub returns-in-Some-clause-image : goal.returns-in-Some-clause-image
returns-in-Some-clause-image g c =
    mapped (input c.args.tape.now (g.S.Source.left c.args.input.now)) _ _ (λ bytes is runs. λ program loads.
    c.in-Some.image-is ∙ rerun-is program (map string_bytes c.args.args.now) c.args.settings.now c.args.budget bytes c.args.place c.args.i c.in-Ok.settings c.stop_number.result c.in-Ok-imaged_run.ran (ran_of (Some c.stop_number.result) (run_until program (map string_bytes c.args.args.now) c.in-Ok.settings bytes (Some c.stop_number.result) c.args.budget)) c.in-Some.image c.in-Ok.ensures c.stop_number.ensures (runs program loads).0 c.in-Some.is) c.in-Ok-imaged_run.ensures.runs

pub returns-in-Err-clause-cause : goal.returns-in-Err-clause-cause
returns-in-Err-clause-cause g c = cuts_input Ran Snapshot c.in-Err.refused (g.S.Source.faults c.args.input.now) (g.S.Source.faults c.imaged_run.new.input) c.in-Err.ensures.cause

pub returns-in-Some-clause-high : goal.returns-in-Some-clause-high
returns-in-Some-clause-high g c =
    let args = map string_bytes c.args.args.now in
    mapped (input c.args.tape.now (g.S.Source.left c.args.input.now)) _ _ (λ bytes is leaves. λ program loads.
    leaves program loads
    ∙ (λ k. max c.args.tape.now.high (run_until program args (c.in-Ok.ensures k) bytes (Some (c.stop_number.ensures k)) c.args.budget).place)) c.in-Ok-imaged_run.ensures.leaves

pub returns-in-Err-clause-limit : goal.returns-in-Err-clause-limit
returns-in-Err-clause-limit g c =
    let args = map string_bytes c.args.args.now in
    let unread = input c.args.tape.now (g.S.Source.left c.args.input.now) in
    refuses Ran Snapshot c.in-Err.refused c.args.tape.now c.args.tape.now
    (IfSome unread (λ bytes. (program : Loaded) → program_of c.args.file.now ≡ Ok program → StopsAtLimit (run_until program args c.in-Ok.settings bytes (Some c.stop_number.result)) c.args.budget (held None None) (held None None)))
    (IfSome unread (λ bytes. (program : Loaded) → program_of c.args.file.now ≡ Ok program → most_kept < (rerun (job_of program args c.args.settings.now c.args.budget) bytes c.args.place c.args.i).place))
    c.requires.whole
    (mapped unread _ _ (λ bytes is stops. λ program loads.
    let there = stops program loads in
    let rises = c.places_in_the_input_rise.ensures.places program args c.in-Ok.settings bytes (Some c.stop_number.result) (there.made + 1) c.args.budget (omega (arith, there.limit.less)) in
    let past : most_kept < (run_until program args c.in-Ok.settings bytes (Some c.stop_number.result) c.args.budget).place = omega (arith, rises, there.limit.past) in
    subst (λ (n : ℕ). most_kept < n) (λ k. (run_until program args (c.in-Ok.ensures k) bytes (Some (c.stop_number.ensures k)) c.args.budget).place) past))
    c.in-Err.ensures.limit
