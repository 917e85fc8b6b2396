use Rattle.std.proofs.Common.{◌≡◌, ◌≤◌, ◌∙◌, Some, None, Ok, Err, IfSome, true, max, map, string_bytes, subst, sym, arith}
use Rattle.ex_io.specs.Tape.{Track, input, most_kept, new_tape}
use Rattle.infinite_heap.specs.Elf.{program_of}
use Rattle.infinite_heap.specs.Loaded.{Loaded}
use Rattle.layout_run.specs.Imaged.{image_of_run, with_image}
use Rattle.layout_run.specs.Outside.{held}
use Rattle.layout_run.specs.Runs.{LeavesTape, RunsAs, StopsAtLimit}
use Rattle.layout_run.specs.Whole.{run_until}
use Rattle.layout_run.specs.declared.ran.Ran.{Ran}
use Rattle.rv_machine.specs.declared.settings.Settings.{Settings}
use Rattle.iterate.specs.Parts.{IsWhole, Settles, job_of}
use Rattle.iterate.specs.Reruns.{first_image, printed_ran, printed_run}
use Rattle.iterate.proofs.Cuts.{ended-same, ended-whole, left_after, repairs_cut, repairs_rest}
use Rattle.iterate.proofs.Whole.{answered-whole, at-some, each-some, front-none, left-behind, made, refuses, told, whole-at-first}
use Rattle.iterate.proofs.repairing.repair.Goals as goal

pub returns-in_default-clause-repairs : goal.returns-in_default-clause-repairs
returns-in_default-clause-repairs g c =
    each-some (g.S.Source.left c.args.input.now) _ (λ bytes is. λ program loads. (front-none (g.O.Sink.held c.args.out.now) _, front-none (g.E.Sink.held c.args.err.now) _, tt))

pub returns-in-Ok-imaged_run-clause-repairs : goal.returns-in-Ok-imaged_run-clause-repairs
returns-in-Ok-imaged_run-clause-repairs g c =
    let before = held (g.O.Sink.held c.args.out.now) (g.E.Sink.held c.args.err.now) in
    let after = held (g.O.Sink.held c.imaged_run.new.out) (g.E.Sink.held c.imaged_run.new.err) in
    let left = g.S.Source.left c.args.input.now in
    let left' = g.S.Source.left c.new.new.source in
    let left'' = g.S.Source.left c.imaged_run.new.input in
    let args = map string_bytes c.args.args.now in
    let track = c.in-Ok.tape in
    let track' = c.imaged_run.new.tape in
    let first : track ≡ new_tape true = made track (new_tape true) c.in-Ok.ensures.tape in
    each-some left _ (λ bytes is. λ program loads.
    let here : input track left' ≡ Some bytes = subst (λ (t : Track). input t left' ≡ Some bytes) (sym first) (told left' bytes (c.in-Ok.ensures.left ∙ is)) in
    let job = job_of program args c.args.settings c.args.budget in
    let copied = at-some (input track left') (λ b. (q : Loaded) → program_of c.args.file.now ≡ Ok q → RunsAs None (run_until q args c.in-Ok-copy_of.copy b None c.args.budget) (Some (image_of_run q args c.in-Ok-copy_of.copy b None c.args.budget)) (Ok c.in-Ok-imaged_run.ran) before after) bytes here c.in-Ok-imaged_run.ensures.runs program loads in
    let runs = subst (λ (s : Settings). RunsAs None (run_until program args s bytes None c.args.budget) (Some (image_of_run program args s bytes None c.args.budget)) (Ok c.in-Ok-imaged_run.ran) before after) c.in-Ok-copy_of.ensures copied in
    let left-copied = at-some (input track left') (λ b. (q : Loaded) → program_of c.args.file.now ≡ Ok q → LeavesTape (run_until q args c.in-Ok-copy_of.copy b None c.args.budget) (Ok c.in-Ok-imaged_run.ran) track track') bytes here c.in-Ok-imaged_run.ensures.leaves program loads in
    let leaves = subst (λ (s : Settings). LeavesTape (run_until program args s bytes None c.args.budget) (Ok c.in-Ok-imaged_run.ran) track track') c.in-Ok-copy_of.ensures left-copied in
    let high : track'.high ≡ (printed_run job bytes).place = leaves ∙ subst (λ (t : Track). max t.high (printed_run job bytes).place ≡ (printed_run job bytes).place) (sym first) (omega arith) in
    let there = at-some (input track left') (λ b. input track' left'' ≡ Some b) bytes here c.in-Ok-imaged_run.ensures.same in
    let within : (printed_run job bytes).place ≤ most_kept = subst (λ n. n ≤ most_kept) high (answered-whole track' c.in-Ok-imaged_run.ensures.whole c.has_answered.ensures).1 in
    let settles = at-some (input track' left'') (λ b. (q : Loaded) → program_of c.args.file.now ≡ Ok q → c.in-Ok-imaged_run.ran ≡ with_image (Some (first_image (job_of q args c.args.settings c.args.budget) b)) (printed_ran (job_of q args c.args.settings c.args.budget) b) → track'.high ≡ (printed_run (job_of q args c.args.settings c.args.budget) b).place → Settles (job_of q args c.args.settings c.args.budget) b c.args.images c.rest_of_repair-result.result c.rest_of_repair-result.new.tape.high) bytes there c.rest_of_repair-result.ensures.settles program loads runs.0 high in
    repairs_rest job bytes c.args.images c.rest_of_repair-result.result (g.S.Source.faults c.imaged_run.new.input) (g.S.Source.faults c.rest_of_repair-result.new.input) c.rest_of_repair-result.new.tape.high before after within
    (λ ended. (answered-whole c.rest_of_repair-result.new.tape (ended-whole c.rest_of_repair-result.result c.rest_of_repair-result.new.tape c.rest_of_repair-result.ensures.whole ended) c.has_answered-in-Ok-imaged_run.ensures).1)
    settles c.rest_of_repair-result.ensures.cause (runs.1, runs.2))

pub returns-in-Ok-imaged_run-clause-left : goal.returns-in-Ok-imaged_run-clause-left
returns-in-Ok-imaged_run-clause-left g c =
    let before = held (g.O.Sink.held c.args.out.now) (g.E.Sink.held c.args.err.now) in
    let after = held (g.O.Sink.held c.imaged_run.new.out) (g.E.Sink.held c.imaged_run.new.err) in
    let left = g.S.Source.left c.args.input.now in
    let left' = g.S.Source.left c.new.new.source in
    let left'' = g.S.Source.left c.imaged_run.new.input in
    let rest = g.S.Source.left c.rest_of_repair-result.new.input in
    let args = map string_bytes c.args.args.now in
    let track = c.in-Ok.tape in
    let track' = c.imaged_run.new.tape in
    let last = c.rest_of_repair-result.new.tape in
    let first : track ≡ new_tape true = made track (new_tape true) c.in-Ok.ensures.tape in
    each-some left _ (λ bytes is. λ program loads.
    let here : input track left' ≡ Some bytes = subst (λ (t : Track). input t left' ≡ Some bytes) (sym first) (told left' bytes (c.in-Ok.ensures.left ∙ is)) in
    let job = job_of program args c.args.settings c.args.budget in
    let copied = at-some (input track left') (λ b. (q : Loaded) → program_of c.args.file.now ≡ Ok q → RunsAs None (run_until q args c.in-Ok-copy_of.copy b None c.args.budget) (Some (image_of_run q args c.in-Ok-copy_of.copy b None c.args.budget)) (Ok c.in-Ok-imaged_run.ran) before after) bytes here c.in-Ok-imaged_run.ensures.runs program loads in
    let runs = subst (λ (s : Settings). RunsAs None (run_until program args s bytes None c.args.budget) (Some (image_of_run program args s bytes None c.args.budget)) (Ok c.in-Ok-imaged_run.ran) before after) c.in-Ok-copy_of.ensures copied in
    let left-copied = at-some (input track left') (λ b. (q : Loaded) → program_of c.args.file.now ≡ Ok q → LeavesTape (run_until q args c.in-Ok-copy_of.copy b None c.args.budget) (Ok c.in-Ok-imaged_run.ran) track track') bytes here c.in-Ok-imaged_run.ensures.leaves program loads in
    let leaves = subst (λ (s : Settings). LeavesTape (run_until program args s bytes None c.args.budget) (Ok c.in-Ok-imaged_run.ran) track track') c.in-Ok-copy_of.ensures left-copied in
    let high : track'.high ≡ (printed_run job bytes).place = leaves ∙ subst (λ (t : Track). max t.high (printed_run job bytes).place ≡ (printed_run job bytes).place) (sym first) (omega arith) in
    let there = at-some (input track left') (λ b. input track' left'' ≡ Some b) bytes here c.in-Ok-imaged_run.ensures.same in
    let settles = at-some (input track' left'') (λ b. (q : Loaded) → program_of c.args.file.now ≡ Ok q → c.in-Ok-imaged_run.ran ≡ with_image (Some (first_image (job_of q args c.args.settings c.args.budget) b)) (printed_ran (job_of q args c.args.settings c.args.budget) b) → track'.high ≡ (printed_run (job_of q args c.args.settings c.args.budget) b).place → Settles (job_of q args c.args.settings c.args.budget) b c.args.images c.rest_of_repair-result.result last.high) bytes there c.rest_of_repair-result.ensures.settles program loads runs.0 high in
    left_after job bytes c.args.images c.rest_of_repair-result.result last.high rest settles
    (λ ended. left-behind last rest bytes (ended-whole c.rest_of_repair-result.result last c.rest_of_repair-result.ensures.whole ended) c.has_answered-in-Ok-imaged_run.ensures
    (at-some (input track' left'') (λ b. input last rest ≡ Some b) bytes there (ended-same c.rest_of_repair-result.result track' last left'' rest c.rest_of_repair-result.ensures.same ended))))

pub returns-in-Err-clause-repairs : goal.returns-in-Err-clause-repairs
returns-in-Err-clause-repairs g c =
    let before = held (g.O.Sink.held c.args.out.now) (g.E.Sink.held c.args.err.now) in
    let after = held (g.O.Sink.held c.imaged_run.new.out) (g.E.Sink.held c.imaged_run.new.err) in
    let left = g.S.Source.left c.args.input.now in
    let left' = g.S.Source.left c.new.new.source in
    let args = map string_bytes c.args.args.now in
    let track = c.in-Ok.tape in
    let first : track ≡ new_tape true = made track (new_tape true) c.in-Ok.ensures.tape in
    each-some left _ (λ bytes is. λ program loads.
    let here : input track left' ≡ Some bytes = subst (λ (t : Track). input t left' ≡ Some bytes) (sym first) (told left' bytes (c.in-Ok.ensures.left ∙ is)) in
    let job = job_of program args c.args.settings c.args.budget in
    let copied = at-some (input track left') (λ b. (q : Loaded) → program_of c.args.file.now ≡ Ok q → RunsAs None (run_until q args c.in-Ok-copy_of.copy b None c.args.budget) (Some (image_of_run q args c.in-Ok-copy_of.copy b None c.args.budget)) (Err c.in-Err.refused) before after) bytes here c.in-Err.ensures.runs program loads in
    let runs = subst (λ (s : Settings). RunsAs None (run_until program args s bytes None c.args.budget) (Some (image_of_run program args s bytes None c.args.budget)) (Err c.in-Err.refused) before after) c.in-Ok-copy_of.ensures copied in
    let whole = subst IsWhole (sym first) whole-at-first in
    repairs_cut job bytes c.args.images (Some (image_of_run program args c.args.settings bytes None c.args.budget)) c.in-Err.refused before after track
    (refuses Ran Ran c.in-Err.refused track track
    (IfSome (input track left') (λ b. (q : Loaded) → program_of c.args.file.now ≡ Ok q → StopsAtLimit (run_until q args c.in-Ok-copy_of.copy b None) c.args.budget before after))
    (StopsAtLimit (run_until job.program job.args job.settings bytes None) job.budget before after)
    whole
    (λ limit. subst (λ (s : Settings). StopsAtLimit (run_until program args s bytes None) c.args.budget before after) c.in-Ok-copy_of.ensures
    (at-some (input track left') (λ b. (q : Loaded) → program_of c.args.file.now ≡ Ok q → StopsAtLimit (run_until q args c.in-Ok-copy_of.copy b None) c.args.budget before after) bytes here limit program loads))
    c.in-Err.ensures.limit)
    runs)
