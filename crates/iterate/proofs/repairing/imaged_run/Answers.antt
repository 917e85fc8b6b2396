use Rattle.std.proofs.Common.{Some, inl, map, string_bytes, subst}
use Rattle.ex_io.specs.Tape.{input}
use Rattle.infinite_heap.specs.Loaded.{Loaded}
use Rattle.layout_run.specs.Imaged.{image_of_run}
use Rattle.layout_run.specs.Outside.{held}
use Rattle.layout_run.specs.Runs.{LeavesTape, RunsAs}
use Rattle.layout_run.specs.Whole.{run_until}
use Rattle.iterate.proofs.Images.{one_program}
use Rattle.iterate.proofs.Whole.{each-some, front-none, mapped, same-after, whole-after}
use Rattle.iterate.proofs.repairing.imaged_run.Goals as goal

pub returns-in_default-clause-runs : goal.returns-in_default-clause-runs
returns-in_default-clause-runs g c = each-some (input c.args.tape.now (g.S.Source.left c.args.input.now)) _ (λ bytes is program p. (front-none (g.O.Sink.held c.args.out.now) _, front-none (g.E.Sink.held c.args.err.now) _, tt))

pub run_one-requires-clause-all : goal.run_one-requires-clause-all
run_one-requires-clause-all g c = inl c.requires.whole.keep

pub run_one-requires-clause-going : goal.run_one-requires-clause-going
run_one-requires-clause-going g c = c.requires.whole.going

pub returns-clause-runs : goal.returns-clause-runs
returns-clause-runs g c =
    mapped (input c.args.tape.now (g.S.Source.left c.args.input.now)) _ _ (λ bytes is runs program p.
    subst (λ (q : Loaded). RunsAs c.args.stop_at (run_until q (map string_bytes c.args.args.now) c.args.settings bytes c.args.stop_at c.args.budget)
    (Some (image_of_run q (map string_bytes c.args.args.now) c.args.settings bytes c.args.stop_at c.args.budget)) c.run_one.result
    (held (g.O.Sink.held c.args.out.now) (g.E.Sink.held c.args.err.now)) (held (g.O.Sink.held c.run_one.new.out) (g.E.Sink.held c.run_one.new.err)))
    (one_program c.args.file.now c.in-Ok.program program c.in-Ok.ensures p) runs) c.run_one.ensures.runs

pub returns-clause-whole : goal.returns-clause-whole
returns-clause-whole g c = whole-after c.run_one.result c.args.tape.now c.run_one.new.tape (g.S.Source.left c.args.input.now) (g.S.Source.left c.run_one.new.input) c.requires.whole c.run_one.ensures.keeps

pub returns-clause-same : goal.returns-clause-same
returns-clause-same g c = same-after c.run_one.result c.args.tape.now c.run_one.new.tape (g.S.Source.left c.args.input.now) (g.S.Source.left c.run_one.new.input) c.requires.whole c.run_one.ensures.keeps

pub returns-clause-leaves : goal.returns-clause-leaves
returns-clause-leaves g c =
    mapped (input c.args.tape.now (g.S.Source.left c.args.input.now)) _ _ (λ bytes is leaves program p.
    subst (λ (q : Loaded). LeavesTape (run_until q (map string_bytes c.args.args.now) c.args.settings bytes c.args.stop_at c.args.budget) c.run_one.result c.args.tape.now c.run_one.new.tape)
    (one_program c.args.file.now c.in-Ok.program program c.in-Ok.ensures p) leaves) c.run_one.ensures.leaves
