use Rattle.std.proofs.Common.{Ok, Err, refl, subst}
use Rattle.exterm_cli.specs.Parts.{PutsPart, plan_as}
use Rattle.exterm_cli.specs.declared.report.Verdict.{Verdict}
use Rattle.exterm_cli.proofs.Settled.{folder-raises, out-raises, not-kept, not-printed}
use Rattle.exterm_cli.proofs.plan.settle.Goals as goal

pub returns-in-Err-clause-performs : goal.returns-in-Err-clause-performs
returns-in-Err-clause-performs g c =
    not-printed (plan_as c.args.plan) refl (g.O.Sink.held c.args.out.now) (g.O.Sink.held c.print.new.out) c.in-Err.cut (g.F.Folder.files c.args.files.now)
    (subst (λ bytes. PutsPart bytes (Err c.in-Err.cut) (g.O.Sink.held c.args.out.now) (g.O.Sink.held c.print.new.out)) c.as_slice.ensures.value c.in-Err.ensures.puts)

pub returns-in-Ok-keep-clause-cause : goal.returns-in-Ok-keep-clause-cause
returns-in-Ok-keep-clause-cause g c = λ input err. record { input = refl; out = c.in-Ok.ensures.cause; err = refl; files = c.in-Ok-keep.ensures.cause }

pub returns-in-Err-keep-clause-performs : goal.returns-in-Err-keep-clause-performs
returns-in-Err-keep-clause-performs g c =
    not-kept (plan_as c.args.plan) refl (g.O.Sink.held c.args.out.now) (g.O.Sink.held c.print.new.out) c.in-Err-keep.cut (g.F.Folder.files c.args.files.now) (g.F.Folder.files c.keep.new.files)
    (subst (λ bytes. PutsPart bytes (Ok tt) (g.O.Sink.held c.args.out.now) (g.O.Sink.held c.print.new.out)) c.as_slice.ensures.value c.in-Ok.ensures.puts)
    c.in-Err-keep.ensures.keeps

pub returns-in-Err-keep-clause-cause : goal.returns-in-Err-keep-clause-cause
returns-in-Err-keep-clause-cause g c = folder-raises Verdict c.in-Err-keep.cut (g.O.Sink.faults c.args.out.now) (g.O.Sink.faults c.print.new.out) (g.F.Folder.faults c.args.files.now) (g.F.Folder.faults c.keep.new.files) c.in-Err-keep.ensures.cause

pub returns-in-Err-clause-cause : goal.returns-in-Err-clause-cause
returns-in-Err-clause-cause g c = out-raises Verdict c.in-Err.cut (g.O.Sink.faults c.args.out.now) (g.O.Sink.faults c.print.new.out) (g.F.Folder.faults c.args.files.now) (g.F.Folder.faults c.args.files.now) c.in-Err.ensures.cause
