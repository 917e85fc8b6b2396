use Rattle.std.proofs.Common.{◌≡◌, false, Some, IfOk, IfSome, drop}
use Rattle.layout_run.specs.Outside.{held}
use Rattle.ex_io.specs.Tape.{new_tape}
use Rattle.iterate.specs.Reruns.{printed_run}
use Rattle.exterm_cli.specs.Parts.{Performs, guest_as, name_as}
use Rattle.exterm_cli.specs.Run.{run_plan}
use Rattle.exterm_cli.proofs.Known.{each-some}
use Rattle.exterm_cli.proofs.Left.{from-start, made}
use Rattle.exterm_cli.proofs.Performed.{nothing-known, nothing-written}
use Rattle.exterm_cli.proofs.run.run.Goals as goal

pub returns-in_default-clause-performs : goal.returns-in_default-clause-performs
returns-in_default-clause-performs g c =
    each-some (g.S.Source.left c.args.input.now) _ (λ input is. nothing-known (run_plan (guest_as c.args.accepted) (name_as c.args.image) input) (held (g.O.Sink.held c.args.out.now) (g.E.Sink.held c.args.err.now)) (g.F.Folder.files c.args.files.now))

pub returns-in_default-clause-writes : goal.returns-in_default-clause-writes
returns-in_default-clause-writes g c = nothing-written (name_as c.args.image) (g.F.Folder.files c.args.files.now)

pub returns-clause-performs : goal.returns-clause-performs
returns-clause-performs g c =
    from-start (g.S.Source.left c.args.input.now) (g.S.Source.left c.new.new.source) c.in-Ok.tape
    (λ bytes. IfSome (g.F.Folder.files c.args.files.now) (λ files. Performs (run_plan (guest_as c.args.accepted) (name_as c.args.image) bytes) c.run_on.result (held (g.O.Sink.held c.args.out.now) (g.E.Sink.held c.args.err.now)) (held (g.O.Sink.held c.run_on.new.out) (g.E.Sink.held c.run_on.new.err)) files (g.F.Folder.files c.run_on.new.files)))
    (made c.in-Ok.tape (new_tape false) c.in-Ok.ensures.tape) c.in-Ok.ensures.left c.run_on.ensures.performs

pub returns-clause-left : goal.returns-clause-left
returns-clause-left g c =
    from-start (g.S.Source.left c.args.input.now) (g.S.Source.left c.new.new.source) c.in-Ok.tape
    (λ bytes. IfOk c.run_on.result (λ verdict. g.S.Source.left c.run_on.new.input ≡ Some (drop (printed_run (guest_as c.args.accepted) bytes).place bytes)))
    (made c.in-Ok.tape (new_tape false) c.in-Ok.ensures.tape) c.in-Ok.ensures.left c.run_on.ensures.left
