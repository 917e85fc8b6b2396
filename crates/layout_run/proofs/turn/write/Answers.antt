use Rattle.std.proofs.Common.{subst}
use Rattle.rv_machine.specs.Core.{Core}
use Rattle.rv_machine.specs.Steps.{next}
use Rattle.ex_io.specs.declared.outside.OutsideFault.TheVariants as fault
use Rattle.layout_run.specs.Advances.{Shows}
use Rattle.layout_run.proofs.Turned.{puts-nothing, keeps-same}
use Rattle.layout_run.proofs.turn.write.Goals as goal

pub returns-in_default-clause-puts : goal.returns-in_default-clause-puts
returns-in_default-clause-puts g c = λ g' at.
    puts-nothing g' (next g'.core) g'.core c.args.fd c.args.addr c.args.len c.args.machine.now fault.Memory (g.K.Sink.held c.args.sink.now) (g.K.Sink.held c.args.sink.now)
    (subst (λ (core : Core). Shows (next core) core c.args.fd c.args.addr c.args.len) at.core c.requires.prints.shows) (keeps-same (g.K.Sink.held c.args.sink.now))

pub returns-clause-puts : goal.returns-clause-puts
returns-clause-puts g c = λ g' at.
    puts-nothing g' (next g'.core) g'.core c.args.fd c.args.addr c.args.len c.args.machine.now fault.Memory (g.K.Sink.held c.args.sink.now) (g.K.Sink.held c.put.new.self)
    (subst (λ (core : Core). Shows (next core) core c.args.fd c.args.addr c.args.len) at.core c.requires.prints.shows) (rw c.in-Err-Memory.field-0-is at c.in-Err-Memory.ensures.bytes)
