use Rattle.layout_run.specs.Outside.{held}
use Rattle.replicate.proofs.Way.{comes-on, gate-cause, gate-cut}
use Rattle.replicate.proofs.run.pass.Goals as goal

pub returns-in-Ok-clause-way : goal.returns-in-Ok-clause-way
returns-in-Ok-clause-way g c = λ bytes start first now before way.
    let mid = held (g.O.Sink.held c.args.out.now) (g.E.Sink.held c.args.err.now) in
    let after = held (g.O.Sink.held c.gate.new.out) (g.E.Sink.held c.gate.new.err) in
    let came = c.in-Ok.ensures.gates _ way.stands in
    let prints = c.in-Ok.ensures.prints c.requires.going _ way.stands in
    comes-on c.steps_are_counted.ensures c.steps_are_shaped.ensures.guest bytes start first now before mid after c.args.group.now c.gate.new.self way c.in-Ok.field-0 came.0 came.1 came.2 prints.0 prints.1

pub returns-in-Err-clause-way : goal.returns-in-Err-clause-way
returns-in-Err-clause-way g c = λ bytes start first now before way.
    let mid = held (g.O.Sink.held c.args.out.now) (g.E.Sink.held c.args.err.now) in
    let after = held (g.O.Sink.held c.gate.new.out) (g.E.Sink.held c.gate.new.err) in
    gate-cut c.steps_are_counted.ensures c.steps_are_shaped.ensures.guest bytes start first now before mid after c.args.group.now c.gate.new.self way c.in-Err.refused _ _ (c.in-Err.ensures.prints c.requires.going _ way.stands) (c.in-Err.ensures.cause 0 c.requires.going)

pub returns-in-Ok-clause-cause : goal.returns-in-Ok-clause-cause
returns-in-Ok-clause-cause g c = λ input. c.in-Ok.ensures.cause input c.requires.going

pub returns-in-Err-clause-cause : goal.returns-in-Err-clause-cause
returns-in-Err-clause-cause g c = λ input. gate-cause c.in-Err.refused _ _ (c.in-Err.ensures.cause input c.requires.going)
