use Rattle.std.proofs.Common.{◌≡◌, nat_eq, true, false, None, Some, arith}
use Rattle.std.proofs.lemmas.Bool.Decides.{nat_tests}
use Rattle.rv_machine.specs.Flat.{flat_step}
use Rattle.rv_machine.specs.HeapCalls.{guest_next}
use Rattle.layout_run.specs.Outside.{held}
use Rattle.layout_run.specs.declared.ran.RunRefusal.TheVariants as why
use Rattle.layout_run.specs.declared.step.Progress.TheVariants as progress
use Rattle.layout_run.proofs.Advanced.{alive, steps-to}
use Rattle.layout_run.proofs.Turned.{turns-on, turns-cut, wrote-out, wrote-err, failed-out, failed-err, printed-going}
use Rattle.layout_run.proofs.turn.turn.Goals as goal

pub returns-in-Ok-Going-clause-turn : goal.returns-in-Ok-Going-clause-turn
returns-in-Ok-Going-clause-turn g c = λ start bytes flat tells so.
    let step = rw c.in-Ok-Going.field-0-is at c.in-Ok-Going.ensures.step in
    turns-on flat (flat_step bytes flat) None c.args.machine.now c.advance.new.machine c.args.place.now c.advance.new.place start (held (g.O.Sink.held c.args.out.now) (g.E.Sink.held c.args.err.now)) so (steps-to c.advances_are_steps.ensures bytes flat c.args.tape.now (g.S.Source.left c.args.input.now) c.args.machine.now c.advance.new.machine progress.Going c.args.place.now c.advance.new.place start (held (g.O.Sink.held c.args.out.now) (g.E.Sink.held c.args.err.now)) so tells c.requires.readable step)

pub returns-in-Ok-Ended-clause-turn : goal.returns-in-Ok-Ended-clause-turn
returns-in-Ok-Ended-clause-turn g c = λ start bytes flat tells so.
    let step = rw c.in-Ok-Ended.field-0-is at c.in-Ok-Ended.ensures.step in
    turns-on flat (flat_step bytes flat) (Some c.in-Ok-Ended.ending) c.args.machine.now c.advance.new.machine c.args.place.now c.advance.new.place start (held (g.O.Sink.held c.args.out.now) (g.E.Sink.held c.args.err.now)) so (steps-to c.advances_are_steps.ensures bytes flat c.args.tape.now (g.S.Source.left c.args.input.now) c.args.machine.now c.advance.new.machine (progress.Ended c.in-Ok-Ended.ending) c.args.place.now c.advance.new.place start (held (g.O.Sink.held c.args.out.now) (g.E.Sink.held c.args.err.now)) so tells c.requires.readable step)

pub returns-in-Err-clause-turn : goal.returns-in-Err-clause-turn
returns-in-Err-clause-turn g c = λ start bytes flat tells so.
    turns-cut flat (guest_next flat.guest) bytes c.in-Err.refused c.args.machine.now c.advance.new.machine c.args.place.now c.advance.new.place (g.S.Source.faults c.args.input.now) (g.S.Source.faults c.advance.new.input) start (held (g.O.Sink.held c.args.out.now) (g.E.Sink.held c.args.err.now)) so c.in-Err.ensures.cause

pub returns-in-Ok-clause-turn : goal.returns-in-Ok-clause-turn
returns-in-Ok-clause-turn g c = λ start bytes flat tells so.
    let step = rw c.in-Ok-Prints.field-0-is at c.in-Ok-Prints.ensures.step in
    let test : nat_eq c.in-Ok-Prints.fd 1 ≡ true = grind (arith, nat_tests, c.if-fd-eq1.true) in
    let living = alive flat.guest (progress.Prints c.in-Ok-Prints.fd c.in-Ok-Prints.addr c.in-Ok-Prints.len) c.advance.new.machine c.args.tape.now (g.S.Source.left c.args.input.now) c.args.place.now c.advance.new.place (step flat.guest so.at) in
    wrote-out bytes flat (guest_next flat.guest) c.in-Ok-Prints.fd c.in-Ok-Prints.addr c.in-Ok-Prints.len c.args.machine.now c.advance.new.machine c.write.new.machine c.args.place.now c.advance.new.place start (g.O.Sink.held c.args.out.now) (g.E.Sink.held c.args.err.now) living (c.steps_are_shaped.ensures.guest flat.guest) so (steps-to c.advances_are_steps.ensures bytes flat c.args.tape.now (g.S.Source.left c.args.input.now) c.args.machine.now c.advance.new.machine (progress.Prints c.in-Ok-Prints.fd c.in-Ok-Prints.addr c.in-Ok-Prints.len) c.args.place.now c.advance.new.place start (held (g.O.Sink.held c.args.out.now) (g.E.Sink.held c.args.err.now)) so tells c.requires.readable step)
    (g.O.Sink.held c.write.new.sink) test c.in-Ok.ensures.puts

pub returns-in-Err-Failed-clause-turn : goal.returns-in-Err-Failed-clause-turn
returns-in-Err-Failed-clause-turn g c = λ start bytes flat tells so.
    let step = rw c.in-Ok-Prints.field-0-is at c.in-Ok-Prints.ensures.step in
    let test : nat_eq c.in-Ok-Prints.fd 1 ≡ true = grind (arith, nat_tests, c.if-fd-eq1.true) in
    let living = alive flat.guest (progress.Prints c.in-Ok-Prints.fd c.in-Ok-Prints.addr c.in-Ok-Prints.len) c.advance.new.machine c.args.tape.now (g.S.Source.left c.args.input.now) c.args.place.now c.advance.new.place (step flat.guest so.at) in
    failed-out bytes flat (guest_next flat.guest) c.in-Ok-Prints.fd c.in-Ok-Prints.addr c.in-Ok-Prints.len c.args.machine.now c.advance.new.machine c.write.new.machine c.args.place.now c.advance.new.place start (g.O.Sink.held c.args.out.now) (g.E.Sink.held c.args.err.now) living (c.steps_are_shaped.ensures.guest flat.guest) so (steps-to c.advances_are_steps.ensures bytes flat c.args.tape.now (g.S.Source.left c.args.input.now) c.args.machine.now c.advance.new.machine (progress.Prints c.in-Ok-Prints.fd c.in-Ok-Prints.addr c.in-Ok-Prints.len) c.args.place.now c.advance.new.place start (held (g.O.Sink.held c.args.out.now) (g.E.Sink.held c.args.err.now)) so tells c.requires.readable step)
    c.in-Err-Failed.field-0 why.Out (g.O.Sink.held c.write.new.sink) tt test (c.in-Err-Failed.ensures {u = tt}).puts

pub returns-in-Err-Memory-clause-turn : goal.returns-in-Err-Memory-clause-turn
returns-in-Err-Memory-clause-turn g c = λ start bytes flat tells so.
    let step = rw c.in-Ok-Prints.field-0-is at c.in-Ok-Prints.ensures.step in
    let test : nat_eq c.in-Ok-Prints.fd 1 ≡ true = grind (arith, nat_tests, c.if-fd-eq1.true) in
    let living = alive flat.guest (progress.Prints c.in-Ok-Prints.fd c.in-Ok-Prints.addr c.in-Ok-Prints.len) c.advance.new.machine c.args.tape.now (g.S.Source.left c.args.input.now) c.args.place.now c.advance.new.place (step flat.guest so.at) in
    failed-out bytes flat (guest_next flat.guest) c.in-Ok-Prints.fd c.in-Ok-Prints.addr c.in-Ok-Prints.len c.args.machine.now c.advance.new.machine c.write.new.machine c.args.place.now c.advance.new.place start (g.O.Sink.held c.args.out.now) (g.E.Sink.held c.args.err.now) living (c.steps_are_shaped.ensures.guest flat.guest) so (steps-to c.advances_are_steps.ensures bytes flat c.args.tape.now (g.S.Source.left c.args.input.now) c.args.machine.now c.advance.new.machine (progress.Prints c.in-Ok-Prints.fd c.in-Ok-Prints.addr c.in-Ok-Prints.len) c.args.place.now c.advance.new.place start (held (g.O.Sink.held c.args.out.now) (g.E.Sink.held c.args.err.now)) so tells c.requires.readable step)
    c.in-Err-Memory.field-0 why.Memory (g.O.Sink.held c.write.new.sink) tt test (c.in-Err-Memory.ensures {u = tt}).puts

pub returns-in-Ok-write-clause-turn : goal.returns-in-Ok-write-clause-turn
returns-in-Ok-write-clause-turn g c = λ start bytes flat tells so.
    let step = rw c.in-Ok-Prints.field-0-is at c.in-Ok-Prints.ensures.step in
    let ready = rw c.in-Ok-Prints.field-0-is at c.in-Ok-Prints.ensures.ready in
    let test : nat_eq c.in-Ok-Prints.fd 1 ≡ false = grind (arith, nat_tests, c.if-fd-eq1.false) in
    let living = alive flat.guest (progress.Prints c.in-Ok-Prints.fd c.in-Ok-Prints.addr c.in-Ok-Prints.len) c.advance.new.machine c.args.tape.now (g.S.Source.left c.args.input.now) c.args.place.now c.advance.new.place (step flat.guest so.at) in
    wrote-err bytes flat (guest_next flat.guest) c.in-Ok-Prints.fd c.in-Ok-Prints.addr c.in-Ok-Prints.len c.args.machine.now c.advance.new.machine c.write-else-fd-eq1.new.machine c.args.place.now c.advance.new.place start (g.O.Sink.held c.args.out.now) (g.E.Sink.held c.args.err.now) living (c.steps_are_shaped.ensures.guest flat.guest) so (steps-to c.advances_are_steps.ensures bytes flat c.args.tape.now (g.S.Source.left c.args.input.now) c.args.machine.now c.advance.new.machine (progress.Prints c.in-Ok-Prints.fd c.in-Ok-Prints.addr c.in-Ok-Prints.len) c.args.place.now c.advance.new.place start (held (g.O.Sink.held c.args.out.now) (g.E.Sink.held c.args.err.now)) so tells c.requires.readable step)
    (g.E.Sink.held c.write-else-fd-eq1.new.sink) ready.printed test c.in-Ok-write.ensures.puts

pub returns-in-Err-Failed-write-clause-turn : goal.returns-in-Err-Failed-write-clause-turn
returns-in-Err-Failed-write-clause-turn g c = λ start bytes flat tells so.
    let step = rw c.in-Ok-Prints.field-0-is at c.in-Ok-Prints.ensures.step in
    let ready = rw c.in-Ok-Prints.field-0-is at c.in-Ok-Prints.ensures.ready in
    let test : nat_eq c.in-Ok-Prints.fd 1 ≡ false = grind (arith, nat_tests, c.if-fd-eq1.false) in
    let living = alive flat.guest (progress.Prints c.in-Ok-Prints.fd c.in-Ok-Prints.addr c.in-Ok-Prints.len) c.advance.new.machine c.args.tape.now (g.S.Source.left c.args.input.now) c.args.place.now c.advance.new.place (step flat.guest so.at) in
    failed-err bytes flat (guest_next flat.guest) c.in-Ok-Prints.fd c.in-Ok-Prints.addr c.in-Ok-Prints.len c.args.machine.now c.advance.new.machine c.write-else-fd-eq1.new.machine c.args.place.now c.advance.new.place start (g.O.Sink.held c.args.out.now) (g.E.Sink.held c.args.err.now) living (c.steps_are_shaped.ensures.guest flat.guest) so (steps-to c.advances_are_steps.ensures bytes flat c.args.tape.now (g.S.Source.left c.args.input.now) c.args.machine.now c.advance.new.machine (progress.Prints c.in-Ok-Prints.fd c.in-Ok-Prints.addr c.in-Ok-Prints.len) c.args.place.now c.advance.new.place start (held (g.O.Sink.held c.args.out.now) (g.E.Sink.held c.args.err.now)) so tells c.requires.readable step)
    c.in-Err-Failed-write.field-0 why.Err (g.E.Sink.held c.write-else-fd-eq1.new.sink) tt ready.printed test (c.in-Err-Failed-write.ensures {u = tt}).puts

pub returns-in-Err-Memory-write-clause-turn : goal.returns-in-Err-Memory-write-clause-turn
returns-in-Err-Memory-write-clause-turn g c = λ start bytes flat tells so.
    let step = rw c.in-Ok-Prints.field-0-is at c.in-Ok-Prints.ensures.step in
    let ready = rw c.in-Ok-Prints.field-0-is at c.in-Ok-Prints.ensures.ready in
    let test : nat_eq c.in-Ok-Prints.fd 1 ≡ false = grind (arith, nat_tests, c.if-fd-eq1.false) in
    let living = alive flat.guest (progress.Prints c.in-Ok-Prints.fd c.in-Ok-Prints.addr c.in-Ok-Prints.len) c.advance.new.machine c.args.tape.now (g.S.Source.left c.args.input.now) c.args.place.now c.advance.new.place (step flat.guest so.at) in
    failed-err bytes flat (guest_next flat.guest) c.in-Ok-Prints.fd c.in-Ok-Prints.addr c.in-Ok-Prints.len c.args.machine.now c.advance.new.machine c.write-else-fd-eq1.new.machine c.args.place.now c.advance.new.place start (g.O.Sink.held c.args.out.now) (g.E.Sink.held c.args.err.now) living (c.steps_are_shaped.ensures.guest flat.guest) so (steps-to c.advances_are_steps.ensures bytes flat c.args.tape.now (g.S.Source.left c.args.input.now) c.args.machine.now c.advance.new.machine (progress.Prints c.in-Ok-Prints.fd c.in-Ok-Prints.addr c.in-Ok-Prints.len) c.args.place.now c.advance.new.place start (held (g.O.Sink.held c.args.out.now) (g.E.Sink.held c.args.err.now)) so tells c.requires.readable step)
    c.in-Err-Memory-write.field-0 why.Memory (g.E.Sink.held c.write-else-fd-eq1.new.sink) tt ready.printed test (c.in-Err-Memory-write.ensures {u = tt}).puts

pub returns-in-Ok-clause-going : goal.returns-in-Ok-clause-going
returns-in-Ok-clause-going g c = λ none.
    let step = rw c.in-Ok-Prints.field-0-is at c.in-Ok-Prints.ensures.step in
    printed-going c.args.machine.now c.advance.new.machine c.write.new.machine c.in-Ok-Prints.fd c.in-Ok-Prints.addr c.in-Ok-Prints.len c.args.tape.now (g.S.Source.left c.args.input.now) c.args.place.now c.advance.new.place (g.O.Sink.held c.args.out.now) (g.O.Sink.held c.write.new.sink) c.steps_are_shaped.ensures.guest c.requires.going step c.in-Ok.ensures.puts

pub returns-in-Ok-write-clause-going : goal.returns-in-Ok-write-clause-going
returns-in-Ok-write-clause-going g c = λ none.
    let step = rw c.in-Ok-Prints.field-0-is at c.in-Ok-Prints.ensures.step in
    printed-going c.args.machine.now c.advance.new.machine c.write-else-fd-eq1.new.machine c.in-Ok-Prints.fd c.in-Ok-Prints.addr c.in-Ok-Prints.len c.args.tape.now (g.S.Source.left c.args.input.now) c.args.place.now c.advance.new.place (g.E.Sink.held c.args.err.now) (g.E.Sink.held c.write-else-fd-eq1.new.sink) c.steps_are_shaped.ensures.guest c.requires.going step c.in-Ok-write.ensures.puts
