use Rattle.std.proofs.Common.{rules, ◌+◌, Ok, arith}
use Rattle.rv_machine.specs.Guest.{Guest}
use Rattle.rv_machine.specs.HeapCalls.{guest_next}
use Rattle.rv_machine.specs.Stands.{IsAt}
use Rattle.layout_run.specs.Advances.{Advances}
use Rattle.layout_run.specs.declared.step.Progress.TheVariants as progress
use Rattle.layout_run.proofs.Advanced.{asking, going-on, to-write}
use Rattle.layout_run.proofs.step.advance.Goals as goal

pub read-requires-clause-count : goal.read-requires-clause-count
read-requires-clause-count g c =
    let known = asking c.args.machine.now c.step.new.self c.in-Read.addr c.in-Read.len c.steps_are_shaped.ensures.guest c.requires.going c.in-Read.ensures.step in
    omega (arith, known.same, c.requires.count)

pub read-requires-clause-sound : goal.read-requires-clause-sound
read-requires-clause-sound g c =
    let known = asking c.args.machine.now c.step.new.self c.in-Read.addr c.in-Read.len c.steps_are_shaped.ensures.guest c.requires.going c.in-Read.ensures.step in
    known.sound

pub read-requires-clause-waits : goal.read-requires-clause-waits
read-requires-clause-waits g c =
    let known = asking c.args.machine.now c.step.new.self c.in-Read.addr c.in-Read.len c.steps_are_shaped.ensures.guest c.requires.going c.in-Read.ensures.step in
    known.waiting

pub read-requires-clause-asks : goal.read-requires-clause-asks
read-requires-clause-asks g c =
    let known = asking c.args.machine.now c.step.new.self c.in-Read.addr c.in-Read.len c.steps_are_shaped.ensures.guest c.requires.going c.in-Read.ensures.step in
    known.asks

pub returns-in-Ok-clause-count : goal.returns-in-Ok-clause-count
returns-in-Ok-clause-count g c =
    let known = asking c.args.machine.now c.step.new.self c.in-Read.addr c.in-Read.len c.steps_are_shaped.ensures.guest c.requires.going c.in-Read.ensures.step in
    omega (arith, known.same, c.in-Ok.ensures.count)

pub returns-in-Write-clause-ready : goal.returns-in-Write-clause-ready
returns-in-Write-clause-ready g c =
    let known = to-write c.args.machine.now c.step.new.self c.in-Write.fd c.in-Write.addr c.in-Write.len c.steps_are_shaped.ensures.guest c.requires.going c.in-Write.ensures.step in
    known.printing

pub returns-in-Write-clause-count : goal.returns-in-Write-clause-count
returns-in-Write-clause-count g c =
    let known = to-write c.args.machine.now c.step.new.self c.in-Write.fd c.in-Write.addr c.in-Write.len c.steps_are_shaped.ensures.guest c.requires.going c.in-Write.ensures.step in
    known.same

pub returns-in-Going-clause-ready : goal.returns-in-Going-clause-ready
returns-in-Going-clause-ready g c =
    let step : (g' : Guest) → IsAt g' c.args.machine.now → Advances g' (guest_next g') (Ok progress.Going) c.step.new.self c.args.tape.now (g.S.Source.left c.args.input.now) c.args.place.now c.args.place.now = search rules in
    going-on c.args.machine.now c.step.new.self c.args.tape.now (g.S.Source.left c.args.input.now) c.args.place.now c.args.place.now c.steps_are_shaped.ensures.guest c.requires.going step

pub returns-in-Ok-clause-ready : goal.returns-in-Ok-clause-ready
returns-in-Ok-clause-ready g c =
    let step : (g' : Guest) → IsAt g' c.args.machine.now → Advances g' (guest_next g') (Ok progress.Going) c.read.new.machine c.args.tape.now (g.S.Source.left c.args.input.now) c.args.place.now (c.args.place.now + c.in-Ok.count) = search rules in
    going-on c.args.machine.now c.read.new.machine c.args.tape.now (g.S.Source.left c.args.input.now) c.args.place.now (c.args.place.now + c.in-Ok.count) c.steps_are_shaped.ensures.guest c.requires.going step
