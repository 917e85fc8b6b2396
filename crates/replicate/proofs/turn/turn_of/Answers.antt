use Rattle.replicate.proofs.Turning.{high-retired, high-turned, kept-turned, living-turned, meets-at, refused-turned, tags-retired, tags-turned, retired-turned}
use Rattle.replicate.proofs.turn.turn_of.Goals as goal

pub returns-then-not-seat-clause-turned : goal.returns-then-not-seat-clause-turned
returns-then-not-seat-clause-turned g c = λ budget rs bytes tells so.
    retired-turned bytes budget c.args.n c.args.i rs c.args.seats.now c.index-seats-i.result c.requires.index c.if-not-seat.true so

pub returns-then-not-seat-clause-high : goal.returns-then-not-seat-clause-high
returns-then-not-seat-clause-high g c = high-retired c.args.i c.args.seats.now c.index-seats-i.result c.args.tape.now c.requires.index c.requires.kept

pub returns-clause-turned : goal.returns-clause-turned
returns-clause-turned g c = λ budget rs bytes tells so.
    living-turned bytes budget c.args.n c.args.i rs c.args.seats.now c.index-seats-i.result c.go_on.new.self c.go_on.result c.requires.index c.if-not-seat.false c.go_on.ensures.budget (λ r is. c.go_on.ensures.onward r bytes tells is) so

pub returns-clause-kept : goal.returns-clause-kept
returns-clause-kept g c = kept-turned c.args.i c.args.seats.now c.go_on.new.self c.go_on.result c.args.tape.now c.go_on.new.tape (g.S.Source.left c.args.input.now) (g.S.Source.left c.go_on.new.input) c.requires.kept c.go_on.ensures.tape

pub returns-clause-high : goal.returns-clause-high
returns-clause-high g c = high-turned c.args.i c.args.seats.now c.go_on.new.self c.go_on.result c.args.tape.now c.go_on.new.tape (g.S.Source.left c.args.input.now) (g.S.Source.left c.go_on.new.input) c.requires.index c.go_on.ensures.tape

pub returns-clause-limit : goal.returns-clause-limit
returns-clause-limit g c =
    refused-turned c.go_on.result c.args.tape.now (λ past budget rs bytes tells so.
    meets-at bytes budget c.args.n c.args.i rs c.args.seats.now c.index-seats-i.result c.requires.index c.if-not-seat.false (λ r is. past r bytes tells is) so) c.go_on.ensures.limit

pub returns-then-not-seat-clause-tags : goal.returns-then-not-seat-clause-tags
returns-then-not-seat-clause-tags g c = λ tag have. tags-retired tag c.args.i c.args.seats.now c.index-seats-i.result c.requires.index have

pub returns-clause-tags : goal.returns-clause-tags
returns-clause-tags g c = λ tag have. tags-turned tag c.args.i c.args.seats.now c.index-seats-i.result c.go_on.new.self c.go_on.result c.requires.index c.go_on.ensures.tag have
