use Rattle.std.proofs.Common.{◌≡◌, None, rules}
use Rattle.replicate.proofs.AtGate.{count-same, gates-decided, gates-over, gates-waiting, places-same}
use Rattle.replicate.proofs.group.Group.gate.Goals as goal

pub returns-in-Some-over-clause-gates : goal.returns-in-Some-over-clause-gates
returns-in-Some-over-clause-gates g c = λ g' is. gates-over g' c.args.self.now c.in-Some-over.over is c.in-Some-over.is

pub returns-in-Some-first_missing-clause-gates : goal.returns-in-Some-first_missing-clause-gates
returns-in-Some-first_missing-clause-gates g c = λ g' is.
    let going : c.args.self.now.over ≡ None = search rules in
    gates-waiting g' c.args.self.now c.deref.result.now c.in-Some-first_missing.i is going c.deref.ensures.value c.in-Some-first_missing.ensures

pub returns-in-Ok-clause-gates : goal.returns-in-Ok-clause-gates
returns-in-Ok-clause-gates g c = λ g' is.
    let going : c.args.self.now.over ≡ None = search rules in
    gates-decided g' c.args.self.now c.decide.new.self c.deref.result.now c.in-Ok.got is going c.deref.ensures.value c.in_default-first_missing.ensures (c.in-Ok.ensures.decides g' is)

pub returns-in-Ok-clause-places : goal.returns-in-Ok-clause-places
returns-in-Ok-clause-places g c = λ track kept. places-same track c.args.self.now.seats.items c.decide.new.self.seats.items c.decide.ensures.same kept

pub returns-in-Err-clause-places : goal.returns-in-Err-clause-places
returns-in-Err-clause-places g c = λ track kept. places-same track c.args.self.now.seats.items c.decide.new.self.seats.items c.decide.ensures.same kept

pub returns-in-Ok-clause-count : goal.returns-in-Ok-clause-count
returns-in-Ok-clause-count g c = count-same c.args.self.now.seats.items c.decide.new.self.seats.items c.decide.ensures.same

pub returns-in-Err-clause-count : goal.returns-in-Err-clause-count
returns-in-Err-clause-count g c = count-same c.args.self.now.seats.items c.decide.new.self.seats.items c.decide.ensures.same

pub returns-in-Ok-clause-cause : goal.returns-in-Ok-clause-cause
returns-in-Ok-clause-cause g c = λ input fresh. c.in-Ok.ensures.cause input
