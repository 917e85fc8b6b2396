use Rattle.std.proofs.Common.{rules, ◌≡◌, None, arith, sym, subst, ap}
use Rattle.rv_machine.specs.Core.{Core, Next}
use Rattle.rv_memory.specs.Memory.{span, code_at}
use Rattle.rv_machine.specs.Harts.{core_of, Steps}
use Rattle.rv_machine.specs.Steps.{fetched}
use Rattle.rv_machine.proofs.Executed.{next-going, stops-call, kept-fault, kept-call, self-at}
use Rattle.rv_machine.proofs.hart.Hart.step.Goals as goal

abbrev did : Core → Next
did core = fetched core (span (code_at core.memory) core.pc 4)

pub fault-requires-clause-ready : goal.fault-requires-clause-ready
fault-requires-clause-ready c = self-at (core_of c.args.self.now) c.go.new.self (kept-fault (core_of c.args.self.now) (did (core_of c.args.self.now)) c.in-Fault.kind c.in-Fault.addr c.go.new.self c.in-Fault.ensures.step)

pub call-requires-clause-ready : goal.call-requires-clause-ready
call-requires-clause-ready c = self-at (core_of c.args.self.now) c.go.new.self (kept-call (core_of c.args.self.now) (did (core_of c.args.self.now)) c.go.new.self c.in-Call.ensures.step)

pub returns-in-Call-clause-step : goal.returns-in-Call-clause-step
returns-in-Call-clause-step c = λ sound.
    let core = core_of c.args.self.now in
    let going : core.ended ≡ None = search rules in
    subst (λ n. Steps core n c.call.result c.call.new.self) (sym (next-going core going)) (stops-call core (did core) c.go.new.self c.call.new.self c.call.result c.in-Call.ensures.step c.call.ensures.step)

pub returns-in-Call-clause-count : goal.returns-in-Call-clause-count
returns-in-Call-clause-count c =
    let same = ap (λ (core : Core). core.steps) (kept-call (core_of c.args.self.now) (did (core_of c.args.self.now)) c.go.new.self c.in-Call.ensures.step).stands in
    omega (arith, c.call.ensures.count, same)
