use Rattle.std.proofs.Common.{arith, refl, sym, subst, ap}
use Rattle.rv_machine.specs.Core.{Core}
use Rattle.rv_memory.specs.Memory.{span, code_at}
use Rattle.rv_machine.specs.Harts.{core_of, Executes}
use Rattle.rv_machine.specs.Steps.{fetched}
use Rattle.rv_machine.specs.declared.outcome.Outcome.TheVariants as outcome
use Rattle.rv_machine.proofs.Carried.{homely-kept, counted-kept}
use Rattle.rv_machine.proofs.Executed.{next-going, go-follows, kept, kept-other, ready-kept, ready-on, went}
use Rattle.rv_machine.proofs.machine.Machine.goes_quietly.Goals as goal

pub invariant_of-self-clause-homely : goal.invariant_of-self-clause-homely
invariant_of-self-clause-homely c =
    let old = c.args.self.now in
    let did = subst (λ n. Executes (core_of old.hart) n c.go.result c.go.new.self) (sym (next-going (core_of old.hart) c.requires.ready.going)) c.go.ensures.step in
    homely-kept old.heap old.hart c.go.new.self c.stores_keep_home.ensures.mapping c.go.ensures.taken (go-follows old.hart c.go.new.self c.go.result c.bounds.ensures c.requires.ready.sound did) old.homely

pub invariant_of-self-clause-counted : goal.invariant_of-self-clause-counted
invariant_of-self-clause-counted c =
    let old = c.args.self.now in
    let did = subst (λ n. Executes (core_of old.hart) n c.go.result c.go.new.self) (sym (next-going (core_of old.hart) c.requires.ready.going)) c.go.ensures.step in
    counted-kept old.heap old.hart c.go.new.self (go-follows old.hart c.go.new.self c.go.result c.bounds.ensures c.requires.ready.sound did) old.counted

pub invariant_of-self-clause-kept : goal.invariant_of-self-clause-kept
invariant_of-self-clause-kept c = c.go.ensures.nameless c.args.self.now.names.items c.requires.nameless c.args.self.now.kept

pub returns-in-Going-clause-went : goal.returns-in-Going-clause-went
returns-in-Going-clause-went c =
    let core = core_of c.args.self.now.hart in
    went c.args.self.now _ refl refl c.requires.nameless (subst (λ n. Executes core n outcome.Going c.go.new.self) (sym (next-going core c.requires.ready.going)) c.in-Going.ensures.step)

pub returns-in-Going-clause-ready : goal.returns-in-Going-clause-ready
returns-in-Going-clause-ready c =
    let core = core_of c.args.self.now.hart in
    ready-on c.args.self.now _ c.requires.ready (subst (λ n. Executes core n outcome.Going c.go.new.self) (sym (next-going core c.requires.ready.going)) c.in-Going.ensures.step)

pub returns-in_default : goal.returns-in_default
returns-in_default c =
    let core = core_of c.args.self.now.hart in
    let i = kept-other core (fetched core (span (code_at core.memory) core.pc 4)) c.go.result c.go.new.self c.in_default.not-Going c.go.ensures.step in
    record {
      went = tt;
      kept = kept c.args.self.now _ refl refl i;
      core = i.stands;
      ready = ready-kept c.args.self.now _ c.requires.ready i;
      count = omega (arith, ap (λ (x : Core). x.steps) i.stands);
      tag = refl;
    }
