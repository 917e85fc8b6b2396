use Rattle.std.proofs.Common.{refl, subst, sym}
use Rattle.rv_machine.specs.Harts.{core_of, Steps}
use Rattle.rv_machine.specs.declared.stop.Stop.TheVariants as stop
use Rattle.rv_machine.proofs.Answered.{lawful-bytes}
use Rattle.rv_machine.proofs.hart.Hart.print.Goals as goal

pub returns-clause-step : goal.returns-clause-step
returns-clause-step c =
    let some = lawful-bytes (core_of c.args.self.now) c.args.fd c.args.addr c.args.len c.requires.lawful in
    subst (λ n. Steps (core_of c.args.self.now) n (stop.Write c.args.fd c.args.addr c.args.len) c.wait_for.new.self) (sym some.1) (refl, refl, refl, some.2, c.requires.printed, c.wait_for.ensures.awaits)
