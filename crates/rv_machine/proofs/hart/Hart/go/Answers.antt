use Rattle.std.proofs.Common.{subst, sym, ◌∙◌}
use Rattle.rv_memory.specs.Memory.{span, code_at}
use Rattle.rv_machine.specs.Harts.{core_of, Executes}
use Rattle.rv_machine.proofs.Answered.{fetch-ok, span-length}
use Rattle.rv_machine.proofs.hart.Hart.go.Goals as goal

pub returns-in-Ok-clause-step : goal.returns-in-Ok-clause-step
returns-in-Ok-clause-step c =
    let core = core_of c.args.self.now in
    let s = span (code_at core.memory) core.pc 4 in
    subst (λ n. Executes core n c.carry_out.result c.carry_out.new.self) (sym (fetch-ok core s c.in-Ok.word (λ bytes is. span-length (code_at core.memory) core.pc 4 bytes is) (sym c.in-Ok.is ∙ c.fetch.ensures))) c.carry_out.ensures.step
