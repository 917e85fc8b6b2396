use Rattle.std.proofs.Common.{◌≡◌, Some, subst, sym}
use Rattle.rv_machine.specs.Fields.{fields_at}
use Rattle.rv_machine.specs.Harts.{core_of, Executes}
use Rattle.rv_machine.proofs.Fielded.{fields-do, fields-kept}
use Rattle.rv_machine.proofs.hart.Hart.carry_out.Goals as goal

pub execute-requires-clause-small : goal.execute-requires-clause-small
execute-requires-clause-small c =
    let is : Some c.fields.result.now ≡ fields_at c.args.word = fields-kept (λ e. e.fields) _ c.fields.result.now (fields_at c.args.word) c.if-not-holds.ensures.kept c.fields.ensures in
    (fields-do c.rows_are_in_range.ensures (core_of c.args.self.now) c.args.word c.fields.result.now is).1

pub returns-clause-step : goal.returns-clause-step
returns-clause-step c =
    let core = core_of c.args.self.now in
    let is : Some c.fields.result.now ≡ fields_at c.args.word = fields-kept (λ e. e.fields) _ c.fields.result.now (fields_at c.args.word) c.if-not-holds.ensures.kept c.fields.ensures in
    subst (λ n. Executes core n c.execute.result c.execute.new.self) (sym (fields-do c.rows_are_in_range.ensures core c.args.word c.fields.result.now is).0) c.execute.ensures.step
