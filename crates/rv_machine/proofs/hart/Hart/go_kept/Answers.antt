use Rattle.std.proofs.Common.{◌/◌, ◌%◌, subst, sym, ◌∙◌}
use Rattle.std.specs.Prelude.{slice_get}
use Rattle.rv_memory.specs.Memory.{span, code_at}
use Rattle.rv_machine.specs.Harts.{core_of, Executes}
use Rattle.rv_machine.proofs.Answered.{fetch-ok, span-length}
use Rattle.rv_machine.proofs.Fielded.{fields-do}
use Rattle.rv_machine.proofs.KeptCode.{kept-word}
use Rattle.rv_machine.proofs.hart.Hart.go_kept.Goals as goal

pub execute-requires-clause-small : goal.execute-requires-clause-small
execute-requires-clause-small c =
    let core = core_of c.args.self.now in
    let k = kept-word core (slice_get c.args.kept.now.entries.items (core.pc / 4 % 4096)) c.fields.result.now c.requires.kept c.fields.ensures in
    (fields-do c.rows_are_in_range.ensures core k.word c.fields.result.now k.fields).1

pub returns-clause-step : goal.returns-clause-step
returns-clause-step c =
    let core = core_of c.args.self.now in
    let s = span (code_at core.memory) core.pc 4 in
    let k = kept-word core (slice_get c.args.kept.now.entries.items (core.pc / 4 % 4096)) c.fields.result.now c.requires.kept c.fields.ensures in
    subst (λ n. Executes core n c.execute.result c.execute.new.self)
    (sym (fetch-ok core s k.word (λ bytes is. span-length (code_at core.memory) core.pc 4 bytes is) k.there ∙ (fields-do c.rows_are_in_range.ensures core k.word c.fields.result.now k.fields).0))
    c.execute.ensures.step
