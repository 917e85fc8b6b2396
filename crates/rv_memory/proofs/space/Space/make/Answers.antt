use Rattle.std.proofs.Common.{rules, ◌∙◌, ap, is_some}
use Rattle.rv_memory.specs.declared.range.Purpose.TheVariants.{Reading}
use Rattle.rv_memory.specs.Laws.{at_each, from_each}
use Rattle.rv_memory.specs.Memory.{Memory, page_of}
use Rattle.rv_memory.specs.Ranges.{granted}
use Rattle.rv_memory.specs.Spaces.{memory_of, taken_of}
use Rattle.rv_memory.proofs.Mapped.{on_error}
use Rattle.rv_memory.proofs.Spans.{fails_at}
use Rattle.rv_memory.proofs.Taken.{not-before}
use Rattle.rv_memory.proofs.space.Space.make.Goals as goal

pub make_range-requires : goal.make_range-requires
make_range-requires c = record { mapped = ap (λ (m : Memory). is_some (m.bytes c.loop-at.at)) c.loop-at.invariant.1 ∙ at_each (granted Reading (memory_of c.args.self.now)) c.args.addr c.args.len c.loop-at.at c.requires.mapped (search rules) (search rules) }

pub returns-in_err-at-clause-wanting : goal.returns-in_err-at-clause-wanting
returns-in_err-at-clause-wanting c =
    let out = not-before (taken_of c.args.self.now) (taken_of c.loop-at.self) (page_of c.loop-at.at) c.loop-at.invariant.2 c.in_err-at.ensures.wanting in
    on_error c.from_residual.result (fails_at (λ a. taken_of c.args.self.now (page_of a)) c.args.addr c.args.len c.loop-at.at (search rules) (search rules) out)

pub returns-clause-sure : goal.returns-clause-sure
returns-clause-sure c = from_each (λ a. taken_of c.loop-at.self (page_of a)) c.args.addr c.args.len (λ a low high. c.loop-at.invariant.3 a low (search rules))
