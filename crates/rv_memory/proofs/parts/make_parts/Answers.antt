use Rattle.std.proofs.Common.{rules, sym, subst, ◌+◌, List}
use Rattle.rv_memory.specs.declared.range.Range.{Range}
use Rattle.rv_memory.specs.Access.{new_byte}
use Rattle.rv_memory.specs.Ranges.{AreParts}
use Rattle.rv_memory.proofs.Cut.{parts-push}
use Rattle.rv_memory.proofs.parts.make_parts.Goals as goal

pub loop-end-preserved : goal.loop-end-preserved
loop-end-preserved c = (
  search rules,
  search rules,
  subst (λ (items : List Range). AreParts c.max-begin.result (c.args.mapping.from + c.args.mapping.len) (new_byte c.args.first.now c.args.mapping.rest c.args.mapping.from) c.args.mapping.writable c.args.mapping.runs items) (sym c.in_ok-push.ensures.items)
      (parts-push c.max-begin.result c.loop-end.end (c.args.mapping.from + c.args.mapping.len) (new_byte c.args.first.now c.args.mapping.rest c.args.mapping.from) c.args.mapping.writable c.args.mapping.runs c.loop-end.parts.items c.in_ok-part.part c.loop-end.invariant.2 (search rules) (search rules) c.in_ok-part.ensures.part),
)
