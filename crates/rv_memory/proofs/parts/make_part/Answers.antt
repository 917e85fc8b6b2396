use Rattle.std.proofs.Common.{rules}
use Rattle.rv_memory.proofs.Cut.{part-made, part-absent}
use Rattle.rv_memory.proofs.parts.make_part.Goals.{then-is_made_at_once+in_ok-bytes, else-is_made_at_once}
use Rattle.rv_memory.proofs.parts.make_part.Goals as goal

pub returns-clause-part : goal.returns-clause-part
returns-clause-part c =
    elim c.if-is_made_at_once.branch [
      | then-is_made_at_once+in_ok-bytes w ↦ part-made _ c.args.first.now c.args.mapping.rest c.args.mapping.from c.requires.some c.requires.begins (search rules) (search rules)
      | else-is_made_at_once w ↦ part-absent _ c.args.first.now c.args.mapping.from c.requires.some (search rules) (search rules)
    ]
