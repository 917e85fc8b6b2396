use Rattle.std.proofs.Common.{rules, arith, ◌∙◌, ◌-◌, ap, is_some}
use Rattle.rv_memory.specs.declared.range.Purpose.TheVariants.{Reading}
use Rattle.rv_memory.specs.Access.{rest_byte}
use Rattle.rv_memory.specs.Memory.{Memory, page_of}
use Rattle.rv_memory.specs.Ranges.{granted}
use Rattle.rv_memory.specs.Spaces.{memory_of, taken_of}
use Rattle.rv_memory.proofs.Memories.{behind-filled}
use Rattle.rv_memory.specs.Laws.{at_each}
use Rattle.rv_memory.proofs.space.Space.cover.Goals as goal

pub cover_piece-at-requires-clause-mapped : goal.cover_piece-at-requires-clause-mapped
cover_piece-at-requires-clause-mapped c =
    ap (λ (m : Memory). is_some (m.bytes c.loop-at.at)) c.loop-at.invariant.2
    ∙ ap is_some (behind-filled (memory_of c.args.self.now) c.args.addr (c.loop-at.at - c.args.addr) c.loop-at.at (rest_byte c.args.rest) (omega arith))
    ∙ at_each (granted Reading (memory_of c.args.self.now)) c.args.addr c.args.len c.loop-at.at c.requires.mapped (search rules) (search rules)

pub cover_piece-at-requires-clause-sure : goal.cover_piece-at-requires-clause-sure
cover_piece-at-requires-clause-sure c = c.loop-at.invariant.3 (page_of c.loop-at.at) (at_each (λ a. taken_of c.args.self.now (page_of a)) c.args.addr c.args.len c.loop-at.at c.requires.sure (search rules) (search rules))
