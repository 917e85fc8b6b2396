use Rattle.std.proofs.Common.{rules, arith, ◌∙◌, ◌+◌, ◌-◌, ap, is_some, length, get_or}
use Rattle.rv_memory.specs.declared.range.Purpose.TheVariants.{Reading}
use Rattle.rv_memory.specs.Memory.{Memory, page_of}
use Rattle.rv_memory.specs.Ranges.{granted}
use Rattle.rv_memory.specs.Spaces.{memory_of, taken_of}
use Rattle.rv_memory.specs.Laws.{at_each}
use Rattle.rv_memory.proofs.Memories.{behind-filled}
use Rattle.rv_memory.proofs.space.Space.put.Goals as goal

pub write_piece-done-requires-clause-mapped : goal.write_piece-done-requires-clause-mapped
write_piece-done-requires-clause-mapped c =
    ap (λ (m : Memory). is_some (m.bytes (c.args.addr + c.loop-done.done))) c.loop-done.invariant.1
    ∙ ap is_some (behind-filled (memory_of c.args.self.now) c.args.addr c.loop-done.done (c.args.addr + c.loop-done.done) (λ a. get_or c.args.bytes.now (a - c.args.addr) 0) (omega arith))
    ∙ at_each (granted Reading (memory_of c.args.self.now)) c.args.addr (length c.args.bytes.now) (c.args.addr + c.loop-done.done) c.requires.mapped (omega arith) (search rules)

pub write_piece-done-requires-clause-sure : goal.write_piece-done-requires-clause-sure
write_piece-done-requires-clause-sure c = c.loop-done.invariant.2 (page_of (c.args.addr + c.loop-done.done)) (at_each (λ a. taken_of c.args.self.now (page_of a)) c.args.addr (length c.args.bytes.now) (c.args.addr + c.loop-done.done) c.requires.sure (omega arith) (search rules))
