use Rattle.std.proofs.Common.{rules, arith, ◌+◌, ◌<◌, ◌^◌, ap, ◌∙◌}
use Rattle.rv_memory.specs.Memory.{Memory, is_mapped, with_copy}
use Rattle.rv_memory.specs.Spaces.{memory_of, taken_of}
use Rattle.rv_memory.specs.Laws.{at_each}
use Rattle.rv_memory.specs.declared.range.Purpose.TheVariants.{Reading}
use Rattle.rv_memory.specs.Ranges.{granted}
use Rattle.rv_memory.proofs.Copies.{copy-joined, mapped-copied}
use Rattle.rv_memory.proofs.Memories.{mapped-part}
use Rattle.rv_memory.proofs.Found.{space-bounded}
use Rattle.rv_memory.proofs.Taken.{keeps-span, part-taken}
use Rattle.rv_memory.proofs.space.Space.copy.Goals as goal

pub overflow_add-from : goal.overflow_add-from
overflow_add-from c =
    let mapped = at_each (granted Reading (memory_of c.args.self.now)) c.args.from c.args.len (c.args.from + c.loop-done.done) c.requires.source (omega arith) (omega arith) in
    let low : c.args.from + c.loop-done.done < 2 ^ 32 = (space-bounded c.args.self.now).low (c.args.from + c.loop-done.done) mapped in
    search rules

pub overflow_add-to : goal.overflow_add-to
overflow_add-to c =
    let mapped = at_each (granted Reading (memory_of c.args.self.now)) c.args.to c.args.len (c.args.to + c.loop-done.done) c.requires.mapped (omega arith) (omega arith) in
    let low : c.args.to + c.loop-done.done < 2 ^ 32 = (space-bounded c.args.self.now).low (c.args.to + c.loop-done.done) mapped in
    search rules

pub copy_piece-requires-clause-source : goal.copy_piece-requires-clause-source
copy_piece-requires-clause-source c =
    let part = mapped-part (memory_of c.args.self.now) c.args.from c.loop-done.done c.min-count.result c.args.len (omega arith) c.requires.source in
    let first = mapped-part (memory_of c.args.self.now) c.args.from 0 c.loop-done.done c.args.len (omega arith) c.requires.source in
    ap (λ (m : Memory). is_mapped m (c.args.from + c.loop-done.done) c.min-count.result) c.loop-done.invariant.1
    ∙ mapped-copied (memory_of c.args.self.now) c.args.from c.args.to c.loop-done.done c.args.len (c.args.from + c.loop-done.done) c.min-count.result (search rules) c.requires.source part

pub copy_piece-requires-clause-mapped : goal.copy_piece-requires-clause-mapped
copy_piece-requires-clause-mapped c =
    let part = mapped-part (memory_of c.args.self.now) c.args.to c.loop-done.done c.min-count.result c.args.len (omega arith) c.requires.mapped in
    ap (λ (m : Memory). is_mapped m (c.args.to + c.loop-done.done) c.min-count.result) c.loop-done.invariant.1
    ∙ mapped-copied (memory_of c.args.self.now) c.args.from c.args.to c.loop-done.done c.args.len (c.args.to + c.loop-done.done) c.min-count.result (search rules) c.requires.source part

pub copy_piece-requires-clause-sure : goal.copy_piece-requires-clause-sure
copy_piece-requires-clause-sure c = keeps-span (taken_of c.args.self.now) (taken_of c.loop-done.self) (c.args.to + c.loop-done.done) c.min-count.result c.loop-done.invariant.2 (part-taken (taken_of c.args.self.now) c.args.to c.loop-done.done c.min-count.result c.args.len (omega arith) c.requires.sure)

pub loop-done-preserved : goal.loop-done-preserved
loop-done-preserved c = (
  omega arith,
  c.copy_piece.ensures.copied
      ∙ ap (λ (m : Memory). with_copy m (c.args.from + c.loop-done.done) (c.args.to + c.loop-done.done) c.min-count.result) c.loop-done.invariant.1
      ∙ copy-joined (memory_of c.args.self.now) c.args.from c.args.to c.loop-done.done c.min-count.result c.args.len (omega arith) c.requires.apart c.requires.source,
  λ page taken. c.copy_piece.ensures.taken page (c.loop-done.invariant.2 page taken),
)
