use Rattle.std.proofs.Common.{rules, arith, ◌+◌, length}
use Rattle.rv_memory.specs.declared.range.Purpose.TheVariants.{Reading}
use Rattle.rv_memory.specs.Ranges.{granted}
use Rattle.rv_memory.specs.Spaces.{memory_of}
use Rattle.rv_memory.specs.Laws.{at_each, span-none}
use Rattle.rv_memory.proofs.Spans.{span-is}
use Rattle.rv_memory.proofs.space.Space.span_read.Goals as goal

pub returns-then-not-allows-clause-unmapped : goal.returns-then-not-allows-clause-unmapped
returns-then-not-allows-clause-unmapped c = span-none (memory_of c.args.self.now).bytes c.args.addr (length c.args.buf.now) (search rules)

pub read_piece-done-requires-clause-mapped : goal.read_piece-done-requires-clause-mapped
read_piece-done-requires-clause-mapped c = at_each (granted Reading (memory_of c.args.self.now)) c.args.addr (length c.args.buf.now) (c.args.addr + c.loop-done.done) (search rules) (omega arith) (search rules)

pub returns-clause-read : goal.returns-clause-read
returns-clause-read c = span-is (memory_of c.args.self.now).bytes c.args.addr (length c.args.buf.now) c.loop-done.buf (search rules) (λ k low. c.loop-done.invariant.1 k (search rules))
