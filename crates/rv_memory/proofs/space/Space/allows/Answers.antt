use Rattle.std.proofs.Common.{rules, arith, sym}
use Rattle.rv_memory.specs.Ranges.{granted}
use Rattle.rv_memory.specs.Spaces.{memory_of}
use Rattle.rv_memory.specs.Laws.{from_each}
use Rattle.rv_memory.proofs.Spans.{fails_at}
use Rattle.rv_memory.proofs.space.Space.allows.Goals as goal

pub returns-in-None : goal.returns-in-None
returns-in-None c = sym (fails_at (granted c.args.purpose (memory_of c.args.self.now)) c.args.addr c.args.len c.loop-at.at (search rules) (search rules) (search rules))

pub returns : goal.returns
returns c = sym (from_each (granted c.args.purpose (memory_of c.args.self.now)) c.args.addr c.args.len (λ a low high. c.loop-at.invariant.1 a low (omega arith)))
