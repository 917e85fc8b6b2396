use Rattle.std.proofs.Common.{rules, arith}
use Rattle.rv_memory.specs.declared.range.Purpose.TheVariants.{Reading}
use Rattle.rv_memory.specs.Memory.{IsLeastBreak}
use Rattle.rv_memory.specs.Ranges.{granted}
use Rattle.rv_memory.specs.Spaces.{memory_of}
use Rattle.rv_memory.specs.Laws.{at_each}
use Rattle.rv_memory.proofs.Breaks.{first-of-least, none-of-intact}
use Rattle.rv_memory.proofs.Pieces.{clash}
use Rattle.rv_memory.proofs.space.Space.first_break_at.Goals as goal

pub unreachable-requires : goal.unreachable-requires
unreachable-requires c =
    let mapped = at_each (granted Reading (memory_of c.args.self.now)) c.args.addr c.args.len c.loop-at.at c.requires (search rules) (search rules) in
    clash (granted Reading (memory_of c.args.self.now) c.loop-at.at) mapped (c.in_default.ensures.missed Reading)

pub returns-in-Err-clause-first : goal.returns-in-Err-clause-first
returns-in-Err-clause-first c =
    let least : IsLeastBreak (memory_of c.args.self.now) c.args.word c.args.addr c.args.len c.in-Err.broken = search rules in
    first-of-least (memory_of c.args.self.now) c.args.word c.args.addr c.args.len c.in-Err.broken least

pub returns-clause-first : goal.returns-clause-first
returns-clause-first c = none-of-intact (memory_of c.args.self.now) c.args.word c.args.addr c.args.len (λ a low high. c.loop-at.invariant.2 a low (omega arith))
