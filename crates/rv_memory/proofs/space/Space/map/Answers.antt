use Rattle.std.proofs.Common.{rules, arith, ◌≡◌, ◌∙◌, ◌+◌, ◌-◌, ap}
use Rattle.rv_memory.specs.Access.{new_byte}
use Rattle.rv_memory.specs.Memory.{Memory, is_unmapped, with_range}
use Rattle.rv_memory.specs.Ranges.{byte_at, end_of}
use Rattle.rv_memory.specs.Spaces.{memory_of}
use Rattle.rv_memory.proofs.Cut.{parts-last, parts-none, parts-rise, joined, free-behind}
use Rattle.rv_memory.proofs.space.Space.map.Goals as goal

pub add_range-requires-clause-some : goal.add_range-requires-clause-some
add_range-requires-clause-some c = let last = parts-last c.loop-part.invariant.0 (c.args.from + c.args.len) (new_byte c.args.first.now c.args.rest c.args.from) c.args.writable c.args.runs c.loop-part.parts.items c.pop.new.self.items c.in-Some.part c.loop-part.invariant.1 c.in-Some.ensures.items in last.1.some

pub add_range-requires-clause-unmapped : goal.add_range-requires-clause-unmapped
add_range-requires-clause-unmapped c =
    let last = parts-last c.loop-part.invariant.0 (c.args.from + c.args.len) (new_byte c.args.first.now c.args.rest c.args.from) c.args.writable c.args.runs c.loop-part.parts.items c.pop.new.self.items c.in-Some.part c.loop-part.invariant.1 c.in-Some.ensures.items in
    ap (λ (m : Memory). is_unmapped m c.in-Some.part.from c.in-Some.part.len) c.loop-part.invariant.3
    ∙ free-behind (memory_of c.args.self.now) c.in-Some.part c.args.from c.args.len c.loop-part.invariant.0 (new_byte c.args.first.now c.args.rest c.args.from) c.args.writable c.args.runs last.2 c.loop-part.invariant.2 (parts-rise (end_of c.in-Some.part) (c.args.from + c.args.len) (new_byte c.args.first.now c.args.rest c.args.from) c.args.writable c.args.runs c.pop.new.self.items last.0) c.requires.unmapped

pub loop-part-preserved : goal.loop-part-preserved
loop-part-preserved c =
    let last = parts-last c.loop-part.invariant.0 (c.args.from + c.args.len) (new_byte c.args.first.now c.args.rest c.args.from) c.args.writable c.args.runs c.loop-part.parts.items c.pop.new.self.items c.in-Some.part c.loop-part.invariant.1 c.in-Some.ensures.items in (
      end_of c.in-Some.part,
      last.0,
      omega (arith, last.2, c.loop-part.invariant.2),
      c.add_range.ensures.mapped
          ∙ ap (λ (m : Memory). with_range m c.in-Some.part.from c.in-Some.part.len (byte_at c.in-Some.part) c.in-Some.part.writable c.in-Some.part.runs) c.loop-part.invariant.3
          ∙ joined (memory_of c.args.self.now) c.in-Some.part c.args.from c.loop-part.invariant.0 (new_byte c.args.first.now c.args.rest c.args.from) c.args.writable c.args.runs last.1 last.2 c.loop-part.invariant.2,
      λ page taken. c.add_range.ensures.taken page (c.loop-part.invariant.4 page taken),
      search rules,
    )

pub returns-clause-mapped : goal.returns-clause-mapped
returns-clause-mapped c =
    let all = parts-none c.loop-part.invariant.0 (c.args.from + c.args.len) (new_byte c.args.first.now c.args.rest c.args.from) c.args.writable c.args.runs c.loop-part.parts.items c.loop-part.invariant.1 (search rules) in
    let size : c.loop-part.invariant.0 - c.args.from ≡ c.args.len = omega (arith, all) in
    c.loop-part.invariant.3 ∙ ap (λ n. with_range (memory_of c.args.self.now) c.args.from n (new_byte c.args.first.now c.args.rest c.args.from) c.args.writable c.args.runs) size
