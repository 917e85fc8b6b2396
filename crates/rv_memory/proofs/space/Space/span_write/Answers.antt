use Rattle.std.proofs.Common.{rules, length, ap, ◌∙◌}
use Rattle.rv_memory.specs.Memory.{Memory, is_mapped}
use Rattle.rv_memory.specs.Spaces.{memory_of}
use Rattle.rv_memory.proofs.Spans.{mapped-writable}
use Rattle.rv_memory.proofs.Found.{space-bounded}
use Rattle.rv_memory.proofs.space.Space.span_write.Goals as goal

pub make-requires-clause-mapped : goal.make-requires-clause-mapped
make-requires-clause-mapped c = mapped-writable (memory_of c.args.self.now) c.args.addr (length c.args.bytes.now) (space-bounded c.args.self.now) (search rules)

pub put-requires-clause-mapped : goal.put-requires-clause-mapped
put-requires-clause-mapped c =
    ap (λ (m : Memory). is_mapped m c.args.addr (length c.args.bytes.now)) c.make.ensures.memory
    ∙ mapped-writable (memory_of c.args.self.now) c.args.addr (length c.args.bytes.now) (space-bounded c.args.self.now) (search rules)
