use Rattle.std.proofs.Common.{rules, arith, ◌+◌, ◌-◌, ◌/◌}
use Rattle.rv_memory.proofs.Ordered.{begun-by, to-come-from}
use Rattle.rv_memory.proofs.space.begun_by.Goals as goal

pub loop-low-preserved-then-from-addr : goal.loop-low-preserved-then-from-addr
loop-low-preserved-then-from-addr c = (
  omega arith,
  c.loop-low.invariant.1,
  begun-by c.args.ranges.now (c.loop-low.low + (c.loop-low.high - c.loop-low.low) / 2) c.args.addr c.index-ranges-middle.result c.requires (search rules) c.index-ranges-middle.is (search rules),
  c.loop-low.invariant.3,
)

pub loop-low-preserved : goal.loop-low-preserved
loop-low-preserved c = (
  omega arith,
  omega arith,
  c.loop-low.invariant.2,
  to-come-from c.args.ranges.now (c.loop-low.low + (c.loop-low.high - c.loop-low.low) / 2) c.args.addr c.index-ranges-middle.result c.requires (search rules) c.index-ranges-middle.is (search rules),
)
