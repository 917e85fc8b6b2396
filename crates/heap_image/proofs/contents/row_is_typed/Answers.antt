use Rattle.std.proofs.Common.{arith}
use Rattle.heap_image.proofs.contents.row_is_typed.Goals as goal

pub returns : goal.returns
returns c = record {
  addr = omega (arith, c.ranges.addr);
  state = omega (arith, c.ranges.state);
  object = omega (arith, c.ranges.object);
  size = omega (arith, c.ranges.size);
  front = omega (arith, c.ranges.front);
  site = omega (arith, c.ranges.site);
  free_site = omega (arith, c.ranges.free_site);
  freed = omega (arith, c.ranges.freed);
}
