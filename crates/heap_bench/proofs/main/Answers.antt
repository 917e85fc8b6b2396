use Rattle.heap_bench.proofs.main.Goals as goal

pub drive-requires : goal.drive-requires
drive-requires c = c.in-Ok.ensures.home c.new-space.result (c.miniheaps_are_mapped.ensures.nothing c.new-space.result c.new-space.ensures)
