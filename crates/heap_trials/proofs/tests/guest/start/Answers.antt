use Rattle.heap_trials.proofs.tests.guest.start.Goals as goal

pub returns : goal.returns
returns c = c.in_ok-heap.ensures.home c.new-space.result (c.miniheaps_are_mapped.ensures.nothing c.new-space.result c.new-space.ensures)
