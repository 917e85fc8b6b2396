use Rattle.miniheap.proofs.DrawLemmas.{found_is_drawn, missed_is_drawn}
use Rattle.miniheap.proofs.heap.Grid.draw.Goals as goal

pub returns-in-Found-clause-drawn : goal.returns-in-Found-clause-drawn
returns-in-Found-clause-drawn c = found_is_drawn c.args.self.now c.args.class c.args.words.now c.in-Found.addr c.draw_often.new.words c.in-Found.ensures

pub returns-in-Missed-clause-drawn : goal.returns-in-Missed-clause-drawn
returns-in-Missed-clause-drawn c = missed_is_drawn c.args.self.now c.args.class c.args.words.now c.in-Missed.last c.draw_often.new.words c.in-Missed.ensures c.next_free.result c.next_free.ensures.next
