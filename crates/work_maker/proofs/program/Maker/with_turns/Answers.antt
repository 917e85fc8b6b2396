use Rattle.std.proofs.Common.{arith}
use Rattle.work_maker.specs.Draws.{word_in}
use Rattle.work_maker.proofs.Turns.{begins, length-turns, with-one_more_turn}
use Rattle.work_maker.proofs.Drawn.{stream-first, stream-next, word-next}
use Rattle.work_maker.proofs.program.Maker.with_turns.Goals as goal

pub loop-j-init : goal.loop-j-init
loop-j-init g c = record {
  before = begins (word_in (g.R.Rng.stream c.args.draws.now)) _ _ c.in_ok-maker.ensures.code c.in_ok-maker.ensures.full;
  left = stream-first (g.R.Rng.stream c.args.draws.now);
}

pub turn-requires : goal.turn-requires
turn-requires g c =
    omega (
      arith,
      c.requires,
      c.loop-j-test.true,
      length-turns (word_in (g.R.Rng.stream c.args.draws.now)) c.loop-j.j c.loop-j.maker.code.items c.loop-j.maker.full c.loop-j.invariant.before,
    )

pub loop-j-preserved : goal.loop-j-preserved
loop-j-preserved g c =
    let draws = g.R.Rng.stream c.args.draws.now in
    let now = g.R.Rng.stream c.loop-j.draws in
    let next = g.R.Rng.stream c.next_u32-draw.new.self in
    record {
      before =
          with-one_more_turn (word_in draws) c.loop-j.j c.next_u32-draw.result c.loop-j.maker.code.items c.turn.new.self.code.items
          c.loop-j.maker.full c.turn.new.self.full c.loop-j.invariant.before
          (word-next draws now next c.loop-j.j c.next_u32-draw.result c.loop-j.invariant.left c.next_u32-draw.ensures)
          c.in_ok-turn.ensures.code c.in_ok-turn.ensures.full;
      left = stream-next draws now next c.loop-j.j c.next_u32-draw.result c.loop-j.invariant.left c.next_u32-draw.ensures;
    }
