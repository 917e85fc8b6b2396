use Rattle.std.proofs.Common.{arith}
use Rattle.work_maker.specs.Draws.{word_in}
use Rattle.work_maker.proofs.Turns.{length-turns, whole-program}
use Rattle.work_maker.proofs.InRange.{in_range-program, short-program}
use Rattle.work_maker.proofs.program.made_of.Goals as goal

pub free_all-requires : goal.free_all-requires
free_all-requires g c =
    omega (
      arith,
      c.requires,
      length-turns (word_in (g.R.Rng.stream c.args.draws.now)) c.args.turns c.in_ok-maker.maker.code.items c.in_ok-maker.maker.full c.in_ok-maker.ensures,
    )

pub end-requires : goal.end-requires
end-requires g c =
    omega (
      arith,
      c.requires,
      c.in_ok-free_all.ensures.length,
      length-turns (word_in (g.R.Rng.stream c.args.draws.now)) c.args.turns c.in_ok-maker.maker.code.items c.in_ok-maker.maker.full c.in_ok-maker.ensures,
    )

pub returns-clause-made : goal.returns-clause-made
returns-clause-made g c =
    whole-program (word_in (g.R.Rng.stream c.args.draws.now)) c.args.turns c.in_ok-maker.maker.code.items c.free_all.new.self.code.items
    c.end.new.self.code.items c.in_ok-maker.maker.full c.in_ok-maker.ensures c.in_ok-free_all.ensures.code c.in_ok-end.ensures

pub returns-clause-in_range : goal.returns-clause-in_range
returns-clause-in_range g c =
    in_range-program (word_in (g.R.Rng.stream c.args.draws.now)) c.args.turns c.end.new.self.code.items c.requires
    (whole-program (word_in (g.R.Rng.stream c.args.draws.now)) c.args.turns c.in_ok-maker.maker.code.items c.free_all.new.self.code.items
    c.end.new.self.code.items c.in_ok-maker.maker.full c.in_ok-maker.ensures c.in_ok-free_all.ensures.code c.in_ok-end.ensures)

pub returns-clause-short : goal.returns-clause-short
returns-clause-short g c =
    short-program (word_in (g.R.Rng.stream c.args.draws.now)) c.args.turns c.end.new.self.code.items c.requires
    (whole-program (word_in (g.R.Rng.stream c.args.draws.now)) c.args.turns c.in_ok-maker.maker.code.items c.free_all.new.self.code.items
    c.end.new.self.code.items c.in_ok-maker.maker.full c.in_ok-maker.ensures c.in_ok-free_all.ensures.code c.in_ok-end.ensures)
