use Rattle.std.proofs.Common.{arith, ◌≤◌, ◌<◌, ◌-◌, length, take}
use Rattle.std.proofs.lemmas.Grind.{common_steps}
use Rattle.ex_io.proofs.Taken.{fills-grown, fills-lost}
use Rattle.ex_io.proofs.tape.take_up_to.Goals as goal

pub returns-in_default-clause-taken : goal.returns-in_default-clause-taken
returns-in_default-clause-taken g c =
    let old = c.args.bytes.now.items in
    let mid = c.loop-piece.bytes.items in
    let piece = take c.in-Ok.count c.fill.new.buf in
    let room : length mid < c.args.wanted = omega arith in
    let fits : length piece ≤ c.args.wanted - length mid = grind (arith, common_steps, c.in-Ok.ensures.bound) in (
      fills-grown old mid c.extend_from_slice.new.self.items _ _ c.args.wanted c.loop-piece.invariant.0 c.in_default.ensures.items,
      fills-lost old mid piece _ _ _ c.args.wanted c.loop-piece.invariant.0 room c.in-Ok.ensures.bytes.0 fits,
    )
