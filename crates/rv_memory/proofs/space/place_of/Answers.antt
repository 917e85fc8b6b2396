use Rattle.std.proofs.Common.{arith, sym, ◌∙◌}
use Rattle.rv_memory.proofs.Ordered.{last-out, nowhere-begun}
use Rattle.rv_memory.proofs.space.place_of.Goals.{else-begun-gt0-via-then-begun-gt0+else-holds, else-begun-gt0-via-else-begun-gt0}
use Rattle.rv_memory.proofs.space.place_of.Goals as goal

pub returns-else-begun-gt0 : goal.returns-else-begun-gt0
returns-else-begun-gt0 c =
    nowhere-begun c.args.ranges.now c.begun_by-begun.result c.args.addr c.requires c.begun_by-begun.ensures.fits c.begun_by-begun.ensures.begun c.begun_by-begun.ensures.to_come
    (elim c.else-begun-gt0.branch [
      | else-begun-gt0-via-then-begun-gt0+else-holds w ↦ last-out c.args.ranges.now c.begun_by-begun.result c.args.addr w.index-ranges-begun.result c.begun_by-begun.ensures.fits w.index-ranges-begun.is (sym w.holds.ensures ∙ w.if-holds.false)
      | else-begun-gt0-via-else-begun-gt0 w ↦ λ d some. absurd (omega (arith, some, w.if-begun-gt0.false))
    ])
