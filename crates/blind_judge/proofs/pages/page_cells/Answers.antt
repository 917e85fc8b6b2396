use Rattle.std.proofs.Common.{◌<◌, ◌≢◌, length, arith, get_or-set_other, get_or-set_same, below_more, length-set, ◌∙◌, ap}
use Rattle.std.specs.Option.{unwrap_or}
use Rattle.blind_judge.proofs.pages.page_cells.Goals as goal

pub loop-i-preserved : goal.loop-i-preserved
loop-i-preserved c = record {
  size = length-set c.loop-i.cells c.loop-i.i c.unwrap_or.result ∙ c.loop-i.invariant.size;
  cells =
      below_more _ _
      (λ k h. let ne : k ≢ c.loop-i.i = omega arith in rw get_or-set_other (c.loop-i.invariant.cells k h))
      (let lt : c.loop-i.i < length c.loop-i.cells = omega (arith, c.loop-i.invariant.size) in
      rw get_or-set_same (c.unwrap_or.ensures ∙ ap (λ x. unwrap_or x c.args.begins) c.cell.ensures));
}
