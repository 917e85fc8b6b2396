use Rattle.std.proofs.Common.{rules, arith, ◌∙◌, ◌<◌, sym}
use Rattle.std.proofs.lemmas.Bool.Decides.{nat_tests}
use Rattle.rv_memory.proofs.Loads.{found-at-place, fetch-found}
use Rattle.rv_memory.proofs.space.Space.fetch_hinted.Goals as goal

pub returns-then-at-len : goal.returns-then-at-len
returns-then-at-len c =
    let low : c.place-at.result < c.index-range.result.now.len = omega (arith, c.index-range.result.now.fits) in
    let found = found-at-place c.args.self.now c.get_code-hint.result c.args.addr c.index-range.result.now (search rules) c.index-range.ensures (sym c.place-at.ensures.held ∙ grind (arith, nat_tests)) in
    fetch-found c.args.self.now c.args.addr c.place-at.result c.index-range.result.now c.read.result found c.if-range.true (c.place-at.ensures.place low) (search rules) c.read.ensures
