use Rattle.std.proofs.Common.{rules, arith, ◌∙◌, ◌<◌, sym}
use Rattle.std.proofs.lemmas.Bool.Decides.{nat_tests}
use Rattle.rv_memory.proofs.Loads.{some_bytes, found-at-place, load-found}
use Rattle.rv_memory.proofs.space.Space.load_hinted.Goals as goal

pub returns-then-at-bytes : goal.returns-then-at-bytes
returns-then-at-bytes c =
    let some = some_bytes c.args.width in
    let low : c.place-at.result < c.index-range.result.now.len = omega (arith, c.bytes.ensures, c.index-range.result.now.fits) in
    let found = found-at-place c.args.self.now c.get-hint.result c.args.addr c.index-range.result.now (search rules) c.index-range.ensures (sym c.place-at.ensures.held ∙ grind (arith, nat_tests)) in
    load-found c.args.self.now c.args.addr c.place-at.result c.args.width c.index-range.result.now c.read.result found (c.place-at.ensures.place low) (search rules) c.read.ensures
