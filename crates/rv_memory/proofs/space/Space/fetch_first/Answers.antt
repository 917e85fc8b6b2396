use Rattle.std.proofs.Common.{rules, arith, ◌∙◌, ◌<◌, sym}
use Rattle.std.proofs.lemmas.Bool.Decides.{nat_tests}
use Rattle.rv_memory.proofs.Loads.{found-at-code, fetch-found}
use Rattle.rv_memory.proofs.space.Space.fetch_first.Goals as goal

pub returns-then-at-len : goal.returns-then-at-len
returns-then-at-len c =
    let low : c.place-at.result < c.args.self.now.code.len = omega (arith, c.args.self.now.code.fits) in
    let found = found-at-code c.args.self.now c.args.addr (sym c.place-at.ensures.held ∙ grind (arith, nat_tests)) in
    fetch-found c.args.self.now c.args.addr c.place-at.result c.args.self.now.code c.read.result found c.args.self.now.code_runs (c.place-at.ensures.place low) (search rules) c.read.ensures
