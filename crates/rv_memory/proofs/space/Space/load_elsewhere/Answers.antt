use Rattle.std.proofs.Common.{rules, arith, ◌∙◌, ◌<◌, sym}
use Rattle.std.proofs.lemmas.Bool.Decides.{nat_tests}
use Rattle.rv_memory.proofs.Loads.{some_bytes, found-at-code, load-found}
use Rattle.rv_memory.proofs.space.Space.load_elsewhere.Goals as goal

pub returns-then-at-bytes : goal.returns-then-at-bytes
returns-then-at-bytes c =
    let some = some_bytes c.args.width in
    let low : c.place-at.result < c.args.self.now.code.len = omega (arith, c.bytes.ensures, c.args.self.now.code.fits) in
    load-found c.args.self.now c.args.addr c.place-at.result c.args.width c.args.self.now.code c.read.result (found-at-code c.args.self.now c.args.addr (sym c.place-at.ensures.held ∙ grind (arith, nat_tests))) (c.place-at.ensures.place low) (search rules) c.read.ensures
