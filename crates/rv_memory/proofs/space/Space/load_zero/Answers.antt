use Rattle.std.proofs.Common.{rules}
use Rattle.rv_memory.proofs.Loads.{found-at-place, zeros-found}
use Rattle.rv_memory.proofs.space.Space.load_zero.Goals as goal

pub returns-then-is_zero : goal.returns-then-is_zero
returns-then-is_zero c =
    let zero = c.if-is_zero.ensures in
    let found = found-at-place c.args.self.now c.get-hint.result c.args.addr c.index.result.now (search rules) c.index.ensures zero.0 in
    zeros-found c.args.self.now c.args.addr c.args.width c.index.result.now found zero.1 zero.2
