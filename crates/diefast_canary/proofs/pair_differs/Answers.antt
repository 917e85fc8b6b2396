use Rattle.std.proofs.Common.{arith}
use Rattle.diefast_canary.proofs.Vectors.{same_where_none}
use Rattle.diefast_canary.proofs.pair_differs.Goals as goal

pub returns : goal.returns
returns c = same_where_none c.args.bytes.now c.args.pair c.args.at 8 c.requires c.fits-pair.0 (omega arith)
