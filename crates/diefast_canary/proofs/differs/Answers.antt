use Rattle.std.proofs.Common.{arith}
use Rattle.diefast_canary.proofs.Vectors.{same_where_none}
use Rattle.diefast_canary.proofs.differs.Goals as goal

pub returns : goal.returns
returns c = same_where_none c.args.bytes.now c.args.lanes c.args.at 32 c.requires c.fits-lanes.0 (omega arith)
