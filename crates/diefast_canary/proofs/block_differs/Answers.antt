use Rattle.diefast_canary.proofs.Vectors.{same_where_four_agree}
use Rattle.diefast_canary.proofs.block_differs.Goals as goal

pub returns : goal.returns
returns c = same_where_four_agree c.args.bytes.now c.args.lanes c.args.at c.requires.room c.requires.len
