use Rattle.std.proofs.Common.{ap, ◌∙◌, arith}
use Rattle.diefast_canary.specs.Canary.{canary_byte}
use Rattle.diefast_canary.proofs.Rotation.{canary_byte-turned}
use Rattle.diefast_canary.proofs.turned.Goals as goal

pub returns : goal.returns
returns c k = ap (λ w. canary_byte w k) c.rotate_right.ensures ∙ canary_byte-turned c.args.word c.args.phase k (omega arith)
