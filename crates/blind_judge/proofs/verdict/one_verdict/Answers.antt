use Rattle.blind_judge.proofs.Verdicts.{one_verdict}
use Rattle.blind_judge.proofs.verdict.one_verdict.Goals as goal

pub returns : goal.returns
returns c = one_verdict
