use Rattle.std.proofs.Common.{◌∙◌}
use Rattle.dangling_isolator.proofs.Sets.{among_by}
use Rattle.dangling_isolator.proofs.finding.is_among.Goals as goal

pub returns : goal.returns
returns c = c.contains.ensures ∙ among_by c.args.marks.now.keys c.args.mark.now
