use Rattle.std.proofs.Common.{rules, ◌∙◌}
use Rattle.std.proofs.lemmas.Fn.{filter_same}
use Rattle.dangling_isolator.proofs.Sets.{among_same}
use Rattle.dangling_isolator.proofs.finding.keep_those_among.Goals as goal

pub returns : goal.returns
returns c = filter_same _ _ _ (λ x b f' k. search rules) _ _ c.retain.ensures.filtered ∙ among_same c.in_ok-among.among.keys c.args.marks.now c.in_ok-among.ensures c.args.common.now.items
