use Rattle.std.proofs.Common.{rules}
use Rattle.blind_judge.specs.Pages.{empty_page}
use Rattle.blind_judge.proofs.pages.empty_page.Goals as goal

pub returns : goal.returns
unfolding empty_page
returns c = search rules
