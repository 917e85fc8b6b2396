use Rattle.overflow_isolator.proofs.Windows.{breaks_of}
use Rattle.overflow_isolator.proofs.window.Window.breaks.Goals as goal

pub returns : goal.returns
returns c = breaks_of c.args.self.now c.saturating_sub.result c.breaks_within.result.now c.saturating_sub.ensures c.breaks_within.ensures.within c.breaks_within.ensures.rising
