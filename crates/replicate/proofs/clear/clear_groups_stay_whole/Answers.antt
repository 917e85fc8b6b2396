use Rattle.replicate.proofs.ClearGroups.{clear_groups_stay_whole as whole}
use Rattle.replicate.proofs.clear.clear_groups_stay_whole.Goals as goal

pub returns : goal.returns
returns c = whole c.clear_rounds_stay_whole.ensures c.schedules_are_rounds.ensures.rounds c.replicas_wait_for_writes.ensures.start
