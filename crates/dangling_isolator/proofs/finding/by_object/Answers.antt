use Rattle.std.proofs.Common.{rules}
use Rattle.dangling_isolator.proofs.Entries.{put_next}
use Rattle.dangling_isolator.proofs.finding.by_object.Goals as goal

pub loop-mark-preserved : goal.loop-mark-preserved
loop-mark-preserved c = put_next c.args.seen c.args.marks.now c.loop-mark.found.entries c.insert.new.self.entries c.loop-mark.mark-index (record { object = 0; size = 0; front = 0; site = 0; free_site = 0; freed = 0; offset = 0; byte = 0 }) (search rules) c.loop-mark.invariant (search rules)
