use Rattle.std.proofs.Common.{rules}
use Rattle.culprits.specs.declared.found.Overflow.{Overflow}
use Rattle.overflow_isolator.specs.Overflows.{IsGreatestOverflow}
use Rattle.overflow_isolator.proofs.Entries.{put_next}
use Rattle.overflow_isolator.proofs.Exact.{one_overflow}
use Rattle.overflow_isolator.proofs.finding.overflows_by_object.Goals as goal

pub loop-row-preserved : goal.loop-row-preserved
loop-row-preserved c =
    put_next (λ (f : Overflow). f.object) (IsGreatestOverflow c.args.images.now) (one_overflow c.args.images.now c.args.image.now c.requires) c.args.rows.now c.loop-row.found.entries c.put_overflow.new.found.entries c.loop-row.row-index (record { addr = 0; state = 0; object = 0; size = 0; front = 0; site = 0; free_site = 0; freed = 0 }) _ c.in_ok-overflow.overflow (search rules) c.in_ok-overflow.ensures c.loop-row.invariant (search rules) (search rules)
