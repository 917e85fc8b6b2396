use Rattle.std.proofs.Common.{rules}
use Rattle.culprits.specs.declared.found.Underflow.{Underflow}
use Rattle.overflow_isolator.specs.Overflows.{IsGreatestUnderflow}
use Rattle.overflow_isolator.proofs.Entries.{put_next}
use Rattle.overflow_isolator.proofs.Exact.{one_underflow}
use Rattle.overflow_isolator.proofs.finding_underflows.underflows_by_object.Goals as goal

pub loop-row-preserved : goal.loop-row-preserved
loop-row-preserved c =
    put_next (λ (f : Underflow). f.object) (IsGreatestUnderflow c.args.images.now) (one_underflow c.args.images.now c.args.image.now c.requires) c.args.rows.now c.loop-row.found.entries c.put_underflow.new.found.entries c.loop-row.row-index (record { addr = 0; state = 0; object = 0; size = 0; front = 0; site = 0; free_site = 0; freed = 0 }) _ c.in_ok-underflow.underflow (search rules) c.in_ok-underflow.ensures c.loop-row.invariant (search rules) (search rules)
