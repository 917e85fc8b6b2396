use Rattle.std.proofs.Common.{◌≡◌, ◌-◌, []}
use Rattle.heap_image.specs.Formats.{row_format}
use Rattle.heap_image.specs.Steps.{items_at}
use Rattle.heap_image.proofs.reading.rows_from.Given as goal

abbrev pub invariant-loop : goal.invariant-loop
invariant-loop l = items_at l.whole (row_format l.version l.places l.clock) l.rows (l.count - l.counter) l.rest ≡ items_at l.whole (row_format l.version l.places l.clock) [] l.count l.bytes
