use Rattle.std.proofs.Common.{◌≡◌, ◌-◌, []}
use Rattle.heap_image.specs.Formats.{broken_format}
use Rattle.heap_image.specs.Steps.{items_at}
use Rattle.heap_image.proofs.reading.breaks_from.Given as goal

abbrev pub invariant-loop : goal.invariant-loop
invariant-loop l = items_at l.whole (broken_format l.seed l.places l.rows) l.breaks (l.count - l.counter) l.rest ≡ items_at l.whole (broken_format l.seed l.places l.rows) [] l.count l.bytes
