use Rattle.std.proofs.Common.{◌≡◌, ◌-◌, []}
use Rattle.heap_image.specs.Formats.{class_format}
use Rattle.heap_image.specs.Steps.{items_at}
use Rattle.heap_image.proofs.reading.classes_of.Given as goal

abbrev pub invariant-loop : goal.invariant-loop
invariant-loop l = items_at l.whole (class_format l.version) l.places (l.count - l.counter) l.rest ≡ items_at l.whole (class_format l.version) [] l.count l.bytes
