use Rattle.rv_memory.specs.Laws.{at_each, from_each, is_some-span, same_memory}
use Rattle.rv_memory.proofs.laws.spans_are_their_bytes.Goals as goal

pub returns : goal.returns
returns c = record { at_each = at_each; from_each = from_each; whole = is_some-span; memories = same_memory }
