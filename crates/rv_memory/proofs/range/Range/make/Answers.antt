use Rattle.std.proofs.Common.{rules, refl, sym, ap, ◌∙◌, ◌+◌}
use Rattle.std.proofs.lemmas.List.{with_items_is}
use Rattle.rv_memory.specs.Access.{rest_byte}
use Rattle.rv_memory.proofs.Bytes.{over-made}
use Rattle.rv_memory.proofs.range.Range.make.Goals as goal

pub returns-in-Canary-clause-same : goal.returns-in-Canary-clause-same
returns-in-Canary-clause-same c = over-made c.args.self.now _ c.fill.new.bytes refl refl refl refl (with_items_is c.resize.new.self c.fill.new.bytes (search rules)) (search rules) (search rules) (λ k low. c.fill.ensures.each k low ∙ sym (ap (λ r. rest_byte r (c.args.self.now.from + k)) c.in-Canary.is))
