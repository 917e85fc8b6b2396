use Rattle.std.proofs.Common.{rules, ◌+◌, arith, refl}
use Rattle.diefast_canary.specs.Canary.{canary_byte}
use Rattle.rv_memory.proofs.Overwritten.{get_or-put}
use Rattle.rv_memory.proofs.range.lay.Goals as goal

pub returns-in-Zero-clause-each : goal.returns-in-Zero-clause-each
returns-in-Zero-clause-each c = λ i low. rw c.in-Zero.is (get_or-put c.args.at _ c.args.count i c.args.bytes.now c.fill.new.self (λ j. 0) (omega arith) (search rules) c.requires (λ j j-low. c.fill.ensures.clones j 0 (search rules) refl))

pub returns-in-Canary-clause-each : goal.returns-in-Canary-clause-each
returns-in-Canary-clause-each c = λ i low. rw c.in-Canary.is (get_or-put c.args.at _ c.args.count i c.args.bytes.now c.fill-in-Canary.new.bytes (λ j. canary_byte c.in-Canary.word (c.args.addr + j)) (omega arith) (search rules) c.requires (λ j j-low. c.fill-in-Canary.ensures.each j (search rules)))
