use Rattle.std.proofs.Common.{rules, arith, ap, length, get_or, List, ℕ}
use Rattle.rv_memory.proofs.Overwritten.{get_or-put}
use Rattle.rv_memory.proofs.range.put.Goals as goal

pub returns-clause-each : goal.returns-clause-each
returns-clause-each c = λ i low. get_or-put c.args.at _ (length c.args.piece.now) i c.args.bytes.now c.copy_from_slice.new.self (λ j. get_or c.args.piece.now j 0) (omega arith) (search rules) c.requires (λ j j-low. ap (λ (xs : List ℕ). get_or xs j 0) c.copy_from_slice.ensures.after)
