use Rattle.std.proofs.Common.{◌∷◌, List, refl, ap, sym, subst}
use Rattle.rv_memory.specs.declared.range.Range.{Range}
use Rattle.rv_memory.specs.Memory.{KeepsTaken}
use Rattle.rv_memory.specs.Ranges.{memory_in, is_taken_in}
use Rattle.rv_memory.specs.Spaces.{memory_of, taken_of}
use Rattle.rv_memory.proofs.space.Space.make_room.Goals as goal

pub returns-clause-memory : goal.returns-clause-memory
unfolding memory_of
returns-clause-memory c = ap (λ (items : List Range). memory_in (c.args.self.now.code ∷ items)) c.reserve.ensures.items

pub returns-clause-taken : goal.returns-clause-taken
unfolding taken_of
returns-clause-taken c = subst (λ (items : List Range). KeepsTaken (is_taken_in (c.args.self.now.code ∷ c.args.self.now.ranges.items)) (is_taken_in (c.args.self.now.code ∷ items))) (sym c.reserve.ensures.items) (λ page is. is)

pub returns-in_err-refine-clause-memory : goal.returns-in_err-refine-clause-memory
unfolding memory_of
returns-in_err-refine-clause-memory c = refl

pub returns-in_err-refine-clause-taken : goal.returns-in_err-refine-clause-taken
unfolding taken_of
returns-in_err-refine-clause-taken c = λ page is. is
