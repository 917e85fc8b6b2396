use Rattle.std.proofs.Common.{◌≡◌, ◌∷◌, List, sym, ap, subst, ◌∙◌}
use Rattle.std.specs.List.{insert}
use Rattle.rv_memory.specs.declared.range.Range.{Range}
use Rattle.rv_memory.specs.Memory.{KeepsTaken}
use Rattle.rv_memory.specs.Ranges.{IsApart, IsInOrder, memory_in, is_taken_in}
use Rattle.rv_memory.specs.Spaces.{memory_of, taken_of}
use Rattle.rv_memory.proofs.Mapped.{apart-placed, order-placed, memory-placed}
use Rattle.rv_memory.proofs.Taken.{keeps-added}
use Rattle.rv_memory.proofs.space.Space.add_range.Goals as goal

pub begun_by-at-requires : goal.begun_by-at-requires
begun_by-at-requires c = subst IsInOrder (sym c.deref.ensures.value) c.args.self.now.order

pub invariant_of-self : goal.invariant_of-self
invariant_of-self c =
    let fits = rw c.deref.ensures.value at c.begun_by-at.ensures.fits in
    let begun = rw (c.deref.ensures.value, c.from.ensures) at c.begun_by-at.ensures.begun in
    let to_come = rw (c.deref.ensures.value, c.from.ensures) at c.begun_by-at.ensures.to_come in
    record {
      apart = subst (λ (items : List Range). IsApart (c.args.self.now.code ∷ items)) (sym c.insert.ensures.items) (apart-placed c.args.self.now c.args.range c.begun_by-at.result _ c.requires.unmapped c.requires.some fits begun to_come);
      order = subst IsInOrder (sym c.insert.ensures.items) (order-placed c.args.self.now c.args.range c.begun_by-at.result _ c.requires.unmapped c.requires.some fits begun to_come);
      code_runs = c.args.self.now.code_runs;
      code_fixed = c.args.self.now.code_fixed;
      code_made = c.args.self.now.code_made;
    }

pub returns-clause-mapped : goal.returns-clause-mapped
unfolding memory_of
returns-clause-mapped c =
    let items : c.insert.new.self.items ≡ insert c.args.self.now.ranges.items c.begun_by-at.result c.args.range = c.in-Ok.ensures.items in
    ap (λ (items : List Range). memory_in (c.args.self.now.code ∷ items)) items ∙ memory-placed c.args.self.now c.args.range c.begun_by-at.result c.requires.unmapped

pub returns-clause-taken : goal.returns-clause-taken
unfolding taken_of
returns-clause-taken c =
    let items : c.insert.new.self.items ≡ insert c.args.self.now.ranges.items c.begun_by-at.result c.args.range = c.in-Ok.ensures.items in
    subst (λ (items : List Range). KeepsTaken (is_taken_in (c.args.self.now.code ∷ c.args.self.now.ranges.items)) (is_taken_in (c.args.self.now.code ∷ items))) (sym items) (keeps-added c.args.self.now c.begun_by-at.result c.args.range)
