use Rattle.std.proofs.Common.{ap, ◌∙◌, sym, subst, arith}
use Rattle.patch_table.specs.Table.{IsBelow, Table}
use Rattle.exact_heap.specs.declared.heap.Heap.{Heap}
use Rattle.exact_heap.specs.Heaps.{rules_of}
use Rattle.exact_heap.specs.Placing.{Rules}
use Rattle.rv_machine.specs.Core.{Core}
use Rattle.replicate.proofs.Gated.{rules-of, seat-patched, still-ready}
use Rattle.replicate.proofs.seat.Seat.adopt.Goals as goal

pub set_patches-requires : goal.set_patches-requires
set_patches-requires c = subst (λ (t : Table). IsBelow t c.in_ok-patches.patches) (c.patches.ensures ∙ ap (λ (h : Heap). (rules_of h).patches) c.heap.ensures) c.in_ok-patches.ensures.below

pub invariant_of-self : goal.invariant_of-self
invariant_of-self c =
    let steps = ap (λ (k : Core). k.steps) c.set_patches.ensures.core in record {
      ready = still-ready c.in_ok-patches.patches c.args.self.now.state c.args.self.now.machine c.set_patches.new.self c.set_patches.ensures.patched c.set_patches.ensures.spent c.set_patches.ensures.core c.args.self.now.ready;
      budgeted = c.args.self.now.budgeted;
      counted = λ is. let small = c.args.self.now.counted is in omega (arith, steps, small);
      writes = λ is. let small = c.args.self.now.writes is in omega (arith, steps, small);
      placed = λ is. let small = c.args.self.now.placed is in omega (arith, steps, small);
    }

pub returns-clause-adopts : goal.returns-clause-adopts
returns-clause-adopts c = λ r so below.
    let own = c.patches.ensures ∙ ap (λ (h : Heap). (rules_of h).patches) c.heap.ensures ∙ ap (λ (k : Rules). k.patches) (rules-of r c.args.self.now.state c.args.self.now.machine c.args.self.now.place so.stands) in
    let same = c.in_ok-patches.ensures.table (subst (λ (t : Table). IsBelow t c.args.table.now) (sym own) below) in
    seat-patched c.in_ok-patches.patches c.args.table.now r c.args.self.now.state c.args.self.now.live c.args.self.now.mark c.args.self.now.machine c.set_patches.new.self c.args.self.now.place c.set_patches.ensures.patched c.set_patches.ensures.spent c.set_patches.ensures.core same so
