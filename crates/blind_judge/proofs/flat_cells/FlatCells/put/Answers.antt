use Rattle.std.proofs.Common.{◌/◌, sym, subst}
use Rattle.std.specs.BTreeMap as tree
use Rattle.std.specs.Ordering.{nat_cmp}
use Rattle.blind_judge.specs.FlatBytes.{byte_in}
use Rattle.blind_judge.specs.FlatCells.{odd_in}
use Rattle.blind_judge.proofs.CellsPut.{Marked, one_more_mark, marked_insert}
use Rattle.blind_judge.proofs.flat_cells.FlatCells.put.Goals as goal

pub invariant_of-self : goal.invariant_of-self
invariant_of-self c = record { marked = subst (λ f. Marked f (odd_in c.args.self.now)) (sym c.in_err-put.ensures.same) c.args.self.now.marked }

pub invariant_of-self-2 : goal.invariant_of-self-2
invariant_of-self-2 c =
    let old = c.args.self.now in
    let is = c.in_ok-put.ensures.put in
    let h = one_more_mark (byte_in old.marks) (odd_in old) (c.args.x / 4) old.marked in
    record { marked = subst (λ f. Marked f (tree.get nat_cmp c.insert.new.self)) (sym is) (marked_insert c.insert.result (byte_in old.marks) old.cells c.insert.new.self c.args.x c.args.cell h c.insert.ensures.updates c.insert.ensures.err) }
