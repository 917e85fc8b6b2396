use Rattle.std.proofs.Common.{◌∙◌, sym}
use Rattle.overflow_isolator.proofs.Rows.{size_of_found}
use Rattle.overflow_isolator.proofs.greatest_overflow.overflow_of.Goals as goal

pub overflow_of_row-requires-clause-small : goal.overflow_of_row-requires-clause-small
overflow_of_row-requires-clause-small c =
    let rows = rw c.image.ensures at c.rules.ensures.rows in
    size_of_found c.args.image.now.miniheaps c.args.image.now.clock c.args.object c.args.image.now.rows c.in-Some.row rows (sym c.row_of.ensures ∙ c.in-Some.is)
