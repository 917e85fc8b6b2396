use Rattle.std.proofs.Common.{◌≡◌, ap, ◌∙◌, sym, subst}
use Rattle.patch_table.specs.Table.{IsBelow, Table, join}
use Rattle.replicate.proofs.seat_gate.raised.Goals as goal

pub returns-clause-below : goal.returns-clause-below
returns-clause-below c =
    let is : c.join.new.self ≡ join c.args.own.now c.args.table.now = c.in_ok-join.ensures.ok ∙ ap (λ (t : Table). join t c.args.table.now) c.in_ok-patches.ensures in
    subst (λ (t : Table). IsBelow c.args.own.now t) (sym is) (c.join_is_the_least_above.ensures.above c.args.own.now c.args.table.now).0

pub returns-clause-table : goal.returns-clause-table
returns-clause-table c = λ below.
    let is : c.join.new.self ≡ join c.args.own.now c.args.table.now = c.in_ok-join.ensures.ok ∙ ap (λ (t : Table). join t c.args.table.now) c.in_ok-patches.ensures in
    c.below_is_an_order.ensures.antisymmetric c.join.new.self c.args.table.now c.keep_limits-2.ensures c.keep_limits.ensures
    (subst (λ (t : Table). IsBelow t c.args.table.now) (sym is) (c.join_is_the_least_above.ensures.least c.args.own.now c.args.table.now c.args.table.now below (c.below_is_an_order.ensures.reflexive c.args.table.now)))
    (subst (λ (t : Table). IsBelow c.args.table.now t) (sym is) (c.join_is_the_least_above.ensures.above c.args.own.now c.args.table.now).1)
