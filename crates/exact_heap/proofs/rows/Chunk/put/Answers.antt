use Rattle.std.proofs.Common.{sym, ◌∙◌, arith}
use Rattle.exact_heap.proofs.Chunks.{rank_known, row_known, row_replaced}
use Rattle.exact_heap.proofs.RowStores.{none_known}
use Rattle.exact_heap.proofs.rows.Chunk.put.Goals as goal

pub index_mut-requires : goal.index_mut-requires
index_mut-requires c = omega (arith, c.self.inside.rows.ok.0, rank_known c.self.inside.marks c.self.inside.rows.items c.args.self.now c.args.nth c.rank-rank.result c.self.view_is c.self.invariant.1 (sym c.has.ensures ∙ c.if-has.true) c.rank-rank.ensures)

pub returns-then-has-clause-ok : goal.returns-then-has-clause-ok
returns-then-has-clause-ok c = row_replaced c.self.inside.marks c.self.inside.rows.items c.args.self.now c.args.nth c.rank-rank.result c.args.row c.self.view_is c.self.invariant.1 (sym c.has.ensures ∙ c.if-has.true) c.rank-rank.ensures

pub returns-clause-sure : goal.returns-clause-sure
returns-clause-sure c = λ some. absurd (none_known (row_known c.self.inside.marks c.self.inside.rows.items c.args.self.now c.args.nth c.self.view_is (sym c.has.ensures ∙ c.if-has.false)) some)
