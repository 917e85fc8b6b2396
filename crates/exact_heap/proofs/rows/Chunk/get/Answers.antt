use Rattle.std.proofs.Common.{sym, ◌∙◌, arith}
use Rattle.exact_heap.proofs.Chunks.{rank_known, row_read}
use Rattle.exact_heap.proofs.rows.Chunk.get.Goals as goal

pub index-requires : goal.index-requires
index-requires c = omega (arith, c.self.inside.rows.ok.0, rank_known c.self.inside.marks c.self.inside.rows.items c.args.self.now c.args.nth c.rank.result c.self.view_is c.self.invariant.1 (sym c.has.ensures ∙ c.if-not-has.false) c.rank.ensures)

pub returns : goal.returns
returns c = row_read c.self.inside.marks c.self.inside.rows.items c.args.self.now c.args.nth c.rank.result c.index.result.now c.self.view_is c.self.invariant.1 (sym c.has.ensures ∙ c.if-not-has.false) c.rank.ensures c.index.ensures
