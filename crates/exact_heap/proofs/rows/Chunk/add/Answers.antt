use Rattle.std.proofs.Common.{ap, ◌∙◌, arith}
use Rattle.std.specs.Prelude.{List}
use Rattle.std.specs.List.{insert}
use Rattle.exact_heap.specs.declared.rows.Row.{Row}
use Rattle.exact_heap.specs.RowStore.{RowChunk, rank}
use Rattle.exact_heap.proofs.Chunks.{rank_within, marked, row_added, still_marked, still_rows}
use Rattle.exact_heap.proofs.rows.Chunk.add.Goals as goal

pub insert-requires : goal.insert-requires
insert-requires c =
    omega (arith, c.requires.at, rank_within c.args.self.now.marks c.args.nth, ap (λ (x : RowChunk). rank x.marks c.args.nth) c.self.view_is, rank_within c.self.inside.marks c.args.nth, c.self.invariant.1, c.reserve_exact.ensures.len, c.self.inside.rows.ok.0)

pub invariant_of-self-2 : goal.invariant_of-self-2
invariant_of-self-2 c = (
  still_marked c.self.inside.marks c.args.nth c.self.invariant.0,
  still_rows c.self.inside.marks c.args.nth c.args.at c.args.self.now c.self.inside.rows.items c.insert.new.self.items c.args.row c.self.view_is c.self.invariant.1 c.self.invariant.0 c.requires.nth c.requires.none c.requires.at
      (c.in-Ok.ensures.items ∙ ap (λ (rows : List Row). insert rows c.args.at c.args.row) c.reserve_exact.ensures.items),
)

pub returns-clause-ok : goal.returns-clause-ok
returns-clause-ok c =
    row_added c.self.inside.marks _ c.self.inside.rows.items c.insert.new.self.items c.args.self.now c.args.nth c.args.at c.args.row c.self.view_is c.self.invariant.1 (marked c.self.inside.marks c.args.nth c.args.self.now c.self.inside.rows.items c.self.view_is c.requires.nth c.requires.none) c.requires.at
    (c.in-Ok.ensures.items ∙ ap (λ (rows : List Row). insert rows c.args.at c.args.row) c.reserve_exact.ensures.items)
