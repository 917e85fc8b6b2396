use Rattle.std.proofs.Common.{◌-◌, ap, ◌∙◌, ℕ, bit_and}
use Rattle.std.specs.Prelude.{count_ones}
use Rattle.std.proofs.lemmas.Nat.{one_shl, and_mask}
use Rattle.exact_heap.specs.RowStore.{RowChunk, rank}
use Rattle.exact_heap.proofs.rows.Chunk.rank.Goals as goal

pub returns : goal.returns
returns c =
    ap count_ones (ap (λ (x : ℕ). bit_and c.self.inside.marks (x - 1)) (one_shl c.args.nth 64 c.requires) ∙ and_mask c.self.inside.marks c.args.nth)
    ∙ ap (λ (x : RowChunk). rank x.marks c.args.nth) c.self.view_is
