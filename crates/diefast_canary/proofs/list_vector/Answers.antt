use Rattle.std.proofs.Common.{subst, sym, ◌∙◌}
use Rattle.std.specs.Bool.{OnFalse}
use Rattle.diefast_canary.specs.Canary.{is_broken_at}
use Rattle.diefast_canary.proofs.Canary.{is_broken_at-whole}
use Rattle.diefast_canary.proofs.Ranges.{filter_range_skipped}
use Rattle.diefast_canary.proofs.Vectors.{AreLanes, canary_of_lanes}
use Rattle.diefast_canary.proofs.list_vector.Goals as goal

pub returns-then-not-differs : goal.returns-then-not-differs
returns-then-not-differs c =
    let same = subst (λ b. OnFalse b (AreLanes c.args.bytes.now c.args.lanes c.args.at 32)) c.if-not-differs.true c.differs.ensures in
    c.requires.before ∙ sym (filter_range_skipped (is_broken_at c.args.word c.args.phase c.args.bytes.now) c.args.at 32
    (λ k low. is_broken_at-whole _ _ _ _ (canary_of_lanes c.args.word c.args.phase c.args.bytes.now c.args.lanes c.args.at 32 c.requires.period c.requires.intact same k low)))
