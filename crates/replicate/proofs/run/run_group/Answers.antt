use Rattle.std.proofs.Common.{Ok, ◌∙◌, refl, subst}
use Rattle.layout_run.specs.Outside.{held}
use Rattle.replicate.specs.Runs.{Comes}
use Rattle.replicate.proofs.Way.{begins-way, cut-here, over-already, runs-cut, same-both, same-self, tells-on}
use Rattle.replicate.proofs.run.run_group.Goals as goal

pub returns-in-Some-over-clause-runs : goal.returns-in-Some-over-clause-runs
returns-in-Some-over-clause-runs g c = λ going m bytes tells is.
    over-already bytes m c.args.group.now c.args.tape.now (held (g.O.Sink.held c.args.out.now) (g.E.Sink.held c.args.err.now)) is (c.requires.kept going) c.has_answered.ensures c.in-Some-over.over c.in-Some-over.is

pub loop-init : goal.loop-init
loop-init g c = (
  c.requires.kept c.in_default.is,
  c.in_default.is,
  same-self c.args.tape.now (g.S.Source.left c.args.input.now),
  refl,
  λ m bytes tells is. begins-way bytes m c.args.group.now c.args.tape.now (held (g.O.Sink.held c.args.out.now) (g.E.Sink.held c.args.err.now)) is (c.requires.kept c.in_default.is) c.has_answered.ensures c.in_default-over.is,
)

pub loop-preserved : goal.loop-preserved
loop-preserved g c =
    let kept = c.loop.invariant in
    let left = g.S.Source.left c.args.input.now in
    let left' = g.S.Source.left c.loop.input in
    let before = held (g.O.Sink.held c.args.out.now) (g.E.Sink.held c.args.err.now) in
    let after = held (g.O.Sink.held c.round.new.out) (g.E.Sink.held c.round.new.err) in (
      c.in-Ok-None.ensures.kept,
      c.in-Ok-None.ensures.going,
      same-both c.args.tape.now c.loop.tape c.round.new.tape left left' (g.S.Source.left c.round.new.input) kept.2 c.in-Ok-None.ensures.same,
      c.in-Ok-None.ensures.cause ∙ kept.3,
      λ m bytes tells is.
          let told = tells-on bytes c.args.tape.now c.loop.tape left left' (c.requires.kept c.in_default.is).keep kept.0.keep kept.2 tells in
          subst (λ o. Comes bytes m (Ok o) c.round.new.group c.args.tape.now c.round.new.tape before after) c.in-Ok-None.field-0-is (c.in-Ok-None.ensures.way bytes m c.args.tape.now before told (kept.4 m bytes tells is)),
    )

pub returns-in-Ok-Some-clause-runs : goal.returns-in-Ok-Some-clause-runs
returns-in-Ok-Some-clause-runs g c = λ going m bytes tells is.
    let kept = c.loop.invariant in
    let before = held (g.O.Sink.held c.args.out.now) (g.E.Sink.held c.args.err.now) in
    let after = held (g.O.Sink.held c.round.new.out) (g.E.Sink.held c.round.new.err) in
    let told = tells-on bytes c.args.tape.now c.loop.tape (g.S.Source.left c.args.input.now) (g.S.Source.left c.loop.input) (c.requires.kept going).keep kept.0.keep kept.2 tells in
    subst (λ o. Comes bytes m (Ok o) c.round.new.group c.args.tape.now c.round.new.tape before after) c.in-Ok-Some.field-0-is (c.in-Ok-Some.ensures.way bytes m c.args.tape.now before told (kept.4 m bytes tells is))

pub returns-in-Err-clause-runs : goal.returns-in-Err-clause-runs
returns-in-Err-clause-runs g c = λ going m bytes tells is.
    let kept = c.loop.invariant in
    let before = held (g.O.Sink.held c.args.out.now) (g.E.Sink.held c.args.err.now) in
    let after = held (g.O.Sink.held c.round.new.out) (g.E.Sink.held c.round.new.err) in
    let told = tells-on bytes c.args.tape.now c.loop.tape (g.S.Source.left c.args.input.now) (g.S.Source.left c.loop.input) (c.requires.kept going).keep kept.0.keep kept.2 tells in
    runs-cut bytes m c.in-Err.refused c.round.new.group c.args.tape.now c.round.new.tape before after (c.in-Err.ensures.way bytes m c.args.tape.now before told (kept.4 m bytes tells is))

pub returns-clause-runs : goal.returns-clause-runs
returns-clause-runs g c = λ going m bytes tells is.
    let before = held (g.O.Sink.held c.args.out.now) (g.E.Sink.held c.args.err.now) in
    let after = held (g.O.Sink.held c.loop.out) (g.E.Sink.held c.loop.err) in
    cut-here c.steps_are_counted.ensures c.steps_are_shaped.ensures.guest bytes m c.args.tape.now c.loop.tape before after c.loop.group (c.loop.invariant.4 m bytes tells is) _ (λ out err. tt)
