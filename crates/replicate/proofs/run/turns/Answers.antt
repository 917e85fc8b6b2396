use Rattle.std.proofs.Common.{◌∙◌, rules}
use Rattle.replicate.proofs.Way.{same-both, tells-on, turn-cut, turns-on, going-code}
use Rattle.replicate.proofs.run.turns.Goals as goal

pub loop-i-preserved : goal.loop-i-preserved
loop-i-preserved g c =
    let kept = c.loop-i.invariant in
    let left = g.S.Source.left c.args.input.now in
    let left' = g.S.Source.left c.loop-i.input in (
      c.in-Ok.ensures.kept,
      c.in-Ok.ensures.going,
      c.turn.ensures.count ∙ kept.2,
      same-both c.args.tape.now c.loop-i.tape c.turn.new.tape left left' (g.S.Source.left c.turn.new.input) kept.3 c.in-Ok.ensures.same,
      c.in-Ok.ensures.cause kept.1 ∙ kept.4,
      λ bytes start first before after tells way.
          let was = kept.5 bytes start first before after tells way in
          let told = tells-on bytes c.args.tape.now c.loop-i.tape left left' c.requires.kept.keep kept.0.keep kept.3 tells in
          turns-on bytes start first c.loop-i.tape c.turn.new.tape before after c.loop-i.group c.turn.new.self c.loop-i.i c.args.quantum was (search rules) (c.in-Ok.ensures.turned _ bytes told was.stands).0 c.in-Ok.ensures.kept c.has_answered.ensures (c.in-Ok.ensures.high (going-code bytes start first c.loop-i.tape c.turn.new.tape before after c.loop-i.group c.turn.new.self c.loop-i.i c.args.quantum was)),
    )

pub returns-in-Err-clause-way : goal.returns-in-Err-clause-way
returns-in-Err-clause-way g c = λ bytes start first before after tells way.
    let kept = c.loop-i.invariant in
    let left = g.S.Source.left c.args.input.now in
    let left' = g.S.Source.left c.loop-i.input in
    let was = kept.5 bytes start first before after tells way in
    let told = tells-on bytes c.args.tape.now c.loop-i.tape left left' c.requires.kept.keep kept.0.keep kept.3 tells in
    turn-cut c.steps_are_counted.ensures c.steps_are_shaped.ensures.guest bytes start first c.loop-i.tape before after c.loop-i.group was c.in-Err.refused c.args.quantum c.loop-i.i _ _ _ (λ all. all _ bytes told was.stands) (c.in-Err.ensures.limit kept.1) (c.in-Err.ensures.cause kept.1)
