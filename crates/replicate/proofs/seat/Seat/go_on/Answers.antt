use Rattle.std.proofs.Common.{◌≡◌, Bool, false, ◌≤◌, ◌∙◌, ap, refl, sym, subst, arith}
use Rattle.replicate.proofs.Onward.{onward-start, onward-more, onward-done, whole-on}
use Rattle.replicate.proofs.Seated.{reads-start, reads-both, tells-on}
use Rattle.replicate.specs.Replicas.{Replica, has_arrived, onward}
use Rattle.replicate.specs.Seats.{IsSeat}
use Rattle.rv_machine.specs.HeapCalls.{guest_next}
use Rattle.layout_run.specs.Advances.{ReadsPast}
use Rattle.replicate.specs.Seats.{IsKept}
use Rattle.replicate.proofs.Onward.{meets-after}
use Rattle.replicate.proofs.Seated.{passes-kept, place-of, refuses-on}
use Rattle.replicate.proofs.seat.Seat.go_on.Goals as goal

pub loop-i-init : goal.loop-i-init
loop-i-init g c = record {
  within = omega arith;
  budget = refl;
  tag = refl;
  reads = reads-start c.args.tape.now (g.S.Source.left c.args.input.now) c.args.self.now.place c.requires.kept;
  so_far = λ r bytes tells so. onward-start bytes c.args.self.now.budget r c.args.self.now so;
  faults = refl;
}

pub returns-then-has_arrived-clause-onward : goal.returns-then-has_arrived-clause-onward
returns-then-has_arrived-clause-onward g c = λ r bytes tells so.
    let here = c.loop-i.invariant.so_far r bytes tells so in
    let there = c.if-has_arrived.ensures.arrived (onward bytes c.args.self.now.budget c.loop-i.i r) here in
    whole-on bytes c.args.self.now.budget c.loop-i.i c.args.n r c.loop-i.self (ap (λ b. has_arrived b (onward bytes c.args.self.now.budget c.loop-i.i r)) (sym c.loop-i.invariant.budget) ∙ sym there) c.loop-i.invariant.within here

pub loop-i-preserved : goal.loop-i-preserved
loop-i-preserved g c =
    let known = c.in-Ok.ensures {u = tt} in record {
      within = omega (arith, c.hurry-i.ensures.most, c.loop-i-test.true);
      budget = known.budget ∙ c.hurry-i.ensures.budget ∙ c.loop-i.invariant.budget;
      tag = known.tag ∙ c.hurry-i.ensures.tag ∙ c.loop-i.invariant.tag;
      reads = reads-both c.args.tape.now c.loop-i.tape c.attempt.new.tape (g.S.Source.left c.args.input.now) (g.S.Source.left c.loop-i.input) (g.S.Source.left c.attempt.new.input) c.loop-i.self.place c.attempt.new.self.place c.loop-i.invariant.reads known.tape (subst (λ n. n ≤ c.attempt.new.self.place) c.hurry-i.ensures.place known.moves);
      so_far = λ r bytes tells so.
          let here = c.loop-i.invariant.so_far r bytes tells so in
          let same : c.loop-i.self.budget ≡ c.args.self.now.budget = c.loop-i.invariant.budget in
          let at : Replica = onward bytes c.args.self.now.budget c.loop-i.i r in
          let fresh : has_arrived c.loop-i.self.budget at ≡ false = sym (c.if-has_arrived.ensures.arrived at here) in
          let gone = c.hurry-i.ensures.onward at bytes here fresh in
          let gone' = subst (λ b. IsSeat (onward bytes b c.hurry-i.result at) c.hurry-i.new.self × (has_arrived b (onward bytes b c.hurry-i.result at) ≡ false)) same gone in
          let tells' = tells-on c.args.tape.now c.loop-i.tape (g.S.Source.left c.args.input.now) (g.S.Source.left c.loop-i.input) c.args.self.now.place c.loop-i.self.place bytes c.requires.kept c.loop-i.invariant.reads tells in
          onward-more bytes c.args.self.now.budget c.loop-i.i c.hurry-i.result r c.attempt.new.self gone'.1 (known.step (onward bytes c.args.self.now.budget c.hurry-i.result at) bytes tells' gone'.0);
      faults = known.cause ∙ c.loop-i.invariant.faults;
    }

pub returns-clause-onward : goal.returns-clause-onward
returns-clause-onward g c = λ r bytes tells so.
    let here = c.loop-i.invariant.so_far r bytes tells so in
    let there = c.has_arrived-2.ensures.arrived (onward bytes c.args.self.now.budget c.loop-i.i r) here in
    onward-done bytes c.args.self.now.budget c.loop-i.self.budget c.loop-i.i c.args.n r c.loop-i.self c.has_arrived-2.result c.loop-i.invariant.budget (omega (arith, c.loop-i.invariant.within, c.loop-i-test.false)) here there

pub returns-in-Err-clause-limit : goal.returns-in-Err-clause-limit
returns-in-Err-clause-limit g c =
    refuses-on (Unit {0}) Bool c.args.tape.now c.loop-i.tape c.in-Err.refused c.requires.kept.keep (λ (past : (r : Replica) → IsSeat r c.hurry-i.new.self → ReadsPast (guest_next r.flat.guest) c.loop-i.tape (g.S.Source.left c.loop-i.input) c.hurry-i.new.self.place) r bytes tells so.
    let here = c.loop-i.invariant.so_far r bytes tells so in
    let same : c.loop-i.self.budget ≡ c.args.self.now.budget = c.loop-i.invariant.budget in
    let at : Replica = onward bytes c.args.self.now.budget c.loop-i.i r in
    let fresh : has_arrived c.loop-i.self.budget at ≡ false = sym (c.if-has_arrived.ensures.arrived at here) in
    let gone = c.hurry-i.ensures.onward at bytes here fresh in
    let gone' = subst (λ b. IsSeat (onward bytes b c.hurry-i.result at) c.hurry-i.new.self × (has_arrived b (onward bytes b c.hurry-i.result at) ≡ false)) same gone in
    let then : Replica = onward bytes c.args.self.now.budget c.hurry-i.result at in
    let tells' = tells-on c.args.tape.now c.loop-i.tape (g.S.Source.left c.args.input.now) (g.S.Source.left c.loop-i.input) c.args.self.now.place c.loop-i.self.place bytes c.requires.kept c.loop-i.invariant.reads tells in
    let kept = subst (λ p. IsKept c.loop-i.tape p) (sym c.hurry-i.ensures.place) c.loop-i.invariant.reads.kept in
    meets-after bytes c.args.self.now.budget c.loop-i.i c.hurry-i.result c.args.n r (omega (arith, c.hurry-i.ensures.most, c.loop-i-test.true)) gone'.1
    (passes-kept (guest_next then.flat.guest) c.loop-i.tape (g.S.Source.left c.loop-i.input) c.hurry-i.new.self.place then.flat.place bytes kept tells' (place-of then c.hurry-i.new.self gone'.0) (past then gone'.0))) c.in-Err.ensures.limit
