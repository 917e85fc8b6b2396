use Rattle.std.proofs.Common.{rules, ◌≡◌, ◌+◌, ℕ, List, Option, IfSome, not, refl, ◌∙◌, ap, arith}
use Rattle.ex_io.specs.Tape.{input}
use Rattle.infinite_heap.specs.Loaded.{Loaded}
use Rattle.rv_machine.specs.Flat.{Flat}
use Rattle.rv_machine.specs.Guest.{guest_start}
use Rattle.rv_machine.specs.Stands.{IsAt, tag_in}
use Rattle.rv_machine.specs.declared.settings.Settings.{Settings}
use Rattle.layout_run.specs.Advances.{TellsInput}
use Rattle.layout_run.specs.Outside.{Held, held}
use Rattle.layout_run.specs.Runs.{StopsAtLimit}
use Rattle.layout_run.specs.Turns.{IsAtLimit, IsFlat}
use Rattle.layout_run.specs.Whole.{run_until}
use Rattle.layout_run.specs.declared.ran.RunRefusal.TheVariants as why
use Rattle.layout_run.specs.declared.ran.Ending.{Ending}
use Rattle.layout_run.proofs.Known.{on-ok}
use Rattle.layout_run.proofs.SoFar.{mapped, each-some, so_far-start, so_far-cut, so_far-left, so_far-limit, going-gone, tells-past, tells-within}
use Rattle.layout_run.proofs.Tapes.{follows-start, follows-on, refuses, told}
use Rattle.layout_run.proofs.Watched.{running-gone, running-next, running-stopped, running-ended, running-spent, taken-start}
use Rattle.layout_run.proofs.run.carry_on.Goals as goal

pub loop-i-init : goal.loop-i-init
loop-i-init g c = record {
  going = c.requires.start;
  steps = omega (arith, c.requires.steps);
  tag = refl;
  follows = follows-start c.args.tape.now (g.S.Source.left c.args.input.now) c.requires.all c.requires.going;
  small = omega arith;
  within = omega arith;
  so_far = λ program args settings at tag. each-some (input c.args.tape.now (g.S.Source.left c.args.input.now)) _ (λ bytes is.
      (so_far-start program args settings bytes c.args.stop_at c.args.machine.now (held (g.O.Sink.held c.args.out.now) (g.E.Sink.held c.args.err.now)) at, taken-start c.args.watches program args settings bytes c.args.taken.now c.requires.taken));
  faults = refl;
}

pub turn-requires-clause-going : goal.turn-requires-clause-going
turn-requires-clause-going g c =
    going-gone c.loop-i.machine c.go_on-i.new.self c.go_on-i.result c.loop-i.invariant.going c.go_on-i.ensures.gone c.go_on-i.ensures.ready

pub returns-in-Err-clause-carries : goal.returns-in-Err-clause-carries
returns-in-Err-clause-carries g c =
    λ program args settings at tag. mapped (input c.args.tape.now (g.S.Source.left c.args.input.now)) _ _ (λ bytes is so.
    let running = running-gone program args settings bytes c.args.stop_at c.args.watches c.requires.watches c.loop-i.i c.args.budget c.loop-i.machine c.loop-i.place c.loop-i.taken (held (g.O.Sink.held c.args.out.now) (g.E.Sink.held c.args.err.now)) (held (g.O.Sink.held c.loop-i.out) (g.E.Sink.held c.loop-i.err)) so c.go_on-i.result c.go_on-i.new.self c.go_on-i.ensures.gone c.go_on-i.ensures.ready in
    so_far-cut program args settings bytes c.args.stop_at (c.loop-i.i + c.go_on-i.result) c.args.budget c.go_on-i.new.self c.loop-i.place (held (g.O.Sink.held c.args.out.now) (g.E.Sink.held c.args.err.now)) (held (g.O.Sink.held c.loop-i.out) (g.E.Sink.held c.loop-i.err)) running.0 c.in-Err.refused c.turn.new.machine c.turn.new.place (held (g.O.Sink.held c.turn.new.out) (g.E.Sink.held c.turn.new.err)) (λ flat shown. c.in-Err.ensures.turn (held (g.O.Sink.held c.args.out.now) (g.E.Sink.held c.args.err.now)) bytes flat (told c.args.tape.now c.loop-i.tape (g.S.Source.left c.args.input.now) (g.S.Source.left c.loop-i.input) c.loop-i.place bytes c.requires.all c.loop-i.invariant.follows is) shown) (omega (arith, c.go_on-i.ensures.most, c.loop-i-test.true))) (c.loop-i.invariant.so_far program args settings at tag)

pub returns-then-is_err-clause-carries : goal.returns-then-is_err-clause-carries
returns-then-is_err-clause-carries g c =
    λ program args settings at tag. mapped (input c.args.tape.now (g.S.Source.left c.args.input.now)) _ _ (λ bytes is so.
    let running = running-gone program args settings bytes c.args.stop_at c.args.watches c.requires.watches c.loop-i.i c.args.budget c.loop-i.machine c.loop-i.place c.loop-i.taken (held (g.O.Sink.held c.args.out.now) (g.E.Sink.held c.args.err.now)) (held (g.O.Sink.held c.loop-i.out) (g.E.Sink.held c.loop-i.err)) so c.go_on-i.result c.go_on-i.new.self c.go_on-i.ensures.gone c.go_on-i.ensures.ready in
    so_far-left program args settings bytes c.args.stop_at (c.loop-i.i + c.go_on-i.result) c.args.budget c.go_on-i.new.self c.loop-i.place (held (g.O.Sink.held c.args.out.now) (g.E.Sink.held c.args.err.now)) (held (g.O.Sink.held c.loop-i.out) (g.E.Sink.held c.loop-i.err)) running.0 why.Memory c.in-Ok.ended c.turn.new.machine c.turn.new.place (held (g.O.Sink.held c.turn.new.out) (g.E.Sink.held c.turn.new.err)) tt (λ flat shown. c.in-Ok.ensures.turn (held (g.O.Sink.held c.args.out.now) (g.E.Sink.held c.args.err.now)) bytes flat (told c.args.tape.now c.loop-i.tape (g.S.Source.left c.args.input.now) (g.S.Source.left c.loop-i.input) c.loop-i.place bytes c.requires.all c.loop-i.invariant.follows is) shown) (omega (arith, c.go_on-i.ensures.most, c.loop-i-test.true))) (c.loop-i.invariant.so_far program args settings at tag)

pub returns-then-calls-most-clause-carries : goal.returns-then-calls-most-clause-carries
returns-then-calls-most-clause-carries g c =
    let known = c.in-Ok.ensures {u = tt} in
    let follows = follows-on c.args.tape.now c.loop-i.tape c.turn.new.tape (g.S.Source.left c.args.input.now) (g.S.Source.left c.loop-i.input) (g.S.Source.left c.turn.new.input) c.loop-i.place c.turn.new.place c.loop-i.invariant.follows known.tape known.moves.0 in
    λ program args settings at tag. mapped (input c.args.tape.now (g.S.Source.left c.args.input.now)) _ _ (λ bytes is so.
    let running = running-gone program args settings bytes c.args.stop_at c.args.watches c.requires.watches c.loop-i.i c.args.budget c.loop-i.machine c.loop-i.place c.loop-i.taken (held (g.O.Sink.held c.args.out.now) (g.E.Sink.held c.args.err.now)) (held (g.O.Sink.held c.loop-i.out) (g.E.Sink.held c.loop-i.err)) so c.go_on-i.result c.go_on-i.new.self c.go_on-i.ensures.gone c.go_on-i.ensures.ready in
    running-stopped program args settings bytes c.args.stop_at c.args.watches c.requires.watches (c.loop-i.i + c.go_on-i.result) c.args.budget c.go_on-i.new.self c.loop-i.place c.loop-i.taken (held (g.O.Sink.held c.args.out.now) (g.E.Sink.held c.args.err.now)) (held (g.O.Sink.held c.loop-i.out) (g.E.Sink.held c.loop-i.err)) running c.turn.new.machine c.turn.new.place c.watch.new.taken (held (g.O.Sink.held c.turn.new.out) (g.E.Sink.held c.turn.new.err)) c.in-Ok.ended (known.tag ∙ c.go_on-i.ensures.tag ∙ c.loop-i.invariant.tag ∙ tag) (λ flat shown. c.in-Ok.ensures.turn (held (g.O.Sink.held c.args.out.now) (g.E.Sink.held c.args.err.now)) bytes flat (told c.args.tape.now c.loop-i.tape (g.S.Source.left c.args.input.now) (g.S.Source.left c.loop-i.input) c.loop-i.place bytes c.requires.all c.loop-i.invariant.follows is) shown) (λ g' at'. on-ok c.watch.result _ (c.is_err.ensures.negation ∙ ap not c.if-is_err.false) (c.watch.ensures g' at')) c.args.tape.now c.turn.new.tape (g.S.Source.left c.args.input.now) (g.S.Source.left c.turn.new.input) follows (omega (arith, c.go_on-i.ensures.most, c.loop-i-test.true)) (tells-past c.args.stop_at c.most_calls-most.result c.calls.result c.heap.result.now c.turn.new.machine c.heap.ensures c.calls.ensures.stands c.most_calls-most.ensures (search rules) c.if-calls-most.true)) (c.loop-i.invariant.so_far program args settings at tag)

pub returns-then-calls-most-clause-keeps : goal.returns-then-calls-most-clause-keeps
returns-then-calls-most-clause-keeps g c =
    let known = c.in-Ok.ensures {u = tt} in
    let follows = follows-on c.args.tape.now c.loop-i.tape c.turn.new.tape (g.S.Source.left c.args.input.now) (g.S.Source.left c.loop-i.input) (g.S.Source.left c.turn.new.input) c.loop-i.place c.turn.new.place c.loop-i.invariant.follows known.tape known.moves.0 in
    (follows.keep, follows.readable.going, follows.stays)

pub returns-in-Some-clause-carries : goal.returns-in-Some-clause-carries
returns-in-Some-clause-carries g c =
    let known = c.in-Ok.ensures {u = tt} in
    let follows = follows-on c.args.tape.now c.loop-i.tape c.turn.new.tape (g.S.Source.left c.args.input.now) (g.S.Source.left c.loop-i.input) (g.S.Source.left c.turn.new.input) c.loop-i.place c.turn.new.place c.loop-i.invariant.follows known.tape known.moves.0 in
    λ program args settings at tag. mapped (input c.args.tape.now (g.S.Source.left c.args.input.now)) _ _ (λ bytes is so.
    let running = running-gone program args settings bytes c.args.stop_at c.args.watches c.requires.watches c.loop-i.i c.args.budget c.loop-i.machine c.loop-i.place c.loop-i.taken (held (g.O.Sink.held c.args.out.now) (g.E.Sink.held c.args.err.now)) (held (g.O.Sink.held c.loop-i.out) (g.E.Sink.held c.loop-i.err)) so c.go_on-i.result c.go_on-i.new.self c.go_on-i.ensures.gone c.go_on-i.ensures.ready in
    running-ended program args settings bytes c.args.stop_at c.args.watches c.requires.watches (c.loop-i.i + c.go_on-i.result) c.args.budget c.go_on-i.new.self c.loop-i.place c.loop-i.taken (held (g.O.Sink.held c.args.out.now) (g.E.Sink.held c.args.err.now)) (held (g.O.Sink.held c.loop-i.out) (g.E.Sink.held c.loop-i.err)) running c.turn.new.machine c.turn.new.place c.watch.new.taken (held (g.O.Sink.held c.turn.new.out) (g.E.Sink.held c.turn.new.err)) c.in-Ok.ended (known.tag ∙ c.go_on-i.ensures.tag ∙ c.loop-i.invariant.tag ∙ tag) (λ flat shown. c.in-Ok.ensures.turn (held (g.O.Sink.held c.args.out.now) (g.E.Sink.held c.args.err.now)) bytes flat (told c.args.tape.now c.loop-i.tape (g.S.Source.left c.args.input.now) (g.S.Source.left c.loop-i.input) c.loop-i.place bytes c.requires.all c.loop-i.invariant.follows is) shown) (λ g' at'. on-ok c.watch.result _ (c.is_err.ensures.negation ∙ ap not c.if-is_err.false) (c.watch.ensures g' at')) c.args.tape.now c.turn.new.tape (g.S.Source.left c.args.input.now) (g.S.Source.left c.turn.new.input) follows (omega (arith, c.go_on-i.ensures.most, c.loop-i-test.true)) c.in-Some.ending c.in-Some.is (tells-within c.args.stop_at c.most_calls-most.result c.calls.result c.heap.result.now c.turn.new.machine c.heap.ensures c.calls.ensures.stands c.most_calls-most.ensures (search rules) c.if-calls-most.false)) (c.loop-i.invariant.so_far program args settings at tag)

pub returns-in-Some-clause-keeps : goal.returns-in-Some-clause-keeps
returns-in-Some-clause-keeps g c =
    let known = c.in-Ok.ensures {u = tt} in
    let follows = follows-on c.args.tape.now c.loop-i.tape c.turn.new.tape (g.S.Source.left c.args.input.now) (g.S.Source.left c.loop-i.input) (g.S.Source.left c.turn.new.input) c.loop-i.place c.turn.new.place c.loop-i.invariant.follows known.tape known.moves.0 in
    (follows.keep, follows.readable.going, follows.stays)

pub loop-i-preserved : goal.loop-i-preserved
loop-i-preserved g c =
    let known = c.in-Ok.ensures {u = tt} in
    record {
      going = known.going c.in-None.is;
      steps = omega (arith, known.count, c.go_on-i.ensures.count, c.loop-i.invariant.steps);
      within = omega (arith, c.go_on-i.ensures.most, c.loop-i-test.true);
      tag = known.tag ∙ c.go_on-i.ensures.tag ∙ c.loop-i.invariant.tag;
      follows = follows-on c.args.tape.now c.loop-i.tape c.turn.new.tape (g.S.Source.left c.args.input.now) (g.S.Source.left c.loop-i.input) (g.S.Source.left c.turn.new.input) c.loop-i.place c.turn.new.place c.loop-i.invariant.follows known.tape known.moves.0;
      small = omega (arith, known.moves.1, c.loop-i.invariant.small);
      so_far = λ program args settings at tag. mapped (input c.args.tape.now (g.S.Source.left c.args.input.now)) _ _ (λ bytes is so.
          let running = running-gone program args settings bytes c.args.stop_at c.args.watches c.requires.watches c.loop-i.i c.args.budget c.loop-i.machine c.loop-i.place c.loop-i.taken (held (g.O.Sink.held c.args.out.now) (g.E.Sink.held c.args.err.now)) (held (g.O.Sink.held c.loop-i.out) (g.E.Sink.held c.loop-i.err)) so c.go_on-i.result c.go_on-i.new.self c.go_on-i.ensures.gone c.go_on-i.ensures.ready in
          running-next program args settings bytes c.args.stop_at c.args.watches c.requires.watches (c.loop-i.i + c.go_on-i.result) c.args.budget c.go_on-i.new.self c.loop-i.place c.loop-i.taken (held (g.O.Sink.held c.args.out.now) (g.E.Sink.held c.args.err.now)) (held (g.O.Sink.held c.loop-i.out) (g.E.Sink.held c.loop-i.err)) running c.turn.new.machine c.turn.new.place c.watch.new.taken (held (g.O.Sink.held c.turn.new.out) (g.E.Sink.held c.turn.new.err)) c.in-Ok.ended (known.tag ∙ c.go_on-i.ensures.tag ∙ c.loop-i.invariant.tag ∙ tag) (λ flat shown. c.in-Ok.ensures.turn (held (g.O.Sink.held c.args.out.now) (g.E.Sink.held c.args.err.now)) bytes flat (told c.args.tape.now c.loop-i.tape (g.S.Source.left c.args.input.now) (g.S.Source.left c.loop-i.input) c.loop-i.place bytes c.requires.all c.loop-i.invariant.follows is) shown) (λ g' at'. on-ok c.watch.result _ (c.is_err.ensures.negation ∙ ap not c.if-is_err.false) (c.watch.ensures g' at')) c.in-None.is (tells-within c.args.stop_at c.most_calls-most.result c.calls.result c.heap.result.now c.turn.new.machine c.heap.ensures c.calls.ensures.stands c.most_calls-most.ensures (search rules) c.if-calls-most.false)) (c.loop-i.invariant.so_far program args settings at tag);
      faults = known.cause ∙ c.loop-i.invariant.faults;
    }

pub returns-clause-carries : goal.returns-clause-carries
returns-clause-carries g c =
    λ program args settings at tag. mapped (input c.args.tape.now (g.S.Source.left c.args.input.now)) _ _ (λ bytes is so.
    running-spent program args settings bytes c.args.stop_at c.args.watches c.requires.watches c.loop-i.i c.args.budget c.loop-i.machine c.loop-i.place c.loop-i.taken (held (g.O.Sink.held c.args.out.now) (g.E.Sink.held c.args.err.now)) (held (g.O.Sink.held c.loop-i.out) (g.E.Sink.held c.loop-i.err)) so c.args.tape.now c.loop-i.tape (g.S.Source.left c.args.input.now) (g.S.Source.left c.loop-i.input) c.loop-i.invariant.follows (c.loop-i.invariant.tag ∙ tag) (omega (arith, c.loop-i.invariant.within, c.loop-i-test.false)))
    (c.loop-i.invariant.so_far program args settings at tag)

pub returns-in-Err-clause-limit : goal.returns-in-Err-clause-limit
returns-in-Err-clause-limit g c =
    let start = held (g.O.Sink.held c.args.out.now) (g.E.Sink.held c.args.err.now) in
    let mid = held (g.O.Sink.held c.loop-i.out) (g.E.Sink.held c.loop-i.err) in
    let now = held (g.O.Sink.held c.turn.new.out) (g.E.Sink.held c.turn.new.err) in
    let old = c.args.tape.now in
    let left = g.S.Source.left c.args.input.now in
    let left' = g.S.Source.left c.loop-i.input in
    let machine = c.go_on-i.new.self in
    let i = c.loop-i.i + c.go_on-i.result in
    let follows = c.loop-i.invariant.follows in
    refuses (Option Ending) Ending c.in-Err.refused old c.loop-i.tape
    ((start : Held) (bytes : List ℕ) (flat : Flat) → TellsInput bytes c.loop-i.tape left' → IsFlat flat machine c.loop-i.place start mid → IsAtLimit bytes flat start now)
    ((program : Loaded) (args : List (List ℕ)) (settings : Settings) → IsAt (guest_start program args settings) c.args.machine.now → tag_in c.args.machine.now ≡ program.tag → IfSome (input old left) (λ bytes. StopsAtLimit (run_until program args settings bytes c.args.stop_at) c.args.budget start now))
    follows.keep
    (λ limit program args settings at tag. mapped (input old left) _ _ (λ bytes is so.
    let running = running-gone program args settings bytes c.args.stop_at c.args.watches c.requires.watches c.loop-i.i c.args.budget c.loop-i.machine c.loop-i.place c.loop-i.taken start mid so c.go_on-i.result machine c.go_on-i.ensures.gone c.go_on-i.ensures.ready in
    so_far-limit program args settings bytes c.args.stop_at i c.args.budget machine c.loop-i.place start mid running.0 now
    (limit start bytes (run_until program args settings bytes c.args.stop_at i) (told old c.loop-i.tape left left' c.loop-i.place bytes c.requires.all follows is) running.0.flat) (omega (arith, c.go_on-i.ensures.most, c.loop-i-test.true)))
    (c.loop-i.invariant.so_far program args settings at tag))
    c.in-Err.ensures.limit
