use Rattle.std.proofs.Common.{◌≡◌, ℕ, List, IfSome, map, refl, string_bytes}
use Rattle.ex_io.specs.Tape.{input}
use Rattle.infinite_heap.specs.Loaded.{Loaded}
use Rattle.rv_machine.specs.Guest.{guest_start}
use Rattle.rv_machine.specs.Stands.{IsAt, tag_in}
use Rattle.rv_machine.specs.declared.settings.Settings.{Settings}
use Rattle.layout_run.specs.Outside.{held}
use Rattle.layout_run.specs.Runs.{StopsAtLimit}
use Rattle.layout_run.specs.Whole.{run_until}
use Rattle.layout_run.specs.declared.ran.Ending.{Ending}
use Rattle.layout_run.specs.declared.ran.Ran.{Ran}
use Rattle.layout_run.proofs.Advanced.{going-at}
use Rattle.layout_run.proofs.Known.{front-none}
use Rattle.layout_run.proofs.SoFar.{each-some, mapped}
use Rattle.layout_run.proofs.Tapes.{refuses}
use Rattle.layout_run.proofs.Watched.{cut-short, whole-run}
use Rattle.layout_run.proofs.run.carry_out.Goals as goal

pub carry_on-requires-clause-start : goal.carry_on-requires-clause-start
carry_on-requires-clause-start g c = going-at (guest_start c.args.program (map string_bytes c.args.args.now) c.args.settings) c.in-Ok.machine c.in-Ok.ensures.stands refl

pub returns-in_default-clause-runs : goal.returns-in_default-clause-runs
returns-in_default-clause-runs g c =
    each-some (input c.args.tape.now (g.S.Source.left c.args.input.now)) _ (λ bytes is. (front-none (g.O.Sink.held c.args.out.now) _, front-none (g.E.Sink.held c.args.err.now) _, tt))

pub returns-in-Err-clause-runs : goal.returns-in-Err-clause-runs
returns-in-Err-clause-runs g c =
    c.in-Err.ensures.carries c.args.program (map string_bytes c.args.args.now) c.args.settings c.in-Ok.ensures.stands c.in-Ok.ensures.tag

pub returns-in-Ok-image_of_end-clause-runs : goal.returns-in-Ok-image_of_end-clause-runs
returns-in-Ok-image_of_end-clause-runs g c =
    mapped (input c.args.tape.now (g.S.Source.left c.args.input.now)) _ _ (λ bytes is done.
    (whole-run c.args.program (map string_bytes c.args.args.now) c.args.settings bytes c.args.stop_at c.args.budget c.args.imaged c.is_by_signal-watches.result c.in-Ok-carry_on.ending c.carry_on.new.machine c.carry_on.new.taken c.in-Ok-image_of_end.image c.place_of-place.result c.end.result c.args.tape.now c.carry_on.new.tape (held (g.O.Sink.held c.args.out.now) (g.E.Sink.held c.args.err.now)) (held (g.O.Sink.held c.carry_on.new.out) (g.E.Sink.held c.carry_on.new.err))
    c.is_by_signal-watches.ensures c.place_of-place.ensures c.in-Ok-image_of_end.ensures c.end.ensures done).0) (c.in-Ok-carry_on.ensures.carries c.args.program (map string_bytes c.args.args.now) c.args.settings c.in-Ok.ensures.stands c.in-Ok.ensures.tag)

pub returns-in-Ok-image_of_end-clause-leaves : goal.returns-in-Ok-image_of_end-clause-leaves
returns-in-Ok-image_of_end-clause-leaves g c =
    mapped (input c.args.tape.now (g.S.Source.left c.args.input.now)) _ _ (λ bytes is done.
    (whole-run c.args.program (map string_bytes c.args.args.now) c.args.settings bytes c.args.stop_at c.args.budget c.args.imaged c.is_by_signal-watches.result c.in-Ok-carry_on.ending c.carry_on.new.machine c.carry_on.new.taken c.in-Ok-image_of_end.image c.place_of-place.result c.end.result c.args.tape.now c.carry_on.new.tape (held (g.O.Sink.held c.args.out.now) (g.E.Sink.held c.args.err.now)) (held (g.O.Sink.held c.carry_on.new.out) (g.E.Sink.held c.carry_on.new.err))
    c.is_by_signal-watches.ensures c.place_of-place.ensures c.in-Ok-image_of_end.ensures c.end.ensures done).1) (c.in-Ok-carry_on.ensures.carries c.args.program (map string_bytes c.args.args.now) c.args.settings c.in-Ok.ensures.stands c.in-Ok.ensures.tag)

pub returns-clause-runs : goal.returns-clause-runs
returns-clause-runs g c =
    mapped (input c.args.tape.now (g.S.Source.left c.args.input.now)) _ _ (λ bytes is done. cut-short c.args.program (map string_bytes c.args.args.now) c.args.settings bytes c.args.stop_at c.args.budget c.is_by_signal-watches.result c.in-Ok-carry_on.ending c.carry_on.new.machine c.carry_on.new.taken c.args.tape.now c.carry_on.new.tape (held (g.O.Sink.held c.args.out.now) (g.E.Sink.held c.args.err.now)) (held (g.O.Sink.held c.carry_on.new.out) (g.E.Sink.held c.carry_on.new.err)) done)
    (c.in-Ok-carry_on.ensures.carries c.args.program (map string_bytes c.args.args.now) c.args.settings c.in-Ok.ensures.stands c.in-Ok.ensures.tag)

pub returns-in-Err-clause-limit : goal.returns-in-Err-clause-limit
returns-in-Err-clause-limit g c =
    let start = held (g.O.Sink.held c.args.out.now) (g.E.Sink.held c.args.err.now) in
    let now = held (g.O.Sink.held c.carry_on.new.out) (g.E.Sink.held c.carry_on.new.err) in
    let old = c.args.tape.now in
    let left = g.S.Source.left c.args.input.now in
    refuses Ending Ran c.in-Err.refused old old
    ((program : Loaded) (args : List (List ℕ)) (settings : Settings) → IsAt (guest_start program args settings) c.in-Ok.machine → tag_in c.in-Ok.machine ≡ program.tag → IfSome (input old left) (λ bytes. StopsAtLimit (run_until program args settings bytes c.args.stop_at) c.args.budget start now))
    (IfSome (input old left) (λ bytes. StopsAtLimit (run_until c.args.program (map string_bytes c.args.args.now) c.args.settings bytes c.args.stop_at) c.args.budget start now))
    refl
    (λ limit. limit c.args.program (map string_bytes c.args.args.now) c.args.settings c.in-Ok.ensures.stands c.in-Ok.ensures.tag)
    c.in-Err.ensures.limit
