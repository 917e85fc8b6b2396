use Rattle.std.proofs.Common.{ℕ, List, [], Option, IfSome, string_bytes, sym, subst}
use Rattle.layout_run.specs.Outside.{held}
use Rattle.exterm_cli.specs.Parts.{PerformsOn, PerformsStage, guest_as, name_as, stage_as}
use Rattle.exterm_cli.specs.Plan.{Isolates}
use Rattle.exterm_cli.proofs.Isolating.{isolate-performs}
use Rattle.exterm_cli.proofs.Performed.{repair-performs, run-performs, vote-performs}
use Rattle.exterm_cli.proofs.stage.perform_stage.Goals as goal

pub returns-in-Runs-clause-performs : goal.returns-in-Runs-clause-performs
returns-in-Runs-clause-performs g c =
    let files = g.F.Folder.files c.args.files.now in
    let files' = g.F.Folder.files c.run.new.files in
    let left = g.S.Source.left c.args.input.now in
    let left' = g.S.Source.left c.run.new.input in
    let before = held (g.O.Sink.held c.args.out.now) (g.E.Sink.held c.args.err.now) in
    let after = held (g.O.Sink.held c.run.new.out) (g.E.Sink.held c.run.new.err) in
    subst (λ s. IfSome files (λ told. PerformsStage (stage_as s) c.run.result left left' before after told files')) (sym c.in-Runs.is)
    (run-performs (guest_as c.in-Runs.accepted) (name_as c.in-Runs.image) c.run.result left' before after left files files' c.run.ensures.performs c.run.ensures.left c.run.ensures.writes)

pub returns-in-Repairs-clause-performs : goal.returns-in-Repairs-clause-performs
returns-in-Repairs-clause-performs g c =
    let files = g.F.Folder.files c.args.files.now in
    let files' = g.F.Folder.files c.repair.new.files in
    let left = g.S.Source.left c.args.input.now in
    let left' = g.S.Source.left c.repair.new.input in
    let before = held (g.O.Sink.held c.args.out.now) (g.E.Sink.held c.args.err.now) in
    let after = held (g.O.Sink.held c.repair.new.out) (g.E.Sink.held c.repair.new.err) in
    subst (λ s. IfSome files (λ told. PerformsStage (stage_as s) c.repair.result left left' before after told files')) (sym c.in-Repairs.is)
    (repair-performs (guest_as c.in-Repairs.accepted) c.repair.result left' before after c.in-Repairs.images (string_bytes c.in-Repairs.to) left files files' c.repair.ensures.performs c.repair.ensures.left c.repair.ensures.writes)

pub returns-in-Replicates-clause-performs : goal.returns-in-Replicates-clause-performs
returns-in-Replicates-clause-performs g c =
    let files = g.F.Folder.files c.args.files.now in
    let files' = g.F.Folder.files c.replicate.new.files in
    let left = g.S.Source.left c.args.input.now in
    let left' = g.S.Source.left c.replicate.new.input in
    let before = held (g.O.Sink.held c.args.out.now) (g.E.Sink.held c.args.err.now) in
    let after = held (g.O.Sink.held c.replicate.new.out) (g.E.Sink.held c.replicate.new.err) in
    subst (λ s. IfSome files (λ told. PerformsStage (stage_as s) c.replicate.result left left' before after told files')) (sym c.in-Replicates.is)
    (vote-performs (guest_as c.in-Replicates.accepted) c.replicate.result left' before after c.in-Replicates.replicas (name_as c.in-Replicates.to) left files files' c.replicate.ensures.performs c.replicate.ensures.left c.replicate.ensures.writes)

pub returns-in-Isolates-clause-performs : goal.returns-in-Isolates-clause-performs
returns-in-Isolates-clause-performs g c =
    let files = g.F.Folder.files c.args.files.now in
    let files' = g.F.Folder.files c.isolate.new.files in
    let left = g.S.Source.left c.args.input.now in
    let err = g.E.Sink.held c.args.err.now in
    let before = held (g.O.Sink.held c.args.out.now) err in
    let after = held (g.O.Sink.held c.isolate.new.out) err in
    subst (λ s. IfSome files (λ told. PerformsStage (stage_as s) c.isolate.result left left before after told files')) (sym c.in-Isolates.is)
    (isolate-performs c.in-Isolates.images.items (name_as c.in-Isolates.to) c.isolate.result left (g.O.Sink.held c.args.out.now) (g.O.Sink.held c.isolate.new.out) err files files'
    (subst (λ images. IfSome files (λ told. (err : Option (List ℕ)) → PerformsOn (Isolates images (name_as c.in-Isolates.to)) [] c.isolate.result (held (g.O.Sink.held c.args.out.now) err) (held (g.O.Sink.held c.isolate.new.out) err) told files')) c.as_slice.ensures.value c.isolate.ensures.performs))
