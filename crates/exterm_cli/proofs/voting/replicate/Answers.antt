use Rattle.std.proofs.Common.{Err, Option, Some, IfSome, Result, List, ℕ, subst, sym}
use Rattle.ex_io.specs.Files.{FileMap}
use Rattle.iterate.specs.Reruns.{Job}
use Rattle.layout_run.specs.Outside.{Held, held}
use Rattle.layout_run.specs.declared.ran.RunRefusal.{RunRefusal}
use Rattle.layout_run.specs.declared.ran.RunRefusal.TheVariants as refused
use Rattle.replicate.specs.Runs.{EndsAreOne, EndsOrStops, StopsAreOne}
use Rattle.exterm_cli.specs.Parts.{CutBy, PerformsOn, guest_as, name_as, verdict_in}
use Rattle.exterm_cli.specs.Plan.{Replicates}
use Rattle.exterm_cli.specs.Stages.{LeavesInput}
use Rattle.exterm_cli.specs.Voting.{IsCut, VotesAs}
use Rattle.exterm_cli.specs.declared.cut.Cut.{Cut}
use Rattle.exterm_cli.specs.declared.cut.Cut.TheVariants as why
use Rattle.exterm_cli.specs.declared.voting.Voted.{Voted}
use Rattle.exterm_cli.proofs.Known.{each-some, mapped}
use Rattle.exterm_cli.proofs.Left.{ok-any}
use Rattle.exterm_cli.proofs.Voted.{stop-left, vote-cut, vote-finished, vote-left, vote-stopped}
use Rattle.exterm_cli.proofs.voting.replicate.Goals as goal

-- the files are as they were
same-files : (files : Option FileMap) (P : FileMap → Option FileMap → Type 0) → ((told : FileMap) → P told (Some told)) → IfSome files (λ told. P told files)
same-files files P each = each-some files _ (λ told is. subst (P told) (sym is) (each told))

abbrev Votes : Job → (replicas : ℕ) → (left left' : Option (List ℕ)) → (before after : Held) → Result Voted RunRefusal → Type 0
Votes job replicas left left' before after result = IfSome left (λ bytes. VotesAs job replicas bytes result left' before after)

pub returns-in-Ok-clause-performs : goal.returns-in-Ok-clause-performs
returns-in-Ok-clause-performs g c =
    let before = held (g.O.Sink.held c.args.out.now) (g.E.Sink.held c.args.err.now) in
    let after = held (g.O.Sink.held c.vote.new.out) (g.E.Sink.held c.vote.new.err) in
    let laws = c.runs_are_one.ensures in
    mapped (g.S.Source.left c.args.input.now) _ _ (λ bytes is has.
    mapped (g.F.Folder.files c.args.files.now) _ _ (λ told known keeps.
    vote-finished (guest_as c.args.accepted) c.args.replicas (name_as c.args.to) bytes laws.ends laws.stops laws.apart before after told c.in-Ok.voted (g.S.Source.left c.vote.new.input) (g.F.Folder.files c.finish.new.files) has c.finish.result (c.finish.ensures.tells has.group has.stands) keeps)
    (c.finish.ensures.keeps has.group has.stands)) c.in-Ok.ensures.votes

pub returns-in-Ok-clause-left : goal.returns-in-Ok-clause-left
returns-in-Ok-clause-left g c =
    let laws = c.runs_are_one.ensures in
    let left' = g.S.Source.left c.vote.new.input in
    mapped (g.S.Source.left c.args.input.now) _ _ (λ bytes is has.
    ok-any c.finish.result (LeavesInput (Replicates (guest_as c.args.accepted) c.args.replicas (name_as c.args.to)) bytes left')
    (vote-left (guest_as c.args.accepted) c.args.replicas (name_as c.args.to) bytes laws.ends laws.stops laws.apart has.group c.in-Ok.voted.over left' has.comes has.left)) c.in-Ok.ensures.votes

pub returns-in-Err-Input-clause-performs : goal.returns-in-Err-Input-clause-performs
returns-in-Err-Input-clause-performs g c =
    let before = held (g.O.Sink.held c.args.out.now) (g.E.Sink.held c.args.err.now) in
    let after = held (g.O.Sink.held c.vote.new.out) (g.E.Sink.held c.vote.new.err) in
    let left = g.S.Source.left c.args.input.now in
    let left' = g.S.Source.left c.vote.new.input in
    let laws = c.runs_are_one.ensures in
    let votes = subst (λ why. Votes (guest_as c.args.accepted) c.args.replicas left left' before after (Err why)) c.in-Err-Input.field-0-is c.in-Err-Input.ensures.votes in
    rw c.told.ensures (mapped left _ _ (λ bytes is has.
    same-files (g.F.Folder.files c.args.files.now) (λ told new. PerformsOn (Replicates (guest_as c.args.accepted) c.args.replicas (name_as c.args.to)) bytes (verdict_in c.long_input.result) before after told new) (λ told. vote-stopped (guest_as c.args.accepted) c.args.replicas (name_as c.args.to) bytes laws.ends laws.stops laws.apart before after told c.long_input.result c.long_input.ensures has)) votes)

pub returns-in-Err-Input-clause-left : goal.returns-in-Err-Input-clause-left
returns-in-Err-Input-clause-left g c =
    let before = held (g.O.Sink.held c.args.out.now) (g.E.Sink.held c.args.err.now) in
    let after = held (g.O.Sink.held c.vote.new.out) (g.E.Sink.held c.vote.new.err) in
    let left = g.S.Source.left c.args.input.now in
    let left' = g.S.Source.left c.vote.new.input in
    let laws = c.runs_are_one.ensures in
    let votes = subst (λ why. Votes (guest_as c.args.accepted) c.args.replicas left left' before after (Err why)) c.in-Err-Input.field-0-is c.in-Err-Input.ensures.votes in
    mapped left _ _ (λ bytes is has. ok-any c.told.result (LeavesInput (Replicates (guest_as c.args.accepted) c.args.replicas (name_as c.args.to)) bytes left')
    (stop-left (guest_as c.args.accepted) c.args.replicas (name_as c.args.to) bytes laws.ends laws.stops laws.apart has.group left' has.limit)) votes

-- it was cut short
module _ (job : Job) (replicas : ℕ) (to : Option (List ℕ)) (ends : EndsAreOne) (stops : StopsAreOne) (apart : EndsOrStops) (left left' : Option (List ℕ)) (before after : Held) (files : Option FileMap) where
  cut-short : (refused : RunRefusal) (cause : Cut) → CutBy refused cause → ((bytes : List ℕ) → VotesAs job replicas bytes (Err refused) left' before after → IsCut job replicas bytes refused before after) → Votes job replicas left left' before after (Err refused)
      → IfSome left (λ bytes. IfSome files (λ told. PerformsOn (Replicates job replicas to) bytes (Err cause) before after told files))
  cut-short refused cause by is votes =
      mapped left _ _ (λ bytes known has.
      same-files files (λ told new. PerformsOn (Replicates job replicas to) bytes (Err cause) before after told new) (λ told. vote-cut job replicas to bytes ends stops apart before after told refused cause by (is bytes has))) votes

pub returns-in-Err-Memory-clause-performs : goal.returns-in-Err-Memory-clause-performs
returns-in-Err-Memory-clause-performs g c =
    let before = held (g.O.Sink.held c.args.out.now) (g.E.Sink.held c.args.err.now) in
    let after = held (g.O.Sink.held c.vote.new.out) (g.E.Sink.held c.vote.new.err) in
    let left = g.S.Source.left c.args.input.now in
    let left' = g.S.Source.left c.vote.new.input in
    let laws = c.runs_are_one.ensures in
    let votes = subst (λ why. Votes (guest_as c.args.accepted) c.args.replicas left left' before after (Err why)) c.in-Err-Memory.field-0-is c.in-Err-Memory.ensures.votes in
    cut-short (guest_as c.args.accepted) c.args.replicas (name_as c.args.to) laws.ends laws.stops laws.apart left left' before after (g.F.Folder.files c.args.files.now) refused.Memory why.Memory tt (λ bytes has. has) votes

pub returns-in-Err-Source-clause-performs : goal.returns-in-Err-Source-clause-performs
returns-in-Err-Source-clause-performs g c =
    let before = held (g.O.Sink.held c.args.out.now) (g.E.Sink.held c.args.err.now) in
    let after = held (g.O.Sink.held c.vote.new.out) (g.E.Sink.held c.vote.new.err) in
    let left = g.S.Source.left c.args.input.now in
    let left' = g.S.Source.left c.vote.new.input in
    let laws = c.runs_are_one.ensures in
    let votes = subst (λ why. Votes (guest_as c.args.accepted) c.args.replicas left left' before after (Err why)) c.in-Err-Source.field-0-is c.in-Err-Source.ensures.votes in
    cut-short (guest_as c.args.accepted) c.args.replicas (name_as c.args.to) laws.ends laws.stops laws.apart left left' before after (g.F.Folder.files c.args.files.now) refused.Source why.Input tt (λ bytes has. has) votes

pub returns-in-Err-Out-clause-performs : goal.returns-in-Err-Out-clause-performs
returns-in-Err-Out-clause-performs g c =
    let before = held (g.O.Sink.held c.args.out.now) (g.E.Sink.held c.args.err.now) in
    let after = held (g.O.Sink.held c.vote.new.out) (g.E.Sink.held c.vote.new.err) in
    let left = g.S.Source.left c.args.input.now in
    let left' = g.S.Source.left c.vote.new.input in
    let laws = c.runs_are_one.ensures in
    let votes = subst (λ why. Votes (guest_as c.args.accepted) c.args.replicas left left' before after (Err why)) c.in-Err-Out.field-0-is c.in-Err-Out.ensures.votes in
    cut-short (guest_as c.args.accepted) c.args.replicas (name_as c.args.to) laws.ends laws.stops laws.apart left left' before after (g.F.Folder.files c.args.files.now) refused.Out why.Output tt (λ bytes has. has) votes

pub returns-clause-performs : goal.returns-clause-performs
returns-clause-performs g c =
    let before = held (g.O.Sink.held c.args.out.now) (g.E.Sink.held c.args.err.now) in
    let after = held (g.O.Sink.held c.vote.new.out) (g.E.Sink.held c.vote.new.err) in
    let left = g.S.Source.left c.args.input.now in
    let left' = g.S.Source.left c.vote.new.input in
    let laws = c.runs_are_one.ensures in
    let votes = subst (λ why. Votes (guest_as c.args.accepted) c.args.replicas left left' before after (Err why)) c.in-Err-Err.field-0-is c.in-Err-Err.ensures.votes in
    cut-short (guest_as c.args.accepted) c.args.replicas (name_as c.args.to) laws.ends laws.stops laws.apart left left' before after (g.F.Folder.files c.args.files.now) refused.Err why.Error tt (λ bytes has. has) votes
