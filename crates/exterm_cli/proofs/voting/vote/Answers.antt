use Rattle.std.proofs.Common.{◌≡◌, ◌∙◌, ap, map, string_bytes, subst, true}
use Rattle.ex_io.specs.Tape.{new_tape}
use Rattle.infinite_heap.specs.Elf.{program_of}
use Rattle.layout_run.specs.Outside.{held}
use Rattle.replicate.specs.GroupStands.{IsGroup}
use Rattle.replicate.specs.Rounds.{started}
use Rattle.exterm_cli.specs.Parts.{guest_as}
use Rattle.exterm_cli.proofs.Known.{each-some}
use Rattle.exterm_cli.proofs.Left.{made}
use Rattle.exterm_cli.proofs.Voted.{has-voted, starts-kept, tells-all, votes-cut, votes-nothing}
use Rattle.exterm_cli.proofs.voting.vote.Goals as goal

pub new-requires-2-clause-loads : goal.new-requires-2-clause-loads
new-requires-2-clause-loads g c = (c.args.accepted.program, ap program_of c.as_slice.ensures.value ∙ c.requires.may.loads)

pub returns-in_default-new-clause-votes : goal.returns-in_default-new-clause-votes
returns-in_default-new-clause-votes g c =
    each-some (g.S.Source.left c.args.input.now) _ (λ bytes is. votes-nothing (guest_as c.args.accepted) c.args.replicas bytes (held (g.O.Sink.held c.args.out.now) (g.E.Sink.held c.args.err.now)))

pub run_group-requires-clause-kept : goal.run_group-requires-clause-kept
run_group-requires-clause-kept g c = λ going. starts-kept c.in-Ok-new.group c.in-Ok.tape (made c.in-Ok.tape (new_tape true) c.in-Ok.ensures.tape) c.in-Ok-new.ensures.anew

pub returns-in-Ok-run_group-clause-votes : goal.returns-in-Ok-run_group-clause-votes
returns-in-Ok-run_group-clause-votes g c =
    let before = held (g.O.Sink.held c.args.out.now) (g.E.Sink.held c.args.err.now) in
    let after = held (g.O.Sink.held c.run_group.new.out) (g.E.Sink.held c.run_group.new.err) in
    let left' = g.S.Source.left c.new.new.source in
    let left'' = g.S.Source.left c.run_group.new.input in
    let accepted = c.args.accepted in
    let track = c.in-Ok.tape in
    let begun : track ≡ new_tape true = made track (new_tape true) c.in-Ok.ensures.tape in
    let stands = subst (λ args. IsGroup (started accepted.program (map string_bytes args) accepted.settings accepted.budget c.args.replicas) c.in-Ok-new.group) c.as_slice-2.ensures.value
    (c.in-Ok-new.ensures.stands accepted.program (ap program_of c.as_slice.ensures.value ∙ c.requires.may.loads)) in
    each-some (g.S.Source.left c.args.input.now) _ (λ bytes is.
    let tells = tells-all track left' bytes begun (c.in-Ok.ensures.left ∙ is) in
    has-voted (guest_as accepted) c.args.replicas bytes before after (record { group = c.run_group.new.group; over = c.in-Ok-run_group.over }) track c.run_group.new.tape left' left'' begun tells c.in-Ok-run_group.ensures.kept c.has_answered.ensures c.in-Ok-run_group.ensures.same
    (c.in-Ok-run_group.ensures.runs c.in-Ok-new.ensures.anew.going _ bytes tells stands))

pub returns-clause-votes : goal.returns-clause-votes
returns-clause-votes g c =
    let before = held (g.O.Sink.held c.args.out.now) (g.E.Sink.held c.args.err.now) in
    let after = held (g.O.Sink.held c.run_group.new.out) (g.E.Sink.held c.run_group.new.err) in
    let left' = g.S.Source.left c.new.new.source in
    let accepted = c.args.accepted in
    let track = c.in-Ok.tape in
    let begun : track ≡ new_tape true = made track (new_tape true) c.in-Ok.ensures.tape in
    let stands = subst (λ args. IsGroup (started accepted.program (map string_bytes args) accepted.settings accepted.budget c.args.replicas) c.in-Ok-new.group) c.as_slice-2.ensures.value
    (c.in-Ok-new.ensures.stands accepted.program (ap program_of c.as_slice.ensures.value ∙ c.requires.may.loads)) in
    each-some (g.S.Source.left c.args.input.now) _ (λ bytes is.
    let tells = tells-all track left' bytes begun (c.in-Ok.ensures.left ∙ is) in
    votes-cut (guest_as accepted) c.args.replicas bytes before after c.in-Err.refused c.run_group.new.group track c.run_group.new.tape (g.S.Source.left c.run_group.new.input) (c.in-Err.ensures.runs c.in-Ok-new.ensures.anew.going _ bytes tells stands))
