use Rattle.std.proofs.Common.{◌≡◌, List, Some, None, refl, sym, ◌∙◌, subst}
use Rattle.replicate.specs.declared.seat.Seat.{Seat}
use Rattle.replicate.specs.Gates.{live_count, votes_of, won}
use Rattle.replicate.specs.Standings.{SeatsAre}
use Rattle.replicate.specs.Votes.{largest_of}
use Rattle.replicate.proofs.AtGate.{decides-lost, decides-won, has-won, two-winners}
use Rattle.replicate.proofs.Changing.{same-seats}
use Rattle.replicate.proofs.group.Group.decide.Goals as goal

pub returns-in_default-clause-same : goal.returns-in_default-clause-same
returns-in_default-clause-same g c = same-seats c.args.self.now.seats.items

pub returns-clause-same : goal.returns-clause-same
returns-clause-same g c = same-seats c.args.self.now.seats.items

pub returns-in-Some-clause-decides : goal.returns-in-Some-clause-decides
returns-in-Some-clause-decides g c = λ g' is.
    let votes : c.in-Ok.votes.items ≡ votes_of g' = c.in-Ok.ensures.votes g'.budget g'.replicas (subst (λ (ss : List Seat). SeatsAre g'.budget g'.replicas ss) (sym c.deref.ensures.value) is.seats) in
    let live : c.live_count-live.result ≡ live_count g'.replicas = c.live_count-live.ensures g'.budget g'.replicas (subst (λ (ss : List Seat). SeatsAre g'.budget g'.replicas ss) (sym c.deref-2.ensures.value) is.seats) in
    let winner : won g' ≡ Some c.in-Some.winner.now = has-won g' (Some c.in-Some.winner.now) c.live_count-live.result c.in-Ok.votes.items c.deref-3.result.now live c.deref-3.ensures.value votes c.in-Some.ensures in
    decides-won g' c.in-Some.winner.now c.open_gate.result c.open_gate.new.self winner (c.open_gate.ensures.opens g' is (c.deref-in-Some.ensures.value ∙ votes) (two-winners g' c.in-Some.winner.now is.many winner))

pub returns-clause-decides : goal.returns-clause-decides
returns-clause-decides g c = λ g' is.
    let votes : c.in-Ok.votes.items ≡ votes_of g' = c.in-Ok.ensures.votes g'.budget g'.replicas (subst (λ (ss : List Seat). SeatsAre g'.budget g'.replicas ss) (sym c.deref.ensures.value) is.seats) in
    let live : c.live_count-live.result ≡ live_count g'.replicas = c.live_count-live.ensures g'.budget g'.replicas (subst (λ (ss : List Seat). SeatsAre g'.budget g'.replicas ss) (sym c.deref-2.ensures.value) is.seats) in
    let none : won g' ≡ None = has-won g' None c.live_count-live.result c.in-Ok.votes.items c.deref-3.result.now live c.deref-3.ensures.value votes c.in-None.ensures in
    let shown = c.deref-in-None.ensures.value ∙ votes in
    decides-lost g' c.args.self.now _ c.largest_of.result c.live_count-live.result is none (c.largest_of.ensures ∙ (λ k. largest_of (shown k) (shown k))) live refl refl refl refl refl refl
