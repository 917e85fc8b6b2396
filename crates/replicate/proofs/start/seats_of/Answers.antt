use Rattle.std.proofs.Common.{◌≡◌, List, map, string_bytes, rules, subst, sym}
use Rattle.std.specs.List.{AllByRecursion}
use Rattle.replicate.specs.declared.seat.Seat.{Seat}
use Rattle.replicate.specs.GroupStands.{HaveTag}
use Rattle.replicate.specs.Rounds.{replica_at}
use Rattle.replicate.specs.Runs.{HasReadNothing}
use Rattle.rv_machine.specs.Stands.{tag_in}
use Rattle.replicate.proofs.Starting.{all-more, started-more}
use Rattle.replicate.proofs.start.seats_of.Goals as goal

pub loop-i-preserved : goal.loop-i-preserved
loop-i-preserved c = record {
  are = λ program is.
      started-more c.args.budget c.loop-i.i (replica_at program (map string_bytes c.args.args.now) c.args.settings.now) c.loop-i.seats.items c.push.new.self.items c.in_ok-seat.seat (c.in_ok-seat.ensures.starts program is) c.in_ok-seat.ensures.budget c.in_ok-push.ensures.items (c.loop-i.invariant.are program is);
  tags = λ program is. subst (λ (ss : List Seat). HaveTag program.tag ss) (sym c.in_ok-push.ensures.items) (all-more (λ (seat : Seat). tag_in seat.machine ≡ program.tag) c.loop-i.seats.items c.in_ok-seat.seat (c.in_ok-seat.ensures.tag program is) (c.loop-i.invariant.tags program is));
  unread = subst (λ (ss : List Seat). AllByRecursion HasReadNothing ss) (sym c.in_ok-push.ensures.items) (all-more HasReadNothing c.loop-i.seats.items c.in_ok-seat.seat c.in_ok-seat.ensures.place c.loop-i.invariant.unread);
  count = search rules;
}
