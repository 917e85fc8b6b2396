use Rattle.std.proofs.Common.{map, string_bytes, refl}
use Rattle.rv_machine.specs.Flat.{flat_start}
use Rattle.replicate.proofs.seat.Seat.start.Goals as goal

pub returns-clause-starts : goal.returns-clause-starts
returns-clause-starts c = λ program is.
    let at = c.in_ok-machine.ensures.stands program is in record {
      living = refl;
      marked = c.mark_at-mark.ensures (flat_start program (map string_bytes c.args.args.now) c.args.settings) at;
      stands = (refl, at, refl, refl);
    }
