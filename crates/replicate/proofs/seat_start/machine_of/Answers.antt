use Rattle.std.proofs.Common.{map, string_bytes, refl}
use Rattle.rv_machine.specs.Guest.{guest_start}
use Rattle.replicate.proofs.Gated.{going-started}
use Rattle.replicate.proofs.seat_start.machine_of.Goals as goal

pub returns-clause-going : goal.returns-clause-going
returns-clause-going c = going-started c.start.result (guest_start c.in-Ok.program (map string_bytes c.args.args.now) c.args.settings) refl c.start.ensures.stands
