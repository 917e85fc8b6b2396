use Rattle.std.proofs.Common.{map, string_bytes, refl}
use Rattle.replicate.proofs.Starting.{group-started}
use Rattle.replicate.proofs.group.Group.new.Goals as goal

pub returns-clause-stands : goal.returns-clause-stands
returns-clause-stands c = λ program is.
    group-started program (map string_bytes c.args.args.now) c.args.settings c.args.budget c.args.replicas _ c.requires.least (c.in_ok-seats.ensures.are program is) (c.in_ok-seats.ensures.tags program is) refl refl c.new-retired.ensures c.new-patched.ensures.items refl
