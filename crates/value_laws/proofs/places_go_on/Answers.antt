use Rattle.value_laws.proofs.Decided.{place_along}
use Rattle.value_laws.proofs.LowBits.{sixteenth}
use Rattle.value_laws.proofs.Stored.{in_region_place}
use Rattle.value_laws.proofs.places_go_on.Goals as goal

pub returns : goal.returns
returns c = record { whole = sixteenth; along = place_along; held = in_region_place }
