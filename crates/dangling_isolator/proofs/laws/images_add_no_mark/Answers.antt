use Rattle.dangling_isolator.proofs.Agreed.{among}
use Rattle.dangling_isolator.proofs.laws.images_add_no_mark.Goals as goal

pub returns : goal.returns
returns c = λ images others m. among m images others
