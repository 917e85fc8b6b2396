use Rattle.dangling_isolator.proofs.Agreed.{shared_agrees, agreed_shares}
use Rattle.dangling_isolator.proofs.laws.marks_are_of_agreed_objects.Goals as goal

pub returns : goal.returns
returns c = λ images m law. (shared_agrees images m law, agreed_shares images m)
