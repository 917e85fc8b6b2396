use Rattle.size_class.specs.Laws.{class_of_least, least_class_one}
use Rattle.size_class.proofs.classes_are_least.Goals as goal

pub returns : goal.returns
returns c = record { least = class_of_least; one = least_class_one }
