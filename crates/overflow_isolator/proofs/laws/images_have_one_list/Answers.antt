use Rattle.overflow_isolator.proofs.One.{have_one}
use Rattle.overflow_isolator.proofs.laws.images_have_one_list.Goals as goal

pub returns : goal.returns
returns c = have_one c.objects_that_rise_are_one_list.ensures.overflows c.objects_that_rise_are_one_list.ensures.underflows
