use Rattle.layout_run.proofs.ImagedRuns.{images_are_sound as sound}
use Rattle.layout_run.proofs.laws.images_are_sound.Goals as goal

pub returns : goal.returns
returns c = sound c.signals_are_of_stored_bytes.ensures.broken c.signals_are_of_stored_bytes.ensures.runs c.signals_are_of_stored_bytes.ensures.whole
