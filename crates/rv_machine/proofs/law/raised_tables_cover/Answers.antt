use Rattle.rv_machine.specs.Cures.{cures_of}
use Rattle.rv_machine.proofs.law.raised_tables_cover.Goals as goal

pub returns : goal.returns
returns c = λ low high below. c.raised_patches_cover.ensures.runs (cures_of low) (cures_of high) (record { pads = λ site. below.pads site; fronts = λ site. below.fronts site; defers = λ alloc free. below.defers (alloc, free) })
