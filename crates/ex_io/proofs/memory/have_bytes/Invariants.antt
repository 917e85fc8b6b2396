use Rattle.std.proofs.Common.{take}
use Rattle.std.specs.Prelude.{All}
use Rattle.ex_io.proofs.Told.{HasBytes}
use Rattle.ex_io.proofs.memory.have_bytes.Given as goal

abbrev pub invariant-loop-bytes : goal.invariant-loop-bytes
invariant-loop-bytes l = All HasBytes (take l.bytes-index l.files)
