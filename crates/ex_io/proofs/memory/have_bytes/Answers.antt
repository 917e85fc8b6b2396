use Rattle.std.proofs.Common.{◌<◌, subst}
use Rattle.std.specs.Prelude.{All}
use Rattle.std.proofs.lemmas.List.{take_all}
use Rattle.ex_io.proofs.Told.{HasBytes, found-bytes, next-bytes}
use Rattle.ex_io.proofs.memory.have_bytes.Goals as goal

pub loop-bytes-preserved : goal.loop-bytes-preserved
loop-bytes-preserved c =
    next-bytes c.args.files.now c.loop-bytes.bytes-index c.loop-bytes-item.result c.loop-bytes-test.true c.loop-bytes-item.is (subst (All (λ b. b < 256)) c.deref.ensures.value c.are_bytes.ensures) c.loop-bytes.invariant

pub returns : goal.returns
returns c = found-bytes c.args.files.now (subst (All HasBytes) (take_all c.loop-bytes.bytes-index c.args.files.now c.loop-bytes-test.false) c.loop-bytes.invariant)
