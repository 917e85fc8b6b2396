use Rattle.std.proofs.Common.{sym}
use Rattle.std.proofs.lemmas.Bool.{eqb-true}
use Rattle.std.proofs.lemmas.List.{nil_from_length}
use Rattle.ex_io.proofs.Written.{so_far-more, so_far-done}
use Rattle.ex_io.proofs.adapters.write_whole.Goals as goal

pub returns : goal.returns
returns g c = so_far-done _ _ _ _ _ c.is_ok.result c.loop-rest.invariant (nil_from_length _ (eqb-true _ _ (sym c.loop-rest-test.ensures))) c.flush.ensures.bytes

pub loop-rest-preserved : goal.loop-rest-preserved
loop-rest-preserved g c = rw c.split_at.ensures.back (so_far-more _ _ _ _ _ c.in-Ok.count c.loop-rest.invariant c.in-Ok.ensures.bytes)
