use Rattle.std.proofs.Common.{◌≡◌, ◌+◌, length, arith, subst}
use Rattle.std.proofs.lemmas.Simd.{length-put_chunk}
use lib.Lanes.{put_chunk}
use Rattle.diefast_canary.specs.Canary.{IsIntactTo}
use Rattle.diefast_canary.proofs.Vectors.{intact_stored}
use Rattle.diefast_canary.proofs.fill_lanes.Goals as goal

pub loop-at-preserved : goal.loop-at-preserved
loop-at-preserved c =
    let l = c.loop-at in
    let lanes = c.lanes-lanes.result in
    let made = c.lanes-lanes.ensures in
    let once = put_chunk l.at l.bytes lanes in
    let twice = put_chunk (l.at + 32) once lanes in
    let long : length once ≡ length l.bytes = length-put_chunk l.at l.bytes lanes in
    let longer : length twice ≡ length once = length-put_chunk (l.at + 32) once lanes in
    let near = intact_stored c.args.word c.args.phase l.bytes lanes l.at 32 made.len (omega arith) l.invariant.period l.invariant.intact made.intact in
    let far = intact_stored c.args.word c.args.phase once lanes (l.at + 32) 32 made.len (omega arith) (omega arith) near made.intact in
    let on : l.at + 32 + 32 ≡ l.at + 64 = omega arith in
    record {
      end = omega arith;
      period = omega arith;
      intact = subst (IsIntactTo c.args.word c.args.phase twice) on far;
    }
