use Rattle.std.proofs.Common.{◌≡◌, length, arith}
use Rattle.std.proofs.lemmas.Simd.{length-put_chunk}
use lib.Lanes.{put_chunk}
use Rattle.diefast_canary.proofs.Vectors.{intact_stored}
use Rattle.diefast_canary.proofs.fill_words.Goals as goal

pub loop-at-preserved : goal.loop-at-preserved
loop-at-preserved c =
    let l = c.loop-at in
    let pair = c.word_pair-pair.result in
    let long : length (put_chunk l.at l.bytes pair) ≡ length l.bytes = length-put_chunk l.at l.bytes pair in
    record {
      end = omega arith;
      period = omega arith;
      intact = intact_stored c.args.word c.args.phase l.bytes pair l.at 8 c.word_pair-pair.ensures.len (omega arith) l.invariant.period l.invariant.intact c.word_pair-pair.ensures.intact;
    }
