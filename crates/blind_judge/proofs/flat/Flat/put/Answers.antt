use Rattle.std.proofs.Common.{sym, ◌∙◌, ap, refl, None}
use Rattle.infinite_heap.specs.Memory.{put}
use Rattle.blind_judge.specs.FlatBytes.{byte_in}
use Rattle.blind_judge.specs.FlatCells.{odd_in}
use Rattle.blind_judge.proofs.FlatPut.{flat_by, number_put, odd_put, mapped_ok}
use Rattle.blind_judge.proofs.flat.Flat.put.Goals as goal

pub returns-in_ok-put-in-Byte-clause-put : goal.returns-in_ok-put-in-Byte-clause-put
returns-in_ok-put-in-Byte-clause-put c =
    let old = c.args.self.now in
    ap (λ o. flat_by o (byte_in c.put.new.self)) c.remove.ensures ∙ ap (λ b. flat_by (put (odd_in old.cells) c.args.x None) b) c.in_ok-put-in-Byte.ensures.put
    ∙ number_put (odd_in old.cells) (byte_in old.bytes) c.args.x c.in-Byte.b ∙ ap (put (flat_by (odd_in old.cells) (byte_in old.bytes)) c.args.x) (sym c.in-Byte.is)

pub returns-in_default : goal.returns-in_default
returns-in_default c =
    let old = c.args.self.now in
    record {
      put = mapped_ok c.put-in_default.result c.put-in_default.ensures (λ e. ap (λ o. flat_by o (byte_in old.bytes)) e ∙ odd_put (odd_in old.cells) (byte_in old.bytes) c.args.x c.args.cell);
      mapping = refl;
    }
