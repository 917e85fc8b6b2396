use Rattle.std.proofs.Common.{◌≡◌, sym, subst, set}
use Rattle.infinite_heap.specs.Memory.{put}
use Rattle.blind_judge.specs.FlatBytes.{byte_by}
use Rattle.blind_judge.proofs.BytesPut.{put_byte}
use Rattle.blind_judge.proofs.flat_bytes.FlatBytes.put.Goals as goal

pub returns-clause-put : goal.returns-clause-put
returns-clause-put c =
    let made = c.make.new.self in
    let e = put_byte made.table.items made.bytes.items c.args.x c.args.b made.kept c.in_ok-make.ensures.made in
    subst (λ f. byte_by made.table.items (set made.bytes.items c.place-at.result c.args.b) ≡ put f c.args.x c.args.b) c.in_ok-make.ensures.same
    (subst (λ k. byte_by made.table.items (set made.bytes.items k c.args.b) ≡ put (byte_by made.table.items made.bytes.items) c.args.x c.args.b) (sym c.place-at.ensures) e)
