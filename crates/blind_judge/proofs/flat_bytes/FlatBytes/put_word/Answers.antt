use Rattle.std.proofs.Common.{◌≡◌, ◌+◌, ◌%◌, ℕ, List, [], ◌∷◌, ap, ◌∙◌, set, arith}
use Rattle.infinite_heap.specs.Memory.{put_all}
use Rattle.infinite_heap.specs.Values.{byte}
use Rattle.blind_judge.specs.FlatBytes.{byte_by}
use Rattle.blind_judge.proofs.BytesPut.{place_by, put_four}
use Rattle.blind_judge.proofs.flat_bytes.FlatBytes.put_word.Goals as goal

pub returns : goal.returns
returns c =
    let made = c.make.new.self in
    let table = made.table.items in
    let w = c.args.word in
    let bytes = byte 0 w ∷ byte 1 w ∷ byte 2 w ∷ byte 3 w ∷ [] in
    let e = put_four table made.bytes.items c.args.x (byte 0 w) (byte 1 w) (byte 2 w) (byte 3 w) c.ranges.x.fits c.requires made.kept c.in_ok-make.ensures.made in
    let P : ℕ → List ℕ = λ k. set (set (set (set made.bytes.items k (byte 0 w)) (k + 1) (byte 1 w)) (k + 2) (byte 2 w)) (k + 3) (byte 3 w) in
    let here : P c.place-at.result ≡ P (place_by table c.args.x) = ap P c.place-at.ensures in
    let low : w % 256 ≡ byte 0 w = omega arith in
    let at = c.place-at.result in
    ap (λ b. byte_by table (set (set (set (set made.bytes.items at b) (at + 1) (byte 1 w)) (at + 2) (byte 2 w)) (at + 3) (byte 3 w))) low
    ∙ ap (byte_by table) here ∙ e ∙ ap (λ f. put_all f c.args.x bytes) c.in_ok-make.ensures.same
