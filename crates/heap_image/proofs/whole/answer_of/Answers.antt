use Rattle.std.proofs.Common.{length, arith}
use Rattle.heap_image.specs.Reading.{Front, parts_in}
use Rattle.heap_image.proofs.Numbers.{IsBytes}
use Rattle.heap_image.proofs.Wholes.{front_takes, parts_takes, is_lawful}
use Rattle.heap_image.proofs.whole.answer_of.Goals as goal

pub assembled-requires : goal.assembled-requires
assembled-requires c =
    let o = c.in-Ok.opening in
    let f : Front = record { version = o.version; head = o.head; begins = o.begins.now; text = o.text.now; rest = o.rest.now } in
    let fits : IsBytes c.args.bytes.now = λ i. omega (arith, c.type_inv.bytes i) in
    let front = front_takes c.args.bytes.now f fits c.in-Ok.ensures in
    let parts = parts_takes f.version (length c.args.bytes.now) f.head f.rest (parts_in c.in-Ok-body_of.body) front.takes.rest_fits c.in-Ok-body_of.ensures in
    is_lawful f.version f.head c.in-Ok-Some.patches f.rest (parts_in c.in-Ok-body_of.body) front.head_fits parts
