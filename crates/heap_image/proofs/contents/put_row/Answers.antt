use Rattle.std.proofs.Common.{ℕ, sym, subst}
use Rattle.std.specs.Prelude.{IsTrue}
use Rattle.rv_memory.specs.Memory.{is_mapped}
use Rattle.rv_memory.specs.Spaces.{memory_of}
use Rattle.heap_image.proofs.Taken.{contents_mapped}
use Rattle.heap_image.proofs.contents.put_row.Goals as goal

pub put_bytes-requires : goal.put_bytes-requires
put_bytes-requires c = record {
  mapped =
      subst (λ (n : ℕ). IsTrue (is_mapped (memory_of c.args.space.now) c.args.row.now.addr n)) (sym c.content_bytes-len.ensures)
      (contents_mapped c.places_hold_the_slots.ensures.slots c.args.grid.now (memory_of c.args.space.now) c.requires.mapped c.args.row.now);
}
