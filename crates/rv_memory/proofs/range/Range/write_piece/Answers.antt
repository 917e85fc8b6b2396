use Rattle.std.proofs.Common.{rules, arith, ◌+◌, ◌-◌, refl}
use Rattle.std.proofs.lemmas.List.{with_items_is}
use Rattle.rv_memory.proofs.Breaks.{part-length}
use Rattle.rv_memory.proofs.Bytes.{held-from, held-below, whole-length}
use Rattle.rv_memory.proofs.Pieces.{written-piece}
use Rattle.rv_memory.proofs.range.Range.write_piece.Goals as goal

pub returns-clause-written : goal.returns-clause-written
returns-clause-written c =
    let whole = whole-length c.args.self.now c.requires.whole in
    let begins = held-from c.args.self.now (c.args.addr + c.args.done) c.requires.held in
    let below = held-below c.args.self.now (c.args.addr + c.args.done) c.requires.held in
    let size = part-length c.args.done (c.args.done + c.min.result - c.args.done) (c.args.done + c.min.result - c.args.done) c.args.bytes.now refl (omega (arith, c.min.ensures)) in
    written-piece c.args.self.now _ c.put.new.bytes c.args.addr c.args.done (c.args.done + c.min.result - c.args.done) c.args.bytes.now (record {
      from = refl;
      len = refl;
      writable = refl;
      runs = refl;
      items = with_items_is c.args.self.now.bytes c.put.new.bytes (search rules);
      size = search rules;
      whole = whole;
    }) begins (omega (arith, c.min.ensures, whole)) size (rw (c.from.ensures, c.from-2.ensures, c.deref_mut.ensures.value) at c.put.ensures.each)
