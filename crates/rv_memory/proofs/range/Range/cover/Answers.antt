use Rattle.std.proofs.Common.{rules, arith, ◌+◌, ◌-◌, refl}
use Rattle.std.proofs.lemmas.List.{with_items_is}
use Rattle.rv_memory.proofs.Bytes.{whole-length, held-from, held-below, over-laid}
use Rattle.rv_memory.proofs.range.Range.cover.Goals as goal

pub returns-clause-covered : goal.returns-clause-covered
returns-clause-covered c =
    let whole = whole-length c.args.self.now c.requires.whole in
    let begins = held-from c.args.self.now c.args.from c.requires.held in
    let below = held-below c.args.self.now c.args.from c.requires.held in
    over-laid c.args.self.now _ c.lay.new.bytes c.args.from (c.args.from + c.min-count.result - c.args.from) c.min-count.result c.args.rest (record {
      from = refl;
      len = refl;
      writable = refl;
      runs = refl;
      items = with_items_is c.args.self.now.bytes c.lay.new.bytes (search rules);
      size = search rules;
      whole = whole;
    }) begins (omega (arith, c.min-count.ensures, whole)) (omega arith) (rw (c.from.ensures, c.deref_mut.ensures.value) at c.lay.ensures.each)
