use Rattle.std.proofs.Common.{rules, arith, ◌∙◌, ◌≡◌, ◌<◌, ◌+◌, sym, ap}
use Rattle.std.proofs.lemmas.Bool.Decides.{nat_tests}
use Rattle.rv_memory.specs.Access.{bytes_in}
use Rattle.rv_memory.specs.declared.range.Range.{Range}
use Rattle.rv_memory.specs.Spaces.{memory_of, taken_of}
use Rattle.rv_memory.proofs.Loads.{some_bytes}
use Rattle.rv_memory.proofs.StoreHit.{same-range, may-store, stored-over}
use Rattle.rv_memory.proofs.Stored.{written-range, apart-range, order-range}
use Rattle.rv_memory.proofs.Taken.{keeps-range}
use Rattle.rv_memory.proofs.space.Space.store_hinted.Goals as goal

pub invariant_of-self : goal.invariant_of-self
invariant_of-self c = record {
  apart = apart-range c.args.self.now c.get-hint.result (c.index_mut.result.now.from + c.place-at.result) (bytes_in c.args.width) c.index_mut.result.now c.write.new.self _ (search rules) c.index_mut.ensures.value c.write.ensures;
  order = order-range c.args.self.now c.get-hint.result (c.index_mut.result.now.from + c.place-at.result) (bytes_in c.args.width) c.index_mut.result.now c.write.new.self _ (search rules) c.index_mut.ensures.value c.write.ensures;
  code_runs = c.args.self.now.code_runs;
  code_fixed = c.args.self.now.code_fixed;
  code_made = c.args.self.now.code_made;
}

pub returns-then-at-bytes-clause-lawful : goal.returns-then-at-bytes-clause-lawful
returns-then-at-bytes-clause-lawful c =
    let some = some_bytes c.args.width in
    let low : c.place-at.result < c.index-range.result.now.len = omega (arith, c.bytes.ensures, c.index-range.result.now.fits) in
    let begins = c.place-at.ensures.begins low in
    let place = c.place-at.ensures.place low in
    may-store c.args.self.now c.get-hint.result c.args.addr (bytes_in c.args.width) c.index-range.result.now (search rules) c.index-range.ensures (sym c.place-at.ensures.held ∙ grind (arith, nat_tests)) c.if-range.true (omega (arith, c.bytes.ensures, c.index-range.result.now.fits))

pub returns-then-at-bytes-clause-stored : goal.returns-then-at-bytes-clause-stored
unfolding memory_of
returns-then-at-bytes-clause-stored c =
    let some = some_bytes c.args.width in
    let low : c.place-at.result < c.index-range.result.now.len = omega (arith, c.bytes.ensures, c.index-range.result.now.fits) in
    let begins = c.place-at.ensures.begins low in
    let place = c.place-at.ensures.place low in
    let same = same-range c.args.self.now.ranges.items c.get-hint.result c.index-range.result.now c.index_mut.result.now (search rules) c.index-range.ensures c.index_mut.ensures.value in
    let from : c.index-range.result.now.from ≡ c.index_mut.result.now.from = ap (λ (r : Range). r.from) same in
    let over = stored-over c.index_mut.result.now c.write.new.self c.args.addr c.place-at.result c.args.value c.args.width (omega arith) c.write.ensures in
    written-range c.args.self.now c.get-hint.result c.args.addr _ c.index_mut.result.now c.write.new.self _ (search rules) c.index_mut.ensures.value over

pub returns-then-at-bytes-clause-taken : goal.returns-then-at-bytes-clause-taken
unfolding taken_of
returns-then-at-bytes-clause-taken c = keeps-range c.args.self.now c.get-hint.result (c.index_mut.result.now.from + c.place-at.result) (bytes_in c.args.width) c.index_mut.result.now c.write.new.self _ (search rules) c.index_mut.ensures.value c.write.ensures
