use Rattle.std.proofs.Common.{rules, ◌∙◌, ◌+◌, ◌-◌}
use Rattle.rv_memory.specs.Spaces.{memory_of, taken_of}
use Rattle.rv_memory.proofs.Stored.{written-range, apart-range, order-range, written-code, apart-code, code-held}
use Rattle.rv_memory.proofs.Taken.{keeps-range, keeps-code, place-held, whole-at, whole-over}
use Rattle.rv_memory.proofs.space.Space.write_piece.Goals as goal

pub write_piece-requires-in-None-clause-held : goal.write_piece-requires-in-None-clause-held
write_piece-requires-in-None-clause-held c =
    let missed = rw c.from.ensures at c.in-None.ensures in
    code-held c.args.self.now (c.args.addr + c.args.done) missed c.requires.mapped

pub invariant_of-self : goal.invariant_of-self
invariant_of-self c = record {
  apart = apart-range c.args.self.now c.in-Some.i (c.args.addr + c.args.done) (c.write_piece.result - c.args.done) c.index_mut.result.now c.write_piece.new.self _ (search rules) c.index_mut.ensures.value c.write_piece.ensures.written;
  order = order-range c.args.self.now c.in-Some.i (c.args.addr + c.args.done) (c.write_piece.result - c.args.done) c.index_mut.result.now c.write_piece.new.self _ (search rules) c.index_mut.ensures.value c.write_piece.ensures.written;
  code_runs = c.args.self.now.code_runs;
  code_fixed = c.args.self.now.code_fixed;
  code_made = c.args.self.now.code_made;
}

pub invariant_of-self-in-None : goal.invariant_of-self-in-None
invariant_of-self-in-None c = record {
  apart = apart-code c.args.self.now (c.args.addr + c.args.done) (c.write_piece-in-None.result - c.args.done) c.write_piece-in-None.new.self _ c.write_piece-in-None.ensures.written;
  order = c.args.self.now.order;
  code_runs = c.write_piece-in-None.ensures.written.runs_same ∙ c.args.self.now.code_runs;
  code_fixed = c.write_piece-in-None.ensures.written.writable_same ∙ c.args.self.now.code_fixed;
  code_made = whole-over c.args.self.now.code c.write_piece-in-None.new.self (c.args.addr + c.args.done) (c.write_piece-in-None.result - c.args.done) _ c.write_piece-in-None.ensures.written c.args.self.now.code_made;
}

pub returns-in-Some-clause-written : goal.returns-in-Some-clause-written
unfolding memory_of
returns-in-Some-clause-written c = written-range c.args.self.now c.in-Some.i (c.args.addr + c.args.done) (c.write_piece.result - c.args.done) c.index_mut.result.now c.write_piece.new.self _ (search rules) c.index_mut.ensures.value c.write_piece.ensures.written

pub returns-in-Some-clause-taken : goal.returns-in-Some-clause-taken
unfolding taken_of
returns-in-Some-clause-taken c = keeps-range c.args.self.now c.in-Some.i (c.args.addr + c.args.done) (c.write_piece.result - c.args.done) c.index_mut.result.now c.write_piece.new.self _ (search rules) c.index_mut.ensures.value c.write_piece.ensures.written

pub returns-in-None-clause-written : goal.returns-in-None-clause-written
unfolding memory_of
returns-in-None-clause-written c = written-code c.args.self.now (c.args.addr + c.args.done) (c.write_piece-in-None.result - c.args.done) c.write_piece-in-None.new.self _ c.write_piece-in-None.ensures.written

pub returns-in-None-clause-taken : goal.returns-in-None-clause-taken
unfolding taken_of
returns-in-None-clause-taken c = keeps-code c.args.self.now (c.args.addr + c.args.done) (c.write_piece-in-None.result - c.args.done) c.write_piece-in-None.new.self _ c.write_piece-in-None.ensures.written

pub write_piece-requires-clause-whole : goal.write_piece-requires-clause-whole
write_piece-requires-clause-whole c =
    let held = place-held c.args.self.now.ranges.items c.in-Some.i (c.args.addr + c.args.done) c.index_mut.result.now c.index_mut.ensures.value (rw c.from.ensures at c.in-Some.ensures).1 in
    whole-at c.args.self.now c.in-Some.i (c.args.addr + c.args.done) c.index_mut.result.now (search rules) c.index_mut.ensures.value held c.requires.sure
