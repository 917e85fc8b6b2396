use Rattle.std.proofs.Common.{rules, ◌∙◌, ◌-◌}
use Rattle.rv_memory.specs.Spaces.{memory_of, taken_of}
use Rattle.rv_memory.proofs.Stored.{written-range, apart-range, order-range, written-code, apart-code, code-held}
use Rattle.rv_memory.proofs.Taken.{keeps-range, keeps-code, place-held, whole-at, whole-over}
use Rattle.rv_memory.proofs.space.Space.cover_piece.Goals as goal

pub invariant_of-self : goal.invariant_of-self
invariant_of-self c = record {
  apart = apart-range c.args.self.now c.in-Some.i c.args.from (c.cover.result - c.args.from) c.index_mut.result.now c.cover.new.self _ (search rules) c.index_mut.ensures.value c.cover.ensures.covered;
  order = order-range c.args.self.now c.in-Some.i c.args.from (c.cover.result - c.args.from) c.index_mut.result.now c.cover.new.self _ (search rules) c.index_mut.ensures.value c.cover.ensures.covered;
  code_runs = c.args.self.now.code_runs;
  code_fixed = c.args.self.now.code_fixed;
  code_made = c.args.self.now.code_made;
}

pub cover-requires-in-None-clause-held : goal.cover-requires-in-None-clause-held
cover-requires-in-None-clause-held c =
    let missed = c.in-None.ensures in
    code-held c.args.self.now c.args.from missed c.requires.mapped

pub invariant_of-self-in-None : goal.invariant_of-self-in-None
invariant_of-self-in-None c = record {
  apart = apart-code c.args.self.now c.args.from (c.cover-in-None.result - c.args.from) c.cover-in-None.new.self _ c.cover-in-None.ensures.covered;
  order = c.args.self.now.order;
  code_runs = c.cover-in-None.ensures.covered.runs_same ∙ c.args.self.now.code_runs;
  code_fixed = c.cover-in-None.ensures.covered.writable_same ∙ c.args.self.now.code_fixed;
  code_made = whole-over c.args.self.now.code c.cover-in-None.new.self c.args.from (c.cover-in-None.result - c.args.from) _ c.cover-in-None.ensures.covered c.args.self.now.code_made;
}

pub returns-in-Some-clause-covered : goal.returns-in-Some-clause-covered
unfolding memory_of
returns-in-Some-clause-covered c = written-range c.args.self.now c.in-Some.i c.args.from (c.cover.result - c.args.from) c.index_mut.result.now c.cover.new.self _ (search rules) c.index_mut.ensures.value c.cover.ensures.covered

pub returns-in-Some-clause-taken : goal.returns-in-Some-clause-taken
unfolding taken_of
returns-in-Some-clause-taken c = keeps-range c.args.self.now c.in-Some.i c.args.from (c.cover.result - c.args.from) c.index_mut.result.now c.cover.new.self _ (search rules) c.index_mut.ensures.value c.cover.ensures.covered

pub returns-in-None-clause-covered : goal.returns-in-None-clause-covered
unfolding memory_of
returns-in-None-clause-covered c = written-code c.args.self.now c.args.from (c.cover-in-None.result - c.args.from) c.cover-in-None.new.self _ c.cover-in-None.ensures.covered

pub returns-in-None-clause-taken : goal.returns-in-None-clause-taken
unfolding taken_of
returns-in-None-clause-taken c = keeps-code c.args.self.now c.args.from (c.cover-in-None.result - c.args.from) c.cover-in-None.new.self _ c.cover-in-None.ensures.covered

pub cover-requires-clause-whole : goal.cover-requires-clause-whole
cover-requires-clause-whole c =
    let held = place-held c.args.self.now.ranges.items c.in-Some.i c.args.from c.index_mut.result.now c.index_mut.ensures.value c.in-Some.ensures.1 in
    whole-at c.args.self.now c.in-Some.i c.args.from c.index_mut.result.now (search rules) c.index_mut.ensures.value held c.requires.sure
