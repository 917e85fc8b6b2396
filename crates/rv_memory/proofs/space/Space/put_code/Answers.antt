use Rattle.rv_memory.specs.Spaces.{memory_of, taken_of}
use Rattle.rv_memory.proofs.Mapped.{apart-coded, memory-coded}
use Rattle.rv_memory.proofs.Taken.{keeps-coded}
use Rattle.rv_memory.proofs.space.Space.put_code.Goals as goal

pub invariant_of-self : goal.invariant_of-self
invariant_of-self c = record {
  apart = apart-coded c.args.self.now c.args.range c.requires.unmapped;
  order = c.args.self.now.order;
  code_runs = c.requires.runs;
  code_fixed = c.requires.fixed;
  code_made = c.requires.made;
}

pub returns-clause-mapped : goal.returns-clause-mapped
unfolding memory_of
returns-clause-mapped c = memory-coded c.args.self.now c.args.range c.requires.lacking

pub returns-clause-taken : goal.returns-clause-taken
unfolding taken_of
returns-clause-taken c = keeps-coded c.args.self.now c.args.range c.requires.lacking
