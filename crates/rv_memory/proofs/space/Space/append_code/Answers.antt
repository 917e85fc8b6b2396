use Rattle.rv_memory.specs.Spaces.{memory_of, taken_of}
use Rattle.rv_memory.proofs.Joined.{Added, apart-after, runs-after, fixed-after, whole-after, memory-after, same-after, keeps-after}
use Rattle.rv_memory.proofs.space.Space.append_code.Goals as goal

pub invariant_of-self : goal.invariant_of-self
invariant_of-self c =
    let added : Added c.append.result c.args.self.now c.args.range.now c.append.new.self = (c.append.ensures.joined, c.append.ensures.kept) in
    record {
      apart = apart-after c.append.result c.args.self.now c.args.range.now c.append.new.self added c.requires.behind c.requires.unmapped;
      order = c.args.self.now.order;
      code_runs = runs-after c.append.result c.args.self.now c.args.range.now c.append.new.self added;
      code_fixed = fixed-after c.append.result c.args.self.now c.args.range.now c.append.new.self added;
      code_made = whole-after c.append.result c.args.self.now c.args.range.now c.append.new.self added;
    }

pub returns-clause-mapped : goal.returns-clause-mapped
unfolding memory_of
returns-clause-mapped c = memory-after c.append.result c.args.self.now c.args.range.now c.append.new.self (c.append.ensures.joined, c.append.ensures.kept) c.requires.behind c.requires.fixed c.requires.runs

pub returns-clause-refused : goal.returns-clause-refused
unfolding memory_of
returns-clause-refused c = same-after c.append.result c.args.self.now c.args.range.now c.append.new.self (c.append.ensures.joined, c.append.ensures.kept)

pub returns-clause-taken : goal.returns-clause-taken
unfolding taken_of
returns-clause-taken c = keeps-after c.append.result c.args.self.now c.args.range.now c.append.new.self (c.append.ensures.joined, c.append.ensures.kept)
