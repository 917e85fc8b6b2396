use Rattle.std.proofs.Common.{rules, arith}
use Rattle.rv_memory.specs.Ranges.{byte_at}
use Rattle.rv_memory.specs.Spaces.{memory_of, taken_of}
use Rattle.rv_memory.proofs.Bytes.{held-from, held-below, held-at}
use Rattle.rv_memory.proofs.Mapped.{on_error}
use Rattle.rv_memory.proofs.Stored.{made-same, apart-range, order-range, code-held}
use Rattle.rv_memory.proofs.Taken.{keeps-range, not-taken, place-held, made-sure, takes-at}
use Rattle.rv_memory.proofs.space.Space.make_range.Goals as goal

pub invariant_of-self : goal.invariant_of-self
invariant_of-self c = record {
  apart = apart-range c.args.self.now c.in-Some.i c.index_mut-range.result.now.from 0 c.index_mut-range.result.now c.make.new.self (byte_at c.index_mut-range.result.now) (search rules) c.index_mut-range.ensures.value c.make.ensures.same;
  order = order-range c.args.self.now c.in-Some.i c.index_mut-range.result.now.from 0 c.index_mut-range.result.now c.make.new.self (byte_at c.index_mut-range.result.now) (search rules) c.index_mut-range.ensures.value c.make.ensures.same;
  code_runs = c.args.self.now.code_runs;
  code_fixed = c.args.self.now.code_fixed;
  code_made = c.args.self.now.code_made;
}

pub invariant_of-self-in-Some : goal.invariant_of-self-in-Some
invariant_of-self-in-Some c = record {
  apart = apart-range c.args.self.now c.in-Some.i c.index_mut-range.result.now.from 0 c.index_mut-range.result.now c.make.new.self (byte_at c.index_mut-range.result.now) (search rules) c.index_mut-range.ensures.value c.make.ensures.same;
  order = order-range c.args.self.now c.in-Some.i c.index_mut-range.result.now.from 0 c.index_mut-range.result.now c.make.new.self (byte_at c.index_mut-range.result.now) (search rules) c.index_mut-range.ensures.value c.make.ensures.same;
  code_runs = c.args.self.now.code_runs;
  code_fixed = c.args.self.now.code_fixed;
  code_made = c.args.self.now.code_made;
}

pub returns-in_err-make-in-Some-clause-memory : goal.returns-in_err-make-in-Some-clause-memory
unfolding memory_of
returns-in_err-make-in-Some-clause-memory c = made-same c.args.self.now c.in-Some.i c.index_mut-range.result.now c.make.new.self (search rules) c.index_mut-range.ensures.value c.make.ensures.same

pub returns-in_err-make-in-Some-clause-wanting : goal.returns-in_err-make-in-Some-clause-wanting
returns-in_err-make-in-Some-clause-wanting c = on_error c.from_residual.result (not-taken c.args.self.now c.in-Some.i c.args.addr c.index_mut-range.result.now (search rules) c.index_mut-range.ensures.value (place-held c.args.self.now.ranges.items c.in-Some.i c.args.addr c.index_mut-range.result.now c.index_mut-range.ensures.value c.in-Some.ensures.1) c.in_err-make-in-Some.ensures.wanting)

pub returns-in_err-make-in-Some-clause-taken : goal.returns-in_err-make-in-Some-clause-taken
unfolding taken_of
returns-in_err-make-in-Some-clause-taken c = keeps-range c.args.self.now c.in-Some.i c.index_mut-range.result.now.from 0 c.index_mut-range.result.now c.make.new.self (byte_at c.index_mut-range.result.now) (search rules) c.index_mut-range.ensures.value c.make.ensures.same

pub returns-in_ok-make-in-Some-clause-memory : goal.returns-in_ok-make-in-Some-clause-memory
unfolding memory_of
returns-in_ok-make-in-Some-clause-memory c = made-same c.args.self.now c.in-Some.i c.index_mut-range.result.now c.make.new.self (search rules) c.index_mut-range.ensures.value c.make.ensures.same

pub returns-in_ok-make-in-Some-clause-sure : goal.returns-in_ok-make-in-Some-clause-sure
unfolding taken_of
returns-in_ok-make-in-Some-clause-sure c = λ a low high.
    let held = place-held c.args.self.now.ranges.items c.in-Some.i c.args.addr c.index_mut-range.result.now c.index_mut-range.ensures.value c.in-Some.ensures.1 in
    made-sure c.args.self.now c.in-Some.i c.args.addr a c.index_mut-range.result.now.from 0 c.index_mut-range.result.now c.make.new.self (byte_at c.index_mut-range.result.now) (search rules) c.make.ensures.same held c.in_ok-make-in-Some.ensures.whole low (omega (arith, high, c.end.ensures))

pub returns-in_ok-make-in-Some-clause-taken : goal.returns-in_ok-make-in-Some-clause-taken
unfolding taken_of
returns-in_ok-make-in-Some-clause-taken c = keeps-range c.args.self.now c.in-Some.i c.index_mut-range.result.now.from 0 c.index_mut-range.result.now c.make.new.self (byte_at c.index_mut-range.result.now) (search rules) c.index_mut-range.ensures.value c.make.ensures.same

pub returns-in-None-clause-more : goal.returns-in-None-clause-more
returns-in-None-clause-more c =
    let missed = c.in-None.ensures in
    let held = code-held c.args.self.now c.args.addr missed c.requires.mapped in
    let below = held-below c.args.self.now.code c.args.addr held in
    omega (arith, c.end-in-None.ensures)

pub returns-in-None-clause-sure : goal.returns-in-None-clause-sure
returns-in-None-clause-sure c = λ a low high.
    let missed = c.in-None.ensures in
    let held = code-held c.args.self.now c.args.addr missed c.requires.mapped in
    let begins = held-from c.args.self.now.code c.args.addr held in
    takes-at c.args.self.now 0 a c.args.self.now.code (omega arith) c.args.self.now.code_made (held-at c.args.self.now.code a (omega arith) (omega (arith, c.end-in-None.ensures)))
