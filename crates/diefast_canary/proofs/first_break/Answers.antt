use Rattle.std.proofs.Common.{length, get_or, refl, ap, sym, ◌∙◌, arith}
use Rattle.std.proofs.lemmas.Bool.{false≢true}
use Rattle.diefast_canary.specs.Canary.{is_broken_at}
use Rattle.diefast_canary.proofs.Canary.{canary_bytes_by_place, get_or-canary_bytes, is_broken_at-whole, is_broken_at-broken}
use Rattle.diefast_canary.proofs.Ranges.{find_range_none, find_range_first}
use Rattle.diefast_canary.proofs.first_break.Goals as goal

pub returns-then-byte-expected-clause-first : goal.returns-then-byte-expected-clause-first
returns-then-byte-expected-clause-first c =
    sym (find_range_first (is_broken_at c.args.word c.args.phase c.args.bytes.now) 0 (length c.args.bytes.now) c.loop-i.i (omega arith) (omega arith)
    (λ k h. is_broken_at-whole _ _ _ _ (c.loop-i.invariant k h))
    (is_broken_at-broken _ _ _ _ (λ e. c.if-byte-expected.true (e ∙ sym c.expected.ensures))))

pub returns-then-byte-expected-clause-none : goal.returns-then-byte-expected-clause-none
returns-then-byte-expected-clause-none c = (
  λ e. absurd (false≢true (sym e)),
  λ e. absurd (c.if-byte-expected.true (ap (λ bs. get_or bs c.loop-i.i 0) e ∙ get_or-canary_bytes c.args.word c.args.phase (length c.args.bytes.now) c.loop-i.i c.loop-i-test.true ∙ sym c.expected.ensures)),
)

pub returns-clause-first : goal.returns-clause-first
returns-clause-first c =
    sym (find_range_none (is_broken_at c.args.word c.args.phase c.args.bytes.now) 0 (length c.args.bytes.now)
    (λ k h. is_broken_at-whole _ _ _ _ (c.loop-i.invariant k (omega arith))))

pub returns-clause-none : goal.returns-clause-none
returns-clause-none c = (λ e. canary_bytes_by_place _ _ _ (λ k h. c.loop-i.invariant k (omega arith)), λ e. refl)
