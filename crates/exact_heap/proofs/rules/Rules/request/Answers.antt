use Rattle.std.proofs.Common.{◌≡◌, ℕ, ◌^◌, ◌≤◌, refl, subst, sym, ◌∙◌, ap, arith, rules}
use Rattle.std.proofs.Math.Nat.{pow-le-pow_right}
use Rattle.std.specs.Int.{next_multiple_of}
use Rattle.exact_heap.specs.Placing.{front_in}
use Rattle.exact_heap.specs.Stands.{rules_from}
use Rattle.exact_heap.specs.Lawful.{IsAlignment}
use Rattle.exact_heap.specs.declared.rules.Rules.{Rules}
use Rattle.exact_heap.proofs.LawsPlacing.{front_fits}
use Rattle.exact_heap.proofs.rules.Rules.request.Goals as goal

pub unreachable-requires-in-None : goal.unreachable-requires-in-None
unreachable-requires-in-None c =
    let reach : c.in-Some.reach ≤ 21 = c.in-Some.ensures.least.least 21 (omega arith) (omega (arith, c.requires.size, c.pad_of.ensures.limit)) in
    let bytes : 2 ^ c.in-Some.reach ≤ 2 ^ 21 = pow-le-pow_right {n = 2} (omega arith) reach in
    omega (arith, bytes, c.slot_bytes.ensures, c.max.ensures, c.requires.align.high, c.next_multiple_of-front.ensures.upper_bound, c.front.ensures.limit, c.in-None.ensures.none.0 refl)

bounded : (p : Rules) (align site front rounded : ℕ) → IsAlignment align → front ≡ front_in (rules_from p) site → rounded ≡ next_multiple_of front align → rounded ≤ 2 ^ 16
bounded p align site front rounded ok e f = subst (λ (n : ℕ). n ≤ 2 ^ 16) (sym (f ∙ ap (λ (n : ℕ). next_multiple_of n align) e)) (front_fits (rules_from p) align site ok).1

pub returns-clause-fits : goal.returns-clause-fits
returns-clause-fits c = record {
  class = search rules;
  room = record {
    fits = search rules;
    size_fits = search rules;
    aligned = search rules;
    alignment_fits = search rules;
    front_aligned = search rules;
    front_fits = bounded c.args.self.now c.args.align c.args.site c.front.result c.next_multiple_of-front.result c.requires.align c.front.ensures.value c.next_multiple_of-front.ensures.value;
  };
}

pub returns-clause-room : goal.returns-clause-room
returns-clause-room c = (returns-clause-fits c).room
