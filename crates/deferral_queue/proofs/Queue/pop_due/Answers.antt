use Rattle.std.proofs.Common.{ap, sym, ◌∙◌, ◌<◌, ◌≤◌, subst, refl, arith, All}
use Rattle.std.proofs.lemmas.Bool.{false≢true}
use Rattle.std.proofs.lemmas.Grind.{common_steps}
use Rattle.std.proofs.lemmas.List.Elements.{All-head}
use Rattle.deferral_queue.specs.Order.{IsNoLater}
use Rattle.deferral_queue.proofs.Least.{dues_popped, none_earlier, all_later}
use Rattle.deferral_queue.proofs.Queue.pop_due.Goals as goal

pub returns-then-clock-next-clause-none : goal.returns-then-clock-next-clause-none
returns-then-clock-next-clause-none c = (
  λ e. subst (λ v. All (λ d. c.args.clock < d.due) v.dues) c.self.view_is
      (all_later c.args.clock c.in_ok-next.next.now.0 _ (none_earlier c.in_ok-next.next.now _ (c.in_ok-next.ensures.greatest c.self.invariant.ordered)) c.if-clock-next.true),
  λ all. refl,
)

pub returns-clause-first : goal.returns-clause-first
returns-clause-first c =
    ap (λ v. v.dues) (sym c.self.view_is) ∙ dues_popped _ _ _ c.in_ok-due.ensures.permutation (c.in_ok-due.ensures.below_top c.self.invariant.ordered)

pub returns-clause-none : goal.returns-clause-none
returns-clause-none c = (
  λ e. absurd (false≢true (sym e)),
  λ all.
      let due : c.in_ok-due.field-0.0.due ≤ c.args.clock = grind (arith, common_steps) in
      let later = All-head (λ d. c.args.clock < d.due) c.in_ok-due.field-0.0 _ (subst (All (λ d. c.args.clock < d.due)) (returns-clause-first c) all) in
      absurd (omega arith),
)

pub returns-clause-least : goal.returns-clause-least
returns-clause-least c =
    subst (λ v. All (IsNoLater c.in_ok-due.field-0.0) v.dues) c.self.view_is
    (none_earlier c.in_ok-due.field-0 _ (c.in_ok-due.ensures.heap_order c.self.invariant.ordered).1)
