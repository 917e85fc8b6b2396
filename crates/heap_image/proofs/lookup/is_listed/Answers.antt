use Rattle.std.proofs.Common.{◌≡◌, ◌≤◌, ℕ, nat_lt, false, ◌∙◌, sym, length, arith}
use Rattle.std.proofs.lemmas.Bool.Decides.{nat_tests}
use Rattle.heap_image.proofs.Between.{there_at, not_there}
use Rattle.heap_image.proofs.lookup.is_listed.Goals as goal

pub returns-then-at-broken : goal.returns-then-at-broken
returns-then-at-broken c =
    rw c.from.ensures (sym (there_at c.args.broken.now c.args.addr c.count_below-at.result _ c.requires.rising c.if-at-broken.true c.count_below-at.ensures.below c.count_below-at.ensures.from))

not_less : (a b : ℕ) → b ≤ a → nat_lt a b ≡ false
not_less a b h = grind (arith, nat_tests)

pub returns-else-at-broken : goal.returns-else-at-broken
returns-else-at-broken c =
    not_less c.count_below-at.result (length c.args.broken.now) c.if-at-broken.false ∙ sym (not_there c.args.broken.now c.args.addr c.count_below-at.result c.if-at-broken.false c.count_below-at.ensures.below)
