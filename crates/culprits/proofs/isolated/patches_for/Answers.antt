use Rattle.std.proofs.Common.{ℕ, ap, arith}
use Rattle.culprits.proofs.Joined.{is_joined}
use Rattle.culprits.proofs.Sites.{sites_fit}
use Rattle.culprits.proofs.isolated.patches_for.Goals as goal

pub overflow_add-result : goal.overflow_add-result
overflow_add-result c =
    let fits = sites_fit c.in_ok-found.found c.keep_limits.ensures in
    let pads = ap (λ (r : ℕ × ℕ × ℕ). r.0) c.counts-pads.ensures in
    let fronts = ap (λ (r : ℕ × ℕ × ℕ). r.1) c.counts-pads.ensures in
    omega (arith, fits, pads, fronts)

pub returns : goal.returns
returns c = is_joined c.args.past.now c.args.before.now c.args.late.now c.args.old.now c.in_ok-found.found c.in_ok-patches.patches c.join.new.self c.counts-pads.result c.in_ok-found.ensures c.in_ok-patches.ensures c.in_ok-join.ensures.ok c.counts-pads.ensures
