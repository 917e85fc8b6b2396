use Rattle.std.proofs.Common.{◌≡◌, ◌<◌, ◌≤◌, ◌+◌, ℕ, arith}
use Rattle.ex_io.specs.Tape.{most_kept}
use Rattle.layout_run.specs.Runs.{ReachesLimit}
use Rattle.layout_run.specs.Whole.{run_until}
use Rattle.layout_run.proofs.SoFar.{places-rise, places-within}
use Rattle.layout_run.proofs.laws.places_in_the_input_rise.Goals as goal

pub returns-clause-places : goal.returns-clause-places
returns-clause-places c = places-rise

pub returns-clause-within : goal.returns-clause-within
returns-clause-within c = places-within

one : (made other before after : ℕ) → (made < other → after ≤ before) → before ≤ most_kept → most_kept < after → other ≤ made
one made other before after rise within past = grind arith

pub returns-clause-limit : goal.returns-clause-limit
returns-clause-limit c program args settings input stop_at budget made other here there =
    let run = run_until program args settings input stop_at in
    let first = one made other (run other).place (run (made + 1)).place (λ less. places-rise program args settings input stop_at (made + 1) other (omega (arith, less))) there.within here.past in
    let second = one other made (run made).place (run (other + 1)).place (λ less. places-rise program args settings input stop_at (other + 1) made (omega (arith, less))) here.within there.past in
    omega (arith, first, second)
