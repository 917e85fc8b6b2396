use Rattle.std.proofs.Common.{◌≡◌, ℕ, ◌<◌, length}
use Rattle.miniheap.specs.Rows.{row_at, numbers_end}
use Rattle.miniheap.specs.declared.places.Row.{Row}
use Rattle.std.proofs.Common.{List}
use Rattle.miniheap.proofs.places.locate.Given as goal

pub record IsOnTheWay (rows : List Row) (last number mini : ℕ) : Type 0 where
  pub known : mini < length rows
  pub class_is : (row_at rows mini).class ≡ (row_at rows last).class
  pub to : number < numbers_end (row_at rows mini)

abbrev pub invariant-loop-mini : goal.invariant-loop-mini
invariant-loop-mini l = IsOnTheWay l.rows l.last l.number l.mini

abbrev pub decreases-loop-mini : goal.decreases-loop-mini
decreases-loop-mini l = l.mini
