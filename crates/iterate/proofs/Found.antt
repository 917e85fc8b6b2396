-- What the isolators find calls for one table.
use Rattle.std.proofs.Common.{◌≡◌, List, sym, subst}
use Rattle.culprits.specs.declared.found.Dangling.{Dangling}
use Rattle.culprits.specs.declared.found.Overflow.{Overflow}
use Rattle.culprits.specs.declared.found.Underflow.{Underflow}
use Rattle.culprits.specs.declared.isolated.Isolated.{Isolated}
use Rattle.culprits.specs.Isolated.{IsJoined}
use Rattle.culprits.specs.Laws.{JoinsOne}
use Rattle.patch_table.specs.Table.{Table}
use Rattle.heap_image.specs.Agreement.{AreComparable}
use Rattle.heap_image.specs.Snapshot.{Snapshot}
use Rattle.overflow_isolator.specs.Laws.{ImagesHaveOneList}
use Rattle.overflow_isolator.specs.Overflows.{AreOverflowsOf, AreUnderflowsOf}
use Rattle.dangling_isolator.specs.Danglings.{AreDanglings}
use Rattle.dangling_isolator.specs.Laws.{ImagesHaveOneList as HaveOneOfDanglings}
use Rattle.iterate.specs.Isolated.{IsIsolated, IsolatesOne}

pub is_isolated : (images : List Snapshot) (old : Table) (past : List Overflow) (before : List Underflow) (late : List Dangling) (past' : List Overflow) (before' : List Underflow) (late' : List Dangling) (isolated : Isolated)
    → AreComparable images → AreOverflowsOf images past → AreUnderflowsOf images before → AreDanglings images late → past' ≡ past → before' ≡ before → late' ≡ late → IsJoined past' before' late' old isolated → IsIsolated images old isolated
is_isolated images old past before late past' before' late' isolated comparable p b l ep eb el j = record {
  comparable = comparable;
  found = record {
    overflows = past';
    are_overflows = subst (AreOverflowsOf images) (sym ep) p;
    underflows = before';
    are_underflows = subst (AreUnderflowsOf images) (sym eb) b;
    danglings = late';
    are_danglings = subst (AreDanglings images) (sym el) l;
    joined = j;
  };
}

pub isolates_one : ImagesHaveOneList → HaveOneOfDanglings → JoinsOne → IsolatesOne
isolates_one found late one images old a b p q =
    let overflows : p.found.overflows ≡ q.found.overflows = found.overflows images p.found.overflows q.found.overflows p.found.are_overflows q.found.are_overflows in
    let underflows : p.found.underflows ≡ q.found.underflows = found.underflows images p.found.underflows q.found.underflows p.found.are_underflows q.found.are_underflows in
    let danglings : p.found.danglings ≡ q.found.danglings = late images p.found.danglings q.found.danglings p.found.are_danglings q.found.are_danglings in
    one q.found.overflows q.found.underflows q.found.danglings old a b
    (subst (λ d. IsJoined q.found.overflows q.found.underflows d old a) danglings
    (subst (λ u. IsJoined q.found.overflows u p.found.danglings old a) underflows
    (subst (λ o. IsJoined o p.found.underflows p.found.danglings old a) overflows p.found.joined)))
    q.found.joined
