-- Lists in order, by their tests.
use Rattle.std.proofs.Common.{◌≡◌, Bool, true, false, ◌&&◌, List, [], ◌∷◌, ◌++◌, refl}
use Rattle.std.specs.Prelude.{T}
use Rattle.std.specs.Ordering.{is_lt}
use Rattle.std.specs.declared.cmp.Ordering.{Ordering}
use Rattle.std.specs.declared.cmp.Ordering.TheVariants.{Less, Equal, Greater}
use Rattle.std.specs.FinMap.{is_sorted}
use Rattle.std.specs.FinMap.Entries.{below_all}
use Rattle.patch_table.specs.Grammar.{AllBelow}

pub first : (a b : Bool) → T (a && b) → T a
first true b p = tt
first false b p = p

pub second : (a b : Bool) → T (a && b) → T b
second true b p = p
second false b p = absurd p

pub less : (o : Ordering) → T (is_lt o) → o ≡ Less
less Less p = refl
less Equal p = absurd p
less Greater p = absurd p

below_later : {K X : Type 0} (R : K → K → Ordering) (k : K) (before : List (K × X)) (e : K × X) (rest : List (K × X)) → T (below_all R k (before ++ e ∷ rest)) → R k e.0 ≡ Less
below_later R k [] e rest h = less (R k e.0) (first _ _ h)
below_later R k (b ∷ before) e rest h = below_later R k before e rest (second _ _ h)

-- what stands before an entry is below it
pub before_below : {K X : Type 0} (R : K → K → Ordering) (before : List (K × X)) (e : K × X) (rest : List (K × X)) → T (is_sorted R (before ++ e ∷ rest)) → AllBelow R before e.0
before_below R [] e rest h = tt
before_below R (b ∷ before) e rest h = (below_later R b.0 before e rest (first _ _ h), before_below R before e rest (second _ _ h))
