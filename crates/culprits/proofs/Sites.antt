-- How many sites a table can have.
use Rattle.std.proofs.Common.{ℕ, ◌+◌, ◌^◌, ◌<◌, ◌≤◌, Bool, true, false, ◌&&◌, T, length, List, [], ◌∷◌, sym, subst, arith}
use Rattle.std.specs.List.{AllByRecursion}
use Rattle.std.specs.Ordering.{nat_cmp, is_lt}
use Rattle.std.specs.FinMap.{FinMap, entries, entries_sorted, is_sorted, len, len-entries}
use Rattle.std.specs.FinMap.Entries.{below_all}
use Rattle.std.proofs.lemmas.Bool.Decides.{nat_tests}
use Rattle.patch_table.specs.Table.{Table}
use Rattle.patch_table.specs.Limits.{InLimits, IsPad, IsFront}

first : (a b : Bool) → T (a && b) → T a
first true b p = tt
first false b p = p

second : (a b : Bool) → T (a && b) → T b
second true b p = p
second false b p = absurd p

less : (a b : ℕ) → T (is_lt (nat_cmp a b)) → a < b
less a b h = grind (arith, nat_tests)

span : (n k : ℕ) (es : List (ℕ × ℕ)) → T (below_all nat_cmp k es) → T (is_sorted nat_cmp es) → AllByRecursion (λ e. e.0 < n) es → k < n → k + length es < n
span n k [] above sorted below fits = omega arith
span n k (e ∷ es) above sorted below fits =
    let rest : e.0 + length es < n = span n e.0 es (first (below_all nat_cmp e.0 es) (is_sorted nat_cmp es) sorted) (second (below_all nat_cmp e.0 es) (is_sorted nat_cmp es) sorted) below.1 below.0 in
    let next : k < e.0 = less k e.0 (first (is_lt (nat_cmp k e.0)) (below_all nat_cmp k es) above) in
    omega arith

count : (n : ℕ) (es : List (ℕ × ℕ)) → T (is_sorted nat_cmp es) → AllByRecursion (λ e. e.0 < n) es → length es ≤ n
count n [] sorted below = omega arith
count n (e ∷ es) sorted below =
    let rest : e.0 + length es < n = span n e.0 es (first (below_all nat_cmp e.0 es) (is_sorted nat_cmp es) sorted) (second (below_all nat_cmp e.0 es) (is_sorted nat_cmp es) sorted) below.1 below.0 in
    omega arith

keys : (P : ℕ × ℕ → Type 0) → ((e : ℕ × ℕ) → P e → e.0 < 2 ^ 32) → (es : List (ℕ × ℕ)) → AllByRecursion P es → AllByRecursion (λ e. e.0 < 2 ^ 32) es
keys P below [] all = tt
keys P below (e ∷ es) all = (below e all.0, keys P below es all.1)

sites : (P : ℕ × ℕ → Type 0) → ((e : ℕ × ℕ) → P e → e.0 < 2 ^ 32) → (m : FinMap nat_cmp ℕ) → AllByRecursion P (entries m) → len m ≤ 2 ^ 32
sites P below m all = subst (λ n. n ≤ 2 ^ 32) (sym (len-entries m)) (count (2 ^ 32) (entries m) (entries_sorted m) (keys P below (entries m) all))

-- a table has no more sites than there are
pub sites_fit : (t : Table) → InLimits t → len t.pads + len t.fronts < 2 ^ 64
sites_fit t l =
    let pads : len t.pads ≤ 2 ^ 32 = sites IsPad (λ e p. p.0) t.pads l.pads in
    let fronts : len t.fronts ≤ 2 ^ 32 = sites IsFront (λ e p. p.0) t.fronts l.fronts in
    omega arith
