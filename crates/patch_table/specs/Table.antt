-- A patch table as three finite maps, its order and its join (docs/patches.md, "Tables", "Below and join").
use Rattle.std.specs.Prelude.{◌≡◌, ℕ, ◌≤◌, List, [], ◌∷◌, max, Option, Some, None, refl}
use Rattle.std.specs.Option.{unwrap_or}
use Rattle.std.specs.Ordering.{nat_cmp, ordering_then}
use Rattle.std.specs.declared.cmp.Ordering.{Ordering}
use Rattle.std.specs.FinMap.{FinMap, empty, get, insert, entries, code}
use Rattle.std.specs.Coded.{Coded, code_by, coded×, coded_ℕ}

-- pairs by their first number, and then by their second
abbrev pub pair_cmp : ℕ × ℕ → ℕ × ℕ → Ordering
pair_cmp a b = ordering_then (nat_cmp a.0 b.0) (nat_cmp a.1 b.1)

-- the pad and the front of an allocation site, and the deferral of an allocation site and a free site
pub record Table : Type 0 where
  pub pads : FinMap nat_cmp ℕ
  pub fronts : FinMap nat_cmp ℕ
  pub defers : FinMap pair_cmp ℕ

abbrev pub no_patches : Table
no_patches = record { pads = empty; fronts = empty; defers = empty }

abbrev pub only_pad : ℕ → ℕ → Table
only_pad site n = record { pads = insert empty site n; fronts = empty; defers = empty }

abbrev pub only_front : ℕ → ℕ → Table
only_front site n = record { pads = empty; fronts = insert empty site n; defers = empty }

abbrev pub only_defer : ℕ × ℕ → ℕ → Table
only_defer sites n = record { pads = empty; fronts = empty; defers = insert empty sites n }

-- what is absent is 0
abbrev pub value_at : {K : Type 0} {R : K → K → Ordering} → FinMap R ℕ → K → ℕ
value_at m k = unwrap_or (get m k) 0

-- the maximum is kept
abbrev pub raised : {K : Type 0} {R : K → K → Ordering} → FinMap R ℕ → K → ℕ → FinMap R ℕ
raised m k n = insert m k (max (value_at m k) n)

-- ---- the order

abbrev pub IsBelowMap : {K : Type 0} {R : K → K → Ordering} → FinMap R ℕ → FinMap R ℕ → Type 0
IsBelowMap {K = K} m n = (k : K) → value_at m k ≤ value_at n k

-- each entry of a is at most b's
pub record IsBelow (a b : Table) : Type 0 where
  pub pads : IsBelowMap a.pads b.pads
  pub fronts : IsBelowMap a.fronts b.fronts
  pub defers : IsBelowMap a.defers b.defers

-- ---- the join

-- the greater of two entries
abbrev pub greater : Option ℕ → Option ℕ → Option ℕ
greater None b = b
greater (Some x) None = Some x
greater (Some x) (Some y) = Some (max x y)

abbrev pub IsJoinMap : {K : Type 0} {R : K → K → Ordering} → FinMap R ℕ → FinMap R ℕ → FinMap R ℕ → Type 0
IsJoinMap {K = K} l m n = (k : K) → get n k ≡ greater (get l k) (get m k)

-- c has the greater entry of a and b at each key
pub record IsJoin (a b c : Table) : Type 0 where
  pub pads : IsJoinMap a.pads b.pads c.pads
  pub fronts : IsJoinMap a.fronts b.fronts c.fronts
  pub defers : IsJoinMap a.defers b.defers c.defers

abbrev pub raised_each : {K : Type 0} {R : K → K → Ordering} → FinMap R ℕ → List (K × ℕ) → FinMap R ℕ
raised_each m [] = m
raised_each m (e ∷ es) = raised_each (raised m e.0 e.1) es

-- m raised by every entry of n
unfoldable pub joined : {K : Type 0} {R : K → K → Ordering} → FinMap R ℕ → FinMap R ℕ → FinMap R ℕ
joined m n = raised_each m (entries n)

-- the one table that `IsJoin` allows
abbrev pub join : Table → Table → Table
join a b = record { pads = joined a.pads b.pads; fronts = joined a.fronts b.fronts; defers = joined a.defers b.defers }

-- a table is stored as its maps, one after the other
abbrev pub table_code : Coded Table
table_code = code_by (FinMap nat_cmp ℕ × (FinMap nat_cmp ℕ × FinMap pair_cmp ℕ)) (coded× (code coded_ℕ coded_ℕ) (coded× (code coded_ℕ coded_ℕ) (code (coded× coded_ℕ coded_ℕ) coded_ℕ))) (λ t. (t.pads, (t.fronts, t.defers))) (λ p. record { pads = p.0; fronts = p.1.0; defers = p.1.1 }) (λ _. refl)
