use Rattle.std.proofs.Common.{◌≡◌, [], ◌≤◌, ◌<◌, ◌+◌, ◌-◌, ℕ, List, true, false, length, get_or, nat_le, arith, ap, rules, ◌⊎◌, inl, inr, ◌∷◌}
use Rattle.std.proofs.lemmas.Bool.{le-leb, leb-true, leb-false, cases_lt}
use Rattle.std.proofs.lemmas.List.{get_or_default}
use Rattle.std.proofs.lemmas.List.Sorted.{IsPartitionPoint-from_clause}
use Rattle.std.specs.List.Sorted.{IsPartitionedBy, IsPartitionPoint}
use Rattle.miniheap.specs.declared.places.Row.{Row}
use Rattle.miniheap.specs.Rows.{row_at, BasesRise}
use Rattle.miniheap.proofs.places.find.Goals as goal

base_at : (rows : List Row) (i : ℕ) (d : Row) → i < length rows → (row_at rows i).base ≡ (get_or rows i d).base
base_at rows i d h = ap (λ (r : Row). r.base) (get_or_default rows i (record { class = 0; base = 0; slots = 0; first = 0; prev = 0 }) d h)

partitioned : (rows : List Row) (addr : ℕ) → BasesRise rows → IsPartitionedBy (λ (r : Row). nat_le r.base addr) rows
partitioned rows addr rise i j d p h e =
    le-leb (get_or rows i d).base addr
    (let a : (get_or rows j d).base ≤ addr = leb-true (get_or rows j d).base addr e in
    omega (arith, base_at rows i d (omega arith), base_at rows j d h, rise i j p (omega (arith))))

-- the row before the point, where the first row passes
record IsBefore (rows : List Row) (addr point : ℕ) : Type 0 where
  some : 1 ≤ point
  from : (row_at rows (point - 1)).base ≤ addr
  to : point - 1 + 1 < length rows → addr < (row_at rows (point - 1 + 1)).base

before : (rows : List Row) (addr point : ℕ) → 0 < length rows → (row_at rows 0).base ≤ addr → point ≤ length rows
    → IsPartitionPoint (λ (r : Row). nat_le r.base addr ≡ true) (λ (r : Row). nat_le r.base addr ≡ false) rows point → ((d : Row) → IsBefore rows addr point)
before rows addr point has first bound p d = record { some = above; from = (let a : 1 ≤ point = above in below (point - 1) (omega arith) (omega arith)); to = λ h. next (point - 1 + 1) (omega arith) h }
  where
    next : (i : ℕ) → point ≤ i → i < length rows → addr < (row_at rows i).base
    next i lo hi =
        let h : i < length rows = omega (arith) in
        omega (arith, base_at rows i d h, leb-false (get_or rows i d).base addr (p.1 i d lo h))

    below : (i : ℕ) → i < point → i < length rows → (row_at rows i).base ≤ addr
    below i hi h = omega (arith, base_at rows i d h, leb-true (get_or rows i d).base addr (p.0 i d (omega arith) hi))

    above : 1 ≤ point
    above = at (cases_lt 0 point)
      where
        at : (0 < point) ⊎ (point ≤ 0) → 1 ≤ point
        at (inl h) = omega arith
        at (inr h) = absurd (omega (arith, next 0 h has))

-- a row is there, so that a default can be named
a_row : (rows : List Row) → 0 < length rows → Row
a_row [] h = absurd (omega arith)
a_row (r ∷ rows) h = r

pub overflow_sub-result : goal.overflow_sub-result
overflow_sub-result c =
    let p = IsPartitionPoint-from_clause (λ (r : Row). nat_le r.base c.args.addr) c.args.rows.now c.partition_point.result c.partition_point.ensures.partitioned (partitioned c.args.rows.now c.args.addr c.requires.rising) (λ a r q k. search rules) in
    (before c.args.rows.now c.args.addr c.partition_point.result c.requires.some c.requires.from c.partition_point.ensures.bound p (a_row c.args.rows.now c.requires.some)).some

pub returns-clause-from : goal.returns-clause-from
returns-clause-from c =
    let p = IsPartitionPoint-from_clause (λ (r : Row). nat_le r.base c.args.addr) c.args.rows.now c.partition_point.result c.partition_point.ensures.partitioned (partitioned c.args.rows.now c.args.addr c.requires.rising) (λ a r q k. search rules) in
    (before c.args.rows.now c.args.addr c.partition_point.result c.requires.some c.requires.from c.partition_point.ensures.bound p (a_row c.args.rows.now c.requires.some)).from

pub returns-clause-to : goal.returns-clause-to
returns-clause-to c =
    let p = IsPartitionPoint-from_clause (λ (r : Row). nat_le r.base c.args.addr) c.args.rows.now c.partition_point.result c.partition_point.ensures.partitioned (partitioned c.args.rows.now c.args.addr c.requires.rising) (λ a r q k. search rules) in
    (before c.args.rows.now c.args.addr c.partition_point.result c.requires.some c.requires.from c.partition_point.ensures.bound p (a_row c.args.rows.now c.requires.some)).to
