-- The rows of 64 slots: how many lie before one, and what stays where one is put.
use Rattle.std.proofs.Common.{◌≡◌, ◌≢◌, ℕ, w64, bit_or, zero, suc, ◌+◌, ◌-◌, ◌*◌, ◌/◌, ◌%◌, ◌^◌, ◌<◌, ◌≤◌, nat_eq, refl, ap, sym, ◌∙◌, subst, arith, Bool, true, false, cond, ◌⊎◌, inl, inr, List, [], length, get_or, set, Some, None}
use Rattle.std.specs.Prelude.{count_ones}
use Rattle.std.specs.Int.{bit_at}
use Rattle.std.specs.List.{slice_get, insert}
use Rattle.std.proofs.lemmas.Bool.{cases_Bool, cases_lt, eq-eqb, eqb-true}
use Rattle.std.proofs.lemmas.List.{get_or-set_same, get_or-set_other, length-set}
use Rattle.std.proofs.lemmas.List.Edits.{length-insert, get_or-insert_below, get_or-insert_at, get_or-insert_above}
use Rattle.std.proofs.lemmas.Nat.{shr_split, mod-pow-add, ones_cat, pow_pos, mod_below, or_lt}
use Rattle.std.proofs.lemmas.Nat.Bits.{bit_at-zero, bit_at-lt, bit_at_set_same, bit_at_set_other}
use Rattle.std.proofs.lemmas.Option.{slice_get-get_or, slice_get_read}
use Rattle.exact_heap.specs.declared.rows.Row.{Row}
use Rattle.exact_heap.specs.RowStore.{RowChunk, no_rows, has_row, rank, row_in, Puts}

pub empty_row : (n : ℕ) → row_in no_rows n ≡ None
empty_row n = ap (λ (x : ℕ). cond (nat_eq x 1) (slice_get [] (rank 0 n)) None) (bit_at-zero n)

-- ---- how many lie before a slot

ones_bit : (b : ℕ) → b < 2 → count_ones b ≡ b
unfolding lib.Count.ones
ones_bit zero h = refl
ones_bit (suc zero) h = refl
ones_bit (suc (suc b)) h = absurd (let z : ⊥ = omega (arith, h) in z)

rank-suc : (marks n : ℕ) → rank marks (suc n) ≡ bit_at marks n + rank marks n
rank-suc marks n =
    ap (rank marks) (let e : suc n ≡ 1 + n = omega arith in e) ∙ ap count_ones (mod-pow-add marks 1 n) ∙ ones_cat n (bit_at marks n) (marks % 2 ^ n) (mod_below marks (2 ^ n) (pow_pos n))
    ∙ ap (λ (x : ℕ). x + rank marks n) (ones_bit (bit_at marks n) (bit_at-lt marks n))

rank-zero : (marks : ℕ) → rank marks 0 ≡ 0
rank-zero marks = ap count_ones (let e : marks % 1 ≡ 0 = omega arith in e) ∙ ones_bit 0 (omega arith)

rank_rises : (marks n k : ℕ) → rank marks n ≤ rank marks (n + k)
rank_rises marks n zero = let e : n + 0 ≡ n = omega arith in omega (arith, ap (rank marks) e)
rank_rises marks n (suc k) = let e : n + suc k ≡ suc (n + k) = omega arith in omega (arith, rank_rises marks n k, rank-suc marks (n + k), ap (rank marks) e)

pub rank_within : (marks n : ℕ) → rank marks n ≤ count_ones marks
rank_within marks n =
    let e : count_ones marks ≡ count_ones (marks / 2 ^ n) + rank marks n = ap count_ones (sym (shr_split marks n)) ∙ ones_cat n (marks / 2 ^ n) (marks % 2 ^ n) (mod_below marks (2 ^ n) (pow_pos n)) in
    omega (arith, e)

rank_all : (marks : ℕ) → marks < 2 ^ 64 → rank marks 64 ≡ count_ones marks
rank_all marks h = ap count_ones (let e : marks % 2 ^ 64 ≡ marks = omega (arith, h) in e)

-- a slot that has a row comes before each later one
rank_before : (marks n other : ℕ) → bit_at marks n ≡ 1 → n < other → rank marks n < rank marks other
rank_before marks n other b h =
    let e : suc n + (other - suc n) ≡ other = omega (arith, h) in
    omega (arith, rank-suc marks n, b, rank_rises marks (suc n) (other - suc n), ap (rank marks) e)

pub rank_below : (marks n : ℕ) → bit_at marks n ≡ 1 → rank marks n < count_ones marks
rank_below marks n b = omega (arith, rank_before marks n (suc n) b (omega arith), rank_within marks (suc n))

-- ---- one bit more

-- a bit was set
pub record IsMarked (old new n : ℕ) : Type 0 where
  pub before : bit_at old n ≡ 0
  pub after : bit_at new n ≡ 1
  pub others : (i : ℕ) → i ≢ n → bit_at new i ≡ bit_at old i

rank_same : (old new n : ℕ) → ((i : ℕ) → i < n → bit_at new i ≡ bit_at old i) → rank new n ≡ rank old n
rank_same old new zero h = rank-zero new ∙ sym (rank-zero old)
rank_same old new (suc n) h = omega (arith, rank-suc old n, rank-suc new n, h n (omega arith), rank_same old new n (λ i k. h i (omega (arith, k))))

rank_upto : (old new n : ℕ) → IsMarked old new n → (k : ℕ) → k ≤ n → rank new k ≡ rank old k
rank_upto old new n m k h = rank_same old new k (λ i l. m.others i (λ e. absurd (let z : ⊥ = omega (arith, h, l, e) in z)))

rank_past : (old new n : ℕ) → IsMarked old new n → (k : ℕ) → rank new (suc n + k) ≡ rank old (suc n + k) + 1
rank_past old new n m zero =
    let e : suc n + 0 ≡ suc n = omega arith in
    omega (arith, rank-suc old n, rank-suc new n, m.before, m.after, rank_upto old new n m n (omega arith), ap (rank old) e, ap (rank new) e)
rank_past old new n m (suc k) =
    let e : suc n + suc k ≡ suc (suc n + k) = omega arith in
    omega (arith, rank-suc old (suc n + k), rank-suc new (suc n + k), m.others (suc n + k) (λ e. absurd (let z : ⊥ = omega (arith, e) in z)), rank_past old new n m k, ap (rank old) e, ap (rank new) e)

rank_beyond : (old new n : ℕ) → IsMarked old new n → (k : ℕ) → n < k → rank new k ≡ rank old k + 1
rank_beyond old new n m k h =
    let e : suc n + (k - suc n) ≡ k = omega (arith, h) in
    subst (λ (x : ℕ). rank new x ≡ rank old x + 1) e (rank_past old new n m (k - suc n))

pub one_more : (old new n : ℕ) → IsMarked old new n → old < 2 ^ 64 → new < 2 ^ 64 → n < 64 → count_ones new ≡ count_ones old + 1
one_more old new n m h k l = omega (arith, rank_beyond old new n m 64 l, rank_all old h, rank_all new k)

-- ---- whether a slot has a row

has_bit : (marks n : ℕ) → has_row marks n ≡ true → bit_at marks n ≡ 1
has_bit marks n e = eqb-true (bit_at marks n) 1 e

pub no_bit : (marks n : ℕ) → has_row marks n ≡ false → bit_at marks n ≡ 0
no_bit marks n e = at (bit_at marks n) (bit_at-lt marks n) e
  where
    at : (b : ℕ) → b < 2 → nat_eq b 1 ≡ false → b ≡ 0
    at zero h e = refl
    at (suc zero) h e = absurd (cc)
    at (suc (suc b)) h e = absurd (let z : ⊥ = omega (arith, h) in z)

pub row_there : (marks : ℕ) (rows : List Row) (n : ℕ) → has_row marks n ≡ true → row_in (record { marks = marks; rows = rows }) n ≡ slice_get rows (rank marks n)
row_there marks rows n e = ap (λ (b : Bool). cond b (slice_get rows (rank marks n)) None) e

pub row_missing : (marks : ℕ) (rows : List Row) (n : ℕ) → has_row marks n ≡ false → row_in (record { marks = marks; rows = rows }) n ≡ None
row_missing marks rows n e = ap (λ (b : Bool). cond b (slice_get rows (rank marks n)) None) e

-- ---- a row is put

-- in place of another
pub replaced : (marks : ℕ) (rows : List Row) (n : ℕ) (row : Row) → length rows ≡ count_ones marks → has_row marks n ≡ true
    → Puts (record { marks = marks; rows = rows }) (record { marks = marks; rows = set rows (rank marks n) row }) n row
replaced marks rows n row long has = record { own = own; others = λ other l differ. at other l differ (cases_Bool (has_row marks other)) }
  where
    rows' : List Row
    rows' = set rows (rank marks n) row

    long' : length rows' ≡ count_ones marks
    long' = length-set rows (rank marks n) row ∙ long

    inside : (i : ℕ) → has_row marks i ≡ true → rank marks i < count_ones marks
    inside i e = rank_below marks i (has_bit marks i e)

    own : row_in (record { marks = marks; rows = rows' }) n ≡ Some row
    own =
        row_there marks rows' n has ∙ slice_get-get_or rows' (rank marks n) row (omega (arith, long', inside n has))
        ∙ ap (λ (r : Row). Some r) (get_or-set_same rows (rank marks n) row row (omega (arith, long, inside n has)))

    apart : (i : ℕ) → i ≢ n → has_row marks i ≡ true → rank marks i ≢ rank marks n
    apart i differ e = elim (cases_lt i n) [
      | inl l ↦ λ same. absurd (let z : ⊥ = omega (arith, same, rank_before marks i n (has_bit marks i e) l) in z)
      | inr l ↦ λ same. differ (at' i differ e l same)
    ]
      where
        at' : (i : ℕ) → i ≢ n → has_row marks i ≡ true → n ≤ i → rank marks i ≡ rank marks n → i ≡ n
        at' i differ e l same = elim (cases_lt n i) [
          | inl m ↦ absurd (let z : ⊥ = omega (arith, same, rank_before marks n i (has_bit marks n has) m) in z)
          | inr m ↦ omega (arith, l, m)
        ]

    at : (i : ℕ) → i < 64 → i ≢ n → (has_row marks i ≡ true) ⊎ (has_row marks i ≡ false) → row_in (record { marks = marks; rows = rows' }) i ≡ row_in (record { marks = marks; rows = rows }) i
    at i l differ (inl e) =
        row_there marks rows' i e ∙ slice_get-get_or rows' (rank marks i) row (omega (arith, long', inside i e))
        ∙ ap (λ (r : Row). Some r) (get_or-set_other rows (rank marks n) (rank marks i) row row (apart i differ e))
        ∙ sym (slice_get-get_or rows (rank marks i) row (omega (arith, long, inside i e))) ∙ sym (row_there marks rows i e)
    at i l differ (inr e) = row_missing marks rows' i e ∙ sym (row_missing marks rows i e)

-- between its neighbours'
pub added : (old new : ℕ) (rows : List Row) (n : ℕ) (row : Row) → length rows ≡ count_ones old → IsMarked old new n
    → Puts (record { marks = old; rows = rows }) (record { marks = new; rows = insert rows (rank old n) row }) n row
added old new rows n row long m = record { own = own; others = λ other l differ. at other l differ (cases_Bool (has_row old other)) }
  where
    rows' : List Row
    rows' = insert rows (rank old n) row

    fits : rank old n ≤ length rows
    fits = omega (arith, rank_within old n, long)

    long' : length rows' ≡ count_ones old + 1
    long' = let e = length-insert rows (rank old n) row fits in omega (arith, e, long)

    own : row_in (record { marks = new; rows = rows' }) n ≡ Some row
    own =
        row_there new rows' n (eq-eqb (bit_at new n) 1 m.after) ∙ ap (slice_get rows') (rank_upto old new n m n (omega arith))
        ∙ slice_get-get_or rows' (rank old n) row (omega (arith, long', fits, long)) ∙ ap (λ (r : Row). Some r) (get_or-insert_at rows (rank old n) row row fits)

    same_has : (i : ℕ) → i ≢ n → has_row new i ≡ has_row old i
    same_has i differ = ap (λ (b : ℕ). nat_eq b 1) (m.others i differ)

    inside : (i : ℕ) → has_row old i ≡ true → rank old i < length rows
    inside i e = omega (arith, rank_below old i (has_bit old i e), long)

    there : (i : ℕ) → i ≢ n → has_row old i ≡ true → slice_get rows' (rank new i) ≡ slice_get rows (rank old i)
    there i differ e = elim (cases_lt i n) [
      | inl b ↦
          let before : rank old i < rank old n = rank_before old i n (has_bit old i e) b in
          ap (slice_get rows') (rank_upto old new n m i (omega (arith, b))) ∙ slice_get-get_or rows' (rank old i) row (omega (arith, long', long, inside i e))
          ∙ ap (λ (r : Row). Some r) (get_or-insert_below rows (rank old n) row row (rank old i) before fits)
          ∙ sym (slice_get-get_or rows (rank old i) row (inside i e))
      | inr b ↦
          let past : n < i = strictly i b differ in
          let behind : rank old n ≤ rank old i = rises n i past in
          ap (slice_get rows') (rank_beyond old new n m i past) ∙ slice_get-get_or rows' (rank old i + 1) row (omega (arith, long', long, inside i e))
          ∙ ap (λ (r : Row). Some r) (get_or-insert_above rows (rank old n) row row (rank old i) behind fits)
          ∙ sym (slice_get-get_or rows (rank old i) row (inside i e))
    ]
      where
        strictly : (i : ℕ) → n ≤ i → i ≢ n → n < i
        strictly i b differ = elim (cases_lt n i) [
          | inl c ↦ c
          | inr c ↦ absurd (differ (let z : i ≡ n = omega (arith, b, c) in z))
        ]

        rises : (a b : ℕ) → a < b → rank old a ≤ rank old b
        rises a b c = let e : a + (b - a) ≡ b = omega (arith, c) in omega (arith, rank_rises old a (b - a), ap (rank old) e)

    at : (i : ℕ) → i < 64 → i ≢ n → (has_row old i ≡ true) ⊎ (has_row old i ≡ false) → row_in (record { marks = new; rows = rows' }) i ≡ row_in (record { marks = old; rows = rows }) i
    at i l differ (inl e) = row_there new rows' i (same_has i differ ∙ e) ∙ there i differ e ∙ sym (row_there old rows i e)
    at i l differ (inr e) = row_missing new rows' i (same_has i differ ∙ e) ∙ sym (row_missing old rows i e)

-- ---- the row that is read

pub rank_known : (marks : ℕ) (rows : List Row) (x : RowChunk) (n at : ℕ) → record { marks = marks; rows = rows } ≡ x → length rows ≡ count_ones marks → has_row x.marks n ≡ true → at ≡ rank x.marks n → at < length rows
rank_known marks rows x n at e long has is =
    let same : at ≡ rank marks n = is ∙ ap (λ (y : RowChunk). rank y.marks n) (sym e) in
    omega (arith, same, long, rank_below marks n (has_bit marks n (ap (λ (y : RowChunk). has_row y.marks n) e ∙ has)))

pub row_read : (marks : ℕ) (rows : List Row) (x : RowChunk) (n at : ℕ) (row : Row) → record { marks = marks; rows = rows } ≡ x → length rows ≡ count_ones marks → has_row x.marks n ≡ true → at ≡ rank x.marks n → row ≡ get_or rows at row → Some row ≡ row_in x n
row_read marks rows x n at row e long has is read =
    sym (slice_get_read rows (length rows) at row refl (rank_known marks rows x n at e long has is) read) ∙ ap (slice_get rows) (is ∙ ap (λ (y : RowChunk). rank y.marks n) (sym e))
    ∙ sym (row_there marks rows n (ap (λ (y : RowChunk). has_row y.marks n) e ∙ has)) ∙ ap (λ (y : RowChunk). row_in y n) e

pub row_known : (marks : ℕ) (rows : List Row) (x : RowChunk) (n : ℕ) → record { marks = marks; rows = rows } ≡ x → has_row x.marks n ≡ false → row_in x n ≡ None
row_known marks rows x n e has = sym (ap (λ (y : RowChunk). row_in y n) e) ∙ row_missing marks rows n (ap (λ (y : RowChunk). has_row y.marks n) e ∙ has)

-- what a row leaves that was put in place of another
pub row_replaced : (marks : ℕ) (rows : List Row) (x : RowChunk) (n at : ℕ) (row : Row) → record { marks = marks; rows = rows } ≡ x → length rows ≡ count_ones marks → has_row x.marks n ≡ true → at ≡ rank x.marks n
    → Puts x (record { marks = marks; rows = set rows at row }) n row
row_replaced marks rows x n at row e long has is =
    subst (λ (k : ℕ). Puts x (record { marks = marks; rows = set rows k row }) n row) (ap (λ (y : RowChunk). rank y.marks n) e ∙ sym is)
    (subst (λ (y : RowChunk). Puts y (record { marks = marks; rows = set rows (rank marks n) row }) n row) e (replaced marks rows n row long (ap (λ (y : RowChunk). has_row y.marks n) e ∙ has)))

-- and what one leaves that was added
pub row_added : (old new : ℕ) (rows rows' : List Row) (x : RowChunk) (n at : ℕ) (row : Row) → record { marks = old; rows = rows } ≡ x → length rows ≡ count_ones old → IsMarked old new n → at ≡ rank x.marks n → rows' ≡ insert rows at row
    → Puts x (record { marks = new; rows = rows' }) n row
row_added old new rows rows' x n at row e long m is more =
    subst (λ (ys : List Row). Puts x (record { marks = new; rows = ys }) n row) (ap (λ (k : ℕ). insert rows k row) (ap (λ (y : RowChunk). rank y.marks n) e ∙ sym is) ∙ sym more)
    (subst (λ (y : RowChunk). Puts y (record { marks = new; rows = insert rows (rank old n) row }) n row) e (added old new rows n row long m))

pub marked : (old n : ℕ) (x : RowChunk) (rows : List Row) → record { marks = old; rows = rows } ≡ x → n < 64 → has_row x.marks n ≡ false → IsMarked old (bit_or old (1 * 2 ^ n % 2 ^ 64)) n
marked old n x rows e h none = record {
  before = no_bit old n (ap (λ (y : RowChunk). has_row y.marks n) e ∙ none);
  after = bit_at_set_same w64 old n h;
  others = λ i differ. bit_at_set_other w64 old n h i differ;
}

pub still_marked : (old n : ℕ) → old < 2 ^ 64 → bit_or old (1 * 2 ^ n % 2 ^ 64) < 2 ^ 64
still_marked old n h = or_lt 64 old (1 * 2 ^ n % 2 ^ 64) h (mod_below (1 * 2 ^ n) (2 ^ 64) (omega arith))

pub still_rows : (old n at : ℕ) (x : RowChunk) (rows rows' : List Row) (row : Row) → record { marks = old; rows = rows } ≡ x → length rows ≡ count_ones old → old < 2 ^ 64 → n < 64 → has_row x.marks n ≡ false → at ≡ rank x.marks n → rows' ≡ insert rows at row
    → length rows' ≡ count_ones (bit_or old (1 * 2 ^ n % 2 ^ 64))
still_rows old n at x rows rows' row e long small h none is more =
    let same : at ≡ rank old n = is ∙ ap (λ (y : RowChunk). rank y.marks n) (sym e) in
    let len : length (insert rows at row) ≡ length rows + 1 = length-insert rows at row (omega (arith, same, long, rank_within old n)) in
    ap length more ∙ len ∙ ap (λ (k : ℕ). k + 1) long ∙ sym (one_more old (bit_or old (1 * 2 ^ n % 2 ^ 64)) n (marked old n x rows e h none) small (still_marked old n small) h)
