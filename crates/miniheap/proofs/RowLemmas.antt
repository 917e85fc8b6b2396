-- What the rows of places say one by one.
use Rattle.std.proofs.Common.{◌≡◌, ℕ, zero, suc, ◌+◌, ◌-◌, ◌*◌, ◌<◌, ◌≤◌, ◌^◌, refl, ap, sym, ◌∙◌, subst, Bool, true, false, cond, ◌⊎◌, inl, inr, arith, nat_le, List, [], ◌∷◌, ◌++◌, length, get_or, take, map, max}
use Rattle.std.proofs.lemmas.Bool.{cases_lt}
use Rattle.std.proofs.lemmas.List.{length-map, get_or-map, take-take, take_all}
use Rattle.std.proofs.lemmas.List.Sums.{sum_by-cons, sum_by-take-le, sum_by_more}
use Rattle.std.proofs.lemmas.Nat.{pow_pos, mul-le}
use Rattle.std.proofs.Math.Nat.{pow-le-pow_right}
use Rattle.size_class.specs.Classes.{nth_slots, nth_bytes, first_slots}
use Rattle.miniheap.specs.declared.places.Row.{Row}
use Rattle.miniheap.specs.Layout.{Mini, mini_bytes, mini_end, heap_from, heap_limit, count_of, nth_mini, minis_from, minis, mini_at, bytes_of}
use Rattle.miniheap.specs.Rows.{row_at, row_mini, AreRows, BasesRise}
use Rattle.miniheap.proofs.LayoutLemmas.{minis_chain, chain_base, chain_end}

pub mini_of_row : (cs : List ℕ) (rows : List Row) → map row_mini rows ≡ minis cs → (i : ℕ) → i < length rows → mini_at (minis cs) i ≡ row_mini (row_at rows i)
mini_of_row cs rows e i h =
    ap (λ (ms : List Mini). mini_at ms i) (sym e) ∙ get_or-map row_mini rows i (record { class = 0; base = 0; slots = 0; first = 0; prev = 0 }) (record { class = 0; base = 0; slots = 0 }) h

pub rows_length : (cs : List ℕ) (rows : List Row) → map row_mini rows ≡ minis cs → length (minis cs) ≡ length rows
rows_length cs rows e = ap length (sym e) ∙ length-map rows row_mini

-- ---- classes and counts

minis_from_length : (earlier : List ℕ) (base : ℕ) (cs : List ℕ) → length (minis_from earlier base cs) ≡ length cs
minis_from_length earlier base [] = refl
minis_from_length earlier base (c ∷ cs) = ap suc (minis_from_length (earlier ++ c ∷ []) (mini_end (nth_mini c base (count_of c earlier))) cs)

-- there is a miniheap for each class
pub classes_length : (cs : List ℕ) (rows : List Row) → map row_mini rows ≡ minis cs → length cs ≡ length rows
classes_length cs rows e = sym (minis_from_length [] heap_from cs) ∙ rows_length cs rows e

minis_from_class : (earlier : List ℕ) (base : ℕ) (cs : List ℕ) (i : ℕ) → i < length (minis_from earlier base cs) → ((mini_at (minis_from earlier base cs) i).class ≡ get_or cs i 0) × (i < length cs)
minis_from_class earlier base [] i h = absurd (omega arith)
minis_from_class earlier base (c ∷ cs) zero h = (refl, omega arith)
minis_from_class earlier base (c ∷ cs) (suc i) h =
    let r = minis_from_class (earlier ++ c ∷ []) (mini_end (nth_mini c base (count_of c earlier))) cs i (omega arith) in (r.0, omega (arith, r.1))

first_some : (c : ℕ) → 4 ≤ first_slots c
unfolding first_slots
first_some c = at (nat_le c 16)
  where
    at : (t : Bool) → 4 ≤ cond t (max 4 (2 ^ (16 - c))) 4
    at true = omega arith
    at false = omega arith

pub slots_some : (c n : ℕ) → 0 < nth_slots c n
slots_some c n = let s : 1 * 1 ≤ first_slots c * 2 ^ n = mul-le 1 1 (first_slots c) (2 ^ n) (omega (arith, first_some c)) (omega (arith, pow_pos n)) in omega arith

some_bytes : (c n : ℕ) → 1 ≤ nth_bytes c n
some_bytes c n = let t : 1 * 1 ≤ nth_slots c n * 2 ^ c = mul-le 1 1 (nth_slots c n) (2 ^ c) (omega (arith, slots_some c n)) (omega (arith, pow_pos c)) in omega arith

minis_from_few : (earlier : List ℕ) (base : ℕ) (cs : List ℕ) → length (minis_from earlier base cs) ≤ bytes_of (minis_from earlier base cs)
minis_from_few earlier base [] = omega arith
minis_from_few earlier base (c ∷ cs) =
    let m : Mini = nth_mini c base (count_of c earlier) in
    omega (arith, minis_from_few (earlier ++ c ∷ []) (mini_end m) cs, sum_by-cons mini_bytes m (minis_from (earlier ++ c ∷ []) (mini_end m) cs), some_bytes c (count_of c earlier))

pub minis_few : (cs : List ℕ) → length (minis cs) ≤ bytes_of (minis cs)
minis_few cs = minis_from_few [] heap_from cs

-- so many miniheaps of a class have so many bytes
pub few_members : (c n : ℕ) → nth_bytes c n ≤ 2 ^ 31 → n ≤ 31
few_members c n h = at (cases_lt n 32)
  where
    at : (n < 32) ⊎ (32 ≤ n) → n ≤ 31
    at (inl p) = omega arith
    at (inr p) =
        let a : 1 * 2 ^ 32 ≤ first_slots c * 2 ^ n = mul-le 1 (2 ^ 32) (first_slots c) (2 ^ n) (omega (arith, first_some c)) (pow-le-pow_right {n = 2} (omega arith) p) in
        let b : 2 ^ 32 * 1 ≤ nth_slots c n * 2 ^ c = mul-le (2 ^ 32) 1 (nth_slots c n) (2 ^ c) (omega arith) (omega (arith, pow_pos c)) in absurd (omega arith)

-- ---- one row

pub record RowFacts (cs : List ℕ) (rows : List Row) (i : ℕ) : Type 0 where
  pub known : i < length (minis cs)
  pub class_low : 4 ≤ (row_at rows i).class
  pub class_high : (row_at rows i).class ≤ 22
  pub starts : heap_from ≤ (row_at rows i).base
  pub base_is : (row_at rows i).base ≡ heap_from + bytes_of (take i (minis cs))
  pub ends : (row_at rows i).base + (row_at rows i).slots * 2 ^ (row_at rows i).class ≤ heap_from + bytes_of (minis cs)
  pub limit : bytes_of (minis cs) ≤ heap_limit
  pub mini_is : mini_at (minis cs) i ≡ row_mini (row_at rows i)
  pub few : i < heap_limit

pub row_facts : (cs : List ℕ) (rows : List Row) (end : ℕ) (members last slots : List ℕ) → AreRows cs rows end members last slots → (i : ℕ) → i < length rows → RowFacts cs rows i
row_facts cs rows end members last slots ok i h =
    let m : mini_at (minis cs) i ≡ row_mini (row_at rows i) = mini_of_row cs rows ok.minis_are i h in
    let known : i < length (minis cs) = omega (arith, rows_length cs rows ok.minis_are) in
    let r = minis_from_class [] heap_from cs i known in
    let e : get_or cs i 0 ≡ (row_at rows i).class = sym r.0 ∙ ap (λ (x : Mini). x.class) m in
    let c = ok.in_classes i 0 r.1 in
    let b : (row_at rows i).base ≡ heap_from + bytes_of (take i (minis cs)) = ap (λ (x : Mini). x.base) (sym m) ∙ chain_base heap_from (minis cs) i (minis_chain cs) known in
    record {
      known = known;
      class_low = subst (λ (x : ℕ). 4 ≤ x) e c.0;
      class_high = subst (λ (x : ℕ). x ≤ 22) e c.1;
      starts = omega (arith, b);
      base_is = b;
      ends = subst (λ (x : Mini). mini_end x ≤ heap_from + bytes_of (minis cs)) m (chain_end heap_from (minis cs) i (minis_chain cs) known);
      limit = ok.in_limit;
      mini_is = m;
      few = omega (arith, known, minis_from_few [] heap_from cs, ok.in_limit);
    }

pub bases_rise : (cs : List ℕ) (rows : List Row) (end : ℕ) (members last slots : List ℕ) → AreRows cs rows end members last slots → BasesRise rows
bases_rise cs rows end members last slots ok i j p h =
    let a : (row_at rows i).base ≡ heap_from + bytes_of (take i (minis cs)) = (row_facts cs rows end members last slots ok i (omega arith)).base_is in
    let b : (row_at rows j).base ≡ heap_from + bytes_of (take j (minis cs)) = (row_facts cs rows end members last slots ok j h).base_is in
    let t : bytes_of (take i (take j (minis cs))) ≤ bytes_of (take j (minis cs)) = sum_by-take-le mini_bytes (take j (minis cs)) i in
    let u : bytes_of (take i (take j (minis cs))) ≡ bytes_of (take i (minis cs)) = ap bytes_of (take-take i j (minis cs) p) in omega (arith, a, b, t, u)

-- where row i ends the next one begins
pub row_ends : (cs : List ℕ) (rows : List Row) (end : ℕ) (members last slots : List ℕ) → AreRows cs rows end members last slots → (i a : ℕ) → i < length rows
    → a < end → (i + 1 < length rows → a < (row_at rows (i + 1)).base) → a < (row_at rows i).base + (row_at rows i).slots * 2 ^ (row_at rows i).class
row_ends cs rows end members last slots ok i a h below next = at (cases_lt (i + 1) (length rows))
  where
    f : RowFacts cs rows i
    f = row_facts cs rows end members last slots ok i h

    whole : heap_from + bytes_of (take (i + 1) (minis cs)) ≡ (row_at rows i).base + (row_at rows i).slots * 2 ^ (row_at rows i).class
    whole =
        ap (λ (x : ℕ). heap_from + x) (sum_by_more mini_bytes (minis cs) i (record { class = 0; base = 0; slots = 0 }) f.known)
        ∙ ap (λ (x : Mini). heap_from + (bytes_of (take i (minis cs)) + mini_bytes x)) f.mini_is ∙ (let e : heap_from + (bytes_of (take i (minis cs)) + mini_bytes (row_mini (row_at rows i))) ≡ (row_at rows i).base + mini_bytes (row_mini (row_at rows i)) = omega (arith, f.base_is) in e)

    at : (i + 1 < length rows) ⊎ (length rows ≤ i + 1) → a < (row_at rows i).base + (row_at rows i).slots * 2 ^ (row_at rows i).class
    at (inl p) =
        let b : (row_at rows (i + 1)).base ≡ heap_from + bytes_of (take (i + 1) (minis cs)) = (row_facts cs rows end members last slots ok (i + 1) p).base_is in omega (arith, next p, b, whole)
    at (inr p) =
        let t : bytes_of (take (i + 1) (minis cs)) ≡ bytes_of (minis cs) = ap bytes_of (take_all (i + 1) (minis cs) (omega (arith, rows_length cs rows ok.minis_are))) in omega (arith, below, ok.end_is, t, whole)
