-- What the methods of places need of their fields.
use Rattle.std.proofs.Common.{◌≡◌, ℕ, zero, suc, ◌+◌, ◌-◌, ◌*◌, ◌/◌, ◌%◌, ◌<◌, ◌≤◌, ◌^◌, refl, ap, sym, ◌∙◌, subst, Bool, false, cond, ◌&&◌, nat_le, nat_lt, ◌⊎◌, inl, inr, arith, List, [], ◌∷◌, length, get_or, take, map, Some, None}
use Rattle.std.proofs.lemmas.Bool.{le-leb, lt-ltb, lt-leb, le-ltb, and_right, and_left}
use Rattle.std.proofs.lemmas.Nat.{pow_pos, div_below, mul-le, row_fits}
use Rattle.std.proofs.Math.Nat.{mod-eq_of_lt}
use Rattle.std.proofs.lemmas.List.{get_or_read, get_or_default}
use Rattle.std.proofs.lemmas.List.Sums.{sum_by-cons}
use Rattle.miniheap.specs.declared.places.Row.{Row}
use Rattle.miniheap.specs.declared.places.Places.TheInside.{Inside}
use Rattle.miniheap.specs.declared.place.SlotPlace.{SlotPlace}
use Rattle.miniheap.specs.Layout.{Mini, mini_bytes, mini_end, heap_from, minis, mini_at, bytes_of, class_slots}
use Rattle.miniheap.specs.Places.{end_behind, place_in, nth_place, place_from, place_at, IsPlaceOf}
use Rattle.miniheap.specs.Rows.{row_at, row_mini, IsLast, AreRows, are_rows, BasesRise}
use Rattle.miniheap.proofs.LayoutLemmas.{Chain, chain_base, minis_chain, chain_end, slot_of_class}
use Rattle.miniheap.proofs.LawLemmas.{slot_holds}
use Rattle.miniheap.proofs.RowLemmas.{rows_length, RowFacts, row_facts, bases_rise, row_ends}

-- ---- places by address

place_from_at : (a j base : ℕ) (ms : List Mini) (i : ℕ) → Chain base ms → i < length ms → (mini_at ms i).base ≤ a → a < mini_end (mini_at ms i)
    → place_from a j ms ≡ Some (place_in (j + i) (mini_at ms i) ((a - (mini_at ms i).base) / 2 ^ (mini_at ms i).class))
place_from_at a j base [] i ch h lo hi = absurd (omega arith)
place_from_at a j base (m ∷ ms) zero ch h lo hi =
    ap (λ (b : Bool). cond (b && nat_lt a (mini_end m)) (Some (place_in j m ((a - m.base) / 2 ^ m.class))) (place_from a (suc j) ms)) (le-leb m.base a lo)
    ∙ ap (λ (b : Bool). cond b (Some (place_in j m ((a - m.base) / 2 ^ m.class))) (place_from a (suc j) ms)) (lt-ltb a (mini_end m) hi)
    ∙ ap (λ (x : ℕ). Some (place_in x m ((a - m.base) / 2 ^ m.class))) (let e : j ≡ j + 0 = omega arith in e)
place_from_at a j base (m ∷ ms) (suc i) ch h lo hi =
    let b : (mini_at ms i).base ≡ mini_end m + bytes_of (take i ms) = chain_base (mini_end m) ms i ch.1 (omega arith) in
    ap (λ (b : Bool). cond b (Some (place_in j m ((a - m.base) / 2 ^ m.class))) (place_from a (suc j) ms)) (and_right (nat_le m.base a) (nat_lt a (mini_end m)) (le-ltb a (mini_end m) (omega (arith, b, lo))))
    ∙ place_from_at a (suc j) (mini_end m) ms i ch.1 (omega arith) lo hi
    ∙ ap (λ (x : ℕ). Some (place_in x (mini_at ms i) ((a - (mini_at ms i).base) / 2 ^ (mini_at ms i).class))) (let e : suc j + i ≡ j + suc i = omega arith in e)

pub place_from_none : (a j base : ℕ) (ms : List Mini) → Chain base ms → (a < base) ⊎ (base + bytes_of ms ≤ a) → place_from a j ms ≡ None
place_from_none a j base [] ch h = refl
place_from_none a j base (m ∷ ms) ch h =
    ap (λ (b : Bool). cond b (Some (place_in j m ((a - m.base) / 2 ^ m.class))) (place_from a (suc j) ms)) (out h)
    ∙ place_from_none a (suc j) (mini_end m) ms ch.1 (on h)
  where
    out : (a < base) ⊎ (base + bytes_of (m ∷ ms) ≤ a) → (nat_le m.base a && nat_lt a (mini_end m)) ≡ false
    out (inl k) = and_left (nat_le m.base a) (nat_lt a (mini_end m)) (lt-leb m.base a (omega (arith, ch.0)))
    out (inr k) = and_right (nat_le m.base a) (nat_lt a (mini_end m)) (le-ltb a (mini_end m) (omega (arith, ch.0, sum_by-cons mini_bytes m ms)))

    on : (a < base) ⊎ (base + bytes_of (m ∷ ms) ≤ a) → (a < mini_end m) ⊎ (mini_end m + bytes_of ms ≤ a)
    on (inl k) = inl (omega (arith, ch.0))
    on (inr k) = inr (omega (arith, ch.0, sum_by-cons mini_bytes m ms))

pub nth_place_of : (cs : List ℕ) (i n : ℕ) → i < length (minis cs) → n < (mini_at (minis cs) i).slots → IsPlaceOf cs (nth_place cs i n)
nth_place_of cs i n h k = record { mini_known = h; nth_known = k; class_is = refl; address_is = refl }

pub place_is_nth : (cs : List ℕ) (p : SlotPlace) → IsPlaceOf cs p → p ≡ nth_place cs p.mini p.nth
place_is_nth cs p k =
    ap (λ (x : ℕ). let q : SlotPlace = record { addr = x; class = p.class; mini = p.mini; nth = p.nth } in q) k.address_is
    ∙ ap (λ (x : ℕ). let q : SlotPlace = record { addr = (mini_at (minis cs) p.mini).base + p.nth * 2 ^ x; class = x; mini = p.mini; nth = p.nth } in q) k.class_is

-- ---- what the fields say

abbrev pub AreRowsOf : Inside → List ℕ → Type 0
AreRowsOf g cs = AreRows cs g.rows.items g.end g.tally.members g.tally.last g.tally.slots

pub rows_are : (g : Inside) → are_rows g → (cs : List ℕ) → g.classes.items ≡ cs → AreRowsOf g cs
rows_are g ok cs v = subst (AreRowsOf g) v ok

pub facts : (g : Inside) (cs : List ℕ) → AreRowsOf g cs → (i : ℕ) → i < length g.rows.items → RowFacts cs g.rows.items i
facts g cs ok i h = row_facts cs g.rows.items g.end g.tally.members g.tally.last g.tally.slots ok i h

-- a row that was read
pub record IsRead (cs : List ℕ) (rows : List Row) (i : ℕ) (r : Row) : Type 0 where
  pub known : i < length rows
  pub row_is : row_at rows i ≡ r
  pub mini_is : mini_at (minis cs) i ≡ row_mini r
  pub facts : RowFacts cs rows i

pub is_read : (g : Inside) (cs : List ℕ) → AreRowsOf g cs → (i : ℕ) → i < length (minis cs) → (r : Row) → r ≡ get_or g.rows.items i r → IsRead cs g.rows.items i r
is_read g cs ok i h r e =
    let known : i < length g.rows.items = omega (arith, h, rows_length cs g.rows.items ok.minis_are) in
    let f = facts g cs ok i known in
    let l : row_at g.rows.items i ≡ r = sym (get_or_read g.rows.items i r known e (record { class = 0; base = 0; slots = 0; first = 0; prev = 0 })) in
    record { known = known; row_is = l; mini_is = f.mini_is ∙ ap row_mini l; facts = f }

-- the slot of that number in a row fits, and so does the number after it
pub record Fits (r : Row) (i n : ℕ) : Type 0 where
  pub class_small : r.class < 32
  pub shifted : n * 2 ^ r.class < 2 ^ 32
  pub added : r.base + n * 2 ^ r.class < 2 ^ 32
  pub few : i < 2 ^ 32
  pub next : n + 1 < 2 ^ 32

pub fits : (g : Inside) (cs : List ℕ) → AreRowsOf g cs → (i n : ℕ) → i < length (minis cs) → n < (mini_at (minis cs) i).slots → (r : Row) → r ≡ get_or g.rows.items i r → Fits r i n
fits g cs ok i n h k r e =
    let d = is_read g cs ok i h r e in
    let f = d.facts in
    let below : n < r.slots = subst (λ (m : Mini). n < m.slots) d.mini_is k in
    let high : r.class ≤ 22 = subst (λ (x : Row). x.class ≤ 22) d.row_is f.class_high in
    let ends : r.base + r.slots * 2 ^ r.class ≤ heap_from + bytes_of (minis cs) = subst (λ (x : Row). x.base + x.slots * 2 ^ x.class ≤ heap_from + bytes_of (minis cs)) d.row_is f.ends in
    let row : n * 2 ^ r.class + 2 ^ r.class ≤ r.slots * 2 ^ r.class = row_fits n (2 ^ r.class) r.slots (2 ^ r.class) below (omega arith) in
    let many : r.slots * 1 ≤ r.slots * 2 ^ r.class = mul-le r.slots 1 r.slots (2 ^ r.class) (omega arith) (omega (arith, pow_pos r.class)) in
    record {
      class_small = omega (arith, high);
      shifted = omega (arith, f.limit, ends, row);
      added = omega (arith, f.limit, ends, row);
      few = omega (arith, f.few);
      next = omega (arith, f.limit, ends, many, below);
    }

-- what is read there is the slot's place
pub place_read : (g : Inside) (cs : List ℕ) → AreRowsOf g cs → (i n : ℕ) → i < length (minis cs) → n < (mini_at (minis cs) i).slots → (r : Row) → r ≡ get_or g.rows.items i r
    → ◌≡◌ {A = SlotPlace} (record { addr = r.base + n * 2 ^ r.class % 2 ^ 32; class = r.class; mini = i; nth = n }) (nth_place cs i n)
place_read g cs ok i n h k r e =
    ap (λ (x : ℕ). let p : SlotPlace = record { addr = r.base + x; class = r.class; mini = i; nth = n } in p) (mod-eq_of_lt (fits g cs ok i n h k r e).shifted)
    ∙ ap (λ (m : Mini). place_in i m n) (sym (is_read g cs ok i h r e).mini_is)

-- a slot's number leaves room for the next one
pub next_fits : (g : Inside) (cs : List ℕ) → AreRowsOf g cs → (i n : ℕ) → i < length (minis cs) → n < (mini_at (minis cs) i).slots → n + 1 < 2 ^ 32
next_fits g cs ok i n h k =
    let known : i < length g.rows.items = omega (arith, h, rows_length cs g.rows.items ok.minis_are) in
    let here = row_at g.rows.items i in
    (fits g cs ok i n h k here (get_or_default g.rows.items i (record { class = 0; base = 0; slots = 0; first = 0; prev = 0 }) here known)).next

-- ---- methods

pub outside : (g : Inside) (cs : List ℕ) → AreRowsOf g cs → (a : ℕ) → (a < heap_from) ⊎ (g.end ≤ a) → place_at cs a ≡ None
outside g cs ok a h = place_from_none a 0 heap_from (minis cs) (minis_chain cs) (at h)
  where
    at : (a < heap_from) ⊎ (g.end ≤ a) → (a < heap_from) ⊎ (heap_from + bytes_of (minis cs) ≤ a)
    at (inl p) = inl p
    at (inr p) = inr (omega (arith, ok.end_is))

pub some_rows : (g : Inside) (cs : List ℕ) → AreRowsOf g cs → (a : ℕ) → heap_from ≤ a → a < g.end → 0 < length g.rows.items
some_rows g cs ok a lo hi = at g.rows.items ok.minis_are
  where
    at : (rows : List Row) → map row_mini rows ≡ minis cs → 0 < length rows
    at [] e = let z : 0 ≡ bytes_of (minis cs) = ap bytes_of e in absurd (omega (arith, ok.end_is, z))
    at (r ∷ rows) e = omega arith

pub first_base : (g : Inside) (cs : List ℕ) → AreRowsOf g cs → 0 < length g.rows.items → (row_at g.rows.items 0).base ≡ heap_from
first_base g cs ok h = omega (arith, (facts g cs ok 0 h).base_is)

pub rising : (g : Inside) (cs : List ℕ) → AreRowsOf g cs → BasesRise g.rows.items
rising g cs ok = bases_rise cs g.rows.items g.end g.tally.members g.tally.last g.tally.slots ok

-- the place of an address in row i, of which row r was read for its base and row t for its class
pub record IsIn (cs : List ℕ) (a i : ℕ) (r t : Row) : Type 0 where
  pub class_small : t.class < 32
  pub mini_known : i < length (minis cs)
  pub nth_known : (a - r.base) / 2 ^ t.class < (mini_at (minis cs) i).slots
  pub found : place_at cs a ≡ Some (nth_place cs i ((a - r.base) / 2 ^ t.class))
  pub class_in : (4 ≤ (mini_at (minis cs) i).class) × ((mini_at (minis cs) i).class ≤ 22)
  pub inside : ((nth_place cs i ((a - r.base) / 2 ^ t.class)).addr ≤ a) × (a < (nth_place cs i ((a - r.base) / 2 ^ t.class)).addr + 2 ^ (mini_at (minis cs) i).class)
  pub within : (heap_from ≤ (nth_place cs i ((a - r.base) / 2 ^ t.class)).addr) × ((nth_place cs i ((a - r.base) / 2 ^ t.class)).addr + 2 ^ (mini_at (minis cs) i).class ≤ end_behind cs)

pub is_in : (g : Inside) (cs : List ℕ) → AreRowsOf g cs → (a i : ℕ) → a < g.end → (rows : List Row) → rows ≡ g.rows.items → i < length rows → (row_at rows i).base ≤ a
    → (i + 1 < length rows → a < (row_at rows (i + 1)).base) → (r t : Row) → r ≡ get_or g.rows.items i r → t ≡ get_or g.rows.items i t → IsIn cs a i r t
is_in g cs ok a i hi rows same h lo next r t e f =
    let k : i < length g.rows.items = subst (λ (x : List Row). i < length x) same h in
    let lo' : (row_at g.rows.items i).base ≤ a = subst (λ (x : List Row). (row_at x i).base ≤ a) same lo in
    let next' : i + 1 < length g.rows.items → a < (row_at g.rows.items (i + 1)).base = subst (λ (x : List Row). i + 1 < length x → a < (row_at x (i + 1)).base) same next in
    let m : Mini = mini_at (minis cs) i in
    let q = facts g cs ok i k in
    let read = is_read g cs ok i q.known r e in
    let again = is_read g cs ok i q.known t f in
    let b : r.base ≡ m.base = sym (ap (λ (x : Mini). x.base) read.mini_is) in
    let c : t.class ≡ m.class = sym (ap (λ (x : Mini). x.class) again.mini_is) in
    let below : a < (row_at g.rows.items i).base + (row_at g.rows.items i).slots * 2 ^ (row_at g.rows.items i).class = row_ends cs g.rows.items g.end g.tally.members g.tally.last g.tally.slots ok i a k hi next' in
    let ends : a < mini_end m = subst (λ (x : Mini). a < mini_end x) (sym q.mini_is) below in
    let from : m.base ≤ a = subst (λ (x : Mini). x.base ≤ a) (sym q.mini_is) lo' in
    let known : (a - m.base) / 2 ^ m.class < m.slots = div_below (a - m.base) (2 ^ m.class) m.slots (pow_pos m.class) (omega (arith, ends, from)) in
    let n : (a - r.base) / 2 ^ t.class ≡ (a - m.base) / 2 ^ m.class = ap (λ (x : ℕ). (a - x) / 2 ^ t.class) b ∙ ap (λ (x : ℕ). (a - m.base) / 2 ^ x) c in
    let holds = slot_holds m a from ends in
    let last : mini_end m ≤ heap_from + bytes_of (minis cs) = chain_end heap_from (minis cs) i (minis_chain cs) q.known in
    let start : heap_from ≤ m.base = subst (λ (x : Mini). heap_from ≤ x.base) (sym q.mini_is) q.starts in
    let high : m.class ≤ 22 = subst (λ (x : Mini). x.class ≤ 22) (sym q.mini_is) q.class_high in
    let at : (nth_place cs i ((a - r.base) / 2 ^ t.class)).addr ≡ m.base + (a - m.base) / 2 ^ m.class * 2 ^ m.class = ap (λ (x : ℕ). m.base + x * 2 ^ m.class) n in
    record {
      class_small = omega (arith, c, high);
      mini_known = q.known;
      nth_known = subst (λ (x : ℕ). x < m.slots) (sym n) known;
      found =
          place_from_at a 0 heap_from (minis cs) i (minis_chain cs) q.known from ends
          ∙ ap (λ (x : ℕ). Some (place_in x m ((a - m.base) / 2 ^ m.class))) (let z : 0 + i ≡ i = omega arith in z)
          ∙ ap (λ (x : ℕ). Some (place_in i m x)) (sym n);
      class_in = (subst (λ (x : Mini). 4 ≤ x.class) (sym q.mini_is) q.class_low, high);
      inside = (omega (arith, at, holds.0), omega (arith, at, holds.1));
      within = (omega (arith, at, start), omega (arith, at, holds.2, last));
    }

-- ---- places by number in their class

pub record IsNth (cs : List ℕ) (c k i n : ℕ) : Type 0 where
  pub mini_known : i < length (minis cs)
  pub nth_known : n < (mini_at (minis cs) i).slots
  pub address_is : (nth_place cs i n).addr ≡ get_or (class_slots c (minis cs)) k 0
  pub class_is : (mini_at (minis cs) i).class ≡ c

-- the last row of a class that has a slot of that number
pub last_of : (g : Inside) (cs : List ℕ) → AreRowsOf g cs → (c k : ℕ) → 4 ≤ c → c ≤ 22 → k < length (class_slots c (minis cs)) → IsLast g.rows.items c (get_or g.tally.last c 0) (length (class_slots c (minis cs)))
last_of g cs ok c k lo hi h =
    let t = ok.tallies c lo hi in
    subst (λ (n : ℕ). IsLast g.rows.items c (get_or g.tally.last c 0) n) t.slots_are (t.last_is (omega (arith, t.slots_are, h)))

pub is_nth : (g : Inside) (cs : List ℕ) → AreRowsOf g cs → (c k i : ℕ) → 4 ≤ c → c ≤ 22 → k < length (class_slots c (minis cs)) → (rows : List Row) → rows ≡ g.rows.items → i < length rows
    → (row_at rows i).class ≡ (row_at rows (get_or g.tally.last c 0)).class → (row_at rows i).first ≤ k → k < (row_at rows i).first + (row_at rows i).slots → (r : Row) → r ≡ get_or g.rows.items i r
    → IsNth cs c k i (k - r.first)
is_nth g cs ok c k i low high h rows e known class from to r p = record {
  mini_known = f.known;
  nth_known = below;
  address_is = sym whole.1 ∙ ap (λ (x : ℕ). get_or (class_slots c (minis cs)) x 0) same;
  class_is = class_of;
}
  where
    here : i < length g.rows.items
    here = subst (λ (x : List Row). i < length x) e known

    f : RowFacts cs g.rows.items i
    f = facts g cs ok i here

    row_class : (row_at g.rows.items i).class ≡ c
    row_class = subst (λ (x : List Row). (row_at x i).class ≡ (row_at x (get_or g.tally.last c 0)).class) e class ∙ (last_of g cs ok c k low high h).class_is

    lo : (row_at g.rows.items i).first ≤ k
    lo = subst (λ (x : List Row). (row_at x i).first ≤ k) e from

    hi : k < (row_at g.rows.items i).first + (row_at g.rows.items i).slots
    hi = subst (λ (x : List Row). k < (row_at x i).first + (row_at x i).slots) e to

    first : (row_at g.rows.items i).first ≡ r.first
    first = ap (λ (x : Row). x.first) (is_read g cs ok i f.known r p).row_is

    below : k - r.first < (mini_at (minis cs) i).slots
    below = subst (λ (m : Mini). k - r.first < m.slots) (sym f.mini_is) (omega (arith, first, lo, hi))

    class_of : (mini_at (minis cs) i).class ≡ c
    class_of = ap (λ (m : Mini). m.class) f.mini_is ∙ row_class

    whole : (length (class_slots c (take i (minis cs))) + (k - r.first) < length (class_slots c (minis cs)))
        × (get_or (class_slots c (minis cs)) (length (class_slots c (take i (minis cs))) + (k - r.first)) 0 ≡ (mini_at (minis cs) i).base + (k - r.first) * 2 ^ (mini_at (minis cs) i).class)
    whole = slot_of_class c (minis cs) i (k - r.first) f.known below class_of

    same : length (class_slots c (take i (minis cs))) + (k - r.first) ≡ k
    same =
        let a : (row_at g.rows.items i).first ≡ length (class_slots c (take i (minis cs))) =
        (ok.linked i here).first_is ∙ ap (λ (x : ℕ). length (class_slots x (take i (map row_mini g.rows.items)))) row_class ∙ ap (λ (ms : List Mini). length (class_slots c (take i ms))) ok.minis_are in
        omega (arith, a, first, lo)
