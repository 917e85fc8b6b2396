-- Places gain a miniheap.
use Rattle.std.proofs.Common.{◌≡◌, ℕ, suc, ◌+◌, ◌*◌, ◌/◌, ◌<◌, ◌≤◌, ◌^◌, refl, ap, sym, ◌∙◌, subst, Bool, true, false, cond, ◌⊎◌, inl, inr, arith, nat_eq, List, [], ◌∷◌, ◌++◌, length, get_or, take, map, set}
use Rattle.std.proofs.lemmas.Bool.{eq-eqb, ne_eqb, cases_lt, cases_eq}
use Rattle.std.proofs.lemmas.List.{length-append, length-map, get_or_append_left, get_or_at, get_or-set_same, get_or-set_other, map_push, take-append-le, take_all, length_push}
use Rattle.std.proofs.lemmas.List.Elements.{All-push}
use Rattle.std.proofs.lemmas.Nat.{pow_pos, mul-le, shl-shr, shr_le}
use Rattle.std.proofs.Math.Nat.{pow-suc, mul_assoc, mul_right_comm, mul_comm}
use Rattle.size_class.specs.Classes.{nth_slots, nth_bytes, first_slots}
use Rattle.miniheap.specs.declared.places.Row.{Row}
use Rattle.miniheap.specs.declared.places.Places.TheInside.{Inside}
use Rattle.miniheap.specs.Layout.{Mini, heap_from, heap_limit, count_of, nth_mini, minis, bytes_of, mini_slots, class_slots}
use Rattle.miniheap.specs.Places.{bytes_used, bytes_wanted}
use Rattle.miniheap.specs.Rows.{row_at, row_mini, FollowsPrev, IsLinked, IsLast, IsTally, AreRows}
use Rattle.miniheap.proofs.LayoutLemmas.{minis_push, class_slots_push, bytes_of_push, count_of_push, length-slots_from, class_bytes}
use Rattle.miniheap.proofs.RowLemmas.{rows_length, minis_few, few_members}
use Rattle.miniheap.proofs.PlaceLemmas.{AreRowsOf}

-- the row of a class's next miniheap
pub record IsNext (cs : List ℕ) (c first prev : ℕ) (r : Row) : Type 0 where
  pub class_is : r.class ≡ c
  pub base_is : r.base ≡ heap_from + bytes_of (minis cs)
  pub slots_are : r.slots ≡ nth_slots c (count_of c cs)
  pub first_is : r.first ≡ first
  pub prev_is : r.prev ≡ prev

next_mini : (cs : List ℕ) (c first prev : ℕ) (r : Row) → IsNext cs c first prev r → row_mini r ≡ nth_mini c (heap_from + bytes_of (minis cs)) (count_of c cs)
next_mini cs c first prev r k =
    ap (λ (x : ℕ). let m : Mini = record { class = x; base = r.base; slots = r.slots } in m) k.class_is
    ∙ ap (λ (x : ℕ). let m : Mini = record { class = c; base = x; slots = r.slots } in m) k.base_is
    ∙ ap (λ (x : ℕ). let m : Mini = record { class = c; base = heap_from + bytes_of (minis cs); slots = x } in m) k.slots_are

pub slot_count_grown : (cs : List ℕ) (c d : ℕ) → length (class_slots d (minis (cs ++ c ∷ []))) ≡ length (class_slots d (minis cs)) + cond (nat_eq c d) (nth_slots c (count_of c cs)) 0
slot_count_grown cs c d =
    ap (λ (ms : List Mini). length (class_slots d ms)) (minis_push cs c)
    ∙ ap length (class_slots_push d (minis cs) m)
    ∙ length-append (class_slots d (minis cs)) (cond (nat_eq c d) (mini_slots m) [])
    ∙ ap (λ (x : ℕ). length (class_slots d (minis cs)) + x) (at (nat_eq c d))
  where
    m : Mini
    m = nth_mini c (heap_from + bytes_of (minis cs)) (count_of c cs)

    at : (t : Bool) → length (cond t (mini_slots m) []) ≡ cond t (nth_slots c (count_of c cs)) 0
    at true = length-slots_from m.base (2 ^ c) (nth_slots c (count_of c cs))
    at false = refl

-- ---- the numbers after growth

abbrev one_in : (c d : ℕ) → ℕ
one_in c d = cond (nat_eq c d) 1 0

abbrev slots_in : (c d n : ℕ) → ℕ
slots_in c d n = cond (nat_eq c d) n 0

row_old : (rows : List Row) (l : Row) (i : ℕ) → i < length rows → row_at (rows ++ l ∷ []) i ≡ row_at rows i
row_old rows l i h = get_or_append_left rows (l ∷ []) (record { class = 0; base = 0; slots = 0; first = 0; prev = 0 }) i h

row_new : (rows : List Row) (l : Row) → row_at (rows ++ l ∷ []) (length rows) ≡ l
row_new rows l = get_or_at rows l [] (record { class = 0; base = 0; slots = 0; first = 0; prev = 0 }) (length rows) refl

take_old : (rows : List Row) (l : Row) (i : ℕ) → i ≤ length rows → take i (map row_mini (rows ++ l ∷ [])) ≡ take i (map row_mini rows)
take_old rows l i h =
    ap (take i) (map_push row_mini rows l) ∙ take-append-le i (map row_mini rows) (row_mini l ∷ []) (let e : length (map row_mini rows) ≡ length rows = length-map rows row_mini in omega arith)

follows_old : (rows : List Row) (l k : Row) (i : ℕ) → i ≤ length rows → FollowsPrev rows k i → FollowsPrev (rows ++ l ∷ []) k i
follows_old rows l k i h f =
    let e : row_at (rows ++ l ∷ []) k.prev ≡ row_at rows k.prev = row_old rows l k.prev (omega (arith, f.prev_below)) in
    record {
      prev_below = f.prev_below;
      prev_class = ap (λ (x : Row). x.class) e ∙ f.prev_class;
      prev_ends = ap (λ (x : Row). x.first + x.slots) e ∙ f.prev_ends;
    }

linked_old : (rows : List Row) (l : Row) (i : ℕ) → i < length rows → IsLinked rows i → IsLinked (rows ++ l ∷ []) i
linked_old rows l i h k =
    let e : row_at (rows ++ l ∷ []) i ≡ row_at rows i = row_old rows l i h in
    record {
      first_is =
          ap (λ (x : Row). x.first) e ∙ k.first_is
          ∙ ap (λ (ms : List Mini). length (class_slots (row_at rows i).class ms)) (sym (take_old rows l i (omega arith)))
          ∙ ap (λ (x : Row). length (class_slots x.class (take i (map row_mini (rows ++ l ∷ []))))) (sym e);
      follows = λ p. subst (λ (x : Row). FollowsPrev (rows ++ l ∷ []) x i) (sym e) (follows_old rows l (row_at rows i) i (omega arith) (k.follows (subst (λ (x : Row). 0 < x.first) e p)));
    }

last_old : (rows : List Row) (l : Row) (c last slots : ℕ) → IsLast rows c last slots → IsLast (rows ++ l ∷ []) c last slots
last_old rows l c last slots k =
    let e : row_at (rows ++ l ∷ []) last ≡ row_at rows last = row_old rows l last k.known in
    record {
      known = omega (arith, k.known, length_push rows l);
      class_is = ap (λ (x : Row). x.class) e ∙ k.class_is;
      ends = ap (λ (x : Row). x.first + x.slots) e ∙ k.ends;
    }

linked_new : (cs : List ℕ) (rows : List Row) → map row_mini rows ≡ minis cs → (c last slots : ℕ) (l : Row) → IsNext cs c slots last l → slots ≡ length (class_slots c (minis cs)) → (0 < slots → IsLast rows c last slots) → IsLinked (rows ++ l ∷ []) (length rows)
linked_new cs rows e c last slots l k s t =
    let n : row_at (rows ++ l ∷ []) (length rows) ≡ l = row_new rows l in
    record {
      first_is =
          ap (λ (x : Row). x.first) n ∙ k.first_is ∙ s
          ∙ ap (λ (ms : List Mini). length (class_slots c ms)) (sym e ∙ sym (take_all (length rows) (map row_mini rows) (let q : length (map row_mini rows) ≡ length rows = length-map rows row_mini in omega arith)) ∙ sym (take_old rows l (length rows) (omega arith)))
          ∙ ap (λ (x : ℕ). length (class_slots x (take (length rows) (map row_mini (rows ++ l ∷ []))))) (sym k.class_is)
          ∙ ap (λ (x : Row). length (class_slots x.class (take (length rows) (map row_mini (rows ++ l ∷ []))))) (sym n);
      follows = λ p. subst (λ (x : Row). FollowsPrev (rows ++ l ∷ []) x (length rows)) (sym n)
          (let q : IsLast rows c last slots = t (subst (λ (x : ℕ). 0 < x) k.first_is (subst (λ (x : Row). 0 < x.first) n p)) in
          follows_old rows l l (length rows) (omega arith) (record {
            prev_below = subst (λ (x : ℕ). x < length rows) (sym k.prev_is) q.known;
            prev_class = ap (λ (x : ℕ). (row_at rows x).class) k.prev_is ∙ q.class_is ∙ sym k.class_is;
            prev_ends = ap (λ (x : ℕ). (row_at rows x).first + (row_at rows x).slots) k.prev_is ∙ q.ends ∙ sym k.first_is;
          }));
    }

-- twice as many bytes, for the miniheap after the next
bytes_double : (c n : ℕ) → nth_bytes c (n + 1) ≡ 2 * nth_bytes c n
bytes_double c n =
    let e : n + 1 ≡ suc n = omega arith in
    let p : 2 ^ suc n ≡ 2 ^ n * 2 = pow-suc 2 n in
    let q : first_slots c * 2 ^ suc n ≡ first_slots c * 2 ^ n * 2 = ap (λ (x : ℕ). first_slots c * x) p ∙ sym (mul_assoc (first_slots c) (2 ^ n) 2) in
    ap (nth_bytes c) e ∙ ap (λ (x : ℕ). x * 2 ^ c) q ∙ mul_right_comm (first_slots c * 2 ^ n) 2 (2 ^ c) ∙ mul_comm (nth_bytes c n) 2

pub rows_grown : (cs : List ℕ) (rows : List Row) (end : ℕ) (members last slots : List ℕ) → AreRows cs rows end members last slots
    → (c : ℕ) → 4 ≤ c → c ≤ 22 → (l : Row) → IsNext cs c (get_or slots c 0) (get_or last c 0) l → bytes_of (minis cs) + nth_bytes c (count_of c cs) ≤ heap_limit
    → c < length members → c < length last → c < length slots
    → AreRows (cs ++ c ∷ []) (rows ++ l ∷ []) (end + nth_bytes c (count_of c cs)) (set members c (get_or members c 0 + 1)) (set last c (length rows)) (set slots c (get_or slots c 0 + nth_slots c (count_of c cs)))
rows_grown cs rows end members last slots ok c lo hi l k room in_members in_last in_slots = record {
  in_classes = All-push (λ (x : ℕ). (4 ≤ x) × (x ≤ 22)) cs c ok.in_classes (lo, hi);
  minis_are = map_push row_mini rows l ∙ ap (λ (ms : List Mini). ms ++ row_mini l ∷ []) ok.minis_are ∙ ap (λ (m : Mini). minis cs ++ m ∷ []) next ∙ sym (minis_push cs c);
  linked = λ i h. linked_at i (cases_lt i (length rows)) h;
  end_is = ap (λ (x : ℕ). x + nth_bytes c (count_of c cs)) ok.end_is ∙ (let e : bytes_of (minis (cs ++ c ∷ [])) ≡ bytes_of (minis cs) + nth_bytes c (count_of c cs) = more in omega (arith, e));
  in_limit = omega (arith, more, room);
  tallies = λ d p q. by_class d p q (cases_eq d c);
}
  where
    mine : IsTally cs rows c (get_or members c 0) (get_or last c 0) (get_or slots c 0)
    mine = ok.tallies c lo hi

    next : row_mini l ≡ nth_mini c (heap_from + bytes_of (minis cs)) (count_of c cs)
    next = next_mini cs c (get_or slots c 0) (get_or last c 0) l k

    more : bytes_of (minis (cs ++ c ∷ [])) ≡ bytes_of (minis cs) + nth_bytes c (count_of c cs)
    more = ap bytes_of (minis_push cs c) ∙ bytes_of_push (minis cs) (nth_mini c (heap_from + bytes_of (minis cs)) (count_of c cs))

    linked_at : (i : ℕ) → (i < length rows) ⊎ (length rows ≤ i) → i < length (rows ++ l ∷ []) → IsLinked (rows ++ l ∷ []) i
    linked_at i (inl h) p = linked_old rows l i h (ok.linked i h)
    linked_at i (inr h) p =
        let e : i ≡ length rows = omega (arith, length_push rows l) in
        subst (λ (x : ℕ). IsLinked (rows ++ l ∷ []) x) (sym e) (linked_new cs rows ok.minis_are c (get_or last c 0) (get_or slots c 0) l k mine.slots_are mine.last_is)

    same : (one_in c c ≡ 1) × (slots_in c c (nth_slots c (count_of c cs)) ≡ nth_slots c (count_of c cs))
    same = (ap (λ (b : Bool). cond b 1 0) (eq-eqb c c refl), ap (λ (b : Bool). cond b (nth_slots c (count_of c cs)) 0) (eq-eqb c c refl))

    ours : IsTally (cs ++ c ∷ []) (rows ++ l ∷ []) c (get_or members c 0 + 1) (length rows) (get_or slots c 0 + nth_slots c (count_of c cs))
    ours = record {
      members_are = omega (arith, mine.members_are, count_of_push c cs c, same.0);
      slots_are = omega (arith, mine.slots_are, slot_count_grown cs c c, same.1);
      next_fits = subst (λ (x : ℕ). nth_bytes c x ≤ 2 ^ 31) (let e : count_of c cs + 1 ≡ count_of c (cs ++ c ∷ []) = omega (arith, count_of_push c cs c, same.0) in e) (omega (arith, bytes_double c (count_of c cs), room));
      last_is = λ _. record {
        known = omega (arith, length_push rows l);
        class_is = ap (λ (x : Row). x.class) (row_new rows l) ∙ k.class_is;
        ends = ap (λ (x : Row). x.first + x.slots) (row_new rows l) ∙ ap (λ (x : ℕ). x + l.slots) k.first_is ∙ ap (λ (x : ℕ). get_or slots c 0 + x) (k.slots_are);
      };
    }

    others : (d : ℕ) → 4 ≤ d → d ≤ 22 → (d ≡ c → ⊥) → IsTally (cs ++ c ∷ []) (rows ++ l ∷ []) d (get_or members d 0) (get_or last d 0) (get_or slots d 0)
    others d p q n =
        let t = ok.tallies d p q in
        let z : one_in c d ≡ 0 = ap (λ (b : Bool). cond b 1 0) (ne_eqb c d (λ e. n (sym e))) in
        let y : slots_in c d (nth_slots c (count_of c cs)) ≡ 0 = ap (λ (b : Bool). cond b (nth_slots c (count_of c cs)) 0) (ne_eqb c d (λ e. n (sym e))) in
        record {
          members_are = omega (arith, t.members_are, count_of_push d cs c, z);
          slots_are = omega (arith, t.slots_are, slot_count_grown cs c d, y);
          next_fits = subst (λ (x : ℕ). nth_bytes d x ≤ 2 ^ 31) (let e : count_of d cs ≡ count_of d (cs ++ c ∷ []) = omega (arith, count_of_push d cs c, z) in e) t.next_fits;
          last_is = λ r. last_old rows l d (get_or last d 0) (get_or slots d 0) (t.last_is r);
        }

    by_class : (d : ℕ) → 4 ≤ d → d ≤ 22 → (d ≡ c) ⊎ (d ≡ c → ⊥)
        → IsTally (cs ++ c ∷ []) (rows ++ l ∷ []) d (get_or (set members c (get_or members c 0 + 1)) d 0) (get_or (set last c (length rows)) d 0) (get_or (set slots c (get_or slots c 0 + nth_slots c (count_of c cs))) d 0)
    by_class d p q (inl e) = subst (λ (x : ℕ). IsTally (cs ++ c ∷ []) (rows ++ l ∷ []) x (get_or (set members c (get_or members c 0 + 1)) x 0) (get_or (set last c (length rows)) x 0) (get_or (set slots c (get_or slots c 0 + nth_slots c (count_of c cs))) x 0)) (sym e)
        (rw (get_or-set_same members c (get_or members c 0 + 1) 0 in_members, get_or-set_same last c (length rows) 0 in_last, get_or-set_same slots c (get_or slots c 0 + nth_slots c (count_of c cs)) 0 in_slots) ours)
    by_class d p q (inr n) = rw (get_or-set_other members c d (get_or members c 0 + 1) 0 n, get_or-set_other last c d (length rows) 0 n, get_or-set_other slots c d (get_or slots c 0 + nth_slots c (count_of c cs)) 0 n) (others d p q n)

-- ---- what growth finds and makes

pub record Adds (g : Inside) (cs : List ℕ) (c bytes : ℕ) (row : Row) : Type 0 where
  pub low : 4 ≤ c
  pub high : c ≤ 22
  pub bytes_are : bytes ≡ bytes_wanted cs c
  pub room : bytes_used cs + bytes ≤ heap_limit
  pub class_is : row.class ≡ c
  pub base_is : row.base ≡ g.end
  pub slots_are : row.slots ≡ bytes / 2 ^ c
  pub first_is : row.first ≡ get_or g.tally.slots c 0
  pub prev_is : row.prev ≡ get_or g.tally.last c 0

pub slots_wanted : (cs : List ℕ) (c bytes : ℕ) → bytes ≡ bytes_wanted cs c → bytes / 2 ^ c ≡ nth_slots c (count_of c cs)
slots_wanted cs c bytes b = ap (λ (x : ℕ). x / 2 ^ c) b ∙ shl-shr (nth_slots c (count_of c cs)) c

pub rows_added : (g : Inside) (cs : List ℕ) → AreRowsOf g cs → g.classes.items ≡ cs → (c bytes number : ℕ) (row : Row) → Adds g cs c bytes row → (classes : List ℕ) (rows : List Row)
    → classes ≡ g.classes.items ++ c ∷ [] → rows ≡ g.rows.items ++ row ∷ [] → number ≡ length g.rows.items → length g.tally.members ≡ 23 → length g.tally.last ≡ 23 → length g.tally.slots ≡ 23
    → AreRows classes rows (g.end + bytes) (set g.tally.members c (get_or g.tally.members c 0 + 1)) (set g.tally.last c number) (set g.tally.slots c (get_or g.tally.slots c 0 + bytes / 2 ^ c))
rows_added g cs ok v c bytes number row a classes rows e f n lm ll ls =
    let next : IsNext cs c (get_or g.tally.slots c 0) (get_or g.tally.last c 0) row = record {
      class_is = a.class_is;
      base_is = a.base_is ∙ ok.end_is;
      slots_are = a.slots_are ∙ slots_wanted cs c bytes a.bytes_are;
      first_is = a.first_is;
      prev_is = a.prev_is;
    } in
    let r = rows_grown cs g.rows.items g.end g.tally.members g.tally.last g.tally.slots ok c a.low a.high row next
    (omega (arith, a.room, a.bytes_are)) (omega (arith, a.high, lm)) (omega (arith, a.high, ll)) (omega (arith, a.high, ls)) in
    rw (e, v, f, n, slots_wanted cs c bytes a.bytes_are, a.bytes_are) r

-- ---- what fits

pub number_fits : (g : Inside) (cs : List ℕ) → AreRowsOf g cs → length g.rows.items < 2 ^ 32
number_fits g cs ok = omega (arith, rows_length cs g.rows.items ok.minis_are, minis_few cs, ok.in_limit)

pub members_fit : (g : Inside) (cs : List ℕ) → AreRowsOf g cs → (c : ℕ) → 4 ≤ c → c ≤ 22 → get_or g.tally.members c 0 + 1 < 2 ^ 8
members_fit g cs ok c lo hi = let t = ok.tallies c lo hi in omega (arith, t.members_are, few_members c (count_of c cs) t.next_fits)

pub slots_fit : (g : Inside) (cs : List ℕ) → AreRowsOf g cs → (c bytes : ℕ) → 4 ≤ c → c ≤ 22 → bytes ≡ bytes_wanted cs c → bytes_used cs + bytes ≤ heap_limit → get_or g.tally.slots c 0 + bytes / 2 ^ c < 2 ^ 32
slots_fit g cs ok c bytes lo hi b room =
    let n : ℕ = length (class_slots c (minis cs)) in
    let t : get_or g.tally.slots c 0 ≡ n = (ok.tallies c lo hi).slots_are in
    let y : n * 2 ^ c ≤ bytes_of (minis cs) = class_bytes c (minis cs) in
    let u : n * 1 ≤ n * 2 ^ c = mul-le n 1 n (2 ^ c) (omega arith) (omega (arith, pow_pos c)) in
    let w : bytes / 2 ^ c ≤ bytes = shr_le bytes c in omega (arith, room)
