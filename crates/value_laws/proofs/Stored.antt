-- Loads and stores keep memory matching.
use Rattle.std.proofs.Common.{◌≡◌, ℕ, zero, suc, ◌+◌, ◌%◌, ◌^◌, ◌<◌, ◌≤◌, refl, ap, sym, ◌∙◌, subst, Bool, true, false, cond, ◌&&◌, inl, inr, arith, nat_eq, nat_lt, List, [], ◌∷◌, length, take, map, All}
use Rattle.std.proofs.lemmas.Bool.Decides.{nat_tests}
use Rattle.std.proofs.lemmas.Bool.{eqb-true, eqb-false, and_parts}
use Rattle.infinite_heap.specs.declared.value.Cell.{Cell}
use Rattle.infinite_heap.specs.declared.value.Cell.TheVariants.{Byte, Part, Unset}
use Rattle.infinite_heap.specs.declared.value.Value.{Value}
use Rattle.infinite_heap.specs.Values.{byte, value_of, word_of}
use Rattle.infinite_heap.specs.Region.{in_region}
use Rattle.infinite_heap.specs.Layout.{Layout, IsLayout, IsIn, IsPlace, place, CellStands, Stands, AllStand, none, more, IsHarmlessByte, IsHarmlessUse, IsHarmlessStore}
use Rattle.infinite_heap.specs.Memory.{put, put_all, get_all, next, CellMap, Matches, Written, cell_at, write_all, cells_from, bytes_from, value_from, word_from, cell_above, byte_above}
use Rattle.value_laws.specs.MemoryLaws.{IsOutside, IsElsewhere, with_written}
use Rattle.value_laws.proofs.Cells.{cells_stand, value_of_stands}

-- a change at x, seen at y
put_case : {A : Type 0} (f : ℕ → A) (x : ℕ) (c : A) (y : ℕ) (P : A → Type 0) → (x ≡ y → P c) → ((x ≡ y → ⊥) → P (f y)) → P (put f x c y)
put_case f x c y P h k = go (nat_eq x y) refl
  where
    go : (t : Bool) → nat_eq x y ≡ t → P (cond t c (f y))
    go true e = h (eqb-true x y e)
    go false e = k (eqb-false x y e)

-- two offsets of one object have one place only where they are one
same_offset : (l : Layout) (o d e : ℕ) → l.at o < 2 ^ 31 → d < 2 ^ 32 → e < 2 ^ 32 → place l o d ≡ place l o e → d ≡ e
same_offset l o d e h hd he p = omega arith

in_region_of : (x : ℕ) → 2 ^ 30 ≤ x → x < 2 ^ 31 → in_region x ≡ true
in_region_of x h k = grind (arith, nat_tests)

pub in_region_place : (l : Layout) → IsLayout l → (o x : ℕ) → IsIn l o x → in_region x ≡ true
in_region_place l il o x h = in_region_of x (omega (arith, il.region_from o h.known, h.from)) (omega (arith, il.region_to o h.known, h.to, il.top_below))

-- a cell that was written to object o at offset d, seen at offset e of object p
cell_case : (begins : ℕ → Cell) (ws : List Written) (o d : ℕ) (c : Cell) (mark : Bool) (p e : ℕ) (P : Cell → Type 0) → (o ≡ p → d ≡ e → P c) → ((o ≡ p → d ≡ e → ⊥) → P (cell_at begins ws p e))
    → P (cell_at begins (record { object = o; offset = d; cell = c; stored = mark } ∷ ws) p e)
cell_case begins ws o d c mark p e P h k = go (nat_eq o p && nat_eq d e) refl
  where
    go : (t : Bool) → (nat_eq o p && nat_eq d e) ≡ t → P (cond t c (cell_at begins ws p e))
    go true t = let u = and_parts (nat_eq o p) (nat_eq d e) t in h (eqb-true o p u.0) (eqb-true d e u.1)
    go false t = k (λ s r. true_false (both s r) t)
      where
        both : o ≡ p → d ≡ e → (nat_eq o p && nat_eq d e) ≡ true
        both s r = grind (arith, nat_tests)

        true_false : (nat_eq o p && nat_eq d e) ≡ true → (nat_eq o p && nat_eq d e) ≡ false → ⊥
        true_false x y = cc

-- one byte stored through a pointer
stored_byte : (l : Layout) → IsLayout l → (flat begins : ℕ → Cell) (ws : List Written) (bytes : ℕ → ℕ) → Matches l (with_written flat begins ws) bytes → (o d : ℕ) (c : Cell) (mark : Bool) (b : ℕ) → d < 2 ^ 32 → b < 256
    → CellStands l c b → o < l.count → IsHarmlessByte l o (place l o d)
    → Matches l (with_written flat begins (record { object = o; offset = d; cell = c; stored = mark } ∷ ws)) (put bytes (place l o d) b)
stored_byte l il flat begins ws bytes mm o d c mark b hd hb s ho h = record {
  fits = λ x. put_case bytes (place l o d) b x (λ v. v < 256) (λ e. hb) (λ e. mm.fits x);
  flat = λ x r. put_case bytes (place l o d) b x (λ v. CellStands l (flat x) v) (λ e. absurd (not_flat h (rw (sym e) at r))) (λ e. mm.flat x r);
  heap = λ p e he i. cell_case begins ws o d c mark p e (λ k. CellStands l k (put bytes (place l o d) b (place l p e)))
      (λ s' t. put_case bytes (place l o d) b (place l p e) (λ v. CellStands l c v) (λ q. s) (λ q. absurd (q (cc))))
      (λ n. put_case bytes (place l o d) b (place l p e) (λ v. CellStands l (cell_at begins ws p e) v) (λ q. absurd (other p e he i n q h)) (λ q. mm.heap p e he i));
}
  where
    not_flat : IsHarmlessByte l o (place l o d) → in_region (place l o d) ≡ false → ⊥
    not_flat (inl k) r = absurd (cc (in_region_place l il o (place l o d) k))
    not_flat (inr k) r = absurd (cc (in_region_of (place l o d) k.from (omega (arith, k.to, il.top_below))))

    at_one : (p e : ℕ) → e < 2 ^ 32 → o ≡ p → place l o d ≡ place l p e → d ≡ e
    at_one p e he t q =
        let r : place l o d ≡ place l o e = q ∙ ap (λ (i : ℕ). place l i e) (sym t) in
        same_offset l o d e (omega (arith, il.aligned.below o ho)) hd he r

    other : (p e : ℕ) → e < 2 ^ 32 → IsIn l p (place l p e) → (o ≡ p → d ≡ e → ⊥) → place l o d ≡ place l p e → IsHarmlessByte l o (place l o d) → ⊥
    other p e he i n q (inl k) =
        let t : o ≡ p = il.apart o p (place l o d) k (rw q i) in n t (at_one p e he t q)
    other p e he i n q (inr k) = k.none p (rw q i)

next_place : (l : Layout) (o d : ℕ) → place l o (next d) ≡ next (place l o d)
next_place l o d = omega arith

-- bytes stored through a pointer
pub stored_through : (l : Layout) → IsLayout l → (flat begins : ℕ → Cell) (marks : ℕ → Bool) (ws : List Written) (bytes : ℕ → ℕ) → Matches l (with_written flat begins ws) bytes → (o d : ℕ) → d < 2 ^ 32 → o < l.count → {cs : List Cell} {bs : List ℕ} → AllStand l cs bs
    → IsHarmlessStore l o d (length bs)
    → Matches l (with_written flat begins (write_all marks ws o d cs)) (put_all bytes (place l o d) bs)
stored_through l il flat begins marks ws bytes mm o d hd ho none h = mm
stored_through l il flat begins marks ws bytes mm o d hd ho (more {c} {b} {cs} {bs} hb s a) h =
    let one = stored_byte l il flat begins ws bytes mm o d c (marks d) b hd hb s ho (rw (← first) (h 0 (omega arith))) in
    subst (λ (x : ℕ). Matches l (with_written flat begins (write_all marks (record { object = o; offset = d; cell = c; stored = marks d } ∷ ws) o (next d) cs)) (put_all (put bytes (place l o d) b) x bs)) (next_place l o d)
    (stored_through l il flat begins marks (record { object = o; offset = d; cell = c; stored = marks d } ∷ ws) (put bytes (place l o d) b) one o (next d) (omega arith) ho a
    (λ j hj. subst (IsHarmlessByte l o) (shifted j) (h (suc j) (omega arith))))
  where
    first : place l o (d + 0) ≡ place l o d
    first = omega arith

    shifted : (j : ℕ) → place l o (d + suc j) ≡ place l o (next d + j)
    shifted j = omega arith

-- one byte stored outside the region
pub stored_flat_byte : (l : Layout) → IsLayout l → (m : CellMap) (bytes : ℕ → ℕ) → Matches l m bytes → (x : ℕ) (c : Cell) (b : ℕ) → b < 256 → CellStands l c b → in_region x ≡ false
    → Matches l (record { flat = put m.flat x c; heap = m.heap }) (put bytes x b)
stored_flat_byte l il m bytes mm x c b hb s r = record {
  fits = λ y. put_case bytes x b y (λ v. v < 256) (λ e. hb) (λ e. mm.fits y);
  flat = λ y t. put_case m.flat x c y (λ k. CellStands l k (put bytes x b y))
      (λ e. put_case bytes x b y (λ v. CellStands l c v) (λ q. s) (λ q. absurd (q e)))
      (λ n. put_case bytes x b y (λ v. CellStands l (m.flat y) v) (λ q. absurd (n q)) (λ q. mm.flat y t));
  heap = λ p e he i. put_case bytes x b (place l p e) (λ v. CellStands l (m.heap p e) v)
      (λ q. absurd (clash (in_region_place l il p (place l p e) i) (rw q at r))) (λ q. mm.heap p e he i);
}
  where
    clash : {t : Bool} → t ≡ true → t ≡ false → ⊥
    clash a b = cc

-- bytes stored outside the region
pub stored_flat : (l : Layout) → IsLayout l → (m : CellMap) (bytes : ℕ → ℕ) → Matches l m bytes → (x : ℕ) {cs : List Cell} {bs : List ℕ} → AllStand l cs bs
    → IsOutside x (length bs) → x < 2 ^ 32
    → Matches l (record { flat = put_all m.flat x cs; heap = m.heap }) (put_all bytes x bs)
stored_flat l il m bytes mm x none h hx = mm
stored_flat l il m bytes mm x (more {c} {b} {cs} {bs} hb s a) h hx =
    let one = stored_flat_byte l il m bytes mm x c b hb s (rw (← first) (h 0 (omega arith))) in
    stored_flat l il (record { flat = put m.flat x c; heap = m.heap }) (put bytes x b) one (next x) a
    (λ j hj. subst (λ (y : ℕ). in_region y ≡ false) (shifted j) (h (suc j) (omega arith))) (omega arith)
  where
    first : (x + 0) % 2 ^ 32 ≡ x
    first = omega arith

    shifted : (j : ℕ) → (x + suc j) % 2 ^ 32 ≡ (next x + j) % 2 ^ 32
    shifted j = omega arith

-- bytes loaded through a pointer
pub loaded_through : (l : Layout) (m : CellMap) (bytes : ℕ → ℕ) → Matches l m bytes → (o d n : ℕ) → d < 2 ^ 32 → ((j : ℕ) → j < n → IsIn l o (place l o (d + j)))
    → AllStand l (get_all (m.heap o) d n) (get_all bytes (place l o d) n)
loaded_through l m bytes mm o d zero hd h = none
loaded_through l m bytes mm o d (suc n) hd h =
    more (mm.fits (place l o d)) (mm.heap o d hd (subst (IsIn l o) first (h 0 (omega arith))))
    (subst (λ (x : ℕ). AllStand l (get_all (m.heap o) (next d) n) (get_all bytes x n)) (next_place l o d)
    (loaded_through l m bytes mm o (next d) n (omega arith) (λ j hj. subst (IsIn l o) (shifted j) (h (suc j) (omega arith)))))
  where
    first : place l o (d + 0) ≡ place l o d
    first = omega arith

    shifted : (j : ℕ) → place l o (d + suc j) ≡ place l o (next d + j)
    shifted j = omega arith

-- bytes loaded outside the region
pub loaded_flat : (l : Layout) (m : CellMap) (bytes : ℕ → ℕ) → Matches l m bytes → (x n : ℕ) → x < 2 ^ 32 → IsOutside x n
    → AllStand l (get_all m.flat x n) (get_all bytes x n)
loaded_flat l m bytes mm x zero hx h = none
loaded_flat l m bytes mm x (suc n) hx h =
    more (mm.fits x) (mm.flat x (rw (← first) (h 0 (omega arith))))
    (loaded_flat l m bytes mm (next x) n (omega arith) (λ j hj. subst (λ (y : ℕ). in_region y ≡ false) (shifted j) (h (suc j) (omega arith))))
  where
    first : (x + 0) % 2 ^ 32 ≡ x
    first = omega arith

    shifted : (j : ℕ) → (x + suc j) % 2 ^ 32 ≡ (next x + j) % 2 ^ 32
    shifted j = omega arith

-- ---- the cells of a value
taken : (l : Layout) (n : ℕ) {cs : List Cell} {bs : List ℕ} → AllStand l cs bs → AllStand l (take n cs) (take n bs)
taken l zero a = none
taken l (suc n) none = none
taken l (suc n) (more hb s a) = more hb s (taken l n a)

byte_lt : (k x : ℕ) → byte k x < 256
byte_lt k x = omega arith

pub lowest_stand : (l : Layout) (v : Value) (x : ℕ) → Stands l v x → (n : ℕ) → AllStand l (cells_from n v) (bytes_from n x)
lowest_stand l v x p n =
    let c = cells_stand l v x p in
    taken l n (more (byte_lt 0 x) c.s0 (more (byte_lt 1 x) c.s1 (more (byte_lt 2 x) c.s2 (more (byte_lt 3 x) c.s3 none))))

-- ---- the value of cells that were loaded
above_stands : (l : Layout) (t : Bool) (c : Cell) (b : ℕ) → CellStands l c b → CellStands l (cell_above t c) (byte_above t b)
above_stands l false c b p = refl
above_stands l true (Byte n) b p = rw p (go (nat_lt n 128))
  where
    go : (t : Bool) → CellStands l (cond t (Byte 0) (Byte 255)) (cond t 0 255)
    go true = refl
    go false = refl
above_stands l true (Part o d k) b p = tt
above_stands l true Unset b p = tt

above_lt : (t : Bool) (b : ℕ) → byte_above t b < 256
above_lt false b = omega arith
above_lt true b = go (nat_lt b 128)
  where
    go : (t : Bool) → cond t 0 255 < 256
    go true = omega arith
    go false = omega arith

word_of_lt : (a b c d : ℕ) → a < 256 → b < 256 → c < 256 → d < 256 → word_of a b c d < 2 ^ 32
word_of_lt a b c d ha hb hc hd = omega arith

four_stand : (l : Layout) (c0 c1 c2 c3 : Cell) (a b c d : ℕ) → a < 256 → b < 256 → c < 256 → d < 256
    → CellStands l c0 a → CellStands l c1 b → CellStands l c2 c → CellStands l c3 d → Stands l (value_of c0 c1 c2 c3) (word_of a b c d)
four_stand l c0 c1 c2 c3 a b c d ha hb hc hd p q r s =
    value_of_stands l c0 c1 c2 c3 (word_of a b c d) (word_of_lt a b c d ha hb hc hd)
    (subst (CellStands l c0) (omega arith) p) (subst (CellStands l c1) (omega arith) q) (subst (CellStands l c2) (omega arith) r) (subst (CellStands l c3) (omega arith) s)

pub loaded_stands : (l : Layout) (t : Bool) {cs : List Cell} {bs : List ℕ} → AllStand l cs bs → Stands l (value_from t cs) (word_from t bs) × (word_from t bs < 2 ^ 32)
loaded_stands l t (more {c} {b} hb p none) =
    let s = above_stands l t c b p in
    let h = above_lt t b in
    (four_stand l c (cell_above t c) (cell_above t c) (cell_above t c) b (byte_above t b) (byte_above t b) (byte_above t b) hb h h h p s s s, word_of_lt b (byte_above t b) (byte_above t b) (byte_above t b) hb h h h)
loaded_stands l t (more {c} {b} hb p (more {c = c'} {b = b'} hb' p' none)) =
    let s = above_stands l t c' b' p' in
    let h = above_lt t b' in
    (four_stand l c c' (cell_above t c') (cell_above t c') b b' (byte_above t b') (byte_above t b') hb hb' h h p p' s s, word_of_lt b b' (byte_above t b') (byte_above t b') hb hb' h h)
loaded_stands l t (more {c = c0} {b = b0} h0 p0 (more {c = c1} {b = b1} h1 p1 (more {c = c2} {b = b2} h2 p2 (more {c = c3} {b = b3} h3 p3 none)))) =
    (four_stand l c0 c1 c2 c3 b0 b1 b2 b3 h0 h1 h2 h3 p0 p1 p2 p3, word_of_lt b0 b1 b2 b3 h0 h1 h2 h3)
loaded_stands l t a = ((tt, tt, tt, tt), omega arith)

-- ---- loads and stores through a pointer, at the address that it stands for
pub pointer_loads : (l : Layout) (m : CellMap) (bytes : ℕ → ℕ) → Matches l m bytes → (o d a n : ℕ) → IsPlace l o d a → IsHarmlessUse l o d n → AllStand l (get_all (m.heap o) d n) (get_all bytes a n)
pointer_loads l m bytes mm o d a n p h =
    subst (λ (x : ℕ). AllStand l (get_all (m.heap o) d n) (get_all bytes x n)) (sym p.is) (loaded_through l m bytes mm o d n p.fits h.inside)

pub pointer_stores : (l : Layout) → IsLayout l → (flat begins : ℕ → Cell) (marks : ℕ → Bool) (ws : List Written) (bytes : ℕ → ℕ) → Matches l (with_written flat begins ws) bytes
    → (o d a : ℕ) → IsPlace l o d a → (cs : List Cell) (bs : List ℕ) → AllStand l cs bs → IsHarmlessStore l o d (length bs)
    → Matches l (with_written flat begins (write_all marks ws o d cs)) (put_all bytes a bs)
pointer_stores l il flat begins marks ws bytes mm o d a p cs bs s h =
    subst (λ (x : ℕ). Matches l (with_written flat begins (write_all marks ws o d cs)) (put_all bytes x bs)) (sym p.is) (stored_through l il flat begins marks ws bytes mm o d p.fits p.known s h)

pub store_matches : (l : Layout) → IsLayout l → (flat begins : ℕ → Cell) (marks : ℕ → Bool) (ws : List Written) (bytes : ℕ → ℕ) → Matches l (with_written flat begins ws) bytes
    → (o d a n : ℕ) → IsPlace l o d a → IsHarmlessStore l o d n → (v : Value) (x : ℕ) → Stands l v x
    → Matches l (with_written flat begins (write_all marks ws o d (cells_from n v))) (put_all bytes a (bytes_from n x))
store_matches l il flat begins marks ws bytes mm o d a n p h v x s =
    pointer_stores l il flat begins marks ws bytes mm o d a p (cells_from n v) (bytes_from n x) (lowest_stand l v x s n) (λ j hj. h j (omega (arith, hj, length-take_le n (byte 0 x ∷ byte 1 x ∷ byte 2 x ∷ byte 3 x ∷ []))))
  where
    length-take_le : (n : ℕ) (xs : List ℕ) → length (take n xs) ≤ n
    length-take_le zero xs = omega arith
    length-take_le (suc n) [] = omega arith
    length-take_le (suc n) (x ∷ xs) = omega (arith, length-take_le n xs)

-- ---- what was written is read
pub others_stay : (begins : ℕ → Cell) (marks : ℕ → Bool) (ws : List Written) (o d : ℕ) (cs : List Cell) → d < 2 ^ 32 → (p e : ℕ) → IsElsewhere o d (length cs) p e
    → cell_at begins (write_all marks ws o d cs) p e ≡ cell_at begins ws p e
others_stay begins marks ws o d [] hd p e h = refl
others_stay begins marks ws o d (c ∷ cs) hd p e h =
    others_stay begins marks (record { object = o; offset = d; cell = c; stored = marks d } ∷ ws) o (next d) cs (omega arith) p e (λ j hj q r. h (suc j) (omega arith) q (omega (arith, r)))
    ∙ cell_case begins ws o d c (marks d) p e (λ k. k ≡ cell_at begins ws p e) (λ q r. absurd (h 0 (omega arith) q (omega (arith, r)))) (λ n. refl)

pub read_back : (begins : ℕ → Cell) (marks : ℕ → Bool) (ws : List Written) (o d : ℕ) (cs : List Cell) → d < 2 ^ 32 → length cs ≤ 2 ^ 32
    → get_all (cell_at begins (write_all marks ws o d cs) o) d (length cs) ≡ cs
read_back begins marks ws o d [] hd hn = refl
read_back begins marks ws o d (c ∷ cs) hd hn =
    let w : List Written = record { object = o; offset = d; cell = c; stored = marks d } ∷ ws in
    let first : cell_at begins (write_all marks w o (next d) cs) o d ≡ c =
    others_stay begins marks w o (next d) cs (omega arith) o d (λ j hj q r. omega (arith, r)) ∙ cell_case begins ws o d c (marks d) o d (λ k. k ≡ c) (λ q r. refl) (λ n. absurd (n refl refl)) in
    let rest : get_all (cell_at begins (write_all marks w o (next d) cs) o) (next d) (length cs) ≡ cs = read_back begins marks w o (next d) cs (omega arith) (omega arith) in
    rw (first, rest) refl

-- ---- cells that are numbers
pub numbers_stand : (l : Layout) (bs : List ℕ) → All (λ b. b < 256) bs → AllStand l (map Byte bs) bs
numbers_stand l [] h = none
numbers_stand l (b ∷ bs) h = more (h 0 b (omega arith)) refl (numbers_stand l bs (λ k d hk. h (suc k) d (omega arith)))

pub numbers_are_bytes : (l : Layout) (ns bs : List ℕ) → AllStand l (map Byte ns) bs → bs ≡ ns
numbers_are_bytes l [] [] none = refl
numbers_are_bytes l [] (b ∷ bs) a = elim a [ ]
numbers_are_bytes l (n ∷ ns) [] a = elim a [ ]
numbers_are_bytes l (n ∷ ns) (b ∷ bs) (more hb s a) = rw (s, numbers_are_bytes l ns bs a) refl
