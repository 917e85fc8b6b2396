-- The marks that are computed are those of the definition.
use Rattle.std.proofs.Common.{inl, inr, ◌≡◌, ℕ, ◌+◌, ◌-◌, ◌<◌, ◌&&◌, ◌||◌, nat_lt, nat_le, Bool, true, false, cond, List, [], ◌∷◌, filter, refl, sym, ap, subst, ◌∙◌, arith}
use Rattle.std.specs.List.{flat_map, AllByRecursion}
use Rattle.std.proofs.lemmas.Bool.Decides.{nat_tests}
use Rattle.exact_heap.specs.declared.row.SlotRow.{SlotRow}
use Rattle.heap_image.specs.declared.image.Broken.{Broken}
use Rattle.heap_image.specs.Items.{Has}
use Rattle.heap_image.specs.Rules.{slot_bytes}
use Rattle.heap_image.specs.Snapshot.{Snapshot}
use Rattle.dangling_isolator.specs.declared.mark.Mark.{Mark}
use Rattle.dangling_isolator.specs.Danglings.{is_released, mark_of, broken_at, IsMarked}
use Rattle.dangling_isolator.specs.Marks.{break_marks, row_marks, marks_in, same_mark, is_among, kept_in, common_in}
use Rattle.dangling_isolator.proofs.Has.{in_flat_map, of_flat_map}

abbrev inside : (slot : ℕ) → SlotRow → Broken → Bool
inside slot r b = nat_le r.addr b.addr && nat_lt (b.addr - r.addr) slot

inside_told : (slot from at : ℕ) → (nat_le from at && nat_lt (at - from) slot) ≡ true → (at - from < slot) × (at ≡ from + (at - from))
inside_told slot from at h = (low slot from at h, high slot from at h)
  where
    low : (slot from at : ℕ) → (nat_le from at && nat_lt (at - from) slot) ≡ true → at - from < slot
    low slot from at h = grind (arith, nat_tests)

    high : (slot from at : ℕ) → (nat_le from at && nat_lt (at - from) slot) ≡ true → at ≡ from + (at - from)
    high slot from at h = grind (arith, nat_tests)

inside_is : (slot from offset : ℕ) → offset < slot → (nat_le from (from + offset) && nat_lt ((from + offset) - from) slot) ≡ true
inside_is slot from offset h = grind (arith, nat_tests)

back : (from offset : ℕ) → (from + offset) - from ≡ offset
back from offset = omega arith

marked_by : (s : Snapshot) (r : SlotRow) (b : Broken) (m : Mark) → Has s.rows r → is_released r ≡ true → Has s.broken b → Has (break_marks (slot_bytes s.miniheaps r.addr) r b) m → IsMarked s m
marked_by s r b m hr rel hb h = split (inside (slot_bytes s.miniheaps r.addr) r b) refl h
  where
    made : inside (slot_bytes s.miniheaps r.addr) r b ≡ true → mark_of r (b.addr - r.addr) b.byte ≡ m → IsMarked s m
    made q e =
        let t = inside_told (slot_bytes s.miniheaps r.addr) r.addr b.addr q in
        subst (IsMarked s) e (record {
          row = r;
          has_row = hr;
          released = rel;
          is_row = refl;
          in_slot = t.0;
          broken = subst (λ a. Has s.broken (broken_at a b.byte)) t.1 hb;
        })

    split : (i : Bool) → inside (slot_bytes s.miniheaps r.addr) r b ≡ i → Has (cond i (mark_of r (b.addr - r.addr) b.byte ∷ []) []) m → IsMarked s m
    split true q (inl e) = made q e
    split true q (inr k) = absurd k
    split false q k = absurd k

pub told : (s : Snapshot) (m : Mark) → Has (marks_in s) m → IsMarked s m
told s m h = let o = of_flat_map (row_marks s.miniheaps s.broken) s.rows m h in split o.0 o.1 (is_released o.0) refl o.2
  where
    split : (r : SlotRow) → Has s.rows r → (b : Bool) → is_released r ≡ b → Has (cond b (flat_map (break_marks (slot_bytes s.miniheaps r.addr) r) s.broken) []) m → IsMarked s m
    split r hr true q k = let p = of_flat_map (break_marks (slot_bytes s.miniheaps r.addr) r) s.broken m k in marked_by s r p.0 m hr q p.1 p.2
    split r hr false q k = absurd k

pub found : (s : Snapshot) (m : Mark) → IsMarked s m → Has (marks_in s) m
found s m h =
    let slot = slot_bytes s.miniheaps h.row.addr in
    let b = broken_at (h.row.addr + m.offset) m.byte in
    let here : Has (break_marks slot h.row b) m =
    subst (λ i. Has (cond i (mark_of h.row ((h.row.addr + m.offset) - h.row.addr) m.byte ∷ []) []) m) (sym (inside_is slot h.row.addr m.offset h.in_slot)) (inl (ap (λ o. mark_of h.row o m.byte) (back h.row.addr m.offset) ∙ sym h.is_row)) in
    let row : Has (row_marks s.miniheaps s.broken h.row) m =
    subst (λ i. Has (cond i (flat_map (break_marks slot h.row) s.broken) []) m) (sym h.released) (in_flat_map (break_marks slot h.row) s.broken b m h.broken here) in
    in_flat_map (row_marks s.miniheaps s.broken) s.rows h.row m h.has_row row

-- ---- marks that all images have

same_is : (a b : Mark) → same_mark a b ≡ true → a ≡ b
same_is a b h = grind (arith, nat_tests)

same_itself : (a : Mark) → same_mark a a ≡ true
same_itself a = grind (arith, nat_tests)

among_told : (marks : List Mark) (m : Mark) → is_among marks m ≡ true → Has marks m
among_told [] m h = absurd (grind arith)
among_told (x ∷ marks) m h = split (among_told marks m) (same_mark x m) refl h
  where
    split : (is_among marks m ≡ true → Has marks m) → (b : Bool) → same_mark x m ≡ b → (b || is_among marks m) ≡ true → Has (x ∷ marks) m
    split more true q h = inl (same_is x m q)
    split more false q h = inr (more h)

among_is : (marks : List Mark) (m : Mark) → Has marks m → is_among marks m ≡ true
among_is [] m h = absurd h
among_is (x ∷ marks) m (inl e) = subst (λ z. (same_mark x z || is_among marks z) ≡ true) e (ap (λ b. (b || is_among marks x)) (same_itself x))
among_is (x ∷ marks) m (inr h) = rest (among_is marks m h) (same_mark x m)
  where
    rest : is_among marks m ≡ true → (b : Bool) → (b || is_among marks m) ≡ true
    rest more true = refl
    rest more false = more

filter_told : (p : Mark → Bool) (xs : List Mark) (m : Mark) → Has (filter p xs) m → Has xs m × (p m ≡ true)
filter_told p [] m h = absurd h
filter_told p (x ∷ xs) m h = split (filter_told p xs m) (p x) refl h
  where
    split : (Has (filter p xs) m → Has xs m × (p m ≡ true)) → (b : Bool) → p x ≡ b → Has (cond b (x ∷ filter p xs) (filter p xs)) m → Has (x ∷ xs) m × (p m ≡ true)
    split more true q (inl e) = (inl e, ap p (sym e) ∙ q)
    split more true q (inr k) = let r = more k in (inr r.0, r.1)
    split more false q k = let r = more k in (inr r.0, r.1)

filter_has : (p : Mark → Bool) (xs : List Mark) (m : Mark) → Has xs m → p m ≡ true → Has (filter p xs) m
filter_has p [] m h q = absurd h
filter_has p (x ∷ xs) m (inl e) q = subst (λ b. Has (cond b (x ∷ filter p xs) (filter p xs)) m) (sym (ap p e ∙ q)) (inl e)
filter_has p (x ∷ xs) m (inr h) q = split (filter_has p xs m h q) (p x)
  where
    split : Has (filter p xs) m → (b : Bool) → Has (cond b (x ∷ filter p xs) (filter p xs)) m
    split more true = inr more
    split more false = more

kept_told : (ss : List Snapshot) (marks : List Mark) (m : Mark) → Has (kept_in marks ss) m → Has marks m × AllByRecursion (λ s. IsMarked s m) ss
kept_told [] marks m h = (h, tt)
kept_told (s ∷ ss) marks m h =
    let r = kept_told ss (filter (is_among (marks_in s)) marks) m h in
    let f = filter_told (is_among (marks_in s)) marks m r.0 in
    (f.0, (told s m (among_told (marks_in s) m f.1), r.1))

kept_has : (ss : List Snapshot) (marks : List Mark) (m : Mark) → Has marks m → AllByRecursion (λ s. IsMarked s m) ss → Has (kept_in marks ss) m
kept_has [] marks m h all = h
kept_has (s ∷ ss) marks m h all = kept_has ss (filter (is_among (marks_in s)) marks) m (filter_has (is_among (marks_in s)) marks m h (among_is (marks_in s) m (found s m all.0))) all.1

pub common_told : (s : Snapshot) (ss : List Snapshot) (m : Mark) → Has (common_in (s ∷ ss)) m → AllByRecursion (λ t. IsMarked t m) (s ∷ ss)
common_told s ss m h = let r = kept_told ss (marks_in s) m h in (told s m r.0, r.1)

pub common_has : (s : Snapshot) (ss : List Snapshot) (m : Mark) → AllByRecursion (λ t. IsMarked t m) (s ∷ ss) → Has (common_in (s ∷ ss)) m
common_has s ss m all = kept_has ss (marks_in s) m (found s m all.0) all.1
