-- The state of a slot by its address, and what a change of it changes.
use Rattle.std.proofs.Common.{◌≡◌, ℕ, zero, suc, ◌+◌, ◌-◌, ◌*◌, ◌/◌, ◌<◌, ◌≤◌, ◌^◌, refl, ap, sym, ◌∙◌, Bool, true, false, cond, not, ◌&&◌, ◌||◌, ◌⊎◌, inl, inr, arith, nat_eq, nat_lt, nat_le, List, [], ◌∷◌, length, get_or, take, set, count_by, Some, None, option_map}
use Rattle.std.specs.List.{list_any}
use Rattle.std.specs.Ordering.{nat_cmp, eq_by_cmp}
use Rattle.std.specs.Cmp.{nat_cmp_total, unsigned_tied}
use Rattle.std.specs.FinSet.{FinSet, contains, insert, remove, from_list, contains-from_list_nat, contains-insert, contains-remove, same_set, nat_cmp-IsAntisymmetric}
use Rattle.std.proofs.lemmas.Bool.{eqb-true, eq-eqb, ne_eqb, le-leb, lt-leb, lt-ltb, le-ltb, cases_eq, and_right, and_left, or_cases, false_from_ne_true, true≢false}
use Rattle.std.proofs.lemmas.Nat.{pow_pos, div-mul-add, row_fits}
use Rattle.std.proofs.lemmas.List.Sums.{sum_by-cons}
use Rattle.miniheap.specs.declared.place.SlotState.{SlotState}
use Rattle.miniheap.specs.declared.place.SlotState.TheVariants.{Free, Held, Bad}
use Rattle.miniheap.specs.Layout.{Mini, mini_bytes, mini_end, heap_from, minis, mini_at, bytes_of, class_slots}
use Rattle.miniheap.specs.Places.{place_in, place_from}
use Rattle.miniheap.specs.Slots.{Slots, state_of, is_free_state, is_free, taken_count, marked, state_before, slot_in, slot_of, nth_slot, slot_from, slot_at}
use Rattle.miniheap.specs.Sound.{chosen, is_held_state}
use Rattle.miniheap.proofs.ListLemmas.{Rises, rises_bounds, rises_at, times, count_one_more}
use Rattle.miniheap.proofs.LayoutLemmas.{Chain, chain_base, minis_chain, times_in_class}

-- ---- membership in a list

abbrev pub among : ℕ → List ℕ → Bool
among q xs = list_any (λ y. nat_eq y q) xs

pub eq_turned : (q k : ℕ) → eq_by_cmp nat_cmp q k ≡ nat_eq q k
eq_turned q k = unsigned_tied q k

-- what is chosen lies where the addresses lie
pub chosen_within : (test : SlotState → Bool) (q low high : ℕ) (xs : List ℕ) (ts : List SlotState) → Rises low high xs → among q (chosen test xs ts) ≡ true → (low ≤ q) × (q < high)
chosen_within test q low high [] ts r h = absurd (true≢false (sym h))
chosen_within test q low high (a ∷ xs) [] r h = absurd (true≢false (sym h))
chosen_within test q low high (a ∷ xs) (t ∷ ts) r h =
    at (test t) (chosen_within test q (suc a) high xs ts r.1) (rises_bounds (suc a) high xs r.1) h
  where
    deep : (among q (chosen test xs ts) ≡ true → (suc a ≤ q) × (q < high)) → among q (chosen test xs ts) ≡ true → (low ≤ q) × (q < high)
    deep ih e = let b = ih e in (omega (arith, r.0, b.0), b.1)

    here : suc a ≤ high → (among q (chosen test xs ts) ≡ true → (suc a ≤ q) × (q < high)) → (nat_eq a q ≡ true) ⊎ (among q (chosen test xs ts) ≡ true) → (low ≤ q) × (q < high)
    here b ih (inl e) = let f : a ≡ q = eqb-true a q e in (omega (arith, r.0), omega arith)
    here b ih (inr e) = deep ih e

    at : (u : Bool) → (among q (chosen test xs ts) ≡ true → (suc a ≤ q) × (q < high)) → suc a ≤ high → among q (cond u (a ∷ chosen test xs ts) (chosen test xs ts)) ≡ true → (low ≤ q) × (q < high)
    at true ih b e = here b ih (or_cases (nat_eq a q) (among q (chosen test xs ts)) e)
    at false ih b e = deep ih e

pub not_chosen : (test : SlotState → Bool) (q low high : ℕ) (xs : List ℕ) (ts : List SlotState) → Rises low high xs → (q < low) ⊎ (high ≤ q) → among q (chosen test xs ts) ≡ false
not_chosen test q low high xs ts r h = false_from_ne_true (among q (chosen test xs ts)) (λ e. out h (chosen_within test q low high xs ts r e))
  where
    out : (q < low) ⊎ (high ≤ q) → (low ≤ q) × (q < high) → ⊥
    out (inl k) b = absurd (omega (arith, b.0))
    out (inr k) b = absurd (omega (arith, b.1))

-- an address is chosen exactly where its state passes
pub chosen_at : (test : SlotState → Bool) (low high : ℕ) (xs : List ℕ) (ts : List SlotState) (i : ℕ) → Rises low high xs → length ts ≡ length xs → i < length xs → among (get_or xs i 0) (chosen test xs ts) ≡ test (get_or ts i Free)
chosen_at test low high [] ts i r l h = absurd (omega arith)
chosen_at test low high (a ∷ xs) [] i r l h = absurd (omega arith)
chosen_at test low high (a ∷ xs) (t ∷ ts) zero r l h = at (test t) (not_chosen test a (suc a) high xs ts r.1 (inl (omega arith)))
  where
    at : (u : Bool) → among a (chosen test xs ts) ≡ false → among a (cond u (a ∷ chosen test xs ts) (chosen test xs ts)) ≡ u
    at true n = ap (λ (b : Bool). b || among a (chosen test xs ts)) (eq-eqb a a refl)
    at false n = n
chosen_at test low high (a ∷ xs) (t ∷ ts) (suc i) r l h =
    at (test t) (chosen_at test (suc a) high xs ts i r.1 (omega arith) (omega arith)) (ne_eqb a (get_or xs i 0) (λ e. omega (arith, (rises_at (suc a) high xs i r.1 (omega arith)).0)))
  where
    at : (u : Bool) → among (get_or xs i 0) (chosen test xs ts) ≡ test (get_or ts i Free) → nat_eq a (get_or xs i 0) ≡ false
        → among (get_or xs i 0) (cond u (a ∷ chosen test xs ts) (chosen test xs ts)) ≡ test (get_or ts i Free)
    at true ih n = ap (λ (b : Bool). b || among (get_or xs i 0) (chosen test xs ts)) n ∙ ih
    at false ih n = ih

-- ---- a state that changes

or_swap : (a b c : Bool) → (a || (b || c)) ≡ (b || (a || c))
or_swap true true c = refl
or_swap true false c = refl
or_swap false b c = refl

or_twice : (a b : Bool) → (a || b) ≡ (a || (a || b))
or_twice true b = refl
or_twice false b = refl

chosen_set_in : (test : SlotState → Bool) (q : ℕ) (t : SlotState) → test t ≡ true → (xs : List ℕ) (ts : List SlotState) (i : ℕ) → length ts ≡ length xs → i < length xs
    → among q (chosen test xs (set ts i t)) ≡ among q (get_or xs i 0 ∷ chosen test xs ts)
chosen_set_in test q t p [] ts i l h = absurd (omega arith)
chosen_set_in test q t p (a ∷ xs) [] i l h = absurd (omega arith)
chosen_set_in test q t p (a ∷ xs) (u ∷ ts) zero l h =
    ap (λ (b : Bool). among q (cond b (a ∷ chosen test xs ts) (chosen test xs ts))) p ∙ at (test u)
  where
    at : (b : Bool) → among q (a ∷ chosen test xs ts) ≡ among q (a ∷ cond b (a ∷ chosen test xs ts) (chosen test xs ts))
    at true = or_twice (nat_eq a q) (among q (chosen test xs ts))
    at false = refl
chosen_set_in test q t p (a ∷ xs) (u ∷ ts) (suc i) l h = at (test u) (chosen_set_in test q t p xs ts i (omega arith) (omega arith))
  where
    at : (b : Bool) → among q (chosen test xs (set ts i t)) ≡ among q (get_or xs i 0 ∷ chosen test xs ts)
        → among q (cond b (a ∷ chosen test xs (set ts i t)) (chosen test xs (set ts i t))) ≡ among q (get_or xs i 0 ∷ cond b (a ∷ chosen test xs ts) (chosen test xs ts))
    at true ih = ap (λ (b : Bool). nat_eq a q || b) ih ∙ or_swap (nat_eq a q) (nat_eq (get_or xs i 0) q) (among q (chosen test xs ts))
    at false ih = ih

chosen_set_out : (test : SlotState → Bool) (q : ℕ) (t : SlotState) → test t ≡ false → (low high : ℕ) (xs : List ℕ) (ts : List SlotState) (i : ℕ) → Rises low high xs → length ts ≡ length xs → i < length xs
    → among q (chosen test xs (set ts i t)) ≡ (not (nat_eq q (get_or xs i 0)) && among q (chosen test xs ts))
chosen_set_out test q t p low high [] ts i r l h = absurd (omega arith)
chosen_set_out test q t p low high (a ∷ xs) [] i r l h = absurd (omega arith)
chosen_set_out test q t p low high (a ∷ xs) (u ∷ ts) zero r l h =
    ap (λ (b : Bool). among q (cond b (a ∷ chosen test xs ts) (chosen test xs ts))) p ∙ by_place (cases_eq q a)
  where
    here : (b : Bool) → q ≡ a → among q (chosen test xs ts) ≡ (not (nat_eq q a) && among q (cond b (a ∷ chosen test xs ts) (chosen test xs ts)))
    here b e =
        not_chosen test q (suc a) high xs ts r.1 (inl (omega arith))
        ∙ sym (ap (λ (c : Bool). not c && among q (cond b (a ∷ chosen test xs ts) (chosen test xs ts))) (eq-eqb q a e))

    there : (b : Bool) → (q ≡ a → ⊥) → among q (chosen test xs ts) ≡ (not (nat_eq q a) && among q (cond b (a ∷ chosen test xs ts) (chosen test xs ts)))
    there true n =
        sym (ap (λ (c : Bool). not c && among q (a ∷ chosen test xs ts)) (ne_eqb q a n) ∙ ap (λ (c : Bool). c || among q (chosen test xs ts)) (ne_eqb a q (λ e. n (sym e))))
    there false n = sym (ap (λ (c : Bool). not c && among q (chosen test xs ts)) (ne_eqb q a n))

    by_place : (q ≡ a) ⊎ (q ≡ a → ⊥) → among q (chosen test xs ts) ≡ (not (nat_eq q a) && among q (cond (test u) (a ∷ chosen test xs ts) (chosen test xs ts)))
    by_place (inl e) = here (test u) e
    by_place (inr n) = there (test u) n
chosen_set_out test q t p low high (a ∷ xs) (u ∷ ts) (suc i) r l h =
    at (test u) (nat_eq a q) refl (chosen_set_out test q t p (suc a) high xs ts i r.1 (omega arith) (omega arith)) (rises_at (suc a) high xs i r.1 (omega arith)).0
  where
    at : (b c : Bool) → nat_eq a q ≡ c → among q (chosen test xs (set ts i t)) ≡ (not (nat_eq q (get_or xs i 0)) && among q (chosen test xs ts)) → suc a ≤ get_or xs i 0
        → among q (cond b (a ∷ chosen test xs (set ts i t)) (chosen test xs (set ts i t))) ≡ (not (nat_eq q (get_or xs i 0)) && among q (cond b (a ∷ chosen test xs ts) (chosen test xs ts)))
    at true true e ih k =
        ap (λ (d : Bool). d || among q (chosen test xs (set ts i t))) e
        ∙ sym (ap (λ (d : Bool). not d && (nat_eq a q || among q (chosen test xs ts))) (ne_eqb q (get_or xs i 0) (λ f. let g : a ≡ q = eqb-true a q e in omega arith))
        ∙ ap (λ (d : Bool). d || among q (chosen test xs ts)) e)
    at true false e ih k =
        ap (λ (d : Bool). d || among q (chosen test xs (set ts i t))) e ∙ ih
        ∙ sym (ap (λ (d : Bool). not (nat_eq q (get_or xs i 0)) && (d || among q (chosen test xs ts))) e)
    at false c e ih k = ih

chosen_set_same : (test : SlotState → Bool) (t : SlotState) (xs : List ℕ) (ts : List SlotState) (i : ℕ) → test t ≡ test (get_or ts i Free) → i < length ts → chosen test xs (set ts i t) ≡ chosen test xs ts
chosen_set_same test t xs [] i p h = absurd (omega arith)
chosen_set_same test t [] (u ∷ ts) zero p h = refl
chosen_set_same test t [] (u ∷ ts) (suc i) p h = refl
chosen_set_same test t (a ∷ xs) (u ∷ ts) zero p h = ap (λ (b : Bool). cond b (a ∷ chosen test xs ts) (chosen test xs ts)) p
chosen_set_same test t (a ∷ xs) (u ∷ ts) (suc i) p h = ap (λ (ys : List ℕ). cond (test u) (a ∷ ys) ys) (chosen_set_same test t xs ts i p (omega arith))

-- ---- the same as sets

pub set_of_in : (test : SlotState → Bool) (t : SlotState) → test t ≡ true → (xs : List ℕ) (ts : List SlotState) (i : ℕ) → length ts ≡ length xs → i < length xs
    → from_list {R = nat_cmp} (chosen test xs (set ts i t)) ≡ insert (from_list (chosen test xs ts)) (get_or xs i 0)
set_of_in test t p xs ts i l h = same_set nat_cmp_total nat_cmp-IsAntisymmetric _ _ (λ q.
    contains-from_list_nat (chosen test xs (set ts i t)) q ∙ chosen_set_in test q t p xs ts i l h ∙ sym (contains-from_list_nat (get_or xs i 0 ∷ chosen test xs ts) q))

pub set_of_out : (test : SlotState → Bool) (t : SlotState) → test t ≡ false → (low high : ℕ) (xs : List ℕ) (ts : List SlotState) (i : ℕ) → Rises low high xs → length ts ≡ length xs → i < length xs
    → from_list {R = nat_cmp} (chosen test xs (set ts i t)) ≡ remove (from_list (chosen test xs ts)) (get_or xs i 0)
set_of_out test t p low high xs ts i r l h = same_set nat_cmp_total nat_cmp-IsAntisymmetric _ _ (λ q.
    contains-from_list_nat (chosen test xs (set ts i t)) q
    ∙ chosen_set_out test q t p low high xs ts i r l h
    ∙ ap (λ (b : Bool). not (nat_eq q (get_or xs i 0)) && b) (sym (contains-from_list_nat (chosen test xs ts) q))
    ∙ ap (λ (b : Bool). not b && contains (from_list {R = nat_cmp} (chosen test xs ts)) q) (sym (eq_turned q (get_or xs i 0)))
    ∙ sym (contains-remove nat_cmp_total (from_list (chosen test xs ts)) (get_or xs i 0) q))

pub set_of_same : (test : SlotState → Bool) (t : SlotState) (xs : List ℕ) (ts : List SlotState) (i : ℕ) → test t ≡ test (get_or ts i Free) → i < length ts
    → from_list {R = nat_cmp} (chosen test xs (set ts i t)) ≡ from_list (chosen test xs ts)
set_of_same test t xs ts i p h = ap (λ (ys : List ℕ). from_list {R = nat_cmp} ys) (chosen_set_same test t xs ts i p h)

-- ---- the model's own changes

pub state_other : (s : Slots) (a q : ℕ) (t : SlotState) → (q ≡ a → ⊥) → state_of (marked s a t) q ≡ state_of s q
state_other s a q Free n =
    ap (λ (b : Bool). cond b Held (cond (contains s.bad q) Bad Free)) (contains-remove nat_cmp_total s.held a q ∙ ap (λ (b : Bool). not b && contains s.held q) (eq_turned q a ∙ ne_eqb q a n))
state_other s a q Held n =
    ap (λ (b : Bool). cond b Held (cond (contains s.bad q) Bad Free)) (contains-insert nat_cmp_total s.held a q ∙ ap (λ (b : Bool). b || contains s.held q) (eq_turned q a ∙ ne_eqb q a n))
state_other s a q Bad n =
    ap (λ (b : Bool). cond (contains s.held q) Held (cond b Bad Free)) (contains-insert nat_cmp_total s.bad a q ∙ ap (λ (b : Bool). b || contains s.bad q) (eq_turned q a ∙ ne_eqb q a n))

-- which sets hold an address, by its state
pub in_sets : (s : Slots) (a : ℕ) → contains s.held a ≡ is_held_state (state_of s a)
in_sets s a = at (contains s.held a) (contains s.bad a)
  where
    at : (b c : Bool) → b ≡ is_held_state (cond b Held (cond c Bad Free))
    at true c = refl
    at false true = refl
    at false false = refl

pub not_held : (s : Slots) (a : ℕ) → state_of s a ≡ Free → contains s.held a ≡ false
not_held s a e = in_sets s a ∙ ap is_held_state e

pub not_bad : (s : Slots) (a : ℕ) → state_of s a ≡ Free → contains s.bad a ≡ false
not_bad s a e = at (contains s.held a) (contains s.bad a) e
  where
    at : (b c : Bool) → cond b Held (cond c Bad Free) ≡ Free → c ≡ false
    at true c e = absurd (cc)
    at false true e = absurd (cc)
    at false false e = refl

inserted : (s : FinSet nat_cmp) (a : ℕ) → contains (insert s a) a ≡ true
inserted s a = contains-insert nat_cmp_total s a a ∙ ap (λ (b : Bool). b || contains s a) (eq_turned a a ∙ eq-eqb a a refl)

removed : (s : FinSet nat_cmp) (a : ℕ) → contains (remove s a) a ≡ false
removed s a = contains-remove nat_cmp_total s a a ∙ ap (λ (b : Bool). not b && contains s a) (eq_turned a a ∙ eq-eqb a a refl)

-- a slot that was in the state before is in the new one
pub state_same : (s : Slots) (a : ℕ) (t : SlotState) → state_of s a ≡ state_before t → contains s.bad a ≡ false → state_of (marked s a t) a ≡ t
state_same s a Free e b = ap (λ (h : Bool). cond h Held (cond (contains s.bad a) Bad Free)) (removed s.held a) ∙ ap (λ (h : Bool). cond h Bad Free) b
state_same s a Held e b = ap (λ (h : Bool). cond h Held (cond (contains s.bad a) Bad Free)) (inserted s.held a)
state_same s a Bad e b =
    ap (λ (h : Bool). cond h Held (cond (contains (insert s.bad a) a) Bad Free)) (not_held s a e) ∙ ap (λ (h : Bool). cond h Bad Free) (inserted s.bad a)

-- ---- counts

abbrev pub is_taken : Slots → ℕ → Bool
is_taken s a = not (is_free s a)

taken_other : (s : Slots) (a : ℕ) (t : SlotState) (q : ℕ) → (q ≡ a → ⊥) → is_taken (marked s a t) q ≡ is_taken s q
taken_other s a t q n = ap (λ (u : SlotState). not (is_free_state u)) (state_other s a q t n)

-- one slot more is taken, or one less
pub taken_list : (s : Slots) (a : ℕ) (t : SlotState) → state_of s a ≡ state_before t → contains s.bad a ≡ false → (xs : List ℕ)
    → count_by (is_taken (marked s a t)) xs + cond (is_free_state t) (times a xs) 0 ≡ count_by (is_taken s) xs + cond (is_free_state t) 0 (times a xs)
taken_list s a Free e b xs =
    let r : count_by (is_taken s) xs ≡ count_by (is_taken (marked s a Free)) xs + times a xs =
    count_one_more (is_taken (marked s a Free)) (is_taken s) a (ap (λ (u : SlotState). not (is_free_state u)) (state_same s a Free e b)) (ap (λ (u : SlotState). not (is_free_state u)) e) (λ q n. sym (taken_other s a Free q n)) xs in
    omega (arith, r)
taken_list s a Held e b xs =
    let r : count_by (is_taken (marked s a Held)) xs ≡ count_by (is_taken s) xs + times a xs =
    count_one_more (is_taken s) (is_taken (marked s a Held)) a (ap (λ (u : SlotState). not (is_free_state u)) e) (ap (λ (u : SlotState). not (is_free_state u)) (state_same s a Held e b)) (λ q n. taken_other s a Held q n) xs in
    omega (arith, r)
taken_list s a Bad e b xs =
    let r : count_by (is_taken (marked s a Bad)) xs ≡ count_by (is_taken s) xs + times a xs =
    count_one_more (is_taken s) (is_taken (marked s a Bad)) a (ap (λ (u : SlotState). not (is_free_state u)) e) (ap (λ (u : SlotState). not (is_free_state u)) (state_same s a Bad e b)) (λ q n. taken_other s a Bad q n) xs in
    omega (arith, r)

pub classes_same : (s : Slots) (a : ℕ) (t : SlotState) → (marked s a t).classes ≡ s.classes
classes_same s a Free = refl
classes_same s a Held = refl
classes_same s a Bad = refl

-- at slot n of miniheap i: by class
pub taken_marked : (s : Slots) (i n : ℕ) (t : SlotState) → i < length (minis s.classes) → n < (mini_at (minis s.classes) i).slots
    → state_of s (nth_slot s i n).addr ≡ state_before t → contains s.bad (nth_slot s i n).addr ≡ false → (d : ℕ)
    → taken_count (marked s (nth_slot s i n).addr t) d + cond (is_free_state t) (cond (nat_eq (mini_at (minis s.classes) i).class d) 1 0) 0
    ≡ taken_count s d + cond (is_free_state t) 0 (cond (nat_eq (mini_at (minis s.classes) i).class d) 1 0)
taken_marked s i n t h k e b d =
    let a : ℕ = (nth_slot s i n).addr in
    let xs : List ℕ = class_slots d (minis s.classes) in
    let once : times a xs ≡ cond (nat_eq (mini_at (minis s.classes) i).class d) 1 0 = times_in_class heap_from (minis s.classes) i n (minis_chain s.classes) h k d in
    let same : taken_count (marked s a t) d ≡ count_by (is_taken (marked s a t)) xs = ap (λ (cs : List ℕ). count_by (is_taken (marked s a t)) (class_slots d (minis cs))) (classes_same s a t) in
    ap (λ (x : ℕ). x + cond (is_free_state t) (cond (nat_eq (mini_at (minis s.classes) i).class d) 1 0) 0) same
    ∙ ap (λ (x : ℕ). count_by (is_taken (marked s a t)) xs + cond (is_free_state t) x 0) (sym once)
    ∙ taken_list s a t e b xs
    ∙ ap (λ (x : ℕ). count_by (is_taken s) xs + cond (is_free_state t) 0 x) once

-- ---- slots by address

pub slot_from_at : (s : Slots) (a j base : ℕ) (ms : List Mini) (i : ℕ) → Chain base ms → i < length ms → (mini_at ms i).base ≤ a → a < mini_end (mini_at ms i)
    → slot_from s a j ms ≡ Some (slot_in s (j + i) (mini_at ms i) ((a - (mini_at ms i).base) / 2 ^ (mini_at ms i).class))
slot_from_at s a j base [] i ch h lo hi = absurd (omega arith)
slot_from_at s a j base (m ∷ ms) zero ch h lo hi =
    ap (λ (b : Bool). cond (b && nat_lt a (mini_end m)) (Some (slot_in s j m ((a - m.base) / 2 ^ m.class))) (slot_from s a (suc j) ms)) (le-leb m.base a lo)
    ∙ ap (λ (b : Bool). cond b (Some (slot_in s j m ((a - m.base) / 2 ^ m.class))) (slot_from s a (suc j) ms)) (lt-ltb a (mini_end m) hi)
    ∙ ap (λ (x : ℕ). Some (slot_in s x m ((a - m.base) / 2 ^ m.class))) (let e : j ≡ j + 0 = omega arith in e)
slot_from_at s a j base (m ∷ ms) (suc i) ch h lo hi =
    let b : (mini_at ms i).base ≡ mini_end m + bytes_of (take i ms) = chain_base (mini_end m) ms i ch.1 (omega arith) in
    ap (λ (b : Bool). cond b (Some (slot_in s j m ((a - m.base) / 2 ^ m.class))) (slot_from s a (suc j) ms)) (and_right (nat_le m.base a) (nat_lt a (mini_end m)) (le-ltb a (mini_end m) (omega (arith, b, lo))))
    ∙ slot_from_at s a (suc j) (mini_end m) ms i ch.1 (omega arith) lo hi
    ∙ ap (λ (x : ℕ). Some (slot_in s x (mini_at ms i) ((a - (mini_at ms i).base) / 2 ^ (mini_at ms i).class))) (let e : suc j + i ≡ j + suc i = omega arith in e)

pub slot_from_none : (s : Slots) (a j base : ℕ) (ms : List Mini) → Chain base ms → (a < base) ⊎ (base + bytes_of ms ≤ a) → slot_from s a j ms ≡ None
slot_from_none s a j base [] ch h = refl
slot_from_none s a j base (m ∷ ms) ch h =
    ap (λ (b : Bool). cond b (Some (slot_in s j m ((a - m.base) / 2 ^ m.class))) (slot_from s a (suc j) ms)) (out h)
    ∙ slot_from_none s a (suc j) (mini_end m) ms ch.1 (on h)
  where
    out : (a < base) ⊎ (base + bytes_of (m ∷ ms) ≤ a) → (nat_le m.base a && nat_lt a (mini_end m)) ≡ false
    out (inl k) = and_left (nat_le m.base a) (nat_lt a (mini_end m)) (lt-leb m.base a (omega (arith, ch.0)))
    out (inr k) = and_right (nat_le m.base a) (nat_lt a (mini_end m)) (le-ltb a (mini_end m) (omega (arith, ch.0, sum_by-cons mini_bytes m ms)))

    on : (a < base) ⊎ (base + bytes_of (m ∷ ms) ≤ a) → (a < mini_end m) ⊎ (mini_end m + bytes_of ms ≤ a)
    on (inl k) = inl (omega (arith, ch.0))
    on (inr k) = inr (omega (arith, ch.0, sum_by-cons mini_bytes m ms))

-- the slot of an address is the one at the place of that address
pub slot_from_place : (s : Slots) (a i : ℕ) (ms : List Mini) → slot_from s a i ms ≡ option_map (slot_of s) (place_from a i ms)
slot_from_place s a i [] = refl
slot_from_place s a i (m ∷ ms) = at (nat_le m.base a && nat_lt a (mini_end m)) (slot_from_place s a (suc i) ms)
  where
    at : (b : Bool) → slot_from s a (suc i) ms ≡ option_map (slot_of s) (place_from a (suc i) ms)
        → cond b (Some (slot_in s i m ((a - m.base) / 2 ^ m.class))) (slot_from s a (suc i) ms) ≡ option_map (slot_of s) (cond b (Some (place_in i m ((a - m.base) / 2 ^ m.class))) (place_from a (suc i) ms))
    at true e = refl
    at false e = e

-- slot n of miniheap i is found by its address
pub nth_slot_at : (s : Slots) (i n : ℕ) → i < length (minis s.classes) → n < (mini_at (minis s.classes) i).slots → slot_at s (nth_slot s i n).addr ≡ Some (nth_slot s i n)
nth_slot_at s i n h k =
    let m : Mini = mini_at (minis s.classes) i in
    let fits : n * 2 ^ m.class + 2 ^ m.class ≤ m.slots * 2 ^ m.class = row_fits n (2 ^ m.class) m.slots (2 ^ m.class) k (omega arith) in
    let d : (m.base + n * 2 ^ m.class - m.base) / 2 ^ m.class ≡ n =
    ap (λ (x : ℕ). x / 2 ^ m.class) (let e : m.base + n * 2 ^ m.class - m.base ≡ n * 2 ^ m.class + 0 = omega arith in e) ∙ div-mul-add n (2 ^ m.class) 0 (pow_pos m.class) in
    slot_from_at s (m.base + n * 2 ^ m.class) 0 heap_from (minis s.classes) i (minis_chain s.classes) h (omega arith) (omega (arith, pow_pos m.class))
    ∙ ap (λ (x : ℕ). Some (slot_in s x m ((m.base + n * 2 ^ m.class - m.base) / 2 ^ m.class))) (let e : 0 + i ≡ i = omega arith in e)
    ∙ ap (λ (x : ℕ). Some (slot_in s i m x)) d
