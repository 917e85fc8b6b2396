-- Miniheaps follow each other, and their slots are apart.
use Rattle.std.proofs.Common.{◌≡◌, ℕ, zero, suc, ◌+◌, ◌*◌, ◌<◌, ◌≤◌, ◌^◌, refl, ap, sym, ◌∙◌, subst, Bool, true, false, cond, arith, nat_eq, List, [], ◌∷◌, ◌++◌, length, get_or, take, drop, append_assoc, filter}
use Rattle.std.proofs.lemmas.Bool.{eqb-true, eqb-false, eq-eqb}
use Rattle.std.proofs.lemmas.List.{length-append, get_or-append-add, get_or_append_left, append-nil}
use Rattle.std.proofs.lemmas.List.Sums.{sum_by-cons, sum_by-take-le, sum_by_more, sum_by_push}
use Rattle.std.proofs.lemmas.List.Elements.{filter-append}
use Rattle.std.proofs.lemmas.Nat.{pow_pos}
use Rattle.miniheap.specs.Layout.{Mini, mini_bytes, mini_end, heap_from, count_of, nth_mini, minis_from, minis, mini_at, bytes_of, slots_from, mini_slots, all_slots, class_slots}
use Rattle.miniheap.proofs.ListLemmas.{flat_map-append, split_at, Rises, rises_lower, rises-append, times, times-append, times_once, times_found}

-- ---- one more miniheap

pub count_of_push : (d : ℕ) (cs : List ℕ) (c : ℕ) → count_of d (cs ++ c ∷ []) ≡ count_of d cs + cond (nat_eq c d) 1 0
count_of_push d cs c = sum_by_push (λ x. cond (nat_eq x d) 1 0) cs c

minis_from_push : (earlier : List ℕ) (base : ℕ) (cs : List ℕ) (c : ℕ)
    → minis_from earlier base (cs ++ c ∷ []) ≡ minis_from earlier base cs ++ nth_mini c (base + bytes_of (minis_from earlier base cs)) (count_of c (earlier ++ cs)) ∷ []
minis_from_push earlier base [] c =
    ap (λ (b : ℕ). nth_mini c b (count_of c earlier) ∷ []) (let e : base ≡ base + 0 = omega arith in e)
    ∙ ap (λ (e : List ℕ). nth_mini c (base + 0) (count_of c e) ∷ []) (sym (append-nil earlier))
minis_from_push earlier base (d ∷ cs) c =
    let m : Mini = nth_mini d base (count_of d earlier) in
    let r = minis_from_push (earlier ++ d ∷ []) (mini_end m) cs c in
    let e : base + bytes_of (m ∷ minis_from (earlier ++ d ∷ []) (mini_end m) cs) ≡ mini_end m + bytes_of (minis_from (earlier ++ d ∷ []) (mini_end m) cs) =
    omega (arith, sum_by-cons mini_bytes m (minis_from (earlier ++ d ∷ []) (mini_end m) cs)) in
    ap (λ (ms : List Mini). m ∷ ms) (r
    ∙ ap (λ (x : List ℕ). minis_from (earlier ++ d ∷ []) (mini_end m) cs ++ nth_mini c (mini_end m + bytes_of (minis_from (earlier ++ d ∷ []) (mini_end m) cs)) (count_of c x) ∷ []) (append_assoc earlier (d ∷ []) cs)
    ∙ ap (λ (b : ℕ). minis_from (earlier ++ d ∷ []) (mini_end m) cs ++ nth_mini c b (count_of c (earlier ++ d ∷ cs)) ∷ []) (sym e))

pub minis_push : (cs : List ℕ) (c : ℕ) → minis (cs ++ c ∷ []) ≡ minis cs ++ nth_mini c (heap_from + bytes_of (minis cs)) (count_of c cs) ∷ []
minis_push cs c = minis_from_push [] heap_from cs c

-- ---- the chain

abbrev pub Chain : ℕ → List Mini → Type 0
Chain base [] = Unit {0}
Chain base (m ∷ ms) = (m.base ≡ base) × Chain (mini_end m) ms

minis_from_chain : (earlier : List ℕ) (base : ℕ) (cs : List ℕ) → Chain base (minis_from earlier base cs)
minis_from_chain earlier base [] = tt
minis_from_chain earlier base (c ∷ cs) = (refl, minis_from_chain (earlier ++ c ∷ []) (mini_end (nth_mini c base (count_of c earlier))) cs)

pub minis_chain : (cs : List ℕ) → Chain heap_from (minis cs)
minis_chain cs = minis_from_chain [] heap_from cs

pub chain_base : (base : ℕ) (ms : List Mini) (i : ℕ) → Chain base ms → i < length ms → (mini_at ms i).base ≡ base + bytes_of (take i ms)
chain_base base [] i ch h = absurd (omega arith)
chain_base base (m ∷ ms) zero ch h = omega (arith, ch.0)
chain_base base (m ∷ ms) (suc i) ch h =
    chain_base (mini_end m) ms i ch.1 (omega arith) ∙ omega (arith, ch.0, sum_by-cons mini_bytes m (take i ms))

pub chain_end : (base : ℕ) (ms : List Mini) (i : ℕ) → Chain base ms → i < length ms → mini_end (mini_at ms i) ≤ base + bytes_of ms
chain_end base ms i ch h =
    let d : Mini = record { class = 0; base = 0; slots = 0 } in
    let b : (mini_at ms i).base ≡ base + bytes_of (take i ms) = chain_base base ms i ch h in
    let e : bytes_of (take (i + 1) ms) ≡ bytes_of (take i ms) + mini_bytes (mini_at ms i) = sum_by_more mini_bytes ms i d h in
    let f : bytes_of (take (i + 1) ms) ≤ bytes_of ms = sum_by-take-le mini_bytes ms (i + 1) in omega arith

-- ---- the slots of a miniheap

pub length-slots_from : (b z n : ℕ) → length (slots_from b z n) ≡ n
unfolding slots_from
length-slots_from b z zero = refl
length-slots_from b z (suc n) = ap suc (length-slots_from (b + z) z n)

pub get-slots_from : (b z n k : ℕ) → k < n → get_or (slots_from b z n) k 0 ≡ b + k * z
unfolding slots_from
get-slots_from b z zero k h = absurd (omega arith)
get-slots_from b z (suc n) zero h = omega arith
get-slots_from b z (suc n) (suc k) h = get-slots_from (b + z) z n k (omega arith) ∙ omega arith

pub rises-slots_from : (b z n : ℕ) → 0 < z → Rises b (b + n * z) (slots_from b z n)
unfolding slots_from
rises-slots_from b z zero h = omega arith
rises-slots_from b z (suc n) h = (
  omega arith,
  rises_lower (suc b) (b + z) (b + suc n * z) (slots_from (b + z) z n) (omega arith)
      (let e : b + z + n * z ≡ b + suc n * z = omega arith in subst (λ (x : ℕ). Rises (b + z) x (slots_from (b + z) z n)) e (rises-slots_from (b + z) z n h)),
)

pub chain_rises : (base : ℕ) (ms : List Mini) → Chain base ms → Rises base (base + bytes_of ms) (all_slots ms)
chain_rises base [] ch = omega arith
chain_rises base (m ∷ ms) ch =
    let r : Rises m.base (mini_end m) (mini_slots m) = rises-slots_from m.base (2 ^ m.class) m.slots (pow_pos m.class) in
    let s : Rises (mini_end m) (mini_end m + bytes_of ms) (all_slots ms) = chain_rises (mini_end m) ms ch.1 in
    let e : mini_end m + bytes_of ms ≡ base + bytes_of (m ∷ ms) = omega (arith, ch.0, sum_by-cons mini_bytes m ms) in
    rises-append base (mini_end m) (base + bytes_of (m ∷ ms)) (mini_slots m) (all_slots ms)
    (subst (λ (x : ℕ). Rises x (mini_end m) (mini_slots m)) ch.0 r) (subst (λ (x : ℕ). Rises (mini_end m) x (all_slots ms)) e s)

-- ---- slots by number

-- slot n of the miniheap at place i, among all slots of the miniheaps that a filter keeps
pub slot_by_place : (before rest : List Mini) (m : Mini) (n : ℕ) → n < m.slots
    → (length (all_slots before) + n < length (all_slots (before ++ m ∷ rest))) × (get_or (all_slots (before ++ m ∷ rest)) (length (all_slots before) + n) 0 ≡ m.base + n * 2 ^ m.class)
slot_by_place before rest m n h =
    let e : all_slots (before ++ m ∷ rest) ≡ all_slots before ++ (mini_slots m ++ all_slots rest) = flat_map-append mini_slots before (m ∷ rest) in
    let l : length (mini_slots m) ≡ m.slots = length-slots_from m.base (2 ^ m.class) m.slots in
    let k : n < length (mini_slots m) = omega arith in
    let whole : length (all_slots (before ++ m ∷ rest)) ≡ length (all_slots before) + (length (mini_slots m) + length (all_slots rest)) =
    ap length e ∙ length-append (all_slots before) (mini_slots m ++ all_slots rest) ∙ ap (λ (x : ℕ). length (all_slots before) + x) (length-append (mini_slots m) (all_slots rest)) in (
      omega (arith, whole, l, h),
      ap (λ (xs : List ℕ). get_or xs (length (all_slots before) + n) 0) e
          ∙ get_or-append-add (all_slots before) (mini_slots m ++ all_slots rest) n 0
          ∙ get_or_append_left (mini_slots m) (all_slots rest) 0 n k
          ∙ get-slots_from m.base (2 ^ m.class) m.slots n h,
    )

pub slot_of_all : (ms : List Mini) (i n : ℕ) → i < length ms → n < (mini_at ms i).slots
    → (length (all_slots (take i ms)) + n < length (all_slots ms)) × (get_or (all_slots ms) (length (all_slots (take i ms)) + n) 0 ≡ (mini_at ms i).base + n * 2 ^ (mini_at ms i).class)
slot_of_all ms i n h k =
    let e : ms ≡ take i ms ++ mini_at ms i ∷ drop (suc i) ms = split_at ms i (record { class = 0; base = 0; slots = 0 }) h in
    let r = slot_by_place (take i ms) (drop (suc i) ms) (mini_at ms i) n k in (
      subst (λ (xs : List Mini). length (all_slots (take i ms)) + n < length (all_slots xs)) (sym e) r.0,
      ap (λ (xs : List Mini). get_or (all_slots xs) (length (all_slots (take i ms)) + n) 0) e ∙ r.1,
    )

abbrev pub is_of : ℕ → Mini → Bool
is_of c m = nat_eq m.class c

pub filter_split : (c : ℕ) (before rest : List Mini) (m : Mini) → m.class ≡ c → filter (is_of c) (before ++ m ∷ rest) ≡ filter (is_of c) before ++ m ∷ filter (is_of c) rest
filter_split c before rest m e =
    filter-append (is_of c) before (m ∷ rest)
    ∙ ap (λ (t : Bool). filter (is_of c) before ++ cond t (m ∷ filter (is_of c) rest) (filter (is_of c) rest)) (eq-eqb m.class c e)

pub slot_of_class : (c : ℕ) (ms : List Mini) (i n : ℕ) → i < length ms → n < (mini_at ms i).slots → (mini_at ms i).class ≡ c
    → (length (class_slots c (take i ms)) + n < length (class_slots c ms)) × (get_or (class_slots c ms) (length (class_slots c (take i ms)) + n) 0 ≡ (mini_at ms i).base + n * 2 ^ (mini_at ms i).class)
slot_of_class c ms i n h k q =
    let e : ms ≡ take i ms ++ mini_at ms i ∷ drop (suc i) ms = split_at ms i (record { class = 0; base = 0; slots = 0 }) h in
    let f : filter (is_of c) ms ≡ filter (is_of c) (take i ms) ++ mini_at ms i ∷ filter (is_of c) (drop (suc i) ms) =
    ap (filter (is_of c)) e ∙ filter_split c (take i ms) (drop (suc i) ms) (mini_at ms i) q in
    let r = slot_by_place (filter (is_of c) (take i ms)) (filter (is_of c) (drop (suc i) ms)) (mini_at ms i) n k in (
      subst (λ (xs : List Mini). length (class_slots c (take i ms)) + n < length (all_slots xs)) (sym f) r.0,
      ap (λ (xs : List Mini). get_or (all_slots xs) (length (class_slots c (take i ms)) + n) 0) f ∙ r.1,
    )

-- ---- one more miniheap

pub class_slots_push : (c : ℕ) (ms : List Mini) (m : Mini) → class_slots c (ms ++ m ∷ []) ≡ class_slots c ms ++ cond (is_of c m) (mini_slots m) []
class_slots_push c ms m =
    ap all_slots (filter-append (is_of c) ms (m ∷ [])) ∙ flat_map-append mini_slots (filter (is_of c) ms) (filter (is_of c) (m ∷ []))
    ∙ ap (λ (xs : List ℕ). class_slots c ms ++ xs) (at (is_of c m))
  where
    at : (t : Bool) → all_slots (cond t (m ∷ []) []) ≡ cond t (mini_slots m) []
    at true = append-nil (mini_slots m)
    at false = refl

pub all_slots_push : (ms : List Mini) (m : Mini) → all_slots (ms ++ m ∷ []) ≡ all_slots ms ++ mini_slots m
all_slots_push ms m = flat_map-append mini_slots ms (m ∷ []) ∙ ap (λ (xs : List ℕ). all_slots ms ++ xs) (append-nil (mini_slots m))

pub bytes_of_push : (ms : List Mini) (m : Mini) → bytes_of (ms ++ m ∷ []) ≡ bytes_of ms + mini_bytes m
bytes_of_push ms m = sum_by_push mini_bytes ms m

-- ---- a slot has one class

pub two_classes : (a c d : ℕ) → (c ≡ d → ⊥) → (ms : List Mini) → times a (class_slots c ms) + times a (class_slots d ms) ≤ times a (all_slots ms)
two_classes a c d n [] = omega arith
two_classes a c d n (m ∷ ms) = at (is_of c m) (is_of d m) refl refl (two_classes a c d n ms)
  where
    at : (t u : Bool) → is_of c m ≡ t → is_of d m ≡ u → times a (class_slots c ms) + times a (class_slots d ms) ≤ times a (all_slots ms)
        → times a (all_slots (cond t (m ∷ filter (is_of c) ms) (filter (is_of c) ms))) + times a (all_slots (cond u (m ∷ filter (is_of d) ms) (filter (is_of d) ms))) ≤ times a (mini_slots m ++ all_slots ms)
    at true true e f r = absurd (n (sym (eqb-true m.class c e) ∙ eqb-true m.class d f))
    at true false e f r = omega (arith, r, times-append a (mini_slots m) (class_slots c ms), times-append a (mini_slots m) (all_slots ms))
    at false true e f r = omega (arith, r, times-append a (mini_slots m) (class_slots d ms), times-append a (mini_slots m) (all_slots ms))
    at false false e f r = omega (arith, r, times-append a (mini_slots m) (all_slots ms))

pub times_in_class : (base : ℕ) (ms : List Mini) (i n : ℕ) → Chain base ms → i < length ms → n < (mini_at ms i).slots → (d : ℕ)
    → times ((mini_at ms i).base + n * 2 ^ (mini_at ms i).class) (class_slots d ms) ≡ cond (nat_eq (mini_at ms i).class d) 1 0
times_in_class base ms i n ch h k d = at (nat_eq m.class d) refl
  where
    m : Mini
    m = mini_at ms i

    a : ℕ
    a = m.base + n * 2 ^ m.class

    once : times a (all_slots ms) ≤ 1
    once = times_once a base (base + bytes_of ms) (all_slots ms) (chain_rises base ms ch)

    found : 1 ≤ times a (class_slots m.class ms)
    found = let r = slot_of_class m.class ms i n h k refl in times_found a (class_slots m.class ms) (length (class_slots m.class (take i ms)) + n) r.0 r.1

    within : (c : ℕ) → (ns : List Mini) → times a (class_slots c ns) ≤ times a (all_slots ns)
    within c [] = omega arith
    within c (x ∷ xs) = in_one (is_of c x) (within c xs)
      where
        in_one : (t : Bool) → times a (class_slots c xs) ≤ times a (all_slots xs) → times a (all_slots (cond t (x ∷ filter (is_of c) xs) (filter (is_of c) xs))) ≤ times a (mini_slots x ++ all_slots xs)
        in_one true r = omega (arith, r, times-append a (mini_slots x) (class_slots c xs), times-append a (mini_slots x) (all_slots xs))
        in_one false r = omega (arith, r, times-append a (mini_slots x) (all_slots xs))

    at : (t : Bool) → nat_eq m.class d ≡ t → times a (class_slots d ms) ≡ cond t 1 0
    at true e =
        let q : m.class ≡ d = eqb-true m.class d e in
        subst (λ (x : ℕ). times a (class_slots x ms) ≡ 1) q (let w = within m.class ms in omega (arith, w, once, found))
    at false e = let w = two_classes a m.class d (eqb-false m.class d e) ms in omega (arith, w, once, found)

-- ---- how many slots there can be

pub class_bytes : (c : ℕ) (ms : List Mini) → length (class_slots c ms) * 2 ^ c ≤ bytes_of ms
class_bytes c [] = omega arith
class_bytes c (m ∷ ms) = at (is_of c m) refl (class_bytes c ms)
  where
    at : (t : Bool) → is_of c m ≡ t → length (class_slots c ms) * 2 ^ c ≤ bytes_of ms → length (all_slots (cond t (m ∷ filter (is_of c) ms) (filter (is_of c) ms))) * 2 ^ c ≤ bytes_of (m ∷ ms)
    at true e r =
        let l : length (mini_slots m ++ class_slots c ms) ≡ m.slots + length (class_slots c ms) = length-append (mini_slots m) (class_slots c ms) ∙ ap (λ (x : ℕ). x + length (class_slots c ms)) (length-slots_from m.base (2 ^ m.class) m.slots) in
        let q : m.slots * 2 ^ m.class ≡ m.slots * 2 ^ c = ap (λ (x : ℕ). m.slots * 2 ^ x) (eqb-true m.class c e) in
        rw l (omega (arith, r, q, sum_by-cons mini_bytes m ms))
    at false e r = omega (arith, r, sum_by-cons mini_bytes m ms)
