-- The miniheaps of a heap are those of an image.
use Rattle.std.proofs.Common.{◌≡◌, ℕ, ◌+◌, ◌^◌, ◌≤◌, refl, ap, sym, ◌∙◌, arith, Bool, true, false, cond, max, ◌-◌, ◌&&◌, nat_le, List, [], ◌∷◌, ◌++◌, length, append_assoc, append-nil}
use Rattle.std.proofs.lemmas.Bool.{le-leb}
use Rattle.std.proofs.lemmas.Nat.{pow_pos}
use Rattle.std.proofs.Math.Nat.{le-mul_of_pos_right}
use Rattle.std.specs.Prelude.{All}
use Rattle.std.proofs.lemmas.List.Sums.{sum_by-cons}
use Rattle.std.proofs.lemmas.List.Elements.{All-head, All-tail}
use Rattle.size_class.specs.Classes.{first_slots, nth_slots, nth_bytes}
use Rattle.miniheap.specs.Layout.{mini_bytes, mini_end, heap_from, heap_limit, count_of, nth_mini, minis_from, bytes_of}
use Rattle.miniheap.specs.Places.{bytes_used, bytes_wanted}
use Rattle.heap_image.specs.Lawful.{Each, IsClass, AreMiniheaps}

abbrev InRange : ℕ → Type 0
InRange c = (4 ≤ c) × (c ≤ 22)

-- the bytes of miniheaps from a number on, wherever they lie
abbrev bytes_from : (earlier classes : List ℕ) → ℕ
bytes_from earlier classes = bytes_of (minis_from earlier heap_from classes)

pub bytes_first : (earlier : List ℕ) (c : ℕ) (cs : List ℕ) (a : ℕ)
    → bytes_of (minis_from earlier a (c ∷ cs)) ≡ nth_bytes c (count_of c earlier) + bytes_of (minis_from (earlier ++ c ∷ []) (mini_end (nth_mini c a (count_of c earlier))) cs)
bytes_first earlier c cs a =
    sum_by-cons mini_bytes (nth_mini c a (count_of c earlier)) (minis_from (earlier ++ c ∷ []) (mini_end (nth_mini c a (count_of c earlier))) cs)

anywhere : (earlier classes : List ℕ) (a b : ℕ) → bytes_of (minis_from earlier a classes) ≡ bytes_of (minis_from earlier b classes)
anywhere earlier [] a b = refl
anywhere earlier (c ∷ cs) a b =
    bytes_first earlier c cs a ∙ ap (λ (x : ℕ). nth_bytes c (count_of c earlier) + x) (anywhere (earlier ++ c ∷ []) cs (mini_end (nth_mini c a (count_of c earlier))) (mini_end (nth_mini c b (count_of c earlier)))) ∙ sym (bytes_first earlier c cs b)

-- one more behind them
bytes_more : (earlier classes : List ℕ) (a c : ℕ) → bytes_of (minis_from earlier a (classes ++ c ∷ [])) ≡ bytes_of (minis_from earlier a classes) + nth_bytes c (count_of c (earlier ++ classes))
bytes_more earlier [] a c =
    let e : bytes_of (minis_from (earlier ++ c ∷ []) (mini_end (nth_mini c a (count_of c earlier))) []) ≡ 0 = refl in
    let f : bytes_of (minis_from earlier a []) ≡ 0 = refl in
    let g : nth_bytes c (count_of c (earlier ++ [])) ≡ nth_bytes c (count_of c earlier) = ap (λ (x : List ℕ). nth_bytes c (count_of c x)) (append-nil earlier) in
    omega (arith, bytes_first earlier c [] a, e, f, g)
bytes_more earlier (d ∷ ds) a c =
    let b : ℕ = mini_end (nth_mini d a (count_of d earlier)) in
    let more : bytes_of (minis_from (earlier ++ d ∷ []) b (ds ++ c ∷ [])) ≡ bytes_of (minis_from (earlier ++ d ∷ []) b ds) + nth_bytes c (count_of c ((earlier ++ d ∷ []) ++ ds)) = bytes_more (earlier ++ d ∷ []) ds b c in
    let same : nth_bytes c (count_of c ((earlier ++ d ∷ []) ++ ds)) ≡ nth_bytes c (count_of c (earlier ++ d ∷ ds)) = ap (λ (x : List ℕ). nth_bytes c (count_of c x)) (append_assoc earlier (d ∷ []) ds) in
    omega (arith, more, same, bytes_first earlier d (ds ++ c ∷ []) a, bytes_first earlier d ds a)

first_some : (c : ℕ) → 1 ≤ first_slots c
unfolding first_slots
first_some c = at (nat_le c 16)
  where
    at : (t : Bool) → 1 ≤ cond t (max 4 (2 ^ (16 - c))) 4
    at true = omega arith
    at false = omega arith

nth_some : (c n : ℕ) → 1 ≤ nth_bytes c n
nth_some c n =
    let slots : first_slots c ≤ nth_slots c n = le-mul_of_pos_right (first_slots c) (pow_pos n) in
    let bytes : nth_slots c n ≤ nth_bytes c n = le-mul_of_pos_right (nth_slots c n) (pow_pos c) in
    omega (arith, first_some c, slots, bytes)

fits : (earlier : List ℕ) (c : ℕ) → 4 ≤ c → c ≤ 22 → bytes_used earlier + bytes_wanted earlier c ≤ heap_limit → IsClass 22 earlier c
fits earlier c low high room = record {
  word = omega (arith, high);
  fits = both (both (le-leb 4 c low) (le-leb c 22 high)) (le-leb (bytes_used earlier + bytes_wanted earlier c) heap_limit room);
}
  where
    both : {a b : Bool} → a ≡ true → b ≡ true → (a && b) ≡ true
    both e f = cc

each_class : (earlier classes : List ℕ) → All InRange classes → bytes_used earlier + bytes_from earlier classes ≤ heap_limit → Each (IsClass 22) earlier classes
each_class earlier [] range room = tt
each_class earlier (c ∷ cs) range room =
    let k : InRange c = All-head InRange c cs range in
    let one : bytes_used (earlier ++ c ∷ []) ≡ bytes_used earlier + nth_bytes c (count_of c earlier) = bytes_more [] earlier heap_from c in
    let first = bytes_first earlier c cs heap_from in
    let rest : bytes_from (earlier ++ c ∷ []) cs ≡ bytes_of (minis_from (earlier ++ c ∷ []) (mini_end (nth_mini c heap_from (count_of c earlier))) cs) = anywhere (earlier ++ c ∷ []) cs heap_from (mini_end (nth_mini c heap_from (count_of c earlier))) in
    (fits earlier c k.0 k.1 (omega (arith, first, room)), each_class (earlier ++ c ∷ []) cs (All-tail InRange c cs range) (omega (arith, one, first, rest, room)))

pub are_miniheaps : (classes : List ℕ) → All (λ c. (4 ≤ c) × (c ≤ 22)) classes → bytes_used classes ≤ heap_limit → AreMiniheaps classes
are_miniheaps classes range room = each_class [] classes range (omega (arith, room))

few_from : (earlier classes : List ℕ) (a : ℕ) → length classes ≤ bytes_of (minis_from earlier a classes)
few_from earlier [] a = omega arith
few_from earlier (c ∷ cs) a = let k = few_from (earlier ++ c ∷ []) cs (mini_end (nth_mini c a (count_of c earlier))) in omega (arith, k, nth_some c (count_of c earlier), bytes_first earlier c cs a)

-- each has a byte at least
pub few_miniheaps : (classes : List ℕ) → length classes ≤ bytes_used classes
few_miniheaps classes = few_from [] classes heap_from
