-- Vectors of the canary: what they hold, stores of them, and comparisons with them.
use Rattle.std.proofs.Common.{◌≡◌, ℕ, zero, suc, ◌+◌, ◌-◌, ◌*◌, ◌/◌, ◌%◌, ◌^◌, ◌<◌, ◌≤◌, Bool, true, false, not, ◌||◌, eqb, bit_or, cond, List, [], ◌∷◌, length, map, get_or, replicate, inl, inr, refl, ap, sym, ◌∙◌, subst, arith, w8}
use Rattle.std.proofs.lemmas.Bool.{cases_lt, cases_eq, eq-eqb, ne_eqb, eqb-true, not-false}
use Rattle.std.proofs.lemmas.Simd.{Each1-replicate, get_or_narrower, get_or-replicate, get_or-put_chunk_below, get_or-put_chunk_at, length-zip2, get_or-zip2, get_or-chunk, length-chunk, tops_compared, mask_l-mod}
use Rattle.std.specs.Bool.{OnFalse}
use lib.Lanes.{chunk, put_chunk, zip2, mask_l, top, number_l, digits_l}
use Rattle.diefast_canary.specs.Canary.{canary_byte, IsIntactTo}

-- the canary of an address is that of each address a multiple of four apart
canary_byte-period : (word address at k : ℕ) → at % 4 ≡ 0 → canary_byte word (address + k) ≡ canary_byte word (address + (at + k))
canary_byte-period word address at k whole =
    let e : (address + k) % 4 ≡ (address + (at + k)) % 4 = omega arith in
    ap (λ i. word / 256 ^ i % 256) e

-- the bytes from a place on are those of a vector
abbrev pub AreLanes : (bytes lanes : List ℕ) (at n : ℕ) → Type 0
AreLanes bytes lanes at n = (k : ℕ) → k < n → get_or bytes (at + k) 0 ≡ get_or lanes k 0

-- bytes that are those of a vector of the canary
pub canary_of_lanes : (word address : ℕ) (bytes lanes : List ℕ) (at n : ℕ) → at % 4 ≡ 0 → IsIntactTo word address lanes n
    → AreLanes bytes lanes at n → (k : ℕ) → k < n → get_or bytes (at + k) 0 ≡ canary_byte word (address + (at + k))
canary_of_lanes word address bytes lanes at n whole of_lanes same k low = same k low ∙ of_lanes k low ∙ canary_byte-period word address at k whole

-- so much more of the bytes is intact
pub intact_on : (word address : ℕ) (bytes lanes : List ℕ) (at n : ℕ) → at % 4 ≡ 0 → IsIntactTo word address bytes at → IsIntactTo word address lanes n
    → AreLanes bytes lanes at n → IsIntactTo word address bytes (at + n)
intact_on word address bytes lanes at n whole before of_lanes same k low =
    elim (cases_lt k at) [
      | inl early ↦ before k early
      | inr late ↦
          let back : at + (k - at) ≡ k = omega arith in
          subst (λ i. get_or bytes i 0 ≡ canary_byte word (address + i)) back (canary_of_lanes word address bytes lanes at n whole of_lanes same (k - at) (omega arith))
    ]

-- a vector of the canary was stored
pub intact_stored : (word address : ℕ) (bytes lanes : List ℕ) (at n : ℕ) → length lanes ≡ n → at + n ≤ length bytes → at % 4 ≡ 0 → IsIntactTo word address bytes at → IsIntactTo word address lanes n
    → IsIntactTo word address (put_chunk at bytes lanes) (at + n)
intact_stored word address bytes lanes at n long room whole before of_lanes =
    intact_on word address (put_chunk at bytes lanes) lanes at n whole
    (λ k low. get_or-put_chunk_below at bytes lanes k 0 low ∙ before k low)
    of_lanes
    (λ k low. get_or-put_chunk_at at bytes lanes k 0 (omega arith) (omega arith))

-- a word that is turned and repeated, as bytes
pub intact_words : (word address turned n : ℕ) → turned < 2 ^ 32 → ((k : ℕ) → canary_byte turned k ≡ canary_byte word (address + k))
    → IsIntactTo word address (digits_l 256 (4 * n) (number_l (2 ^ 32) (replicate n turned))) (4 * n)
intact_words word address turned n small bytes k low =
    let back : 4 * (k / 4) + k % 4 ≡ k = omega arith in
    let whole : get_or (replicate n turned) (k / 4) 0 ≡ turned = get_or-replicate n (k / 4) turned 0 (omega arith) in
    let part : get_or (digits_l 256 (4 * n) (number_l (2 ^ 32) (replicate n turned))) (4 * (k / 4) + k % 4) 0 ≡ get_or (replicate n turned) (k / 4) 0 / 256 ^ (k % 4) % 256 =
    get_or_narrower (2 ^ 32) 4 256 (4 * n) (replicate n turned) (k / 4) (k % 4) refl (Each1-replicate (λ x. x < 2 ^ 32) n turned small) (omega arith) (omega arith) in
    subst (λ i. get_or (digits_l 256 (4 * n) (number_l (2 ^ 32) (replicate n turned))) i 0 ≡ canary_byte turned k) back
    (part ∙ ap (λ x. x / 256 ^ (k % 4) % 256) whole) ∙ bytes k

-- no bit of a mask is set
zero_mask : (ms : List Bool) → mask_l ms ≡ 0 → (k : ℕ) → get_or ms k false ≡ false
zero_mask [] none k = refl
zero_mask (true ∷ ms) none k = absurd (omega arith)
zero_mask (false ∷ ms) none zero = refl
zero_mask (false ∷ ms) none (suc k) = zero_mask ms (omega arith) k

abbrev differ : ℕ → ℕ → Bool
differ a b = not (eqb a b)

-- the mask of two vectors that are compared, a load from a run of bytes and one more
abbrev difference : (bytes lanes : List ℕ) (at n : ℕ) → ℕ
difference bytes lanes at n = mask_l (map (top 7) (zip2 (λ a b. cond (not (eqb a b)) 255 0) (chunk at n bytes) lanes)) % 2 ^ 64

-- a lane that doesn't differ is the byte's
same_lane : (bytes lanes : List ℕ) (at n k : ℕ) → at + n ≤ length bytes → length lanes ≡ n → k < n
    → get_or (zip2 differ (chunk at n bytes) lanes) k false ≡ false → get_or bytes (at + k) 0 ≡ get_or lanes k 0
same_lane bytes lanes at n k room long low none =
    let xs = chunk at n bytes in
    let wide : length xs ≡ n = length-chunk at n bytes room in
    let equal : not (eqb (get_or xs k 0) (get_or lanes k 0)) ≡ false =
    sym (get_or-zip2 differ xs lanes k 0 0 false (omega arith) (omega arith)) ∙ none in
    sym (get_or-chunk at n bytes k 0 low) ∙ eqb-true _ _ (not-false _ equal)

same_lanes : (bytes lanes : List ℕ) (at n : ℕ) → at + n ≤ length bytes → length lanes ≡ n → n ≤ 64 → difference bytes lanes at n ≡ 0 → AreLanes bytes lanes at n
same_lanes bytes lanes at n room long few none k low =
    let xs = chunk at n bytes in
    let wide : length xs ≡ n = length-chunk at n bytes room in
    let all : length (zip2 differ xs lanes) ≡ n = length-zip2 differ xs lanes (wide ∙ sym long) ∙ wide in
    let mask : mask_l (zip2 differ xs lanes) ≡ 0 =
    sym (mask_l-mod (zip2 differ xs lanes) 64 (omega arith)) ∙ ap (λ ms. mask_l ms % 2 ^ 64) (sym (tops_compared w8 differ xs lanes)) ∙ none in
    same_lane bytes lanes at n k room long low (zero_mask (zip2 differ xs lanes) mask k)

pub same_where_none : (bytes lanes : List ℕ) (at n : ℕ) → at + n ≤ length bytes → length lanes ≡ n → n ≤ 64
    → OnFalse (not (eqb (difference bytes lanes at n) 0)) (AreLanes bytes lanes at n)
same_where_none bytes lanes at n room long few =
    elim (cases_eq (difference bytes lanes at n) 0) [
      | inl none ↦ subst (λ b. OnFalse (not b) (AreLanes bytes lanes at n)) (sym (eq-eqb _ _ none)) (same_lanes bytes lanes at n room long few none)
      | inr some ↦ subst (λ b. OnFalse (not b) (AreLanes bytes lanes at n)) (sym (ne_eqb _ _ some)) tt
    ]

-- ---- four vectors that are compared by one test

abbrev either : Bool → Bool → Bool
either a b = a || b

-- a comparison's lane
abbrev lane : Bool → ℕ
lane b = cond b 255 0

-- the lanes of two vectors that are compared, one from a place on
abbrev compared : (bytes lanes : List ℕ) (at : ℕ) → List ℕ
compared bytes lanes at = zip2 (λ a b. lane (differ a b)) (chunk at 32 bytes) lanes

lanes_compared : (xs ys : List ℕ) → zip2 (λ a b. lane (differ a b)) xs ys ≡ map lane (zip2 differ xs ys)
lanes_compared [] ys = refl
lanes_compared (x ∷ xs) [] = refl
lanes_compared (x ∷ xs) (y ∷ ys) = ap (λ ls. lane (differ x y) ∷ ls) (lanes_compared xs ys)

lane_or : (a b : Bool) → bit_or (lane a) (lane b) ≡ lane (either a b)
lane_or true true = refl
lane_or true false = refl
lane_or false true = refl
lane_or false false = refl

lanes_or : (xs ys : List Bool) → zip2 bit_or (map lane xs) (map lane ys) ≡ map lane (zip2 either xs ys)
lanes_or [] ys = refl
lanes_or (x ∷ xs) [] = refl
lanes_or (x ∷ xs) (y ∷ ys) =
    let head = lane_or x y in
    let tail = lanes_or xs ys in
    cc

lane_top : (b : Bool) → top 7 (lane b) ≡ b
lane_top true = refl
lane_top false = refl

lane_tops : (bs : List Bool) → map (top 7) (map lane bs) ≡ bs
lane_tops [] = refl
lane_tops (b ∷ bs) =
    let head = lane_top b in
    let tail = lane_tops bs in
    cc

pair_or : (ls rs : List ℕ) (xs ys : List Bool) → ls ≡ map lane xs → rs ≡ map lane ys → zip2 bit_or ls rs ≡ map lane (zip2 either xs ys)
pair_or ls rs xs ys e f = ap (λ ns. zip2 bit_or ns rs) e ∙ ap (zip2 bit_or (map lane xs)) f ∙ lanes_or xs ys

abbrev differing : (bytes lanes : List ℕ) (at : ℕ) → List Bool
differing bytes lanes at = zip2 differ (chunk at 32 bytes) lanes

abbrev differing_of_four : (bytes lanes : List ℕ) (at : ℕ) → List Bool
differing_of_four bytes lanes at = zip2 either (zip2 either (differing bytes lanes at) (differing bytes lanes (at + 32))) (zip2 either (differing bytes lanes (at + 64)) (differing bytes lanes (at + 96)))

abbrev compared_of_four : (bytes lanes : List ℕ) (at : ℕ) → List ℕ
compared_of_four bytes lanes at = zip2 bit_or (zip2 bit_or (compared bytes lanes at) (compared bytes lanes (at + 32))) (zip2 bit_or (compared bytes lanes (at + 64)) (compared bytes lanes (at + 96)))

tops_of_four : (bytes lanes : List ℕ) (at : ℕ) → map (top 7) (compared_of_four bytes lanes at) ≡ differing_of_four bytes lanes at
tops_of_four bytes lanes at =
    let each = λ (o : ℕ). lanes_compared (chunk o 32 bytes) lanes in
    let all : compared_of_four bytes lanes at ≡ map lane (differing_of_four bytes lanes at) =
    pair_or _ _ _ _ (pair_or _ _ _ _ (each at) (each (at + 32))) (pair_or _ _ _ _ (each (at + 64)) (each (at + 96))) in
    ap (map (top 7)) all ∙ lane_tops (differing_of_four bytes lanes at)

length-differing : (bytes lanes : List ℕ) (at : ℕ) → at + 32 ≤ length bytes → length lanes ≡ 32 → length (differing bytes lanes at) ≡ 32
length-differing bytes lanes at room long =
    let wide : length (chunk at 32 bytes) ≡ 32 = length-chunk at 32 bytes room in
    length-zip2 differ (chunk at 32 bytes) lanes (wide ∙ sym long) ∙ wide

length-either : (n : ℕ) (xs ys : List Bool) → length xs ≡ n → length ys ≡ n → length (zip2 either xs ys) ≡ n
length-either n xs ys e f = length-zip2 either xs ys (e ∙ sym f) ∙ e

neither : (a b : Bool) → either a b ≡ false → (a ≡ false) × (b ≡ false)
neither true b e = cc
neither false b e = (refl, e)

neither_at : (xs ys : List Bool) (n k : ℕ) → length xs ≡ n → length ys ≡ n → k < n → get_or (zip2 either xs ys) k false ≡ false
    → (get_or xs k false ≡ false) × (get_or ys k false ≡ false)
neither_at xs ys n k e f low none = neither _ _ (sym (get_or-zip2 either xs ys k false false false (omega arith) (omega arith)) ∙ none)

-- the bytes from a place on are those of a vector that is repeated
abbrev pub AreRepeated : (bytes lanes : List ℕ) (at n : ℕ) → Type 0
AreRepeated bytes lanes at n = (k : ℕ) → k < n → get_or bytes (at + k) 0 ≡ get_or lanes (k % 32) 0

same_four : (bytes lanes : List ℕ) (at : ℕ) → at + 128 ≤ length bytes → length lanes ≡ 32
    → ((j : ℕ) → get_or (differing_of_four bytes lanes at) j false ≡ false) → AreRepeated bytes lanes at 128
same_four bytes lanes at room long none k low =
    let long0 = length-differing bytes lanes at (omega arith) long in
    let long1 = length-differing bytes lanes (at + 32) (omega arith) long in
    let long2 = length-differing bytes lanes (at + 64) (omega arith) long in
    let long3 = length-differing bytes lanes (at + 96) (omega arith) long in
    let small : k % 32 < 32 = omega arith in
    let halves = neither_at _ _ 32 (k % 32) (length-either 32 _ _ long0 long1) (length-either 32 _ _ long2 long3) small (none (k % 32)) in
    let near = neither_at _ _ 32 (k % 32) long0 long1 small halves.0 in
    let far = neither_at _ _ 32 (k % 32) long2 long3 small halves.1 in
    let in0 = same_lane bytes lanes at 32 (k % 32) (omega arith) long small near.0 in
    let in1 = same_lane bytes lanes (at + 32) 32 (k % 32) (omega arith) long small near.1 in
    let in2 = same_lane bytes lanes (at + 64) 32 (k % 32) (omega arith) long small far.0 in
    let in3 = same_lane bytes lanes (at + 96) 32 (k % 32) (omega arith) long small far.1 in
    elim (cases_lt k 64) [
      | inl near ↦ elim (cases_lt k 32) [
        | inl first ↦ let e : at + k % 32 ≡ at + k = omega arith in subst (λ i. get_or bytes i 0 ≡ get_or lanes (k % 32) 0) e in0
        | inr second ↦ let e : at + 32 + k % 32 ≡ at + k = omega arith in subst (λ i. get_or bytes i 0 ≡ get_or lanes (k % 32) 0) e in1
      ]
      | inr far ↦ elim (cases_lt k 96) [
        | inl third ↦ let e : at + 64 + k % 32 ≡ at + k = omega arith in subst (λ i. get_or bytes i 0 ≡ get_or lanes (k % 32) 0) e in2
        | inr fourth ↦ let e : at + 96 + k % 32 ≡ at + k = omega arith in subst (λ i. get_or bytes i 0 ≡ get_or lanes (k % 32) 0) e in3
      ]
    ]

pub same_where_four_agree : (bytes lanes : List ℕ) (at : ℕ) → at + 128 ≤ length bytes → length lanes ≡ 32
    → OnFalse (not (eqb (mask_l (map (top 7) (compared_of_four bytes lanes at)) % 2 ^ 64) 0)) (AreRepeated bytes lanes at 128)
same_where_four_agree bytes lanes at room long =
    let mask : mask_l (map (top 7) (compared_of_four bytes lanes at)) ≡ mask_l (differing_of_four bytes lanes at) = ap mask_l (tops_of_four bytes lanes at) in
    let long_near = length-either 32 _ _ (length-differing bytes lanes at (omega arith) long) (length-differing bytes lanes (at + 32) (omega arith) long) in
    let long_far = length-either 32 _ _ (length-differing bytes lanes (at + 64) (omega arith) long) (length-differing bytes lanes (at + 96) (omega arith) long) in
    let wide : length (differing_of_four bytes lanes at) ≡ 32 = length-either 32 _ _ long_near long_far in
    let fits : mask_l (differing_of_four bytes lanes at) % 2 ^ 64 ≡ mask_l (differing_of_four bytes lanes at) = mask_l-mod (differing_of_four bytes lanes at) 64 (omega arith) in
    elim (cases_eq (mask_l (map (top 7) (compared_of_four bytes lanes at)) % 2 ^ 64) 0) [
      | inl none ↦
          let zeros = zero_mask (differing_of_four bytes lanes at) (sym fits ∙ ap (λ m. m % 2 ^ 64) (sym mask) ∙ none) in
          subst (λ b. OnFalse (not b) (AreRepeated bytes lanes at 128)) (sym (eq-eqb _ _ none)) (same_four bytes lanes at room long zeros)
      | inr some ↦ subst (λ b. OnFalse (not b) (AreRepeated bytes lanes at 128)) (sym (ne_eqb _ _ some)) tt
    ]

-- so much more of the bytes is intact
pub intact_block : (word address : ℕ) (bytes lanes : List ℕ) (at : ℕ) → at % 4 ≡ 0 → IsIntactTo word address bytes at → IsIntactTo word address lanes 32
    → AreRepeated bytes lanes at 128 → IsIntactTo word address bytes (at + 128)
intact_block word address bytes lanes at whole before of_lanes same k low =
    elim (cases_lt k at) [
      | inl early ↦ before k early
      | inr late ↦
          let back : at + (k - at) ≡ k = omega arith in
          let e : (address + (k - at) % 32) % 4 ≡ (address + k) % 4 = omega arith in
          subst (λ i. get_or bytes i 0 ≡ canary_byte word (address + k)) back
          (same (k - at) (omega arith) ∙ of_lanes ((k - at) % 32) (omega arith) ∙ ap (λ i. word / 256 ^ i % 256) e)
    ]
