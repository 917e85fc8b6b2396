-- What areas in order map, span by span.
use Rattle.std.proofs.Common.{◌≡◌, ℕ, zero, suc, ◌+◌, ◌≤◌, ◌<◌, ◌-◌, get_or, refl, sym, ◌∙◌, ap, subst, arith, Bool, true, false, cond, ◌&&◌, List, [], ◌∷◌, map, Option, Some, None, is_some, nat_le, nat_lt}
use Rattle.std.proofs.lemmas.Bool.Decides.{nat_tests}
use Rattle.std.proofs.lemmas.Bool.{leb-true, ltb-true}
use Rattle.infinite_heap.specs.InfiniteSystem.{all_in}
use Rattle.infinite_heap.specs.Mapped.{holds, byte_at, writable_at, runs_at}
use Rattle.blind_judge.specs.declared.areas.Area.{Area}
use Rattle.blind_judge.specs.declared.areas.Purpose.{Purpose}
use Rattle.blind_judge.specs.declared.areas.Purpose.TheVariants.{Reading, Writing, Running}
use Rattle.blind_judge.specs.Areas.{are_in_order, area_at, granted, grants, mapping_by, segment_of, test_of}

pub two_ways : (b : Bool) (P : Bool → Type 0) → (b ≡ true → P true) → (b ≡ false → P false) → P b
two_ways true P h k = h refl
two_ways false P h k = k refl

mapped_at : (areas : List Area) (x : ℕ) → is_some (byte_at (map segment_of areas) x) ≡ is_some (area_at areas x)
mapped_at [] x = refl
mapped_at (a ∷ bs) x = two_ways (holds (segment_of a) x) (λ b. is_some (cond b (Some (get_or [] (x - a.from) 0)) (byte_at (map segment_of bs) x)) ≡ is_some (cond b (Some a) (area_at bs x))) (λ e. refl) (λ e. mapped_at bs x)

some_granted : (o : Option Area) → is_some o ≡ granted Reading o
some_granted None = refl
some_granted (Some a) = refl

writable_granted : (areas : List Area) (x : ℕ) → writable_at (map segment_of areas) x ≡ granted Writing (area_at areas x)
writable_granted [] x = refl
writable_granted (a ∷ bs) x = two_ways (holds (segment_of a) x) (λ b. cond b a.writable (writable_at (map segment_of bs) x) ≡ granted Writing (cond b (Some a) (area_at bs x))) (λ e. refl) (λ e. writable_granted bs x)

runs_granted : (areas : List Area) (x : ℕ) → runs_at (map segment_of areas) x ≡ granted Running (area_at areas x)
runs_granted [] x = refl
runs_granted (a ∷ bs) x = two_ways (holds (segment_of a) x) (λ b. cond b a.runs (runs_at (map segment_of bs) x) ≡ granted Running (cond b (Some a) (area_at bs x))) (λ e. refl) (λ e. runs_granted bs x)

-- an address may be used for what its area grants
pub test_granted : (p : Purpose) (areas : List Area) (x : ℕ) → test_of p (mapping_by areas) x ≡ granted p (area_at areas x)
test_granted Reading areas x = mapped_at areas x ∙ some_granted (area_at areas x)
test_granted Writing areas x = writable_granted areas x
test_granted Running areas x = runs_granted areas x

-- ---- areas in order

-- each area begins behind the one before
abbrev AreInOrder : (low : ℕ) → List Area → Type 0
AreInOrder low [] = Unit {0}
AreInOrder low (a ∷ bs) = (low ≤ a.from) × AreInOrder (a.from + a.len) bs

both : (a b : Bool) → (a && b) ≡ true → (a ≡ true) × (b ≡ true)
both true b h = (refl, h)
both false b h = absurd (cc)

order_of : (low : ℕ) (areas : List Area) → are_in_order low areas ≡ true → AreInOrder low areas
order_of low [] h = tt
order_of low (a ∷ bs) h = let (first, rest) = both (nat_le low a.from) (are_in_order (a.from + a.len) bs) h in (leb-true low a.from first, order_of (a.from + a.len) bs rest)

above : (low : ℕ) (areas : List Area) (x : ℕ) (a : Area) → AreInOrder low areas → area_at areas x ≡ Some a → low ≤ a.from
above low [] x a order e = absurd (cc)
above low (b ∷ bs) x a order e = two_ways (holds (segment_of b) x) (λ t. cond t (Some b) (area_at bs x) ≡ Some a → low ≤ a.from)
    (λ h e. let same : b ≡ a = cc in subst (λ (z : Area). low ≤ z.from) same order.0)
    (λ h e. let more = above (b.from + b.len) bs x a order.1 e in omega (arith, order.0, more)) e

holds-true : (a : Area) (y : ℕ) → a.from ≤ y → y < a.from + a.len → holds (segment_of a) y ≡ true
holds-true a y low high = grind (arith, nat_tests)

holds-false : (a : Area) (y : ℕ) → a.from + a.len ≤ y → holds (segment_of a) y ≡ false
holds-false a y far = grind (arith, nat_tests)

holds-from : (a : Area) (x : ℕ) → holds (segment_of a) x ≡ true → a.from ≤ x
holds-from a x h = grind (arith, nat_tests)

pub holds_parts : (a : Area) (x : ℕ) → holds (segment_of a) x ≡ true → (a.from ≤ x) × (x < a.from + a.len)
holds_parts a x h = let (low, high) = both (nat_le a.from x) (nat_lt x (a.from + a.len)) h in (leb-true a.from x low, ltb-true x (a.from + a.len) high)

-- the area of an address holds each further one up to its end
same_in_order : (low : ℕ) (areas : List Area) (x y : ℕ) (a : Area) → AreInOrder low areas → area_at areas x ≡ Some a → x ≤ y → y < a.from + a.len → area_at areas y ≡ Some a
same_in_order low [] x y a order e up down = absurd (cc)
same_in_order low (b ∷ bs) x y a order e up down = two_ways (holds (segment_of b) x) (λ t. cond t (Some b) (area_at bs x) ≡ Some a → area_at (b ∷ bs) y ≡ Some a)
    (λ h e. let same : b ≡ a = cc in
    let at : b.from ≤ y = omega (arith, holds-from b x h) in
    let end : y < b.from + b.len = subst (λ (z : Area). y < z.from + z.len) (sym same) down in
    subst (λ t. cond t (Some b) (area_at bs y) ≡ Some a) (sym (holds-true b y at end)) (ap Some same))
    (λ h e. let far = above (b.from + b.len) bs x a order.1 e in
    let from = held bs x a e in
    subst (λ t. cond t (Some b) (area_at bs y) ≡ Some a) (sym (holds-false b y (omega arith))) (same_in_order (b.from + b.len) bs x y a order.1 e up down)) e
  where
    held : (areas : List Area) (x : ℕ) (a : Area) → area_at areas x ≡ Some a → a.from ≤ x
    held [] x a e = absurd (cc)
    held (b ∷ bs) x a e = two_ways (holds (segment_of b) x) (λ t. cond t (Some b) (area_at bs x) ≡ Some a → a.from ≤ x)
        (λ h e. let same : b ≡ a = cc in subst (λ (z : Area). z.from ≤ x) same (holds-from b x h))
        (λ h e. held bs x a e) e

pub same_area : (areas : List Area) (x y : ℕ) (a : Area) → are_in_order 0 areas ≡ true → area_at areas x ≡ Some a → x ≤ y → y < a.from + a.len → area_at areas y ≡ Some a
same_area areas x y a order = same_in_order 0 areas x y a (order_of 0 areas order)

pub all_in_area : (p : Purpose) (areas : List Area) (x n : ℕ) (a : Area) → are_in_order 0 areas ≡ true → area_at areas x ≡ Some a → x + n ≤ a.from + a.len → grants p a ≡ true
    → all_in (test_of p (mapping_by areas)) x n ≡ true
all_in_area p areas x zero a order e end g = refl
all_in_area p areas x (suc zero) a order e end g =
    let here : test_of p (mapping_by areas) x ≡ true = test_granted p areas x ∙ ap (granted p) e ∙ g in
    ap (λ b. b && true) here
all_in_area p areas x (suc (suc n)) a order e end g =
    let here : test_of p (mapping_by areas) x ≡ true = test_granted p areas x ∙ ap (granted p) e ∙ g in
    let next = same_area areas x (x + 1) a order e (omega arith) (omega arith) in
    ap (λ b. b && all_in (test_of p (mapping_by areas)) (x + 1) (suc n)) here ∙ all_in_area p areas (x + 1) (suc n) a order next (omega arith) g

pub all_in_append : (P : ℕ → Bool) (x m n : ℕ) → all_in P x m ≡ true → all_in P x (m + n) ≡ all_in P (x + m) n
all_in_append P x zero n h = let e : zero + n ≡ n = omega arith in let f : x + zero ≡ x = omega arith in rw (e, f) refl
all_in_append P x (suc m) n h =
    let e : suc m + n ≡ suc (m + n) = omega arith in
    let f : x + suc m ≡ x + 1 + m = omega arith in
    let (here, rest) = both (P x) (all_in P (x + 1) m) h in
    rw (e, f) (ap (λ b. b && all_in P (x + 1) (m + n)) here ∙ all_in_append P (x + 1) m n rest)

pub not_all_in : (P : ℕ → Bool) (x n : ℕ) → 0 < n → P x ≡ false → all_in P x n ≡ false
not_all_in P x zero some h = absurd (omega arith)
not_all_in P x (suc n) some h = ap (λ b. b && all_in P (x + 1) n) h

-- a span of which some address can't be used so
pub refused_at : (P : ℕ → Bool) (from at n : ℕ) → from ≤ at → at < from + n → all_in P from (at - from) ≡ true → P at ≡ false → all_in P from n ≡ false
refused_at P from at n low high before here =
    let e : n ≡ (at - from) + (n - (at - from)) = omega arith in
    let at_is : from + (at - from) ≡ at = omega arith in
    ap (all_in P from) e ∙ all_in_append P from (at - from) (n - (at - from)) before ∙ ap (λ x. all_in P x (n - (at - from))) at_is ∙ not_all_in P at (n - (at - from)) (omega arith) here

-- and one that goes on to the end of an area, or not so far
pub onward : (p : Purpose) (areas : List Area) (from at to : ℕ) (a : Area) → are_in_order 0 areas ≡ true → area_at areas at ≡ Some a → grants p a ≡ true
    → from ≤ at → at ≤ to → to ≤ a.from + a.len → all_in (test_of p (mapping_by areas)) from (at - from) ≡ true → all_in (test_of p (mapping_by areas)) from (to - from) ≡ true
onward p areas from at to a order e g low up end before =
    let P : ℕ → Bool = test_of p (mapping_by areas) in
    let n_is : to - from ≡ (at - from) + (to - at) = omega arith in
    let at_is : from + (at - from) ≡ at = omega arith in
    ap (all_in P from) n_is ∙ all_in_append P from (at - from) (to - at) before ∙ ap (λ x. all_in P x (to - at)) at_is ∙ all_in_area p areas at (to - at) a order e (omega arith) g
