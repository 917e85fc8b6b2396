-- Ranges in order of their addresses: which of them holds an address, and where a new one stands.
use Rattle.std.proofs.Common.{◌≡◌, ℕ, zero, suc, ◌+◌, ◌-◌, ◌<◌, ◌≤◌, Bool, true, false, cond, List, [], ◌∷◌, length, get_or, set, None, Some, refl, sym, ap, ◌∙◌, subst, ◌⊎◌, inl, inr, arith}
use Rattle.std.specs.List.{AllByRecursion, insert}
use Rattle.std.proofs.lemmas.Bool.{cases_lt}
use Rattle.std.proofs.lemmas.Bool.Decides.{nat_tests}
use Rattle.std.proofs.lemmas.List.{get_or_default}
use Rattle.rv_memory.specs.declared.range.Range.{Range}
use Rattle.rv_memory.specs.Ranges.{holds, range_at, end_of, IsApart, IsInOrder, HaveBegun, AreToCome}
use Rattle.rv_memory.proofs.Bytes.{held-from, held-below}

-- ---- what holds of each range

all_at : (P : Range → Type 0) (ranges : List Range) (i : ℕ) (d : Range) → AllByRecursion P ranges → i < length ranges → P (get_or ranges i d)
all_at P [] i d all low = absurd (omega arith)
all_at P (range ∷ ranges) zero d all low = all.0
all_at P (range ∷ ranges) (suc i) d all low = all_at P ranges i d all.1 (omega arith)

all_from : (P : Range → Type 0) (ranges : List Range) → ((i : ℕ) (d : Range) → i < length ranges → P (get_or ranges i d)) → AllByRecursion P ranges
all_from P [] each = tt
all_from P (range ∷ ranges) each = (each 0 range (omega arith), all_from P ranges (λ i d low. each (suc i) d (omega arith)))

all_set : (P : Range → Type 0) (ranges : List Range) (i : ℕ) (new : Range) → AllByRecursion P ranges → P new → AllByRecursion P (set ranges i new)
all_set P [] i new all here = tt
all_set P (range ∷ ranges) zero new all here = (here, all.1)
all_set P (range ∷ ranges) (suc i) new all here = (all.0, all_set P ranges i new all.1 here)

all_put : (P : Range → Type 0) (ranges : List Range) (i : ℕ) (new : Range) → AllByRecursion P ranges → P new → AllByRecursion P (insert ranges i new)
all_put P ranges zero new all here = (here, all)
all_put P [] (suc i) new all here = (here, tt)
all_put P (range ∷ ranges) (suc i) new all here = (all.0, all_put P ranges i new all.1 here)

-- ---- order

-- ranges in order, one after the other
abbrev Chain : List Range → Type 0
Chain [] = Unit
Chain (range ∷ ranges) = (range.from < end_of range) × AllByRecursion (λ later. end_of range ≤ later.from) ranges × Chain ranges

chain-of : (ranges : List Range) → IsInOrder ranges → Chain ranges
chain-of [] order = tt
chain-of (range ∷ ranges) order = (
  order.0 zero range (omega arith),
  all_from (λ later. end_of range ≤ later.from) ranges (λ i d low. order.1 zero (suc i) d (omega arith) (omega arith)),
  chain-of ranges ((λ i d low. order.0 (suc i) d (omega arith)), (λ i j d earlier low. order.1 (suc i) (suc j) d (omega arith) (omega arith))),
)

chain-bytes : (ranges : List Range) (i : ℕ) (d : Range) → Chain ranges → i < length ranges → (get_or ranges i d).from < end_of (get_or ranges i d)
chain-bytes [] i d chain low = absurd (omega arith)
chain-bytes (range ∷ ranges) zero d chain low = chain.0
chain-bytes (range ∷ ranges) (suc i) d chain low = chain-bytes ranges i d chain.2 (omega arith)

chain-ends : (ranges : List Range) (i j : ℕ) (d : Range) → Chain ranges → i < j → j < length ranges → end_of (get_or ranges i d) ≤ (get_or ranges j d).from
chain-ends [] i j d chain earlier low = absurd (omega arith)
chain-ends (range ∷ ranges) i zero d chain earlier low = absurd (omega arith)
chain-ends (range ∷ ranges) zero (suc j) d chain earlier low = all_at (λ later. end_of range ≤ later.from) ranges j d chain.1 (omega arith)
chain-ends (range ∷ ranges) (suc i) (suc j) d chain earlier low = chain-ends ranges i j d chain.2 (omega arith) (omega arith)

in-order : (ranges : List Range) → Chain ranges → IsInOrder ranges
in-order ranges chain = ((λ i d low. chain-bytes ranges i d chain low), (λ i j d earlier low. chain-ends ranges i j d chain earlier low))

pub has_byte : (ranges : List Range) (i : ℕ) (d : Range) → IsInOrder ranges → i < length ranges → (get_or ranges i d).from < end_of (get_or ranges i d)
has_byte ranges i d order low = order.0 i d low

pub ends_before : (ranges : List Range) (i j : ℕ) (d : Range) → IsInOrder ranges → i < j → j < length ranges → end_of (get_or ranges i d) ≤ (get_or ranges j d).from
ends_before ranges i j d order earlier low = order.1 i j d earlier low

pub begins_by : (ranges : List Range) (i j : ℕ) (d : Range) → IsInOrder ranges → i ≤ j → j < length ranges → (get_or ranges i d).from ≤ (get_or ranges j d).from
begins_by ranges i j d order early low = at (cases_lt i j)
  where
    at : (i < j) ⊎ (j ≤ i) → (get_or ranges i d).from ≤ (get_or ranges j d).from
    at (inl earlier) = omega (arith, has_byte ranges i d order (omega arith), ends_before ranges i j d order earlier low)
    at (inr later) = let same : i ≡ j = omega arith in omega (arith, ap (λ k. (get_or ranges k d).from) same)

chain-set : (ranges : List Range) (i : ℕ) (d new : Range) → i < length ranges → new.from ≡ (get_or ranges i d).from → new.len ≡ (get_or ranges i d).len → Chain ranges → Chain (set ranges i new)
chain-set [] i d new low from size chain = absurd (omega arith)
chain-set (range ∷ ranges) zero d new low from size chain =
    let ends : end_of new ≡ end_of range = omega (arith, from, size) in
    (omega (arith, from, size, chain.0), subst (λ e. AllByRecursion (λ later. e ≤ later.from) ranges) (sym ends) chain.1, chain.2)
chain-set (range ∷ ranges) (suc i) d new low from size chain =
    let behind = all_at (λ later. end_of range ≤ later.from) ranges i d chain.1 (omega arith) in
    (chain.0, all_set (λ later. end_of range ≤ later.from) ranges i new chain.1 (omega (arith, from, behind)), chain-set ranges i d new (omega arith) from size chain.2)

-- one half of the search: all up to a place have begun, or all from it on are to come
pub begun-by : (ranges : List Range) (middle address : ℕ) (seen : Range) → IsInOrder ranges → middle < length ranges → seen ≡ get_or ranges middle seen → seen.from ≤ address → HaveBegun ranges (middle + 1) address
begun-by ranges middle address seen order low is begun i d earlier =
    omega (arith, begins_by ranges i middle d order (omega arith) low, ap (λ (r : Range). r.from) (is ∙ get_or_default ranges middle seen d low), begun)

pub to-come-from : (ranges : List Range) (middle address : ℕ) (seen : Range) → IsInOrder ranges → middle < length ranges → seen ≡ get_or ranges middle seen → address < seen.from → AreToCome ranges middle address
to-come-from ranges middle address seen order low is later i d high i-low =
    omega (arith, begins_by ranges middle i d order high i-low, ap (λ (r : Range). r.from) (is ∙ get_or_default ranges middle seen d low), later)

-- a range written over in its place
pub order-set : (ranges : List Range) (i : ℕ) (d new : Range) → i < length ranges → new.from ≡ (get_or ranges i d).from → new.len ≡ (get_or ranges i d).len → IsInOrder ranges → IsInOrder (set ranges i new)
order-set ranges i d new low from size order = in-order (set ranges i new) (chain-set ranges i d new low from size (chain-of ranges order))

chain-put : (ranges : List Range) (i : ℕ) (new : Range) → i ≤ length ranges → new.from < end_of new → ((k : ℕ) (d : Range) → k < i → end_of (get_or ranges k d) ≤ new.from) → ((k : ℕ) (d : Range) → i ≤ k → k < length ranges → end_of new ≤ (get_or ranges k d).from) → Chain ranges → Chain (insert ranges i new)
chain-put ranges zero new low some before behind chain = (some, all_from (λ later. end_of new ≤ later.from) ranges (λ k d k-low. behind k d (omega arith) k-low), chain)
chain-put [] (suc i) new low some before behind chain = absurd (omega arith)
chain-put (range ∷ ranges) (suc i) new low some before behind chain = (
  chain.0,
  all_put (λ later. end_of range ≤ later.from) ranges i new chain.1 (before 0 range (omega arith)),
  chain-put ranges i new (omega arith) some (λ k d k-low. before (suc k) d (omega arith)) (λ k d k-high k-low. behind (suc k) d (omega arith) (omega arith)) chain.2,
)

-- a new range behind all that have ended and before all that are to come
pub order-put : (ranges : List Range) (i : ℕ) (new : Range) → i ≤ length ranges → new.from < end_of new → ((k : ℕ) (d : Range) → k < i → end_of (get_or ranges k d) ≤ new.from) → ((k : ℕ) (d : Range) → i ≤ k → k < length ranges → end_of new ≤ (get_or ranges k d).from) → IsInOrder ranges → IsInOrder (insert ranges i new)
order-put ranges i new low some before behind order = in-order (insert ranges i new) (chain-put ranges i new low some before behind (chain-of ranges order))

-- ---- addresses

pub not-before : (range : Range) (address : ℕ) → address < range.from → holds range address ≡ false
not-before range address before = grind (arith, nat_tests)

pub not-behind : (range : Range) (address : ℕ) → end_of range ≤ address → holds range address ≡ false
not-behind range address behind = grind (arith, nat_tests)

pub held-first : (range : Range) → range.from < end_of range → holds range range.from ≡ true
held-first range some = grind (arith, nat_tests)

pub ended-by : (range : Range) (address : ℕ) → range.from ≤ address → holds range address ≡ false → end_of range ≤ address
ended-by range address begun out = grind (arith, nat_tests)

-- no range holds an address
pub missed : (ranges : List Range) (address : ℕ) → ((i : ℕ) (d : Range) → i < length ranges → holds (get_or ranges i d) address ≡ false) → range_at ranges address ≡ None
missed [] address none = refl
missed (range ∷ ranges) address none = let first : holds range address ≡ false = none 0 range (omega arith) in rw first (missed ranges address (λ i d low. none (suc i) d (omega arith)))

pub none-holds : (ranges : List Range) (address i : ℕ) (d : Range) → range_at ranges address ≡ None → i < length ranges → holds (get_or ranges i d) address ≡ false
none-holds [] address i d none low = absurd (omega arith)
none-holds (range ∷ ranges) address i d none low = at (holds range address) refl i none low (none-holds ranges address)
  where
    at : (b : Bool) → holds range address ≡ b → (k : ℕ) → cond b (Some range) (range_at ranges address) ≡ None → k < length (range ∷ ranges) → ((n : ℕ) (e : Range) → range_at ranges address ≡ None → n < length ranges → holds (get_or ranges n e) address ≡ false) → holds (get_or (range ∷ ranges) k d) address ≡ false
    at true held k found k-low later = absurd (cc)
    at false out zero found k-low later = out
    at false out (suc k) found k-low later = later k d found (omega arith)

pub last-out : (ranges : List Range) (count address : ℕ) (seen : Range) → count ≤ length ranges → seen ≡ get_or ranges (count - 1) seen → holds seen address ≡ false → (d : Range) → 0 < count → holds (get_or ranges (count - 1) d) address ≡ false
last-out ranges count address seen fits is out d some = ap (λ (r : Range). holds r address) (sym (is ∙ get_or_default ranges (count - 1) seen d (omega arith))) ∙ out

-- where the last range that has begun doesn't hold an address, none does
pub nowhere-begun : (ranges : List Range) (count address : ℕ) → IsInOrder ranges → count ≤ length ranges → HaveBegun ranges count address → AreToCome ranges count address → ((d : Range) → 0 < count → holds (get_or ranges (count - 1) d) address ≡ false) → range_at ranges address ≡ None
nowhere-begun ranges count address order fits begun to_come last = missed ranges address (λ i d low. at i d low (cases_lt i count) (cases_lt (i + 1) count))
  where
    at : (i : ℕ) (d : Range) → i < length ranges → (i < count) ⊎ (count ≤ i) → (i + 1 < count) ⊎ (count ≤ i + 1) → holds (get_or ranges i d) address ≡ false
    at i d low (inr behind) side = not-before (get_or ranges i d) address (to_come i d behind low)
    at i d low (inl before) (inl earlier) = not-behind (get_or ranges i d) address (omega (arith, ends_before ranges i (count - 1) d order (omega arith) (omega arith), begun (count - 1) d (omega arith)))
    at i d low (inl before) (inr here) = let same : count - 1 ≡ i = omega arith in subst (λ k. holds (get_or ranges k d) address ≡ false) same (last d (omega arith))

-- ---- ranges apart

pub code-free : (code : Range) (ranges : List Range) (address : ℕ) → IsApart (code ∷ ranges) → holds code address ≡ true → range_at ranges address ≡ None
code-free code ranges address apart held = missed ranges address (λ i d low. at i d low (holds (get_or ranges i d) address) refl)
  where
    at : (i : ℕ) (d : Range) → i < length ranges → (b : Bool) → holds (get_or ranges i d) address ≡ b → b ≡ false
    at i d low true here = absurd (let same : zero ≡ suc i = apart zero (suc i) address d (omega arith) (omega arith) held here in omega arith)
    at i d low false out = refl

-- ranges in order are apart, and so is code that none of them meets
pub apart-ordered : (code : Range) (ranges : List Range) → IsInOrder ranges → ((a : ℕ) → holds code a ≡ true → range_at ranges a ≡ None) → IsApart (code ∷ ranges)
apart-ordered code ranges order free zero zero a d i-low j-low i-held j-held = refl
apart-ordered code ranges order free zero (suc j) a d i-low j-low i-held j-held = absurd (let out = none-holds ranges a j d (free a i-held) (omega arith) in cc)
apart-ordered code ranges order free (suc i) zero a d i-low j-low i-held j-held = absurd (let out = none-holds ranges a i d (free a j-held) (omega arith) in cc)
apart-ordered code ranges order free (suc i) (suc j) a d i-low j-low i-held j-held = at (cases_lt i j) (cases_lt j i)
  where
    overlap : (k l : ℕ) → k < l → l < length ranges → holds (get_or ranges k d) a ≡ true → holds (get_or ranges l d) a ≡ true → ⊥
    overlap k l earlier low k-held l-held = omega (arith, ends_before ranges k l d order earlier low, held-below (get_or ranges k d) a k-held, held-from (get_or ranges l d) a l-held)

    at : (i < j) ⊎ (j ≤ i) → (j < i) ⊎ (i ≤ j) → suc i ≡ suc j
    at (inl earlier) side = absurd (overlap i j earlier (omega arith) i-held j-held)
    at (inr late) (inl later) = absurd (overlap j i later (omega arith) j-held i-held)
    at (inr late) (inr early) = omega arith
