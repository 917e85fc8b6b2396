-- Ranges that lie apart: which of them holds an address, and what a change of one changes.
use Rattle.std.proofs.Common.{◌≡◌, ℕ, zero, suc, ◌<◌, Bool, true, false, cond, List, [], ◌∷◌, length, get_or, set, Option, Some, refl, sym, ap, ◌∙◌, subst, arith}
use Rattle.rv_memory.specs.declared.range.Range.{Range}
use Rattle.rv_memory.specs.Ranges.{holds, range_at, IsApart}

apart-tail : (range : Range) (ranges : List Range) → IsApart (range ∷ ranges) → IsApart ranges
apart-tail range ranges apart i j address d i-low j-low i-holds j-holds =
    let same : suc i ≡ suc j = apart (suc i) (suc j) address d (omega arith) (omega arith) i-holds j-holds in
    omega arith

hit-cons : (range : Range) (ranges : List Range) (i address : ℕ) (d : Range) (b : Bool) → holds range address ≡ b → IsApart (range ∷ ranges) → suc i < length (range ∷ ranges) → holds (get_or ranges i d) address ≡ true → range_at ranges address ≡ Some (get_or ranges i d) → range_at (range ∷ ranges) address ≡ Some (get_or ranges i d)
hit-cons range ranges i address d true first apart low held later = absurd (let same : zero ≡ suc i = apart zero (suc i) address d (omega arith) low first held in omega arith)
hit-cons range ranges i address d false first apart low held later = rw first later

-- the range at a place is the one that is found at each of its addresses
pub range_at-hit : (ranges : List Range) (i address : ℕ) (d : Range) → IsApart ranges → i < length ranges → holds (get_or ranges i d) address ≡ true → range_at ranges address ≡ Some (get_or ranges i d)
range_at-hit [] i address d apart low held = absurd (omega arith)
range_at-hit (range ∷ ranges) zero address d apart low held = rw held refl
range_at-hit (range ∷ ranges) (suc i) address d apart low held =
    hit-cons range ranges i address d (holds range address) refl apart low held (range_at-hit ranges i address d (apart-tail range ranges apart) (omega arith) held)

abbrev Stands : List Range → Range → Type 0
Stands ranges range = (i : ℕ) × (i < length ranges) × ((d : Range) → get_or ranges i d ≡ range)

place-cons : (first : Range) (ranges : List Range) (address : ℕ) (range : Range) (b : Bool) → cond b (Some first) (range_at ranges address) ≡ Some range → (range_at ranges address ≡ Some range → Stands ranges range) → Stands (first ∷ ranges) range
place-cons first ranges address range true found later = let here : first ≡ range = cc in (0, omega arith, λ d. here)
place-cons first ranges address range false found later = let rest = later found in (suc rest.0, omega (arith, rest.1), rest.2)

-- a place of the range that is found
range_at-place : (ranges : List Range) (address : ℕ) (range : Range) → range_at ranges address ≡ Some range → Stands ranges range
range_at-place [] address range found = absurd (cc)
range_at-place (first ∷ ranges) address range found = place-cons first ranges address range (holds first address) found (range_at-place ranges address range)

holds-cons : (first : Range) (ranges : List Range) (address : ℕ) (range : Range) (b : Bool) → holds first address ≡ b → cond b (Some first) (range_at ranges address) ≡ Some range → (range_at ranges address ≡ Some range → holds range address ≡ true) → holds range address ≡ true
holds-cons first ranges address range true held found later = let here : first ≡ range = cc in subst (λ (r : Range). holds r address ≡ true) here held
holds-cons first ranges address range false held found later = later found

-- the range that is found holds the address
pub range_at-holds : (ranges : List Range) (address : ℕ) (range : Range) → range_at ranges address ≡ Some range → holds range address ≡ true
range_at-holds [] address range found = absurd (cc)
range_at-holds (first ∷ ranges) address range found = holds-cons first ranges address range (holds first address) refl found (range_at-holds ranges address range)

-- and is the one that is found at each other address that it holds
pub range_at-stays : (ranges : List Range) (address other : ℕ) (range : Range) → IsApart ranges → range_at ranges address ≡ Some range → holds range other ≡ true → range_at ranges other ≡ Some range
range_at-stays ranges address other range apart found held =
    let place = range_at-place ranges address range found in
    let same = place.2 range in
    range_at-hit ranges place.0 other range apart place.1 (subst (λ (r : Range). holds r other ≡ true) (sym same) held) ∙ ap Some same

set-cons : (range : Range) (ranges changed : List Range) (i address : ℕ) (d new : Range) (b : Bool) → holds range address ≡ b → (e : Bool) → holds (get_or ranges i d) address ≡ e → IsApart (range ∷ ranges) → suc i < length (range ∷ ranges) → range_at changed address ≡ cond e (Some new) (range_at ranges address) → cond b (Some range) (range_at changed address) ≡ cond e (Some new) (cond b (Some range) (range_at ranges address))
set-cons range ranges changed i address d new true first true held apart low later = absurd (let same : zero ≡ suc i = apart zero (suc i) address d (omega arith) low first held in omega arith)
set-cons range ranges changed i address d new true first false held apart low later = refl
set-cons range ranges changed i address d new false first e held apart low later = later

set-head : (b : Bool) (range new : Range) (rest : Option Range) → cond b (Some new) rest ≡ cond b (Some new) (cond b (Some range) rest)
set-head true range new rest = refl
set-head false range new rest = refl

-- what is found after a range changed in its place
pub range_at-set : (ranges : List Range) (i address : ℕ) (d new : Range) → IsApart ranges → i < length ranges → holds new address ≡ holds (get_or ranges i d) address → range_at (set ranges i new) address ≡ cond (holds (get_or ranges i d) address) (Some new) (range_at ranges address)
range_at-set [] i address d new apart low same = absurd (omega arith)
range_at-set (range ∷ ranges) zero address d new apart low same = rw same (set-head (holds range address) range new (range_at ranges address))
range_at-set (range ∷ ranges) (suc i) address d new apart low same =
    set-cons range ranges (set ranges i new) i address d new (holds range address) refl (holds (get_or ranges i d) address) refl apart low (range_at-set ranges i address d new (apart-tail range ranges apart) (omega arith) same)
