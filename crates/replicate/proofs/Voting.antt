-- Votes counted from one place on, and equality of arrivals.
use Rattle.std.proofs.Common.{◌≡◌, ◌<◌, ◌≤◌, ◌+◌, ◌==◌, ◌&&◌, ℕ, zero, suc, Bool, false, true, cond, not, List, [], ◌∷◌, length, get_or, drop, map, Some, refl, sym, ◌∙◌, ap, subst, arith, add-one, append_assoc, append-nil, ◌++◌}
use Rattle.std.specs.Prelude.{bytes_eq}
use Rattle.std.proofs.Math.Seq.{drop-cons, drop-length}
use Rattle.std.proofs.lemmas.Bool.{eqb-true, eq-eqb, false≢true}
use Rattle.std.proofs.lemmas.Slice.Eq.{bytes_eq-Decides}
use Rattle.infinite_heap.specs.declared.fault.FaultKind.{FaultKind}
use Rattle.infinite_heap.specs.declared.fault.FaultKind.TheVariants as fault
use Rattle.replicate.specs.declared.arrival.Arrival.{Arrival}
use Rattle.replicate.specs.declared.arrival.Arrival.TheVariants as at
use Rattle.replicate.specs.declared.seat.Seat.{Seat}
use Rattle.replicate.specs.Gates.{live_count, missing_from}
use Rattle.replicate.specs.Replicas.{Replica, has_arrived}
use Rattle.replicate.specs.Seats.{IsSeat}
use Rattle.replicate.specs.Standings.{SeatsAre}
use Rattle.replicate.specs.Votes.{SameIsEqual, is_same, is_same_kind}

-- ---- equality

both-hold : (a b : Bool) → (a && b) ≡ true → (a ≡ true) × (b ≡ true)
both-hold true b e = (refl, e)
both-hold false b e = absurd (false≢true e)

both-true : (a b : Bool) → a ≡ true → b ≡ true → (a && b) ≡ true
both-true a b p q = (λ i. p i && b) ∙ q

kind-equal : (kind other : FaultKind) → is_same_kind kind other ≡ true → kind ≡ other
kind-equal fault.Fetch fault.Fetch e = refl
kind-equal fault.Illegal fault.Illegal e = refl
kind-equal fault.Break fault.Break e = refl
kind-equal fault.Jump fault.Jump e = refl
kind-equal fault.LoadAlign fault.LoadAlign e = refl
kind-equal fault.StoreAlign fault.StoreAlign e = refl
kind-equal fault.Load fault.Load e = refl
kind-equal fault.Store fault.Store e = refl
kind-equal kind other e = absurd (false≢true e)

kind-same : (kind : FaultKind) → is_same_kind kind kind ≡ true
kind-same fault.Fetch = refl
kind-same fault.Illegal = refl
kind-same fault.Break = refl
kind-same fault.Jump = refl
kind-same fault.LoadAlign = refl
kind-same fault.StoreAlign = refl
kind-same fault.Load = refl
kind-same fault.Store = refl

equal-of : (a b : Arrival) → is_same a b ≡ true → a ≡ b
equal-of (at.Write fd bytes) (at.Write fd' bytes') e =
    let both = both-hold (fd == fd') (bytes_eq bytes bytes') e in
    let fds : fd ≡ fd' = eqb-true fd fd' both.0 in
    let same : bytes ≡ bytes' = (bytes_eq-Decides bytes bytes').0 both.1 in
    (λ i. at.Write (fds i) (same i))
equal-of at.Clock at.Clock e = refl
equal-of (at.Exit code) (at.Exit code') e = ap at.Exit (eqb-true code code' e)
equal-of (at.Fault kind pc) (at.Fault kind' pc') e =
    let both = both-hold (is_same_kind kind kind') (pc == pc') e in
    let kinds : kind ≡ kind' = kind-equal kind kind' both.0 in
    let pcs : pc ≡ pc' = eqb-true pc pc' both.1 in
    (λ i. at.Fault (kinds i) (pcs i))
equal-of (at.Room used wanted) (at.Room used' wanted') e =
    let both = both-hold (used == used') (wanted == wanted') e in
    let useds : used ≡ used' = eqb-true used used' both.0 in
    let wants : wanted ≡ wanted' = eqb-true wanted wanted' both.1 in
    (λ i. at.Room (useds i) (wants i))
equal-of at.Budget at.Budget e = refl
equal-of a b e = absurd (false≢true e)

same-as-itself : (a : Arrival) → is_same a a ≡ true
same-as-itself (at.Write fd bytes) = both-true (fd == fd) (bytes_eq bytes bytes) (eq-eqb fd fd refl) ((bytes_eq-Decides bytes bytes).1 refl)
same-as-itself at.Clock = refl
same-as-itself (at.Exit code) = eq-eqb code code refl
same-as-itself (at.Fault kind pc) = both-true (is_same_kind kind kind) (pc == pc) (kind-same kind) (eq-eqb pc pc refl)
same-as-itself (at.Room used wanted) = both-true (used == used) (wanted == wanted) (eq-eqb used used refl) (eq-eqb wanted wanted refl)
same-as-itself at.Budget = refl

pub same_is_equal : SameIsEqual
same_is_equal a b = (equal-of a b, λ e. subst (λ (x : Arrival). is_same a x ≡ true) e (same-as-itself a))

-- ---- one place of a list

-- what the code reads at a place of a list begins the rest of it from there on
pub rest-at : {A : Type 0} (xs : List A) (i : ℕ) (x : A) → i < length xs → x ≡ get_or xs i x → drop i xs ≡ x ∷ drop (i + 1) xs
rest-at xs i x within is = drop-cons xs i x within ∙ (λ k. sym is k ∷ drop (sym (add-one i) k) xs)

-- the rest from its end on
pub rest-end : {A : Type 0} (xs : List A) (i : ℕ) → i ≡ length xs → drop i xs ≡ []
rest-end xs i is = ap (λ n. drop n xs) is ∙ drop-length xs

-- ---- one place of a group

-- the replica at a place, of which the seat there is one
pub record IsPlaced (budget i : ℕ) (rs : List Replica) (seat : Seat) : Type 0 where
  pub r : Replica
  pub stands : IsSeat r seat
  pub budgeted : seat.budget ≡ budget
  pub within : i < length rs
  pub splits : drop i rs ≡ r ∷ drop (i + 1) rs
  pub at : (d : Replica) → get_or rs i d ≡ r

pub placed : (budget i : ℕ) (rs : List Replica) (seats : List Seat) (seat : Seat) → i < length seats → seat ≡ get_or seats i seat → SeatsAre budget rs seats → IsPlaced budget i rs seat
placed budget i [] [] seat within is so = absurd (omega (arith, within))
placed budget i [] (s ∷ ss) seat within is so = absurd so
placed budget i (r ∷ rs) [] seat within is so = absurd so
placed budget zero (r ∷ rs) (s ∷ ss) seat within is so = record {
  r = r;
  stands = subst (IsSeat r) (sym is) so.0;
  budgeted = ap (λ (x : Seat). x.budget) is ∙ so.1;
  within = omega arith;
  splits = refl;
  at = λ d. refl;
}
placed budget (suc i) (r ∷ rs) (s ∷ ss) seat within is so =
    let rest = placed budget i rs ss seat (omega (arith, within)) is so.2 in
    let next : suc (i + 1) ≡ suc i + 1 = omega arith in
    record { r = rest.r; stands = rest.stands; budgeted = rest.budgeted; within = (let below = rest.within in omega (arith, below)); splits = rest.splits ∙ (λ k. rest.r ∷ drop (next k) (r ∷ rs)); at = rest.at }

pub same-count : (budget : ℕ) (rs : List Replica) (seats : List Seat) → SeatsAre budget rs seats → length rs ≡ length seats
same-count budget [] [] so = refl
same-count budget [] (s ∷ ss) so = absurd so
same-count budget (r ∷ rs) [] so = absurd so
same-count budget (r ∷ rs) (s ∷ ss) so = ap suc (same-count budget rs ss so.2)

-- the rest from its end on is empty
pub placed-end : (budget i : ℕ) (rs : List Replica) (seats : List Seat) → length seats ≤ i → i ≤ length seats → SeatsAre budget rs seats → drop i rs ≡ []
placed-end budget i rs seats past within so =
    let count = same-count budget rs seats so in
    rest-end rs i (omega (arith, past, within, count))

-- ---- a value for each of them, in order

pub mapped-more : {A B : Type 0} (f : A → B) (i : ℕ) (xs : List A) (x : A) (old new : List B) (y : B) → drop i xs ≡ x ∷ drop (i + 1) xs → y ≡ f x → new ≡ old ++ y ∷ []
    → old ++ map f (drop i xs) ≡ map f xs → new ++ map f (drop (i + 1) xs) ≡ map f xs
mapped-more f i xs x old new y splits is are so =
    ap (λ ys. ys ++ map f (drop (i + 1) xs)) are ∙ append_assoc old (y ∷ []) (map f (drop (i + 1) xs)) ∙ ap (λ z. old ++ z ∷ map f (drop (i + 1) xs)) is
    ∙ ap (λ ys. old ++ map f ys) (sym splits) ∙ so

pub mapped-end : {A B : Type 0} (f : A → B) (i : ℕ) (xs : List A) (ys all : List B) → drop i xs ≡ [] → ys ++ map f (drop i xs) ≡ all → ys ≡ all
mapped-end f i xs ys all none so = sym (append-nil ys) ∙ ap (λ zs. ys ++ map f zs) (sym none) ∙ so

-- ---- the live ones

pub living-more : (budget i count : ℕ) (rs : List Replica) (seat : Seat) → IsPlaced budget i rs seat → seat.live ≡ true → count + live_count (drop i rs) ≡ live_count rs → count + 1 + live_count (drop (i + 1) rs) ≡ live_count rs
living-more budget i count rs seat p on so =
    let here : live_count (drop i rs) ≡ suc (live_count (drop (i + 1) rs)) = ap live_count p.splits ∙ ap (λ b. cond b (suc (live_count (drop (i + 1) rs))) (live_count (drop (i + 1) rs))) (sym p.stands.living ∙ on) in
    omega (arith, here, so)

pub retired-more : (budget i count : ℕ) (rs : List Replica) (seat : Seat) → IsPlaced budget i rs seat → seat.live ≡ false → count + live_count (drop i rs) ≡ live_count rs → count + live_count (drop (i + 1) rs) ≡ live_count rs
retired-more budget i count rs seat p off so =
    let here : live_count (drop i rs) ≡ live_count (drop (i + 1) rs) = ap live_count p.splits ∙ ap (λ b. cond b (suc (live_count (drop (i + 1) rs))) (live_count (drop (i + 1) rs))) (sym p.stands.living ∙ off) in
    omega (arith, here, so)

pub living-end : (i count : ℕ) (rs : List Replica) → drop i rs ≡ [] → count + live_count (drop i rs) ≡ live_count rs → count ≡ live_count rs
living-end i count rs none so = let here : live_count (drop i rs) ≡ 0 = ap live_count none in omega (arith, here, so)

-- ---- the first that is missing

missing-by : (budget i : ℕ) (rs : List Replica) (seat : Seat) (p : IsPlaced budget i rs seat) (live there : Bool) → seat.live ≡ live → has_arrived budget p.r ≡ there
    → missing_from budget i (drop i rs) ≡ cond (live && not there) (Some i) (missing_from budget (i + 1) (drop (i + 1) rs))
missing-by budget i rs seat p live there on is =
    ap (missing_from budget i) p.splits ∙ (λ k. cond ((sym p.stands.living ∙ on) k && not (is k)) (Some i) (missing_from budget (i + 1) (drop (i + 1) rs)))

pub missing-here : (budget i : ℕ) (rs : List Replica) (seat : Seat) (there : Bool) → IsPlaced budget i rs seat → seat.live ≡ true → ((r : Replica) → IsSeat r seat → there ≡ has_arrived seat.budget r) → there ≡ false
    → missing_from budget i (drop i rs) ≡ Some i
missing-here budget i rs seat there p on told not_there =
    missing-by budget i rs seat p true false on (ap (λ b. has_arrived b p.r) (sym p.budgeted) ∙ sym (told p.r p.stands) ∙ not_there)

pub arrived-here : (budget i : ℕ) (rs : List Replica) (seat : Seat) (there : Bool) → IsPlaced budget i rs seat → seat.live ≡ true → ((r : Replica) → IsSeat r seat → there ≡ has_arrived seat.budget r) → there ≡ true
    → missing_from budget i (drop i rs) ≡ missing_from budget (i + 1) (drop (i + 1) rs)
arrived-here budget i rs seat there p on told is_there =
    missing-by budget i rs seat p true true on (ap (λ b. has_arrived b p.r) (sym p.budgeted) ∙ sym (told p.r p.stands) ∙ is_there)

pub retired-here : (budget i : ℕ) (rs : List Replica) (seat : Seat) → IsPlaced budget i rs seat → seat.live ≡ false → missing_from budget i (drop i rs) ≡ missing_from budget (i + 1) (drop (i + 1) rs)
retired-here budget i rs seat p off = missing-by budget i rs seat p false (has_arrived budget p.r) off refl
