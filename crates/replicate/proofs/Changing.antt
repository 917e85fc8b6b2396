-- Seats that are changed one after the other, and those of them that have won.
use Rattle.std.proofs.Common.{◌≡◌, ◌<◌, ◌≤◌, ◌+◌, ℕ, zero, suc, Bool, false, true, cond, List, [], ◌∷◌, ◌++◌, length, get_or, drop, map, Option, Some, None, refl, sym, ◌∙◌, ap, subst, arith, add-one, append_assoc, append-nil}
use Rattle.std.specs.Prelude.{slice_set, if◌then◌else◌}
use Rattle.std.specs.Bool.{OnTrue}
use Rattle.std.specs.List.{AllByRecursion}
use Rattle.std.proofs.lemmas.Bool.{false≢true, false_from_ne_true}
use Rattle.exact_heap.specs.History.{clock_of}
use Rattle.heap_image.specs.Snapshot.{Snapshot}
use Rattle.rv_machine.specs.Core.{Goes, Faults, Reads, Prints, Exits, Stays}
use Rattle.rv_machine.specs.HeapCalls.{GuestNext, Carries, Returns, Lacks, guest_next}
use Rattle.rv_machine.specs.Stands.{tag_in}
use Rattle.layout_run.specs.Whole.{ended_as}
use Rattle.replicate.specs.declared.answer.GateAnswer.TheVariants as answer
use Rattle.replicate.specs.declared.answer.Retired.{Retired}
use Rattle.replicate.specs.declared.arrival.Arrival.{Arrival}
use Rattle.replicate.specs.declared.arrival.Arrival.TheVariants as at
use Rattle.replicate.specs.declared.seat.Seat.{Seat}
use Rattle.replicate.specs.Gates.{any_signalled, end_at, has_signalled, image_of, loses, losers_from, winners, wins}
use Rattle.replicate.specs.GroupStands.{HaveTag}
use Rattle.replicate.specs.Replicas.{Replica, arrival, at_end, is_due, write_next}
use Rattle.replicate.specs.Seats.{IsSameSeat, IsSeat}
use Rattle.replicate.specs.Standings.{AreSameSeats, SeatsAre}
use Rattle.replicate.specs.Votes.{is_for, vote_of}
use Rattle.replicate.proofs.Voting.{IsPlaced, same_is_equal}

-- ---- the first so many are changed

abbrev pub upto : (change : Replica → Replica) → ℕ → List Replica → List Replica
upto change zero rs = rs
upto change (suc i) [] = []
upto change (suc i) (r ∷ rs) = change r ∷ upto change i rs

pub upto-all : (change : Replica → Replica) (i : ℕ) (rs : List Replica) → length rs ≤ i → upto change i rs ≡ map change rs
upto-all change zero [] past = refl
upto-all change zero (r ∷ rs) past = absurd (omega (arith, past))
upto-all change (suc i) [] past = refl
upto-all change (suc i) (r ∷ rs) past = ap (λ xs. change r ∷ xs) (upto-all change i rs (omega (arith, past)))

upto-next : (budget i : ℕ) (change : Replica → Replica) (rs : List Replica) (seats : List Seat) (seat new : Seat) → i < length seats → seat ≡ get_or seats i seat → new.budget ≡ seat.budget
    → ((r : Replica) → ((d : Replica) → get_or rs i d ≡ r) → i < length rs → IsSeat r seat → seat.budget ≡ budget → IsSeat (change r) new)
    → SeatsAre budget (upto change i rs) seats → SeatsAre budget (upto change (suc i) rs) (slice_set seats i new)
upto-next budget zero change [] [] seat new within is same leads so = absurd (omega (arith, within))
upto-next budget zero change [] (s ∷ ss) seat new within is same leads so = absurd so
upto-next budget zero change (r ∷ rs) [] seat new within is same leads so = absurd so
upto-next budget zero change (r ∷ rs) (s ∷ ss) seat new within is same leads so =
    let kept : seat.budget ≡ budget = ap (λ (x : Seat). x.budget) is ∙ so.1 in
    (leads r (λ d. refl) (omega arith) (subst (IsSeat r) (sym is) so.0) kept, same ∙ kept, so.2)
upto-next budget (suc i) change [] [] seat new within is same leads so = absurd (omega (arith, within))
upto-next budget (suc i) change [] (s ∷ ss) seat new within is same leads so = absurd so
upto-next budget (suc i) change (r ∷ rs) [] seat new within is same leads so = absurd so
upto-next budget (suc i) change (r ∷ rs) (s ∷ ss) seat new within is same leads so =
    (so.0, so.1, upto-next budget i change rs ss seat new (omega (arith, within)) is same (λ x at below. leads x at (omega (arith, below))) so.2)

pub upto-more : (budget i : ℕ) (change : Replica → Replica) (rs : List Replica) (seats : List Seat) (seat new : Seat) → i < length seats → seat ≡ get_or seats i seat → new.budget ≡ seat.budget
    → ((r : Replica) → ((d : Replica) → get_or rs i d ≡ r) → i < length rs → IsSeat r seat → seat.budget ≡ budget → IsSeat (change r) new)
    → SeatsAre budget (upto change i rs) seats → SeatsAre budget (upto change (i + 1) rs) (slice_set seats i new)
upto-more budget i change rs seats seat new within is same leads so =
    subst (λ n. SeatsAre budget (upto change n rs) (slice_set seats i new)) (sym (add-one i)) (upto-next budget i change rs seats seat new within is same leads so)

-- ---- what stays of the seats

pub same-seat : (seat : Seat) → IsSameSeat seat seat
same-seat seat = record { place = refl; budget = refl; tag = refl }

same-both : (a b c : Seat) → IsSameSeat a b → IsSameSeat b c → IsSameSeat a c
same-both a b c p q = record { place = q.place ∙ p.place; budget = q.budget ∙ p.budget; tag = q.tag ∙ p.tag }

pub same-seats : (seats : List Seat) → AreSameSeats seats seats
same-seats [] = tt
same-seats (s ∷ ss) = (same-seat s, same-seats ss)

pub same-set : (i : ℕ) (old seats : List Seat) (seat new : Seat) → i < length seats → seat ≡ get_or seats i seat → IsSameSeat seat new → AreSameSeats old seats → AreSameSeats old (slice_set seats i new)
same-set i [] [] seat new within is same so = absurd (omega (arith, within))
same-set i [] (s ∷ ss) seat new within is same so = absurd so
same-set i (o ∷ os) [] seat new within is same so = absurd so
same-set zero (o ∷ os) (s ∷ ss) seat new within is same so = (same-both o s new so.0 (subst (λ (x : Seat). IsSameSeat x new) is same), so.1)
same-set (suc i) (o ∷ os) (s ∷ ss) seat new within is same so = (so.0, same-set i os ss seat new (omega (arith, within)) is same so.1)

pub same-length : (old new : List Seat) → AreSameSeats old new → length new ≡ length old
same-length [] [] so = refl
same-length [] (n ∷ ns) so = absurd so
same-length (o ∷ os) [] so = absurd so
same-length (o ∷ os) (n ∷ ns) so = ap suc (same-length os ns so.1)

pub same-tags : (tag : ℕ) (old new : List Seat) → AreSameSeats old new → HaveTag tag old → HaveTag tag new
same-tags tag [] [] so all = tt
same-tags tag [] (n ∷ ns) so all = absurd so
same-tags tag (o ∷ os) [] so all = absurd so
same-tags tag (o ∷ os) (n ∷ ns) so all = (so.0.tag ∙ all.0, same-tags tag os ns so.1 all.1)

-- ---- a vote at a place

get-map : {A B : Type 0} (f : A → B) (xs : List A) (i : ℕ) (x : A) (d : B) → i < length xs → ((e : A) → get_or xs i e ≡ x) → get_or (map f xs) i d ≡ f x
get-map f [] i x d within at = absurd (omega (arith, within))
get-map f (y ∷ ys) zero x d within at = ap f (at y)
get-map f (y ∷ ys) (suc i) x d within at = get-map f ys i x d (omega (arith, within)) at

pub vote-at : (budget i : ℕ) (rs : List Replica) (r : Replica) (votes : List (Option Arrival)) (vote : Option Arrival) → i < length rs → ((d : Replica) → get_or rs i d ≡ r)
    → votes ≡ map (vote_of budget) rs → vote ≡ get_or votes i vote → vote ≡ vote_of budget r
vote-at budget i rs r votes vote within at are is = is ∙ ap (λ vs. get_or vs i vote) are ∙ get-map (vote_of budget) rs i r vote within at

pub wins-at : (budget i : ℕ) (rs : List Replica) (r : Replica) (votes : List (Option Arrival)) (vote : Option Arrival) (a : Arrival) (told : Bool) → i < length rs → ((d : Replica) → get_or rs i d ≡ r)
    → votes ≡ map (vote_of budget) rs → vote ≡ get_or votes i vote → told ≡ is_for a vote → wins budget a r ≡ told
wins-at budget i rs r votes vote a told within at are is tells = ap (is_for a) (sym (vote-at budget i rs r votes vote within at are is)) ∙ sym tells

pub all-at : {A : Type 0} (P : A → Type 0) (xs : List A) (i : ℕ) (x : A) → i < length xs → ((e : A) → get_or xs i e ≡ x) → AllByRecursion P xs → P x
all-at P [] i x within at all = absurd (omega (arith, within))
all-at P (y ∷ ys) zero x within at all = subst P (at y) all.0
all-at P (y ∷ ys) (suc i) x within at all = all-at P ys i x (omega (arith, within)) at all.1

-- ---- the winners from a place on

pub winner-next : (budget i : ℕ) (a : Arrival) (rs : List Replica) (seat : Seat) (p : IsPlaced budget i rs seat) → wins budget a p.r ≡ true → winners budget a (drop i rs) ≡ p.r ∷ winners budget a (drop (i + 1) rs)
winner-next budget i a rs seat p won = ap (winners budget a) p.splits ∙ ap (λ b. cond b (p.r ∷ winners budget a (drop (i + 1) rs)) (winners budget a (drop (i + 1) rs))) won

pub loser-next : (budget i : ℕ) (a : Arrival) (rs : List Replica) (seat : Seat) (p : IsPlaced budget i rs seat) → wins budget a p.r ≡ false → winners budget a (drop i rs) ≡ winners budget a (drop (i + 1) rs)
loser-next budget i a rs seat p lost = ap (winners budget a) p.splits ∙ ap (λ b. cond b (p.r ∷ winners budget a (drop (i + 1) rs)) (winners budget a (drop (i + 1) rs))) lost

-- ---- the losers from a place on

pub loser-listed : (budget i gate : ℕ) (a : Arrival) (rs : List Replica) (seat : Seat) (p : IsPlaced budget i rs seat) (old new all : List Retired) → loses budget a p.r ≡ true → new ≡ old ++ record { replica = i; gate = gate } ∷ []
    → old ++ losers_from budget a gate i (drop i rs) ≡ all → new ++ losers_from budget a gate (i + 1) (drop (i + 1) rs) ≡ all
loser-listed budget i gate a rs seat p old new all lost are so =
    let rest : List Retired = losers_from budget a gate (i + 1) (drop (i + 1) rs) in
    let one : Retired = record { replica = i; gate = gate } in
    let here : losers_from budget a gate i (drop i rs) ≡ one ∷ rest = ap (losers_from budget a gate i) p.splits ∙ ap (λ b. cond b (one ∷ rest) rest) lost in
    ap (λ ys. ys ++ rest) are ∙ append_assoc old (one ∷ []) rest ∙ ap (λ ys. old ++ ys) (sym here) ∙ so

pub winner-unlisted : (budget i gate : ℕ) (a : Arrival) (rs : List Replica) (seat : Seat) (p : IsPlaced budget i rs seat) (old all : List Retired) → loses budget a p.r ≡ false
    → old ++ losers_from budget a gate i (drop i rs) ≡ all → old ++ losers_from budget a gate (i + 1) (drop (i + 1) rs) ≡ all
winner-unlisted budget i gate a rs seat p old all kept so =
    let rest : List Retired = losers_from budget a gate (i + 1) (drop (i + 1) rs) in
    let one : Retired = record { replica = i; gate = gate } in
    let here : losers_from budget a gate i (drop i rs) ≡ rest = ap (losers_from budget a gate i) p.splits ∙ ap (λ b. cond b (one ∷ rest) rest) kept in
    ap (λ ys. old ++ ys) (sym here) ∙ so

pub listed-end : (budget i gate : ℕ) (a : Arrival) (rs : List Replica) (old all : List Retired) → drop i rs ≡ [] → old ++ losers_from budget a gate i (drop i rs) ≡ all → old ≡ all
listed-end budget i gate a rs old all none so = sym (append-nil old) ∙ ap (λ xs. old ++ losers_from budget a gate i xs) (sym none) ∙ so

-- ---- their end

write-here : (a : Arrival) (live waits : Bool) (rest : Option Arrival) (n : GuestNext) → is_for a (cond live (cond waits (write_next n) rest) None) ≡ true → waits ≡ true → (fd : ℕ) × (bytes : List ℕ) × (a ≡ at.Write fd bytes)
write-here a false waits rest n e w = absurd (false≢true e)
write-here a true false rest n e w = absurd (false≢true w)
write-here a true true rest (Carries (Goes core)) e w = absurd (false≢true e)
write-here a true true rest (Carries (Faults kind address)) e w = absurd (false≢true e)
write-here a true true rest (Carries (Reads address len)) e w = absurd (false≢true e)
write-here a true true rest (Carries (Prints fd address len bytes core)) e w = (fd, bytes, (same_is_equal a (at.Write fd bytes)).0 e)
write-here a true true rest (Carries (Exits code core)) e w = absurd (false≢true e)
write-here a true true rest (Carries (Stays ended)) e w = absurd (false≢true e)
write-here a true true rest (Returns to) e w = absurd (false≢true e)
write-here a true true rest (Lacks used wanted to) e w = absurd (false≢true e)

-- those who have come to anything else than a write don't wait for one
pub no-wait : (budget : ℕ) (a : Arrival) (r : Replica) → ((fd : ℕ) (bytes : List ℕ) → a ≡ at.Write fd bytes → ⊥) → wins budget a r ≡ true → r.waits ≡ false
no-wait budget a r other won =
    false_from_ne_true r.waits (λ waits.
    let is = write-here a r.live r.waits (if is_due r.mark.clock (clock_of r.flat.guest.history) then Some at.Clock else at_end budget r.flat r.flat.guest.core.ended) (guest_next r.flat.guest) won waits in
    other is.0 is.1 is.2)

pub end-first : (a : Arrival) (r : Replica) (rs : List Replica) → ((fd : ℕ) (bytes : List ℕ) → a ≡ at.Write fd bytes → ⊥) → (a ≡ at.Clock → ⊥) → end_at a (r ∷ rs) ≡ Some (answer.Ended (ended_as r.flat.guest.core.ended))
end-first (at.Write fd bytes) r rs no_write no_clock = absurd (no_write fd bytes refl)
end-first at.Clock r rs no_write no_clock = absurd (no_clock refl)
end-first (at.Exit code) r rs no_write no_clock = refl
end-first (at.Fault kind pc) r rs no_write no_clock = refl
end-first (at.Room used wanted) r rs no_write no_clock = refl
end-first at.Budget r rs no_write no_clock = refl

-- ---- their signals

pub signal-first : (r : Replica) (rs : List Replica) (b : Bool) → has_signalled r ≡ b → any_signalled (r ∷ rs) ≡ cond b true (any_signalled rs)
signal-first r rs b is = ap (λ b. cond b true (any_signalled rs)) is

-- ---- their images

pub image-more : (budget tag i : ℕ) (a : Arrival) (rs : List Replica) (seat : Seat) (p : IsPlaced budget i rs seat) (old new all : List Snapshot) (image : Snapshot) → wins budget a p.r ≡ true → image ≡ image_of tag p.r → new ≡ old ++ image ∷ []
    → old ++ map (image_of tag) (winners budget a (drop i rs)) ≡ all → new ++ map (image_of tag) (winners budget a (drop (i + 1) rs)) ≡ all
image-more budget tag i a rs seat p old new all image won is are so =
    let rest : List Snapshot = map (image_of tag) (winners budget a (drop (i + 1) rs)) in
    ap (λ ys. ys ++ rest) are ∙ append_assoc old (image ∷ []) rest ∙ ap (λ (x : Snapshot). old ++ x ∷ rest) is ∙ ap (λ xs. old ++ map (image_of tag) xs) (sym (winner-next budget i a rs seat p won)) ∙ so

pub image-same : (budget tag i : ℕ) (a : Arrival) (rs : List Replica) (seat : Seat) (p : IsPlaced budget i rs seat) (old all : List Snapshot) → wins budget a p.r ≡ false
    → old ++ map (image_of tag) (winners budget a (drop i rs)) ≡ all → old ++ map (image_of tag) (winners budget a (drop (i + 1) rs)) ≡ all
image-same budget tag i a rs seat p old all lost so = ap (λ xs. old ++ map (image_of tag) xs) (sym (loser-next budget i a rs seat p lost)) ∙ so

pub images-end : (budget tag i : ℕ) (a : Arrival) (rs : List Replica) (old all : List Snapshot) → drop i rs ≡ [] → old ++ map (image_of tag) (winners budget a (drop i rs)) ≡ all → old ≡ all
images-end budget tag i a rs old all none so = sym (append-nil old) ∙ ap (λ xs. old ++ map (image_of tag) (winners budget a xs)) (sym none) ∙ so

pub tag-at : (tag i : ℕ) (seats : List Seat) (seat : Seat) → i < length seats → seat ≡ get_or seats i seat → HaveTag tag seats → tag_in seat.machine ≡ tag
tag-at tag i [] seat within is all = absurd (omega (arith, within))
tag-at tag zero (s ∷ ss) seat within is all = ap (λ (x : Seat). tag_in x.machine) is ∙ all.0
tag-at tag (suc i) (s ∷ ss) seat within is all = tag-at tag i ss seat (omega (arith, within)) is all.1

-- ---- a winner is live

lives : (a : Arrival) (live : Bool) (vote : Option Arrival) → is_for a (cond live vote None) ≡ true → live ≡ true
lives a true vote e = refl
lives a false vote e = absurd (false≢true e)

pub winner-lives : (budget : ℕ) (a : Arrival) (r : Replica) → wins budget a r ≡ true → r.live ≡ true
winner-lives budget a r won = lives a r.live (arrival budget r) won

pub won-lives : (budget : ℕ) (a : Arrival) (r : Replica) (told : Bool) {P : Type 0} → wins budget a r ≡ told → P → OnTrue told (P × (r.live ≡ true))
won-lives budget a r true won p = (p, winner-lives budget a r won)
won-lives budget a r false won p = tt
