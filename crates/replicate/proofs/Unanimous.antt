-- Groups whose replicas have all come to the same.
use Rattle.std.proofs.Common.{◌≡◌, ℕ, suc, ◌+◌, ◌*◌, refl, ap, sym, ◌∙◌, Bool, true, false, cond, not, ◌&&◌, arith, List, [], ◌∷◌, map, length, Option, None, Some, is_some}
use Rattle.std.specs.Prelude.{nat_lt, filter, bytes_eq, ◌==◌}
use Rattle.std.proofs.lemmas.Bool.{true≢false}
use Rattle.std.proofs.lemmas.Bool.Decides.{nat_tests}
use Rattle.std.proofs.lemmas.Slice.Eq.{bytes_eq-Decides}
use Rattle.infinite_heap.specs.declared.fault.FaultKind.{FaultKind}
use Rattle.infinite_heap.specs.declared.fault.FaultKind.TheVariants as fault
use Rattle.exact_heap.specs.declared.signal.Signal.{Signal}
use Rattle.replicate.specs.Gates.{any_signalled, has_signalled, live_count, loses, losers_from, missing_from, winners, wins}
use Rattle.replicate.specs.Replicas.{Replica, arrival, has_arrived}
use Rattle.replicate.specs.Votes.{count_for, count_of, is_for, is_same, is_same_kind, vote_of, winner_of}
use Rattle.replicate.specs.declared.arrival.Arrival.{Arrival}
use Rattle.replicate.specs.declared.arrival.Arrival.TheVariants as at

-- ---- an arrival is the same as itself

same-number : (n : ℕ) → (n == n) ≡ true
same-number n = grind (arith, nat_tests)

both-true : (a b : Bool) → a ≡ true → b ≡ true → (a && b) ≡ true
both-true true b one two = two
both-true false b one two = one

same-kind : (kind : FaultKind) → is_same_kind kind kind ≡ true
same-kind fault.Fetch = refl
same-kind fault.Illegal = refl
same-kind fault.Break = refl
same-kind fault.Jump = refl
same-kind fault.LoadAlign = refl
same-kind fault.StoreAlign = refl
same-kind fault.Load = refl
same-kind fault.Store = refl

pub same-self : (a : Arrival) → is_same a a ≡ true
same-self (at.Write fd bytes) = both-true (fd == fd) (bytes_eq bytes bytes) (same-number fd) ((bytes_eq-Decides bytes bytes).1 refl)
same-self at.Clock = refl
same-self (at.Exit code) = same-number code
same-self (at.Fault kind pc) = both-true (is_same_kind kind kind) (pc == pc) (same-kind kind) (same-number pc)
same-self (at.Room used wanted) = both-true (used == used) (wanted == wanted) (same-number used) (same-number wanted)
same-self at.Budget = refl

-- ---- one replica

-- it is live and has come to this
pub record Comes (budget : ℕ) (a : Arrival) (r : Replica) : Type 0 where
  pub live : r.live ≡ true
  pub comes : arrival budget r ≡ Some a

pub votes-for : (budget : ℕ) (a : Arrival) (r : Replica) → Comes budget a r → vote_of budget r ≡ Some a
votes-for budget a r c = ap (λ b. cond b (arrival budget r) None) c.live ∙ c.comes

pub comes-wins : (budget : ℕ) (a : Arrival) (r : Replica) → Comes budget a r → wins budget a r ≡ true
comes-wins budget a r c = ap (is_for a) (votes-for budget a r c) ∙ same-self a

pub quiet-replica : (r : Replica) → r.flat.guest.history.signals ≡ [] → has_signalled r ≡ false
quiet-replica r none = ap (λ (signals : List Signal). nat_lt r.mark.signals (length signals)) none ∙ below-none r.mark.signals
  where
    below-none : (n : ℕ) → nat_lt n 0 ≡ false
    below-none n = grind (arith, nat_tests)

-- ---- all of them

pub map-each : {X Y : Type 0} (change : X → Y) (f : ℕ → X) (g : ℕ → Y) → ((i : ℕ) → change (f i) ≡ g i) → (is : List ℕ) → map change (map f is) ≡ map g is
map-each change f g each [] = refl
map-each change f g each (i ∷ is) = ap (λ x. x ∷ map change (map f is)) (each i) ∙ ap (λ xs. g i ∷ xs) (map-each change f g each is)

pub all-quiet : (f : ℕ → Replica) → ((i : ℕ) → has_signalled (f i) ≡ false) → (is : List ℕ) → any_signalled (map f is) ≡ false
all-quiet f each [] = refl
all-quiet f each (i ∷ is) = ap (λ b. cond b true (any_signalled (map f is))) (each i) ∙ all-quiet f each is

-- the first has arrived where none is missing
pub none-missing : (budget : ℕ) (r : Replica) (rs : List Replica) → r.live ≡ true → missing_from budget 0 (r ∷ rs) ≡ None → has_arrived budget r ≡ true
none-missing budget r rs live none = go (has_arrived budget r) refl
  where
    go : (b : Bool) → has_arrived budget r ≡ b → has_arrived budget r ≡ true
    go true is = is
    go false is =
        let there : missing_from budget 0 (r ∷ rs) ≡ Some 0 = ap (λ l. cond (l && not (has_arrived budget r)) (Some 0) (missing_from budget 1 rs)) live ∙ ap (λ b. cond (not b) (Some 0) (missing_from budget 1 rs)) is in
        absurd (true≢false (ap is_some (sym there ∙ none)))

module _ (budget : ℕ) (a : Arrival) (f : ℕ → Replica) (comes : (i : ℕ) → Comes budget a (f i)) where
  all-live : (is : List ℕ) → live_count (map f is) ≡ length is
  all-live [] = refl
  all-live (i ∷ is) = ap (λ b. cond b (suc (live_count (map f is))) (live_count (map f is))) (comes i).live ∙ ap suc (all-live is)

  all-for : (is : List ℕ) → count_for a (map (vote_of budget) (map f is)) ≡ length is
  all-for [] = refl
  all-for (i ∷ is) =
      ap (λ b. cond b (suc (count_for a (map (vote_of budget) (map f is)))) (count_for a (map (vote_of budget) (map f is)))) (comes-wins budget a (f i) (comes i)) ∙ ap suc (all-for is)

  more-than-half : (n : ℕ) → nat_lt (suc n) (2 * suc n) ≡ true
  more-than-half n = grind (arith, nat_tests)

  pub all-win : (i : ℕ) (is : List ℕ) → winner_of (live_count (map f (i ∷ is))) (map (vote_of budget) (map f (i ∷ is))) (map (vote_of budget) (map f (i ∷ is))) ≡ Some a
  all-win i is =
      let votes : List (Option Arrival) = map (vote_of budget) (map f (i ∷ is)) in
      let rest : Option Arrival = winner_of (live_count (map f (i ∷ is))) votes (map (vote_of budget) (map f is)) in
      ap (λ (v : Option Arrival). cond (nat_lt (live_count (map f (i ∷ is))) (2 * count_of v votes)) v rest) (votes-for budget a (f i) (comes i))
      ∙ ap (λ n. cond (nat_lt n (2 * count_for a votes)) (Some a) rest) (all-live (i ∷ is))
      ∙ ap (λ n. cond (nat_lt (length (i ∷ is)) (2 * n)) (Some a) rest) (all-for (i ∷ is))
      ∙ ap (λ b. cond b (Some a) rest) (more-than-half (length is))

  pub all-winners : (is : List ℕ) → winners budget a (map f is) ≡ map f is
  all-winners [] = refl
  all-winners (i ∷ is) = ap (λ b. cond b (f i ∷ filter (wins budget a) (map f is)) (filter (wins budget a) (map f is))) (comes-wins budget a (f i) (comes i)) ∙ ap (λ rs. f i ∷ rs) (all-winners is)

  no-loss : (i : ℕ) → loses budget a (f i) ≡ false
  no-loss i = ap (λ b. (f i).live && not b) (comes-wins budget a (f i) (comes i)) ∙ ap (λ b. b && false) (comes i).live

  pub no-losers : (gate n : ℕ) (is : List ℕ) → losers_from budget a gate n (map f is) ≡ []
  no-losers gate n [] = refl
  no-losers gate n (i ∷ is) =
      ap (λ b. cond b (record { replica = n; gate = gate } ∷ losers_from budget a gate (n + 1) (map f is)) (losers_from budget a gate (n + 1) (map f is))) (no-loss i) ∙ no-losers gate (n + 1) is
