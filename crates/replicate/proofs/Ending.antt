-- Rounds lead to one end, and places in the input only rise on their way.
use Rattle.std.proofs.Common.{◌≡◌, ◌<◌, ◌≤◌, ◌⊎◌, ℕ, zero, suc, ◌+◌, max, Bool, false, true, cond, List, [], ◌∷◌, drop, map, length, Option, None, Some, inl, inr, refl, sym, ap, subst, arith}
use Rattle.std.proofs.lemmas.List.{length-drop, length-take}
use Rattle.std.specs.List.{range_with_len}
use Rattle.ex_io.specs.Tape.{most_kept}
use Rattle.infinite_heap.specs.InfiniteSystem.{taken}
use Rattle.infinite_heap.specs.Loaded.{Loaded}
use Rattle.patch_table.specs.Table.{Table}
use Rattle.rv_machine.specs.declared.settings.Settings.{Settings}
use Rattle.rv_machine.specs.Core.{Next, Goes, Faults, Reads, Prints, Exits, Stays}
use Rattle.rv_machine.specs.Flat.{Flat, after_step}
use Rattle.rv_machine.specs.HeapCalls.{GuestNext, Carries, Returns, Lacks, guest_next}
use Rattle.replicate.proofs.Gating.{rounds-suc, rounds-zero}
use Rattle.replicate.proofs.Onward.{onward-zero, onward-suc}
use Rattle.replicate.specs.Gates.{DecidesBy, GatesFrom, WaitsOrDecides, gone_on, missing_from, passed, wins, won, written}
use Rattle.replicate.specs.Groups.{Group, moved}
use Rattle.replicate.specs.Replicas.{Replica, attempt, attempted, has_arrived, onward}
use Rattle.replicate.specs.Rounds.{IsRound, IsRoundAfter, Rounds, RoundsAreOne, gathered, replica_at, started}
use Rattle.replicate.specs.Runs.{EndsAreOne, EndsOrStops, PlacesAreInside, ReachesLimit, StopsAreOne, furthest, furthest_of}
use Rattle.replicate.specs.declared.answer.GateAnswer.{GateAnswer}
use Rattle.replicate.specs.declared.arrival.Arrival.{Arrival}

-- ---- a step reads on, and not past the end of the input

-- what a place in an input is after a step
pub record ReadsFrom (input : List ℕ) (before after : ℕ) : Type 0 where
  pub rises : before ≤ after
  pub inside : before ≤ length input → after ≤ length input

stays-there : (input : List ℕ) (place : ℕ) → ReadsFrom input place place
stays-there input place = record { rises = omega arith; inside = λ is. is }

both-read : (input : List ℕ) (a b c : ℕ) → ReadsFrom input a b → ReadsFrom input b c → ReadsFrom input a c
both-read input a b c one two = record { rises = omega (arith, one.rises, two.rises); inside = λ is. two.inside (one.inside is) }

taken-inside : (input : List ℕ) (place len : ℕ) → place ≤ length input → place + length (taken input place len) ≤ length input
taken-inside input place len is = omega (arith, is, length-take len (drop place input), length-drop place input)

carried-reads : (input feed : List ℕ) (flat : Flat) (n : Next) → (feed ≡ input) ⊎ (feed ≡ []) → ReadsFrom input flat.place (after_step feed flat (Carries n)).place
carried-reads input feed flat (Reads address len) (inl is) = record { rises = omega arith; inside = λ within. subst (λ f. flat.place + length (taken f flat.place len) ≤ length input) (sym is) (taken-inside input flat.place len within) }
carried-reads input feed flat (Reads address len) (inr is) = record { rises = omega arith; inside = λ within. subst (λ f. flat.place + length (taken f flat.place len) ≤ length input) (sym is) (omega (arith, within, length-take {A = ℕ} len (drop flat.place []), length-drop {A = ℕ} flat.place [])) }
carried-reads input feed flat (Goes core) of = stays-there input flat.place
carried-reads input feed flat (Faults kind address) of = stays-there input flat.place
carried-reads input feed flat (Prints fd address len bytes core) of = stays-there input flat.place
carried-reads input feed flat (Exits code core) of = stays-there input flat.place
carried-reads input feed flat (Stays ended) of = stays-there input flat.place

step-reads : (input feed : List ℕ) (flat : Flat) (n : GuestNext) → (feed ≡ input) ⊎ (feed ≡ []) → ReadsFrom input flat.place (after_step feed flat n).place
step-reads input feed flat (Carries n) of = carried-reads input feed flat n of
step-reads input feed flat (Returns g) of = stays-there input flat.place
step-reads input feed flat (Lacks used wanted g) of = stays-there input flat.place

-- ---- so do replicas

pub attempted-reads : (input : List ℕ) (r : Replica) (n : GuestNext) → ReadsFrom input r.flat.place (attempted input r n).flat.place
attempted-reads input r (Carries (Prints fd address len bytes core)) = stays-there input r.flat.place
attempted-reads input r n = step-reads input input r.flat n (inl refl)

pub attempt-reads : (input : List ℕ) (budget : ℕ) (r : Replica) → ReadsFrom input r.flat.place (attempt input budget r).flat.place
attempt-reads input budget r = go (has_arrived budget r)
  where
    go : (b : Bool) → ReadsFrom input r.flat.place (cond b r (attempted input r (guest_next r.flat.guest))).flat.place
    go true = stays-there input r.flat.place
    go false = attempted-reads input r (guest_next r.flat.guest)

abbrev pub HasRead : (input : List ℕ) → (from to : Replica) → Type 0
HasRead input from to = ReadsFrom input from.flat.place to.flat.place

pub onward-reads : (input : List ℕ) (budget n : ℕ) (r : Replica) → HasRead input r (onward input budget n r)
onward-reads input budget zero r = subst (HasRead input r) (sym (onward-zero input budget r)) (stays-there input r.flat.place)
onward-reads input budget (suc n) r =
    subst (HasRead input r) (sym (onward-suc input budget n r))
    (both-read input r.flat.place (onward input budget n r).flat.place (attempt input budget (onward input budget n r)).flat.place (onward-reads input budget n r) (attempt-reads input budget (onward input budget n r)))

pub moved-reads : (input : List ℕ) (budget n : ℕ) (r : Replica) → HasRead input r (moved input budget n r)
moved-reads input budget n r = go r.live
  where
    go : (b : Bool) → HasRead input r (cond b (onward input budget n r) r)
    go true = onward-reads input budget n r
    go false = stays-there input r.flat.place

written-reads : (input : List ℕ) (r : Replica) → ReadsFrom input r.flat.place (written r).place
written-reads input r = go r.waits
  where
    go : (b : Bool) → ReadsFrom input r.flat.place (cond b (after_step [] r.flat (guest_next r.flat.guest)) r.flat).place
    go true = step-reads input [] r.flat (guest_next r.flat.guest) (inr refl)
    go false = stays-there input r.flat.place

passed-reads : (input : List ℕ) (budget : ℕ) (a : Arrival) (table : Table) (r : Replica) → HasRead input r (passed budget a table r)
passed-reads input budget a table r = go (wins budget a r)
  where
    go : (b : Bool) → HasRead input r (cond b (gone_on table (written r)) (record r { live = false }))
    go true = written-reads input r
    go false = stays-there input r.flat.place

-- ---- and groups

max-reads : (input : List ℕ) (a a' b b' : ℕ) → ReadsFrom input a a' → ReadsFrom input b b' → ReadsFrom input (max a b) (max a' b')
max-reads input a a' b b' one two = record {
  rises = let x = one.rises in let y = two.rises in omega (arith, x, y);
  inside = λ is. let x : a' ≤ length input = one.inside (omega (arith, is)) in let y : b' ≤ length input = two.inside (omega (arith, is)) in omega (arith, x, y);
}

all-read : (input : List ℕ) (change : Replica → Replica) → ((r : Replica) → HasRead input r (change r)) → (rs : List Replica) → ReadsFrom input (furthest_of rs) (furthest_of (map change rs))
all-read input change each [] = stays-there input 0
all-read input change each (r ∷ rs) = max-reads input r.flat.place (change r).flat.place (furthest_of rs) (furthest_of (map change rs)) (each r) (all-read input change each rs)

abbrev pub GroupReads : (input : List ℕ) → (from to : Group) → Type 0
GroupReads input from to = ReadsFrom input (furthest from) (furthest to)

pub gathered-reads : (input : List ℕ) (g : Group) → GroupReads input g (gathered input g)
gathered-reads input g = all-read input (moved input g.budget (suc g.budget)) (moved-reads input g.budget (suc g.budget)) g.replicas

decided-reads : (input : List ℕ) (vote : Option Arrival) (g : Group) (got : GateAnswer) (to : Group) → DecidesBy vote g got to → GroupReads input g to
decided-reads input None g got to decides = subst (GroupReads input g) (sym decides.1) (stays-there input (furthest g))
decided-reads input (Some a) g got to decides = subst (GroupReads input g) (sym decides.is) (all-read input (passed g.budget a decides.cured.table) (passed-reads input g.budget a decides.cured.table) g.replicas)

waits-reads : (input : List ℕ) (missing : Option ℕ) (g : Group) (got : GateAnswer) (to : Group) → WaitsOrDecides missing g got to → GroupReads input g to
waits-reads input (Some i) g got to waits = subst (GroupReads input g) (sym waits.1) (stays-there input (furthest g))
waits-reads input None g got to decides = decided-reads input (won g) g got to decides

pub gate-reads : (input : List ℕ) (over : Option GateAnswer) (g : Group) (got : GateAnswer) (to : Group) → GatesFrom over g got to → GroupReads input g to
gate-reads input (Some over) g got to gate = subst (GroupReads input g) (sym gate.1) (stays-there input (furthest g))
gate-reads input None g got to gate = waits-reads input (missing_from g.budget 0 g.replicas) g got to gate

-- a round after its gathering, and the whole
gate-of-round : (input : List ℕ) (from to : Group) → IsRound input from to → GroupReads input (gathered input from) to
gate-of-round input from to round = gate-reads input (gathered input from).over (gathered input from) round.got to round.gate

round-reads : (input : List ℕ) (from to : Group) → IsRound input from to → GroupReads input from to
round-reads input from to round = both-read input (furthest from) (furthest (gathered input from)) (furthest to) (gathered-reads input from) (gate-of-round input from to round)

-- ---- places are inside of the input

none-read : (program : Loaded) (args : List (List ℕ)) (settings : Settings) (numbers : List ℕ) → furthest_of (map (replica_at program args settings) numbers) ≡ 0
none-read program args settings [] = refl
none-read program args settings (i ∷ numbers) = let rest = none-read program args settings numbers in omega (arith, rest)

rounds-inside : (input : List ℕ) (start : Group) (n : ℕ) (g : Group) → furthest start ≤ length input → Rounds input start n g → furthest g ≤ length input
rounds-inside input start zero g inside are = subst (λ (h : Group). furthest h ≤ length input) (sym (rounds-zero input start g are)) inside
rounds-inside input start (suc n) g inside are =
    let last = rounds-suc input start n g are in
    (round-reads input last.from g last.round).inside (rounds-inside input start n last.from inside last.reached)

pub places-inside : PlacesAreInside
places-inside program args settings input budget count n g are =
    let none : furthest (started program args settings budget count) ≡ 0 = none-read program args settings (range_with_len 0 count) in
    (gathered-reads input g).inside (rounds-inside input (started program args settings budget count) n g (omega (arith, none)) are)

-- ---- one end

-- before so many rounds were so few, the next of which went on
record HasGoneOn (input : List ℕ) (start : Group) (n : ℕ) (to : Group) : Type 0 where
  from : Group
  are : Rounds input start n from
  going : from.over ≡ None
  further : furthest (gathered input from) ≤ furthest to

-- which of two counts is less
abbrev pub Order : ℕ → ℕ → Type 0
Order m n = (m < n) ⊎ ((m ≡ n) ⊎ (n < m))

pub order : (m n : ℕ) → Order m n
order zero zero = inr (inl refl)
order zero (suc n) = inl (omega arith)
order (suc m) zero = inr (inr (omega arith))
order (suc m) (suc n) = go (order m n)
  where
    go : Order m n → Order (suc m) (suc n)
    go (inl less) = inl (omega (arith, less))
    go (inr (inl same)) = inr (inl (ap (λ k. suc k) same))
    go (inr (inr more)) = inr (inr (omega (arith, more)))

goes-on : (input : List ℕ) (start : Group) (n m : ℕ) (to : Group) → n < m → Rounds input start m to → HasGoneOn input start n to
goes-on input start n zero to less are = absurd (omega (arith, less))
goes-on input start n (suc m) to less are = go (order n m) (goes-on input start n m last.from)
  where
    last : IsRoundAfter input (Rounds input start m) to
    last = rounds-suc input start m to are

    go : Order n m → (n < m → Rounds input start m last.from → HasGoneOn input start n last.from) → HasGoneOn input start n to
    go (inl fewer) before =
        let so = before fewer last.reached in
        let rises = (round-reads input last.from to last.round).rises in
        record { from = so.from; are = so.are; going = so.going; further = omega (arith, so.further, rises) }
    go (inr (inl same)) before = record {
      from = last.from;
      are = subst (λ k. Rounds input start k last.from) (sym same) last.reached;
      going = last.round.going;
      further = (gate-of-round input last.from to last.round).rises;
    }
    go (inr (inr more)) before = absurd (omega (arith, less, more))

not-over : (over : Option GateAnswer) (got : GateAnswer) → over ≡ None → over ≡ Some got → ⊥
not-over over got going is = cc

same-answer : (over : Option GateAnswer) (got got' : GateAnswer) → over ≡ Some got → over ≡ Some got' → got ≡ got'
same-answer over got got' is is' = cc

module _ (one : RoundsAreOne) where
  gone-on-so : (input : List ℕ) (start : Group) (n m : ℕ) (a b : Group) → n < m → Rounds input start n a → Rounds input start m b → (a.over ≡ None) × (furthest (gathered input a) ≤ furthest b)
  gone-on-so input start n m a b less few many =
      let so = goes-on input start n m b less many in
      let same : so.from ≡ a = one input start n so.from a so.are few in
      subst (λ (g : Group). (g.over ≡ None) × (furthest (gathered input g) ≤ furthest b)) same (so.going, so.further)

  -- so many rounds are as many
  same-count : (input : List ℕ) (start : Group) (n m : ℕ) (a b : Group) → n ≡ m → Rounds input start n a → Rounds input start m b → a ≡ b
  same-count input start n m a b same few many = one input start m a b (subst (λ k. Rounds input start k a) same few) many

  pub ends-one : EndsAreOne
  ends-one input start a b got got' p q = go (order p.rounds q.rounds)
    where
      go : Order p.rounds q.rounds → (a ≡ b) × (got ≡ got')
      go (inl less) = absurd (not-over a.over got (gone-on-so input start p.rounds q.rounds a b less p.are q.are).0 p.over)
      go (inr (inl same)) =
          let both : a ≡ b = same-count input start p.rounds q.rounds a b same p.are q.are in
          (both, same-answer b.over got got' (subst (λ (g : Group). g.over ≡ Some got) both p.over) q.over)
      go (inr (inr more)) = absurd (not-over b.over got' (gone-on-so input start q.rounds p.rounds b a more q.are p.are).0 q.over)

  -- the one that has read too far isn't behind another
  not-behind : (input : List ℕ) (start a b : Group) (n : ℕ) (p : ReachesLimit input start a) → p.rounds < n → Rounds input start n b → furthest b ≤ most_kept → ⊥
  not-behind input start a b n p less are within =
      let further = (gone-on-so input start p.rounds n a b less p.are are).1 in
      p.past (omega (arith, further, within))

  pub stops-one : StopsAreOne
  stops-one input start a b p q = go (order p.rounds q.rounds)
    where
      go : Order p.rounds q.rounds → a ≡ b
      go (inl less) = absurd (not-behind input start a b q.rounds p less q.are q.within)
      go (inr (inl same)) = same-count input start p.rounds q.rounds a b same p.are q.are
      go (inr (inr more)) = absurd (not-behind input start b a p.rounds q more p.are p.within)

  pub ends-or-stops : EndsOrStops
  ends-or-stops input start to at got p q = go (order p.rounds q.rounds)
    where
      go : Order p.rounds q.rounds → ⊥
      go (inl less) = not-over to.over got (gone-on-so input start p.rounds q.rounds to at less p.are q.are).0 p.over
      go (inr (inl same)) =
          let both : to ≡ at = same-count input start p.rounds q.rounds to at same p.are q.are in
          not-over at.over got q.going (subst (λ (g : Group). g.over ≡ Some got) both p.over)
      go (inr (inr more)) = not-behind input start at to p.rounds q more p.are p.within
