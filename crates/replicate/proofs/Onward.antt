-- A replica that goes on, step by step and by many instructions at once.
use Rattle.std.proofs.Common.{◌≡◌, ◌<◌, ◌≤◌, ℕ, zero, suc, ◌+◌, ◌-◌, ◌*◌, ◌^◌, Bool, false, true, cond, nat_le, List, Option, None, Some, is_some, refl, sym, ◌∙◌, ap, subst, add-one, arith}
use Rattle.std.proofs.lemmas.Bool.{true≢false}
use Rattle.std.proofs.lemmas.Bool.Decides.{nat_tests}
use Rattle.exact_heap.specs.History.{clock_of}
use Rattle.rv_machine.specs.Core.{Core, Goes}
use Rattle.rv_machine.specs.Flat.{Flat, with_guest}
use Rattle.rv_machine.specs.Going.{GoesOn, HasGone}
use Rattle.rv_machine.specs.Guest.{Guest, with_core}
use Rattle.rv_machine.specs.HeapCalls.{Carries, guest_next}
use Rattle.rv_machine.specs.Shape.{IsGuestShaped}
use Rattle.rv_machine.specs.Stands.{IsAt, IsReady, core_of}
use Rattle.rv_machine.specs.declared.ended.Ended.{Ended}
use Rattle.rv_machine.specs.declared.machine.Machine.{Machine}
use Rattle.layout_run.specs.Advances.{IsGoing}
use Rattle.layout_run.specs.declared.step.Progress.{Progress}
use Rattle.layout_run.specs.declared.step.Progress.TheVariants as progress
use Rattle.replicate.proofs.Seated.{by-guest, going-prop, le-prop}
use Rattle.replicate.specs.Counted.{IsGuestCounted, StepsAreCounted}
use Rattle.replicate.specs.Limits.{MeetsLimit, PassesKept}
use Rattle.replicate.specs.Replicas.{Replica, at_budget, at_end, attempt, attempted, has_arrived, is_due, onward}
use Rattle.replicate.specs.Seats.{IsSeat, IsSeatOf, StandsAs}
use Rattle.replicate.specs.declared.arrival.Arrival.{Arrival}
use Rattle.replicate.specs.declared.arrival.Arrival.TheVariants as at
use Rattle.replicate.specs.declared.seat.Mark.{Mark}
use Rattle.replicate.specs.declared.seat.Seat.{Seat}

-- ---- steps of a replica

-- it hasn't arrived, so it takes a step
pub attempts : (input : List ℕ) (budget : ℕ) (r : Replica) → has_arrived budget r ≡ false → attempt input budget r ≡ attempted input r (guest_next r.flat.guest)
attempts input budget r is = ap (λ b. cond b r (attempted input r (guest_next r.flat.guest))) is

pub attempt-there : (input : List ℕ) (budget : ℕ) (r : Replica) → has_arrived budget r ≡ true → attempt input budget r ≡ r
attempt-there input budget r is = ap (λ b. cond b r (attempted input r (guest_next r.flat.guest))) is

pub onward-zero : (input : List ℕ) (budget : ℕ) (r : Replica) → onward input budget 0 r ≡ r
unfolding onward
onward-zero input budget r = refl

pub onward-suc : (input : List ℕ) (budget n : ℕ) (r : Replica) → onward input budget (suc n) r ≡ attempt input budget (onward input budget n r)
unfolding onward
onward-suc input budget n r = refl

pub onward-next : (input : List ℕ) (budget n : ℕ) (r : Replica) → onward input budget (n + 1) r ≡ attempt input budget (onward input budget n r)
onward-next input budget n r = rw add-one (onward-suc input budget n r)

-- m steps and then n are m + n
pub onward-both : (input : List ℕ) (budget m n : ℕ) (r : Replica) → onward input budget (m + n) r ≡ onward input budget n (onward input budget m r)
onward-both input budget m zero r =
    let same : m + 0 ≡ m = omega arith in
    ap (λ k. onward input budget k r) same ∙ sym (onward-zero input budget (onward input budget m r))
onward-both input budget m (suc n) r =
    let same : m + suc n ≡ suc (m + n) = omega arith in
    ap (λ k. onward input budget k r) same ∙ onward-suc input budget (m + n) r ∙ ap (attempt input budget) (onward-both input budget m n r) ∙ sym (onward-suc input budget n (onward input budget m r))

-- one that has arrived stays
pub onward-there : (input : List ℕ) (budget n : ℕ) (r : Replica) → has_arrived budget r ≡ true → onward input budget n r ≡ r
onward-there input budget zero r is = onward-zero input budget r
onward-there input budget (suc n) r is = onward-suc input budget n r ∙ ap (attempt input budget) (onward-there input budget n r is) ∙ attempt-there input budget r is

-- ---- a seat on its way

pub onward-start : (input : List ℕ) (budget : ℕ) (r : Replica) (seat : Seat) → IsSeat r seat → IsSeat (onward input budget 0 r) seat
onward-start input budget r seat so = subst (λ (s : Replica). IsSeat s seat) (sym (onward-zero input budget r)) so

-- it has arrived before the last of n steps
pub whole-on : (input : List ℕ) (budget i n : ℕ) (r : Replica) (seat : Seat) → has_arrived budget (onward input budget i r) ≡ true → i ≤ n → IsSeat (onward input budget i r) seat → IsSeat (onward input budget n r) seat × (true ≡ has_arrived budget (onward input budget n r))
whole-on input budget i n r seat there within so =
    let sum : i + (n - i) ≡ n = omega (arith, within) in
    let same : onward input budget n r ≡ onward input budget i r = ap (λ k. onward input budget k r) (sym sum) ∙ onward-both input budget i (n - i) r ∙ onward-there input budget (n - i) (onward input budget i r) there in
    subst (λ (s : Replica). IsSeat s seat × (true ≡ has_arrived budget s)) (sym same) (so, sym there)

-- it has taken all of them
pub onward-done : (input : List ℕ) (budget budget' i n : ℕ) (r : Replica) (seat : Seat) (answer : Bool) → budget' ≡ budget → i ≡ n → IsSeat (onward input budget i r) seat → answer ≡ has_arrived budget' (onward input budget i r) → IsSeat (onward input budget n r) seat × (answer ≡ has_arrived budget (onward input budget n r))
onward-done input budget budget' i n r seat answer same whole so is =
    subst (λ k. IsSeat (onward input budget k r) seat × (answer ≡ has_arrived budget (onward input budget k r))) whole (so, is ∙ ap (λ b. has_arrived b (onward input budget i r)) same)

-- and the next step reads past what is kept
pub meets-after : (input : List ℕ) (budget i k n : ℕ) (r : Replica) → i + k < n → has_arrived budget (onward input budget k (onward input budget i r)) ≡ false → PassesKept (guest_next (onward input budget k (onward input budget i r)).flat.guest) input (onward input budget k (onward input budget i r)).flat.place → MeetsLimit input budget n r
meets-after input budget i k n r less fresh past =
    let same = sym (onward-both input budget i k r) in
    record { made = i + k; less = less; before = subst (λ (s : Replica). has_arrived budget s ≡ false) same fresh; past = subst (λ (s : Replica). PassesKept (guest_next s.flat.guest) input s.flat.place) same past }

-- after k steps of instructions that go on, and one more
pub onward-more : (input : List ℕ) (budget i k : ℕ) (r : Replica) (seat : Seat) → has_arrived budget (onward input budget k (onward input budget i r)) ≡ false → IsSeat (attempted input (onward input budget k (onward input budget i r)) (guest_next (onward input budget k (onward input budget i r)).flat.guest)) seat → IsSeat (onward input budget (i + k + 1) r) seat
onward-more input budget i k r seat fresh so =
    let same : onward input budget (i + k + 1) r ≡ attempted input (onward input budget k (onward input budget i r)) (guest_next (onward input budget k (onward input budget i r)).flat.guest) =
    onward-next input budget (i + k) r ∙ ap (attempt input budget) (onward-both input budget i k r) ∙ attempts input budget (onward input budget k (onward input budget i r)) fresh in
    subst (λ (s : Replica). IsSeat s seat) (sym same) so

-- ---- one that hasn't arrived

not-due : (w d : Bool) (a b : Option Arrival) → w ≡ false → is_some (cond w a (cond d (Some at.Clock) b)) ≡ false → d ≡ false
not-due true d a b waits is = absurd (true≢false waits)
not-due false true a b waits is = absurd (true≢false is)
not-due false false a b waits is = refl

open-due : (budget : ℕ) (r : Replica) → r.waits ≡ false → has_arrived budget r ≡ false → is_due r.mark.clock (clock_of r.flat.guest.history) ≡ false
open-due budget r waits is = not-due r.waits (is_due r.mark.clock (clock_of r.flat.guest.history)) _ _ waits is

not-there : (w d : Bool) (a b : Option Arrival) → w ≡ false → d ≡ false → is_some b ≡ false → is_some (cond w a (cond d (Some at.Clock) b)) ≡ false
not-there true d a b waits due is = absurd (true≢false waits)
not-there false true a b waits due is = absurd (true≢false due)
not-there false false a b waits due is = is

not-used-up : (budget steps : ℕ) → steps < budget → nat_le budget steps ≡ false
not-used-up budget steps less = grind (arith, nat_tests)

not-at-end : (budget : ℕ) (flat : Flat) (e : Option Ended) → e ≡ None → flat.guest.core.steps < budget → is_some (at_end budget flat e) ≡ false
not-at-end budget flat None alive less = ap (λ b. is_some (at_budget b)) (not-used-up budget flat.guest.core.steps less)
not-at-end budget flat (Some e) alive less = cc

not-arrived : (budget : ℕ) (r : Replica) → r.waits ≡ false → is_due r.mark.clock (clock_of r.flat.guest.history) ≡ false → r.flat.guest.core.ended ≡ None → r.flat.guest.core.steps < budget → has_arrived budget r ≡ false
not-arrived budget r waits due alive less = not-there r.waits (is_due r.mark.clock (clock_of r.flat.guest.history)) _ _ waits due (not-at-end budget r.flat r.flat.guest.core.ended alive less)

-- ---- instructions that go on

gone-zero : (g : Guest) (core : Core) → GoesOn 0 g core → core ≡ g.core
unfolding GoesOn
gone-zero g core goes = goes

gone-suc : (n : ℕ) (g : Guest) (core : Core) → GoesOn (suc n) g core → (before : Core) × GoesOn n g before × (guest_next (with_core g before) ≡ Carries (Goes core))
unfolding GoesOn
gone-suc n g core goes = goes

module _ (counted : StepsAreCounted) (shaped : (g : Guest) → IsGuestShaped g (guest_next g)) where
  one-step : (g : Guest) (before core : Core) → guest_next (with_core g before) ≡ Carries (Goes core) → core.steps ≡ before.steps + 1
  one-step g before core is = subst (IsGuestCounted (with_core g before)) is (counted (with_core g before))

  still-alive : (g : Guest) (before core : Core) → guest_next (with_core g before) ≡ Carries (Goes core) → core.ended ≡ before.ended
  still-alive g before core is = (subst (IsGuestShaped (with_core g before)) is (shaped (with_core g before))).0

  gone-steps : (n : ℕ) (g : Guest) (core : Core) → GoesOn n g core → core.steps ≡ g.core.steps + n
  gone-steps zero g core goes = let same = ap (λ (c : Core). c.steps) (gone-zero g core goes) in omega (arith, same)
  gone-steps (suc n) g core goes =
      let parts = gone-suc n g core goes in
      let before = gone-steps n g parts.0 parts.1 in
      let one = one-step g parts.0 core parts.2 in
      omega (arith, before, one)

  gone-alive : (n : ℕ) (g : Guest) (core : Core) → GoesOn n g core → g.core.ended ≡ None → core.ended ≡ None
  gone-alive zero g core goes alive = ap (λ (c : Core). c.ended) (gone-zero g core goes) ∙ alive
  gone-alive (suc n) g core goes alive = let parts = gone-suc n g core goes in still-alive g parts.0 core parts.2 ∙ gone-alive n g parts.0 parts.1 alive

  -- a replica at another core of its guest
  abbrev moved-to : Replica → Core → Replica
  moved-to r core = record r { flat = with_guest r.flat (with_core r.flat.guest core) }

  open-at : (budget : ℕ) (r : Replica) (n : ℕ) (core : Core) → r.waits ≡ false → has_arrived budget r ≡ false → r.flat.guest.core.ended ≡ None → GoesOn n r.flat.guest core → core.steps < budget → has_arrived budget (moved-to r core) ≡ false
  open-at budget r n core waits fresh alive goes less = not-arrived budget (moved-to r core) waits (open-due budget r waits fresh) (gone-alive n r.flat.guest core goes alive) less

  onward-gone : (input : List ℕ) (budget : ℕ) (r : Replica) (n : ℕ) (core : Core) → r.waits ≡ false → has_arrived budget r ≡ false → r.flat.guest.core.ended ≡ None → GoesOn n r.flat.guest core → core.steps < budget → onward input budget n r ≡ moved-to r core
  onward-gone input budget r zero core waits fresh alive goes less = onward-zero input budget r ∙ sym (ap (moved-to r) (gone-zero r.flat.guest core goes))
  onward-gone input budget r (suc n) core waits fresh alive goes less =
      let parts = gone-suc n r.flat.guest core goes in
      let one = one-step r.flat.guest parts.0 core parts.2 in
      let below : parts.0.steps < budget = omega (arith, one, less) in
      onward-suc input budget n r ∙ ap (attempt input budget) (onward-gone input budget r n parts.0 waits fresh alive parts.1 below)
      ∙ attempts input budget (moved-to r parts.0) (open-at budget r n parts.0 waits fresh alive parts.1 below) ∙ ap (attempted input (moved-to r parts.0)) parts.2

  -- ---- the seat

  pub seat-gone : (input : List ℕ) (budget : ℕ) (r : Replica) (n : ℕ) (state : Option Progress) (live : Bool) (mark : Mark) (before machine : Machine) (place : ℕ) → IsSeatOf r live mark state before place → state ≡ Some progress.Going → has_arrived budget r ≡ false
      → ((g : Guest) → IsAt g before → HasGone g n machine) → (core_of machine).steps < budget → IsSeatOf (onward input budget n r) live mark state machine place × (has_arrived budget (onward input budget n r) ≡ false)
  seat-gone input budget r n state live mark before machine place so is fresh gone less =
      let here = subst (λ s. StandsAs r s before place) is so.stands in
      let has = gone r.flat.guest here.1 in
      let below : has.core.steps < budget = subst (λ (c : Core). c.steps < budget) has.at.core less in
      let alive = gone-alive n r.flat.guest has.core has.goes here.2 in
      let there : StandsAs (moved-to r has.core) state machine place = subst (λ s. StandsAs (moved-to r has.core) s machine place) (sym is) (here.0, has.at, alive, here.3) in
      let seat : IsSeatOf (moved-to r has.core) live mark state machine place = record { living = so.living; marked = so.marked; stands = there } in
      subst (λ (s : Replica). IsSeatOf s live mark state machine place × (has_arrived budget s ≡ false)) (sym (onward-gone input budget r n has.core here.0 fresh here.2 has.goes below))
      (seat, open-at budget r n has.core here.0 fresh here.2 has.goes below)

  pub gone-counted : (n : ℕ) (before machine : Machine) (place : ℕ) → IsGoing before → ((g : Guest) → IsAt g before → HasGone g n machine) → place ≤ (core_of before).steps * 2 ^ 32 → place ≤ (core_of machine).steps * 2 ^ 32
  gone-counted n before machine place going gone small =
      by-guest before going (le-prop place ((core_of machine).steps * 2 ^ 32)) (λ g at.
      let has = gone g at in
      let old = ap (λ (c : Core). c.steps) at.core in
      let now = ap (λ (c : Core). c.steps) has.at.core in
      let more = gone-steps n g has.core has.goes in
      omega (arith, old, now, more, small))

pub gone-going : (n : ℕ) (before machine : Machine) → IsGoing before → ((g : Guest) → IsAt g before → HasGone g n machine) → IsReady machine → IsGoing machine
gone-going n before machine going gone ready =
    by-guest before going (going-prop machine) (λ g at. record { ready = ready; stands = ∣ (g.history, (gone g at).at.history) ∣₁ })
