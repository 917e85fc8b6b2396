-- A replica comes to a gate, at the latest when its budget is used up.
use Rattle.std.proofs.Common.{◌≡◌, ◌≤◌, ◌⊎◌, ℕ, zero, suc, ◌+◌, Bool, false, true, cond, nat_le, List, Option, None, Some, is_some, inl, inr, refl, sym, ◌∙◌, ap, subst, arith}
use Rattle.std.proofs.lemmas.Bool.{true≢false}
use Rattle.std.proofs.lemmas.Bool.Decides.{nat_tests}
use Rattle.exact_heap.specs.History.{clock_of}
use Rattle.rv_machine.specs.Core.{Core, Goes, Faults, Reads, Prints, Exits, Stays}
use Rattle.rv_machine.specs.Guest.{Guest}
use Rattle.rv_machine.specs.HeapCalls.{GuestNext, Carries, Returns, Lacks, guest_next}
use Rattle.rv_machine.specs.Shape.{IsGuestShaped}
use Rattle.rv_machine.specs.declared.ended.Ended.{Ended}
use Rattle.replicate.proofs.Onward.{attempts, attempt-there, onward-zero, onward-suc}
use Rattle.replicate.specs.Counted.{IsGuestCounted, StepsAreCounted}
use Rattle.replicate.specs.Replicas.{Replica, at_budget, at_end, attempt, attempted, has_arrived, is_due, onward, write_next}
use Rattle.replicate.specs.Rounds.{WaitsForWrite}
use Rattle.replicate.specs.declared.arrival.Arrival.{Arrival}
use Rattle.replicate.specs.declared.arrival.Arrival.TheVariants as at

-- ---- what has arrived, and what hasn't

some-at-write : (w : Bool) (a b : Option Arrival) → w ≡ true → is_some a ≡ true → is_some (cond w a b) ≡ true
some-at-write true a b waits is = is
some-at-write false a b waits is = absurd (true≢false (sym waits))

some-at-end : (w d : Bool) (a b : Option Arrival) → w ≡ false → is_some b ≡ true → is_some (cond w a (cond d (Some at.Clock) b)) ≡ true
some-at-end true d a b waits is = absurd (true≢false waits)
some-at-end false true a b waits is = refl
some-at-end false false a b waits is = is

open-end : (w d : Bool) (a b : Option Arrival) → w ≡ false → is_some (cond w a (cond d (Some at.Clock) b)) ≡ false → is_some b ≡ false
open-end true d a b waits is = absurd (true≢false waits)
open-end false true a b waits is = absurd (true≢false is)
open-end false false a b waits is = is

going-on : (budget : ℕ) (r : Replica) (e : Option Ended) → is_some (at_end budget r.flat e) ≡ false → e ≡ None
going-on budget r None is = refl
going-on budget r (Some ended) is = absurd (true≢false is)

used-up : (budget steps : ℕ) → budget ≤ steps → nat_le budget steps ≡ true
used-up budget steps less = grind (arith, nat_tests)

end-used-up : (budget : ℕ) (r : Replica) (e : Option Ended) → budget ≤ r.flat.guest.core.steps → is_some (at_end budget r.flat e) ≡ true
end-used-up budget r None all = ap (λ b. is_some (at_budget b)) (used-up budget r.flat.guest.core.steps all)
end-used-up budget r (Some ended) all = refl

-- one that has ended
there-ended : (budget : ℕ) (r : Replica) (ended : Ended) → r.waits ≡ false → r.flat.guest.core.ended ≡ Some ended → has_arrived budget r ≡ true
there-ended budget r ended waits is =
    some-at-end r.waits (is_due r.mark.clock (clock_of r.flat.guest.history)) _ _ waits (subst (λ e. is_some (at_end budget r.flat e) ≡ true) (sym is) refl)

-- one whose budget is used up
there-used-up : (budget : ℕ) (r : Replica) → r.waits ≡ false → budget ≤ r.flat.guest.core.steps → has_arrived budget r ≡ true
there-used-up budget r waits all =
    some-at-end r.waits (is_due r.mark.clock (clock_of r.flat.guest.history)) _ _ waits (end-used-up budget r r.flat.guest.core.ended all)

-- one that waits
pub there-waiting : (budget : ℕ) (r : Replica) → r.waits ≡ true → is_some (write_next (guest_next r.flat.guest)) ≡ true → has_arrived budget r ≡ true
there-waiting budget r waits is = some-at-write r.waits _ _ waits is

open-alive : (budget : ℕ) (r : Replica) → r.waits ≡ false → has_arrived budget r ≡ false → r.flat.guest.core.ended ≡ None
open-alive budget r waits is = going-on budget r r.flat.guest.core.ended (open-end r.waits (is_due r.mark.clock (clock_of r.flat.guest.history)) _ _ waits is)

-- ---- a step

-- a write is the next step
pub is-write : (fd address len : ℕ) (bytes : List ℕ) (core : Core) (n : GuestNext) → n ≡ Carries (Prints fd address len bytes core) → is_some (write_next n) ≡ true
is-write fd address len bytes core n is = ap (λ m. is_some (write_next m)) is

-- it has come to its gate, or the step is counted
abbrev ComesOrCounts : (budget : ℕ) → (from to : Replica) → Type 0
ComesOrCounts budget from to = (has_arrived budget to ≡ true) ⊎ ((to.waits ≡ false) × (to.flat.guest.core.steps ≡ from.flat.guest.core.steps + 1))

comes-or-counts : (input : List ℕ) (budget : ℕ) (r : Replica) (n : GuestNext) → guest_next r.flat.guest ≡ n → r.waits ≡ false → r.flat.guest.core.ended ≡ None → IsGuestCounted r.flat.guest n → IsGuestShaped r.flat.guest n → ComesOrCounts budget r (attempted input r n)
comes-or-counts input budget r (Carries (Goes core)) is waits alive counts shaped = inr (waits, counts)
comes-or-counts input budget r (Carries (Faults kind address)) is waits alive counts shaped = inl (there-ended budget (attempted input r (Carries (Faults kind address))) _ waits refl)
comes-or-counts input budget r (Carries (Reads address len)) is waits alive counts shaped = inr (waits, refl)
comes-or-counts input budget r (Carries (Prints fd address len bytes core)) is waits alive counts shaped = inl (is-write fd address len bytes core (guest_next r.flat.guest) is)
comes-or-counts input budget r (Carries (Exits code core)) is waits alive counts shaped = inl (there-ended budget (attempted input r (Carries (Exits code core))) _ waits shaped.0)
comes-or-counts input budget r (Carries (Stays ended)) is waits alive counts shaped = cc
comes-or-counts input budget r (Returns g) is waits alive counts shaped = inr (waits, counts)
comes-or-counts input budget r (Lacks used wanted g) is waits alive counts shaped = inl (there-ended budget (attempted input r (Lacks used wanted g)) _ waits shaped.0)

-- ---- all the steps

module _ (counted : StepsAreCounted) (shaped : (g : Guest) → IsGuestShaped g (guest_next g)) where
  abbrev HasComeOrCounted : (budget n : ℕ) → (from to : Replica) → Type 0
  HasComeOrCounted budget n from to = (has_arrived budget to ≡ true) ⊎ ((to.waits ≡ false) × (to.flat.guest.core.steps ≡ from.flat.guest.core.steps + n))

  attempt-counts : (input : List ℕ) (budget n : ℕ) (from r : Replica) → HasComeOrCounted budget n from r → HasComeOrCounted budget (suc n) from (attempt input budget r)
  attempt-counts input budget n from r (inl there) = inl (subst (λ (s : Replica). has_arrived budget s ≡ true) (sym (attempt-there input budget r there)) there)
  attempt-counts input budget n from r (inr counts) = go (has_arrived budget r) refl
    where
      more : ComesOrCounts budget r (attempt input budget r) → HasComeOrCounted budget (suc n) from (attempt input budget r)
      more (inl there) = inl there
      more (inr steps) = inr (steps.0, omega (arith, steps.1, counts.1))

      go : (b : Bool) → has_arrived budget r ≡ b → HasComeOrCounted budget (suc n) from (attempt input budget r)
      go true is = inl (subst (λ (s : Replica). has_arrived budget s ≡ true) (sym (attempt-there input budget r is)) is)
      go false is =
          more (subst (λ (s : Replica). ComesOrCounts budget r s) (sym (attempts input budget r is))
          (comes-or-counts input budget r (guest_next r.flat.guest) refl counts.0 (open-alive budget r counts.0 is) (counted r.flat.guest) (shaped r.flat.guest)))

  onward-counts : (input : List ℕ) (budget n : ℕ) (r : Replica) → WaitsForWrite r → HasComeOrCounted budget n r (onward input budget n r)
  onward-counts input budget zero r sound = subst (λ (s : Replica). HasComeOrCounted budget 0 r s) (sym (onward-zero input budget r)) (go r.waits refl)
    where
      go : (w : Bool) → r.waits ≡ w → HasComeOrCounted budget 0 r r
      go true is = inl (there-waiting budget r is (sound is))
      go false is = inr (is, omega arith)
  onward-counts input budget (suc n) r sound =
      subst (λ (s : Replica). HasComeOrCounted budget (suc n) r s) (sym (onward-suc input budget n r)) (attempt-counts input budget n r (onward input budget n r) (onward-counts input budget n r sound))

  -- one that hasn't come there has counted each step
  pub fresh-counts : (input : List ℕ) (budget n : ℕ) (r : Replica) → WaitsForWrite r → has_arrived budget (onward input budget n r) ≡ false → (onward input budget n r).flat.guest.core.steps ≡ r.flat.guest.core.steps + n
  fresh-counts input budget n r sound fresh = go (onward-counts input budget n r sound)
    where
      go : HasComeOrCounted budget n r (onward input budget n r) → (onward input budget n r).flat.guest.core.steps ≡ r.flat.guest.core.steps + n
      go (inl there) = absurd (true≢false (sym there ∙ fresh))
      go (inr counts) = counts.1

  pub comes-within : (input : List ℕ) (budget : ℕ) (r : Replica) → WaitsForWrite r → has_arrived budget (onward input budget (suc budget) r) ≡ true
  comes-within input budget r sound = go (onward-counts input budget (suc budget) r sound)
    where
      go : HasComeOrCounted budget (suc budget) r (onward input budget (suc budget) r) → has_arrived budget (onward input budget (suc budget) r) ≡ true
      go (inl there) = there
      go (inr counts) = there-used-up budget (onward input budget (suc budget) r) counts.0 (omega (arith, counts.1))
