-- Where a replica's way ends because it reads past what is kept of the input: docs/replicas.md.
use Rattle.std.specs.Prelude.{◌≡◌, ◌<◌, ◌≤◌, ◌+◌, ℕ, zero, suc, true, false, List, [], ◌∷◌, length}
use Rattle.ex_io.specs.Tape.{most_kept}
use Rattle.rv_machine.specs.Core.{Reads}
use Rattle.rv_machine.specs.HeapCalls.{GuestNext, Carries, guest_next}
use Rattle.replicate.specs.Replicas.{Replica, has_arrived, onward}

-- the next step is a read by which the place in the input passes the most that is kept
abbrev pub PassesKept : GuestNext → (input : List ℕ) → (place : ℕ) → Type 0
PassesKept (Carries (Reads address len)) input place = (place ≤ most_kept) × (most_kept < place + len) × (most_kept < length input)
PassesKept next input place = ⊥

-- one of its next n steps is such a read, and it hasn't arrived before that
pub record MeetsLimit (input : List ℕ) (budget n : ℕ) (r : Replica) : Type 0 where
  pub made : ℕ
  pub less : made < n
  pub before : has_arrived budget (onward input budget made r) ≡ false
  pub past : PassesKept (guest_next (onward input budget made r).flat.guest) input (onward input budget made r).flat.place

abbrev pub MeetsLimitAt : (input : List ℕ) → (budget n i : ℕ) → List Replica → Type 0
MeetsLimitAt input budget n i [] = ⊥
MeetsLimitAt input budget n zero (r ∷ rs) = (r.live ≡ true) × MeetsLimit input budget n r
MeetsLimitAt input budget n (suc i) (r ∷ rs) = MeetsLimitAt input budget n i rs
