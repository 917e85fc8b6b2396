-- Instructions of a guest that go on, one after the other: docs/guest.md, "Runs".
use Rattle.std.specs.Prelude.{◌≡◌, ℕ, zero, suc}
use Rattle.rv_machine.specs.declared.machine.Machine.{Machine}
use Rattle.rv_machine.specs.Core.{Core, Goes}
use Rattle.rv_machine.specs.Guest.{Guest, with_core}
use Rattle.rv_machine.specs.HeapCalls.{GuestNext, Carries, guest_next}
use Rattle.rv_machine.specs.Stands.{IsAt}

-- The next so many steps of a guest are instructions that go on, none of which reads or prints, and they lead to this core.
unfoldable pub GoesOn : (n : ℕ) → Guest → Core → Type 0
GoesOn zero g core = core ≡ g.core
GoesOn (suc n) g core = (before : Core) × GoesOn n g before × (guest_next (with_core g before) ≡ Carries (Goes core))

-- the machine stands for a guest after so many of them
pub record HasGone (g : Guest) (n : ℕ) (machine : Machine) : Type 0 where
  pub core : Core
  pub goes : GoesOn n g core
  pub at : IsAt (with_core g core) machine

-- the step of a guest was an instruction that went on
abbrev pub Went : Guest → GuestNext → Machine → Type 0
Went g (Carries (Goes core)) machine = IsAt (with_core g core) machine
Went g next machine = ⊥
