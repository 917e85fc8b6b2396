-- What a step counts.
use Rattle.std.specs.Prelude.{◌≡◌, ◌+◌, ⊤, Some}
use Rattle.rv_machine.specs.Core.{Core, Next, Goes, Prints, Exits, Stays}
use Rattle.rv_machine.specs.Guest.{Guest}
use Rattle.rv_machine.specs.HeapCalls.{GuestNext, Carries, Returns, Lacks, guest_next}

-- an instruction that goes on, prints or exits is counted. So is a read, with what it gets. A guest stays where it has ended
abbrev pub IsCounted : Core → Next → Type 0
IsCounted core (Goes to) = to.steps ≡ core.steps + 1
IsCounted core (Prints fd address len bytes to) = to.steps ≡ core.steps + 1
IsCounted core (Exits code to) = to.steps ≡ core.steps + 1
IsCounted core (Stays ended) = core.ended ≡ Some ended
IsCounted core next = ⊤

-- and a heap call, where there is room for it
abbrev pub IsGuestCounted : Guest → GuestNext → Type 0
IsGuestCounted g (Carries n) = IsCounted g.core n
IsGuestCounted g (Returns to) = to.core.steps ≡ g.core.steps + 1
IsGuestCounted g (Lacks used wanted to) = to.core.steps ≡ g.core.steps

abbrev pub StepsAreCounted : Type 0
StepsAreCounted = (g : Guest) → IsGuestCounted g (guest_next g)
