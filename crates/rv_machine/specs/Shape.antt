-- What each next step says of the guest before it and after it.
use Rattle.std.specs.Prelude.{◌≡◌, ◌<◌, ⊤}
use Rattle.std.specs.declared.option.Option.TheVariants.{Some}
use Rattle.rv_memory.specs.Memory.{span}
use Rattle.rv_machine.specs.declared.ended.Ended.TheVariants.{Exited, Roomed}
use Rattle.rv_machine.specs.Core.{Core, Next, Goes, Reads, Prints, Exits, register, stepped}
use Rattle.rv_machine.specs.Guest.{Guest}
use Rattle.rv_machine.specs.HeapCalls.{GuestNext, Carries, Returns, Lacks}
use Rattle.rv_machine.specs.Steps.{next}

-- a read has its place and its length in a1 and a2, and so has a write, which goes on with the length in a0 and prints
-- one byte at least; what goes on hasn't ended by it, and an exit has
abbrev pub IsShaped : Core → Next → Type 0
IsShaped core (Goes to) = to.ended ≡ core.ended
IsShaped core (Exits code to) = to.ended ≡ Some (Exited code)
IsShaped core (Reads address len) = (address ≡ register core 11) × (len ≡ register core 12)
IsShaped core (Prints fd address len bytes to) = (address ≡ register core 11) × (len ≡ register core 12) × (span core.memory.bytes address len ≡ Some bytes) × (to ≡ stepped core 10 len) × (0 < len)
IsShaped core next = ⊤

-- what a guest with its heap reads or prints is its core's own next step
abbrev pub IsOfCore : Core → Next → Type 0
IsOfCore core (Reads address len) = next core ≡ Reads address len
IsOfCore core (Prints fd address len bytes to) = next core ≡ Prints fd address len bytes to
IsOfCore core next = ⊤

-- a heap call that returns hasn't ended the guest, and one without room has; neither changes names or rules
abbrev pub IsGuestShaped : Guest → GuestNext → Type 0
IsGuestShaped g (Carries n) = IsShaped g.core n × IsOfCore g.core n
IsGuestShaped g (Returns to) = (to.core.ended ≡ g.core.ended) × (to.names ≡ g.names) × (to.rules ≡ g.rules)
IsGuestShaped g (Lacks used wanted to) = (to.core.ended ≡ Some (Roomed used wanted)) × (to.names ≡ g.names) × (to.rules ≡ g.rules)
