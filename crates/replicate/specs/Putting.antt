-- What a put of bytes that are known comes to.
use Rattle.std.specs.Prelude.{◌≢◌, ℕ, List, [], Option, Result, Ok, Err}
use Rattle.std.specs.Io.KnownBytes.{Appends}
use Rattle.ex_io.specs.Causes.{AppendsFront}
use Rattle.ex_io.specs.declared.outside.OutsideFault.{OutsideFault}
use Rattle.ex_io.specs.declared.outside.OutsideFault.TheVariants as fault

-- all of them, or a front where it failed; nothing is put where there are none
abbrev pub PutsBytes : {T : Type 0} → List ℕ → Result T OutsideFault → (old new : Option (List ℕ)) → Type 0
PutsBytes bytes (Ok done) old new = Appends old new bytes
PutsBytes bytes (Err fault.Failed) old new = AppendsFront old new bytes × (bytes ≢ [])
PutsBytes bytes (Err fault.Memory) old new = Appends old new []
