-- What the outside tells are bytes: docs/outside.md, "Bytes".
use Rattle.std.specs.Prelude.{ℕ, ◌<◌, nat_lt, if◌then◌else◌, List, All, Option, None, Some, IfSome}
use Rattle.std.specs.List.{list_all}
use Rattle.ex_io.specs.Files.{FileMap}

-- the numbers that are told, if any, are bytes
abbrev pub TellsBytes : Option (List ℕ) → Type 0
TellsBytes told = IfSome told (λ bytes. All (λ b. b < 256) bytes)

-- each file of a told map has bytes
abbrev pub FilesTellBytes : Option FileMap → Type 0
FilesTellBytes told = IfSome told (λ files. (name : List ℕ) → TellsBytes (files name))

-- what another tells, where that are bytes
abbrev pub told_bytes : Option (List ℕ) → Option (List ℕ)
told_bytes None = None
told_bytes (Some told) = if list_all (λ b. nat_lt b 256) told then Some told else None
