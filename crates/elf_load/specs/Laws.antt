-- Laws over the definitions.
use Rattle.std.specs.Prelude.{◌≡◌, ◌<◌, ℕ, List, Ok, All}
use Rattle.infinite_heap.specs.declared.program.Program.{Program}
use Rattle.infinite_heap.specs.declared.program.Segment.{Segment}
use Rattle.infinite_heap.specs.Elf.{program_of}
use Rattle.infinite_heap.specs.Lawful.{IsLawful}

abbrev pub ProgramsAreLawful : Type 0
ProgramsAreLawful = (file : List ℕ) (p : Program) → program_of file ≡ Ok p → IsLawful p

-- every number of the list is a byte
abbrev pub AllBytes : List ℕ → Type 0
AllBytes bytes = All (λ b. b < 256) bytes

abbrev pub HoldsBytes : Segment → Type 0
HoldsBytes segment = AllBytes segment.bytes

abbrev pub ProgramsHoldBytes : Type 0
ProgramsHoldBytes = (file : List ℕ) → AllBytes file → (p : Program) → program_of file ≡ Ok p → All HoldsBytes p.segments
