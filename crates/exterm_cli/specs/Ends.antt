-- How a call ends: as planned, or cut short by a cause, of which a line is told.
use Rattle.std.specs.Prelude.{ℕ, List, codes}
use Rattle.exterm_cli.specs.Outside.{Faults, Causes, NoFault}
use Rattle.exterm_cli.specs.Plan.{line}
use Rattle.exterm_cli.specs.declared.cut.Cut.{Cut}
use Rattle.exterm_cli.specs.declared.cut.Cut.TheVariants as why

-- where a call is cut short: before all of its bytes are printed, at the file that it keeps, or at its report
pub data Point : Type 0 where
  Printing : Point
  Keeping : Point
  Reporting : Point

-- How a call ends: all is done, or it is cut short by a cause, which is told on err. The answer is that cause, or
-- Memory where its line wanted memory.
pub data End : Type 0 where
  Done : (status : ℕ) → End
  Stops : Point → (cause answer : Cut) → End

abbrev pub status_of : End → ℕ
status_of (Done status) = status
status_of (Stops point cause why.Memory) = 126
status_of (Stops point cause answer) = 127

-- where a call isn't cut short no count rose, and else that of the object which is the cause
abbrev pub IsCaused : End → Faults → Faults → Type 0
IsCaused (Done status) before after = NoFault before after
IsCaused (Stops point cause answer) before after = Causes cause before after

abbrev pub line_of : Cut → List ℕ
line_of why.Memory = line (codes "memory")
line_of why.Input = line (codes "outside input")
line_of why.Output = line (codes "outside output")
line_of why.Error = line (codes "outside error")
line_of why.File = line (codes "outside file")
