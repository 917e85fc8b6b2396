-- What a call prints on out and err, by what is planned and how it ends: docs/program.md, "What exterm promises".
use Rattle.std.specs.Prelude.{◌≡◌, ◌≢◌, ◌⊎◌, ℕ, List, [], ◌++◌}
use Rattle.std.specs.Io.KnownBytes.{Appends}
use Rattle.ex_io.specs.Causes.{Rose, IsPrefix}
use Rattle.exterm_cli.specs.Ends.{End, Done, Stops, Point, Printing, Keeping, Reporting, line_of}
use Rattle.exterm_cli.specs.Outside.{Seen}
use Rattle.exterm_cli.specs.Plan.{Plan}
use Rattle.exterm_cli.specs.declared.cut.Cut.{Cut}
use Rattle.exterm_cli.specs.declared.cut.Cut.TheVariants as why

-- What was printed before a cut. Where a file couldn't be taken that is nothing, and where err failed the guest prints there.
abbrev pub Printed : Plan → Point → (cause : Cut) → (out err : List ℕ) → Type 0
Printed plan Printing why.File out err = (out ≡ []) × (err ≡ [])
Printed plan Printing why.Error out err = IsPrefix out plan.out × IsPrefix err plan.err × (plan.err ≢ [])
Printed plan Printing cause out err = IsPrefix out plan.out × IsPrefix err plan.err
Printed plan Keeping why.File out err = (out ≡ plan.out) × (err ≡ plan.err)
Printed plan Reporting why.Error out err = (out ≡ plan.out) × (err ≡ plan.err) × (plan.report ≢ [])
Printed plan Reporting why.Memory out err = (out ≡ plan.out) × (err ≡ plan.err) × (plan.report ≢ [])
Printed plan point cause out err = ⊥

-- the line of a cause: all of it, or nothing where it wanted memory, or a prefix where err failed at it
abbrev pub IsLine : (cause answer : Cut) → (faults faults' : ℕ) → List ℕ → Type 0
IsLine cause answer faults faults' tail =
    ((answer ≡ cause) × (tail ≡ line_of cause)) ⊎ (((answer ≡ why.Memory) × (tail ≡ [])) ⊎ ((answer ≡ cause) × Rose faults faults' × IsPrefix tail (line_of cause)))

-- What stands behind the guest's bytes on err after a cut: once err has failed nothing more is put.
abbrev pub IsTold : Plan → Point → (cause answer : Cut) → (faults faults' : ℕ) → List ℕ → Type 0
IsTold plan Reporting why.Error answer faults faults' tail = (answer ≡ why.Error) × IsPrefix tail plan.report
IsTold plan point why.Error answer faults faults' tail = (answer ≡ why.Error) × (tail ≡ [])
IsTold plan point cause answer faults faults' tail = IsLine cause answer faults faults' tail

pub record ShowsPart (plan : Plan) (point : Point) (cause answer : Cut) (before after : Seen) : Type 0 where
  pub out : List ℕ
  pub err : List ℕ
  pub tail : List ℕ
  pub printed : Printed plan point cause out err
  pub told : IsTold plan point cause answer before.faults.err after.faults.err tail
  pub on_out : Appends before.held.out after.held.out out
  pub on_err : Appends before.held.err after.held.err (err ++ tail)

abbrev pub Shows : Plan → End → Seen → Seen → Type 0
Shows plan (Done status) before after = (status ≡ plan.status) × Appends before.held.out after.held.out plan.out × Appends before.held.err after.held.err (plan.err ++ plan.report)
Shows plan (Stops point cause answer) before after = ShowsPart plan point cause answer before after
