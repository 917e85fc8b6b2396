-- What the call answers, from what its parts do.
use Rattle.std.proofs.Common.{◌≡◌, ◌≢◌, inl, inr, ℕ, List, [], Option, None, Some, Result, Ok, Err, IfOk, IfSome, refl, sym, ◌∙◌, subst}
use Rattle.std.specs.Io.KnownBytes.{Appends}
use Rattle.ex_io.specs.Causes.{Rose, IsPrefix}
use Rattle.ex_io.specs.Files.{FileMap}
use Rattle.layout_run.specs.Outside.{held}
use Rattle.exterm_cli.specs.Answers.{Answers, CutsPrinting, Does, DoesAll, DoesOn, DoesStage, Leaves}
use Rattle.exterm_cli.specs.Ends.{Done, End, IsCaused, Point, Printing, Keeping, Reporting, Stops, status_of}
use Rattle.exterm_cli.specs.Shows.{IsLine, IsTold}
use Rattle.exterm_cli.specs.Outside.{Faults, RaisesAs, Seen, faults}
use Rattle.exterm_cli.specs.Parts.{CutsPrinted, Performs, PerformsOn, PerformsPart, PerformsStage, PerformsWords, Tells, answered}
use Rattle.exterm_cli.specs.Plan.{Plan, Isolates, Repairs, Replicates, Runs, Settles, Stage}
use Rattle.exterm_cli.specs.Stages.{LeavesInput, PrintsAtMost}
use Rattle.exterm_cli.specs.declared.report.Verdict.{Verdict}
use Rattle.exterm_cli.specs.declared.cut.Cut.{Cut}
use Rattle.exterm_cli.specs.declared.cut.Cut.TheVariants as why
use Rattle.exterm_cli.proofs.Files.{keeps-cut, keeps-done, keeps-reported}
use Rattle.exterm_cli.proofs.Known.{appends-none, appends-appends}
use Rattle.exterm_cli.proofs.Led.{EachAnswered, OneAnswer, OneVersion, leads, leads-once}

-- how a call ends whose parts came to this; `point` is where they were cut short
abbrev end-at : (point : Point) → Result Verdict Cut → Result ℕ Cut → End
end-at point (Ok verdict) (Ok status) = Done status
end-at point (Ok verdict) (Err answer) = Stops Reporting answer answer
end-at point (Err cause) (Ok status) = Done status
end-at point (Err cause) (Err answer) = Stops point cause answer

cut-status : (point : Point) (cause answer : Cut) → answered (Err answer) ≡ status_of (Stops point cause answer)
cut-status point cause why.Memory = refl
cut-status point cause why.Input = refl
cut-status point cause why.Output = refl
cut-status point cause why.Error = refl
cut-status point cause why.File = refl

end-status : (point : Point) (performed : Result Verdict Cut) (answer : Result ℕ Cut) → answered answer ≡ status_of (end-at point performed answer)
end-status point (Ok verdict) (Ok status) = refl
end-status point (Ok verdict) (Err answer) = cut-status Reporting answer answer
end-status point (Err cause) (Ok status) = refl
end-status point (Err cause) (Err answer) = cut-status point cause answer

-- ---- the cause

module _ (before after : Faults) (old new : Option (List ℕ)) (mid : ℕ) where
  still-caused : (point : Point) (cause answer : Cut) → RaisesAs {T = Verdict} (Err cause) before (faults after.input after.out mid after.files) → Tells (Err cause) (Err answer) old new mid after.err → IsCaused (Stops point cause answer) before after
  still-caused point why.Memory answer raises told = tt
  still-caused point why.Input answer raises told = raises.0
  still-caused point why.Output answer raises told = raises.0
  still-caused point why.Error answer raises told = subst (λ n. Rose before.err n) (sym told.2) raises
  still-caused point why.File answer raises told = raises.0

  caused : (point : Point) (performed : Result Verdict Cut) (answer : Result ℕ Cut) → RaisesAs performed before (faults after.input after.out mid after.files) → Tells performed answer old new mid after.err → IsCaused (end-at point performed answer) before after
  caused point (Ok verdict) (Ok status) none told = record { input = none.input; out = none.out; err = told.2 ∙ none.err; files = none.files }
  caused point (Ok verdict) (Err why.Error) none told = subst (λ n. Rose n after.err) none.err told.1
  caused point (Ok verdict) (Err why.Memory) none told = tt
  caused point (Ok verdict) (Err why.Input) none told = absurd told
  caused point (Ok verdict) (Err why.Output) none told = absurd told
  caused point (Ok verdict) (Err why.File) none told = absurd told
  caused point (Err why.Memory) (Ok status) rose told = absurd told
  caused point (Err why.Input) (Ok status) rose told = absurd told
  caused point (Err why.Output) (Ok status) rose told = absurd told
  caused point (Err why.Error) (Ok status) rose told = absurd told
  caused point (Err why.File) (Ok status) rose told = absurd told
  caused point (Err cause) (Err answer) rose told = still-caused point cause answer rose told

-- ---- what is printed and written

-- what is told of a cause
record Told (plan : Plan) (point : Point) (cause answer : Cut) (old new : Option (List ℕ)) (before after : ℕ) : Type 0 where
  tail : List ℕ
  told : IsTold plan point cause answer before after tail
  grows : Appends old new tail

module _ (plan : Plan) (old new : Option (List ℕ)) (before : Faults) (mid : Faults) (after : ℕ) where
  silent : (point : Point) (answer : Cut) → Tells (Err why.Error) (Err answer) old new mid.err after → Told plan point why.Error answer old new before.err after
  silent Printing answer told = record { tail = []; told = (told.0, refl); grows = subst (λ n. Appends old n []) (sym told.1) (appends-none old) }
  silent Keeping answer told = record { tail = []; told = (told.0, refl); grows = subst (λ n. Appends old n []) (sym told.1) (appends-none old) }
  silent Reporting answer told = record { tail = []; told = (told.0, (plan.report, refl)); grows = subst (λ n. Appends old n []) (sym told.1) (appends-none old) }

  same-line : (cause answer : Cut) (tail : List ℕ) → mid.err ≡ before.err → IsLine cause answer mid.err after tail → IsLine cause answer before.err after tail
  same-line cause answer tail same line = subst (λ m. IsLine cause answer m after tail) same line

  told-of : (point : Point) (cause answer : Cut) → RaisesAs {T = Verdict} (Err cause) before mid → Tells (Err cause) (Err answer) old new mid.err after → Told plan point cause answer old new before.err after
  told-of point why.Error answer raises told = silent point answer told
  told-of Printing why.Memory answer raises told = record { tail = told.0; told = same-line why.Memory answer told.0 raises.1 told.1; grows = told.2 }
  told-of Printing why.Input answer raises told = record { tail = told.0; told = same-line why.Input answer told.0 raises.1 told.1; grows = told.2 }
  told-of Printing why.Output answer raises told = record { tail = told.0; told = same-line why.Output answer told.0 raises.1 told.1; grows = told.2 }
  told-of Printing why.File answer raises told = record { tail = told.0; told = same-line why.File answer told.0 raises.1 told.1; grows = told.2 }
  told-of Keeping why.Memory answer raises told = record { tail = told.0; told = same-line why.Memory answer told.0 raises.1 told.1; grows = told.2 }
  told-of Keeping why.Input answer raises told = record { tail = told.0; told = same-line why.Input answer told.0 raises.1 told.1; grows = told.2 }
  told-of Keeping why.Output answer raises told = record { tail = told.0; told = same-line why.Output answer told.0 raises.1 told.1; grows = told.2 }
  told-of Keeping why.File answer raises told = record { tail = told.0; told = same-line why.File answer told.0 raises.1 told.1; grows = told.2 }
  told-of Reporting why.Memory answer raises told = record { tail = told.0; told = same-line why.Memory answer told.0 raises.1 told.1; grows = told.2 }
  told-of Reporting why.Input answer raises told = record { tail = told.0; told = same-line why.Input answer told.0 raises.1 told.1; grows = told.2 }
  told-of Reporting why.Output answer raises told = record { tail = told.0; told = same-line why.Output answer told.0 raises.1 told.1; grows = told.2 }
  told-of Reporting why.File answer raises told = record { tail = told.0; told = same-line why.File answer told.0 raises.1 told.1; grows = told.2 }

module _ (before after : Seen) (mid : Option (List ℕ)) (errs : ℕ) (files : FileMap) where
  abbrev between : Faults
  between = faults after.faults.input after.faults.out errs after.faults.files

  -- where the parts were cut short, as far as it matters
  abbrev point-of : (plan : Plan) (performed : Result Verdict Cut) → Performs plan performed before.held (held after.held.out mid) files after.files → Point
  point-of plan (Ok verdict) does = Reporting
  point-of plan (Err cause) does = does.point

  does-of : (plan : Plan) (performed : Result Verdict Cut) (answer : Result ℕ Cut) (does : Performs plan performed before.held (held after.held.out mid) files after.files) → RaisesAs performed before.faults between → Tells performed answer mid after.held.err errs after.faults.err → Does plan (end-at (point-of plan performed does) performed answer) files before after
  does-of plan (Ok verdict) (Ok status) does raises told = (
    (told.0 ∙ does.status, does.on_out, appends-appends before.held.err mid after.held.err plan.err plan.report does.on_err (subst (Appends mid after.held.err) does.report told.1)),
    keeps-done files after.files plan.file plan.status status does.keeps,
  )
  does-of plan (Ok verdict) (Err why.Error) does raises told = (
    record {
      out = plan.out;
      err = plan.err;
      tail = told.2.0;
      printed = (refl, refl, subst (λ r. r ≢ []) does.report told.0);
      told = (refl, subst (IsPrefix told.2.0) does.report told.2.1);
      on_out = does.on_out;
      on_err = appends-appends before.held.err mid after.held.err plan.err told.2.0 does.on_err told.2.2;
    },
    keeps-reported files after.files plan.file plan.status why.Error why.Error does.keeps,
  )
  does-of plan (Ok verdict) (Err why.Memory) does raises told = (
    record {
      out = plan.out;
      err = plan.err;
      tail = told.1.0;
      printed = (refl, refl, subst (λ r. r ≢ []) does.report told.0);
      told = subst (λ m. IsLine why.Memory why.Memory m after.faults.err told.1.0) raises.err told.1.1;
      on_out = does.on_out;
      on_err = appends-appends before.held.err mid after.held.err plan.err told.1.0 does.on_err told.1.2;
    },
    keeps-reported files after.files plan.file plan.status why.Memory why.Memory does.keeps,
  )
  does-of plan (Ok verdict) (Err why.Input) does raises told = absurd told
  does-of plan (Ok verdict) (Err why.Output) does raises told = absurd told
  does-of plan (Ok verdict) (Err why.File) does raises told = absurd told
  does-of plan (Err why.Memory) (Ok status) does raises told = absurd told
  does-of plan (Err why.Input) (Ok status) does raises told = absurd told
  does-of plan (Err why.Output) (Ok status) does raises told = absurd told
  does-of plan (Err why.Error) (Ok status) does raises told = absurd told
  does-of plan (Err why.File) (Ok status) does raises told = absurd told
  does-of plan (Err cause) (Err answer) does raises told =
      let line = told-of plan mid after.held.err before.faults between after.faults.err does.point cause answer raises told in (
        record {
          out = does.out;
          err = does.err;
          tail = line.tail;
          printed = does.printed;
          told = line.told;
          on_out = does.on_out;
          on_err = appends-appends before.held.err mid after.held.err does.err line.tail does.on_err line.grows;
        },
        keeps-cut plan.file does.point files after.files cause cause answer does.keeps,
      )

  no-status : (cause : Cut) (status : ℕ) → Tells (Err cause) (Ok status) mid after.held.err errs after.faults.err → ⊥
  no-status why.Memory status told = told
  no-status why.Input status told = told
  no-status why.Output status told = told
  no-status why.Error status told = told
  no-status why.File status told = told

  -- the printing was cut short
  module _ (s : Stage) (input : List ℕ) (most : Plan) (at-most : PrintsAtMost s input most) (cause : Cut) (part : PerformsPart most cause before.held (held after.held.out mid) files after.files) (printing : part.point ≡ Printing) where
    cuts-of : (answer : Result ℕ Cut) → RaisesAs {T = Verdict} (Err cause) before.faults between → Tells (Err cause) answer mid after.held.err errs after.faults.err → CutsPrinting s input (end-at Printing (Err cause) answer) files before after
    cuts-of (Ok status) raises told = absurd (no-status cause status told)
    cuts-of (Err answer) raises told = record {
      most = most;
      at_most = at-most;
      cause = cause;
      answer = answer;
      is = refl;
      does = subst (λ point. Does most (Stops point cause answer) files before after) printing (does-of most (Err cause) (Err answer) part raises told);
    }

  cut-of : (s : Stage) (input : List ℕ) (performed : Result Verdict Cut) (answer : Result ℕ Cut) (cuts : CutsPrinted s input performed before.held (held after.held.out mid) files after.files)
      → RaisesAs performed before.faults between → Tells performed answer mid after.held.err errs after.faults.err → CutsPrinting s input (end-at Printing performed answer) files before after
  cut-of s input performed answer cuts raises told =
      let raises' = subst (λ p. RaisesAs p before.faults between) cuts.is raises in
      let told' = subst (λ p. Tells p answer mid after.held.err errs after.faults.err) cuts.is told in
      subst (λ p. CutsPrinting s input (end-at Printing p answer) files before after) (sym cuts.is) (cuts-of s input cuts.most cuts.at_most cuts.cause cuts.part cuts.printing answer raises' told')

  abbrev on-point : (s : Stage) (input : List ℕ) (performed : Result Verdict Cut) → PerformsOn s input performed before.held (held after.held.out mid) files after.files → Point
  on-point s input performed (inl does) = point-of does.plan performed does.performs
  on-point s input performed (inr cuts) = Printing

  on-of : (s : Stage) (input : List ℕ) (performed : Result Verdict Cut) (answer : Result ℕ Cut) (does : PerformsOn s input performed before.held (held after.held.out mid) files after.files)
      → RaisesAs performed before.faults between → Tells performed answer mid after.held.err errs after.faults.err
      → DoesOn s input (end-at (on-point s input performed does) performed answer) files before after
  on-of s input performed answer (inl does) raises told = inl (record { plan = does.plan; is = does.is; does = does-of does.plan performed answer does.performs raises told })
  on-of s input performed answer (inr cuts) raises told = inr (cut-of s input performed answer cuts raises told)

  abbrev stage-point : (s : Stage) (left left' : Option (List ℕ)) (performed : Result Verdict Cut) → PerformsStage s performed left left' before.held (held after.held.out mid) files after.files → Point
  stage-point (Settles plan) left left' performed does = point-of plan performed does.0
  stage-point (Isolates images to) left left' performed does = on-point (Isolates images to) [] performed does.0
  stage-point (Runs job image) None left' performed does = Printing
  stage-point (Runs job image) (Some input) left' performed does = on-point (Runs job image) input performed does.0
  stage-point (Replicates job replicas to) None left' performed does = Printing
  stage-point (Replicates job replicas to) (Some input) left' performed does = on-point (Replicates job replicas to) input performed does.0
  stage-point (Repairs job images to) None left' performed does = Printing
  stage-point (Repairs job images to) (Some input) left' performed does = on-point (Repairs job images to) input performed does.0

  -- what is left of the input, where all is done
  leaves-of : (s : Stage) (input : List ℕ) (point : Point) (left' : Option (List ℕ)) (performed : Result Verdict Cut) (answer : Result ℕ Cut) → after.left ≡ left' → IfOk performed (λ verdict. LeavesInput s input left')
      → Tells performed answer mid after.held.err errs after.faults.err → Leaves s input (end-at point performed answer) after.left
  leaves-of s input point left' (Ok verdict) (Ok status) is leaves told = subst (LeavesInput s input) (sym is) leaves
  leaves-of s input point left' (Ok verdict) (Err answer) is leaves told = tt
  leaves-of s input point left' (Err cause) (Ok status) is leaves told = absurd told
  leaves-of s input point left' (Err cause) (Err answer) is leaves told = tt

  stage-of : (s : Stage) (left left' : Option (List ℕ)) (performed : Result Verdict Cut) (answer : Result ℕ Cut) → after.left ≡ left' → (does : PerformsStage s performed left left' before.held (held after.held.out mid) files after.files)
      → RaisesAs performed before.faults between → Tells performed answer mid after.held.err errs after.faults.err → DoesStage s left (end-at (stage-point s left left' performed does) performed answer) files before after
  stage-of (Settles plan) left left' performed answer is does raises told = (does-of plan performed answer does.0 raises told, is ∙ does.1)
  stage-of (Isolates images to) left left' performed answer is does raises told = (on-of (Isolates images to) [] performed answer does.0 raises told, is ∙ does.1)
  stage-of (Runs job image) None left' performed answer is does raises told = does
  stage-of (Runs job image) (Some input) left' performed answer is does raises told = (on-of (Runs job image) input performed answer does.0 raises told, leaves-of (Runs job image) input (on-point (Runs job image) input performed does.0) left' performed answer is does.1 told)
  stage-of (Replicates job replicas to) None left' performed answer is does raises told = does
  stage-of (Replicates job replicas to) (Some input) left' performed answer is does raises told = (on-of (Replicates job replicas to) input performed answer does.0 raises told, leaves-of (Replicates job replicas to) input (on-point (Replicates job replicas to) input performed does.0) left' performed answer is does.1 told)
  stage-of (Repairs job images to) None left' performed answer is does raises told = does
  stage-of (Repairs job images to) (Some input) left' performed answer is does raises told = (on-of (Repairs job images to) input performed answer does.0 raises told, leaves-of (Repairs job images to) input (on-point (Repairs job images to) input performed does.0) left' performed answer is does.1 told)

-- ---- all of it

module _ (each : EachAnswered) (one : OneAnswer) (same : OneVersion) (words : List (List ℕ)) (before after : Seen) (mid : Option (List ℕ)) (errs : ℕ) (performed : Result Verdict Cut) (answer : Result ℕ Cut) (status : ℕ) where
  from : (known : Option FileMap) → before.files ≡ known → IfSome known (λ files. PerformsWords words performed before.left after.left before.held (held after.held.out mid) files after.files)
      → RaisesAs performed before.faults (faults after.faults.input after.faults.out errs after.faults.files) → Tells performed answer mid after.held.err errs after.faults.err → status ≡ answered answer → Answers words before after status
  from None unknown does raises told is = record {
    end = end-at Printing performed answer;
    told = is ∙ end-status Printing performed answer;
    caused = caused before.faults after.faults mid after.held.err errs Printing performed answer raises told;
    does = subst (λ known. IfSome known (λ files. DoesAll words files (end-at Printing performed answer) before after)) (sym unknown) tt;
  }
  from (Some files) known does raises told is =
      let led = leads each one same words files in
      let done = does led.0 led.1 in
      let point = stage-point before after mid errs files led.0 before.left after.left performed done in
      record {
        end = end-at point performed answer;
        told = is ∙ end-status point performed answer;
        caused = caused before.faults after.faults mid after.held.err errs point performed answer raises told;
        does = subst (λ known. IfSome known (λ files. DoesAll words files (end-at point performed answer) before after)) (sym known) (record {
          stage = led.0;
          leads = led.1;
          only = λ other is. leads-once one words files other led.0 is led.1;
          does = stage-of before after mid errs files led.0 before.left after.left performed answer refl done raises told;
        });
      }

  pub answers : IfSome before.files (λ files. PerformsWords words performed before.left after.left before.held (held after.held.out mid) files after.files)
      → RaisesAs performed before.faults (faults after.faults.input after.faults.out errs after.faults.files) → Tells performed answer mid after.held.err errs after.faults.err → status ≡ answered answer → Answers words before after status
  answers does raises told is = from before.files refl does raises told is
