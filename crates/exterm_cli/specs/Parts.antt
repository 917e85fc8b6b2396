-- What the parts of the call do, by what is planned.
use Rattle.std.specs.Prelude.{◌≡◌, ◌≢◌, ◌⊎◌, ℕ, ◌≤◌, List, [], Option, None, Some, Result, Ok, Err, IfOk, string_bytes, map}
use Rattle.std.specs.Io.KnownBytes.{Appends}
use Rattle.ex_io.specs.Causes.{Rose, AppendsFront, IsPrefix}
use Rattle.ex_io.specs.Files.{FileMap}
use Rattle.infinite_heap.specs.Elf.{program_of}
use Rattle.infinite_heap.specs.Start.{IsWithin}
use Rattle.iterate.specs.Reruns.{Job}
use Rattle.layout_run.specs.Outside.{Held}
use Rattle.patch_table.specs.Table.{Table, no_patches}
use Rattle.exterm_cli.specs.Answers.{Keeps}
use Rattle.exterm_cli.specs.Ends.{Point, Printing, Keeping, Stops, Done}
use Rattle.exterm_cli.specs.Shows.{Printed, IsLine}
use Rattle.layout_run.specs.Whole.{most_steps}
use Rattle.layout_run.specs.declared.ran.RunRefusal.{RunRefusal}
use Rattle.layout_run.specs.declared.ran.RunRefusal.TheVariants as refused
use Rattle.exterm_cli.specs.Leads.{Leads}
use Rattle.exterm_cli.specs.Merge.{joined, merged}
use Rattle.exterm_cli.specs.Plan.{Kept, Plan, Stage, Isolates, Repairs, Replicates, Runs, Settles}
use Rattle.exterm_cli.specs.Stages.{LeavesInput, IsThePlan, MayWrite, PrintsAtMost, written_name}
use Rattle.exterm_cli.specs.Taking.{ReadsFiles, ReadsTable}
use Rattle.exterm_cli.specs.declared.cut.Cut.{Cut}
use Rattle.exterm_cli.specs.declared.cut.Cut.TheVariants as why
use Rattle.exterm_cli.specs.declared.cut.Stop.{Stop}
use Rattle.exterm_cli.specs.declared.cut.Stop.TheVariants as stop
use Rattle.exterm_cli.specs.declared.guest.Accepted.{Accepted}
use Rattle.exterm_cli.specs.declared.plan.Kept.{Kept as KeptFile}
use Rattle.exterm_cli.specs.declared.plan.Plan.{Plan as Settled}
use Rattle.exterm_cli.specs.declared.report.Verdict.{Verdict}
use Rattle.exterm_cli.specs.declared.stage.Stage.{Stage as Step}
use Rattle.exterm_cli.specs.declared.stage.Stage.TheVariants as step
use Rattle.exterm_cli.specs.declared.words.FileWords.{FileWords}
use Rattle.std.specs.declared.string.String.{String}
use Rattle.std.specs.declared.alloc.Global.{Global}

-- ---- what values stand for

-- a status with its line, and nothing else
abbrev pub told : Verdict → Plan
told verdict = record { status = verdict.status; out = []; err = []; file = None; report = string_bytes verdict.report }

abbrev pub kept_as : Option KeptFile → Option Kept
kept_as None = None
kept_as (Some kept) = Some (record { name = string_bytes kept.name; bytes = kept.bytes.items })

abbrev pub plan_as : Settled → Plan
plan_as plan = record { status = plan.verdict.status; out = plan.out.items; err = []; file = kept_as plan.file; report = string_bytes plan.verdict.report }

abbrev pub guest_as : Accepted → Job
guest_as accepted = record { program = accepted.program; args = map string_bytes accepted.args.items; settings = accepted.settings; budget = accepted.budget }

abbrev pub name_as : Option (String Global) → Option (List ℕ)
name_as None = None
name_as (Some name) = Some (string_bytes name)

abbrev pub stage_as : Step → Stage
stage_as (step.Settles plan) = Settles (plan_as plan)
stage_as (step.Runs accepted image) = Runs (guest_as accepted) (name_as image)
stage_as (step.Repairs accepted images to) = Repairs (guest_as accepted) images (string_bytes to)
stage_as (step.Replicates accepted replicas quantum to) = Replicates (guest_as accepted) replicas (name_as to)
stage_as (step.Isolates images to) = Isolates images.items (name_as to)

-- a guest that may be run
pub record MayRun (guest : Job) : Type 0 where
  pub args : IsWithin guest.args
  pub budget : guest.budget ≤ most_steps

-- one that may be run again, from its file, for so many images
pub record MayRepair (accepted : Accepted) (images : ℕ) : Type 0 where
  pub runs : MayRun (guest_as accepted)
  pub loads : program_of accepted.file.items ≡ Ok accepted.program
  pub least : 2 ≤ images
  pub most : images ≤ 16

-- one of which so many replicas may vote, in turns of so many steps
pub record MayReplicate (accepted : Accepted) (replicas quantum : ℕ) : Type 0 where
  pub runs : MayRun (guest_as accepted)
  pub loads : program_of accepted.file.items ≡ Ok accepted.program
  pub least : 3 ≤ replicas
  pub most : replicas ≤ 9
  pub turns : 1 ≤ quantum

abbrev pub MayPerform : Step → Type 0
MayPerform (step.Settles plan) = Unit {0}
MayPerform (step.Runs accepted image) = MayRun (guest_as accepted)
MayPerform (step.Repairs accepted images to) = MayRepair accepted images
MayPerform (step.Replicates accepted replicas quantum to) = MayReplicate accepted replicas quantum
MayPerform (step.Isolates images to) = Unit {0}

-- ---- what words and files lead to

-- a refusal tells what is planned, or it wants memory
abbrev pub Refuses : Plan → Stop → Type 0
Refuses plan (stop.Refused verdict) = plan ≡ told verdict
Refuses plan (stop.CutShort why.Memory) = Unit {0}
Refuses plan (stop.CutShort cause) = ⊥

abbrev pub verdict_in : Stop → Result Verdict Cut
verdict_in (stop.Refused verdict) = Ok verdict
verdict_in (stop.CutShort cause) = Err cause

-- What a part answers is planned; `meant` says what its value stands for.
abbrev pub IsPlanned : {A B : Type 0} → (meant : B → A) → (Planned : Result A Plan → Type 0) → Result B Stop → Type 0
IsPlanned meant Planned (Ok value) = Planned (Ok (meant value))
IsPlanned meant Planned (Err (stop.Refused verdict)) = Planned (Err (told verdict))
IsPlanned meant Planned (Err (stop.CutShort cause)) = Unit {0}

-- the same of what words and files settle
abbrev pub IsSettled : (Planned : Plan → Type 0) → Result Settled Stop → Type 0
IsSettled Planned (Ok plan) = Planned (plan_as plan)
IsSettled Planned (Err (stop.Refused verdict)) = Planned (told verdict)
IsSettled Planned (Err (stop.CutShort cause)) = Unit {0}

-- and of what they lead to
abbrev pub IsLed : (Led : Stage → Type 0) → Result Step Stop → Type 0
IsLed Led (Ok step) = Led (stage_as step)
IsLed Led (Err (stop.Refused verdict)) = Led (Settles (told verdict))
IsLed Led (Err (stop.CutShort cause)) = Unit {0}

-- the tables of several files, joined
abbrev pub JoinsFiles : List (List ℕ) → FileMap → FileWords → Result Table Plan → Type 0
JoinsFiles words files names (Ok table) = (tables : List Table) × ReadsFiles ReadsTable words files names.count names.first 1 (Ok tables) × (joined no_patches tables ≡ table)
JoinsFiles words files names (Err plan) = ReadsFiles ReadsTable words files names.count names.first 1 (Err plan)

abbrev pub IsMerged : List (List ℕ) → FileMap → FileWords → Plan → Type 0
IsMerged words files names plan = (read : Result (List Table) Plan) × ReadsFiles ReadsTable words files names.count names.first 1 read × (plan ≡ merged words names.out read)

-- the folder's count rose where that is the cause, and else it stayed
abbrev pub CutsFolder : Cut → (before after : ℕ) → Type 0
CutsFolder why.Memory before after = after ≡ before
CutsFolder why.File before after = Rose before after
CutsFolder cause before after = ⊥

abbrev pub StopsFolder : {T : Type 0} → Result T Stop → (before after : ℕ) → Type 0
StopsFolder (Ok value) before after = after ≡ before
StopsFolder (Err (stop.Refused verdict)) before after = after ≡ before
StopsFolder (Err (stop.CutShort cause)) before after = CutsFolder cause before after

abbrev pub RaisesFolder : {T : Type 0} → Result T Cut → (before after : ℕ) → Type 0
RaisesFolder (Ok value) before after = after ≡ before
RaisesFolder (Err cause) before after = CutsFolder cause before after

-- the same of out
abbrev pub CutsOut : Cut → (before after : ℕ) → Type 0
CutsOut why.Memory before after = after ≡ before
CutsOut why.Output before after = Rose before after
CutsOut cause before after = ⊥

abbrev pub RaisesOut : {T : Type 0} → Result T Cut → (before after : ℕ) → Type 0
RaisesOut (Ok value) before after = after ≡ before
RaisesOut (Err cause) before after = CutsOut cause before after

-- ---- what is printed and written

-- bytes on out
abbrev pub PutsPart : List ℕ → Result (Unit {0}) Cut → (old new : Option (List ℕ)) → Type 0
PutsPart bytes (Ok done) old new = Appends old new bytes
PutsPart bytes (Err why.Memory) old new = AppendsFront old new bytes
PutsPart bytes (Err why.Output) old new = AppendsFront old new bytes
PutsPart bytes (Err cause) old new = ⊥

-- a file
abbrev pub KeepsPart : {T : Type 0} → Option Kept → Result T Cut → FileMap → Option FileMap → Type 0
KeepsPart kept (Ok done) files files' = Keeps kept (Done 0) files files'
KeepsPart kept (Err why.Memory) files files' = files' ≡ Some files
KeepsPart kept (Err why.File) files files' = Keeps kept (Stops Keeping why.File why.File) files files'
KeepsPart kept (Err cause) files files' = ⊥

-- before the report, a call was cut short at a point
pub record PerformsPart (plan : Plan) (cause : Cut) (before after : Held) (files : FileMap) (files' : Option FileMap) : Type 0 where
  pub point : Point
  pub out : List ℕ
  pub err : List ℕ
  pub printed : Printed plan point cause out err
  pub on_out : Appends before.out after.out out
  pub on_err : Appends before.err after.err err
  pub keeps : Keeps plan.file (Stops point cause cause) files files'

pub record PerformsAll (plan : Plan) (verdict : Verdict) (before after : Held) (files : FileMap) (files' : Option FileMap) : Type 0 where
  pub status : verdict.status ≡ plan.status
  pub report : string_bytes verdict.report ≡ plan.report
  pub on_out : Appends before.out after.out plan.out
  pub on_err : Appends before.err after.err plan.err
  pub keeps : Keeps plan.file (Done plan.status) files files'

-- all that is planned but for the report
abbrev pub Performs : Plan → Result Verdict Cut → (before after : Held) → FileMap → Option FileMap → Type 0
Performs plan (Ok verdict) before after files files' = PerformsAll plan verdict before after files files'
Performs plan (Err cause) before after files files' = PerformsPart plan cause before after files files'

-- the one thing that a stage comes to on an input, but for the report
pub record PerformsPlanned (stage : Stage) (input : List ℕ) (result : Result Verdict Cut) (before after : Held) (files : FileMap) (files' : Option FileMap) : Type 0 where
  pub plan : Plan
  pub is : IsThePlan stage input plan
  pub performs : Performs plan result before after files files'

-- it was cut short before all of it was printed
pub record CutsPrinted (stage : Stage) (input : List ℕ) (result : Result Verdict Cut) (before after : Held) (files : FileMap) (files' : Option FileMap) : Type 0 where
  pub most : Plan
  pub at_most : PrintsAtMost stage input most
  pub cause : Cut
  pub is : result ≡ Err cause
  pub part : PerformsPart most cause before after files files'
  pub printing : part.point ≡ Printing

abbrev pub PerformsOn : Stage → (input : List ℕ) → Result Verdict Cut → (before after : Held) → FileMap → Option FileMap → Type 0
PerformsOn stage input result before after files files' = PerformsPlanned stage input result before after files files' ⊎ CutsPrinted stage input result before after files files'

abbrev pub PerformsStage : Stage → Result Verdict Cut → (left left' : Option (List ℕ)) → (before after : Held) → FileMap → Option FileMap → Type 0
PerformsStage (Settles plan) result left left' before after files files' = Performs plan result before after files files' × (left' ≡ left)
PerformsStage (Isolates images to) result left left' before after files files' = PerformsOn (Isolates images to) [] result before after files files' × (left' ≡ left)
PerformsStage stage result (Some input) left' before after files files' = PerformsOn stage input result before after files files' × IfOk result (λ verdict. LeavesInput stage input left')
PerformsStage stage result None left' before after files files' = MayWrite (written_name stage) files files'

-- ---- runs that are cut short

abbrev pub CutBy : RunRefusal → Cut → Type 0
CutBy refused.Memory why.Memory = Unit {0}
CutBy refused.Source why.Input = Unit {0}
CutBy refused.Out why.Output = Unit {0}
CutBy refused.Err why.Error = Unit {0}
CutBy refusal cause = ⊥

-- ---- what is told

-- What telling a verdict, or a cause, puts on err, and what is answered then.
abbrev pub Tells : Result Verdict Cut → Result ℕ Cut → (old new : Option (List ℕ)) → (faults faults' : ℕ) → Type 0
Tells (Ok verdict) (Ok status) old new faults faults' = (status ≡ verdict.status) × Appends old new (string_bytes verdict.report) × (faults' ≡ faults)
Tells (Ok verdict) (Err why.Error) old new faults faults' = (string_bytes verdict.report ≢ []) × Rose faults faults' × ((tail : List ℕ) × IsPrefix tail (string_bytes verdict.report) × Appends old new tail)
Tells (Ok verdict) (Err why.Memory) old new faults faults' = (string_bytes verdict.report ≢ []) × ((tail : List ℕ) × IsLine why.Memory why.Memory faults faults' tail × Appends old new tail)
Tells (Ok verdict) (Err answer) old new faults faults' = ⊥
Tells (Err cause) (Ok status) old new faults faults' = ⊥
Tells (Err why.Error) (Err answer) old new faults faults' = (answer ≡ why.Error) × (new ≡ old) × (faults' ≡ faults)
Tells (Err cause) (Err answer) old new faults faults' = (tail : List ℕ) × IsLine cause answer faults faults' tail × Appends old new tail

abbrev pub answered : Result ℕ Cut → ℕ
answered (Ok status) = status
answered (Err why.Memory) = 126
answered (Err cause) = 127

-- ---- all of it

-- for whatever the words and the files lead to
abbrev pub PerformsWords : List (List ℕ) → Result Verdict Cut → (left left' : Option (List ℕ)) → (before after : Held) → FileMap → Option FileMap → Type 0
PerformsWords words result left left' before after files files' = (stage : Stage) → Leads words files stage → PerformsStage stage result left left' before after files files'
