-- What is done for whatever words and files lead to, from what its parts do.
use Rattle.std.proofs.Common.{◌≡◌, ◌≢◌, inl, inr, ℕ, Bool, true, false, cond, List, [], Option, None, Some, is_some, Result, Ok, Err, IfOk, IfSome, string_bytes, refl, sym, ◌∙◌, ap, subst}
use Rattle.std.specs.Str.{bytes_eq}
use Rattle.std.specs.declared.string.String.{String}
use Rattle.std.specs.declared.alloc.Global.{Global}
use Rattle.std.proofs.lemmas.Slice.Eq.{bytes_eq-Decides}
use Rattle.std.proofs.lemmas.List.{append-nil}
use Rattle.ex_io.specs.Files.{FileMap, OthersStay, with_file}
use Rattle.heap_image.specs.Snapshot.{Snapshot}
use Rattle.layout_run.specs.Outside.{Held}
use Rattle.layout_run.specs.Runs.{RunsAs}
use Rattle.layout_run.specs.declared.ran.Ran.{Ran}
use Rattle.layout_run.specs.declared.ran.RunRefusal.{RunRefusal}
use Rattle.layout_run.specs.declared.ran.RunRefusal.TheVariants as refused
use Rattle.rv_machine.specs.Flat.{Flat}
use Rattle.layout_run.specs.Imaged.{if_imaged}
use Rattle.iterate.specs.Reruns.{Job, printed_run}
use Rattle.exterm_cli.specs.Ends.{Printing, Keeping}
use Rattle.exterm_cli.specs.Leads.{Leads}
use Rattle.exterm_cli.specs.Parts.{CutBy, CutsFolder, KeepsPart, Performs, PerformsOn, PerformsStage, PerformsWords, name_as}
use Rattle.exterm_cli.specs.Plan.{Kept, Plan, Isolates, Repairs, Replicates, Runs, Settles, Stage, nothing}
use Rattle.exterm_cli.specs.Report.{ending_status, report_of}
use Rattle.exterm_cli.specs.Run.{counts_of, flat_plan, image_bytes, image_file, imaged_plan, run_plan}
use Rattle.exterm_cli.specs.Stages.{IsThePlan, LeavesInput, MayWrite, written_name}
use Rattle.exterm_cli.specs.Replicate.{group_of}
use Rattle.exterm_cli.proofs.Voted.{first-gate, no-round}
use Rattle.exterm_cli.specs.declared.cut.Cut.{Cut}
use Rattle.exterm_cli.specs.declared.cut.Cut.TheVariants as why
use Rattle.exterm_cli.specs.declared.report.Verdict.{Verdict}
use Rattle.exterm_cli.proofs.Files.{keeps-done}
use Rattle.exterm_cli.proofs.Known.{appends-none, each-some}
use Rattle.exterm_cli.proofs.Led.{OneAnswer, leads-once}

-- ---- nothing was done

module _ (plan : Plan) (held : Held) (files : FileMap) where
  abbrev pub nothing-done : (cause : Cut) (before after : ℕ) → CutsFolder cause before after → Performs plan (Err cause) held held files (Some files)
  nothing-done why.Memory before after rose = record { point = Printing; out = []; err = []; printed = ((plan.out, refl), (plan.err, refl)); on_out = appends-none held.out; on_err = appends-none held.err; keeps = refl }
  nothing-done why.File before after rose = record { point = Printing; out = []; err = []; printed = (refl, refl); on_out = appends-none held.out; on_err = appends-none held.err; keeps = refl }
  nothing-done why.Input before after rose = absurd rose
  nothing-done why.Output before after rose = absurd rose
  nothing-done why.Error before after rose = absurd rose

  pub nothing-printed : (cause : Cut) (before after : ℕ) (rose : CutsFolder cause before after) → (nothing-done cause before after rose).point ≡ Printing
  nothing-printed why.Memory before after rose = refl
  nothing-printed why.File before after rose = refl
  nothing-printed why.Input before after rose = absurd rose
  nothing-printed why.Output before after rose = absurd rose
  nothing-printed why.Error before after rose = absurd rose

pub nothing-known : (plan : Plan) (held : Held) (known : Option FileMap) → IfSome known (λ files. Performs plan (Err why.Memory) held held files known)
nothing-known plan held known = each-some known _ (λ files is. subst (Performs plan (Err why.Memory) held held files) (sym is) (nothing-done plan held files why.Memory 0 0 refl))

-- ---- a run

-- the file of the image that was asked for
planned-file : (image : Option (String Global)) (imaged : Bool) (s : Snapshot) → imaged ≡ is_some image → image_file (name_as image) (if_imaged imaged s) ≡ image_file (name_as image) (Some s)
planned-file None imaged s is = refl
planned-file (Some name) imaged s is = ap (λ b. image_file (Some (string_bytes name)) (if_imaged b s)) is

module _ (flat : Flat) (image : Option (String Global)) (imaged : Bool) (s : Snapshot) (asked : imaged ≡ is_some image) (before after : Held) (files : FileMap) (files' : Option FileMap) where
  abbrev kept : Option Kept
  kept = image_file (name_as image) (Some s)

  module _ (ran : Ran) (runs : RunsAs None flat (if_imaged imaged s) (Ok ran) before after) where
    finished : (result : Result Verdict Cut) → IfOk result (λ verdict. verdict.status ≡ ending_status ran.ending) → IfOk result (λ verdict. string_bytes verdict.report ≡ report_of (counts_of ran) ran.ending ran.steps)
        → KeepsPart kept result files files' → Performs (imaged_plan flat (name_as image) s) result before after files files'
    finished (Ok verdict) status report keeps = record {
      status = status ∙ ap (λ (r : Ran). ending_status r.ending) runs.0;
      report = report ∙ ap (λ (r : Ran). report_of (counts_of r) r.ending r.steps) runs.0;
      on_out = runs.1;
      on_err = runs.2;
      keeps = keeps-done files files' kept 0 (imaged_plan flat (name_as image) s).status keeps;
    }
    finished (Err why.Memory) status report keeps = record { point = Printing; out = flat.out; err = flat.err; printed = (([], sym (append-nil flat.out)), ([], sym (append-nil flat.err))); on_out = runs.1; on_err = runs.2; keeps = keeps }
    finished (Err why.File) status report keeps = record { point = Keeping; out = flat.out; err = flat.err; printed = (refl, refl); on_out = runs.1; on_err = runs.2; keeps = keeps }
    finished (Err why.Input) status report keeps = absurd keeps
    finished (Err why.Output) status report keeps = absurd keeps
    finished (Err why.Error) status report keeps = absurd keeps

    pub run-finished : (result : Result Verdict Cut) → IfOk result (λ verdict. verdict.status ≡ ending_status ran.ending) → IfOk result (λ verdict. string_bytes verdict.report ≡ report_of (counts_of ran) ran.ending ran.steps)
        → KeepsPart (image_file (name_as image) ran.image) result files files' → Performs (imaged_plan flat (name_as image) s) result before after files files'
    run-finished result status report keeps =
        let same : image_file (name_as image) ran.image ≡ kept = ap (λ (r : Ran). image_file (name_as image) r.image) runs.0 ∙ planned-file image imaged s asked in
        finished result status report (subst (λ k. KeepsPart k result files files') same keeps)

-- it was cut short
module _ (flat : Flat) (image : Option (List ℕ)) (s : Snapshot) (taken : Option Snapshot) (before after : Held) (files : FileMap) where
  pub run-cut : (refused : RunRefusal) (cause : Cut) → CutBy refused cause → RunsAs None flat taken (Err refused) before after → Performs (imaged_plan flat image s) (Err cause) before after files (Some files)
  run-cut refused.Memory why.Memory is runs = record { point = Printing; out = runs.0.0; err = runs.1.0; printed = (runs.0.1, runs.1.1); on_out = runs.0.2; on_err = runs.1.2; keeps = refl }
  run-cut refused.Source why.Input is runs = record { point = Printing; out = runs.0.0; err = runs.1.0; printed = (runs.0.1, runs.1.1); on_out = runs.0.2; on_err = runs.1.2; keeps = refl }
  run-cut refused.Out why.Output is runs = record { point = Printing; out = runs.0.0; err = runs.1.0; printed = (runs.0.1, runs.1.1); on_out = runs.0.2; on_err = runs.1.2; keeps = refl }
  run-cut refused.Err why.Error is runs = record { point = Printing; out = runs.0.0; err = runs.1.0; printed = (runs.0.1, runs.1.1, runs.2); on_out = runs.0.2; on_err = runs.1.2; keeps = refl }
  run-cut refused cause is runs = absurd is

-- ---- files

-- nothing is written
pub writes-nothing : (image : Option (List ℕ)) (files : FileMap) → MayWrite image files (Some files)
writes-nothing None files = refl
writes-nothing (Some name) files = λ other differs. refl

pub nothing-written : (image : Option (List ℕ)) (known : Option FileMap) → IfSome known (λ files. MayWrite image files known)
nothing-written image known = each-some known _ (λ files is. subst (MayWrite image files) (sym is) (writes-nothing image files))

same-writes : (image : Option (List ℕ)) (files : FileMap) (new : Option FileMap) → new ≡ Some files → MayWrite image files new
same-writes image files new is = subst (MayWrite image files) (sym is) (writes-nothing image files)

other-name : (name other : List ℕ) → other ≢ name → bytes_eq name other ≡ false
other-name name other differs = at (bytes_eq name other) refl
  where
    at : (b : Bool) → bytes_eq name other ≡ b → bytes_eq name other ≡ false
    at true is = absurd (differs (sym ((bytes_eq-Decides name other).0 is)))
    at false is = is

with-others : (files : FileMap) (name bytes : List ℕ) → OthersStay files (with_file files name bytes) name
with-others files name bytes = λ other differs. ap (λ b. cond b (Some bytes) (files other)) (other-name name other differs)

pub some-writes : {T : Type 0} (name bytes : List ℕ) (result : Result T Cut) (files : FileMap) (new : Option FileMap) → KeepsPart (Some (record { name = name; bytes = bytes })) result files new → MayWrite (Some name) files new
some-writes name bytes (Err why.Memory) files new keeps = same-writes (Some name) files new keeps
some-writes name bytes (Err why.Input) files new keeps = absurd keeps
some-writes name bytes (Err why.Output) files new keeps = absurd keeps
some-writes name bytes (Err why.Error) files new keeps = absurd keeps
some-writes name bytes (Ok done) files new keeps = subst (MayWrite (Some name) files) (sym keeps) (with-others files name bytes)
some-writes name bytes (Err why.File) files None keeps = absurd keeps
some-writes name bytes (Err why.File) files (Some new) keeps = keeps

pub kept-writes : {T : Type 0} (image : Option (List ℕ)) (s : Option Snapshot) (result : Result T Cut) (files : FileMap) (new : Option FileMap) → KeepsPart (image_file image s) result files new → MayWrite image files new
kept-writes image s (Err why.Memory) files new keeps = same-writes image files new keeps
kept-writes image s (Err why.Input) files new keeps = absurd keeps
kept-writes image s (Err why.Output) files new keeps = absurd keeps
kept-writes image s (Err why.Error) files new keeps = absurd keeps
kept-writes None s (Ok done) files new keeps = same-writes None files new keeps
kept-writes None s (Err why.File) files new keeps = absurd keeps
kept-writes (Some name) None (Ok done) files new keeps = same-writes (Some name) files new keeps
kept-writes (Some name) None (Err why.File) files new keeps = absurd keeps
kept-writes (Some name) (Some s) result files new keeps = some-writes name (image_bytes s) result files new keeps

-- ---- what words and files lead to

the-run : (guest : Job) (image : Option (List ℕ)) (input : List ℕ) → IsThePlan (Runs guest image) input (run_plan guest image input)
the-run guest image input = record { comes = refl; only = λ other is. is }

module _ (guest : Job) (image : Option (List ℕ)) (result : Result Verdict Cut) (left' : Option (List ℕ)) (before after : Held) where
  runs-told : (left : Option (List ℕ)) (files : FileMap) (new : Option FileMap) → IfSome left (λ input. Performs (run_plan guest image input) result before after files new) → IfSome left (λ input. IfOk result (λ verdict. LeavesInput (Runs guest image) input left')) → MayWrite image files new → PerformsStage (Runs guest image) result left left' before after files new
  runs-told None files new does leaves writes = writes
  runs-told (Some input) files new does leaves writes = (inl (record { plan = run_plan guest image input; is = the-run guest image input; performs = does }), leaves)

  inner : (left : Option (List ℕ)) (files : FileMap) (new : Option FileMap) → IfSome left (λ input. IfSome (Some files) (λ files. Performs (run_plan guest image input) result before after files new)) → IfSome left (λ input. Performs (run_plan guest image input) result before after files new)
  inner None files new does = tt
  inner (Some input) files new does = does

  pub run-performs : (left : Option (List ℕ)) (known new : Option FileMap) → IfSome left (λ input. IfSome known (λ files. Performs (run_plan guest image input) result before after files new)) → IfSome left (λ input. IfOk result (λ verdict. LeavesInput (Runs guest image) input left')) → IfSome known (λ files. MayWrite image files new)
      → IfSome known (λ files. PerformsStage (Runs guest image) result left left' before after files new)
  run-performs left None new does leaves writes = tt
  run-performs left (Some files) new does leaves writes = runs-told left files new (inner left files new does) leaves writes

-- a stage that takes the input, whatever of it was done
module _ (s : Stage) (result : Result Verdict Cut) (left' : Option (List ℕ)) (before after : Held)
    (told : (input : List ℕ) (files : FileMap) (new : Option FileMap) → PerformsOn s input result before after files new → IfOk result (λ verdict. LeavesInput s input left') → PerformsStage s result (Some input) left' before after files new)
    (untold : (files : FileMap) (new : Option FileMap) → MayWrite (written_name s) files new → PerformsStage s result None left' before after files new) where
  either-told : (left : Option (List ℕ)) (files : FileMap) (new : Option FileMap) → IfSome left (λ input. IfSome (Some files) (λ files. PerformsOn s input result before after files new)) → IfSome left (λ input. IfOk result (λ verdict. LeavesInput s input left')) → MayWrite (written_name s) files new → PerformsStage s result left left' before after files new
  either-told None files new does leaves writes = untold files new writes
  either-told (Some input) files new does leaves writes = told input files new does leaves

  stage-performs : (left : Option (List ℕ)) (known new : Option FileMap) → IfSome left (λ input. IfSome known (λ files. PerformsOn s input result before after files new)) → IfSome left (λ input. IfOk result (λ verdict. LeavesInput s input left')) → IfSome known (λ files. MayWrite (written_name s) files new)
      → IfSome known (λ files. PerformsStage s result left left' before after files new)
  stage-performs left None new does leaves writes = tt
  stage-performs left (Some files) new does leaves writes = either-told left files new does leaves writes

module _ (job : Job) (result : Result Verdict Cut) (left' : Option (List ℕ)) (before after : Held) where
  pub repair-performs : (images : ℕ) (to : List ℕ) (left : Option (List ℕ)) (known new : Option FileMap) → IfSome left (λ input. IfSome known (λ files. PerformsOn (Repairs job images to) input result before after files new)) → IfSome left (λ input. IfOk result (λ verdict. LeavesInput (Repairs job images to) input left')) → IfSome known (λ files. MayWrite (Some to) files new)
      → IfSome known (λ files. PerformsStage (Repairs job images to) result left left' before after files new)
  repair-performs images to left known new does leaves writes = stage-performs (Repairs job images to) result left' before after (λ input files new does leaves. (does, leaves)) (λ files new writes. writes) left known new does leaves writes

  pub vote-performs : (replicas : ℕ) (to : Option (List ℕ)) (left : Option (List ℕ)) (known new : Option FileMap) → IfSome left (λ input. IfSome known (λ files. PerformsOn (Replicates job replicas to) input result before after files new)) → IfSome left (λ input. IfOk result (λ verdict. LeavesInput (Replicates job replicas to) input left')) → IfSome known (λ files. MayWrite to files new)
      → IfSome known (λ files. PerformsStage (Replicates job replicas to) result left left' before after files new)
  vote-performs replicas to left known new does leaves writes = stage-performs (Replicates job replicas to) result left' before after (λ input files new does leaves. (does, leaves)) (λ files new writes. writes) left known new does leaves writes

none-isolated : (images : List Snapshot) (to : Option (List ℕ)) (cause : Cut) (held : Held) (files : FileMap) (before after : ℕ) → CutsFolder cause before after → PerformsOn (Isolates images to) [] (Err cause) held held files (Some files)
none-isolated images to why.Memory held files before after rose = inr (record { most = nothing; at_most = refl; cause = why.Memory; is = refl; part = nothing-done nothing held files why.Memory before after rose; printing = refl })
none-isolated images to why.File held files before after rose = inr (record { most = nothing; at_most = refl; cause = why.File; is = refl; part = nothing-done nothing held files why.File before after rose; printing = refl })
none-isolated images to why.Input held files before after rose = absurd rose
none-isolated images to why.Output held files before after rose = absurd rose
none-isolated images to why.Error held files before after rose = absurd rose

stage-cut : (stage : Stage) (cause : Cut) (left : Option (List ℕ)) (held : Held) (files : FileMap) (before after : ℕ) → CutsFolder cause before after → PerformsStage stage (Err cause) left left held held files (Some files)
stage-cut (Settles plan) cause left held files before after rose = (nothing-done plan held files cause before after rose, refl)
stage-cut (Isolates images to) cause left held files before after rose = (none-isolated images to cause held files before after rose, refl)
stage-cut (Runs guest image) cause None held files before after rose = writes-nothing image files
stage-cut (Runs guest image) cause (Some input) held files before after rose = (inl (record { plan = run_plan guest image input; is = the-run guest image input; performs = nothing-done (run_plan guest image input) held files cause before after rose }), tt)
stage-cut (Repairs job images to) cause None held files before after rose = writes-nothing (Some to) files
stage-cut (Repairs job images to) cause (Some input) held files before after rose = (inr (record { most = flat_plan (printed_run job input); at_most = refl; cause = cause; is = refl; part = nothing-done (flat_plan (printed_run job input)) held files cause before after rose; printing = nothing-printed (flat_plan (printed_run job input)) held files cause before after rose }), tt)
stage-cut (Replicates job replicas to) cause None held files before after rose = writes-nothing to files
stage-cut (Replicates job replicas to) cause (Some input) held files before after rose = (inr (record { most = first-gate job replicas input; at_most = (0, group_of job replicas, no-round input (group_of job replicas), refl); cause = cause; is = refl; part = nothing-done (first-gate job replicas input) held files cause before after rose; printing = nothing-printed (first-gate job replicas input) held files cause before after rose }), tt)

module _ (words : List (List ℕ)) where
  -- a file couldn't be taken, or memory was wanting, before anything was done
  pub cut-led : (cause : Cut) (left : Option (List ℕ)) (held : Held) (known new : Option FileMap) (before after : ℕ) → new ≡ known → CutsFolder cause before after → IfSome known (λ files. PerformsWords words (Err cause) left left held held files new)
  cut-led cause left held None new before after same rose = tt
  cut-led cause left held (Some files) new before after same rose = λ stage leads. subst (PerformsStage stage (Err cause) left left held held files) (sym same) (stage-cut stage cause left held files before after rose)

  pub all-led : OneAnswer → (result : Result Verdict Cut) (left left' : Option (List ℕ)) (before after : Held) (known mid new : Option FileMap) (stage : Stage) → mid ≡ known → IfSome known (λ files. Leads words files stage) → IfSome mid (λ files. PerformsStage stage result left left' before after files new)
      → IfSome known (λ files. PerformsWords words result left left' before after files new)
  all-led one result left left' before after None mid new stage same leads does = tt
  all-led one result left left' before after (Some files) mid new stage same leads does = λ other also.
      subst (λ s. PerformsStage s result left left' before after files new) (leads-once one words files stage other leads also)
      (subst (λ known. IfSome known (λ files. PerformsStage stage result left left' before after files new)) same does)
