-- What a repair comes to is one thing, and what is done of it.
use Rattle.std.proofs.Common.{◌≡◌, ◌≢◌, ◌⊎◌, inl, inr, ℕ, ◌+◌, ◌<◌, List, [], Option, None, Some, Result, Ok, Err, IfOk, string_bytes, refl, sym, ◌∙◌, ap, arith}
use Rattle.std.proofs.lemmas.List.{append-nil}
use Rattle.std.specs.Io.KnownBytes.{Appends}
use Rattle.ex_io.specs.Files.{FileMap}
use Rattle.ex_io.specs.Tape.{most_kept}
use Rattle.exact_heap.specs.declared.signal.Place.{Place}
use Rattle.heap_image.specs.Agreement.{AreComparable, AreMixed, AreAlike, Differ}
use Rattle.heap_image.specs.Snapshot.{Snapshot}
use Rattle.layout_run.specs.Outside.{Held}
use Rattle.layout_run.specs.Places.{LimitsAreOne, PlacesRise}
use Rattle.layout_run.specs.Runs.{ReachesLimit}
use Rattle.layout_run.specs.Whole.{run_until}
use Rattle.layout_run.specs.declared.ran.Ran.{Ran}
use Rattle.layout_run.specs.declared.ran.RunRefusal.{RunRefusal}
use Rattle.layout_run.specs.declared.ran.RunRefusal.TheVariants as refused
use Rattle.patch_table.specs.Spelling.{spelling}
use Rattle.patch_table.specs.declared.line.Version.TheVariants.{Two}
use Rattle.rv_machine.specs.Flat.{Flat}
use Rattle.iterate.specs.Isolated.{IsolatesOne}
use Rattle.iterate.specs.Repairs.{CutsAtLimit, IsCured, IsMixed, IsRepaired, Repairs as Comes, isolated_in}
use Rattle.iterate.specs.Reruns.{Job, first_image, furthest, images_of, printed_ran, printed_run}
use Rattle.culprits.specs.declared.isolated.Isolated.{Isolated}
use Rattle.iterate.specs.declared.repairing.Repaired.{Repaired}
use Rattle.iterate.specs.declared.repairing.RepairRefusal.TheVariants.{Run, Mixed}
use Rattle.exterm_cli.specs.Ends.{Printing, Keeping}
use Rattle.exterm_cli.specs.Parts.{CutBy, KeepsPart, Performs, PerformsOn, Refuses, verdict_in}
use Rattle.exterm_cli.specs.Plan.{Kept, Plan, Repairs}
use Rattle.exterm_cli.specs.Refusals.{long_input, mixed_images}
use Rattle.exterm_cli.specs.Repair.{ComesToLimit, ComesToLimitLater, ComesToMixed, ComesToRepaired, cut_plan, mixed_plan, repair_plans, repair_report, repaired_plan}
use Rattle.exterm_cli.specs.Report.{ending_status}
use Rattle.exterm_cli.specs.Run.{flat_plan}
use Rattle.exterm_cli.specs.Stages.{IsThePlan}
use Rattle.exterm_cli.specs.declared.cut.Cut.{Cut}
use Rattle.exterm_cli.specs.declared.cut.Cut.TheVariants as why
use Rattle.exterm_cli.specs.declared.cut.Stop.{Stop}
use Rattle.exterm_cli.specs.declared.cut.Stop.TheVariants as stop
use Rattle.exterm_cli.specs.declared.report.Verdict.{Verdict}
use Rattle.exterm_cli.proofs.Cutting.{long-told}
use Rattle.exterm_cli.proofs.Files.{keeps-done}

-- ---- one thing

same-repaired : (a b : Repaired) → a.ran ≡ b.ran → a.images ≡ b.images → isolated_in a ≡ isolated_in b → a ≡ b
same-repaired a b ran images isolated =
    ap (λ (r : Ran). record { ran = r; images = a.images; patches = a.patches; pads = a.pads; defers = a.defers }) ran
    ∙ ap (λ (n : ℕ). record { ran = b.ran; images = n; patches = a.patches; pads = a.pads; defers = a.defers }) images
    ∙ ap (λ (i : Isolated). record { ran = b.ran; images = b.images; patches = i.patches; pads = i.pads; defers = i.defers }) isolated

differ-not : (a b : Snapshot) → AreAlike a b → Differ a b → ⊥
differ-not a b alike (inl tag) = tag alike.tag
differ-not a b alike (inr (inl place)) = place alike.place
differ-not a b alike (inr (inr (inl patches))) = patches alike.patches
differ-not a b alike (inr (inr (inr seeds))) = alike.seeds seeds

not-mixed : (images : List Snapshot) → Snapshot → AreComparable images → AreMixed images → ⊥
not-mixed images d comparable (i, j, less, within, differ) = differ-not _ _ (comparable.alike i j d less within) (differ d)

module _ (job : Job) (images : ℕ) (to input : List ℕ) (one : IsolatesOne) (rise : PlacesRise) (single : LimitsAreOne) where
  cured-once : (first : Option Place) (a b : Repaired) → IsCured job input images first a → IsCured job input images first b → (a.images ≡ b.images) × (isolated_in a ≡ isolated_in b)
  cured-once None a b is also = (is.0 ∙ sym also.0, is.1 ∙ sym also.1)
  cured-once (Some place) a b is also = (is.0 ∙ sym also.0, one (images_of job input images) job.settings.patches (isolated_in a) (isolated_in b) is.1 also.1)

  repaired-once : (a b : Repaired) → IsRepaired job input images a → IsRepaired job input images b → a ≡ b
  repaired-once a b is also =
      let cured = cured-once (printed_ran job input).first a b is.cured also.cured in
      same-repaired a b (is.ran ∙ sym also.ran) cured.0 cured.1

  cured-not-mixed : (first : Option Place) (r : Repaired) → IsCured job input images first r → first ≢ None → AreMixed (images_of job input images) → ⊥
  cured-not-mixed None r is some mixed = some refl
  cured-not-mixed (Some place) r is some mixed = not-mixed (images_of job input images) (first_image job input) is.1.comparable mixed

  not-both : (r : Repaired) → IsRepaired job input images r → IsMixed job input images → ⊥
  not-both r is mixed = cured-not-mixed (printed_ran job input).first r is.cured mixed.signalled mixed.mixed

  abbrev Short : Plan → Type 0
  Short plan = ComesToRepaired job images to input plan ⊎ ComesToMixed job images input plan

  short-once : (one other : Plan) → Short one → Short other → one ≡ other
  short-once p q (inl (r, is, at)) (inl (s, also, there)) = at ∙ ap (repaired_plan (printed_run job input) to) (repaired-once r s is also) ∙ sym there
  short-once p q (inl (r, is, at)) (inr (mixed, there)) = absurd (not-both r is mixed)
  short-once p q (inr (mixed, at)) (inl (s, also, there)) = absurd (not-both s also mixed)
  short-once p q (inr (mixed, at)) (inr (also, there)) = at ∙ sym there

  abbrev run : ℕ → Flat
  run = run_until job.program job.args job.settings input None

  -- a run that comes to the limit has gone past it
  pub printed-past : (made : ℕ) → ReachesLimit run job.budget made → most_kept < (printed_run job input).place
  printed-past made limit =
      let goes = rise job.program job.args job.settings input None (made + 1) job.budget (omega (arith, limit.less)) in
      omega (arith, goes, limit.past)

  abbrev Long : Plan → Type 0
  Long plan = ComesToLimit job input plan ⊎ ComesToLimitLater job images input plan

  pub long-past : (plan : Plan) → Long plan → most_kept < furthest job input images
  long-past plan (inl (made, limit, is)) =
      let past = printed-past made limit in
      omega (arith, past)
  long-past plan (inr (few, past, is)) = past

  long-once : (p q : Plan) → Long p → Long q → p ≡ q
  long-once p q (inl (made, limit, at)) (inl (other, also, there)) = at ∙ ap (λ n. cut_plan (run n)) (single job.program job.args job.settings input None job.budget made other limit also) ∙ sym there
  long-once p q (inl (made, limit, at)) (inr (few, past, there)) =
      let beyond = printed-past made limit in
      absurd (omega (arith, beyond, few))
  long-once p q (inr (few, past, at)) (inl (made, limit, there)) =
      let beyond = printed-past made limit in
      absurd (omega (arith, beyond, few))
  long-once p q (inr (few, past, at)) (inr (also, over, there)) = at ∙ sym there

  plans-once : (p q : Plan) → repair_plans job images to input p → repair_plans job images to input q → p ≡ q
  plans-once p q (inl long) (inl also) = long-once p q long also
  plans-once p q (inl long) (inr (few, there)) =
      let past = long-past p long in
      absurd (omega (arith, past, few))
  plans-once p q (inr (few, at)) (inl long) =
      let past = long-past q long in
      absurd (omega (arith, past, few))
  plans-once p q (inr (few, at)) (inr (also, there)) = short-once p q at there

  pub the-repair : (plan : Plan) → repair_plans job images to input plan → IsThePlan (Repairs job images to) input plan
  the-repair plan comes = record { comes = comes; only = λ other is. plans-once other plan is comes }

  pub limit-past : (before after : Held) → CutsAtLimit job input images before after → most_kept < furthest job input images
  limit-past before after (inl stops) =
      let past = printed-past stops.made stops.limit in
      omega (arith, past)
  limit-past before after (inr (few, past, prints)) = past

  -- ---- what is done

  module _ (before after : Held) (files : FileMap) where
    abbrev flat : Flat
    flat = printed_run job input

    -- it was carried out
    module _ (r : Repaired) (files' : Option FileMap) (comes : Comes job input images (Ok r) before after) where
      abbrev kept : Option Kept
      kept = Some (record { name = to; bytes = spelling Two r.patches })

      finished : (result : Result Verdict Cut) → IfOk result (λ verdict. verdict.status ≡ ending_status r.ran.ending) → IfOk result (λ verdict. string_bytes verdict.report ≡ repair_report r)
          → KeepsPart kept result files files' → Performs (repaired_plan flat to r) result before after files files'
      finished (Ok verdict) status report keeps = record { status = status; report = report; on_out = comes.2.0; on_err = comes.2.1; keeps = keeps-done files files' kept 0 (ending_status r.ran.ending) keeps }
      finished (Err why.Memory) status report keeps = record { point = Printing; out = flat.out; err = flat.err; printed = (([], sym (append-nil flat.out)), ([], sym (append-nil flat.err))); on_out = comes.2.0; on_err = comes.2.1; keeps = keeps }
      finished (Err why.File) status report keeps = record { point = Keeping; out = flat.out; err = flat.err; printed = (refl, refl); on_out = comes.2.0; on_err = comes.2.1; keeps = keeps }
      finished (Err why.Input) status report keeps = absurd keeps
      finished (Err why.Output) status report keeps = absurd keeps
      finished (Err why.Error) status report keeps = absurd keeps

      pub repair-finished : (result : Result Verdict Cut) → IfOk result (λ verdict. verdict.status ≡ ending_status r.ran.ending) → IfOk result (λ verdict. string_bytes verdict.report ≡ repair_report r)
          → KeepsPart kept result files files' → PerformsOn (Repairs job images to) input result before after files files'
      repair-finished result status report keeps = inl (record {
        plan = repaired_plan flat to r;
        is = the-repair (repaired_plan flat to r) (inr (comes.0, inl (r, comes.1, refl)));
        performs = finished result status report keeps;
      })

    -- its images can't be compared
    mixed-told : (stop : Stop) → Refuses mixed_images stop → Appends before.out after.out flat.out → Appends before.err after.err flat.err → Performs (mixed_plan flat) (verdict_in stop) before after files (Some files)
    mixed-told (stop.Refused verdict) is out err = record { status = ap (λ (p : Plan). p.status) (sym is); report = ap (λ (p : Plan). p.report) (sym is); on_out = out; on_err = err; keeps = refl }
    mixed-told (stop.CutShort why.Memory) is out err = record { point = Printing; out = flat.out; err = flat.err; printed = (([], sym (append-nil flat.out)), ([], sym (append-nil flat.err))); on_out = out; on_err = err; keeps = refl }
    mixed-told (stop.CutShort why.Input) is out err = absurd is
    mixed-told (stop.CutShort why.Output) is out err = absurd is
    mixed-told (stop.CutShort why.Error) is out err = absurd is
    mixed-told (stop.CutShort why.File) is out err = absurd is

    pub repair-mixed : (stop : Stop) → Refuses mixed_images stop → Comes job input images (Err Mixed) before after → PerformsOn (Repairs job images to) input (verdict_in stop) before after files (Some files)
    repair-mixed stop is comes = inl (record {
      plan = mixed_plan flat;
      is = the-repair (mixed_plan flat) (inr (comes.0, inr (comes.1, refl)));
      performs = mixed-told stop is comes.2.0 comes.2.1;
    })

    -- more of the input is read than is kept
    pub repair-too-long : (stop : Stop) → Refuses long_input stop → CutsAtLimit job input images before after → PerformsOn (Repairs job images to) input (verdict_in stop) before after files (Some files)
    repair-too-long stop is (inl stops) = inl (record {
      plan = cut_plan (run stops.made);
      is = the-repair (cut_plan (run stops.made)) (inl (inl (stops.made, stops.limit, refl)));
      performs = long-told before after files (run stops.made).out (run stops.made).err stop is stops.out stops.err;
    })
    repair-too-long stop is (inr (few, past, prints)) = inl (record {
      plan = cut_plan flat;
      is = the-repair (cut_plan flat) (inl (inr (few, past, refl)));
      performs = long-told before after files flat.out flat.err stop is prints.0 prints.1;
    })

    -- it was cut short
    pub repair-cut : (refused : RunRefusal) (cause : Cut) → CutBy refused cause → Comes job input images (Err (Run refused)) before after → PerformsOn (Repairs job images to) input (Err cause) before after files (Some files)
    repair-cut refused.Memory why.Memory is comes = inr (record { most = flat_plan flat; at_most = refl; cause = why.Memory; is = refl; part = record { point = Printing; out = comes.0.0; err = comes.1.0; printed = (comes.0.1, comes.1.1); on_out = comes.0.2; on_err = comes.1.2; keeps = refl }; printing = refl })
    repair-cut refused.Source why.Input is comes = inr (record { most = flat_plan flat; at_most = refl; cause = why.Input; is = refl; part = record { point = Printing; out = comes.0.0; err = comes.1.0; printed = (comes.0.1, comes.1.1); on_out = comes.0.2; on_err = comes.1.2; keeps = refl }; printing = refl })
    repair-cut refused.Out why.Output is comes = inr (record { most = flat_plan flat; at_most = refl; cause = why.Output; is = refl; part = record { point = Printing; out = comes.0.0; err = comes.1.0; printed = (comes.0.1, comes.1.1); on_out = comes.0.2; on_err = comes.1.2; keeps = refl }; printing = refl })
    repair-cut refused.Err why.Error is comes = inr (record { most = flat_plan flat; at_most = refl; cause = why.Error; is = refl; part = record { point = Printing; out = comes.0.0; err = comes.1.0; printed = (comes.0.1, comes.1.1, comes.2); on_out = comes.0.2; on_err = comes.1.2; keeps = refl }; printing = refl })
    repair-cut refused cause is comes = absurd is
