-- The headline, from what is answered and the match of the two runs.
use Rattle.std.proofs.Common.{◌≡◌, ◌↔◌, inl, inr, ◌≢◌, ℕ, suc, ◌+◌, ◌<◌, ◌≤◌, Bool, true, false, cond, nat_lt, List, [], ◌∷◌, ◌++◌, length, append_assoc, Option, None, Some, Result, Ok, Err, IfOk, IfSome, refl, sym, ◌∙◌, ap, subst, arith}
use Rattle.std.specs.List.{All}
use Rattle.std.proofs.lemmas.Bool.Decides.{nat_tests}
use Rattle.ex_io.specs.Bytes.{FilesTellBytes, TellsBytes}
use Rattle.ex_io.specs.Causes.{IsPrefix}
use Rattle.ex_io.specs.Files.{FileMap, most_taken}
use Rattle.ex_io.specs.Tape.{most_kept}
use Rattle.infinite_heap.specs.Covered.{IsCoveredRun}
use Rattle.infinite_heap.specs.InfiniteRun.{InfRun, inf_run, is_clear}
use Rattle.elf_load.specs.Laws.{ProgramsAreLawful, ProgramsHoldBytes}
use Rattle.layout_run.specs.Clear.{IsClearRun, ending_at, ComesTo, EndsClear, ClearRunsMatch, ClearRunsPrintPrefixes}
use Rattle.layout_run.specs.Places.{PlacesAreWithin}
use Rattle.layout_run.specs.Unstopped.{UnstoppedRunsAreFlatRuns}
use Rattle.layout_run.specs.Whole.{ran_of, run_until}
use Rattle.layout_run.specs.declared.ran.Ending.{Ending}
use Rattle.layout_run.specs.declared.ran.Ending.TheVariants.{Room}
use Rattle.layout_run.specs.declared.ran.Ran.{Ran}
use Rattle.patch_table.specs.Grammar.{IsText, head}
use Rattle.patch_table.specs.Limits.{InLimits}
use Rattle.patch_table.specs.Spelling.{head_of, spelling, IsSpelled}
use Rattle.patch_table.specs.Table.{Table, no_patches}
use Rattle.patch_table.specs.declared.line.Version.{Version}
use Rattle.patch_table.specs.declared.line.Version.TheVariants.{Two}
use Rattle.rv_machine.specs.Cures.{cures_of}
use Rattle.rv_machine.specs.Flat.{Flat, flat_run}
use Rattle.rv_machine.specs.Laws.{AllBytes, BytesStart}
use Rattle.rv_machine.specs.declared.settings.Settings.{Settings}
use Rattle.iterate.specs.Repairs.{IsCured, IsRepaired}
use Rattle.iterate.specs.Reruns.{Job, first_image, furthest, highest, printed_ran, printed_run, rerun_places}
use Rattle.iterate.specs.declared.repairing.Repaired.{Repaired as Mended}
use Rattle.replicate.specs.Clear.{ClearRoundsStayWhole, PrintsAs, StaysWhole}
use Rattle.replicate.specs.Clear.{EndsClear as GroupEnds}
use Rattle.replicate.specs.Gates.{printed_at_gate}
use Rattle.replicate.specs.Groups.{Group}
use Rattle.replicate.specs.Rounds.{Rounds, gathered}
use Rattle.replicate.specs.Runs.{PlacesAreInside, furthest as furthest_of_group}
use Rattle.replicate.specs.declared.answer.GateAnswer.{GateAnswer}
use Rattle.replicate.specs.declared.answer.GateAnswer.TheVariants as answer
use Rattle.simulation.specs.Agreement.{IsRoomed}
use Rattle.exterm_cli.specs.Accepted.{AcceptsGuest, AcceptsLoaded, settings_of}
use Rattle.exterm_cli.specs.Answers.{Answers, DoesAll, DoesStage}
use Rattle.exterm_cli.specs.Counted.{args_of, word}
use Rattle.exterm_cli.specs.Cases.{Accepts, Alone, Asks, Case, GivesTable, IsCoveredCase, IsFile, Manner, Repaired, Replicated, run_after, run_of, seeded_by}
use Rattle.exterm_cli.specs.Ends.{End, Printing, Stops}
use Rattle.exterm_cli.specs.Headline.{Carries, Headline, IsPlanOf, heap_counts, quiet_plan, quiet_report, whole_plan, without_file}
use Rattle.exterm_cli.specs.Leads.{Leads, LeadsCommand}
use Rattle.exterm_cli.specs.Outside.{Seen}
use Rattle.exterm_cli.specs.Plan.{Plan, Repairs, Replicates, Runs, Stage, line}
use Rattle.exterm_cli.specs.Shows.{Shows}
use Rattle.exterm_cli.specs.Refusals.{too_long}
use Rattle.exterm_cli.specs.Replicate.{ComesToReadLimit, ComesToVote, events_from, gates_print, group_ending_text, group_of, group_report, last_gate, replicate_plans, replicating, voted_plan}
use Rattle.exterm_cli.specs.Repair.{ComesToLimit, repair_plans, repair_report, repaired_plan, repairing}
use Rattle.exterm_cli.specs.Report.{ended, ending_status}
use Rattle.exterm_cli.specs.Run.{flat_plan, imaged_plan, run_plan, running, word_named}
use Rattle.exterm_cli.specs.Run as flat
use Rattle.exterm_cli.specs.Taking.{ReadsPatches, ReadsTable, ReadsTaken, loaded, program_in, taken, taken_word}
use Rattle.exterm_cli.specs.declared.cut.Cut.{Cut}
use Rattle.exterm_cli.specs.declared.cut.Cut.TheVariants as why
use Rattle.exterm_cli.specs.declared.words.Command.{Command}
use Rattle.exterm_cli.specs.declared.words.Command.TheVariants as command
use Rattle.exterm_cli.specs.Words.{words_of}
use Rattle.exterm_cli.specs.declared.words.GuestWords.{GuestWords}
use Rattle.exterm_cli.proofs.Ranges.{IsInRange, words-in-range}
use Rattle.exterm_cli.proofs.WordBytes.{args-bytes}

-- what the crates below say
pub record Laws : Type 0 where
  pub clear : ClearRunsMatch
  pub prefixes : ClearRunsPrintPrefixes
  pub within : PlacesAreWithin
  pub rounds : ClearRoundsStayWhole
  pub inside : PlacesAreInside
  pub unstopped : UnstoppedRunsAreFlatRuns
  pub start : BytesStart
  pub lawful : ProgramsAreLawful
  pub holds : ProgramsHoldBytes
  pub spelled : (version : Version) (text : List ℕ) (table : Table) → IsText version text table ↔ (IsSpelled version table × InLimits table × (text ≡ spelling version table))

-- ---- plans of flat runs

-- The plan of a flat run that comes to this.
same-plan : (case : Case) (run : InfRun) (ending : Ending) (f : Flat) → case.manner ≡ Alone → ComesTo run ending f → flat_plan f ≡ quiet_plan case run ending 0
same-plan case run ending f alone comes =
    ap (λ out. flat.reported (record f { out = out }) (ran_of None f)) comes.out
    ∙ ap (λ err. ended run.out err (flat.counts_of (ran_of None f)) (ran_of None f).ending (ran_of None f).steps) comes.err
    ∙ ap (λ (ran : Ran). ended run.out run.err (flat.counts_of ran) ran.ending ran.steps) comes.ran
    ∙ ap (λ m. record (ended run.out run.err (heap_counts run.state.objects) ending run.state.steps) { report = quiet_report m (heap_counts run.state.objects) ending run.state.steps 0 }) (sym alone)

-- no image was taken, and the table is the old one
abbrev quiet_repaired : Table → Ran → Mended
quiet_repaired patches ran = record { ran = ran; images = 0; patches = patches; pads = 0; defers = 0 }

-- And that of its repair.
same-repair : (case : Case) (run : InfRun) (ending : Ending) (f : Flat) (to : List ℕ) (patches : Table) → case.manner ≡ Repaired → ComesTo run ending f → without_file (repaired_plan f to (quiet_repaired patches (ran_of None f))) ≡ quiet_plan case run ending 0
same-repair case run ending f to patches repairs comes =
    ap (λ out. without_file (repaired_plan (record f { out = out }) to (quiet_repaired patches (ran_of None f)))) comes.out
    ∙ ap (λ err. record { status = ending_status (ran_of None f).ending; out = run.out; err = err; file = None; report = repair_report (quiet_repaired patches (ran_of None f)) }) comes.err
    ∙ ap (λ (ran : Ran). record { status = ending_status ran.ending; out = run.out; err = run.err; file = None; report = repair_report (quiet_repaired patches ran) }) comes.ran
    ∙ ap (λ m. record { status = ending_status ending; out = run.out; err = run.err; file = None; report = quiet_report m (heap_counts run.state.objects) ending run.state.steps 0 }) (sym repairs)

-- And that of a vote in which nobody was retired and no table was changed.
same-vote : (case : Case) (run : InfRun) (ending : Ending) (g : Group) (to : Option (List ℕ)) → case.manner ≡ Replicated → g.retired ≡ [] → g.patched ≡ [] → PrintsAs run g → without_file (voted_plan to g (answer.Ended ending)) ≡ quiet_plan case run ending (last_gate g)
same-vote case run ending g to votes retired patched prints =
    ap (λ out. record { status = ending_status ending; out = out; err = g.err; file = None; report = group_report g (answer.Ended ending) }) prints.out
    ∙ ap (λ err. record { status = ending_status ending; out = run.out; err = err; file = None; report = group_report g (answer.Ended ending) }) prints.err
    ∙ ap (λ r. record { status = ending_status ending; out = run.out; err = run.err; file = None; report = events_from 0 (last_gate g) r g.patched ++ line (group_ending_text ending (last_gate g)) }) retired
    ∙ ap (λ p. record { status = ending_status ending; out = run.out; err = run.err; file = None; report = events_from 0 (last_gate g) [] p ++ line (group_ending_text ending (last_gate g)) }) patched
    ∙ ap (λ m. record { status = ending_status ending; out = run.out; err = run.err; file = None; report = quiet_report m (heap_counts run.state.objects) ending run.state.steps (last_gate g) }) (sym votes)

-- ---- what keeps its input

abbrev Keeps : Manner → Type 0
Keeps Alone = ⊥
Keeps other = Unit {0}

keeps-input : (manner : Manner) → Keeps manner → manner ≢ Alone
keeps-input manner keeps is = subst Keeps is keeps

-- ---- prefixes

past-inside : (place end : ℕ) → (place ≤ most_kept → ⊥) → place ≤ end → most_kept < end
past-inside place end past inside = by (nat_lt most_kept end) refl
  where
    by : (b : Bool) → nat_lt most_kept end ≡ b → most_kept < end
    by true is = grind (arith, nat_tests)
    by false is = let no : end ≤ most_kept = grind (arith, nat_tests) in absurd (past (omega (arith, no, inside)))

longer : (xs ys zs : List ℕ) → IsPrefix xs ys → IsPrefix ys zs → IsPrefix xs zs
longer xs ys zs (rest, is) (more, also) = (rest ++ more, also ∙ ap (λ l. l ++ more) is ∙ append_assoc xs rest more)

not-empty : (xs ys : List ℕ) → IsPrefix xs ys → xs ≢ [] → ys ≢ []
not-empty [] ys begins some none = some refl
not-empty (x ∷ xs) ys (rest, is) some none = cons-not-nil (sym is ∙ none)
  where
    cons-not-nil : (x ∷ (xs ++ rest)) ≡ [] → ⊥
    cons-not-nil same = cc

-- what was printed of less is a front of more
shows-more : (less more : Plan) → IsPrefix less.out more.out → IsPrefix less.err more.err → (cause answer : Cut) (before after : Seen) → Shows less (Stops Printing cause answer) before after → Shows more (Stops Printing cause answer) before after
shows-more less more out err why.Memory answer before after s = record { out = s.out; err = s.err; tail = s.tail; printed = (longer s.out less.out more.out s.printed.0 out, longer s.err less.err more.err s.printed.1 err); told = s.told; on_out = s.on_out; on_err = s.on_err }
shows-more less more out err why.Input answer before after s = record { out = s.out; err = s.err; tail = s.tail; printed = (longer s.out less.out more.out s.printed.0 out, longer s.err less.err more.err s.printed.1 err); told = s.told; on_out = s.on_out; on_err = s.on_err }
shows-more less more out err why.Output answer before after s = record { out = s.out; err = s.err; tail = s.tail; printed = (longer s.out less.out more.out s.printed.0 out, longer s.err less.err more.err s.printed.1 err); told = s.told; on_out = s.on_out; on_err = s.on_err }
shows-more less more out err why.Error answer before after s = record { out = s.out; err = s.err; tail = s.tail; printed = (longer s.out less.out more.out s.printed.0 out, longer s.err less.err more.err s.printed.1 err, not-empty less.err more.err err s.printed.2); told = s.told; on_out = s.on_out; on_err = s.on_err }
shows-more less more out err why.File answer before after s = record { out = s.out; err = s.err; tail = s.tail; printed = s.printed; told = s.told; on_out = s.on_out; on_err = s.on_err }

-- ---- what is accepted leads to a run

short : (low high : ℕ) → low ≤ high → nat_lt high low ≡ false
short low high le = grind (arith, nat_tests)

taken-file : (words : List (List ℕ)) (files : FileMap) (at : ℕ) (file : List ℕ) → IsFile files (word words at) file → taken_word words files at ≡ Ok file
taken-file words files at file is =
    ap (taken (at + 1)) is.0 ∙ ap (λ b. cond b (Err (too_long (at + 1))) (Ok file)) (short (length file) most_taken is.1)

gives-reads : (words : List (List ℕ)) (files : FileMap) (patches : Option ℕ) (table : Table) → GivesTable words files patches table → ReadsPatches words files patches (Ok table)
gives-reads words files None table is = ap Ok is
gives-reads words files (Some at) table (text, found, is) = subst (λ t. ReadsTaken ReadsTable 1 t (Ok table)) (sym (taken-file words files at text found)) is

-- a table that is given is within its limits
given-limits : Laws → (words : List (List ℕ)) (files : FileMap) (patches : Option ℕ) (table : Table) → GivesTable words files patches table → InLimits table
given-limits laws words files None table is = subst InLimits (sym is) ((laws.spelled Two (head_of Two) no_patches).0 head).1
given-limits laws words files (Some at) table (text, found, (version, is)) = ((laws.spelled version text table).0 is).1

module _ (words : List (List ℕ)) (before : Seen) (case : Case) (a : Accepts words before case) where
  -- the seed may be any
  abbrev settings : Settings
  settings = settings_of a.guest case.patches

  abbrev guest : Job
  guest = record { program = case.program; args = case.args; settings = settings; budget = case.budget }

  abbrev guest-told : Job
  guest-told = record { program = case.program; args = args_of words a.guest; settings = settings; budget = a.guest.steps }

  same-guest : guest ≡ guest-told
  same-guest =
      ap (λ (args : List (List ℕ)). record { program = case.program; args = args; settings = settings; budget = case.budget }) a.given
      ∙ ap (λ (budget : ℕ). record { program = case.program; args = args_of words a.guest; settings = settings; budget = budget }) a.lasts

  accepts : (read : Result Job Plan) × AcceptsGuest words a.files a.guest read × (read ≡ Ok guest)
  accepts =
      let program = ap program_in (taken-file words a.files a.guest.elf a.file a.found) ∙ ap loaded a.loads in
      (Ok guest, subst (λ r. AcceptsLoaded words a.files a.guest r (Ok guest)) (sym program) (Ok case.patches, gives-reads words a.files a.guest.patches case.patches a.patched, ap Ok same-guest), refl)

  leads-run : (image : Option ℕ) → a.asked ≡ command.Run a.guest image → Leads words a.files (Runs guest (word_named words image))
  leads-run image is = subst (λ c. LeadsCommand words a.files c (Runs guest (word_named words image))) (sym (a.read ∙ ap Ok is)) (accepts.0, accepts.1, ap (running (word_named words image)) (sym accepts.2))

  leads-replicate : (replicas quantum : ℕ) (to : Option ℕ) → a.asked ≡ command.Replicate a.guest replicas quantum to → Leads words a.files (Replicates guest replicas (word_named words to))
  leads-replicate replicas quantum to is = subst (λ c. LeadsCommand words a.files c (Replicates guest replicas (word_named words to))) (sym (a.read ∙ ap Ok is)) (accepts.0, accepts.1, ap (replicating replicas (word_named words to)) (sym accepts.2))

  leads-repair : (images to : ℕ) → a.asked ≡ command.Repair a.guest images to → Leads words a.files (Repairs guest images (word words to))
  leads-repair images to is = subst (λ c. LeadsCommand words a.files c (Repairs guest images (word words to))) (sym (a.read ∙ ap Ok is)) (accepts.0, accepts.1, ap (repairing images (word words to)) (sym accepts.2))

  -- the run is clear and covered
  clear-run : Laws → AllBytes a.file → All AllBytes words → AllBytes case.input → is_clear (run_of case) ≡ true → IsCoveredCase case → IsClearRun case.program case.args settings case.input case.budget
  clear-run laws file all input clear covered =
      let args : All AllBytes case.args = subst (All AllBytes) (sym a.given) (args-bytes words a.guest all) in record {
        given = record {
          lawful = laws.lawful a.file case.program a.loads;
          starts = laws.start case.program (laws.holds a.file file case.program a.loads) case.args args;
          reads = input;
        };
        limits = given-limits laws words a.files a.guest.patches case.patches a.patched;
        clear = subst (λ z. is_clear (inf_run case.program case.args case.input z case.budget) ≡ true) a.zeroed clear;
        covered = subst (λ z. IsCoveredRun (cures_of case.patches) case.program case.args case.input z case.budget) a.zeroed covered;
      }

  same-zero : settings ≡ seeded_by a.guest.seed case
  same-zero = ap (λ (zero : Bool). record { seed = a.guest.seed; zero = zero; patches = case.patches }) (sym a.zeroed)

  abbrev flat-run : Flat
  flat-run = flat_run case.program case.args settings case.input case.budget

  abbrev Ends : Type 0
  Ends = EndsClear case.program case.args (seeded_by a.guest.seed case) case.input case.budget flat-run

  ends-clear : Laws → AllBytes a.file → All AllBytes words → AllBytes case.input → is_clear (run_of case) ≡ true → IsCoveredCase case → Ends
  ends-clear laws file all input clear covered =
      subst (λ s. EndsClear case.program case.args s case.input case.budget flat-run) same-zero (laws.clear case.program case.args settings case.input case.budget (clear-run laws file all input clear covered))

  -- the printed run is that run
  whole-run : Laws → printed_run guest case.input ≡ flat-run
  whole-run laws = laws.unstopped case.program case.args settings case.input case.budget

  abbrev IsClear : Type 0
  IsClear = IsClearRun case.program case.args settings case.input case.budget

  -- more of the input is read than is kept: what was printed by then is a prefix
  long-planned : Laws → IsClear → case.manner ≡ Repaired → (plan : Plan) → ComesToLimit guest case.input plan → IsPlanOf case plan
  long-planned laws clear repairs plan (made, limit, is) =
      let prefixes = subst (λ z. IsPrefix (run_until case.program case.args settings case.input None made).out (inf_run case.program case.args case.input z case.budget).out × IsPrefix (run_until case.program case.args settings case.input None made).err (inf_run case.program case.args case.input z case.budget).err) (sym a.zeroed)
      (laws.prefixes case.program case.args settings case.input case.budget made clear (omega (arith, limit.less))) in
      let inside = laws.within case.program case.args settings case.input None (made + 1) in
      subst (IsPlanOf case) (sym is) (inr (inr (record {
        keeps = keeps-input case.manner (subst Keeps (sym repairs) tt);
        long = omega (arith, inside, limit.past);
        out = prefixes.0;
        err = prefixes.1;
        status = refl;
        report = refl;
      })))

  -- what the flat run comes to is what the run on the infinite heap leaves open
  planned-by : (plan : Plan) → ((run : InfRun) (ending : Ending) → ComesTo run ending flat-run → without_file plan ≡ quiet_plan case run ending 0) → Ends → IsPlanOf case plan
  planned-by plan same (inl ends) = inl (ends.address, 0, same (run_of case) (ending_at ends.address (run_of case).ending) ends.comes)
  planned-by plan same (inr ends) = inr (inl (record {
    made = ends.made;
    within = ends.within;
    used = ends.used;
    wanted = ends.wanted;
    meets = ends.meets;
    gate = 0;
    is = same (run_after case ends.made) (Room ends.used ends.wanted) ends.comes;
  }))

  -- ---- a run

  module _ (laws : Laws) (alone : case.manner ≡ Alone) (image : Option (List ℕ)) where
    abbrev imaged : Flat → Plan
    imaged f = imaged_plan f image (first_image guest case.input)

    run-planned : Ends → IsPlanOf case (run_plan guest image case.input)
    run-planned ends = subst (IsPlanOf case) (sym (ap imaged (whole-run laws))) (planned-by (imaged flat-run) (λ run ending comes. same-plan case run ending flat-run alone comes) ends)

  -- ---- a repair

  module _ (laws : Laws) (repairs : case.manner ≡ Repaired) (images : ℕ) (to : List ℕ) where
    abbrev repaired : Flat → Mended
    repaired f = quiet_repaired case.patches (ran_of None f)

    abbrev the-plan : Plan
    the-plan = repaired_plan flat-run to (repaired flat-run)

    repair-planned : Ends → IsPlanOf case the-plan
    repair-planned ends = planned-by the-plan (λ run ending comes. same-repair case run ending flat-run to case.patches repairs comes) ends

    -- its heap showed no error
    no-signal : Ends → (ran_of None flat-run).first ≡ None
    no-signal (inl ends) = ap (λ (r : Ran). r.first) ends.comes.ran
    no-signal (inr ends) = ap (λ (r : Ran). r.first) ends.comes.ran

    is-repaired : Ends → IsRepaired guest case.input images (repaired flat-run)
    is-repaired ends = record {
      ran = ap (ran_of None) (sym (whole-run laws));
      cured = subst (λ first. IsCured guest case.input images first (repaired flat-run)) (sym (ap (λ (f : Flat). (ran_of None f).first) (whole-run laws) ∙ no-signal ends)) (refl, refl);
    }

    -- so there is one run
    one-run : Ends → furthest guest case.input images ≡ (printed_run guest case.input).place
    one-run ends =
        let first : (printed_ran guest case.input).first ≡ None = ap (λ (f : Flat). (ran_of None f).first) (whole-run laws) ∙ no-signal ends in
        let none : highest (rerun_places guest case.input images (printed_ran guest case.input).first) ≡ highest [] = ap (λ o. highest (rerun_places guest case.input images o)) first in
        omega (arith, none)

    comes-to : Ends → furthest guest case.input images ≤ most_kept → repair_plans guest images to case.input the-plan
    comes-to ends few = inr (few, inl (repaired flat-run, is-repaired ends, ap (λ f. repaired_plan f to (repaired flat-run)) (sym (whole-run laws))))

    -- where the printing was cut short, a prefix of that is printed
    cut-shows : (cause answer : Cut) (before after : Seen) → Shows (flat_plan flat-run) (Stops Printing cause answer) before after → Shows the-plan (Stops Printing cause answer) before after
    cut-shows why.Memory answer before after s = record { out = s.out; err = s.err; tail = s.tail; printed = s.printed; told = s.told; on_out = s.on_out; on_err = s.on_err }
    cut-shows why.Input answer before after s = record { out = s.out; err = s.err; tail = s.tail; printed = s.printed; told = s.told; on_out = s.on_out; on_err = s.on_err }
    cut-shows why.Output answer before after s = record { out = s.out; err = s.err; tail = s.tail; printed = s.printed; told = s.told; on_out = s.on_out; on_err = s.on_err }
    cut-shows why.Error answer before after s = record { out = s.out; err = s.err; tail = s.tail; printed = s.printed; told = s.told; on_out = s.on_out; on_err = s.on_err }
    cut-shows why.File answer before after s = record { out = s.out; err = s.err; tail = s.tail; printed = s.printed; told = s.told; on_out = s.on_out; on_err = s.on_err }

    -- the plan that is done, and that it is what the headline says
    record IsDone (how : End) (old new : Seen) : Type 0 where
      plan : Plan
      planned : IsPlanOf case plan
      shows : Shows plan how old new

    repair-done : Ends → IsClear → (end : End) (files : FileMap) (before after : Seen) → DoesStage (Repairs guest images to) (Some case.input) end files before after → IsDone end before after
    repair-done ends clear end files before after (inr cuts, leaves) =
        let shows : Shows (flat_plan flat-run) (Stops Printing cuts.cause cuts.answer) before after = subst (λ f. Shows (flat_plan f) (Stops Printing cuts.cause cuts.answer) before after) (whole-run laws) (subst (λ p. Shows p (Stops Printing cuts.cause cuts.answer) before after) cuts.at_most cuts.does.0) in
        record { plan = the-plan; planned = repair-planned ends; shows = subst (λ e. Shows the-plan e before after) (sym cuts.is) (cut-shows cuts.cause cuts.answer before after shows) }
    repair-done ends clear end files before after (inl does, leaves) = go does.is.comes
      where
        go : repair_plans guest images to case.input does.plan → IsDone end before after
        go (inl (inl limit)) = record { plan = does.plan; planned = long-planned laws clear repairs does.plan limit; shows = does.does.0 }
        go (inl (inr (few, past, is))) =
            let one = one-run ends in
            absurd (omega (arith, few, past, one))
        go (inr (few, is)) =
            let same : the-plan ≡ does.plan = does.is.only the-plan (comes-to ends few) in
            record { plan = the-plan; planned = repair-planned ends; shows = subst (λ plan. Shows plan end before after) (sym same) does.does.0 }

  -- ---- replicas

  module _ (laws : Laws) (votes : case.manner ≡ Replicated) (replicas : ℕ) (some : 0 < replicas) (to : Option (List ℕ)) where
    abbrev start : Group
    start = group_of guest replicas

    abbrev the-run : InfRun
    the-run = inf_run case.program case.args case.input settings.zero case.budget

    same-run : the-run ≡ run_of case
    same-run = ap (λ z. inf_run case.program case.args case.input z case.budget) (sym a.zeroed)

    whole : IsClear → (n : ℕ) (g : Group) → Rounds case.input start n g → StaysWhole case.program case.args settings case.input case.budget g
    whole clear n g are = (laws.rounds case.program case.args settings case.input case.budget replicas some clear n g are).0

    -- the group is over
    over-planned : (g : Group) (over : GateAnswer) → StaysWhole case.program case.args settings case.input case.budget g → GroupEnds case.program case.args settings case.input case.budget g (Some over) → IsPlanOf case (voted_plan to g over)
    over-planned g (answer.Ended ending) stays (inl ends) =
        inl (ends.address, last_gate g, ap (λ e. without_file (voted_plan to g (answer.Ended e))) ends.ends ∙ same-vote case the-run (ending_at ends.address the-run.ending) g to votes stays.retired stays.patched ends.prints ∙ ap (λ run. quiet_plan case run (ending_at ends.address run.ending) (last_gate g)) same-run)
    over-planned g (answer.Ended ending) stays (inr ends) = inr (inl (record {
      made = ends.made;
      within = ends.within;
      used = ends.used;
      wanted = ends.wanted;
      meets = λ seed. subst (λ (z : Bool). IsRoomed (flat_run case.program case.args (record { seed = seed; zero = z; patches = case.patches }) case.input (suc ends.made)) ends.used ends.wanted) (sym a.zeroed) (ends.meets seed);
      gate = last_gate g;
      is = ap (λ e. without_file (voted_plan to g (answer.Ended e))) ends.ends ∙ same-vote case (inf_run case.program case.args case.input settings.zero ends.made) (Room ends.used ends.wanted) g to votes stays.retired stays.patched ends.prints ∙ ap (λ z. quiet_plan case (inf_run case.program case.args case.input z ends.made) (Room ends.used ends.wanted) (last_gate g)) (sym a.zeroed);
    }))
    over-planned g answer.Passed stays ends = absurd ends
    over-planned g (answer.Waiting i) stays ends = absurd ends
    over-planned g (answer.Lost largest live) stays ends = absurd ends

    vote-planned : IsClear → (plan : Plan) → ComesToVote guest replicas to case.input plan → IsPlanOf case plan
    vote-planned clear plan (g, over, comes, is) =
        let stays = whole clear comes.rounds g comes.are in
        subst (IsPlanOf case) (sym is) (over-planned g over stays (subst (GroupEnds case.program case.args settings case.input case.budget g) comes.over stays.ends))

    stop-planned : IsClear → (plan : Plan) → ComesToReadLimit guest replicas case.input plan → IsPlanOf case plan
    stop-planned clear plan (g, limit, is) =
        let stays = whole clear limit.rounds g limit.are in
        let inside = laws.inside case.program case.args settings case.input case.budget replicas limit.rounds g limit.are in
        subst (IsPlanOf case) (sym is) (inr (inr (record {
          keeps = keeps-input case.manner (subst Keeps (sym votes) tt);
          long = past-inside (furthest_of_group (gathered case.input g)) (length case.input) limit.past inside;
          out = subst (λ run. IsPrefix g.out run.out) same-run stays.prints.out;
          err = subst (λ run. IsPrefix g.err run.err) same-run stays.prints.err;
          status = refl;
          report = refl;
        })))

    -- the plan that is done, and that it is what the headline says
    record IsVoted (how : End) (old new : Seen) : Type 0 where
      plan : Plan
      planned : IsPlanOf case plan
      shows : Shows plan how old new

    -- where the printing was cut short, a prefix of the run's bytes is printed
    cut-voted : IsClear → (most : Plan) → gates_print guest replicas case.input most → (cause answer : Cut) (before after : Seen) → Shows most (Stops Printing cause answer) before after → Shows (whole_plan case 0 0) (Stops Printing cause answer) before after
    cut-voted clear most (n, g, are, is) cause answer before after shows =
        let round = laws.rounds case.program case.args settings case.input case.budget replicas some clear n g are in
        let out = subst (λ run. IsPrefix (g.out ++ printed_at_gate 1 (gathered case.input g)) run.out) same-run round.1 in
        let err = subst (λ run. IsPrefix (g.err ++ printed_at_gate 2 (gathered case.input g)) run.err) same-run round.2 in
        shows-more most (whole_plan case 0 0) (subst (λ (p : Plan). IsPrefix p.out (run_of case).out) (sym is) out) (subst (λ (p : Plan). IsPrefix p.err (run_of case).err) (sym is) err) cause answer before after shows

    vote-done : IsClear → (end : End) (files : FileMap) (before after : Seen) → DoesStage (Replicates guest replicas to) (Some case.input) end files before after → IsVoted end before after
    vote-done clear end files before after (inr cuts, leaves) =
        let shows = cut-voted clear cuts.most cuts.at_most cuts.cause cuts.answer before after cuts.does.0 in
        record { plan = whole_plan case 0 0; planned = inl (0, 0, refl); shows = subst (λ e. Shows (whole_plan case 0 0) e before after) (sym cuts.is) shows }
    vote-done clear end files before after (inl does, leaves) = go does.is.comes
      where
        go : replicate_plans guest replicas to case.input does.plan → IsVoted end before after
        go (inl votes-to) = record { plan = does.plan; planned = vote-planned clear does.plan votes-to; shows = does.does.0 }
        go (inr limit) = record { plan = does.plan; planned = stop-planned clear does.plan limit; shows = does.does.0 }

run-shows : (job : Job) (image : Option (List ℕ)) (input : List ℕ) (end : End) (files : FileMap) (before after : Seen) → DoesStage (Runs job image) (Some input) end files before after → Shows (run_plan job image input) end before after
run-shows job image input end files before after (inl planned, leaves) = subst (λ plan. Shows plan end before after) (sym (planned.is.only (run_plan job image input) refl)) planned.does.0
run-shows job image input end files before after (inr cuts, leaves) = subst (λ e. Shows (run_plan job image input) e before after) (sym cuts.is) (subst (λ p. Shows p (Stops Printing cuts.cause cuts.answer) before after) cuts.at_most cuts.does.0)

-- a command that is accepted lets some replicas vote
some-replicas : (words : List (List ℕ)) (replicas quantum : ℕ) (to : Option ℕ) (g : GuestWords) → words_of words ≡ Ok (command.Replicate g replicas quantum to) → 0 < replicas
some-replicas words replicas quantum to g is =
    let ranges = subst (λ c. IfOk c (IsInRange (length words))) is (words-in-range words) in
    omega (arith, ranges.lasts.1.0)

module _ (words : List (List ℕ)) (before after : Seen) (status : ℕ) (laws : Laws) (answered : Answers words before after status) (case : Case) (a : Accepts words before case) (ends : Ends words before case a) (clear : IsClear words before case a) where
  abbrev job : Job
  job = guest words before case a

  -- what this stage comes to is done
  does-stage : (stage : Stage) → Leads words a.files stage → DoesStage stage (Some case.input) answered.end a.files before after
  does-stage stage leads =
      let done = subst (λ files. IfSome files (λ files. DoesAll words files answered.end before after)) a.tells answered.does in
      let does = subst (λ s. DoesStage s before.left answered.end a.files before after) (sym (done.only stage leads)) done.does in
      subst (λ left. DoesStage stage left answered.end a.files before after) a.left does

  carried : (plan : Plan) → IsPlanOf case plan → Shows plan answered.end before after → Carries case before after status
  carried plan planned shows = record { plan = plan; planned = planned; end = answered.end; told = answered.told; caused = answered.caused; shows = shows }

  carries : (manner : Manner) (asked : Command) → case.manner ≡ manner → a.asked ≡ asked → Asks manner a.guest asked → Carries case before after status
  carries Alone (command.Run g image) alone is asks =
      let named = word_named words image in
      let does = does-stage (Runs job named) (leads-run words before case a image (is ∙ ap (λ g. command.Run g image) asks)) in
      carried (run_plan job named case.input) (run-planned words before case a laws alone named ends) (run-shows job named case.input answered.end a.files before after does)
  carries Repaired (command.Repair g images to) repairs is asks =
      let does = does-stage (Repairs job images (word words to)) (leads-repair words before case a images to (is ∙ ap (λ g. command.Repair g images to) asks)) in
      let done = repair-done words before case a laws repairs images (word words to) ends clear answered.end a.files before after does in
      carried done.plan done.planned done.shows
  carries Replicated (command.Replicate g replicas quantum to) votes is asks =
      let named = word_named words to in
      let does = does-stage (Replicates job replicas named) (leads-replicate words before case a replicas quantum to (is ∙ ap (λ g. command.Replicate g replicas quantum to) asks)) in
      let some : 0 < replicas = some-replicas words replicas quantum to g (a.read ∙ ap Ok is) in
      let done = vote-done words before case a laws votes replicas some named clear answered.end a.files before after does in
      carried done.plan done.planned done.shows
  carries manner asked case-is is asks = absurd asks

pub headline : (words : List (List ℕ)) (before after : Seen) (status : ℕ) → Laws → All AllBytes words → TellsBytes before.left → FilesTellBytes before.files → Answers words before after status → Headline words before after status
headline words before after status laws all left told answered case a clear covered =
    let told' : FilesTellBytes (Some a.files) = subst FilesTellBytes a.tells told in
    let file : AllBytes a.file = subst TellsBytes a.found.0 (told' (word words a.guest.elf)) in
    let input : AllBytes case.input = subst TellsBytes a.left left in
    carries words before after status laws answered case a (ends-clear words before case a laws file all input clear covered) (clear-run words before case a laws file all input clear covered) case.manner a.asked refl refl a.asks
