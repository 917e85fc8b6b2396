-- What a group of replicas comes to is one thing, and what is done of it.
use Rattle.std.proofs.Common.{◌≡◌, ◌≢◌, inl, inr, ℕ, List, [], ◌++◌, drop, Option, Some, Result, Ok, Err, IfOk, IfSome, refl, sym, ◌∙◌, ap, subst, length, ◌∷◌, true, arith}
use Rattle.std.proofs.lemmas.List.{append-nil}
use Rattle.std.specs.Io.KnownBytes.{Appends, prepend_known}
use Rattle.std.specs.List.{AllByRecursion}
use Rattle.ex_io.specs.Causes.{AppendsFront}
use Rattle.ex_io.specs.Files.{FileMap}
use Rattle.ex_io.specs.Tape.{HasAnswered, Track, begins, new_tape}
use Rattle.ex_io.specs.Tape as tape
use Rattle.iterate.specs.Reruns.{Job}
use Rattle.layout_run.specs.Advances.{TellsInput}
use Rattle.layout_run.specs.Outside.{Held}
use Rattle.layout_run.specs.declared.ran.RunRefusal.{RunRefusal}
use Rattle.layout_run.specs.declared.ran.RunRefusal.TheVariants as refused
use Rattle.replicate.specs.GroupStands.{MayFailAt}
use Rattle.replicate.specs.Gates.{printed_at_gate}
use Rattle.replicate.specs.Groups.{Group}
use Rattle.replicate.specs.Rounds.{Rounds, gathered}
use Rattle.replicate.specs.Runs.{ComesTo, EndsAreOne, EndsOrStops, IsCutShort, HasReadNothing, IsRun, ReachesLimit, RunsAs, StartsAnew, StopsAreOne, furthest}
use Rattle.replicate.specs.Standings.{AreKept, IsAnswered, IsSameInput}
use Rattle.replicate.specs.declared.group.Group as code
use Rattle.replicate.specs.declared.seat.Seat.{Seat}
use Rattle.replicate.specs.declared.answer.GateAnswer.{GateAnswer}
use Rattle.exterm_cli.specs.Ends.{Printing, Keeping}
use Rattle.exterm_cli.specs.Parts.{CutBy, KeepsPart, Performs, PerformsOn, Refuses, verdict_in}
use Rattle.exterm_cli.specs.Plan.{Plan, Replicates, nothing}
use Rattle.exterm_cli.specs.Refusals.{long_input}
use Rattle.exterm_cli.specs.Replicate.{group_of, limit_plan, over_status, replicate_plans, table_file, voted_plan}
use Rattle.exterm_cli.specs.Stages.{IsThePlan, LeavesInput}
use Rattle.exterm_cli.specs.Voting.{HasStopped, HasVoted, IsCut, TellsOf, VotesAs}
use Rattle.exterm_cli.specs.declared.cut.Cut.{Cut}
use Rattle.exterm_cli.specs.declared.cut.Cut.TheVariants as why
use Rattle.exterm_cli.specs.declared.cut.Stop.{Stop}
use Rattle.exterm_cli.specs.declared.report.Verdict.{Verdict}
use Rattle.exterm_cli.specs.declared.voting.Voted.{Voted}
use Rattle.exterm_cli.proofs.Cutting.{long-told}
use Rattle.exterm_cli.proofs.Files.{keeps-done}
use Rattle.exterm_cli.proofs.Known.{front-none}
use Rattle.exterm_cli.proofs.Left.{left-kept}

module _ (job : Job) (replicas : ℕ) (to : Option (List ℕ)) (input : List ℕ) (ends : EndsAreOne) (stops : StopsAreOne) (apart : EndsOrStops) where
  abbrev start : Group
  start = group_of job replicas

  -- ---- one thing

  plans-once : (p q : Plan) → replicate_plans job replicas to input p → replicate_plans job replicas to input q → p ≡ q
  plans-once p q (inl (g, over, comes, at)) (inl (h, end, also, there)) =
      let one : (g ≡ h) × (over ≡ end) = ends input start g h over end comes also in
      at ∙ ap (λ x. voted_plan to x over) one.0 ∙ ap (voted_plan to h) one.1 ∙ sym there
  plans-once p q (inl (g, over, comes, at)) (inr (h, limit, there)) = absurd (apart input start g h over comes limit)
  plans-once p q (inr (g, limit, at)) (inl (h, over, comes, there)) = absurd (apart input start h g over comes limit)
  plans-once p q (inr (g, limit, at)) (inr (h, also, there)) = at ∙ ap limit_plan (stops input start g h limit also) ∙ sym there

  pub the-vote : (plan : Plan) → replicate_plans job replicas to input plan → IsThePlan (Replicates job replicas to) input plan
  the-vote plan comes = record { comes = comes; only = λ other is. plans-once other plan is comes }

  -- ---- what is left of the input

  pub vote-left : (g : Group) (over : GateAnswer) (left : Option (List ℕ)) → ComesTo input start g over → left ≡ Some (drop (furthest g) input) → LeavesInput (Replicates job replicas to) input left
  vote-left g over left comes is = λ h end also. is ∙ ap (λ x. Some (drop (furthest x) input)) (ends input start g h over end comes also).0

  pub stop-left : (g : Group) (left : Option (List ℕ)) → ReachesLimit input start g → LeavesInput (Replicates job replicas to) input left
  stop-left g left limit = λ h end also. absurd (apart input start h g end also limit)

  -- ---- what is done

  module _ (before after : Held) (files : FileMap) where
    -- the group is over
    module _ (voted : Voted) (left : Option (List ℕ)) (files' : Option FileMap) (has : HasVoted job replicas input voted left before after) where
      abbrev g : Group
      g = has.group

      finished : (result : Result Verdict Cut) → IfOk result (TellsOf g voted) → KeepsPart (table_file to g.table) result files files' → Performs (voted_plan to g voted.over) result before after files files'
      finished (Ok verdict) tells keeps = record { status = tells.status; report = tells.report; on_out = has.shows.0; on_err = has.shows.1; keeps = keeps-done files files' (table_file to g.table) 0 (over_status voted.over) keeps }
      finished (Err why.Memory) tells keeps = record { point = Printing; out = g.out; err = g.err; printed = (([], sym (append-nil g.out)), ([], sym (append-nil g.err))); on_out = has.shows.0; on_err = has.shows.1; keeps = keeps }
      finished (Err why.File) tells keeps = record { point = Keeping; out = g.out; err = g.err; printed = (refl, refl); on_out = has.shows.0; on_err = has.shows.1; keeps = keeps }
      finished (Err why.Input) tells keeps = absurd keeps
      finished (Err why.Output) tells keeps = absurd keeps
      finished (Err why.Error) tells keeps = absurd keeps

      pub vote-finished : (result : Result Verdict Cut) → IfOk result (TellsOf g voted) → KeepsPart (table_file to g.table) result files files' → PerformsOn (Replicates job replicas to) input result before after files files'
      vote-finished result tells keeps = inl (record {
        plan = voted_plan to g voted.over;
        is = the-vote (voted_plan to g voted.over) (inl (g, voted.over, has.comes, refl));
        performs = finished result tells keeps;
      })

    -- more of the input is read than is kept
    pub vote-stopped : (stop : Stop) → Refuses long_input stop → HasStopped job replicas input before after → PerformsOn (Replicates job replicas to) input (verdict_in stop) before after files (Some files)
    vote-stopped stop is has = inl (record {
      plan = limit_plan has.group;
      is = the-vote (limit_plan has.group) (inr (has.group, has.limit, refl));
      performs = long-told before after files has.group.out has.group.err stop is has.shows.0 has.shows.1;
    })

    -- it was cut short
    pub vote-cut : (refused : RunRefusal) (cause : Cut) → CutBy refused cause → IsCut job replicas input refused before after → PerformsOn (Replicates job replicas to) input (Err cause) before after files (Some files)
    vote-cut refused.Memory why.Memory is cut = inr (record { most = cut.most; at_most = cut.at_most; cause = why.Memory; is = refl; part = record { point = Printing; out = cut.on_out.0; err = cut.on_err.0; printed = (cut.on_out.1, cut.on_err.1); on_out = cut.on_out.2; on_err = cut.on_err.2; keeps = refl }; printing = refl })
    vote-cut refused.Source why.Input is cut = inr (record { most = cut.most; at_most = cut.at_most; cause = why.Input; is = refl; part = record { point = Printing; out = cut.on_out.0; err = cut.on_err.0; printed = (cut.on_out.1, cut.on_err.1); on_out = cut.on_out.2; on_err = cut.on_err.2; keeps = refl }; printing = refl })
    vote-cut refused.Out why.Output is cut = inr (record { most = cut.most; at_most = cut.at_most; cause = why.Output; is = refl; part = record { point = Printing; out = cut.on_out.0; err = cut.on_err.0; printed = (cut.on_out.1, cut.on_err.1); on_out = cut.on_out.2; on_err = cut.on_err.2; keeps = refl }; printing = refl })
    vote-cut refused.Err why.Error is cut = inr (record { most = cut.most; at_most = cut.at_most; cause = why.Error; is = refl; part = record { point = Printing; out = cut.on_out.0; err = cut.on_err.0; printed = (cut.on_out.1, cut.on_err.1, cut.may); on_out = cut.on_out.2; on_err = cut.on_err.2; keeps = refl }; printing = refl })
    vote-cut refused cause is cut = absurd is

-- ---- a run of a group

pub no-round : (input : List ℕ) (g : Group) → Rounds input g 0 g
unfolding Rounds
no-round input g = refl

-- what the first gate prints
abbrev pub first-gate : (job : Job) (replicas : ℕ) (input : List ℕ) → Plan
first-gate job replicas input = record nothing { out = printed_at_gate 1 (gathered input (group_of job replicas)); err = printed_at_gate 2 (gathered input (group_of job replicas)) }

pub votes-nothing : (job : Job) (replicas : ℕ) (input : List ℕ) (held : Held) → IsCut job replicas input refused.Memory held held
votes-nothing job replicas input held = record {
  most = first-gate job replicas input;
  at_most = (0, group_of job replicas, no-round input (group_of job replicas), refl);
  on_out = front-none held.out (first-gate job replicas input).out;
  on_err = front-none held.err (first-gate job replicas input).err;
  may = tt;
}

-- the input that a new tape and its source tell
pub tells-all : (track : Track) (left : Option (List ℕ)) (bytes : List ℕ) → track ≡ new_tape true → left ≡ Some bytes → TellsInput bytes track left
tells-all track left bytes new is = subst (λ (t : Track). TellsInput bytes t left) (sym new) (ap (λ (o : Option (List ℕ)). prepend_known [] o) is)

-- a new group's tape has answered up to each place
places-known : (seats : List Seat) (track : Track) → AllByRecursion HasReadNothing seats → AllByRecursion (IsAnswered track) seats
places-known [] track none = tt
places-known (seat ∷ seats) track (none, rest) = (omega (arith, none), places-known seats track rest)

pub starts-kept : (group : code.Group) (track : Track) → track ≡ new_tape true → StartsAnew group → AreKept track group.seats.items
starts-kept group track new anew = subst (λ (t : Track). AreKept t group.seats.items) (sym new) (record { keep = refl; going = refl; known = places-known group.seats.items (new_tape true) anew.unread })

may-fail : (refused : RunRefusal) (out out' err err' : List ℕ) → out' ≡ out → err' ≡ err → MayFailAt refused out err → MayFailAt refused out' err'
may-fail refused.Out out out' err err' one two may = subst (λ bytes. bytes ≢ []) (sym one) may
may-fail refused.Err out out' err err' one two may = subst (λ bytes. bytes ≢ []) (sym two) may
may-fail refused.Memory out out' err err' one two may = tt
may-fail refused.Input out out' err err' one two may = tt
may-fail refused.Source out out' err err' one two may = tt

module _ (job : Job) (replicas : ℕ) (input : List ℕ) (before after : Held) where
  abbrev from : Group
  from = group_of job replicas

  -- it went to its end
  pub has-voted : (voted : Voted) (old new : Track) (left left' : Option (List ℕ)) → old ≡ new_tape true → TellsInput input old left → AreKept new voted.group.seats.items → HasAnswered (length new.kept) new.high new.keep new.refused → IsSameInput old new left left'
      → IsRun input from voted.over voted.group old new before after → HasVoted job replicas input voted left' before after
  has-voted voted old new left left' begun tells kept answered same run =
      let unread : tape.input old left ≡ Some input = tells ∙ ap (λ (t : Track). Some (drop (begins t) input)) begun in
      let there : tape.input new left' ≡ Some input = subst (λ (o : Option (List ℕ)). IfSome o (λ bytes. tape.input new left' ≡ Some bytes)) unread same in
      let none : old.high ≡ 0 = ap (λ (t : Track). t.high) begun in
      let far = run.high in
      let high : new.high ≡ furthest run.to = omega (arith, far, none) in
      record {
        group = run.to;
        comes = run.comes;
        stands = run.stands;
        left = left-kept new left' input kept.keep kept.going answered there ∙ ap (λ n. Some (drop n input)) high;
        shows = (
          subst (Appends before.out after.out) (sym run.prints.are_out) run.prints.on_out,
          subst (Appends before.err after.err) (sym run.prints.are_err) run.prints.on_err,
        );
      }

  cut-of : (refused : RunRefusal) → IsCutShort input from refused before after → IsCut job replicas input refused before after
  cut-of refused cut = record {
    most = record nothing { out = cut.at.out ++ printed_at_gate 1 (gathered input cut.at); err = cut.at.err ++ printed_at_gate 2 (gathered input cut.at) };
    at_most = (cut.rounds, cut.at, cut.are, refl);
    on_out = subst (AppendsFront before.out after.out) (sym cut.are_out) cut.on_out;
    on_err = subst (AppendsFront before.err after.err) (sym cut.are_err) cut.on_err;
    may = may-fail refused cut.out (cut.at.out ++ printed_at_gate 1 (gathered input cut.at)) cut.err (cut.at.err ++ printed_at_gate 2 (gathered input cut.at)) cut.are_out cut.are_err cut.may;
  }

  -- it was cut short
  pub votes-cut : (refused : RunRefusal) (group : code.Group) (old new : Track) (left : Option (List ℕ)) → RunsAs input from (Err refused) group old new before after → VotesAs job replicas input (Err refused) left before after
  votes-cut refused.Input group old new left run = record {
    group = run.at;
    limit = run.limit;
    shows = (
      subst (Appends before.out after.out) (sym run.prints.are_out) run.prints.on_out,
      subst (Appends before.err after.err) (sym run.prints.are_err) run.prints.on_err,
    );
  }
  votes-cut refused.Memory group old new left run = cut-of refused.Memory run
  votes-cut refused.Source group old new left run = cut-of refused.Source run
  votes-cut refused.Out group old new left run = cut-of refused.Out run
  votes-cut refused.Err group old new left run = cut-of refused.Err run
