-- The command `replicate`: docs/program.md, "Replicate".
use Rattle.std.specs.Prelude.{◌≡◌, ◌⊎◌, ℕ, ◌+◌, ◌&&◌, Bool, nat_le, nat_lt, List, [], ◌∷◌, ◌++◌, filter, Option, Some, None, Result, Ok, Err, codes, decimal}
use Rattle.std.specs.List.{flat_map}
use Rattle.ex_io.specs.Files.{FileMap}
use Rattle.hex_text.specs.Hex.{hex_of}
use Rattle.iterate.specs.Reruns.{Job}
use Rattle.layout_run.specs.declared.ran.Ending.{Ending}
use Rattle.layout_run.specs.declared.ran.Ending.TheVariants.{Exit, Fault, Budget, Room, Stopped}
use Rattle.patch_table.specs.Spelling.{spelling}
use Rattle.patch_table.specs.Table.{Table}
use Rattle.patch_table.specs.declared.line.Version.TheVariants.{Two}
use Rattle.replicate.specs.Gates.{printed_at_gate}
use Rattle.replicate.specs.Groups.{Group}
use Rattle.replicate.specs.Rounds.{Rounds, gathered, started}
use Rattle.replicate.specs.Runs.{ComesTo, ReachesLimit}
use Rattle.replicate.specs.declared.answer.GateAnswer.{GateAnswer}
use Rattle.replicate.specs.declared.answer.GateAnswer.TheVariants as answer
use Rattle.replicate.specs.declared.answer.Patched.{Patched}
use Rattle.replicate.specs.declared.answer.Retired.{Retired}
use Rattle.exterm_cli.specs.Accepted.{AcceptsGuest}
use Rattle.exterm_cli.specs.Plan.{Kept, Plan, Stage, Replicates, Settles, line, nothing}
use Rattle.exterm_cli.specs.Refusals.{long_input}
use Rattle.exterm_cli.specs.Report.{ending_status, fault_text}
use Rattle.exterm_cli.specs.Run.{word_named}
use Rattle.exterm_cli.specs.declared.words.GuestWords.{GuestWords}

-- ---- the report

abbrev pub at_gate : ℕ → List ℕ
at_gate gate = codes " at gate " ++ decimal gate

-- how a group ended. The address of a fault, which may be one of the heap, isn't told
abbrev pub group_ending_text : Ending → (gate : ℕ) → List ℕ
group_ending_text (Exit code) gate = codes "exit " ++ (decimal code ++ at_gate gate)
group_ending_text (Fault kind pc address) gate = codes "fault " ++ (fault_text kind ++ (codes " pc 0x" ++ (hex_of 8 pc ++ at_gate gate)))
group_ending_text Budget gate = codes "budget" ++ at_gate gate
group_ending_text (Room used wanted) gate = codes "room used " ++ (decimal used ++ (codes " wanted " ++ (decimal wanted ++ at_gate gate)))
group_ending_text Stopped gate = codes "stopped" ++ at_gate gate

abbrev pub vote_text : (largest live : ℕ) → List ℕ
vote_text largest live = codes "vote largest " ++ (decimal largest ++ (codes " live " ++ decimal live))

-- a group that isn't over isn't reported
abbrev pub over_text : GateAnswer → (gate : ℕ) → List ℕ
over_text (answer.Ended ending) gate = group_ending_text ending gate
over_text (answer.Lost largest live) gate = vote_text largest live
over_text other gate = []

abbrev pub over_status : GateAnswer → ℕ
over_status (answer.Ended ending) = ending_status ending
over_status (answer.Lost largest live) = 118
over_status other = 118

abbrev pub retired_line : Retired → List ℕ
retired_line r = line (codes "retired " ++ (decimal r.replica ++ (codes " gate " ++ decimal r.gate)))

abbrev pub patched_line : Patched → List ℕ
patched_line p = line (codes "patched gate " ++ (decimal p.gate ++ (codes " pads " ++ (decimal p.pads ++ (codes " defers " ++ decimal p.defers)))))

-- retired behind one gate, and by another
abbrev pub is_between : (after until : ℕ) → Retired → Bool
is_between after until r = nat_lt after r.gate && nat_le r.gate until

abbrev pub retired_lines : (after until : ℕ) → List Retired → List ℕ
retired_lines after until retired = flat_map retired_line (filter (is_between after until) retired)

-- who was retired and where the table was changed, in order of gates, of which there were so many; at one gate first the former
abbrev pub events_from : (after last : ℕ) → List Retired → List Patched → List ℕ
events_from after last retired [] = retired_lines after last retired
events_from after last retired (p ∷ patched) = retired_lines after p.gate retired ++ (patched_line p ++ events_from p.gate last retired patched)

-- the number of the gate that ended the group
abbrev pub last_gate : Group → ℕ
last_gate g = g.gates + 1

abbrev pub group_report : Group → GateAnswer → List ℕ
group_report g over = events_from 0 (last_gate g) g.retired g.patched ++ line (over_text over (last_gate g))

-- ---- what a group comes to

abbrev pub table_file : (to : Option (List ℕ)) → Table → Option Kept
table_file None table = None
table_file (Some name) table = Some (record { name = name; bytes = spelling Two table })

-- what was voted is printed, the table is written where a file is named, also after a lost vote, and all is reported
abbrev pub voted_plan : (to : Option (List ℕ)) → Group → GateAnswer → Plan
voted_plan to g over = record {
  status = over_status over;
  out = g.out;
  err = g.err;
  file = table_file to g.table;
  report = group_report g over;
}

-- more of the input is read than is kept: what was voted by then stays, and that is told
abbrev pub limit_plan : Group → Plan
limit_plan g = record long_input { out = g.out; err = g.err }

-- ---- on an input

abbrev pub group_of : Job → (replicas : ℕ) → Group
group_of job replicas = started job.program job.args job.settings job.budget replicas

abbrev pub ComesToVote : Job → (replicas : ℕ) → (to : Option (List ℕ)) → (input : List ℕ) → Plan → Type 0
ComesToVote job replicas to input plan = (g : Group) × (over : GateAnswer) × ComesTo input (group_of job replicas) g over × (plan ≡ voted_plan to g over)

abbrev pub ComesToReadLimit : Job → (replicas : ℕ) → (input : List ℕ) → Plan → Type 0
ComesToReadLimit job replicas input plan = (g : Group) × ReachesLimit input (group_of job replicas) g × (plan ≡ limit_plan g)

abbrev pub replicate_plans : Job → (replicas : ℕ) → (to : Option (List ℕ)) → (input : List ℕ) → Plan → Type 0
replicate_plans job replicas to input plan = ComesToVote job replicas to input plan ⊎ ComesToReadLimit job replicas input plan

-- what was voted by some gate, and what the next one prints
abbrev pub gates_print : Job → (replicas : ℕ) → (input : List ℕ) → Plan → Type 0
gates_print job replicas input plan =
    (n : ℕ) × (g : Group) × Rounds input (group_of job replicas) n g
    × (plan ≡ record nothing { out = g.out ++ printed_at_gate 1 (gathered input g); err = g.err ++ printed_at_gate 2 (gathered input g) })

-- ---- what the words lead to

abbrev pub replicating : (replicas : ℕ) → (to : Option (List ℕ)) → Result Job Plan → Stage
replicating replicas to (Ok job) = Replicates job replicas to
replicating replicas to (Err plan) = Settles plan

-- Into how many turns the replicas' steps are cut makes no difference.
abbrev pub LeadsReplicate : List (List ℕ) → FileMap → GuestWords → (replicas : ℕ) → (to : Option ℕ) → Stage → Type 0
LeadsReplicate words files g replicas to stage = (accepted : Result Job Plan) × AcceptsGuest words files g accepted × (stage ≡ replicating replicas (word_named words to) accepted)
