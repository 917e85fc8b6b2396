-- What the parts of the command `replicate` do.
use Rattle.std.specs.Prelude.{◌≡◌, ℕ, List, drop, Option, Some, Result, Ok, Err, string_bytes}
use Rattle.std.specs.Io.KnownBytes.{Appends}
use Rattle.ex_io.specs.Causes.{AppendsFront}
use Rattle.iterate.specs.Reruns.{Job}
use Rattle.layout_run.specs.Outside.{Held}
use Rattle.layout_run.specs.declared.ran.RunRefusal.{RunRefusal}
use Rattle.layout_run.specs.declared.ran.RunRefusal.TheVariants as refused
use Rattle.replicate.specs.GroupStands.{IsGroup, MayFailAt}
use Rattle.replicate.specs.Groups.{Group}
use Rattle.replicate.specs.Runs.{ComesTo, ReachesLimit, furthest}
use Rattle.exterm_cli.specs.Plan.{Plan}
use Rattle.exterm_cli.specs.Replicate.{gates_print, group_of, group_report, over_status}
use Rattle.exterm_cli.specs.declared.report.Verdict.{Verdict}
use Rattle.exterm_cli.specs.declared.voting.Voted.{Voted}

-- all that a group has voted stands on the sinks
abbrev pub Shows : Group → (before after : Held) → Type 0
Shows g before after = Appends before.out after.out g.out × Appends before.err after.err g.err

-- the replicas have voted to an end, and the input was read up to the furthest of them
pub record HasVoted (job : Job) (replicas : ℕ) (input : List ℕ) (voted : Voted) (rest : Option (List ℕ)) (before after : Held) : Type 0 where
  pub group : Group
  pub comes : ComesTo input (group_of job replicas) group voted.over
  pub stands : IsGroup group voted.group
  pub left : rest ≡ Some (drop (furthest group) input)
  pub shows : Shows group before after

pub record HasStopped (job : Job) (replicas : ℕ) (input : List ℕ) (before after : Held) : Type 0 where
  pub group : Group
  pub limit : ReachesLimit input (group_of job replicas) group
  pub shows : Shows group before after

pub record IsCut (job : Job) (replicas : ℕ) (input : List ℕ) (why : RunRefusal) (before after : Held) : Type 0 where
  pub most : Plan
  pub at_most : gates_print job replicas input most
  pub on_out : AppendsFront before.out after.out most.out
  pub on_err : AppendsFront before.err after.err most.err
  pub may : MayFailAt why most.out most.err

abbrev pub VotesAs : Job → (replicas : ℕ) → (input : List ℕ) → Result Voted RunRefusal → (left : Option (List ℕ)) → (before after : Held) → Type 0
VotesAs job replicas input (Ok voted) left before after = HasVoted job replicas input voted left before after
VotesAs job replicas input (Err refused.Input) left before after = HasStopped job replicas input before after
VotesAs job replicas input (Err why) left before after = IsCut job replicas input why before after

-- what is told of a group
pub record TellsOf (g : Group) (voted : Voted) (verdict : Verdict) : Type 0 where
  pub status : verdict.status ≡ over_status voted.over
  pub report : string_bytes verdict.report ≡ group_report g voted.over
