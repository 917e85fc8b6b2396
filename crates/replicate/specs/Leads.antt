-- How far replicas get ahead of one that hasn't come to the gate: docs/replicas.md, "The lead".
use Rattle.std.specs.Prelude.{ℕ, zero, suc, ◌+◌, ◌≤◌, List, length}
use Rattle.std.specs.List.{AllByRecursion}
use Rattle.infinite_heap.specs.Loaded.{Loaded}
use Rattle.rv_machine.specs.declared.settings.Settings.{Settings}
use Rattle.replicate.specs.declared.answer.GateAnswer.{GateAnswer}
use Rattle.replicate.specs.Gates.{Gates}
use Rattle.replicate.specs.Groups.{Group, lead_of, turned}
use Rattle.replicate.specs.Replicas.{Replica}
use Rattle.replicate.specs.Rounds.{WaitForWrites, started}

-- a replica's last gate is behind it
abbrev pub IsMarkedBehind : Replica → Type 0
IsMarkedBehind r = r.mark.steps ≤ r.flat.guest.core.steps

-- no replica is further than that ahead of one that hasn't arrived
pub record LeadsWithin (lead : ℕ) (g : Group) : Type 0 where
  pub waits : WaitForWrites g
  pub marks : AllByRecursion IsMarkedBehind g.replicas
  pub within : lead_of g.budget g.replicas ≤ lead

-- so many replicas have had a turn of n steps, one after the other
abbrev pub in_turn : (input : List ℕ) → (n : ℕ) → (count : ℕ) → Group → Group
in_turn input n zero g = g
in_turn input n (suc count) g = turned input count n (in_turn input n count g)

-- A new group has no lead.
abbrev pub StartsWithoutLead : Type 0
StartsWithoutLead = (program : Loaded) (args : List (List ℕ)) (settings : Settings) (budget count : ℕ) → LeadsWithin 0 (started program args settings budget count)

-- Turns of n steps, one after the other, raise the lead by n at most,
abbrev pub TurnsKeepTheLead : Type 0
TurnsKeepTheLead = (input : List ℕ) (n count lead : ℕ) (g : Group) → LeadsWithin lead g → LeadsWithin (lead + n) (in_turn input n count g)

-- and it is what it was when each replica has had one.
abbrev pub CyclesKeepTheLead : Type 0
CyclesKeepTheLead = (input : List ℕ) (n count lead : ℕ) (g : Group) → length g.replicas ≤ count → LeadsWithin lead g → LeadsWithin lead (in_turn input n count g)

-- A gate doesn't raise it.
abbrev pub GatesKeepTheLead : Type 0
GatesKeepTheLead = (g : Group) (got : GateAnswer) (to : Group) (lead : ℕ) → LeadsWithin lead g → Gates g got to → LeadsWithin lead to
