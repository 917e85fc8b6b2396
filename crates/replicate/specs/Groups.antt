-- A group of replicas, and a turn of one of them: docs/replicas.md, "Groups".
use Rattle.std.specs.Prelude.{ℕ, zero, suc, ◌-◌, if◌then◌else◌, List, [], ◌∷◌, Option, is_some, max}
use Rattle.patch_table.specs.Table.{Table}
use Rattle.replicate.specs.declared.answer.GateAnswer.{GateAnswer}
use Rattle.replicate.specs.declared.answer.Patched.{Patched}
use Rattle.replicate.specs.declared.answer.Retired.{Retired}
use Rattle.replicate.specs.Replicas.{Replica, has_arrived, onward}

pub record Group : Type 0 where
  pub replicas : List Replica
  -- the steps that each may count, and the tag of the program's file
  pub budget : ℕ
  pub tag : ℕ
  -- the table of the live ones
  pub table : Table
  -- the open gates so far
  pub gates : ℕ
  -- printed on descriptors 1 and 2
  pub out : List ℕ
  pub err : List ℕ
  pub retired : List Retired
  pub patched : List Patched
  -- how the group has ended, or that a vote was lost
  pub over : Option GateAnswer

-- ---- a turn

abbrev pub moved : (input : List ℕ) → (budget n : ℕ) → Replica → Replica
moved input budget n r = if r.live then onward input budget n r else r

-- replica i has been changed so
abbrev pub with_changed : (Replica → Replica) → ℕ → List Replica → List Replica
with_changed change i [] = []
with_changed change zero (r ∷ rs) = change r ∷ rs
with_changed change (suc i) (r ∷ rs) = r ∷ with_changed change i rs

-- replica i takes n steps, or goes to its arrival where that comes first; a group that is over stays
abbrev pub turned : (input : List ℕ) → (i n : ℕ) → Group → Group
turned input i n g = if is_some g.over then g else record g { replicas = with_changed (moved input g.budget n) i g.replicas }

-- ---- the lead

-- the steps that were counted since the last open gate
abbrev pub steps_since : Replica → ℕ
steps_since r = r.flat.guest.core.steps - r.mark.steps

-- the most of any live one
abbrev pub farthest : List Replica → ℕ
farthest [] = 0
farthest (r ∷ rs) = if r.live then max (steps_since r) (farthest rs) else farthest rs

-- how far a replica is behind that, which counts where it is live and hasn't arrived
abbrev pub behind : (budget most : ℕ) → Replica → ℕ
behind budget most r = if r.live then (if has_arrived budget r then 0 else most - steps_since r) else 0

abbrev pub most_behind : (budget most : ℕ) → List Replica → ℕ
most_behind budget most [] = 0
most_behind budget most (r ∷ rs) = max (behind budget most r) (most_behind budget most rs)

-- the greatest number of steps by which a live replica is ahead of one that hasn't arrived
abbrev pub lead_of : (budget : ℕ) → List Replica → ℕ
lead_of budget rs = most_behind budget (farthest rs) rs
