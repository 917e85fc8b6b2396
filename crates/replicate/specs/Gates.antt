-- What a gate makes of a group: docs/replicas.md, "Gates".
use Rattle.std.specs.Prelude.{◌≡◌, ◌≢◌, ◌⊎◌, ℕ, suc, ◌+◌, ◌==◌, ◌&&◌, not, Bool, true, false, nat_lt, if◌then◌else◌, List, [], ◌∷◌, ◌++◌, map, length, filter, Option, Some, None}
use Rattle.culprits.specs.declared.isolated.Isolated.{Isolated}
use Rattle.culprits.specs.Isolated.{IsIsolatedFrom}
use Rattle.patch_table.specs.Table.{Table}
use Rattle.exact_heap.specs.declared.signal.Place.TheVariants.{Call}
use Rattle.rv_machine.specs.Flat.{Flat, after_step, with_guest}
use Rattle.rv_machine.specs.Guest.{with_patches}
use Rattle.rv_machine.specs.HeapCalls.{guest_next}
use Rattle.heap_image.specs.Agreement.{AreComparable, AreMixed}
use Rattle.heap_image.specs.Snapshot.{Snapshot}
use Rattle.heap_image.specs.Taken.{image_of_guest}
use Rattle.overflow_isolator.specs.Overflows.{AreOverflowsOf, AreUnderflowsOf}
use Rattle.dangling_isolator.specs.Danglings.{AreDanglings}
use Rattle.layout_run.specs.Whole.{ended_as}
use Rattle.replicate.specs.declared.answer.GateAnswer.{GateAnswer}
use Rattle.replicate.specs.declared.answer.GateAnswer.TheVariants as answer
use Rattle.replicate.specs.declared.answer.Patched.{Patched}
use Rattle.replicate.specs.declared.answer.Retired.{Retired}
use Rattle.replicate.specs.declared.arrival.Arrival.{Arrival}
use Rattle.replicate.specs.declared.arrival.Arrival.TheVariants as at
use Rattle.replicate.specs.Groups.{Group}
use Rattle.replicate.specs.Replicas.{Replica, has_arrived, mark_of}
use Rattle.replicate.specs.Votes.{is_for, largest_of, vote_of, winner_of}

-- ---- the vote

abbrev pub votes_of : Group → List (Option Arrival)
votes_of g = map (vote_of g.budget) g.replicas

abbrev pub live_count : List Replica → ℕ
live_count [] = 0
live_count (r ∷ rs) = if r.live then suc (live_count rs) else live_count rs

-- the first live replica that hasn't arrived, counted from i on
abbrev pub missing_from : (budget i : ℕ) → List Replica → Option ℕ
missing_from budget i [] = None
missing_from budget i (r ∷ rs) = if r.live && not (has_arrived budget r) then Some i else missing_from budget (i + 1) rs

-- the arrival that has won
abbrev pub won : Group → Option Arrival
won g = winner_of (live_count g.replicas) (votes_of g) (votes_of g)

-- this replica is live and has come to it
abbrev pub wins : (budget : ℕ) → Arrival → Replica → Bool
wins budget a r = is_for a (vote_of budget r)

-- ---- those that lose are retired

abbrev pub loses : (budget : ℕ) → Arrival → Replica → Bool
loses budget a r = r.live && not (wins budget a r)

abbrev pub losers_from : (budget : ℕ) → Arrival → (gate i : ℕ) → List Replica → List Retired
losers_from budget a gate i [] = []
losers_from budget a gate i (r ∷ rs) =
    if loses budget a r then record { replica = i; gate = gate } ∷ losers_from budget a gate (i + 1) rs
    else losers_from budget a gate (i + 1) rs

-- ---- those that win go on from there

-- a write is made. No input is read
abbrev pub written : Replica → Flat
written r = if r.waits then after_step [] r.flat (guest_next r.flat.guest) else r.flat

-- it goes by this table from now on, and what it is compared by is counted from here on
abbrev pub gone_on : Table → Flat → Replica
gone_on table flat = record { flat = with_guest flat (with_patches flat.guest table); waits = false; live = true; mark = mark_of flat }

abbrev pub settled_by : (is_winner : Bool) → Table → Replica → Replica
settled_by is_winner table r = if is_winner then gone_on table (written r) else record r { live = false }

-- what becomes of a replica at a gate that `a` has won
abbrev pub passed : (budget : ℕ) → Arrival → Table → Replica → Replica
passed budget a table r = settled_by (wins budget a r) table r

-- ---- what is printed, once

abbrev pub shown_on : (descriptor : ℕ) → Option Arrival → List ℕ
shown_on descriptor (Some (at.Write fd bytes)) = if fd == descriptor then bytes else []
shown_on descriptor a = []

-- ---- what the winners' images call for

-- a replica has signalled since the last open gate
abbrev pub has_signalled : Replica → Bool
has_signalled r = nat_lt r.mark.signals (length r.flat.guest.history.signals)

abbrev pub any_signalled : List Replica → Bool
any_signalled [] = false
any_signalled (r ∷ rs) = if has_signalled r then true else any_signalled rs

abbrev pub winners : (budget : ℕ) → Arrival → List Replica → List Replica
winners budget a rs = filter (wins budget a) rs

-- the image of a replica after the heap calls that it has made
abbrev pub image_of : (tag : ℕ) → Replica → Snapshot
image_of tag r = image_of_guest tag (Call r.flat.guest.history.calls) r.flat.guest

-- a table with the list of gates that changed it
pub record Cured : Type 0 where
  pub table : Table
  pub patched : List Patched

-- a gate that changes the table is listed
abbrev pub IsListed : (gate : ℕ) → Isolated → (old new : Cured) → Type 0
IsListed gate isolated old new =
    ((isolated.patches ≡ old.table) × (new.patched ≡ old.patched)) ⊎ ((isolated.patches ≢ old.table) × (new.patched ≡ old.patched ++ record { gate = gate; pads = isolated.pads; defers = isolated.defers } ∷ []))

-- images that were comparable call for these patches
pub record IsJoinedAt (gate : ℕ) (images : List Snapshot) (old new : Cured) : Type 0 where
  pub isolated : Isolated
  pub comparable : AreComparable images
  pub found : IsIsolatedFrom (AreOverflowsOf images) (AreUnderflowsOf images) (AreDanglings images) old.table isolated
  pub table : new.table ≡ isolated.patches
  pub listed : IsListed gate isolated old new

-- Images that can't be compared change nothing.
abbrev pub CuresBy : (gate : ℕ) → (images : List Snapshot) → (old new : Cured) → Type 0
CuresBy gate images old new = (AreMixed images × (new ≡ old)) ⊎ IsJoinedAt gate images old new

-- no image is taken where none of these replicas has signalled
abbrev pub CuresWhere : (has_signal : Bool) → (gate : ℕ) → (images : List Snapshot) → (old new : Cured) → Type 0
CuresWhere false gate images old new = new ≡ old
CuresWhere true gate images old new = CuresBy gate images old new

-- ---- the gate

-- how the group has ended, where the winners have
abbrev pub end_at : Arrival → List Replica → Option GateAnswer
end_at (at.Write fd bytes) rs = None
end_at at.Clock rs = None
end_at a [] = None
end_at a (r ∷ rs) = Some (answer.Ended (ended_as r.flat.guest.core.ended))

abbrev pub answer_of : Option GateAnswer → GateAnswer
answer_of None = answer.Passed
answer_of (Some over) = over

-- the gates that are open, with this one where the group goes on
abbrev pub counted_gates : Option GateAnswer → ℕ → ℕ
counted_gates None gates = gates + 1
counted_gates (Some over) gates = gates

abbrev pub cured_in : Group → Cured
cured_in g = record { table = g.table; patched = g.patched }

-- the group after a gate that `a` has won, with the table that comes of the winners' images
abbrev pub opened : Group → Arrival → Cured → Group
opened g a cured = record g {
  replicas = map (passed g.budget a cured.table) g.replicas;
  table = cured.table;
  gates = counted_gates (end_at a (winners g.budget a g.replicas)) g.gates;
  out = g.out ++ shown_on 1 (Some a);
  err = g.err ++ shown_on 2 (Some a);
  retired = g.retired ++ losers_from g.budget a (g.gates + 1) 0 g.replicas;
  patched = cured.patched;
  over = end_at a (winners g.budget a g.replicas);
}

-- at most half of the live ones have come to the same
abbrev pub lost : Group → GateAnswer
lost g = answer.Lost (largest_of (votes_of g) (votes_of g)) (live_count g.replicas)

pub record IsOpened (g : Group) (a : Arrival) (got : GateAnswer) (to : Group) : Type 0 where
  pub cured : Cured
  pub cures : CuresWhere (any_signalled (winners g.budget a g.replicas)) (g.gates + 1) (map (image_of g.tag) (winners g.budget a g.replicas)) (cured_in g) cured
  pub is : to ≡ opened g a cured
  pub answer : got ≡ answer_of (end_at a (winners g.budget a g.replicas))

abbrev pub DecidesBy : Option Arrival → Group → (got : GateAnswer) → (to : Group) → Type 0
DecidesBy None g got to = (got ≡ lost g) × (to ≡ record g { over = Some (lost g) })
DecidesBy (Some a) g got to = IsOpened g a got to

abbrev pub WaitsOrDecides : (missing : Option ℕ) → Group → (got : GateAnswer) → (to : Group) → Type 0
WaitsOrDecides (Some i) g got to = (got ≡ answer.Waiting i) × (to ≡ g)
WaitsOrDecides None g got to = DecidesBy (won g) g got to

abbrev pub GatesFrom : (over : Option GateAnswer) → Group → (got : GateAnswer) → (to : Group) → Type 0
GatesFrom (Some over) g got to = (got ≡ over) × (to ≡ g)
GatesFrom None g got to = WaitsOrDecides (missing_from g.budget 0 g.replicas) g got to

-- What a gate answers, and the group that it leaves. A group that is over answers the same again, and one that waits for a
-- replica stays as it is.
abbrev pub Gates : Group → (got : GateAnswer) → (to : Group) → Type 0
Gates g got to = GatesFrom g.over g got to

-- what a gate prints on a descriptor
abbrev pub prints_where : (descriptor : ℕ) → (over : Option GateAnswer) → (missing : Option ℕ) → Option Arrival → List ℕ
prints_where descriptor None None a = shown_on descriptor a
prints_where descriptor over missing a = []

abbrev pub printed_at_gate : (descriptor : ℕ) → Group → List ℕ
printed_at_gate descriptor g = prints_where descriptor g.over (missing_from g.budget 0 g.replicas) (won g)
