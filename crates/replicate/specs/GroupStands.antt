-- What a group stands for, and what its gate does on the outside.
use Rattle.std.specs.Prelude.{◌≡◌, ◌≢◌, ◌≤◌, ℕ, true, List, [], Result, Ok, Err}
use Rattle.std.specs.List.{AllByRecursion}
use Rattle.std.specs.Io.KnownBytes.{Appends}
use Rattle.ex_io.specs.Causes.{AppendsFront, Rose}
use Rattle.patch_table.specs.Table.{Table}
use Rattle.rv_machine.specs.Stands.{tag_in}
use Rattle.layout_run.specs.Outside.{Faults, Held}
use Rattle.layout_run.specs.declared.ran.RunRefusal.{RunRefusal}
use Rattle.layout_run.specs.declared.ran.RunRefusal.TheVariants as why
use Rattle.replicate.specs.declared.group.Group as code
use Rattle.replicate.specs.declared.seat.Seat.{Seat}
use Rattle.replicate.specs.Gates.{live_count, printed_at_gate}
use Rattle.replicate.specs.Groups.{Group}
use Rattle.replicate.specs.Replicas.{Replica}
use Rattle.replicate.specs.Standings.{SeatsAre}

-- a live replica goes by this table
abbrev pub GoesBy : Table → Replica → Type 0
GoesBy table r = r.live ≡ true → r.flat.guest.rules.patches ≡ table

-- the programs of all seats have this tag
abbrev pub HaveTag : (tag : ℕ) → List Seat → Type 0
HaveTag tag seats = AllByRecursion (λ (seat : Seat). tag_in seat.machine ≡ tag) seats

-- the group stands for this one: its seats are the replicas, and all else is the same. What was printed stands on the sinks
pub record IsGroup (g : Group) (group : code.Group) : Type 0 where
  pub seats : SeatsAre g.budget g.replicas group.seats.items
  pub tags : HaveTag g.tag group.seats.items
  pub table : group.patches ≡ g.table
  pub tables : AllByRecursion (GoesBy g.table) g.replicas
  pub gates : group.gates ≡ g.gates
  pub retired : group.retired.items ≡ g.retired
  pub patched : group.patched.items ≡ g.patched
  pub over : group.over ≡ g.over
  -- a vote is lost before only one is left
  pub many : 2 ≤ live_count g.replicas

-- ---- a gate on the outside

-- a sink fails only at what is to be printed there
abbrev pub MayFailAt : RunRefusal → (out err : List ℕ) → Type 0
MayFailAt why.Out out err = out ≢ []
MayFailAt why.Err out err = err ≢ []
MayFailAt other out err = Unit {0}

-- these bytes are printed, or a front of them
abbrev pub Prints : {T : Type 0} → (out err : List ℕ) → Result T RunRefusal → (before after : Held) → Type 0
Prints out err (Ok done) before after = Appends before.out after.out out × Appends before.err after.err err
Prints out err (Err refused) before after = AppendsFront before.out after.out out × AppendsFront before.err after.err err × MayFailAt refused out err

-- what the gate prints, or a front of it
abbrev pub PrintsAt : {T : Type 0} → Group → Result T RunRefusal → (before after : Held) → Type 0
PrintsAt g result before after = Prints (printed_at_gate 1 g) (printed_at_gate 2 g) result before after

-- a sink's count rose where it is named, and else it stayed. A gate takes no input
abbrev pub CutsGate : {T : Type 0} → Result T RunRefusal → (before after : Faults) → Type 0
CutsGate (Ok done) before after = after ≡ before
CutsGate (Err why.Memory) before after = after ≡ before
CutsGate (Err why.Input) before after = ⊥
CutsGate (Err why.Source) before after = ⊥
CutsGate (Err why.Out) before after = (after.input ≡ before.input) × Rose before.out after.out × (after.err ≡ before.err)
CutsGate (Err why.Err) before after = (after.input ≡ before.input) × (after.out ≡ before.out) × Rose before.err after.err
