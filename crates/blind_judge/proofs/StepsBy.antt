-- What steps do where their tests are passed.
use Rattle.std.proofs.Common.{◌≡◌, ℕ, ◌+◌, ◌%◌, refl, sym, subst, eq-eqb, true, false, List, [], ◌∷◌, Ok}
use Rattle.infinite_heap.specs.Covered.{Cures, AllCovered}
use Rattle.infinite_heap.specs.declared.access.Record.{Record}
use Rattle.infinite_heap.specs.declared.access.AccessKind.TheVariants as kind
use Rattle.infinite_heap.specs.declared.instr.Op.{Op}
use Rattle.infinite_heap.specs.declared.value.Value.{Value}
use Rattle.infinite_heap.specs.declared.value.Value.TheVariants.{Num, Ptr}
use Rattle.infinite_heap.specs.InfiniteState.{InfState, InfStep, Goes, access, inf_next, inf_pass}
use Rattle.infinite_heap.specs.InfiniteStep.{inf_jump, inf_load, inf_store}
use Rattle.infinite_heap.specs.InfiniteSystem.{all_in}
use Rattle.infinite_heap.specs.Mapped.{Mapping}
use Rattle.infinite_heap.specs.Memory.{cells_from, extends_sign, get_all, put_all, store_all, value_from, width_of}
use Rattle.infinite_heap.specs.Region.{in_region}
use Rattle.blind_judge.specs.declared.progress.Progress.TheVariants as progress
use Rattle.blind_judge.specs.declared.state.State.{State}
use Rattle.blind_judge.specs.Stands.{Stands}
use Rattle.blind_judge.specs.Steps.{StepsAs}

pub stepped : (cures : Cures) (input : List ℕ) (s to : InfState) (step : InfStep) (records : List Record) (state : State)
    → step ≡ Goes to records → AllCovered cures s.objects records → Stands state to → StepsAs cures input s step (Ok progress.Going) state
stepped cures input s to step records state e covered stands = subst (λ (x : InfStep). StepsAs cures input s x (Ok progress.Going) state) (sym e) (covered, stands)

pub jump_goes : (s : InfState) (target : ℕ) (records : List Record) → target % 4 ≡ 0 → inf_jump s target records ≡ Goes (record s { pc = target; steps = s.steps + 1 }) records
jump_goes s target records whole = rw (eq-eqb (target % 4) 0 whole) refl

pub load_goes : (p : Mapping) (s : InfState) (o : Op) (rd n : ℕ) → in_region n ≡ false → n % width_of o ≡ 0 → all_in p.mapped n (width_of o) ≡ true
    → inf_load p s o rd (Num n) ≡ Goes (inf_next s rd (value_from (extends_sign o) (get_all s.flat n (width_of o)))) []
load_goes p s o rd n outside whole mapped = rw (outside, eq-eqb (n % width_of o) 0 whole, mapped) refl

pub store_goes : (p : Mapping) (s : InfState) (o : Op) (v : Value) (n : ℕ) → in_region n ≡ false → n % width_of o ≡ 0 → all_in p.writable n (width_of o) ≡ true
    → inf_store p s o v (Num n) ≡ Goes (record (inf_pass s) { flat = put_all s.flat n (cells_from (width_of o) v) }) []
store_goes p s o v n outside whole writable = rw (outside, eq-eqb (n % width_of o) 0 whole, writable) refl

pub object_store_goes : (p : Mapping) (s : InfState) (o : Op) (v : Value) (object offset : ℕ) → offset % width_of o ≡ 0
    → inf_store p s o v (Ptr object offset) ≡ Goes (record (inf_pass s) { written = store_all s.written object offset (cells_from (width_of o) v) }) (access s kind.Store object offset (width_of o) ∷ [])
object_store_goes p s o v object offset whole = rw (eq-eqb (offset % width_of o) 0 whole) refl
