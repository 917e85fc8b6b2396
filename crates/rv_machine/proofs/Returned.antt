-- What a heap call leaves of a machine.
use Rattle.std.proofs.Common.{◌≡◌, ℕ, false, Result, Ok, Err, refl, sym, subst, ap, ◌∙◌}
use Rattle.rv_memory.specs.Memory.{Memory}
use Rattle.rv_memory.specs.Spaces.{memory_of}
use Rattle.rv_memory.specs.declared.space.Space.{Space}
use Rattle.exact_heap.specs.declared.heap.Heap.{Heap}
use Rattle.exact_heap.specs.declared.signal.HeapRefusal.{HeapRefusal}
use Rattle.exact_heap.specs.declared.signal.HeapRefusal.TheVariants.{Room, Memory as NoMemory}
use Rattle.exact_heap.specs.Heaps.{HasHome, Leaves, Answers}
use Rattle.exact_heap.specs.History.{History}
use Rattle.exact_heap.specs.Placing.{HeapState, Outcome}
use Rattle.rv_machine.specs.Core.{Core}
use Rattle.rv_machine.specs.Guest.{with_core, with_heap}
use Rattle.rv_machine.specs.HeapCalls.{back_to, back_with, roomed, answered, answers, frees}
use Rattle.rv_machine.specs.Harts as hart
use Rattle.rv_machine.specs.Harts.{core_of, Comes}
use Rattle.rv_machine.specs.Stands.{IsAt, Steps, guest_in, rules_in}
use Rattle.rv_machine.specs.declared.hart.Hart.{Hart}
use Rattle.rv_machine.specs.declared.machine.Machine.{Machine}
use Rattle.rv_machine.specs.declared.stop.Stop.{Stop}
use Rattle.rv_machine.specs.declared.stop.Stop.TheVariants as stop

-- the core that a heap call leaves, before it returns
abbrev pub moved : Core → Space → Core
moved core space = record core { memory = memory_of space }

returned : (old new : Machine) (h : History) (s : HeapState) (space : Space) (to : Core → Core) → rules_in new ≡ rules_in old → new.names ≡ old.names → Leaves s new.heap space → hart.IsAt (to (moved (core_of old.hart) space)) new.hart
    → IsAt (with_core (with_heap (guest_in old h) s) (to (with_heap (guest_in old h) s).core)) new
returned old new h s space to rules names leaves i = record {
  core = i.stands ∙ ap (λ (m : Memory). to (record (core_of old.hart) { memory = m })) leaves.memory;
  names = ap (λ v. v.items) names;
  rules = rules;
  history = leaves.stands;
  waiting = i.ready;
  sound = i.sound;
}

pub answers-call : (old new : Machine) (h : History) (back : ℕ) (outcome : Outcome) (answer : Result ℕ HeapRefusal) (space : Space) (s : Stop) → rules_in new ≡ rules_in old → new.names ≡ old.names → Answers outcome answer new.heap space → Comes (moved (core_of old.hart) space) back answer s new.hart
    → Steps (guest_in old h) (answers (guest_in old h) back outcome) s new
answers-call old new h back outcome (Ok address) space s rules names a c =
    subst (λ r. Steps (guest_in old h) (answered (guest_in old h) back outcome.state r) s new) (sym a.0)
    (subst (λ t. Steps (guest_in old h) (answered (guest_in old h) back outcome.state (Ok address)) t new) (sym c.0)
    (returned old new h outcome.state space (back_with back address) rules names a.1 c.1))
answers-call old new h back outcome (Err (Room used wanted)) space s rules names a c =
    subst (λ r. Steps (guest_in old h) (answered (guest_in old h) back outcome.state r) s new) (sym a.0)
    (subst (λ t. Steps (guest_in old h) (answered (guest_in old h) back outcome.state (Err (Room used wanted))) t new) (sym c.0)
    (refl, refl, returned old new h outcome.state space (roomed used wanted) rules names a.1 c.1))
answers-call old new h back outcome (Err NoMemory) space s rules names a c =
    subst (λ t. Steps (guest_in old h) (answers (guest_in old h) back outcome) t new) (sym c.0) (spent outcome.answer)
  where
    spent : (r : Result ℕ HeapRefusal) → Steps (guest_in old h) (answered (guest_in old h) back outcome.state r) stop.Memory new
    spent (Ok address) = c.1
    spent (Err (Room used wanted)) = c.1
    spent (Err NoMemory) = c.1

pub frees-call : (old new : Machine) (h : History) (back : ℕ) (s : HeapState) (space : Space) → rules_in new ≡ rules_in old → new.names ≡ old.names → Leaves s new.heap space → hart.IsAt (back_to back (moved (core_of old.hart) space)) new.hart
    → Steps (guest_in old h) (frees (guest_in old h) back s) stop.Going new
frees-call old new h back s space rules names leaves i = returned old new h s space (back_to back) rules names leaves i

-- where the heap has its home in the memory that a call leaves, it has it in the hart's
pub kept-home : (heap : Heap) (hart : Hart) (space : Space) → hart.space ≡ space → HasHome heap space → ∥ (hart.spent ≡ false → HasHome heap hart.space) ∥₁
kept-home heap hart space same home = ∣ (λ (e : hart.spent ≡ false). subst (HasHome heap) (sym same) home) ∣₁
