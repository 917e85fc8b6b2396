-- What a hart's steps leave, and what a machine over it then stands for.
use Rattle.std.proofs.Common.{◌≡◌, ℕ, ◌≤◌, Bool, true, false, List, Option, None, Some, Result, Ok, Err, refl, sym, subst, ap, ◌∙◌, arith}
use Rattle.std.proofs.lemmas.Bool.{true≢false}
use Rattle.std.proofs.Math.Logic.{∥∥₁_elim, ∥∥₁_map}
use Rattle.std.proofs.Props.{props}
use Rattle.std.specs.declared.alloc.AllocError.{AllocError}
use Rattle.rv_memory.specs.Memory.{IsBounded}
use Rattle.rv_memory.specs.Spaces.{memory_of}
use Rattle.rv_memory.specs.declared.space.Space.{Space}
use Rattle.infinite_heap.specs.declared.fault.FaultKind.{FaultKind}
use Rattle.infinite_heap.specs.declared.program.HeapCall.{HeapCall}
use Rattle.infinite_heap.specs.InfiniteHeap.{call_at}
use Rattle.exact_heap.specs.declared.heap.Heap.{Heap}
use Rattle.exact_heap.specs.Heaps.{StandsFor, HasHome, rules_of, calls_in, clock_in}
use Rattle.exact_heap.specs.History.{History}
use Rattle.exact_heap.specs.Laws.{MappingKeepsHome}
use Rattle.rv_machine.specs.Core.{Core, Next, Goes, Faults, Reads, Prints, Exits, Stays, filled, faulted}
use Rattle.rv_machine.specs.Guest.{Guest, with_core}
use Rattle.rv_machine.specs.HeapCalls.{Carries, heap_call, guest_next, guest_next_of, guest_next_at}
use Rattle.rv_machine.specs.Harts as hart
use Rattle.rv_machine.specs.Harts.{core_of, Keeps}
use Rattle.rv_machine.specs.Stands.{AwaitsAt, IsAt, Steps, Gives, Finishes, guest_in}
use Rattle.rv_machine.specs.Stops.{Stops, Takes}
use Rattle.rv_machine.specs.Steps.{next, next_of}
use Rattle.rv_machine.specs.declared.ended.Ended.{Ended}
use Rattle.rv_machine.specs.declared.ended.Ended.TheVariants.{Exited, Faulted, Roomed}
use Rattle.rv_machine.specs.declared.hart.Hart.{Hart}
use Rattle.rv_machine.specs.declared.machine.Machine.{Machine}
use Rattle.rv_machine.specs.declared.stop.Stop.{Stop}
use Rattle.rv_machine.specs.declared.stop.Stop.TheVariants as stop
use Rattle.rv_machine.specs.declared.stop.Waiting.{Waiting}
use Rattle.rv_machine.specs.declared.stop.Waiting.TheVariants.{Nothing, ReadBytes, WriteDone}
use Rattle.rv_machine.proofs.Onward.{Onward, Leads, leads, here, faults-on, fills}

-- ---- what a stop says, said of something else

stops-map : (A B : Core → Type 0) (V W : Waiting → Type 0) (S T : Type 0) (old : Core) (n : Next) (s : Stop) → ((core : Core) → A core → B core) → ((answer : Waiting) → V answer → W answer) → (S → T) → Stops A V S old n s → Stops B W T old n s
stops-map A B V W S T old (Goes core) stop.Going a w t h = a core h
stops-map A B V W S T old (Goes core) stop.Memory a w t h = t h
stops-map A B V W S T old (Faults kind address) (stop.Fault kind' pc address') a w t h = (h.0, h.1, h.2, a (faulted old kind address) h.3)
stops-map A B V W S T old (Reads address len) (stop.Read address' len') a w t h = (h.0, h.1, w ReadBytes h.2)
stops-map A B V W S T old (Prints fd address len bytes core) (stop.Write fd' address' len') a w t h = (h.0, h.1, h.2, h.3, h.4, w WriteDone h.5)
stops-map A B V W S T old (Exits code core) (stop.Ended code') a w t h = (h.0, a core h.1)
stops-map A B V W S T old (Stays (Exited code)) (stop.Ended code') a w t h = (h.0, a old h.1)
stops-map A B V W S T old (Stays (Faulted kind pc address)) (stop.Fault kind' pc' address') a w t h = (h.0, h.1, h.2, a old h.3)
stops-map A B V W S T old (Stays (Roomed used wanted)) (stop.Room used' wanted') a w t h = (h.0, h.1, a old h.2)
stops-map A B V W S T old n s a w t h = absurd h

-- ---- a hart's step

-- where it isn't spent, a hart is onward from an earlier one that wasn't
abbrev pub Follows : Hart → Hart → Type 0
Follows old new = new.spent ≡ false → (old.spent ≡ false) × Onward (core_of old) (core_of new)

at : (old to : Core) (new : Hart) → Onward old to → hart.IsAt to new → Onward old (core_of new)
at old to new o i = subst (Onward old) (sym i.stands) o

onward-by : (old : Core) (n : Next) (s : Stop) (new : Hart) → new.spent ≡ false → Leads old n → hart.Steps old n s new → Onward old (core_of new)
onward-by old (Goes core) stop.Going new lives l h = at old core new l h
onward-by old (Goes core) stop.Memory new lives l h = absurd (true≢false (sym h ∙ lives))
onward-by old (Faults kind address) (stop.Fault kind' pc address') new lives l h = at old (faulted old kind address) new (faults-on old kind address) h.3
onward-by old (Reads address len) (stop.Read address' len') new lives l h = subst (Onward old) (sym h.2.stands) (here old)
onward-by old (Prints fd address len bytes core) (stop.Write fd' address' len') new lives l h = subst (Onward old) (sym h.5.stands) (here old)
onward-by old (Exits code core) (stop.Ended code') new lives l h = at old core new l h.1
onward-by old (Stays (Exited code)) (stop.Ended code') new lives l h = at old old new (here old) h.1
onward-by old (Stays (Faulted kind pc address)) (stop.Fault kind' pc' address') new lives l h = at old old new (here old) h.3
onward-by old (Stays (Roomed used wanted)) (stop.Room used' wanted') new lives l h = at old old new (here old) h.2
onward-by old n s new lives l h = absurd h

pub step-follows : (old new : Hart) (s : Stop) → IsBounded (memory_of old.space) → (old.spent ≡ false → hart.Steps (core_of old) (next (core_of old)) s new) → (old.spent ≡ true → (s ≡ stop.Memory) × (new.spent ≡ true)) → Follows old new
step-follows old new s bounded step spent lives = by old.spent refl
  where
    by : (b : Bool) → old.spent ≡ b → (old.spent ≡ false) × Onward (core_of old) (core_of new)
    by false e = (e, onward-by (core_of old) (next (core_of old)) s new lives (leads (core_of old) bounded) (step e))
    by true e = absurd (true≢false (sym (spent e).1 ∙ lives))

pub fault-follows : (old new : Hart) (kind : FaultKind) (address : ℕ) (s : Stop) → old.spent ≡ false → hart.Steps (core_of old) (Faults kind address) s new → Follows old new
fault-follows old new kind address s sound step lives = (sound, onward-by (core_of old) (Faults kind address) s new lives tt step)

give-by : (old : Core) (n : Next) (waiting : Waiting) (bytes : List ℕ) (result : Result (Unit {0}) AllocError) (new : Hart) → IsBounded old.memory → new.spent ≡ false → Leads old n → Takes n waiting bytes → hart.Gives old n bytes result new → Onward old (core_of new)
give-by old (Reads address len) ReadBytes bytes (Ok done) new bounded lives l t h = at old (filled old address bytes) new (fills old address len bytes bounded l t) h
give-by old (Reads address len) Nothing bytes (Ok done) new bounded lives l t h = absurd t
give-by old (Reads address len) WriteDone bytes (Ok done) new bounded lives l t h = absurd t
give-by old n waiting bytes (Err refused) new bounded lives l t h = absurd (true≢false (sym h ∙ lives))
give-by old n waiting bytes (Ok done) new bounded lives l t h = absurd h

pub give-follows : (old new : Hart) (waiting : Waiting) (bytes : List ℕ) (result : Result (Unit {0}) AllocError) → IsBounded (memory_of old.space) → old.spent ≡ false → Takes (next (core_of old)) waiting bytes → hart.Gives (core_of old) (next (core_of old)) bytes result new → Follows old new
give-follows old new waiting bytes result bounded sound t h lives = (sound, give-by (core_of old) (next (core_of old)) waiting bytes result new bounded lives (leads (core_of old) bounded) t h)

finish-by : (old : Core) (n : Next) (new : Hart) → Leads old n → hart.Finishes n new → Onward old (core_of new)
finish-by old (Prints fd address len bytes core) new l h = at old core new l h
finish-by old n new l h = absurd h

pub finish-follows : (old new : Hart) → IsBounded (memory_of old.space) → old.spent ≡ false → hart.Finishes (next (core_of old)) new → Follows old new
finish-follows old new bounded sound h lives = (sound, finish-by (core_of old) (next (core_of old)) new (leads (core_of old) bounded) h)

-- ---- what a machine keeps

abbrev pub IsHomely : Heap → Hart → Type 0
IsHomely heap hart = ∥ (hart.spent ≡ false → HasHome heap hart.space) ∥₁

abbrev pub IsCounted : Heap → Hart → Type 0
IsCounted heap hart = hart.spent ≡ false → hart.ended ≡ None → (calls_in heap ≤ hart.steps) × (clock_in heap ≤ hart.steps)

pub homely-kept : (heap : Heap) (old new : Hart) → MappingKeepsHome → Keeps old new → Follows old new → IsHomely heap old → IsHomely heap new
homely-kept heap old new law keeps follows home =
    ∥∥₁_map home (λ (k : old.spent ≡ false → HasHome heap old.space) (e : new.spent ≡ false). let o = follows e in law heap old.space new.space (λ a lo hi. o.1.map.mapped a) (λ a lo hi. o.1.map.writable a) keeps (k o.0))

pub counted-kept : (heap : Heap) (old new : Hart) → Follows old new → IsCounted heap old → IsCounted heap new
counted-kept heap old new follows counted e n =
    let o = follows e in
    let c = counted o.0 (o.1.going n) in
    (omega (arith, c.0, o.1.steps), omega (arith, c.1, o.1.steps))

HasHome-prop : (heap : Heap) (space : Space) → IsProp (HasHome heap space)
unfolding HasHome
HasHome-prop heap space = hlevel props

-- a heap has its home while the hart isn't spent
pub home-of : (heap : Heap) (hart : Hart) → IsHomely heap hart → hart.spent ≡ false → HasHome heap hart.space
home-of heap hart home e = ∥∥₁_elim home (HasHome-prop heap hart.space) (λ (k : hart.spent ≡ false → HasHome heap hart.space). k e)

-- ---- what a machine stands for

-- what holds of the guest of each history that the heap stands for holds of each guest that the machine stands for
pub seen : (machine : Machine) (P : Guest → Type 0) → ((h : History) → StandsFor machine.heap h → P (guest_in machine h)) → (g : Guest) (answer : Waiting) → AwaitsAt g answer machine → P g
seen machine P each g answer a =
    subst (λ c. P (record { core = c; names = g.names; rules = g.rules; history = g.history })) a.core
    (subst (λ n. P (record { core = core_of machine.hart; names = n; rules = g.rules; history = g.history })) a.names
    (subst (λ r. P (record { core = core_of machine.hart; names = machine.names.items; rules = r; history = g.history })) a.rules (each g.history a.history)))

awaits-at : (old new : Machine) (h : History) (core : Core) (answer : Waiting) → new.heap ≡ old.heap → new.names ≡ old.names → StandsFor old.heap h → hart.AwaitsAt core answer new.hart → AwaitsAt (with_core (guest_in old h) core) answer new
awaits-at old new h core answer heap names stands w = record {
  core = w.stands;
  names = ap (λ v. v.items) names;
  rules = ap rules_of heap;
  history = subst (λ x. StandsFor x h) (sym heap) stands;
  waiting = w.waiting;
  sound = w.sound;
}

pub is-at : (old new : Machine) (h : History) (core : Core) → new.heap ≡ old.heap → new.names ≡ old.names → StandsFor old.heap h → hart.IsAt core new.hart → IsAt (with_core (guest_in old h) core) new
is-at old new h core heap names stands i = awaits-at old new h core Nothing heap names stands (record { stands = i.stands; waiting = i.ready; sound = i.sound })

steps-carry : (old new : Machine) (h : History) (n : Next) (s : Stop) → new.heap ≡ old.heap → new.names ≡ old.names → StandsFor old.heap h → hart.Steps (core_of old.hart) n s new.hart → Steps (guest_in old h) (Carries n) s new
steps-carry old new h n s heap names stands =
    stops-map (λ core. hart.IsAt core new.hart) (λ core. IsAt (with_core (guest_in old h) core) new) (λ answer. hart.AwaitsAt (core_of old.hart) answer new.hart) (λ answer. AwaitsAt (guest_in old h) answer new) (new.hart.spent ≡ true) (new.hart.spent ≡ true) (core_of old.hart) n s
    (λ core i. is-at old new h core heap names stands i) (λ answer w. awaits-at old new h (core_of old.hart) answer heap names stands w) (λ e. e)

gives-carry : (old new : Machine) (h : History) (n : Next) (bytes : List ℕ) (result : Result (Unit {0}) AllocError) → new.heap ≡ old.heap → new.names ≡ old.names → StandsFor old.heap h → hart.Gives (core_of old.hart) n bytes result new.hart → Gives (guest_in old h) n bytes result new
gives-carry old new h (Reads address len) bytes (Ok done) heap names stands i = is-at old new h (filled (core_of old.hart) address bytes) heap names stands i
gives-carry old new h n bytes (Err refused) heap names stands e = e
gives-carry old new h n bytes (Ok done) heap names stands e = absurd e

finishes-carry : (old new : Machine) (h : History) (n : Next) → new.heap ≡ old.heap → new.names ≡ old.names → StandsFor old.heap h → hart.Finishes n new.hart → Finishes (guest_in old h) n new
finishes-carry old new h (Prints fd address len bytes core) heap names stands i = is-at old new h core heap names stands i
finishes-carry old new h n heap names stands e = absurd e

-- ---- where there is no heap call

pub carries : (g : Guest) → (g.core.ended ≡ None → call_at g.names g.core.pc ≡ None) → guest_next g ≡ Carries (next g.core)
carries g none = by g.core.ended refl
  where
    by : (e : Option Ended) → g.core.ended ≡ e → guest_next_of g e ≡ Carries (next_of g.core e)
    by None e = ap (guest_next_at g) (none e) ∙ ap (λ x. Carries (next_of g.core x)) e
    by (Some ended) e = refl

-- ---- what a step, an answer or a write leaves of a machine

pub carried : (old new : Machine) (h : History) (s : Stop) → new.heap ≡ old.heap → new.names ≡ old.names → StandsFor old.heap h → ((core_of old.hart).ended ≡ None → call_at old.names.items (core_of old.hart).pc ≡ None) → hart.Steps (core_of old.hart) (next (core_of old.hart)) s new.hart
    → Steps (guest_in old h) (guest_next (guest_in old h)) s new
carried old new h s heap names stands none step =
    subst (λ n. Steps (guest_in old h) n s new) (sym (carries (guest_in old h) none)) (steps-carry old new h (next (core_of old.hart)) s heap names stands step)

pub given : (old new : Machine) (bytes : List ℕ) (result : Result (Unit {0}) AllocError) → new.heap ≡ old.heap → new.names ≡ old.names → hart.Gives (core_of old.hart) (next (core_of old.hart)) bytes result new.hart
    → (g : Guest) → AwaitsAt g ReadBytes old → Gives g (next g.core) bytes result new
given old new bytes result heap names gives g at =
    seen old (λ g. Gives g (next g.core) bytes result new) (λ h stands. gives-carry old new h (next (core_of old.hart)) bytes result heap names stands gives) g ReadBytes at

pub finished : (old new : Machine) → new.heap ≡ old.heap → new.names ≡ old.names → hart.Finishes (next (core_of old.hart)) new.hart → (g : Guest) → AwaitsAt g WriteDone old → Finishes g (next g.core) new
finished old new heap names finishes g at =
    seen old (λ g. Finishes g (next g.core) new) (λ h stands. finishes-carry old new h (next (core_of old.hart)) heap names stands finishes) g WriteDone at

pub stepped : (old new : Machine) (s : Stop) → (old.hart.spent ≡ false → (h : History) → StandsFor old.heap h → Steps (guest_in old h) (guest_next (guest_in old h)) s new) → (g : Guest) → IsAt g old → Steps g (guest_next g) s new
stepped old new s each g at = seen old (λ g. Steps g (guest_next g) s new) (each at.sound) g Nothing at

-- a guest that hasn't ended and is at a heap function calls it
pub called-next : (g : Guest) (function : HeapCall) → g.core.ended ≡ None → call_at g.names g.core.pc ≡ Some function → heap_call g function ≡ guest_next g
called-next g function is calls = sym (ap (guest_next_of g) is ∙ ap (guest_next_at g) calls)
