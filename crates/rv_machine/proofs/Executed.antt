-- What carrying out an instruction leaves of a hart, of the step that it is part of, and of the machine over it.
use Rattle.std.proofs.Common.{◌≡◌, ℕ, ◌+◌, true, false, None, refl, sym, subst, ap, ◌∙◌, add-one}
use Rattle.rv_memory.specs.Memory.{IsBounded, span, code_at}
use Rattle.rv_memory.specs.Spaces.{memory_of}
use Rattle.infinite_heap.specs.declared.fault.FaultKind.{FaultKind}
use Rattle.infinite_heap.specs.InfiniteHeap.{call_at}
use Rattle.exact_heap.specs.Heaps.{StandsFor}
use Rattle.exact_heap.specs.History.{History}
use Rattle.rv_machine.specs.Core.{Core, Next, Goes, Faults, Reads, Prints, Exits, Stays, register}
use Rattle.rv_machine.specs.Going.{GoesOn, HasGone, Went}
use Rattle.rv_machine.specs.Guest.{Guest, with_core}
use Rattle.rv_machine.specs.HeapCalls.{GuestNext, Carries, Returns, Lacks, guest_next}
use Rattle.rv_machine.specs.Harts as hart
use Rattle.rv_machine.specs.Harts.{core_of, Executes}
use Rattle.rv_machine.specs.Shape.{IsShaped}
use Rattle.rv_machine.specs.Stands.{IsAt, IsReady, guest_in}
use Rattle.rv_machine.specs.Steps.{ecall, fetched, next, next_of}
use Rattle.rv_machine.specs.declared.hart.Hart.{Hart}
use Rattle.rv_machine.specs.declared.machine.Machine.{Machine}
use Rattle.rv_machine.specs.declared.outcome.Outcome.{Outcome}
use Rattle.rv_machine.specs.declared.outcome.Outcome.TheVariants as outcome
use Rattle.rv_machine.specs.declared.stop.Stop.{Stop}
use Rattle.rv_machine.specs.declared.stop.Stop.TheVariants as stop
use Rattle.rv_machine.specs.declared.stop.Waiting.TheVariants.{Nothing}
use Rattle.rv_machine.proofs.Carried.{Follows, carries, is-at, seen}
use Rattle.rv_machine.proofs.Onward.{Onward, Leads, leads, here}
use Rattle.rv_machine.proofs.Shaped.{shaped}

-- the next step of a guest that hasn't ended
pub next-going : (core : Core) → core.ended ≡ None → next core ≡ fetched core (span (code_at core.memory) core.pc 4)
next-going core is = ap (next_of core) is

-- ---- what the step stops with

pub stops-going : (old : Core) (n : Next) (new : Hart) → Executes old n outcome.Going new → hart.Steps old n stop.Going new
stops-going old (Goes core) new did = did
stops-going old n new did = absurd did

pub stops-memory : (old : Core) (n : Next) (mid new : Hart) → Executes old n outcome.Memory mid → new.spent ≡ true → hart.Steps old n stop.Memory new
stops-memory old (Goes core) mid new did spent = spent
stops-memory old n mid new did spent = absurd did

pub stops-fault : (old : Core) (n : Next) (mid new : Hart) (kind : FaultKind) (address : ℕ) (s : Stop) → Executes old n (outcome.Fault kind address) mid → hart.Steps (core_of mid) (Faults kind address) s new → hart.Steps old n s new
stops-fault old (Faults kind' address') mid new kind address s did stops =
    subst (λ c. hart.Steps c (Faults kind' address') s new) did.2.stands
    (subst (λ k. hart.Steps (core_of mid) (Faults k address') s new) did.0 (subst (λ a. hart.Steps (core_of mid) (Faults kind a) s new) did.1 stops))
stops-fault old n mid new kind address s did stops = absurd did

calls-at : (old : Core) (n : Next) (mid new : Hart) (s : Stop) → n ≡ ecall old (register old 17) → hart.IsAt old mid → hart.Steps (core_of mid) (ecall (core_of mid) (register (core_of mid) 17)) s new → hart.Steps old n s new
calls-at old n mid new s is at stops =
    subst (λ m. hart.Steps old m s new) (sym is) (subst (λ c. hart.Steps c (ecall c (register c 17)) s new) at.stands stops)

pub stops-call : (old : Core) (n : Next) (mid new : Hart) (s : Stop) → Executes old n outcome.Call mid → hart.Steps (core_of mid) (ecall (core_of mid) (register (core_of mid) 17)) s new → hart.Steps old n s new
stops-call old (Goes core) mid new s did stops = calls-at old (Goes core) mid new s did.0 did.1 stops
stops-call old (Faults kind address) mid new s did stops = calls-at old (Faults kind address) mid new s did.0 did.1 stops
stops-call old (Reads address len) mid new s did stops = calls-at old (Reads address len) mid new s did.0 did.1 stops
stops-call old (Prints fd address len bytes core) mid new s did stops = calls-at old (Prints fd address len bytes core) mid new s did.0 did.1 stops
stops-call old (Exits code core) mid new s did stops = calls-at old (Exits code core) mid new s did.0 did.1 stops
stops-call old (Stays ended) mid new s did stops = calls-at old (Stays ended) mid new s did.0 did.1 stops

-- ---- a hart where the instruction doesn't go on

pub kept-fault : (old : Core) (n : Next) (kind : FaultKind) (address : ℕ) (new : Hart) → Executes old n (outcome.Fault kind address) new → hart.IsAt old new
kept-fault old (Faults kind' address') kind address new did = did.2
kept-fault old n kind address new did = absurd did

pub kept-memory : (old : Core) (n : Next) (new : Hart) → Executes old n outcome.Memory new → hart.IsAt old new
kept-memory old (Goes core) new did = did
kept-memory old n new did = absurd did

pub kept-call : (old : Core) (n : Next) (new : Hart) → Executes old n outcome.Call new → hart.IsAt old new
kept-call old (Goes core) new did = did.1
kept-call old (Faults kind address) new did = did.1
kept-call old (Reads address len) new did = did.1
kept-call old (Prints fd address len bytes core) new did = did.1
kept-call old (Exits code core) new did = did.1
kept-call old (Stays ended) new did = did.1

pub kept-other : (old : Core) (n : Next) (o : Outcome) (new : Hart) → ¬ (o ≡ outcome.Going) → Executes old n o new → hart.IsAt old new
kept-other old n outcome.Going new not did = absurd (not refl)
kept-other old n (outcome.Fault kind address) new not did = kept-fault old n kind address new did
kept-other old n outcome.Call new not did = kept-call old n new did
kept-other old n outcome.Memory new not did = kept-memory old n new did

-- a hart stands for what it stands for
pub self-at : (core : Core) (new : Hart) → hart.IsAt core new → hart.IsAt (core_of new) new
self-at core new i = record { stands = refl; ready = i.ready; sound = i.sound }

pub went-on : (old : Core) (n : Next) (new : Hart) → Executes old n outcome.Going new → (core : Core) × (n ≡ Goes core) × hart.IsAt core new
went-on old (Goes core) new did = (core, refl, did)
went-on old n new did = absurd did

onward-at : (old core : Core) (new : Hart) → Onward old core → hart.IsAt core new → Onward old (core_of new)
onward-at old core new o at = subst (Onward old) (sym at.stands) o

onward-of : (old : Core) (n : Next) (o : Outcome) (new : Hart) → Leads old n → Executes old n o new → Onward old (core_of new)
onward-of old n outcome.Going new leads did =
    let went = went-on old n new did in
    onward-at old went.0 new (subst (Leads old) went.1 leads) went.2
onward-of old n (outcome.Fault kind address) new leads did = onward-at old old new (here old) (kept-fault old n kind address new did)
onward-of old n outcome.Call new leads did = onward-at old old new (here old) (kept-call old n new did)
onward-of old n outcome.Memory new leads did = onward-at old old new (here old) (kept-memory old n new did)

pub go-follows : (old new : Hart) (o : Outcome) → IsBounded (memory_of old.space) → old.spent ≡ false → Executes (core_of old) (next (core_of old)) o new → Follows old new
go-follows old new o bounded sound did lives = (sound, onward-of (core_of old) (next (core_of old)) o new (leads (core_of old) bounded) did)

-- ---- the machine

-- it went on
went-in : (old new : Machine) (h : History) (n : Next) → new.heap ≡ old.heap → new.names ≡ old.names → StandsFor old.heap h → Executes (core_of old.hart) n outcome.Going new.hart → Went (guest_in old h) (Carries n) new
went-in old new h (Goes core) heap names stands did = is-at old new h core heap names stands did
went-in old new h n heap names stands did = absurd did

pub went : (old new : Machine) → new.heap ≡ old.heap → new.names ≡ old.names → call_at old.names.items (core_of old.hart).pc ≡ None → Executes (core_of old.hart) (next (core_of old.hart)) outcome.Going new.hart → (g : Guest) → IsAt g old → Went g (guest_next g) new
went old new heap names nameless did g at =
    seen old (λ g. Went g (guest_next g) new)
    (λ h stands. subst (λ n. Went (guest_in old h) n new) (sym (carries (guest_in old h) (λ e. nameless))) (went-in old new h (next (core_of old.hart)) heap names stands did)) g Nothing at

-- it is as it was
pub kept : (old new : Machine) → new.heap ≡ old.heap → new.names ≡ old.names → hart.IsAt (core_of old.hart) new.hart → (g : Guest) → IsAt g old → IsAt g new
kept old new heap names i g at = seen old (λ g. IsAt g new) (λ h stands. is-at old new h (core_of old.hart) heap names stands i) g Nothing at

pub ready-kept : (old new : Machine) → IsReady old → hart.IsAt (core_of old.hart) new.hart → IsReady new
ready-kept old new ready i = record { ready = i.ready; sound = i.sound; going = ap (λ (c : Core). c.ended) i.stands ∙ ready.going }

pub ready-on : (old new : Machine) → IsReady old → Executes (core_of old.hart) (next (core_of old.hart)) outcome.Going new.hart → IsReady new
ready-on old new ready did =
    let core = core_of old.hart in
    let went = went-on core (next core) new.hart did in
    let same : went.0.ended ≡ core.ended = subst (IsShaped core) went.1 (shaped core) in
    record { ready = went.2.ready; sound = went.2.sound; going = ap (λ (c : Core). c.ended) went.2.stands ∙ same ∙ ready.going }

-- ---- one more instruction

went-core : (g : Guest) (n : GuestNext) (machine : Machine) → Went g n machine → (core : Core) × (n ≡ Carries (Goes core)) × IsAt (with_core g core) machine
went-core g (Carries (Goes core)) machine w = (core, refl, w)
went-core g (Carries (Faults kind address)) machine w = absurd w
went-core g (Carries (Reads address len)) machine w = absurd w
went-core g (Carries (Prints fd address len bytes core)) machine w = absurd w
went-core g (Carries (Exits code core)) machine w = absurd w
went-core g (Carries (Stays ended)) machine w = absurd w
went-core g (Returns to) machine w = absurd w
went-core g (Lacks used wanted to) machine w = absurd w

goes-more : (g : Guest) (n : ℕ) (before core : Core) → GoesOn n g before → guest_next (with_core g before) ≡ Carries (Goes core) → GoesOn (n + 1) g core
unfolding GoesOn
goes-more g n before core goes is = rw add-one (before, goes, is)

pub none-gone : (g : Guest) (machine : Machine) → IsAt g machine → HasGone g 0 machine
unfolding GoesOn
none-gone g machine at = record { core = g.core; goes = refl; at = at }

pub gone-more : (g : Guest) (n : ℕ) (old new : Machine) → HasGone g n old → ((g : Guest) → IsAt g old → Went g (guest_next g) new) → HasGone g (n + 1) new
gone-more g n old new gone step =
    let mid = with_core g gone.core in
    let w = went-core mid (guest_next mid) new (step mid gone.at) in
    record { core = w.0; goes = goes-more g n gone.core w.0 gone.goes w.1; at = w.2 }

pub gone-kept : (g : Guest) (n : ℕ) (old new : Machine) → HasGone g n old → ((g : Guest) → IsAt g old → IsAt g new) → HasGone g n new
gone-kept g n old new gone keeps = record { core = gone.core; goes = gone.goes; at = keeps (with_core g gone.core) gone.at }
