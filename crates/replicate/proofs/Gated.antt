-- A replica at a gate.
use Rattle.std.proofs.Common.{◌≡◌, ◌<◌, ℕ, ◌+◌, ◌-◌, ◌%◌, ◌==◌, Bool, false, true, cond, List, Option, None, Some, Result, Ok, Err, IfOk, IsSome, is_some, refl, sym, ◌∙◌, ap, subst, arith}
use Rattle.std.proofs.lemmas.Bool.{true≢false}
use Rattle.std.proofs.Math.Logic.{∥∥₁_elim}
use Rattle.std.proofs.Props.{props}
use Rattle.std.specs.declared.alloc.AllocError.{AllocError}
use Rattle.ex_io.specs.Tape.{Track}
use Rattle.infinite_heap.specs.declared.fault.FaultKind.TheVariants as fault
use Rattle.infinite_heap.specs.declared.program.HeapCall.{HeapCall}
use Rattle.infinite_heap.specs.declared.program.HeapCall.TheVariants.{Malloc, Free, Calloc, Realloc, Memalign, AlignedAlloc, MallocR, FreeR, CallocR, ReallocR, MemalignR}
use Rattle.infinite_heap.specs.CallSite.{site_of}
use Rattle.infinite_heap.specs.InfiniteHeap.{call_at}
use Rattle.patch_table.specs.Table.{Table}
use Rattle.exact_heap.specs.declared.signal.HeapRefusal.{HeapRefusal}
use Rattle.exact_heap.specs.declared.signal.HeapRefusal.TheVariants.{Room, Memory as NoMemory}
use Rattle.exact_heap.specs.Calls.{malloc, calloc, realloc, memalign}
use Rattle.exact_heap.specs.Heaps.{StandsFor}
use Rattle.exact_heap.specs.History.{History}
use Rattle.exact_heap.specs.Placing.{HeapState, Outcome}
use Rattle.rv_memory.specs.Memory.{span}
use Rattle.rv_machine.specs.Core.{Core, Next, Goes, Faults, Reads, Prints, Exits, Stays, register}
use Rattle.rv_machine.specs.Flat.{with_guest}
use Rattle.rv_machine.specs.Guest.{Guest, heap_of, with_patches}
use Rattle.rv_machine.specs.HeapCalls.{GuestNext, Carries, Returns, Lacks, answered, answers, called, call_from, guest_next, guest_next_at, guest_next_of}
use Rattle.rv_machine.specs.Shape.{IsShaped}
use Rattle.rv_machine.specs.Stands.{AwaitsAt, Finishes, IsAt, IsReady, core_of, guest_in, heap_in, is_spent, rules_in, waits}
use Rattle.rv_machine.specs.Steps.{next, next_of}
use Rattle.rv_machine.specs.Stops.{IsPrint}
use Rattle.rv_machine.specs.declared.ended.Ended.{Ended}
use Rattle.rv_machine.specs.declared.machine.Machine.{Machine}
use Rattle.rv_machine.specs.declared.stop.Waiting.{Waiting}
use Rattle.rv_machine.specs.declared.stop.Waiting.TheVariants.{Nothing, WriteDone}
use Rattle.layout_run.specs.Advances.{Advances, Counts, IsGoing, IsReadyFor, Shows}
use Rattle.layout_run.specs.declared.step.Progress.{Progress}
use Rattle.layout_run.specs.declared.step.Progress.TheVariants as progress
use Rattle.replicate.proofs.Seated.{by-guest, going-prop}
use Rattle.replicate.specs.Ready.{IsPaused, IsReadyAs, is_writing}
use Rattle.replicate.specs.Replicas.{Replica}
use Rattle.replicate.specs.Seats.{IsSeatOf, StandsAs}
use Rattle.replicate.specs.declared.seat.Mark.{Mark}

-- ---- a machine that waits to go on behind a write

paused-prop : (machine : Machine) (fd a l : ℕ) → IsProp ((is_some (span (core_of machine).memory.bytes a l) ≡ true))
paused-prop machine fd a l = hlevel props

is-some : {T : Type 0} (o : Option T) → is_some o ≡ true → IsSome o
is-some o is = search

shown : (n : Next) (core : Core) (fd a l : ℕ) → Shows n core fd a l → is_some (span core.memory.bytes a l) ≡ true
shown (Prints fd' a' l' bytes to) core fd a l s = ap is_some s.3
shown (Goes to) core fd a l s = absurd s
shown (Faults kind x) core fd a l s = absurd s
shown (Reads x y) core fd a l s = absurd s
shown (Exits code to) core fd a l s = absurd s
shown (Stays e) core fd a l s = absurd s

pub span-shown : (state : Option Progress) (machine : Machine) (fd a l : ℕ) → ∥ IsReadyAs state machine ∥₁ → state ≡ Some (progress.Prints fd a l) → IsSome (span (core_of machine).memory.bytes a l)
span-shown state machine fd a l ready is =
    is-some (span (core_of machine).memory.bytes a l) (∥∥₁_elim ready (paused-prop machine fd a l) (λ (k : IsReadyAs state machine).
    let paused : IsPaused machine fd a l = subst (λ s. IsReadyAs s machine) is k in
    shown (next (core_of machine)) (core_of machine) fd a l paused.printing.shows))

-- ---- a step that comes to a write

waits-on : (g : Guest) (n : GuestNext) (fd a l : ℕ) (machine : Machine) (track : Track) (left : Option (List ℕ)) (place place' : ℕ) → Advances g n (Ok (progress.Prints fd a l)) machine track left place place' → StandsFor (heap_in machine) g.history
waits-on g (Carries (Prints fd' a' l' bytes core)) fd a l machine track left place place' step = step.3.history
waits-on g (Carries (Goes core)) fd a l machine track left place place' step = absurd step
waits-on g (Carries (Faults kind x)) fd a l machine track left place place' step = absurd step
waits-on g (Carries (Reads x y)) fd a l machine track left place place' step = absurd step
waits-on g (Carries (Exits code core)) fd a l machine track left place place' step = absurd step
waits-on g (Carries (Stays e)) fd a l machine track left place place' step = absurd step
waits-on g (Returns to) fd a l machine track left place place' step = absurd step
waits-on g (Lacks used wanted to) fd a l machine track left place place' step = absurd step

history-prop : (machine : Machine) → IsProp (∥ ((h : History) × StandsFor (heap_in machine) h) ∥₁)
history-prop machine = hlevel props

pub ready-attempted : (p : Progress) (before machine : Machine) (track : Track) (left : Option (List ℕ)) (place place' : ℕ) → IsGoing before → IsReadyFor p machine → ((g : Guest) → IsAt g before → Advances g (guest_next g) (Ok p) machine track left place place') → IsReadyAs (Some p) machine
ready-attempted progress.Going before machine track left place place' going ready step = ready
ready-attempted (progress.Ended ending) before machine track left place place' going ready step = ready
ready-attempted (progress.Prints fd a l) before machine track left place place' going ready step = record {
  printing = ready;
  stands = by-guest before going (history-prop machine) (λ g at. ∣ (g.history, waits-on g (guest_next g) fd a l machine track left place place' (step g at)) ∣₁);
}

pub open-attempted : (p : Progress) (before now budget : ℕ) → Counts p before now → before < budget → is_writing (Some p) ≡ true → now < budget
open-attempted progress.Going before now budget is less writes = absurd (true≢false (sym writes))
open-attempted (progress.Ended ending) before now budget is less writes = absurd (true≢false (sym writes))
open-attempted (progress.Prints fd a l) before now budget is less writes = omega (arith, is, less)

pub going-writes : (state : Option Progress) → state ≡ Some progress.Going → is_writing state ≡ true → ⊥
going-writes state is writes = true≢false (sym writes ∙ ap is_writing is)

-- ---- behind the write

print-prop : (n : Next) → IsProp (IsPrint n)
print-prop (Prints fd a l bytes core) = hlevel props
print-prop (Goes core) = hlevel props
print-prop (Faults kind x) = hlevel props
print-prop (Reads x y) = hlevel props
print-prop (Exits code core) = hlevel props
print-prop (Stays e) = hlevel props

shows-print : (n : Next) (core : Core) (fd a l : ℕ) → Shows n core fd a l → IsPrint n
shows-print (Prints fd' a' l' bytes to) core fd a l s = tt
shows-print (Goes to) core fd a l s = absurd s
shows-print (Faults kind x) core fd a l s = absurd s
shows-print (Reads x y) core fd a l s = absurd s
shows-print (Exits code to) core fd a l s = absurd s
shows-print (Stays e) core fd a l s = absurd s

pub print-next : (state : Option Progress) (machine : Machine) (fd a l : ℕ) → ∥ IsReadyAs state machine ∥₁ → state ≡ Some (progress.Prints fd a l) → IsPrint (next (core_of machine))
print-next state machine fd a l ready is =
    ∥∥₁_elim ready (print-prop (next (core_of machine))) (λ (k : IsReadyAs state machine).
    let paused : IsPaused machine fd a l = subst (λ s. IsReadyAs s machine) is k in
    shows-print (next (core_of machine)) (core_of machine) fd a l paused.printing.shows)

print-alive : (core : Core) (e : Option Ended) → IsPrint (next_of core e) → e ≡ None
print-alive core None is = refl
print-alive core (Some e) is = absurd is

record IsBehind (g : Guest) (machine : Machine) : Type 0 where
  at : IsReady machine
  history : StandsFor (heap_in machine) g.history
  steps : (core_of machine).steps ≡ g.core.steps + 1

behind : (g : Guest) (n : Next) (machine : Machine) → g.core.ended ≡ None → IsShaped g.core n → Finishes g n machine → IsBehind g machine
behind g (Prints fd a l bytes core) machine alive shape at = record {
  at = record { ready = at.waiting; sound = at.sound; going = ap (λ (c : Core). c.ended) at.core ∙ ap (λ (c : Core). c.ended) shape.3 ∙ alive };
  history = at.history;
  steps = ap (λ (c : Core). c.steps) at.core ∙ ap (λ (c : Core). c.steps) shape.3;
}
behind g (Goes core) machine alive shape at = absurd at
behind g (Faults kind x) machine alive shape at = absurd at
behind g (Reads x y) machine alive shape at = absurd at
behind g (Exits code core) machine alive shape at = absurd at
behind g (Stays e) machine alive shape at = absurd at

pub record HasWritten (before machine : Machine) : Type 0 where
  pub going : IsGoing machine
  pub steps : (core_of machine).steps ≡ (core_of before).steps + 1

written-prop : (before machine : Machine) → IsProp (HasWritten before machine)
written-prop before machine = hlevel props

pub has-written : (state : Option Progress) (before machine : Machine) (fd a l : ℕ) → ∥ IsReadyAs state before ∥₁ → state ≡ Some (progress.Prints fd a l) → ((core : Core) → IsShaped core (next core)) → ((g : Guest) → AwaitsAt g WriteDone before → Finishes g (next g.core) machine) → HasWritten before machine
has-written state before machine fd a l ready is shaped finishes =
    ∥∥₁_elim ready (written-prop before machine) (λ (k : IsReadyAs state before).
    let paused : IsPaused before fd a l = subst (λ s. IsReadyAs s before) is k in
    ∥∥₁_elim paused.stands (written-prop before machine) (λ (x : (h : History) × StandsFor (heap_in before) h).
    let g : Guest = guest_in before x.0 in
    let prints = shows-print (next g.core) g.core fd a l paused.printing.shows in
    let done = behind g (next g.core) machine (print-alive g.core g.core.ended prints) (shaped g.core) (finishes g (record { core = refl; names = refl; rules = refl; history = x.1; waiting = paused.printing.waiting; sound = paused.printing.sound })) in
    record { going = record { ready = done.at; stands = ∣ (x.0, done.history) ∣₁ }; steps = done.steps }))

-- ---- other patches

record IsPatched (patches : Table) (before machine : Machine) : Type 0 where
  awaits : (g : Guest) (answer : Waiting) → AwaitsAt g answer before → AwaitsAt (with_patches g patches) answer machine
  sound : is_spent machine ≡ is_spent before
  core : core_of machine ≡ core_of before

waiting-prop : (machine : Machine) → IsProp (waits machine ≡ WriteDone)
waiting-prop machine = hlevel props

ready-patched : (patches : Table) (state : Option Progress) (before machine : Machine) → IsPatched patches before machine → IsReadyAs state before → IsReadyAs state machine
ready-patched patches None before machine p ready = tt
ready-patched patches (Some (progress.Ended ending)) before machine p ready = tt
ready-patched patches (Some progress.Going) before machine p ready =
    by-guest before ready (going-prop machine) (λ g at.
    let now = p.awaits g Nothing at in
    record { ready = record { ready = now.waiting; sound = now.sound; going = ap (λ (c : Core). c.ended) p.core ∙ ready.ready.going }; stands = ∣ (g.history, now.history) ∣₁ })
ready-patched patches (Some (progress.Prints fd a l)) before machine p ready =
    let awaits : (x : (h : History) × StandsFor (heap_in before) h) → AwaitsAt (with_patches (guest_in before x.0) patches) WriteDone machine = λ x. p.awaits (guest_in before x.0) WriteDone (record { core = refl; names = refl; rules = refl; history = x.1; waiting = ready.printing.waiting; sound = ready.printing.sound }) in
    record {
      printing = record {
        sound = p.sound ∙ ready.printing.sound;
        waiting = ∥∥₁_elim ready.stands (waiting-prop machine) (λ (x : (h : History) × StandsFor (heap_in before) h). (awaits x).waiting);
        printed = ready.printing.printed;
        shows = subst (λ (c : Core). Shows (next c) c fd a l) (sym p.core) ready.printing.shows;
      };
      stands = ∥∥₁_elim ready.stands (history-prop machine) (λ (x : (h : History) × StandsFor (heap_in before) h). ∣ (x.0, (awaits x).history) ∣₁);
    }

pub still-ready : (patches : Table) (state : Option Progress) (before machine : Machine) → ((g : Guest) (answer : Waiting) → AwaitsAt g answer before → AwaitsAt (with_patches g patches) answer machine) → is_spent machine ≡ is_spent before → core_of machine ≡ core_of before
    → ∥ IsReadyAs state before ∥₁ → ∥ IsReadyAs state machine ∥₁
still-ready patches state before machine awaits sound core ready =
    ∥∥₁_elim ready squashed (λ (k : IsReadyAs state before). ∣ ready-patched patches state before machine (record { awaits = awaits; sound = sound; core = core }) k ∣₁)
  where
    squashed : IsProp (∥ IsReadyAs state machine ∥₁)
    squashed = hlevel props

-- a write doesn't depend on the patches
abbrev is_prints : GuestNext → Bool
is_prints (Carries (Prints fd a l bytes core)) = true
is_prints n = false

answered-no : (g : Guest) (back : ℕ) (s : HeapState) (answer : Result ℕ HeapRefusal) → is_prints (answered g back s answer) ≡ false
answered-no g back s (Ok address) = refl
answered-no g back s (Err (Room used wanted)) = refl
answered-no g back s (Err NoMemory) = refl

answers-no : (g : Guest) (back : ℕ) (outcome : Outcome) → is_prints (answers g back outcome) ≡ false
answers-no g back outcome = answered-no g back outcome.state outcome.answer

called-no : (g : Guest) (back : ℕ) (function : HeapCall) → is_prints (called g back function) ≡ false
called-no g back Malloc = answers-no g back (malloc g.rules (register g.core 10) (site_of g.core.calls) (heap_of g))
called-no g back MallocR = answers-no g back (malloc g.rules (register g.core 11) (site_of g.core.calls) (heap_of g))
called-no g back Free = refl
called-no g back FreeR = refl
called-no g back Calloc = answers-no g back (calloc g.rules (register g.core 10) (register g.core 11) (site_of g.core.calls) (heap_of g))
called-no g back CallocR = answers-no g back (calloc g.rules (register g.core 11) (register g.core 12) (site_of g.core.calls) (heap_of g))
called-no g back Realloc = answers-no g back (realloc g.rules (register g.core 10) (register g.core 11) (site_of g.core.calls) (heap_of g))
called-no g back ReallocR = answers-no g back (realloc g.rules (register g.core 11) (register g.core 12) (site_of g.core.calls) (heap_of g))
called-no g back Memalign = answers-no g back (memalign g.rules (register g.core 10) (register g.core 11) (site_of g.core.calls) (heap_of g))
called-no g back AlignedAlloc = answers-no g back (memalign g.rules (register g.core 10) (register g.core 11) (site_of g.core.calls) (heap_of g))
called-no g back MemalignR = answers-no g back (memalign g.rules (register g.core 11) (register g.core 12) (site_of g.core.calls) (heap_of g))

call-no : (g : Guest) (back : ℕ) (function : HeapCall) → is_prints (call_from g back function) ≡ false
call-no g back function = go (back % 4 == 0)
  where
    go : (b : Bool) → is_prints (cond b (called g back function) (Carries (Faults fault.Jump back))) ≡ false
    go true = called-no g back function
    go false = refl

still-at : (g : Guest) (patches : Table) (f : Option HeapCall) (n : GuestNext) → is_prints n ≡ true → guest_next_at g f ≡ n → guest_next_at (with_patches g patches) f ≡ n
still-at g patches None n prints is = is
still-at g patches (Some function) n prints is = absurd (true≢false (sym prints ∙ sym (ap is_prints is) ∙ call-no g (register g.core 1 - register g.core 1 % 2) function))

still-prints : (g : Guest) (patches : Table) (e : Option Ended) (n : GuestNext) → is_prints n ≡ true → guest_next_of g e ≡ n → guest_next_of (with_patches g patches) e ≡ n
still-prints g patches None n prints is = still-at g patches (call_at g.names g.core.pc) n prints is
still-prints g patches (Some e) n prints is = absurd (true≢false (sym prints ∙ sym (ap is_prints is)))

abbrev patched-to : Replica → Table → Replica
patched-to r patches = record r { flat = with_guest r.flat (with_patches r.flat.guest patches) }

stands-patched : (patches : Table) (r : Replica) (state : Option Progress) (before machine : Machine) (place : ℕ) → IsPatched patches before machine → StandsAs r state before place → StandsAs (patched-to r patches) state machine place
stands-patched patches r None before machine place p so = absurd so
stands-patched patches r (Some progress.Going) before machine place p so = (so.0, p.awaits r.flat.guest Nothing so.1, so.2, so.3)
stands-patched patches r (Some (progress.Ended ending)) before machine place p so = (so.0, p.awaits r.flat.guest Nothing so.1, so.2, so.3)
stands-patched patches r (Some (progress.Prints fd a l)) before machine place p so = (
  so.0,
  record {
    bytes = so.1.bytes;
    core = so.1.core;
    prints = still-prints r.flat.guest patches r.flat.guest.core.ended (Carries (Prints fd a l so.1.bytes so.1.core)) refl so.1.prints;
    at = p.awaits r.flat.guest WriteDone so.1.at;
    place = so.1.place;
  },
)

pub seat-patched : (patches table : Table) (r : Replica) (state : Option Progress) (live : Bool) (mark : Mark) (before machine : Machine) (place : ℕ) → ((g : Guest) (answer : Waiting) → AwaitsAt g answer before → AwaitsAt (with_patches g patches) answer machine) → is_spent machine ≡ is_spent before → core_of machine ≡ core_of before
    → patches ≡ table → IsSeatOf r live mark state before place → IsSeatOf (patched-to r table) live mark state machine place
seat-patched patches table r state live mark before machine place awaits sound core is so = record {
  living = so.living;
  marked = so.marked;
  stands = subst (λ t. StandsAs (patched-to r t) state machine place) is (stands-patched patches r state before machine place (record { awaits = awaits; sound = sound; core = core }) so.stands);
}

-- ---- what it stands for

pub rules-of : (r : Replica) (state : Option Progress) (machine : Machine) (place : ℕ) → StandsAs r state machine place → rules_in machine ≡ r.flat.guest.rules
rules-of r None machine place so = absurd so
rules-of r (Some progress.Going) machine place so = so.1.rules
rules-of r (Some (progress.Ended ending)) machine place so = so.1.rules
rules-of r (Some (progress.Prints fd a l)) machine place so = so.1.at.rules

pub awaits-as : (r : Replica) (state : Option Progress) (machine : Machine) (place : ℕ) → StandsAs r state machine place → (answer : Waiting) × AwaitsAt r.flat.guest answer machine
awaits-as r None machine place so = absurd so
awaits-as r (Some progress.Going) machine place so = (Nothing, so.1)
awaits-as r (Some (progress.Ended ending)) machine place so = (Nothing, so.1)
awaits-as r (Some (progress.Prints fd a l)) machine place so = (WriteDone, so.1.at)

-- ---- at the start

pub going-started : (result : Result Machine AllocError) (g : Guest) → g.core.ended ≡ None → IfOk result (IsAt g) → IfOk result IsGoing
going-started (Err refused) g alive at = tt
going-started (Ok machine) g alive at = record { ready = record { ready = at.waiting; sound = at.sound; going = ap (λ (c : Core). c.ended) at.core ∙ alive }; stands = ∣ (g.history, at.history) ∣₁ }
