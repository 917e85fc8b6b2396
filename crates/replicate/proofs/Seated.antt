-- A step of a seat.
use Rattle.std.proofs.Common.{◌≡◌, ◌<◌, ◌≤◌, ℕ, ◌+◌, ◌-◌, ◌*◌, ◌^◌, Bool, false, true, cond, List, drop, length, Option, None, Some, Ok, Err, IfSome, refl, sym, ◌∙◌, ap, subst, arith}
use Rattle.std.proofs.lemmas.Bool.{true≢false}
use Rattle.std.proofs.Math.Logic.{∥∥₁_elim}
use Rattle.std.proofs.Props.{props}
use Rattle.ex_io.specs.Causes.{Rose}
use Rattle.ex_io.specs.Tape.{Track, begins, most_kept, input as unread}
use Rattle.exact_heap.specs.Heaps.{StandsFor}
use Rattle.exact_heap.specs.History.{History}
use Rattle.rv_machine.specs.Core.{Core, Goes, Faults, Reads, Prints, Exits, Stays}
use Rattle.rv_machine.specs.Flat.{after_step}
use Rattle.rv_machine.specs.Guest.{Guest}
use Rattle.rv_machine.specs.HeapCalls.{GuestNext, Carries, Returns, Lacks, guest_next}
use Rattle.rv_machine.specs.Stands.{IsAt, core_of, guest_in, heap_in}
use Rattle.rv_machine.specs.declared.ended.Ended.{Ended}
use Rattle.rv_machine.specs.declared.machine.Machine.{Machine}
use Rattle.layout_run.specs.Advances.{Advances, AdvancesAreSteps, Counts, CutsInput, EndsAs, Follows, IsGoing, IsReadable, IsToPrint, ReadsPast, StepsTo, TellsInput}
use Rattle.layout_run.specs.Runs.{RefusesInput}
use Rattle.layout_run.specs.declared.ran.RunRefusal.{RunRefusal}
use Rattle.layout_run.specs.declared.ran.RunRefusal.TheVariants as why
use Rattle.layout_run.specs.declared.step.Progress.{Progress}
use Rattle.layout_run.specs.declared.step.Progress.TheVariants as progress
use Rattle.replicate.specs.Counted.{IsGuestCounted, StepsAreCounted}
use Rattle.replicate.specs.Ready.{IsReadyAs}
use Rattle.replicate.specs.Replicas.{Replica, attempted}
use Rattle.replicate.specs.Limits.{PassesKept}
use Rattle.replicate.specs.Seats.{IsKept, IsSeat, IsSeatOf, ReadsOn, StandsAs}
use Rattle.replicate.specs.declared.seat.Seat.{Seat}
use Rattle.replicate.specs.declared.seat.Mark.{Mark}

-- ---- what the machine can do

pub going-prop : (machine : Machine) → IsProp (IsGoing machine)
going-prop machine = hlevel props

pub going-as : (state : Option Progress) (machine : Machine) → ∥ IsReadyAs state machine ∥₁ → state ≡ Some progress.Going → IsGoing machine
going-as state machine ready is = ∥∥₁_elim ready (going-prop machine) (λ (k : IsReadyAs state machine). subst (λ s. IsReadyAs s machine) is k)

-- what follows from a guest that a machine stands for, of which there is one at least
pub by-guest : {P : Type 0} (before : Machine) → IsGoing before → IsProp P → ((g : Guest) → IsAt g before → P) → P
by-guest before going only leads =
    ∥∥₁_elim going.stands only (λ (x : (h : History) × StandsFor (heap_in before) h).
    leads (guest_in before x.0) (record { core = refl; names = refl; rules = refl; history = x.1; waiting = going.ready.ready; sound = going.ready.sound }))

-- ---- how far it is

pub one-counted : (p : Progress) (before now : ℕ) → Counts p before now → now ≤ before + 1
one-counted progress.Going before now is = is
one-counted (progress.Prints fd address len) before now is = omega (arith, is)
one-counted (progress.Ended ending) before now is = is

place-bound : (g : Guest) (n : GuestNext) (p : Progress) (before machine : Machine) (track : Track) (left : Option (List ℕ)) (place place' : ℕ) → IsAt g before → IsGuestCounted g n → Advances g n (Ok p) machine track left place place'
    → place ≤ (core_of before).steps * 2 ^ 32 → place' ≤ place + 2 ^ 32 → place' ≤ (core_of machine).steps * 2 ^ 32
place-bound g (Carries (Goes core)) progress.Going before machine track left place place' at counted step small moves =
    let now : (core_of machine).steps ≡ g.core.steps + 1 = ap (λ (c : Core). c.steps) step.0.core ∙ counted in
    let old : (core_of before).steps ≡ g.core.steps = ap (λ (c : Core). c.steps) at.core in
    let same : place' ≡ place = step.1 in
    omega (arith, now, old, same, small)
place-bound g (Carries (Goes core)) (progress.Prints fd address len) before machine track left place place' at counted step small moves = absurd step
place-bound g (Carries (Goes core)) (progress.Ended ending) before machine track left place place' at counted step small moves = absurd step
place-bound g (Carries (Reads a l)) progress.Going before machine track left place place' at counted step small moves =
    let now : (core_of machine).steps ≡ g.core.steps + 1 = ap (λ (c : Core). c.steps) step.1.core in
    let old : (core_of before).steps ≡ g.core.steps = ap (λ (c : Core). c.steps) at.core in
    omega (arith, now, old, moves, small)
place-bound g (Carries (Reads a l)) (progress.Prints fd address len) before machine track left place place' at counted step small moves = absurd step
place-bound g (Carries (Reads a l)) (progress.Ended ending) before machine track left place place' at counted step small moves = absurd step
place-bound g (Returns to) progress.Going before machine track left place place' at counted step small moves =
    let now : (core_of machine).steps ≡ g.core.steps + 1 = ap (λ (c : Core). c.steps) step.0.core ∙ counted in
    let old : (core_of before).steps ≡ g.core.steps = ap (λ (c : Core). c.steps) at.core in
    let same : place' ≡ place = step.1 in
    omega (arith, now, old, same, small)
place-bound g (Returns to) (progress.Prints fd address len) before machine track left place place' at counted step small moves = absurd step
place-bound g (Returns to) (progress.Ended ending) before machine track left place place' at counted step small moves = absurd step
place-bound g (Carries (Prints fd' a l bytes' core)) progress.Going before machine track left place place' at counted step small moves = absurd step
place-bound g (Carries (Prints fd' a l bytes' core)) (progress.Prints fd address len) before machine track left place place' at counted step small moves =
    let now : (core_of machine).steps ≡ g.core.steps = ap (λ (c : Core). c.steps) step.3.core in
    let old : (core_of before).steps ≡ g.core.steps = ap (λ (c : Core). c.steps) at.core in
    let same : place' ≡ place = step.4 in
    omega (arith, now, old, same, small)
place-bound g (Carries (Prints fd' a l bytes' core)) (progress.Ended ending) before machine track left place place' at counted step small moves = absurd step
place-bound g (Carries (Exits code core)) progress.Going before machine track left place place' at counted step small moves = absurd step
place-bound g (Carries (Exits code core)) (progress.Prints fd address len) before machine track left place place' at counted step small moves = absurd step
place-bound g (Carries (Exits code core)) (progress.Ended ending) before machine track left place place' at counted step small moves =
    let now : (core_of machine).steps ≡ g.core.steps + 1 = ap (λ (c : Core). c.steps) step.1.core ∙ counted in
    let old : (core_of before).steps ≡ g.core.steps = ap (λ (c : Core). c.steps) at.core in
    let same : place' ≡ place = step.2 in
    omega (arith, now, old, same, small)
place-bound g (Carries (Faults kind a)) progress.Going before machine track left place place' at counted step small moves = absurd step
place-bound g (Carries (Faults kind a)) (progress.Prints fd address len) before machine track left place place' at counted step small moves = absurd step
place-bound g (Carries (Faults kind a)) (progress.Ended ending) before machine track left place place' at counted step small moves =
    let now : (core_of machine).steps ≡ g.core.steps = ap (λ (c : Core). c.steps) step.1.core in
    let old : (core_of before).steps ≡ g.core.steps = ap (λ (c : Core). c.steps) at.core in
    let same : place' ≡ place = step.2 in
    omega (arith, now, old, same, small)
place-bound g (Lacks used wanted to) progress.Going before machine track left place place' at counted step small moves = absurd step
place-bound g (Lacks used wanted to) (progress.Prints fd address len) before machine track left place place' at counted step small moves = absurd step
place-bound g (Lacks used wanted to) (progress.Ended ending) before machine track left place place' at counted step small moves =
    let now : (core_of machine).steps ≡ g.core.steps = ap (λ (c : Core). c.steps) step.1.core ∙ counted in
    let old : (core_of before).steps ≡ g.core.steps = ap (λ (c : Core). c.steps) at.core in
    let same : place' ≡ place = step.2 in
    omega (arith, now, old, same, small)
place-bound g (Carries (Stays e)) progress.Going before machine track left place place' at counted step small moves = absurd step
place-bound g (Carries (Stays e)) (progress.Prints fd address len) before machine track left place place' at counted step small moves = absurd step
place-bound g (Carries (Stays e)) (progress.Ended ending) before machine track left place place' at counted step small moves = absurd step

pub le-prop : (m n : ℕ) → IsProp (m ≤ n)
le-prop m n = hlevel props

-- a guest reads 2 ^ 32 bytes at most in a step that is counted
pub place-within : (p : Progress) (before machine : Machine) (track : Track) (left : Option (List ℕ)) (place place' : ℕ) → StepsAreCounted → IsGoing before → ((g : Guest) → IsAt g before → Advances g (guest_next g) (Ok p) machine track left place place')
    → place ≤ (core_of before).steps * 2 ^ 32 → place' ≤ place + 2 ^ 32 → place' ≤ (core_of machine).steps * 2 ^ 32
place-within p before machine track left place place' counted going step small moves =
    by-guest before going (le-prop place' ((core_of machine).steps * 2 ^ 32)) (λ g at. place-bound g (guest_next g) p before machine track left place place' at (counted g) (step g at) small moves)

-- ---- the tape

begins-kept : (track : Track) → track.keep ≡ true → begins track ≡ 0
begins-kept track keep = ap (λ b. cond b 0 track.high) keep

pub reads-on : (old new : Track) (left left' : Option (List ℕ)) (place place' : ℕ) → IsKept old place → Follows old new left left' place' → ReadsOn old new left left' place'
reads-on old new left left' place place' kept follows =
    let keep = follows.keep ∙ kept.keep in
    let first = begins-kept new keep in
    let none : begins new - begins old ≡ 0 = omega (arith, first) in record {
      kept = record { keep = keep; going = follows.readable.going; known = follows.readable.known };
      high = follows.high;
      stays = subst (λ n. IfSome (unread old left) (λ bytes. unread new left' ≡ Some (drop n bytes))) none follows.stays;
    }

-- ---- the replica

alive-as : (ended : Option Ended) → EndsAs ended None → ended ≡ None
alive-as None is = refl
alive-as (Some e) is = absurd is

stands-attempted : (input : List ℕ) (r : Replica) (n : GuestNext) (p : Progress) (live : Bool) (mark : Mark) (machine : Machine) (track : Track) (left : Option (List ℕ)) (place' : ℕ) → guest_next r.flat.guest ≡ n → r.waits ≡ false → live ≡ r.live → mark ≡ r.mark
    → Advances r.flat.guest n (Ok p) machine track left r.flat.place place' → StepsTo input r.flat n p machine place' → IsSeatOf (attempted input r n) live mark (Some p) machine place'
stands-attempted input r (Carries (Goes core)) progress.Going live mark machine track left place' is waits living marked step steps =
    record { living = living; marked = marked; stands = (waits, steps.at, alive-as (after_step input r.flat (Carries (Goes core))).guest.core.ended steps.ended, steps.place) }
stands-attempted input r (Carries (Goes core)) (progress.Prints fd address len) live mark machine track left place' is waits living marked step steps = absurd step
stands-attempted input r (Carries (Goes core)) (progress.Ended ending) live mark machine track left place' is waits living marked step steps = absurd step
stands-attempted input r (Carries (Reads a l)) progress.Going live mark machine track left place' is waits living marked step steps =
    record { living = living; marked = marked; stands = (waits, steps.at, alive-as (after_step input r.flat (Carries (Reads a l))).guest.core.ended steps.ended, steps.place) }
stands-attempted input r (Carries (Reads a l)) (progress.Prints fd address len) live mark machine track left place' is waits living marked step steps = absurd step
stands-attempted input r (Carries (Reads a l)) (progress.Ended ending) live mark machine track left place' is waits living marked step steps = absurd step
stands-attempted input r (Returns to) progress.Going live mark machine track left place' is waits living marked step steps =
    record { living = living; marked = marked; stands = (waits, steps.at, alive-as (after_step input r.flat (Returns to)).guest.core.ended steps.ended, steps.place) }
stands-attempted input r (Returns to) (progress.Prints fd address len) live mark machine track left place' is waits living marked step steps = absurd step
stands-attempted input r (Returns to) (progress.Ended ending) live mark machine track left place' is waits living marked step steps = absurd step
stands-attempted input r (Carries (Prints fd' a l bytes' core)) progress.Going live mark machine track left place' is waits living marked step steps = absurd step
stands-attempted input r (Carries (Prints fd' a l bytes' core)) (progress.Prints fd address len) live mark machine track left place' is waits living marked step steps =
    record { living = living; marked = marked; stands = (refl, subst (λ n. IsToPrint r.flat n fd address len machine place') (sym is) steps) }
stands-attempted input r (Carries (Prints fd' a l bytes' core)) (progress.Ended ending) live mark machine track left place' is waits living marked step steps = absurd step
stands-attempted input r (Carries (Exits code core)) progress.Going live mark machine track left place' is waits living marked step steps = absurd step
stands-attempted input r (Carries (Exits code core)) (progress.Prints fd address len) live mark machine track left place' is waits living marked step steps = absurd step
stands-attempted input r (Carries (Exits code core)) (progress.Ended ending) live mark machine track left place' is waits living marked step steps =
    record { living = living; marked = marked; stands = (waits, steps.at, steps.ended, steps.place) }
stands-attempted input r (Carries (Faults kind a)) progress.Going live mark machine track left place' is waits living marked step steps = absurd step
stands-attempted input r (Carries (Faults kind a)) (progress.Prints fd address len) live mark machine track left place' is waits living marked step steps = absurd step
stands-attempted input r (Carries (Faults kind a)) (progress.Ended ending) live mark machine track left place' is waits living marked step steps =
    record { living = living; marked = marked; stands = (waits, steps.at, steps.ended, steps.place) }
stands-attempted input r (Lacks used wanted to) progress.Going live mark machine track left place' is waits living marked step steps = absurd step
stands-attempted input r (Lacks used wanted to) (progress.Prints fd address len) live mark machine track left place' is waits living marked step steps = absurd step
stands-attempted input r (Lacks used wanted to) (progress.Ended ending) live mark machine track left place' is waits living marked step steps =
    record { living = living; marked = marked; stands = (waits, steps.at, steps.ended, steps.place) }
stands-attempted input r (Carries (Stays e)) progress.Going live mark machine track left place' is waits living marked step steps = absurd step
stands-attempted input r (Carries (Stays e)) (progress.Prints fd address len) live mark machine track left place' is waits living marked step steps = absurd step
stands-attempted input r (Carries (Stays e)) (progress.Ended ending) live mark machine track left place' is waits living marked step steps = absurd step

pub seat-attempted : AdvancesAreSteps → (input : List ℕ) (r : Replica) (p : Progress) (state : Option Progress) (live : Bool) (mark : Mark) (before machine : Machine) (track : Track) (left : Option (List ℕ)) (place place' : ℕ) → IsSeatOf r live mark state before place → state ≡ Some progress.Going → TellsInput input track left → IsKept track place
    → ((g : Guest) → IsAt g before → Advances g (guest_next g) (Ok p) machine track left place place') → IsSeatOf (attempted input r (guest_next r.flat.guest)) live mark (Some p) machine place'
seat-attempted law input r p state live mark before machine track left place place' so is tells kept step =
    let here = subst (λ s. StandsAs r s before place) is so.stands in
    let same : place ≡ r.flat.place = here.3 in
    let readable : IsReadable track r.flat.place = record { going = kept.going; known = subst (λ n. n < track.high + 1) same kept.known; onward = λ other. absurd (true≢false (sym kept.keep ∙ other)) } in
    let did = subst (λ n. Advances r.flat.guest (guest_next r.flat.guest) (Ok p) machine track left n place') same (step r.flat.guest here.1) in
    stands-attempted input r (guest_next r.flat.guest) p live mark machine track left place' refl here.0 so.living so.marked did (law input r.flat track left machine p place' tells readable did)

-- ---- many steps

same-input : (o : Option (List ℕ)) → IfSome o (λ bytes. o ≡ Some bytes)
same-input None = tt
same-input (Some bytes) = refl

pub reads-start : (track : Track) (left : Option (List ℕ)) (place : ℕ) → IsKept track place → ReadsOn track track left left place
reads-start track left place kept = let known = kept.known in record { kept = kept; high = omega (arith, known); stays = same-input (unread track left) }

input-on : (o p q : Option (List ℕ)) → IfSome o (λ bytes. p ≡ Some bytes) → IfSome p (λ bytes. q ≡ Some bytes) → IfSome o (λ bytes. q ≡ Some bytes)
input-on None p q one two = tt
input-on (Some bytes) p q one two = subst (λ (x : Option (List ℕ)). IfSome x (λ b. q ≡ Some b)) one two

pub reads-both : (old mid new : Track) (left left' left'' : Option (List ℕ)) (place place' : ℕ) → ReadsOn old mid left left' place → ReadsOn mid new left' left'' place' → place ≤ place' → ReadsOn old new left left'' place'
reads-both old mid new left left' left'' place place' one two onward =
    let high = one.high in
    let high' = two.high in
    record { kept = two.kept; high = omega (arith, high, high', onward); stays = input-on (unread old left) (unread mid left') (unread new left'') one.stays two.stays }

pub tells-on : (old new : Track) (left left' : Option (List ℕ)) (first place : ℕ) (bytes : List ℕ) → IsKept old first → ReadsOn old new left left' place → TellsInput bytes old left → TellsInput bytes new left'
tells-on old new left left' first place bytes kept reads tells =
    subst (λ (o : Option (List ℕ)). IfSome o (λ b. unread new left' ≡ Some b)) tells reads.stays ∙ ap (λ n. Some (drop n bytes)) (begins-kept old kept.keep ∙ sym (begins-kept new reads.kept.keep))

-- the step that was refused the input is the one that passes what is kept
pub passes-kept : (n : GuestNext) (track : Track) (left : Option (List ℕ)) (place place' : ℕ) (bytes : List ℕ) → IsKept track place → TellsInput bytes track left → place ≡ place' → ReadsPast n track left place → PassesKept n bytes place'
passes-kept (Carries (Reads a l)) track left place place' bytes kept tells same past =
    let long = subst (λ (o : Option (List ℕ)). IfSome o (λ b. most_kept < length b)) tells past.long in
    (subst (λ p. p ≤ most_kept) same past.within, subst (λ p. most_kept < p + l) same past.past, subst (λ k. most_kept < length (drop k bytes)) (begins-kept track kept.keep) long)
passes-kept (Carries (Goes core)) track left place place' bytes kept tells same past = absurd past
passes-kept (Carries (Faults kind a)) track left place place' bytes kept tells same past = absurd past
passes-kept (Carries (Prints fd a l b core)) track left place place' bytes kept tells same past = absurd past
passes-kept (Carries (Exits code core)) track left place place' bytes kept tells same past = absurd past
passes-kept (Carries (Stays e)) track left place place' bytes kept tells same past = absurd past
passes-kept (Returns to) track left place place' bytes kept tells same past = absurd past
passes-kept (Lacks used wanted to) track left place place' bytes kept tells same past = absurd past

-- a replica's place is that of its seat
place-as : (r : Replica) (state : Option Progress) (machine : Machine) (place : ℕ) → StandsAs r state machine place → place ≡ r.flat.place
place-as r None machine place so = absurd so
place-as r (Some progress.Going) machine place so = so.3
place-as r (Some (progress.Prints fd a l)) machine place so = so.1.place
place-as r (Some (progress.Ended ending)) machine place so = so.3

pub place-of : (r : Replica) (seat : Seat) → IsSeat r seat → seat.place ≡ r.flat.place
place-of r seat so = place-as r seat.state seat.machine seat.place so.stands

pub refuses-on : {P Q : Type 0} (T U : Type 0) (old new : Track) (refused : RunRefusal) → old.keep ≡ true → (P → Q) → RefusesInput {T = T} (Err refused) new P → RefusesInput {T = U} (Err refused) old Q
refuses-on T U old new why.Input keep leads is = (keep, leads is.1)
refuses-on T U old new why.Memory keep leads is = tt
refuses-on T U old new why.Source keep leads is = tt
refuses-on T U old new why.Out keep leads is = tt
refuses-on T U old new why.Err keep leads is = tt

pub cuts-on : (T U : Type 0) (refused : RunRefusal) (first before now : ℕ) → before ≡ first → CutsInput {T = T} (Err refused) before now → CutsInput {T = U} (Err refused) first now
cuts-on T U why.Memory first before now same is = is ∙ same
cuts-on T U why.Input first before now same is = is ∙ same
cuts-on T U why.Source first before now same is = subst (λ n. Rose n now) same is
cuts-on T U why.Out first before now same is = absurd is
cuts-on T U why.Err first before now same is = absurd is
