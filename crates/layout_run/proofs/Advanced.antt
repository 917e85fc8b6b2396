-- A step with its read as a step of a run, and what a turn makes of it.
use Rattle.std.proofs.Common.{◌≡◌, ◌≤◌, ℕ, ◌+◌, ◌-◌, Bool, false, true, cond, List, drop, take, Option, None, Some, Ok, IfSome, refl, sym, ◌∙◌, ap, subst, arith}
use Rattle.std.proofs.Math.Logic.{∥∥₁_elim}
use Rattle.std.proofs.Props.{props}
use Rattle.ex_io.specs.Tape.{Track, begins, part}
use Rattle.exact_heap.specs.Heaps.{StandsFor}
use Rattle.exact_heap.specs.History.{History}
use Rattle.infinite_heap.specs.InfiniteSystem.{is_printed, taken}
use Rattle.rv_memory.specs.Memory.{span}
use Rattle.rv_machine.specs.Core.{Core, Next, Goes, Faults, Reads, Prints, Exits, Stays, filled}
use Rattle.rv_machine.specs.Flat.{Flat, read_in}
use Rattle.rv_machine.specs.Guest.{Guest, with_core}
use Rattle.rv_machine.specs.HeapCalls.{GuestNext, Carries, Returns, Lacks, guest_next, guest_next_of}
use Rattle.rv_machine.specs.Stands.{IsAt, Steps, core_of, guest_in, heap_in, is_spent, waits}
use Rattle.rv_machine.specs.Steps.{next}
use Rattle.rv_machine.specs.Shape.{IsGuestShaped}
use Rattle.rv_machine.specs.declared.ended.Ended.{Ended}
use Rattle.rv_machine.specs.declared.ended.Ended.TheVariants.{Exited, Faulted, Roomed}
use Rattle.rv_machine.specs.declared.stop.Stop.TheVariants as stop
use Rattle.rv_machine.specs.declared.stop.Waiting.TheVariants.{ReadBytes}
use Rattle.rv_machine.specs.declared.machine.Machine.{Machine}
use Rattle.layout_run.specs.Advances.{AdvancesAreSteps, Advances, AreNext, EndsAs, IsGoing, IsPrinting, IsReadable, IsStepped, Shows, StepsTo, TellsInput}
use Rattle.layout_run.specs.Outside.{Held}
use Rattle.layout_run.specs.Turns.{IsFlat}
use Rattle.layout_run.specs.Whole.{ended_as}
use Rattle.layout_run.specs.declared.step.Progress.{Progress}
use Rattle.layout_run.specs.declared.step.Progress.TheVariants as progress
use Rattle.layout_run.specs.declared.ran.Ending.{Ending}
use Rattle.layout_run.proofs.Tapes.{drop-after}

-- where what is kept begins, the place can be read
within-kept : (track : Track) (place : ℕ) → IsReadable track place → begins track ≤ place
within-kept track place readable = go track.keep refl
  where
    go : (b : Bool) → track.keep ≡ b → cond b 0 track.high ≤ place
    go true is = omega arith
    go false is = let high : place ≡ track.high = readable.onward is in omega (arith, high)

-- what is read next are the bytes of the input from the guest's place on
reads-taken : (input : List ℕ) (track : Track) (left : Option (List ℕ)) (place len : ℕ) (bytes : List ℕ) → TellsInput input track left → IsReadable track place → AreNext bytes track left place len → bytes ≡ taken input place len
reads-taken input track left place len bytes tells readable next =
    let there : bytes ≡ part track place len (drop (begins track) input) = subst (λ (o : Option (List ℕ)). IfSome o (λ all. bytes ≡ part track place len all)) tells next in
    let within = within-kept track place readable in
    let whole : begins track + (place - begins track) ≡ place = omega (arith, within) in
    there ∙ ap (take len) (drop-after (place - begins track) (begins track) input) ∙ ap (λ n. take len (drop n input)) whole

ends : (ended : Option Ended) (e : Ended) (ending : Ending) → ended ≡ Some e → ending ≡ ended_as (Some e) → EndsAs ended (Some ending)
ends ended e ending is told = subst (λ x. EndsAs x (Some ending)) (sym is) told

goes : (ended : Option Ended) → ended ≡ None → EndsAs ended None
goes ended is = subst (λ x. EndsAs x None) (sym is) tt

stepped : (input : List ℕ) (flat : Flat) (n : GuestNext) (track : Track) (left : Option (List ℕ)) (machine : Machine) (answer : Progress) (place' : ℕ) → flat.guest.core.ended ≡ None → TellsInput input track left → IsReadable track flat.place → IsGuestShaped flat.guest n → Advances flat.guest n (Ok answer) machine track left flat.place place'
    → StepsTo input flat n answer machine place'
stepped input flat (Carries (Goes core)) track left machine progress.Going place' alive tells readable shape step =
    record { at = step.0; place = step.1; out = refl; err = refl; ended = goes core.ended (shape.0 ∙ alive) }
stepped input flat (Carries (Reads a l)) track left machine progress.Going place' alive tells readable shape step =
    let P : List ℕ → Type 0 = λ bytes. IsStepped flat (read_in flat a bytes) None machine place' in
    let here : P step.0 = record { at = step.1; place = step.3; out = refl; err = refl; ended = goes flat.guest.core.ended alive } in
    subst P (reads-taken input track left flat.place l step.0 tells readable step.2) here
stepped input flat (Carries (Prints fd a l bytes core)) track left machine (progress.Prints fd' a' l') place' alive tells readable shape step =
    let P : ℕ → ℕ → ℕ → Type 0 = λ f x y. StepsTo input flat (Carries (Prints fd a l bytes core)) (progress.Prints f x y) machine place' in
    let here : P fd a l = record { bytes = bytes; core = core; prints = refl; at = step.3; place = step.4 } in
    subst (λ f. P f a' l') (sym step.0) (subst (λ x. P fd x l') (sym step.1) (subst (λ y. P fd a y) (sym step.2) here))
stepped input flat (Carries (Exits code core)) track left machine (progress.Ended ending) place' alive tells readable shape step =
    record { at = step.1; place = step.2; out = refl; err = refl; ended = ends core.ended (Exited code) ending shape.0 step.0 }
stepped input flat (Carries (Faults kind a)) track left machine (progress.Ended ending) place' alive tells readable shape step =
    record { at = step.1; place = step.2; out = refl; err = refl; ended = step.0 }
stepped input flat (Returns to) track left machine progress.Going place' alive tells readable shape step =
    record { at = step.0; place = step.1; out = refl; err = refl; ended = goes to.core.ended (shape.0 ∙ alive) }
stepped input flat (Lacks used wanted to) track left machine (progress.Ended ending) place' alive tells readable shape step =
    record { at = step.1; place = step.2; out = refl; err = refl; ended = ends to.core.ended (Roomed used wanted) ending shape.0 step.0 }
stepped input flat (Carries (Goes core)) track left machine (progress.Prints fd' a' l') place' alive tells readable shape step = absurd step
stepped input flat (Carries (Goes core)) track left machine (progress.Ended ending) place' alive tells readable shape step = absurd step
stepped input flat (Carries (Reads a l)) track left machine (progress.Prints fd' a' l') place' alive tells readable shape step = absurd step
stepped input flat (Carries (Reads a l)) track left machine (progress.Ended ending) place' alive tells readable shape step = absurd step
stepped input flat (Carries (Prints fd a l bytes core)) track left machine progress.Going place' alive tells readable shape step = absurd step
stepped input flat (Carries (Prints fd a l bytes core)) track left machine (progress.Ended ending) place' alive tells readable shape step = absurd step
stepped input flat (Carries (Exits code core)) track left machine progress.Going place' alive tells readable shape step = absurd step
stepped input flat (Carries (Exits code core)) track left machine (progress.Prints fd' a' l') place' alive tells readable shape step = absurd step
stepped input flat (Carries (Faults kind a)) track left machine progress.Going place' alive tells readable shape step = absurd step
stepped input flat (Carries (Faults kind a)) track left machine (progress.Prints fd' a' l') place' alive tells readable shape step = absurd step
stepped input flat (Carries (Stays e)) track left machine answer place' alive tells readable shape step = absurd step
stepped input flat (Returns to) track left machine (progress.Prints fd' a' l') place' alive tells readable shape step = absurd step
stepped input flat (Returns to) track left machine (progress.Ended ending) place' alive tells readable shape step = absurd step
stepped input flat (Lacks used wanted to) track left machine progress.Going place' alive tells readable shape step = absurd step
stepped input flat (Lacks used wanted to) track left machine (progress.Prints fd' a' l') place' alive tells readable shape step = absurd step

-- a guest that takes a step hadn't ended
pub alive : (g : Guest) (answer : Progress) (machine : Machine) (track : Track) (left : Option (List ℕ)) (place place' : ℕ) → Advances g (guest_next g) (Ok answer) machine track left place place' → g.core.ended ≡ None
alive g answer machine track left place place' step = go g.core.ended refl step
  where
    go : (x : Option Ended) → g.core.ended ≡ x → Advances g (guest_next_of g x) (Ok answer) machine track left place place' → g.core.ended ≡ None
    go None is step = is
    go (Some e) is step = absurd step

pub advances-are-steps : ((g : Guest) → IsGuestShaped g (guest_next g)) → AdvancesAreSteps
advances-are-steps shaped input flat track left machine answer place' tells readable step =
    stepped input flat (guest_next flat.guest) track left machine answer place' (alive flat.guest answer machine track left flat.place place' step) tells readable (shaped flat.guest) step

-- ---- machines that can take a step

pub going-at : (g : Guest) (machine : Machine) → IsAt g machine → g.core.ended ≡ None → IsGoing machine
going-at g machine at alive = record {
  ready = record { ready = at.waiting; sound = at.sound; going = ap (λ (c : Core). c.ended) at.core ∙ alive };
  stands = ∣ (g.history, at.history) ∣₁;
}

going-prop : (machine : Machine) → IsProp (IsGoing machine)
going-prop machine = hlevel props

-- what follows from a guest that a machine stands for, of which there is one at least
by-guest : {P : Type 0} (before : Machine) → IsGoing before → IsProp P → ((g : Guest) → IsAt g before → g.core.ended ≡ None → P) → P
by-guest before going only leads =
    ∥∥₁_elim going.stands only (λ (x : (h : History) × StandsFor (heap_in before) h).
    leads (guest_in before x.0) (record { core = refl; names = refl; rules = refl; history = x.1; waiting = going.ready.ready; sound = going.ready.sound }) going.ready.going)

pub going-by : (before machine : Machine) → IsGoing before → ((g : Guest) → IsAt g before → g.core.ended ≡ None → IsGoing machine) → IsGoing machine
going-by before machine going leads = by-guest before going (going-prop machine) leads

-- a step that goes on leaves a machine that can take a step
goes-on : (g : Guest) (n : GuestNext) (machine : Machine) (track : Track) (left : Option (List ℕ)) (place place' : ℕ) → g.core.ended ≡ None → IsGuestShaped g n → Advances g n (Ok progress.Going) machine track left place place' → IsGoing machine
goes-on g (Carries (Goes core)) machine track left place place' alive shape step = going-at (with_core g core) machine step.0 (shape.0 ∙ alive)
goes-on g (Carries (Reads a l)) machine track left place place' alive shape step = going-at (with_core g (filled g.core a step.0)) machine step.1 alive
goes-on g (Returns to) machine track left place place' alive shape step = going-at to machine step.0 (shape.0 ∙ alive)
goes-on g (Carries (Prints fd a l bytes core)) machine track left place place' alive shape step = absurd step
goes-on g (Carries (Faults kind a)) machine track left place place' alive shape step = absurd step
goes-on g (Carries (Exits code core)) machine track left place place' alive shape step = absurd step
goes-on g (Carries (Stays e)) machine track left place place' alive shape step = absurd step
goes-on g (Lacks used wanted to) machine track left place place' alive shape step = absurd step

pub going-on : (before machine : Machine) (track : Track) (left : Option (List ℕ)) (place place' : ℕ) → ((g : Guest) → IsGuestShaped g (guest_next g)) → IsGoing before → ((g : Guest) → IsAt g before → Advances g (guest_next g) (Ok progress.Going) machine track left place place') → IsGoing machine
going-on before machine track left place place' shaped going step =
    going-by before machine going (λ g at alive. goes-on g (guest_next g) machine track left place place' alive (shaped g) (step g at))

-- it waits for bytes of the input, and as many steps were counted as before
pub record IsAsking (before machine : Machine) (address len : ℕ) : Type 0 where
  pub sound : is_spent machine ≡ false
  pub waiting : waits machine ≡ ReadBytes
  pub asks : next (core_of machine) ≡ Reads address len
  pub same : (core_of machine).steps ≡ (core_of before).steps

asking-prop : (before machine : Machine) (address len : ℕ) → IsProp (IsAsking before machine address len)
asking-prop before machine address len = hlevel props

asks-by : (g : Guest) (n : GuestNext) (before machine : Machine) (address len : ℕ) → IsAt g before → IsGuestShaped g n → Steps g n (stop.Read address len) machine → IsAsking before machine address len
asks-by g (Carries (Reads a l)) before machine address len at shape step =
    record { sound = step.2.sound; waiting = step.2.waiting; asks = ap next step.2.core ∙ shape.1 ∙ ap (λ x. Reads x l) (sym step.0) ∙ ap (Reads address) (sym step.1); same = ap (λ (c : Core). c.steps) (step.2.core ∙ sym at.core) }
asks-by g (Carries (Goes core)) before machine address len at shape step = absurd step
asks-by g (Carries (Faults kind a)) before machine address len at shape step = absurd step
asks-by g (Carries (Prints fd a l bytes core)) before machine address len at shape step = absurd step
asks-by g (Carries (Exits code core)) before machine address len at shape step = absurd step
asks-by g (Carries (Stays (Exited code))) before machine address len at shape step = absurd step
asks-by g (Carries (Stays (Faulted kind pc a))) before machine address len at shape step = absurd step
asks-by g (Carries (Stays (Roomed used wanted))) before machine address len at shape step = absurd step
asks-by g (Returns to) before machine address len at shape step = absurd step
asks-by g (Lacks used wanted to) before machine address len at shape step = absurd step

pub asking : (before machine : Machine) (address len : ℕ) → ((g : Guest) → IsGuestShaped g (guest_next g)) → IsGoing before → ((g : Guest) → IsAt g before → Steps g (guest_next g) (stop.Read address len) machine) → IsAsking before machine address len
asking before machine address len shaped going step =
    by-guest before going (asking-prop before machine address len) (λ g at alive. asks-by g (guest_next g) before machine address len at (shaped g) (step g at))

-- it waits until its bytes are printed, and as many steps were counted as before
pub record IsToWrite (before machine : Machine) (fd address len : ℕ) : Type 0 where
  pub printing : IsPrinting machine fd address len
  pub same : (core_of machine).steps ≡ (core_of before).steps

shows-prop : (n : Next) (core : Core) (fd address len : ℕ) → IsProp (Shows n core fd address len)
shows-prop (Prints fd' a l bytes to) core fd address len = hlevel props
shows-prop (Goes to) core fd address len = hlevel props
shows-prop (Faults kind a) core fd address len = hlevel props
shows-prop (Reads a l) core fd address len = hlevel props
shows-prop (Exits code to) core fd address len = hlevel props
shows-prop (Stays e) core fd address len = hlevel props

write-prop : (before machine : Machine) (fd address len : ℕ) → IsProp (IsToWrite before machine fd address len)
write-prop before machine fd address len = hlevel (props, shows-prop)

shows-by : (g : Guest) (machine : Machine) (fd address len fd' a l : ℕ) (bytes : List ℕ) (core : Core) → core_of machine ≡ g.core → next g.core ≡ Prints fd' a l bytes core → fd ≡ fd' → address ≡ a → len ≡ l → span g.core.memory.bytes a l ≡ Some bytes → Shows (next (core_of machine)) (core_of machine) fd address len
shows-by g machine fd address len fd' a l bytes core at is one two three some =
    subst (λ c. Shows (next c) c fd address len) (sym at) (subst (λ n. Shows n g.core fd address len) (sym is) (one, two, three, ap (λ x. span g.core.memory.bytes x len) two ∙ ap (span g.core.memory.bytes a) three ∙ some))

writes-by : (g : Guest) (n : GuestNext) (before machine : Machine) (fd address len : ℕ) → IsAt g before → IsGuestShaped g n → Steps g n (stop.Write fd address len) machine → IsToWrite before machine fd address len
writes-by g (Carries (Prints fd' a l bytes core)) before machine fd address len at shape step = record {
  printing = record {
    sound = step.5.sound;
    waiting = step.5.waiting;
    printed = ap is_printed step.0 ∙ step.4;
    shows = shows-by g machine fd address len fd' a l bytes core step.5.core shape.1 step.0 step.1 step.2 step.3;
  };
  same = ap (λ (c : Core). c.steps) (step.5.core ∙ sym at.core);
}
writes-by g (Carries (Goes core)) before machine fd address len at shape step = absurd step
writes-by g (Carries (Faults kind a)) before machine fd address len at shape step = absurd step
writes-by g (Carries (Reads a l)) before machine fd address len at shape step = absurd step
writes-by g (Carries (Exits code core)) before machine fd address len at shape step = absurd step
writes-by g (Carries (Stays (Exited code))) before machine fd address len at shape step = absurd step
writes-by g (Carries (Stays (Faulted kind pc a))) before machine fd address len at shape step = absurd step
writes-by g (Carries (Stays (Roomed used wanted))) before machine fd address len at shape step = absurd step
writes-by g (Returns to) before machine fd address len at shape step = absurd step
writes-by g (Lacks used wanted to) before machine fd address len at shape step = absurd step

pub to-write : (before machine : Machine) (fd address len : ℕ) → ((g : Guest) → IsGuestShaped g (guest_next g)) → IsGoing before → ((g : Guest) → IsAt g before → Steps g (guest_next g) (stop.Write fd address len) machine) → IsToWrite before machine fd address len
to-write before machine fd address len shaped going step =
    by-guest before going (write-prop before machine fd address len) (λ g at alive. writes-by g (guest_next g) before machine fd address len at (shaped g) (step g at))

-- a step from the state of a run that machine and sinks show
pub steps-to : AdvancesAreSteps → (input : List ℕ) (flat : Flat) (track : Track) (left : Option (List ℕ)) (before machine : Machine) (answer : Progress) (place place' : ℕ) (start now : Held) → IsFlat flat before place start now → TellsInput input track left → IsReadable track place
    → ((g : Guest) → IsAt g before → Advances g (guest_next g) (Ok answer) machine track left place place') → StepsTo input flat (guest_next flat.guest) answer machine place'
steps-to law input flat track left before machine answer place place' start now so tells readable step =
    law input flat track left machine answer place' tells (subst (IsReadable track) so.place readable) (subst (λ p. Advances flat.guest (guest_next flat.guest) (Ok answer) machine track left p place') so.place (step flat.guest so.at))
