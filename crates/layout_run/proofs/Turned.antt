-- What a turn makes of a state of a run.
use Rattle.std.proofs.Common.{◌≡◌, ◌≢◌, ◌<◌, ◌≤◌, ◌+◌, ℕ, zero, suc, true, false, cond, nat_eq, List, [], ◌++◌, drop, length, length-drop, length-take, Option, None, Some, IfSome, Result, Ok, Err, refl, sym, ◌∙◌, ap, subst, arith}
use Rattle.std.proofs.lemmas.Bool.Decides.{nat_tests}
use Rattle.std.proofs.lemmas.List.{append-nil}
use Rattle.std.specs.Io.KnownBytes.{Appends, Keeps}
use Rattle.ex_io.specs.Causes.{AppendsFront, IsPrefix}
use Rattle.ex_io.specs.Tape.{Track, begins, most_kept, input as unread}
use Rattle.ex_io.specs.declared.outside.OutsideFault.{OutsideFault}
use Rattle.infinite_heap.specs.InfiniteRun.{printed_on}
use Rattle.infinite_heap.specs.InfiniteSystem.{is_printed, taken}
use Rattle.rv_memory.specs.Memory.{span, with_first}
use Rattle.rv_machine.specs.Core.{Core, Next, Goes, Faults, Reads, Prints, Exits, Stays}
use Rattle.rv_machine.specs.Flat.{Flat, after_step}
use Rattle.rv_machine.specs.Guest.{Guest, with_core}
use Rattle.rv_machine.specs.HeapCalls.{GuestNext, Carries, Returns, Lacks, guest_next}
use Rattle.rv_machine.specs.Shape.{IsGuestShaped}
use Rattle.rv_machine.specs.Stands.{AwaitsAt, IsAt}
use Rattle.rv_machine.specs.Steps.{next}
use Rattle.rv_machine.specs.declared.machine.Machine.{Machine}
use Rattle.rv_machine.specs.declared.stop.Waiting.TheVariants.{WriteDone}
use Rattle.layout_run.specs.Advances.{Advances, CutsInput, EndsAs, IsGoing, IsStepped, IsToPrint, ReadsPast, Shows, TellsInput}
use Rattle.layout_run.specs.Outside.{Held, held}
use Rattle.layout_run.specs.Runs.{MayFail}
use Rattle.layout_run.specs.Turns.{IsAtLimit, IsFlat, Puts, Turns}
use Rattle.layout_run.specs.declared.step.Progress.{Progress}
use Rattle.layout_run.specs.declared.step.Progress.TheVariants as progress
use Rattle.layout_run.specs.declared.ran.Ending.{Ending}
use Rattle.layout_run.specs.declared.ran.RunRefusal.{RunRefusal}
use Rattle.layout_run.specs.declared.ran.RunRefusal.TheVariants as why
use Rattle.layout_run.proofs.Advanced.{going-at, going-by}
use Rattle.layout_run.proofs.Known.{append-some, appends-appends, appends-front, front-wider, whole-front}

-- ---- a step that printed nothing

pub turns-on : (flat to : Flat) (ending : Option Ending) (before after' : Machine) (place place' : ℕ) (start now : Held) → IsFlat flat before place start now → IsStepped flat to ending after' place' → Turns to (Ok ending) after' place' start now
turns-on flat to ending before after' place place' start now so step = (
  record {
    at = step.at;
    place = step.place;
    out = subst (λ o. Appends start.out now.out o) (sym step.out) so.out;
    err = subst (λ o. Appends start.err now.err o) (sym step.err) so.err;
  },
  step.ended,
)

-- ---- a step that was cut short before it printed

-- a step only adds to what is printed
grows : (descriptor fd : ℕ) (before bytes : List ℕ) → IsPrefix before (printed_on descriptor fd before bytes)
grows descriptor fd before bytes = elim (nat_eq fd descriptor) as (λ b. IsPrefix before (cond b (before ++ bytes) before)) [ true ↦ (bytes, refl) | false ↦ ([], sym (append-nil before)) ]

abbrev pub Grows : Flat → Flat → Type 0
Grows flat later = IsPrefix flat.out later.out × IsPrefix flat.err later.err

pub stays : (flat : Flat) → Grows flat flat
stays flat = (([], sym (append-nil flat.out)), ([], sym (append-nil flat.err)))

pub step-grows : (flat : Flat) (n : GuestNext) (input : List ℕ) → Grows flat (after_step input flat n)
step-grows flat (Carries (Prints fd a l bytes core)) input = (grows 1 fd flat.out bytes, grows 2 fd flat.err bytes)
step-grows flat (Carries (Goes core)) input = stays flat
step-grows flat (Carries (Reads a l)) input = stays flat
step-grows flat (Carries (Faults kind a)) input = stays flat
step-grows flat (Carries (Exits code core)) input = stays flat
step-grows flat (Carries (Stays e)) input = stays flat
step-grows flat (Returns to) input = stays flat
step-grows flat (Lacks used wanted to) input = stays flat

-- neither sink has failed before a put
no-sink : (refused : RunRefusal) (to : Flat) (faults faults' : ℕ) → CutsInput {T = Progress} (Err refused) faults faults' → MayFail refused to
no-sink why.Memory to faults faults' cut = tt
no-sink why.Input to faults faults' cut = tt
no-sink why.Source to faults faults' cut = tt
no-sink why.Out to faults faults' cut = absurd cut
no-sink why.Err to faults faults' cut = absurd cut

pub turns-cut : (flat : Flat) (n : GuestNext) (input : List ℕ) (refused : RunRefusal) (before after' : Machine) (place place' faults faults' : ℕ) (start now : Held) → IsFlat flat before place start now → CutsInput {T = Progress} (Err refused) faults faults' → Turns (after_step input flat n) (Err refused) after' place' start now
turns-cut flat n input refused before after' place place' faults faults' start now so cut =
    let more = step-grows flat n input in (
      front-wider start.out now.out flat.out _ (whole-front start.out now.out flat.out so.out) more.0,
      front-wider start.err now.err flat.err _ (whole-front start.err now.err flat.err so.err) more.1,
      no-sink refused (after_step input flat n) faults faults' cut,
    )

-- ---- a step that prints

-- bytes for a descriptor are added to what it has
printed-on : (descriptor fd : ℕ) (old mid new : Option (List ℕ)) (before bytes : List ℕ) → nat_eq fd descriptor ≡ true → Appends old mid before → Appends mid new bytes → Appends old new (printed_on descriptor fd before bytes)
printed-on descriptor fd old mid new before bytes test one two = subst (λ b. Appends old new (cond b (before ++ bytes) before)) (sym test) (appends-appends old mid new before bytes one two)

printed-front : (descriptor fd : ℕ) (old mid new : Option (List ℕ)) (before bytes : List ℕ) → nat_eq fd descriptor ≡ true → Appends old mid before → AppendsFront mid new bytes → AppendsFront old new (printed_on descriptor fd before bytes)
printed-front descriptor fd old mid new before bytes test one two = subst (λ b. AppendsFront old new (cond b (before ++ bytes) before)) (sym test) (appends-front old mid new before bytes one two)

-- and those of the other stay
printed-off : (descriptor fd : ℕ) (old mid : Option (List ℕ)) (before bytes : List ℕ) → nat_eq fd descriptor ≡ false → Appends old mid before → Appends old mid (printed_on descriptor fd before bytes)
printed-off descriptor fd old mid before bytes test one = subst (λ b. Appends old mid (cond b (before ++ bytes) before)) (sym test) one

-- what gets bytes isn't empty
printed-some : (descriptor fd : ℕ) (before bytes : List ℕ) → nat_eq fd descriptor ≡ true → bytes ≢ [] → printed_on descriptor fd before bytes ≢ []
printed-some descriptor fd before bytes test some = subst (λ b. cond b (before ++ bytes) before ≢ []) (sym test) (append-some before bytes some)

first-some : (byte : Option ℕ) (others : Option (List ℕ)) → with_first byte others ≢ Some []
first-some None others = λ is. cc
first-some (Some byte) None = λ is. cc
first-some (Some byte) (Some others) = λ is. cc

span-some : (bytes : ℕ → Option ℕ) (from len : ℕ) → 0 < len → span bytes from len ≢ Some []
span-some bytes from zero some = absurd (omega arith)
span-some bytes from (suc len) some = first-some (bytes from) (span bytes (from + 1) len)

-- a put that was refused, on this sink
abbrev pub RefusesOut : RunRefusal → Type 0
RefusesOut why.Err = ⊥
RefusesOut other = Unit {0}

abbrev pub RefusesErr : RunRefusal → Type 0
RefusesErr why.Out = ⊥
RefusesErr other = Unit {0}

out-may : (refused : RunRefusal) (to : Flat) → RefusesOut refused → to.out ≢ [] → MayFail refused to
out-may why.Memory to put some = tt
out-may why.Input to put some = tt
out-may why.Source to put some = tt
out-may why.Out to put some = some
out-may why.Err to put some = absurd put

err-may : (refused : RunRefusal) (to : Flat) → RefusesErr refused → to.err ≢ [] → MayFail refused to
err-may why.Memory to put some = tt
err-may why.Input to put some = tt
err-may why.Source to put some = tt
err-may why.Out to put some = absurd put
err-may why.Err to put some = some

not-two : (fd : ℕ) → nat_eq fd 1 ≡ true → nat_eq fd 2 ≡ false
not-two fd is = grind (arith, nat_tests)

is-two : (fd : ℕ) → is_printed fd ≡ true → nat_eq fd 1 ≡ false → nat_eq fd 2 ≡ true
is-two fd printed other = grind (arith, nat_tests)

-- what a put says of the bytes of a waiting guest: so for each guest that the machine stands for
abbrev pub Wrote : Machine → Result (Unit {0}) OutsideFault → Machine → (old new : Option (List ℕ)) → Type 0
Wrote waiting result after' old new = (g : Guest) → AwaitsAt g WriteDone waiting → Puts g (next g.core) result after' old new

module _ (input : List ℕ) (flat : Flat) (n : GuestNext) (fd address len : ℕ) (before waiting after' : Machine) (place place' : ℕ) (start : Held) (out err : Option (List ℕ)) (alive : flat.guest.core.ended ≡ None) (shape : IsGuestShaped flat.guest n) (so : IsFlat flat before place start (held out err)) (printing : IsToPrint flat n fd address len waiting place') where
  abbrev prints : Next
  prints = Prints fd address len printing.bytes printing.core

  shaped : IsGuestShaped flat.guest (Carries prints)
  shaped = subst (IsGuestShaped flat.guest) printing.prints shape

  put : (result : Result (Unit {0}) OutsideFault) (old new : Option (List ℕ)) → Wrote waiting result after' old new → Puts flat.guest prints result after' old new
  put result old new wrote = subst (λ n. Puts flat.guest n result after' old new) shaped.1 (wrote flat.guest printing.at)

  some : printing.bytes ≢ []
  some = λ none. span-some flat.guest.core.memory.bytes address len shaped.0.4 (shaped.0.2 ∙ ap Some none)

  going : EndsAs printing.core.ended None
  going = subst (λ x. EndsAs x None) (sym (ap (λ (c : Core). c.ended) shaped.0.3 ∙ alive)) tt

  pub wrote-out : (out' : Option (List ℕ)) → nat_eq fd 1 ≡ true → Wrote waiting (Ok tt) after' out out' → Turns (after_step input flat n) (Ok None) after' place' start (held out' err)
  wrote-out out' test wrote =
      let done = put (Ok tt) out out' wrote in
      subst (λ n. Turns (after_step input flat n) (Ok None) after' place' start (held out' err)) (sym printing.prints) (
        record {
          at = done.0;
          place = printing.place;
          out = printed-on 1 fd start.out out out' flat.out printing.bytes test so.out done.1;
          err = printed-off 2 fd start.err err flat.err printing.bytes (not-two fd test) so.err;
        },
        going,
      )

  pub wrote-err : (err' : Option (List ℕ)) → is_printed fd ≡ true → nat_eq fd 1 ≡ false → Wrote waiting (Ok tt) after' err err' → Turns (after_step input flat n) (Ok None) after' place' start (held out err')
  wrote-err err' printed test wrote =
      let done = put (Ok tt) err err' wrote in
      subst (λ n. Turns (after_step input flat n) (Ok None) after' place' start (held out err')) (sym printing.prints) (
        record {
          at = done.0;
          place = printing.place;
          out = printed-off 1 fd start.out out flat.out printing.bytes test so.out;
          err = printed-on 2 fd start.err err err' flat.err printing.bytes (is-two fd printed test) so.err done.1;
        },
        going,
      )

  pub failed-out : (fault : OutsideFault) (refused : RunRefusal) (out' : Option (List ℕ)) → RefusesOut refused → nat_eq fd 1 ≡ true → Wrote waiting (Err fault) after' out out' → Turns (after_step input flat n) (Err refused) after' place' start (held out' err)
  failed-out fault refused out' put-out test wrote =
      let front = put (Err fault) out out' wrote in
      subst (λ n. Turns (after_step input flat n) (Err refused) after' place' start (held out' err)) (sym printing.prints) (
        printed-front 1 fd start.out out out' flat.out printing.bytes test so.out front,
        whole-front start.err err _ (printed-off 2 fd start.err err flat.err printing.bytes (not-two fd test) so.err),
        out-may refused (after_step input flat (Carries prints)) put-out (printed-some 1 fd flat.out printing.bytes test some),
      )

  pub failed-err : (fault : OutsideFault) (refused : RunRefusal) (err' : Option (List ℕ)) → RefusesErr refused → is_printed fd ≡ true → nat_eq fd 1 ≡ false → Wrote waiting (Err fault) after' err err' → Turns (after_step input flat n) (Err refused) after' place' start (held out err')
  failed-err fault refused err' put-err printed test wrote =
      let front = put (Err fault) err err' wrote in
      subst (λ n. Turns (after_step input flat n) (Err refused) after' place' start (held out err')) (sym printing.prints) (
        whole-front start.out out _ (printed-off 1 fd start.out out flat.out printing.bytes test so.out),
        printed-front 2 fd start.err err err' flat.err printing.bytes (is-two fd printed test) so.err front,
        err-may refused (after_step input flat (Carries prints)) put-err (printed-some 2 fd flat.err printing.bytes (is-two fd printed test) some),
      )

-- what was printed leaves a machine that can take a step
went-on : (g : Guest) (n : GuestNext) (fd address len : ℕ) (waiting after' : Machine) (track : Track) (left : Option (List ℕ)) (place place' : ℕ) (old new : Option (List ℕ)) → g.core.ended ≡ None → IsGuestShaped g n → Advances g n (Ok (progress.Prints fd address len)) waiting track left place place' → Wrote waiting (Ok tt) after' old new → IsGoing after'
went-on g (Carries (Prints fd' a l bytes core)) fd address len waiting after' track left place place' old new alive shape step wrote =
    let done = subst (λ n. Puts g n (Ok tt) after' old new) shape.1 (wrote g step.3) in
    going-at (with_core g core) after' done.0 (ap (λ (c : Core). c.ended) shape.0.3 ∙ alive)
went-on g (Carries (Goes core)) fd address len waiting after' track left place place' old new alive shape step wrote = absurd step
went-on g (Carries (Faults kind a)) fd address len waiting after' track left place place' old new alive shape step wrote = absurd step
went-on g (Carries (Reads a l)) fd address len waiting after' track left place place' old new alive shape step wrote = absurd step
went-on g (Carries (Exits code core)) fd address len waiting after' track left place place' old new alive shape step wrote = absurd step
went-on g (Carries (Stays e)) fd address len waiting after' track left place place' old new alive shape step wrote = absurd step
went-on g (Returns to) fd address len waiting after' track left place place' old new alive shape step wrote = absurd step
went-on g (Lacks used wanted to) fd address len waiting after' track left place place' old new alive shape step wrote = absurd step

pub printed-going : (before waiting after' : Machine) (fd address len : ℕ) (track : Track) (left : Option (List ℕ)) (place place' : ℕ) (old new : Option (List ℕ)) → ((g : Guest) → IsGuestShaped g (guest_next g)) → IsGoing before
    → ((g : Guest) → IsAt g before → Advances g (guest_next g) (Ok (progress.Prints fd address len)) waiting track left place place') → Wrote waiting (Ok tt) after' old new → IsGoing after'
printed-going before waiting after' fd address len track left place place' old new shaped going step wrote =
    going-by before after' going (λ g at alive. went-on g (guest_next g) fd address len waiting after' track left place place' old new alive (shaped g) (step g at) wrote)

-- ---- a put that took nothing

front-kept : (old new : Option (List ℕ)) (bytes : List ℕ) → Keeps old new → AppendsFront old new bytes
front-kept None new bytes kept = ([], (bytes, refl), tt)
front-kept (Some old) None bytes kept = absurd kept
front-kept (Some old) (Some new) bytes kept = ([], (bytes, refl), kept ∙ sym (append-nil old))

pub puts-nothing : (g : Guest) (n : Next) (from : Core) (fd address len : ℕ) (m : Machine) (fault : OutsideFault) (old new : Option (List ℕ)) → Shows n from fd address len → Keeps old new → Puts g n (Err fault) m old new
puts-nothing g (Prints fd' a l bytes core) from fd address len m fault old new shows kept = front-kept old new bytes kept
puts-nothing g (Goes core) from fd address len m fault old new shows kept = absurd shows
puts-nothing g (Faults kind a) from fd address len m fault old new shows kept = absurd shows
puts-nothing g (Reads a l) from fd address len m fault old new shows kept = absurd shows
puts-nothing g (Exits code core) from fd address len m fault old new shows kept = absurd shows
puts-nothing g (Stays e) from fd address len m fault old new shows kept = absurd shows

pub keeps-same : (known : Option (List ℕ)) → Keeps known known
keeps-same None = tt
keeps-same (Some bytes) = refl

-- ---- a read past the most that is kept

past-read : (input : List ℕ) (place len : ℕ) → place ≤ most_kept → most_kept < place + len → most_kept < length input → most_kept < place + length (taken input place len)
past-read input place len within past long = omega (arith, length-take len (drop place input), length-drop place input, within, past, long)

past-step : (input : List ℕ) (flat : Flat) (n : GuestNext) (track : Track) (left : Option (List ℕ)) → track.keep ≡ true → unread track left ≡ Some (drop (begins track) input) → ReadsPast n track left flat.place → most_kept < (after_step input flat n).place
past-step input flat (Carries (Reads address len)) track left keep tells passes =
    let begin : begins track ≡ 0 = ap (λ b. cond b 0 track.high) keep in
    let whole : unread track left ≡ Some input = tells ∙ ap (λ n. Some (drop n input)) begin in
    past-read input flat.place len passes.within passes.past (subst (λ (o : Option (List ℕ)). IfSome o (λ bytes. most_kept < length bytes)) whole passes.long)
past-step input flat (Carries (Goes core)) track left keep tells passes = absurd passes
past-step input flat (Carries (Faults kind address)) track left keep tells passes = absurd passes
past-step input flat (Carries (Prints fd address len bytes core)) track left keep tells passes = absurd passes
past-step input flat (Carries (Exits code core)) track left keep tells passes = absurd passes
past-step input flat (Carries (Stays ended)) track left keep tells passes = absurd passes
past-step input flat (Returns to) track left keep tells passes = absurd passes
past-step input flat (Lacks used wanted to) track left keep tells passes = absurd passes

within-read : (n : GuestNext) (track : Track) (left : Option (List ℕ)) (place : ℕ) → ReadsPast n track left place → place ≤ most_kept
within-read (Carries (Reads address len)) track left place passes = passes.within
within-read (Carries (Goes core)) track left place passes = absurd passes
within-read (Carries (Faults kind address)) track left place passes = absurd passes
within-read (Carries (Prints fd address len bytes core)) track left place passes = absurd passes
within-read (Carries (Exits code core)) track left place passes = absurd passes
within-read (Carries (Stays ended)) track left place passes = absurd passes
within-read (Returns to) track left place passes = absurd passes
within-read (Lacks used wanted to) track left place passes = absurd passes

-- it isn't made, and nothing is printed
pub at-limit : (input : List ℕ) (flat : Flat) (machine : Machine) (track : Track) (left : Option (List ℕ)) (place : ℕ) (start now : Held) → track.keep ≡ true → TellsInput input track left → IsFlat flat machine place start now → ReadsPast (guest_next flat.guest) track left place → IsAtLimit input flat start now
at-limit input flat machine track left place start now keep tells so passes =
    let there = subst (ReadsPast (guest_next flat.guest) track left) so.place passes in record {
      within = within-read (guest_next flat.guest) track left flat.place there;
      past = past-step input flat (guest_next flat.guest) track left keep tells there;
      out = so.out;
      err = so.err;
    }
