-- The image of a run is of one of its states, and its broken bytes were stored to while no object held their slots.
use Rattle.std.proofs.Common.{◌≡◌, ℕ, zero, suc, Bool, true, false, not, cond, List, [], ◌∷◌, map, filter, Option, None, Some, Result, Ok, Err, IfOk, IfSome, IsSomeAnd, refl, ap, sym, ◌∙◌, subst, arith}
use Rattle.std.specs.List.{AllByRecursion, range_with_len}
use Rattle.std.proofs.Math.Nat.{le_refl}
use Rattle.std.proofs.lemmas.Bool.{and_parts, true≢false}
use Rattle.infinite_heap.specs.Loaded.{Loaded}
use Rattle.miniheap.specs.Layout.{heap_from}
use Rattle.miniheap.specs.Slots.{slot_at, used_of}
use Rattle.miniheap.specs.Sound.{is_held_state}
use Rattle.miniheap.specs.declared.place.Slot.{Slot}
use Rattle.miniheap.specs.declared.place.SlotState.{SlotState}
use Rattle.miniheap.specs.declared.place.SlotState.TheVariants.{Held}
use Rattle.exact_heap.specs.declared.signal.Place.{Place}
use Rattle.exact_heap.specs.declared.signal.Place.TheVariants.{Call, End}
use Rattle.exact_heap.specs.History.{slots_of, canary_in}
use Rattle.rv_machine.specs.declared.settings.Settings.{Settings}
use Rattle.rv_machine.specs.Flat.{Flat, flat_run}
use Rattle.heap_image.specs.declared.image.Broken.{Broken}
use Rattle.heap_image.specs.Taken.{broken_at, broken_of, is_broken_in, is_unheld}
use Rattle.layout_run.specs.Imaged.{IsSoundImage, ImagesAreSound, image_at, image_of_first, image_of_run, if_imaged, if_signalled, or_later, place_of, signalled}
use Rattle.layout_run.specs.Laws.{BrokenBytesWereStored, RunsGoStepByStep, WholeRunsAreRuns, IsAfterSteps}
use Rattle.layout_run.specs.Outside as outside
use Rattle.layout_run.specs.Runs.{RunsAs}
use Rattle.layout_run.specs.Stored.{WasStored}
use Rattle.layout_run.specs.Whole.{is_stopped, run_until}
use Rattle.layout_run.specs.declared.ran.Ran.{Ran}
use Rattle.layout_run.specs.declared.ran.RunRefusal.{RunRefusal}

-- ---- broken bytes

unheld-unowned : (o : Option Slot) → is_unheld o ≡ true → IsSomeAnd o (λ t. ¬ (t.state ≡ Held))
unheld-unowned None is = absurd (true≢false (sym is))
unheld-unowned (Some t) is = λ held. absurd (true≢false (sym is ∙ ap (λ (s : SlotState). not (is_held_state s)) held))

-- what holds of each that is kept holds of all of them
all-kept : (keeps : ℕ → Bool) (of : ℕ → Broken) (P : Broken → Type 0) → ((a : ℕ) → keeps a ≡ true → P (of a)) → (xs : List ℕ) → AllByRecursion P (map of (filter keeps xs))
all-kept keeps of P each [] = tt
all-kept keeps of P each (x ∷ xs) = at (keeps x) refl (all-kept keeps of P each xs)
  where
    at : (b : Bool) → keeps x ≡ b → AllByRecursion P (map of (filter keeps xs)) → AllByRecursion P (map of (cond b (x ∷ filter keeps xs) (filter keeps xs)))
    at true is rest = (each x is, rest)
    at false is rest = rest

-- each broken byte of a state's image was stored to
broken-stored : BrokenBytesWereStored → RunsGoStepByStep → (program : Loaded) (args : List (List ℕ)) (settings : Settings) (input : List ℕ) (n : ℕ) (place : Place)
    → AllByRecursion (λ b. WasStored input (flat_run program args settings input) n b.addr b.byte) (image_at program place (flat_run program args settings input n)).broken
unfolding broken_of
broken-stored stored steps program args settings input n place =
    let flat : Flat = flat_run program args settings input n in
    let goes = steps program args settings input n in
    all-kept (is_broken_in (slots_of flat.guest.history) flat.guest.core.memory (canary_in flat.guest.history)) (broken_at flat.guest.core.memory) (λ b. WasStored input (flat_run program args settings input) n b.addr b.byte)
    (λ a is.
    let parts = and_parts _ _ is in
    stored input (flat_run program args settings input) n goes.0 goes.1 a (unheld-unowned (slot_at (slots_of flat.guest.history) a) parts.0) parts.1)
    (range_with_len heap_from (used_of (slots_of flat.guest.history)))

-- ---- images

module _ (stored : BrokenBytesWereStored) (goes : RunsGoStepByStep) (program : Loaded) (args : List (List ℕ)) (settings : Settings) (input : List ℕ) where
  -- the image of a state is sound
  sound-at : (budget : ℕ) (place : Place) (flat : Flat) → IsAfterSteps program args settings input flat budget → IsSoundImage program args settings input budget (image_at program place flat)
  sound-at budget place flat after' =
      let at : IsSoundImage program args settings input budget (image_at program place (flat_run program args settings input after'.steps)) =
      record { steps = after'.steps; within = after'.within; place = place; is = refl; stored = broken-stored stored goes program args settings input after'.steps place } in
      subst (λ f. IsSoundImage program args settings input budget (image_at program place f)) (sym after'.is) at

  -- the state just after the first signal's call is one of the run's
  signalled-after : (n : ℕ) (flat : Flat) → signalled program args settings input n ≡ Some flat → IsAfterSteps program args settings input flat n
  unfolding signalled
  signalled-after zero flat is = absurd (cc)
  signalled-after (suc n) flat is = at (signalled program args settings input n) (signalled-after n) is
    where
      here : Flat
      here = flat_run program args settings input (suc n)

      new : (signals : List _) → if_signalled signals here ≡ Some flat → IsAfterSteps program args settings input flat (suc n)
      new [] is = absurd (cc)
      new (signal ∷ signals) is = let same : here ≡ flat = cc in record { steps = suc n; within = le_refl _; is = sym same }

      at : (earlier : Option Flat) → ((f : Flat) → earlier ≡ Some f → IsAfterSteps program args settings input f n) → or_later earlier here ≡ Some flat → IsAfterSteps program args settings input flat (suc n)
      at (Some f) old is =
          let same : f ≡ flat = cc in
          let so = old f refl in
          record { steps = so.steps; within = omega (arith, so.within); is = sym same ∙ so.is }
      at None old is = new here.guest.history.signals is

  sound-first : (budget : ℕ) → IsSoundImage program args settings input budget (image_of_first program (signalled program args settings input budget) (flat_run program args settings input budget))
  sound-first budget = at (signalled program args settings input budget) (signalled-after budget)
    where
      at : (o : Option Flat) → ((f : Flat) → o ≡ Some f → IsAfterSteps program args settings input f budget) → IsSoundImage program args settings input budget (image_of_first program o (flat_run program args settings input budget))
      at (Some f) known = sound-at budget (place_of f.guest.history.signals) f (known f refl)
      at None known = sound-at budget End (flat_run program args settings input budget) (record { steps = budget; within = le_refl _; is = refl })

pub images_are_sound : BrokenBytesWereStored → RunsGoStepByStep → WholeRunsAreRuns → ImagesAreSound
images_are_sound stored goes whole program args settings input None budget = sound-first stored goes program args settings input budget
images_are_sound stored goes whole program args settings input (Some call) budget =
    let flat : Flat = run_until program args settings input (Some call) budget in
    sound-at stored goes program args settings input budget (cond (is_stopped (Some call) flat.guest.history) (Call call) End) flat (whole program args settings input (Some call) budget)

-- so is the image of what a run comes to
pub sound-of : ImagesAreSound → (program : Loaded) (args : List (List ℕ)) (settings : Settings) (input : List ℕ) (stop_at : Option ℕ) (budget : ℕ) (imaged : Bool) (result : Result Ran RunRefusal) (before after : outside.Held)
    → RunsAs stop_at (run_until program args settings input stop_at budget) (if_imaged imaged (image_of_run program args settings input stop_at budget)) result before after
    → IfOk result (λ ran. IfSome ran.image (IsSoundImage program args settings input budget))
sound-of sound program args settings input stop_at budget imaged (Ok ran) before after (is, out, err) = subst (λ (r : Ran). IfSome r.image (IsSoundImage program args settings input budget)) (sym is) (at imaged)
  where
    at : (b : Bool) → IfSome (if_imaged b (image_of_run program args settings input stop_at budget)) (IsSoundImage program args settings input budget)
    at false = tt
    at true = sound program args settings input stop_at budget
sound-of sound program args settings input stop_at budget imaged (Err refused) before after runs = tt
