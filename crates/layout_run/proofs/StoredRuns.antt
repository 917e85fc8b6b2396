-- Each signal of a run is of a byte that was stored to while no object held its slot.
use Rattle.std.proofs.Common.{◌≡◌, ℕ, zero, suc, ◌^◌, ◌<◌, ◌≤◌, Bool, true, false, not, ◌⊎◌, inl, inr, List, Option, None, Some, IsSomeAnd, refl, ap, sym, ◌∙◌, subst, arith}
use Rattle.std.specs.Prelude.{slice_get, unwrap_or}
use Rattle.std.proofs.Math.Nat.{le_refl}
use Rattle.std.proofs.lemmas.Bool.{eq-eqb, true≢false}
use Rattle.std.proofs.lemmas.Option.{slice_get_within}
use Rattle.infinite_heap.specs.Loaded.{Loaded}
use Rattle.rv_memory.specs.Memory.{Memory, is_byte, is_broken, IsIntact}
use Rattle.miniheap.specs.declared.place.Slot.{Slot}
use Rattle.miniheap.specs.declared.place.SlotState.TheVariants.{Free, Held}
use Rattle.miniheap.specs.Slots.{slot_at}
use Rattle.miniheap.specs.WordList.{canary_of}
use Rattle.exact_heap.specs.declared.signal.Signal.{Signal}
use Rattle.exact_heap.specs.declared.signal.Place.TheVariants.{End}
use Rattle.exact_heap.specs.History.{History, no_history, slots_of, canary_in}
use Rattle.exact_heap.specs.Lawful.{IsLawful}
use Rattle.exact_heap.specs.Placing.{HeapState, byte_at}
use Rattle.exact_heap.specs.Unowned.{IsUnownedAt, IsFreshAt, IsSeenAtEnd}
use Rattle.rv_machine.specs.declared.settings.Settings.{Settings}
use Rattle.rv_machine.specs.Flat.{Flat, flat_step, flat_steps, flat_run}
use Rattle.rv_machine.specs.Guest.{heap_of}
use Rattle.layout_run.specs.Stored.{IsStep, IsRun, Writes, IsUnowned, IsFresh, byte_in, WasStored}
use Rattle.layout_run.specs.Whole.{is_stopped, unless_stopped, run_until}
use Rattle.layout_run.specs.Laws.{Begins, IsSound, IsAfterSteps, BrokenBytesWereStored, SignalsAreOfStoredBytes, EndSignalsAreOfStoredBytes, RunsGoStepByStep, WholeRunsAreRuns}
use Rattle.layout_run.proofs.StoredBytes.{Puts}
use Rattle.layout_run.proofs.StoredSteps.{HeapLaws, Keeps, IsNew, OldOrNew, IsDone, step_done, got_behind}

-- ---- what has become of an address that no object holds

-- the byte at an address is the canary's
abbrev IsCanary : Flat → (address : ℕ) → Type 0
IsCanary flat address = is_broken flat.guest.core.memory (canary_in flat.guest.history) address ≡ false

-- an address was written after a step, and the last write left what is there
record HasWrite (input : List ℕ) (states : ℕ → Flat) (made n address : ℕ) : Type 0 where
  last : ℕ
  later : made < last
  within : last < n
  writes : Writes input (states last) address
  none : (i : ℕ) → last < i → i < n → ¬ (Writes input (states i) address)
  value : ℕ
  left : byte_in (states (suc last)) address ≡ Some value
  stays : byte_in (states n) address ≡ Some value

-- since an address's slot was made or filled, no object has held it, and it has the canary's byte still or was written
record IsTraced (input : List ℕ) (states : ℕ → Flat) (n address : ℕ) : Type 0 where
  made : ℕ
  earlier : made < n
  before : ¬ (IsUnowned (states made) address)
  fresh : IsFresh (states (suc made)) address
  unowned : (i : ℕ) → made < i → i ≤ n → IsUnowned (states i) address
  byte : IsCanary (states n) address ⊎ HasWrite input states made n address

traced_stored : (input : List ℕ) (states : ℕ → Flat) (n address value made : ℕ) → ¬ (IsUnowned (states made) address) → IsFresh (states (suc made)) address → ((i : ℕ) → made < i → i ≤ n → IsUnowned (states i) address)
    → (w : HasWrite input states made n address) → w.value ≡ value → WasStored input states n address value
traced_stored input states n address value made before fresh unowned w e = record {
  made = made;
  before = before;
  fresh = fresh;
  unowned = unowned;
  last = w.last;
  later = w.later;
  within = w.within;
  writes = w.writes;
  none = w.none;
  left = w.left ∙ ap Some e;
  stays = w.stays ∙ ap Some e;
}

-- ---- one step more

last_or_before : (i n : ℕ) → i < suc n → (i ≡ n) ⊎ (i < n)
last_or_before i n h = grind arith

-- what held of each step up to the last one holds up to one more
one_step_more : (P : ℕ → Type 0) (from n : ℕ) → ((i : ℕ) → from < i → i < n → P i) → P n → (i : ℕ) → from < i → i < suc n → P i
one_step_more P from n each now i later most = at (last_or_before i n most)
  where
    at : (i ≡ n) ⊎ (i < n) → P i
    at (inl e) = subst P (sym e) now
    at (inr h) = each i later h

-- and so does what held of each state
one_state_more : (P : ℕ → Type 0) (from n : ℕ) → ((i : ℕ) → from < i → i ≤ n → P i) → P (suc n) → (i : ℕ) → from < i → i ≤ suc n → P i
one_state_more P from n each now i later most = one_step_more P from (suc n) (λ j l m. each j l (omega arith)) now i later (omega arith)

-- a step that doesn't write it leaves it
write_kept : (input : List ℕ) (states : ℕ → Flat) (made n address : ℕ) → HasWrite input states made n address → ¬ (Writes input (states n) address) → byte_in (states (suc n)) address ≡ byte_in (states n) address → HasWrite input states made (suc n) address
write_kept input states made n address w quiet same = record {
  last = w.last;
  later = w.later;
  within = omega (arith, w.within);
  writes = w.writes;
  none = one_step_more (λ i. ¬ (Writes input (states i) address)) w.last n w.none quiet;
  value = w.value;
  left = w.left;
  stays = same ∙ w.stays;
}

not_broken : (here : Option ℕ) (byte : ℕ) → here ≡ Some byte → not (is_byte here byte) ≡ false
not_broken here byte e = ap (λ (o : Option ℕ). not (is_byte o byte)) e ∙ ap not (eq-eqb byte byte refl)

-- in a slot that has just been made or filled
fresh_canary : HeapLaws → (s : HeapState) (address : ℕ) → IsFreshAt s address → is_broken s.memory (canary_in s.history) address ≡ false
fresh_canary laws s address f = at (slot_at (slots_of s.history) address) refl f
  where
    at : (o : Option Slot) → slot_at (slots_of s.history) address ≡ o → IsSomeAnd o (λ t. IsIntact s.memory (canary_in s.history) t.addr (2 ^ t.class)) → is_broken s.memory (canary_in s.history) address ≡ false
    at None e k = absurd k
    at (Some t) e k = let h = laws.hold (slots_of s.history) address t e in not_broken (s.memory.bytes address) _ (k address h.0 h.1)

same_broken : (m k : Memory) (word same address : ℕ) → m.bytes address ≡ k.bytes address → word ≡ same → is_broken m word address ≡ is_broken k same address
same_broken m k word same address e f = cc

-- the next state but for its own step
record IsNext (input : List ℕ) (states : ℕ → Flat) (n : ℕ) : Type 0 where
  done : IsDone (Writes input (states n)) (heap_of (states n).guest) (heap_of (states (suc n)).guest)
  traced : (address : ℕ) → IsUnowned (states n) address → IsTraced input states n address

byte_next : (input : List ℕ) (states : ℕ → Flat) (made n address : ℕ) → made < n → (states (suc n)).guest.history.seed ≡ (states n).guest.history.seed → Puts (Writes input (states n) address) (byte_in (states n) address) (byte_in (states (suc n)) address)
    → IsCanary (states n) address ⊎ HasWrite input states made n address → IsCanary (states (suc n)) address ⊎ HasWrite input states made (suc n) address
byte_next input states made n address earlier seed (inl p) b = inr (record {
  last = n;
  later = earlier;
  within = omega arith;
  writes = p.0;
  none = λ i h k. absurd (omega arith);
  value = p.1.0;
  left = p.1.1;
  stays = p.1.1;
})
byte_next input states made n address earlier seed (inr p) (inl c) = inl (same_broken (states (suc n)).guest.core.memory (states n).guest.core.memory (canary_in (states (suc n)).guest.history) (canary_in (states n).guest.history) address p.1 (ap canary_of seed) ∙ c)
byte_next input states made n address earlier seed (inr p) (inr w) = inr (write_kept input states made n address w p.0 p.1)

traced_next : HeapLaws → (input : List ℕ) (states : ℕ → Flat) (n : ℕ) → IsNext input states n → (address : ℕ) → IsUnowned (states (suc n)) address → IsTraced input states (suc n) address
traced_next laws input states n next address u = at (next.done.slots address u)
  where
    at : Keeps (Writes input (states n)) (heap_of (states n).guest) (heap_of (states (suc n)).guest) address → IsTraced input states (suc n) address
    at (inl h) =
        let t = next.traced address h.0 in
        record {
          made = t.made;
          earlier = omega (arith, t.earlier);
          before = t.before;
          fresh = t.fresh;
          unowned = one_state_more (λ i. IsUnowned (states i) address) t.made n t.unowned u;
          byte = byte_next input states t.made n address t.earlier next.done.seed h.1 t.byte;
        }
    at (inr h) = record {
      made = n;
      earlier = omega arith;
      before = h.0;
      fresh = h.1;
      unowned = one_state_more (λ i. IsUnowned (states i) address) n n (λ i k m. absurd (omega arith)) u;
      byte = inl (fresh_canary laws (heap_of (states (suc n)).guest) address h.1);
    }

-- ---- signals

-- a broken byte was written
broken_written : (input : List ℕ) (states : ℕ → Flat) (made n address : ℕ) → is_broken (states n).guest.core.memory (canary_in (states n).guest.history) address ≡ true → IsCanary (states n) address ⊎ HasWrite input states made n address → HasWrite input states made n address
broken_written input states made n address broken (inl c) = absurd (true≢false (sym broken ∙ c))
broken_written input states made n address broken (inr w) = w

-- a signal's value is what the last write left
value_is : (flat : Flat) (address value byte : ℕ) → byte ≡ byte_at flat.guest.core.memory address → byte_in flat address ≡ Some value → value ≡ byte
value_is flat address value byte e f = sym (e ∙ ap (λ (o : Option ℕ). unwrap_or o 0) f)

sound_new : (input : List ℕ) (states : ℕ → Flat) (n : ℕ) → IsNext input states n → (signal : Signal) → IsNew (Writes input (states n)) (heap_of (states n).guest) (heap_of (states (suc n)).guest) signal → IsSound input states (suc n) signal
sound_new input states n next signal new =
    let a : ℕ = signal.addr in
    let t = next.traced a new.seen.was_unowned in
    let w = write_kept input states t.made n a (broken_written input states t.made n a new.seen.broken t.byte) (new.quiet a) new.seen.stays in
    record {
      call = (states (suc n)).guest.history.calls;
      place = new.seen.place;
      step = n;
      made = omega arith;
      is_call = record { before = sym new.calls; after = refl };
      stored = traced_stored input states (suc n) a signal.byte t.made t.before t.fresh (one_state_more (λ i. IsUnowned (states i) a) t.made n t.unowned new.seen.is_unowned) w (value_is (states (suc n)) a w.value signal.byte new.seen.byte w.stays);
    }

sound_later : (input : List ℕ) (states : ℕ → Flat) (n : ℕ) (signal : Signal) → IsSound input states n signal → IsSound input states (suc n) signal
sound_later input states n signal s = record { call = s.call; place = s.place; step = s.step; made = omega (arith, s.made); is_call = s.is_call; stored = s.stored }

sound_next : (input : List ℕ) (states : ℕ → Flat) (n : ℕ) → IsNext input states n → ((k : ℕ) (signal : Signal) → slice_get (states n).guest.history.signals k ≡ Some signal → IsSound input states n signal)
    → (k : ℕ) (signal : Signal) → OldOrNew (Writes input (states n)) (heap_of (states n).guest) (heap_of (states (suc n)).guest) k signal → IsSound input states (suc n) signal
sound_next input states n next sound k signal (inl old) = sound_later input states n signal (sound k signal old)
sound_next input states n next sound k signal (inr new) = sound_new input states n next signal new

-- ---- runs

-- what holds of a run so far
record IsSoFar (input : List ℕ) (states : ℕ → Flat) (n : ℕ) : Type 0 where
  lawful : IsLawful (states n).guest.history
  traced : (address : ℕ) → IsUnowned (states n) address → IsTraced input states n address
  sound : (k : ℕ) (signal : Signal) → slice_get (states n).guest.history.signals k ≡ Some signal → IsSound input states n signal

so_far : HeapLaws → (input : List ℕ) (states : ℕ → Flat) (n : ℕ) → Begins (states 0) → IsRun input states n → IsSoFar input states n
so_far laws input states zero begins run = record {
  lawful = subst IsLawful (sym begins) (laws.begins (states 0).guest.history.seed);
  traced = λ a u. absurd (subst (λ (x : History). IsUnownedAt x a) begins u);
  sound = λ k signal e. absurd (nothing k signal (ap (λ (x : History). slice_get x.signals k) (sym begins) ∙ e));
}
  where
    nothing : (k : ℕ) (signal : Signal) → slice_get (no_history (states 0).guest.history.seed).signals k ≡ Some signal → ⊥
    nothing k signal e = absurd (cc)
so_far laws input states (suc n) begins run =
    let s = so_far laws input states n begins (λ i h. run i (omega arith)) in
    let next : IsNext input states n = record { done = step_done laws input (states n) (states (suc n)) (run n (omega arith)) s.lawful; traced = s.traced } in
    record {
      lawful = next.done.lawful;
      traced = traced_next laws input states n next;
      sound = λ k signal e. sound_next input states n next s.sound k signal (next.done.signals k signal e);
    }

pub signals_are_of_stored_bytes : HeapLaws → SignalsAreOfStoredBytes
signals_are_of_stored_bytes laws input states n begins run = (so_far laws input states n begins run).sound

pub broken_bytes_were_stored : HeapLaws → BrokenBytesWereStored
broken_bytes_were_stored laws input states n begins run address u broken =
    let t = (so_far laws input states n begins run).traced address u in
    let w = broken_written input states t.made n address broken t.byte in
    traced_stored input states n address (byte_at (states n).guest.core.memory address) t.made t.before t.fresh t.unowned w (value_is (states n) address w.value (byte_at (states n).guest.core.memory address) refl w.stays)

-- ---- the end

free_unowned : (h : History) (address : ℕ) → IsSomeAnd (slot_at (slots_of h) address) (λ t. t.state ≡ Free) → IsUnownedAt h address
free_unowned h address f = at (slot_at (slots_of h) address) f
  where
    at : (o : Option Slot) → IsSomeAnd o (λ t. t.state ≡ Free) → IsSomeAnd o (λ t. t.state ≡ Held → ⊥)
    at None k = k
    at (Some t) k = λ e. absurd (cc)

pub end_signals_are_of_stored_bytes : HeapLaws → EndSignalsAreOfStoredBytes
end_signals_are_of_stored_bytes laws input states n begins run k signal past e =
    let added = laws.end_leaves (heap_of (states n).guest) in
    at (got_behind (IsSeenAtEnd (heap_of (states n).guest)) (states n).guest.history.signals added.added k signal added.seen (ap (λ (x : History). slice_get x.signals k) (sym added.behind) ∙ e))
  where
    at : (slice_get (states n).guest.history.signals k ≡ Some signal) ⊎ IsSeenAtEnd (heap_of (states n).guest) signal → (signal.place ≡ End) × WasStored input states n signal.addr signal.byte
    at (inl old) = absurd (omega (arith, past, slice_get_within (states n).guest.history.signals k signal old))
    at (inr seen) =
        (seen.place, subst (WasStored input states n signal.addr) (sym seen.byte) (broken_bytes_were_stored laws input states n begins run signal.addr (free_unowned (states n).guest.history signal.addr seen.free) seen.broken))

-- ---- runs whose patches stay

steps_so : (program : Loaded) (args : List (List ℕ)) (settings : Settings) (input : List ℕ) (n i : ℕ) → i < n → IsStep input (flat_run program args settings input i) (flat_run program args settings input (suc i))
unfolding flat_steps
steps_so program args settings input n i h = record {
  patches = (flat_run program args settings input i).guest.rules.patches;
  raised = record { pads = λ site. le_refl _; fronts = λ site. le_refl _; defers = λ sites. le_refl _ };
  steps = refl;
}

pub runs_go_step_by_step : RunsGoStepByStep
unfolding flat_steps
runs_go_step_by_step program args settings input n = (refl, steps_so program args settings input n)

pub whole_runs_are_runs : WholeRunsAreRuns
unfolding run_until flat_steps
whole_runs_are_runs program args settings input stop_at zero = record { steps = 0; within = omega arith; is = refl }
whole_runs_are_runs program args settings input stop_at (suc budget) =
    let so = whole_runs_are_runs program args settings input stop_at budget in
    at (is_stopped stop_at (run_until program args settings input stop_at budget).guest.history) so
  where
    at : (b : Bool) → IsAfterSteps program args settings input (run_until program args settings input stop_at budget) budget
        → IsAfterSteps program args settings input (unless_stopped b input (run_until program args settings input stop_at budget)) (suc budget)
    at true so = record { steps = so.steps; within = omega (arith, so.within); is = so.is }
    at false so = record { steps = suc so.steps; within = omega (arith, so.within); is = ap (flat_step input) so.is }
