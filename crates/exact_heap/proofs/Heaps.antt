-- A heap around what is kept.
use Rattle.std.proofs.Common.{◌≡◌, ℕ, ◌^◌, ◌≤◌, refl, ap, sym, ◌∙◌, subst, Bool, true, false, arith, List, [], Option, Some, None, Result, Ok, Err, length}
use Rattle.std.specs.Ordering.{nat_cmp}
use Rattle.std.specs.FinSet.{contains-empty}
use Rattle.std.specs.Prelude.{is_some, is_none}
use Rattle.std.proofs.lemmas.List.Elements.{All-nil}
use Rattle.std.proofs.lemmas.Bool.{true≢false, le-ltb}
use Rattle.rv_memory.specs.declared.space.Space.{Space}
use Rattle.rv_memory.specs.Memory.{Memory, no_memory, is_unmapped}
use Rattle.rv_memory.specs.Spaces.{memory_of}
use Rattle.rv_memory.specs.Laws.{at_each, from_each}
use Rattle.miniheap.specs.Layout.{heap_from}
use Rattle.miniheap.specs.Slots.{no_slots, end_of, IsInOrder}
use Rattle.miniheap.specs.WordList.{HasSpent}
use Rattle.patch_table.specs.Table.{Table}
use Rattle.exact_heap.specs.declared.heap.Heap.{Heap}
use Rattle.exact_heap.specs.declared.parts.Parts.{Parts}
use Rattle.exact_heap.specs.declared.signal.HeapRefusal.{HeapRefusal}
use Rattle.exact_heap.specs.declared.signal.HeapRefusal.TheVariants.{Room, Memory as NoMemory}
use Rattle.exact_heap.specs.History.{History, no_history, held_by, slots_of}
use Rattle.exact_heap.specs.Owners.{last_owner}
use Rattle.exact_heap.specs.Placing.{HeapState, Outcome}
use Rattle.exact_heap.specs.Home.{IsHome}
use Rattle.exact_heap.specs.RowStore.{RowChunk, kept_row, HaveChunks}
use Rattle.exact_heap.specs.Counted.{no_counts}
use Rattle.exact_heap.specs.SeenSignals.{no_signals}
use Rattle.exact_heap.specs.Stands.{PartsStandFor, AtHome, Gives, Places, UnlessMemory, state_at, wanted_memory}
use Rattle.exact_heap.specs.Heaps.{IsSpent, StandsFor, HasHome, Answers, CarriesOut, rules_of, clock_in, calls_in}

pub answers_as : (o : Outcome) (r : Result ℕ HeapRefusal) (heap : Heap) (space : Space) → Gives o.state o.answer r heap.parts (memory_of space) → heap.spent ≡ wanted_memory r → Answers o r heap space
unfolding IsSpent
answers_as o (Ok a) heap space g e = (g.0, record { stands = record { parts = g.1.stands; lives = e }; memory = g.1.bytes })
answers_as o (Err (Room used wanted)) heap space g e = (g.0, record { stands = record { parts = g.1.stands; lives = e }; memory = g.1.bytes })
answers_as o (Err NoMemory) heap space g e = e

pub home_as : (r : Result ℕ HeapRefusal) (heap : Heap) (space : Space) → UnlessMemory r (AtHome heap.parts space) → heap.spent ≡ wanted_memory r → HasHome heap space
unfolding HasHome
home_as (Ok a) heap space u e f = u
home_as (Err (Room used wanted)) heap space u e f = u
home_as (Err NoMemory) heap space u e f = absurd (true≢false (sym e ∙ f))

pub spent_as : (r : Result ℕ HeapRefusal) (heap : Heap) → heap.spent ≡ wanted_memory r → r ≡ Err NoMemory → IsSpent heap
unfolding IsSpent
spent_as r heap e f = e ∙ ap wanted_memory f

pub lives_not : (heap : Heap) → heap.spent ≡ false → IsSpent heap → ⊥
unfolding IsSpent
lives_not heap e s = true≢false (sym s ∙ e)

-- ---- a call that places an object

pub carried : (call : HeapState → Outcome) (old new : Heap) (before after : Space) (r : Result ℕ HeapRefusal) → old.spent ≡ false → Places call 1 old.parts before r new.parts after → new.spent ≡ wanted_memory r → CarriesOut call old before r new after
unfolding rules_of clock_in calls_in
carried call old new before after r lives p e = record {
  answers = λ h st. answers_as (call (state_at h before)) r new after (p.gives h st.parts) e;
  spent = λ s. absurd (lives_not old lives s);
  memory = λ m. spent_as r new e m;
  rules = p.rules;
  counted = p.counted;
  numbered = omega (arith, p.numbered);
  home = home_as r new after p.home e;
  taken = p.taken;
}

-- a spent heap does nothing
pub carried_spent : (call : HeapState → Outcome) (heap : Heap) (space : Space) → heap.spent ≡ true → HasHome heap space → CarriesOut call heap space (Err NoMemory) heap space
unfolding IsSpent
carried_spent call heap space e home = record {
  answers = λ h st. e;
  spent = λ s. refl;
  memory = λ m. e;
  rules = refl;
  counted = omega arith;
  numbered = omega arith;
  home = home;
  taken = λ page t. t;
}

pub not_for : (heap : Heap) (h : History) → heap.spent ≡ true → StandsFor heap h → ⊥
not_for heap h e st = true≢false (sym e ∙ st.lives)

-- ---- a new heap

no_none : (o : Option ℕ) → is_none o ≡ true → is_some o ≡ false
no_none None e = refl
no_none (Some x) e = absurd (true≢false (sym e))

pub new_home : (memory : Memory) (taken : ℕ → Bool) → is_unmapped memory heap_from (2 ^ 30) ≡ true → IsHome no_slots memory taken
new_home memory taken e = record {
  mapped = λ a lo hi. no_none (memory.bytes a) (at_each (λ x. is_none (memory.bytes x)) heap_from (2 ^ 30) a e lo (omega (arith, hi))) ∙ sym (le-ltb a (end_of no_slots) lo);
  writable = λ a lo hi. absurd (omega (arith, lo, hi));
  pages = λ a t f g. absurd (true≢false (sym g ∙ contains-empty nat_cmp t.addr));
}

no_order : IsInOrder no_slots
no_order = record {
  in_classes = All-nil (λ (c : ℕ). (4 ≤ c) × (c ≤ 22));
  in_limit = omega arith;
  held_slots = λ a e. absurd (true≢false (sym e ∙ contains-empty nat_cmp a));
  bad_slots = λ a e. absurd (true≢false (sym e ∙ contains-empty nat_cmp a));
}

no_held : (seed : ℕ) → slots_of (no_history seed) ≡ no_slots
unfolding held_by
no_held seed = refl

no_row : (rows : List (List RowChunk)) (a : ℕ) → kept_row [] rows a ≡ None
unfolding kept_row
no_row rows a = refl

no_chunks : (rows : List (List RowChunk)) → rows ≡ [] → HaveChunks [] rows
no_chunks rows e = record { minis_known = ap length e; chunks_known = λ a t f. absurd (cc) }

pub new_stands : (p : Parts) → p.slots.grid ≡ no_slots → HasSpent p.words p.seed 0 → p.queue.dues ≡ [] → p.slots.rows ≡ [] → p.counts ≡ no_counts
    → p.signals ≡ no_signals → p.ended ≡ false → PartsStandFor p (no_history p.seed)
unfolding last_owner
new_stands p grid words dues rows counts signals ended = record {
  seed = refl;
  slots = record { grid = grid ∙ sym (no_held p.seed); rows = λ slot. no_row p.slots.rows slot; chunks = no_chunks p.slots.rows rows };
  words = words;
  dues = dues;
  room = omega arith;
  counts = counts;
  signals = signals;
  ended = ended;
  lawful = record { in_order = subst IsInOrder (sym (no_held p.seed)) no_order; placed = tt; apart = tt; timed = tt; signals = omega arith };
}

-- ---- other patches

pub patched : (p : Parts) (h : History) (patches : Table) → PartsStandFor p h → PartsStandFor (record p { rules = record p.rules { patches = patches } }) h
patched p h patches st = record {
  seed = st.seed;
  slots = st.slots;
  words = st.words;
  dues = st.dues;
  room = st.room;
  counts = st.counts;
  signals = st.signals;
  ended = st.ended;
  lawful = st.lawful;
}

-- ---- a heap beside its guest's memory

pub nothing_mapped : (space : Space) → memory_of space ≡ no_memory → is_unmapped (memory_of space) heap_from (2 ^ 30) ≡ true
nothing_mapped space e = subst (λ (m : Memory). is_unmapped m heap_from (2 ^ 30) ≡ true) (sym e) (from_each (λ a. is_none (no_memory.bytes a)) heap_from (2 ^ 30) (λ a lo hi. refl))
