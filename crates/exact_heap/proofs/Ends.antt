-- The rows of slots, and the check at the end, over what is kept.
use Rattle.std.proofs.Common.{◌≡◌, ℕ, ◌+◌, ◌-◌, ◌^◌, ◌<◌, ◌≤◌, refl, ap, sym, ◌∙◌, subst, Bool, true, false, cond, ◌⊎◌, inl, inr, arith, List, [], ◌∷◌, ◌++◌, length, append_assoc, Option, Some, None, IsSomeAnd}
use Rattle.std.specs.List.{filter_map, cons_option}
use Rattle.std.specs.Option.{option_map}
use Rattle.std.specs.Coded.{le_prop}
use Rattle.std.specs.FinSet.{contains, len}
use Rattle.std.proofs.Math.Logic.{∥∥₁_elim}
use Rattle.std.proofs.lemmas.Bool.{cases_Bool, eqb-true, true≢false}
use Rattle.std.proofs.lemmas.Nat.{pow_pos}
use Rattle.std.proofs.lemmas.List.{length-append}
use Rattle.std.proofs.lemmas.Option.{same_Some}
use Rattle.miniheap.specs.declared.place.Slot.{Slot}
use Rattle.miniheap.specs.declared.place.SlotState.TheVariants.{Free, Held, Bad}
use Rattle.miniheap.specs.Layout.{heap_from, minis, all_slots}
use Rattle.miniheap.specs.Slots.{Slots, state_of, slot_at, IsSlotIn, IsInOrder}
use Rattle.miniheap.specs.Sound.{is_bad_state}
use Rattle.miniheap.specs.WordList.{HasSpent}
use Rattle.rv_memory.specs.declared.space.Space.{Space}
use Rattle.exact_heap.specs.declared.parts.Parts.{Parts}
use Rattle.exact_heap.specs.declared.rows.Row.{Row}
use Rattle.exact_heap.specs.declared.row.SlotRow.{SlotRow}
use Rattle.exact_heap.specs.declared.signal.Signal.{Signal}
use Rattle.exact_heap.specs.History.{ObjectState, Owned, Deferred, Released, History, slot_of, is_owned, is_held, slots_of, address_of}
use Rattle.exact_heap.specs.Owners.{Owner, has_slot, last_owner}
use Rattle.exact_heap.specs.Placing.{HeapState}
use Rattle.exact_heap.specs.Calls.{end_signal_if, end_signal, end_signals, check_end}
use Rattle.exact_heap.specs.Rows.{state_number, bad_row, row_if, row_at, rows_of, owned_row}
use Rattle.exact_heap.specs.Lawful.{places_of}
use Rattle.exact_heap.specs.RowStore.{kept_row}
use Rattle.exact_heap.proofs.Timed.{IsStamped}
use Rattle.exact_heap.specs.SeenSignals.{SeenSignals, seen, with_signal}
use Rattle.exact_heap.specs.Stands.{number_by, kept_number, row_of, PartsStandFor, IsSound, AddsSignal, state_at}
use Rattle.exact_heap.proofs.SlotPlaces.{with_state, slot_at-places, marks_of}
use Rattle.exact_heap.proofs.Freed.{row_from, splits, stamped, held_slot}
use Rattle.exact_heap.proofs.Objects.{Split, held_last, held_is_last}
use Rattle.exact_heap.proofs.Standing.{with_signal-seen, kept_is}
use Rattle.miniheap.specs.Laws.{SlotLaws, IsWalk}
use Rattle.exact_heap.proofs.Walks.{Goes, walk_goes, walk_ended}

-- ---- rows

state_is : (s : Slots) (a : ℕ) (t : Slot) → slot_at s a ≡ Some t → t.state ≡ state_of s t.addr
state_is s a t e = at (slot_at (places_of s.classes) a) (sym (slot_at-places s a) ∙ e)
  where
    at : (o : Option Slot) → option_map (with_state s) o ≡ Some t → t.state ≡ state_of s t.addr
    at None f = absurd (cc)
    at (Some u) f = let q : with_state s u ≡ t = same_Some (with_state s u) t f in subst (λ (x : Slot). x.state ≡ state_of s x.addr) q refl

not_bad_state : (s : Slots) (a : ℕ) → contains s.bad a ≡ false → is_bad_state (state_of s a) ≡ false
not_bad_state s a e = at (contains s.held a) (contains s.bad a) e
  where
    at : (b c : Bool) → c ≡ false → is_bad_state (cond b Held (cond c Bad Free)) ≡ false
    at true c f = refl
    at false true f = absurd (true≢false f)
    at false false f = refl

-- a slot is bad where its state says so
pub bad_is : (p : Parts) (h : History) (a : ℕ) (t : Slot) → PartsStandFor p h → slot_at p.slots.grid a ≡ Some t → is_bad_state t.state ≡ contains h.bad t.addr
bad_is p h a t st e = ap is_bad_state (state_is (slots_of h) a t (ap (λ (s : Slots). slot_at s a) (sym st.slots.grid) ∙ e)) ∙ at (cases_Bool (contains h.bad t.addr))
  where
    at : (contains h.bad t.addr ≡ true) ⊎ (contains h.bad t.addr ≡ false) → is_bad_state (state_of (slots_of h) t.addr) ≡ contains h.bad t.addr
    at (inl q) = ap is_bad_state ((marks_of (slots_of h) st.lawful.in_order).bad t.addr q).1 ∙ sym q
    at (inr q) = not_bad_state (slots_of h) t.addr q ∙ sym q

abbrev row_line : ℕ → ℕ → Row → SlotRow
row_line a n x = record { addr = a; state = n; object = x.object; size = x.size; front = x.addr - a; site = x.site; free_site = x.free_site; freed = x.freed }

-- the clock of the last owner's free and the slot's state tell what has become of the owner
number_is : (p : Parts) (h : History) (t : Slot) (w : Owner) → PartsStandFor p h → slot_at p.slots.grid t.addr ≡ Some t → last_owner h.objects t.addr ≡ Some w
    → kept_number w.object.freed t.state ≡ state_number (contains h.bad t.addr) w.object.state
number_is p h t w st e last = at w.object.state refl
  where
    s : Split 0 h.objects w × (has_slot t.addr w.object ≡ true)
    s = splits h.objects t.addr w last

    found : slot_at (slots_of h) t.addr ≡ Some t
    found = ap (λ (x : Slots). slot_at x t.addr) (sym st.slots.grid) ∙ e

    stamp : IsStamped w.object
    stamp = stamped h w s.0 st.lawful

    by_state : is_owned w.object.state ≡ false → kept_number w.object.freed t.state ≡ number_by t.state
    by_state f = ap (λ (b : Bool). cond b 0 (number_by t.state)) (sym stamp ∙ f)

    held : is_held w.object.state ≡ true → t.state ≡ Held
    held f =
        let k : IsSlotIn (slots_of h) t.addr Held = subst (λ (a : ℕ). IsSlotIn (slots_of h) a Held) (eqb-true (slot_of w.object) t.addr s.1) (held_slot p h s.0.before w.object s.0.after st s.0.parts f) in
        (subst (λ (o : Option Slot). IsSomeAnd o (λ (u : Slot). (u.addr ≡ t.addr) × (u.state ≡ Held))) found k).1

    not_held : is_held w.object.state ≡ false → t.state ≡ cond (contains h.bad t.addr) Bad Free
    not_held f =
        state_is (slots_of h) t.addr t found
        ∙ ap (λ (b : Bool). cond b Held (cond (contains h.bad t.addr) Bad Free)) (held_is_last h.objects t.addr st.lawful.apart ∙ ap held_last last ∙ f)

    bad_number : (b : Bool) → number_by (cond b Bad Free) ≡ cond b 3 2
    bad_number true = refl
    bad_number false = refl

    at : (x : ObjectState) → w.object.state ≡ x → kept_number w.object.freed t.state ≡ state_number (contains h.bad t.addr) x
    at Owned f = ap (λ (b : Bool). cond b 0 (number_by t.state)) (sym stamp ∙ ap is_owned f)
    at (Deferred due) f = by_state (ap is_owned f) ∙ ap number_by (held (ap is_held f))
    at (Released due) f = by_state (ap is_owned f) ∙ ap number_by (not_held (ap is_held f)) ∙ bad_number (contains h.bad t.addr)

pub row_owned : (p : Parts) (h : History) (t : Slot) (row : Row) (number : ℕ) → PartsStandFor p h → slot_at p.slots.grid t.addr ≡ Some t → kept_row p.slots.grid.classes p.slots.rows t.addr ≡ Some row → number ≡ kept_number row.freed t.state
    → Some (row_line t.addr number row) ≡ row_at h t.addr
row_owned p h t row number st e here is =
    let r = row_from (last_owner h.objects t.addr) row (sym (kept_is p.slots h t.addr st.slots) ∙ here) in
    let slot : slot_of r.0.object ≡ t.addr = eqb-true (slot_of r.0.object) t.addr (splits h.objects t.addr r.0 r.1).1 in
    let front : address_of r.0.object - t.addr ≡ r.0.object.front = omega (arith, slot) in
    ap (λ (n : ℕ). Some (row_line t.addr n row)) (is ∙ ap (λ (x : Row). kept_number x.freed t.state) r.2 ∙ number_is p h t r.0 st e r.1)
    ∙ ap (λ (x : Row). Some (row_line t.addr (state_number (contains h.bad t.addr) r.0.object.state) x)) r.2
    ∙ ap (λ (n : ℕ). Some (record (owned_row t.addr (contains h.bad t.addr) r.0) { front = n })) front
    ∙ sym (ap (row_if t.addr (contains h.bad t.addr)) r.1)

-- an object's address isn't below that of its slot
row_behind : (p : Parts) (h : History) (a : ℕ) (row : Row) → PartsStandFor p h → kept_row p.slots.grid.classes p.slots.rows a ≡ Some row → a ≤ row.addr
row_behind p h a row st here =
    let r = row_from (last_owner h.objects a) row (sym (kept_is p.slots h a st.slots) ∙ here) in
    let slot : slot_of r.0.object ≡ a = eqb-true (slot_of r.0.object) a (splits h.objects a r.0 r.1).1 in
    omega (arith, slot, ap (λ (x : Row). x.addr) r.2)

pub sound_row_behind : (p : Parts) (a : ℕ) (row : Row) → IsSound p → kept_row p.slots.grid.classes p.slots.rows a ≡ Some row → a ≤ row.addr
sound_row_behind p a row s e = ∥∥₁_elim s le_prop (λ (x : (h : History) × PartsStandFor p h). row_behind p x.0 a row x.1 e)

no_owner : (o : Option Owner) → option_map row_of o ≡ None → o ≡ None
no_owner None e = refl
no_owner (Some w) e = absurd (cc)

pub row_none : (p : Parts) (h : History) (t : Slot) (is_bad : Bool) → PartsStandFor p h → slot_at p.slots.grid t.addr ≡ Some t → kept_row p.slots.grid.classes p.slots.rows t.addr ≡ None → is_bad ≡ is_bad_state t.state
    → cond is_bad (Some (bad_row t.addr)) None ≡ row_at h t.addr
row_none p h t is_bad st e here b =
    let bad : is_bad ≡ contains h.bad t.addr = b ∙ bad_is p h t.addr t st e in
    let none : last_owner h.objects t.addr ≡ None = no_owner (last_owner h.objects t.addr) (sym (kept_is p.slots h t.addr st.slots) ∙ here) in
    ap (λ (x : Bool). cond x (Some (bad_row t.addr)) None) bad ∙ sym (ap (row_if t.addr (contains h.bad t.addr)) none)

-- the rows so far, and those of the slots that are left
pub record RowsLeft (p : Parts) (addr : ℕ) (rows : List SlotRow) : Type 0 where
  pub left : List ℕ
  pub walk : IsWalk p.slots.grid addr left
  pub rows_are : (h : History) → PartsStandFor p h → rows_of h ≡ rows ++ filter_map (row_at h) left

pub rows_begin : SlotLaws → (p : Parts) → RowsLeft p heap_from []
unfolding rows_of
rows_begin laws p = record { left = all_slots (minis p.slots.grid.classes); walk = laws.follow p.slots.grid; rows_are = λ h st. ap (λ (s : Slots). filter_map (row_at h) (all_slots (minis s.classes))) (sym st.slots.grid) }

pub rows_go : SlotLaws → (p : Parts) (addr bytes : ℕ) (t : Slot) (rows more : List SlotRow) → RowsLeft p addr rows → slot_at p.slots.grid addr ≡ Some t → bytes ≡ 2 ^ t.class
    → ((h : History) → PartsStandFor p h → rows ++ cons_option (row_at h t.addr) [] ≡ more) → RowsLeft p (addr + bytes) more
rows_go laws p addr bytes t rows more w e b added =
    let g : Goes p.slots.grid addr t w.left = walk_goes laws p.slots.grid addr t w.left w.walk e in
    record {
      left = g.rest;
      walk = subst (λ (n : ℕ). IsWalk p.slots.grid (addr + n) g.rest) (sym b) g.walk;
      rows_are = λ h st.
          w.rows_are h st ∙ ap (λ (xs : List ℕ). rows ++ filter_map (row_at h) xs) g.first
          ∙ one rows (row_at h addr) (filter_map (row_at h) g.rest)
          ∙ ap (λ (xs : List SlotRow). xs ++ filter_map (row_at h) g.rest) (ap (λ (a : ℕ). rows ++ cons_option (row_at h a) []) (sym g.addr) ∙ added h st);
    }
  where
    one : (xs : List SlotRow) (o : Option SlotRow) (ys : List SlotRow) → xs ++ cons_option o ys ≡ (xs ++ cons_option o []) ++ ys
    one xs None ys = sym (ap (λ (l : List SlotRow). l ++ ys) (append_nil xs))
      where
        append_nil : (l : List SlotRow) → l ++ [] ≡ l
        append_nil [] = refl
        append_nil (x ∷ l) = ap (λ (k : List SlotRow). x ∷ k) (append_nil l)
    one xs (Some r) ys = sym (append_assoc xs (r ∷ []) ys)

pub rows_end : (p : Parts) (h : History) (addr : ℕ) (rows : List SlotRow) → RowsLeft p addr rows → slot_at p.slots.grid addr ≡ None → PartsStandFor p h → rows ≡ rows_of h
rows_end p h addr rows w e st =
    sym (w.rows_are h st ∙ ap (λ (xs : List ℕ). rows ++ filter_map (row_at h) xs) (walk_ended p.slots.grid addr w.left w.walk e).0 ∙ append_nil rows)
  where
    append_nil : (l : List SlotRow) → l ++ [] ≡ l
    append_nil [] = refl
    append_nil (x ∷ l) = ap (λ (k : List SlotRow). x ∷ k) (append_nil l)

-- the same where the slot is known that the walk stands at
pub record RowsGoOn (p : Parts) (next : Option Slot) (rows : List SlotRow) : Type 0 where
  pub addr : ℕ
  pub here : next ≡ slot_at p.slots.grid addr
  pub so_far : RowsLeft p addr rows

-- the walk goes on with the slot behind
pub rows_step : SlotLaws → (p : Parts) (t : Slot) (next : Option Slot) (rows more : List SlotRow) → (w : RowsGoOn p (Some t) rows) → next ≡ slot_at p.slots.grid (t.addr + 2 ^ t.class)
    → ((h : History) → PartsStandFor p h → rows ++ cons_option (row_at h t.addr) [] ≡ more) → RowsGoOn p next more
rows_step laws p t next rows more w e added =
    let g : Goes p.slots.grid w.addr t w.so_far.left = walk_goes laws p.slots.grid w.addr t w.so_far.left w.so_far.walk (sym w.here) in
    record { addr = w.addr + 2 ^ t.class; here = e ∙ ap (λ (a : ℕ). slot_at p.slots.grid (a + 2 ^ t.class)) g.addr; so_far = rows_go laws p w.addr (2 ^ t.class) t rows more w.so_far (sym w.here) refl added }

-- the address of a slot is below the heap region's end
pub walk_low : SlotLaws → (s : Slots) (addr : ℕ) (t : Slot) (left : List ℕ) → IsInOrder s → IsWalk s addr left → slot_at s addr ≡ Some t → addr < 2 ^ 31
walk_low laws s addr t left ok w e =
    let g : Goes s addr t left = walk_goes laws s addr t left w e in
    omega (arith, g.addr, laws.within s addr t e, pow_pos t.class, ok.in_limit)

-- the slot that a walk stands at is found by its address
pub found_again : SlotLaws → (s : Slots) (addr : ℕ) (t : Slot) (left : List ℕ) → IsWalk s addr left → slot_at s addr ≡ Some t → slot_at s t.addr ≡ Some t
found_again laws s addr t left w e = let g : Goes s addr t left = walk_goes laws s addr t left w e in ap (slot_at s) g.addr ∙ e

-- ---- the check at the end

-- the signals that were made, of which the first are kept
pub record Done (start p : Parts) (s : HeapState) (left : List ℕ) : Type 0 where
  pub signals : List Signal
  pub ends : end_signals s ≡ signals ++ filter_map (λ slot. end_signal s (slot_at (slots_of s.history) slot)) left
  pub kept : p.signals ≡ seen (s.history.signals ++ signals)

ends_from : (p : Parts) (h : History) (space : Space) → PartsStandFor p h → end_signals (state_at h space) ≡ [] ++ filter_map (λ slot. end_signal (state_at h space) (slot_at (slots_of h) slot)) (all_slots (minis p.slots.grid.classes))
unfolding end_signals
ends_from p h space st = ap (λ (s : Slots). filter_map (λ slot. end_signal (state_at h space) (slot_at (slots_of h) slot)) (all_slots (minis s.classes))) (sym st.slots.grid)

done_more : (start p q : Parts) (s : HeapState) (left : List ℕ) (addr : ℕ) (rest : List ℕ) (o : Option Signal) → Done start p s left → left ≡ addr ∷ rest → end_signal s (slot_at (slots_of s.history) addr) ≡ o → AddsSignal o p q → Done start q s rest
done_more start p q s left addr rest None d first e adds = record {
  signals = d.signals;
  ends = d.ends ∙ ap (λ (xs : List ℕ). d.signals ++ filter_map (λ slot. end_signal s (slot_at (slots_of s.history) slot)) xs) first
      ∙ ap (λ (x : Option Signal). d.signals ++ cons_option x (filter_map (λ slot. end_signal s (slot_at (slots_of s.history) slot)) rest)) e;
  kept = ap (λ (x : Parts). x.signals) adds ∙ d.kept;
}
done_more start p q s left addr rest (Some x) d first e adds =
    let more : (s.history.signals ++ d.signals) ++ x ∷ [] ≡ s.history.signals ++ (d.signals ++ x ∷ []) = append_assoc s.history.signals d.signals (x ∷ []) in
    record {
      signals = d.signals ++ x ∷ [];
      ends = d.ends ∙ ap (λ (xs : List ℕ). d.signals ++ filter_map (λ slot. end_signal s (slot_at (slots_of s.history) slot)) xs) first
          ∙ ap (λ (y : Option Signal). d.signals ++ cons_option y (filter_map (λ slot. end_signal s (slot_at (slots_of s.history) slot)) rest)) e
          ∙ sym (append_assoc d.signals (x ∷ []) (filter_map (λ slot. end_signal s (slot_at (slots_of s.history) slot)) rest));
      kept = adds ∙ ap (λ (k : SeenSignals). with_signal k x) d.kept ∙ with_signal-seen (s.history.signals ++ d.signals) x ∙ ap seen more;
    }

-- the signals so far, and those of the slots that are left
pub record EndsLeft (start p : Parts) (space : Space) (addr : ℕ) : Type 0 where
  pub left : List ℕ
  pub walk : IsWalk start.slots.grid addr left
  pub low : heap_from ≤ addr
  pub few : p.signals.count ≤ start.signals.count + (addr - heap_from)
  pub rest : p ≡ record start { signals = p.signals }
  pub done : (h : History) → PartsStandFor start h → Done start p (state_at h space) left

pub ends_begin : SlotLaws → (p : Parts) (space : Space) → EndsLeft p p space heap_from
ends_begin laws p space = record {
  left = all_slots (minis p.slots.grid.classes);
  walk = laws.follow p.slots.grid;
  low = omega arith;
  few = omega arith;
  rest = refl;
  done = λ h st. record { signals = []; ends = ends_from p h space st; kept = st.signals ∙ ap seen (sym (append_nil h.signals)) };
}
  where
    append_nil : (l : List Signal) → l ++ [] ≡ l
    append_nil [] = refl
    append_nil (x ∷ l) = ap (λ (k : List Signal). x ∷ k) (append_nil l)

-- a slot now is one at the start
pub at_start : (start p : Parts) (space : Space) (addr : ℕ) (t : Slot) → EndsLeft start p space addr → slot_at p.slots.grid addr ≡ Some t → slot_at start.slots.grid addr ≡ Some t
at_start start p space addr t w e = ap (λ (x : Parts). slot_at x.slots.grid addr) (sym w.rest) ∙ e

-- the same where the slot is known that the walk stands at
pub record EndsGoOn (start p : Parts) (space : Space) (next : Option Slot) : Type 0 where
  pub addr : ℕ
  pub here : next ≡ slot_at start.slots.grid addr
  pub so_far : EndsLeft start p space addr

-- one slot more
pub ends_go : SlotLaws → (start p q : Parts) (space : Space) (addr bytes : ℕ) (t : Slot) → EndsLeft start p space addr → slot_at start.slots.grid addr ≡ Some t → bytes ≡ 2 ^ t.class
    → q ≡ record p { signals = q.signals } → q.signals.count ≤ p.signals.count + 1
    → ((h : History) → HasSpent p.words h.seed h.spent → AddsSignal (end_signal_if (state_at h space) t) p q) → EndsLeft start q space (addr + bytes)
ends_go laws start p q space addr bytes t w e b kept count adds =
    let some : 1 ≤ bytes = subst (λ (n : ℕ). 1 ≤ n) (sym b) (pow_pos t.class) in
    let g : Goes start.slots.grid addr t w.left = walk_goes laws start.slots.grid addr t w.left w.walk e in
    record {
      left = g.rest;
      walk = subst (λ (n : ℕ). IsWalk start.slots.grid (addr + n) g.rest) (sym b) g.walk;
      low = omega (arith, w.low);
      few = omega (arith, w.few, w.low, count, some);
      rest = kept ∙ ap (λ (x : Parts). record x { signals = q.signals }) w.rest;
      done = λ h st.
          let d : Done start p (state_at h space) w.left = w.done h st in
          let found : slot_at (slots_of h) addr ≡ Some t = ap (λ (s : Slots). slot_at s addr) (sym st.slots.grid) ∙ e in
          let spent : HasSpent p.words h.seed h.spent = subst (λ (x : Parts). HasSpent x.words h.seed h.spent) (sym w.rest) st.words in
          done_more start p q (state_at h space) w.left addr g.rest (end_signal_if (state_at h space) t) d g.first (ap (end_signal (state_at h space)) found) (adds h spent);
    }

-- the slots are those at the start
pub ends_slots : (start p q : Parts) (space : Space) (addr : ℕ) → EndsLeft start p space addr → q ≡ record p { signals = q.signals } → q.slots.grid ≡ start.slots.grid
ends_slots start p q space addr w kept = ap (λ (x : Parts). x.slots.grid) kept ∙ ap (λ (x : Parts). x.slots.grid) w.rest

pub ends_step : SlotLaws → (start p q : Parts) (space : Space) (t : Slot) (next : Option Slot) → (w : EndsGoOn start p space (Some t)) → next ≡ slot_at start.slots.grid (t.addr + 2 ^ t.class)
    → q ≡ record p { signals = q.signals } → q.signals.count ≤ p.signals.count + 1
    → ((h : History) → HasSpent p.words h.seed h.spent → AddsSignal (end_signal_if (state_at h space) t) p q) → EndsGoOn start q space next
ends_step laws start p q space t next w e kept count adds =
    let g : Goes start.slots.grid w.addr t w.so_far.left = walk_goes laws start.slots.grid w.addr t w.so_far.left w.so_far.walk (sym w.here) in
    record {
      addr = w.addr + 2 ^ t.class;
      here = e ∙ ap (λ (a : ℕ). slot_at start.slots.grid (a + 2 ^ t.class)) g.addr;
      so_far = ends_go laws start p q space w.addr (2 ^ t.class) t w.so_far (sym w.here) refl kept count adds;
    }

pub ends_end : (start p : Parts) (h : History) (space : Space) (addr : ℕ) → EndsLeft start p space addr → slot_at start.slots.grid addr ≡ None → IsInOrder start.slots.grid → PartsStandFor start h → start.ended ≡ false → PartsStandFor (record p { ended = true }) (check_end (state_at h space))
unfolding check_end
ends_end start p h space addr w e ok st no_end =
    let z = walk_ended start.slots.grid addr w.left w.walk e in
    let d : Done start p (state_at h space) [] = subst (Done start p (state_at h space)) z.0 (w.done h st) in
    let open_end : h.ended ≡ false = sym st.ended ∙ no_end in
    let ends : end_signals (state_at h space) ≡ d.signals = d.ends ∙ append_nil d.signals in
    let k : History = record h { signals = h.signals ++ end_signals (state_at h space); ended = true } in
    let few : length d.signals ≤ 2 ^ 31 = omega (arith, w.few, z.1, ok.in_limit, ap (λ (x : SeenSignals). x.count) d.kept, ap (λ (x : SeenSignals). x.count) st.signals, length-append h.signals d.signals) in
    subst (PartsStandFor (record p { ended = true })) (sym (ap (λ (b : Bool). cond b h k) open_end))
    (subst (λ (x : Parts). PartsStandFor (record x { ended = true }) k) (sym w.rest) (record {
      seed = st.seed;
      slots = record { grid = st.slots.grid; rows = st.slots.rows; chunks = st.slots.chunks };
      words = st.words;
      dues = st.dues;
      room = st.room;
      counts = st.counts;
      signals = d.kept ∙ ap (λ (xs : List Signal). seen (h.signals ++ xs)) (sym ends);
      ended = refl;
      lawful = record {
        in_order = st.lawful.in_order;
        placed = st.lawful.placed;
        apart = st.lawful.apart;
        timed = st.lawful.timed;
        signals = let l : length h.signals ≤ len h.bad + 0 = subst (λ (b : Bool). length h.signals ≤ len h.bad + cond b (2 ^ 31) 0) open_end st.lawful.signals in
            omega (arith, l, few, ap length ends, length-append h.signals (end_signals (state_at h space)));
      };
    }))
  where
    append_nil : (l : List Signal) → l ++ [] ≡ l
    append_nil [] = refl
    append_nil (x ∷ l) = ap (λ (k : List Signal). x ∷ k) (append_nil l)

pub already_ended : (p : Parts) (h : History) (space : Space) → PartsStandFor p h → p.ended ≡ true → PartsStandFor p (check_end (state_at h space))
unfolding check_end
already_ended p h space st e =
    subst (PartsStandFor p) (sym (ap (λ (b : Bool). cond b h (record h { signals = h.signals ++ end_signals (state_at h space); ended = true })) (sym st.ended ∙ e))) st
