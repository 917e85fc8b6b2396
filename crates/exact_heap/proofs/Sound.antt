-- What is known of all that a heap keeps, whichever history it stands for.
use Rattle.std.proofs.Common.{◌≡◌, ℕ, ◌+◌, ◌^◌, ◌<◌, ◌≤◌, sym, subst, List, [], ◌∷◌, ◌++◌, Option, Some, None, IsSomeAnd, All}
use Rattle.std.specs.Coded.{le_prop}
use Rattle.std.proofs.Props.{props}
use Rattle.std.proofs.Math.Logic.{∥∥₁_elim, ∥∥₁_map}
use Rattle.std.proofs.lemmas.List.Elements.{All-get_or, All-head, All-tail, All-nil, All-cons}
use Rattle.deferral_queue.specs.declared.Due.{Due}
use Rattle.miniheap.specs.declared.place.Slot.{Slot}
use Rattle.miniheap.specs.declared.place.SlotState.{SlotState}
use Rattle.miniheap.specs.declared.place.SlotState.TheVariants.{Held}
use Rattle.miniheap.specs.Layout.{Mini, mini_end, heap_from, count_of, nth_mini, minis_from, minis}
use Rattle.miniheap.specs.Slots.{Slots, slot_at, IsSlotIn, IsInOrder}
use Rattle.exact_heap.specs.declared.parts.Parts.{Parts}
use Rattle.exact_heap.specs.declared.rows.Row.{Row}
use Rattle.exact_heap.specs.History.{History}
use Rattle.exact_heap.specs.RowStore.{RowChunk, kept_row, HaveChunks}
use Rattle.exact_heap.specs.Stands.{PartsStandFor, IsSound}
use Rattle.miniheap.specs.Laws.{SlotLaws}
use Rattle.exact_heap.proofs.Standing.{signals_fit, few_signals, called_stands}
use Rattle.exact_heap.proofs.Freed.{owner_at, owner_held, owner_room, frees_below, due_at}

pub IsSlotIn-prop : (s : Slots) (a : ℕ) (u : SlotState) → IsProp (IsSlotIn s a u)
IsSlotIn-prop s a u = at (slot_at s a)
  where
    at : (o : Option Slot) → IsProp (IsSomeAnd o (λ t. (t.addr ≡ a) × (t.state ≡ u)))
    at None = hlevel props
    at (Some t) = hlevel props

pub IsInOrder-prop : (s : Slots) → IsProp (IsInOrder s)
IsInOrder-prop s = hlevel (props, IsSlotIn-prop)

pub sound_order : (p : Parts) → IsSound p → IsInOrder p.slots.grid
sound_order p s = ∥∥₁_elim s (IsInOrder-prop p.slots.grid) (λ (x : (h : History) × PartsStandFor p h). subst IsInOrder (sym x.1.slots.grid) x.1.lawful.in_order)

pub sound_signals : SlotLaws → (p : Parts) → IsSound p → p.signals.count + 1 < 2 ^ 64
sound_signals laws p s = ∥∥₁_elim s le_prop (λ (x : (h : History) × PartsStandFor p h). signals_fit laws p x.0 x.1)

pub sound_few : SlotLaws → (p : Parts) → IsSound p → p.signals.count ≤ 2 ^ 33
sound_few laws p s = ∥∥₁_elim s le_prop (λ (x : (h : History) × PartsStandFor p h). few_signals laws p x.0 x.1)

pub sound_frees : (p : Parts) → IsSound p → p.counts.frees ≤ p.counts.clock
sound_frees p s = ∥∥₁_elim s le_prop (λ (x : (h : History) × PartsStandFor p h). frees_below p x.0 x.1)

pub sound_owner_held : (p : Parts) (a : ℕ) (row : Row) → IsSound p → kept_row p.slots.grid.classes p.slots.rows a ≡ Some row → row.freed ≡ 0 → IsSlotIn p.slots.grid a Held
sound_owner_held p a row s e t = ∥∥₁_elim s (IsSlotIn-prop p.slots.grid a Held) (λ (x : (h : History) × PartsStandFor p h). owner_held p x.0 a row x.1 (owner_at p x.0 a row x.1 e t))

pub sound_owner_room : (p : Parts) (a : ℕ) (row : Row) → IsSound p → kept_row p.slots.grid.classes p.slots.rows a ≡ Some row → row.freed ≡ 0 → 1 ≤ p.queue.spare
sound_owner_room p a row s e t = ∥∥₁_elim s le_prop (λ (x : (h : History) × PartsStandFor p h). owner_room p x.0 a row x.1 (owner_at p x.0 a row x.1 e t))

chunks-prop : (classes : List ℕ) (rows : List (List RowChunk)) → IsProp (HaveChunks classes rows)
chunks-prop classes rows = hlevel (props, le_prop)

pub sound_chunks : (p : Parts) → IsSound p → HaveChunks p.slots.grid.classes p.slots.rows
sound_chunks p s = ∥∥₁_elim s (chunks-prop p.slots.grid.classes p.slots.rows) (λ (x : (h : History) × PartsStandFor p h). subst (λ (g : Slots). HaveChunks g.classes p.slots.rows) (sym x.1.slots.grid) x.1.slots.chunks)

pub sound_due_held : (p : Parts) (d : Due) (rest : List Due) → IsSound p → p.queue.dues ≡ d ∷ rest → IsSlotIn p.slots.grid d.addr Held
sound_due_held p d rest s e = ∥∥₁_elim s (IsSlotIn-prop p.slots.grid d.addr Held) (λ (x : (h : History) × PartsStandFor p h). (due_at p x.0 d rest x.1 e).held)

-- what is kept after a step stands for some history
pub sound_then : (p q : Parts) (f : History → History) → ((h : History) → PartsStandFor p h → PartsStandFor q (f h)) → IsSound p → IsSound q
sound_then p q f k s = ∥∥₁_map s (λ (x : (h : History) × PartsStandFor p h). (f x.0, k x.0 x.1))

-- ---- a slot's class

minis_classes : (P : ℕ → Type 0) (earlier : List ℕ) (base : ℕ) (cs : List ℕ) → All P cs → All (λ (m : Mini). P m.class) (minis_from earlier base cs)
minis_classes P earlier base [] all = All-nil (λ (m : Mini). P m.class)
minis_classes P earlier base (c ∷ cs) all =
    let m : Mini = nth_mini c base (count_of c earlier) in
    All-cons (λ (x : Mini). P x.class) m (minis_from (earlier ++ c ∷ []) (mini_end m) cs) (All-head P c cs all) (minis_classes P (earlier ++ c ∷ []) (mini_end m) cs (All-tail P c cs all))

pub slot_class : SlotLaws → (s : Slots) (a : ℕ) (t : Slot) → IsInOrder s → slot_at s a ≡ Some t → (4 ≤ t.class) × (t.class ≤ 22)
slot_class laws s a t ok e =
    let k = (laws.known s a t e).0 in
    let all : All (λ (m : Mini). (4 ≤ m.class) × (m.class ≤ 22)) (minis s.classes) = minis_classes (λ (c : ℕ). (4 ≤ c) × (c ≤ 22)) [] heap_from s.classes ok.in_classes in
    subst (λ (c : ℕ). (4 ≤ c) × (c ≤ 22)) (sym k.class_is) (All-get_or (λ (x : Mini). (4 ≤ x.class) × (x.class ≤ 22)) (minis s.classes) t.mini _ k.mini_known all)

-- the same where what comes after hangs on what it stood for
pub sound_map : (p q : Parts) → ((h : History) → PartsStandFor p h → (k : History) × PartsStandFor q k) → IsSound p → IsSound q
sound_map p q f s = ∥∥₁_map s (λ (x : (h : History) × PartsStandFor p h). f x.0 x.1)

-- one heap call more
pub call_sound : (p : Parts) → IsSound p → IsSound (record p { counts = record p.counts { calls = p.counts.calls + 1 } })
call_sound p = sound_then p (record p { counts = record p.counts { calls = p.counts.calls + 1 } }) (λ (h : History). record h { calls = h.calls + 1 }) (λ h st. called_stands p h st)
