-- The guest's memory keeps what the heap asks of it.
use Rattle.std.proofs.Common.{◌≡◌, ℕ, ◌+◌, ◌^◌, ◌<◌, ◌≤◌, refl, ap, sym, ◌∙◌, Bool, true, false, cond, ◌⊎◌, inl, inr, arith, nat_lt, nat_le, List, Option, Some, None, IsSomeAnd}
use Rattle.std.specs.Prelude.{is_some, is_none}
use Rattle.std.specs.Option.{option_map}
use Rattle.std.specs.FinSet.{contains}
use Rattle.std.proofs.lemmas.Bool.{cases_lt, cases_eq, lt-ltb, le-ltb, ltb-true, ltb-false, eq-eqb, true≢false, and_parts}
use Rattle.std.proofs.lemmas.Bool.Decides.{nat_tests}
use Rattle.std.proofs.lemmas.Option.{same_Some}
use Rattle.rv_memory.specs.Memory.{Memory, page_of, within, filled, with_range, is_mapped, is_unmapped, can_write, is_taken, KeepsTaken}
use Rattle.rv_memory.specs.Laws.{at_each, from_each}
use Rattle.miniheap.specs.Layout.{heap_from, heap_limit, minis}
use Rattle.miniheap.specs.Slots.{Slots, state_of, slot_at, used_of, wanted_of, end_of, held_at, released_at, spoiled_at, IsSlotIn, IsInOrder}
use Rattle.miniheap.specs.Slots as slots
use Rattle.miniheap.specs.declared.place.Slot.{Slot}
use Rattle.miniheap.specs.declared.place.SlotState.TheVariants.{Held}
use Rattle.exact_heap.specs.Home.{IsHome}
use Rattle.exact_heap.specs.Lawful.{places_of}
use Rattle.miniheap.specs.Laws.{SlotLaws}
use Rattle.exact_heap.proofs.SlotPlaces.{with_state, slot_at-places, among_inserted, among_left}

-- ---- slots in the memory

pub record InHeap (s : Slots) (from len : ℕ) : Type 0 where
  pub low : heap_from ≤ from
  pub high : from + len ≤ end_of s

pub slot_in_heap : SlotLaws → (s : Slots) (a : ℕ) (t : Slot) → slot_at s a ≡ Some t → InHeap s t.addr (2 ^ t.class)
slot_in_heap laws s a t e = let w = laws.within s a t e in record { low = w.0; high = w.1 }

pub end_below : (s : Slots) → IsInOrder s → end_of s ≤ 0x7fe00000
end_below s ok = omega (arith, ok.in_limit)

pub heap_mapped : (s : Slots) (memory : Memory) (taken : ℕ → Bool) (from len : ℕ) → IsInOrder s → IsHome s memory taken → InHeap s from len → is_mapped memory from len ≡ true
heap_mapped s memory taken from len ok home i =
    from_each (λ a. is_some (memory.bytes a)) from len (λ a lo hi.
    home.mapped a (omega (arith, i.low)) (omega (arith, i.high, ok.in_limit)) ∙ lt-ltb a (end_of s) (omega (arith, i.high)))

pub heap_writable : (s : Slots) (memory : Memory) (taken : ℕ → Bool) (from len : ℕ) → IsHome s memory taken → InHeap s from len → can_write memory from len ≡ true
heap_writable s memory taken from len home i = from_each memory.writable from len (λ a lo hi. home.writable a (omega (arith, i.low)) (omega (arith, i.high)))

pub heap_taken : SlotLaws → (s : Slots) (memory : Memory) (taken : ℕ → Bool) (a : ℕ) (t : Slot) → IsHome s memory taken → slot_at s a ≡ Some t → contains s.held t.addr ≡ true → is_taken taken t.addr (2 ^ t.class) ≡ true
heap_taken laws s memory taken a t home e h = from_each (λ b. taken (page_of b)) t.addr (2 ^ t.class) (λ b lo hi. home.pages b t (laws.apart s a b t e lo hi) h)

-- where the next miniheap comes nothing is mapped
pub next_unmapped : (s : Slots) (memory : Memory) (taken : ℕ → Bool) (len : ℕ) → IsHome s memory taken → used_of s + len ≤ heap_limit → is_unmapped memory (end_of s) len ≡ true
next_unmapped s memory taken len home room = from_each (λ a. is_none (memory.bytes a)) (end_of s) len (λ a lo hi.
    none (memory.bytes a) (home.mapped a (omega (arith, lo)) (omega (arith, hi, room)) ∙ le-ltb a (end_of s) lo))
  where
    none : (o : Option ℕ) → is_some o ≡ false → is_none o ≡ true
    none None e = refl
    none (Some x) e = absurd (true≢false e)

-- ---- changes of the memory

pub home_keeps : (s : Slots) (memory : Memory) (old new : ℕ → Bool) → KeepsTaken old new → IsHome s memory old → IsHome s memory new
home_keeps s memory old new keeps home = record { mapped = home.mapped; writable = home.writable; pages = λ a t e h. keeps (page_of a) (home.pages a t e h) }

-- bytes that are mapped change
pub home_filled : (s : Slots) (memory : Memory) (taken : ℕ → Bool) (from len : ℕ) (byte : ℕ → ℕ) → is_mapped memory from len ≡ true → IsHome s memory taken → IsHome s (filled memory from len byte) taken
home_filled s memory taken from len byte mapped home = record {
  mapped = λ a lo hi. at a (within from len a) refl ∙ home.mapped a lo hi;
  writable = home.writable;
  pages = home.pages;
}
  where
    at : (a : ℕ) (b : Bool) → within from len a ≡ b → is_some (cond b (Some (byte a)) (memory.bytes a)) ≡ is_some (memory.bytes a)
    at a true e =
        let u = and_parts (nat_le from a) (nat_lt a (from + len)) e in
        sym (at_each (λ x. is_some (memory.bytes x)) from len a mapped (Rattle.std.proofs.lemmas.Bool.leb-true from a u.0) (ltb-true a (from + len) u.1))
    at a false e = refl

-- ---- changes of the slots

-- slots that are in the same places
pub same_places : (s r : Slots) (a : ℕ) (t : Slot) → s.classes ≡ r.classes → slot_at s a ≡ Some t → slot_at r a ≡ Some (with_state r t)
same_places s r a t e f =
    slot_at-places r a ∙ ap (λ (cs : List ℕ). option_map (with_state r) (slot_at (places_of cs) a)) (sym e) ∙ again (slot_at (places_of s.classes) a) (sym (slot_at-places s a) ∙ f)
  where
    again : (o : Option Slot) → option_map (with_state s) o ≡ Some t → option_map (with_state r) o ≡ Some (with_state r t)
    again None g = absurd (cc)
    again (Some u) g = ap (λ (x : Slot). Some (with_state r x)) (same_Some (with_state s u) t g)

-- no more slots are held
pub home_fewer : (s r : Slots) (memory : Memory) (taken : ℕ → Bool) → s.classes ≡ r.classes → ((a : ℕ) → contains r.held a ≡ true → contains s.held a ≡ true) → IsHome s memory taken → IsHome r memory taken
home_fewer s r memory taken e fewer home = record {
  mapped = λ a lo hi. home.mapped a lo hi ∙ ap (nat_lt a) ends;
  writable = λ a lo hi. home.writable a lo (omega (arith, ends, hi));
  pages = λ a t f h. home.pages a (with_state s t) (same_places r s a t (sym e) f) (fewer t.addr h);
}
  where
    ends : end_of s ≡ end_of r
    ends = ap (λ (cs : List ℕ). heap_from + Rattle.miniheap.specs.Layout.bytes_of (minis cs)) e

pub home_spoiled : (s : Slots) (memory : Memory) (taken : ℕ → Bool) (slot : ℕ) → IsHome s memory taken → IsHome (spoiled_at s slot) memory taken
home_spoiled s memory taken slot = home_fewer s (spoiled_at s slot) memory taken refl (λ a h. h)

pub home_released : (s : Slots) (memory : Memory) (taken : ℕ → Bool) (slot : ℕ) → IsHome s memory taken → IsHome (released_at s slot) memory taken
home_released s memory taken slot = home_fewer s (released_at s slot) memory taken refl (λ a h. (among_left s.held slot a h).1)

-- one slot more is held, whose pages are taken
pub home_held : SlotLaws → (s : Slots) (memory : Memory) (taken : ℕ → Bool) (t : Slot) → slot_at s t.addr ≡ Some t → is_taken taken t.addr (2 ^ t.class) ≡ true → IsHome s memory taken → IsHome (held_at s t.addr) memory taken
home_held laws s memory taken t here pages home = record {
  mapped = home.mapped;
  writable = home.writable;
  pages = λ a u e h. at a u e (among_inserted s.held t.addr u.addr h);
}
  where
    at : (a : ℕ) (u : Slot) → slot_at (held_at s t.addr) a ≡ Some u → (u.addr ≡ t.addr) ⊎ (contains s.held u.addr ≡ true) → taken (page_of a) ≡ true
    at a u e (inr h) = home.pages a (with_state s u) (same_places (held_at s t.addr) s a u refl e) h
    at a u e (inl q) =
        let v = laws.hold (held_at s t.addr) a u e in
        let f : slot_at s a ≡ Some (with_state s u) = same_places (held_at s t.addr) s a u refl e in
        let z : slot_at s u.addr ≡ Some (with_state s u) = laws.apart s a u.addr (with_state s u) f (omega arith) (omega (arith, v.0, v.1)) in
        let w : Some t ≡ Some (with_state s u) = sym here ∙ ap (slot_at s) (sym q) ∙ z in
        let c : t.class ≡ u.class = ap (λ (x : Slot). x.class) (same_Some t (with_state s u) w) in
        at_each (λ b. taken (page_of b)) t.addr (2 ^ t.class) a pages (omega (arith, v.0, q)) (omega (arith, v.1, q, ap (λ (k : ℕ). 2 ^ k) c))

-- a miniheap more
pub home_grown : SlotLaws → (s : Slots) (memory : Memory) (taken : ℕ → Bool) (c : ℕ) (byte : ℕ → ℕ) → IsInOrder s → used_of s + wanted_of s c ≤ heap_limit → IsHome s memory taken
    → IsHome (slots.grown s c) (with_range memory (end_of s) (wanted_of s c) byte true false) taken
home_grown laws s memory taken c byte ok room home = record {
  mapped = λ a lo hi. at a (within (end_of s) (wanted_of s c) a) refl lo hi;
  writable = λ a lo hi. writes a (within (end_of s) (wanted_of s c) a) refl lo hi;
  pages = λ a t e h. old a t e h;
}
  where
    ends : end_of (slots.grown s c) ≡ end_of s + wanted_of s c
    ends = omega (arith, (laws.growing s c ok).used)

    at : (a : ℕ) (b : Bool) → within (end_of s) (wanted_of s c) a ≡ b → heap_from ≤ a → a < 2 ^ 31 → is_some (cond b (Some (byte a)) (memory.bytes a)) ≡ nat_lt a (end_of (slots.grown s c))
    at a true e lo hi = let u = and_parts (nat_le (end_of s) a) (nat_lt a (end_of s + wanted_of s c)) e in sym (lt-ltb a (end_of (slots.grown s c)) (omega (arith, ltb-true a (end_of s + wanted_of s c) u.1, ends)))
    at a false e lo hi = home.mapped a lo hi ∙ same
      where
        same : nat_lt a (end_of s) ≡ nat_lt a (end_of (slots.grown s c))
        same = grind (arith, nat_tests, ends, e)

    writes : (a : ℕ) (b : Bool) → within (end_of s) (wanted_of s c) a ≡ b → heap_from ≤ a → a < end_of (slots.grown s c) → cond b true (memory.writable a) ≡ true
    writes a true e lo hi = refl
    writes a false e lo hi = home.writable a lo (grind (arith, nat_tests, ends, e))

    old : (a : ℕ) (t : Slot) → slot_at (slots.grown s c) a ≡ Some t → contains s.held t.addr ≡ true → taken (page_of a) ≡ true
    old a t e h = here (slot_at s t.addr) refl (ok.held_slots t.addr h)
      where
        here : (o : Option Slot) → slot_at s t.addr ≡ o → IsSomeAnd o (λ u. (u.addr ≡ t.addr) × (u.state ≡ Held)) → taken (page_of a) ≡ true
        here None f k = absurd k
        here (Some u) f k =
            let v = laws.hold (slots.grown s c) a t e in
            let x : slot_at (slots.grown s c) t.addr ≡ Some u = laws.stay s c t.addr u f in
            let y : slot_at (slots.grown s c) t.addr ≡ Some t = laws.apart (slots.grown s c) a t.addr t e (omega arith) (omega (arith, v.0, v.1)) in
            let z : u ≡ t = same_Some u t (sym x ∙ y) in
            home.pages a t (laws.apart s t.addr a t (f ∙ ap (λ (w : Slot). Some w) z) v.0 v.1) h
