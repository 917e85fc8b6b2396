-- A slot of a grid takes another state.
use Rattle.std.proofs.Common.{◌≡◌, ℕ, ◌+◌, ◌*◌, ◌<◌, ◌≤◌, ◌^◌, refl, ap, sym, ◌∙◌, subst, Bool, true, false, cond, ◌⊎◌, inl, inr, arith, nat_eq, List, length, get_or, set, Some, Option, IsSomeAnd, option_map}
use Rattle.std.proofs.lemmas.Bool.{cases_eq, eq-eqb, ne_eqb}
use Rattle.std.proofs.lemmas.Nat.{pow_pos, mul-le}
use Rattle.std.proofs.lemmas.List.{get_or-set_same, get_or-set_other}
use Rattle.std.proofs.lemmas.List.Sums.{count_by-le-length}
use Rattle.miniheap.specs.declared.place.Slot.{Slot}
use Rattle.miniheap.specs.declared.place.SlotPlace.{SlotPlace}
use Rattle.miniheap.specs.declared.place.SlotState.{SlotState}
use Rattle.miniheap.specs.declared.place.SlotState.TheVariants.{Free, Held, Bad}
use Rattle.miniheap.specs.Layout.{heap_limit, minis, mini_at, bytes_of, class_slots}
use Rattle.miniheap.specs.Places.{IsPlaceOf, AreClasses, place_at}
use Rattle.miniheap.specs.Slots.{Slots, state_of, is_free_state, taken_count, slot_at, slot_of, marked, state_before, IsSlotIn}
use Rattle.miniheap.specs.Sound.{states_at, stands_for, IsSound, freed_by, taken_by, frees, takes}
use Rattle.miniheap.proofs.LayoutLemmas.{class_bytes}
use Rattle.miniheap.proofs.SlotsLemmas.{is_taken, slot_from_place}
use Rattle.miniheap.proofs.SoundLemmas.{Found, found, state_is, address_at, with_state, stands_marked}
use Rattle.miniheap.proofs.ChangeLemmas.{Counts, counts_marked, sound_marked}

one_freed : (t : SlotState) (c : ℕ) → freed_by t c c ≡ frees t
one_freed t c = ap (λ (b : Bool). cond (is_free_state t) (cond b 1 0) 0) (eq-eqb c c refl)

one_taken : (t : SlotState) (c : ℕ) → taken_by t c c ≡ takes t
one_taken t c = ap (λ (b : Bool). cond (is_free_state t) 0 (cond b 1 0)) (eq-eqb c c refl)

none_freed : (t : SlotState) (c d : ℕ) → nat_eq c d ≡ false → freed_by t c d ≡ 0
none_freed t c d e = ap (λ (b : Bool). cond (is_free_state t) (cond b 1 0) 0) e ∙ at (is_free_state t)
  where
    at : (b : Bool) → ◌≡◌ {A = ℕ} (cond b 0 0) 0
    at true = refl
    at false = refl

none_taken : (t : SlotState) (c d : ℕ) → nat_eq c d ≡ false → taken_by t c d ≡ 0
none_taken t c d e = ap (λ (b : Bool). cond (is_free_state t) 0 (cond b 1 0)) e ∙ at (is_free_state t)
  where
    at : (b : Bool) → ◌≡◌ {A = ℕ} (cond b 0 0) 0
    at true = refl
    at false = refl

-- a change frees one slot or takes one
one_or : (t : SlotState) → frees t + takes t ≡ 1
one_or Free = refl
one_or Held = refl
one_or Bad = refl

-- the slot of an address that is to change
pub record IsMarked (cs : List ℕ) (ls : List (List SlotState)) (taken : List ℕ) (s : Slots) (a : ℕ) (t : SlotState) (p : SlotPlace) : Type 0 where
  pub list_known : p.mini < length ls
  pub state_known : p.nth < length (states_at ls p.mini)
  pub was : get_or (states_at ls p.mini) p.nth Free ≡ state_before t
  pub stands : stands_for cs (with_state ls p.mini p.nth t) ≡ marked s a t
  pub some : 0 < get_or taken p.class 0 + takes t
  pub fits : get_or taken p.class 0 + takes t < 2 ^ 32

pub is_marked : (cs : List ℕ) (ls : List (List SlotState)) (taken : List ℕ) → AreClasses cs → IsSound cs ls taken → (s : Slots) → stands_for cs ls ≡ s → (a : ℕ) (t : SlotState) (p : SlotPlace)
    → place_at cs a ≡ Some p → IsPlaceOf cs p → (4 ≤ p.class) × (p.class ≤ 22) → IsSlotIn s a (state_before t) → IsMarked cs ls taken s a t p
is_marked cs ls taken classes ok s v a t p e of bounds before = record {
  list_known = f.list_known;
  state_known = f.state_known;
  was = was;
  stands = stands_marked cs ls p.mini p.nth t f was ∙ ap (λ (x : ℕ). marked (stands_for cs ls) x t) address ∙ ap (λ (x : Slots). marked x a t) v;
  some = counts.0;
  fits = counts.1;
}
  where
    f : Found cs ls p.mini p.nth
    f = found cs ls ok.states_are p.mini p.nth of.mini_known of.nth_known

    slot_is : slot_at (stands_for cs ls) a ≡ Some (slot_of (stands_for cs ls) p)
    slot_is = slot_from_place (stands_for cs ls) a 0 (minis cs) ∙ ap (option_map (slot_of (stands_for cs ls))) e

    is : (p.addr ≡ a) × (state_of (stands_for cs ls) p.addr ≡ state_before t)
    is = subst (λ (o : Option Slot). IsSomeAnd o (λ (x : Slot). (x.addr ≡ a) × (x.state ≡ state_before t))) slot_is (subst (λ (x : Slots). IsSlotIn x a (state_before t)) (sym v) before)

    own_address : address_at cs p.mini p.nth ≡ p.addr
    own_address = sym (of.address_is ∙ ap (λ (x : ℕ). (mini_at (minis cs) p.mini).base + p.nth * 2 ^ x) of.class_is)

    address : address_at cs p.mini p.nth ≡ a
    address = own_address ∙ is.0

    was : get_or (states_at ls p.mini) p.nth Free ≡ state_before t
    was = sym (state_is cs ls p.mini p.nth f) ∙ ap (state_of (stands_for cs ls)) own_address ∙ is.1

    counts : (0 < get_or taken p.class 0 + takes t) × (get_or taken p.class 0 + takes t < 2 ^ 32)
    counts =
        let r : taken_count (stands_for cs (with_state ls p.mini p.nth t)) p.class + freed_by t p.class p.class ≡ taken_count (stands_for cs ls) p.class + taken_by t p.class p.class =
        subst (λ (x : ℕ). taken_count (stands_for cs (with_state ls p.mini p.nth t)) p.class + freed_by t x p.class ≡ taken_count (stands_for cs ls) p.class + taken_by t x p.class) (sym of.class_is)
        (counts_marked cs ls p.mini p.nth t of.mini_known of.nth_known f was p.class) in
        let n : ℕ = length (class_slots p.class (minis cs)) in
        let b : taken_count (stands_for cs (with_state ls p.mini p.nth t)) p.class ≤ n = count_by-le-length (is_taken (stands_for cs (with_state ls p.mini p.nth t))) (class_slots p.class (minis cs)) in
        let u : n * 1 ≤ n * 2 ^ p.class = mul-le n 1 n (2 ^ p.class) (omega arith) (omega (arith, pow_pos p.class)) in
        let y : n * 2 ^ p.class ≤ bytes_of (minis cs) = class_bytes p.class (minis cs) in
        let x : get_or taken p.class 0 ≡ taken_count (stands_for cs ls) p.class = ok.taken_are p.class bounds.0 bounds.1 in
        let l : bytes_of (minis cs) ≤ heap_limit = classes.in_limit in
        (omega (arith, r, one_freed t p.class, one_taken t p.class, x, one_or t), omega (arith, r, one_freed t p.class, one_taken t p.class, x, b, u, y, l, one_or t))

-- ---- the fields afterwards

new_counts : (t : SlotState) (class v : ℕ) (taken : List ℕ) → class < length taken → v + frees t ≡ get_or taken class 0 + takes t → Counts t class taken (set taken class v)
new_counts t class v taken h e c lo hi = at (cases_eq c class)
  where
    at : (c ≡ class) ⊎ (c ≡ class → ⊥) → get_or (set taken class v) c 0 + freed_by t class c ≡ get_or taken c 0 + taken_by t class c
    at (inl q) =
        subst (λ (x : ℕ). get_or (set taken class v) x 0 + freed_by t class x ≡ get_or taken x 0 + taken_by t class x) (sym q)
        (omega (arith, get_or-set_same taken class v 0 h, one_freed t class, one_taken t class, e))
    at (inr q) =
        let n : nat_eq class c ≡ false = ne_eqb class c (λ z. q (sym z)) in
        omega (arith, get_or-set_other taken class c v 0 q, none_freed t class c n, none_taken t class c n)

pub sound_after : (cs : List ℕ) (ls : List (List SlotState)) (taken : List ℕ) → IsSound cs ls taken → (s : Slots) (a : ℕ) (t : SlotState) (p : SlotPlace) → IsPlaceOf cs p → IsMarked cs ls taken s a t p → (v : ℕ) → p.class < length taken
    → v + frees t ≡ get_or taken p.class 0 + takes t → IsSound cs (with_state ls p.mini p.nth t) (set taken p.class v)
sound_after cs ls taken ok s a t p of k v h q =
    sound_marked cs ls taken (set taken p.class v) ok p.mini p.nth t of.mini_known of.nth_known k.was
    (subst (λ (x : ℕ). Counts t x taken (set taken p.class v)) of.class_is (new_counts t p.class v taken h q))
