-- From slot to slot through the whole heap.
use Rattle.std.proofs.Common.{◌≡◌, ℕ, ◌+◌, ◌-◌, ◌*◌, ◌^◌, ◌<◌, refl, ap, sym, ◌∙◌, subst, arith, List, [], ◌∷◌, Option, Some, None}
use Rattle.std.proofs.lemmas.Nat.{pow_pos}
use Rattle.std.proofs.lemmas.Option.{same_Some}
use Rattle.miniheap.specs.declared.place.Slot.{Slot}
use Rattle.miniheap.specs.Laws.{SlotLaws, IsWalk}
use Rattle.miniheap.specs.Layout.{minis, mini_at}
use Rattle.miniheap.specs.Slots.{Slots, slot_at, nth_slot, end_of, IsSlotOf}

pub none_at_end : SlotLaws → (s : Slots) → slot_at s (end_of s) ≡ None
none_at_end laws s = at (slot_at s (end_of s)) refl
  where
    at : (o : Option Slot) → slot_at s (end_of s) ≡ o → o ≡ None
    at None e = refl
    at (Some t) e = absurd (omega (arith, laws.hold s (end_of s) t e, laws.within s (end_of s) t e))

-- a walk that stands at no slot has come to its end
pub walk_ended : (s : Slots) (a : ℕ) (left : List ℕ) → IsWalk s a left → slot_at s a ≡ None → (left ≡ []) × (a ≡ end_of s)
walk_ended s a [] w e = (refl, w)
walk_ended s a (x ∷ left) w e = absurd (clash (slot_at s a) w.0 w.1 e)
  where
    clash : (o : Option Slot) (t : Slot) → o ≡ Some t → o ≡ None → ⊥
    clash o t f g = cc

-- a walk that stands at a slot goes on behind it
pub record Goes (s : Slots) (a : ℕ) (t : Slot) (left : List ℕ) : Type 0 where
  pub rest : List ℕ
  pub first : left ≡ a ∷ rest
  pub addr : t.addr ≡ a
  pub walk : IsWalk s (a + 2 ^ t.class) rest

pub walk_goes : SlotLaws → (s : Slots) (a : ℕ) (t : Slot) (left : List ℕ) → IsWalk s a left → slot_at s a ≡ Some t → Goes s a t left
walk_goes laws s a t [] w e = absurd (clash (slot_at s (end_of s)) t (none_at_end laws s) (ap (slot_at s) (sym w) ∙ e))
  where
    clash : (o : Option Slot) (t : Slot) → o ≡ None → o ≡ Some t → ⊥
    clash o t f g = cc
walk_goes laws s a t (x ∷ left) w e =
    let q : w.0 ≡ t = same_Some w.0 t (sym w.1 ∙ e) in
    record { rest = left; first = ap (λ (y : ℕ). y ∷ left) w.3; addr = ap (λ (y : Slot). y.addr) (sym q) ∙ w.2; walk = subst (λ (y : Slot). IsWalk s (a + 2 ^ y.class) left) q w.4 }

-- how many bytes lie from a slot on
abbrev pub bytes_left : Slots → Option Slot → ℕ
bytes_left s None = 0
bytes_left s (Some t) = end_of s - t.addr

-- they are fewer behind it
pub walk_nears : SlotLaws → (s : Slots) (a : ℕ) (t : Slot) (left : List ℕ) (next : Option Slot) → IsWalk s a left → slot_at s a ≡ Some t → next ≡ slot_at s (t.addr + 2 ^ t.class)
    → bytes_left s next < bytes_left s (Some t)
walk_nears laws s a t left None w e f = omega (arith, laws.within s a t e, pow_pos t.class)
walk_nears laws s a t left (Some u) w e f =
    let g : Goes s a t left = walk_goes laws s a t left w e in
    let k : Goes s (a + 2 ^ t.class) u g.rest = walk_goes laws s (a + 2 ^ t.class) u g.rest g.walk (ap (λ (b : ℕ). slot_at s (b + 2 ^ t.class)) (sym g.addr) ∙ sym f) in
    omega (arith, laws.within s a t e, pow_pos t.class, g.addr, k.addr)

beyond : (a base n c d : ℕ) → a ≡ base + n * 2 ^ c → c ≡ d → a + 2 ^ c ≡ base + (n + 1) * 2 ^ d
beyond a base n c d e f = subst (λ (k : ℕ). a + 2 ^ c ≡ base + (n + 1) * 2 ^ k) f (omega (arith, e))

-- a miniheap's next slot lies right behind one
pub behind_in_mini : SlotLaws → (s : Slots) (a : ℕ) (t : Slot) → slot_at s a ≡ Some t → t.nth + 1 < (mini_at (minis s.classes) t.mini).slots → slot_at s (t.addr + 2 ^ t.class) ≡ Some (nth_slot s t.mini (t.nth + 1))
behind_in_mini laws s a t e h =
    let k : IsSlotOf s t = (laws.known s a t e).0 in
    ap (slot_at s) (beyond t.addr (mini_at (minis s.classes) t.mini).base t.nth t.class (mini_at (minis s.classes) t.mini).class k.address_is k.class_is) ∙ laws.found s t.mini (t.nth + 1) k.mini_known h
