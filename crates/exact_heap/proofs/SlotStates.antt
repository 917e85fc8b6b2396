-- The state of a slot by its address, and what a change of it changes.
use Rattle.std.proofs.Common.{◌≡◌, ℕ, ap, ◌∙◌, Bool, true, false, cond, not, ◌&&◌, ◌||◌, nat_eq, refl}
use Rattle.std.specs.Ordering.{nat_cmp, eq_by_cmp}
use Rattle.std.specs.Cmp.{nat_cmp_total, unsigned_tied}
use Rattle.std.specs.FinSet.{contains, insert, contains-insert, contains-remove}
use Rattle.std.proofs.lemmas.Bool.{eq-eqb, ne_eqb}
use Rattle.miniheap.specs.declared.place.SlotState.{SlotState}
use Rattle.miniheap.specs.declared.place.SlotState.TheVariants.{Free, Held, Bad}
use Rattle.miniheap.specs.Slots.{Slots, state_of, marked}
use Rattle.miniheap.specs.Sound.{is_held_state}

pub eq_turned : (q k : ℕ) → eq_by_cmp nat_cmp q k ≡ nat_eq q k
eq_turned q k = unsigned_tied q k

-- which sets hold an address, by its state
pub in_sets : (s : Slots) (a : ℕ) → contains s.held a ≡ is_held_state (state_of s a)
in_sets s a = at (contains s.held a) (contains s.bad a)
  where
    at : (b c : Bool) → b ≡ is_held_state (cond b Held (cond c Bad Free))
    at true c = refl
    at false true = refl
    at false false = refl

pub not_held : (s : Slots) (a : ℕ) → state_of s a ≡ Free → contains s.held a ≡ false
not_held s a e = in_sets s a ∙ ap is_held_state e

pub not_bad : (s : Slots) (a : ℕ) → state_of s a ≡ Free → contains s.bad a ≡ false
not_bad s a e = at (contains s.held a) (contains s.bad a) e
  where
    at : (b c : Bool) → cond b Held (cond c Bad Free) ≡ Free → c ≡ false
    at true c e = absurd (cc)
    at false true e = absurd (cc)
    at false false e = refl

-- a change leaves the state of every other slot
pub state_other : (s : Slots) (a q : ℕ) (t : SlotState) → (q ≡ a → ⊥) → state_of (marked s a t) q ≡ state_of s q
state_other s a q Free n =
    ap (λ (b : Bool). cond b Held (cond (contains s.bad q) Bad Free)) (contains-remove nat_cmp_total s.held a q ∙ ap (λ (b : Bool). not b && contains s.held q) (eq_turned q a ∙ ne_eqb q a n))
state_other s a q Held n =
    ap (λ (b : Bool). cond b Held (cond (contains s.bad q) Bad Free)) (contains-insert nat_cmp_total s.held a q ∙ ap (λ (b : Bool). b || contains s.held q) (eq_turned q a ∙ ne_eqb q a n))
state_other s a q Bad n =
    ap (λ (b : Bool). cond (contains s.held q) Held (cond b Bad Free)) (contains-insert nat_cmp_total s.bad a q ∙ ap (λ (b : Bool). b || contains s.bad q) (eq_turned q a ∙ ne_eqb q a n))

-- a free slot that becomes bad is bad
pub state_spoiled : (s : Slots) (a : ℕ) → state_of s a ≡ Free → state_of (marked s a Bad) a ≡ Bad
state_spoiled s a e =
    ap (λ (h : Bool). cond h Held (cond (contains (insert s.bad a) a) Bad Free)) (not_held s a e)
    ∙ ap (λ (h : Bool). cond h Bad Free) (contains-insert nat_cmp_total s.bad a a ∙ ap (λ (b : Bool). b || contains s.bad a) (eq_turned a a ∙ eq-eqb a a refl))
