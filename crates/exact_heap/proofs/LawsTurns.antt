-- What a turn of the search comes to, over the history alone.
use Rattle.std.proofs.Common.{◌≡◌, ℕ, zero, suc, ◌+◌, ◌<◌, ◌≤◌, refl, ap, ◌∙◌, Bool, true, false, cond, not, ◌⊎◌, inl, inr, arith, nat_eq, nat_lt, Option, Some, None, Ok, Err}
use Rattle.std.specs.List.{range_with_len, find}
use Rattle.std.proofs.lemmas.Bool.{ltb-true, ltb-false, cases_lt, eqb-true, not-false, true≢false}
use Rattle.diefast_canary.specs.Canary.{canary_byte}
use Rattle.rv_memory.specs.Memory.{Memory, is_byte, is_broken, first_broken, IsIntact}
use Rattle.miniheap.specs.Layout.{heap_limit}
use Rattle.miniheap.specs.Slots.{must_grow, used_of, wanted_of, IsFreeSlot}
use Rattle.miniheap.specs.Draws.{address_of}
use Rattle.exact_heap.specs.History.{slots_of}
use Rattle.exact_heap.specs.Placing.{HeapState, no_room, grown, break_in, checked, with_draws, turn}
use Rattle.miniheap.specs.Laws.{SlotLaws}
use Rattle.exact_heap.proofs.Turns.{turn_grows, turn_draws}

-- ---- a turn

pub data TurnEnds (class : ℕ) (s : HeapState) : Type 0 where
  Grows : must_grow (slots_of s.history) class ≡ true → used_of (slots_of s.history) + wanted_of (slots_of s.history) class ≤ heap_limit → turn class s ≡ record { state = grown class s; answer = Ok None } → TurnEnds class s
  Lacks : must_grow (slots_of s.history) class ≡ true → heap_limit < used_of (slots_of s.history) + wanted_of (slots_of s.history) class → turn class s ≡ record { state = s; answer = Err (no_room class s) } → TurnEnds class s
  Draws : must_grow (slots_of s.history) class ≡ false → (slot words : ℕ) → IsFreeSlot (slots_of s.history) class slot → (broken : Option ℕ) → break_in s slot class ≡ broken
      → turn class s ≡ checked slot (with_draws words s) broken → TurnEnds class s

pub turn_ends : SlotLaws → (class : ℕ) (s : HeapState) → TurnEnds class s
turn_ends laws class s = at (must_grow (slots_of s.history) class) refl
  where
    room : must_grow (slots_of s.history) class ≡ true → (b : Bool) → nat_lt heap_limit (used_of (slots_of s.history) + wanted_of (slots_of s.history) class) ≡ b → TurnEnds class s
    room e true q =
        Lacks e (ltb-true heap_limit (used_of (slots_of s.history) + wanted_of (slots_of s.history) class) q)
        (turn_grows class s e ∙ ap (λ (b : Bool). cond b (record { state = s; answer = Err (no_room class s) }) (record { state = grown class s; answer = Ok None })) q)
    room e false q =
        Grows e (ltb-false heap_limit (used_of (slots_of s.history) + wanted_of (slots_of s.history) class) q)
        (turn_grows class s e ∙ ap (λ (b : Bool). cond b (record { state = s; answer = Err (no_room class s) }) (record { state = grown class s; answer = Ok None })) q)

    at : (b : Bool) → must_grow (slots_of s.history) class ≡ b → TurnEnds class s
    at true e = room e (nat_lt heap_limit (used_of (slots_of s.history) + wanted_of (slots_of s.history) class)) refl
    at false e =
        let p = laws.free (slots_of s.history) class s.history.seed s.history.spent e in
        let slot : ℕ = address_of (slots_of s.history) class p.pick.number in
        Draws e slot p.pick.draws p.free (break_in s slot class) refl
        (turn_draws class s (slots_of s.history) p.pick slot (break_in s slot class) refl e p.is_picked refl refl)

-- ---- whole slots

find_none : (p : ℕ → Bool) (from len : ℕ) → find p (range_with_len from len) ≡ None → (a : ℕ) → from ≤ a → a < from + len → p a ≡ false
find_none p from zero e a lo hi = absurd (omega arith)
find_none p from (suc len) e a lo hi = at (p from) refl e (find_none p (from + 1) len) (cases_lt from a)
  where
    at : (b : Bool) → p from ≡ b → cond b (Some from) (find p (range_with_len (from + 1) len)) ≡ None
        → (find p (range_with_len (from + 1) len) ≡ None → (c : ℕ) → from + 1 ≤ c → c < from + 1 + len → p c ≡ false) → (from < a) ⊎ (a ≤ from) → p a ≡ false
    at true q f r o = absurd (cc)
    at false q f r (inl lt) = r f a (omega arith) (omega arith)
    at false q f r (inr le) = let k : a ≡ from = omega arith in ap p k ∙ q

canary_there : (here : Option ℕ) (byte : ℕ) → not (is_byte here byte) ≡ false → here ≡ Some byte
canary_there None byte e = absurd (true≢false e)
canary_there (Some x) byte e = ap (λ (y : ℕ). Some y) (eqb-true x byte (not-false (nat_eq x byte) e))

pub intact_of : (memory : Memory) (word from len : ℕ) → first_broken memory word from len ≡ None → IsIntact memory word from len
intact_of memory word from len e a lo hi = canary_there (memory.bytes a) (canary_byte word a) (find_none (is_broken memory word) from len e a lo hi)
