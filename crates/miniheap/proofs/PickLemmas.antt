-- The words of a seed pick a free slot.
use Rattle.std.proofs.Common.{◌≡◌, ℕ, zero, suc, ◌+◌, ◌-◌, ◌*◌, ◌%◌, ◌^◌, ◌<◌, ◌≤◌, refl, ap, sym, ◌∙◌, subst, Bool, true, false, cond, ◌⊎◌, inl, inr, arith, nat_eq, List, [], ◌∷◌, ◌++◌, length, get_or, filter, Option, Some, None, IsSomeAnd}
use Rattle.std.proofs.lemmas.Bool.{cases_lt, eqb-true, true≢false}
use Rattle.std.proofs.lemmas.Nat.{mod_below}
use Rattle.std.proofs.lemmas.Option.{same_Some}
use Rattle.std.proofs.lemmas.List.{length-append, get_or-append-add, get_or_append_left}
use Rattle.miniheap.specs.declared.place.Slot.{Slot}
use Rattle.miniheap.specs.declared.place.SlotState.{SlotState}
use Rattle.miniheap.specs.declared.place.SlotState.TheVariants.{Free, Held, Bad}
use Rattle.miniheap.specs.Laws.{DrawsFindFreeSlots}
use Rattle.miniheap.specs.Layout.{Mini, minis, mini_at, mini_slots, all_slots, class_slots}
use Rattle.miniheap.specs.Slots.{Slots, state_of, is_free_state, slot_at, nth_slot, must_grow, slot_count, IsFreeSlot}
use Rattle.miniheap.specs.Draws.{Pick, drawn, next_free, after_draws, or_else, picked_by, address_of, is_free_number}
use Rattle.miniheap.specs.WordList.{draws_of}
use Rattle.miniheap.proofs.LayoutLemmas.{length-slots_from, get-slots_from}
use Rattle.miniheap.proofs.SlotsLemmas.{nth_slot_at}
use Rattle.miniheap.proofs.DrawLemmas.{has_free, some_slots, next_is_there}

-- ---- slots by number

-- slot k of a class is a slot of one of its miniheaps
record IsNumbered (ms : List Mini) (class k : ℕ) : Type 0 where
  mini : ℕ
  nth : ℕ
  known : mini < length ms
  inside : nth < (mini_at ms mini).slots
  class_is : (mini_at ms mini).class ≡ class
  address_is : get_or (class_slots class ms) k 0 ≡ (mini_at ms mini).base + nth * 2 ^ (mini_at ms mini).class

class_slots_head : (m : Mini) (ms : List Mini) (class : ℕ) (b : Bool) → nat_eq m.class class ≡ b → class_slots class (m ∷ ms) ≡ cond b (mini_slots m) [] ++ class_slots class ms
class_slots_head m ms class b e = ap (λ (x : Bool). all_slots (cond x (m ∷ filter (λ (y : Mini). nat_eq y.class class) ms) (filter (λ (y : Mini). nat_eq y.class class) ms))) e ∙ at b
  where
    at : (x : Bool) → all_slots (cond x (m ∷ filter (λ (y : Mini). nat_eq y.class class) ms) (filter (λ (y : Mini). nat_eq y.class class) ms)) ≡ cond x (mini_slots m) [] ++ class_slots class ms
    at true = refl
    at false = refl

numbered_later : (m : Mini) (ms : List Mini) (class k j : ℕ) → get_or (class_slots class (m ∷ ms)) k 0 ≡ get_or (class_slots class ms) j 0 → IsNumbered ms class j → IsNumbered (m ∷ ms) class k
numbered_later m ms class k j e r = record { mini = suc r.mini; nth = r.nth; known = omega (arith, r.known); inside = r.inside; class_is = r.class_is; address_is = e ∙ r.address_is }

numbered : (ms : List Mini) (class k : ℕ) → k < length (class_slots class ms) → IsNumbered ms class k
numbered [] class k h = absurd (omega arith)
numbered (m ∷ ms) class k h = at (nat_eq m.class class) refl (numbered ms class)
  where
    slots_are : length (mini_slots m) ≡ m.slots
    slots_are = length-slots_from m.base (2 ^ m.class) m.slots

    among : nat_eq m.class class ≡ true → ((j : ℕ) → j < length (class_slots class ms) → IsNumbered ms class j) → (k < m.slots) ⊎ (m.slots ≤ k) → IsNumbered (m ∷ ms) class k
    among e r (inl lt) = record {
      mini = 0;
      nth = k;
      known = omega arith;
      inside = lt;
      class_is = eqb-true m.class class e;
      address_is = ap (λ (xs : List ℕ). get_or xs k 0) (class_slots_head m ms class true e) ∙ get_or_append_left (mini_slots m) (class_slots class ms) 0 k (omega (arith, slots_are, lt)) ∙ get-slots_from m.base (2 ^ m.class) m.slots k lt;
    }
    among e r (inr le) =
        let j : ℕ = k - m.slots in
        let f : length (mini_slots m) + j ≡ k = omega (arith, slots_are, le) in
        numbered_later m ms class k j
        (ap (λ (xs : List ℕ). get_or xs k 0) (class_slots_head m ms class true e) ∙ ap (λ (x : ℕ). get_or (mini_slots m ++ class_slots class ms) x 0) (sym f) ∙ get_or-append-add (mini_slots m) (class_slots class ms) j 0)
        (r j (omega (arith, h, le, slots_are, ap length (class_slots_head m ms class true e), length-append (mini_slots m) (class_slots class ms))))

    at : (b : Bool) → nat_eq m.class class ≡ b → ((j : ℕ) → j < length (class_slots class ms) → IsNumbered ms class j) → IsNumbered (m ∷ ms) class k
    at true e r = among e r (cases_lt k m.slots)
    at false e r =
        let f : class_slots class (m ∷ ms) ≡ class_slots class ms = class_slots_head m ms class false e in
        numbered_later m ms class k k (ap (λ (xs : List ℕ). get_or xs k 0) f) (r k (omega (arith, h, ap length f)))

free_state : (u : SlotState) → is_free_state u ≡ true → u ≡ Free
free_state Free e = refl
free_state Held e = absurd (true≢false (sym e))
free_state Bad e = absurd (true≢false (sym e))

free_number : (s : Slots) (class k : ℕ) → k < slot_count s class → is_free_number s class k ≡ true → IsFreeSlot s class (address_of s class k)
free_number s class k h e =
    let n = numbered (minis s.classes) class k h in
    let t : Slot = nth_slot s n.mini n.nth in
    let a : t.addr ≡ address_of s class k = sym n.address_is in
    let found : slot_at s (address_of s class k) ≡ Some t = ap (slot_at s) (sym a) ∙ nth_slot_at s n.mini n.nth n.known n.inside in
    subst (λ (o : Option Slot). IsSomeAnd o (λ u. (u.addr ≡ address_of s class k) × (u.class ≡ class) × (u.state ≡ Free))) (sym found)
    (a, n.class_is, ap (state_of s) a ∙ free_state (state_of s (address_of s class k)) e)

-- ---- what the seed's words pick

record IsGood (free : ℕ → Bool) (slots : ℕ) (p : Pick) : Type 0 where
  below : p.number < slots
  passes : free p.number ≡ true

drawn_good : (word : ℕ → ℕ) (free : ℕ → Bool) (slots n left : ℕ) (p : Pick) → 0 < slots → drawn word free slots n left ≡ Some p → IsGood free slots p
unfolding drawn
drawn_good word free slots n zero p h e = absurd (cc)
drawn_good word free slots n (suc left) p h e = at (free (word n % slots)) refl e (drawn_good word free slots (n + 1) left p h)
  where
    at : (b : Bool) → free (word n % slots) ≡ b → cond b (Some (record { number = word n % slots; draws = n + 1 })) (drawn word free slots (n + 1) left) ≡ Some p
        → (drawn word free slots (n + 1) left ≡ Some p → IsGood free slots p) → IsGood free slots p
    at true q f r =
        let k : record { number = word n % slots; draws = n + 1 } ≡ p = same_Some (record { number = word n % slots; draws = n + 1 }) p f in
        subst (IsGood free slots) k (record { below = mod_below (word n) slots h; passes = q })
    at false q f r = r f

next_good : (free : ℕ → Bool) (slots k left m : ℕ) → 0 < slots → next_free free slots k left ≡ Some m → (m < slots) × (free m ≡ true)
unfolding next_free
next_good free slots k zero m h e = absurd (cc)
next_good free slots k (suc left) m h e = at (free ((k + 1) % slots)) refl e (next_good free slots ((k + 1) % slots) left m h)
  where
    at : (b : Bool) → free ((k + 1) % slots) ≡ b → cond b (Some ((k + 1) % slots)) (next_free free slots ((k + 1) % slots) left) ≡ Some m
        → (next_free free slots ((k + 1) % slots) left ≡ Some m → (m < slots) × (free m ≡ true)) → (m < slots) × (free m ≡ true)
    at true q f r = let e : (k + 1) % slots ≡ m = same_Some ((k + 1) % slots) m f in subst (λ (x : ℕ). (x < slots) × (free x ≡ true)) e (mod_below (k + 1) slots h, q)
    at false q f r = r f

-- where nothing else was said of what they pick
record Picks (s : Slots) (class seed spent : ℕ) : Type 0 where
  pick : Pick
  is_picked : picked_by seed spent s class ≡ Some pick
  good : IsGood (is_free_number s class) (slot_count s class) pick

picks : (s : Slots) (class seed spent : ℕ) → must_grow s class ≡ false → Picks s class seed spent
picks s class seed spent e = at (drawn (draws_of seed spent) (is_free_number s class) (slot_count s class) 0 64) refl
  where
    some : 0 < slot_count s class
    some = some_slots s class e

    last : ℕ
    last = draws_of seed spent 63 % slot_count s class

    at : (o : Option Pick) → drawn (draws_of seed spent) (is_free_number s class) (slot_count s class) 0 64 ≡ o → Picks s class seed spent
    at (Some p) q = record {
      pick = p;
      is_picked = ap (λ (o : Option Pick). or_else o (after_draws (next_free (is_free_number s class) (slot_count s class) last (slot_count s class)))) q;
      good = drawn_good (draws_of seed spent) (is_free_number s class) (slot_count s class) 0 64 p some q;
    }
    at None q =
        let f = has_free s class e in
        let n = next_is_there (is_free_number s class) (slot_count s class) last f.0 (mod_below (draws_of seed spent 63) (slot_count s class) some) f.1 f.2 in
        let g = next_good (is_free_number s class) (slot_count s class) last (slot_count s class) n.0 some n.1 in
        record {
          pick = record { number = n.0; draws = 64 };
          is_picked = ap (λ (o : Option Pick). or_else o (after_draws (next_free (is_free_number s class) (slot_count s class) last (slot_count s class)))) q ∙ ap after_draws n.1;
          good = record { below = g.0; passes = g.1 };
        }

pub draws_find_free_slots : DrawsFindFreeSlots
draws_find_free_slots s class seed spent e =
    let p = picks s class seed spent e in
    record { pick = p.pick; is_picked = p.is_picked; free = free_number s class p.pick.number p.good.below p.good.passes }
