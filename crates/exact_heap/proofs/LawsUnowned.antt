-- What steps of a heap call do to slots that no object holds.
use Rattle.std.proofs.Common.{◌≡◌, ℕ, zero, suc, ◌+◌, ◌^◌, ◌<◌, ◌≤◌, refl, ap, sym, ◌∙◌, subst, Bool, true, false, cond, not, ◌&&◌, ◌⊎◌, inl, inr, arith, nat_lt, List, [], ◌∷◌, ◌++◌, append_assoc, Option, Some, None, IsSomeAnd}
use Rattle.std.specs.Prelude.{unwrap_or}
use Rattle.std.specs.List.{AllByRecursion, range_with_len, find}
use Rattle.std.specs.Cmp.{nat_cmp_total}
use Rattle.std.specs.FinSet.{contains, insert, contains-insert}
use Rattle.std.proofs.lemmas.Bool.{true≢false, false_from_ne_true, eq-eqb, lt-leb}
use Rattle.std.proofs.lemmas.List.{append-nil}
use Rattle.std.proofs.lemmas.Option.{same_Some}
use Rattle.diefast_canary.specs.Canary.{canary_byte}
use Rattle.rv_memory.specs.Memory.{Memory, within, is_byte, is_broken, first_broken, IsIntact}
use Rattle.miniheap.specs.declared.place.Slot.{Slot}
use Rattle.miniheap.specs.declared.place.SlotState.{SlotState}
use Rattle.miniheap.specs.declared.place.SlotState.TheVariants.{Free, Held, Bad}
use Rattle.miniheap.specs.WordList.{canary_of}
use Rattle.miniheap.specs.Slots.{Slots, state_of, slot_from, slot_at, wanted_of, end_of, IsFreeSlot}
use Rattle.miniheap.specs.Slots as slots
use Rattle.exact_heap.proofs.SlotStates.{eq_turned}
use Rattle.exact_heap.specs.declared.signal.Signal.{Signal}
use Rattle.exact_heap.specs.declared.signal.Place.TheVariants.{Call}
use Rattle.exact_heap.specs.History.{Object, History, held_by, slots_of, canary_in}
use Rattle.exact_heap.specs.Placing.{HeapState, grown, byte_at, break_in, signal_at, signalled, with_draws}
use Rattle.exact_heap.specs.Lawful.{IsLawful}
use Rattle.exact_heap.specs.Unowned.{IsUnownedAt, IsFreshAt}
use Rattle.miniheap.specs.Laws.{SlotLaws}
use Rattle.exact_heap.proofs.SlotPlaces.{with_state, slot_in_is, held_state, not_held_bad}
use Rattle.exact_heap.proofs.Homes.{same_places}
use Rattle.exact_heap.proofs.Turns.{FreeSlot, free_slot_is}
use Rattle.exact_heap.proofs.LawsPlacing.{or_left, or_right}
use Rattle.exact_heap.proofs.LawsQuiet.{own_state, free_is, not_broken, is_within}

-- ---- slots that no object holds

-- the slot of an address, and that none holds it
pub record Unheld (s : Slots) (a : ℕ) : Type 0 where
  pub slot : Slot
  pub found : slot_at s a ≡ Some slot
  pub unheld : contains s.held slot.addr ≡ false

pub unheld_state : (s : Slots) (a : ℕ) → contains s.held a ≡ false → state_of s a ≡ Held → ⊥
unheld_state s a e f = at (contains s.bad a) (sym (ap (λ (b : Bool). cond b Held (cond (contains s.bad a) Bad Free)) e) ∙ f)
  where
    at : (b : Bool) → cond b Bad Free ≡ Held → ⊥
    at true g = cc
    at false g = cc

pub unheld_of : (h : History) (a : ℕ) → IsUnownedAt h a → Unheld (slots_of h) a
unheld_of h a u = at (slot_at (slots_of h) a) refl u
  where
    at : (o : Option Slot) → slot_at (slots_of h) a ≡ o → IsSomeAnd o (λ t. t.state ≡ Held → ⊥) → Unheld (slots_of h) a
    at None e k = absurd k
    at (Some t) e k = record { slot = t; found = e; unheld = false_from_ne_true (contains (held_by h.objects) t.addr) (λ c. k (own_state (slots_of h) a t e ∙ held_state (slots_of h) t.addr c)) }

pub unowned_of : (h : History) (a : ℕ) → Unheld (slots_of h) a → IsUnownedAt h a
unowned_of h a u =
    subst (λ (o : Option Slot). IsSomeAnd o (λ t. t.state ≡ Held → ⊥)) (sym u.found) (λ e. unheld_state (slots_of h) u.slot.addr u.unheld (sym (own_state (slots_of h) a u.slot u.found) ∙ e))

-- other addresses of its slot
pub unheld_beside : SlotLaws → (s : Slots) (a b : ℕ) (u : Unheld s a) → u.slot.addr ≤ b → b < u.slot.addr + 2 ^ u.slot.class → Unheld s b
unheld_beside laws s a b u lo hi = record { slot = u.slot; found = laws.apart s a b u.slot u.found lo hi; unheld = u.unheld }

-- a bad slot is one that no object holds
pub bad_unheld : (h : History) (a : ℕ) (t : Slot) → IsLawful h → slot_at (slots_of h) a ≡ Some t → contains h.bad t.addr ≡ true → Unheld (slots_of h) a
bad_unheld h a t l e b = record { slot = t; found = e; unheld = not_held_bad (slots_of h) t.addr (slot_in_is (slots_of h) t.addr Bad (l.in_order.bad_slots t.addr b)).1 }

-- ---- slots that hold the canary

pub fresh_is : (s : HeapState) (a : ℕ) (t : Slot) → slot_at (slots_of s.history) a ≡ Some t → IsFreshAt s a → IsIntact s.memory (canary_in s.history) t.addr (2 ^ t.class)
fresh_is s a t e f = subst (λ (o : Option Slot). IsSomeAnd o (λ u. IsIntact s.memory (canary_in s.history) u.addr (2 ^ u.class))) e f

pub fresh_from : (s : HeapState) (a : ℕ) (t : Slot) → slot_at (slots_of s.history) a ≡ Some t → IsIntact s.memory (canary_in s.history) t.addr (2 ^ t.class) → IsFreshAt s a
fresh_from s a t e k = subst (λ (o : Option Slot). IsSomeAnd o (λ u. IsIntact s.memory (canary_in s.history) u.addr (2 ^ u.class))) (sym e) k

-- an address in it isn't broken
fresh_whole : SlotLaws → (s : HeapState) (a : ℕ) (u : Unheld (slots_of s.history) a) → IsFreshAt s a → is_broken s.memory (canary_in s.history) a ≡ false
fresh_whole laws s a u f =
    let h = laws.hold (slots_of s.history) a u.slot u.found in
    not_broken (s.memory.bytes a) (canary_byte (canary_in s.history) a) (fresh_is s a u.slot u.found f a h.0 h.1)

-- ---- steps of a call

-- each slot stays where it is
abbrev pub Stay : (s r : Slots) → Type 0
Stay s r = (a : ℕ) (t : Slot) → slot_at s a ≡ Some t → slot_at r a ≡ Some (with_state r t)

-- an address in a slot that none holds was in one before and has its byte still, or the slot holds the canary
abbrev pub Keeps : (s r : HeapState) → Type 0
Keeps s r = (a : ℕ) → Unheld (slots_of r.history) a → (Unheld (slots_of s.history) a × (r.memory.bytes a ≡ s.memory.bytes a)) ⊎ ((Unheld (slots_of s.history) a → ⊥) × IsFreshAt r a)

-- a signal whose slot is bad
pub record Seen (s r : HeapState) (g : Signal) : Type 0 where
  pub place : g.place ≡ Call r.history.calls
  pub was : Unheld (slots_of s.history) g.addr
  pub broken : is_broken s.memory (canary_in s.history) g.addr ≡ true
  pub stays : r.memory.bytes g.addr ≡ s.memory.bytes g.addr
  pub byte : g.byte ≡ byte_at r.memory g.addr
  pub slot : Slot
  pub found : slot_at (slots_of r.history) g.addr ≡ Some slot
  pub bad : contains r.history.bad slot.addr ≡ true

pub record Goes (s r : HeapState) : Type 0 where
  pub stay : Stay (slots_of s.history) (slots_of r.history)
  pub seed : r.history.seed ≡ s.history.seed
  pub calls : r.history.calls ≡ s.history.calls
  pub bad : (a : ℕ) → contains s.history.bad a ≡ true → contains r.history.bad a ≡ true
  pub keeps : Keeps s r
  pub added : List Signal
  pub behind : r.history.signals ≡ s.history.signals ++ added
  pub seen : AllByRecursion (Seen s r) added

-- ---- one step after another

each_signal : (P Q : Signal → Type 0) → ((g : Signal) → P g → Q g) → (gs : List Signal) → AllByRecursion P gs → AllByRecursion Q gs
each_signal P Q f [] h = tt
each_signal P Q f (g ∷ gs) h = (f g h.0, each_signal P Q f gs h.1)

each_both : (P : Signal → Type 0) (xs ys : List Signal) → AllByRecursion P xs → AllByRecursion P ys → AllByRecursion P (xs ++ ys)
each_both P [] ys h k = k
each_both P (x ∷ xs) ys h k = (h.0, each_both P xs ys h.1 k)

-- a slot that holds the canary still does while nobody holds it
fresh_on : SlotLaws → (r q : HeapState) (a : ℕ) → Goes r q → Unheld (slots_of q.history) a → Unheld (slots_of r.history) a → IsFreshAt r a → IsFreshAt q a
fresh_on laws r q a y u v f = fresh_from q a u.slot u.found (λ b lo hi. byte b lo hi (y.keeps b (unheld_beside laws (slots_of q.history) a b u lo hi)))
  where
    -- it is the slot before
    same : u.slot ≡ with_state (slots_of q.history) v.slot
    same = same_Some u.slot (with_state (slots_of q.history) v.slot) (sym u.found ∙ y.stay a v.slot v.found)

    word : (b : ℕ) → Some (canary_byte (canary_in r.history) b) ≡ Some (canary_byte (canary_in q.history) b)
    word b = ap (λ (seed : ℕ). Some (canary_byte (canary_of seed) b)) (sym y.seed)

    low : (b : ℕ) → u.slot.addr ≤ b → v.slot.addr ≤ b
    low b lo = omega (arith, lo, ap (λ (x : Slot). x.addr) same)

    high : (b : ℕ) → b < u.slot.addr + 2 ^ u.slot.class → b < v.slot.addr + 2 ^ v.slot.class
    high b hi = omega (arith, hi, ap (λ (x : Slot). x.addr) same, ap (λ (x : Slot). 2 ^ x.class) same)

    byte : (b : ℕ) → u.slot.addr ≤ b → b < u.slot.addr + 2 ^ u.slot.class → (Unheld (slots_of r.history) b × (q.memory.bytes b ≡ r.memory.bytes b)) ⊎ ((Unheld (slots_of r.history) b → ⊥) × IsFreshAt q b)
        → q.memory.bytes b ≡ Some (canary_byte (canary_in q.history) b)
    byte b lo hi (inl k) = k.1 ∙ fresh_is r a v.slot v.found f b (low b lo) (high b hi) ∙ word b
    byte b lo hi (inr k) = absurd (k.0 (unheld_beside laws (slots_of r.history) a b v (low b lo) (high b hi)))

-- a byte that nobody holds stays
kept_byte : (r q : HeapState) (a : ℕ) → Goes r q → Unheld (slots_of q.history) a → Unheld (slots_of r.history) a → q.memory.bytes a ≡ r.memory.bytes a
kept_byte r q a y u v = at (y.keeps a u)
  where
    at : (Unheld (slots_of r.history) a × (q.memory.bytes a ≡ r.memory.bytes a)) ⊎ ((Unheld (slots_of r.history) a → ⊥) × IsFreshAt q a) → q.memory.bytes a ≡ r.memory.bytes a
    at (inl k) = k.1
    at (inr k) = absurd (k.0 v)

-- a signal of the first step
seen_first : (s r q : HeapState) → IsLawful r.history → IsLawful q.history → Goes r q → (g : Signal) → Seen s r g → Seen s q g
seen_first s r q lr lq y g k =
    let found : slot_at (slots_of q.history) g.addr ≡ Some (with_state (slots_of q.history) k.slot) = y.stay g.addr k.slot k.found in
    let bad : contains q.history.bad k.slot.addr ≡ true = y.bad k.slot.addr k.bad in
    let same : q.memory.bytes g.addr ≡ r.memory.bytes g.addr =
    kept_byte r q g.addr y (bad_unheld q.history g.addr (with_state (slots_of q.history) k.slot) lq found bad) (bad_unheld r.history g.addr k.slot lr k.found k.bad) in
    record {
      place = k.place ∙ ap Call (sym y.calls);
      was = k.was;
      broken = k.broken;
      stays = same ∙ k.stays;
      byte = k.byte ∙ ap (λ (o : Option ℕ). unwrap_or o 0) (sym same);
      slot = with_state (slots_of q.history) k.slot;
      found = found;
      bad = bad;
    }

-- a signal of the second step
seen_second : SlotLaws → (s r q : HeapState) → Goes s r → (g : Signal) → Seen r q g → Seen s q g
seen_second laws s r q x g k = at (x.keeps g.addr k.was)
  where
    breaks : r.memory.bytes g.addr ≡ s.memory.bytes g.addr → is_broken s.memory (canary_in s.history) g.addr ≡ true
    breaks e =
        ap (λ (o : Option ℕ). not (is_byte o (canary_byte (canary_in s.history) g.addr))) (sym e) ∙ ap (λ (seed : ℕ). is_broken r.memory (canary_of seed) g.addr) (sym x.seed) ∙ k.broken

    at : (Unheld (slots_of s.history) g.addr × (r.memory.bytes g.addr ≡ s.memory.bytes g.addr)) ⊎ ((Unheld (slots_of s.history) g.addr → ⊥) × IsFreshAt r g.addr) → Seen s q g
    at (inl w) = record { place = k.place; was = w.0; broken = breaks w.1; stays = k.stays ∙ w.1; byte = k.byte; slot = k.slot; found = k.found; bad = k.bad }
    at (inr w) = absurd (true≢false (sym k.broken ∙ fresh_whole laws r g.addr k.was w.1))

-- what nobody holds after the second step, but somebody before it, was held before the first
abbrev pub Once : (s r q : HeapState) → Type 0
Once s r q = (a : ℕ) → Unheld (slots_of q.history) a → (Unheld (slots_of r.history) a → ⊥) → Unheld (slots_of s.history) a → ⊥

pub goes_then : SlotLaws → (s r q : HeapState) → IsLawful r.history → IsLawful q.history → Goes s r → Goes r q → Once s r q → Goes s q
goes_then laws s r q lr lq x y once = record {
  stay = λ a t e. y.stay a (with_state (slots_of r.history) t) (x.stay a t e);
  seed = y.seed ∙ x.seed;
  calls = y.calls ∙ x.calls;
  bad = λ a h. y.bad a (x.bad a h);
  keeps = λ a u. second a u (y.keeps a u);
  added = x.added ++ y.added;
  behind = y.behind ∙ ap (λ (gs : List Signal). gs ++ y.added) x.behind ∙ append_assoc s.history.signals x.added y.added;
  seen = each_both (Seen s q) x.added y.added (each_signal (Seen s r) (Seen s q) (seen_first s r q lr lq y) x.added x.seen) (each_signal (Seen r q) (Seen s q) (seen_second laws s r q x) y.added y.seen);
}
  where
    first : (a : ℕ) → Unheld (slots_of q.history) a → Unheld (slots_of r.history) a → q.memory.bytes a ≡ r.memory.bytes a
        → (Unheld (slots_of s.history) a × (r.memory.bytes a ≡ s.memory.bytes a)) ⊎ ((Unheld (slots_of s.history) a → ⊥) × IsFreshAt r a)
        → (Unheld (slots_of s.history) a × (q.memory.bytes a ≡ s.memory.bytes a)) ⊎ ((Unheld (slots_of s.history) a → ⊥) × IsFreshAt q a)
    first a u v e (inl w) = inl (w.0, e ∙ w.1)
    first a u v e (inr w) = inr (w.0, fresh_on laws r q a y u v w.1)

    second : (a : ℕ) → Unheld (slots_of q.history) a → (Unheld (slots_of r.history) a × (q.memory.bytes a ≡ r.memory.bytes a)) ⊎ ((Unheld (slots_of r.history) a → ⊥) × IsFreshAt q a)
        → (Unheld (slots_of s.history) a × (q.memory.bytes a ≡ s.memory.bytes a)) ⊎ ((Unheld (slots_of s.history) a → ⊥) × IsFreshAt q a)
    second a u (inl v) = first a u v.0 v.1 (x.keeps a v.0)
    second a u (inr v) = inr (once a u v.0, v.1)

-- the first step changes no object
pub objects_then : SlotLaws → (s r q : HeapState) → r.history.objects ≡ s.history.objects → IsLawful r.history → IsLawful q.history → Goes s r → Goes r q → Goes s q
objects_then laws s r q same lr lq x y =
    goes_then laws s r q lr lq x y (λ a u n v. n (record { slot = with_state (slots_of r.history) v.slot; found = x.stay a v.slot v.found; unheld = ap (λ (os : List Object). contains (held_by os) v.slot.addr) same ∙ v.unheld }))

-- the second step changes no object and adds no miniheap
pub then_objects : SlotLaws → (s r q : HeapState) → q.history.objects ≡ r.history.objects → q.history.classes ≡ r.history.classes → IsLawful r.history → IsLawful q.history → Goes s r → Goes r q → Goes s q
then_objects laws s r q same places lr lq x y =
    goes_then laws s r q lr lq x y (λ a u n v. n (record {
      slot = with_state (slots_of r.history) u.slot;
      found = same_places (slots_of q.history) (slots_of r.history) a u.slot places u.found;
      unheld = ap (λ (os : List Object). contains (held_by os) u.slot.addr) (sym same) ∙ u.unheld;
    }))

-- ---- nothing

pub goes_nowhere : (s : HeapState) → Goes s s
goes_nowhere s = record {
  stay = λ a t e. same_places (slots_of s.history) (slots_of s.history) a t refl e;
  seed = refl;
  calls = refl;
  bad = λ a h. h;
  keeps = λ a u. inl (u, refl);
  added = [];
  behind = sym (append-nil s.history.signals);
  seen = tt;
}

-- ---- a miniheap more

some_none : (o : Option Slot) (x : Slot) → o ≡ Some x → o ≡ None → ⊥
some_none o x p q = cc

pub goes_grown : SlotLaws → (class : ℕ) (s : HeapState) → Goes s (grown class s)
goes_grown laws class s = record {
  stay = stay;
  seed = refl;
  calls = refl;
  bad = λ a h. h;
  keeps = λ a u. at a u (slot_at g a) refl;
  added = [];
  behind = sym (append-nil s.history.signals);
  seen = tt;
}
  where
    g : Slots
    g = slots_of s.history

    r : Slots
    r = slots.grown g class

    stay : Stay g r
    stay a t e = let f : slot_at r a ≡ Some t = laws.stay g class a t e in f ∙ ap (λ (x : SlotState). Some (record t { state = x })) (own_state r a t f)

    canary : ℕ → Option ℕ
    canary a = Some (canary_byte (canary_in s.history) a)

    -- an address below is none of the new miniheap's
    below : (a : ℕ) → a < end_of g → cond (within (end_of g) (wanted_of g class) a) (canary a) (s.memory.bytes a) ≡ s.memory.bytes a
    below a h = ap (λ (b : Bool). cond (b && nat_lt a (end_of g + wanted_of g class)) (canary a) (s.memory.bytes a)) (lt-leb (end_of g) a h)

    -- where no slot was, none was in the whole slot
    none : (a b : ℕ) (u : Unheld r a) → slot_at g a ≡ None → u.slot.addr ≤ b → b < u.slot.addr + 2 ^ u.slot.class → (o : Option Slot) → slot_at g b ≡ o → slot_at g b ≡ None
    none a b u e lo hi None f = f
    none a b u e lo hi (Some v) f =
        let k : v ≡ u.slot = same_Some v u.slot (sym (laws.stay g class b v f) ∙ laws.apart r a b u.slot u.found lo hi) in
        let h = laws.hold r a u.slot u.found in
        let w : slot_at g a ≡ Some v = laws.apart g b a v f (omega (arith, h.0, ap (λ (x : Slot). x.addr) k)) (omega (arith, h.1, ap (λ (x : Slot). x.addr) k, ap (λ (x : Slot). 2 ^ x.class) k)) in
        absurd (some_none (slot_at g a) v w e)

    new : (b : ℕ) (t : Slot) → slot_at r b ≡ Some t → slot_at g b ≡ None → cond (within (end_of g) (wanted_of g class) b) (canary b) (s.memory.bytes b) ≡ canary b
    new b t e q =
        let w = laws.added g class b t q e in
        ap (λ (x : Bool). cond x (canary b) (s.memory.bytes b)) (is_within (end_of g) (wanted_of g class) b w.0 w.1)

    at : (a : ℕ) → Unheld r a → (o : Option Slot) → slot_at g a ≡ o → (Unheld g a × ((grown class s).memory.bytes a ≡ s.memory.bytes a)) ⊎ ((Unheld g a → ⊥) × IsFreshAt (grown class s) a)
    at a u (Some v) e =
        let k : u.slot ≡ v = same_Some u.slot v (sym u.found ∙ laws.stay g class a v e) in
        let h = laws.hold g a v e in
        let w = laws.within g a v e in
        inl (record { slot = v; found = e; unheld = ap (λ (x : Slot). contains g.held x.addr) (sym k) ∙ u.unheld }, below a (omega (arith, h.1, w.1)))
    at a u None e = inr ((λ v. some_none (slot_at g a) v.slot v.found e), fresh_from (grown class s) a u.slot u.found (λ b lo hi. new b u.slot (laws.apart r a b u.slot u.found lo hi) (none a b u e lo hi (slot_at g b) refl)))

-- ---- draws

pub goes_drawn : (words : ℕ) (s : HeapState) → Goes s (with_draws words s)
goes_drawn words s = record {
  stay = λ a t e. same_places (slots_of s.history) (slots_of s.history) a t refl e;
  seed = refl;
  calls = refl;
  bad = λ a h. h;
  keeps = λ a u. inl (u, refl);
  added = [];
  behind = sym (append-nil s.history.signals);
  seen = tt;
}

-- ---- a signal

find_some : (p : ℕ → Bool) (from len b : ℕ) → find p (range_with_len from len) ≡ Some b → (from ≤ b) × (b < from + len) × (p b ≡ true)
find_some p from zero b e = absurd (cc)
find_some p from (suc len) b e = at (p from) refl e (find_some p (from + 1) len b)
  where
    at : (t : Bool) → p from ≡ t → cond t (Some from) (find p (range_with_len (from + 1) len)) ≡ Some b
        → (find p (range_with_len (from + 1) len) ≡ Some b → (from + 1 ≤ b) × (b < from + 1 + len) × (p b ≡ true)) → (from ≤ b) × (b < from + suc len) × (p b ≡ true)
    at true q f r = let k : from ≡ b = same_Some from b f in (omega (arith, k), omega (arith, k), ap p (sym k) ∙ q)
    at false q f r = let k = r f in (omega (arith, k.0), omega (arith, k.1), k.2)

-- the first broken byte of a slot
pub break_is : (memory : Memory) (word from len broken : ℕ) → first_broken memory word from len ≡ Some broken → (from ≤ broken) × (broken < from + len) × (is_broken memory word broken ≡ true)
break_is memory word from len broken e = find_some (is_broken memory word) from len broken e

pub goes_signalled : SlotLaws → (class slot broken : ℕ) (s : HeapState) → IsFreeSlot (slots_of s.history) class slot → break_in s slot class ≡ Some broken → Goes s (signalled slot broken s)
goes_signalled laws class slot broken s free e = record {
  stay = λ a t f. same_places g r a t refl f;
  seed = refl;
  calls = refl;
  bad = λ a h. contains-insert nat_cmp_total s.history.bad slot a ∙ or_right _ (contains s.history.bad a) h;
  keeps = λ a u. inl (record { slot = with_state g u.slot; found = same_places r g a u.slot refl u.found; unheld = u.unheld }, refl);
  added = signal_at (Call s.history.calls) s.memory broken ∷ [];
  behind = refl;
  seen = (
    record {
      place = refl;
      was = record { slot = k.slot; found = there; unheld = (free_is g slot k.slot k.found k.state).unheld };
      broken = b.2;
      stays = refl;
      byte = refl;
      slot = with_state r k.slot;
      found = same_places g r broken k.slot refl there;
      bad = ap (contains (insert s.history.bad slot)) k.addr ∙ contains-insert nat_cmp_total s.history.bad slot slot ∙ or_left _ (contains s.history.bad slot) (eq_turned slot slot ∙ eq-eqb slot slot refl);
    },
    tt,
  );
}
  where
    g : Slots
    g = slots_of s.history

    r : Slots
    r = slots_of (signalled slot broken s).history

    k : FreeSlot g class slot
    k = free_slot_is g class slot free

    b : (slot ≤ broken) × (broken < slot + 2 ^ class) × (is_broken s.memory (canary_in s.history) broken ≡ true)
    b = break_is s.memory (canary_in s.history) slot (2 ^ class) broken e

    there : slot_at g broken ≡ Some k.slot
    there = laws.apart g slot broken k.slot k.found (omega (arith, k.addr, b.0)) (omega (arith, k.addr, b.1, ap (λ (c : ℕ). 2 ^ c) k.class))
