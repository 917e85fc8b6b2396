-- The search for a slot, turn by turn, over what is kept.
use Rattle.std.proofs.Common.{◌≡◌, ℕ, zero, suc, ◌<◌, refl, sym, ◌∙◌, subst, arith, Option, Result, Some, None, Ok, Err}
use Rattle.rv_memory.specs.Memory.{Memory}
use Rattle.exact_heap.specs.declared.parts.Parts.{Parts}
use Rattle.exact_heap.specs.declared.signal.HeapRefusal.{HeapRefusal}
use Rattle.exact_heap.specs.declared.signal.HeapRefusal.TheVariants.{Room, Memory as NoMemory}
use Rattle.exact_heap.specs.History.{History}
use Rattle.exact_heap.specs.Placing.{HeapState, Outcome, turn, search, search_from, enough, room_left}
use Rattle.exact_heap.specs.Stands.{PartsStandFor, IsSound, IsAt, Gives, Searches}
use Rattle.miniheap.specs.Laws.{SlotLaws}
use Rattle.exact_heap.proofs.States.{search_goes_on, search_finds, search_fails, room_below}
use Rattle.exact_heap.proofs.Sound.{sound_order}

abbrev pub state_of : History → Memory → HeapState
state_of h m = record { history = h; memory = m }

pub state_is : (s : HeapState) (m : Memory) → m ≡ s.memory → state_of s.history m ≡ s
state_is s m e = λ i. record { history = s.history; memory = e i }

pub search_begins : SlotLaws → (class : ℕ) (p : Parts) (h : History) (m : Memory) → IsSound p → PartsStandFor p h → Searches class (state_of h m) p m
search_begins laws class p h m sound st = record { next = state_of h m; turns = enough; is_at = record { stands = st; bytes = refl }; few = room_below laws p.slots.grid class (sound_order p sound); same = refl }

-- what a turn gives at the state that the search has come to
turned : (class : ℕ) (s : HeapState) (p q : Parts) (m m' : Memory) (r : Result (Option ℕ) HeapRefusal) → (w : Searches class s p m)
    → ((h : History) → PartsStandFor p h → Gives (turn class (state_of h m)).state (turn class (state_of h m)).answer r q m') → Gives (turn class w.next).state (turn class w.next).answer r q m'
turned class s p q m m' r w gives = subst (λ (x : HeapState). Gives (turn class x).state (turn class x).answer r q m') (state_is w.next m w.is_at.bytes) (gives w.next.history w.is_at.stands)

pub search_goes : (class : ℕ) (s : HeapState) (p q : Parts) (m m' : Memory) → Searches class s p m
    → ((h : History) → PartsStandFor p h → Gives (turn class (state_of h m)).state (turn class (state_of h m)).answer (Ok None) q m') → room_left class q.slots.grid < room_left class p.slots.grid → Searches class s q m'
search_goes class s p q m m' w gives nearer = at w.turns w.same w.few (turned class s p q m m' (Ok None) w gives)
  where
    at : (n : ℕ) → search class s ≡ search_from n class w.next → room_left class p.slots.grid < n → ((turn class w.next).answer ≡ Ok None) × IsAt (turn class w.next).state q m' → Searches class s q m'
    at zero e few g = absurd (omega arith)
    at (suc n) e few g = record { next = (turn class w.next).state; turns = n; is_at = g.1; few = omega (arith, few, nearer); same = e ∙ search_goes_on n class w.next g.0 }

pub search_ends : (class slot : ℕ) (s : HeapState) (p q : Parts) (m m' : Memory) → Searches class s p m
    → ((h : History) → PartsStandFor p h → Gives (turn class (state_of h m)).state (turn class (state_of h m)).answer (Ok (Some slot)) q m') → Gives (search class s).state (search class s).answer (Ok slot) q m'
search_ends class slot s p q m m' w gives = at w.turns w.same w.few (turned class s p q m m' (Ok (Some slot)) w gives)
  where
    at : (n : ℕ) → search class s ≡ search_from n class w.next → room_left class p.slots.grid < n → ((turn class w.next).answer ≡ Ok (Some slot)) × IsAt (turn class w.next).state q m' → Gives (search class s).state (search class s).answer (Ok slot) q m'
    at zero e few g = absurd (omega arith)
    at (suc n) e few g = subst (λ (o : Outcome). Gives o.state o.answer (Ok slot) q m') (sym (e ∙ search_finds n class w.next slot g.0)) (refl, g.1)

pub search_stops : (class : ℕ) (s : HeapState) (p q : Parts) (m m' : Memory) (refusal : HeapRefusal) → Searches class s p m
    → ((h : History) → PartsStandFor p h → Gives (turn class (state_of h m)).state (turn class (state_of h m)).answer (Err refusal) q m') → Gives (search class s).state (search class s).answer (Err refusal) q m'
search_stops class s p q m m' NoMemory w gives = tt
search_stops class s p q m m' (Room used wanted) w gives = at w.turns w.same w.few (turned class s p q m m' (Err (Room used wanted)) w gives)
  where
    at : (n : ℕ) → search class s ≡ search_from n class w.next → room_left class p.slots.grid < n → ((turn class w.next).answer ≡ Err (Room used wanted)) × IsAt (turn class w.next).state q m'
        → Gives (search class s).state (search class s).answer (Err (Room used wanted)) q m'
    at zero e few g = absurd (omega arith)
    at (suc n) e few g = subst (λ (o : Outcome). Gives o.state o.answer (Err (Room used wanted)) q m') (sym (e ∙ search_fails n class w.next (Room used wanted) g.0)) (refl, g.1)
