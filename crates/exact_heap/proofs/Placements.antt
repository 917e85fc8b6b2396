-- A placement whole, over what is kept.
use Rattle.std.proofs.Common.{◌≡◌, ℕ, refl, ap, sym, subst, Bool, Ok, Err, ◌+◌}
use Rattle.rv_memory.specs.Memory.{Memory}
use Rattle.exact_heap.specs.declared.parts.Parts.{Parts}
use Rattle.exact_heap.specs.declared.parts.Request.{Request}
use Rattle.exact_heap.specs.declared.signal.HeapRefusal.{HeapRefusal}
use Rattle.exact_heap.specs.declared.signal.HeapRefusal.TheVariants.{Room, Memory as NoMemory}
use Rattle.exact_heap.specs.History.{History}
use Rattle.exact_heap.specs.Placing.{HeapState, Outcome, search, placed, release_due, settled, place}
use Rattle.exact_heap.specs.Stands.{PartsStandFor, IsAt, Gives}
use Rattle.exact_heap.proofs.Searching.{state_of, state_is}

pub place_ok : (r : Request) (zeroed : Bool) (s : HeapState) (slot : ℕ) → (search r.class s).answer ≡ Ok slot → place r zeroed s ≡ record { state = release_due (placed r zeroed slot (search r.class s).state); answer = Ok (slot + r.front) }
unfolding place
place_ok r zeroed s slot e = ap (settled r zeroed (search r.class s).state) e

pub place_err : (r : Request) (zeroed : Bool) (s : HeapState) (refusal : HeapRefusal) → (search r.class s).answer ≡ Err refusal → place r zeroed s ≡ record { state = (search r.class s).state; answer = Err refusal }
unfolding place
place_err r zeroed s refusal e = ap (settled r zeroed (search r.class s).state) e

-- no slot was found
pub place_fails : (r : Request) (zeroed : Bool) (s : HeapState) (p : Parts) (m : Memory) (refusal : HeapRefusal) → Gives (search r.class s).state (search r.class s).answer (Err refusal) p m → Gives (place r zeroed s).state (place r zeroed s).answer (Err refusal) p m
place_fails r zeroed s p m NoMemory g = tt
place_fails r zeroed s p m (Room used wanted) g = subst (λ (o : Outcome). Gives o.state o.answer (Err (Room used wanted)) p m) (sym (place_err r zeroed s (Room used wanted) g.0)) (refl, g.1)

-- a slot was found, the object has it, and what is due was released
pub place_succeeds : (r : Request) (zeroed : Bool) (s : HeapState) (slot : ℕ) (p1 p2 p3 : Parts) (m1 m2 m3 : Memory) → Gives (search r.class s).state (search r.class s).answer (Ok slot) p1 m1
    → ((h : History) → PartsStandFor p1 h → IsAt (placed r zeroed slot (state_of h m1)) p2 m2) → ((h : History) → PartsStandFor p2 h → IsAt (release_due (state_of h m2)) p3 m3)
    → Gives (place r zeroed s).state (place r zeroed s).answer (Ok (slot + r.front)) p3 m3
place_succeeds r zeroed s slot p1 p2 p3 m1 m2 m3 g owns releases =
    let found : HeapState = (search r.class s).state in
    let owned : IsAt (placed r zeroed slot found) p2 m2 = subst (λ (x : HeapState). IsAt (placed r zeroed slot x) p2 m2) (state_is found m1 g.1.bytes) (owns found.history g.1.stands) in
    let released : IsAt (release_due (placed r zeroed slot found)) p3 m3 = subst (λ (x : HeapState). IsAt (release_due x) p3 m3) (state_is (placed r zeroed slot found) m2 owned.bytes) (releases (placed r zeroed slot found).history owned.stands) in
    subst (λ (o : Outcome). Gives o.state o.answer (Ok (slot + r.front)) p3 m3) (sym (place_ok r zeroed s slot g.0)) (refl, released)
