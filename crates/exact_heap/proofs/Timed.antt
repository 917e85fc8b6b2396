-- When objects were freed.
use Rattle.std.proofs.Common.{◌≡◌, ℕ, zero, suc, ◌+◌, ◌<◌, ◌≤◌, refl, ap, sym, ◌∙◌, subst, Bool, true, false, cond, arith, nat_eq, nat_le, List, [], ◌∷◌, ◌++◌, length, map, Some}
use Rattle.std.specs.Prelude.{slice_get}
use Rattle.std.proofs.lemmas.Bool.{eq-eqb, ne_eqb}
use Rattle.std.proofs.lemmas.List.{length-append, length-map}
use Rattle.std.proofs.lemmas.Option.{same_Some}
use Rattle.exact_heap.specs.History.{ObjectState, Owned, Deferred, Released, Object, is_owned}
use Rattle.exact_heap.specs.Placing.{after_due, released_object}
use Rattle.exact_heap.specs.Lawful.{IsTimedBy, IsTimed, AreTimed}
use Rattle.exact_heap.specs.Laws.{ObjectsAreTimed}

-- the clock of an object's free is 0 exactly while it is owned
abbrev pub IsStamped : Object → Type 0
IsStamped o = is_owned o.state ≡ nat_eq o.freed 0

pub stamp_of : (clock number : ℕ) (o : Object) → IsTimed clock number o → IsStamped o
stamp_of clock number o h = at (is_owned o.state) h
  where
    at : (b : Bool) → IsTimedBy b clock number o → b ≡ nat_eq o.freed 0
    at true k = sym (eq-eqb o.freed 0 k.no_clock)
    at false k = sym (ne_eqb o.freed 0 (λ e. omega (arith, e, k.after)))

-- ---- the clock goes on

later_by : (c d number : ℕ) (o : Object) (b : Bool) → c ≤ d → IsTimedBy b c number o → IsTimedBy b d number o
later_by c d number o true le k = k
later_by c d number o false le k = record { after = k.after; by_now = omega (arith, k.by_now, le) }

pub timed_later : (c d number : ℕ) (os : List Object) → c ≤ d → AreTimed c number os → AreTimed d number os
timed_later c d number [] le h = tt
timed_later c d number (o ∷ os) le h = (later_by c d number o (is_owned o.state) le h.0, timed_later c d (number + 1) os le h.1)

-- ---- one object

pub timed_at : (clock number : ℕ) (ps : List Object) (o : Object) (bs : List Object) → AreTimed clock number (ps ++ o ∷ bs) → IsTimed clock (number + length ps) o
timed_at clock number [] o bs h = subst (λ (n : ℕ). IsTimed clock n o) (let e : number ≡ number + 0 = omega arith in e) h.0
timed_at clock number (p ∷ ps) o bs h = subst (λ (n : ℕ). IsTimed clock n o) (let e : number + 1 + length ps ≡ number + suc (length ps) = omega arith in e) (timed_at clock (number + 1) ps o bs h.1)

pub timed_changed : (clock number : ℕ) (ps : List Object) (o x : Object) (bs : List Object) → IsTimed clock (number + length ps) x → AreTimed clock number (ps ++ o ∷ bs) → AreTimed clock number (ps ++ x ∷ bs)
timed_changed clock number [] o x bs k h = (subst (λ (n : ℕ). IsTimed clock n x) (let e : number + 0 ≡ number = omega arith in e) k, h.1)
timed_changed clock number (p ∷ ps) o x bs k h =
    (h.0, timed_changed clock (number + 1) ps o x bs (subst (λ (n : ℕ). IsTimed clock n x) (let e : number + suc (length ps) ≡ number + 1 + length ps = omega arith in e) k) h.1)

pub timed_push : (clock number : ℕ) (os : List Object) (o : Object) → ((n : ℕ) → IsTimed clock n o) → AreTimed clock number os → AreTimed clock number (os ++ o ∷ [])
timed_push clock number [] o k h = (k number, tt)
timed_push clock number (p ∷ ps) o k h = (h.0, timed_push clock (number + 1) ps o k h.1)

-- one more that is owned
pub timed_more : (os : List Object) (o : Object) → ((n : ℕ) → IsTimed (length os + 1) n o) → AreTimed (length os) 0 os → AreTimed (length (os ++ o ∷ [])) 0 (os ++ o ∷ [])
timed_more os o k h =
    subst (λ (c : ℕ). AreTimed c 0 (os ++ o ∷ [])) (sym (length-append os (o ∷ [])))
    (timed_push (length os + 1) 0 os o k (timed_later (length os) (length os + 1) 0 os (omega arith) h))

-- one that changes
pub timed_change : (os ps : List Object) (o x : Object) (bs : List Object) → os ≡ ps ++ o ∷ bs → (IsTimed (length os) (length ps) o → IsTimed (length os) (length ps) x) → AreTimed (length os) 0 os
    → AreTimed (length (ps ++ x ∷ bs)) 0 (ps ++ x ∷ bs)
timed_change os ps o x bs parts f h =
    let same : length os ≡ length (ps ++ x ∷ bs) = omega (arith, ap length parts, length-append ps (o ∷ bs), length-append ps (x ∷ bs)) in
    let old : AreTimed (length os) 0 (ps ++ o ∷ bs) = subst (AreTimed (length os) 0) parts h in
    let zero_first : 0 + length ps ≡ length ps = omega arith in
    let here : IsTimed (length os) (length ps) o = subst (λ (n : ℕ). IsTimed (length os) n o) zero_first (timed_at (length os) 0 ps o bs old) in
    subst (λ (c : ℕ). AreTimed c 0 (ps ++ x ∷ bs)) same (timed_changed (length os) 0 ps o x bs (subst (λ (n : ℕ). IsTimed (length os) n x) (sym zero_first) (f here)) old)

-- its number is below the clock
pub freed_in_time : (os ps : List Object) (o : Object) (bs : List Object) → os ≡ ps ++ o ∷ bs → length ps < length os
freed_in_time os ps o bs parts = omega (arith, ap length parts, length-append ps (o ∷ bs))

-- ---- releases

pub owned_after : (clock : ℕ) (x : ObjectState) → is_owned (after_due clock x) ≡ is_owned x
owned_after clock Owned = refl
owned_after clock (Deferred due) = at (nat_le due clock)
  where
    at : (b : Bool) → is_owned (cond b (Released due) (Deferred due)) ≡ false
    at true = refl
    at false = refl
owned_after clock (Released due) = refl

same_times : (clock number : ℕ) (b : Bool) (o x : Object) → x.free_site ≡ o.free_site → x.freed ≡ o.freed → IsTimedBy b clock number o → IsTimedBy b clock number x
same_times clock number true o x s f k = record { no_site = s ∙ k.no_site; no_clock = f ∙ k.no_clock }
same_times clock number false o x s f k = record { after = omega (arith, k.after, f); by_now = omega (arith, k.by_now, f) }

timed_released : (now clock number : ℕ) (os : List Object) → AreTimed clock number os → AreTimed clock number (map (released_object now) os)
timed_released now clock number [] h = tt
timed_released now clock number (o ∷ os) h =
    let x : Object = released_object now o in
    (subst (λ (b : Bool). IsTimedBy b clock number x) (sym (owned_after now o.state)) (same_times clock number (is_owned o.state) o x refl refl h.0), timed_released now clock (number + 1) os h.1)

pub timed_all_released : (now : ℕ) (os : List Object) → AreTimed (length os) 0 os → AreTimed (length (map (released_object now) os)) 0 (map (released_object now) os)
timed_all_released now os h = subst (λ (c : ℕ). AreTimed c 0 (map (released_object now) os)) (sym (length-map os (released_object now))) (timed_released now (length os) 0 os h)

-- ---- the law

timed_number : (clock number : ℕ) (os : List Object) (i : ℕ) (o : Object) → AreTimed clock number os → slice_get os i ≡ Some o → IsTimed clock (number + i) o
timed_number clock number [] i o h e = absurd (cc)
timed_number clock number (x ∷ os) zero o h e = subst (λ (n : ℕ). IsTimed clock n o) (let q : number ≡ number + 0 = omega arith in q) (subst (IsTimed clock number) (same_Some x o e) h.0)
timed_number clock number (x ∷ os) (suc i) o h e = subst (λ (n : ℕ). IsTimed clock n o) (let q : number + 1 + i ≡ number + suc i = omega arith in q) (timed_number clock (number + 1) os i o h.1 e)

pub objects_are_timed : ObjectsAreTimed
objects_are_timed h number o l e = subst (λ (n : ℕ). IsTimed (length h.objects) n o) (let q : 0 + number ≡ number = omega arith in q) (timed_number (length h.objects) 0 h.objects number o l.timed e)
