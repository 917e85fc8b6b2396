-- Free on the two machines.
use Rattle.std.proofs.Common.{◌≡◌, ℕ, ◌+◌, ◌^◌, ◌<◌, ◌≤◌, refl, ap, sym, ◌∙◌, subst, Bool, cond, ◌⊎◌, inl, inr, arith, nat_eq, List, [], ◌∷◌, length, set, Option, Some, None}
use Rattle.std.specs.Prelude.{slice_get}
use Rattle.std.specs.Option.{option_map}
use Rattle.std.proofs.lemmas.Bool.{cases_eq, cases_lt, eq-eqb, ne_eqb, eqb-true, eqb-false}
use Rattle.std.proofs.lemmas.Grind.{get_or-set_at}
use Rattle.std.proofs.lemmas.List.{get_or-set_other, length-set, set_past}
use Rattle.std.proofs.lemmas.Option.{same_Some}
use Rattle.infinite_heap.specs.declared.access.AccessKind.TheVariants as kind
use Rattle.infinite_heap.specs.declared.fault.Why.TheVariants as why
use Rattle.infinite_heap.specs.declared.value.Value.{Value}
use Rattle.infinite_heap.specs.declared.value.Value.TheVariants.{Num, Ptr, Mix, Low}
use Rattle.infinite_heap.specs.CallSite.{site_of}
use Rattle.infinite_heap.specs.InfiniteHeap.{inf_back, with_freed as inf_freed, inf_free, inf_free_object}
use Rattle.infinite_heap.specs.InfiniteState as inf
use Rattle.infinite_heap.specs.InfiniteState.{InfState, access}
use Rattle.infinite_heap.specs.Layout.{IsPlace, Stands}
use Rattle.infinite_heap.specs.Mapped.{Mapping}
use Rattle.infinite_heap.specs.Objects as obj
use Rattle.infinite_heap.specs.Objects.{Freed, begins_in, no_object, object_at, with_free}
use Rattle.infinite_heap.specs.Region.{in_region}
use Rattle.exact_heap.specs.Calls.{free}
use Rattle.exact_heap.specs.Freeing.{freed_state, freed_object, deferral_of}
use Rattle.exact_heap.specs.History.{Deferred, Released, Object, History}
use Rattle.exact_heap.specs.ObjectsAfter.{ChangesOne, KeepsCount, with_freed, objects_freed, FreeEnds}
use Rattle.exact_heap.specs.Owners.{Owner, owner_of, changed_at}
use Rattle.exact_heap.specs.Placing.{HeapState, Rules}
use Rattle.rv_machine.specs.Guest.{Guest, heap_of, with_core, with_heap}
use Rattle.rv_machine.specs.HeapCalls.{back_to, frees}
use Rattle.rv_machine.specs.Objects.{IsKept, ObjectMatches, ObjectsMatch, layout_of}
use Rattle.simulation.specs.Agreement.{AreOfObjects, HeapsAreLaidOut, StatesAgree}
use Rattle.simulation.specs.Calls.{CallMatches}
use Rattle.simulation.proofs.Laid.{numbered, known}
use Rattle.simulation.proofs.Owned.{OwnerFacts, pointed, owned_at, none_at, none_inside, none_outside}
use Rattle.simulation.proofs.Placed.{two_ways, CallFacts, call_keeps, PlacedFacts, cells_same, heap_agrees, unchanged_agrees, returns_to}

-- what the laws say of a list of objects of which one is changed
pub record ChangeFacts : Type 0 where
  pub change : ChangesOne
  pub count : KeepsCount

-- what they say of free, and of what it stands on
pub record FreeFacts : Type 0 where
  pub laid : HeapsAreLaidOut
  pub placed : PlacedFacts
  pub owners : OwnerFacts
  pub changes : ChangeFacts
  pub calls : (rules : Rules) (address site : ℕ) → CallFacts (free rules address site)
  pub ends : FreeEnds

-- ---- objects

kept_until : (clock deferral : ℕ) → IsKept clock (freed_state clock deferral)
kept_until clock deferral = two_ways (nat_eq deferral 0) (λ b. IsKept clock (cond b (Released clock) (Deferred (clock + deferral)))) (λ e. omega arith) (λ e. let more : deferral ≡ 0 → ⊥ = eqb-false deferral 0 e in omega (arith, more))

-- the freed object matches the one that was noted as freed
freed_one : (clock deferral site : ℕ) (o : Object) (other : obj.Object) → ObjectMatches clock o other → ObjectMatches clock (freed_object clock deferral site o) (record other { freed = Some (record { clock = clock; site = site }) })
freed_one clock deferral site o other m = record { size = m.size; alignment = m.alignment; site = m.site; free = (refl, refl, kept_until clock deferral) }

freed_at : (h k : History) (objects : List obj.Object) (deferral site o n : ℕ) (p x : Object) → ObjectsMatch h objects → length k.objects ≡ length h.objects → slice_get h.objects n ≡ Some x
    → cond (nat_eq n o) (Some (freed_object (length h.objects) deferral site x)) (Some x) ≡ Some p → ObjectMatches (length k.objects) p (object_at (with_free objects o (record { clock = length objects; site = site })) n)
freed_at h k objects deferral site o n p x m count is = at (cases_eq n o)
  where
    freed : Freed
    freed = record { clock = length objects; site = site }

    changed : Object
    changed = freed_object (length h.objects) deferral site x

    at : (n ≡ o) ⊎ (n ≡ o → ⊥) → cond (nat_eq n o) (Some changed) (Some x) ≡ Some p → ObjectMatches (length k.objects) p (object_at (with_free objects o freed) n)
    at (inl e) q =
        let same : changed ≡ p = same_Some changed p (sym (ap (λ (b : Bool). cond b (Some changed) (Some x)) (eq-eqb n o e)) ∙ q) in
        let there : n < length h.objects = known h.objects n x is in
        let other : object_at (with_free objects o freed) n ≡ record (object_at objects o) { freed = Some freed } = get_or-set_at objects o n (record (object_at objects o) { freed = Some freed }) no_object e (omega (arith, m.count, there, e)) in
        let one : ObjectMatches (length h.objects) changed (record (object_at objects n) { freed = Some (record { clock = length h.objects; site = site }) }) = freed_one (length h.objects) deferral site x (object_at objects n) (m.each n x is) in
        rw (count, sym same, other, sym e, sym m.count) one
    at (inr ne) q =
        let same : x ≡ p = same_Some x p (sym (ap (λ (b : Bool). cond b (Some changed) (Some x)) (ne_eqb n o ne)) ∙ q) in
        let other : object_at (with_free objects o freed) n ≡ object_at objects n = get_or-set_other objects o n (record (object_at objects o) { freed = Some freed }) no_object ne in
        rw (count, sym same, other) (m.each n x is)

-- one object freed on both heaps
pub freed_matches : ChangeFacts → (h k : History) (objects : List obj.Object) (deferral site o : ℕ) → ObjectsMatch h objects → k.objects ≡ changed_at (freed_object (length h.objects) deferral site) o h.objects
    → ObjectsMatch k (with_free objects o (record { clock = length objects; site = site }))
freed_matches facts h k objects deferral site o m e =
    let count : length k.objects ≡ length h.objects = ap length e ∙ facts.count (freed_object (length h.objects) deferral site) o h.objects in
    record {
      count = count ∙ m.count ∙ sym (length-set objects o (record (object_at objects o) { freed = Some (record { clock = length objects; site = site }) }));
      each = λ n p q.
          let f = numbered h.objects n (omega (arith, count, known k.objects n p q)) in
          let changed : slice_get k.objects n ≡ cond (nat_eq n o) (option_map (freed_object (length h.objects) deferral site) (slice_get h.objects n)) (slice_get h.objects n)
          = ap (λ (os : List Object). slice_get os n) e ∙ facts.change (freed_object (length h.objects) deferral site) o n h.objects in
          freed_at h k objects deferral site o n p f.object m count f.found (rw f.found at (sym changed ∙ q));
    }

-- a free leaves what each object began with
pub begins_stay : (objects : List obj.Object) (o n : ℕ) (freed : Freed) → begins_in (with_free objects o freed) n ≡ begins_in objects n
begins_stay objects o n freed = at (cases_eq n o) (cases_lt o (length objects))
  where
    new : obj.Object
    new = record (object_at objects o) { freed = Some freed }

    at : (n ≡ o) ⊎ (n ≡ o → ⊥) → (o < length objects) ⊎ (length objects ≤ o) → begins_in (set objects o new) n ≡ begins_in objects n
    at (inl e) (inl h) = ap (λ (x : obj.Object). x.begins) (get_or-set_at objects o n new no_object e h) ∙ ap (begins_in objects) (sym e)
    at (inl e) (inr h) = ap (λ (os : List obj.Object). begins_in os n) (set_past objects o new h)
    at (inr ne) h = ap (λ (x : obj.Object). x.begins) (get_or-set_other objects o n new no_object ne)

-- ---- the states after a free

-- the guest after a free of an address
abbrev pub guest_freed : Guest → (back address : ℕ) → Guest
guest_freed g back address =
    let t : HeapState = free g.rules address (site_of g.core.calls) (heap_of g) in
    with_core (with_heap g t) (back_to back (with_heap g t).core)

-- an address that no owned object has: nothing changes
free_of_none : FreeFacts → (p : Mapping) (s : InfState) (g : Guest) (back address : ℕ) → StatesAgree p s g → back < 2 ^ 32 → owner_of g.history.objects address ≡ None
    → StatesAgree p (inf_back s back) (guest_freed g back address)
free_of_none facts p s g back address a low none =
    let site : ℕ = site_of g.core.calls in
    let t : HeapState = free g.rules address site (heap_of g) in
    let ends : t.history.objects ≡ g.history.objects = facts.ends g.rules address site (heap_of g) a.mapped.lawful ∙ ap (λ (w : Option Owner). objects_freed g.rules site w g.history.objects) none in
    returns_to p s (with_heap g t) (unchanged_agrees facts.placed p s g a t (call_keeps (free g.rules address site) (facts.calls g.rules address site) (heap_of g) a.mapped.lawful a.dues) ends) back low

-- the owner of the address is freed on both
free_of_owned : FreeFacts → (p : Mapping) (s : InfState) (g : Guest) (back address o : ℕ) (x : Object) → StatesAgree p s g → back < 2 ^ 32 → owner_of g.history.objects address ≡ Some (record { number = o; object = x })
    → StatesAgree p (inf_back (inf_freed s o) back) (guest_freed g back address)
free_of_owned facts p s g back address o x a low is =
    let site : ℕ = site_of g.core.calls in
    let t : HeapState = free g.rules address site (heap_of g) in
    let freed : Freed = record { clock = length s.objects; site = site_of s.calls } in
    let ends : t.history.objects ≡ with_freed g.rules site (record { number = o; object = x }) g.history.objects
    = facts.ends g.rules address site (heap_of g) a.mapped.lawful ∙ ap (λ (w : Option Owner). objects_freed g.rules site w g.history.objects) is in
    let match : ObjectsMatch t.history (with_free s.objects o freed) =
    subst (λ (calls : List ℕ). ObjectsMatch t.history (with_free s.objects o (record { clock = length s.objects; site = site_of calls }))) (sym a.state.calls)
    (freed_matches facts.changes g.history t.history s.objects (deferral_of g.rules x site) site o a.objects ends) in
    let more : length (with_free s.objects o freed) ≡ length s.objects = length-set s.objects o (record (object_at s.objects o) { freed = Some freed }) in
    returns_to p (inf_freed s o) (with_heap g t)
    (heap_agrees facts.placed p s g a t (call_keeps (free g.rules address site) (facts.calls g.rules address site) (heap_of g) a.mapped.lawful a.dues) (with_free s.objects o freed) s.written match
    (record { flat = λ y. refl; heap = λ q d e hd. cells_same (begins_in (with_free s.objects o freed)) (begins_in s.objects) s.written q d (begins_stay s.objects o q freed) })
    (λ q d le hd i. absurd (omega (arith, le, i.known, match.count, more, a.objects.count)))
    (subst (λ (n : ℕ). AreOfObjects n s.written) (sym more) a.written))
    back low

-- ---- the call

free_object : FreeFacts → (p : Mapping) (s : InfState) (g : Guest) (back o x : ℕ) → StatesAgree p s g → back < 2 ^ 32 → IsPlace (layout_of g.history) o 0 x → (freed : Option Freed) → (object_at s.objects o).freed ≡ freed
    → CallMatches (layout_of g.history) p s (inf_free_object s back o freed) (frees g back (free g.rules x (site_of g.core.calls) (heap_of g)))
free_object facts p s g back o x a low is None e = λ u.
    let f = pointed facts.laid g.history a.mapped.lawful o is.known in
    (free_of_owned facts p s g back x o f.object a low (owned_at facts.laid facts.owners g.history s.objects a.mapped.lawful a.objects o x is e f), refl)
free_object facts p s g back o x a low is (Some freed) e = λ u.
    (free_of_none facts p s g back x a low (none_at facts.laid facts.owners g.history a.mapped.lawful o x is u.0), refl)

-- a free of any value
pub free_matches : FreeFacts → (p : Mapping) (s : InfState) (g : Guest) (back : ℕ) (v : Value) (x : ℕ) → StatesAgree p s g → back < 2 ^ 32 → Stands (layout_of g.history) v x
    → CallMatches (layout_of g.history) p s (inf_free s back v) (frees g back (free g.rules x (site_of g.core.calls) (heap_of g)))
free_matches facts p s g back (Num n) x a low stands =
    two_ways (in_region n) (λ b. CallMatches (layout_of g.history) p s (cond b (inf.Blurs why.Freed []) (inf.Goes (inf_back s back) [])) (frees g back (free g.rules x (site_of g.core.calls) (heap_of g))))
    (λ e. tt)
    (λ e u. (free_of_none facts p s g back x a low (none_outside facts.laid facts.owners g.history a.mapped.lawful x (ap in_region stands ∙ e)), refl))
free_matches facts p s g back (Ptr o d) x a low stands =
    two_ways (nat_eq d 0) (λ b. CallMatches (layout_of g.history) p s (cond b (inf_free_object s back o (object_at s.objects o).freed) (inf.Goes (inf_back s back) (access s kind.Touch o d 1 ∷ []))) (frees g back (free g.rules x (site_of g.core.calls) (heap_of g))))
    (λ e. free_object facts p s g back o x a low (subst (λ (d : ℕ). IsPlace (layout_of g.history) o d x) (eqb-true d 0 e) stands) (object_at s.objects o).freed refl)
    (λ e u. (free_of_none facts p s g back x a low (none_inside facts.laid facts.owners g.history a.mapped.lawful o d x stands e u.0), refl))
free_matches facts p s g back (Mix b c d e) x a low stands = tt
free_matches facts p s g back (Low b) x a low stands = tt
