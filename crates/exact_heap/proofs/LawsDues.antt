-- Objects are released when they are due, and nothing is placed in their slots at that clock.
use Rattle.std.proofs.Common.{◌≡◌, ℕ, zero, suc, ◌+◌, ◌<◌, refl, ap, sym, ◌∙◌, subst, Bool, true, false, cond, arith, nat_eq, nat_le, List, [], ◌∷◌, ◌++◌, length, map, Some}
use Rattle.std.specs.Prelude.{slice_get}
use Rattle.std.specs.Option.{option_map}
use Rattle.std.specs.FinSet.{contains}
use Rattle.std.proofs.lemmas.Bool.{true≢false, eqb-true, eqb-false, leb-true, leb-false}
use Rattle.std.proofs.lemmas.Option.{same_Some}
use Rattle.miniheap.specs.declared.place.Slot.{Slot}
use Rattle.miniheap.specs.Laws.{SlotLaws}
use Rattle.exact_heap.specs.declared.parts.Request.{Request}
use Rattle.exact_heap.specs.History.{ObjectState, Owned, Deferred, Released, Object, History, slot_of, address_of, is_held, holds_slot, held_by}
use Rattle.exact_heap.specs.Owners.{Owner, changed_at}
use Rattle.exact_heap.specs.Placing.{Rules, request, new_object, after_due, released_object}
use Rattle.exact_heap.specs.Freeing.{freed_state, freed_object, deferral_of}
use Rattle.exact_heap.specs.Calls.{malloc, memalign, calloc, free, realloc}
use Rattle.exact_heap.specs.Lawful.{IsPlaced, AreApart}
use Rattle.exact_heap.specs.Dues.{IsDue, KeepsDues, ReleasedSlotsAreFree, ReleasedHaveNone, NewHeapKeepsDues, MallocKeepsDues, MemalignKeepsDues, CallocKeepsDues, FreeKeepsDues, ReallocKeepsDues}
use Rattle.exact_heap.specs.ObjectsAfter.{with_new}
use Rattle.exact_heap.proofs.Numbers.{number_splits}
use Rattle.exact_heap.proofs.Objects.{held_here_is}
use Rattle.exact_heap.proofs.LawsApart.{each_number, one_holds, own_slot, own_found, holder}
use Rattle.exact_heap.proofs.LawsFreed.{IsOwner}
use Rattle.exact_heap.proofs.LawsPlacing.{still_held}
use Rattle.exact_heap.proofs.LawsOneCall.{changed_at_length}
use Rattle.exact_heap.proofs.LawsObjects.{counts_one_more, changes_one}
use Rattle.exact_heap.proofs.LawsOwned.{owner_number, foreign_have_none}
use Rattle.exact_heap.proofs.LawsInvariants.{IsKeptBy, malloc_keeps, memalign_keeps, calloc_keeps, free_keeps, realloc_keeps}

-- the same of a list of objects at a clock
pub record DuesAreKept (clock : ℕ) (os : List Object) : Type 0 where
  pub dues : (n : ℕ) (o : Object) → slice_get os n ≡ Some o → IsDue clock o.state
  pub free : (i j : ℕ) (o p : Object) → slice_get os i ≡ Some o → slice_get os j ≡ Some p → holds_slot o ≡ true → p.state ≡ Released clock → slot_of o ≡ slot_of p → ⊥

abbrev pub DuesKept : List Object → Type 0
DuesKept os = DuesAreKept (length os) os

-- ---- an object more

-- an object of the list is one of those before, maybe released, or the new one
pub data WithNew (os : List Object) (new : Object) (n : ℕ) (x : Object) : Type 0 where
  Old : (o : Object) → slice_get os n ≡ Some o → x ≡ released_object (length os + 1) o → WithNew os new n x
  New : x ≡ new → WithNew os new n x

pub with_new_is : (os : List Object) (new : Object) (n : ℕ) (x : Object) → slice_get (with_new os new) n ≡ Some x → WithNew os new n x
with_new_is os new n x e = among (length os + 1) os n e (λ o q r. Old o q r) (λ q. New q)
  where
    among : (clock : ℕ) (xs : List Object) (m : ℕ) → slice_get (map (released_object clock) xs ++ new ∷ []) m ≡ Some x → ((o : Object) → slice_get xs m ≡ Some o → x ≡ released_object clock o → WithNew os new n x) → (x ≡ new → WithNew os new n x) → WithNew os new n x
    among clock [] zero f old last = last (sym (same_Some new x f))
    among clock [] (suc m) f old last = absurd (cc)
    among clock (y ∷ xs) zero f old last = old y refl (sym (same_Some (released_object clock y) x f))
    among clock (y ∷ xs) (suc m) f old last = among clock xs m f old last

due_after : (clock : ℕ) (x : ObjectState) → IsDue clock x → IsDue (clock + 1) (after_due (clock + 1) x)
due_after clock Owned h = tt
due_after clock (Released due) h = omega (arith, h)
due_after clock (Deferred due) h = at (nat_le due (clock + 1)) refl
  where
    at : (b : Bool) → nat_le due (clock + 1) ≡ b → IsDue (clock + 1) (cond b (Released due) (Deferred due))
    at true e = leb-true due (clock + 1) e
    at false e = leb-false due (clock + 1) e

-- what is released at the new clock held its slot before, and doesn't any more
released_now : (clock : ℕ) (x : ObjectState) → IsDue clock x → after_due (clock + 1) x ≡ Released (clock + 1) → (is_held x ≡ true) × (is_held (after_due (clock + 1) x) ≡ false)
released_now clock Owned h e = absurd (cc)
released_now clock (Released due) h e = let k : due ≡ clock + 1 = cc in absurd (omega (arith, h, k))
released_now clock (Deferred due) h e = (refl, ap is_held e)

held_number : (os : List Object) (n : ℕ) (o : Object) → slice_get os n ≡ Some o → holds_slot o ≡ true → contains (held_by os) (slot_of o) ≡ true
held_number os n o e ho = let k = number_splits os n o e in ap (λ (xs : List Object). contains (held_by xs) (slot_of o)) k.parts ∙ held_here_is k.first o k.last ho

dues_with_new : (r : Request) (slot : ℕ) (os : List Object) → AreApart os → contains (held_by os) slot ≡ false → DuesAreKept (length os) os → DuesAreKept (length os + 1) (with_new os (new_object r slot))
dues_with_new r slot os apart none h = record {
  dues = λ n x e. due x (with_new_is os new n x e);
  free = λ i j o p e f ho q s. clash i j o p (with_new_is os new i o e) (with_new_is os new j p f) ho q s;
}
  where
    new : Object
    new = new_object r slot

    clock : ℕ
    clock = length os

    due : {n : ℕ} (x : Object) → WithNew os new n x → IsDue (clock + 1) x.state
    due x (Old o e q) = subst (λ (y : Object). IsDue (clock + 1) y.state) (sym q) (due_after clock o.state (h.dues _ o e))
    due x (New q) = subst (λ (y : Object). IsDue (clock + 1) y.state) (sym q) tt

    clash : (i j : ℕ) (o p : Object) → WithNew os new i o → WithNew os new j p → holds_slot o ≡ true → p.state ≡ Released (clock + 1) → slot_of o ≡ slot_of p → ⊥
    clash i j o p x (New q) ho rel s = owned_not (sym (ap (λ (y : Object). y.state) q) ∙ rel)
      where
        owned_not : Owned ≡ Released (clock + 1) → ⊥
        owned_not z = cc
    clash i j o p (New q) (Old y f g) ho rel s =
        let k = released_now clock y.state (h.dues j y f) (sym (ap (λ (z : Object). z.state) g) ∙ rel) in
        let same : slot ≡ slot_of y = sym (ap slot_of q) ∙ s ∙ ap slot_of g in
        true≢false (sym (held_number os j y f k.0) ∙ ap (contains (held_by os)) (sym same) ∙ none)
    clash i j o p (Old x e q) (Old y f g) ho rel s =
        let k = released_now clock y.state (h.dues j y f) (sym (ap (λ (z : Object). z.state) g) ∙ rel) in
        let holds : is_held (after_due (clock + 1) x.state) ≡ true = sym (ap (λ (z : Object). holds_slot z) q) ∙ ho in
        let number : i ≡ j = one_holds os i j x y apart e f (still_held (clock + 1) x.state holds) k.0 (sym (ap slot_of q) ∙ s ∙ ap slot_of g) in
        let same : x ≡ y = same_Some x y (sym e ∙ ap (slice_get os) number ∙ f) in
        true≢false (sym holds ∙ ap (λ (z : Object). is_held (after_due (clock + 1) z.state)) same ∙ k.1)

-- ---- the free of an owned object

-- an object of the list is one of those before, or the freed one
pub data WithFreed (f : Object → Object) (w : Owner) (os : List Object) (n : ℕ) (x : Object) : Type 0 where
  Stays : (n ≡ w.number → ⊥) → slice_get os n ≡ Some x → WithFreed f w os n x
  Freed : n ≡ w.number → x ≡ f w.object → WithFreed f w os n x

pub with_freed_is : (f : Object → Object) (w : Owner) (os : List Object) → IsOwner os w → (n : ℕ) (x : Object) → slice_get (changed_at f w.number os) n ≡ Some x → WithFreed f w os n x
with_freed_is f w os k n x e = at (nat_eq n w.number) refl (sym (changes_one f w.number n os) ∙ e)
  where
    at : (b : Bool) → nat_eq n w.number ≡ b → cond b (option_map f (slice_get os n)) (slice_get os n) ≡ Some x → WithFreed f w os n x
    at true q g =
        let number : n ≡ w.number = eqb-true n w.number q in
        let here : slice_get os n ≡ Some w.object = ap (slice_get os) number ∙ owner_number os w k in
        Freed number (sym (same_Some (f w.object) x (sym (ap (option_map f) here) ∙ g)))
    at false q g = Stays (eqb-false n w.number q) g

due_freed : (clock deferral : ℕ) → IsDue clock (freed_state clock deferral)
due_freed clock deferral = at (nat_eq deferral 0) refl
  where
    at : (b : Bool) → nat_eq deferral 0 ≡ b → IsDue clock (cond b (Released clock) (Deferred (clock + deferral)))
    at true e = omega arith
    at false e = above (eqb-false deferral 0 e)
      where
        above : (deferral ≡ 0 → ⊥) → clock < clock + deferral
        above n = omega arith

released_gone : (clock : ℕ) (x : ObjectState) → x ≡ Released clock → is_held x ≡ true → ⊥
released_gone clock x e h = true≢false (sym h ∙ ap is_held e)

dues_with_freed : (deferral site : ℕ) (w : Owner) (os : List Object) → AreApart os → IsOwner os w → DuesAreKept (length os) os → DuesAreKept (length os) (changed_at (freed_object (length os) deferral site) w.number os)
dues_with_freed deferral site w os apart k h = record {
  dues = λ n x e. due n x (with_freed_is f w os k n x e);
  free = λ i j o p e g ho q s. clash i j o p (with_freed_is f w os k i o e) (with_freed_is f w os k j p g) ho q s;
}
  where
    clock : ℕ
    clock = length os

    f : Object → Object
    f = freed_object clock deferral site

    here : slice_get os w.number ≡ Some w.object
    here = owner_number os w k

    holds : holds_slot w.object ≡ true
    holds = ap is_held k.owned

    due : (n : ℕ) (x : Object) → WithFreed f w os n x → IsDue clock x.state
    due n x (Stays m e) = h.dues n x e
    due n x (Freed m q) = subst (λ (y : Object). IsDue clock y.state) (sym q) (due_freed clock deferral)

    clash : (i j : ℕ) (o p : Object) → WithFreed f w os i o → WithFreed f w os j p → holds_slot o ≡ true → p.state ≡ Released clock → slot_of o ≡ slot_of p → ⊥
    clash i j o p (Stays m e) (Stays n g) ho rel s = h.free i j o p e g ho rel s
    clash i j o p (Freed m q) (Stays n g) ho rel s = h.free w.number j w.object p here g holds rel (sym (ap slot_of q) ∙ s)
    clash i j o p (Stays m e) (Freed n g) ho rel s = m (one_holds os i w.number o w.object apart e here ho holds (s ∙ ap slot_of g))
    clash i j o p (Freed m q) (Freed n g) ho rel s = released_gone clock p.state rel (ap holds_slot (g ∙ sym q) ∙ ho)

-- ---- slots of what was released

pub released_slots_are_free : SlotLaws → ReleasedSlotsAreFree
released_slots_are_free laws h i j a o l p e rel lo hi k =
    let x = holder h i a k in
    let v = own_slot h.classes x.object (each_number (IsPlaced h.classes) h.objects i x.object l.placed x.found).slot in
    let w = own_slot h.classes o (each_number (IsPlaced h.classes) h.objects j o l.placed e).slot in
    let same : v.slot ≡ w.slot = same_Some v.slot w.slot (sym (own_found laws h.classes x.object v a x.low x.high) ∙ own_found laws h.classes o w a lo hi) in
    p.free i j x.object o x.found e x.holds rel (sym v.addr ∙ ap (λ (t : Slot). t.addr) same ∙ w.addr)

pub released_have_none : SlotLaws → ReleasedHaveNone
released_have_none laws h j o l p e rel =
    let k : IsPlaced h.classes o = each_number (IsPlaced h.classes) h.objects j o l.placed e in
    foreign_have_none h (address_of o) l (λ i holds. released_slots_are_free laws h i j (address_of o) o l p e rel (omega arith) (omega (arith, k.room.fits)) holds)

-- ---- the calls

dues_kept : (rules : Rules) → IsKeptBy rules DuesKept
dues_kept rules = record {
  new = λ align size site slot os apart none h.
      let new : Object = new_object (request rules align size site) slot in
      subst (λ (c : ℕ). DuesAreKept c (with_new os new)) (sym (counts_one_more new os)) (dues_with_new (request rules align size site) slot os apart none h);
  freed = λ site w os apart k h.
      let f : Object → Object = freed_object (length os) (deferral_of rules w.object site) site in
      subst (λ (c : ℕ). DuesAreKept c (changed_at f w.number os)) (sym (changed_at_length f w.number os)) (dues_with_freed (deferral_of rules w.object site) site w os apart k h);
}

inward : (h : History) → KeepsDues h → DuesKept h.objects
inward h p = record { dues = p.dues; free = p.free }

outward : (h : History) → DuesKept h.objects → KeepsDues h
outward h p = record { dues = p.dues; free = p.free }

pub new_heap_keeps_dues : NewHeapKeepsDues
new_heap_keeps_dues seed = record { dues = λ n o e. absurd (cc); free = λ i j o p e f ho q s. absurd (cc) }

pub malloc_keeps_dues : SlotLaws → MallocKeepsDues
malloc_keeps_dues laws rules size site s l p = outward (malloc rules size site s).state.history (malloc_keeps laws rules DuesKept (dues_kept rules) size site s l (inward s.history p))

pub memalign_keeps_dues : SlotLaws → MemalignKeepsDues
memalign_keeps_dues laws rules align size site s l p = outward (memalign rules align size site s).state.history (memalign_keeps laws rules DuesKept (dues_kept rules) align size site s l (inward s.history p))

pub calloc_keeps_dues : SlotLaws → CallocKeepsDues
calloc_keeps_dues laws rules count each site s l p = outward (calloc rules count each site s).state.history (calloc_keeps laws rules DuesKept (dues_kept rules) count each site s l (inward s.history p))

pub free_keeps_dues : FreeKeepsDues
free_keeps_dues rules address site s l p = outward (free rules address site s).history (free_keeps rules DuesKept (dues_kept rules) address site s l (inward s.history p))

pub realloc_keeps_dues : SlotLaws → ReallocKeepsDues
realloc_keeps_dues laws rules old size site s l p = outward (realloc rules old size site s).state.history (realloc_keeps laws rules DuesKept (dues_kept rules) old size site s l (inward s.history p))
