-- What patches cover stays in its object's slot, so it is harmless.
use Rattle.std.proofs.Common.{◌≡◌, ℕ, ◌+◌, ◌-◌, ◌%◌, ◌^◌, ◌<◌, ◌≤◌, refl, ap, sym, ◌∙◌, subst, Bool, true, false, cond, arith, min, max, nat_le, List, [], ◌∷◌, length, Option, None, Some, unwrap_or, IsSomeAnd}
use Rattle.std.specs.Prelude.{slice_get}
use Rattle.std.specs.Int.{next_multiple_of}
use Rattle.std.specs.List.{AllByRecursion}
use Rattle.std.specs.FinMap.{FinMap, entries, get-entries, find}
use Rattle.std.specs.Ordering.{nat_cmp, is_eq}
use Rattle.std.proofs.lemmas.Bool.{true≢false}
use Rattle.std.proofs.lemmas.Nat.{mod_below}
use Rattle.std.proofs.lemmas.Option.{same_Some}
use Rattle.infinite_heap.specs.declared.access.AccessKind.{AccessKind}
use Rattle.infinite_heap.specs.declared.access.AccessKind.TheVariants.{Load, Store, Touch, Again}
use Rattle.infinite_heap.specs.Covered.{Cures, reach, kept_until, IsWithin, InTime}
use Rattle.infinite_heap.specs.InfiniteState.{InfState}
use Rattle.infinite_heap.specs.Layout.{IsLayout, IsHarmlessUse, IsHarmlessFree, place}
use Rattle.infinite_heap.specs.Mapped.{Mapping}
use Rattle.infinite_heap.specs.Objects as inf
use Rattle.infinite_heap.specs.Objects.{Freed, object_at}
use Rattle.value_laws.specs.PatchLaws.{ReachIsLeast}
use Rattle.patch_table.specs.Limits.{InLimits, IsPad, IsFront}
use Rattle.patch_table.specs.Table.{Table, value_at}
use Rattle.size_class.specs.Classes.{class_of}
use Rattle.size_class.specs.Laws.{ClassesAreLeast, SlotsRise}
use Rattle.exact_heap.specs.Dues.{ReleasedSlotsAreFree}
use Rattle.exact_heap.specs.Freeing.{deferral_of}
use Rattle.exact_heap.specs.History.{ObjectState, Owned, Deferred, Released, Object, History, slot_of, address_of, holds_slot, is_owned, is_held}
use Rattle.exact_heap.specs.History as exact
use Rattle.exact_heap.specs.Lawful as heap
use Rattle.exact_heap.specs.Laws.{HoldsAt, HeldSlotsAreApart, LiesWithin, ObjectsLieWithin}
use Rattle.exact_heap.specs.Patched.{by_patches, IsPlacedBy, IsDueBy, FollowsPatches}
use Rattle.exact_heap.specs.Placing.{reach_of, front_of}
use Rattle.rv_machine.specs.Cures.{cures_of}
use Rattle.rv_machine.specs.Guest.{Guest}
use Rattle.rv_machine.specs.Objects.{of_object, layout_of, IsKept, FreeMatches, ObjectMatches}
use Rattle.simulation.specs.Agreement.{StatesAgree, HeapsAreLaidOut}
use Rattle.simulation.specs.Coverage.{IsAtHome, CoveredStaysHome}
use Rattle.simulation.proofs.Laid.{Numbered, numbered, each_number}

-- what it stands on
pub record CoverFacts : Type 0 where
  pub laid : HeapsAreLaidOut
  pub apart : HeldSlotsAreApart
  pub within : ObjectsLieWithin
  pub released : ReleasedSlotsAreFree
  pub reach : ReachIsLeast 4
  pub classes : ClassesAreLeast
  pub rise : SlotsRise

-- ---- numbers of tables

-- what holds of 0 and of each number holds of what is looked up
found : (P : ℕ × ℕ → Type 0) (Q : ℕ → Type 0) → Q 0 → ((e : ℕ × ℕ) → P e → Q e.1) → (es : List (ℕ × ℕ)) (q : ℕ) → AllByRecursion P es → Q (unwrap_or (find nat_cmp q es) 0)
found P Q none each [] q h = none
found P Q none each (d ∷ es) q h = split (is_eq (nat_cmp q d.0)) (found P Q none each es q h.1)
  where
    split : (b : Bool) → Q (unwrap_or (find nat_cmp q es) 0) → Q (unwrap_or (cond b (Some d.1) (find nat_cmp q es)) 0)
    split true later = each d h.0
    split false later = later

pad-limit : (m : FinMap nat_cmp ℕ) (q : ℕ) → AllByRecursion IsPad (entries m) → value_at m q ≤ 2 ^ 20
pad-limit m q h = subst (λ g. unwrap_or g 0 ≤ 2 ^ 20) (sym (get-entries m q)) (found IsPad (λ n. n ≤ 2 ^ 20) (omega arith) (λ e p. p.2) (entries m) q h)

front-limit : (m : FinMap nat_cmp ℕ) (q : ℕ) → AllByRecursion IsFront (entries m) → value_at m q ≤ 2 ^ 16
front-limit m q h = subst (λ g. unwrap_or g 0 ≤ 2 ^ 16) (sym (get-entries m q)) (found IsFront (λ n. n ≤ 2 ^ 16) (omega arith) (λ e p. p.2) (entries m) q h)

-- ---- an object's slot

-- a number that is rounded up is no less, and less by one multiple at most
rounded : (n m : ℕ) → 0 < m → (n ≤ next_multiple_of n m) × (next_multiple_of n m < n + m)
rounded n m pos = (omega arith, omega (arith, mod_below (m - n % m) m pos))

-- the slot has room for the front and the reach
pub record HasReach (cures : Cures) (o : Object) (other : inf.Object) : Type 0 where
  pub front : cures.front other.site ≤ o.front
  pub reach : o.front + reach cures other ≤ 2 ^ o.class

module _ (facts : CoverFacts) (patches : Table) (limits : InLimits patches) where
  has-reach : (o : Object) (other : inf.Object) → IsPlacedBy patches o → o.size ≡ other.size → o.site ≡ other.site → heap.HasRoom o.class o.front o.alignment o.size → HasReach (cures_of patches) o other
  has-reach o other placed size site room =
      let need : ℕ = other.size + value_at patches.pads other.site in
      let front : ℕ = front_of (by_patches patches) o.alignment other.site in
      let wanted : ℕ = max o.alignment (front_of (by_patches patches) o.alignment other.site + reach_of (by_patches patches) other.size other.site) in
      let small : need ≤ 2 ^ 21 = omega (arith, pad-limit patches.pads other.site limits.pads, room.size_fits, size) in
      let low = front-limit patches.fronts other.site limits.fronts in
      let inner = facts.classes need (omega (arith, small)) in
      let below : class_of need ≤ 21 = inner.1.least 21 (omega arith) (omega (arith, small)) in
      let bytes : 2 ^ class_of need ≤ 2 ^ 21 = facts.rise (class_of need) 21 below in
      let reaches : reach (cures_of patches) other ≤ 2 ^ class_of need = (facts.reach (cures_of patches) other).least (class_of need) inner.0.0 inner.1.holds in
      let up = rounded (min (2 ^ 16) (value_at patches.fronts other.site)) o.alignment (omega (arith, room.aligned.low)) in
      let outer = facts.classes wanted (omega (arith, bytes, up.1, room.aligned.high)) in
      let front-is : o.front ≡ front = placed.front ∙ ap (front_of (by_patches patches) o.alignment) site in
      let class-is : o.class ≡ class_of wanted =
      placed.class ∙ ap (λ (x : ℕ). class_of (max o.alignment (front_of (by_patches patches) o.alignment x + reach_of (by_patches patches) o.size x))) site
      ∙ ap (λ (x : ℕ). class_of (max o.alignment (front_of (by_patches patches) o.alignment other.site + reach_of (by_patches patches) x other.site))) size in
      let whole : 2 ^ o.class ≡ 2 ^ class_of wanted = ap (λ (x : ℕ). 2 ^ x) class-is in
      record {
        front = omega (arith, front-is, up.0, low);
        reach = omega (arith, front-is, whole, reaches, outer.1.holds);
      }

-- ---- addresses

-- from the object's address on
spot-after : (slot front bytes far d w j : ℕ) → slot + bytes ≤ 2 ^ 31 → front + far ≤ bytes → d + w ≤ far → j < w → (slot ≤ (slot + front + (d + j)) % 2 ^ 32) × ((slot + front + (d + j)) % 2 ^ 32 < slot + bytes)
spot-after slot front bytes far d w j high room within less = (omega arith, omega arith)

-- and before it
spot-before : (slot front bytes far before d w j : ℕ) → slot + bytes ≤ 2 ^ 31 → front + far ≤ bytes → before ≤ front → 2 ^ 32 ≤ d + before → d + w ≤ 2 ^ 32 + far → j < w
    → (slot ≤ (slot + front + (d + j)) % 2 ^ 32) × ((slot + front + (d + j)) % 2 ^ 32 < slot + bytes)
spot-before slot front bytes far before d w j high room fits low within less = (omega arith, omega arith)

spot : (cures : Cures) (o : Object) (other : inf.Object) (b : Bool) (d w j : ℕ) → HasReach cures o other → o.slot + 2 ^ o.class ≤ 2 ^ 31 → IsWithin cures other b d w → j < w
    → (o.slot ≤ (o.slot + o.front + (d + j)) % 2 ^ 32) × ((o.slot + o.front + (d + j)) % 2 ^ 32 < o.slot + 2 ^ o.class)
spot cures o other false d w j has high within less = spot-after o.slot o.front (2 ^ o.class) (reach cures other) d w j high has.reach within less
spot cures o other true d w j has high within less = spot-before o.slot o.front (2 ^ o.class) (reach cures other) (cures.front other.site) d w j high has.reach has.front within.0 within.1 less

-- ---- in time

-- the due of an object is the clock up to which it is kept
due-is : (patches : Table) (o : Object) (other : inf.Object) (f : Freed) → o.site ≡ other.site → o.free_site ≡ f.site → o.freed ≡ f.clock → o.freed + deferral_of (by_patches patches) o o.free_site ≡ kept_until (cures_of patches) other f
due-is patches o other f site free freed =
    ap (λ (x : ℕ). x + value_at patches.defers (o.site, o.free_site)) freed ∙ ap (λ (x : ℕ). f.clock + value_at patches.defers (x, o.free_site)) site ∙ ap (λ (x : ℕ). f.clock + value_at patches.defers (other.site, x)) free

-- before it
abbrev IsKeptAt : Cures → inf.Object → Option Freed → (clock : ℕ) → Type 0
IsKeptAt cures other None clock = Unit {0}
IsKeptAt cures other (Some f) clock = clock < kept_until cures other f

held-state : (patches : Table) (clock : ℕ) (o : Object) (x : ObjectState) → IsKept clock x → IsDueBy patches o x → clock < o.freed + deferral_of (by_patches patches) o o.free_site → is_held x ≡ true
held-state patches clock o Owned k due less = absurd k
held-state patches clock o (Deferred at) k due less = refl
held-state patches clock o (Released at) k due less = absurd (let e : at ≡ o.freed + deferral_of (by_patches patches) o o.free_site = due in let le : at ≤ clock = k in omega (arith, e, le, less))

still-held : (patches : Table) (clock : ℕ) (o : Object) (other : inf.Object) (freed : Option Freed) → o.site ≡ other.site → FreeMatches clock o freed → IsDueBy patches o o.state → IsKeptAt (cures_of patches) other freed clock → holds_slot o ≡ true
still-held patches clock o other None site free due kept = ap is_held free
still-held patches clock o other (Some f) site free due kept = held-state patches clock o o.state free.2 due (omega (arith, due-is patches o other f site free.0 free.1, kept))

used-load : (cures : Cures) (other : inf.Object) (freed : Option Freed) (clock : ℕ) → InTime cures other freed Load clock → IsKeptAt cures other freed clock
used-load cures other None clock h = tt
used-load cures other (Some f) clock h = h

used-store : (cures : Cures) (other : inf.Object) (freed : Option Freed) (clock : ℕ) → InTime cures other freed Store clock → IsKeptAt cures other freed clock
used-store cures other None clock h = tt
used-store cures other (Some f) clock h = h

used-touch : (cures : Cures) (other : inf.Object) (freed : Option Freed) (clock : ℕ) → InTime cures other freed Touch clock → IsKeptAt cures other freed clock
used-touch cures other None clock h = tt
used-touch cures other (Some f) clock h = h

-- ---- one access

owned-holds : (x : ObjectState) → is_owned x ≡ true → is_held x ≡ true
owned-holds Owned e = refl
owned-holds (Deferred at) e = absurd (cc)
owned-holds (Released at) e = absurd (cc)

holds-at : (h : History) (i address : ℕ) (o : Object) → slice_get h.objects i ≡ Some o → holds_slot o ≡ true → slot_of o ≤ address → address < slot_of o + 2 ^ o.class → HoldsAt h i address
holds-at h i address o e held low high = subst (λ (x : Option Object). IsSomeAnd x (λ q. (holds_slot q ≡ true) × (slot_of q ≤ address) × (address < slot_of q + 2 ^ q.class))) (sym e) (held, low, high)

module _ (facts : CoverFacts) (patches : Table) (limits : InLimits patches) (p : Mapping) (s : InfState) (g : Guest) (a : StatesAgree p s g) (follows : FollowsPatches patches g.history) (n : ℕ) (o : Object) (e : slice_get g.history.objects n ≡ Some o) where
  m : ObjectMatches (exact.clock_of g.history) o (object_at s.objects n)
  m = a.objects.each n o e

  has : HasReach (cures_of patches) o (object_at s.objects n)
  has = has-reach facts patches limits o (object_at s.objects n) (follows.placed n o e) m.size m.site (each_number (heap.IsPlaced g.history.classes) g.history.objects n o a.mapped.lawful.placed e).room

  stays : (d w clock : ℕ) → n < length g.history.objects → clock ≡ exact.clock_of g.history → IsWithin (cures_of patches) (object_at s.objects n) (nat_le (2 ^ 31) d) d w
      → IsKeptAt (cures_of patches) (object_at s.objects n) (object_at s.objects n).freed clock → IsHarmlessUse (layout_of g.history) n d w
  stays d w clock known now within kept =
      let lies = facts.within g.history n a.mapped.lawful o e in
      let laid : IsLayout (layout_of g.history) = facts.laid g.history a.mapped.lawful in
      let holds : holds_slot o ≡ true = still-held patches (exact.clock_of g.history) o (object_at s.objects n) (object_at s.objects n).freed m.site m.free (follows.due n o e) (subst (IsKeptAt (cures_of patches) (object_at s.objects n) (object_at s.objects n).freed) now kept) in
      let held : (layout_of g.history).held n ≡ true = ap (of_object holds_slot false) e ∙ holds in
      let at-is : (layout_of g.history).at n ≡ o.slot + o.front = ap (of_object address_of 0) e in
      let slot-is : (layout_of g.history).slot n ≡ o.slot = ap (of_object slot_of 0) e in
      let span-is : (layout_of g.history).span n ≡ 2 ^ o.class = ap (of_object (λ (x : Object). 2 ^ x.class) 0) e in
      record {
        held = held;
        inside = λ j less.
            let spots = spot (cures_of patches) o (object_at s.objects n) (nat_le (2 ^ 31) d) d w j has (omega (arith, lies.high, laid.top_below)) within less in
            let place-is : place (layout_of g.history) n (d + j) ≡ (o.slot + o.front + (d + j)) % 2 ^ 32 = ap (λ (x : ℕ). (x + (d + j)) % 2 ^ 32) at-is in
            record {
              known = known;
              held = held;
              from = omega (arith, slot-is, place-is, spots.0);
              to = omega (arith, slot-is, span-is, place-is, spots.1);
            };
      }

  -- a repeated free: the object is deferred, or was released at this very clock
  lapsed : (clock : ℕ) → clock ≡ exact.clock_of g.history → (f : Freed) → (object_at s.objects n).freed ≡ Some f → clock ≤ kept_until (cures_of patches) (object_at s.objects n) f → IsHarmlessFree (layout_of g.history) n
  lapsed clock now f freed kept i known owned same = at o.state refl gone.2 (follows.due n o e)
    where
      lies : LiesWithin g.history o
      lies = facts.within g.history n a.mapped.lawful o e

      q : Numbered g.history.objects i
      q = numbered g.history.objects i known

      mine : is_owned q.object.state ≡ true
      mine = sym (ap (of_object (λ (x : Object). is_owned x.state) false) q.found) ∙ owned

      address : address_of q.object ≡ address_of o
      address = sym (ap (of_object address_of 0) q.found) ∙ same ∙ ap (of_object address_of 0) e

      gone : FreeMatches (exact.clock_of g.history) o (Some f)
      gone = subst (FreeMatches (exact.clock_of g.history) o) freed m.free

      within : address_of o < slot_of o + 2 ^ o.class
      within = omega (arith, lies.fits)

      other-holds : HoldsAt g.history i (address_of o)
      other-holds =
          let fits = (facts.within g.history i a.mapped.lawful q.object q.found).fits in
          holds-at g.history i (address_of o) q.object q.found (owned-holds q.object.state mine) (omega (arith, address)) (omega (arith, address, fits))

      at : (x : ObjectState) → o.state ≡ x → IsKept (exact.clock_of g.history) x → IsDueBy patches o x → ⊥
      at Owned is k due = absurd k
      at (Deferred until) is k due =
          let one : n ≡ i = facts.apart g.history n i (address_of o) a.mapped.lawful (holds-at g.history n (address_of o) o e (ap is_held is) (omega arith) within) other-holds in
          let alike : q.object ≡ o = same_Some q.object o (sym q.found ∙ ap (slice_get g.history.objects) (sym one) ∙ e) in
          true≢false (sym mine ∙ ap (λ (x : Object). is_owned x.state) alike ∙ ap is_owned is)
      at (Released until) is k due =
          let now-is : until ≡ exact.clock_of g.history = released-now until k due in
          facts.released g.history i n (address_of o) o a.mapped.lawful a.dues e (is ∙ ap Released now-is) (omega arith) within other-holds
        where
          released-now : (until : ℕ) → until ≤ exact.clock_of g.history → until ≡ o.freed + deferral_of (by_patches patches) o o.free_site → until ≡ exact.clock_of g.history
          released-now until le due = omega (arith, le, due, due-is patches o (object_at s.objects n) f m.site gone.0 gone.1, kept, now)

pub covered_stays_home : CoverFacts → CoveredStaysHome
covered_stays_home facts patches limits p s g a follows r known now covered = kinds r.kind covered.in_time
  where
    inside : r.access.object < length g.history.objects
    inside = omega (arith, known, a.objects.count)

    o : Numbered g.history.objects r.access.object
    o = numbered g.history.objects r.access.object inside

    today : r.access.clock ≡ exact.clock_of g.history
    today = now ∙ sym a.objects.count

    uses : IsKeptAt (cures_of patches) (object_at s.objects r.access.object) (object_at s.objects r.access.object).freed r.access.clock → IsHarmlessUse (layout_of g.history) r.access.object r.access.offset r.access.width
    uses kept = stays facts patches limits p s g a follows r.access.object o.object o.found r.access.offset r.access.width r.access.clock inside today covered.within kept

    again : (freed : Option Freed) → (object_at s.objects r.access.object).freed ≡ freed → InTime (cures_of patches) (object_at s.objects r.access.object) freed Again r.access.clock → IsHarmlessFree (layout_of g.history) r.access.object
    again None is kept = absurd kept
    again (Some f) is kept = lapsed facts patches limits p s g a follows r.access.object o.object o.found r.access.clock today f is kept

    kinds : (kind : AccessKind) → InTime (cures_of patches) (object_at s.objects r.access.object) (object_at s.objects r.access.object).freed kind r.access.clock → IsAtHome (layout_of g.history) kind r.access.object r.access.offset r.access.width
    kinds Load kept = uses (used-load (cures_of patches) (object_at s.objects r.access.object) (object_at s.objects r.access.object).freed r.access.clock kept)
    kinds Store kept = uses (used-store (cures_of patches) (object_at s.objects r.access.object) (object_at s.objects r.access.object).freed r.access.clock kept)
    kinds Touch kept = uses (used-touch (cures_of patches) (object_at s.objects r.access.object) (object_at s.objects r.access.object).freed r.access.clock kept)
    kinds Again kept = again (object_at s.objects r.access.object).freed refl kept
