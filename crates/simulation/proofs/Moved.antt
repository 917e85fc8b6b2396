-- Realloc on the two machines: an object more is placed, cells and bytes are copied, and the old object is freed.
use Rattle.std.proofs.Common.{◌≡◌, ℕ, zero, suc, ◌+◌, ◌^◌, ◌<◌, ◌≤◌, refl, ap, sym, ◌∙◌, subst, Bool, true, false, cond, ◌⊎◌, inl, inr, arith, nat_eq, nat_lt, min, List, [], ◌∷◌, ◌++◌, length, get_or, Option, Some, None, is_some, Result, Ok, Err}
use Rattle.std.specs.Prelude.{slice_get, unwrap_or}
use Rattle.std.specs.Option.{option_map}
use Rattle.std.proofs.lemmas.Bool.{cases_lt, eq-eqb, ne_eqb, eqb-true, ltb-false, lt-ltb}
use Rattle.std.proofs.lemmas.Bool.Decides.{nat_tests}
use Rattle.std.proofs.lemmas.List.{get_or_append_left, get_or_push}
use Rattle.std.proofs.lemmas.List.Elements.{All-cons}
use Rattle.infinite_heap.specs.declared.fault.Why.TheVariants as why
use Rattle.infinite_heap.specs.declared.value.Cell.{Cell}
use Rattle.infinite_heap.specs.declared.value.Cell.TheVariants.{Byte, Unset}
use Rattle.infinite_heap.specs.declared.value.Value.{Value}
use Rattle.infinite_heap.specs.declared.value.Value.TheVariants.{Num, Ptr, Mix, Low}
use Rattle.infinite_heap.specs.CallSite.{site_of}
use Rattle.infinite_heap.specs.InfiniteHeap.{inf_back_with, with_moved, inf_malloc, inf_resize, inf_realloc_object, inf_realloc}
use Rattle.infinite_heap.specs.InfiniteState as inf
use Rattle.infinite_heap.specs.InfiniteState.{InfState}
use Rattle.infinite_heap.specs.Values.{byte}
use Rattle.infinite_heap.specs.Layout.{Layout, IsIn, IsPlace, CellStands, Stands, place}
use Rattle.infinite_heap.specs.Mapped.{Mapping}
use Rattle.infinite_heap.specs.Memory.{Written, next, cell_at, write_all, get_all, is_stored}
use Rattle.infinite_heap.specs.Objects as obj
use Rattle.infinite_heap.specs.Objects.{Freed, begins_in, new_object, no_object, object_at, size_in, with_free}
use Rattle.infinite_heap.specs.Region.{in_region, most_allocated, least_alignment}
use Rattle.value_laws.specs.LayoutLaws.{ValuesStay, IsLater}
use Rattle.value_laws.specs.MemoryLaws.{WrittenIsRead, OthersStay}
use Rattle.miniheap.specs.Layout.{heap_from}
use Rattle.miniheap.specs.Slots.{end_of}
use Rattle.exact_heap.specs.declared.signal.HeapRefusal.{HeapRefusal}
use Rattle.exact_heap.specs.declared.signal.HeapRefusal.TheVariants.{Room, Memory as NoMemory}
use Rattle.exact_heap.specs.Calls.{size_limit, usual, malloc, realloc}
use Rattle.exact_heap.specs.Freeing.{freed_object, deferral_of}
use Rattle.exact_heap.specs.Held.{new_byte, ReallocCopies}
use Rattle.exact_heap.specs.History.{Owned, Object, History, slot_of, address_of, is_held, holds_slot, slots_of, clock_of}
use Rattle.exact_heap.specs.Laws.{ObjectsLieWithin}
use Rattle.exact_heap.specs.Lawful.{IsLawful}
use Rattle.exact_heap.specs.NewSlots.{ReallocGivesNewSlot}
use Rattle.exact_heap.specs.ObjectsAfter.{with_new, AddsOne, CountsOneMore, with_freed, LeavesObjects, Replaces, ReplaceEnds, ReallocEndsBy, ReallocEnds}
use Rattle.exact_heap.specs.Owners.{Owner, owner_of}
use Rattle.exact_heap.specs.Placing.{HeapState, Rules, Outcome, request, new_object as placed_object, released_object}
use Rattle.rv_machine.specs.Guest.{Guest, heap_of, with_core, with_heap}
use Rattle.rv_machine.specs.HeapCalls.{answered, answers, back_with}
use Rattle.rv_machine.specs.Matches.{bytes_in}
use Rattle.rv_machine.specs.Objects.{FreeMatches, ObjectsMatch, of_object, layout_of}
use Rattle.simulation.specs.Agreement.{AreOfObjects, HeapsAreLaidOut, StatesAgree}
use Rattle.simulation.specs.Calls.{CallMatches}
use Rattle.simulation.proofs.Laid.{known, in_holds}
use Rattle.simulation.proofs.Placed.{two_ways, CallFacts, call_keeps, PlacedFacts, is_later, cells_same, unwritten, of_more_objects, heap_agrees, unchanged_agrees, returns_with, new_objects_match}
use Rattle.simulation.proofs.Owned.{OwnerFacts, pointed, owned_at}
use Rattle.simulation.proofs.Freed.{ChangeFacts, freed_matches, begins_stay}

-- what the laws say of realloc, and of what it stands on
pub record MoveFacts : Type 0 where
  pub laid : HeapsAreLaidOut
  pub placed : PlacedFacts
  pub owners : OwnerFacts
  pub changes : ChangeFacts
  pub calls : (rules : Rules) (old size site : ℕ) → CallFacts (λ s. (realloc rules old size site s).state)
  pub ends : ReallocEnds
  pub copies : ReallocCopies
  pub fresh : ReallocGivesNewSlot
  pub adds : AddsOne
  pub more : CountsOneMore
  pub within : ObjectsLieWithin
  pub written : WrittenIsRead
  pub others : OthersStay

region_true : (x : ℕ) → 2 ^ 30 ≤ x → x < 2 ^ 31 → in_region x ≡ true
region_true x h k = grind (arith, nat_tests)

-- ---- cells that were written

-- two maps that read the same have the same entries
same_entries : (f g : ℕ → Cell) (x n j : ℕ) → x + n ≤ 2 ^ 32 → get_all f x n ≡ get_all g x n → j < n → f (x + j) ≡ g (x + j)
same_entries f g x zero j h e hj = absurd (omega arith)
same_entries f g x (suc n) zero h e hj = let at : x + 0 ≡ x = omega arith in rw at (ap (λ (cs : List Cell). get_or cs 0 Unset) e)
same_entries f g x (suc n) (suc j) h e hj =
    let on : next x ≡ x + 1 = omega arith in
    let rest : get_all f (next x) n ≡ get_all g (next x) n = ap tail e in
    let at : x + suc j ≡ x + 1 + j = omega arith in
    rw at (same_entries f g (x + 1) n j (omega arith) (subst (λ (y : ℕ). get_all f y n ≡ get_all g y n) on rest) (omega arith))
  where
    tail : List Cell → List Cell
    tail [] = []
    tail (c ∷ cs) = cs

length-all : (f : ℕ → Cell) (x n : ℕ) → length (get_all f x n) ≡ n
length-all f x zero = refl
length-all f x (suc n) = ap suc (length-all f (next x) n)

-- a written cell is that of its place in the list
copied_cell : WrittenIsRead → (begins : ℕ → Cell) (marks : ℕ → Bool) (ws : List Written) (o count d : ℕ) (f : ℕ → Cell) → count ≤ 2 ^ 32 → d < count
    → cell_at begins (write_all marks ws o 0 (get_all f 0 count)) o d ≡ f d
copied_cell written begins marks ws o count d f small hd =
    let long : length (get_all f 0 count) ≡ count = length-all f 0 count in
    let read : get_all (cell_at begins (write_all marks ws o 0 (get_all f 0 count)) o) 0 count ≡ get_all f 0 count =
    subst (λ (n : ℕ). get_all (cell_at begins (write_all marks ws o 0 (get_all f 0 count)) o) 0 n ≡ get_all f 0 count) long (written begins marks ws o 0 (get_all f 0 count) (omega arith) (omega (arith, long, small))) in
    let at : 0 + d ≡ d = omega arith in
    subst (λ (e : ℕ). cell_at begins (write_all marks ws o 0 (get_all f 0 count)) o e ≡ f e) at
    (same_entries (cell_at begins (write_all marks ws o 0 (get_all f 0 count)) o) f 0 count d (omega (arith, small)) read hd)

-- what was written to an object that there is stays one of those
written_known : (marks : ℕ → Bool) (ws : List Written) (o d count : ℕ) (cs : List Cell) → o < count → AreOfObjects count ws → AreOfObjects count (write_all marks ws o d cs)
written_known marks ws o d count [] h all = all
written_known marks ws o d count (c ∷ cs) h all =
    written_known marks (record { object = o; offset = d; cell = c; stored = marks d } ∷ ws) o (next d) count cs h (All-cons (λ w. w.object < count) (record { object = o; offset = d; cell = c; stored = marks d }) ws h all)

-- ---- the objects after a move

abbrev pub moved_new : (zeroed : Bool) → (size site : ℕ) → obj.Object
moved_new zeroed size site = new_object size least_alignment site zeroed

abbrev pub moved_objects : List obj.Object → (zeroed : Bool) → (size site o : ℕ) → List obj.Object
moved_objects objects zeroed size site o = with_free (objects ++ moved_new zeroed size site ∷ []) o (record { clock = length (objects ++ moved_new zeroed size site ∷ []); site = site })

abbrev pub moved_written : List obj.Object → List Written → (zeroed : Bool) → (size site o : ℕ) → List Written
moved_written objects ws zeroed size site o =
    write_all (is_stored ws o) ws (length objects) 0 (get_all (cell_at (begins_in (objects ++ moved_new zeroed size site ∷ [])) ws o) 0 (min (size_in objects o) size))

moved_match : MoveFacts → (rules : Rules) (h k : History) (objects : List obj.Object) (size site slot : ℕ) (w : Owner) → ObjectsMatch h objects
    → k.objects ≡ with_freed rules site w (with_new h.objects (placed_object (request rules usual size site) slot)) → ObjectsMatch k (moved_objects objects rules.zero size site w.number)
moved_match facts rules h k objects size site slot w m e =
    let new : Object = placed_object (request rules usual size site) slot in
    let mid : History = record h { objects = with_new h.objects new } in
    let one : ObjectsMatch mid (objects ++ moved_new rules.zero size site ∷ []) = new_objects_match facts.adds facts.more h objects m rules usual size site slot rules.zero in
    freed_matches facts.changes mid k (objects ++ moved_new rules.zero size site ∷ []) (deferral_of rules w.object site) site w.number one e

-- what objects began with
begins_old : (objects : List obj.Object) (zeroed : Bool) (size site o n : ℕ) → n < length objects → begins_in (moved_objects objects zeroed size site o) n ≡ begins_in objects n
begins_old objects zeroed size site o n h =
    begins_stay (objects ++ moved_new zeroed size site ∷ []) o n (record { clock = length (objects ++ moved_new zeroed size site ∷ []); site = site })
    ∙ ap (λ (x : obj.Object). x.begins) (get_or_append_left objects (moved_new zeroed size site ∷ []) no_object n h)

begins_new : (objects : List obj.Object) (zeroed : Bool) (size site o : ℕ) → begins_in (moved_objects objects zeroed size site o) (length objects) ≡ cond zeroed (Byte 0) Unset
begins_new objects zeroed size site o =
    begins_stay (objects ++ moved_new zeroed size site ∷ []) o (length objects) (record { clock = length (objects ++ moved_new zeroed size site ∷ []); site = site })
    ∙ ap (λ (x : obj.Object). x.begins) (get_or_push objects (moved_new zeroed size site) no_object (length objects) refl)

-- ---- the old object and the new one

-- the object that is moved owns its address
pub record MovesFrom (h : History) (o x : ℕ) : Type 0 where
  pub object : Object
  pub is : slice_get h.objects o ≡ Some object
  pub owned : object.state ≡ Owned
  pub here : x ≡ address_of object
  pub owner : owner_of h.objects x ≡ Some (record { number = o; object = object })
  pub low : heap_from ≤ object.slot
  pub high : object.slot + 2 ^ object.class ≤ end_of (slots_of h)
  pub fits : object.front + object.size ≤ 2 ^ object.class
  pub top : end_of (slots_of h) < 2 ^ 31

moves_from : MoveFacts → (h : History) (objects : List obj.Object) → IsLawful h → ObjectsMatch h objects → (o x : ℕ) → IsPlace (layout_of h) o 0 x → (object_at objects o).freed ≡ None → MovesFrom h o x
moves_from facts h objects l m o x is free =
    let f = pointed facts.laid h l o is.known in
    let lies = facts.within h o l f.object f.is in
    record {
      object = f.object;
      is = f.is;
      owned = subst (FreeMatches (clock_of h) f.object) free (m.each o f.object f.is).free;
      here = omega (arith, is.is, f.address, f.low);
      owner = owned_at facts.laid facts.owners h objects l m o x is free f;
      low = lies.low;
      high = lies.high;
      fits = omega (arith, lies.fits);
      top = omega (arith, (facts.laid h l).top_below);
    }

-- each offset below its size lies in its slot
record LiesIn (h : History) (o x d : ℕ) : Type 0 where
  place : place (layout_of h) o d ≡ x + d
  inside : IsIn (layout_of h) o (x + d)
  above : 2 ^ 30 ≤ x + d
  below : x + d < end_of (slots_of h)

lies_in : (h : History) (o x d : ℕ) (f : MovesFrom h o x) → d < f.object.size → LiesIn h o x d
lies_in h o x d f hd =
    let at : (layout_of h).at o ≡ x = ap (of_object address_of 0) f.is ∙ sym f.here in
    let slot : (layout_of h).slot o ≡ f.object.slot = ap (of_object slot_of 0) f.is in
    let span : (layout_of h).span o ≡ 2 ^ f.object.class = ap (of_object (λ (p : Object). 2 ^ p.class) 0) f.is in
    record {
      place = omega (arith, at, f.here, f.high, f.fits, f.top, hd);
      inside = record {
        known = known h.objects o f.object f.is;
        held = ap (of_object holds_slot false) f.is ∙ ap is_held f.owned;
        from = omega (arith, slot, f.here);
        to = omega (arith, slot, span, f.here, f.fits, hd);
      };
      above = omega (arith, f.low, f.here);
      below = omega (arith, f.here, f.high, f.fits, hd);
    }

-- the new object has the number of objects before, and its address is the answer
pub record MovesTo (h : History) (n answer : ℕ) : Type 0 where
  pub known : (layout_of h).count ≡ n + 1
  pub at : (layout_of h).at n ≡ answer
  pub low : answer < 2 ^ 31

moves_to : MoveFacts → (rules : Rules) (h k : History) (size site slot : ℕ) (w : Owner) → w.number < length h.objects → IsLawful k
    → k.objects ≡ with_freed rules site w (with_new h.objects (placed_object (request rules usual size site) slot)) → MovesTo k (length h.objects) (slot + (request rules usual size site).front)
moves_to facts rules h k size site slot w small l e =
    let n : ℕ = length h.objects in
    let new : Object = placed_object (request rules usual size site) slot in
    let f : Object → Object = freed_object (length (with_new h.objects new)) (deferral_of rules w.object site) site in
    let count : length k.objects ≡ n + 1 = ap length e ∙ facts.changes.count f w.number (with_new h.objects new) ∙ facts.more new h.objects in
    let there : slice_get k.objects n ≡ Some new =
    ap (λ (os : List Object). slice_get os n) e ∙ facts.changes.change f w.number n (with_new h.objects new)
    ∙ ap (λ (b : Bool). cond b (option_map f (slice_get (with_new h.objects new) n)) (slice_get (with_new h.objects new) n)) (ne_eqb n w.number (λ q. omega (arith, q, small)))
    ∙ facts.adds new n h.objects ∙ ap (λ (b : Bool). cond b (Some new) (option_map (released_object (n + 1)) (slice_get h.objects n))) (eq-eqb n n refl) in
    let at : (layout_of k).at n ≡ slot + (request rules usual size site).front = ap (of_object address_of 0) there in
    record { known = count; at = at; low = omega (arith, at, (facts.laid k l).aligned.below n (omega (arith, count))) }

-- ---- bytes

-- What is copied stands at the answer, and the rest of the new slot is zero where objects begin so.
pub record Copies (h : History) (zeroed : Bool) (old new : ℕ → ℕ) (n x answer count : ℕ) : Type 0 where
  pub copied : (d : ℕ) → d < count → new (answer + d) ≡ old (x + d)
  pub fresh : (a : ℕ) → IsIn (layout_of h) n a → (answer ≤ a → a < answer + count → ⊥) → zeroed ≡ true → new a ≡ 0

copies : MoveFacts → (p : Mapping) (s : InfState) (g : Guest) → StatesAgree p s g → (o x size site answer : ℕ) (f : MovesFrom g.history o x) → size ≤ size_limit
    → (realloc g.rules x size site (heap_of g)).answer ≡ Ok answer
    → Copies (realloc g.rules x size site (heap_of g)).state.history g.rules.zero (bytes_in g.core.memory) (bytes_in (realloc g.rules x size site (heap_of g)).state.memory) (length g.history.objects) x answer (min f.object.size size)
copies facts p s g a o x size site answer f small ok =
    let rules : Rules = g.rules in
    let t : HeapState = (realloc rules x size site (heap_of g)).state in
    let w : Owner = record { number = o; object = f.object } in
    let some : nat_eq x 0 ≡ false = ne_eqb x 0 (λ e. omega (arith, e, f.here, f.low)) in
    let mapped : (d : ℕ) → d < min f.object.size size → is_some (g.core.memory.bytes (x + d)) ≡ true = λ d hd.
    let i = lies_in g.history o x d f (omega (arith, hd)) in
    let inside : in_region (x + d) ≡ true = region_true (x + d) i.above (omega (arith, i.below, f.top)) in
    a.state.maps.heap_mapped (x + d) inside ∙ lt-ltb (x + d) (end_of (slots_of g.history)) i.below in
    record {
      copied = λ d hd.
          let one = facts.copies rules x size site (heap_of g) w a.mapped.lawful some f.owner small mapped answer d ok (omega (arith, hd)) in
          ap (λ (b : Option ℕ). unwrap_or b 0) (one ∙ ap (λ (b : Bool). cond b (g.core.memory.bytes (x + d)) (Some (new_byte rules.zero (heap_of g) (answer + d)))) (lt-ltb d f.object.size (omega (arith, hd))));
      fresh = λ y i away zeroed.
          let one = facts.fresh rules x size site (heap_of g) w a.mapped.lawful some f.owner answer y ok (in_holds t.history (length g.history.objects) y i) away in
          ap (λ (b : Option ℕ). unwrap_or b 0) one ∙ ap (λ (b : Bool). new_byte b (heap_of g) y) zeroed;
    }

-- ---- cells

later_cell : ValuesStay → (l m : Layout) → IsLater l m → (c : Cell) (b : ℕ) → b < 256 → CellStands l c b → CellStands m c b
later_cell values l m later c b small k =
    let byte : byte 0 b ≡ b = omega (arith, small) in
    let v : Stands m (Mix c Unset Unset Unset) b = values l m later (Mix c Unset Unset Unset) b (subst (CellStands l c) (sym byte) k, tt, tt, tt) in
    subst (CellStands m c) byte v.0

unset_stands : (m : Layout) (zeroed : Bool) (b : ℕ) → (zeroed ≡ true → b ≡ 0) → CellStands m (cond zeroed (Byte 0) Unset) b
unset_stands m true b h = h refl
unset_stands m false b h = tt

-- the cells of the old objects stay
moved_cells : MoveFacts → (objects : List obj.Object) (ws : List Written) (zeroed : Bool) (size site o q d : ℕ) → q < length objects
    → cell_at (begins_in (moved_objects objects zeroed size site o)) (moved_written objects ws zeroed size site o) q d ≡ cell_at (begins_in objects) ws q d
moved_cells facts objects ws zeroed size site o q d h =
    facts.others (begins_in (moved_objects objects zeroed size site o)) (is_stored ws o) ws (length objects) 0 (get_all (cell_at (begins_in (objects ++ moved_new zeroed size site ∷ [])) ws o) 0 (min (size_in objects o) size)) (omega arith) q d
    (λ j hj same at. omega (arith, same, h))
    ∙ cells_same (begins_in (moved_objects objects zeroed size site o)) (begins_in objects) ws q d (begins_old objects zeroed size site o q h)

-- those of the new one are the old one's below both sizes
moved_below : MoveFacts → (objects : List obj.Object) (ws : List Written) (zeroed : Bool) (size site o d : ℕ) → size ≤ size_limit → o < length objects → d < min (size_in objects o) size
    → cell_at (begins_in (moved_objects objects zeroed size site o)) (moved_written objects ws zeroed size site o) (length objects) d ≡ cell_at (begins_in objects) ws o d
moved_below facts objects ws zeroed size site o d small known hd =
    copied_cell facts.written (begins_in (moved_objects objects zeroed size site o)) (is_stored ws o) ws (length objects) (min (size_in objects o) size) d (cell_at (begins_in (objects ++ moved_new zeroed size site ∷ [])) ws o) (omega (arith, small)) hd
    ∙ cells_same (begins_in (objects ++ moved_new zeroed size site ∷ [])) (begins_in objects) ws o d (ap (λ (x : obj.Object). x.begins) (get_or_append_left objects (moved_new zeroed size site ∷ []) no_object o known))

-- and the others are as a new object's
moved_above : MoveFacts → (objects : List obj.Object) (ws : List Written) (zeroed : Bool) (size site o d : ℕ) → size ≤ size_limit → AreOfObjects (length objects) ws → min (size_in objects o) size ≤ d
    → cell_at (begins_in (moved_objects objects zeroed size site o)) (moved_written objects ws zeroed size site o) (length objects) d ≡ cond zeroed (Byte 0) Unset
moved_above facts objects ws zeroed size site o d small all hd =
    let f : ℕ → Cell = cell_at (begins_in (objects ++ moved_new zeroed size site ∷ [])) ws o in
    let count : ℕ = min (size_in objects o) size in
    let long : length (get_all f 0 count) ≡ count = length-all f 0 count in
    facts.others (begins_in (moved_objects objects zeroed size site o)) (is_stored ws o) ws (length objects) 0 (get_all f 0 count) (omega arith) (length objects) d
    (λ j hj same at. omega (arith, hj, long, small, hd, at))
    ∙ unwritten (begins_in (moved_objects objects zeroed size site o)) ws (length objects) (length objects) d all (omega arith)
    ∙ begins_new objects zeroed size site o

-- ---- the call

-- how realloc ends, by three tests
realloc_ends : MoveFacts → (rules : Rules) (x size site : ℕ) (s : HeapState) → IsLawful s.history → (b c : Bool) (w : Option Owner) → nat_eq x 0 ≡ b → nat_lt size_limit size ≡ c → owner_of s.history.objects x ≡ w
    → ReallocEndsBy b c rules site w (request rules usual size site) s (realloc rules x size site s)
realloc_ends facts rules x size site s l b c w eb ec ew =
    let r = request rules usual size site in
    let outcome : Outcome = realloc rules x size site s in
    subst (λ (b : Bool). ReallocEndsBy b c rules site w r s outcome) eb
    (subst (λ (c : Bool). ReallocEndsBy (nat_eq x 0) c rules site w r s outcome) ec
    (subst (λ (w : Option Owner). ReallocEndsBy (nat_eq x 0) (nat_lt size_limit size) rules site w r s outcome) ew (facts.ends rules x size site s l)))

-- what is refused changes nothing
refused_matches : MoveFacts → (p : Mapping) (s : InfState) (g : Guest) (back x size : ℕ) → StatesAgree p s g → back < 2 ^ 32 → LeavesObjects (heap_of g) (realloc g.rules x size (site_of g.core.calls) (heap_of g))
    → CallMatches (layout_of g.history) p s (inf.Goes (inf_back_with s back (Num 0)) []) (answers g back (realloc g.rules x size (site_of g.core.calls) (heap_of g)))
refused_matches facts p s g back x size a low k =
    let outcome : Outcome = realloc g.rules x size (site_of g.core.calls) (heap_of g) in
    let t : HeapState = outcome.state in
    let keeps = call_keeps (λ s. (realloc g.rules x size (site_of g.core.calls) s).state) (facts.calls g.rules x size (site_of g.core.calls)) (heap_of g) a.mapped.lawful a.dues in
    subst (λ (r : Result ℕ HeapRefusal). CallMatches (layout_of g.history) p s (inf.Goes (inf_back_with s back (Num 0)) []) (answered g back t r)) (sym k.answer)
    (λ u. (returns_with p s (with_heap g t) (unchanged_agrees facts.placed p s g a t keeps k.objects) back low (Num 0) 0 refl (omega arith), refl))

-- the cells of the new object stand for its bytes
new_stands : MoveFacts → (p : Mapping) (s : InfState) (g : Guest) → StatesAgree p s g → (t : HeapState) (o x size site answer : ℕ) (f : MovesFrom g.history o x) → size ≤ size_limit → IsLater (layout_of g.history) (layout_of t.history)
    → MovesTo t.history (length g.history.objects) answer → Copies t.history g.rules.zero (bytes_in g.core.memory) (bytes_in t.memory) (length g.history.objects) x answer (min f.object.size size)
    → (d : ℕ) → d < 2 ^ 32 → IsIn (layout_of t.history) (length g.history.objects) (place (layout_of t.history) (length g.history.objects) d)
    → CellStands (layout_of t.history) (cell_at (begins_in (moved_objects s.objects g.rules.zero size site o)) (moved_written s.objects s.written g.rules.zero size site o) (length s.objects) d) (bytes_in t.memory (place (layout_of t.history) (length g.history.objects) d))
new_stands facts p s g a t o x size site answer f small later to c d hd i = at (cases_lt d count)
  where
    l : Layout
    l = layout_of g.history

    m : Layout
    m = layout_of t.history

    n : ℕ
    n = length g.history.objects

    count : ℕ
    count = min (size_in s.objects o) size

    same : f.object.size ≡ size_in s.objects o
    same = (a.objects.each o f.object f.is).size

    at : (d < count) ⊎ (count ≤ d) → CellStands m (cell_at (begins_in (moved_objects s.objects g.rules.zero size site o)) (moved_written s.objects s.written g.rules.zero size site o) (length s.objects) d) (bytes_in t.memory (place m n d))
    at (inl h) =
        let below : o < length s.objects = omega (arith, known g.history.objects o f.object f.is, a.objects.count) in
        let old = lies_in g.history o x d f (omega (arith, h, same)) in
        let here : place m n d ≡ answer + d = omega (arith, to.at, to.low, h, small) in
        let byte : bytes_in t.memory (place m n d) ≡ bytes_in g.core.memory (place l o d) = ap (bytes_in t.memory) here ∙ c.copied d (omega (arith, h, same)) ∙ ap (bytes_in g.core.memory) (sym old.place) in
        let stands : CellStands l (cell_at (begins_in s.objects) s.written o d) (bytes_in g.core.memory (place l o d)) = a.state.memory.heap o d hd (subst (IsIn l o) (sym old.place) old.inside) in
        let cell = moved_below facts s.objects s.written g.rules.zero size site o d small below h in
        subst (λ (b : ℕ). CellStands m (cell_at (begins_in (moved_objects s.objects g.rules.zero size site o)) (moved_written s.objects s.written g.rules.zero size site o) (length s.objects) d) b) (sym byte)
        (subst (λ (b : Cell). CellStands m b (bytes_in g.core.memory (place l o d))) (sym cell)
        (later_cell facts.placed.values l m later (cell_at (begins_in s.objects) s.written o d) (bytes_in g.core.memory (place l o d)) (a.state.memory.fits (place l o d)) stands))
    at (inr h) =
        let cell = moved_above facts s.objects s.written g.rules.zero size site o d small a.written h in
        subst (λ (b : Cell). CellStands m b (bytes_in t.memory (place m n d))) (sym cell)
        (unset_stands m g.rules.zero (bytes_in t.memory (place m n d)) (λ z. c.fresh (place m n d) i (λ lo hi. omega (arith, lo, hi, to.at, to.low, h, hd, same)) z))

-- an object is moved on both heaps
moved_matches : MoveFacts → (p : Mapping) (s : InfState) (g : Guest) (back : ℕ) → StatesAgree p s g → back < 2 ^ 32 → (o x size answer : ℕ) (f : MovesFrom g.history o x) → size ≤ size_limit
    → (realloc g.rules x size (site_of g.core.calls) (heap_of g)).answer ≡ Ok answer
    → Replaces g.rules (site_of g.core.calls) (record { number = o; object = f.object }) (request g.rules usual size (site_of g.core.calls)) (heap_of g) (realloc g.rules x size (site_of g.core.calls) (heap_of g)).state answer
    → StatesAgree p (inf_back_with (with_moved s g.rules.zero o size) back (Ptr (length s.objects) 0)) (with_core (with_heap g (realloc g.rules x size (site_of g.core.calls) (heap_of g)).state) (back_with back answer (with_heap g (realloc g.rules x size (site_of g.core.calls) (heap_of g)).state).core))
moved_matches facts p s g back a low o x size answer f small ok k =
    let rules : Rules = g.rules in
    let site : ℕ = site_of g.core.calls in
    let t : HeapState = (realloc rules x size site (heap_of g)).state in
    let n : ℕ = length g.history.objects in
    let w : Owner = record { number = o; object = f.object } in
    let below : o < n = known g.history.objects o f.object f.is in
    let keeps = call_keeps (λ s. (realloc rules x size site s).state) (facts.calls rules x size site) (heap_of g) a.mapped.lawful a.dues in
    let to : MovesTo t.history n answer =
    subst (MovesTo t.history n) (sym k.address) (moves_to facts rules g.history t.history size site k.slot w below keeps.lawful k.objects) in
    let match : ObjectsMatch t.history (moved_objects s.objects rules.zero size (site_of s.calls) o) =
    subst (λ (calls : List ℕ). ObjectsMatch t.history (moved_objects s.objects rules.zero size (site_of calls) o)) (sym a.state.calls)
    (moved_match facts rules g.history t.history s.objects size site k.slot w a.objects k.objects) in
    let c = copies facts p s g a o x size site answer f small ok in
    let later = is_later g.history t.history keeps.last in
    let same : n ≡ length s.objects = a.objects.count in
    let count : length (moved_objects s.objects rules.zero size (site_of s.calls) o) ≡ length s.objects + 1 = omega (arith, match.count, to.known, same) in
    let pointer : IsPlace (layout_of t.history) (length s.objects) 0 answer = record { known = omega (arith, to.known, same); fits = omega arith; is = omega (arith, to.low, ap (layout_of t.history).at same, to.at) } in
    returns_with p (with_moved s rules.zero o size) (with_heap g t)
    (heap_agrees facts.placed p s g a t keeps (moved_objects s.objects rules.zero size (site_of s.calls) o) (moved_written s.objects s.written rules.zero size (site_of s.calls) o) match
    (record { flat = λ y. refl; heap = λ q d e hd. moved_cells facts s.objects s.written rules.zero size (site_of s.calls) o q d (omega (arith, e, same)) })
    (λ q d e hd i.
    let only : n ≡ q = omega (arith, e, i.known, to.known) in
    let here : IsIn (layout_of t.history) n (place (layout_of t.history) n d) = subst (λ (q : ℕ). IsIn (layout_of t.history) q (place (layout_of t.history) q d)) (sym only) i in
    let one = new_stands facts p s g a t o x size (site_of s.calls) answer f small later to c d hd here in
    subst (λ (q : ℕ). CellStands (layout_of t.history) (cell_at (begins_in (moved_objects s.objects rules.zero size (site_of s.calls) o)) (moved_written s.objects s.written rules.zero size (site_of s.calls) o) q d) (bytes_in t.memory (place (layout_of t.history) q d))) only
    (subst (λ (q : ℕ). CellStands (layout_of t.history) (cell_at (begins_in (moved_objects s.objects rules.zero size (site_of s.calls) o)) (moved_written s.objects s.written rules.zero size (site_of s.calls) o) q d) (bytes_in t.memory (place (layout_of t.history) n d))) (sym same) one))
    (subst (λ (m : ℕ). AreOfObjects m (moved_written s.objects s.written rules.zero size (site_of s.calls) o)) (sym count)
    (written_known (is_stored s.written o) s.written (length s.objects) 0 (length s.objects + 1) (get_all (cell_at (begins_in (s.objects ++ moved_new rules.zero size (site_of s.calls) ∷ [])) s.written o) 0 (min (size_in s.objects o) size)) (omega arith)
    (of_more_objects (length s.objects) (length s.objects + 1) s.written (omega arith) a.written))))
    back low (Ptr (length s.objects) 0) answer pointer (omega (arith, to.low))

resize_matches : MoveFacts → (p : Mapping) (s : InfState) (g : Guest) (back : ℕ) → StatesAgree p s g → back < 2 ^ 32 → (o x size : ℕ) → MovesFrom g.history o x
    → CallMatches (layout_of g.history) p s (inf_resize s g.rules.zero back o (Num size)) (answers g back (realloc g.rules x size (site_of g.core.calls) (heap_of g)))
resize_matches facts p s g back a low o x size f =
    two_ways (nat_lt most_allocated size) (λ b. CallMatches (layout_of g.history) p s (cond b (inf.Goes (inf_back_with s back (Num 0)) []) (inf.Goes (inf_back_with (with_moved s g.rules.zero o size) back (Ptr (length s.objects) 0)) [])) (answers g back outcome))
    (λ e. refused_matches facts p s g back x size a low (ends true e))
    (λ e. at (ltb-false most_allocated size e) outcome.answer refl (ends false e))
  where
    outcome : Outcome
    outcome = realloc g.rules x size (site_of g.core.calls) (heap_of g)

    w : Owner
    w = record { number = o; object = f.object }

    ends : (b : Bool) → nat_lt most_allocated size ≡ b → ReallocEndsBy false b g.rules (site_of g.core.calls) (Some w) (request g.rules usual size (site_of g.core.calls)) (heap_of g) outcome
    ends b e = realloc_ends facts g.rules x size (site_of g.core.calls) (heap_of g) a.mapped.lawful false b (Some w) (ne_eqb x 0 (λ q. omega (arith, q, f.here, f.low))) e f.owner

    at : size ≤ size_limit → (q : Result ℕ HeapRefusal) → outcome.answer ≡ q → ReplaceEnds g.rules (site_of g.core.calls) w (request g.rules usual size (site_of g.core.calls)) (heap_of g) outcome.state q
        → CallMatches (layout_of g.history) p s (inf.Goes (inf_back_with (with_moved s g.rules.zero o size) back (Ptr (length s.objects) 0)) []) (answered g back outcome.state q)
    at small (Ok answer) ok k = λ u. (moved_matches facts p s g back a low o x size answer f small ok k, refl)
    at small (Err (Room used wanted)) ok k = tt
    at small (Err NoMemory) ok k = absurd k

realloc_value : MoveFacts → (p : Mapping) (s : InfState) (g : Guest) (back : ℕ) → StatesAgree p s g → back < 2 ^ 32 → (o x : ℕ) → MovesFrom g.history o x → (v : Value) (y : ℕ) → Stands (layout_of g.history) v y
    → CallMatches (layout_of g.history) p s (inf_resize s g.rules.zero back o v) (answers g back (realloc g.rules x y (site_of g.core.calls) (heap_of g)))
realloc_value facts p s g back a low o x f (Num n) y stands =
    subst (λ (y : ℕ). CallMatches (layout_of g.history) p s (inf_resize s g.rules.zero back o (Num n)) (answers g back (realloc g.rules x y (site_of g.core.calls) (heap_of g)))) (sym stands) (resize_matches facts p s g back a low o x n f)
realloc_value facts p s g back a low o x f (Ptr q d) y stands = tt
realloc_value facts p s g back a low o x f (Mix b c d e) y stands = tt
realloc_value facts p s g back a low o x f (Low b) y stands = tt

realloc_object : MoveFacts → (p : Mapping) (s : InfState) (g : Guest) (back : ℕ) → StatesAgree p s g → back < 2 ^ 32 → (o x : ℕ) → IsPlace (layout_of g.history) o 0 x → (v : Value) (y : ℕ) → Stands (layout_of g.history) v y
    → (freed : Option Freed) → (object_at s.objects o).freed ≡ freed
    → CallMatches (layout_of g.history) p s (inf_realloc_object s g.rules.zero back o v freed) (answers g back (realloc g.rules x y (site_of g.core.calls) (heap_of g)))
realloc_object facts p s g back a low o x is v y stands None e = realloc_value facts p s g back a low o x (moves_from facts g.history s.objects a.mapped.lawful a.objects o x is e) v y stands
realloc_object facts p s g back a low o x is v y stands (Some freed) e = tt

none_is_malloc : (rules : Rules) (size site : ℕ) (s : HeapState) → realloc rules 0 size site s ≡ malloc rules size site s
unfolding realloc malloc
none_is_malloc rules size site s = refl

-- malloc of any value matches
abbrev pub MallocMatches : Type 0
MallocMatches =
    (p : Mapping) (s : InfState) (g : Guest) (back : ℕ) → StatesAgree p s g → back < 2 ^ 32 → (v : Value) (y : ℕ) → Stands (layout_of g.history) v y
    → CallMatches (layout_of g.history) p s (inf_malloc s g.rules.zero back v) (answers g back (malloc g.rules y (site_of g.core.calls) (heap_of g)))

-- so does realloc of any two
pub realloc_matches : MoveFacts → MallocMatches → (p : Mapping) (s : InfState) (g : Guest) (back : ℕ) → StatesAgree p s g → back < 2 ^ 32 → (v : Value) (x : ℕ) → Stands (layout_of g.history) v x → (u : Value) (y : ℕ) → Stands (layout_of g.history) u y
    → CallMatches (layout_of g.history) p s (inf_realloc s g.rules.zero back v u) (answers g back (realloc g.rules x y (site_of g.core.calls) (heap_of g)))
realloc_matches facts malloc_matches p s g back a low (Num n) x stands u y other =
    two_ways (nat_eq n 0) (λ b. CallMatches (layout_of g.history) p s (cond b (inf_malloc s g.rules.zero back u) (inf.Blurs why.Realloc [])) (answers g back (realloc g.rules x y (site_of g.core.calls) (heap_of g))))
    (λ e. let zero : 0 ≡ x = sym (stands ∙ eqb-true n 0 e) in
    subst (λ (x : ℕ). CallMatches (layout_of g.history) p s (inf_malloc s g.rules.zero back u) (answers g back (realloc g.rules x y (site_of g.core.calls) (heap_of g)))) zero
    (subst (λ (o : Outcome). CallMatches (layout_of g.history) p s (inf_malloc s g.rules.zero back u) (answers g back o)) (sym (none_is_malloc g.rules y (site_of g.core.calls) (heap_of g))) (malloc_matches p s g back a low u y other)))
    (λ e. tt)
realloc_matches facts malloc_matches p s g back a low (Ptr o d) x stands u y other =
    two_ways (nat_eq d 0) (λ b. CallMatches (layout_of g.history) p s (cond b (inf_realloc_object s g.rules.zero back o u (object_at s.objects o).freed) (inf.Blurs why.Realloc [])) (answers g back (realloc g.rules x y (site_of g.core.calls) (heap_of g))))
    (λ e. realloc_object facts p s g back a low o x (subst (λ (d : ℕ). IsPlace (layout_of g.history) o d x) (eqb-true d 0 e) stands) u y other (object_at s.objects o).freed refl)
    (λ e. tt)
realloc_matches facts malloc_matches p s g back a low (Mix b c d e) x stands u y other = tt
realloc_matches facts malloc_matches p s g back a low (Low b) x stands u y other = tt
