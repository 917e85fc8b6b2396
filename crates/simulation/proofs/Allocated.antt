-- malloc, calloc and memalign on both machines.
use Rattle.std.proofs.Common.{◌≡◌, ℕ, ◌+◌, ◌*◌, ◌^◌, ◌<◌, refl, ap, sym, ◌∙◌, subst, Bool, true, false, cond, not, ◌||◌, arith, nat_lt, max, List, [], ◌∷◌, ◌++◌, length, Option, Some, Result, Ok, Err}
use Rattle.std.specs.Prelude.{slice_get, unwrap_or}
use Rattle.std.specs.Option.{option_map}
use Rattle.std.proofs.lemmas.Bool.{eq-eqb}
use Rattle.std.proofs.lemmas.List.{length-append}
use Rattle.infinite_heap.specs.declared.value.Cell.{Cell}
use Rattle.infinite_heap.specs.declared.value.Cell.TheVariants.{Byte, Unset}
use Rattle.infinite_heap.specs.declared.value.Value.{Value}
use Rattle.infinite_heap.specs.declared.value.Value.TheVariants.{Num, Ptr}
use Rattle.infinite_heap.specs.CallSite.{site_of}
use Rattle.infinite_heap.specs.InfiniteHeap.{inf_back_with, with_object, inf_allocate, inf_malloc, inf_calloc, inf_memalign}
use Rattle.infinite_heap.specs.InfiniteState as inf
use Rattle.infinite_heap.specs.InfiniteState.{InfState, InfStep, Goes, cells_of_state}
use Rattle.infinite_heap.specs.Layout.{Layout, CellStands, IsIn, IsPlace, Stands, place}
use Rattle.infinite_heap.specs.Mapped.{Mapping}
use Rattle.infinite_heap.specs.Memory.{cell_at}
use Rattle.infinite_heap.specs.Objects as object
use Rattle.infinite_heap.specs.Objects.{begins_in}
use Rattle.infinite_heap.specs.Region.{least_alignment}
use Rattle.exact_heap.specs.declared.signal.HeapRefusal.{HeapRefusal}
use Rattle.exact_heap.specs.declared.signal.HeapRefusal.TheVariants.{Room, Memory as NoMemory}
use Rattle.exact_heap.specs.Calls.{size_limit, usual, is_alignment, malloc, memalign, calloc}
use Rattle.exact_heap.specs.Held.{new_byte}
use Rattle.exact_heap.specs.History.{Object, address_of}
use Rattle.exact_heap.specs.Laws.{HoldsAt, ObjectsLieWithin}
use Rattle.exact_heap.specs.NewSlots.{GivesNewSlot, MallocGivesNewSlot, MemalignGivesNewSlot, CallocGivesNewSlot}
use Rattle.exact_heap.specs.ObjectsAfter.{with_new, AddsOne, CountsOneMore, PlacesNew, PlaceEnds, AllocationEnds, MallocEnds, MemalignEnds, CallocEnds}
use Rattle.exact_heap.specs.Placing.{HeapState, Rules, Outcome, request, new_object, released_object}
use Rattle.rv_machine.specs.Guest.{Guest, with_core, heap_of, with_heap}
use Rattle.rv_machine.specs.HeapCalls.{back_with, answered, answers}
use Rattle.rv_machine.specs.Matches.{bytes_in}
use Rattle.rv_machine.specs.Objects.{of_object, layout_of, ObjectsMatch}
use Rattle.simulation.specs.Agreement.{AlignmentsAreOne, StatesAgree}
use Rattle.simulation.specs.Calls.{CallMatches}
use Rattle.simulation.proofs.Laid.{in_holds}
use Rattle.simulation.proofs.Placed.{CallFacts, CallKeeps, call_keeps, PlacedFacts, heap_agrees, unchanged_agrees, returns_with, same_objects, new_objects_match, last_object, older_object, unwritten, cells_same, of_more_objects}

pub record AllocationFacts : Type 0 where
  pub placed : PlacedFacts
  pub within : ObjectsLieWithin
  pub new : AddsOne
  pub new_count : CountsOneMore

-- ---- one more object

-- A call has placed an object of that alignment and size at the caller's site. It is the last one, and each byte of its slot is a new object's.
module _ (facts : AllocationFacts) (p : Mapping) (s : InfState) (g : Guest) (agree : StatesAgree p s g) (after : HeapState) (keeps : CallKeeps (heap_of g) after) (rules : Rules) (align size : ℕ) (zeroed : Bool) (answer : ℕ)
    (new : PlacesNew (request rules align size (site_of s.calls)) (heap_of g) after answer) (bytes : GivesNewSlot zeroed (heap_of g) after) where
  abbrev it : Object
  it = new_object (request rules align size (site_of s.calls)) new.slot

  abbrev pub later_objects : List object.Object
  later_objects = s.objects ++ object.new_object size align (site_of s.calls) zeroed ∷ []

  abbrev l : Layout
  l = layout_of g.history

  abbrev m : Layout
  m = layout_of after.history

  abbrev count : ℕ
  count = length g.history.objects

  counts : length after.history.objects ≡ count + 1
  counts = ap length new.objects ∙ facts.new_count it g.history.objects

  found : slice_get after.history.objects count ≡ Some it
  found =
      ap (λ (os : List Object). slice_get os count) new.objects ∙ facts.new it count g.history.objects
      ∙ ap (λ (b : Bool). cond b (Some it) (option_map (released_object (count + 1)) (slice_get g.history.objects count))) (eq-eqb count count refl)

  objects_match : ObjectsMatch after.history later_objects
  objects_match =
      same_objects (record g.history { objects = with_new g.history.objects it }) after.history later_objects new.objects
      (new_objects_match facts.new facts.new_count g.history s.objects agree.objects rules align size (site_of s.calls) new.slot zeroed)

  -- what it begins with stands for the bytes of its slot
  begins_stand : (z : Bool) (x : ℕ) → after.memory.bytes x ≡ Some (new_byte z (heap_of g) x) → CellStands m (cond z (Byte 0) Unset) (bytes_in after.memory x)
  begins_stand true x e = ap (λ (b : Option ℕ). unwrap_or b 0) e
  begins_stand false x e = tt

  new_stands : (o d : ℕ) → o ≡ count → IsIn m o (place m o d) → CellStands m (cell_at (begins_in later_objects) s.written o d) (bytes_in after.memory (place m o d))
  new_stands o d last i =
      let cell : cell_at (begins_in later_objects) s.written o d ≡ cond zeroed (Byte 0) Unset =
      unwritten (begins_in later_objects) s.written (length s.objects) o d agree.written (omega (arith, last, agree.objects.count))
      ∙ ap (begins_in later_objects) (last ∙ agree.objects.count) ∙ ap (λ (x : object.Object). x.begins) (last_object s.objects (object.new_object size align (site_of s.calls) zeroed)) in
      subst (λ (c : Cell). CellStands m c (bytes_in after.memory (place m o d))) (sym cell)
      (begins_stand zeroed (place m o d) (bytes (place m o d) (subst (λ (n : ℕ). HoldsAt after.history n (place m o d)) last (in_holds after.history o (place m o d) i))))

  grown : StatesAgree p (with_object s zeroed align size) (with_heap g after)
  grown =
      heap_agrees facts.placed p s g agree after keeps later_objects s.written objects_match
      (record { flat = λ x. refl; heap = λ o d small low. cells_same (begins_in later_objects) (begins_in s.objects) s.written o d (ap (λ (x : object.Object). x.begins) (older_object s.objects (object.new_object size align (site_of s.calls) zeroed) o (omega (arith, small, agree.objects.count)))) })
      (λ o d le low i. new_stands o d (omega (arith, le, i.known, counts)) i)
      (of_more_objects (length s.objects) (length later_objects) s.written (omega (arith, length-append s.objects (object.new_object size align (site_of s.calls) zeroed ∷ []))) agree.written)

  answer_fits : answer < 2 ^ 32
  answer_fits =
      let lies = facts.within after.history count keeps.lawful it found in
      omega (arith, new.address, lies.fits, lies.high, keeps.lawful.in_order.in_limit)

  stands : IsPlace m (length s.objects) 0 answer
  stands = record {
    known = omega (arith, agree.objects.count, counts);
    fits = omega arith;
    is =
        let at : of_object address_of 0 (slice_get after.history.objects (length s.objects)) ≡ answer =
        ap (λ (n : ℕ). of_object address_of 0 (slice_get after.history.objects n)) (sym agree.objects.count) ∙ ap (of_object address_of 0) found ∙ sym new.address in
        omega (arith, at, answer_fits);
  }

  pub placed_agrees : (back : ℕ) → back < 2 ^ 32 → StatesAgree p (inf_back_with (with_object s zeroed align size) back (Ptr (inf.clock_of s) 0)) (with_core (with_heap g after) (back_with back answer (with_heap g after).core))
  placed_agrees back small = returns_with p (with_object s zeroed align size) (with_heap g after) grown back small (Ptr (inf.clock_of s) 0) answer stands answer_fits

-- ---- an allocation

-- nothing was placed, and the answer is 0
refused_agrees : AllocationFacts → (p : Mapping) (s : InfState) (g : Guest) → StatesAgree p s g → (after : HeapState) → CallKeeps (heap_of g) after → after.history.objects ≡ g.history.objects → (back : ℕ) → back < 2 ^ 32
    → StatesAgree p (inf_back_with s back (Num 0)) (with_core (with_heap g after) (back_with back 0 (with_heap g after).core))
refused_agrees facts p s g agree after keeps same back small = returns_with p s (with_heap g after) (unchanged_agrees facts.placed p s g agree after keeps same) back small (Num 0) 0 refl (omega arith)

pub allocation_matches : AllocationFacts → (p : Mapping) (s : InfState) (g : Guest) → StatesAgree p s g → (back : ℕ) → back < 2 ^ 32 → (refused : Bool) (rules : Rules) (align size : ℕ) (zeroed : Bool) (outcome : Outcome) → CallKeeps (heap_of g) outcome.state
    → AllocationEnds refused (request rules align size (site_of s.calls)) (heap_of g) outcome → GivesNewSlot zeroed (heap_of g) outcome.state
    → CallMatches (layout_of g.history) p s (cond refused (Goes (inf_back_with s back (Num 0)) []) (Goes (inf_back_with (with_object s zeroed align size) back (Ptr (inf.clock_of s) 0)) [])) (answers g back outcome)
allocation_matches facts p s g agree back small true rules align size zeroed outcome keeps ends bytes =
    subst (λ (a : Result ℕ HeapRefusal). CallMatches (layout_of g.history) p s (Goes (inf_back_with s back (Num 0)) []) (answered g back outcome.state a)) (sym ends.answer)
    (λ u. (refused_agrees facts p s g agree outcome.state keeps ends.objects back small, refl))
allocation_matches facts p s g agree back small false rules align size zeroed outcome keeps ends bytes = at outcome.answer ends
  where
    at : (a : Result ℕ HeapRefusal) → PlaceEnds (request rules align size (site_of s.calls)) (heap_of g) outcome.state a
        → CallMatches (layout_of g.history) p s (Goes (inf_back_with (with_object s zeroed align size) back (Ptr (inf.clock_of s) 0)) []) (answered g back outcome.state a)
    at (Ok answer) new = λ u. (placed_agrees facts p s g agree outcome.state keeps rules align size zeroed answer new bytes back small, refl)
    at (Err (Room used wanted)) k = tt
    at (Err NoMemory) k = tt

-- ---- the calls

pub record AllocationLaws : Type 0 where
  pub facts : AllocationFacts
  pub alignments : AlignmentsAreOne
  pub malloc : (rules : Rules) (size site : ℕ) → CallFacts (λ t. (malloc rules size site t).state)
  pub memalign : (rules : Rules) (align size site : ℕ) → CallFacts (λ t. (memalign rules align size site t).state)
  pub calloc : (rules : Rules) (count each site : ℕ) → CallFacts (λ t. (calloc rules count each site t).state)
  pub malloc_ends : MallocEnds
  pub memalign_ends : MemalignEnds
  pub calloc_ends : CallocEnds
  pub malloc_slot : MallocGivesNewSlot
  pub memalign_slot : MemalignGivesNewSlot
  pub calloc_slot : CallocGivesNewSlot

module _ (laws : AllocationLaws) (p : Mapping) (s : InfState) (g : Guest) (agree : StatesAgree p s g) (back : ℕ) (small : back < 2 ^ 32) where
  abbrev pub here : Layout
  here = layout_of g.history

  -- the site of the caller is that of both machines
  at_site : (step : InfStep) (call : (site : ℕ) → HeapState → Outcome) → CallMatches here p s step (answers g back (call (site_of s.calls) (heap_of g))) → CallMatches here p s step (answers g back (call (site_of g.core.calls) (heap_of g)))
  at_site step call k = subst (λ (c : List ℕ). CallMatches here p s step (answers g back (call (site_of c) (heap_of g)))) agree.state.calls k

  malloc_of : (size : ℕ) → CallMatches here p s (inf_allocate s g.rules.zero back least_alignment size) (answers g back (malloc g.rules size (site_of s.calls) (heap_of g)))
  malloc_of size =
      allocation_matches laws.facts p s g agree back small (nat_lt size_limit size) g.rules usual size g.rules.zero (malloc g.rules size (site_of s.calls) (heap_of g))
      (call_keeps (λ t. (malloc g.rules size (site_of s.calls) t).state) (laws.malloc g.rules size (site_of s.calls)) (heap_of g) agree.mapped.lawful agree.dues)
      (laws.malloc_ends g.rules size (site_of s.calls) (heap_of g) agree.mapped.lawful) (laws.malloc_slot g.rules size (site_of s.calls) (heap_of g) agree.mapped.lawful)

  pub malloc_matches : (v : Value) (n : ℕ) → Stands here v n → CallMatches here p s (inf_malloc s g.rules.zero back v) (answers g back (malloc g.rules n (site_of g.core.calls) (heap_of g)))
  malloc_matches (Num size) n is =
      subst (λ (x : ℕ). CallMatches here p s (inf_malloc s g.rules.zero back (Num size)) (answers g back (malloc g.rules x (site_of g.core.calls) (heap_of g)))) (sym is)
      (at_site (inf_malloc s g.rules.zero back (Num size)) (λ site t. malloc g.rules size site t) (malloc_of size))
  malloc_matches v n is = tt

  calloc_of : (count each : ℕ) → CallMatches here p s (inf_allocate s true back least_alignment (count * each)) (answers g back (calloc g.rules count each (site_of s.calls) (heap_of g)))
  calloc_of count each =
      allocation_matches laws.facts p s g agree back small (nat_lt size_limit (count * each)) g.rules usual (count * each) true (calloc g.rules count each (site_of s.calls) (heap_of g))
      (call_keeps (λ t. (calloc g.rules count each (site_of s.calls) t).state) (laws.calloc g.rules count each (site_of s.calls)) (heap_of g) agree.mapped.lawful agree.dues)
      (laws.calloc_ends g.rules count each (site_of s.calls) (heap_of g) agree.mapped.lawful) (laws.calloc_slot g.rules count each (site_of s.calls) (heap_of g) agree.mapped.lawful)

  pub calloc_matches : (v w : Value) (n k : ℕ) → Stands here v n → Stands here w k → CallMatches here p s (inf_calloc s back v w) (answers g back (calloc g.rules n k (site_of g.core.calls) (heap_of g)))
  calloc_matches (Num number) (Num each) n k is too =
      subst (λ (x : ℕ). CallMatches here p s (inf_calloc s back (Num number) (Num each)) (answers g back (calloc g.rules x k (site_of g.core.calls) (heap_of g)))) (sym is)
      (subst (λ (x : ℕ). CallMatches here p s (inf_calloc s back (Num number) (Num each)) (answers g back (calloc g.rules number x (site_of g.core.calls) (heap_of g)))) (sym too)
      (at_site (inf_calloc s back (Num number) (Num each)) (λ site t. calloc g.rules number each site t) (calloc_of number each)))
  calloc_matches (Num number) w n k is too = tt
  calloc_matches v w n k is too = tt

  memalign_of : (align size : ℕ) → CallMatches here p s (inf_memalign s g.rules.zero back (Num align) (Num size)) (answers g back (memalign g.rules align size (site_of s.calls) (heap_of g)))
  memalign_of align size =
      subst (λ (b : Bool). CallMatches here p s (cond b (inf_allocate s g.rules.zero back (max align least_alignment) size) (Goes (inf_back_with s back (Num 0)) [])) (answers g back outcome)) (laws.alignments align)
      (at (is_alignment align) (laws.memalign_ends g.rules align size (site_of s.calls) (heap_of g) agree.mapped.lawful))
    where
      outcome : Outcome
      outcome = memalign g.rules align size (site_of s.calls) (heap_of g)

      keeps : CallKeeps (heap_of g) outcome.state
      keeps = call_keeps (λ t. (memalign g.rules align size (site_of s.calls) t).state) (laws.memalign g.rules align size (site_of s.calls)) (heap_of g) agree.mapped.lawful agree.dues

      bytes : GivesNewSlot g.rules.zero (heap_of g) outcome.state
      bytes = laws.memalign_slot g.rules align size (site_of s.calls) (heap_of g) agree.mapped.lawful

      at : (b : Bool) → AllocationEnds (not b || nat_lt size_limit size) (request g.rules (max align usual) size (site_of s.calls)) (heap_of g) outcome
          → CallMatches here p s (cond b (inf_allocate s g.rules.zero back (max align least_alignment) size) (Goes (inf_back_with s back (Num 0)) [])) (answers g back outcome)
      at true ends = allocation_matches laws.facts p s g agree back small (nat_lt size_limit size) g.rules (max align usual) size g.rules.zero outcome keeps ends bytes
      at false ends = allocation_matches laws.facts p s g agree back small true g.rules (max align usual) size g.rules.zero outcome keeps ends bytes

  pub memalign_matches : (v w : Value) (n k : ℕ) → Stands here v n → Stands here w k → CallMatches here p s (inf_memalign s g.rules.zero back v w) (answers g back (memalign g.rules n k (site_of g.core.calls) (heap_of g)))
  memalign_matches (Num align) (Num size) n k is too =
      subst (λ (x : ℕ). CallMatches here p s (inf_memalign s g.rules.zero back (Num align) (Num size)) (answers g back (memalign g.rules x k (site_of g.core.calls) (heap_of g)))) (sym is)
      (subst (λ (x : ℕ). CallMatches here p s (inf_memalign s g.rules.zero back (Num align) (Num size)) (answers g back (memalign g.rules align x (site_of g.core.calls) (heap_of g)))) (sym too)
      (at_site (inf_memalign s g.rules.zero back (Num align) (Num size)) (λ site t. memalign g.rules align size site t) (memalign_of align size)))
  memalign_matches (Num align) w n k is too = tt
  memalign_matches v w n k is too = tt
