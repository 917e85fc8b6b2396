-- A heap call on both machines, in its parts: what it keeps, the heap after it, one more object, and the return.
use Rattle.std.proofs.Common.{◌≡◌, ◌≢◌, ℕ, ◌+◌, ◌^◌, ◌<◌, ◌≤◌, refl, ap, sym, ◌∙◌, subst, Bool, true, false, cond, not, ◌&&◌, ◌⊎◌, inl, inr, arith, nat_eq, nat_le, List, [], ◌∷◌, ◌++◌, length, get_or, set, Option, Some, None, IsSomeAnd}
use Rattle.std.specs.Prelude.{slice_get, unwrap_or}
use Rattle.std.specs.Option.{option_map}
use Rattle.std.proofs.lemmas.Bool.{cases_eq, eqb-true, eqb-false, eq-eqb, ne_eqb, lt-ltb, leb-true, leb-false}
use Rattle.std.proofs.lemmas.Bool.Decides.{nat_tests}
use Rattle.std.proofs.lemmas.Grind.{get_or-set_at}
use Rattle.std.proofs.lemmas.List.{get_or-set_other, get_or_append_left, length-set, length-append}
use Rattle.std.proofs.lemmas.List.Elements.{All-head, All-tail, All-weaker}
use Rattle.std.proofs.lemmas.Option.{same_Some}
use Rattle.infinite_heap.specs.declared.value.Cell.{Cell}
use Rattle.infinite_heap.specs.declared.value.Value.{Value}
use Rattle.infinite_heap.specs.Calls.{pop}
use Rattle.infinite_heap.specs.InfiniteHeap.{inf_back, inf_back_with}
use Rattle.infinite_heap.specs.InfiniteState.{InfState, cells_of_state, set_reg}
use Rattle.infinite_heap.specs.Layout.{Layout, AreAlignments, Stands}
use Rattle.infinite_heap.specs.Mapped.{Mapping}
use Rattle.infinite_heap.specs.Memory.{Written, cell_at}
use Rattle.infinite_heap.specs.Objects as object
use Rattle.infinite_heap.specs.Objects.{Freed, object_at, alignment_in}
use Rattle.infinite_heap.specs.Region.{in_region, least_alignment}
use Rattle.value_laws.specs.LayoutLaws.{IsLater, ValuesStay, MemoryStays, KeepsBytes, KeepsCells, NewCellsStand}
use Rattle.rv_memory.specs.Memory.{Memory, IsBounded}
use Rattle.miniheap.specs.Layout.{heap_from}
use Rattle.miniheap.specs.Slots.{end_of}
use Rattle.exact_heap.specs.Dues.{KeepsDues, CallKeepsDues}
use Rattle.exact_heap.specs.Held.{KeepsHeld, CallKeepsHeld}
use Rattle.exact_heap.specs.History.{ObjectState, Owned, Deferred, Released, Object, History, address_of, slots_of}
use Rattle.exact_heap.specs.Lasting.{Lasts, ObjectsLast, HoldersHeld, CallKeepsObjects}
use Rattle.exact_heap.specs.Lawful.{IsLawful}
use Rattle.exact_heap.specs.Laws.{KeepsLawful}
use Rattle.exact_heap.specs.Mapped.{MapsMiniheaps, KeepsMapped}
use Rattle.exact_heap.specs.ObjectsAfter.{with_new, AddsOne, CountsOneMore}
use Rattle.exact_heap.specs.Placing.{HeapState, Rules, request, new_object, released_object, after_due}
use Rattle.rv_machine.specs.Core.{with_register}
use Rattle.rv_machine.specs.Guest.{Guest, with_core, heap_of, with_heap}
use Rattle.rv_machine.specs.HeapCalls.{back_to, back_with}
use Rattle.rv_machine.specs.Matches.{MapsAlike, IsMapped, bytes_in}
use Rattle.rv_machine.specs.Objects.{of_object, layout_of, IsKept, FreeMatches, ObjectMatches, ObjectsMatch}
use Rattle.simulation.specs.Agreement.{AreOfObjects, StatesAgree}
use Rattle.simulation.proofs.Laid.{Numbered, numbered, known, in_holds, holds_in}

pub two_ways : (b : Bool) (P : Bool → Type 0) → (b ≡ true → P true) → (b ≡ false → P false) → P b
two_ways true P h k = h refl
two_ways false P h k = k refl

-- ---- what each heap call keeps

pub record CallFacts (call : HeapState → HeapState) : Type 0 where
  pub lawful : KeepsLawful (λ s. (call s).history)
  pub dues : CallKeepsDues (λ s. (call s).history)
  pub mapped : KeepsMapped call
  pub held : CallKeepsHeld call
  pub last : CallKeepsObjects (λ s. (call s).history)

-- from one state of the heap to another
pub record CallKeeps (before after : HeapState) : Type 0 where
  pub lawful : IsLawful after.history
  pub dues : KeepsDues after.history
  pub mapped : (other : Memory) → MapsMiniheaps other before → MapsMiniheaps other after
  pub held : KeepsHeld before after
  pub last : ObjectsLast before.history after.history

pub call_keeps : (call : HeapState → HeapState) → CallFacts call → (s : HeapState) → IsLawful s.history → KeepsDues s.history → CallKeeps s (call s)
call_keeps call facts s l d = record {
  lawful = facts.lawful s l;
  dues = facts.dues s l d;
  mapped = λ other m. facts.mapped other s l m;
  held = facts.held s l;
  last = facts.last s l;
}

-- ---- what is mapped

pub maps_later : (p : Mapping) (s r : HeapState) → ((other : Memory) → MapsMiniheaps other s → MapsMiniheaps other r) → MapsAlike (layout_of s.history) p s.memory → MapsAlike (layout_of r.history) p r.memory
maps_later p s r keeps old =
    let new : MapsMiniheaps s.memory r =
    keeps s.memory (record { mapped = λ x e. refl; writable = λ x e. refl; runs = λ x e. refl; heap_mapped = old.heap_mapped; heap_writable = old.heap_writable; heap_runs = old.heap_runs; bounded = old.bounded }) in
    record {
      mapped = λ x e. new.mapped x e ∙ old.mapped x e;
      writable = λ x e. new.writable x e ∙ old.writable x e;
      runs = λ x e. new.runs x e ∙ old.runs x e;
      heap_mapped = new.heap_mapped;
      heap_writable = new.heap_writable;
      heap_runs = new.heap_runs;
      bounded = new.bounded;
    }

region_true : (x : ℕ) → heap_from ≤ x → x < 2 ^ 31 → in_region x ≡ true
region_true x h k = grind (arith, nat_tests)

pub mapped_guest : (p : Mapping) (g : Guest) → IsLawful g.history → MapsAlike (layout_of g.history) p g.core.memory → IsMapped p g
mapped_guest p g l maps = record {
  lawful = l;
  maps = maps;
  home = record {
    mapped = λ a lo hi. maps.heap_mapped a (region_true a lo hi);
    writable = λ a lo hi. maps.heap_writable a (region_true a lo (omega (arith, hi, l.in_order.in_limit))) ∙ lt-ltb a (end_of (slots_of g.history)) hi;
    pages = λ a t e h. refl;
  };
}

-- ---- the layout, and bytes that stay

pub is_later : (before after : History) → ObjectsLast before after → IsLater (layout_of before) (layout_of after)
is_later before after last = record { count = last.count; at = λ o small. at o (numbered before.objects o small) }
  where
    same : (o : ℕ) (x : Object) (y : Option Object) → IsSomeAnd y (Lasts x) → of_object address_of 0 y ≡ address_of x
    same o x None k = absurd k
    same o x (Some z) k = ap (λ (n : ℕ). n + z.front) k.slot ∙ ap (λ (n : ℕ). x.slot + n) k.front

    at : (o : ℕ) → Numbered before.objects o → of_object address_of 0 (slice_get after.objects o) ≡ of_object address_of 0 (slice_get before.objects o)
    at o k = same o k.object (slice_get after.objects o) (last.each o k.object k.found) ∙ sym (ap (of_object address_of 0) k.found)

small_byte : (memory : Memory) → IsBounded memory → (x : ℕ) → bytes_in memory x < 256
small_byte memory bounded x = at (memory.bytes x) refl
  where
    at : (b : Option ℕ) → memory.bytes x ≡ b → unwrap_or b 0 < 256
    at None e = omega arith
    at (Some b) e = bounded.small x b e

pub bytes_kept : HoldersHeld → (before after : HeapState) → CallKeeps before after → IsBounded after.memory → KeepsBytes (layout_of before.history) (layout_of after.history) (bytes_in before.memory) (bytes_in after.memory)
bytes_kept holders before after k bounded = record {
  fits = small_byte after.memory bounded;
  flat = λ x e. ap (λ (b : Option ℕ). unwrap_or b 0) (k.held.outside x e);
  held = λ o x small i.
      let now = in_holds after.history o x i in
      let then = holders before.history after.history o x k.last small now in
      (holds_in before.history o x then, ap (λ (b : Option ℕ). unwrap_or b 0) (k.held.held o o x then now));
}

-- ---- cells of objects

-- a cell is the same where the object began with the same
pub cells_same : (a b : ℕ → Cell) (ws : List Written) (o d : ℕ) → a o ≡ b o → cell_at a ws o d ≡ cell_at b ws o d
cells_same a b [] o d e = e
cells_same a b (w ∷ ws) o d e = ap (λ (c : Cell). cond (nat_eq w.object o && nat_eq w.offset d) w.cell c) (cells_same a b ws o d e)

-- a later object has what it began with
pub unwritten : (begins : ℕ → Cell) (ws : List Written) (count o d : ℕ) → AreOfObjects count ws → count ≤ o → cell_at begins ws o d ≡ begins o
unwritten begins [] count o d h le = refl
unwritten begins (w ∷ ws) count o d h le =
    let apart : nat_eq w.object o ≡ false = ne_eqb w.object o (λ e. omega (arith, e, le, All-head (λ (v : Written). v.object < count) w ws h)) in
    ap (λ (b : Bool). cond (b && nat_eq w.offset d) w.cell (cell_at begins ws o d)) apart ∙ unwritten begins ws count o d (All-tail (λ (v : Written). v.object < count) w ws h) le

pub of_more_objects : (count more : ℕ) (ws : List Written) → count ≤ more → AreOfObjects count ws → AreOfObjects more ws
of_more_objects count more ws le h = All-weaker (λ (v : Written). v.object < count) (λ (v : Written). v.object < more) (λ v k. omega (arith, k, le)) ws h

-- ---- the state with another heap

pub record PlacedFacts : Type 0 where
  pub holders : HoldersHeld
  pub values : ValuesStay
  pub memory : MemoryStays

-- objects that match have no greater alignments than where they lie
match_alignments : (h : History) (os : List object.Object) → ObjectsMatch h os → AreAlignments (layout_of h) (alignment_in os)
match_alignments h os m o small = at (numbered h.objects o small)
  where
    at : Numbered h.objects o → alignment_in os o ≤ of_object (λ object. object.alignment) least_alignment (slice_get h.objects o)
    at k = omega (arith, ap (of_object (λ object. object.alignment) least_alignment) k.found, (m.each o k.object k.found).alignment)

-- Where the objects match again, the old cells stay and those of new objects stand, the states agree.
pub heap_agrees : PlacedFacts → (p : Mapping) (s : InfState) (g : Guest) → StatesAgree p s g → (after : HeapState) → CallKeeps (heap_of g) after → (os : List object.Object) (ws : List Written) → ObjectsMatch after.history os
    → KeepsCells (layout_of g.history) (cells_of_state s) (cells_of_state (record s { objects = os; written = ws })) → NewCellsStand (layout_of g.history) (layout_of after.history) (cells_of_state (record s { objects = os; written = ws })) (bytes_in after.memory)
    → AreOfObjects (length os) ws → StatesAgree p (record s { objects = os; written = ws }) (with_heap g after)
heap_agrees facts p s g agree after keeps os ws match cells news of = record {
  objects = record { count = match.count; each = match.each };
  state = record {
    pc = agree.state.pc;
    pc_fits = agree.state.pc_fits;
    steps = agree.state.steps;
    calls = agree.state.calls;
    count = sym match.count;
    aligned = match_alignments after.history os match;
    width = agree.state.width;
    fits = agree.state.fits;
    regs = λ r small. facts.values l m later (s.regs r) (get_or g.core.regs r 0) (agree.state.regs r small);
    maps = maps;
    memory = facts.memory l m later (cells_of_state s) (cells_of_state (record s { objects = os; written = ws })) (bytes_in g.core.memory) (bytes_in after.memory) agree.state.memory
        (bytes_kept facts.holders (heap_of g) after keeps maps.bounded) cells news;
  };
  written = of;
  mapped = mapped_guest p (with_heap g after) keeps.lawful maps;
  dues = keeps.dues;
}
  where
    l : Layout
    l = layout_of g.history

    m : Layout
    m = layout_of after.history

    later : IsLater l m
    later = is_later g.history after.history keeps.last

    maps : MapsAlike m p after.memory
    maps = maps_later p (heap_of g) after keeps.mapped agree.state.maps

pub same_objects : (h k : History) (os : List object.Object) → k.objects ≡ h.objects → ObjectsMatch h os → ObjectsMatch k os
same_objects h k os e m = record {
  count = ap length e ∙ m.count;
  each = λ n o found. subst (λ (c : ℕ). ObjectMatches c o (object_at os n)) (ap length (sym e)) (m.each n o (ap (λ (xs : List Object). slice_get xs n) (sym e) ∙ found));
}

-- where no object changes, so does nothing in the other state
pub unchanged_agrees : PlacedFacts → (p : Mapping) (s : InfState) (g : Guest) → StatesAgree p s g → (after : HeapState) → CallKeeps (heap_of g) after → after.history.objects ≡ g.history.objects → StatesAgree p s (with_heap g after)
unchanged_agrees facts p s g agree after keeps same =
    heap_agrees facts p s g agree after keeps s.objects s.written (same_objects g.history after.history s.objects same agree.objects) (record { flat = λ x. refl; heap = λ o d small low. refl })
    (λ o d le low i. absurd (let more : length after.history.objects ≡ length g.history.objects = ap length same in omega (arith, le, i.known, more))) agree.written

-- ---- returns

-- a call returns
pub returns_to : (p : Mapping) (s : InfState) (g : Guest) → StatesAgree p s g → (back : ℕ) → back < 2 ^ 32 → StatesAgree p (inf_back s back) (with_core g (back_to back g.core))
returns_to p s g agree back small = record {
  objects = agree.objects;
  state = record {
    pc = refl;
    pc_fits = small;
    steps = ap (λ (x : ℕ). x + 1) agree.state.steps;
    calls = ap pop agree.state.calls;
    count = agree.state.count;
    aligned = agree.state.aligned;
    width = agree.state.width;
    fits = agree.state.fits;
    regs = agree.state.regs;
    maps = agree.state.maps;
    memory = agree.state.memory;
  };
  written = agree.written;
  mapped = record { lawful = agree.mapped.lawful; maps = agree.mapped.maps; home = agree.mapped.home };
  dues = agree.dues;
}

-- one register of both holds another value
register_case : (regs : List ℕ) (values : ℕ → Value) (rd n r : ℕ) (v : Value) (P : Value → ℕ → Type 0) → length regs ≡ 32 → rd < 32 → P v n → P (values r) (get_or regs r 0)
    → P (set_reg values rd v r) (get_or (with_register regs rd n) r 0)
register_case regs values rd n r v P width small new old =
    two_ways (nat_eq rd 0) (λ b. P (cond (nat_eq rd r && not b) v (values r)) (get_or (cond b regs (set regs rd n)) r 0))
    (λ e. two_ways (nat_eq rd r) (λ b. P (cond (b && false) v (values r)) (get_or regs r 0)) (λ t. old) (λ t. old))
    (λ e. two_ways (nat_eq rd r) (λ b. P (cond (b && true) v (values r)) (get_or (set regs rd n) r 0))
    (λ t. let at : r ≡ rd = sym (eqb-true rd r t) in
    let fits : rd < length regs = omega arith in
    subst (P v) (sym (get_or-set_at regs rd r n 0 at fits)) new)
    (λ t. let apart : r ≢ rd = λ at. eqb-false rd r t (sym at) in
    subst (P (values r)) (sym (get_or-set_other regs rd r n 0 apart)) old))

-- and with an answer in a0
pub returns_with : (p : Mapping) (s : InfState) (g : Guest) → StatesAgree p s g → (back : ℕ) → back < 2 ^ 32 → (v : Value) (answer : ℕ) → Stands (layout_of g.history) v answer → answer < 2 ^ 32
    → StatesAgree p (inf_back_with s back v) (with_core g (back_with back answer g.core))
returns_with p s g agree back small v answer stands fits = record {
  objects = agree.objects;
  state = record {
    pc = refl;
    pc_fits = small;
    steps = ap (λ (x : ℕ). x + 1) agree.state.steps;
    calls = ap pop agree.state.calls;
    count = agree.state.count;
    aligned = agree.state.aligned;
    width = length-set g.core.regs 10 answer ∙ agree.state.width;
    fits = λ r low. register_case g.core.regs s.regs 10 answer r v (λ w x. x < 2 ^ 32) agree.state.width (omega arith) fits (agree.state.fits r low);
    regs = λ r low. register_case g.core.regs s.regs 10 answer r v (Stands (layout_of g.history)) agree.state.width (omega arith) stands (agree.state.regs r low);
    maps = agree.state.maps;
    memory = agree.state.memory;
  };
  written = agree.written;
  mapped = record { lawful = agree.mapped.lawful; maps = agree.mapped.maps; home = agree.mapped.home };
  dues = agree.dues;
}

-- ---- objects that match

pub last_object : (os : List object.Object) (x : object.Object) → object_at (os ++ x ∷ []) (length os) ≡ x
last_object [] x = refl
last_object (y ∷ os) x = last_object os x

pub older_object : (os : List object.Object) (x : object.Object) (n : ℕ) → n < length os → object_at (os ++ x ∷ []) n ≡ object_at os n
older_object os x n small = get_or_append_left os (x ∷ []) object.no_object n small

-- one clock later what has become due is released
kept_on : (clock : ℕ) (x : ObjectState) → IsKept clock x → IsKept (clock + 1) (after_due (clock + 1) x)
kept_on clock Owned k = k
kept_on clock (Deferred due) k =
    two_ways (nat_le due (clock + 1)) (λ b. IsKept (clock + 1) (cond b (Released due) (Deferred due))) (λ e. leb-true due (clock + 1) e) (λ e. leb-false due (clock + 1) e)
kept_on clock (Released due) k = omega (arith, k)

free_on : (clock : ℕ) (x : Object) (freed : Option Freed) → FreeMatches clock x freed → FreeMatches (clock + 1) (released_object (clock + 1) x) freed
free_on clock x None k = ap (after_due (clock + 1)) k
free_on clock x (Some freed) k = (k.0, k.1, kept_on clock x.state k.2)

object_on : (clock : ℕ) (x : Object) (other : object.Object) → ObjectMatches clock x other → ObjectMatches (clock + 1) (released_object (clock + 1) x) other
object_on clock x other k = record { size = k.size; alignment = k.alignment; site = k.site; free = free_on clock x other.freed k.free }

-- the objects with one more
pub new_objects_match : AddsOne → CountsOneMore → (h : History) (os : List object.Object) → ObjectsMatch h os → (rules : Rules) (align size site slot : ℕ) (zeroed : Bool)
    → ObjectsMatch (record h { objects = with_new h.objects (new_object (request rules align size site) slot) }) (os ++ object.new_object size align site zeroed ∷ [])
new_objects_match adds counts h os m rules align size site slot zeroed = record {
  count = more ∙ ap (λ (c : ℕ). c + 1) m.count ∙ sym (length-append os (new ∷ []));
  each = λ n o found. subst (λ (c : ℕ). ObjectMatches c o (object_at (os ++ new ∷ []) n)) (sym more) (each n o (cases_eq n (length h.objects)) found);
}
  where
    new : object.Object
    new = object.new_object size align site zeroed

    it : Object
    it = new_object (request rules align size site) slot

    objects : List Object
    objects = with_new h.objects it

    clock : ℕ
    clock = length h.objects

    more : length objects ≡ clock + 1
    more = counts it h.objects

    at : (n : ℕ) (b : Bool) → nat_eq n clock ≡ b → slice_get objects n ≡ cond b (Some it) (option_map (released_object (clock + 1)) (slice_get h.objects n))
    at n b e = adds it n h.objects ∙ ap (λ (c : Bool). cond c (Some it) (option_map (released_object (clock + 1)) (slice_get h.objects n))) e

    is_it : (o : Object) → o ≡ it → ObjectMatches (clock + 1) o new
    is_it o e = subst (λ (x : Object). ObjectMatches (clock + 1) x new) (sym e) (record { size = refl; alignment = refl; site = refl; free = refl })

    older : (n : ℕ) (o : Object) (y : Option Object) → slice_get h.objects n ≡ y → option_map (released_object (clock + 1)) y ≡ Some o → ObjectMatches (clock + 1) o (object_at (os ++ new ∷ []) n)
    older n o None f e = absurd (cc)
    older n o (Some x) f e =
        let small : n < length os = omega (arith, known h.objects n x f, m.count) in
        subst (λ (z : Object). ObjectMatches (clock + 1) z (object_at (os ++ new ∷ []) n)) (same_Some (released_object (clock + 1) x) o e)
        (subst (λ (z : object.Object). ObjectMatches (clock + 1) (released_object (clock + 1) x) z) (sym (older_object os new n small)) (object_on clock x (object_at os n) (m.each n x f)))

    each : (n : ℕ) (o : Object) → (n ≡ clock) ⊎ (n ≡ clock → ⊥) → slice_get objects n ≡ Some o → ObjectMatches (clock + 1) o (object_at (os ++ new ∷ []) n)
    each n o (inl e) found =
        let is : o ≡ it = same_Some o it (sym found ∙ at n true (eq-eqb n clock e)) in
        subst (λ (z : object.Object). ObjectMatches (clock + 1) o z) (sym (ap (object_at (os ++ new ∷ [])) (e ∙ m.count) ∙ last_object os new)) (is_it o is)
    each n o (inr apart) found = older n o (slice_get h.objects n) refl (sym (at n false (ne_eqb n clock apart)) ∙ found)
