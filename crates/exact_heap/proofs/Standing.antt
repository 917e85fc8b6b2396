-- What is kept stands for the history after each step.
use Rattle.std.proofs.Common.{replicate, ◌*◌, ◌≡◌, ℕ, zero, suc, ◌+◌, ◌-◌, ◌^◌, ◌<◌, ◌≤◌, refl, ap, sym, ◌∙◌, subst, Bool, true, false, cond, not, ◌&&◌, ◌⊎◌, inl, inr, arith, nat_eq, nat_lt, List, [], ◌∷◌, ◌++◌, length, take, Option, Some, None, IsSomeAnd, max}
use Rattle.std.specs.List.{AllByRecursion}
use Rattle.std.specs.Option.{option_map}
use Rattle.std.specs.Ordering.{nat_cmp}
use Rattle.std.specs.Cmp.{nat_cmp_total}
use Rattle.std.specs.FinSet.{FinSet, contains, insert, remove, empty, len, len-insert, len-remove, len-empty, contains-remove, contains-empty, same_set, nat_cmp-IsAntisymmetric}
use Rattle.std.proofs.lemmas.Bool.{cases_lt, lt-ltb, le-ltb, cases_eq, eq-eqb, ne_eqb, true≢false, false_from_ne_true}
use Rattle.std.proofs.lemmas.List.{length-append, take-append-le, length-take-le, take_all}
use Rattle.std.proofs.lemmas.List.Sums.{count_by-le-length}
use Rattle.deferral_queue.specs.Deferrals.{Deferrals, sorted_dues}
use Rattle.miniheap.specs.declared.place.Slot.{Slot}
use Rattle.miniheap.specs.declared.place.SlotState.{SlotState}
use Rattle.miniheap.specs.declared.place.SlotState.TheVariants.{Free, Bad}
use Rattle.miniheap.specs.Layout.{heap_limit}
use Rattle.miniheap.specs.Slots.{Slots, state_of, slot_at, IsSlotIn, IsInOrder, held_at, released_at, spoiled_at, used_of, wanted_of, end_of}
use Rattle.miniheap.specs.WordList.{WordList, HasSpent}
use Rattle.exact_heap.proofs.SlotStates.{eq_turned, not_bad, not_held}
use Rattle.rv_memory.specs.Memory.{Memory}
use Rattle.exact_heap.specs.declared.counts.Counts.{Counts}
use Rattle.exact_heap.specs.declared.parts.Parts.{Parts}
use Rattle.exact_heap.specs.declared.slot_table.SlotTable.{SlotTable}
use Rattle.exact_heap.specs.declared.rows.Row.{Row}
use Rattle.exact_heap.specs.declared.parts.Request.{Request}
use Rattle.exact_heap.specs.declared.signal.Signal.{Signal}
use Rattle.exact_heap.specs.declared.signal.Place.TheVariants.{Call}
use Rattle.exact_heap.specs.History.{Object, History, slot_of, is_owned, holds_slot, held_by, slots_of, clock_of, frees_of, dues_from}
use Rattle.exact_heap.specs.Owners.{last_owner}
use Rattle.exact_heap.specs.Placing.{signalled, signal_at, new_object}
use Rattle.exact_heap.specs.Lawful.{places_of, HasRoom, IsPlaced, AreApart, IsTimed}
use Rattle.exact_heap.specs.RowStore.{RowChunk, no_rows, kept_row, RowsChange}
use Rattle.exact_heap.specs.SeenSignals.{SeenSignals, seen, with_signal}
use Rattle.exact_heap.specs.Stands.{row_of, TableStandsFor, PartsStandFor}
use Rattle.miniheap.specs.Laws.{SlotLaws}
use Rattle.size_class.specs.Classes.{nth_slots}
use Rattle.miniheap.specs.Layout.{count_of}
use Rattle.exact_heap.proofs.RowStores.{rows_grown, chunks_grown}
use Rattle.exact_heap.proofs.SlotPlaces.{slot_in_is, slot_at-places, slot_stays, with_state, spoiled_ordered, held_ordered, grown_ordered}
use Rattle.exact_heap.proofs.Objects.{contains-held, not_held_none, held_by-push, Around, around, apart_changed, apart_push, each_changed, each_push, each_weaker, last_of_held, last_of_others, last_of_push, count-push, length-change}
use Rattle.exact_heap.proofs.Timed.{timed_more, timed_change}
use Rattle.exact_heap.proofs.Dues.{dues_push}

-- ---- what is counted

pub clock_is : (p : Parts) (h : History) → PartsStandFor p h → p.counts.clock ≡ clock_of h
clock_is p h st = ap (λ (x : Counts). x.clock) st.counts

pub frees_is : (p : Parts) (h : History) → PartsStandFor p h → p.counts.frees ≡ frees_of h
frees_is p h st = ap (λ (x : Counts). x.frees) st.counts

pub calls_is : (p : Parts) (h : History) → PartsStandFor p h → p.counts.calls ≡ h.calls
calls_is p h st = ap (λ (x : Counts). x.calls) st.counts

counts_are : (x : Counts) (clock frees calls : ℕ) → x.clock ≡ clock → x.frees ≡ frees → x.calls ≡ calls → x ≡ record { clock = clock; frees = frees; calls = calls }
counts_are x clock frees calls e f g =
    ap (λ (n : ℕ). record { clock = n; frees = x.frees; calls = x.calls }) e ∙ ap (λ (n : ℕ). record { clock = clock; frees = n; calls = x.calls }) f ∙ ap (λ (n : ℕ). record { clock = clock; frees = frees; calls = n }) g

-- ---- how many slots are bad

below_len : (n : ℕ) (s : FinSet nat_cmp) → ((a : ℕ) → contains s a ≡ true → a < n) → len s ≤ n
below_len zero s h =
    let none : (a : ℕ) → contains s a ≡ contains (empty {R = nat_cmp}) a = λ a. false_from_ne_true (contains s a) (λ e. absurd (omega (arith, h a e))) ∙ sym (contains-empty nat_cmp a) in
    omega (arith, ap len (same_set nat_cmp_total nat_cmp-IsAntisymmetric s empty none), len-empty nat_cmp)
below_len (suc n) s h = at (contains s n) (len-remove nat_cmp_total s n) (below_len n (remove s n) less)
  where
    less : (a : ℕ) → contains (remove s n) a ≡ true → a < n
    less a e = here (cases_eq a n) (sym (contains-remove nat_cmp_total s n a ∙ ap (λ (b : Bool). not b && contains s a) (eq_turned a n)) ∙ e)
      where
        here : (a ≡ n) ⊎ (a ≡ n → ⊥) → (not (nat_eq a n) && contains s a) ≡ true → a < n
        here (inl q) f = absurd (true≢false (sym f ∙ ap (λ (b : Bool). not b && contains s a) (eq-eqb a n q)))
        here (inr q) f = let k : contains s a ≡ true = sym (ap (λ (b : Bool). not b && contains s a) (ne_eqb a n q)) ∙ f in omega (arith, h a k, q)

    at : (b : Bool) → len (remove s n) ≡ cond b (len s - 1) (len s) → len (remove s n) ≤ n → len s ≤ suc n
    at true e k = omega (arith, e, k)
    at false e k = omega (arith, e, k)

-- a slot lies below the end of the heap region
slot_below : SlotLaws → (s : Slots) (a : ℕ) (u : SlotState) → used_of s ≤ heap_limit → IsSlotIn s a u → a < 2 ^ 31
slot_below laws s a u limit h = at (slot_at s a) refl h
  where
    at : (o : Option Slot) → slot_at s a ≡ o → IsSomeAnd o (λ t. (t.addr ≡ a) × (t.state ≡ u)) → a < 2 ^ 31
    at None e k = absurd k
    at (Some t) e k = let w = laws.within s a t e in let v = laws.hold s a t e in omega (arith, w.1, v.1, limit)

pub few_bad : SlotLaws → (s : Slots) → IsInOrder s → len s.bad ≤ 2 ^ 31
few_bad laws s ok = below_len (2 ^ 31) s.bad (λ a h. slot_below laws s a Bad ok.in_limit (ok.bad_slots a h))

pub few_signals : SlotLaws → (p : Parts) (h : History) → PartsStandFor p h → p.signals.count ≤ 2 ^ 33
few_signals laws p h st = at h.ended st.lawful.signals
  where
    few : len h.bad ≤ 2 ^ 31
    few = few_bad laws (slots_of h) st.lawful.in_order

    at : (b : Bool) → length h.signals ≤ len h.bad + cond b (2 ^ 31) 0 → p.signals.count ≤ 2 ^ 33
    at true l = omega (arith, few, l, ap (λ (x : SeenSignals). x.count) st.signals)
    at false l = omega (arith, few, l, ap (λ (x : SeenSignals). x.count) st.signals)

pub signals_fit : SlotLaws → (p : Parts) (h : History) → PartsStandFor p h → p.signals.count + 1 < 2 ^ 64
signals_fit laws p h st = omega (arith, few_signals laws p h st)

-- ---- a signal more

kept_more : (n : ℕ) (xs : List Signal) (x : Signal) → take n (xs ++ x ∷ []) ≡ cond (nat_lt (length (take n xs)) n) (take n xs ++ x ∷ []) (take n xs)
kept_more n xs x = at (cases_lt (length xs) n)
  where
    at : (length xs < n) ⊎ (n ≤ length xs) → take n (xs ++ x ∷ []) ≡ cond (nat_lt (length (take n xs)) n) (take n xs ++ x ∷ []) (take n xs)
    at (inl h) =
        let e : take n xs ≡ xs = take_all n xs (omega arith) in
        take_all n (xs ++ x ∷ []) (omega (arith, length-append xs (x ∷ [])))
        ∙ sym (ap (λ (b : Bool). cond b (take n xs ++ x ∷ []) (take n xs)) (lt-ltb (length (take n xs)) n (omega (arith, ap length e))) ∙ ap (λ (ys : List Signal). ys ++ x ∷ []) e)
    at (inr h) =
        take-append-le n xs (x ∷ []) h ∙ sym (ap (λ (b : Bool). cond b (take n xs ++ x ∷ []) (take n xs)) (le-ltb (length (take n xs)) n (omega (arith, length-take-le n xs h))))

pub with_signal-seen : (xs : List Signal) (x : Signal) → with_signal (seen xs) x ≡ seen (xs ++ x ∷ [])
with_signal-seen xs x = ap (λ (ys : List Signal). record { first = ys; count = length xs + 1 }) (sym (kept_more 64 xs x)) ∙ ap (λ (n : ℕ). record { first = take 64 (xs ++ x ∷ []); count = n }) (sym (length-append xs (x ∷ [])))

-- ---- the steps

pub called_stands : (p : Parts) (h : History) → PartsStandFor p h → PartsStandFor (record p { counts = record p.counts { calls = p.counts.calls + 1 } }) (record h { calls = h.calls + 1 })
called_stands p h st = record {
  seed = st.seed;
  slots = record { grid = st.slots.grid; rows = st.slots.rows; chunks = st.slots.chunks };
  words = st.words;
  dues = st.dues;
  room = st.room;
  counts = ap (λ (x : Counts). record x { calls = x.calls + 1 }) st.counts;
  signals = st.signals;
  ended = st.ended;
  lawful = record { in_order = st.lawful.in_order; placed = st.lawful.placed; apart = st.lawful.apart; timed = st.lawful.timed; signals = st.lawful.signals };
}

pub drawn_stands : (p : Parts) (h : History) (words : WordList) (draws : ℕ) → PartsStandFor p h → HasSpent words h.seed (h.spent + draws) → PartsStandFor (record p { words = words }) (record h { spent = h.spent + draws })
drawn_stands p h words draws st k = record {
  seed = st.seed;
  slots = record { grid = st.slots.grid; rows = st.slots.rows; chunks = st.slots.chunks };
  words = k;
  dues = st.dues;
  room = st.room;
  counts = st.counts;
  signals = st.signals;
  ended = st.ended;
  lawful = record { in_order = st.lawful.in_order; placed = st.lawful.placed; apart = st.lawful.apart; timed = st.lawful.timed; signals = st.lawful.signals };
}

placed_grown : SlotLaws → (classes : List ℕ) (c : ℕ) (o : Object) → IsPlaced classes o → IsPlaced (classes ++ c ∷ []) o
placed_grown laws classes c o k = record { slot = slot_stays laws (λ t. (t.addr ≡ slot_of o) × (t.class ≡ o.class)) classes c (slot_of o) k.slot; room = k.room }

pub grown_stands : SlotLaws → (p : Parts) (h : History) (c count : ℕ) → PartsStandFor p h → nth_slots c (count_of c h.classes) ≤ count * 64 → 4 ≤ c → c ≤ 22 → used_of p.slots.grid + wanted_of p.slots.grid c ≤ heap_limit
    → PartsStandFor (record p { slots = record { grid = Rattle.miniheap.specs.Slots.grown p.slots.grid c; rows = p.slots.rows ++ replicate count no_rows ∷ [] } }) (record h { classes = h.classes ++ c ∷ [] })
grown_stands laws p h c count st enough low high room = record {
  seed = st.seed;
  slots = record {
    grid = ap (λ (s : Slots). Rattle.miniheap.specs.Slots.grown s c) st.slots.grid;
    rows = λ a. rows_grown laws h.classes c p.slots.rows count a st.slots.chunks ∙ st.slots.rows a;
    chunks = chunks_grown laws h.classes c p.slots.rows count enough st.slots.chunks;
  };
  words = st.words;
  dues = st.dues;
  room = st.room;
  counts = st.counts;
  signals = st.signals;
  ended = st.ended;
  lawful = record {
    in_order = grown_ordered laws (slots_of h) c st.lawful.in_order low high (subst (λ (s : Slots). used_of s + wanted_of s c ≤ heap_limit) st.slots.grid room);
    placed = each_weaker (IsPlaced h.classes) (IsPlaced (h.classes ++ c ∷ [])) (placed_grown laws h.classes c) h.objects st.lawful.placed;
    apart = st.lawful.apart;
    timed = st.lawful.timed;
    signals = st.lawful.signals;
  };
}

pub spoiled_stands : (p : Parts) (h : History) (memory : Memory) (slot broken : ℕ) → PartsStandFor p h → IsSlotIn p.slots.grid slot Free
    → PartsStandFor (record p { slots = record p.slots { grid = spoiled_at p.slots.grid slot }; signals = with_signal p.signals (signal_at (Call p.counts.calls) memory broken) }) (signalled slot broken (record { history = h; memory = memory })).history
spoiled_stands p h memory slot broken st free = record {
  seed = st.seed;
  slots = record { grid = ap (λ (s : Slots). spoiled_at s slot) st.slots.grid; rows = st.slots.rows; chunks = st.slots.chunks };
  words = st.words;
  dues = st.dues;
  room = st.room;
  counts = st.counts;
  signals = ap (λ (x : SeenSignals). with_signal x (signal_at (Call p.counts.calls) memory broken)) st.signals ∙ with_signal-seen h.signals (signal_at (Call p.counts.calls) memory broken)
      ∙ ap (λ (n : ℕ). seen (h.signals ++ signal_at (Call n) memory broken ∷ [])) (calls_is p h st);
  ended = st.ended;
  lawful = record {
    in_order = spoiled_ordered (slots_of h) slot st.lawful.in_order here;
    placed = st.lawful.placed;
    apart = st.lawful.apart;
    timed = st.lawful.timed;
    signals = count (contains h.bad slot) (len-insert nat_cmp_total h.bad slot) (not_bad (slots_of h) slot (slot_in_is (slots_of h) slot Free here).1);
  };
}
  where
    here : IsSlotIn (slots_of h) slot Free
    here = subst (λ (s : Slots). IsSlotIn s slot Free) st.slots.grid free

    count : (b : Bool) → len (insert h.bad slot) ≡ cond b (len h.bad) (len h.bad + 1) → b ≡ false → length (h.signals ++ signal_at (Call h.calls) memory broken ∷ []) ≤ len (insert h.bad slot) + cond h.ended (2 ^ 31) 0
    count true e q = absurd (true≢false q)
    count false e q = omega (arith, e, st.lawful.signals, length-append h.signals (signal_at (Call h.calls) memory broken ∷ []))

-- ---- an object more

abbrev pub with_object : History → Object → History
with_object h o = record h { objects = h.objects ++ o ∷ [] }

class_places : (classes : List ℕ) (held bad : FinSet nat_cmp) (a c : ℕ)
    → IsSomeAnd (slot_at (record { classes = classes; held = held; bad = bad }) a) (λ t. (t.addr ≡ a) × (t.class ≡ c) × (t.state ≡ Free))
    → IsSomeAnd (slot_at (places_of classes) a) (λ t. (t.addr ≡ a) × (t.class ≡ c))
class_places classes held bad a c k =
    at (slot_at (places_of classes) a) (subst (λ (o : Option Slot). IsSomeAnd o (λ t. (t.addr ≡ a) × (t.class ≡ c) × (t.state ≡ Free))) (slot_at-places (record { classes = classes; held = held; bad = bad }) a) k)
  where
    at : (o : Option Slot) → IsSomeAnd (option_map (with_state (record { classes = classes; held = held; bad = bad })) o) (λ t. (t.addr ≡ a) × (t.class ≡ c) × (t.state ≡ Free)) → IsSomeAnd o (λ t. (t.addr ≡ a) × (t.class ≡ c))
    at None k = absurd k
    at (Some t) k = (k.0, k.1)

free_slot : (s : Slots) (c a : ℕ) → IsSomeAnd (slot_at s a) (λ t. (t.addr ≡ a) × (t.class ≡ c) × (t.state ≡ Free)) → IsSlotIn s a Free
free_slot s c a k = at (slot_at s a) k
  where
    at : (o : Option Slot) → IsSomeAnd o (λ t. (t.addr ≡ a) × (t.class ≡ c) × (t.state ≡ Free)) → IsSomeAnd o (λ t. (t.addr ≡ a) × (t.state ≡ Free))
    at None k = absurd k
    at (Some t) k = (k.0, k.2)

pub owned_stands : (p : Parts) (h : History) (r : Request) (slot n : ℕ) (rows : List (List RowChunk)) → PartsStandFor p h
    → IsSomeAnd (slot_at p.slots.grid slot) (λ t. (t.addr ≡ slot) × (t.class ≡ r.class) × (t.state ≡ Free)) → HasRoom r.class r.front r.alignment r.size
    → n ≡ p.counts.clock - p.counts.frees + 1 → RowsChange h.classes p.slots.rows rows slot (row_of (record { number = p.counts.clock; object = new_object r slot }))
    → PartsStandFor (record p { slots = record { grid = held_at p.slots.grid slot; rows = rows }; queue = record p.queue { spare = max p.queue.spare n }; counts = record p.counts { clock = p.counts.clock + 1 } }) (with_object h (new_object r slot))
owned_stands p h r slot n rows st free has n_is rows_are = record {
  seed = st.seed;
  slots = record {
    grid = ap (λ (s : Slots). held_at s slot) st.slots.grid ∙ ap (λ (x : FinSet nat_cmp). record { classes = h.classes; held = x; bad = h.bad }) (sym (held_by-push h.objects (new_object r slot) refl));
    rows = λ a. rows_are.rows a ∙ at a (nat_eq slot a) ∙ sym (ap (option_map row_of) (last_of_push h.objects (new_object r slot) a));
    chunks = rows_are.chunks st.slots.chunks;
  };
  words = st.words;
  dues = st.dues ∙ ap sorted_dues (sym (dues_push h.objects (new_object r slot) (λ n. refl)));
  room = omega (arith, room, count-push (λ o. not (is_owned o.state)) h.objects (new_object r slot), length-append h.objects (new_object r slot ∷ []));
  counts = counts_are (record p.counts { clock = p.counts.clock + 1 }) (length (h.objects ++ new_object r slot ∷ [])) (frees_of (with_object h (new_object r slot))) h.calls
      (ap (λ (k : ℕ). k + 1) (clock_is p h st) ∙ sym (length-append h.objects (new_object r slot ∷ []))) frees (calls_is p h st);
  signals = st.signals;
  ended = st.ended;
  lawful = record {
    in_order = subst (λ (x : FinSet nat_cmp). IsInOrder (record { classes = h.classes; held = x; bad = h.bad })) (sym (held_by-push h.objects (new_object r slot) refl)) (held_ordered (slots_of h) slot st.lawful.in_order here);
    placed = each_push (IsPlaced h.classes) h.objects (new_object r slot) st.lawful.placed (record { slot = class_places h.classes (held_by h.objects) h.bad slot r.class there; room = has });
    apart = apart_push h.objects (new_object r slot) (not_held_none slot h.objects (sym (contains-held h.objects slot) ∙ not_held (slots_of h) slot (slot_in_is (slots_of h) slot Free here).1)) st.lawful.apart;
    timed = timed_more h.objects (new_object r slot) (λ n. record { no_site = refl; no_clock = refl }) st.lawful.timed;
    signals = st.lawful.signals;
  };
}
  where
    there : IsSomeAnd (slot_at (slots_of h) slot) (λ t. (t.addr ≡ slot) × (t.class ≡ r.class) × (t.state ≡ Free))
    there = subst (λ (s : Slots). IsSomeAnd (slot_at s slot) (λ t. (t.addr ≡ slot) × (t.class ≡ r.class) × (t.state ≡ Free))) st.slots.grid free

    here : IsSlotIn (slots_of h) slot Free
    here = free_slot (slots_of h) r.class slot there

    frees : p.counts.frees ≡ frees_of (with_object h (new_object r slot))
    frees = omega (arith, frees_is p h st, count-push (λ o. not (is_owned o.state)) h.objects (new_object r slot))

    room : length h.objects + 1 ≤ max p.queue.spare n + frees_of h
    room = omega (arith, n_is, clock_is p h st, frees_is p h st, count_by-le-length (λ o. not (is_owned o.state)) h.objects)

    at : (a : ℕ) (b : Bool) → cond b (Some (row_of (record { number = p.counts.clock; object = new_object r slot }))) (kept_row h.classes p.slots.rows a)
        ≡ option_map row_of (cond b (Some (record { number = length h.objects; object = new_object r slot })) (last_owner h.objects a))
    at a true = ap (λ (k : ℕ). Some (row_of (record { number = k; object = new_object r slot }))) (clock_is p h st)
    at a false = st.slots.rows a

-- ---- an object that changes

abbrev pub with_change : History → (first : List Object) (o : Object) (last : List Object) → History
with_change h first o last = record h { objects = first ++ o ∷ last }

pub changed_stands : (p : Parts) (h : History) (first : List Object) (o x : Object) (last : List Object) (grid : Slots) (queue : Deferrals) (rows : List (List RowChunk)) (frees : ℕ) → PartsStandFor p h
    → h.objects ≡ first ++ o ∷ last → holds_slot o ≡ true → slot_of x ≡ slot_of o → (IsPlaced h.classes o → IsPlaced h.classes x) → (IsTimed (clock_of h) (length first) o → IsTimed (clock_of h) (length first) x)
    → grid ≡ slots_of (with_change h first x last) → IsInOrder (slots_of (with_change h first x last))
    → queue.dues ≡ sorted_dues (dues_from 0 (first ++ x ∷ last)) → clock_of h ≤ queue.spare + frees
    → RowsChange h.classes p.slots.rows rows (slot_of o) (row_of (record { number = length first; object = x }))
    → frees ≡ frees_of (with_change h first x last)
    → PartsStandFor (record p { slots = record { grid = grid; rows = rows }; queue = queue; counts = record p.counts { frees = frees } }) (with_change h first x last)
changed_stands p h first o x last grid queue rows frees st parts holds same place time slots order dues room rows_are frees_are = record {
  seed = st.seed;
  slots = record { grid = slots; rows = λ a. rows_are.rows a ∙ at a (cases_eq (slot_of o) a); chunks = rows_are.chunks st.slots.chunks };
  words = st.words;
  dues = dues;
  room = omega (arith, room, frees_are, ap length parts, length-change first o x last);
  counts = counts_are (record p.counts { frees = frees }) (clock_of (with_change h first x last)) (frees_of (with_change h first x last)) h.calls
      (clock_is p h st ∙ ap length parts ∙ sym (length-change first o x last)) frees_are (calls_is p h st);
  signals = st.signals;
  ended = st.ended;
  lawful = record {
    in_order = order;
    placed = each_changed (IsPlaced h.classes) first o x last place (subst (AllByRecursion (IsPlaced h.classes)) parts st.lawful.placed);
    apart = apart_changed first o x last same (λ e. absurd (true≢false (sym holds ∙ e))) apart;
    timed = timed_change h.objects first o x last parts time st.lawful.timed;
    signals = st.lawful.signals;
  };
}
  where
    apart : AreApart (first ++ o ∷ last)
    apart = subst AreApart parts st.lawful.apart

    about : Around first o last
    about = around first o last apart holds

    about_x : Around first x last
    about_x = record { before = subst (λ (s : ℕ). AllByRecursion (λ y. slot_of y ≡ s → holds_slot y ≡ false) first) (sym same) about.before; after = subst (λ (s : ℕ). AllByRecursion (λ y. s ≡ slot_of y → ⊥) last) (sym same) about.after }

    at : (a : ℕ) → (slot_of o ≡ a) ⊎ (slot_of o ≡ a → ⊥) → cond (nat_eq (slot_of o) a) (Some (row_of (record { number = length first; object = x }))) (kept_row h.classes p.slots.rows a) ≡ option_map row_of (last_owner (first ++ x ∷ last) a)
    at a (inl e) =
        ap (λ (b : Bool). cond b (Some (row_of (record { number = length first; object = x }))) (kept_row h.classes p.slots.rows a)) (eq-eqb (slot_of o) a e)
        ∙ sym (ap (λ (s : ℕ). option_map row_of (last_owner (first ++ x ∷ last) s)) (sym e ∙ sym same) ∙ ap (option_map row_of) (last_of_held first x last about_x))
    at a (inr n) =
        ap (λ (b : Bool). cond b (Some (row_of (record { number = length first; object = x }))) (kept_row h.classes p.slots.rows a)) (ne_eqb (slot_of o) a n)
        ∙ st.slots.rows a ∙ ap (λ (os : List Object). option_map row_of (last_owner os a)) parts ∙ sym (ap (option_map row_of) (last_of_others first o x last a n same))

-- ---- room and rows

pub reserved_stands : (p : Parts) (h : History) (queue : Deferrals) (n : ℕ) → PartsStandFor p h → queue ≡ record p.queue { spare = max p.queue.spare n } → PartsStandFor (record p { queue = queue }) h
reserved_stands p h queue n st e = record {
  seed = st.seed;
  slots = st.slots;
  words = st.words;
  dues = ap (λ (q : Deferrals). q.dues) e ∙ st.dues;
  room = omega (arith, st.room, ap (λ (q : Deferrals). q.spare) e);
  counts = st.counts;
  signals = st.signals;
  ended = st.ended;
  lawful = st.lawful;
}

-- a row that becomes what it was
pub rows_kept : (classes : List ℕ) (rows : List (List RowChunk)) (slot : ℕ) (row : Row) → kept_row classes rows slot ≡ Some row → RowsChange classes rows rows slot row
rows_kept classes rows slot row here = record { rows = λ a. at a (cases_eq slot a); chunks = λ x. x }
  where
    at : (a : ℕ) → (slot ≡ a) ⊎ (slot ≡ a → ⊥) → kept_row classes rows a ≡ cond (nat_eq slot a) (Some row) (kept_row classes rows a)
    at a (inl e) = ap (kept_row classes rows) (sym e) ∙ here ∙ sym (ap (λ (b : Bool). cond b (Some row) (kept_row classes rows a)) (eq-eqb slot a e))
    at a (inr n) = sym (ap (λ (b : Bool). cond b (Some row) (kept_row classes rows a)) (ne_eqb slot a n))

-- the rows that are kept are those of the last owners
pub kept_is : (t : SlotTable) (h : History) (a : ℕ) → TableStandsFor t h → kept_row t.grid.classes t.rows a ≡ option_map row_of (last_owner h.objects a)
kept_is t h a st = ap (λ (s : Slots). kept_row s.classes t.rows a) st.grid ∙ st.rows a
