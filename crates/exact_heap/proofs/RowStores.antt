-- Rows in chunks: what a chunk says of an address, what stays when a row is put, and when a class grows.
use Rattle.std.proofs.Common.{◌≡◌, ℕ, zero, suc, ◌+◌, ◌-◌, ◌*◌, ◌/◌, ◌%◌, ◌^◌, ◌<◌, ◌≤◌, nat_eq, nat_le, nat_lt, ◌&&◌, refl, ap, sym, ◌∙◌, append_assoc, subst, arith, Bool, true, false, cond, ◌⊎◌, inl, inr, List, [], ◌∷◌, ◌++◌, length, get_or, set, replicate, Option, Some, None, Result, Ok, Err, OnErr, IsSome, is_some}
use Rattle.std.specs.Option.{option_map}
use Rattle.std.proofs.lemmas.Bool.{cases_eq, eq-eqb, ne_eqb, false≢true}
use Rattle.std.proofs.lemmas.List.{get_or-set_same, get_or-set_other, length-set, length-replicate, length-append}
use Rattle.std.proofs.lemmas.Option.{same_Some}
use Rattle.size_class.specs.Classes.{nth_slots}
use Rattle.miniheap.specs.declared.place.Slot.{Slot}
use Rattle.miniheap.specs.Laws.{SlotLaws}
use Rattle.miniheap.specs.Layout.{Mini, mini_end, minis, minis_from, mini_at, nth_mini, count_of, heap_from}
use Rattle.miniheap.specs.Slots.{Slots, slot_at, slot_from, slot_in, nth_slot, IsSlotOf}
use Rattle.exact_heap.specs.declared.rows.Row.{Row}
use Rattle.exact_heap.specs.Lawful.{places_of}
use Rattle.exact_heap.specs.RowStore.{RowChunk, no_rows, row_in, Puts, chunk_at, with_chunk, row_by, kept_row, HaveChunks, RowsChange}
use Rattle.exact_heap.proofs.Chunks.{empty_row}
use Rattle.exact_heap.proofs.SlotPlaces.{with_state, slot_at-places}

abbrev RowTable : Type 0
RowTable = List (List RowChunk)

-- ---- all chunks

chunk_at-same : (rows : RowTable) (mini number : ℕ) (chunk : RowChunk) → mini < length rows → number < length (get_or rows mini []) → chunk_at (with_chunk rows mini number chunk) mini number ≡ chunk
chunk_at-same rows mini number chunk h k =
    ap (λ (line : List RowChunk). get_or line number no_rows) (get_or-set_same rows mini (set (get_or rows mini []) number chunk) [] h) ∙ get_or-set_same (get_or rows mini []) number chunk no_rows k

chunk_at-other : (rows : RowTable) (mini number : ℕ) (chunk : RowChunk) (i j : ℕ) → mini < length rows → (i ≡ mini → j ≡ number → ⊥) → chunk_at (with_chunk rows mini number chunk) i j ≡ chunk_at rows i j
chunk_at-other rows mini number chunk i j h n = at (cases_eq i mini)
  where
    at : (i ≡ mini) ⊎ (i ≡ mini → ⊥) → chunk_at (with_chunk rows mini number chunk) i j ≡ chunk_at rows i j
    at (inl e) = subst (λ (m : ℕ). chunk_at (with_chunk rows mini number chunk) m j ≡ chunk_at rows m j) (sym e)
        (ap (λ (line : List RowChunk). get_or line j no_rows) (get_or-set_same rows mini (set (get_or rows mini []) number chunk) [] h) ∙ get_or-set_other (get_or rows mini []) number j chunk no_rows (λ f. n e f))
    at (inr m) = ap (λ (line : List RowChunk). get_or line j no_rows) (get_or-set_other rows mini i (set (get_or rows mini []) number chunk) [] m)

line_length : (rows : RowTable) (mini number : ℕ) (chunk : RowChunk) (i : ℕ) → mini < length rows → length (get_or (with_chunk rows mini number chunk) i []) ≡ length (get_or rows i [])
line_length rows mini number chunk i h = at (cases_eq i mini)
  where
    at : (i ≡ mini) ⊎ (i ≡ mini → ⊥) → length (get_or (with_chunk rows mini number chunk) i []) ≡ length (get_or rows i [])
    at (inl e) = subst (λ (m : ℕ). length (get_or (with_chunk rows mini number chunk) m []) ≡ length (get_or rows m [])) (sym e)
        (ap length (get_or-set_same rows mini (set (get_or rows mini []) number chunk) [] h) ∙ length-set (get_or rows mini []) number chunk)
    at (inr m) = ap length (get_or-set_other rows mini i (set (get_or rows mini []) number chunk) [] m)

-- ---- slots, whatever state they are in

pub none_known : {o : Option Row} → o ≡ None → IsSome o → ⊥
none_known e some = false≢true (sym (ap is_some e) ∙ some)

pub kept_at : (s : Slots) (rows : RowTable) (a : ℕ) → kept_row s.classes rows a ≡ row_by rows a (slot_at s a)
unfolding kept_row
kept_at s rows a = at (slot_at (places_of s.classes) a) ∙ sym (ap (row_by rows a) (slot_at-places s a))
  where
    at : (o : Option Slot) → row_by rows a o ≡ row_by rows a (option_map (with_state s) o)
    at None = refl
    at (Some t) = refl

pub kept_none : (s : Slots) (rows : RowTable) (a : ℕ) → slot_at s a ≡ None → kept_row s.classes rows a ≡ None
kept_none s rows a e = kept_at s rows a ∙ ap (row_by rows a) e

pub kept_some : (s : Slots) (rows : RowTable) (a : ℕ) (t : Slot) → slot_at s a ≡ Some t → t.addr ≡ a → kept_row s.classes rows a ≡ row_in (chunk_at rows t.mini (t.nth / 64)) (t.nth % 64)
kept_some s rows a t e here =
    kept_at s rows a ∙ ap (row_by rows a) e ∙ ap (λ (b : Bool). cond b (row_in (chunk_at rows t.mini (t.nth / 64)) (t.nth % 64)) None) (eq-eqb t.addr a here)

-- an address that isn't a slot's has no row
pub kept_inside : (s : Slots) (rows : RowTable) (a : ℕ) (t : Slot) → slot_at s a ≡ Some t → (t.addr ≡ a → ⊥) → kept_row s.classes rows a ≡ None
kept_inside s rows a t e other =
    kept_at s rows a ∙ ap (row_by rows a) e ∙ ap (λ (b : Bool). cond b (row_in (chunk_at rows t.mini (t.nth / 64)) (t.nth % 64)) None) (ne_eqb t.addr a other)

-- an address with a row is a slot's
pub kept_own : (s : Slots) (rows : RowTable) (a : ℕ) (t : Slot) → slot_at s a ≡ Some t → IsSome (kept_row s.classes rows a) → t.addr ≡ a
kept_own s rows a t e there = at (cases_eq t.addr a)
  where
    at : (t.addr ≡ a) ⊎ (t.addr ≡ a → ⊥) → t.addr ≡ a
    at (inl here) = here
    at (inr other) = absurd (none_known (kept_inside s rows a t e other) there)

pub known_addr : (s : Slots) (t : Slot) → IsSlotOf s t → t.addr ≡ (nth_slot s t.mini t.nth).addr
known_addr s t k = k.address_is ∙ ap (λ (c : ℕ). (mini_at (minis s.classes) t.mini).base + t.nth * 2 ^ c) k.class_is

-- a slot by its numbers is found at its address
pub known_found : SlotLaws → (s : Slots) (t : Slot) → IsSlotOf s t → slot_at s t.addr ≡ Some (nth_slot s t.mini t.nth)
known_found laws s t k = ap (slot_at s) (known_addr s t k) ∙ laws.found s t.mini t.nth k.mini_known k.nth_known

pub mini_known : SlotLaws → (s : Slots) (rows : RowTable) (a : ℕ) (t : Slot) → slot_at s a ≡ Some t → HaveChunks s.classes rows → t.mini < length rows
mini_known laws s rows a t e have = omega (arith, (laws.known s a t e).0.mini_known, have.minis_known)

pub chunk_known : (s : Slots) (rows : RowTable) (a : ℕ) (t : Slot) → slot_at s a ≡ Some t → HaveChunks s.classes rows → t.nth / 64 < length (get_or rows t.mini [])
chunk_known s rows a t e have = at (slot_at (places_of s.classes) a) refl (sym (slot_at-places s a) ∙ e)
  where
    at : (o : Option Slot) → slot_at (places_of s.classes) a ≡ o → option_map (with_state s) o ≡ Some t → t.nth / 64 < length (get_or rows t.mini [])
    at None f g = absurd (cc)
    at (Some u) f g = subst (λ (x : Slot). x.nth / 64 < length (get_or rows x.mini [])) (same_Some (with_state s u) t g) (have.chunks_known a u f)

-- ---- a row is put

-- two slots of one miniheap have two numbers
numbers_differ : SlotLaws → (s : Slots) (a b : ℕ) (t u : Slot) → slot_at s a ≡ Some t → slot_at s b ≡ Some u → (t ≡ u → ⊥) → u.mini ≡ t.mini → u.nth ≡ t.nth → ⊥
numbers_differ laws s a b t u e f other m n =
    let x : IsSlotOf s t = (laws.known s a t e).0 in
    let y : IsSlotOf s u = (laws.known s b u f).0 in
    let class : u.class ≡ t.class = y.class_is ∙ ap (λ (i : ℕ). (mini_at (minis s.classes) i).class) m ∙ sym x.class_is in
    let addr : u.addr ≡ t.addr =
    y.address_is ∙ ap (λ (i : ℕ). (mini_at (minis s.classes) i).base + u.nth * 2 ^ u.class) m ∙ ap (λ (i : ℕ). (mini_at (minis s.classes) t.mini).base + i * 2 ^ u.class) n
    ∙ ap (λ (c : ℕ). (mini_at (minis s.classes) t.mini).base + t.nth * 2 ^ c) class ∙ sym x.address_is in
    let v = laws.hold s b u f in
    let w = laws.hold s a t e in
    other (same_Some t u (sym (laws.apart s a t.addr t e (omega arith) (omega (arith, w.0, w.1))) ∙ ap (slot_at s) (sym addr) ∙ laws.apart s b u.addr u f (omega arith) (omega (arith, v.0, v.1))))

-- the rows where one was put into its chunk
pub rows_changed : SlotLaws → (s : Slots) (old new : RowTable) (a : ℕ) (t : Slot) (row : Row) → slot_at s a ≡ Some t → t.addr ≡ a → HaveChunks s.classes old
    → Puts (chunk_at old t.mini (t.nth / 64)) (chunk_at new t.mini (t.nth / 64)) (t.nth % 64) row → new ≡ with_chunk old t.mini (t.nth / 64) (chunk_at new t.mini (t.nth / 64)) → RowsChange s.classes old new a row
rows_changed laws s old new a t row e own have puts is = subst (λ (rows : RowTable). RowsChange s.classes old rows a row) (sym is) (record { rows = each; chunks = λ x. have_still })
  where
    chunk : RowChunk
    chunk = chunk_at new t.mini (t.nth / 64)

    rows : RowTable
    rows = with_chunk old t.mini (t.nth / 64) chunk

    h : t.mini < length old
    h = mini_known laws s old a t e have

    k : t.nth / 64 < length (get_or old t.mini [])
    k = chunk_known s old a t e have

    have_still : HaveChunks s.classes rows
    have_still = record {
      minis_known = length-set old t.mini (set (get_or old t.mini []) (t.nth / 64) chunk) ∙ have.minis_known;
      chunks_known = λ b u f. subst (λ (n : ℕ). u.nth / 64 < n) (sym (line_length old t.mini (t.nth / 64) chunk u.mini h)) (have.chunks_known b u f);
    }

    -- the slot's own row
    here : row_in (chunk_at rows t.mini (t.nth / 64)) (t.nth % 64) ≡ Some row
    here = ap (λ (x : RowChunk). row_in x (t.nth % 64)) (chunk_at-same old t.mini (t.nth / 64) chunk h k) ∙ puts.own

    -- the row of another slot
    there : (b : ℕ) (u : Slot) → slot_at s b ≡ Some u → (t ≡ u → ⊥) → (u.mini ≡ t.mini) ⊎ (u.mini ≡ t.mini → ⊥) → (u.nth / 64 ≡ t.nth / 64) ⊎ (u.nth / 64 ≡ t.nth / 64 → ⊥)
        → row_in (chunk_at rows u.mini (u.nth / 64)) (u.nth % 64) ≡ row_in (chunk_at old u.mini (u.nth / 64)) (u.nth % 64)
    there b u f other (inl p) (inl q) =
        ap (λ (m : ℕ). row_in (chunk_at rows m (u.nth / 64)) (u.nth % 64)) p ∙ ap (λ (m : ℕ). row_in (chunk_at rows t.mini m) (u.nth % 64)) q
        ∙ ap (λ (x : RowChunk). row_in x (u.nth % 64)) (chunk_at-same old t.mini (t.nth / 64) chunk h k)
        ∙ puts.others (u.nth % 64) (omega arith) (λ r. numbers_differ laws s a b t u e f other p (let z : u.nth ≡ t.nth = omega (arith, q, r) in z))
        ∙ ap (λ (m : ℕ). row_in (chunk_at old m (t.nth / 64)) (u.nth % 64)) (sym p) ∙ ap (λ (m : ℕ). row_in (chunk_at old u.mini m) (u.nth % 64)) (sym q)
    there b u f other (inr p) z =
        ap (λ (x : RowChunk). row_in x (u.nth % 64)) (chunk_at-other old t.mini (t.nth / 64) chunk u.mini (u.nth / 64) h (λ m j. p m))
    there b u f other (inl z) (inr q) =
        ap (λ (x : RowChunk). row_in x (u.nth % 64)) (chunk_at-other old t.mini (t.nth / 64) chunk u.mini (u.nth / 64) h (λ m j. q j))

    differs : (b : ℕ) (u : Slot) → slot_at s b ≡ Some u → (a ≡ b → ⊥) → u.addr ≡ b → t ≡ u → ⊥
    differs b u f n own' q = n (sym own ∙ ap (λ (x : Slot). x.addr) q ∙ own')

    each : (b : ℕ) → kept_row s.classes rows b ≡ cond (nat_eq a b) (Some row) (kept_row s.classes old b)
    each b = at (cases_eq a b) (slot_at s b) refl
      where
        at : (a ≡ b) ⊎ (a ≡ b → ⊥) → (o : Option Slot) → slot_at s b ≡ o → kept_row s.classes rows b ≡ cond (nat_eq a b) (Some row) (kept_row s.classes old b)
        at (inl q) o f =
            ap (kept_row s.classes rows) (sym q) ∙ kept_some s rows a t e own ∙ here ∙ sym (ap (λ (x : Bool). cond x (Some row) (kept_row s.classes old b)) (eq-eqb a b q))
        at (inr n) None f =
            kept_none s rows b f ∙ sym (kept_none s old b f) ∙ sym (ap (λ (x : Bool). cond x (Some row) (kept_row s.classes old b)) (ne_eqb a b n))
        at (inr n) (Some u) f =
            of (cases_eq u.addr b) ∙ sym (ap (λ (x : Bool). cond x (Some row) (kept_row s.classes old b)) (ne_eqb a b n))
          where
            of : (u.addr ≡ b) ⊎ (u.addr ≡ b → ⊥) → kept_row s.classes rows b ≡ kept_row s.classes old b
            of (inl own') = kept_some s rows b u f own' ∙ there b u f (differs b u f n own') (cases_eq u.mini t.mini) (cases_eq (u.nth / 64) (t.nth / 64)) ∙ sym (kept_some s old b u f own')
            of (inr inside) = kept_inside s rows b u f inside ∙ sym (kept_inside s old b u f inside)

-- ---- a class grows

minis_from-last : (earlier : List ℕ) (base : ℕ) (cs : List ℕ) (c : ℕ) → (m : Mini) × (minis_from earlier base (cs ++ c ∷ []) ≡ minis_from earlier base cs ++ m ∷ []) × (m.slots ≡ nth_slots c (count_of c (earlier ++ cs)))
minis_from-last earlier base [] c = (nth_mini c base (count_of c earlier), refl, ap (λ (es : List ℕ). nth_slots c (count_of c es)) (sym (append_nil earlier)))
  where
    append_nil : (l : List ℕ) → l ++ [] ≡ l
    append_nil [] = refl
    append_nil (x ∷ l) = ap (λ (k : List ℕ). x ∷ k) (append_nil l)
minis_from-last earlier base (d ∷ cs) c =
    let r = minis_from-last (earlier ++ d ∷ []) (mini_end (nth_mini d base (count_of d earlier))) cs c in
    (r.0, ap (λ (ms : List Mini). nth_mini d base (count_of d earlier) ∷ ms) r.1, r.2 ∙ ap (λ (es : List ℕ). nth_slots c (count_of c es)) (append_assoc earlier (d ∷ []) cs))

-- a slot that wasn't there is one of the last miniheap
slot_in_last : (s r : Slots) (a i : ℕ) (ms : List Mini) (m : Mini) (t : Slot) → slot_from s a i ms ≡ None → slot_from r a i (ms ++ m ∷ []) ≡ Some t → t.mini ≡ i + length ms
slot_in_last s r a i [] m t e f = at (nat_le m.base a && nat_lt a (mini_end m)) f
  where
    at : (b : Bool) → cond b (Some (slot_in r i m ((a - m.base) / 2 ^ m.class))) None ≡ Some t → t.mini ≡ i + 0
    at true g = omega (arith, ap (λ (x : Slot). x.mini) (same_Some _ t g))
    at false g = absurd (cc)
slot_in_last s r a i (n ∷ ms) m t e f = at (nat_le n.base a && nat_lt a (mini_end n)) e f (λ x y. slot_in_last s r a (suc i) ms m t x y)
  where
    at : (b : Bool) → cond b (Some (slot_in s i n ((a - n.base) / 2 ^ n.class))) (slot_from s a (suc i) ms) ≡ None
        → cond b (Some (slot_in r i n ((a - n.base) / 2 ^ n.class))) (slot_from r a (suc i) (ms ++ m ∷ [])) ≡ Some t
        → (slot_from s a (suc i) ms ≡ None → slot_from r a (suc i) (ms ++ m ∷ []) ≡ Some t → t.mini ≡ suc i + length ms) → t.mini ≡ i + suc (length ms)
    at true x y z = absurd (cc)
    at false x y z = omega (arith, z x y)

pub record IsNew (classes : List ℕ) (c : ℕ) (t : Slot) : Type 0 where
  pub mini : t.mini ≡ length (minis classes)
  pub nth : t.nth < nth_slots c (count_of c classes)

new_slot : SlotLaws → (classes : List ℕ) (c a : ℕ) (t : Slot) → slot_at (places_of classes) a ≡ None → slot_at (places_of (classes ++ c ∷ [])) a ≡ Some t → IsNew classes c t
new_slot laws classes c a t e f =
    let r = minis_from-last [] heap_from classes c in
    let at : t.mini ≡ 0 + length (minis classes) = slot_in_last (places_of classes) (places_of (classes ++ c ∷ [])) a 0 (minis classes) r.0 t e (ap (slot_from (places_of (classes ++ c ∷ [])) a 0) (sym r.1) ∙ f) in
    let mini : t.mini ≡ length (minis classes) = omega (arith, at) in
    let known : t.nth < (mini_at (minis (classes ++ c ∷ [])) t.mini).slots = (laws.known (places_of (classes ++ c ∷ [])) a t f).0.nth_known in
    let last : mini_at (minis (classes ++ c ∷ [])) t.mini ≡ r.0 = ap (mini_at (minis (classes ++ c ∷ []))) mini ∙ ap (λ (ms : List Mini). mini_at ms (length (minis classes))) r.1 ∙ last_of (minis classes) r.0 in
    record { mini = mini; nth = subst (λ (n : ℕ). t.nth < n) (ap (λ (m : Mini). m.slots) last ∙ r.2) known }
  where
    last_of : (ms : List Mini) (m : Mini) → mini_at (ms ++ m ∷ []) (length ms) ≡ m
    last_of [] m = refl
    last_of (n ∷ ms) m = last_of ms m

minis_more : (classes : List ℕ) (c : ℕ) → length (minis (classes ++ c ∷ [])) ≡ length (minis classes) + 1
minis_more classes c = let r = minis_from-last [] heap_from classes c in ap length r.1 ∙ length-append (minis classes) (r.0 ∷ [])

line_before : (rows : RowTable) (line : List RowChunk) (i : ℕ) → i < length rows → get_or (rows ++ line ∷ []) i [] ≡ get_or rows i []
line_before [] line i h = absurd (omega (arith, h))
line_before (r ∷ rows) line zero h = refl
line_before (r ∷ rows) line (suc i) h = line_before rows line i (omega (arith, h))

line_last : (rows : RowTable) (line : List RowChunk) → get_or (rows ++ line ∷ []) (length rows) [] ≡ line
line_last [] line = refl
line_last (r ∷ rows) line = line_last rows line

empty_chunk : (count j n : ℕ) → row_in (get_or (replicate count no_rows) j no_rows) n ≡ None
empty_chunk zero j n = empty_row n
empty_chunk (suc count) zero n = empty_row n
empty_chunk (suc count) (suc j) n = empty_chunk count j n

no_row : (o : Option Row) (b : Bool) → o ≡ None → cond b o None ≡ None
no_row o true e = e
no_row o false e = refl

-- no slot's row changes
pub rows_grown : SlotLaws → (classes : List ℕ) (c : ℕ) (rows : RowTable) (count a : ℕ) → HaveChunks classes rows → kept_row (classes ++ c ∷ []) (rows ++ replicate count no_rows ∷ []) a ≡ kept_row classes rows a
rows_grown laws classes c rows count a have = at (slot_at (places_of classes) a) refl
  where
    fresh : slot_at (places_of classes) a ≡ None → (o : Option Slot) → slot_at (places_of (classes ++ c ∷ [])) a ≡ o → row_by (rows ++ replicate count no_rows ∷ []) a o ≡ None
    fresh e None f = refl
    fresh e (Some t) f =
        let n : IsNew classes c t = new_slot laws classes c a t e f in
        let empty : row_in (chunk_at (rows ++ replicate count no_rows ∷ []) t.mini (t.nth / 64)) (t.nth % 64) ≡ None =
        ap (λ (i : ℕ). row_in (chunk_at (rows ++ replicate count no_rows ∷ []) i (t.nth / 64)) (t.nth % 64)) (n.mini ∙ sym have.minis_known)
        ∙ ap (λ (line : List RowChunk). row_in (get_or line (t.nth / 64) no_rows) (t.nth % 64)) (line_last rows (replicate count no_rows)) ∙ empty_chunk count (t.nth / 64) (t.nth % 64) in
        no_row (row_in (chunk_at (rows ++ replicate count no_rows ∷ []) t.mini (t.nth / 64)) (t.nth % 64)) (nat_eq t.addr a) empty

    at : (o : Option Slot) → slot_at (places_of classes) a ≡ o → kept_row (classes ++ c ∷ []) (rows ++ replicate count no_rows ∷ []) a ≡ kept_row classes rows a
    at None e = kept_at (places_of (classes ++ c ∷ [])) (rows ++ replicate count no_rows ∷ []) a ∙ fresh e (slot_at (places_of (classes ++ c ∷ [])) a) refl ∙ sym (kept_none (places_of classes) rows a e)
    at (Some t) e =
        kept_at (places_of (classes ++ c ∷ [])) (rows ++ replicate count no_rows ∷ []) a ∙ ap (row_by (rows ++ replicate count no_rows ∷ []) a) (laws.stay (places_of classes) c a t e)
        ∙ ap (λ (line : List RowChunk). cond (nat_eq t.addr a) (row_in (get_or line (t.nth / 64) no_rows) (t.nth % 64)) None)
        (line_before rows (replicate count no_rows) t.mini (mini_known laws (places_of classes) rows a t e have))
        ∙ sym (kept_at (places_of classes) rows a ∙ ap (row_by rows a) e)

pub chunks_grown : SlotLaws → (classes : List ℕ) (c : ℕ) (rows : RowTable) (count : ℕ) → nth_slots c (count_of c classes) ≤ count * 64 → HaveChunks classes rows → HaveChunks (classes ++ c ∷ []) (rows ++ replicate count no_rows ∷ [])
chunks_grown laws classes c rows count enough have = record {
  minis_known = length-append rows (replicate count no_rows ∷ []) ∙ ap (λ (n : ℕ). n + 1) have.minis_known ∙ sym (minis_more classes c);
  chunks_known = λ a t f. at a t f (slot_at (places_of classes) a) refl;
}
  where
    at : (a : ℕ) (t : Slot) → slot_at (places_of (classes ++ c ∷ [])) a ≡ Some t → (o : Option Slot) → slot_at (places_of classes) a ≡ o → t.nth / 64 < length (get_or (rows ++ replicate count no_rows ∷ []) t.mini [])
    at a t f None e =
        let n : IsNew classes c t = new_slot laws classes c a t e f in
        let long : length (get_or (rows ++ replicate count no_rows ∷ []) t.mini []) ≡ count =
        ap (λ (i : ℕ). length (get_or (rows ++ replicate count no_rows ∷ []) i [])) (n.mini ∙ sym have.minis_known) ∙ ap length (line_last rows (replicate count no_rows)) ∙ length-replicate count no_rows in
        let below : t.nth < count * 64 = omega (arith, n.nth, enough) in
        omega (arith, long, below)
    at a t f (Some u) e =
        let same : u ≡ t = same_Some u t (sym (laws.stay (places_of classes) c a u e) ∙ f) in
        let here : u.nth / 64 < length (get_or (rows ++ replicate count no_rows ∷ []) u.mini []) =
        subst (λ (line : List RowChunk). u.nth / 64 < length line) (sym (line_before rows (replicate count no_rows) u.mini (mini_known laws (places_of classes) rows a u e have))) (have.chunks_known a u e) in
        subst (λ (x : Slot). x.nth / 64 < length (get_or (rows ++ replicate count no_rows ∷ []) x.mini [])) same here

pub on_err : {T E P : Type 0} (r : Result T E) → P → OnErr r P
on_err (Ok x) p = tt
on_err (Err e) p = p
