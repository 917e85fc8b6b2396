-- What the states of a grid stand for, and after a slot changed.
use Rattle.std.proofs.Common.{◌≡◌, ℕ, suc, ◌+◌, ◌-◌, ◌*◌, ◌<◌, ◌^◌, refl, ap, sym, ◌∙◌, subst, Bool, cond, arith, List, [], ◌∷◌, ◌++◌, length, get_or, take, drop, map, set}
use Rattle.std.specs.Ordering.{nat_cmp}
use Rattle.std.specs.FinSet.{FinSet, contains, insert, remove, from_list, contains-from_list_nat}
use Rattle.std.proofs.lemmas.List.{length-append, length-map, get_or-append-add, get_or_append_left, get_or-map, set-append_left, set-append_right, take-map}
use Rattle.miniheap.specs.declared.place.SlotState.{SlotState}
use Rattle.miniheap.specs.declared.place.SlotState.TheVariants.{Free, Held, Bad}
use Rattle.miniheap.specs.Layout.{Mini, heap_from, minis, mini_at, bytes_of, mini_slots, all_slots}
use Rattle.miniheap.specs.Slots.{Slots, state_of, marked, state_before}
use Rattle.miniheap.specs.Sound.{chosen, is_held_state, is_bad_state, states_at, all_states, stands_for, HaveStates}
use Rattle.miniheap.proofs.ListLemmas.{flat_map-append, split_at, set_at_split, Rises}
use Rattle.miniheap.proofs.LayoutLemmas.{minis_chain, chain_rises, slot_of_all, length-slots_from}
use Rattle.miniheap.proofs.SlotsLemmas.{among, chosen_at, set_of_in, set_of_out, set_of_same}

-- ---- the states of a miniheap

pub lists_length : (cs : List ℕ) (ls : List (List SlotState)) → HaveStates (minis cs) ls → length (minis cs) ≡ length ls
lists_length cs ls e = sym (length-map (minis cs) (λ (m : Mini). m.slots)) ∙ ap length (sym e) ∙ length-map ls (λ (ts : List SlotState). length ts)

pub states_of_mini : (cs : List ℕ) (ls : List (List SlotState)) → HaveStates (minis cs) ls → (i : ℕ) → i < length (minis cs) → length (states_at ls i) ≡ (mini_at (minis cs) i).slots
states_of_mini cs ls e i h =
    sym (get_or-map (λ (ts : List SlotState). length ts) ls i [] 0 (omega (arith, h, lists_length cs ls e)))
    ∙ ap (λ (xs : List ℕ). get_or xs i 0) e
    ∙ get_or-map (λ (m : Mini). m.slots) (minis cs) i (record { class = 0; base = 0; slots = 0 }) 0 h

pub states_length : (ms : List Mini) (ls : List (List SlotState)) → HaveStates ms ls → length (all_states ls) ≡ length (all_slots ms)
states_length [] [] e = refl
states_length [] (ts ∷ ls) e = absurd (let z : suc (length (map (λ (us : List SlotState). length us) ls)) ≡ 0 = ap length e in omega arith)
states_length (m ∷ ms) [] e = absurd (let z : 0 ≡ suc (length (map (λ (x : Mini). x.slots) ms)) = ap length e in omega arith)
states_length (m ∷ ms) (ts ∷ ls) e =
    let head : length ts ≡ m.slots = ap (λ (xs : List ℕ). get_or xs 0 0) e in
    let rest : HaveStates ms ls = ap (drop 1) e in
    omega (arith, head, states_length ms ls rest, length-append ts (all_states ls), length-append (mini_slots m) (all_slots ms), length-slots_from m.base (2 ^ m.class) m.slots)

-- the place of a slot's state among all states
abbrev pub index_of : List (List SlotState) → ℕ → ℕ → ℕ
index_of ls i n = length (all_states (take i ls)) + n

index_is : (cs : List ℕ) (ls : List (List SlotState)) → HaveStates (minis cs) ls → (i n : ℕ) → length (all_slots (take i (minis cs))) + n ≡ index_of ls i n
index_is cs ls e i n =
    ap (λ (x : ℕ). x + n) (sym (states_length (take i (minis cs)) (take i ls) (sym (take-map (λ (ts : List SlotState). length ts) i ls) ∙ ap (take i) e ∙ take-map (λ (m : Mini). m.slots) i (minis cs))))

state_at_index : (ls : List (List SlotState)) (i n : ℕ) → i < length ls → n < length (states_at ls i) → get_or (all_states ls) (index_of ls i n) Free ≡ get_or (states_at ls i) n Free
state_at_index ls i n h k =
    let e : all_states ls ≡ all_states (take i ls) ++ (states_at ls i ++ all_states (drop (suc i) ls)) =
    ap all_states (split_at ls i [] h) ∙ flat_map-append (λ (ts : List SlotState). ts) (take i ls) (states_at ls i ∷ drop (suc i) ls) in
    ap (λ (ts : List SlotState). get_or ts (index_of ls i n) Free) e
    ∙ get_or-append-add (all_states (take i ls)) (states_at ls i ++ all_states (drop (suc i) ls)) n Free
    ∙ get_or_append_left (states_at ls i) (all_states (drop (suc i) ls)) Free n k

-- the address of slot n of miniheap i
abbrev pub address_at : List ℕ → (mini nth : ℕ) → ℕ
address_at cs i n = (mini_at (minis cs) i).base + n * 2 ^ (mini_at (minis cs) i).class

-- what is needed of a slot by its numbers
pub record Found (cs : List ℕ) (ls : List (List SlotState)) (i n : ℕ) : Type 0 where
  pub rises : Rises heap_from (heap_from + bytes_of (minis cs)) (all_slots (minis cs))
  pub lengths : length (all_states ls) ≡ length (all_slots (minis cs))
  pub below : index_of ls i n < length (all_slots (minis cs))
  pub at_index : get_or (all_slots (minis cs)) (index_of ls i n) 0 ≡ address_at cs i n
  pub list_known : i < length ls
  pub state_known : n < length (states_at ls i)
  pub state_there : get_or (all_states ls) (index_of ls i n) Free ≡ get_or (states_at ls i) n Free

pub found : (cs : List ℕ) (ls : List (List SlotState)) → HaveStates (minis cs) ls → (i n : ℕ) → i < length (minis cs) → n < (mini_at (minis cs) i).slots → Found cs ls i n
found cs ls e i n h k =
    let r = slot_of_all (minis cs) i n h k in
    let p : length (all_slots (take i (minis cs))) + n ≡ index_of ls i n = index_is cs ls e i n in
    let list_known : i < length ls = omega (arith, h, lists_length cs ls e) in
    let state_known : n < length (states_at ls i) = omega (arith, k, states_of_mini cs ls e i h) in
    record {
      rises = chain_rises heap_from (minis cs) (minis_chain cs);
      lengths = states_length (minis cs) ls e;
      below = subst (λ (x : ℕ). x < length (all_slots (minis cs))) p r.0;
      at_index = ap (λ (x : ℕ). get_or (all_slots (minis cs)) x 0) (sym p) ∙ r.1;
      list_known = list_known;
      state_known = state_known;
      state_there = state_at_index ls i n list_known state_known;
    }

-- whether a slot's address is in one of the sets
pub tested : (test : SlotState → Bool) (cs : List ℕ) (ls : List (List SlotState)) (i n : ℕ) → (f : Found cs ls i n)
    → contains (from_list {R = nat_cmp} (chosen test (all_slots (minis cs)) (all_states ls))) (address_at cs i n) ≡ test (get_or (states_at ls i) n Free)
tested test cs ls i n f =
    contains-from_list_nat (chosen test (all_slots (minis cs)) (all_states ls)) (address_at cs i n)
    ∙ ap (λ (q : ℕ). among q (chosen test (all_slots (minis cs)) (all_states ls))) (sym f.at_index)
    ∙ chosen_at test heap_from (heap_from + bytes_of (minis cs)) (all_slots (minis cs)) (all_states ls) (index_of ls i n) f.rises f.lengths f.below
    ∙ ap test f.state_there

pub state_is : (cs : List ℕ) (ls : List (List SlotState)) (i n : ℕ) → (f : Found cs ls i n) → state_of (stands_for cs ls) (address_at cs i n) ≡ get_or (states_at ls i) n Free
state_is cs ls i n f =
    ap (λ (b : Bool). cond b Held (cond (contains (stands_for cs ls).bad (address_at cs i n)) Bad Free)) (tested is_held_state cs ls i n f)
    ∙ ap (λ (b : Bool). cond (is_held_state (get_or (states_at ls i) n Free)) Held (cond b Bad Free)) (tested is_bad_state cs ls i n f)
    ∙ at (get_or (states_at ls i) n Free)
  where
    at : (t : SlotState) → cond (is_held_state t) Held (cond (is_bad_state t) Bad Free) ≡ t
    at Free = refl
    at Held = refl
    at Bad = refl

pub bad_is : (cs : List ℕ) (ls : List (List SlotState)) (i n : ℕ) → (f : Found cs ls i n) → contains (stands_for cs ls).bad (address_at cs i n) ≡ is_bad_state (get_or (states_at ls i) n Free)
bad_is cs ls i n f = tested is_bad_state cs ls i n f

-- ---- a slot changes

abbrev pub with_state : List (List SlotState) → ℕ → ℕ → SlotState → List (List SlotState)
with_state ls i n t = set ls i (set (states_at ls i) n t)

states_set : (ls : List (List SlotState)) (i n : ℕ) (t : SlotState) → i < length ls → n < length (states_at ls i) → all_states (with_state ls i n t) ≡ set (all_states ls) (index_of ls i n) t
states_set ls i n t h k =
    let us : List SlotState = states_at ls i in
    let f : List SlotState → List SlotState = λ (x : List SlotState). x in
    let e : all_states ls ≡ all_states (take i ls) ++ (us ++ all_states (drop (suc i) ls)) = ap all_states (split_at ls i [] h) ∙ flat_map-append f (take i ls) (us ∷ drop (suc i) ls) in
    ap all_states (set_at_split ls i (set us n t) h)
    ∙ flat_map-append f (take i ls) (set us n t ∷ drop (suc i) ls)
    ∙ ap (λ (ts : List SlotState). all_states (take i ls) ++ ts) (sym (set-append_left us (all_states (drop (suc i) ls)) n t k))
    ∙ ap (λ (x : ℕ). all_states (take i ls) ++ set (us ++ all_states (drop (suc i) ls)) x t) (let q : n ≡ length (all_states (take i ls)) + n - length (all_states (take i ls)) = omega arith in q)
    ∙ sym (set-append_right (all_states (take i ls)) (us ++ all_states (drop (suc i) ls)) (length (all_states (take i ls))) (index_of ls i n) t refl (omega arith))
    ∙ ap (λ (ts : List SlotState). set ts (index_of ls i n) t) (sym e)

pub stands_marked : (cs : List ℕ) (ls : List (List SlotState)) (i n : ℕ) (t : SlotState) → (f : Found cs ls i n) → get_or (states_at ls i) n Free ≡ state_before t
    → stands_for cs (with_state ls i n t) ≡ marked (stands_for cs ls) (address_at cs i n) t
stands_marked cs ls i n t f b = at t b
  where
    xs : List ℕ
    xs = all_slots (minis cs)

    ts : List SlotState
    ts = all_states ls

    g : ℕ
    g = index_of ls i n

    short : g < length ts
    short = omega (arith, f.below, f.lengths)

    was : (u : SlotState) → get_or (states_at ls i) n Free ≡ u → get_or ts g Free ≡ u
    was u e = f.state_there ∙ e

    both : (u : SlotState) (held bad : FinSet nat_cmp) → from_list {R = nat_cmp} (chosen is_held_state xs (set ts g u)) ≡ held → from_list {R = nat_cmp} (chosen is_bad_state xs (set ts g u)) ≡ bad
        → stands_for cs (with_state ls i n u) ≡ record { classes = cs; held = held; bad = bad }
    both u held bad p q =
        ap (λ (vs : List SlotState). let s : Slots = record { classes = cs; held = from_list (chosen is_held_state xs vs); bad = from_list (chosen is_bad_state xs vs) } in s) (states_set ls i n u f.list_known f.state_known)
        ∙ ap (λ (x : FinSet nat_cmp). let s : Slots = record { classes = cs; held = x; bad = from_list (chosen is_bad_state xs (set ts g u)) } in s) p
        ∙ ap (λ (x : FinSet nat_cmp). let s : Slots = record { classes = cs; held = held; bad = x } in s) q

    at : (u : SlotState) → get_or (states_at ls i) n Free ≡ state_before u → stands_for cs (with_state ls i n u) ≡ marked (stands_for cs ls) (address_at cs i n) u
    at Free e = both Free (remove (stands_for cs ls).held (address_at cs i n)) (stands_for cs ls).bad
        (set_of_out is_held_state Free refl heap_from (heap_from + bytes_of (minis cs)) xs ts g f.rises f.lengths f.below ∙ ap (remove (stands_for cs ls).held) f.at_index)
        (set_of_same is_bad_state Free xs ts g (sym (ap is_bad_state (was Held e))) short)
    at Held e = both Held (insert (stands_for cs ls).held (address_at cs i n)) (stands_for cs ls).bad
        (set_of_in is_held_state Held refl xs ts g f.lengths f.below ∙ ap (insert (stands_for cs ls).held) f.at_index)
        (set_of_same is_bad_state Held xs ts g (sym (ap is_bad_state (was Free e))) short)
    at Bad e = both Bad (stands_for cs ls).held (insert (stands_for cs ls).bad (address_at cs i n))
        (set_of_same is_held_state Bad xs ts g (sym (ap is_held_state (was Free e))) short)
        (set_of_in is_bad_state Bad refl xs ts g f.lengths f.below ∙ ap (insert (stands_for cs ls).bad) f.at_index)
