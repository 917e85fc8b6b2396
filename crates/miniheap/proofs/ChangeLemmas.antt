-- The states of a grid stay sound when a slot changes and when a class grows.
use Rattle.std.proofs.Common.{◌≡◌, ℕ, zero, suc, ◌+◌, ◌/◌, ◌<◌, ◌≤◌, ◌^◌, refl, ap, sym, ◌∙◌, Bool, true, false, cond, not, inr, arith, nat_eq, List, [], ◌∷◌, ◌++◌, length, get_or, map, set, count_by, replicate}
use Rattle.std.specs.Ordering.{nat_cmp}
use Rattle.std.specs.FinSet.{FinSet, contains, from_list, contains-from_list_nat}
use Rattle.std.proofs.lemmas.List.{length-set, length-replicate, append-nil, map-set, map_push, set-get_or}
use Rattle.std.proofs.lemmas.Nat.{pow_pos}
use Rattle.size_class.specs.Classes.{nth_slots}
use Rattle.miniheap.specs.declared.place.SlotState.{SlotState}
use Rattle.miniheap.specs.declared.place.SlotState.TheVariants.{Free, Held, Bad}
use Rattle.miniheap.specs.Layout.{Mini, mini_end, heap_from, count_of, nth_mini, minis, mini_at, bytes_of, mini_slots, all_slots, class_slots}
use Rattle.miniheap.specs.Slots.{Slots, is_free_state, taken_count, wanted_of, grown, state_before}
use Rattle.miniheap.specs.Sound.{chosen, is_held_state, is_bad_state, states_at, all_states, stands_for, HaveStates, IsSound, freed_by, taken_by}
use Rattle.miniheap.proofs.ListLemmas.{flat_map-append, count-append, count_none}
use Rattle.miniheap.proofs.LayoutLemmas.{minis_chain, chain_rises, minis_push, all_slots_push, class_slots_push, rises-slots_from}
use Rattle.miniheap.proofs.SlotsLemmas.{not_chosen, is_taken, taken_marked}
use Rattle.miniheap.proofs.GrowLemmas.{slots_wanted}
use Rattle.miniheap.proofs.SoundLemmas.{Found, found, state_is, bad_is, with_state, stands_marked, states_length}

-- ---- a slot changes

states_same : (ls : List (List SlotState)) (i n : ℕ) (t : SlotState) → map (λ (ts : List SlotState). length ts) (with_state ls i n t) ≡ map (λ (ts : List SlotState). length ts) ls
states_same ls i n t =
    map-set (λ (ts : List SlotState). length ts) ls i (set (states_at ls i) n t)
    ∙ ap (λ (x : ℕ). set (map (λ (ts : List SlotState). length ts) ls) i x) (length-set (states_at ls i) n t)
    ∙ sym (map-set (λ (ts : List SlotState). length ts) ls i (states_at ls i))
    ∙ ap (map (λ (ts : List SlotState). length ts)) (set-get_or ls i [])

not_bad_before : (t : SlotState) → is_bad_state (state_before t) ≡ false
not_bad_before Free = refl
not_bad_before Held = refl
not_bad_before Bad = refl

-- how the count of a class changes
pub counts_marked : (cs : List ℕ) (ls : List (List SlotState)) (i n : ℕ) (t : SlotState) → i < length (minis cs) → n < (mini_at (minis cs) i).slots → (f : Found cs ls i n) → get_or (states_at ls i) n Free ≡ state_before t → (c : ℕ)
    → taken_count (stands_for cs (with_state ls i n t)) c + freed_by t (mini_at (minis cs) i).class c ≡ taken_count (stands_for cs ls) c + taken_by t (mini_at (minis cs) i).class c
counts_marked cs ls i n t h k f b c =
    ap (λ (x : Slots). taken_count x c + freed_by t (mini_at (minis cs) i).class c) (stands_marked cs ls i n t f b)
    ∙ taken_marked (stands_for cs ls) i n t h k (state_is cs ls i n f ∙ b) (bad_is cs ls i n f ∙ ap is_bad_state b ∙ not_bad_before t) c

-- how the counts that are kept change
abbrev pub Counts : SlotState → (class : ℕ) → (old new : List ℕ) → Type 0
Counts t class old new = (c : ℕ) → 4 ≤ c → c ≤ 22 → get_or new c 0 + freed_by t class c ≡ get_or old c 0 + taken_by t class c

pub sound_marked : (cs : List ℕ) (ls : List (List SlotState)) (taken new : List ℕ) → IsSound cs ls taken → (i n : ℕ) (t : SlotState) → i < length (minis cs) → n < (mini_at (minis cs) i).slots
    → get_or (states_at ls i) n Free ≡ state_before t → Counts t (mini_at (minis cs) i).class taken new → IsSound cs (with_state ls i n t) new
sound_marked cs ls taken new ok i n t h k b counts = record {
  states_are = states_same ls i n t ∙ ok.states_are;
  taken_are = λ c lo hi. omega (arith, counts c lo hi, counts_marked cs ls i n t h k (found cs ls ok.states_are i n h k) b c, ok.taken_are c lo hi);
}

-- ---- a class grows

chosen-append : (test : SlotState → Bool) (xs ys : List ℕ) (ts us : List SlotState) → length ts ≡ length xs → chosen test (xs ++ ys) (ts ++ us) ≡ chosen test xs ts ++ chosen test ys us
chosen-append test [] ys [] us l = refl
chosen-append test [] ys (t ∷ ts) us l = absurd (omega arith)
chosen-append test (a ∷ xs) ys [] us l = absurd (omega arith)
chosen-append test (a ∷ xs) ys (t ∷ ts) us l = at (test t) (chosen-append test xs ys ts us (omega arith))
  where
    at : (b : Bool) → chosen test (xs ++ ys) (ts ++ us) ≡ chosen test xs ts ++ chosen test ys us
        → cond b (a ∷ chosen test (xs ++ ys) (ts ++ us)) (chosen test (xs ++ ys) (ts ++ us)) ≡ cond b (a ∷ chosen test xs ts) (chosen test xs ts) ++ chosen test ys us
    at true e = ap (λ zs. a ∷ zs) e
    at false e = e

chosen_free : (test : SlotState → Bool) → test Free ≡ false → (xs : List ℕ) (n : ℕ) → chosen test xs (replicate n Free) ≡ []
chosen_free test e [] n = refl
chosen_free test e (a ∷ xs) zero = refl
chosen_free test e (a ∷ xs) (suc n) = ap (λ (b : Bool). cond b (a ∷ chosen test xs (replicate n Free)) (chosen test xs (replicate n Free))) e ∙ chosen_free test e xs n

-- the states of a class's next miniheap
abbrev pub fresh : List ℕ → ℕ → List SlotState
fresh cs c = replicate (nth_slots c (count_of c cs)) Free

pub stands_grown : (cs : List ℕ) (ls : List (List SlotState)) → HaveStates (minis cs) ls → (c : ℕ) → stands_for (cs ++ c ∷ []) (ls ++ fresh cs c ∷ []) ≡ grown (stands_for cs ls) c
stands_grown cs ls e c =
    ap (λ (x : FinSet nat_cmp). let s : Slots = record { classes = cs ++ c ∷ []; held = x; bad = from_list (chosen is_bad_state (all_slots (minis (cs ++ c ∷ []))) (all_states (ls ++ fresh cs c ∷ []))) } in s) (ap (λ (xs : List ℕ). from_list {R = nat_cmp} xs) (kept is_held_state refl))
    ∙ ap (λ (x : FinSet nat_cmp). let s : Slots = record { classes = cs ++ c ∷ []; held = from_list (chosen is_held_state (all_slots (minis cs)) (all_states ls)); bad = x } in s) (ap (λ (xs : List ℕ). from_list {R = nat_cmp} xs) (kept is_bad_state refl))
  where
    m : Mini
    m = nth_mini c (heap_from + bytes_of (minis cs)) (count_of c cs)

    kept : (test : SlotState → Bool) → test Free ≡ false → chosen test (all_slots (minis (cs ++ c ∷ []))) (all_states (ls ++ fresh cs c ∷ [])) ≡ chosen test (all_slots (minis cs)) (all_states ls)
    kept test f =
        ap (λ (ms : List Mini). chosen test (all_slots ms) (all_states (ls ++ fresh cs c ∷ []))) (minis_push cs c)
        ∙ ap (λ (xs : List ℕ). chosen test xs (all_states (ls ++ fresh cs c ∷ []))) (all_slots_push (minis cs) m)
        ∙ ap (λ (ts : List SlotState). chosen test (all_slots (minis cs) ++ mini_slots m) ts) (flat_map-append (λ (x : List SlotState). x) ls (fresh cs c ∷ []) ∙ ap (λ (ts : List SlotState). all_states ls ++ ts) (append-nil (fresh cs c)))
        ∙ chosen-append test (all_slots (minis cs)) (mini_slots m) (all_states ls) (fresh cs c) (states_length (minis cs) ls e)
        ∙ ap (λ (xs : List ℕ). chosen test (all_slots (minis cs)) (all_states ls) ++ xs) (chosen_free test f (mini_slots m) (nth_slots c (count_of c cs)))
        ∙ append-nil (chosen test (all_slots (minis cs)) (all_states ls))

-- from the heap's end on, no slot is taken
pub free_beyond : (cs : List ℕ) (ls : List (List SlotState)) (q : ℕ) → heap_from + bytes_of (minis cs) ≤ q → is_taken (stands_for cs ls) q ≡ false
free_beyond cs ls q h =
    ap (λ (b : Bool). not (is_free_state (cond b Held (cond (contains (stands_for cs ls).bad q) Bad Free)))) (out is_held_state)
    ∙ ap (λ (b : Bool). not (is_free_state (cond b Bad Free))) (out is_bad_state)
  where
    out : (test : SlotState → Bool) → contains (from_list {R = nat_cmp} (chosen test (all_slots (minis cs)) (all_states ls))) q ≡ false
    out test =
        contains-from_list_nat (chosen test (all_slots (minis cs)) (all_states ls)) q
        ∙ not_chosen test q heap_from (heap_from + bytes_of (minis cs)) (all_slots (minis cs)) (all_states ls) (chain_rises heap_from (minis cs) (minis_chain cs)) (inr h)

taken_grown : (cs : List ℕ) (ls : List (List SlotState)) (c d : ℕ) → taken_count (grown (stands_for cs ls) c) d ≡ taken_count (stands_for cs ls) d
taken_grown cs ls c d =
    ap (λ (ms : List Mini). count_by p (class_slots d ms)) (minis_push cs c)
    ∙ ap (count_by p) (class_slots_push d (minis cs) m)
    ∙ count-append p (class_slots d (minis cs)) (cond (nat_eq c d) (mini_slots m) [])
    ∙ ap (λ (x : ℕ). count_by p (class_slots d (minis cs)) + x) (at (nat_eq c d))
    ∙ (let e : count_by p (class_slots d (minis cs)) + 0 ≡ count_by p (class_slots d (minis cs)) = omega arith in e)
  where
    m : Mini
    m = nth_mini c (heap_from + bytes_of (minis cs)) (count_of c cs)

    p : ℕ → Bool
    p = is_taken (stands_for cs ls)

    at : (t : Bool) → count_by p (cond t (mini_slots m) []) ≡ 0
    at true = count_none p m.base (mini_end m) (λ q h. free_beyond cs ls q h) (mini_slots m) (rises-slots_from m.base (2 ^ c) m.slots (pow_pos c))
    at false = refl

pub sound_grown : (cs : List ℕ) (ls : List (List SlotState)) (taken : List ℕ) → IsSound cs ls taken → (c : ℕ) → IsSound (cs ++ c ∷ []) (ls ++ fresh cs c ∷ []) taken
sound_grown cs ls taken ok c = record {
  states_are =
      map_push (λ (ts : List SlotState). length ts) ls (fresh cs c)
      ∙ ap (λ (xs : List ℕ). xs ++ length (fresh cs c) ∷ []) ok.states_are
      ∙ ap (λ (x : ℕ). map (λ (x : Mini). x.slots) (minis cs) ++ x ∷ []) (length-replicate (nth_slots c (count_of c cs)) Free)
      ∙ sym (map_push (λ (x : Mini). x.slots) (minis cs) m)
      ∙ ap (map (λ (x : Mini). x.slots)) (sym (minis_push cs c));
  taken_are = λ d lo hi. ok.taken_are d lo hi ∙ sym (taken_grown cs ls c d) ∙ ap (λ (s : Slots). taken_count s d) (sym (stands_grown cs ls ok.states_are c));
}
  where
    m : Mini
    m = nth_mini c (heap_from + bytes_of (minis cs)) (count_of c cs)

-- ---- what growth finds and makes

fresh_are : (cs : List ℕ) (ls : List (List SlotState)) (s : Slots) → stands_for cs ls ≡ s → (c bytes : ℕ) → bytes ≡ wanted_of s c → replicate (bytes / 2 ^ c) Free ≡ fresh cs c
fresh_are cs ls s v c bytes b = ap (λ (n : ℕ). replicate n Free) (slots_wanted cs c bytes (b ∙ ap (λ (x : Slots). wanted_of x c) (sym v)))

pub sound_added : (cs : List ℕ) (ls : List (List SlotState)) (taken : List ℕ) → IsSound cs ls taken → (s : Slots) → stands_for cs ls ≡ s → (c bytes : ℕ) → bytes ≡ wanted_of s c
    → (classes : List ℕ) (lists : List (List SlotState)) → classes ≡ cs ++ c ∷ [] → lists ≡ ls ++ replicate (bytes / 2 ^ c) Free ∷ [] → IsSound classes lists taken
sound_added cs ls taken ok s v c bytes b classes lists e f = rw (e, f, fresh_are cs ls s v c bytes b) (sound_grown cs ls taken ok c)

pub stands_added : (cs : List ℕ) (ls : List (List SlotState)) (taken : List ℕ) → IsSound cs ls taken → (s : Slots) → stands_for cs ls ≡ s → (c bytes : ℕ) → bytes ≡ wanted_of s c
    → (classes : List ℕ) (lists : List (List SlotState)) → classes ≡ cs ++ c ∷ [] → lists ≡ ls ++ replicate (bytes / 2 ^ c) Free ∷ [] → stands_for classes lists ≡ grown s c
stands_added cs ls taken ok s v c bytes b classes lists e f =
    ap (λ (x : List ℕ). stands_for x lists) e
    ∙ ap (stands_for (cs ++ c ∷ [])) (f ∙ ap (λ (ts : List SlotState). ls ++ ts ∷ []) (fresh_are cs ls s v c bytes b))
    ∙ stands_grown cs ls ok.states_are c
    ∙ ap (λ (x : Slots). grown x c) v
