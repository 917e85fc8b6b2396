-- The words of a bitmap, and one bit that changes.
use Rattle.std.proofs.Common.{◌≡◌, ◌≢◌, ℕ, ◌*◌, ◌/◌, ◌%◌, ◌<◌, ◌≤◌, ap, sym, ◌∙◌, ◌⊎◌, inl, inr, arith, List, length, get_or, set, replicate}
use Rattle.std.proofs.lemmas.Bool.{cases_eq}
use Rattle.std.proofs.lemmas.Nat.Bits.{bit_at-zero}
use Rattle.std.proofs.lemmas.List.{length-set, length-replicate, get_or-set_same, get_or-set_other, get_or-replicate, get_or_read}
use Rattle.std.proofs.lemmas.List.FromFn.{length-map-range_with_len, get_or-map-range_with_len, fill_by_all}
use Rattle.miniheap.specs.declared.place.SlotState.{SlotState}
use Rattle.miniheap.specs.declared.place.SlotState.TheVariants.{Free}
use Rattle.miniheap.specs.declared.states.Marks.{Marks}
use Rattle.miniheap.specs.Marks.{state_by, state_of_bit, state_in, states_in}

pub states_length : (words : List Marks) (slots : ℕ) → length (states_in words slots) ≡ slots
states_length words slots = length-map-range_with_len (state_in words) 0 slots

pub state_at : (words : List Marks) (slots n : ℕ) → n < slots → get_or (states_in words slots) n Free ≡ state_in words n
state_at words slots n h = get_or-map-range_with_len (state_in words) 0 slots n n Free h (omega arith)

-- words without a bit
pub none_marked : (words : List Marks) (count slots : ℕ) → words ≡ replicate count (record { held = 0; bad = 0 }) → slots ≤ count * 64 → states_in words slots ≡ replicate slots Free
none_marked words count slots e h =
    sym (fill_by_all (state_in words) (replicate slots Free) slots Free (length-replicate slots Free) (λ k p. get_or-replicate slots k Free Free p ∙ sym (free k p)))
  where
    none : Marks
    none = record { held = 0; bad = 0 }

    free : (k : ℕ) → k < slots → state_in words k ≡ Free
    free k p =
        ap (λ (ws : List Marks). state_in ws k) e
        ∙ ap (λ (m : Marks). state_of_bit m (k % 64)) (get_or-replicate count (k / 64) none none (let q : k / 64 < count = omega (arith, p, h) in q))
        ∙ ap (λ (x : ℕ). state_by x x) (bit_at-zero (k % 64))

-- a word whose marks changed for one slot alone
pub one_marked : (words : List Marks) (slots nth : ℕ) (state : SlotState) (m new : Marks) → m ≡ get_or words (nth / 64) m → nth < slots → slots ≤ length words * 64 → state_of_bit new (nth % 64) ≡ state
    → ((i : ℕ) → i < 64 → i ≢ nth % 64 → state_of_bit new i ≡ state_of_bit m i) → states_in (set words (nth / 64) new) slots ≡ set (states_in words slots) nth state
one_marked words slots nth state m new e h few own others =
    sym (fill_by_all (state_in (set words (nth / 64) new)) (set (states_in words slots) nth state) slots Free (length-set (states_in words slots) nth state ∙ states_length words slots) (λ k p. at k p (cases_eq k nth)))
  where
    same_word : m ≡ get_or words (nth / 64) (record { held = 0; bad = 0 })
    same_word = get_or_read words (nth / 64) m (omega (arith, h, few)) e (record { held = 0; bad = 0 })

    here : state_in (set words (nth / 64) new) nth ≡ state
    here = ap (λ (x : Marks). state_of_bit x (nth % 64)) (get_or-set_same words (nth / 64) new (record { held = 0; bad = 0 }) (omega (arith, h, few))) ∙ own

    there : (k : ℕ) → k ≢ nth → (k / 64 ≡ nth / 64) ⊎ (k / 64 ≡ nth / 64 → ⊥) → state_in (set words (nth / 64) new) k ≡ state_in words k
    there k n (inl q) =
        ap (λ (x : ℕ). state_of_bit (get_or (set words (nth / 64) new) x (record { held = 0; bad = 0 })) (k % 64)) q
        ∙ ap (λ (x : Marks). state_of_bit x (k % 64)) (get_or-set_same words (nth / 64) new (record { held = 0; bad = 0 }) (omega (arith, h, few)))
        ∙ others (k % 64) (omega arith) (λ r. n (let z : k ≡ nth = omega (arith, q, r) in z))
        ∙ ap (λ (x : Marks). state_of_bit x (k % 64)) same_word
        ∙ ap (λ (x : ℕ). state_of_bit (get_or words x (record { held = 0; bad = 0 })) (k % 64)) (sym q)
    there k n (inr q) = ap (λ (x : Marks). state_of_bit x (k % 64)) (get_or-set_other words (nth / 64) (k / 64) new (record { held = 0; bad = 0 }) q)

    at : (k : ℕ) → k < slots → (k ≡ nth) ⊎ (k ≡ nth → ⊥) → get_or (set (states_in words slots) nth state) k Free ≡ state_in (set words (nth / 64) new) k
    at k p (inl q) =
        ap (λ (x : ℕ). get_or (set (states_in words slots) nth state) x Free) q
        ∙ get_or-set_same (states_in words slots) nth state Free (let z : length (states_in words slots) ≡ slots = states_length words slots in omega (arith, z, h))
        ∙ sym here ∙ ap (state_in (set words (nth / 64) new)) (sym q)
    at k p (inr q) = get_or-set_other (states_in words slots) nth k state Free q ∙ state_at words slots k p ∙ sym (there k q (cases_eq (k / 64) (nth / 64)))
