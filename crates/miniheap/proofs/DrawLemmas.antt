-- Draws, and the next free slot in cyclic order.
use Rattle.std.proofs.Common.{◌≡◌, ℕ, zero, suc, ◌+◌, ◌-◌, ◌*◌, ◌/◌, ◌%◌, ◌<◌, ◌≤◌, ◌^◌, refl, ap, sym, ◌∙◌, subst, Bool, true, false, cond, ◌&&◌, ◌⊎◌, inl, inr, arith, nat_lt, nat_le, List, [], ◌∷◌, get_or, Some, None, Option}
use Rattle.std.proofs.lemmas.Bool.{cases_lt, ltb-false, not-false, true≢false}
use Rattle.std.proofs.Math.Nat.{mod-eq_of_lt, mod_self, add-mod_right}
use Rattle.std.proofs.lemmas.Nat.{mod_below}
use Rattle.miniheap.specs.WordList.{WordList, HasSpent, draws_of, after, word_from}
use Rattle.std.proofs.lemmas.Option.{same_Some}
use Rattle.rand_pcg.specs.Lcg.{Lcg}
use Rattle.rand_pcg.specs.Pcg.{pcg32}
use Rattle.miniheap.specs.declared.place.Slot.{Slot}
use Rattle.miniheap.specs.Layout.{Mini, mini_end, minis, class_slots}
use Rattle.miniheap.specs.Slots.{Slots, state_of, is_free_state, is_free, slot_count, taken_count, must_grow, slot_in, slot_from, slot_at, IsFreeSlot}
use Rattle.miniheap.specs.Draws.{Pick, drawn, next_free, after_draws, or_else, address_of, is_free_number, IsDrawn, FoundBy, MissedBy, IsNext}
use Rattle.miniheap.proofs.ListLemmas.{one_fails}
use Rattle.miniheap.proofs.SlotsLemmas.{is_taken}
use Rattle.miniheap.proofs.WordLemmas.{after-zero, after-add, spent_word, spend}
use mathlib.Core.Path.{fun_ext}

-- ---- one draw

pub drawn_hit : (word : ℕ → ℕ) (free : ℕ → Bool) (slots n left : ℕ) → free (word n % slots) ≡ true → drawn word free slots n (suc left) ≡ Some (record { number = word n % slots; draws = n + 1 })
unfolding drawn
drawn_hit word free slots n left e = ap (λ (b : Bool). cond b (Some (record { number = word n % slots; draws = n + 1 })) (drawn word free slots (n + 1) left)) e

pub drawn_miss : (word : ℕ → ℕ) (free : ℕ → Bool) (slots n left : ℕ) → free (word n % slots) ≡ false → drawn word free slots n (suc left) ≡ drawn word free slots (n + 1) left
unfolding drawn
drawn_miss word free slots n left e = ap (λ (b : Bool). cond b (Some (record { number = word n % slots; draws = n + 1 })) (drawn word free slots (n + 1) left)) e

pub drawn_none : (word : ℕ → ℕ) (free : ℕ → Bool) (slots n : ℕ) → drawn word free slots n 0 ≡ None
unfolding drawn
drawn_none word free slots n = refl

-- ---- one step on

pub next_hit : (free : ℕ → Bool) (slots k left : ℕ) → free ((k + 1) % slots) ≡ true → next_free free slots k (suc left) ≡ Some ((k + 1) % slots)
unfolding next_free
next_hit free slots k left e = ap (λ (b : Bool). cond b (Some ((k + 1) % slots)) (next_free free slots ((k + 1) % slots) left)) e

pub next_miss : (free : ℕ → Bool) (slots k left : ℕ) → free ((k + 1) % slots) ≡ false → next_free free slots k (suc left) ≡ next_free free slots ((k + 1) % slots) left
unfolding next_free
next_miss free slots k left e = ap (λ (b : Bool). cond b (Some ((k + 1) % slots)) (next_free free slots ((k + 1) % slots) left)) e

pub next_none : (free : ℕ → Bool) (slots k : ℕ) → next_free free slots k 0 ≡ None
unfolding next_free
next_none free slots k = refl

-- the number after k, as it is counted
pub wraps : (k n : ℕ) → k + 1 ≡ n → (k + 1) % n ≡ 0
wraps k n e = ap (λ (x : ℕ). x % n) e ∙ mod_self n

pub steps : (k n : ℕ) → k + 1 < n → (k + 1) % n ≡ k + 1
steps k n h = mod-eq_of_lt h

-- ---- a free slot is found

-- where nothing was found, none of the numbers that were passed is free
none_free : (free : ℕ → Bool) (n k left : ℕ) → k < n → next_free free n k left ≡ None → (j : ℕ) → j < left → free ((k + 1 + j) % n) ≡ false
none_free free n k zero h e j p = absurd (omega arith)
none_free free n k (suc left) h e j p = at (free ((k + 1) % n)) refl (λ m q i. none_free free n m left q i) j p
  where
    m : ℕ
    m = (k + 1) % n

    below : (k + 1) % n < n
    below = mod_below (k + 1) n (omega arith)

    on : (j : ℕ) → ((k + 1) % n + 1 + j) % n ≡ (k + 1 + suc j) % n
    on j = by_end (cases_lt (k + 1) n)
      where
        by_end : (k + 1 < n) ⊎ (n ≤ k + 1) → ((k + 1) % n + 1 + j) % n ≡ (k + 1 + suc j) % n
        by_end (inl q) = ap (λ (x : ℕ). (x + 1 + j) % n) (steps k n q) ∙ ap (λ (x : ℕ). x % n) (let z : k + 1 + 1 + j ≡ k + 1 + suc j = omega arith in z)
        by_end (inr q) =
            let last : k + 1 ≡ n = omega arith in
            ap (λ (x : ℕ). (x + 1 + j) % n) (wraps k n last)
            ∙ ap (λ (x : ℕ). x % n) (let z : 0 + 1 + j ≡ suc j = omega arith in z)
            ∙ sym (add-mod_right (suc j) n) ∙ ap (λ (x : ℕ). x % n) (let z : suc j + n ≡ k + 1 + suc j = omega arith in z)

    at : (t : Bool) → free ((k + 1) % n) ≡ t → ((m : ℕ) → m < n → next_free free n m left ≡ None → (j : ℕ) → j < left → free ((m + 1 + j) % n) ≡ false) → (j : ℕ) → j < suc left → free ((k + 1 + j) % n) ≡ false
    at true f r j p = absurd (let z : None ≡ Some ((k + 1) % n) = sym e ∙ next_hit free n k left f in cc)
    at false f r zero p = ap (λ (x : ℕ). free (x % n)) (let z : k + 1 + 0 ≡ k + 1 = omega arith in z) ∙ f
    at false f r (suc j) p = ap free (sym (on j)) ∙ r ((k + 1) % n) below (sym (next_miss free n k left f) ∙ e) j (omega arith)

-- every number is passed
pub next_is_there : (free : ℕ → Bool) (n k f : ℕ) → k < n → f < n → free f ≡ true → (m : ℕ) × (next_free free n k n ≡ Some m)
next_is_there free n k f h p e = at (next_free free n k n) refl
  where
    reached : next_free free n k n ≡ None → ⊥
    reached z = by_order (cases_lt k f)
      where
        by_order : (k < f) ⊎ (f ≤ k) → ⊥
        by_order (inl q) =
            let a : free ((k + 1 + (f - (k + 1))) % n) ≡ false = none_free free n k n h z (f - (k + 1)) (omega arith) in
            let b : (k + 1 + (f - (k + 1))) % n ≡ f = ap (λ (x : ℕ). x % n) (let y : k + 1 + (f - (k + 1)) ≡ f = omega arith in y) ∙ mod-eq_of_lt p in
            true≢false (sym e ∙ ap free (sym b) ∙ a)
        by_order (inr q) =
            let a : free ((k + 1 + (f + n - (k + 1))) % n) ≡ false = none_free free n k n h z (f + n - (k + 1)) (omega arith) in
            let b : (k + 1 + (f + n - (k + 1))) % n ≡ f = ap (λ (x : ℕ). x % n) (let y : k + 1 + (f + n - (k + 1)) ≡ f + n = omega arith in y) ∙ add-mod_right f n ∙ mod-eq_of_lt p in
            true≢false (sym e ∙ ap free (sym b) ∙ a)

    at : (o : Option ℕ) → next_free free n k n ≡ o → (m : ℕ) × (next_free free n k n ≡ Some m)
    at None q = absurd (reached q)
    at (Some m) q = (m, q)

-- a class that needn't grow has a free slot
pub has_free : (s : Slots) (c : ℕ) → must_grow s c ≡ false → (f : ℕ) × (f < slot_count s c) × (is_free_number s c f ≡ true)
has_free s c e =
    let b : (taken_count s c + 1) * 2 ≤ slot_count s c = ltb-false (slot_count s c) ((taken_count s c + 1) * 2) e in
    let r = one_fails (is_taken s) (class_slots c (minis s.classes)) (omega arith) in
    (r.0, r.1, not-false (is_free s (get_or (class_slots c (minis s.classes)) r.0 0)) r.2)

pub some_slots : (s : Slots) (c : ℕ) → must_grow s c ≡ false → 0 < slot_count s c
some_slots s c e = let b : (taken_count s c + 1) * 2 ≤ slot_count s c = ltb-false (slot_count s c) ((taken_count s c + 1) * 2) e in omega arith

-- ---- what the seed's words pick

same_words : (w : WordList) (seed spent : ℕ) → HasSpent w seed spent → word_from w.generator ≡ draws_of seed spent
same_words w seed spent h = fun_ext (λ n. spent_word w seed spent h n)

pub found_is_drawn : (s : Slots) (c : ℕ) (old : WordList) (a : ℕ) (new : WordList) → FoundBy s c old a new → (seed spent : ℕ) → HasSpent old seed spent → IsDrawn seed spent s c a new
found_is_drawn s c old a new f seed spent h = record {
  pick = f.pick;
  is_picked =
      ap (λ (o : Option Pick). or_else o (after_draws (next_free (is_free_number s c) (slot_count s c) (draws_of seed spent 63 % slot_count s c) (slot_count s c))))
      (sym (ap (λ (word : ℕ → ℕ). drawn word (is_free_number s c) (slot_count s c) 0 64) (same_words old seed spent h)) ∙ f.is_drawn);
  address_is = f.address_is;
  spends = subst (λ (w : WordList). HasSpent w seed (spent + f.pick.draws)) (sym f.spends) (spend old seed spent h f.pick.draws);
}

pub missed_is_drawn : (s : Slots) (c : ℕ) (old : WordList) (last : ℕ) (new : WordList) → MissedBy s c old last new → (a : ℕ) → IsNext s c last a → (seed spent : ℕ) → HasSpent old seed spent → IsDrawn seed spent s c a new
missed_is_drawn s c old last new m a k seed spent h = record {
  pick = record { number = k.number; draws = 64 };
  is_picked =
      ap (λ (o : Option Pick). or_else o (after_draws (next_free (is_free_number s c) (slot_count s c) (draws_of seed spent 63 % slot_count s c) (slot_count s c))))
      (sym (ap (λ (word : ℕ → ℕ). drawn word (is_free_number s c) (slot_count s c) 0 64) (same_words old seed spent h)) ∙ m.is_missed)
      ∙ ap (λ (x : ℕ). after_draws (next_free (is_free_number s c) (slot_count s c) (x % slot_count s c) (slot_count s c))) (sym (spent_word old seed spent h 63))
      ∙ ap (λ (x : ℕ). after_draws (next_free (is_free_number s c) (slot_count s c) x (slot_count s c))) (sym m.last_is)
      ∙ ap after_draws k.is_next;
  address_is = k.address_is;
  spends = subst (λ (w : WordList). HasSpent w seed (spent + 64)) (sym m.spends) (spend old seed spent h 64);
}

-- ---- whether a slot that was looked up is free

found_state : (s : Slots) (a i : ℕ) (ms : List Mini) (t : Slot) → slot_from s a i ms ≡ Some t → t.state ≡ state_of s t.addr
found_state s a i [] t e = absurd (cc)
found_state s a i (m ∷ ms) t e = at (nat_le m.base a && nat_lt a (mini_end m)) e (found_state s a (suc i) ms t)
  where
    at : (b : Bool) → cond b (Some (slot_in s i m ((a - m.base) / 2 ^ m.class))) (slot_from s a (suc i) ms) ≡ Some t → (slot_from s a (suc i) ms ≡ Some t → t.state ≡ state_of s t.addr) → t.state ≡ state_of s t.addr
    at true q r =
        let z : slot_in s i m ((a - m.base) / 2 ^ m.class) ≡ t = same_Some (slot_in s i m ((a - m.base) / 2 ^ m.class)) t q in
        subst (λ (x : Slot). x.state ≡ state_of s x.addr) z refl
    at false q r = r q

pub free_by_state : (s : Slots) (c k : ℕ) (t : Slot) → t.addr ≡ address_of s c k → slot_at s t.addr ≡ Some t → is_free_number s c k ≡ is_free_state t.state
free_by_state s c k t a e = ap (is_free s) (sym a) ∙ ap is_free_state (sym (found_state s t.addr 0 (minis s.classes) t e))

-- ---- the loops

-- the draws so far missed
pub record HaveMissed (s : Slots) (c : ℕ) (old words : WordList) (made number : ℕ) : Type 0 where
  pub words_are : words ≡ record old { generator = after old.generator made }
  pub rest_is : drawn (word_from old.generator) (is_free_number s c) (slot_count s c) 0 64 ≡ drawn (word_from old.generator) (is_free_number s c) (slot_count s c) made (64 - made)
  pub number_is : 0 < made → number ≡ word_from old.generator (made - 1) % slot_count s c

pub missed_none : (s : Slots) (c : ℕ) (old : WordList) → HaveMissed s c old old 0 0
missed_none s c old = record {
  words_are = ap (λ (g : Lcg). record old { generator = g }) (sym (after-zero old.generator));
  rest_is = refl;
  number_is = λ h. absurd (omega arith);
}

word_is : (s : Slots) (c : ℕ) (old words : WordList) (made number : ℕ) → HaveMissed s c old words made number → word_from words.generator 0 ≡ word_from old.generator made
word_is s c old words made number m =
    ap (λ (w : WordList). word_from w.generator 0) m.words_are
    ∙ ap (λ (g : Lcg). (pcg32 g).0) (sym (after-add old.generator made 0))
    ∙ ap (word_from old.generator) (let e : made + 0 ≡ made = omega arith in e)

words_after : (s : Slots) (c : ℕ) (old words : WordList) (made number : ℕ) → HaveMissed s c old words made number → ◌≡◌ {A = WordList} (record words { generator = after words.generator 1 }) (record old { generator = after old.generator (made + 1) })
words_after s c old words made number m =
    ap (λ (w : WordList). record w { generator = after w.generator 1 }) m.words_are
    ∙ ap (λ (g : Lcg). record old { generator = g }) (sym (after-add old.generator made 1))

pub missed_more : (s : Slots) (c : ℕ) (old words new : WordList) (made number word slots : ℕ) → HaveMissed s c old words made number → made < 64 → word ≡ word_from words.generator 0 → new ≡ record words { generator = after words.generator 1 }
    → slots ≡ slot_count s c → is_free_number s c (word % slots) ≡ false → HaveMissed s c old new (made + 1) (word % slots)
missed_more s c old words new made number word slots m h w n k f =
    let q : word % slots ≡ word_from old.generator made % slot_count s c = ap (λ (x : ℕ). word % x) k ∙ ap (λ (x : ℕ). x % slot_count s c) (w ∙ word_is s c old words made number m) in
    record {
      words_are = n ∙ words_after s c old words made number m;
      rest_is =
          m.rest_is
          ∙ ap (drawn (word_from old.generator) (is_free_number s c) (slot_count s c) made) (let e : 64 - made ≡ suc (64 - (made + 1)) = omega arith in e)
          ∙ drawn_miss (word_from old.generator) (is_free_number s c) (slot_count s c) made (64 - (made + 1)) (ap (is_free_number s c) (sym q) ∙ f);
      number_is = λ _. q ∙ ap (λ (x : ℕ). word_from old.generator x % slot_count s c) (let e : made ≡ made + 1 - 1 = omega arith in e);
    }

pub found_now : (s : Slots) (c : ℕ) (old words new : WordList) (made number word slots : ℕ) → HaveMissed s c old words made number → made < 64 → word ≡ word_from words.generator 0 → new ≡ record words { generator = after words.generator 1 }
    → slots ≡ slot_count s c → is_free_number s c (word % slots) ≡ true → (a : ℕ) → a ≡ address_of s c (word % slots) → IsFreeSlot s c a → FoundBy s c old a new
found_now s c old words new made number word slots m h w n k f a e free =
    let q : word % slots ≡ word_from old.generator made % slot_count s c = ap (λ (x : ℕ). word % x) k ∙ ap (λ (x : ℕ). x % slot_count s c) (w ∙ word_is s c old words made number m) in
    record {
      pick = record { number = word_from old.generator made % slot_count s c; draws = made + 1 };
      is_drawn =
          m.rest_is
          ∙ ap (drawn (word_from old.generator) (is_free_number s c) (slot_count s c) made) (let e : 64 - made ≡ suc (64 - (made + 1)) = omega arith in e)
          ∙ drawn_hit (word_from old.generator) (is_free_number s c) (slot_count s c) made (64 - (made + 1)) (ap (is_free_number s c) (sym q) ∙ f);
      address_is = e ∙ ap (address_of s c) q;
      free = free;
      spends = n ∙ words_after s c old words made number m;
    }

pub missed_all : (s : Slots) (c : ℕ) (old words : WordList) (made number : ℕ) → HaveMissed s c old words made number → made ≡ 64 → MissedBy s c old number words
missed_all s c old words made number m e = record {
  is_missed =
      m.rest_is
      ∙ ap (λ (x : ℕ). drawn (word_from old.generator) (is_free_number s c) (slot_count s c) x (64 - x)) e
      ∙ drawn_none (word_from old.generator) (is_free_number s c) (slot_count s c) 64;
  last_is = m.number_is (omega arith) ∙ ap (λ (x : ℕ). word_from old.generator (x - 1) % slot_count s c) e;
  spends = m.words_are ∙ ap (λ (x : ℕ). record old { generator = after old.generator x }) e;
}

-- the numbers so far aren't free
pub record HavePassed (s : Slots) (c from step number : ℕ) : Type 0 where
  pub number_known : number < slot_count s c
  pub rest_is : next_free (is_free_number s c) (slot_count s c) from (slot_count s c) ≡ next_free (is_free_number s c) (slot_count s c) number (slot_count s c - step)

pub passed_more : (s : Slots) (c from step number next : ℕ) → HavePassed s c from step number → step < slot_count s c → next ≡ (number + 1) % slot_count s c → is_free_number s c next ≡ false → HavePassed s c from (step + 1) next
passed_more s c from step number next p h e f = record {
  number_known = let b : (number + 1) % slot_count s c < slot_count s c = mod_below (number + 1) (slot_count s c) (omega arith) in omega arith;
  rest_is =
      p.rest_is
      ∙ ap (next_free (is_free_number s c) (slot_count s c) number) (let z : slot_count s c - step ≡ suc (slot_count s c - (step + 1)) = omega arith in z)
      ∙ next_miss (is_free_number s c) (slot_count s c) number (slot_count s c - (step + 1)) (ap (is_free_number s c) (sym e) ∙ f)
      ∙ ap (λ (x : ℕ). next_free (is_free_number s c) (slot_count s c) x (slot_count s c - (step + 1))) (sym e);
}

pub passed_to : (s : Slots) (c from step number next : ℕ) → HavePassed s c from step number → step < slot_count s c → next ≡ (number + 1) % slot_count s c → is_free_number s c next ≡ true → (a : ℕ) → a ≡ address_of s c next → IsNext s c from a
passed_to s c from step number next p h e f a q = record {
  number = next;
  is_next =
      p.rest_is
      ∙ ap (next_free (is_free_number s c) (slot_count s c) number) (let z : slot_count s c - step ≡ suc (slot_count s c - (step + 1)) = omega arith in z)
      ∙ next_hit (is_free_number s c) (slot_count s c) number (slot_count s c - (step + 1)) (ap (is_free_number s c) (sym e) ∙ f)
      ∙ ap (λ (x : ℕ). Some x) (sym e);
  address_is = q;
}

pub passed_all : (s : Slots) (c from step number : ℕ) → HavePassed s c from step number → slot_count s c ≤ step → from < slot_count s c → must_grow s c ≡ false → ⊥
passed_all s c from step number p h k g =
    let f = has_free s c g in
    let r = next_is_there (is_free_number s c) (slot_count s c) from f.0 k f.1 f.2 in
    let z : None ≡ Some r.0 =
    sym (p.rest_is ∙ ap (next_free (is_free_number s c) (slot_count s c) number) (let z : slot_count s c - step ≡ 0 = omega arith in z) ∙ next_none (is_free_number s c) (slot_count s c) number) ∙ r.1 in cc
