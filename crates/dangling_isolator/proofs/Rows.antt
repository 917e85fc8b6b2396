-- An image has at most one row of an object.
use Rattle.std.proofs.Common.{inl, inr, ◌≡◌, ℕ, ◌==◌, ◌||◌, ◌&&◌, not, nat_lt, Bool, true, false, cond, List, [], ◌∷◌, ◌++◌, sym, subst, ◌∙◌, arith}
use Rattle.std.specs.List.{list_all}
use Rattle.std.proofs.lemmas.Bool.{and_parts}
use Rattle.std.proofs.lemmas.Bool.Decides.{nat_tests}
use Rattle.exact_heap.specs.declared.row.SlotRow.{SlotRow}
use Rattle.heap_image.specs.Rules.{is_fresh, object_fits}
use Rattle.heap_image.specs.Lawful.{Each, IsRow}
use Rattle.heap_image.specs.Items.{Has, in_front, behind}
use Rattle.dangling_isolator.specs.Danglings.{is_released}

pub pass : {X : Type 0} (test : X → Bool) (xs : List X) (x : X) → list_all test xs ≡ true → Has xs x → test x ≡ true
pass test [] x all h = absurd h
pass test (a ∷ xs) x all (inl e) = subst (λ z. test z ≡ true) e (and_parts (test a) (list_all test xs) all).0
pass test (a ∷ xs) x all (inr h) = pass test xs x (and_parts (test a) (list_all test xs) all).1 h

pub released_has_object : (r : SlotRow) → is_released r ≡ true → (r.state == 4) ≡ false
released_has_object r h = grind (arith, nat_tests)

fresh_of : (clock : ℕ) (earlier : List SlotRow) (state object : ℕ) → (state == 4) ≡ false → object_fits clock earlier state object ≡ true → is_fresh earlier object ≡ true
fresh_of clock earlier state object four h = (and_parts (nat_lt object clock) (is_fresh earlier object) (subst (λ b. cond b (object == 0) (nat_lt object clock && is_fresh earlier object) ≡ true) four h)).1

differ : (r : SlotRow) (object : ℕ) → (r.state == 4) ≡ false → ((r.state == 4) || not (r.object == object)) ≡ true → r.object ≡ object → ⊥
differ r object four h e = grind (arith, nat_tests)

-- a later row of the rows isn't of an earlier one's object
later : (classes : List ℕ) (clock : ℕ) (earlier rows : List SlotRow) (r q : SlotRow) → Each (IsRow classes clock) earlier rows → Has earlier r → Has rows q → (r.state == 4) ≡ false → (q.state == 4) ≡ false → r.object ≡ q.object → ⊥
later classes clock earlier [] r q all h k a b e = k
later classes clock earlier (x ∷ rows) r q all h (inl i) a b e =
    let row : IsRow classes clock earlier q = subst (IsRow classes clock earlier) i all.0 in
    differ r q.object a (pass _ earlier r (fresh_of clock earlier q.state q.object b row.object) h) e
later classes clock earlier (x ∷ rows) r q all h (inr k) a b e = later classes clock (earlier ++ x ∷ []) rows r q all.1 (in_front earlier (x ∷ []) r h) k a b e

pub one_row : (classes : List ℕ) (clock : ℕ) (earlier rows : List SlotRow) (r q : SlotRow) → Each (IsRow classes clock) earlier rows → Has rows r → Has rows q → (r.state == 4) ≡ false → (q.state == 4) ≡ false → r.object ≡ q.object → r ≡ q
one_row classes clock earlier [] r q all h k a b e = absurd h
one_row classes clock earlier (x ∷ rows) r q all (inl i) (inl j) a b e = sym i ∙ j
one_row classes clock earlier (x ∷ rows) r q all (inl i) (inr k) a b e = absurd (later classes clock (earlier ++ x ∷ []) rows r q all.1 (behind earlier (x ∷ []) r (inl i)) k a b e)
one_row classes clock earlier (x ∷ rows) r q all (inr h) (inl j) a b e = absurd (later classes clock (earlier ++ x ∷ []) rows q r all.1 (behind earlier (x ∷ []) q (inl j)) h b a (sym e))
one_row classes clock earlier (x ∷ rows) r q all (inr h) (inr k) a b e = one_row classes clock (earlier ++ x ∷ []) rows r q all.1 h k a b e
