-- The row of an object.
use Rattle.std.proofs.Common.{inl, inr, ◌≡◌, ℕ, ◌≤◌, ◌^◌, ◌==◌, ◌&&◌, nat_le, not, Bool, true, false, cond, List, [], ◌∷◌, ◌++◌, Option, Some, None, refl, subst, arith}
use Rattle.std.specs.Prelude.{find, IsSomeAnd}
use Rattle.std.proofs.lemmas.Bool.{and_parts}
use Rattle.std.proofs.lemmas.Bool.Decides.{nat_tests}
use Rattle.exact_heap.specs.declared.row.SlotRow.{SlotRow}
use Rattle.heap_image.specs.Agreement.{is_row_of}
use Rattle.heap_image.specs.Lawful.{Each, IsRow}
use Rattle.heap_image.specs.Rules.{slot_bytes, size_fits}
use Rattle.heap_image.specs.Items.{Has}

has_found : {X : Type 0} (p : X → Bool) (xs : List X) (x : X) → find p xs ≡ Some x → Has xs x × (p x ≡ true)
has_found p [] x h = cc
has_found p (y ∷ xs) x h = go (p y) refl h (has_found p xs x)
  where
    go : (b : Bool) → p y ≡ b → cond b (Some y) (find p xs) ≡ Some x → (find p xs ≡ Some x → Has xs x × (p x ≡ true)) → Has (y ∷ xs) x × (p x ≡ true)
    go true is here later = let same : y ≡ x = cc in (inl same, subst (λ z. p z ≡ true) same is)
    go false is there later = (inr (later there).0, (later there).1)

-- an object that has a row has one of the rows
pub row_there : (object : ℕ) (rows : List SlotRow) (P : SlotRow → Type 0) → IsSomeAnd (find (is_row_of object) rows) P → (r : SlotRow) × Has rows r × (is_row_of object r ≡ true)
row_there object rows P h = go (find (is_row_of object) rows) refl h
  where
    go : (o : Option SlotRow) → find (is_row_of object) rows ≡ o → IsSomeAnd o P → (r : SlotRow) × Has rows r × (is_row_of object r ≡ true)
    go None q h = absurd h
    go (Some r) q h = let f = has_found (is_row_of object) rows r q in (r, f.0, f.1)

is_equal : (a b : ℕ) → (a == b) ≡ true → a ≡ b
is_equal a b h = grind (arith, nat_tests)

is_most : (a b : ℕ) → nat_le a b ≡ true → a ≤ b
is_most a b h = grind (arith, nat_tests)

is_zero : (a b : ℕ) → (a == 0) ≡ true → a ≤ b
is_zero a b h = grind (arith, nat_tests)

pub object_of_row : (object : ℕ) (r : SlotRow) → is_row_of object r ≡ true → r.object ≡ object
object_of_row object r h = is_equal r.object object (and_parts (not (r.state == 4)) (r.object == object) h).1

size_small : (slot state size : ℕ) → size_fits slot state size ≡ true → size ≤ 2 ^ 20
size_small slot state size h = split (state == 4) h
  where
    split : (b : Bool) → cond b (size == 0) (nat_le size (2 ^ 20) && nat_le size slot) ≡ true → size ≤ 2 ^ 20
    split true h = is_zero size (2 ^ 20) h
    split false h = is_most size (2 ^ 20) (and_parts (nat_le size (2 ^ 20)) (nat_le size slot) h).0

size_of_row : (classes : List ℕ) (clock : ℕ) (earlier rows : List SlotRow) (r : SlotRow) → Each (IsRow classes clock) earlier rows → Has rows r → r.size ≤ 2 ^ 20
size_of_row classes clock earlier [] r all h = absurd h
size_of_row classes clock earlier (x ∷ rows) r all (inl e) = subst (λ (q : SlotRow). q.size ≤ 2 ^ 20) e (size_small (slot_bytes classes x.addr) x.state x.size all.0.size)
size_of_row classes clock earlier (x ∷ rows) r all (inr h) = size_of_row classes clock (earlier ++ x ∷ []) rows r all.1 h

-- the size of an object's row
pub size_of_found : (classes : List ℕ) (clock object : ℕ) (rows : List SlotRow) (r : SlotRow) → Each (IsRow classes clock) [] rows → find (is_row_of object) rows ≡ Some r → r.size ≤ 2 ^ 20
size_of_found classes clock object rows r all h = size_of_row classes clock [] rows r all (has_found (is_row_of object) rows r h).0
