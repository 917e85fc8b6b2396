-- What is found of objects, put into a map by their numbers.
use Rattle.std.proofs.Common.{inl, inr, ◌≡◌, ◌⊎◌, ℕ, zero, suc, ◌+◌, ◌<◌, length, get_or, take, map, true, List, [], ◌∷◌, ◌++◌, Option, Some, None, refl, sym, ap, subst, ◌∙◌, arith}
use Rattle.std.specs.List.{AllByRecursion, Contains}
use Rattle.std.specs.Ordering.{nat_cmp, match_ordering}
use Rattle.std.specs.declared.cmp.Ordering.{Ordering}
use Rattle.std.specs.declared.cmp.Ordering.TheVariants.{Less, Equal, Greater}
use Rattle.std.specs.BTreeMap.{insert_entry}
use Rattle.std.proofs.lemmas.List.{take_more}
use Rattle.std.proofs.lemmas.Bool.Decides.{nat_tests}
use Rattle.exact_heap.specs.declared.row.SlotRow.{SlotRow}
use Rattle.heap_image.specs.Agreement.{is_row_of}
use Rattle.heap_image.specs.Items.{Has, in_either, of_all, all_of}
use Rattle.overflow_isolator.specs.Found.{IsFoundOf, AreFoundIn, entries_with}
use Rattle.overflow_isolator.proofs.Rows.{object_of_row}

pub contains_had : {X : Type 0} (xs : List X) (x : X) → Has xs x → Contains xs x
contains_had [] x h = absurd h
contains_had (y ∷ xs) x (inl same) = (0, omega arith, same)
contains_had (y ∷ xs) x (inr later) = let k = contains_had xs x later in (suc k.0, omega (arith, k.1), k.2)

has_at : {X : Type 0} (xs : List X) (at : ℕ) (x : X) → at < length xs → get_or xs at x ≡ x → Has xs x
has_at [] at x within is = absurd (omega arith)
has_at (y ∷ xs) zero x within is = inl is
has_at (y ∷ xs) (suc at) x within is = inr (has_at xs at x (omega arith) is)

pub has_contained : {X : Type 0} (xs : List X) (x : X) → Contains xs x → Has xs x
has_contained xs x h = has_at xs h.0 x h.1 h.2

same_key : (k l : ℕ) → nat_cmp k l ≡ Equal → l ≡ k
same_key k l e = grind (arith, nat_tests)

module _ {F : Type 0} where
  one_on : (p a : ℕ × F) (es : List (ℕ × F)) (e : ℕ × F) → (p ≡ e) ⊎ Has es e → (p ≡ e) ⊎ Has (a ∷ es) e
  one_on p a es e (inl y) = inl y
  one_on p a es e (inr y) = inr (inr y)

  -- a new entry is the one that was put, or an old one
  put_told : (k : ℕ) (v : F) (es : List (ℕ × F)) (e : ℕ × F) → Has (insert_entry nat_cmp es k v) e → ((k, v) ≡ e) ⊎ Has es e
  put_told k v [] e h = h
  put_told k v (a ∷ es) e h = split (put_told k v es e) (nat_cmp k a.0) refl h
    where
      split : (Has (insert_entry nat_cmp es k v) e → ((k, v) ≡ e) ⊎ Has es e) → (o : Ordering) → nat_cmp k a.0 ≡ o → Has (match_ordering o ((k, v) ∷ a ∷ es) ((a.0, v) ∷ es) (a ∷ insert_entry nat_cmp es k v)) e → ((k, v) ≡ e) ⊎ Has (a ∷ es) e
      split more Less q h = h
      split more Equal q (inl x) = inl (ap (λ l. (l, v)) (sym (same_key k a.0 q)) ∙ x)
      split more Equal q (inr x) = inr (inr x)
      split more Greater q (inl x) = inr (inl x)
      split more Greater q (inr x) = one_on (k, v) a es e (more x)

  put_has : (k : ℕ) (v : F) (es : List (ℕ × F)) → Has (insert_entry nat_cmp es k v) (k, v)
  put_has k v [] = inl refl
  put_has k v (a ∷ es) = split (put_has k v es) (nat_cmp k a.0) refl
    where
      split : Has (insert_entry nat_cmp es k v) (k, v) → (o : Ordering) → nat_cmp k a.0 ≡ o → Has (match_ordering o ((k, v) ∷ a ∷ es) ((a.0, v) ∷ es) (a ∷ insert_entry nat_cmp es k v)) (k, v)
      split more Less q = inl refl
      split more Equal q = inl (ap (λ l. (l, v)) (same_key k a.0 q))
      split more Greater q = inr more

  -- a key that was there stays
  put_keeps : (k : ℕ) (v : F) (es : List (ℕ × F)) (q : ℕ) (d : F) → Has es (q, d) → (c : F) × Has (insert_entry nat_cmp es k v) (q, c)
  put_keeps k v [] q d h = absurd h
  put_keeps k v (a ∷ es) q d h = split (put_keeps k v es q d) (nat_cmp k a.0) h
    where
      split : (Has es (q, d) → (c : F) × Has (insert_entry nat_cmp es k v) (q, c)) → (o : Ordering) → Has (a ∷ es) (q, d) → (c : F) × Has (match_ordering o ((k, v) ∷ a ∷ es) ((a.0, v) ∷ es) (a ∷ insert_entry nat_cmp es k v)) (q, c)
      split more Less h = (d, inr h)
      split more Equal (inl e) = (v, inl (ap (λ (x : ℕ × F). (x.0, v)) e))
      split more Equal (inr h) = (d, inr h)
      split more Greater (inl e) = (d, inl e)
      split more Greater (inr h) = let r = more h in (r.0, inr r.1)

  -- a kind of which an object has one at most
  abbrev pub IsOne : (object_of : F → ℕ) → (K : F → Type 0) → Type 0
  IsOne object_of K = (f g : F) → K f → K g → object_of f ≡ object_of g → f ≡ g

  abbrev Sound : (object_of : F → ℕ) → (K : F → Type 0) → ℕ × F → Type 0
  Sound object_of K e = (object_of e.1 ≡ e.0) × K e.1

  skipped : (object_of : F → ℕ) (K : F → Type 0) (rows : List SlotRow) (es : List (ℕ × F)) (r : SlotRow) → ((f : F) → K f → object_of f ≡ r.object → ⊥) → AreFoundIn object_of K rows es → AreFoundIn object_of K (rows ++ r ∷ []) es
  skipped object_of K rows es r none fs = (fs.0, λ f x k h is. all f x k is (in_either rows (r ∷ []) x h))
    where
      all : (f : F) (x : SlotRow) → K f → is_row_of (object_of f) x ≡ true → Has rows x ⊎ Has (r ∷ []) x → Has es (object_of f, f)
      all f x k is (inl h) = fs.1 f x k h is
      all f x k is (inr (inl q)) = absurd (none f k (sym (ap (λ (y : SlotRow). y.object) q ∙ object_of_row (object_of f) x is)))
      all f x k is (inr (inr z)) = absurd z

  put : (object_of : F → ℕ) (K : F → Type 0) → IsOne object_of K → (rows : List SlotRow) (es : List (ℕ × F)) (r : SlotRow) (v : F) → (object_of v ≡ r.object) × K v → AreFoundIn object_of K rows es → AreFoundIn object_of K (rows ++ r ∷ []) (insert_entry nat_cmp es r.object v)
  put object_of K one rows es r v w fs = (each, λ f x k h is. all f x k is (in_either rows (r ∷ []) x h))
    where
      news : List (ℕ × F)
      news = insert_entry nat_cmp es r.object v

      told : (e : ℕ × F) → ((r.object, v) ≡ e) ⊎ Has es e → Sound object_of K e
      told e (inl q) = subst (Sound object_of K) q w
      told e (inr h) = of_all (Sound object_of K) es e fs.0 h

      each : AllByRecursion (Sound object_of K) news
      each = all_of (Sound object_of K) news (λ e h. told e (put_told r.object v es e h))

      all : (f : F) (x : SlotRow) → K f → is_row_of (object_of f) x ≡ true → Has rows x ⊎ Has (r ∷ []) x → Has news (object_of f, f)
      all f x k is (inl h) =
          let o = put_keeps r.object v es (object_of f) f (fs.1 f x k h is) in
          let s = of_all (Sound object_of K) news (object_of f, o.0) each o.1 in
          subst (λ y. Has news (object_of f, y)) (one o.0 f s.1 k s.0) o.1
      all f x k is (inr (inl q)) =
          let key : r.object ≡ object_of f = ap (λ (y : SlotRow). y.object) q ∙ object_of_row (object_of f) x is in
          subst (λ y. Has news (object_of f, y)) (one v f w.1 k (w.0 ∙ key)) (subst (λ n. Has news (n, v)) key (put_has r.object v es))
      all f x k is (inr (inr z)) = absurd z

  either : (object_of : F → ℕ) (K : F → Type 0) → IsOne object_of K → (rows : List SlotRow) (es : List (ℕ × F)) (r : SlotRow) (o : Option F) → IsFoundOf object_of K r.object o → AreFoundIn object_of K rows es → AreFoundIn object_of K (rows ++ r ∷ []) (entries_with es r.object o)
  either object_of K one rows es r None w fs = skipped object_of K rows es r w fs
  either object_of K one rows es r (Some v) w fs = put object_of K one rows es r v w fs

  -- a turn of a loop over rows
  pub put_next : (object_of : F → ℕ) (K : F → Type 0) → IsOne object_of K → (rows : List SlotRow) (es ns : List (ℕ × F)) (i : ℕ) (d : SlotRow) (object : ℕ) (o : Option F) → i < length rows → IsFoundOf object_of K object o → AreFoundIn object_of K (take i rows) es → ns ≡ entries_with es object o → object ≡ (get_or rows i d).object → AreFoundIn object_of K (take (i + 1) rows) ns
  put_next object_of K one rows es ns i d object o lt w fs e is =
      rw (take_more rows i d lt, e, is) (either object_of K one (take i rows) es (get_or rows i d) o (subst (λ n. IsFoundOf object_of K n o) is w) fs)

  pub keys_are : (object_of : F → ℕ) (K : F → Type 0) (es : List (ℕ × F)) → AllByRecursion (λ e. (object_of e.1 ≡ e.0) × K e.1) es → map object_of (map (λ e. e.1) es) ≡ map (λ e. e.0) es
  keys_are object_of K [] all = refl
  keys_are object_of K (e ∷ es) all = λ i. all.0.0 i ∷ keys_are object_of K es all.1 i

  pub value_is : (object_of : F → ℕ) (K : F → Type 0) (es : List (ℕ × F)) (f : F) → AllByRecursion (λ e. (object_of e.1 ≡ e.0) × K e.1) es → Has (map (λ e. e.1) es) f → K f
  value_is object_of K [] f all h = absurd h
  value_is object_of K (e ∷ es) f all (inl q) = subst K q all.0.1
  value_is object_of K (e ∷ es) f all (inr h) = value_is object_of K es f all.1 h

  pub value_in : (es : List (ℕ × F)) (e : ℕ × F) → Has es e → Has (map (λ x. x.1) es) e.1
  value_in [] e h = absurd h
  value_in (a ∷ es) e (inl q) = inl (ap (λ (x : ℕ × F). x.1) q)
  value_in (a ∷ es) e (inr h) = inr (value_in es e h)
