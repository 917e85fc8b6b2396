-- A mark is at the row of its object.
use Rattle.std.proofs.Common.{inl, inr, ◌≡◌, ℕ, ◌==◌, Bool, true, false, cond, List, [], ◌∷◌, Option, Some, None, refl, sym, ap, subst, ◌∙◌, arith}
use Rattle.std.specs.Prelude.{find, IsSomeAnd}
use Rattle.std.specs.List.{All, AllByRecursion}
use Rattle.std.proofs.lemmas.Bool.Decides.{nat_tests}
use Rattle.std.proofs.lemmas.List.Elements.{All-from_recursion, recursion_from_All}
use Rattle.exact_heap.specs.declared.row.SlotRow.{SlotRow}
use Rattle.heap_image.specs.Agreement.{Allocation, AgreeOn, allocation_of, is_row_of, row_of}
use Rattle.heap_image.specs.Items.{Has, of_all}
use Rattle.heap_image.specs.Lawful.{IsLawful}
use Rattle.heap_image.specs.Snapshot.{Snapshot}
use Rattle.dangling_isolator.specs.declared.mark.Mark.{Mark}
use Rattle.dangling_isolator.specs.Danglings.{IsMarked, mark_of}
use Rattle.dangling_isolator.specs.Laws.{IsMarkAt, allocation_in}
use Rattle.dangling_isolator.proofs.Rows.{one_row, released_has_object}

differ : false ≡ true → ⊥
differ e = cc

found_row : (object : ℕ) (rows : List SlotRow) (r : SlotRow) → find (is_row_of object) rows ≡ Some r → Has rows r × (is_row_of object r ≡ true)
found_row object [] r h = cc
found_row object (x ∷ rows) r h = split (found_row object rows r) (is_row_of object x) refl h
  where
    split : (find (is_row_of object) rows ≡ Some r → Has rows r × (is_row_of object r ≡ true)) → (b : Bool) → is_row_of object x ≡ b → cond b (Some x) (find (is_row_of object) rows) ≡ Some r → Has (x ∷ rows) r × (is_row_of object r ≡ true)
    split more true e q = let same : x ≡ r = cc in (inl same, subst (λ y. is_row_of object y ≡ true) same e)
    split more false e q = let k = more q in (inr k.0, k.1)

some_row : (object : ℕ) (rows : List SlotRow) (r : SlotRow) → Has rows r → is_row_of object r ≡ true → (q : SlotRow) × (find (is_row_of object) rows ≡ Some q)
some_row object [] r h is = absurd h
some_row object (x ∷ rows) r h is = split (λ k. some_row object rows r k is) (is_row_of object x) refl h
  where
    split : (Has rows r → (q : SlotRow) × (find (is_row_of object) rows ≡ Some q)) → (b : Bool) → is_row_of object x ≡ b → Has (x ∷ rows) r → (q : SlotRow) × (cond b (Some x) (find (is_row_of object) rows) ≡ Some q)
    split more true e k = (x, refl)
    split more false e (inl same) = absurd (differ (sym (subst (λ y. is_row_of object y ≡ false) same e) ∙ is))
    split more false e (inr k) = more k

parts : (object : ℕ) (r : SlotRow) → is_row_of object r ≡ true → ((r.state == 4) ≡ false) × (r.object ≡ object)
parts object r h = (first object r h, second object r h)
  where
    first : (object : ℕ) (r : SlotRow) → is_row_of object r ≡ true → (r.state == 4) ≡ false
    first object r h = grind (arith, nat_tests)

    second : (object : ℕ) (r : SlotRow) → is_row_of object r ≡ true → r.object ≡ object
    second object r h = grind (arith, nat_tests)

row_is : (object : ℕ) (r : SlotRow) → (r.state == 4) ≡ false → r.object ≡ object → is_row_of object r ≡ true
row_is object r h e = grind (arith, nat_tests)

-- a row of an object is the row of it
the_row : (s : Snapshot) (object : ℕ) (r : SlotRow) → IsLawful s → Has s.rows r → (r.state == 4) ≡ false → r.object ≡ object → row_of object s ≡ Some r
the_row s object r law h four e =
    let k = some_row object s.rows r h (row_is object r four e) in
    let f = found_row object s.rows k.0 k.1 in
    let p = parts object k.0 f.1 in
    k.1 ∙ ap Some (one_row s.miniheaps s.clock [] s.rows k.0 r law.rows f.0 h p.0 four (p.1 ∙ sym e))

same_mark_of : (m n : Mark) → m.object ≡ n.object → m.size ≡ n.size → m.front ≡ n.front → m.site ≡ n.site → m.free_site ≡ n.free_site → m.freed ≡ n.freed → m.offset ≡ n.offset → m.byte ≡ n.byte → m ≡ n
same_mark_of m n a b c d e f g h = λ i. record { object = a i; size = b i; front = c i; site = d i; free_site = e i; freed = f i; offset = g i; byte = h i }

object_is : (m : Mark) (r : SlotRow) → m ≡ mark_of r m.offset m.byte → r.object ≡ m.object
object_is m r e = sym (ap (λ (x : Mark). x.object) e)

row_here : (s : Snapshot) (m : Mark) → IsLawful s → (h : IsMarked s m) → row_of m.object s ≡ Some h.row
row_here s m law h = the_row s m.object h.row law h.has_row (released_has_object h.row h.released) (object_is m h.row h.is_row)

agreed_here : (s : Snapshot) (m : Mark) → IsLawful s → IsMarked s m → IsSomeAnd (row_of m.object s) (λ r. allocation_of r ≡ allocation_in m)
agreed_here s m law h = subst (λ o. IsSomeAnd o (λ r. allocation_of r ≡ allocation_in m)) (sym (row_here s m law h)) (sym (ap allocation_in h.is_row))

marked_here : (s : Snapshot) (m : Mark) → IsLawful s → IsMarked s m → IsSomeAnd (row_of m.object s) (IsMarkAt s m)
marked_here s m law h = subst (λ o. IsSomeAnd o (IsMarkAt s m)) (sym (row_here s m law h)) (record { released = h.released; in_slot = h.in_slot; broken = h.broken })

here_marked : (s : Snapshot) (m : Mark) → IsSomeAnd (row_of m.object s) (λ r. allocation_of r ≡ allocation_in m) → IsSomeAnd (row_of m.object s) (IsMarkAt s m) → IsMarked s m
here_marked s m a b = go (row_of m.object s) refl a b
  where
    go : (o : Option SlotRow) → row_of m.object s ≡ o → IsSomeAnd o (λ r. allocation_of r ≡ allocation_in m) → IsSomeAnd o (IsMarkAt s m) → IsMarked s m
    go None e a b = absurd a
    go (Some r) e a b =
        let f = found_row m.object s.rows r e in
        record {
          row = r;
          has_row = f.0;
          released = b.released;
          is_row = same_mark_of m (mark_of r m.offset m.byte) (sym (parts m.object r f.1).1)
              (sym (ap (λ (x : Allocation). x.size) a)) (sym (ap (λ (x : Allocation). x.front) a)) (sym (ap (λ (x : Allocation). x.site) a)) (sym (ap (λ (x : Allocation). x.free_site) a)) (sym (ap (λ (x : Allocation). x.freed) a)) refl refl;
          in_slot = b.in_slot;
          broken = b.broken;
        }

three : {X : Type 0} (P Q R : X → Type 0) → ((x : X) → P x → Q x → R x) → (xs : List X) → AllByRecursion P xs → AllByRecursion Q xs → AllByRecursion R xs
three P Q R f [] a b = tt
three P Q R f (x ∷ xs) a b = (f x a.0 b.0, three P Q R f xs a.1 b.1)

pub shared_agrees : (images : List Snapshot) (m : Mark) → All IsLawful images → AllByRecursion (λ s. IsMarked s m) images → AgreeOn images m.object (allocation_in m) × All (λ s. IsSomeAnd (row_of m.object s) (IsMarkAt s m)) images
shared_agrees images m law h =
    let laws = recursion_from_All IsLawful images law in (
      All-from_recursion (λ s. IsSomeAnd (row_of m.object s) (λ r. allocation_of r ≡ allocation_in m)) images (three IsLawful (λ s. IsMarked s m) (λ s. IsSomeAnd (row_of m.object s) (λ r. allocation_of r ≡ allocation_in m)) (λ s a b. agreed_here s m a b) images laws h),
      All-from_recursion (λ s. IsSomeAnd (row_of m.object s) (IsMarkAt s m)) images (three IsLawful (λ s. IsMarked s m) (λ s. IsSomeAnd (row_of m.object s) (IsMarkAt s m)) (λ s a b. marked_here s m a b) images laws h),
    )

pub agreed_shares : (images : List Snapshot) (m : Mark) → AgreeOn images m.object (allocation_in m) × All (λ s. IsSomeAnd (row_of m.object s) (IsMarkAt s m)) images → AllByRecursion (λ s. IsMarked s m) images
agreed_shares images m h =
    three (λ s. IsSomeAnd (row_of m.object s) (λ r. allocation_of r ≡ allocation_in m)) (λ s. IsSomeAnd (row_of m.object s) (IsMarkAt s m)) (λ s. IsMarked s m) (λ s a b. here_marked s m a b) images
    (recursion_from_All (λ s. IsSomeAnd (row_of m.object s) (λ r. allocation_of r ≡ allocation_in m)) images h.0)
    (recursion_from_All (λ s. IsSomeAnd (row_of m.object s) (IsMarkAt s m)) images h.1)

pub among : (m : Mark) (images others : List Snapshot) → AllByRecursion (Has others) images → AllByRecursion (λ s. IsMarked s m) others → AllByRecursion (λ s. IsMarked s m) images
among m [] others h all = tt
among m (s ∷ images) others h all = (of_all (λ t. IsMarked t m) others s all h.0, among m images others h.1 all)
