-- Lists of objects, and what a change of one of them changes.
use Rattle.std.proofs.Common.{◌≡◌, ℕ, suc, ◌+◌, refl, ap, sym, ◌∙◌, subst, Bool, true, false, cond, not, ◌&&◌, ◌||◌, ◌⊎◌, inl, inr, arith, nat_eq, List, [], ◌∷◌, ◌++◌, length, map, Option, Some, None, count_by}
use Rattle.std.specs.List.{AllByRecursion, filter, list_any}
use Rattle.std.specs.Cmp.{nat_cmp_total}
use Rattle.std.specs.FinSet.{contains, insert, remove, contains-insert, contains-remove, contains-from_list_nat, same_set, nat_cmp-IsAntisymmetric}
use Rattle.std.proofs.Math.Bool.{or-false}
use Rattle.std.proofs.lemmas.Bool.{cases_eq, eq-eqb, eqb-true, ne_eqb, true≢false, or_from}
use Rattle.std.proofs.lemmas.List.{length-append}
use Rattle.std.proofs.lemmas.List.Sums.{sum_by-append, sum_by-cons}
use Rattle.exact_heap.proofs.SlotStates.{eq_turned}
use Rattle.exact_heap.specs.History.{Object, slot_of, holds_slot, held_by}
use Rattle.exact_heap.specs.Owners.{Owner, or_this, last_from, has_slot, is_owned_at, last_owner, owner_of, changed_from, changed_at}
use Rattle.exact_heap.specs.Lawful.{IsEarlier, AreApart}

-- ---- which slots are held

abbrev pub any_held : ℕ → List Object → Bool
any_held a [] = false
any_held a (o ∷ os) = (holds_slot o && nat_eq (slot_of o) a) || any_held a os

among_held : (a : ℕ) (os : List Object) → list_any (λ y. nat_eq y a) (map slot_of (filter holds_slot os)) ≡ any_held a os
among_held a [] = refl
among_held a (o ∷ os) = at (holds_slot o) (among_held a os)
  where
    at : (b : Bool) → list_any (λ y. nat_eq y a) (map slot_of (filter holds_slot os)) ≡ any_held a os
        → list_any (λ y. nat_eq y a) (map slot_of (cond b (o ∷ filter holds_slot os) (filter holds_slot os))) ≡ ((b && nat_eq (slot_of o) a) || any_held a os)
    at true e = ap (λ (x : Bool). nat_eq (slot_of o) a || x) e
    at false e = e

pub contains-held : (os : List Object) (a : ℕ) → contains (held_by os) a ≡ any_held a os
unfolding held_by
contains-held os a = contains-from_list_nat (map slot_of (filter holds_slot os)) a ∙ among_held a os

pub any_held-append : (a : ℕ) (xs ys : List Object) → any_held a (xs ++ ys) ≡ (any_held a xs || any_held a ys)
any_held-append a [] ys = refl
any_held-append a (x ∷ xs) ys = ap (λ (b : Bool). (holds_slot x && nat_eq (slot_of x) a) || b) (any_held-append a xs ys) ∙ assoc (holds_slot x && nat_eq (slot_of x) a) (any_held a xs) (any_held a ys)
  where
    assoc : (b c d : Bool) → (b || (c || d)) ≡ ((b || c) || d)
    assoc true c d = refl
    assoc false c d = refl

-- each of these objects that has the slot doesn't hold it
abbrev pub NoneHolds : ℕ → List Object → Type 0
NoneHolds a os = AllByRecursion (λ x. slot_of x ≡ a → holds_slot x ≡ false) os

pub none_held : (a : ℕ) (os : List Object) → NoneHolds a os → any_held a os ≡ false
none_held a [] h = refl
none_held a (o ∷ os) h = or_from (holds_slot o && nat_eq (slot_of o) a) (any_held a os) (at (cases_eq (slot_of o) a)) (none_held a os h.1)
  where
    and_false : (b : Bool) → (b && false) ≡ false
    and_false true = refl
    and_false false = refl

    at : (slot_of o ≡ a) ⊎ (slot_of o ≡ a → ⊥) → (holds_slot o && nat_eq (slot_of o) a) ≡ false
    at (inl e) = ap (λ (b : Bool). b && nat_eq (slot_of o) a) (h.0 e)
    at (inr n) = ap (λ (b : Bool). holds_slot o && b) (ne_eqb (slot_of o) a n) ∙ and_false (holds_slot o)

pub not_held_none : (a : ℕ) (os : List Object) → any_held a os ≡ false → NoneHolds a os
not_held_none a [] h = tt
not_held_none a (o ∷ os) h = (λ e. at (holds_slot o) (eq-eqb (slot_of o) a e) h, not_held_none a os (rest (holds_slot o && nat_eq (slot_of o) a) (any_held a os) h))
  where
    rest : (b c : Bool) → (b || c) ≡ false → c ≡ false
    rest true c e = absurd (true≢false e)
    rest false c e = e

    at : (b : Bool) → nat_eq (slot_of o) a ≡ true → ((b && nat_eq (slot_of o) a) || any_held a os) ≡ false → b ≡ false
    at true e k = absurd (true≢false (sym (ap (λ (x : Bool). x || any_held a os) e) ∙ k))
    at false e k = refl

held_here : (a : ℕ) (o : Object) (os : List Object) → holds_slot o ≡ false → any_held a (o ∷ os) ≡ any_held a os
held_here a o os e = ap (λ (b : Bool). (b && nat_eq (slot_of o) a) || any_held a os) e

held_there : (a : ℕ) (o : Object) (os : List Object) → holds_slot o ≡ true → any_held a (o ∷ os) ≡ (nat_eq (slot_of o) a || any_held a os)
held_there a o os e = ap (λ (b : Bool). (b && nat_eq (slot_of o) a) || any_held a os) e

pub held_by-push : (os : List Object) (o : Object) → holds_slot o ≡ true → held_by (os ++ o ∷ []) ≡ insert (held_by os) (slot_of o)
held_by-push os o e = same_set nat_cmp_total nat_cmp-IsAntisymmetric _ _ (λ a.
    contains-held (os ++ o ∷ []) a ∙ any_held-append a os (o ∷ []) ∙ ap (λ (b : Bool). any_held a os || b) (held_there a o [] e ∙ or-false (nat_eq (slot_of o) a))
    ∙ turned (any_held a os) (nat_eq (slot_of o) a)
    ∙ sym (contains-insert nat_cmp_total (held_by os) (slot_of o) a ∙ ap (λ (b : Bool). b || contains (held_by os) a) (eq_turned a (slot_of o) ∙ turn_eq a (slot_of o)) ∙ ap (λ (b : Bool). nat_eq (slot_of o) a || b) (contains-held os a)))
  where
    turned : (b c : Bool) → (b || c) ≡ (c || b)
    turned true true = refl
    turned true false = refl
    turned false true = refl
    turned false false = refl

    turn_eq : (a b : ℕ) → nat_eq a b ≡ nat_eq b a
    turn_eq a b = at (cases_eq a b)
      where
        at : (a ≡ b) ⊎ (a ≡ b → ⊥) → nat_eq a b ≡ nat_eq b a
        at (inl e) = eq-eqb a b e ∙ sym (eq-eqb b a (sym e))
        at (inr n) = ne_eqb a b n ∙ sym (ne_eqb b a (λ f. n (sym f)))

-- ---- objects apart

-- what is known of the others where one holds its slot
pub record Around (ps : List Object) (o : Object) (bs : List Object) : Type 0 where
  pub before : NoneHolds (slot_of o) ps
  pub after : AllByRecursion (λ y. slot_of o ≡ slot_of y → ⊥) bs

pub around : (ps : List Object) (o : Object) (bs : List Object) → AreApart (ps ++ o ∷ bs) → holds_slot o ≡ true → Around ps o bs
around [] o bs h e = record { before = tt; after = later bs h.0 }
  where
    later : (ys : List Object) → AllByRecursion (IsEarlier o) ys → AllByRecursion (λ y. slot_of o ≡ slot_of y → ⊥) ys
    later [] k = tt
    later (y ∷ ys) k = (λ q. true≢false (sym e ∙ k.0 q), later ys k.1)
around (a ∷ ps) o bs h e = let r = around ps o bs h.1 e in record { before = (among ps h.0, r.before); after = r.after }
  where
    among : (xs : List Object) → AllByRecursion (IsEarlier a) (xs ++ o ∷ bs) → slot_of a ≡ slot_of o → holds_slot a ≡ false
    among [] k q = k.0 q
    among (x ∷ xs) k q = among xs k.1 q

none_later : (a : ℕ) (bs : List Object) → AllByRecursion (λ y. a ≡ slot_of y → ⊥) bs → NoneHolds a bs
none_later a [] h = tt
none_later a (b ∷ bs) h = (λ e. absurd (h.0 (sym e)), none_later a bs h.1)

-- an object that no longer holds its slot
pub held_by-released : (ps : List Object) (o p : Object) (bs : List Object) → Around ps o bs → holds_slot o ≡ true → holds_slot p ≡ false → held_by (ps ++ p ∷ bs) ≡ remove (held_by (ps ++ o ∷ bs)) (slot_of o)
held_by-released ps o p bs r e f = same_set nat_cmp_total nat_cmp-IsAntisymmetric _ _ (λ a.
    contains-held (ps ++ p ∷ bs) a ∙ any_held-append a ps (p ∷ bs) ∙ ap (λ (b : Bool). any_held a ps || b) (held_here a p bs f)
    ∙ at a (cases_eq a (slot_of o))
    ∙ sym (contains-remove nat_cmp_total (held_by (ps ++ o ∷ bs)) (slot_of o) a ∙ ap (λ (b : Bool). not b && contains (held_by (ps ++ o ∷ bs)) a) (eq_turned a (slot_of o))
    ∙ ap (λ (b : Bool). not (nat_eq a (slot_of o)) && b) (contains-held (ps ++ o ∷ bs) a ∙ any_held-append a ps (o ∷ bs) ∙ ap (λ (b : Bool). any_held a ps || b) (held_there a o bs e))))
  where
    at : (a : ℕ) → (a ≡ slot_of o) ⊎ (a ≡ slot_of o → ⊥) → (any_held a ps || any_held a bs) ≡ (not (nat_eq a (slot_of o)) && (any_held a ps || (nat_eq (slot_of o) a || any_held a bs)))
    at a (inl q) =
        or_from (any_held a ps) (any_held a bs) (subst (λ (x : ℕ). any_held x ps ≡ false) (sym q) (none_held (slot_of o) ps r.before)) (subst (λ (x : ℕ). any_held x bs ≡ false) (sym q) (none_held (slot_of o) bs (none_later (slot_of o) bs r.after)))
        ∙ sym (ap (λ (b : Bool). not b && (any_held a ps || (nat_eq (slot_of o) a || any_held a bs))) (eq-eqb a (slot_of o) q))
    at a (inr n) =
        sym (ap (λ (b : Bool). not b && (any_held a ps || (nat_eq (slot_of o) a || any_held a bs))) (ne_eqb a (slot_of o) n) ∙ ap (λ (b : Bool). any_held a ps || (b || any_held a bs)) (ne_eqb (slot_of o) a (λ q. n (sym q))))

-- an object that still holds it
pub held_by-kept : (ps : List Object) (o p : Object) (bs : List Object) → slot_of p ≡ slot_of o → holds_slot o ≡ true → holds_slot p ≡ true → held_by (ps ++ p ∷ bs) ≡ held_by (ps ++ o ∷ bs)
held_by-kept ps o p bs s e f = same_set nat_cmp_total nat_cmp-IsAntisymmetric _ _ (λ a.
    contains-held (ps ++ p ∷ bs) a ∙ any_held-append a ps (p ∷ bs) ∙ ap (λ (b : Bool). any_held a ps || b) (held_there a p bs f ∙ ap (λ (x : ℕ). nat_eq x a || any_held a bs) s ∙ sym (held_there a o bs e))
    ∙ sym (contains-held (ps ++ o ∷ bs) a ∙ any_held-append a ps (o ∷ bs)))

pub held_here_is : (ps : List Object) (o : Object) (bs : List Object) → holds_slot o ≡ true → contains (held_by (ps ++ o ∷ bs)) (slot_of o) ≡ true
held_here_is ps o bs e =
    contains-held (ps ++ o ∷ bs) (slot_of o) ∙ any_held-append (slot_of o) ps (o ∷ bs) ∙ ap (λ (b : Bool). any_held (slot_of o) ps || b) (held_there (slot_of o) o bs e ∙ ap (λ (b : Bool). b || any_held (slot_of o) bs) (eq-eqb (slot_of o) (slot_of o) refl))
    ∙ or_true (any_held (slot_of o) ps)
  where
    or_true : (b : Bool) → (b || true) ≡ true
    or_true true = refl
    or_true false = refl

-- objects stay apart where one is changed and holds its slot no more than before
pub apart_changed : (ps : List Object) (o p : Object) (bs : List Object) → slot_of p ≡ slot_of o → (holds_slot o ≡ false → holds_slot p ≡ false) → AreApart (ps ++ o ∷ bs) → AreApart (ps ++ p ∷ bs)
apart_changed [] o p bs s f h = (later bs h.0, h.1)
  where
    later : (ys : List Object) → AllByRecursion (IsEarlier o) ys → AllByRecursion (IsEarlier p) ys
    later [] k = tt
    later (y ∷ ys) k = (λ q. f (k.0 (sym s ∙ q)), later ys k.1)
apart_changed (a ∷ ps) o p bs s f h = (among ps h.0, apart_changed ps o p bs s f h.1)
  where
    among : (xs : List Object) → AllByRecursion (IsEarlier a) (xs ++ o ∷ bs) → AllByRecursion (IsEarlier a) (xs ++ p ∷ bs)
    among [] k = (λ q. k.0 (q ∙ s), k.1)
    among (x ∷ xs) k = (k.0, among xs k.1)

pub apart_push : (os : List Object) (o : Object) → NoneHolds (slot_of o) os → AreApart os → AreApart (os ++ o ∷ [])
apart_push [] o n h = (tt, tt)
apart_push (a ∷ ps) o n h = (among ps h.0, apart_push ps o n.1 h.1)
  where
    among : (xs : List Object) → AllByRecursion (IsEarlier a) xs → AllByRecursion (IsEarlier a) (xs ++ o ∷ [])
    among [] k = (n.0, tt)
    among (x ∷ xs) k = (k.0, among xs k.1)

-- ---- facts of each object

pub each_changed : (P : Object → Type 0) (ps : List Object) (o p : Object) (bs : List Object) → (P o → P p) → AllByRecursion P (ps ++ o ∷ bs) → AllByRecursion P (ps ++ p ∷ bs)
each_changed P [] o p bs f h = (f h.0, h.1)
each_changed P (a ∷ ps) o p bs f h = (h.0, each_changed P ps o p bs f h.1)

pub each_at : (P : Object → Type 0) (ps : List Object) (o : Object) (bs : List Object) → AllByRecursion P (ps ++ o ∷ bs) → P o
each_at P [] o bs h = h.0
each_at P (a ∷ ps) o bs h = each_at P ps o bs h.1

pub each_push : (P : Object → Type 0) (os : List Object) (o : Object) → AllByRecursion P os → P o → AllByRecursion P (os ++ o ∷ [])
each_push P [] o h k = (k, tt)
each_push P (a ∷ ps) o h k = (h.0, each_push P ps o h.1 k)

pub each_weaker : (P Q : Object → Type 0) → ((o : Object) → P o → Q o) → (os : List Object) → AllByRecursion P os → AllByRecursion Q os
each_weaker P Q f [] h = tt
each_weaker P Q f (o ∷ os) h = (f o h.0, each_weaker P Q f os h.1)

-- ---- the last that passes a test

or_this-assoc : (a b c : Option Owner) → or_this a (or_this b c) ≡ or_this (or_this a b) c
or_this-assoc None b c = refl
or_this-assoc (Some x) b c = refl

pub last_from-append : (test : Object → Bool) (n : ℕ) (xs ys : List Object) → last_from test n (xs ++ ys) ≡ or_this (last_from test (n + length xs) ys) (last_from test n xs)
last_from-append test n [] ys = ap (λ (k : ℕ). last_from test k ys) (let e : n ≡ n + 0 = omega arith in e) ∙ sym (or_none (last_from test (n + 0) ys))
  where
    or_none : (a : Option Owner) → or_this a None ≡ a
    or_none None = refl
    or_none (Some x) = refl
last_from-append test n (x ∷ xs) ys =
    let k : n + 1 + length xs ≡ n + suc (length xs) = omega arith in
    ap (λ (a : Option Owner). or_this a (cond (test x) (Some (record { number = n; object = x })) None)) (last_from-append test (n + 1) xs ys ∙ ap (λ (m : ℕ). or_this (last_from test m ys) (last_from test (n + 1) xs)) k)
    ∙ sym (or_this-assoc (last_from test (n + suc (length xs)) ys) (last_from test (n + 1) xs) (cond (test x) (Some (record { number = n; object = x })) None))

pub last_none : (test : Object → Bool) (n : ℕ) (os : List Object) → AllByRecursion (λ x. test x ≡ false) os → last_from test n os ≡ None
last_none test n [] h = refl
last_none test n (o ∷ os) h =
    ap (λ (b : Bool). or_this (last_from test (n + 1) os) (cond b (Some (record { number = n; object = o })) None)) h.0 ∙ ap (λ (a : Option Owner). or_this a None) (last_none test (n + 1) os h.1)

none_has : (a : ℕ) (bs : List Object) → AllByRecursion (λ y. a ≡ slot_of y → ⊥) bs → AllByRecursion (λ x. has_slot a x ≡ false) bs
none_has a [] h = tt
none_has a (b ∷ bs) h = (ne_eqb (slot_of b) a (λ e. h.0 (sym e)), none_has a bs h.1)

-- an object that holds its slot is its last owner
pub last_of_held : (ps : List Object) (o : Object) (bs : List Object) → Around ps o bs → last_owner (ps ++ o ∷ bs) (slot_of o) ≡ Some (record { number = length ps; object = o })
unfolding last_owner
last_of_held ps o bs r =
    last_from-append (has_slot (slot_of o)) 0 ps (o ∷ bs)
    ∙ ap (λ (a : Option Owner). or_this (or_this a (cond (nat_eq (slot_of o) (slot_of o)) (Some (record { number = 0 + length ps; object = o })) None)) (last_from (has_slot (slot_of o)) 0 ps))
    (last_none (has_slot (slot_of o)) (0 + length ps + 1) bs (none_has (slot_of o) bs r.after))
    ∙ ap (λ (b : Bool). or_this (cond b (Some (record { number = 0 + length ps; object = o })) None) (last_from (has_slot (slot_of o)) 0 ps)) (eq-eqb (slot_of o) (slot_of o) refl)
    ∙ ap (λ (k : ℕ). Some (record { number = k; object = o })) (let e : 0 + length ps ≡ length ps = omega arith in e)

-- another slot has the last owner that it had
pub last_of_others : (ps : List Object) (o p : Object) (bs : List Object) (a : ℕ) → (slot_of o ≡ a → ⊥) → slot_of p ≡ slot_of o → last_owner (ps ++ p ∷ bs) a ≡ last_owner (ps ++ o ∷ bs) a
unfolding last_owner
last_of_others ps o p bs a n s =
    last_from-append (has_slot a) 0 ps (p ∷ bs) ∙ ap (λ (x : Option Owner). or_this x (last_from (has_slot a) 0 ps)) (out p (λ e. n (sym s ∙ e)) ∙ sym (out o n)) ∙ sym (last_from-append (has_slot a) 0 ps (o ∷ bs))
  where
    out : (x : Object) → (slot_of x ≡ a → ⊥) → last_from (has_slot a) (0 + length ps) (x ∷ bs) ≡ or_this (last_from (has_slot a) (0 + length ps + 1) bs) None
    out x m = ap (λ (b : Bool). or_this (last_from (has_slot a) (0 + length ps + 1) bs) (cond b (Some (record { number = 0 + length ps; object = x })) None)) (ne_eqb (slot_of x) a m)

pub last_of_push : (os : List Object) (o : Object) (a : ℕ) → last_owner (os ++ o ∷ []) a ≡ cond (nat_eq (slot_of o) a) (Some (record { number = length os; object = o })) (last_owner os a)
unfolding last_owner
last_of_push os o a =
    last_from-append (has_slot a) 0 os (o ∷ []) ∙ ap (λ (k : ℕ). or_this (cond (nat_eq (slot_of o) a) (Some (record { number = k; object = o })) None) (last_from (has_slot a) 0 os)) (let e : 0 + length os ≡ length os = omega arith in e)
    ∙ at (nat_eq (slot_of o) a)
  where
    at : (b : Bool) → or_this (cond b (Some (record { number = length os; object = o })) None) (last_from (has_slot a) 0 os) ≡ cond b (Some (record { number = length os; object = o })) (last_from (has_slot a) 0 os)
    at true = refl
    at false = refl

-- the list is split at an object
pub record Split (n : ℕ) (os : List Object) (w : Owner) : Type 0 where
  pub before : List Object
  pub after : List Object
  pub parts : os ≡ before ++ w.object ∷ after
  pub number : w.number ≡ n + length before

pub last_splits : (test : Object → Bool) (n : ℕ) (os : List Object) (w : Owner) → last_from test n os ≡ Some w → Split n os w × (test w.object ≡ true)
last_splits test n [] w e = absurd (cc)
last_splits test n (o ∷ os) w e = at (last_from test (n + 1) os) refl (last_splits test (n + 1) os) e
  where
    here : (b : Bool) → test o ≡ b → cond b (Some (record { number = n; object = o })) None ≡ Some w → Split n (o ∷ os) w × (test w.object ≡ true)
    here true q f =
        let x : o ≡ w.object = cc in let k : n ≡ w.number = cc in
        (record { before = []; after = os; parts = ap (λ (y : Object). y ∷ os) x; number = sym k ∙ (let z : n ≡ n + 0 = omega arith in z) }, ap test (sym x) ∙ q)
    here false q f = absurd (cc)

    at : (t : Option Owner) → last_from test (n + 1) os ≡ t → ((v : Owner) → last_from test (n + 1) os ≡ Some v → Split (n + 1) os v × (test v.object ≡ true)) → or_this t (cond (test o) (Some (record { number = n; object = o })) None) ≡ Some w → Split n (o ∷ os) w × (test w.object ≡ true)
    at None q ih f = here (test o) refl f
    at (Some v) q ih f =
        let r = ih w (q ∙ f) in
        (record { before = o ∷ r.0.before; after = r.0.after; parts = ap (λ (ys : List Object). o ∷ ys) r.0.parts; number = r.0.number ∙ (let z : n + 1 + length r.0.before ≡ n + suc (length r.0.before) = omega arith in z) }, r.1)

-- ---- the owner of an address

-- an object is the owner of an address where it passes the test for that, and none behind it does
pub owner_of_parts : (ps : List Object) (o : Object) (bs : List Object) (a : ℕ) → is_owned_at a o ≡ true → AllByRecursion (λ x. is_owned_at a x ≡ false) bs → owner_of (ps ++ o ∷ bs) a ≡ Some (record { number = length ps; object = o })
unfolding owner_of
owner_of_parts ps o bs a h none =
    last_from-append (is_owned_at a) 0 ps (o ∷ bs)
    ∙ ap (λ (x : Option Owner). or_this (or_this x (cond (is_owned_at a o) (Some (record { number = 0 + length ps; object = o })) None)) (last_from (is_owned_at a) 0 ps)) (last_none (is_owned_at a) (0 + length ps + 1) bs none)
    ∙ ap (λ (b : Bool). or_this (cond b (Some (record { number = 0 + length ps; object = o })) None) (last_from (is_owned_at a) 0 ps)) h
    ∙ ap (λ (k : ℕ). Some (record { number = k; object = o })) (let e : 0 + length ps ≡ length ps = omega arith in e)

-- a slot is held where its last owner holds it
abbrev pub held_last : Option Owner → Bool
held_last None = false
held_last (Some w) = holds_slot w.object

held_from : (a n : ℕ) (os : List Object) → AreApart os → any_held a os ≡ held_last (last_from (has_slot a) n os)
held_from a n [] h = refl
held_from a n (o ∷ os) h = at (last_from (has_slot a) (n + 1) os) refl (held_from a (n + 1) os h.1)
  where
    me : Owner
    me = record { number = n; object = o }

    and_false : (b : Bool) → (b && false) ≡ false
    and_false true = refl
    and_false false = refl

    -- the first has another slot, or doesn't hold it
    off : (w : Owner) (s : Split (n + 1) os w) → has_slot a w.object ≡ true → (holds_slot o && nat_eq (slot_of o) a) ≡ false
    off w s t = here (cases_eq (slot_of o) a)
      where
        here : (slot_of o ≡ a) ⊎ (slot_of o ≡ a → ⊥) → (holds_slot o && nat_eq (slot_of o) a) ≡ false
        here (inl e) = ap (λ (b : Bool). b && nat_eq (slot_of o) a) (each_at (IsEarlier o) s.before w.object s.after (subst (AllByRecursion (IsEarlier o)) s.parts h.0) (e ∙ sym (eqb-true (slot_of w.object) a t)))
        here (inr m) = ap (λ (b : Bool). holds_slot o && b) (ne_eqb (slot_of o) a m) ∙ and_false (holds_slot o)

    single : (b : Bool) → ((holds_slot o && b) || false) ≡ held_last (cond b (Some me) None)
    single true = tidy (holds_slot o)
      where
        tidy : (b : Bool) → ((b && true) || false) ≡ b
        tidy true = refl
        tidy false = refl
    single false = ap (λ (b : Bool). b || false) (and_false (holds_slot o))

    at : (t : Option Owner) → last_from (has_slot a) (n + 1) os ≡ t → any_held a os ≡ held_last (last_from (has_slot a) (n + 1) os)
        → ((holds_slot o && nat_eq (slot_of o) a) || any_held a os) ≡ held_last (or_this (last_from (has_slot a) (n + 1) os) (cond (has_slot a o) (Some me) None))
    at None q e =
        ap (λ (b : Bool). (holds_slot o && nat_eq (slot_of o) a) || b) (e ∙ ap held_last q) ∙ single (nat_eq (slot_of o) a)
        ∙ sym (ap (λ (x : Option Owner). held_last (or_this x (cond (has_slot a o) (Some me) None))) q)
    at (Some w) q e =
        let s = last_splits (has_slot a) (n + 1) os w q in
        ap (λ (b : Bool). b || any_held a os) (off w s.0 s.1) ∙ e ∙ ap held_last q ∙ sym (ap (λ (x : Option Owner). held_last (or_this x (cond (has_slot a o) (Some me) None))) q)

pub held_is_last : (os : List Object) (a : ℕ) → AreApart os → contains (held_by os) a ≡ held_last (last_owner os a)
unfolding last_owner
held_is_last os a h = contains-held os a ∙ held_from a 0 os h

-- ---- a change by number

changed_from-at : (f : Object → Object) (n from : ℕ) (ps : List Object) (o : Object) (bs : List Object) → from + length ps ≡ n → changed_from f n from (ps ++ o ∷ bs) ≡ ps ++ f o ∷ bs
changed_from-at f n from [] o bs e = ap (λ (b : Bool). cond b (f o ∷ bs) (o ∷ changed_from f n (from + 1) bs)) (eq-eqb from n (omega arith))
changed_from-at f n from (a ∷ ps) o bs e =
    ap (λ (b : Bool). cond b (f a ∷ (ps ++ o ∷ bs)) (a ∷ changed_from f n (from + 1) (ps ++ o ∷ bs))) (ne_eqb from n (λ q. omega (arith, e, q)))
    ∙ ap (λ (xs : List Object). a ∷ xs) (changed_from-at f n (from + 1) ps o bs (omega (arith, e)))

pub changed_at-is : (f : Object → Object) (n : ℕ) (ps : List Object) (o : Object) (bs : List Object) → n ≡ length ps → changed_at f n (ps ++ o ∷ bs) ≡ ps ++ f o ∷ bs
unfolding changed_at
changed_at-is f n ps o bs e = changed_from-at f n 0 ps o bs (omega (arith, e))

-- ---- counts

pub count-change : (p : Object → Bool) (ps : List Object) (o q : Object) (bs : List Object) → count_by p (ps ++ q ∷ bs) + cond (p o) 1 0 ≡ count_by p (ps ++ o ∷ bs) + cond (p q) 1 0
count-change p ps o q bs =
    let f : Object → ℕ = λ x. cond (p x) 1 0 in
    omega (arith, sum_by-append f ps (q ∷ bs), sum_by-append f ps (o ∷ bs), sum_by-cons f q bs, sum_by-cons f o bs)

pub count-push : (p : Object → Bool) (os : List Object) (o : Object) → count_by p (os ++ o ∷ []) ≡ count_by p os + cond (p o) 1 0
count-push p os o = let f : Object → ℕ = λ x. cond (p x) 1 0 in omega (arith, sum_by-append f os (o ∷ []), sum_by-cons f o [])

pub length-change : (ps : List Object) (o q : Object) (bs : List Object) → length (ps ++ q ∷ bs) ≡ length (ps ++ o ∷ bs)
length-change ps o q bs = length-append ps (q ∷ bs) ∙ sym (length-append ps (o ∷ bs))
