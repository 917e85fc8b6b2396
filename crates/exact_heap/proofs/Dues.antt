-- The deferred objects' entries in order.
use Rattle.std.proofs.Common.{◌≡◌, ℕ, suc, ◌+◌, refl, ap, sym, ◌∙◌, Bool, true, false, cond, arith, List, [], ◌∷◌, ◌++◌, length, append_assoc, All}
use Rattle.std.specs.List.{AllByRecursion}
use Rattle.std.proofs.lemmas.Bool.{false≢true}
use Rattle.std.proofs.lemmas.List.Elements.{All-head, All-tail}
use Rattle.std.proofs.lemmas.Bool.Decides.{nat_tests}
use Rattle.deferral_queue.specs.declared.Due.{Due}
use Rattle.deferral_queue.specs.Order.{is_before}
use Rattle.deferral_queue.specs.Deferrals.{insert_due, sorted_dues}
use Rattle.deferral_queue.specs.Laws.{insert_due_comm}
use Rattle.exact_heap.specs.History.{ObjectState, Owned, Deferred, Released, Object, slot_of, due_entry, dues_from}

pub dues_from-append : (n : ℕ) (xs ys : List Object) → dues_from n (xs ++ ys) ≡ dues_from n xs ++ dues_from (n + length xs) ys
dues_from-append n [] ys = ap (λ (k : ℕ). dues_from k ys) (let e : n ≡ n + 0 = omega arith in e)
dues_from-append n (x ∷ xs) ys =
    ap (λ (ds : List Due). due_entry n x x.state ++ ds) (dues_from-append (n + 1) xs ys ∙ ap (λ (k : ℕ). dues_from (n + 1) xs ++ dues_from k ys) (let e : n + 1 + length xs ≡ n + suc (length xs) = omega arith in e))
    ∙ sym (append_assoc (due_entry n x x.state) (dues_from (n + 1) xs) (dues_from (n + suc (length xs)) ys))

pub sorted_dues-middle : (xs : List Due) (d : Due) (ys : List Due) → sorted_dues (xs ++ d ∷ ys) ≡ insert_due d (sorted_dues (xs ++ ys))
sorted_dues-middle [] d ys = refl
sorted_dues-middle (x ∷ xs) d ys = ap (insert_due x) (sorted_dues-middle xs d ys) ∙ insert_due_comm x d (sorted_dues (xs ++ ys))

irreflexive : (d : Due) → is_before d d ≡ false
unfolding is_before
irreflexive d = grind (arith, nat_tests)

-- what comes first was put before the rest
pub insert_head : (d : Due) (xs rest : List Due) → insert_due d xs ≡ d ∷ rest → xs ≡ rest
insert_head d [] rest e = cc
insert_head d (y ∷ ys) rest e = at (is_before y d) refl e
  where
    at : (b : Bool) → is_before y d ≡ b → cond b (y ∷ insert_due d ys) (d ∷ (y ∷ ys)) ≡ d ∷ rest → y ∷ ys ≡ rest
    at true q f = let h : y ≡ d = cc in absurd (false≢true (sym (irreflexive d) ∙ ap (λ (v : Due). is_before v d) (sym h) ∙ q))
    at false q f = cc

-- the entry that comes first is among them
pub record IsAmong (xs : List Due) (d : Due) (rest : List Due) : Type 0 where
  pub before : List Due
  pub after : List Due
  pub parts : xs ≡ before ++ d ∷ after
  pub rest_is : sorted_dues (before ++ after) ≡ rest

pub head_among : (xs : List Due) (d : Due) (rest : List Due) → sorted_dues xs ≡ d ∷ rest → IsAmong xs d rest
head_among [] d rest e = absurd (cc)
head_among (x ∷ xs) d rest e = at (sorted_dues xs) refl (head_among xs d) e
  where
    at : (ys : List Due) → sorted_dues xs ≡ ys → ((r : List Due) → sorted_dues xs ≡ d ∷ r → IsAmong xs d r) → insert_due x ys ≡ d ∷ rest → IsAmong (x ∷ xs) d rest
    at [] q ih f =
        let h : x ≡ d = cc in let r : [] ≡ rest = cc in
        record { before = []; after = xs; parts = ap (λ (v : Due). v ∷ xs) h; rest_is = q ∙ r }
    at (y ∷ ys) q ih f = split (is_before y x) refl f
      where
        split : (b : Bool) → is_before y x ≡ b → cond b (y ∷ insert_due x ys) (x ∷ (y ∷ ys)) ≡ d ∷ rest → IsAmong (x ∷ xs) d rest
        split true t g =
            let h : y ≡ d = cc in let r : insert_due x ys ≡ rest = cc in
            let k = ih ys (q ∙ ap (λ (v : Due). v ∷ ys) h) in
            record { before = x ∷ k.before; after = k.after; parts = ap (λ (l : List Due). x ∷ l) k.parts; rest_is = ap (insert_due x) k.rest_is ∙ r }
        split false t g =
            let h : x ≡ d = cc in let r : y ∷ ys ≡ rest = cc in
            record { before = []; after = xs; parts = ap (λ (v : Due). v ∷ xs) h; rest_is = q ∙ r }

-- an entry among them is that of a deferred object
pub record IsEntry (n : ℕ) (os : List Object) (before : List Due) (d : Due) (after : List Due) : Type 0 where
  pub first : List Object
  pub object : Object
  pub last : List Object
  pub parts : os ≡ first ++ object ∷ last
  pub state : object.state ≡ Deferred d.due
  pub is : d ≡ record { due = d.due; object = n + length first; addr = slot_of object }
  pub before_is : before ≡ dues_from n first
  pub after_is : after ≡ dues_from (n + length first + 1) last

pub entry_of : (n : ℕ) (os : List Object) (before : List Due) (d : Due) (after : List Due) → dues_from n os ≡ before ++ d ∷ after → IsEntry n os before d after
entry_of n [] [] d after e = absurd (cc)
entry_of n [] (b ∷ before) d after e = absurd (cc)
entry_of n (o ∷ os) before d after e = at o.state refl e (entry_of (n + 1) os)
  where
    step : (x : ObjectState) → o.state ≡ x → due_entry n o x ≡ [] → IsEntry (n + 1) os before d after → IsEntry n (o ∷ os) before d after
    step x q z r = record {
      first = o ∷ r.first;
      object = r.object;
      last = r.last;
      parts = ap (λ (l : List Object). o ∷ l) r.parts;
      state = r.state;
      is = r.is ∙ ap (λ (k : ℕ). record { due = d.due; object = k; addr = slot_of r.object }) (let k : n + 1 + length r.first ≡ n + suc (length r.first) = omega arith in k);
      before_is = r.before_is ∙ sym (ap (λ (l : List Due). l ++ dues_from (n + 1) r.first) (ap (due_entry n o) q ∙ z));
      after_is = r.after_is ∙ ap (λ (k : ℕ). dues_from k r.last) (let k : n + 1 + length r.first + 1 ≡ n + suc (length r.first) + 1 = omega arith in k);
    }

    deferred : (due : ℕ) → o.state ≡ Deferred due → (ds : List Due) → before ≡ ds → record { due = due; object = n; addr = slot_of o } ∷ dues_from (n + 1) os ≡ ds ++ d ∷ after
        → ((bs : List Due) (v : Due) (cs : List Due) → dues_from (n + 1) os ≡ bs ++ v ∷ cs → IsEntry (n + 1) os bs v cs) → IsEntry n (o ∷ os) before d after
    deferred due q [] b f ih =
        let h : record { due = due; object = n; addr = slot_of o } ≡ d = cc in
        let r : dues_from (n + 1) os ≡ after = cc in
        let w : due ≡ d.due = ap (λ (v : Due). v.due) h in
        record {
          first = [];
          object = o;
          last = os;
          parts = refl;
          state = q ∙ ap Deferred w;
          is = sym h ∙ ap (λ (v : ℕ). record { due = v; object = n; addr = slot_of o }) w ∙ ap (λ (k : ℕ). record { due = d.due; object = k; addr = slot_of o }) (let k : n ≡ n + 0 = omega arith in k);
          before_is = b;
          after_is = sym r ∙ ap (λ (k : ℕ). dues_from k os) (let k : n + 1 ≡ n + 0 + 1 = omega arith in k);
        }
    deferred due q (x ∷ ds) b f ih =
        let h : record { due = due; object = n; addr = slot_of o } ≡ x = cc in
        let t : dues_from (n + 1) os ≡ ds ++ d ∷ after = cc in
        let r = ih ds d after t in
        record {
          first = o ∷ r.first;
          object = r.object;
          last = r.last;
          parts = ap (λ (l : List Object). o ∷ l) r.parts;
          state = r.state;
          is = r.is ∙ ap (λ (k : ℕ). record { due = d.due; object = k; addr = slot_of r.object }) (let k : n + 1 + length r.first ≡ n + suc (length r.first) = omega arith in k);
          before_is = b ∙ ap (λ (v : Due). v ∷ ds) (sym h) ∙ ap (λ (l : List Due). record { due = due; object = n; addr = slot_of o } ∷ l) r.before_is
              ∙ sym (ap (λ (l : List Due). l ++ dues_from (n + 1) r.first) (ap (due_entry n o) q));
          after_is = r.after_is ∙ ap (λ (k : ℕ). dues_from k r.last) (let k : n + 1 + length r.first + 1 ≡ n + suc (length r.first) + 1 = omega arith in k);
        }

    at : (x : ObjectState) → o.state ≡ x → due_entry n o x ++ dues_from (n + 1) os ≡ before ++ d ∷ after
        → ((bs : List Due) (v : Due) (cs : List Due) → dues_from (n + 1) os ≡ bs ++ v ∷ cs → IsEntry (n + 1) os bs v cs) → IsEntry n (o ∷ os) before d after
    at Owned q f ih = step Owned q refl (ih before d after f)
    at (Released due) q f ih = step (Released due) q refl (ih before d after f)
    at (Deferred due) q f ih = deferred due q before refl f ih

-- ---- the first entry, and what is left without it

pub record FirstDue (os : List Object) (d : Due) (rest : List Due) : Type 0 where
  pub first : List Object
  pub object : Object
  pub last : List Object
  pub parts : os ≡ first ++ object ∷ last
  pub state : object.state ≡ Deferred d.due
  pub is : d ≡ record { due = d.due; object = length first; addr = slot_of object }
  pub rest_is : (p : Object) → due_entry (length first) p p.state ≡ [] → sorted_dues (dues_from 0 (first ++ p ∷ last)) ≡ rest

pub first_due : (os : List Object) (d : Due) (rest : List Due) → sorted_dues (dues_from 0 os) ≡ d ∷ rest → FirstDue os d rest
first_due os d rest e =
    let a = head_among (dues_from 0 os) d rest e in
    let r = entry_of 0 os a.before d a.after a.parts in
    let k : 0 + length r.first ≡ length r.first = omega arith in
    record {
      first = r.first;
      object = r.object;
      last = r.last;
      parts = r.parts;
      state = r.state;
      is = r.is ∙ ap (λ (n : ℕ). record { due = d.due; object = n; addr = slot_of r.object }) k;
      rest_is = λ p z.
          ap sorted_dues (dues_from-append 0 r.first (p ∷ r.last) ∙ ap (λ (n : ℕ). dues_from 0 r.first ++ (due_entry n p p.state ++ dues_from (n + 1) r.last)) k
          ∙ ap (λ (l : List Due). dues_from 0 r.first ++ (l ++ dues_from (length r.first + 1) r.last)) z
          ∙ ap (λ (n : ℕ). dues_from 0 r.first ++ dues_from (n + 1) r.last) (sym k)
          ∙ ap (λ (l : List Due). l ++ dues_from (0 + length r.first + 1) r.last) (sym r.before_is) ∙ ap (λ (l : List Due). a.before ++ l) (sym r.after_is))
          ∙ a.rest_is;
    }

-- an object that becomes deferred
pub dues_deferred : (first : List Object) (o p : Object) (last : List Object) (d : Due) → due_entry (length first) o o.state ≡ [] → due_entry (length first) p p.state ≡ d ∷ []
    → sorted_dues (dues_from 0 (first ++ p ∷ last)) ≡ insert_due d (sorted_dues (dues_from 0 (first ++ o ∷ last)))
dues_deferred first o p last d eo ep =
    ap sorted_dues (form p ∙ ap (λ (l : List Due). dues_from 0 first ++ (l ++ dues_from (length first + 1) last)) ep)
    ∙ sorted_dues-middle (dues_from 0 first) d (dues_from (length first + 1) last)
    ∙ sym (ap (λ (l : List Due). insert_due d (sorted_dues l)) (form o ∙ ap (λ (l : List Due). dues_from 0 first ++ (l ++ dues_from (length first + 1) last)) eo))
  where
    form : (x : Object) → dues_from 0 (first ++ x ∷ last) ≡ dues_from 0 first ++ (due_entry (length first) x x.state ++ dues_from (length first + 1) last)
    form x = dues_from-append 0 first (x ∷ last) ∙ ap (λ (n : ℕ). dues_from 0 first ++ (due_entry n x x.state ++ dues_from (n + 1) last)) (let k : 0 + length first ≡ length first = omega arith in k)

-- an object that has no entry before and after
pub dues_same : (first : List Object) (o p : Object) (last : List Object) → due_entry (length first) o o.state ≡ due_entry (length first) p p.state → dues_from 0 (first ++ p ∷ last) ≡ dues_from 0 (first ++ o ∷ last)
dues_same first o p last e = form p ∙ ap (λ (l : List Due). dues_from 0 first ++ (l ++ dues_from (length first + 1) last)) (sym e) ∙ sym (form o)
  where
    form : (x : Object) → dues_from 0 (first ++ x ∷ last) ≡ dues_from 0 first ++ (due_entry (length first) x x.state ++ dues_from (length first + 1) last)
    form x = dues_from-append 0 first (x ∷ last) ∙ ap (λ (n : ℕ). dues_from 0 first ++ (due_entry n x x.state ++ dues_from (n + 1) last)) (let k : 0 + length first ≡ length first = omega arith in k)

pub dues_push : (os : List Object) (o : Object) → ((n : ℕ) → due_entry n o o.state ≡ []) → dues_from 0 (os ++ o ∷ []) ≡ dues_from 0 os
dues_push os o e = dues_from-append 0 os (o ∷ []) ∙ ap (λ (l : List Due). dues_from 0 os ++ (l ++ [])) (e (0 + length os)) ∙ append_nil (dues_from 0 os)
  where
    append_nil : (l : List Due) → l ++ [] ≡ l
    append_nil [] = refl
    append_nil (x ∷ l) = ap (λ (t : List Due). x ∷ t) (append_nil l)

-- ---- what holds of each entry in order holds of each

inserted_all : (P : Due → Type 0) (x : Due) (ys : List Due) → AllByRecursion P (insert_due x ys) → P x × AllByRecursion P ys
inserted_all P x [] h = h
inserted_all P x (y ∷ ys) h = at (is_before y x) h (inserted_all P x ys)
  where
    at : (b : Bool) → AllByRecursion P (cond b (y ∷ insert_due x ys) (x ∷ (y ∷ ys))) → (AllByRecursion P (insert_due x ys) → P x × AllByRecursion P ys) → P x × AllByRecursion P (y ∷ ys)
    at true k ih = let r = ih k.1 in (r.0, (k.0, r.1))
    at false k ih = k

pub sorted_all : (P : Due → Type 0) (xs : List Due) → AllByRecursion P (sorted_dues xs) → AllByRecursion P xs
sorted_all P [] h = tt
sorted_all P (x ∷ xs) h = let r = inserted_all P x (sorted_dues xs) h in (r.0, sorted_all P xs r.1)

pub all_recursive : (P : Due → Type 0) (xs : List Due) → All P xs → AllByRecursion P xs
all_recursive P [] h = tt
all_recursive P (x ∷ xs) h = (All-head P x xs h, all_recursive P xs (All-tail P x xs h))
