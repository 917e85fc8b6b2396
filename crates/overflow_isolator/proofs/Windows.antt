-- Windows of an object, and what is broken in all of them.
use Rattle.std.proofs.Common.{inl, inr, ◌≡◌, ◌⊎◌, ℕ, zero, suc, ◌+◌, ◌-◌, ◌<◌, ◌≤◌, ◌==◌, ◌&&◌, ◌||◌, nat_lt, nat_le, Bool, true, false, cond, List, [], ◌∷◌, ◌++◌, length, get_or, take, filter, Option, Some, None, refl, sym, ap, subst, ◌∙◌, arith}
use Rattle.std.specs.Prelude.{IsSomeAnd, IsTrue}
use Rattle.std.specs.List.{AllByRecursion, AllZip, Contains, list_any}
use Rattle.std.proofs.lemmas.Bool.Decides.{nat_tests}
use Rattle.std.proofs.lemmas.List.{take_more}
use Rattle.std.proofs.lemmas.List.Elements.{All-from_recursion, recursion_from_All, All-contains, All-get_or, filter_passes}
use Rattle.exact_heap.specs.declared.row.SlotRow.{SlotRow}
use Rattle.heap_image.specs.declared.image.Broken.{Broken}
use Rattle.heap_image.specs.Agreement.{row_of}
use Rattle.heap_image.specs.Lookup.{AddrsRise, address_of, is_broken, is_within}
use Rattle.heap_image.specs.Snapshot.{Snapshot}
use Rattle.overflow_isolator.specs.Overflows.{AreBrokenBefore, AreBrokenPast, IsGreatestBelow}
use Rattle.overflow_isolator.specs.Windows.{AreBreaksOf, AreBrokenBack, IsBrokenBack, IsBrokenBefore, IsLeastBelow, IsWindowOf, end_from}
use Rattle.overflow_isolator.specs.declared.window.Window.{Window}

-- ---- a window's broken bytes

within_told : (from to a : ℕ) → (nat_le from a && nat_lt a to) ≡ true → (from ≤ a) × (a < to)
within_told from to a h = (low from to a h, high from to a h)
  where
    low : (from to a : ℕ) → (nat_le from a && nat_lt a to) ≡ true → from ≤ a
    low from to a h = grind (arith, nat_tests)

    high : (from to a : ℕ) → (nat_le from a && nat_lt a to) ≡ true → a < to
    high from to a h = grind (arith, nat_tests)

within_is : (from to a : ℕ) → from ≤ a → a < to → (nat_le from a && nat_lt a to) ≡ true
within_is from to a h k = grind (arith, nat_tests)

is_equal : (a b : ℕ) → (a == b) ≡ true → a ≡ b
is_equal a b h = grind (arith, nat_tests)

-- what is listed at an address is kept, where its kind is
kept_at : (p : Broken → Bool) (bs : List Broken) (a : ℕ) → ((b : Broken) → b.addr ≡ a → p b ≡ true) → list_any (λ b. b.addr == a) bs ≡ true → (i : ℕ) × (i < length (filter p bs)) × ((d : Broken) → (get_or (filter p bs) i d).addr ≡ a)
kept_at p [] a keeps h = absurd (cc)
kept_at p (x ∷ bs) a keeps h = here (kept_at p bs a keeps) (x.addr == a) refl h
  where
    there : (t : Bool) → (i : ℕ) × (i < length (filter p bs)) × ((d : Broken) → (get_or (filter p bs) i d).addr ≡ a) → (i : ℕ) × (i < length (cond t (x ∷ filter p bs) (filter p bs))) × ((d : Broken) → (get_or (cond t (x ∷ filter p bs) (filter p bs)) i d).addr ≡ a)
    there true k = (suc k.0, omega (arith, k.1), k.2)
    there false k = k

    here : (list_any (λ b. b.addr == a) bs ≡ true → (i : ℕ) × (i < length (filter p bs)) × ((d : Broken) → (get_or (filter p bs) i d).addr ≡ a)) → (e : Bool) → (x.addr == a) ≡ e → (e || list_any (λ b. b.addr == a) bs) ≡ true → (i : ℕ) × (i < length (cond (p x) (x ∷ filter p bs) (filter p bs))) × ((d : Broken) → (get_or (cond (p x) (x ∷ filter p bs) (filter p bs)) i d).addr ≡ a)
    here more true e q =
        let same : x.addr ≡ a = is_equal x.addr a e in
        subst (λ t. (i : ℕ) × (i < length (cond t (x ∷ filter p bs) (filter p bs))) × ((d : Broken) → (get_or (cond t (x ∷ filter p bs) (filter p bs)) i d).addr ≡ a)) (sym (keeps x same)) (0, omega arith, λ d. same)
    here more false e q = there (p x) (more q)

pub breaks_of : (w : Window) (from : ℕ) (breaks : List Broken) → from ≡ w.end - 65536 → breaks ≡ filter (is_within from w.end) w.image.now.broken → AddrsRise breaks → AreBreaksOf w breaks
breaks_of w from breaks start e rise = record {
  rising = rise;
  before = λ d i lt. (inside d i lt).1;
  near = λ d i lt. let low : from ≤ (get_or breaks i d).addr = (inside d i lt).0 in omega arith;
  all = λ distance one most h.
      let k = kept_at (is_within from w.end) w.image.now.broken (w.end - distance) (λ b same. at_start b distance one most h.0 same) h.1 in
      let back : w.end - distance + distance ≡ w.end = rejoined w.end distance h.0 in
      (k.0, subst (λ xs. k.0 < length xs) (sym e) k.1, λ d. subst (λ xs. (get_or xs k.0 d).addr + distance ≡ w.end) (sym e) (ap (λ n. n + distance) (k.2 d) ∙ back));
}
  where
    inside : (d : Broken) (i : ℕ) → i < length breaks → (from ≤ (get_or breaks i d).addr) × ((get_or breaks i d).addr < w.end)
    inside d i lt =
        within_told from w.end (get_or breaks i d).addr
        (subst (λ xs. is_within from w.end (get_or xs i d) ≡ true) (sym e)
        (All-get_or (λ b. is_within from w.end b ≡ true) (filter (is_within from w.end) w.image.now.broken) i d (subst (λ xs. i < length xs) e lt) (filter_passes (is_within from w.end) w.image.now.broken)))

    rejoined : (end distance : ℕ) → distance ≤ end → end - distance + distance ≡ end
    rejoined end distance h = omega arith

    at_start : (b : Broken) (distance : ℕ) → 1 ≤ distance → distance ≤ 65536 → distance ≤ w.end → b.addr ≡ w.end - distance → is_within from w.end b ≡ true
    at_start b distance one most fits same = within_is from w.end b.addr (omega arith) (omega arith)

-- ---- windows of an object

right_of : {A B : Type 0} (R : A → B → Type 0) (P : A → Type 0) (Q : B → Type 0) → ((a : A) (b : B) → R a b → P a → Q b) → (xs : List A) (ys : List B) → AllZip R xs ys → AllByRecursion P xs → AllByRecursion Q ys
right_of R P Q f [] [] z h = tt
right_of R P Q f [] (y ∷ ys) z h = absurd z
right_of R P Q f (x ∷ xs) [] z h = absurd z
right_of R P Q f (x ∷ xs) (y ∷ ys) z h = (f x y z.0 h.0, right_of R P Q f xs ys z.1 h.1)

left_of : {A B : Type 0} (R : A → B → Type 0) (P : A → Type 0) (Q : B → Type 0) → ((a : A) (b : B) → R a b → Q b → P a) → (xs : List A) (ys : List B) → AllZip R xs ys → AllByRecursion Q ys → AllByRecursion P xs
left_of R P Q f [] [] z h = tt
left_of R P Q f [] (y ∷ ys) z h = absurd z
left_of R P Q f (x ∷ xs) [] z h = absurd z
left_of R P Q f (x ∷ xs) (y ∷ ys) z h = (f x y z.0 h.0, left_of R P Q f xs ys z.1 h.1)

zip_push : {A B : Type 0} (R : A → B → Type 0) (xs : List A) (ys : List B) (x : A) (y : B) → AllZip R xs ys → R x y → AllZip R (xs ++ x ∷ []) (ys ++ y ∷ [])
zip_push R [] [] x y z r = (r, tt)
zip_push R [] (b ∷ ys) x y z r = absurd z
zip_push R (a ∷ xs) [] x y z r = absurd z
zip_push R (a ∷ xs) (b ∷ ys) x y z r = (z.0, zip_push R xs ys x y z.1 r)

-- one more of both
pub zip_more : {A B : Type 0} (R : A → B → Type 0) (xs : List A) (ys : List B) (i : ℕ) (x : A) (y : B) → i < length xs → x ≡ get_or xs i x → AllZip R (take i xs) ys → R x y → AllZip R (take (i + 1) xs) (ys ++ y ∷ [])
zip_more R xs ys i x y lt is z r = rw (take_more xs i x lt) (zip_push R (take i xs) ys (get_or xs i x) y z (subst (λ a. R a y) is r))

pub zip_length : {A B : Type 0} (R : A → B → Type 0) (xs : List A) (ys : List B) → AllZip R xs ys → length xs ≡ length ys
zip_length R [] [] z = refl
zip_length R [] (y ∷ ys) z = absurd z
zip_length R (x ∷ xs) [] z = absurd z
zip_length R (x ∷ xs) (y ∷ ys) z = ap suc (zip_length R xs ys z.1)

abbrev Past : (object distance : ℕ) → Snapshot → Type 0
Past object distance s = IsSomeAnd (row_of object s) (λ r. IsTrue (is_broken s (address_of r + distance)))

abbrev Before : (object distance : ℕ) → Snapshot → Type 0
Before object distance s = IsSomeAnd (row_of object s) (λ r. (distance ≤ address_of r) × IsTrue (is_broken s (address_of r - distance)))

pub past_end : (o : Option SlotRow) (s : Snapshot) (size d : ℕ) → d < size + 65536 → IsSomeAnd o (λ r. IsTrue (is_broken s (address_of r + d))) → IsBrokenBefore (end_from (size + 65536) o) (size + 65536 - d) s
past_end None s size d near h = absurd h
past_end (Some r) s size d near h = (omega arith, subst (λ a. is_broken s a ≡ true) (there (r.addr + r.front) size d near) h)
  where
    there : (a size d : ℕ) → d < size + 65536 → a + d ≡ a + (size + 65536) - (size + 65536 - d)
    there a size d near = omega arith

end_past : (o : Option SlotRow) (s : Snapshot) (size d : ℕ) → d < size + 65536 → IsBrokenBefore (end_from (size + 65536) o) (size + 65536 - d) s → IsSomeAnd o (λ r. IsTrue (is_broken s (address_of r + d)))
end_past None s size d near h = let le : size + 65536 - d ≤ 0 = h.0 in absurd (omega arith)
end_past (Some r) s size d near h = subst (λ a. is_broken s a ≡ true) (there (r.addr + r.front) size d near) h.1
  where
    there : (a size d : ℕ) → d < size + 65536 → a + (size + 65536) - (size + 65536 - d) ≡ a + d
    there a size d near = omega arith

pub before_end : (o : Option SlotRow) (s : Snapshot) (d : ℕ) → IsSomeAnd o (λ r. (d ≤ address_of r) × IsTrue (is_broken s (address_of r - d))) → IsBrokenBefore (end_from 0 o) d s
before_end None s d h = absurd h
before_end (Some r) s d h = let le : d ≤ r.addr + r.front = h.0 in (omega arith, subst (λ a. is_broken s a ≡ true) (there (r.addr + r.front) d) h.1)
  where
    there : (a d : ℕ) → a - d ≡ a + 0 - d
    there a d = omega arith

end_before : (o : Option SlotRow) (s : Snapshot) (d : ℕ) → 1 ≤ d → IsBrokenBefore (end_from 0 o) d s → IsSomeAnd o (λ r. (d ≤ address_of r) × IsTrue (is_broken s (address_of r - d)))
end_before None s d one h = let le : d ≤ 0 = h.0 in absurd (omega arith)
end_before (Some r) s d one h = let le : d ≤ r.addr + r.front + 0 = h.0 in (omega arith, subst (λ a. is_broken s a ≡ true) (there (r.addr + r.front) d) h.1)
  where
    there : (a d : ℕ) → a + 0 - d ≡ a - d
    there a d = omega arith

pub moved : (object gap d : ℕ) (s : Snapshot) (w : Window) → IsWindowOf object gap s w → IsBrokenBefore (end_from gap (row_of object s)) d s → IsBrokenBack d w
moved object gap d s w of h = rw (of.image, of.end) h

moved_back : (object gap d : ℕ) (s : Snapshot) (w : Window) → IsWindowOf object gap s w → IsBrokenBack d w → IsBrokenBefore (end_from gap (row_of object s)) d s
moved_back object gap d s w of h = rw (of.image, of.end) at h

pub past_back : (images : List Snapshot) (windows : List Window) (object size d : ℕ) → d < size + 65536 → AllZip (IsWindowOf object (size + 65536)) images windows → AreBrokenPast images object d → AreBrokenBack windows (size + 65536 - d)
past_back images windows object size d near zip h =
    All-from_recursion (IsBrokenBack (size + 65536 - d)) windows
    (right_of (IsWindowOf object (size + 65536)) (Past object d) (IsBrokenBack (size + 65536 - d))
    (λ s w of p. moved object (size + 65536) (size + 65536 - d) s w of (past_end (row_of object s) s size d near p))
    images windows zip (recursion_from_All (Past object d) images h))

pub back_past : (images : List Snapshot) (windows : List Window) (object size d : ℕ) → d < size + 65536 → AllZip (IsWindowOf object (size + 65536)) images windows → AreBrokenBack windows (size + 65536 - d) → AreBrokenPast images object d
back_past images windows object size d near zip h =
    All-from_recursion (Past object d) images
    (left_of (IsWindowOf object (size + 65536)) (Past object d) (IsBrokenBack (size + 65536 - d))
    (λ s w of p. end_past (row_of object s) s size d near (moved_back object (size + 65536) (size + 65536 - d) s w of p))
    images windows zip (recursion_from_All (IsBrokenBack (size + 65536 - d)) windows h))

pub before_back : (images : List Snapshot) (windows : List Window) (object d : ℕ) → AllZip (IsWindowOf object 0) images windows → AreBrokenBefore images object d → AreBrokenBack windows d
before_back images windows object d zip h =
    All-from_recursion (IsBrokenBack d) windows
    (right_of (IsWindowOf object 0) (Before object d) (IsBrokenBack d)
    (λ s w of p. moved object 0 d s w of (before_end (row_of object s) s d p))
    images windows zip (recursion_from_All (Before object d) images h))

pub back_before : (images : List Snapshot) (windows : List Window) (object d : ℕ) → 1 ≤ d → AllZip (IsWindowOf object 0) images windows → AreBrokenBack windows d → AreBrokenBefore images object d
back_before images windows object d one zip h =
    All-from_recursion (Before object d) images
    (left_of (IsWindowOf object 0) (Before object d) (IsBrokenBack d)
    (λ s w of p. end_before (row_of object s) s d one (moved_back object 0 d s w of p))
    images windows zip (recursion_from_All (IsBrokenBack d) windows h))

-- ---- walking through one window's broken bytes

abbrev BackOf : Window → List Broken → ℕ → Broken → ℕ
BackOf w bs i d = w.end - (get_or bs i d).addr

-- no byte of the places from one on, or of all places, is broken in all windows
abbrev pub NoneFrom : List Window → Window → List Broken → ℕ → Type 0
NoneFrom windows w bs from = (d : Broken) (i : ℕ) → from ≤ i → i < length bs → ¬ AreBrokenBack windows (w.end - (get_or bs i d).addr)

abbrev pub NoneTo : List Window → Window → List Broken → ℕ → Type 0
NoneTo windows w bs to = (d : Broken) (i : ℕ) → i < to → i < length bs → ¬ AreBrokenBack windows (w.end - (get_or bs i d).addr)

module _ (windows : List Window) (w : Window) (among : Contains windows w) (bs : List Broken) (of : AreBreaksOf w bs) (d : Broken) where
  -- what is broken in all windows is a place of the walk
  place_of : (distance : ℕ) → 1 ≤ distance → distance < 65537 → AreBrokenBack windows distance → (i : ℕ) × (i < length bs) × ((get_or bs i d).addr + distance ≡ w.end)
  place_of distance one near h =
      let k = of.all distance one (omega arith) (All-contains (IsBrokenBack distance) windows w h among) in
      (k.0, k.1, k.2 d)

  back_is : (i distance : ℕ) → (get_or bs i d).addr + distance ≡ w.end → AreBrokenBack windows distance → AreBrokenBack windows (w.end - (get_or bs i d).addr)
  back_is i distance e h = subst (AreBrokenBack windows) (there (get_or bs i d).addr distance w.end e) h
    where
      there : (a distance end : ℕ) → a + distance ≡ end → distance ≡ end - a
      there a distance end e = omega arith

  pub none_near : NoneFrom windows w bs 0 → (distance : ℕ) → 1 ≤ distance → distance < 65537 → ¬ AreBrokenBack windows distance
  none_near none distance one near h =
      let k = place_of distance one near h in none d k.0 (omega arith) k.1 (back_is k.0 distance k.2 h)

  pub nearest_at : (i from distance : ℕ) → i < length bs → from ≡ i + 1 → NoneFrom windows w bs from → distance ≡ w.end - (get_or bs i d).addr → AreBrokenBack windows distance → IsLeastBelow (AreBrokenBack windows) 1 65537 (Some distance)
  nearest_at i from distance lt e none is h =
      let low : (get_or bs i d).addr < w.end = of.before d i lt in
      let high : w.end ≤ (get_or bs i d).addr + 65536 = of.near d i lt in
      (omega arith, omega arith, h, λ other one near holds. split other (place_of other one near holds) holds (cases (place_of other one near holds).0 i))
    where
      cases : (k i : ℕ) → (k ≤ i) ⊎ (i + 1 ≤ k)
      cases k i = grind arith

      split : (other : ℕ) → (k : (j : ℕ) × (j < length bs) × ((get_or bs j d).addr + other ≡ w.end)) → AreBrokenBack windows other → (k.0 ≤ i) ⊎ (i + 1 ≤ k.0) → distance ≤ other
      split other k holds (inl le) = let up : (get_or bs k.0 d).addr ≤ (get_or bs i d).addr = of.rising d k.0 i le lt in let same = k.2 in omega (arith, up, same, is)
      split other k holds (inr le) = absurd (none d k.0 (omega (arith, e, le)) k.1 (back_is k.0 other k.2 holds))

  pub farthest_at : (i distance : ℕ) → i < length bs → NoneTo windows w bs i → distance ≡ w.end - (get_or bs i d).addr → AreBrokenBack windows distance → IsGreatestBelow (AreBrokenBack windows) 1 65537 (Some distance)
  farthest_at i distance lt none is h =
      let low : (get_or bs i d).addr < w.end = of.before d i lt in
      let high : w.end ≤ (get_or bs i d).addr + 65536 = of.near d i lt in
      (omega arith, omega arith, h, λ other one near holds. split other (place_of other one near holds) holds (cases (place_of other one near holds).0 i))
    where
      cases : (k i : ℕ) → (i ≤ k) ⊎ (k < i)
      cases k i = grind arith

      split : (other : ℕ) → (k : (j : ℕ) × (j < length bs) × ((get_or bs j d).addr + other ≡ w.end)) → AreBrokenBack windows other → (i ≤ k.0) ⊎ (k.0 < i) → other ≤ distance
      split other k holds (inl le) = let up : (get_or bs i d).addr ≤ (get_or bs k.0 d).addr = of.rising d i k.0 le k.1 in let same = k.2 in omega (arith, up, same, is)
      split other k holds (inr le) = absurd (none d k.0 le k.1 (back_is k.0 other k.2 holds))

-- ---- a turn of a walk

pub at_any : {X : Type 0} → (xs : List X) (i : ℕ) (d e : X) → i < length xs → get_or xs i d ≡ get_or xs i e
at_any [] i d e lt = absurd (omega arith)
at_any (x ∷ xs) zero d e lt = refl
at_any (x ∷ xs) (suc i) d e lt = at_any xs i d e (omega arith)

not_at : (windows : List Window) (w : Window) (bs : List Broken) (at i distance : ℕ) (e d : Broken) → distance ≡ w.end - (get_or bs at e).addr → ¬ AreBrokenBack windows distance → i ≡ at → i < length bs → ¬ AreBrokenBack windows (w.end - (get_or bs i d).addr)
not_at windows w bs at i distance e d is miss same lt h =
    let here : get_or bs i d ≡ get_or bs at e = at_any bs i d e lt ∙ ap (λ n. get_or bs n e) same in
    miss (subst (AreBrokenBack windows) (ap (λ (b : Broken). w.end - b.addr) here ∙ sym is) h)

pub none_before : (windows : List Window) (w : Window) (bs : List Broken) (k distance : ℕ) (e : Broken) → k < length bs → distance ≡ w.end - (get_or bs (length bs - 1 - k) e).addr → ¬ AreBrokenBack windows distance → NoneFrom windows w bs (length bs - k) → NoneFrom windows w bs (length bs - (k + 1))
none_before windows w bs k distance e within is miss none d i from lt = split (cases i (length bs) k within from)
  where
    cases : (i n k : ℕ) → k < n → n - (k + 1) ≤ i → (n - k ≤ i) ⊎ (i ≡ n - 1 - k)
    cases i n k h m = grind arith

    split : (length bs - k ≤ i) ⊎ (i ≡ length bs - 1 - k) → ¬ AreBrokenBack windows (w.end - (get_or bs i d).addr)
    split (inl later) = none d i later lt
    split (inr same) = not_at windows w bs (length bs - 1 - k) i distance e d is miss same lt

pub none_behind : (windows : List Window) (w : Window) (bs : List Broken) (k distance : ℕ) (e : Broken) → distance ≡ w.end - (get_or bs k e).addr → ¬ AreBrokenBack windows distance → NoneTo windows w bs k → NoneTo windows w bs (k + 1)
none_behind windows w bs k distance e is miss none d i to lt = split (cases i k to)
  where
    cases : (i k : ℕ) → i < k + 1 → (i < k) ⊎ (i ≡ k)
    cases i k h = grind arith

    split : (i < k) ⊎ (i ≡ k) → ¬ AreBrokenBack windows (w.end - (get_or bs i d).addr)
    split (inl earlier) = none d i earlier lt
    split (inr same) = not_at windows w bs k i distance e d is miss same lt

pub none_of_all : (windows : List Window) (w : Window) (bs : List Broken) (k : ℕ) → length bs ≤ k → NoneTo windows w bs k → NoneFrom windows w bs 0
none_of_all windows w bs k h none d i from lt = none d i (omega arith) lt

pub none_of_any : (windows : List Window) (w : Window) (bs : List Broken) (k : ℕ) → length bs ≤ k → NoneFrom windows w bs (length bs - k) → NoneFrom windows w bs 0
none_of_any windows w bs k h none d i from lt = none d i (omega arith) lt
