-- Broken bytes between two addresses stand together.
use Rattle.std.proofs.Common.{inl, inr, ◌≡◌, ◌⊎◌, ℕ, zero, suc, ◌+◌, ◌-◌, ◌<◌, ◌≤◌, ◌==◌, ◌&&◌, ◌||◌, nat_lt, nat_le, Bool, true, false, cond, List, [], ◌∷◌, ◌++◌, length, get_or, take, drop, filter, refl, sym, ap, subst, ◌∙◌, arith}
use Rattle.std.specs.List.{list_all, list_any}
use Rattle.std.specs.List.Sorted.{IsPartitionedBy, IsPartitionPoint}
use Rattle.std.proofs.lemmas.Bool.{and_parts, cases_lt}
use Rattle.std.proofs.lemmas.Bool.Decides.{nat_tests}
use Rattle.std.proofs.lemmas.List.{get_or-take, get_or-drop, length-take, length-drop}
use Rattle.exact_heap.specs.declared.row.SlotRow.{SlotRow}
use Rattle.heap_image.specs.declared.image.Broken.{Broken}
use Rattle.heap_image.specs.Lookup.{AddrsRise, is_within}
use Rattle.heap_image.specs.Rules.{is_unowned}
use Rattle.heap_image.specs.Lawful.{Each, IsBroken}

-- ---- they rise

passed : (a b : ℕ) → nat_lt a b ≡ true → a ≤ b
passed a b h = grind (arith, nat_tests)

pass_at : (P : Broken → Bool) (xs : List Broken) (i : ℕ) (d : Broken) → list_all P xs ≡ true → i < length xs → P (get_or xs i d) ≡ true
pass_at P [] i d all lt = absurd (omega arith)
pass_at P (x ∷ xs) zero d all lt = (and_parts (P x) (list_all P xs) all).0
pass_at P (x ∷ xs) (suc i) d all lt = pass_at P xs i d (and_parts (P x) (list_all P xs) all).1 (omega arith)

module _ (seed : ℕ) (classes : List ℕ) (rows : List SlotRow) where
  -- those behind stand above each that passes
  above : (earlier bs : List Broken) (b d : Broken) (k : ℕ) → ((t : Broken → Bool) → list_all t earlier ≡ true → t b ≡ true) → Each (IsBroken seed classes rows) earlier bs → k < length bs → b.addr ≤ (get_or bs k d).addr
  above earlier [] b d k has all lt = absurd (omega arith)
  above earlier (x ∷ bs) b d zero has all lt = passed b.addr x.addr (has (λ (a : Broken). nat_lt a.addr x.addr) (and_parts (is_unowned classes rows x.addr) (list_all (λ (a : Broken). nat_lt a.addr x.addr) earlier) all.0.addr).1)
  above earlier (x ∷ bs) b d (suc k) has all lt = above (earlier ++ x ∷ []) bs b d k (λ t h. has t (front_all t earlier x h)) all.1 (omega arith)
    where
      front_all : (t : Broken → Bool) (xs : List Broken) (x : Broken) → list_all t (xs ++ x ∷ []) ≡ true → list_all t xs ≡ true
      front_all t [] x h = refl
      front_all t (y ∷ xs) x h =
          let p = and_parts (t y) (list_all t (xs ++ x ∷ [])) h in
          subst (λ b. (b && list_all t xs) ≡ true) (sym p.0) (front_all t xs x p.1)

  last_passes : (earlier : List Broken) (x : Broken) (t : Broken → Bool) → list_all t (earlier ++ x ∷ []) ≡ true → t x ≡ true
  last_passes [] x t h = (and_parts (t x) true h).0
  last_passes (y ∷ earlier) x t h = last_passes earlier x t (and_parts (t y) (list_all t (earlier ++ x ∷ [])) h).1

  pub addrs_rise : (earlier bs : List Broken) → Each (IsBroken seed classes rows) earlier bs → AddrsRise bs
  addrs_rise earlier [] all d i j le lt = absurd (omega arith)
  addrs_rise earlier (x ∷ bs) all d zero zero le lt = omega arith
  addrs_rise earlier (x ∷ bs) all d zero (suc j) le lt = above (earlier ++ x ∷ []) bs x d j (last_passes earlier x) all.1 (omega arith)
  addrs_rise earlier (x ∷ bs) all d (suc i) zero le lt = absurd (omega arith)
  addrs_rise earlier (x ∷ bs) all d (suc i) (suc j) le lt = addrs_rise (earlier ++ x ∷ []) bs all.1 d i j (omega arith) (omega arith)

-- ---- where they are cut

-- how many lie below an address, as `count_below` has it
abbrev pub AreBelow : List Broken → ℕ → ℕ → Type 0
AreBelow bs addr n = (d : Broken) (i : ℕ) → i < n → (get_or bs i d).addr < addr

abbrev pub AreFrom : List Broken → ℕ → ℕ → Type 0
AreFrom bs addr n = (d : Broken) (i : ℕ) → n ≤ i → i < length bs → addr ≤ (get_or bs i d).addr

is_below : (a b : ℕ) → nat_lt a b ≡ true → a < b
is_below a b h = grind (arith, nat_tests)

not_below : (a b : ℕ) → nat_lt a b ≡ false → b ≤ a
not_below a b h = grind (arith, nat_tests)

below_is : (a b : ℕ) → a < b → nat_lt a b ≡ true
below_is a b h = grind (arith, nat_tests)

pub partitioned : (bs : List Broken) (addr : ℕ) → AddrsRise bs → IsPartitionedBy (λ (b : Broken). nat_lt b.addr addr) bs
partitioned bs addr rise i j d p h e = let q = is_below (get_or bs j d).addr addr e in let r = rise d i j p h in below_is (get_or bs i d).addr addr (omega (arith, q, r))

pub are_below : (bs : List Broken) (addr n : ℕ) → IsPartitionPoint (λ (b : Broken). nat_lt b.addr addr ≡ true) (λ (b : Broken). nat_lt b.addr addr ≡ false) bs n → n ≤ length bs → AreBelow bs addr n
are_below bs addr n p bound d i lt = is_below (get_or bs i d).addr addr (p.0 i d (omega arith) lt)

pub are_from : (bs : List Broken) (addr n : ℕ) → IsPartitionPoint (λ (b : Broken). nat_lt b.addr addr ≡ true) (λ (b : Broken). nat_lt b.addr addr ≡ false) bs n → AreFrom bs addr n
are_from bs addr n p d i le lt = not_below (get_or bs i d).addr addr (p.1 i d le lt)

none : Broken
none = record { addr = 0; byte = 0 }

pub in_order : (bs : List Broken) (low high from to : ℕ) → low ≤ high → from ≤ length bs → AreBelow bs low from → AreFrom bs high to → from ≤ to
in_order bs low high from to le bound below above = split (cases_lt to from)
  where
    split : (to < from) ⊎ (from ≤ to) → from ≤ to
    split (inl h) = let a = below none to h in let b = above none to (omega arith) (omega (arith, h, bound)) in absurd (omega (arith, a, b))
    split (inr h) = h

-- ---- the cut is what is between

tail_below : (b : Broken) (bs : List Broken) (addr n : ℕ) → AreBelow (b ∷ bs) addr (suc n) → AreBelow bs addr n
tail_below b bs addr n h d i lt = h d (suc i) (omega arith)

tail_from : (b : Broken) (bs : List Broken) (addr n m : ℕ) → n ≤ suc m → AreFrom (b ∷ bs) addr n → AreFrom bs addr m
tail_from b bs addr n m le h d i lo hi = h d (suc i) (omega arith) (omega arith)

first_below : (low high a : ℕ) → a < low → (nat_le low a && nat_lt a high) ≡ false
first_below low high a h = grind (arith, nat_tests)

first_above : (low high a : ℕ) → high ≤ a → (nat_le low a && nat_lt a high) ≡ false
first_above low high a h = grind (arith, nat_tests)

first_between : (low high a : ℕ) → low ≤ a → a < high → (nat_le low a && nat_lt a high) ≡ true
first_between low high a h k = grind (arith, nat_tests)

less_one : (m n : ℕ) → suc m - suc n ≡ m - n
less_one m n = omega arith

one_more : (m : ℕ) → suc m - 0 ≡ suc (m - 0)
one_more m = omega arith

left_out : (p : Broken → Bool) (b : Broken) (bs : List Broken) → p b ≡ false → filter p (b ∷ bs) ≡ filter p bs
left_out p b bs h = ap (λ t. cond t (b ∷ filter p bs) (filter p bs)) h

kept : (p : Broken → Bool) (b : Broken) (bs : List Broken) → p b ≡ true → filter p (b ∷ bs) ≡ b ∷ filter p bs
kept p b bs h = ap (λ t. cond t (b ∷ filter p bs) (filter p bs)) h

take_none : {X : Type 0} (n : ℕ) → take {A = X} n [] ≡ []
take_none zero = refl
take_none (suc n) = refl

-- `to` may lie before the end of what is listed, or be past it
pub cut : (bs : List Broken) (low high from to : ℕ) → AreBelow bs low from → AreFrom bs low from → AreBelow bs high to → AreFrom bs high to → filter (is_within low high) bs ≡ take (to - from) (drop from bs)
cut [] low high zero to a b c e = sym (take_none (to - 0))
cut [] low high (suc from) to a b c e = sym (take_none (to - suc from))
cut (x ∷ bs) low high (suc from) (suc to) a b c e =
    left_out (is_within low high) x bs (first_below low high x.addr (a x 0 (omega arith)))
    ∙ cut bs low high from to (tail_below x bs low from a) (tail_from x bs low (suc from) from (omega arith) b) (tail_below x bs high to c) (tail_from x bs high (suc to) to (omega arith) e)
    ∙ ap (λ n. take n (drop from bs)) (sym (less_one to from))
cut (x ∷ bs) low high (suc from) zero a b c e =
    left_out (is_within low high) x bs (first_below low high x.addr (a x 0 (omega arith)))
    ∙ cut bs low high from zero (tail_below x bs low from a) (tail_from x bs low (suc from) from (omega arith) b) (λ d i lt. absurd (omega arith)) (tail_from x bs high zero zero (omega arith) e)
    ∙ ap (λ n. take n (drop from bs)) (none_left from)
  where
    none_left : (n : ℕ) → 0 - n ≡ 0 - suc n
    none_left n = omega arith
cut (x ∷ bs) low high zero (suc to) a b c e =
    kept (is_within low high) x bs (first_between low high x.addr (b x 0 (omega arith) (omega arith)) (c x 0 (omega arith)))
    ∙ ap (λ ys. x ∷ ys) (cut bs low high zero to (λ d i lt. absurd (omega arith)) (tail_from x bs low zero zero (omega arith) b) (tail_below x bs high to c) (tail_from x bs high (suc to) to (omega arith) e))
    ∙ ap (λ n. take n (x ∷ bs)) (sym (one_more to))
cut (x ∷ bs) low high zero zero a b c e =
    left_out (is_within low high) x bs (first_above low high x.addr (e x 0 (omega arith) (omega arith)))
    ∙ cut bs low high zero zero (λ d i lt. absurd (omega arith)) (tail_from x bs low zero zero (omega arith) b) (λ d i lt. absurd (omega arith)) (tail_from x bs high zero zero (omega arith) e)

-- a cut of what rises does
pub cut_rises : (bs : List Broken) (from n : ℕ) → AddrsRise bs → AddrsRise (take n (drop from bs))
cut_rises bs from n rise d i j le lt =
    let short : j < n = omega (arith, lt, length-take n (drop from bs)) in
    let far : from + j < length bs = omega (arith, lt, length-take n (drop from bs), length-drop from bs) in
    let first : get_or (take n (drop from bs)) i d ≡ get_or bs (from + i) d = get_or-take n (drop from bs) i d (omega arith) ∙ get_or-drop from bs i d in
    let second : get_or (take n (drop from bs)) j d ≡ get_or bs (from + j) d = get_or-take n (drop from bs) j d short ∙ get_or-drop from bs j d in
    rw (first, second) (rise d (from + i) (from + j) (omega arith) far)

-- ---- whether one is listed

differs : (a b : ℕ) → a < b → (a == b) ≡ false
differs a b h = grind (arith, nat_tests)

past : (a b : ℕ) → b < a → (a == b) ≡ false
past a b h = grind (arith, nat_tests)

-- none of those above an address lies at it
none_above : (bs : List Broken) (addr : ℕ) → ((d : Broken) (i : ℕ) → i < length bs → addr < (get_or bs i d).addr) → list_any (λ b. b.addr == addr) bs ≡ false
none_above [] addr h = refl
none_above (x ∷ bs) addr h =
    subst (λ t. (t || list_any (λ b. b.addr == addr) bs) ≡ false) (sym (past x.addr addr (h x 0 (omega arith)))) (none_above bs addr (λ d i lt. h d (suc i) (omega arith)))

pub not_there : (bs : List Broken) (addr at : ℕ) → length bs ≤ at → AreBelow bs addr at → list_any (λ b. b.addr == addr) bs ≡ false
not_there [] addr at le below = refl
not_there (x ∷ bs) addr zero le below = absurd (omega arith)
not_there (x ∷ bs) addr (suc at) le below =
    subst (λ t. (t || list_any (λ b. b.addr == addr) bs) ≡ false) (sym (differs x.addr addr (below x 0 (omega arith)))) (not_there bs addr at (omega arith) (tail_below x bs addr at below))

tail_rises : (x : Broken) (bs : List Broken) → AddrsRise (x ∷ bs) → AddrsRise bs
tail_rises x bs rise d i j le lt = rise d (suc i) (suc j) (omega arith) (omega arith)

behind : (x : Broken) (bs : List Broken) (addr : ℕ) → AddrsRise (x ∷ bs) → addr ≤ x.addr → (b : Bool) → (x.addr == addr) ≡ b → (b || list_any (λ b. b.addr == addr) bs) ≡ b
behind x bs addr rise le true e = refl
behind x bs addr rise le false e = none_above bs addr (λ d i lt. let up = rise d 0 (suc i) (omega arith) (omega arith) in strict x.addr (get_or bs i d).addr addr le up e)
  where
    strict : (a b c : ℕ) → c ≤ a → a ≤ b → (a == c) ≡ false → c < b
    strict a b c h k e = grind (arith, nat_tests)

pub there_at : (bs : List Broken) (addr at : ℕ) (d : Broken) → AddrsRise bs → at < length bs → AreBelow bs addr at → AreFrom bs addr at → list_any (λ b. b.addr == addr) bs ≡ ((get_or bs at d).addr == addr)
there_at [] addr at d rise lt below from = absurd (omega arith)
there_at (x ∷ bs) addr zero d rise lt below from =
    ap (λ t. t || list_any (λ b. b.addr == addr) bs) refl ∙ behind x bs addr rise (from x 0 (omega arith) (omega arith)) (x.addr == addr) refl
there_at (x ∷ bs) addr (suc at) d rise lt below from =
    ap (λ t. t || list_any (λ b. b.addr == addr) bs) (differs x.addr addr (below x 0 (omega arith)))
    ∙ there_at bs addr at d (tail_rises x bs rise) (omega arith) (tail_below x bs addr at below) (tail_from x bs addr (suc at) at (omega arith) from)
