-- Pages that are taken: those of ranges whose bytes are made.
use Rattle.std.proofs.Common.{◌≡◌, ℕ, zero, suc, ◌+◌, ◌*◌, ◌%◌, ◌<◌, ◌≤◌, ◌&&◌, ◌||◌, max, nat_lt, Bool, true, false, List, [], ◌∷◌, length, get_or, set, Option, Some, refl, sym, ap, ◌∙◌, subst, arith, ◌⊎◌, inl, inr}
use Rattle.std.specs.List.{insert}
use Rattle.std.proofs.lemmas.Bool.{cases_lt}
use Rattle.std.proofs.lemmas.Bool.Decides.{nat_tests}
use Rattle.std.proofs.lemmas.List.{length-set, get_or-set_same}
use Rattle.rv_memory.specs.declared.range.Range.{Range}
use Rattle.rv_memory.specs.declared.space.Space.{Space}
use Rattle.rv_memory.specs.Laws.{at_each, from_each}
use Rattle.rv_memory.specs.Memory.{page_of, is_taken, KeepsTaken}
use Rattle.rv_memory.specs.Ranges.{holds, range_at, end_of, is_whole, meets, is_taken_in, IsApart, Overwrites}
use Rattle.rv_memory.specs.Spaces.{ranges_of, taken_of}
use Rattle.rv_memory.proofs.Apart.{range_at-hit, range_at-stays}
use Rattle.rv_memory.proofs.Bytes.{whole-length, held-from, held-below, held-at}

either-left : (a b : Bool) → a ≡ true → a || b ≡ true
either-left a b is = rw is refl

either-right : (a b : Bool) → b ≡ true → a || b ≡ true
either-right true b is = refl
either-right false b is = is

-- the range that takes a page
abbrev Takes : List Range → (page : ℕ) → Type 0
Takes ranges page = (i : ℕ) × (i < length ranges) × ((d : Range) → is_whole (get_or ranges i d) && meets (get_or ranges i d) page ≡ true)

takes-cons : (range : Range) (ranges : List Range) (page : ℕ) (b : Bool) → is_whole range && meets range page ≡ b → b || is_taken_in ranges page ≡ true → (is_taken_in ranges page ≡ true → Takes ranges page) → Takes (range ∷ ranges) page
takes-cons range ranges page true here taken later = (0, omega arith, λ d. here)
takes-cons range ranges page false out taken later = let rest = later taken in (suc rest.0, omega (arith, rest.1), rest.2)

takes : (ranges : List Range) (page : ℕ) → is_taken_in ranges page ≡ true → Takes ranges page
takes [] page taken = absurd (cc)
takes (range ∷ ranges) page taken = takes-cons range ranges page (is_whole range && meets range page) refl taken (takes ranges page)

taken-at : (ranges : List Range) (i page : ℕ) (d : Range) → i < length ranges → is_whole (get_or ranges i d) && meets (get_or ranges i d) page ≡ true → is_taken_in ranges page ≡ true
taken-at [] i page d low is = absurd (omega arith)
taken-at (range ∷ ranges) zero page d low is = either-left _ _ is
taken-at (range ∷ ranges) (suc i) page d low is = either-right _ _ (taken-at ranges i page d (omega arith) is)

pub both : (a b : Bool) → a && b ≡ true → (a ≡ true) × (b ≡ true)
both true true is = (refl, refl)
both true false is = absurd (cc)
both false b is = absurd (cc)

pub joined : (a b : Bool) → a ≡ true → b ≡ true → a && b ≡ true
joined a b a-is b-is = rw (a-is, b-is) refl

meets-held : (range : Range) (address : ℕ) → holds range address ≡ true → meets range (page_of address) ≡ true
meets-held range address held =
    let begins = held-from range address held in
    let below = held-below range address held in
    grind (arith, nat_tests)

whole-is : (range : Range) → length range.bytes.items ≡ range.len → is_whole range ≡ true
whole-is range whole = grind (arith, nat_tests)

-- the first address of a range in a page
meets-first : (range : Range) (page : ℕ) → meets range page ≡ true → holds range (max range.from (4096 * page)) ≡ true
meets-first range page is = grind (arith, nat_tests)

first-below : (range : Range) (page : ℕ) → meets range page ≡ true → max range.from (4096 * page) < 4096 * page + 4096
first-below range page is = grind (arith, nat_tests)

-- a range of whole pages holds each address of a page where it holds one
whole-page : (range : Range) (address other : ℕ) → range.from % 4096 ≡ 0 → range.len % 4096 ≡ 0 → holds range address ≡ true → 4096 * page_of address ≤ other → other < 4096 * page_of address + 4096 → holds range other ≡ true
whole-page range address other from len held low high =
    let begins = held-from range address held in
    let below = held-below range address held in
    held-at range other (omega arith) (omega arith)

same-some : (found : Option Range) (one other : Range) → found ≡ Some one → found ≡ Some other → one ≡ other
same-some found one other is also = cc

-- in a taken page each range has all its bytes
pub made-in : (ranges : List Range) (address : ℕ) (range : Range) → IsApart ranges → range_at ranges address ≡ Some range → holds range address ≡ true → is_taken_in ranges (page_of address) ≡ true → is_whole range ≡ true
made-in ranges address range apart found held taken = by (cases_lt (length range.bytes.items) range.len)
  where
    by : (length range.bytes.items < range.len) ⊎ (range.len ≤ length range.bytes.items) → is_whole range ≡ true
    by (inr whole) = let fits = range.fits in whole-is range (omega arith)
    by (inl absent) =
        let paged = range.paged absent in
        let t = takes ranges (page_of address) taken in
        let is = both (is_whole (get_or ranges t.0 range)) (meets (get_or ranges t.0 range) (page_of address)) (t.2 range) in
        let first = range_at-hit ranges t.0 (max (get_or ranges t.0 range).from (4096 * page_of address)) range apart t.1 (meets-first (get_or ranges t.0 range) (page_of address) is.1) in
        let high = first-below (get_or ranges t.0 range) (page_of address) is.1 in
        let here = whole-page range address (max (get_or ranges t.0 range).from (4096 * page_of address)) paged.0 paged.1 held (omega arith) high in
        let same = same-some (range_at ranges (max (get_or ranges t.0 range).from (4096 * page_of address))) (get_or ranges t.0 range) range first (range_at-stays ranges address (max (get_or ranges t.0 range).from (4096 * page_of address)) range apart found here) in
        subst (λ (r : Range). is_whole r ≡ true) same is.0

pub either-more : (a b x y : Bool) → (a ≡ true → x ≡ true) → (b ≡ true → y ≡ true) → a || b ≡ true → x || y ≡ true
either-more true b x y left right is = either-left x y (left refl)
either-more false b x y left right is = either-right x y (right is)

pub whole-over : (old new : Range) (from len : ℕ) (byte : ℕ → ℕ) → Overwrites old new from len byte → is_whole old ≡ true → is_whole new ≡ true
whole-over old new from len byte over is =
    let whole = whole-length old is in
    let fits = new.fits in
    whole-is new (omega (arith, over.grows, over.len_same))

one-more : (old new : Range) (from len page : ℕ) (byte : ℕ → ℕ) → Overwrites old new from len byte → is_whole old && meets old page ≡ true → is_whole new && meets new page ≡ true
one-more old new from len page byte over is =
    let here = both (is_whole old) (meets old page) is in
    joined (is_whole new) (meets new page) (whole-over old new from len byte over here.0)
    (ap (λ f. nat_lt f (4096 * page + 4096) && nat_lt (max f (4096 * page)) (f + new.len)) over.from_same
    ∙ ap (λ n. nat_lt old.from (4096 * page + 4096) && nat_lt (max old.from (4096 * page)) (old.from + n)) over.len_same ∙ here.1)

taken-set : (ranges : List Range) (i from len page : ℕ) (d new : Range) (byte : ℕ → ℕ) → i < length ranges → Overwrites (get_or ranges i d) new from len byte → is_taken_in ranges page ≡ true → is_taken_in (set ranges i new) page ≡ true
taken-set [] i from len page d new byte low over taken = absurd (cc)
taken-set (range ∷ ranges) zero from len page d new byte low over taken = either-more (is_whole range && meets range page) (is_taken_in ranges page) (is_whole new && meets new page) (is_taken_in ranges page) (one-more range new from len page byte over) (λ is. is) taken
taken-set (range ∷ ranges) (suc i) from len page d new byte low over taken = either-more (is_whole range && meets range page) (is_taken_in ranges page) (is_whole range && meets range page) (is_taken_in (set ranges i new) page) (λ is. is) (taken-set ranges i from len page d new byte (omega arith) over) taken

taken-put : (ranges : List Range) (i page : ℕ) (new : Range) → is_taken_in ranges page ≡ true → is_taken_in (insert ranges i new) page ≡ true
taken-put ranges zero page new taken = either-right (is_whole new && meets new page) (is_taken_in ranges page) taken
taken-put [] (suc i) page new taken = absurd (cc)
taken-put (range ∷ ranges) (suc i) page new taken = either-more (is_whole range && meets range page) (is_taken_in ranges page) (is_whole range && meets range page) (is_taken_in (insert ranges i new) page) (λ is. is) (taken-put ranges i page new) taken

nothing-met : (range : Range) (page : ℕ) → range.len ≡ 0 → is_whole range && meets range page ≡ true → ⊥
nothing-met range page none is = let here = both (is_whole range) (meets range page) is in let first = held-below range (max range.from (4096 * page)) (meets-first range page here.1) in omega arith

-- ---- spaces

-- a space one of whose ranges was written over
pub keeps-range : (space : Space) (i from len : ℕ) (old new : Range) (byte : ℕ → ℕ) → i < length space.ranges.items → old ≡ get_or space.ranges.items i old → Overwrites old new from len byte → KeepsTaken (taken_of space) (is_taken_in (space.code ∷ set space.ranges.items i new))
unfolding taken_of
keeps-range space i from len old new byte low is over page taken = taken-set (ranges_of space) (suc i) from len page old new byte (omega arith) (subst (λ (r : Range). Overwrites r new from len byte) is over) taken

-- or whose code was
pub keeps-code : (space : Space) (from len : ℕ) (new : Range) (byte : ℕ → ℕ) → Overwrites space.code new from len byte → KeepsTaken (taken_of space) (is_taken_in (new ∷ space.ranges.items))
unfolding taken_of
keeps-code space from len new byte over page taken = taken-set (ranges_of space) 0 from len page space.code new byte (omega arith) over taken

-- or that has one more
pub keeps-added : (space : Space) (i : ℕ) (new : Range) → KeepsTaken (taken_of space) (is_taken_in (space.code ∷ insert space.ranges.items i new))
unfolding taken_of
keeps-added space i new page taken = taken-put (ranges_of space) (suc i) page new taken

-- or that has the first code
pub keeps-coded : (space : Space) (new : Range) → space.code.len ≡ 0 → KeepsTaken (taken_of space) (is_taken_in (new ∷ space.ranges.items))
unfolding taken_of
keeps-coded space new none page taken = either-more (is_whole space.code && meets space.code page) (is_taken_in space.ranges.items page) (is_whole new && meets new page) (is_taken_in space.ranges.items page) (λ is. absurd (nothing-met space.code page none is)) (λ is. is) taken

-- what a range at a place takes
pub takes-at : (space : Space) (i address : ℕ) (d : Range) → i < length (ranges_of space) → is_whole (get_or (ranges_of space) i d) ≡ true → holds (get_or (ranges_of space) i d) address ≡ true → taken_of space (page_of address) ≡ true
unfolding taken_of
takes-at space i address d low whole held = taken-at (ranges_of space) i (page_of address) d low (joined (is_whole (get_or (ranges_of space) i d)) (meets (get_or (ranges_of space) i d) (page_of address)) whole (meets-held (get_or (ranges_of space) i d) address held))

-- and what a taken page says of the range there
pub made-at : (space : Space) (i address : ℕ) (d : Range) → i < length (ranges_of space) → holds (get_or (ranges_of space) i d) address ≡ true → taken_of space (page_of address) ≡ true → is_whole (get_or (ranges_of space) i d) ≡ true
unfolding taken_of
made-at space i address d low held taken = made-in (ranges_of space) address (get_or (ranges_of space) i d) space.apart (range_at-hit (ranges_of space) i address d space.apart low held) held taken

-- where a range at a place of the list isn't whole, its pages aren't taken
pub not-taken : (space : Space) (i address : ℕ) (old : Range) → i < length space.ranges.items → old ≡ get_or space.ranges.items i old → holds old address ≡ true → is_whole old ≡ false → taken_of space (page_of address) ≡ false
not-taken space i address old low is held not-whole = by (taken_of space (page_of address)) refl
  where
    at : holds (get_or space.ranges.items i old) address ≡ true
    at = subst (λ (r : Range). holds r address ≡ true) is held

    by : (b : Bool) → taken_of space (page_of address) ≡ b → taken_of space (page_of address) ≡ false
    by false out = out
    by true taken = absurd (let whole = made-at space (suc i) address old (omega arith) at taken in let here = ap is_whole is in cc)

-- the range at a place that a search gave holds its address
pub place-held : (ranges : List Range) (i address : ℕ) (seen : Range) → seen ≡ get_or ranges i seen → ((d : Range) → holds (get_or ranges i d) address ≡ true) → holds seen address ≡ true
place-held ranges i address seen is held = subst (λ (r : Range). holds r address ≡ true) (sym is) (held seen)

-- where a range was made, its pages are taken
pub made-sure : (space : Space) (i address a from len : ℕ) (old new : Range) (byte : ℕ → ℕ) → i < length space.ranges.items → Overwrites old new from len byte → holds old address ≡ true → is_whole new ≡ true → address ≤ a → a < end_of new → is_taken_in (space.code ∷ set space.ranges.items i new) (page_of a) ≡ true
made-sure space i address a from len old new byte low over held whole above below =
    let same : get_or (set space.ranges.items i new) i new ≡ new = get_or-set_same space.ranges.items i new new low in
    let size = length-set space.ranges.items i new in
    let begins = held-from old address held in
    let here = held-at new a (omega (arith, over.from_same)) below in
    taken-at (space.code ∷ set space.ranges.items i new) (suc i) (page_of a) new (omega arith) (subst (λ (r : Range). is_whole r && meets r (page_of a) ≡ true) (sym same) (joined (is_whole new) (meets new (page_of a)) whole (meets-held new a here)))

-- what isn't taken wasn't
pub not-before : (old new : ℕ → Bool) (page : ℕ) → KeepsTaken old new → new page ≡ false → old page ≡ false
not-before old new page keeps out = by (old page) refl
  where
    by : (b : Bool) → old page ≡ b → old page ≡ false
    by false is = is
    by true is = absurd (let still = keeps page is in cc)

pub keeps-span : (old new : ℕ → Bool) (from len : ℕ) → KeepsTaken old new → is_taken old from len ≡ true → is_taken new from len ≡ true
keeps-span old new from len keeps taken = from_each (λ a. new (page_of a)) from len (λ a low high. keeps (page_of a) (at_each (λ x. old (page_of x)) from len a taken low high))

pub part-taken : (taken : ℕ → Bool) (from done count len : ℕ) → done + count ≤ len → is_taken taken from len ≡ true → is_taken taken (from + done) count ≡ true
part-taken taken from done count len fits all = from_each (λ a. taken (page_of a)) (from + done) count (λ a low high. at_each (λ x. taken (page_of x)) from len a all (omega arith) (omega arith))

-- the range at a place of the list has all its bytes where its page is taken
pub whole-at : (space : Space) (i address : ℕ) (old : Range) → i < length space.ranges.items → old ≡ get_or space.ranges.items i old → holds old address ≡ true → taken_of space (page_of address) ≡ true → is_whole old ≡ true
whole-at space i address old low is held taken =
    let at : holds (get_or space.ranges.items i old) address ≡ true = subst (λ (r : Range). holds r address ≡ true) is held in
    ap is_whole is ∙ made-at space (suc i) address old (omega arith) at taken
