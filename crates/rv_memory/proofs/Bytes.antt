-- What a range holds at an address, made or not.
use Rattle.std.proofs.Common.{◌≡◌, ℕ, zero, suc, ◌+◌, ◌-◌, ◌/◌, ◌%◌, ◌<◌, ◌≤◌, Bool, true, false, cond, List, length, get_or, refl, sym, ap, ◌∙◌, arith, ⊎_elim, subst}
use Rattle.std.proofs.lemmas.Bool.{cases_lt}
use Rattle.std.proofs.lemmas.Bool.Decides.{nat_tests}
use Rattle.std.proofs.lemmas.List.{get_or_default, get_or_past}
use Rattle.rv_memory.specs.declared.access.Rest.{Rest}
use Rattle.rv_memory.specs.declared.access.Rest.TheVariants.{Zero, Canary}
use Rattle.rv_memory.specs.declared.range.Range.{Range}
use Rattle.rv_memory.specs.declared.access.Width.{Width}
use Rattle.rv_memory.specs.Access.{bytes_in, bytes_of, rest_byte}
use Rattle.rv_memory.specs.Memory.{within}
use Rattle.rv_memory.specs.Ranges.{holds, byte_at, is_whole, Overwrites}

pub held-from : (range : Range) (address : ℕ) → holds range address ≡ true → range.from ≤ address
held-from range address held = grind (arith, nat_tests)

pub held-below : (range : Range) (address : ℕ) → holds range address ≡ true → address < range.from + range.len
held-below range address held = grind (arith, nat_tests)

pub held-at : (range : Range) (address : ℕ) → range.from ≤ address → address < range.from + range.len → holds range address ≡ true
held-at range address low high = grind (arith, nat_tests)

pub made-byte : (range : Range) (address place : ℕ) → address - range.from ≡ place → place < length range.bytes.items → byte_at range address ≡ get_or range.bytes.items place 0
made-byte range address place spot low = ap (λ p. get_or range.bytes.items p (rest_byte range.rest address)) spot ∙ get_or_default range.bytes.items place (rest_byte range.rest address) 0 low

pub absent-byte : (range : Range) (address : ℕ) → length range.bytes.items ≡ 0 → byte_at range address ≡ rest_byte range.rest address
absent-byte range address none = get_or_past range.bytes.items (address - range.from) (rest_byte range.rest address) (omega arith)

mod-small : (n : ℕ) → n % 256 < 256
mod-small n = omega arith

rest-small : (rest : Rest) (address : ℕ) → rest_byte rest address < 256
rest-small Zero address = omega arith
rest-small (Canary word) address = mod-small _

pub byte-small : (range : Range) (address : ℕ) → byte_at range address < 256
byte-small range address =
    ⊎_elim (λ (low : address - range.from < length range.bytes.items). subst (λ b. b < 256) (sym (made-byte range address (address - range.from) refl low)) (range.small (address - range.from)))
    (λ (past : length range.bytes.items ≤ address - range.from). subst (λ b. b < 256) (sym (get_or_past range.bytes.items (address - range.from) (rest_byte range.rest address) past)) (rest-small range.rest address)) (cases_lt (address - range.from) (length range.bytes.items))

pub whole-length : (range : Range) → is_whole range ≡ true → length range.bytes.items ≡ range.len
whole-length range whole = grind (arith, nat_tests)

-- where a byte is made, all are
pub whole-some : (range : Range) → 0 < length range.bytes.items → length range.bytes.items ≡ range.len
whole-some range some = range.whole some

either-same : (b : Bool) (x : ℕ) → x ≡ cond b x x
either-same true x = refl
either-same false x = refl

-- a byte at a place, in a span that begins at another one, is that of the address
pub shift-byte : (base from at n k value other : ℕ) (here there : ℕ → ℕ) → from ≡ base + at → value ≡ cond (within at n k) (here k) other → (at ≤ k → k < at + n → here k ≡ there (base + k)) → value ≡ cond (within from n (base + k)) (there (base + k)) other
shift-byte base from at n k value other here there spot is same = by (within at n k) (within from n (base + k)) refl refl is
  where
    by : (b e : Bool) → within at n k ≡ b → within from n (base + k) ≡ e → value ≡ cond b (here k) other → value ≡ cond e (there (base + k)) other
    by true true inside also value-is = value-is ∙ same (grind (arith, nat_tests)) (grind (arith, nat_tests))
    by true false inside out value-is = absurd (let also : within from n (base + k) ≡ true = grind (arith, nat_tests) in cc)
    by false true out also value-is = absurd (let inside : within at n k ≡ true = grind (arith, nat_tests) in cc)
    by false false out also value-is = value-is

-- a range that is another one, but for its bytes, all of which were made before
pub record IsSameBut (old new : Range) (written : List ℕ) : Type 0 where
  pub from : new.from ≡ old.from
  pub len : new.len ≡ old.len
  pub writable : new.writable ≡ old.writable
  pub runs : new.runs ≡ old.runs
  pub items : new.bytes.items ≡ written
  pub size : length written ≡ length old.bytes.items
  pub whole : length old.bytes.items ≡ old.len

over-byte : (old new : Range) (written : List ℕ) (from n address : ℕ) (byte : ℕ → ℕ) → IsSameBut old new written → holds old address ≡ true → get_or written (address - old.from) 0 ≡ cond (within from n (old.from + (address - old.from))) (byte (old.from + (address - old.from))) (get_or old.bytes.items (address - old.from) 0)
    → byte_at new address ≡ cond (within from n address) (byte address) (byte_at old address)
over-byte old new written from n address byte same held is =
    let begins = held-from old address held in
    let below = held-below old address held in
    let spot : old.from + (address - old.from) ≡ address = omega arith in
    made-byte new address (address - old.from) (ap (λ f. address - f) same.from) (omega (arith, ap length same.items, same.size, same.whole)) ∙ ap (λ xs. get_or xs (address - old.from) 0) same.items ∙ is
    ∙ ap (λ a. cond (within from n a) (byte a) (get_or old.bytes.items (address - old.from) 0)) spot
    ∙ ap (λ b. cond (within from n address) (byte address) b) (sym (made-byte old address (address - old.from) refl (omega (arith, same.whole))))

pub over-whole : (old new : Range) (written : List ℕ) (from n : ℕ) (byte : ℕ → ℕ) → IsSameBut old new written → old.from ≤ from → from + n ≤ old.from + old.len
    → ((k : ℕ) → k < length written → get_or written k 0 ≡ cond (within from n (old.from + k)) (byte (old.from + k)) (get_or old.bytes.items k 0)) → Overwrites old new from n byte
over-whole old new written from n byte same begins ends each = record {
  begins = begins;
  ends = ends;
  from_same = same.from;
  len_same = same.len;
  writable_same = same.writable;
  runs_same = same.runs;
  grows = omega (arith, ap length same.items, same.size);
  bytes = λ address held.
      let above = held-from old address held in
      let below = held-below old address held in
      over-byte old new written from n address byte same held (each (address - old.from) (omega (arith, same.size, same.whole)));
}

-- some bytes that were put at a place
pub over-put : (old new : Range) (written piece : List ℕ) (at : ℕ) → IsSameBut old new written → at + length piece ≤ old.len
    → ((k : ℕ) → k < length written → get_or written k 0 ≡ cond (within at (length piece) k) (get_or piece (k - at) 0) (get_or old.bytes.items k 0)) → Overwrites old new (old.from + at) (length piece) (λ a. get_or piece (a - (old.from + at)) 0)
over-put old new written piece at same ends each = over-whole old new written (old.from + at) (length piece) (λ a. get_or piece (a - (old.from + at)) 0) same (omega arith) (omega arith) (λ k low. shift-byte old.from (old.from + at) at (length piece) k (get_or written k 0) (get_or old.bytes.items k 0) (λ j. get_or piece (j - at) 0) (λ a. get_or piece (a - (old.from + at)) 0) refl (each k low)
    (λ above below. let spot : k - at ≡ old.from + k - (old.from + at) = omega arith in ap (λ p. get_or piece p 0) spot))

pub length-bytes_of : (count number : ℕ) → length (bytes_of count number) ≡ count
length-bytes_of zero number = refl
length-bytes_of (suc count) number = ap suc (length-bytes_of count (number / 256))

-- a number that was put at a place
pub over-number : (old new : Range) (written piece : List ℕ) (at value : ℕ) (width : Width) → IsSameBut old new written → piece ≡ bytes_of (bytes_in width) value → at + bytes_in width ≤ old.len
    → ((k : ℕ) → k < length written → get_or written k 0 ≡ cond (within at (length piece) k) (get_or piece (k - at) 0) (get_or old.bytes.items k 0)) → Overwrites old new (old.from + at) (bytes_in width) (λ a. get_or (bytes_of (bytes_in width) value) (a - (old.from + at)) 0)
over-number old new written piece at value width same is ends each =
    let size = length-bytes_of (bytes_in width) value in
    subst (λ n. Overwrites old new (old.from + at) n (λ a. get_or (bytes_of (bytes_in width) value) (a - (old.from + at)) 0)) size
    (over-put old new written (bytes_of (bytes_in width) value) at same (omega (arith, size)) (λ k low. each k low ∙ ap (λ (p : List ℕ). cond (within at (length p) k) (get_or p (k - at) 0) (get_or old.bytes.items k 0)) is))

-- a part that was filled
pub over-laid : (old new : Range) (written : List ℕ) (from n count : ℕ) (rest : Rest) → IsSameBut old new written → old.from ≤ from → from - old.from + count ≤ old.len → count ≡ n
    → ((k : ℕ) → k < length written → get_or written k 0 ≡ cond (within (from - old.from) count k) (rest_byte rest (from + (k - (from - old.from)))) (get_or old.bytes.items k 0)) → Overwrites old new from n (rest_byte rest)
over-laid old new written from n count rest same begins ends is each = subst (λ m. Overwrites old new from m (rest_byte rest)) is (over-whole old new written from count (rest_byte rest) same begins (omega arith) (λ k low. shift-byte old.from from (from - old.from) count k (get_or written k 0) (get_or old.bytes.items k 0) (λ j. rest_byte rest (from + (j - (from - old.from)))) (rest_byte rest) (omega arith) (each k low)
    (λ above below. let spot : from + (k - (from - old.from)) ≡ old.from + k = omega arith in ap (rest_byte rest) spot)))

-- a range whose bytes were made
pub over-made : (old new : Range) (written : List ℕ) → new.from ≡ old.from → new.len ≡ old.len → new.writable ≡ old.writable → new.runs ≡ old.runs → new.bytes.items ≡ written → length written ≡ old.len → length old.bytes.items ≡ 0 → ((k : ℕ) → k < length written → get_or written k 0 ≡ rest_byte old.rest (old.from + k)) → Overwrites old new old.from 0 (byte_at old)
over-made old new written from len writable runs items whole none each = record {
  begins = omega arith;
  ends = omega arith;
  from_same = from;
  len_same = len;
  writable_same = writable;
  runs_same = runs;
  grows = omega arith;
  bytes = λ address held.
      let above = held-from old address held in
      let below = held-below old address held in
      let spot : old.from + (address - old.from) ≡ address = omega arith in
      made-byte new address (address - old.from) (ap (λ f. address - f) from) (omega (arith, ap length items)) ∙ ap (λ xs. get_or xs (address - old.from) 0) items ∙ each (address - old.from) (omega arith) ∙ ap (rest_byte old.rest) spot ∙ sym (absent-byte old address none) ∙ either-same (within old.from 0 address) (byte_at old address);
}
