-- Breaks of the canary in a part of a range.
use Rattle.std.proofs.Common.{◌≡◌, ℕ, zero, suc, ◌+◌, ◌-◌, ◌<◌, ◌≤◌, Bool, true, false, not, List, length, get_or, take, drop, min, find, Option, None, Some, Ok, Err, refl, sym, ap, ◌∙◌, ◌⊎◌, ⊎_elim, arith}
use Rattle.std.specs.List.{range_with_len}
use Rattle.std.proofs.lemmas.Bool.Decides.{nat_tests}
use Rattle.std.proofs.lemmas.List.{length-take, length-drop, length-take-le, get_or-take}
use Rattle.diefast_canary.specs.Canary.{canary_byte, IsFirstBroken}
use Rattle.rv_memory.specs.Access.{rest_byte}
use Rattle.rv_memory.specs.Memory.{Memory, is_byte, is_broken, first_broken, IsIntact, IsLeastBreak}
use Rattle.rv_memory.specs.declared.range.Range.{Range}
use Rattle.rv_memory.specs.Ranges.{holds, end_of, byte_at, IsBreakIn}
use Rattle.rv_memory.proofs.Bytes.{held-from, held-below, made-byte, absent-byte, whole-some}
use Rattle.rv_memory.proofs.Overwritten.{get_or-part}

-- how long a part is
pub part-length : (k m n : ℕ) (xs : List ℕ) → m ≡ n → k + n ≤ length xs → length (take m (drop k xs)) ≡ n
part-length k m n xs same ends = simp (length-take, length-drop) (omega arith)

-- bytes that a range holds from an address on
pub record IsSeen (range : Range) (from end count : ℕ) (part : List ℕ) : Type 0 where
  pub some : 0 < count
  pub before : from + count ≤ end
  pub ends : from + count ≤ end_of range
  pub size : length part ≡ count
  pub each : (k : ℕ) → k < count → get_or part k 0 ≡ byte_at range (from + k)

pub seen-made : (range : Range) (from end count m : ℕ) → holds range from ≡ true → from < end → 0 < length range.bytes.items → count ≡ min (length range.bytes.items - (from - range.from)) (end - from) → m ≡ count → IsSeen range from end count (take m (drop (from - range.from) range.bytes.items))
seen-made range from end count m held more some is same =
    let begins = held-from range from held in
    let below = held-below range from held in
    let whole = whole-some range some in
    let fits : from - range.from + count ≤ length range.bytes.items = omega (arith, whole) in
    record {
      some = omega (arith, whole);
      before = omega arith;
      ends = omega (arith, whole);
      size = part-length (from - range.from) m count range.bytes.items same fits;
      each = λ k low.
          let spot : from + k - range.from ≡ from - range.from + k = omega arith in
          get_or-part (from - range.from) m k range.bytes.items (omega arith) ∙ sym (made-byte range (from + k) (from - range.from + k) spot (omega arith));
    }

pub seen-absent : (range : Range) (from end count m : ℕ) (bytes : List ℕ) → length range.bytes.items ≡ 0 → 0 < count → from + count ≤ end → from + count ≤ end_of range → m ≡ count → count ≤ length bytes → ((k : ℕ) → k < count → get_or bytes k 0 ≡ rest_byte range.rest (from + k)) → IsSeen range from end count (take m bytes)
seen-absent range from end count m bytes none some before ends same fits each = record {
  some = some;
  before = before;
  ends = ends;
  size = length-take-le m bytes (omega arith) ∙ same;
  each = λ k low. get_or-take m bytes k 0 (omega arith) ∙ each k low ∙ sym (absent-byte range (from + k) none);
}

-- a range of which nothing is made, with the canary's own word
pub intact-rest : (range : Range) (from end word : ℕ) → length range.bytes.items ≡ 0 → holds range from ≡ true → from < end → ((address : ℕ) → rest_byte range.rest address ≡ canary_byte word address) → IsBreakIn range from end word (Ok (min end (end_of range)))
intact-rest range from end word none held more same =
    let begins = held-from range from held in
    let below = held-below range from held in
    (omega arith, omega arith, omega arith, λ address above under. absent-byte range address none ∙ same address)

pub broken-in : (range : Range) (from end word count place : ℕ) (part : List ℕ) → IsSeen range from end count part → IsFirstBroken word from part place → IsBreakIn range from end word (Err (from + place))
broken-in range from end word count place part seen first =
    let low : place < count = omega (arith, first.within, seen.size) in (
      omega arith,
      omega (arith, low, seen.before),
      omega (arith, low, seen.ends),
      λ intact. first.broken (seen.each place low ∙ intact),
      λ address above below.
          let there : from + (address - from) ≡ address = omega arith in
          ap (byte_at range) (sym there) ∙ sym (seen.each (address - from) (omega arith)) ∙ first.before (address - from) (omega arith) ∙ ap (canary_byte word) there,
    )

pub intact-in : (range : Range) (from end word count : ℕ) (part : List ℕ) → IsSeen range from end count part → ((k : ℕ) → k < length part → get_or part k 0 ≡ canary_byte word (from + k)) → IsBreakIn range from end word (Ok (from + count))
intact-in range from end word count part seen each = (
  omega (arith, seen.some),
  seen.before,
  seen.ends,
  λ address above below.
      let there : from + (address - from) ≡ address = omega arith in
      ap (byte_at range) (sym there) ∙ sym (seen.each (address - from) (omega arith)) ∙ each (address - from) (omega (arith, seen.size)) ∙ ap (canary_byte word) there,
)

-- a search over a span finds nothing, or the first address that passes
find-none : (p : ℕ → Bool) (from len : ℕ) → ((a : ℕ) → from ≤ a → a < from + len → p a ≡ false) → find p (range_with_len from len) ≡ None
find-none p from zero fails = refl
find-none p from (suc len) fails =
    let first : p from ≡ false = fails from (omega arith) (omega arith) in
    rw first (find-none p (from + 1) len (λ a low high. fails a (omega arith) (omega arith)))

first_or_further : (from a : ℕ) → from ≤ a → (a ≡ from) ⊎ (from + 1 ≤ a)
first_or_further from a low = grind arith

find-first : (p : ℕ → Bool) (from len a : ℕ) → from ≤ a → a < from + len → ((k : ℕ) → from ≤ k → k < a → p k ≡ false) → p a ≡ true → find p (range_with_len from len) ≡ Some a
find-first p from zero a low high fails passes = absurd (omega arith)
find-first p from (suc len) a low high fails passes =
    ⊎_elim (λ (here : a ≡ from). let first : p from ≡ true = ap p (sym here) ∙ passes in rw first (ap Some (sym here)))
    (λ (further : from + 1 ≤ a). let first : p from ≡ false = fails from (omega arith) (omega arith) in
    rw first (find-first p (from + 1) len a further (omega arith) (λ k above below. fails k (omega arith) below) passes)) (first_or_further from a low)

intact-not-broken : (here : Option ℕ) (byte : ℕ) → here ≡ Some byte → not (is_byte here byte) ≡ false
intact-not-broken None byte is = absurd (cc)
intact-not-broken (Some other) byte is = let same : other ≡ byte = cc in grind (arith, nat_tests)

pub first-of-least : (memory : Memory) (word from len broken : ℕ) → IsLeastBreak memory word from len broken → Some broken ≡ first_broken memory word from len
first-of-least memory word from len broken least =
    let inside = least.inside in
    sym (find-first (is_broken memory word) from len broken (grind (arith, nat_tests)) (grind (arith, nat_tests)) (λ k low high. intact-not-broken (memory.bytes k) (canary_byte word k) (least.before k low high)) least.breaks)

pub none-of-intact : (memory : Memory) (word from len : ℕ) → IsIntact memory word from len → None ≡ first_broken memory word from len
none-of-intact memory word from len intact = sym (find-none (is_broken memory word) from len (λ a low high. intact-not-broken (memory.bytes a) (canary_byte word a) (intact a low high)))
