-- A space with one more range.
use Rattle.std.proofs.Common.{◌≡◌, ℕ, zero, suc, ◌-◌, ◌<◌, ◌≤◌, ◌&&◌, Bool, true, false, cond, nat_lt, nat_le, List, [], ◌∷◌, length, get_or, Option, Result, Ok, Err, None, Some, is_none, refl, sym, ap, ◌∙◌, arith, ◌⊎◌, inl, inr}
use Rattle.std.specs.List.{insert}
use Rattle.std.specs.Result.{OnErr}
use Rattle.std.proofs.lemmas.Bool.{cases_lt}
use Rattle.std.proofs.lemmas.Bool.Decides.{nat_tests}
use Rattle.rv_memory.specs.declared.range.Range.{Range}
use Rattle.rv_memory.specs.declared.range.Purpose.{Purpose}
use Rattle.rv_memory.specs.declared.range.Purpose.TheVariants.{Writing, Running}
use Rattle.rv_memory.specs.declared.space.Space.{Space}
use Rattle.rv_memory.specs.Memory.{Memory, within, with_range, is_unmapped}
use Rattle.rv_memory.specs.Ranges.{holds, range_at, byte_at, byte_in, grants, memory_in, end_of, IsApart, IsInOrder, HaveBegun, AreToCome}
use Rattle.rv_memory.specs.Spaces.{ranges_of, memory_of}
use Rattle.rv_memory.proofs.Apart.{range_at-hit}
use Rattle.rv_memory.proofs.Memories.{nothing-in}
use Rattle.rv_memory.proofs.Ordered.{has_byte, order-put, ended-by, held-first, missed, none-holds, code-free, apart-ordered}
use Rattle.rv_memory.specs.Laws.{same_memory}
use Rattle.rv_memory.specs.Laws.{at_each}

none-of : (found : Option Range) (address : ℕ) → is_none (byte_in found address) ≡ true → found ≡ None
none-of None address is = refl
none-of (Some range) address is = absurd (cc)

-- no range holds an address of an unmapped span
abbrev pub IsFree : List Range → (from len : ℕ) → Type 0
IsFree ranges from len = (a : ℕ) → within from len a ≡ true → range_at ranges a ≡ None

pub free-span : (space : Space) (from len : ℕ) → is_unmapped (memory_of space) from len ≡ true → IsFree (ranges_of space) from len
unfolding memory_of
free-span space from len unmapped a inside =
    none-of (range_at (ranges_of space) a) a (at_each (λ b. is_none (byte_in (range_at (ranges_of space) b) b)) from len a unmapped (grind (arith, nat_tests)) (grind (arith, nat_tests)))

-- a range that is to hold a span
pub record IsOver (range : Range) (from len : ℕ) : Type 0 where
  pub begins : range.from ≡ from
  pub size : range.len ≡ len

holds-by : (from len a : ℕ) (b : Bool) → within from len a ≡ b → nat_le from a && nat_lt (a - from) len ≡ b
holds-by from len a true inside = grind (arith, nat_tests)
holds-by from len a false out = grind (arith, nat_tests)

holds-within : (range : Range) (from len a : ℕ) → IsOver range from len → holds range a ≡ within from len a
holds-within range from len a over =
    ap (λ f. nat_le f a && nat_lt (a - f) range.len) over.begins ∙ ap (λ n. nat_le from a && nat_lt (a - from) n) over.size ∙ holds-by from len a (within from len a) refl

-- where the new range is the one that is found in its span, and the others are found elsewhere
abbrev pub Adds : List Range → List Range → Range → (from len : ℕ) → Type 0
Adds ranges changed range from len = (a : ℕ) → range_at changed a ≡ cond (within from len a) (Some range) (range_at ranges a)

put-cons : (first range : Range) (ranges changed : List Range) (a : ℕ) (b e : Bool) → holds range a ≡ b → holds first a ≡ e → (b ≡ true → cond e (Some first) (range_at ranges a) ≡ None) → ((b ≡ true → range_at ranges a ≡ None) → range_at changed a ≡ cond b (Some range) (range_at ranges a)) → cond e (Some first) (range_at changed a) ≡ cond b (Some range) (cond e (Some first) (range_at ranges a))
put-cons first range ranges changed a true true held first-held free later = absurd (let none : Some first ≡ None = free refl in cc)
put-cons first range ranges changed a true false held first-out free later = later free
put-cons first range ranges changed a false true out first-held free later = refl
put-cons first range ranges changed a false false out first-out free later = later (λ is. absurd (cc))

range_at-put : (ranges : List Range) (i : ℕ) (range : Range) (a : ℕ) → (holds range a ≡ true → range_at ranges a ≡ None) → range_at (insert ranges i range) a ≡ cond (holds range a) (Some range) (range_at ranges a)
range_at-put ranges zero range a free = refl
range_at-put [] (suc i) range a free = refl
range_at-put (first ∷ ranges) (suc i) range a free = put-cons first range ranges (insert ranges i range) a (holds range a) (holds first a) refl refl free (range_at-put ranges i range a)

adds-put : (ranges : List Range) (i : ℕ) (range : Range) (from len : ℕ) → IsOver range from len → IsFree ranges from len → Adds ranges (insert ranges i range) range from len
adds-put ranges i range from len over free a =
    range_at-put ranges i range a (λ held. free a (sym (holds-within range from len a over) ∙ held)) ∙ ap (λ b. cond b (Some range) (range_at ranges a)) (holds-within range from len a over)

nothing-held : (code : Range) (a : ℕ) → code.len ≡ 0 → holds code a ≡ false
nothing-held code a empty = grind (arith, nat_tests)

pub adds-head : (code range : Range) (ranges : List Range) (from len : ℕ) → IsOver range from len → code.len ≡ 0 → Adds (code ∷ ranges) (range ∷ ranges) range from len
adds-head code range ranges from len over empty a =
    let none = nothing-held code a empty in
    let here = holds-within range from len a over in
    ap (λ b. cond b (Some range) (range_at ranges a)) here ∙ ap (λ b. cond (within from len a) (Some range) (cond b (Some code) (range_at ranges a))) (sym none)

apart-by : (ranges : List Range) (range : Range) (i a : ℕ) (d : Range) → IsApart ranges → (holds range a ≡ true → range_at ranges a ≡ None) → i < length ranges → holds (get_or ranges i d) a ≡ true → holds range a ≡ true → ⊥
apart-by ranges range i a d apart free low held new-held = let hit = range_at-hit ranges i a d apart low held in let none = free new-held in cc

pub apart-head : (code range : Range) (ranges : List Range) (from len : ℕ) → IsApart (code ∷ ranges) → IsOver range from len → IsFree (code ∷ ranges) from len → IsApart (range ∷ ranges)
apart-head code range ranges from len apart over free zero zero a d i-low j-low i-held j-held = refl
apart-head code range ranges from len apart over free zero (suc j) a d i-low j-low i-held j-held =
    absurd (apart-by (code ∷ ranges) range (suc j) a d apart (λ held. free a (sym (holds-within range from len a over) ∙ held)) j-low j-held i-held)
apart-head code range ranges from len apart over free (suc i) zero a d i-low j-low i-held j-held =
    absurd (apart-by (code ∷ ranges) range (suc i) a d apart (λ held. free a (sym (holds-within range from len a over) ∙ held)) i-low i-held j-held)
apart-head code range ranges from len apart over free (suc i) (suc j) a d i-low j-low i-held j-held = apart (suc i) (suc j) a d i-low j-low i-held j-held

byte-added : (range : Range) (rest : Option Range) (from len a : ℕ) (byte : ℕ → ℕ) (b : Bool) → within from len a ≡ b → IsOver range from len → ((a : ℕ) → holds range a ≡ true → byte_at range a ≡ byte a) → byte_in (cond b (Some range) rest) a ≡ cond b (Some (byte a)) (byte_in rest a)
byte-added range rest from len a byte true inside over each = ap Some (each a (holds-within range from len a over ∙ inside))
byte-added range rest from len a byte false out over each = refl

grant-added : (purpose : Purpose) (range : Range) (rest : Option Range) (b flag : Bool) → grants purpose (Some range) ≡ flag → grants purpose (cond b (Some range) rest) ≡ cond b flag (grants purpose rest)
grant-added purpose range rest true flag is = is
grant-added purpose range rest false flag is = refl

-- the memory with one more range
pub memory-added : (ranges changed : List Range) (range : Range) (from len : ℕ) (byte : ℕ → ℕ) → IsOver range from len → Adds ranges changed range from len → ((a : ℕ) → holds range a ≡ true → byte_at range a ≡ byte a) → memory_in changed ≡ with_range (memory_in ranges) from len byte range.writable range.runs
memory-added ranges changed range from len byte over adds each = same_memory (memory_in changed) (with_range (memory_in ranges) from len byte range.writable range.runs)
    (λ a. ap (λ (r : Option Range). byte_in r a) (adds a) ∙ byte-added range (range_at ranges a) from len a byte (within from len a) refl over each)
    (λ a. ap (grants Writing) (adds a) ∙ grant-added Writing range (range_at ranges a) (within from len a) range.writable refl)
    (λ a. ap (grants Running) (adds a) ∙ grant-added Running range (range_at ranges a) (within from len a) range.runs refl)

itself : (range : Range) → IsOver range range.from range.len
itself range = record { begins = refl; size = refl }

-- a range that was put in its place, or was not
before-free : (space : Space) (range : Range) (at : ℕ) → is_unmapped (memory_of space) range.from range.len ≡ true → 0 < range.len → at ≤ length space.ranges.items → HaveBegun space.ranges.items at range.from → (k : ℕ) (d : Range) → k < at → end_of (get_or space.ranges.items k d) ≤ range.from
before-free space range at unmapped some fits begun k d low =
    let free = free-span space range.from range.len unmapped range.from (grind (arith, nat_tests)) in
    ended-by (get_or space.ranges.items k d) range.from (begun k d low) (none-holds (ranges_of space) range.from (suc k) d free (omega arith))

behind-free : (space : Space) (range : Range) (at : ℕ) → is_unmapped (memory_of space) range.from range.len ≡ true → AreToCome space.ranges.items at range.from → (k : ℕ) (d : Range) → at ≤ k → k < length space.ranges.items → end_of range ≤ (get_or space.ranges.items k d).from
behind-free space range at unmapped to_come k d high low = by (cases_lt (get_or space.ranges.items k d).from (end_of range))
  where
    met : (get_or space.ranges.items k d).from < end_of range → ⊥
    met inside =
        let later = to_come k d high low in
        let free = free-span space range.from range.len unmapped (get_or space.ranges.items k d).from (grind (arith, nat_tests)) in
        let out = none-holds (ranges_of space) (get_or space.ranges.items k d).from (suc k) d free (omega arith) in
        let held = held-first (get_or space.ranges.items k d) (has_byte space.ranges.items k d space.order low) in
        cc

    by : ((get_or space.ranges.items k d).from < end_of range) ⊎ (end_of range ≤ (get_or space.ranges.items k d).from) → end_of range ≤ (get_or space.ranges.items k d).from
    by (inl inside) = absurd (met inside)
    by (inr behind) = behind

order-new : (space : Space) (range : Range) (at : ℕ) → is_unmapped (memory_of space) range.from range.len ≡ true → 0 < range.len → at ≤ length space.ranges.items → HaveBegun space.ranges.items at range.from → AreToCome space.ranges.items at range.from → IsInOrder (insert space.ranges.items at range)
order-new space range at unmapped some fits begun to_come =
    order-put space.ranges.items at range fits (omega arith) (before-free space range at unmapped some fits begun) (behind-free space range at unmapped to_come) space.order

pub order-placed : (space : Space) (range : Range) (at : ℕ) (b : Bool) → is_unmapped (memory_of space) range.from range.len ≡ true → 0 < range.len → at ≤ length space.ranges.items → HaveBegun space.ranges.items at range.from → AreToCome space.ranges.items at range.from → IsInOrder (cond b (insert space.ranges.items at range) space.ranges.items)
order-placed space range at true unmapped some fits begun to_come = order-new space range at unmapped some fits begun to_come
order-placed space range at false unmapped some fits begun to_come = space.order

code-apart : (space : Space) (range : Range) (at a : ℕ) → is_unmapped (memory_of space) range.from range.len ≡ true → holds space.code a ≡ true → (b : Bool) → holds range a ≡ b → cond b (Some range) (range_at space.ranges.items a) ≡ None
code-apart space range at a unmapped code-held true held =
    let free = free-span space range.from range.len unmapped a (sym (holds-within range range.from range.len a (itself range)) ∙ held) in
    let out = none-holds (ranges_of space) a 0 range free (omega arith) in
    absurd (cc)
code-apart space range at a unmapped code-held false out = code-free space.code space.ranges.items a space.apart code-held

pub apart-placed : (space : Space) (range : Range) (at : ℕ) (b : Bool) → is_unmapped (memory_of space) range.from range.len ≡ true → 0 < range.len → at ≤ length space.ranges.items → HaveBegun space.ranges.items at range.from → AreToCome space.ranges.items at range.from → IsApart (space.code ∷ cond b (insert space.ranges.items at range) space.ranges.items)
apart-placed space range at true unmapped some fits begun to_come =
    let behind-code : IsFree space.ranges.items range.from range.len = λ a inside. missed space.ranges.items a (λ i d low. none-holds (ranges_of space) a (suc i) d (free-span space range.from range.len unmapped a inside) (omega arith)) in
    apart-ordered space.code (insert space.ranges.items at range) (order-new space range at unmapped some fits begun to_come)
    (λ a held. range_at-put space.ranges.items at range a (λ here. behind-code a (sym (holds-within range range.from range.len a (itself range)) ∙ here)) ∙ code-apart space range at a unmapped held (holds range a) refl)
apart-placed space range at false unmapped some fits begun to_come = space.apart

pub memory-placed : (space : Space) (range : Range) (at : ℕ) → is_unmapped (memory_of space) range.from range.len ≡ true → memory_in (space.code ∷ insert space.ranges.items at range) ≡ with_range (memory_of space) range.from range.len (byte_at range) range.writable range.runs
unfolding memory_of
memory-placed space range at unmapped =
    let free = free-span space range.from range.len unmapped in
    memory-added (ranges_of space) (space.code ∷ insert space.ranges.items at range) range range.from range.len (byte_at range) (itself range) (adds-put (ranges_of space) (suc at) range range.from range.len (itself range) free) (λ a held. refl)

-- a range without bytes adds nothing
pub nothing-added : (memory : Memory) (from : ℕ) (byte : ℕ → ℕ) (writable runs : Bool) → memory ≡ with_range memory from 0 byte writable runs
nothing-added memory from byte writable runs = same_memory memory (with_range memory from 0 byte writable runs) (λ a. let out = nothing-in from a in rw out refl) (λ a. let out = nothing-in from a in rw out refl) (λ a. let out = nothing-in from a in rw out refl)

-- the first code
pub apart-coded : (space : Space) (range : Range) → is_unmapped (memory_of space) range.from range.len ≡ true → IsApart (range ∷ space.ranges.items)
apart-coded space range unmapped = apart-head space.code range space.ranges.items range.from range.len space.apart (itself range) (free-span space range.from range.len unmapped)

pub memory-coded : (space : Space) (range : Range) → space.code.len ≡ 0 → memory_in (range ∷ space.ranges.items) ≡ with_range (memory_of space) range.from range.len (byte_at range) range.writable range.runs
unfolding memory_of
memory-coded space range empty =
    memory-added (ranges_of space) (range ∷ space.ranges.items) range range.from range.len (byte_at range) (itself range) (adds-head space.code range space.ranges.items range.from range.len (itself range) empty) (λ a held. refl)

-- a fact that holds also holds of an error
pub on_error : {T E P : Type 0} (r : Result T E) → P → OnErr r P
on_error (Ok value) fact = tt
on_error (Err fault) fact = fact
