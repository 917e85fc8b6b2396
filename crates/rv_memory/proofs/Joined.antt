-- A range behind the first code, as one with it.
use Rattle.std.proofs.Common.{rules, ◌≡◌, ℕ, ◌+◌, ◌-◌, ◌&&◌, Bool, true, false, cond, List, ◌∷◌, ◌++◌, length, get_or, Option, Some, None, Result, Ok, Err, refl, sym, ap, ◌∙◌, arith}
use Rattle.std.specs.Result.{OnOk, OnErr}
use Rattle.std.proofs.lemmas.Bool.Decides.{nat_tests}
use Rattle.std.proofs.lemmas.List.{get_or_append_left, get_or-append_right, length-append}
use Rattle.rv_memory.specs.declared.range.Range.{Range}
use Rattle.rv_memory.specs.declared.range.Purpose.{Purpose}
use Rattle.rv_memory.specs.declared.range.Purpose.TheVariants.{Writing, Running}
use Rattle.rv_memory.specs.declared.space.Space.{Space}
use Rattle.rv_memory.specs.Laws.{same_memory}
use Rattle.rv_memory.specs.Memory.{within, with_range, is_unmapped, KeepsTaken}
use Rattle.rv_memory.specs.Ranges.{holds, range_at, byte_at, byte_in, grants, memory_in, end_of, is_whole, is_taken_in, meets, Joins, Overwrites, IsApart}
use Rattle.rv_memory.specs.Spaces.{ranges_of, memory_of, taken_of}
use Rattle.rv_memory.proofs.Bytes.{held-from, held-below, made-byte, whole-length}
use Rattle.rv_memory.proofs.Mapped.{free-span}
use Rattle.rv_memory.proofs.Ordered.{apart-ordered, code-free}
use Rattle.rv_memory.proofs.Stored.{apart-code, code-same}
use Rattle.rv_memory.proofs.Taken.{either-more, both, joined, keeps-code, whole-over}

-- a range whose bytes are those of two others is both joined
pub record Is (first second new : Range) : Type 0 where
  pub from : new.from ≡ first.from
  pub len : new.len ≡ first.len + second.len
  pub writable : new.writable ≡ first.writable
  pub runs : new.runs ≡ first.runs
  pub items : new.bytes.items ≡ first.bytes.items ++ second.bytes.items
  pub first_whole : is_whole first ≡ true
  pub second_whole : is_whole second ≡ true
  pub behind : second.from ≡ end_of first

size-joined : (first second new : Range) → Is first second new → length new.bytes.items ≡ first.len + second.len
size-joined first second new is =
    let size = ap length is.items ∙ length-append first.bytes.items second.bytes.items in
    let left = whole-length first is.first_whole in
    let right = whole-length second is.second_whole in
    omega (arith, size, left, right)

first-byte : (first second new : Range) (a : ℕ) → Is first second new → holds first a ≡ true → byte_at new a ≡ byte_at first a
first-byte first second new a is held =
    let begins = held-from first a held in
    let below = held-below first a held in
    let left = whole-length first is.first_whole in
    let size = size-joined first second new is in
    made-byte new a (a - first.from) (ap (λ f. a - f) is.from) (omega (arith, begins, below, size))
    ∙ ap (λ (items : List ℕ). get_or items (a - first.from) 0) is.items
    ∙ get_or_append_left first.bytes.items second.bytes.items 0 (a - first.from) (omega (arith, begins, below, left))
    ∙ sym (made-byte first a (a - first.from) refl (omega (arith, begins, below, left)))

second-byte : (first second new : Range) (a : ℕ) → Is first second new → holds second a ≡ true → byte_at new a ≡ byte_at second a
second-byte first second new a is held =
    let begins = held-from second a held in
    let below = held-below second a held in
    let left = whole-length first is.first_whole in
    let right = whole-length second is.second_whole in
    let size = size-joined first second new is in
    let behind = is.behind in
    made-byte new a (a - first.from) (ap (λ f. a - f) is.from) (omega (arith, begins, below, size, behind))
    ∙ ap (λ (items : List ℕ). get_or items (a - first.from) 0) is.items
    ∙ get_or-append_right first.bytes.items second.bytes.items first.len (a - first.from) 0 left (omega (arith, begins, behind))
    ∙ ap (λ k. get_or second.bytes.items k 0) (let spot : a - first.from - first.len ≡ a - second.from = omega (arith, begins, behind) in spot)
    ∙ sym (made-byte second a (a - second.from) refl (omega (arith, begins, below, right)))

whole-new : (new : Range) → length new.bytes.items ≡ new.len → is_whole new ≡ true
whole-new new size = grind (arith, nat_tests)

pub joins-are : (first second new : Range) → Is first second new → Joins first second new
joins-are first second new is = record {
  from_same = is.from;
  len_is = is.len;
  writable_same = is.writable;
  runs_same = is.runs;
  whole = whole-new new (size-joined first second new is ∙ sym is.len);
  first_bytes = λ a held. first-byte first second new a is held;
  second_bytes = λ a held. second-byte first second new a is held;
}

-- what a joined range holds
holds-first : (first second new : Range) (a : ℕ) → Joins first second new → holds first a ≡ true → holds new a ≡ true
holds-first first second new a joins held =
    let from = joins.from_same in
    let len = joins.len_is in
    grind (arith, nat_tests)

holds-second : (first second new : Range) (a : ℕ) → Joins first second new → second.from ≡ end_of first → holds second a ≡ true → holds new a ≡ true
holds-second first second new a joins behind held =
    let from = joins.from_same in
    let len = joins.len_is in
    grind (arith, nat_tests)

holds-neither : (first second new : Range) (a : ℕ) → Joins first second new → second.from ≡ end_of first → holds first a ≡ false → holds second a ≡ false → holds new a ≡ false
holds-neither first second new a joins behind out past =
    let from = joins.from_same in
    let len = joins.len_is in
    grind (arith, nat_tests)

-- what is found at an address, by what the two hold
byte-joined : (first second new : Range) (rest : Option Range) (a : ℕ) (b e f : Bool) → Joins first second new → second.from ≡ end_of first → holds second a ≡ b → holds first a ≡ e → holds new a ≡ f → byte_in (cond f (Some new) rest) a ≡ cond b (Some (byte_at second a)) (byte_in (cond e (Some first) rest) a)
byte-joined first second new rest a true e true joins behind held here all = ap Some (joins.second_bytes a held)
byte-joined first second new rest a true e false joins behind held here none = absurd (let all = holds-second first second new a joins behind held in cc)
byte-joined first second new rest a false true true joins behind out here all = ap Some (joins.first_bytes a here)
byte-joined first second new rest a false true false joins behind out here none = absurd (let all = holds-first first second new a joins here in cc)
byte-joined first second new rest a false false true joins behind out past all = absurd (let none = holds-neither first second new a joins behind past out in cc)
byte-joined first second new rest a false false false joins behind out past none = refl

flag-joined : (purpose : Purpose) (first second new : Range) (rest : Option Range) (a : ℕ) (flag b e f : Bool) → grants purpose (Some new) ≡ flag → grants purpose (Some first) ≡ flag → Joins first second new → second.from ≡ end_of first → holds second a ≡ b → holds first a ≡ e → holds new a ≡ f → grants purpose (cond f (Some new) rest) ≡ cond b flag (grants purpose (cond e (Some first) rest))
flag-joined purpose first second new rest a flag true e true is also joins behind held here all = is
flag-joined purpose first second new rest a flag true e false is also joins behind held here none = absurd (let all = holds-second first second new a joins behind held in cc)
flag-joined purpose first second new rest a flag false true true is also joins behind out here all = is ∙ sym also
flag-joined purpose first second new rest a flag false true false is also joins behind out here none = absurd (let all = holds-first first second new a joins here in cc)
flag-joined purpose first second new rest a flag false false true is also joins behind out past all = absurd (let none = holds-neither first second new a joins behind past out in cc)
flag-joined purpose first second new rest a flag false false false is also joins behind out past none = refl

by-span : (range : Range) (a : ℕ) (b : Bool) → within range.from range.len a ≡ b → holds range a ≡ b
by-span range a true inside = grind (arith, nat_tests)
by-span range a false out = grind (arith, nat_tests)

pub memory-joined : (space : Space) (second new : Range) → Joins space.code second new → second.from ≡ end_of space.code → second.writable ≡ space.code.writable → second.runs ≡ space.code.runs → memory_in (new ∷ space.ranges.items) ≡ with_range (memory_of space) second.from second.len (byte_at second) second.writable second.runs
unfolding memory_of
memory-joined space second new joins behind writable runs = same_memory (memory_in (new ∷ space.ranges.items)) (with_range (memory_in (ranges_of space)) second.from second.len (byte_at second) second.writable second.runs)
    (λ a. byte-joined space.code second new (range_at space.ranges.items a) a (within second.from second.len a) (holds space.code a) (holds new a) joins behind (by-span second a (within second.from second.len a) refl) refl refl)
    (λ a. flag-joined Writing space.code second new (range_at space.ranges.items a) a second.writable (within second.from second.len a) (holds space.code a) (holds new a) (joins.writable_same ∙ sym writable) (sym writable) joins behind (by-span second a (within second.from second.len a) refl) refl refl)
    (λ a. flag-joined Running space.code second new (range_at space.ranges.items a) a second.runs (within second.from second.len a) (holds space.code a) (holds new a) (joins.runs_same ∙ sym runs) (sym runs) joins behind (by-span second a (within second.from second.len a) refl) refl refl)

-- no other range holds what the joined one does
free-of : (space : Space) (second new : Range) (a : ℕ) (b e : Bool) → Joins space.code second new → second.from ≡ end_of space.code → is_unmapped (memory_of space) second.from second.len ≡ true → holds new a ≡ true → holds space.code a ≡ b → holds second a ≡ e → range_at space.ranges.items a ≡ None
free-of space second new a true e joins behind unmapped all here held = code-free space.code space.ranges.items a space.apart here
free-of space second new a false true joins behind unmapped all out held = behind-code (range_at space.ranges.items a) (holds space.code a) out (free-span space second.from second.len unmapped a (spanned second a held))
  where
    spanned : (range : Range) (a : ℕ) → holds range a ≡ true → within range.from range.len a ≡ true
    spanned range a is = grind (arith, nat_tests)

    behind-code : (rest : Option Range) (b : Bool) → b ≡ false → cond b (Some space.code) rest ≡ None → rest ≡ None
    behind-code rest true is none = absurd (cc)
    behind-code rest false is none = none
free-of space second new a false false joins behind unmapped all out past = absurd (let none = holds-neither space.code second new a joins behind out past in cc)

pub apart-joined : (space : Space) (second new : Range) → Joins space.code second new → second.from ≡ end_of space.code → is_unmapped (memory_of space) second.from second.len ≡ true → IsApart (new ∷ space.ranges.items)
apart-joined space second new joins behind unmapped = apart-ordered new space.ranges.items space.order (λ a held. free-of space second new a (holds space.code a) (holds second a) joins behind unmapped held refl refl)

-- the pages that the first one takes, the joined one takes
meets-more : (first second new : Range) (page : ℕ) → Joins first second new → meets first page ≡ true → meets new page ≡ true
meets-more first second new page joins is =
    let from = joins.from_same in
    let len = joins.len_is in
    grind (arith, nat_tests)

takes-more : (first second new : Range) (page : ℕ) → Joins first second new → is_whole first && meets first page ≡ true → is_whole new && meets new page ≡ true
takes-more first second new page joins is =
    let here = both (is_whole first) (meets first page) is in
    joined (is_whole new) (meets new page) joins.whole (meets-more first second new page joins here.1)

pub keeps-joined : (space : Space) (second new : Range) → Joins space.code second new → KeepsTaken (taken_of space) (is_taken_in (new ∷ space.ranges.items))
unfolding taken_of
keeps-joined space second new joins page taken = either-more (is_whole space.code && meets space.code page) (is_taken_in space.ranges.items page) (is_whole new && meets new page) (is_taken_in space.ranges.items page) (takes-more space.code second new page joins) (λ is. is) taken

-- ---- what is left where bytes were to be added to the first code: both as one, or the first as it was

abbrev pub Added : {A E : Type 0} → Result A E → Space → (second new : Range) → Type 0
Added result space second new = OnOk result (Joins space.code second new) × OnErr result (Overwrites space.code new space.code.from 0 (byte_at space.code))

pub apart-after : {A E : Type 0} (result : Result A E) (space : Space) (second new : Range) → Added result space second new → second.from ≡ end_of space.code → is_unmapped (memory_of space) second.from second.len ≡ true → IsApart (new ∷ space.ranges.items)
apart-after (Ok done) space second new added behind unmapped = apart-joined space second new added.0 behind unmapped
apart-after (Err refused) space second new added behind unmapped = apart-code space space.code.from 0 new (byte_at space.code) added.1

pub runs-after : {A E : Type 0} (result : Result A E) (space : Space) (second new : Range) → Added result space second new → new.runs ≡ true
runs-after (Ok done) space second new added = added.0.runs_same ∙ space.code_runs
runs-after (Err refused) space second new added = added.1.runs_same ∙ space.code_runs

pub fixed-after : {A E : Type 0} (result : Result A E) (space : Space) (second new : Range) → Added result space second new → new.writable ≡ false
fixed-after (Ok done) space second new added = added.0.writable_same ∙ space.code_fixed
fixed-after (Err refused) space second new added = added.1.writable_same ∙ space.code_fixed

pub whole-after : {A E : Type 0} (result : Result A E) (space : Space) (second new : Range) → Added result space second new → is_whole new ≡ true
whole-after (Ok done) space second new added = added.0.whole
whole-after (Err refused) space second new added = whole-over space.code new space.code.from 0 (byte_at space.code) added.1 space.code_made

pub memory-after : {A E : Type 0} (result : Result A E) (space : Space) (second new : Range) → Added result space second new → second.from ≡ end_of space.code → second.writable ≡ false → second.runs ≡ true → OnOk result (memory_in (new ∷ space.ranges.items) ≡ with_range (memory_of space) second.from second.len (byte_at second) second.writable second.runs)
memory-after (Ok done) space second new added behind writable runs = memory-joined space second new added.0 behind (writable ∙ sym space.code_fixed) (runs ∙ sym space.code_runs)
memory-after (Err refused) space second new added behind writable runs = search rules

pub same-after : {A E : Type 0} (result : Result A E) (space : Space) (second new : Range) → Added result space second new → OnErr result (memory_in (new ∷ space.ranges.items) ≡ memory_of space)
same-after (Ok done) space second new added = search rules
same-after (Err refused) space second new added = code-same space new added.1

pub keeps-after : {A E : Type 0} (result : Result A E) (space : Space) (second new : Range) → Added result space second new → KeepsTaken (taken_of space) (is_taken_in (new ∷ space.ranges.items))
keeps-after (Ok done) space second new added = keeps-joined space second new added.0
keeps-after (Err refused) space second new added = keeps-code space space.code.from 0 new (byte_at space.code) added.1
