-- The ranges of a mapping.
use Rattle.std.proofs.Common.{◌≡◌, ℕ, ◌+◌, ◌-◌, ◌<◌, ◌≤◌, min, nat_lt, Bool, true, false, cond, List, [], ◌∷◌, ◌++◌, length, get_or, take, drop, Option, Some, is_none, refl, sym, ap, subst, ◌∙◌, arith, ◌⊎◌, inl, inr}
use Rattle.std.proofs.lemmas.Bool.{cases_lt}
use Rattle.std.proofs.lemmas.Bool.Decides.{nat_tests}
use Rattle.std.proofs.lemmas.List.{length-take, length-drop}
use Rattle.rv_memory.specs.declared.access.Rest.{Rest}
use Rattle.rv_memory.specs.declared.range.Range.{Range}
use Rattle.rv_memory.specs.Access.{rest_byte, new_byte}
use Rattle.rv_memory.specs.Laws.{at_each, from_each, same_memory}
use Rattle.rv_memory.specs.Memory.{Memory, within, with_range, is_unmapped}
use Rattle.rv_memory.specs.Ranges.{holds, end_of, byte_at, IsPart, AreParts}
use Rattle.rv_memory.proofs.Bytes.{held-from, held-below, made-byte, absent-byte}
use Rattle.rv_memory.proofs.Overwritten.{get_or-part}

-- ---- one part

behind-first : (first : List ℕ) (rest : Rest) (base address : ℕ) → base + length first ≤ address → new_byte first rest base address ≡ rest_byte rest address
behind-first first rest base address behind = let out : nat_lt (address - base) (length first) ≡ false = grind (arith, nat_tests) in rw out refl

given-length : (first : List ℕ) (done len : ℕ) → length (take len (drop done first)) ≡ min len (length first - done)
given-length first done len = simp (length-take, length-drop) refl

-- the bytes that are given to a part are those of the mapping
given-byte : (first : List ℕ) (rest : Rest) (base from len k : ℕ) → base ≤ from → k < len → new_byte (take len (drop (from - base) first)) rest from (from + k) ≡ new_byte first rest base (from + k)
given-byte first rest base from len k begins low = by (cases_lt (from + k - base) (length first))
  where
    size : length (take len (drop (from - base) first)) ≡ min len (length first - (from - base))
    size = given-length first (from - base) len

    by : (from + k - base < length first) ⊎ (length first ≤ from + k - base) → new_byte (take len (drop (from - base) first)) rest from (from + k) ≡ new_byte first rest base (from + k)
    by (inl inside) =
        let here : nat_lt (from + k - from) (length (take len (drop (from - base) first))) ≡ true = rw size (grind (arith, nat_tests)) in
        let there : nat_lt (from + k - base) (length first) ≡ true = grind (arith, nat_tests) in
        let place : from - base + (from + k - from) ≡ from + k - base = omega arith in
        rw (here, there) (get_or-part (from - base) len (from + k - from) first (omega arith) ∙ ap (λ p. get_or first p 0) place)
    by (inr behind) =
        let out : nat_lt (from + k - from) (length (take len (drop (from - base) first))) ≡ false = rw size (grind (arith, nat_tests)) in
        rw out (sym (behind-first first rest base (from + k) (omega arith)))

pub part-made : (part : Range) (first : List ℕ) (rest : Rest) (base : ℕ) → 0 < part.len → base ≤ part.from → length part.bytes.items ≡ part.len
    → ((k : ℕ) → k < length part.bytes.items → get_or part.bytes.items k 0 ≡ new_byte (take part.len (drop (part.from - base) first)) rest part.from (part.from + k)) → IsPart (new_byte first rest base) part.writable part.runs part
part-made part first rest base some begins whole each = record {
  some = some;
  writable_same = refl;
  runs_same = refl;
  bytes = λ address held.
      let above = held-from part address held in
      let below = held-below part address held in
      let spot : part.from + (address - part.from) ≡ address = omega arith in
      made-byte part address (address - part.from) refl (omega arith) ∙ each (address - part.from) (omega arith) ∙ given-byte first rest base part.from part.len (address - part.from) begins (omega arith) ∙ ap (new_byte first rest base) spot;
}

pub part-absent : (part : Range) (first : List ℕ) (base : ℕ) → 0 < part.len → base + length first ≤ part.from → length part.bytes.items ≡ 0 → IsPart (new_byte first part.rest base) part.writable part.runs part
part-absent part first base some behind none = record {
  some = some;
  writable_same = refl;
  runs_same = refl;
  bytes = λ address held.
      let above = held-from part address held in
      absent-byte part address none ∙ sym (behind-first first part.rest base address (omega arith));
}

-- ---- all of them

pub parts-push : (from at end : ℕ) (byte : ℕ → ℕ) (writable runs : Bool) (parts : List Range) (part : Range) → AreParts at end byte writable runs parts → part.from ≡ from → end_of part ≡ at → IsPart byte writable runs part → AreParts from end byte writable runs (parts ++ part ∷ [])
parts-push from at end byte writable runs [] part is begins ends here = (ends ∙ is, here, sym begins)
parts-push from at end byte writable runs (first ∷ parts) part are begins ends here = (are.0, are.1, parts-push from at first.from byte writable runs parts part are.2 begins ends here)

parts-pop : (from end : ℕ) (byte : ℕ → ℕ) (writable runs : Bool) (parts : List Range) (part : Range) → AreParts from end byte writable runs (parts ++ part ∷ []) → AreParts (end_of part) end byte writable runs parts × IsPart byte writable runs part × (part.from ≡ from)
parts-pop from end byte writable runs [] part are = (are.0, are.1, sym are.2)
parts-pop from end byte writable runs (first ∷ parts) part are = let rest = parts-pop from first.from byte writable runs parts part are.2 in ((are.0, are.1, rest.0), rest.1, rest.2)

pub parts-rise : (from end : ℕ) (byte : ℕ → ℕ) (writable runs : Bool) (parts : List Range) → AreParts from end byte writable runs parts → from ≤ end
parts-rise from end byte writable runs [] is = omega (arith, is)
parts-rise from end byte writable runs (first ∷ parts) are = omega (arith, are.0, parts-rise from first.from byte writable runs parts are.2)

pub parts-last : (from end : ℕ) (byte : ℕ → ℕ) (writable runs : Bool) (parts rest : List Range) (part : Range) → AreParts from end byte writable runs parts → parts ≡ rest ++ part ∷ [] → AreParts (end_of part) end byte writable runs rest × IsPart byte writable runs part × (part.from ≡ from)
parts-last from end byte writable runs parts rest part are is = parts-pop from end byte writable runs rest part (subst (λ (items : List Range). AreParts from end byte writable runs items) is are)

pub parts-none : (from end : ℕ) (byte : ℕ → ℕ) (writable runs : Bool) (parts : List Range) → AreParts from end byte writable runs parts → length parts ≡ 0 → from ≡ end
parts-none from end byte writable runs [] is none = is
parts-none from end byte writable runs (first ∷ parts) are none = absurd (omega arith)

-- ---- the memory that they make

-- what one span has, and the other one before it
two-spans : {X : Type 0} (from n k a : ℕ) (x y z : X) → (within (from + n) k a ≡ true → x ≡ y) → cond (within (from + n) k a) x (cond (within from n a) y z) ≡ cond (within from (n + k) a) y z
two-spans {X = X} from n k a x y z same = by (within from n a) (within (from + n) k a) refl refl
  where
    by : (b e : Bool) → within from n a ≡ b → within (from + n) k a ≡ e → cond (within (from + n) k a) x (cond (within from n a) y z) ≡ cond (within from (n + k) a) y z
    by b true one other = let all : within from (n + k) a ≡ true = grind (arith, nat_tests) in rw (other, all) (same other)
    by true false one other = let all : within from (n + k) a ≡ true = grind (arith, nat_tests) in rw (one, other, all) refl
    by false false one other = let all : within from (n + k) a ≡ false = grind (arith, nat_tests) in rw (one, other, all) refl

within-held : (part : Range) (from a : ℕ) → part.from ≡ from → within from part.len a ≡ true → holds part a ≡ true
within-held part from a begins inside = grind (arith, nat_tests)

joined-at : (memory : Memory) (part : Range) (from n : ℕ) (byte : ℕ → ℕ) (writable runs : Bool) → IsPart byte writable runs part → part.from ≡ from + n → with_range (with_range memory from n byte writable runs) (from + n) part.len (byte_at part) part.writable part.runs ≡ with_range memory from (n + part.len) byte writable runs
joined-at memory part from n byte writable runs is begins =
    same_memory (with_range (with_range memory from n byte writable runs) (from + n) part.len (byte_at part) part.writable part.runs) (with_range memory from (n + part.len) byte writable runs)
    (λ a. two-spans {X = Option ℕ} from n part.len a (Some (byte_at part a)) (Some (byte a)) (memory.bytes a) (λ inside. ap Some (is.bytes a (within-held part (from + n) a begins inside))))
    (λ a. two-spans {X = Bool} from n part.len a part.writable writable (memory.writable a) (λ inside. is.writable_same)) (λ a. two-spans {X = Bool} from n part.len a part.runs runs (memory.runs a) (λ inside. is.runs_same))

-- a part behind those that were mapped
pub joined : (memory : Memory) (part : Range) (from at : ℕ) (byte : ℕ → ℕ) (writable runs : Bool) → IsPart byte writable runs part → part.from ≡ at → from ≤ at → with_range (with_range memory from (at - from) byte writable runs) part.from part.len (byte_at part) part.writable part.runs ≡ with_range memory from (end_of part - from) byte writable runs
joined memory part from at byte writable runs is begins high =
    let spot : part.from ≡ from + (at - from) = omega (arith, begins) in
    let size : at - from + part.len ≡ end_of part - from = omega (arith, begins) in
    ap (λ p. with_range (with_range memory from (at - from) byte writable runs) p part.len (byte_at part) part.writable part.runs) spot ∙ joined-at memory part from (at - from) byte writable runs is spot ∙ ap (λ n. with_range memory from n byte writable runs) size

behind-span : (from len a : ℕ) → from + len ≤ a → within from len a ≡ false
behind-span from len a behind = grind (arith, nat_tests)

-- its span is free
pub free-behind : (memory : Memory) (part : Range) (from len at : ℕ) (byte : ℕ → ℕ) (writable runs : Bool) → part.from ≡ at → from ≤ at → end_of part ≤ from + len → is_unmapped memory from len ≡ true → is_unmapped (with_range memory from (at - from) byte writable runs) part.from part.len ≡ true
free-behind memory part from len at byte writable runs begins high ends unmapped =
    from_each (λ a. is_none ((with_range memory from (at - from) byte writable runs).bytes a)) part.from part.len (λ a low under.
    let out : within from (at - from) a ≡ false = behind-span from (at - from) a (omega (arith, begins)) in
    ap (λ b. is_none (cond b (Some (byte a)) (memory.bytes a))) out ∙ at_each (λ x. is_none (memory.bytes x)) from len a unmapped (omega (arith, begins)) (omega arith))
