-- A stack in two parts: zeros below the pointer, and what is given from there on.
use Rattle.std.proofs.Common.{◌≡◌, ℕ, ◌+◌, ◌-◌, ◌<◌, ◌≤◌, Bool, true, false, cond, inl, inr, nat_lt, List, [], ◌++◌, length, get_or, replicate, Option, Some, is_none, refl, sym, ◌∙◌, ap, arith}
use Rattle.std.proofs.lemmas.Bool.{cases_lt}
use Rattle.std.proofs.lemmas.Bool.Decides.{nat_tests}
use Rattle.std.proofs.lemmas.List.{get_or_past, get_or_append_left, get_or-append_right, get_or-replicate, length-replicate}
use mathlib.Core.Path.{fun_ext}
use Rattle.rv_memory.specs.Access.{new_byte}
use Rattle.rv_memory.specs.Memory.{Memory, within, is_unmapped, with_range}
use Rattle.rv_memory.specs.declared.access.Rest.TheVariants.{Zero}
use Rattle.rv_memory.specs.Laws.{at_each, from_each}
use Rattle.rv_machine.specs.Laid.{with_stack}

-- a byte of a range, zero where none is given
given : (bytes : List ℕ) (k : ℕ) → cond (nat_lt k (length bytes)) (get_or bytes k 0) 0 ≡ get_or bytes k 0
given bytes k = elim (nat_lt k (length bytes)) as (λ b. nat_lt k (length bytes) ≡ b → cond b (get_or bytes k 0) 0 ≡ get_or bytes k 0) [
  | true ↦ λ is. refl
  | false ↦ λ is. sym (get_or_past bytes k 0 (grind (arith, nat_tests)))
] refl

byte_low : (from pointer a : ℕ) (top : List ℕ) → from ≤ a → a < pointer → new_byte (replicate (pointer - from) 0 ++ top) Zero from a ≡ 0
byte_low from pointer a top low under =
    let n : ℕ = pointer - from in
    let less : a - from < n = omega (arith, low, under) in
    let short : a - from < length (replicate n 0) = omega (arith, less, length-replicate {A = ℕ} n 0) in
    given (replicate n 0 ++ top) (a - from) ∙ get_or_append_left (replicate n 0) top 0 (a - from) short ∙ get_or-replicate n (a - from) 0 0 less

byte_high : (from pointer a : ℕ) (top : List ℕ) → from ≤ pointer → pointer ≤ a → new_byte (replicate (pointer - from) 0 ++ top) Zero from a ≡ new_byte top Zero pointer a
byte_high from pointer a top low over =
    let n : ℕ = pointer - from in
    let behind : a - from - n ≡ a - pointer = omega (arith, low, over) in
    let long : n ≤ a - from = omega (arith, low, over) in
    given (replicate n 0 ++ top) (a - from) ∙ get_or-append_right (replicate n 0) top n (a - from) 0 (length-replicate {A = ℕ} n 0) long
    ∙ ap (λ k. get_or top k 0) behind ∙ sym (given top (a - pointer))

-- where an address lies
data Lies (from len pointer a : ℕ) : Type 0 where
  Outside : within pointer (len - (pointer - from)) a ≡ false → within from (pointer - from) a ≡ false → within from len a ≡ false → Lies from len pointer a
  Low : from ≤ a → a < pointer → within pointer (len - (pointer - from)) a ≡ false → within from (pointer - from) a ≡ true → within from len a ≡ true → Lies from len pointer a
  High : pointer ≤ a → within pointer (len - (pointer - from)) a ≡ true → within from len a ≡ true → Lies from len pointer a

lies : (from len pointer a : ℕ) → from ≤ pointer → pointer ≤ from + len → Lies from len pointer a
lies from len pointer a low high = elim (cases_lt a from) [
  | inl below ↦ Outside (grind (arith, nat_tests)) (grind (arith, nat_tests)) (grind (arith, nat_tests))
  | inr above ↦ elim (cases_lt a pointer) [
    | inl under ↦ Low above under (grind (arith, nat_tests)) (grind (arith, nat_tests)) (grind (arith, nat_tests))
    | inr over ↦ elim (cases_lt a (from + len)) [
      | inl inside ↦ High over (grind (arith, nat_tests)) (grind (arith, nat_tests))
      | inr behind ↦ Outside (grind (arith, nat_tests)) (grind (arith, nat_tests)) (grind (arith, nat_tests))
    ]
  ]
]

-- what each part gives
neither : {A : Type 0} (one two whole : Bool) (x y z w : A) → one ≡ false → two ≡ false → whole ≡ false → cond one x (cond two y w) ≡ cond whole z w
neither one two whole x y z w e f g = ap (λ b. cond b x (cond two y w)) e ∙ ap (λ b. cond b y w) f ∙ sym (ap (λ b. cond b z w) g)

second : {A : Type 0} (one two whole : Bool) (x y z w : A) → one ≡ false → two ≡ true → whole ≡ true → y ≡ z → cond one x (cond two y w) ≡ cond whole z w
second one two whole x y z w e f g same = ap (λ b. cond b x (cond two y w)) e ∙ ap (λ b. cond b y w) f ∙ same ∙ sym (ap (λ b. cond b z w) g)

first : {A : Type 0} (one two whole : Bool) (x y z w : A) → one ≡ true → whole ≡ true → x ≡ z → cond one x (cond two y w) ≡ cond whole z w
first one two whole x y z w e g same = ap (λ b. cond b x (cond two y w)) e ∙ same ∙ sym (ap (λ b. cond b z w) g)

byte_halves : (from len pointer : ℕ) (top : List ℕ) (w : Option ℕ) (a : ℕ) → from ≤ pointer → Lies from len pointer a
    → cond (within pointer (len - (pointer - from)) a) (Some (new_byte top Zero pointer a)) (cond (within from (pointer - from) a) (Some (new_byte [] Zero from a)) w)
    ≡ cond (within from len a) (Some (new_byte (replicate (pointer - from) 0 ++ top) Zero from a)) w
byte_halves from len pointer top w a low (Outside e f g) =
    neither (within pointer (len - (pointer - from)) a) (within from (pointer - from) a) (within from len a) (Some (new_byte top Zero pointer a)) (Some (new_byte [] Zero from a)) (Some (new_byte (replicate (pointer - from) 0 ++ top) Zero from a)) w e f g
byte_halves from len pointer top w a low (Low above under e f g) =
    second (within pointer (len - (pointer - from)) a) (within from (pointer - from) a) (within from len a) (Some (new_byte top Zero pointer a)) (Some (new_byte [] Zero from a)) (Some (new_byte (replicate (pointer - from) 0 ++ top) Zero from a)) w e f g
    (ap (λ (b : ℕ). Some b) (nothing (a - from) ∙ sym (byte_low from pointer a top above under)))
  where
    none : List ℕ
    none = []

    nothing : (k : ℕ) → ◌≡◌ {A = ℕ} (cond (nat_lt k (length none)) (get_or none k 0) 0) 0
    nothing k = given none k ∙ get_or_past none k 0 (omega arith)
byte_halves from len pointer top w a low (High over e g) =
    first (within pointer (len - (pointer - from)) a) (within from (pointer - from) a) (within from len a) (Some (new_byte top Zero pointer a)) (Some (new_byte [] Zero from a)) (Some (new_byte (replicate (pointer - from) 0 ++ top) Zero from a)) w e g
    (ap (λ (b : ℕ). Some b) (sym (byte_high from pointer a top low over)))

flag_halves : (from len pointer : ℕ) (flag w : Bool) (a : ℕ) → Lies from len pointer a → cond (within pointer (len - (pointer - from)) a) flag (cond (within from (pointer - from) a) flag w) ≡ cond (within from len a) flag w
flag_halves from len pointer flag w a (Outside e f g) = neither (within pointer (len - (pointer - from)) a) (within from (pointer - from) a) (within from len a) flag flag flag w e f g
flag_halves from len pointer flag w a (Low above under e f g) = second (within pointer (len - (pointer - from)) a) (within from (pointer - from) a) (within from len a) flag flag flag w e f g refl
flag_halves from len pointer flag w a (High over e g) = first (within pointer (len - (pointer - from)) a) (within from (pointer - from) a) (within from len a) flag flag flag w e g refl

-- the memory with the lower part
abbrev pub with_low : Memory → (from pointer : ℕ) → Memory
with_low m from pointer = with_range m from (pointer - from) (new_byte [] Zero from) true false

-- and with both
pub halves : (m : Memory) (from len pointer : ℕ) (top : List ℕ) → from ≤ pointer → pointer ≤ from + len
    → with_range (with_low m from pointer) pointer (len - (pointer - from)) (new_byte top Zero pointer) true false ≡ with_stack m from len pointer top
halves m from len pointer top low high =
    let both : Memory = with_range (with_low m from pointer) pointer (len - (pointer - from)) (new_byte top Zero pointer) true false in
    let one : Memory = with_stack m from len pointer top in
    let b : both.bytes ≡ one.bytes = fun_ext (λ a. byte_halves from len pointer top (m.bytes a) a low (lies from len pointer a low high)) in
    let w : both.writable ≡ one.writable = fun_ext (λ a. flag_halves from len pointer true (m.writable a) a (lies from len pointer a low high)) in
    let r : both.runs ≡ one.runs = fun_ext (λ a. flag_halves from len pointer false (m.runs a) a (lies from len pointer a low high)) in
    let P : (ℕ → Option ℕ) → (ℕ → Bool) → (ℕ → Bool) → Memory = λ bytes writable runs. record { bytes = bytes; writable = writable; runs = runs } in
    ap (λ x. P x both.writable both.runs) b ∙ ap (λ x. P one.bytes x both.runs) w ∙ ap (λ x. P one.bytes one.writable x) r

-- ---- what isn't mapped

-- a part of what isn't mapped
pub part_unmapped : (m : Memory) (from len pointer : ℕ) → from ≤ pointer → pointer ≤ from + len → is_unmapped m from len ≡ true → is_unmapped m from (pointer - from) ≡ true
part_unmapped m from len pointer low high free = from_each (λ a. is_none (m.bytes a)) from (pointer - from) (λ a lo hi. at_each (λ x. is_none (m.bytes x)) from len a free lo (omega arith))

out : (from pointer a : ℕ) → from ≤ pointer → pointer ≤ a → within from (pointer - from) a ≡ false
out from pointer a low over = grind (arith, nat_tests)

-- and the rest, when the lower part is mapped
pub rest_unmapped : (m : Memory) (from len pointer : ℕ) → from ≤ pointer → pointer ≤ from + len → is_unmapped m from len ≡ true → is_unmapped (with_low m from pointer) pointer (len - (pointer - from)) ≡ true
rest_unmapped m from len pointer low high free = from_each (λ a. is_none ((with_low m from pointer).bytes a)) pointer (len - (pointer - from)) (λ a lo hi.
    ap (λ b. is_none (cond b (Some (new_byte [] Zero from a)) (m.bytes a))) (out from pointer a low lo) ∙ at_each (λ x. is_none (m.bytes x)) from len a free (omega arith) (omega arith))
