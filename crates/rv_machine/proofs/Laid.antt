-- A segment put into a memory of segments that lie below it.
use Rattle.std.proofs.Common.{◌≡◌, ℕ, zero, suc, ◌+◌, ◌-◌, ◌<◌, ◌≤◌, Bool, true, false, cond, ◌&&◌, nat_lt, nat_le, List, [], ◌∷◌, ◌++◌, length, get_or, take, Option, None, Some, is_none, refl, sym, ◌∙◌, ap, subst, arith}
use Rattle.std.proofs.lemmas.Bool.Decides.{nat_tests}
use Rattle.std.proofs.lemmas.List.{get_or_past, get_or-take, get_or_default, length-take-le, take_more}
use Rattle.std.specs.List.{All, AllPairs}
use Rattle.infinite_heap.specs.Lawful.{IsPlaced}
use Rattle.infinite_heap.specs.Start.{stack_with}
use mathlib.Core.Path.{fun_ext}
use Rattle.infinite_heap.specs.declared.program.Segment.{Segment}
use Rattle.infinite_heap.specs.Mapped.{holds, byte_at, writable_at, runs_at}
use Rattle.rv_memory.specs.Access.{new_byte}
use Rattle.rv_memory.specs.Memory.{Memory, within, all_in_span, is_unmapped}
use Rattle.rv_memory.specs.declared.access.Rest.TheVariants.{Zero}
use Rattle.rv_machine.specs.Core.{memory_in}
use Rattle.rv_machine.specs.Laid.{with_segment, AllBelow}

past : (bytes : List ℕ) (k : ℕ) → cond (nat_lt k (length bytes)) (get_or bytes k 0) 0 ≡ get_or bytes k 0
past bytes k = elim (nat_lt k (length bytes)) as (λ b. nat_lt k (length bytes) ≡ b → cond b (get_or bytes k 0) 0 ≡ get_or bytes k 0) [
  | true ↦ λ is. refl
  | false ↦ λ is. sym (get_or_past bytes k 0 (grind (arith, nat_tests)))
] refl

-- both tests can't hold
apart : (low len from more a : ℕ) → low + len ≤ from → (nat_le low a && nat_lt a (low + len)) ≡ true → (nat_le from a && nat_lt a (from + more)) ≡ true → true ≡ false
apart low len from more a le one two = grind (arith, nat_tests)

-- the first that holds an address, with one more behind all others
two : {A : Type 0} (one other : Bool) (x y z : A) → (one ≡ true → other ≡ true → true ≡ false) → cond one x (cond other y z) ≡ cond other y (cond one x z)
two true other x y z never = elim other as (λ b. (true ≡ true → b ≡ true → true ≡ false) → x ≡ cond b y x) [
  | true ↦ λ h. let bad : true ≡ false = h refl refl in absurd (cc)
  | false ↦ λ h. refl
] never
two false other x y z never = refl

below-rest : (t : Segment) (segments : List Segment) (s : Segment) → AllBelow (t ∷ segments) s → AllBelow segments s
below-rest t segments s below k d lt = below (suc k) d (omega arith)

below-first : (t : Segment) (segments : List Segment) (s : Segment) → AllBelow (t ∷ segments) s → t.from + t.len ≤ s.from
below-first t segments s below = below 0 t (omega arith)

byte-grown : (segments : List Segment) (s : Segment) (a : ℕ) → AllBelow segments s → cond (within s.from s.len a) (Some (new_byte s.bytes Zero s.from a)) (byte_at segments a) ≡ byte_at (segments ++ s ∷ []) a
byte-grown [] s a below = ap (λ b. cond (holds s a) (Some b) None) (past s.bytes (a - s.from))
byte-grown (t ∷ segments) s a below =
    sym (two (holds t a) (within s.from s.len a) (Some (get_or t.bytes (a - t.from) 0)) (Some (new_byte s.bytes Zero s.from a)) (byte_at segments a) (λ one other. apart t.from t.len s.from s.len a (below-first t segments s below) one other))
    ∙ ap (λ r. cond (holds t a) (Some (get_or t.bytes (a - t.from) 0)) r) (byte-grown segments s a (below-rest t segments s below))

writable-grown : (segments : List Segment) (s : Segment) (a : ℕ) → AllBelow segments s → cond (within s.from s.len a) s.writable (writable_at segments a) ≡ writable_at (segments ++ s ∷ []) a
writable-grown [] s a below = refl
writable-grown (t ∷ segments) s a below =
    sym (two (holds t a) (within s.from s.len a) t.writable s.writable (writable_at segments a) (λ one other. apart t.from t.len s.from s.len a (below-first t segments s below) one other))
    ∙ ap (λ r. cond (holds t a) t.writable r) (writable-grown segments s a (below-rest t segments s below))

runs-grown : (segments : List Segment) (s : Segment) (a : ℕ) → AllBelow segments s → cond (within s.from s.len a) s.runs (runs_at segments a) ≡ runs_at (segments ++ s ∷ []) a
runs-grown [] s a below = refl
runs-grown (t ∷ segments) s a below =
    sym (two (holds t a) (within s.from s.len a) t.runs s.runs (runs_at segments a) (λ one other. apart t.from t.len s.from s.len a (below-first t segments s below) one other))
    ∙ ap (λ r. cond (holds t a) t.runs r) (runs-grown segments s a (below-rest t segments s below))

-- one more segment above all others
pub grown : (segments : List Segment) (s : Segment) → AllBelow segments s → with_segment (memory_in segments) s ≡ memory_in (segments ++ s ∷ [])
grown segments s below =
    let b = fun_ext (λ a. byte-grown segments s a below) in
    let w = fun_ext (λ a. writable-grown segments s a below) in
    let r = fun_ext (λ a. runs-grown segments s a below) in
    let P : (ℕ → Option ℕ) → (ℕ → Bool) → (ℕ → Bool) → Memory = λ bytes writable runs. record { bytes = bytes; writable = writable; runs = runs } in
    ap (λ x. P x (with_segment (memory_in segments) s).writable (with_segment (memory_in segments) s).runs) b
    ∙ ap (λ x. P (byte_at (segments ++ s ∷ [])) x (with_segment (memory_in segments) s).runs) w
    ∙ ap (λ x. P (byte_at (segments ++ s ∷ [])) (writable_at (segments ++ s ∷ [])) x) r

none-at : (segments : List Segment) (s : Segment) (a : ℕ) → AllBelow segments s → s.from ≤ a → byte_at segments a ≡ None
none-at [] s a below le = refl
none-at (t ∷ segments) s a below le =
    let first = below-first t segments s below in
    let not : (nat_le t.from a && nat_lt a (t.from + t.len)) ≡ false = grind (arith, nat_tests) in
    ap (λ b. cond b (Some (get_or t.bytes (a - t.from) 0)) (byte_at segments a)) not ∙ none-at segments s a (below-rest t segments s below) le

all-none : (segments : List Segment) (s : Segment) (a n : ℕ) → AllBelow segments s → s.from ≤ a → all_in_span (λ x. is_none (byte_at segments x)) a n ≡ true
all-none segments s a zero below le = refl
all-none segments s a (suc n) below le = rw (none-at segments s a below le) (all-none segments s (a + 1) n below (omega arith))

-- it lies where nothing is mapped
pub free : (segments : List Segment) (s : Segment) → AllBelow segments s → is_unmapped (memory_in segments) s.from s.len ≡ true
free segments s below = all-none segments s s.from s.len below (omega arith)

-- segments in order lie below a later one
pub below-at : (segments : List Segment) (i : ℕ) (s : Segment) → AllPairs (λ a b. a.from + a.len ≤ b.from) segments → i < length segments → s ≡ get_or segments i s → AllBelow (take i segments) s
below-at segments i s apart lt is k d kt =
    let first : length (take i segments) ≡ i = length-take-le i segments (omega (arith, lt)) in
    let less : k < i = omega (arith, first, kt) in
    let here : get_or (take i segments) k d ≡ get_or segments k d = get_or-take i segments k d less in
    let there : get_or segments i d ≡ s = get_or_default segments i d s lt ∙ sym is in
    let le = apart k i d less lt in
    subst (λ (t : Segment). (get_or (take i segments) k d).from + (get_or (take i segments) k d).len ≤ t.from) there
    (subst (λ (t : Segment). t.from + t.len ≤ (get_or segments i d).from) (sym here) le)

-- each of the segments so far, and one more
pub one-more : (segments : List Segment) (i : ℕ) (s : Segment) → i < length segments → s ≡ get_or segments i s → take i segments ++ s ∷ [] ≡ take (i + 1) segments
one-more segments i s lt is = sym (take_more segments i s lt ∙ ap (λ x. take i segments ++ x ∷ []) (sym is))

-- a program's segments lie below the stack
pub below-stack : (segments : List Segment) (bytes : List ℕ) → All IsPlaced segments → AllBelow segments (stack_with bytes)
below-stack segments bytes placed k d lt = let p = placed k d lt in omega (arith, p.high)
