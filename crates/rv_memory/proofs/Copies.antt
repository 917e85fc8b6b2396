-- Spans that are copied, all at once or piece by piece.
use Rattle.std.proofs.Common.{◌≡◌, ℕ, zero, suc, ◌+◌, ◌-◌, ◌<◌, ◌≤◌, Bool, true, false, List, [], ◌∷◌, length, get_or, unwrap_or, Option, None, Some, is_some, refl, sym, ap, ◌∙◌, arith, ◌⊎◌, inl, inr, ⊎_elim}
use Rattle.std.proofs.lemmas.Bool.Decides.{nat_tests}
use Rattle.rv_memory.specs.Memory.{Memory, within, span, with_first, is_mapped, filled, with_copy}
use Rattle.rv_memory.specs.Laws.{same_memory, is_some-span, at_each, from_each}
use Rattle.rv_memory.proofs.Memories.{inside-filled, before-filled, behind-filled, mapped-filled, mapped-part}

abbrev byte_at : Memory → ℕ → ℕ
byte_at memory address = unwrap_or (memory.bytes address) 0

abbrev moved : Memory → (from to : ℕ) → ℕ → ℕ
moved memory from to address = byte_at memory (from + (address - to))

-- what a span that is there says of each byte
abbrev Each : (ℕ → Option ℕ) → (from len : ℕ) → List ℕ → Type 0
Each bytes from len list = (length list ≡ len) × ((k : ℕ) → k < len → get_or list k 0 ≡ unwrap_or (bytes (from + k)) 0)

at-cons : (bytes : ℕ → Option ℕ) (from len k head : ℕ) (tail : List ℕ) → bytes from ≡ Some head → ((j : ℕ) → j < len → get_or tail j 0 ≡ unwrap_or (bytes (from + 1 + j)) 0) → k < suc len → get_or (head ∷ tail) k 0 ≡ unwrap_or (bytes (from + k)) 0
at-cons bytes from len zero head tail is later low =
    let spot : from + 0 ≡ from = omega arith in
    sym (ap (λ a. unwrap_or (bytes a) 0) spot ∙ ap (λ b. unwrap_or b 0) is)
at-cons bytes from len (suc k) head tail is later low =
    let spot : from + 1 + k ≡ from + suc k = omega arith in
    later k (omega arith) ∙ ap (λ a. unwrap_or (bytes a) 0) spot

each-cons : (bytes : ℕ → Option ℕ) (from len : ℕ) (list : List ℕ) (first : Option ℕ) (others : Option (List ℕ)) → bytes from ≡ first → with_first first others ≡ Some list → ((rest : List ℕ) → others ≡ Some rest → Each bytes (from + 1) len rest) → Each bytes from (suc len) list
each-cons bytes from len list None others is found later = absurd (cc)
each-cons bytes from len list (Some byte) None is found later = absurd (cc)
each-cons bytes from len [] (Some byte) (Some rest) is found later = absurd (cc)
each-cons bytes from len (head ∷ tail) (Some byte) (Some rest) is found later =
    let here : byte ≡ head = cc in
    let same : rest ≡ tail = cc in
    let all = later tail (ap Some same) in
    (omega (arith, all.0), λ k low. at-cons bytes from len k head tail (is ∙ ap Some here) all.1 low)

pub span-each : (bytes : ℕ → Option ℕ) (from len : ℕ) (list : List ℕ) → span bytes from len ≡ Some list → Each bytes from len list
span-each bytes from zero list found = let e : [] ≡ list = cc in (ap length (sym e), λ k low. absurd (omega arith))
span-each bytes from (suc len) list found = each-cons bytes from len list (bytes from) (span bytes (from + 1) len) refl found (λ rest is. span-each bytes (from + 1) len rest is)

some-of : (found : Option (List ℕ)) → is_some found ≡ true → found ≡ Some (unwrap_or found [])
some-of None is = absurd (cc)
some-of (Some list) is = refl

pub span-there : (memory : Memory) (from len : ℕ) → is_mapped memory from len ≡ true → span memory.bytes from len ≡ Some (unwrap_or (span memory.bytes from len) [])
span-there memory from len mapped = some-of (span memory.bytes from len) (is_some-span memory.bytes from len ∙ mapped)

put-copy : (memory : Memory) (from to len n a : ℕ) (list : List ℕ) (b : Bool) → within to len a ≡ b → n ≡ len → ((k : ℕ) → k < len → get_or list k 0 ≡ byte_at memory (from + k)) → (filled memory to n (λ x. get_or list (x - to) 0)).bytes a ≡ (filled memory to len (moved memory from to)).bytes a
put-copy memory from to len n a list true inside same each =
    let low : to ≤ a = grind (arith, nat_tests) in
    let high : a < to + len = grind (arith, nat_tests) in
    inside-filled memory to n a (λ x. get_or list (x - to) 0) low (omega arith) ∙ ap Some (each (a - to) (omega arith)) ∙ sym (inside-filled memory to len a (moved memory from to) low high)
put-copy memory from to len n a list false out same each =
    let there : within to n a ≡ false = ap (λ k. within to k a) same ∙ out in
    rw (there, out) refl

-- a copy fills its span with the bytes of the other one
pub copy-filled : (memory : Memory) (from to len : ℕ) → is_mapped memory from len ≡ true → with_copy memory from to len ≡ filled memory to len (moved memory from to)
copy-filled memory from to len mapped =
    let each = span-each memory.bytes from len (unwrap_or (span memory.bytes from len) []) (span-there memory from len mapped) in
    same_memory (with_copy memory from to len) (filled memory to len (moved memory from to)) (λ a. put-copy memory from to len (length (unwrap_or (span memory.bytes from len) [])) a (unwrap_or (span memory.bytes from len) []) (within to len a) refl each.0 each.1) (λ a. refl) (λ a. refl)

outside : (memory : Memory) (from to done count x : ℕ) (byte : ℕ → ℕ) → (from + done + count ≤ to) ⊎ (to + done + count ≤ from) → from ≤ x → x < from + done + count → (filled memory to done byte).bytes x ≡ memory.bytes x
outside memory from to done count x byte apart low high =
    ⊎_elim (λ (before : from + done + count ≤ to). before-filled memory to done x byte (omega arith)) (λ (behind : to + done + count ≤ from). behind-filled memory to done x byte (omega arith)) apart

joined : (memory : Memory) (from to done count a : ℕ) (b e : Bool) → within (to + done) count a ≡ b → within to done a ≡ e → (from + done + count ≤ to) ⊎ (to + done + count ≤ from)
    → (filled (filled memory to done (moved memory from to)) (to + done) count (moved (filled memory to done (moved memory from to)) (from + done) (to + done))).bytes a ≡ (filled memory to (done + count) (moved memory from to)).bytes a
joined memory from to done count a true e inside here apart =
    let low : to + done ≤ a = grind (arith, nat_tests) in
    let high : a < to + done + count = grind (arith, nat_tests) in
    let spot : from + done + (a - (to + done)) ≡ from + (a - to) = omega arith in
    inside-filled (filled memory to done (moved memory from to)) (to + done) count a (moved (filled memory to done (moved memory from to)) (from + done) (to + done)) low high
    ∙ ap (λ o. Some (unwrap_or o 0)) (outside memory from to done count (from + done + (a - (to + done))) (moved memory from to) apart (omega arith) (omega arith) ∙ ap memory.bytes spot)
    ∙ sym (inside-filled memory to (done + count) a (moved memory from to) (omega arith) (omega arith))
joined memory from to done count a false true out here apart =
    let low : to ≤ a = grind (arith, nat_tests) in
    let high : a < to + done = grind (arith, nat_tests) in
    before-filled (filled memory to done (moved memory from to)) (to + done) count a (moved (filled memory to done (moved memory from to)) (from + done) (to + done)) high
    ∙ inside-filled memory to done a (moved memory from to) low high ∙ sym (inside-filled memory to (done + count) a (moved memory from to) low (omega arith))
joined memory from to done count a false false out before apart =
    let none : within to (done + count) a ≡ false = grind (arith, nat_tests) in
    rw (out, before, none) refl

-- what was mapped still is
pub mapped-copied : (memory : Memory) (from to done len start count : ℕ) → done ≤ len → is_mapped memory from len ≡ true → is_mapped memory start count ≡ true → is_mapped (with_copy memory from to done) start count ≡ true
mapped-copied memory from to done len start count fits source mapped = mapped-filled memory to (length (unwrap_or (span memory.bytes from done) [])) start count (λ a. get_or (unwrap_or (span memory.bytes from done) []) (a - to) 0) mapped

apart-part : (from to part len : ℕ) → part ≤ len → (from + len ≤ to) ⊎ (to + len ≤ from) → (from + part ≤ to) ⊎ (to + part ≤ from)
apart-part from to part len fits apart = ⊎_elim (λ (before : from + len ≤ to). inl (omega arith)) (λ (behind : to + len ≤ from). inr (omega arith)) apart

join : (memory : Memory) (from to done count : ℕ) → (from + done + count ≤ to) ⊎ (to + done + count ≤ from) → is_mapped memory from done ≡ true → is_mapped memory from (done + count) ≡ true → with_copy (with_copy memory from to done) (from + done) (to + done) count ≡ with_copy memory from to (done + count)
join memory from to done count apart first all =
    ap (λ (m : Memory). with_copy m (from + done) (to + done) count) (copy-filled memory from to done first)
    ∙ copy-filled (filled memory to done (moved memory from to)) (from + done) (to + done) count (mapped-filled memory to done (from + done) count (moved memory from to) (mapped-part memory from done count (done + count) (omega arith) all))
    ∙ same_memory (filled (filled memory to done (moved memory from to)) (to + done) count (moved (filled memory to done (moved memory from to)) (from + done) (to + done))) (filled memory to (done + count) (moved memory from to))
    (λ a. joined memory from to done count a (within (to + done) count a) (within to done a) refl refl apart) (λ a. refl) (λ a. refl)
    ∙ sym (copy-filled memory from to (done + count) all)

first-part : (memory : Memory) (from part len : ℕ) → part ≤ len → is_mapped memory from len ≡ true → is_mapped memory from part ≡ true
first-part memory from part len fits mapped = from_each (λ a. is_some (memory.bytes a)) from part (λ a low high. at_each (λ a. is_some (memory.bytes a)) from len a mapped low (omega arith))

sum-apart : (from to done count : ℕ) → (from + (done + count) ≤ to) ⊎ (to + (done + count) ≤ from) → (from + done + count ≤ to) ⊎ (to + done + count ≤ from)
sum-apart from to done count apart = ⊎_elim (λ (before : from + (done + count) ≤ to). inl (omega arith)) (λ (behind : to + (done + count) ≤ from). inr (omega arith)) apart

-- a copy in two parts is one copy
pub copy-joined : (memory : Memory) (from to done count len : ℕ) → done + count ≤ len → (from + len ≤ to) ⊎ (to + len ≤ from) → is_mapped memory from len ≡ true → with_copy (with_copy memory from to done) (from + done) (to + done) count ≡ with_copy memory from to (done + count)
copy-joined memory from to done count len fits apart mapped =
    join memory from to done count (sum-apart from to done count (apart-part from to (done + count) len fits apart)) (first-part memory from done len (omega arith) mapped) (first-part memory from (done + count) len fits mapped)
