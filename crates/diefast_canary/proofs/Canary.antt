-- The canary place by place.
use Rattle.std.proofs.Common.{◌≡◌, ◌≢◌, ℕ, zero, suc, ◌+◌, ◌<◌, true, false, List, length, get_or, refl, ap, sym, ◌∙◌, arith, eq-eqb, ne_eqb}
use Rattle.std.proofs.lemmas.List.{ext_get_or}
use Rattle.diefast_canary.specs.Canary.{canary_byte, canary_bytes, is_broken_at}

pub length-canary_bytes : (word address count : ℕ) → length (canary_bytes word address count) ≡ count
length-canary_bytes word address zero = refl
length-canary_bytes word address (suc count) = ap suc (length-canary_bytes word (address + 1) count)

pub get_or-canary_bytes : (word address count k : ℕ) → k < count → get_or (canary_bytes word address count) k 0 ≡ canary_byte word (address + k)
get_or-canary_bytes word address zero k h = absurd (omega arith)
get_or-canary_bytes word address (suc count) zero h = let e : address ≡ address + 0 = omega arith in ap (canary_byte word) e
get_or-canary_bytes word address (suc count) (suc k) h =
    let e : address + 1 + k ≡ address + suc k = omega arith in
    get_or-canary_bytes word (address + 1) count k (omega arith) ∙ ap (canary_byte word) e

-- bytes that are the canary's at each place are the canary
pub canary_bytes_by_place : (word address : ℕ) (bytes : List ℕ) → ((k : ℕ) → k < length bytes → get_or bytes k 0 ≡ canary_byte word (address + k)) → bytes ≡ canary_bytes word address (length bytes)
canary_bytes_by_place word address bytes each =
    ext_get_or 0 bytes (canary_bytes word address (length bytes)) (sym (length-canary_bytes word address (length bytes)))
    (λ k h. each k h ∙ sym (get_or-canary_bytes word address (length bytes) k h))

pub is_broken_at-whole : (word address : ℕ) (bytes : List ℕ) (place : ℕ) → get_or bytes place 0 ≡ canary_byte word (address + place) → is_broken_at word address bytes place ≡ false
is_broken_at-whole word address bytes place e = rw (eq-eqb _ _ e) refl

pub is_broken_at-broken : (word address : ℕ) (bytes : List ℕ) (place : ℕ) → get_or bytes place 0 ≢ canary_byte word (address + place) → is_broken_at word address bytes place ≡ true
is_broken_at-broken word address bytes place e = rw (ne_eqb _ _ e) refl
