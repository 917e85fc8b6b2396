-- What a change of ranges changes in the memory that they make.
use Rattle.std.proofs.Common.{◌≡◌, ℕ, ◌-◌, ◌<◌, ◌&&◌, Bool, true, false, cond, nat_lt, nat_le, List, length, get_or, set, Option, None, Some, is_some, refl, sym, ap, ◌∙◌, subst, arith, ◌⊎◌, ⊎_elim}
use Rattle.std.proofs.lemmas.Bool.Decides.{nat_tests}
use Rattle.std.proofs.lemmas.List.{length-set, get_or-set_same, get_or-set_other, get_or_default}
use Rattle.rv_memory.specs.declared.range.Range.{Range}
use Rattle.rv_memory.specs.declared.range.Purpose.{Purpose}
use Rattle.rv_memory.specs.declared.range.Purpose.TheVariants.{Reading, Writing, Running}
use Rattle.rv_memory.specs.Memory.{within, filled}
use Rattle.rv_memory.specs.Ranges.{holds, range_at, byte_at, byte_in, grants, granted, memory_in, IsApart, Overwrites}
use Rattle.rv_memory.specs.Laws.{same_memory}
use Rattle.rv_memory.proofs.Apart.{range_at-hit, range_at-set}

is_some-byte_in : (found : Option Range) (address : ℕ) → is_some (byte_in found address) ≡ grants Reading found
is_some-byte_in None address = refl
is_some-byte_in (Some range) address = refl

-- what a memory grants is what the range that is found grants
pub granted-in : (purpose : Purpose) (ranges : List Range) (address : ℕ) → granted purpose (memory_in ranges) address ≡ grants purpose (range_at ranges address)
granted-in Reading ranges address = is_some-byte_in (range_at ranges address) address
granted-in Writing ranges address = refl
granted-in Running ranges address = refl

some-cond : (b : Bool) (x y : ℕ) → Some (cond b x y) ≡ cond b (Some x) (Some y)
some-cond true x y = refl
some-cond false x y = refl

byte-set : (ranges changed : List Range) (old new : Range) (from len address : ℕ) (byte : ℕ → ℕ) (b : Bool) → holds old address ≡ b → Overwrites old new from len byte → (b ≡ true → range_at ranges address ≡ Some old) → range_at changed address ≡ cond b (Some new) (range_at ranges address) → byte_in (range_at changed address) address ≡ cond (within from len address) (Some (byte address)) (byte_in (range_at ranges address) address)
byte-set ranges changed old new from len address byte true held over hit found =
    let there : range_at ranges address ≡ Some old = hit refl in
    rw (found, there) (ap Some (over.bytes address held) ∙ some-cond (within from len address) (byte address) (byte_at old address))
byte-set ranges changed old new from len address byte false held over hit found =
    let begins = over.begins in
    let ends = over.ends in
    let out : within from len address ≡ false = grind (arith, nat_tests) in
    rw (found, out) refl

grant-set : (ranges changed : List Range) (old new : Range) (address : ℕ) (purpose : Purpose) (b : Bool) → grants purpose (Some new) ≡ grants purpose (Some old) → (b ≡ true → range_at ranges address ≡ Some old) → range_at changed address ≡ cond b (Some new) (range_at ranges address) → grants purpose (range_at changed address) ≡ grants purpose (range_at ranges address)
grant-set ranges changed old new address purpose true same hit found = let there = hit refl in rw (found, there) same
grant-set ranges changed old new address purpose false same hit found = rw found refl

holds-over : (old new : Range) (from len address : ℕ) (byte : ℕ → ℕ) → Overwrites old new from len byte → holds new address ≡ holds old address
holds-over old new from len address byte over = ap (λ f. nat_le f address && nat_lt (address - f) new.len) over.from_same ∙ ap (λ n. nat_le old.from address && nat_lt (address - old.from) n) over.len_same

-- a range that was written over fills its span of the memory
pub memory-set : (ranges : List Range) (i : ℕ) (d new : Range) (from len : ℕ) (byte : ℕ → ℕ) → IsApart ranges → i < length ranges → Overwrites (get_or ranges i d) new from len byte → memory_in (set ranges i new) ≡ filled (memory_in ranges) from len byte
memory-set ranges i d new from len byte apart low over =
    let hit : (a : ℕ) → holds (get_or ranges i d) a ≡ true → range_at ranges a ≡ Some (get_or ranges i d) = λ a held. range_at-hit ranges i a d apart low held in
    let found : (a : ℕ) → range_at (set ranges i new) a ≡ cond (holds (get_or ranges i d) a) (Some new) (range_at ranges a) = λ a. range_at-set ranges i a d new apart low (holds-over (get_or ranges i d) new from len a byte over) in
    same_memory (memory_in (set ranges i new)) (filled (memory_in ranges) from len byte)
    (λ a. byte-set ranges (set ranges i new) (get_or ranges i d) new from len a byte (holds (get_or ranges i d) a) refl over (hit a) (found a))
    (λ a. grant-set ranges (set ranges i new) (get_or ranges i d) new a Writing (holds (get_or ranges i d) a) over.writable_same (hit a) (found a))
    (λ a. grant-set ranges (set ranges i new) (get_or ranges i d) new a Running (holds (get_or ranges i d) a) over.runs_same (hit a) (found a))

same_or_not : (i j : ℕ) → (i ≡ j) ⊎ ((i ≡ j) → ⊥)
same_or_not i j = grind arith

holds-set : (ranges : List Range) (i j : ℕ) (d new : Range) (from len address : ℕ) (byte : ℕ → ℕ) → i < length ranges → Overwrites (get_or ranges i d) new from len byte → holds (get_or (set ranges i new) j d) address ≡ holds (get_or ranges j d) address
holds-set ranges i j d new from len address byte low over =
    ⊎_elim (λ (same : i ≡ j). let here : get_or (set ranges i new) j d ≡ new = subst (λ k. get_or (set ranges i new) k d ≡ new) same (get_or-set_same ranges i new d low) in
    rw here (holds-over (get_or ranges i d) new from len address byte over ∙ ap (λ k. holds (get_or ranges k d) address) same))
    (λ (apart : (i ≡ j) → ⊥). ap (λ (r : Range). holds r address) (get_or-set_other ranges i j new d (λ e. apart (sym e)))) (same_or_not i j)

-- and lies apart from the others as before
pub apart-set : (ranges : List Range) (i : ℕ) (d new : Range) (from len : ℕ) (byte : ℕ → ℕ) → IsApart ranges → i < length ranges → Overwrites (get_or ranges i d) new from len byte → IsApart (set ranges i new)
apart-set ranges i d new from len byte apart low over j k address e j-low k-low j-holds k-holds =
    let size = length-set ranges i new in
    let j-in : j < length ranges = omega (arith, size) in
    let k-in : k < length ranges = omega (arith, size) in
    let j-held : holds (get_or ranges j d) address ≡ true = sym (holds-set ranges i j d new from len address byte low over) ∙ ap (λ (r : Range). holds r address) (get_or_default (set ranges i new) j d e j-low) ∙ j-holds in
    let k-held : holds (get_or ranges k d) address ≡ true = sym (holds-set ranges i k d new from len address byte low over) ∙ ap (λ (r : Range). holds r address) (get_or_default (set ranges i new) k d e k-low) ∙ k-holds in
    apart j k address d j-in k-in j-held k-held
