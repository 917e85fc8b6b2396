-- Loads and fetches from a range that was found.
use Rattle.std.proofs.Common.{◌≡◌, ℕ, zero, suc, replicate, ◌+◌, ◌-◌, ◌<◌, ◌≤◌, true, length, get_or, take, drop, Option, Some, Ok, refl, sym, ap, ◌∙◌, subst, arith}
use Rattle.std.proofs.lemmas.List.{get_or-replicate, length-replicate}
use Rattle.rv_memory.specs.declared.range.Range.{Range}
use Rattle.rv_memory.specs.declared.range.Purpose.TheVariants.{Running}
use Rattle.rv_memory.specs.declared.space.Space.{Space}
use Rattle.rv_memory.specs.declared.access.Width.{Width}
use Rattle.rv_memory.specs.declared.access.Width.TheVariants.{One, Two, Four}
use Rattle.rv_memory.specs.Access.{bytes_in, number_of, read_as, loaded, fetched}
use Rattle.rv_memory.specs.Memory.{Memory, span, code_at}
use Rattle.rv_memory.specs.Ranges.{holds, end_of, byte_at}
use Rattle.rv_memory.specs.Spaces.{ranges_of, memory_of, IsFoundAt}
use Rattle.rv_memory.proofs.Apart.{range_at-hit}
use Rattle.rv_memory.proofs.Breaks.{part-length}
use Rattle.rv_memory.proofs.Bytes.{made-byte}
use Rattle.rv_memory.proofs.Found.{found-at}
use Rattle.rv_memory.proofs.Overwritten.{get_or-part}
use Rattle.rv_memory.proofs.Spans.{span-is}

pub some_bytes : (width : Width) → 0 < bytes_in width
some_bytes One = omega arith
some_bytes Two = omega arith
some_bytes Four = omega arith

-- a range that holds an address is found there
pub found-at-place : (space : Space) (i address : ℕ) (range : Range) → i < length space.ranges.items → range ≡ get_or space.ranges.items i range → holds range address ≡ true → IsFoundAt space address range
found-at-place space i address range low is held =
    let here : holds (get_or space.ranges.items i range) address ≡ true = subst (λ (r : Range). holds r address ≡ true) is held in
    found-at space address range (range_at-hit (ranges_of space) (suc i) address range space.apart (omega arith) here ∙ ap Some (sym is))

pub found-at-code : (space : Space) (address : ℕ) → holds space.code address ≡ true → IsFoundAt space address space.code
found-at-code space address held = found-at space address space.code (range_at-hit (ranges_of space) 0 address space.code space.apart (omega arith) held)

byte-part : (space : Space) (address at n k : ℕ) (range : Range) → IsFoundAt space address range → at ≡ address - range.from → at + n ≤ length range.bytes.items → k < n → (memory_of space).bytes (address + k) ≡ Some (get_or (take n (drop at range.bytes.items)) k 0)
byte-part space address at n k range found is ends low =
    let begins = found.begins in
    let spot : address + k - range.from ≡ at + k = omega arith in
    let fits = range.fits in
    found.bytes (address + k) (omega arith) (omega arith) ∙ ap Some (made-byte range (address + k) (at + k) spot (omega arith) ∙ sym (get_or-part at n k range.bytes.items low))

-- a span that lies in one range is a part of its bytes
pub span-found : (space : Space) (address at n : ℕ) (range : Range) → IsFoundAt space address range → at ≡ address - range.from → at + n ≤ length range.bytes.items → span (memory_of space).bytes address n ≡ Some (take n (drop at range.bytes.items))
span-found space address at n range found is ends =
    span-is (memory_of space).bytes address n (take n (drop at range.bytes.items)) (part-length at n n range.bytes.items refl ends) (λ k low. byte-part space address at n k range found is ends low)

code-byte : (memory : Memory) (address : ℕ) (byte : Option ℕ) → memory.runs address ≡ true → memory.bytes address ≡ byte → code_at memory address ≡ byte
code-byte memory address byte runs is = rw runs is

pub code-found : (space : Space) (address at n : ℕ) (range : Range) → IsFoundAt space address range → range.runs ≡ true → at ≡ address - range.from → at + n ≤ length range.bytes.items → span (code_at (memory_of space)) address n ≡ Some (take n (drop at range.bytes.items))
code-found space address at n range found runs is ends =
    let begins = found.begins in
    span-is (code_at (memory_of space)) address n (take n (drop at range.bytes.items)) (part-length at n n range.bytes.items refl ends)
    (λ k low. let fits = range.fits in code-byte (memory_of space) (address + k) _ (found.grants Running (address + k) (omega arith) (omega arith) ∙ runs) (byte-part space address at n k range found is ends low))

-- a load and a fetch that lie in one range
pub load-found : (space : Space) (address at : ℕ) (width : Width) (range : Range) (value : ℕ) → IsFoundAt space address range → at ≡ address - range.from → at + bytes_in width ≤ length range.bytes.items → value ≡ number_of (take (bytes_in width) (drop at range.bytes.items)) → Ok value ≡ loaded (memory_of space) address width
load-found space address at width range value found is ends same = ap Ok same ∙ sym (ap read_as (span-found space address at (bytes_in width) range found is ends))

pub fetch-found : (space : Space) (address at : ℕ) (range : Range) (value : ℕ) → IsFoundAt space address range → range.runs ≡ true → at ≡ address - range.from → at + 4 ≤ length range.bytes.items → value ≡ number_of (take 4 (drop at range.bytes.items)) → Ok value ≡ fetched (memory_of space) address
fetch-found space address at range value found runs is ends same = ap Ok same ∙ sym (ap read_as (code-found space address at 4 range found runs is ends))

number-of-zeros : (n : ℕ) → number_of (replicate n 0) ≡ 0
number-of-zeros zero = refl
number-of-zeros (suc n) = let rest = number-of-zeros n in omega (arith, rest)

-- a load of zeros
pub zeros-found : (space : Space) (address : ℕ) (width : Width) (range : Range) → IsFoundAt space address range → address + bytes_in width ≤ end_of range → ((a : ℕ) → byte_at range a ≡ 0) → Ok 0 ≡ loaded (memory_of space) address width
zeros-found space address width range found ends zeros =
    let there = span-is (memory_of space).bytes address (bytes_in width) (replicate (bytes_in width) 0) (length-replicate (bytes_in width) 0) (λ k low. found.bytes (address + k) (omega arith) (omega arith) ∙ ap Some (zeros (address + k) ∙ sym (get_or-replicate (bytes_in width) k 0 0 low))) in
    sym (ap read_as there ∙ ap Ok (number-of-zeros (bytes_in width)))
