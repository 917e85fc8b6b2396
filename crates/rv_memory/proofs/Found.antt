-- What is known of a memory from the range that was found at an address.
use Rattle.std.proofs.Common.{◌≡◌, ℕ, suc, sym, ◌<◌, ◌≤◌, ◌^◌, true, false, List, length, get_or, Option, None, Some, is_some, refl, ap, ◌∙◌, subst, arith}
use Rattle.std.proofs.lemmas.Bool.Decides.{nat_tests}
use Rattle.rv_memory.specs.declared.range.Range.{Range}
use Rattle.rv_memory.specs.declared.range.Purpose.{Purpose}
use Rattle.rv_memory.specs.declared.range.Purpose.TheVariants.{Writing, Running}
use Rattle.rv_memory.specs.Memory.{IsBounded}
use Rattle.rv_memory.specs.Ranges.{holds, range_at, byte_at, byte_in, end_of, grants, memory_in, IsApart}
use Rattle.rv_memory.specs.declared.space.Space.{Space}
use Rattle.rv_memory.specs.Spaces.{ranges_of, memory_of, IsFoundAt, IsNowhere}
use Rattle.rv_memory.proofs.Apart.{range_at-hit, range_at-stays, range_at-holds}
use Rattle.rv_memory.proofs.Bytes.{held-from, held-below, byte-small}
use Rattle.rv_memory.proofs.Changed.{granted-in}

held-between : (range : Range) (address a : ℕ) → holds range address ≡ true → address ≤ a → a < end_of range → holds range a ≡ true
held-between range address a held low high = grind (arith, nat_tests)

stays-found : (ranges : List Range) (address a : ℕ) (range : Range) → IsApart ranges → range_at ranges address ≡ Some range → address ≤ a → a < end_of range → range_at ranges a ≡ Some range
stays-found ranges address a range apart found low high = range_at-stays ranges address a range apart found (held-between range address a (range_at-holds ranges address range found) low high)

pub found-at : (space : Space) (address : ℕ) (range : Range) → range_at (ranges_of space) address ≡ Some range → IsFoundAt space address range
unfolding memory_of
found-at space address range found = record {
  begins = held-from range address (range_at-holds (ranges_of space) address range found);
  ends = held-below range address (range_at-holds (ranges_of space) address range found);
  bytes = λ a low high. ap (λ (r : Option Range). byte_in r a) (stays-found (ranges_of space) address a range space.apart found low high);
  grants = λ purpose a low high. granted-in purpose (ranges_of space) a ∙ ap (grants purpose) (stays-found (ranges_of space) address a range space.apart found low high);
}

-- the range at a place that a search gave
pub placed-found : (space : Space) (i address : ℕ) (seen : Range) → i < length space.ranges.items → ((d : Range) → holds (get_or space.ranges.items i d) address ≡ true) → seen ≡ get_or space.ranges.items i seen → Some seen ≡ range_at (ranges_of space) address
placed-found space i address seen low held is = sym (range_at-hit (ranges_of space) (suc i) address seen space.apart (omega arith) (held seen) ∙ ap Some (sym is))

grants-none : (purpose : Purpose) → grants purpose None ≡ false
grants-none purpose = refl

pub nowhere : (space : Space) (address : ℕ) → range_at (ranges_of space) address ≡ None → IsNowhere space address
unfolding memory_of
nowhere space address missed purpose = granted-in purpose (ranges_of space) address ∙ ap (grants purpose) missed ∙ grants-none purpose

small-in : (found : Option Range) (address byte : ℕ) → byte_in found address ≡ Some byte → byte < 256
small-in None address byte is = absurd (cc)
small-in (Some range) address byte is = let e : byte_at range address ≡ byte = cc in subst (λ b. b < 256) e (byte-small range address)

low-in : (found : Option Range) (address : ℕ) → ((range : Range) → found ≡ Some range → holds range address ≡ true) → is_some (byte_in found address) ≡ true → address < 2 ^ 32
low-in None address held is = absurd (cc)
low-in (Some range) address held is = omega (arith, held-below range address (held range refl), range.ends)

mapped-in : (purpose : Purpose) (found : Option Range) (address : ℕ) → grants purpose found ≡ true → is_some (byte_in found address) ≡ true
mapped-in purpose None address is = absurd (cc)
mapped-in purpose (Some range) address is = refl

pub bounded : (ranges : List Range) → IsBounded (memory_in ranges)
bounded ranges = record {
  small = λ address byte is. small-in (range_at ranges address) address byte is;
  low = λ address is. low-in (range_at ranges address) address (λ range found. range_at-holds ranges address range found) is;
  writable_mapped = λ address is. mapped-in Writing (range_at ranges address) address is;
  runs_mapped = λ address is. mapped-in Running (range_at ranges address) address is;
}

pub space-bounded : (space : Space) → IsBounded (memory_of space)
unfolding memory_of
space-bounded space = bounded (ranges_of space)
