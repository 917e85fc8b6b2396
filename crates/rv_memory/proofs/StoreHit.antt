-- A store that lies in one range.
use Rattle.std.proofs.Common.{◌≡◌, ℕ, ◌+◌, ◌-◌, ◌<◌, ◌≤◌, true, List, length, get_or, sym, ◌∙◌, subst, arith}
use Rattle.std.proofs.lemmas.List.{get_or_default}
use Rattle.rv_memory.specs.declared.range.Range.{Range}
use Rattle.rv_memory.specs.declared.range.Purpose.TheVariants.{Writing}
use Rattle.rv_memory.specs.declared.space.Space.{Space}
use Rattle.rv_memory.specs.declared.access.Width.{Width}
use Rattle.rv_memory.specs.Access.{bytes_in, bytes_of}
use Rattle.rv_memory.specs.Memory.{can_write}
use Rattle.rv_memory.specs.Ranges.{holds, end_of, Overwrites}
use Rattle.rv_memory.specs.Spaces.{memory_of}
use Rattle.rv_memory.proofs.Bytes.{length-bytes_of}
use Rattle.rv_memory.proofs.Loads.{found-at-place}
use Rattle.rv_memory.specs.Laws.{from_each}

-- one place of the ranges is one range, however it was read
pub same-range : (ranges : List Range) (i : ℕ) (seen old : Range) → i < length ranges → seen ≡ get_or ranges i seen → old ≡ get_or ranges i old → seen ≡ old
same-range ranges i seen old low seen-is old-is = seen-is ∙ get_or_default ranges i seen old low ∙ sym old-is

pub may-store : (space : Space) (i address len : ℕ) (range : Range) → i < length space.ranges.items → range ≡ get_or space.ranges.items i range → holds range address ≡ true → range.writable ≡ true → address + len ≤ end_of range → can_write (memory_of space) address len ≡ true
may-store space i address len range low is held writable ends =
    let found = found-at-place space i address range low is held in
    from_each (memory_of space).writable address len (λ a above below. found.grants Writing a above (omega arith) ∙ writable)

pub stored-over : (old new : Range) (address at value : ℕ) (width : Width) → old.from + at ≡ address → Overwrites old new (old.from + at) (bytes_in width) (λ a. get_or (bytes_of (bytes_in width) value) (a - (old.from + at)) 0) → Overwrites old new address (length (bytes_of (bytes_in width) value)) (λ a. get_or (bytes_of (bytes_in width) value) (a - address) 0)
stored-over old new address at value width spot over =
    subst (λ n. Overwrites old new address n (λ a. get_or (bytes_of (bytes_in width) value) (a - address) 0)) (sym (length-bytes_of (bytes_in width) value))
    (subst (λ s. Overwrites old new s (bytes_in width) (λ a. get_or (bytes_of (bytes_in width) value) (a - s) 0)) spot over)
