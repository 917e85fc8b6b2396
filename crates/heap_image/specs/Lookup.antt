-- What of an image is looked up (docs/isolation.md).
use Rattle.std.specs.Prelude.{ℕ, ◌+◌, ◌<◌, ◌≤◌, ◌==◌, ◌&&◌, Bool, nat_lt, nat_le, List, length, slice_index_or}
use Rattle.std.specs.List.{list_any}
use Rattle.exact_heap.specs.declared.row.SlotRow.{SlotRow}
use Rattle.heap_image.specs.declared.image.Broken.{Broken}
use Rattle.heap_image.specs.Snapshot.{Snapshot}

-- an image lists the byte at an address as broken
abbrev pub is_broken : Snapshot → (address : ℕ) → Bool
is_broken s address = list_any (λ b. b.addr == address) s.broken

abbrev pub is_within : (from to : ℕ) → Broken → Bool
is_within from to b = nat_le from b.addr && nat_lt b.addr to

-- broken bytes stand by rising address
abbrev pub AddrsRise : List Broken → Type 0
AddrsRise broken = (d : Broken) (i j : ℕ) → i ≤ j → j < length broken → (slice_index_or broken i d).addr ≤ (slice_index_or broken j d).addr

-- where the object of a row begins
abbrev pub address_of : SlotRow → ℕ
address_of r = r.addr + r.front
