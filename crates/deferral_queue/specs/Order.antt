-- The order in which deferred frees are released, as docs/deferral-queue.md states it.
use Rattle.std.specs.Prelude.{◌≡◌, ◌<◌, ◌≤◌, ◌⊎◌, Bool}
use Rattle.std.specs.declared.cmp.Ordering.{Ordering}
use Rattle.std.specs.Ordering.{nat_cmp, ordering_then, is_lt}
use Rattle.deferral_queue.specs.declared.Due.{Due}

-- by due, then by object, then by address
abbrev pub due_order : Due → Due → Ordering
due_order a b = ordering_then (nat_cmp a.due b.due) (ordering_then (nat_cmp a.object b.object) (nat_cmp a.addr b.addr))

-- whether the one comes before the other
unfoldable pub is_before : Due → Due → Bool
is_before a b = is_lt (due_order a b)

-- the one is due earlier, or both at once and its object is no greater
abbrev pub IsNoLater : Due → Due → Type 0
IsNoLater a b = (a.due < b.due) ⊎ ((a.due ≡ b.due) × (a.object ≤ b.object))
