-- A patch table as what covers accesses on the infinite heap: docs/infinite-run.md, "Covered".
use Rattle.infinite_heap.specs.Covered.{Cures}
use Rattle.patch_table.specs.Table.{Table, value_at}

-- the pad and the front of a site, and the deferral of an allocation and a free site; what is absent is 0
abbrev pub cures_of : Table → Cures
cures_of table = record { pad = λ site. value_at table.pads site; front = λ site. value_at table.fronts site; defer = λ alloc free. value_at table.defers (alloc, free) }
