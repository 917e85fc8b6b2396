use Rattle.std.proofs.Common.{◌≡◌, ℕ, sym, ap, subst, ◌∙◌, refl, List, Some}
use Rattle.rv_memory.specs.Memory.{Memory}
use Rattle.rv_memory.specs.Spaces.{memory_of}
use Rattle.patch_table.specs.Table.{Table, value_at}
use Rattle.exact_heap.specs.declared.parts.Parts.{Parts}
use Rattle.exact_heap.specs.declared.rows.Row.{Row}
use Rattle.exact_heap.specs.History.{Object, History, slot_of}
use Rattle.exact_heap.specs.Owners.{Owner, last_owner}
use Rattle.exact_heap.specs.Placing.{HeapState}
use Rattle.exact_heap.specs.Freeing.{neighbours_checked, deferral_of, object_freed, owner_freed}
use Rattle.exact_heap.specs.Stands.{PartsStandFor, IsAt, state_at, rules_in}
use Rattle.exact_heap.specs.RowStore.{RowChunk, kept_row}
use Rattle.exact_heap.proofs.Neighbours.{slot_of_same, neighbours_objects, owner_freed_is}
use Rattle.exact_heap.proofs.Freed.{OwnerAt, owner_at, same_owner}
use Rattle.exact_heap.proofs.parts.Parts.free_owned.Goals as goal

-- the free that the history has, where the deferral is this one
freed_as : (p q r : Parts) (h : History) (owner : Owner) (a site deferral number : ℕ) (row : Row) (m n : Memory) → PartsStandFor p h → (w : OwnerAt h a row) → last_owner h.objects a ≡ Some owner
    → deferral ≡ value_at q.rules.patches.defers (row.site, site) → q.rules.patches ≡ p.rules.patches → deferral ≡ number
    → IsAt (object_freed number site owner (record { history = (neighbours_checked a (record { history = h; memory = m })).history; memory = m })) r n
    → IsAt (owner_freed (rules_in p) site owner (record { history = h; memory = m })) r n
freed_as p q r h owner a site deferral number row m n st w is d patches same done =
    let o : w.owner ≡ owner = same_owner h a row w owner is in
    let slot : a ≡ slot_of owner.object = sym w.slot ∙ ap (λ (x : Owner). slot_of x.object) o in
    let place : row.site ≡ owner.object.site = ap (λ (x : Row). x.site) w.row_is ∙ ap (λ (x : Owner). x.object.site) o in
    let def : deferral ≡ deferral_of (rules_in p) owner.object site = d ∙ ap (λ (x : Table). value_at x.defers (row.site, site)) patches ∙ ap (λ (x : ℕ). value_at p.rules.patches.defers (x, site)) place in
    subst (λ (s : HeapState). IsAt s r n) (sym (owner_freed_is (rules_in p) site owner (record { history = h; memory = m }) a number slot (sym same ∙ def))) done

pub returns-then-deferral-eq0-clause-freed : goal.returns-then-deferral-eq0-clause-freed
returns-then-deferral-eq0-clause-freed c h owner st is =
    let p : Parts = c.args.self.now in
    let w : OwnerAt h c.args.slot.now.addr c.args.row.now = owner_at p h c.args.slot.now.addr c.args.row.now st c.requires.row c.requires.owned in
    let s : HeapState = state_at h c.args.space.now in
    let k : History = (neighbours_checked c.args.slot.now.addr s).history in
    let is' : last_owner k.objects c.args.slot.now.addr ≡ Some owner = ap (λ (os : List Object). last_owner os c.args.slot.now.addr) (neighbours_objects c.args.slot.now.addr s) ∙ is in
    freed_as p c.check_neighbours.new.self c.free_now.new.self h owner c.args.slot.now.addr c.args.free_site c.defer_of-deferral.result 0 c.args.row.now (memory_of c.args.space.now) (memory_of c.free_now.new.space) st w is
    c.defer_of-deferral.ensures (ap (λ (x : Parts). x.rules.patches) c.check_neighbours.ensures.rest) c.if-deferral-eq0.true
    (c.free_now.ensures.freed k owner (c.check_neighbours.ensures.stands h st) is')

pub returns-else-deferral-eq0-clause-freed : goal.returns-else-deferral-eq0-clause-freed
returns-else-deferral-eq0-clause-freed c h owner st is =
    let p : Parts = c.args.self.now in
    let w : OwnerAt h c.args.slot.now.addr c.args.row.now = owner_at p h c.args.slot.now.addr c.args.row.now st c.requires.row c.requires.owned in
    let s : HeapState = state_at h c.args.space.now in
    let k : History = (neighbours_checked c.args.slot.now.addr s).history in
    let is' : last_owner k.objects c.args.slot.now.addr ≡ Some owner = ap (λ (os : List Object). last_owner os c.args.slot.now.addr) (neighbours_objects c.args.slot.now.addr s) ∙ is in
    freed_as p c.check_neighbours.new.self c.free_later.new.self h owner c.args.slot.now.addr c.args.free_site c.defer_of-deferral.result c.defer_of-deferral.result c.args.row.now (memory_of c.args.space.now) (memory_of c.args.space.now) st w is
    c.defer_of-deferral.ensures (ap (λ (x : Parts). x.rules.patches) c.check_neighbours.ensures.rest) refl
    (c.free_later.ensures.freed k owner (memory_of c.args.space.now) (c.check_neighbours.ensures.stands h st) is')

-- the row is kept still
still_there : (p q : Parts) (a : ℕ) (row : Row) → q.slots.rows ≡ p.slots.rows → q.slots.grid.classes ≡ p.slots.grid.classes → kept_row p.slots.grid.classes p.slots.rows a ≡ Some row → kept_row q.slots.grid.classes q.slots.rows a ≡ Some row
still_there p q a row rows classes there = ap (λ (x : List (List RowChunk)). kept_row q.slots.grid.classes x a) rows ∙ ap (λ (cs : List ℕ). kept_row cs p.slots.rows a) classes ∙ there

pub free_now-requires-clause-row : goal.free_now-requires-clause-row
free_now-requires-clause-row c =
    still_there c.args.self.now c.check_neighbours.new.self c.args.slot.now.addr c.args.row.now (ap (λ (x : Parts). x.slots.rows) c.check_neighbours.ensures.rest) c.check_neighbours.ensures.places c.requires.row

pub free_later-requires-clause-row : goal.free_later-requires-clause-row
free_later-requires-clause-row c =
    still_there c.args.self.now c.check_neighbours.new.self c.args.slot.now.addr c.args.row.now (ap (λ (x : Parts). x.slots.rows) c.check_neighbours.ensures.rest) c.check_neighbours.ensures.places c.requires.row

pub free_now-requires-clause-known : goal.free_now-requires-clause-known
free_now-requires-clause-known c =
    slot_of_same c.args.self.now.slots.grid c.check_neighbours.new.self.slots.grid c.args.slot.now c.check_neighbours.ensures.places (c.slot_laws.ensures.known c.args.self.now.slots.grid c.args.slot.now.addr c.args.slot.now c.requires.found).0

pub free_later-requires-clause-known : goal.free_later-requires-clause-known
free_later-requires-clause-known c =
    slot_of_same c.args.self.now.slots.grid c.check_neighbours.new.self.slots.grid c.args.slot.now c.check_neighbours.ensures.places (c.slot_laws.ensures.known c.args.self.now.slots.grid c.args.slot.now.addr c.args.slot.now c.requires.found).0
