-- How an object is freed (docs/heap.md, "Free").
use Rattle.std.specs.Prelude.{ℕ, ◌+◌, ◌-◌, ◌^◌, ◌==◌, if◌then◌else◌, Option, Some, None}
use Rattle.diefast_canary.specs.Canary.{canary_byte}
use Rattle.rv_memory.specs.Memory.{filled}
use Rattle.patch_table.specs.Table.{value_at}
use Rattle.miniheap.specs.Layout.{minis, mini_at}
use Rattle.miniheap.specs.Slots.{Slots, is_free_state, nth_slot, slot_at}
use Rattle.miniheap.specs.declared.place.Slot.{Slot}
use Rattle.exact_heap.specs.History.{ObjectState, Deferred, Released, Object, slot_of, slots_of, canary_in, clock_of}
use Rattle.exact_heap.specs.Owners.{Owner, changed_at}
use Rattle.exact_heap.specs.Placing.{HeapState, Rules, break_in, signalled}

-- ---- the neighbours of a slot in its miniheap

abbrev pub slot_before : Slots → Option Slot → Option Slot
slot_before s None = None
slot_before s (Some t) = if t.nth == 0 then None else Some (nth_slot s t.mini (t.nth - 1))

abbrev pub slot_after : Slots → Option Slot → Option Slot
slot_after s None = None
slot_after s (Some t) = if t.nth + 1 == (mini_at (minis s.classes) t.mini).slots then None else Some (nth_slot s t.mini (t.nth + 1))

abbrev pub signalled_if : (slot : ℕ) → HeapState → (broken : Option ℕ) → HeapState
signalled_if slot s None = s
signalled_if slot s (Some broken) = signalled slot broken s

-- a neighbour that is free and broken is a signal
abbrev pub neighbour_checked : HeapState → Option Slot → HeapState
neighbour_checked s None = s
neighbour_checked s (Some t) = if is_free_state t.state then signalled_if t.addr s (break_in s t.addr t.class) else s

abbrev pub before_checked : (slot : ℕ) → HeapState → HeapState
before_checked slot s = neighbour_checked s (slot_before (slots_of s.history) (slot_at (slots_of s.history) slot))

abbrev pub after_checked : (slot : ℕ) → HeapState → HeapState
after_checked slot s = neighbour_checked s (slot_after (slots_of s.history) (slot_at (slots_of s.history) slot))

-- first the one before, then the one after
unfoldable pub neighbours_checked : (slot : ℕ) → HeapState → HeapState
neighbours_checked slot s = after_checked slot (before_checked slot s)

-- ---- the object itself

-- a free that is put off has its due, and one that isn't releases the object at once
abbrev pub freed_state : (clock deferral : ℕ) → ObjectState
freed_state clock deferral = if deferral == 0 then Released clock else Deferred (clock + deferral)

abbrev pub freed_object : (clock deferral free_site : ℕ) → Object → Object
freed_object clock deferral free_site o = record o { state = freed_state clock deferral; free_site = free_site; freed = clock }

abbrev pub deferral_of : Rules → Object → (free_site : ℕ) → ℕ
deferral_of rules o free_site = value_at rules.patches.defers (o.site, free_site)

abbrev pub object_freed : (deferral free_site : ℕ) → Owner → HeapState → HeapState
object_freed deferral free_site owner s = record {
  history = record s.history { objects = changed_at (freed_object (clock_of s.history) deferral free_site) owner.number s.history.objects };
  memory = if deferral == 0 then filled s.memory (slot_of owner.object) (2 ^ owner.object.class) (canary_byte (canary_in s.history)) else s.memory;
}

-- an owned object is freed by a site
unfoldable pub owner_freed : Rules → (free_site : ℕ) → Owner → HeapState → HeapState
owner_freed rules free_site owner s = object_freed (deferral_of rules owner.object free_site) free_site owner (neighbours_checked (slot_of owner.object) s)
