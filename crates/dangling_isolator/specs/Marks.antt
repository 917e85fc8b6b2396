-- The marks of images as they are computed.
use Rattle.std.specs.Prelude.{◌≡◌, ℕ, ◌-◌, ◌==◌, ◌&&◌, Bool, nat_le, nat_lt, List, [], ◌∷◌, filter, map, if◌then◌else◌}
use Rattle.std.specs.List.{flat_map, list_any, AllByRecursion}
use Rattle.std.specs.List.Sorted.{IsStrictlySortedBy}
use Rattle.std.specs.Ordering.{nat_cmp}
use Rattle.exact_heap.specs.declared.row.SlotRow.{SlotRow}
use Rattle.heap_image.specs.declared.image.Broken.{Broken}
use Rattle.heap_image.specs.Items.{Has}
use Rattle.heap_image.specs.Rules.{slot_bytes}
use Rattle.heap_image.specs.Snapshot.{Snapshot}
use Rattle.dangling_isolator.specs.declared.mark.Mark.{Mark}
use Rattle.culprits.specs.declared.found.Dangling.{Dangling}
use Rattle.dangling_isolator.specs.Danglings.{is_released, mark_of, dangling_of}

-- a broken byte's, where it lies in the slot
abbrev pub break_marks : (slot : ℕ) → SlotRow → Broken → List Mark
break_marks slot r b = if nat_le r.addr b.addr && nat_lt (b.addr - r.addr) slot then mark_of r (b.addr - r.addr) b.byte ∷ [] else []

abbrev pub row_marks : (classes : List ℕ) → List Broken → SlotRow → List Mark
row_marks classes broken r = if is_released r then flat_map (break_marks (slot_bytes classes r.addr) r) broken else []

abbrev pub marks_in : Snapshot → List Mark
marks_in s = flat_map (row_marks s.miniheaps s.broken) s.rows

abbrev pub same_object : Mark → Mark → Bool
same_object a b = (a.object == b.object) && ((a.size == b.size) && ((a.front == b.front) && ((a.site == b.site) && ((a.free_site == b.free_site) && (a.freed == b.freed)))))

abbrev pub same_mark : Mark → Mark → Bool
same_mark a b = same_object a b && ((a.offset == b.offset) && (a.byte == b.byte))

abbrev pub is_among : List Mark → Mark → Bool
is_among marks m = list_any (λ x. same_mark x m) marks

-- those that all further images have
abbrev pub kept_in : List Mark → List Snapshot → List Mark
kept_in marks [] = marks
kept_in marks (s ∷ ss) = kept_in (filter (is_among (marks_in s)) marks) ss

abbrev pub common_in : List Snapshot → List Mark
common_in [] = []
common_in (s ∷ ss) = kept_in (marks_in s) ss

abbrev pub objects_of : List (ℕ × Dangling) → List ℕ
objects_of es = map (λ e. e.0) es

-- an entry for each object that has a mark
pub record ByObject (seen : ℕ) (marks : List Mark) (entries : List (ℕ × Dangling)) : Type 0 where
  pub each_is : AllByRecursion (λ e. (m : Mark) × Has marks m × (e ≡ (m.object, dangling_of seen m))) entries
  pub all : (m : Mark) → Has marks m → (d : Dangling) × Has entries (m.object, d)

-- and the entries rise
pub record AreByObject (seen : ℕ) (marks : List Mark) (entries : List (ℕ × Dangling)) : Type 0 where
  pub rising : IsStrictlySortedBy nat_cmp (objects_of entries)
  pub by_object : ByObject seen marks entries
