-- The bytes of an image (docs/images.md, "Bytes").
use Rattle.std.specs.Prelude.{ℕ, List, ◌++◌, length}
use Rattle.std.specs.List.{flat_map}
use Rattle.exact_heap.specs.declared.signal.Place.{Place}
use Rattle.exact_heap.specs.declared.signal.Place.TheVariants.{Call, End}
use Rattle.exact_heap.specs.declared.row.SlotRow.{SlotRow}
use Rattle.heap_image.specs.declared.image.Broken.{Broken}
use Rattle.heap_image.specs.declared.image.Head.{Head}
use Rattle.heap_image.specs.declared.version.Version.{Version}
use Rattle.heap_image.specs.Snapshot.{Snapshot}
use Rattle.heap_image.specs.Fields.{Byte, Word, Long, number_bytes}
use Rattle.heap_image.specs.Versions.{mark_of, front_bytes}

-- the end of a run is 2 ^ 64 - 1
abbrev pub place_number : Place → ℕ
place_number (Call n) = n
place_number End = 18446744073709551615

abbrev pub head_of : Snapshot → Head
head_of s = record { tag = s.tag; seed = s.seed; place = s.place; clock = s.clock }

abbrev pub head_bytes : Head → List ℕ
head_bytes h = number_bytes Long h.tag ++ number_bytes Long h.seed ++ number_bytes Long (place_number h.place) ++ number_bytes Long h.clock

-- a row's slot and object, and then the sites and the clock
abbrev pub object_bytes : Version → SlotRow → List ℕ
object_bytes version r = number_bytes Word r.addr ++ number_bytes Byte r.state ++ number_bytes Long r.object ++ number_bytes Word r.size ++ front_bytes version r.front

abbrev pub row_bytes : Version → SlotRow → List ℕ
row_bytes version r = object_bytes version r ++ number_bytes Word r.site ++ number_bytes Word r.free_site ++ number_bytes Long r.freed

abbrev pub class_bytes : ℕ → List ℕ
class_bytes class = number_bytes Word class

abbrev pub broken_bytes : Broken → List ℕ
broken_bytes b = number_bytes Word b.addr ++ number_bytes Byte b.byte

-- items behind their number
abbrev pub counted : {X : Type 0} → (X → List ℕ) → List X → List ℕ
counted item_bytes xs = number_bytes Word (length xs) ++ flat_map item_bytes xs

-- what follows the patch text
abbrev pub tail_bytes : Version → Snapshot → List ℕ
tail_bytes version s =
    counted class_bytes s.miniheaps ++ counted (row_bytes version) s.rows ++ s.contents ++ counted broken_bytes s.broken

-- the bytes of a version, with the text of the patches
abbrev pub spelling : Version → (text : List ℕ) → Snapshot → List ℕ
spelling version text s = mark_of version ++ head_bytes (head_of s) ++ number_bytes Word (length text) ++ text ++ tail_bytes version s
